-- What one pixel or one pair computes to.
--     Pair        the step of one pair
--     Ends        the two ends of a range: those of the box, and values within it
--     Limits      limits within which no machine operation overflows
pub mod Pair
pub mod Ends
pub mod Limits
