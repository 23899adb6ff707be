-- What the passes compute.
--     Pairs       what a pass makes of one pair of a run or of a raster
--     Limits      limits within which no machine operation overflows
pub mod Pairs
pub mod Limits
