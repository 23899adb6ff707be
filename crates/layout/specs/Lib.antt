-- The layout of a raster's pairs.
--     Runs        the runs of pairs, in flow order
--     Limits      limits within which no machine operation overflows
pub mod Runs
pub mod Limits
