-- Laws of the list of pairs.
--     Pairs       how many there are, which two pixels each has, and that they lie inside the raster
--     Degree      a pixel lies in at most 4 of them
--     Runs        the runs, one after the other, are the raster's pairs
pub mod Pairs
pub mod Degree
pub mod Runs
