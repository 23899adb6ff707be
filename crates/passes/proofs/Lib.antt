-- Laws that the passes' proofs share.
--     Moving      the answer of a search for a moving pair
--     Elements    the numbers of buffers within limits
--     Totals      running sums, and that they fit 64 bits
--     Runs        a run of a raster in its buffers
--     Searches    a search for a moving pair by parts
--     Model       what the passes compute is what the model defines
pub mod Moving
pub mod Elements
pub mod Totals
pub mod Runs
pub mod Searches
pub mod Model
