-- Laws of the calls.
--     Bounds      price, floor and slack of an allowed job fit 64 bits
--     Jobs        an allowed job is within the limits of the passes
--     Objectives  price and floor from the passes' sums, and that they fit 64 bits
--     Sizes       the slack that check and run give, by the job's pixels
pub mod Bounds
pub mod Jobs
pub mod Objectives
pub mod Sizes
