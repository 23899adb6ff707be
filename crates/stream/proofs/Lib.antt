-- The laws of a season's jobs.
--     Sums      the totals with a job more are those of the longer season
--     First     the first job, by the bytes at hand
--     Reports   what the first job does to the report
--     AtHand    what the bytes at hand come to
--     Jobs      the job at the front of some bytes, from what a scan says where it stops
pub mod Sums
pub mod First
pub mod Reports
pub mod AtHand
pub mod Jobs
