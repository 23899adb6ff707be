-- What the contracts cite beside the model's definitions.
--     Totals   the totals of a season with one job more
--     Report   the report of a season of which some jobs have been counted
--     Jobs     the job at the front of some bytes, scanned, read and answered
--     AtHand   what the bytes at hand come to, whatever follows them
pub mod Totals
pub mod Report
pub mod Jobs
pub mod AtHand
