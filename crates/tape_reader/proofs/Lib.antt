-- The laws of the reader.
--     Transitions the transition of the code on a record is the turn of reading that the definition makes
--     Prefix      a record is read alike on every tape that has its bytes
--     Reached     what a scan keeps from record to record, and what it says where it stops
--     Numbers     an accepted tape's numbers, where the code reads them
--     Promised    what read promises, from what it gave and left
--     Passed      what the counts of a tape that has passed say
pub mod Transitions
pub mod Prefix
pub mod Reached
pub mod Numbers
pub mod Promised
pub mod Passed
