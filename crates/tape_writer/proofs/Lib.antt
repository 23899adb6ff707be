-- The laws of write.
--     Puts        a section of records, and the parts of a tape, written one behind the other
--     Promised    what write promises, from what it gave and left
pub mod Puts
pub mod Promised
