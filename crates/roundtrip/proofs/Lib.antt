-- The laws of the tape's definitions.
--     Digits      numbers in bytes, there and back
--     EachKind    the table of kinds, row by row
--     Turns       one turn of reading, and that its fuel decides nothing
--     Entries     records and their bytes, there and back
--     Offsets     where the records of a job stand on its tape
--     Accepted    an accepted tape is the bytes of the job that was read
--     Judged      what reading gives once the records have been read
--     WriteRows   the rows of write
--     Walk        reading goes on over a record whose bytes stand at its offset, and over a section of records
--     RoundTrip   writing and reading undo each other
pub mod Digits
pub mod EachKind
pub mod Turns
pub mod Entries
pub mod Offsets
pub mod Accepted
pub mod Judged
pub mod WriteRows
pub mod Walk
pub mod RoundTrip
