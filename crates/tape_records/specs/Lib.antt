-- What the contracts of a record cite beside the model's definitions.
--     State       what has been read so far, as the code counts it
--     Record      one record at an offset: its numbers, or a refusal with its offset
--     Sections    the numbers of records that a tape repeats
pub mod State
pub mod Record
pub mod Sections
