-- What the contracts of the reader cite beside the model's definitions.
--     Transition  the transition of the parser on one record
--     Scan        a scan of a tape, where it stands and where it stops
--     Places      where the numbers of a whole tape stand
pub mod Transition
pub mod Scan
pub mod Places
