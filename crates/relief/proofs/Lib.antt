-- The laws of the program.
--     Limits   the text by the length of the input
pub mod Limits
