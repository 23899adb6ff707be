-- The laws of a job in tables.
--     Shown     what is shown of an answer does not depend on what a lent buffer held before
--     Tapes     a tape that has been read into tables, and what is shown of its answer
--     Texts     the text of its answer
--     Slacks    the slack of a job in tables, by its pixels
--     Accepts   a job whose tape was read whole is accepted
pub mod Shown
pub mod Tapes
pub mod Texts
pub mod Slacks
pub mod Accepts
