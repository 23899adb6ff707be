-- The laws of the text.
--     Lengths   how many digits a number has, and how long a refusal's line is
--     Digits    the digits that `io` gives are the number's
--     Rows      the line of a row that is lent as a part of the image
--     Answers   the text of an accepted answer
pub mod Lengths
pub mod Digits
pub mod Rows
pub mod Answers
