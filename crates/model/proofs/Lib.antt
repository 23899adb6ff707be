-- The laws of the definitions.
--     Sizes       a step and quick rounds have a number for each pair
--     Values      the values marked ● in document 01
--     Refusals    of the first refusal
--     Root        the root is the largest whole number whose square is at most n
--     Decimal     the decimal text of a number is its digits, without a leading zero
--     Degree      in how many pairs a pixel lies, and how to count
--     Range       how large readings and the ends of the box are
--     Shares      how large the share of a fall is, in either kind of round
--     Weights     each pair's weight is its own or the terms', and within the limit; their sum without a buffer
--     Limits      what the test of a size says
--     Answers     what check, price and run give and leave, by their verdict
--     Accepted    check, price, run and write are accepted exactly when terms, lengths and contents are allowed
pub mod Sizes
pub mod Values
pub mod Refusals
pub mod Root
pub mod Decimal
pub mod Degree
pub mod Range
pub mod Shares
pub mod Weights
pub mod Limits
pub mod Answers
pub mod Accepted
