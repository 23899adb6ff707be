-- The vocabulary of whole numbers that every definition above is written in.
pub mod Whole
pub mod Sum
