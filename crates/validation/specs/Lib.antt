-- What the judges' contracts cite beside the model's definitions.
--     Lengths     the rows of lent lengths
--     Outside     the row of 9 for any range
pub mod Lengths
pub mod Outside
