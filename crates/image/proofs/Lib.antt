-- Laws of the image of a flow.
--     Columns     a row of it, column by column, and clamped values
--     Pull        the pull that a row gathers is the model's
--     RowParts    the parts of the flow that a row of the image takes
--     OneRow      one column as one row
--     Model       the image is the model's
pub mod Columns
pub mod Pull
pub mod RowParts
pub mod OneRow
pub mod Model
