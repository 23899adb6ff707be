-- What the image of a flow is, in buffers.
--     Columns     a row of it, from the parts of the flow that hold the numbers of its pairs
--     Pull        the pull on a pixel, from its up to four pairs
--     Image       the image of a flow
--     OneRow      one column as one row
--     Limits      limits within which no machine operation overflows
pub mod Columns
pub mod Pull
pub mod Image
pub mod OneRow
pub mod Limits
