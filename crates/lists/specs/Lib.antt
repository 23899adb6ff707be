-- Buffers as lists.
--     Lists       reading, tabulating, overwriting the front, the first index
--     Placed      values laid at an offset
pub mod Lists
pub mod Placed
