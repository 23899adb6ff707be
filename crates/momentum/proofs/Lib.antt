-- Laws of the momentum.
--     Reciprocals multiplying by a reciprocal is dividing
--     Bounds      the bounds of T and R
--     Squares     of T, and what has a small square
--     Ahead       the share of a change, by its size and its sign
pub mod Reciprocals
pub mod Bounds
pub mod Squares
pub mod Ahead
