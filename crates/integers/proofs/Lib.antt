-- The laws of whole numbers: how they are proved (Parts), then those of each operation, of finite sums, and of signed
-- machine arithmetic (Machine).
pub mod Parts
pub mod Ring
pub mod Order
pub mod Absolute
pub mod Between
pub mod Clamp
pub mod Quotient
pub mod Rounded
pub mod Total
pub mod Cauchy
pub mod Machine
