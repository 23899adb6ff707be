-- What the contracts cite.
--     Window   the bytes at hand in a buffer
--     Jobs     how far a season has been read, and what its report still depends on
pub mod Window
pub mod Jobs
