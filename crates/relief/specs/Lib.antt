-- What the contracts cite.
--     Input   how many bytes were read
pub mod Input
