-- Laws of validation.
--     Size         what an allowed size says
--     Accepted     terms that pass have an allowed size
--     UnderTerms   the rows of the terms, then those below them; the rows of a price, for the ends of the box
pub mod Size
pub mod Accepted
pub mod UnderTerms
