-- Document 01 as definitions, in its order. A comment gives the document's word and, where it differs, the field's
-- standard term, and the paragraph of docs/SPECIFICATION.md that says the same in words. Numbers are ℕ or ℤ without
-- limits; machine widths enter with the calls' types.
--     Problem     readings, box and weighted pairs of any shape: fall, price, flow, image, floor, slack, divisions
--     Grid        document 01's raster as such a problem
--     Root        the whole square root
--     Rounds      the step, quick rounds, steady rounds
--     Rows        the numbers of the table of refusals
--     Verdict     refusals: the first row of a table that applies
--     Calls       check, price and run: their refusals, answers and buffers
--     Accepted    what the accepted calls have been lent: terms, lengths and contents
--     Demand      demand 3 and request F-5: what is certified of an answer
--     Tape        the job tape: records, reading, writing
--     RoundTrip   written reads back, and read writes back
--     Answers     document 01's numbers and values for each case of the calls' enums
--     Plain       the same as the plain numbers that the C functions take and hand out
--     Text        numbers and words as ASCII
--     Program     the cleaning program's output
--     Season      the season report's output
--     Values      the values that document 01 marks to be proved
pub mod Problem
pub mod Grid
pub mod Root
pub mod Rounds
pub mod Rows
pub mod Verdict
pub mod Calls
pub mod Accepted
pub mod Demand
pub mod Tape
pub mod RoundTrip
pub mod Answers
pub mod Plain
pub mod Text
pub mod Program
pub mod Season
pub mod Values
