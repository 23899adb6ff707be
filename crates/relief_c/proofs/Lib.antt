-- What the proofs of several functions use.
--     PlainNumbers        the plain numbers of an answer
mod PlainNumbers
