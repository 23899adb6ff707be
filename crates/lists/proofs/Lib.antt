-- The laws of lists, of their parts, and of the loops that fill or search them.
--     Tables      `table`, and a list read at an index
--     Chains      `chain`: its length, its members and what is behind them; one list for each element of another
--     Parts       a part of a list, as a slice's part is lent: what it reads, and what it is as a table
--     Placed      values laid into a list at an offset, and more laid behind them
--     Fill        a list that is filled from the front, and the invariant of a loop that does so
--     First       `first_where`: the first index at which a test holds
--     Search      the invariants of a loop that looks for that index, and of one that tells whether there is one
pub mod Tables
pub mod Chains
pub mod Parts
pub mod Placed
pub mod Fill
pub mod First
pub mod Search
