-- Values laid into a buffer at an offset.
use Rattle.std.specs.Prelude.{List, ◌++◌, ℕ, ◌+◌, length, take, drop}

-- a buffer with new values from offset o on, and its others left
abbrev pub placed : {A : Type 0} → ℕ → List A → List A → List A
placed o new buffer = take o buffer ++ new ++ drop (o + length new) buffer
