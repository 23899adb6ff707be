-- Bytes written into a buffer at an offset.
use Rattle.std.specs.Prelude.{◌≡◌, List, ℕ, ◌+◌, length}
use Rattle.lists.specs.Placed.{placed}

-- what writing bytes at offset o gives and leaves: the offset behind them, and the buffer
pub record Put (o : ℕ) (new buffer : List ℕ) (next : ℕ) (left : List ℕ) : Type 0 where
  pub behind : next ≡ o + length new
  pub filled : left ≡ placed o new buffer
