-- The bytes at hand in a buffer.
use Rattle.std.specs.Prelude.{◌≡◌, false, List, ◌++◌, ℕ, ◌-◌, ◌≤◌, ◌<◌, Result, Ok, Err, length, take, drop}
use Rattle.season.specs.declared.window.Window.{Window}
use Rattle.season.specs.declared.window.ReadFailed.{ReadFailed}

-- the window after a read, also one that failed
abbrev pub window_of : Result Window ReadFailed → Window
window_of (Ok w) = w
window_of (Err e) = e.window

abbrev pub at_hand : List ℕ → Window → List ℕ
at_hand buffer w = take (w.end - w.start) (drop w.start buffer)

-- what came behind the bytes at hand
abbrev pub new_bytes : Window → List ℕ → Window → List ℕ
new_bytes w after r = drop (w.end - w.start) (at_hand after r)

-- a window lies in a buffer
pub record WindowIn (buffer : List ℕ) (w : Window) : Type 0 where
  pub ordered : w.start ≤ w.end
  pub inside : w.end ≤ length buffer

-- .. which is longer than the most bytes at hand that are too few
pub record CanGrow (buffer : List ℕ) (w : Window) : Type 0 where
  pub within : WindowIn buffer w
  pub few : w.end - w.start ≤ 65536
  pub long : 65536 < length buffer

-- the same bytes with room behind them
pub record WithRoom (before : List ℕ) (w : Window) (after : List ℕ) (r : Window) : Type 0 where
  pub within : WindowIn after r
  pub room : r.end < length after
  pub same : at_hand after r ≡ at_hand before w

-- the same bytes, and more behind them; none if the input has ended
pub record Grown (before : List ℕ) (w : Window) (after : List ℕ) (r : Window) : Type 0 where
  pub more : List ℕ
  pub within : WindowIn after r
  pub grown : at_hand after r ≡ at_hand before w ++ more
  pub some : r.ended ≡ false → 1 ≤ length more
