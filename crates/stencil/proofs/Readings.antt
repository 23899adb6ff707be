-- A reading is within the limits of the passes. Assumes nothing.
use Prim.Native.Nat.{ℕ, ◌^◌, ◌≤◌, ◌<◌}
use native.Mathlib.Nat.{le_trans}
use lib.IntN.{nat_abs}
use Rattle.model.specs.Grid.{reading_of}
use Rattle.model.proofs.Range.{widest_fits, reading-size}

pub reading_most : {s : ℕ} → s < 256 → nat_abs (reading_of s) ≤ 2 ^ 16
reading_most {s} h = le_trans (reading-size s h) widest_fits
