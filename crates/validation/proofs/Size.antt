-- What an allowed size says: the range of each side, and the bounds on its pixels and pairs. Assumes nothing.
use mathlib.Core.Path.{◌≡◌}
use mathlib.Core.Bool.{true}
use Prim.Native.Nat.{ℕ, ◌*◌, ◌-◌, ◌≤◌}
use native.Mathlib.Nat.{mul-le-mul_left}
use native.Mathlib.Omega.{arith}
use lib.ListN.{length}
use Rattle.model.specs.Grid.{size_allowed, grid_pairs}
use Rattle.layout.proofs.Pairs.{grid-count}
use Rattle.model.proofs.Limits.{size-limits}

pub record Allowed (w h : ℕ) : Type 0 where
  pub broad : 1 ≤ w
  pub narrow : w ≤ 4096
  pub tall : 1 ≤ h
  pub low : h ≤ 4096
  pub pixels : w * h ≤ 1048576
  pub vertical : w * (h - 1) ≤ 1048576
  pub horizontal : h * (w - 1) ≤ 1048576
  pub pairs : length (grid_pairs w h) ≤ 2097152

pub allowed-size : {w h : ℕ} → size_allowed w h ≡ true → Allowed w h
allowed-size {w} {h} e =
    let z = size-limits w h e in
    let v : w * (h - 1) ≤ w * h = mul-le-mul_left w (omega arith) in
    let u : h * (w - 1) ≤ h * w = mul-le-mul_left h (omega arith) in
    record {
      broad = z.width_least;
      narrow = z.width_most;
      tall = z.height_least;
      low = z.height_most;
      pixels = z.pixels_most;
      vertical = omega (arith, z.pixels_most);
      horizontal = omega (arith, z.pixels_most);
      pairs = omega (arith, z.pixels_most, grid-count w h);
    }
