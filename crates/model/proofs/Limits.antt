-- What the test of a size says. Assumes nothing.
use mathlib.Core.Path.{◌≡◌, refl, sym}
use mathlib.Core.Bool.{Bool, true, false, ◌&&◌, true≢false}
use Prim.Native.Nat.{ℕ, ◌*◌, ◌≤◌}
use borrow.Author.Tests.{leb-true}
use lib.Dec.{leb}
use Rattle.model.specs.Grid.{limit, size_allowed}

-- both hold where their conjunction does
pub both_true : (a b : Bool) → (a && b) ≡ true → (a ≡ true) × (b ≡ true)
both_true true b h = (refl, h)
both_true false b h = absurd (true≢false (sym h))

pub record SizeLimits (w h : ℕ) : Type 0 where
  pub width_least : 1 ≤ w
  pub width_most : w ≤ limit.side
  pub height_least : 1 ≤ h
  pub height_most : h ≤ limit.side
  pub pixels_most : w * h ≤ limit.pixels

pub size-limits : (w h : ℕ) → size_allowed w h ≡ true → SizeLimits w h
unfolding size_allowed
size-limits w h e =
    let width = leb 1 w && leb w 4096 in
    let height = leb 1 h && leb h 4096 in
    let (sides, area) = both_true (width && height) (leb (w * h) 1048576) e in
    let (broad, tall) = both_true width height sides in
    record {
      width_least = leb-true 1 w (both_true (leb 1 w) (leb w 4096) broad).0;
      width_most = leb-true w 4096 (both_true (leb 1 w) (leb w 4096) broad).1;
      height_least = leb-true 1 h (both_true (leb 1 h) (leb h 4096) tall).0;
      height_most = leb-true h 4096 (both_true (leb 1 h) (leb h 4096) tall).1;
      pixels_most = leb-true (w * h) 1048576 area;
    }
