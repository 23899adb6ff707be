-- A pixel of the grid lies in at most 4 pairs. Assumes nothing.
use mathlib.Core.Path.{sym, ap, ◌∙◌, subst₂}
use mathlib.Core.Bool.{Bool}
use mathlib.Core.List.{List}
use Prim.Native.Nat.{ℕ, zero, ◌+◌, ◌-◌, ◌*◌, ◌/◌, ◌≤◌, ◌<◌}
use native.Mathlib.Nat.{le_trans, le-div_iff_mul-le, div-mul-le_self}
use native.Mathlib.Omega.{arith}
use lib.Dec.{eqb}
use lib.IntN.{ℤ}
use lib.ListN.{length, get_or}
use Rattle.model.specs.Problem.{Pair}
use Rattle.model.specs.declared.Terms.{Terms}
use Rattle.model.specs.Grid.{grid, grid_pairs}
use Rattle.model.proofs.Degree.{count_where, count-split, count-rising, degree}
use Rattle.layout.proofs.Pairs.{grid-count, vertical-pair, horizontal_at, broad}

-- x / k does not fall as x grows
quotients_rise : (k x y : ℕ) → zero < k → x ≤ y → x / k ≤ y / k
quotients_rise k x y positive l = (le-div_iff_mul-le positive).1 (le_trans (div-mul-le_self x k) l)

-- One end of the grid's pairs, the first or the second pixel: it rises along the vertical pairs and along the horizontal
-- ones, so a pixel is that end of at most two
module _ (w h : ℕ) (d : Pair) (end : Pair → ℕ)
    (down : (a b : ℕ) → a < b → end (record { first = a; second = a + w }) < end (record { first = b; second = b + w }))
    (across : (a b : ℕ) → a < b → end (record { first = a; second = a + 1 }) < end (record { first = b; second = b + 1 }))
  where
    ends : ℕ → ℕ
    ends j = end (get_or (grid_pairs w h) j d)

    vertical-rises : (a b : ℕ) → a < b → b < w * (h - 1) → ends a < ends b
    unfolding ends
    vertical-rises a b l k =
        subst₂ (λ (x y : ℕ). x < y) (sym (ap end (vertical-pair w h d a (omega arith)))) (sym (ap end (vertical-pair w h d b k)))
        (down a b l)

    horizontal_rises : (a b : ℕ) → a < b → b < h * (w - 1) → ends (w * (h - 1) + a) < ends (w * (h - 1) + b)
    unfolding ends
    horizontal_rises a b l k =
        let q : a / (w - 1) ≤ b / (w - 1) = quotients_rise (w - 1) a b (broad w h d b k) (omega arith) in
        subst₂ (λ (x y : ℕ). x < y) (sym (ap end (horizontal_at w h d a (omega arith)))) (sym (ap end (horizontal_at w h d b k)))
        (across (a + a / (w - 1)) (b + b / (w - 1)) (omega arith))

    pub end_at_most_twice : (i : ℕ) → count_where (length (grid_pairs w h)) (λ j. eqb (end (get_or (grid_pairs w h) j d)) i) ≤ 2
    unfolding ends
    end_at_most_twice i =
        let test : ℕ → Bool = λ j. eqb (end (get_or (grid_pairs w h) j d)) i in
        let v : count_where (w * (h - 1)) test ≤ 1 = count-rising (w * (h - 1)) ends i vertical-rises in
        let z : count_where (h * (w - 1)) (λ k. test (w * (h - 1) + k)) ≤ 1 =
        count-rising (h * (w - 1)) (λ k. ends (w * (h - 1) + k)) i horizontal_rises
        in
        let s = ap (λ (n : ℕ). count_where n test) (grid-count w h) ∙ count-split (w * (h - 1)) (h * (w - 1)) test in
        omega arith

-- Each pixel lies in at most 4 pairs
pub degree-at-most-4 : (t : Terms) (samples : List ℕ) (weights : List ℤ) (i : ℕ) → degree (grid t samples weights) i ≤ 4
unfolding degree
degree-at-most-4 t samples weights i =
    let d : Pair = record { first = 0; second = 0 } in
    let a = end_at_most_twice t.width t.height d (λ p. p.first) (λ a b l. l) (λ a b l. l) i in
    let b =
    end_at_most_twice t.width t.height d (λ p. p.second) (λ a b l. omega arith) (λ a b l. omega arith) i
    in
    omega arith
