-- The figures, from the sums that the passes give; and that they fit 64 bits. Assumes nothing.
use mathlib.Core.Path.{◌≡◌, sym, ap, ap₂, ◌∙◌, subst}
use mathlib.Core.List.{List}
use mathlib.Core.Bool.{Bool, cond}
use mathlib.Core.Logic.{⊎_elim}
use Prim.Native.Nat.{ℕ, ◌+◌, ◌*◌, ◌≤◌, ◌<◌}
use native.Mathlib.Omega.{arith}
use borrow.Author.Tests.{eq-eqb, ne_eqb}
use lib.ListN.{length, get_or, get_or-eq_default}
use lib.IntN.{ℤ, pos, nat_abs, ◌+ℤ◌, ◌-ℤ◌, ◌*ℤ◌}
use Rattle.integers.specs.Whole.{abs, square}
use Rattle.integers.specs.Sum.{total}
use Rattle.integers.proofs.Parts.{parts, whole, by-≡}
use Rattle.integers.proofs.Ring.{*ℤ-assoc, *ℤ-pos1, pos1-*ℤ}
use Rattle.integers.proofs.Total.{total-*ℤ, total-cong}
use Rattle.integers.proofs.Absolute.{nat_abs-difference, nat_abs-product}
use Rattle.model.specs.declared.Terms.{Terms}
use Rattle.lists.specs.Lists.{at}
use Rattle.model.specs.Problem.{Problem, pair_count, fall, misfit, price, Feasible, image, floor, slack, InBox}
use Rattle.model.specs.Grid.{weight_of, reading_of, grid}
use Rattle.model.specs.Accepted.{WeightsAllowed}
use Rattle.lists.proofs.Tables.{get_or-inside}
use Rattle.model.proofs.Weights.{weight_is}
use Rattle.layout.specs.Runs.{shape_of}
use Rattle.passes.specs.Pairs.{weight_at, variation_at, first_value, second_value}
use Rattle.passes.proofs.Model.{misfit-is, variation_is}
use Rattle.calls.specs.Ready.{scale_of}
use Rattle.model.specs.Calls.{Outcome, figures, figures_of, pixels_of, pairs_of, image_of}
use Rattle.calls.proofs.Bounds as Bounds
use Rattle.calls.proofs.Bounds.{largest, price-bound, floor-bound}

-- a sum over as many terms
pub sized : (g : ℕ → ℤ) {x : ℤ} {n m : ℕ} → x ≡ total n g → n ≡ m → x ≡ total m g
sized g e h = e ∙ ap (λ (k : ℕ). total k g) h

module _ (t : Terms) (samples : List ℕ) (weights : List ℤ) where
  -- the variation of an image (its weighted total variation), in which each pair counts once where there are no weights
  abbrev pub variation : (ℕ → ℤ) → ℤ
  variation x = total (pairs_of t) (λ j. weight_at (pos 1) weights j *ℤ abs (fall (grid t samples weights) x j))

  -- the passes' sums over an image, as the model's
  module _ (values : List ℤ) where
    pub misfit-at : length values ≡ pixels_of t → {a : ℕ} → pos a ≡ total (length values) (λ i. square (at values i -ℤ reading_of (get_or samples i 0))) →
        pos a ≡ misfit (grid t samples weights) (at values)
    unfolding misfit
    misfit-at n e = sized _ e n

    pub variation_at_lem : {v : ℕ} → pos v ≡ total (pairs_of t) (variation_at (weight_at (pos 1) weights) (first_value (shape_of t) values) (second_value (shape_of t) values)) →
        pos v ≡ variation (at values)
    unfolding fall
    variation_at_lem e = e

  -- price: the misfit and twice the variation, by its scale
  module _ (own : WeightsAllowed t weights) (x : ℕ → ℤ) {a v : ℕ} (m : pos a ≡ misfit (grid t samples weights) x) (n : pos v ≡ variation x) where
    -- the scale times the weight that stands in the sum is the pair's
    scaled : (j : ℕ) → j < pairs_of t → pos (scale_of t.weight weights) *ℤ weight_at (pos 1) weights j ≡ pos (weight_of t weights j)
    unfolding weight_of
    scaled j l = ⊎_elim none lent own.count
      where
        default : {A : Type 0} (d : A) (k : List A) → length k ≡ 0 → get_or k j d ≡ d
        default d k z = get_or-eq_default k d {n = j} (omega arith)

        none : length weights ≡ 0 → pos (scale_of t.weight weights) *ℤ weight_at (pos 1) weights j ≡ pos (nat_abs (get_or weights j (pos t.weight)))
        none z =
            ap₂ (λ (b : Bool) (w : ℤ). pos (cond b t.weight 1) *ℤ w) (eq-eqb (length weights) 0 z) (default (pos 1) weights z)
            ∙ *ℤ-pos1 (pos t.weight)
            ∙ sym (ap (λ (w : ℤ). pos (nat_abs w)) (default (pos t.weight) weights z))

        lent : length weights ≡ pairs_of t → pos (scale_of t.weight weights) *ℤ weight_at (pos 1) weights j ≡ pos (nat_abs (get_or weights j (pos t.weight)))
        lent e =
            ap (λ (b : Bool). pos (cond b t.weight 1) *ℤ weight_at (pos 1) weights j) (ne_eqb (length weights) 0 (λ z. absurd (omega arith)))
            ∙ pos1-*ℤ (weight_at (pos 1) weights j)
            ∙ get_or-inside weights j (pos 1) (pos t.weight) (omega arith)
            ∙ sym (weight_is t weights own j)

    pub price-is : pos (a + 2 * (scale_of t.weight weights * v)) ≡ price (grid t samples weights) x
    unfolding price
    price-is =
        let k : ℤ = pos (scale_of t.weight weights) in
        let size : ℕ → ℤ = λ j. abs (fall (grid t samples weights) x j) in
        ap₂ (λ (b c : ℤ). b +ℤ pos 2 *ℤ c) m
        (ap (λ (b : ℤ). k *ℤ b) n
        ∙ sym (total-*ℤ (pairs_of t) k (λ j. weight_at (pos 1) weights j *ℤ size j))
        ∙ total-cong (pairs_of t) (λ j l. sym (*ℤ-assoc k (weight_at (pos 1) weights j) (size j)) ∙ ap (λ (z : ℤ). z *ℤ size j) (scaled j l)))

    pub price-fits : Bounds.Allowed t samples weights → InBox (grid t samples weights) x → a + 2 * (scale_of t.weight weights * v) ≤ largest
    price-fits ok inside = subst (λ (k : ℕ). k ≤ largest) (sym (ap nat_abs price-is)) (price-bound t samples weights ok x inside)

  -- floor: the misfit and twice the sum of flow times fall
  module _ (f : ℕ → ℤ) {a : ℕ} {s : ℤ} (m : pos a ≡ misfit (grid t samples weights) (image (grid t samples weights) f))
      (n : s ≡ total (pair_count (grid t samples weights)) (λ j. f j *ℤ fall (grid t samples weights) (image (grid t samples weights) f) j)) where
    pub floor-is : pos a +ℤ pos 2 *ℤ s ≡ floor (grid t samples weights) f
    unfolding floor
    floor-is = ap₂ (λ (b c : ℤ). b +ℤ pos 2 *ℤ c) m n

    pub floor-fits : Bounds.Allowed t samples weights → Feasible (grid t samples weights) f → a ≤ largest → a + 2 * nat_abs s ≤ 3 * largest
    floor-fits ok within h =
        omega (arith, summand (pos a) (pos 2 *ℤ s), nat_abs-product (pos 2) s, subst (λ (z : ℤ). nat_abs z ≤ largest) (sym floor-is) (floor-bound t samples weights ok f within))
      where
        minus : (b c : ℤ) → c ≡ (b +ℤ c) -ℤ b
        minus b c = by-≡ (search parts depth 12) (omega whole)

        summand : (b c : ℤ) → nat_abs c ≤ nat_abs (b +ℤ c) + nat_abs b
        summand b c = subst (λ (z : ℤ). nat_abs z ≤ nat_abs (b +ℤ c) + nat_abs b) (sym (minus b c)) (nat_abs-difference (b +ℤ c) b)

-- data term and price of a flow's image, by the values that hold it
module _ (t : Terms) (samples : List ℕ) (weights flow : List ℤ) {values : List ℤ} (e : values ≡ image_of t samples flow) where
  pub misfit-held : misfit (grid t samples weights) (at values) ≡ misfit (grid t samples weights) (image (grid t samples weights) (at flow))
  unfolding misfit
  misfit-held = misfit-is t samples weights flow e

  pub price-held : price (grid t samples weights) (at values) ≡ price (grid t samples weights) (image (grid t samples weights) (at flow))
  unfolding price fall
  price-held = ap₂ (λ (b c : ℤ). b +ℤ pos 2 *ℤ c) misfit-held (variation_is t samples weights flow e (λ j. pos (weight_of t weights j)))

-- figures that are those of a flow
pub figured : (o : Outcome) (moved : ℕ) (t : Terms) (samples : List ℕ) (weights flow : List ℤ) {a b c : ℤ} →
    a ≡ price (grid t samples weights) (image (grid t samples weights) (at flow)) → b ≡ floor (grid t samples weights) (at flow) → c ≡ slack (grid t samples weights) (at flow) →
    figures o moved a b c ≡ figures_of o moved t samples weights flow
unfolding figures_of
figured o moved t samples weights flow {c} e f g =
    let p : Problem = grid t samples weights in
    ap₂ (λ (x y : ℤ). figures o moved x y c) e f ∙ ap (figures o moved (price p (image p (at flow))) (floor p (at flow))) g
