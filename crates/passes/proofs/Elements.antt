-- The numbers of buffers within limits: as the machine reads them back from their bits, and what the limits say of a pair.
-- Assumes nothing.
use mathlib.Core.Path.{◌≡◌, sym, ap, subst, ◌∙◌}
use mathlib.Core.List.{List}
use Prim.Native.Nat.{ℕ, ◌^◌, ◌≤◌, ◌<◌, zero-le}
use native.Mathlib.Omega.{arith}
use lib.IntN.{ℤ, pos, nat_abs}
use lib.ListN.{length, take, drop}
use lib.Signed.{mag, ◌≤ℤ◌}
use mir.Syntax.{w32}
use mir.Val.{to_z, of_z, hbits}
use mir.ValLaws.{to_z-of_z}
use Rattle.integers.proofs.Machine.{fits, read}
use Rattle.lists.specs.Lists.{at, table}
use Rattle.lists.proofs.Tables.{length-table, get_or-table, get_or-by}
use Rattle.lists.proofs.Parts.{part_by}
use Rattle.passes.specs.Limits.{Within, WeightLimits, RunLimits}
use Rattle.passes.specs.Pairs.{weight_at}
use Rattle.stencil.specs.Limits.{most, PairLimits}

pub element : (l : List ℤ) → Within most l → (i : ℕ) → to_z w32 (of_z w32 (at l i)) ≡ at l i
element l h i = to_z-of_z w32 (at l i) (fits w32 (omega (arith, h i)))

-- ---- buffers whose numbers are all at most k in size

pub within-below : {k : ℕ} (l : List ℤ) → ((i : ℕ) → i < length l → nat_abs (at l i) ≤ k) → Within k l
within-below {k} l h = get_or-by (λ z. nat_abs z ≤ k) l (pos 0) (pos 0) zero-le h

pub within-table : {k : ℕ} (n : ℕ) (g : ℕ → ℤ) → ((i : ℕ) → i < n → nat_abs (g i) ≤ k) → Within k (table n g)
within-table n g h =
    within-below (table n g) (λ i m.
    let l : i < n = rw (length-table n g) at m in
    rw (get_or-table n g i (pos 0) l) (h i l))

-- so are those of a part
pub part_within : {k : ℕ} (a n : ℕ) (l : List ℤ) → Within k l → Within k (take n (drop a l))
part_within {k} a n l h = part_by (λ z. nat_abs z ≤ k) (pos 0) zero-le a n l h

pub lent-within : {k : ℕ} (a n : ℕ) (l : List ℤ) {part : List ℤ} → part ≡ take n (drop a l) → Within k l → Within k part
lent-within {k} a n l o h = subst (Within k) (sym o) (part_within a n l h)

-- ---- what the limits say of a pair

-- its number of a part is there, unless the part is empty
pub own-inside : {n : ℕ} {weight : ℤ} {weights : List ℤ} → WeightLimits n weight weights → {j : ℕ} → j < n → 0 < length weights → j < length weights
own-inside w l p = omega (arith, w.lent p)

-- the number that stands for it is the one that stands for all, or its own
pub own-within : {k : ℕ} (weight : ℤ) (weights : List ℤ) → nat_abs weight ≤ k → Within k weights → (j : ℕ) → nat_abs (weight_at weight weights j) ≤ k
own-within {k} weight weights h m = get_or-by (λ z. nat_abs z ≤ k) weights weight (pos 0) h (λ i _. m i)

module _ {n : ℕ} {weight : ℤ} {weights : List ℤ} (w : WeightLimits n weight weights) where
  pub own-most : (j : ℕ) → nat_abs (weight_at weight weights j) ≤ most
  own-most = own-within weight weights w.weight_most w.largest

  pub own-least : pos 0 ≤ℤ weight → (j : ℕ) → pos 0 ≤ℤ weight_at weight weights j
  own-least h = get_or-by (λ z. pos 0 ≤ℤ z) weights weight (pos 0) h (λ i _. w.least i)

  pub pair-limits : {flow first second : List ℤ} → RunLimits flow first second → (j : ℕ) → PairLimits (weight_at weight weights j) (at flow j) (at first j) (at second j)
  pair-limits l j =
      record {
        weight_most = own-most j;
        flow_most = l.flow_most j;
        first_most = l.values.first_most j;
        second_most = l.values.second_most j;
      }

-- ---- pair j of a run, as the machine reads its weight, its number and its pixels' values

pub record ReadPair (weight : ℤ) (weights flow first second : List ℤ) (j : ℕ) (own number : ℤ) : Type 0 where
  pub weight_is : to_z w32 (of_z w32 own) ≡ weight_at weight weights j
  pub number_is : to_z w32 (of_z w32 number) ≡ at flow j
  pub first-is : to_z w32 (of_z w32 (at first j)) ≡ at first j
  pub second_is : to_z w32 (of_z w32 (at second j)) ≡ at second j
  pub limits : PairLimits (weight_at weight weights j) (at flow j) (at first j) (at second j)

-- its weight as `Weights::at` gives it, its number not written yet
pub read-pair : {n : ℕ} {weight : ℤ} {weights flow first second : List ℤ} → RunLimits flow first second → WeightLimits n weight weights → (j : ℕ) →
    {own number : ℤ} → mag own < 2 ^ hbits w32 → own ≡ weight_at weight weights j → number ≡ at flow j → ReadPair weight weights flow first second j own number
read-pair {flow = flow} {first = first} {second = second} l w j ok e p =
    record {
      weight_is = read w32 ok ∙ e;
      number_is = ap (λ (z : ℤ). to_z w32 (of_z w32 z)) p ∙ element flow l.flow_most j;
      first-is = element first l.values.first_most j;
      second_is = element second l.values.second_most j;
      limits = pair-limits w l j;
    }

module _ {weight : ℤ} {weights flow first second : List ℤ} {j : ℕ} {own number : ℤ} (r : ReadPair weight weights flow first second j own number) where
  pub pair_limits-read : PairLimits (to_z w32 (of_z w32 own)) (to_z w32 (of_z w32 number)) (to_z w32 (of_z w32 (at first j))) (to_z w32 (of_z w32 (at second j)))
  pair_limits-read = rw (r.weight_is, r.number_is, r.first-is, r.second_is) r.limits

  -- what is computed of it
  pub pair-read : {A : Type 0} (f : ℤ → ℤ → ℤ → ℤ → A) → f (to_z w32 (of_z w32 own)) (to_z w32 (of_z w32 number)) (to_z w32 (of_z w32 (at first j))) (to_z w32 (of_z w32 (at second j)))
      ≡ f (weight_at weight weights j) (at flow j) (at first j) (at second j)
  pair-read f = λ i. f (r.weight_is i) (r.number_is i) (r.first-is i) (r.second_is i)
