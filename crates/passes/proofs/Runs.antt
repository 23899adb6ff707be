-- A run of a raster's pairs in its buffers: what the parts hold that a pass over the run is lent, that they are within its
-- limits, and that a pass over the run is a pass over these pairs of the raster. Assumes nothing.
use mathlib.Core.Path.{◌≡◌, sym, ap, ◌∙◌, subst}
use mathlib.Core.List.{List}
use Prim.Native.Nat.{ℕ, ◌+◌, ◌-◌, ◌*◌, ◌^◌, ◌≤◌, ◌<◌}
use native.Mathlib.Nat.{le_trans, mul-le-mul_right}
use native.Mathlib.Decide.{dec_lt}
use native.Mathlib.Omega.{arith}
use lib.IntN.{ℤ, pos, nat_abs, ◌+ℤ◌}
use lib.ListN.{length, take, drop, length-take, length-drop}
use lib.Signed.{◌≤ℤ◌}
use Rattle.integers.specs.Sum.{total}
use Rattle.integers.proofs.Order.{0≤pos}
use Rattle.integers.proofs.Total.{total-zero}
use borrow.Rule.Slice.PartMut.{put_mid}
use Rattle.lists.specs.Lists.{at, table}
use Rattle.lists.proofs.Parts.{part_count, part_at, part_length, part_by}
use Rattle.lists.proofs.Fill.{filled, filled_none, filled-rest, filled-back, filled-done}
use Rattle.model.specs.Problem.{Pair}
use Rattle.layout.specs.declared.Shape.{Shape}
use Rattle.layout.specs.declared.Run.{Run}
use Rattle.layout.specs.Runs.{pair_list, run_count, run_at}
use Rattle.layout.specs.Limits.{ShapeLimits}
use Rattle.layout.proofs.Runs.{RunOf, run_is, start, run-first, run-next, run-last, pairs-most}
use Rattle.passes.specs.Limits.{Within, WeightLimits, ValueLimits, RunLimits, RasterLimits, FlowLimits}
use Rattle.passes.specs.Pairs.{weight_at, first_value, second_value}
use Rattle.passes.proofs.Elements.{part_within}
use Rattle.passes.proofs.Totals.{total-part, parts_most}

-- ---- parts of buffers

-- a part holds the n numbers of a buffer from a on
pub record PartOf (l : List ℤ) (a n : ℕ) (part : List ℤ) : Type 0 where
  pub inside : a + n ≤ length l
  pub size : length part ≡ n
  pub number : (i : ℕ) → i < n → at part i ≡ at l (a + i)
  pub within : {k : ℕ} → Within k l → Within k part

-- as `part_of` gives it
pub part_of : (l : List ℤ) (a n : ℕ) {part : List ℤ} → part ≡ take n (drop a l) → a + n ≤ length l → PartOf l a n part
part_of l a n e h =
    subst (PartOf l a n) (sym e)
    (record {
      inside = h;
      size = part_length a n l (omega arith);
      number = λ i b. part_at a n l i (pos 0) b;
      within = part_within a n l;
    })

-- n of m pairs' weights, from a on, are within the limits
pub part_weights : {m : ℕ} {weight : ℤ} {weights own : List ℤ} → WeightLimits m weight weights → (a n : ℕ) → own ≡ take n (drop a weights) → a + n ≤ m →
    WeightLimits n weight own
part_weights {m} {weight} {weights} w a n o h =
    subst (WeightLimits n weight) (sym o)
    (record {
      lent = λ p. whole p (dec_lt 0 (length weights));
      weight_most = w.weight_most;
      least = part_by (λ z. pos 0 ≤ℤ z) (pos 0) (0≤pos 0) a n weights w.least;
      largest = part_within a n weights w.largest;
    })
  where
    whole : 0 < length (take n (drop a weights)) → Dec (0 < length weights) → length (take n (drop a weights)) ≡ n
    whole p (yes q) = part_length a n weights (omega (arith, w.lent q))
    whole p (no g) =
        let s : length (take n (drop a weights)) ≤ length weights = simp (length-take, length-drop) (omega arith) in
        absurd (omega (arith, g))

-- .. and are theirs, as `Weights::of_run` gives them
pub part_weight : {all weight : ℤ} (weights : List ℤ) {own : List ℤ} (a n : ℕ) → weight ≡ all → own ≡ take n (drop a weights) → (j : ℕ) → j < n →
    weight_at weight own j ≡ weight_at all weights (a + j)
part_weight {all} {weight} weights {own} a n e o j b =
    ap (λ (w : ℤ). weight_at w own j) e ∙ ap (λ (l : List ℤ). weight_at all l j) o ∙ part_at a n weights j all b

-- ---- run k of a raster, in a loop over all n runs: where it begins and ends among the pairs

pub record Turn (s : Shape) (k : ℕ) (r : Run) : Type 0 where
  pub run : RunOf s r
  pub begins : start s k ≡ r.pair
  pub ends : start s (k + 1) ≡ r.pair + r.count

pub turn : {s : Shape} {k n : ℕ} {r : Run} → ShapeLimits s → r ≡ run_at s k → k < n → n ≡ run_count s → Turn s k r
turn {s} {k} l e b m =
    record {
      run = subst (RunOf s) (sym e) (run_is s l k (omega arith));
      begins = sym (ap (λ (x : Run). x.pair) e);
      ends = run-next s k ∙ sym (ap (λ (x : Run). x.pair + x.count) e);
    }

-- a buffer of all pairs' numbers that is filled run by run, and a sum that is taken run by run: the invariants of such loops
pub record Partly (s : Shape) (g : ℕ → ℤ) (buffer : List ℤ) (k : ℕ) (now : List ℤ) : Type 0 where
  pub whole : length buffer ≡ length (pair_list s)
  pub is : now ≡ filled (start s k) g buffer

pub record Summed (s : Shape) (g : ℕ → ℤ) (k : ℕ) (sum : ℤ) : Type 0 where
  pub is : sum ≡ total (start s k) g

-- before the first run none is filled, and the sum is 0
pub none_filled : {s : Shape} {g : ℕ → ℤ} {buffer : List ℤ} → length buffer ≡ length (pair_list s) → Partly s g buffer 0 buffer
none_filled {s} {g} {buffer} h = record { whole = h; is = sym (ap (λ (n : ℕ). filled n g buffer) (run-first s) ∙ filled_none g buffer) }

pub none_summed : {s : Shape} {g : ℕ → ℤ} → Summed s g 0 (pos 0)
none_summed {s} {g} = record { is = sym (ap (λ (n : ℕ). total n g) (run-first s) ∙ total-zero g) }

-- after the last of n runs all pairs are done
pub all_done : (s : Shape) {k n : ℕ} → n ≡ run_count s → k ≤ n → n ≤ k → start s k ≡ length (pair_list s)
all_done s {k} m b d = let e : k ≡ run_count s = omega arith in ap (start s) e ∙ run-last s

pub all_filled : {s : Shape} {g : ℕ → ℤ} {buffer now : List ℤ} {k n : ℕ} → Partly s g buffer k now → n ≡ run_count s → k ≤ n → n ≤ k → now ≡ table (length buffer) g
all_filled {s} {g} {buffer} p m b d = filled-done g buffer p.is (all_done s m b d ∙ sym p.whole)

pub all-summed : {s : Shape} {g : ℕ → ℤ} {k n : ℕ} {sum : ℤ} → Summed s g k sum → n ≡ run_count s → k ≤ n → n ≤ k → sum ≡ total (length (pair_list s)) g
all-summed {s} {g} p m b d = p.is ∙ ap (λ (n : ℕ). total n g) (all_done s m b d)

module _ {s : Shape} {k : ℕ} {r : Run} (t : Turn s k r) where
  -- the parts that a run takes are there
  pub values-there : {image : List ℤ} → RasterLimits s image → (r.first + r.count ≤ length image) × (r.second + r.count ≤ length image)
  values-there p = (omega (arith, t.run.firsts_inside, p.image_length), omega (arith, t.run.seconds_inside, p.image_length))

  pub weights_there : {weight : ℤ} {weights : List ℤ} → WeightLimits (length (pair_list s)) weight weights → 0 < length weights → r.pair + r.count ≤ length weights
  weights_there w p = omega (arith, t.run.pairs-inside, w.lent p)

  pub numbers-there : (flow : List ℤ) → length flow ≡ length (pair_list s) → r.pair + r.count ≤ length flow
  numbers-there flow h = omega (arith, t.run.pairs-inside, h)

  -- a buffer that is filled run by run
  module _ {g : ℕ → ℤ} {buffer now : List ℤ} (p : Partly s g buffer k now) where
    before : now ≡ filled r.pair g buffer
    before = p.is ∙ ap (λ (n : ℕ). filled n g buffer) t.begins

    pub buffer-there : r.pair + r.count ≤ length buffer
    buffer-there = numbers-there buffer p.whole

    -- the run's part is lent as it was ..
    pub unfilled : PartOf buffer r.pair r.count (take (r.pair + r.count - r.pair) (drop r.pair now))
    unfilled =
        part_of buffer r.pair r.count
        (ap (λ (n : ℕ). take n (drop r.pair now)) (part_count r.pair r.count) ∙ ap (take r.count) (filled-rest g buffer r.pair before))
        buffer-there

    -- .. and comes back filled
    pub run-filled : {lent : List ℤ} → lent ≡ table r.count (λ j. g (r.pair + j)) → Partly s g buffer (k + 1) (put_mid r.pair (r.pair + r.count - r.pair) now lent)
    run-filled q = record { whole = p.whole; is = filled-back g buffer r.pair r.count before q ∙ ap (λ (n : ℕ). filled n g buffer) (sym t.ends) }

  -- a sum that is taken run by run
  module _ {g : ℕ → ℤ} {sum x : ℤ} (p : Summed s g k sum) (q : x ≡ total r.count (λ j. g (r.pair + j))) where
    before-sum : sum ≡ total r.pair g
    before-sum = p.is ∙ ap (λ (n : ℕ). total n g) t.begins

    pub run-total : Summed s g (k + 1) (sum +ℤ x)
    run-total = record { is = total-part g r.pair r.count before-sum q ∙ ap (λ (n : ℕ). total n g) (sym t.ends) }

    -- and both its parts in size, where no term is more than c
    pub run-most : {c : ℕ} → ShapeLimits s → ((j : ℕ) → nat_abs (g j) ≤ c) → nat_abs sum + nat_abs x ≤ 2 ^ 21 * c
    run-most {c} l m = le_trans (parts_most g m r.pair r.count before-sum q) (mul-le-mul_right c (omega (arith, t.run.pairs-inside, pairs-most s l, l.pixels_most)))

-- ---- the values of a run's pixels, as `Values::of_run` gives them

pub record ValuesOf (s : Shape) (r : Run) (image first second : List ℤ) : Type 0 where
  pub run : RunOf s r
  pub firsts : PartOf image r.first r.count first
  pub seconds : PartOf image r.second r.count second

pub values_of : {s : Shape} {k : ℕ} {r : Run} {image first second : List ℤ} → Turn s k r → RasterLimits s image →
    first ≡ take r.count (drop r.first image) → second ≡ take r.count (drop r.second image) → ValuesOf s r image first second
values_of {r = r} {image = image} t p e f =
    let there = values-there t p in
    record { run = t.run; firsts = part_of image r.first r.count e there.0; seconds = part_of image r.second r.count f there.1 }

module _ {s : Shape} {r : Run} {image first second : List ℤ} (v : ValuesOf s r image first second) where
  -- what a run is lent is within its limits
  pub value_limits : RasterLimits s image → ValueLimits first second
  value_limits p =
      record {
        same_count = v.seconds.size ∙ sym v.firsts.size;
        count_most = rw v.firsts.size v.run.count_most;
        first_most = v.firsts.within p.image_most;
        second_most = v.seconds.within p.image_most;
      }

  pub run-limits : {flow numbers : List ℤ} → FlowLimits s flow image → PartOf flow r.pair r.count numbers → RunLimits numbers first second
  run-limits p q =
      record {
        values = value_limits p.raster;
        flow_count = q.size ∙ sym v.firsts.size;
        flow_most = q.within p.flow_most;
      }

  pub run-weights : {all weight : ℤ} {weights own : List ℤ} {n : ℕ} → WeightLimits (length (pair_list s)) all weights → weight ≡ all → own ≡ take r.count (drop r.pair weights) →
      n ≡ r.count → WeightLimits n weight own
  run-weights w a o e = rw (e, a) (part_weights w r.pair r.count o v.run.pairs-inside)

  -- A pass over a run, a table, a sum or a search over its pairs, of a function of a pair's weight, its number and its
  -- pixels' values: one pair of the run is the raster's ..
  module _ {own part : ℕ → ℤ} (weight number : ℕ → ℤ) (same : (j : ℕ) → j < r.count → own j ≡ weight (r.pair + j)) (lent : (j : ℕ) → j < r.count → part j ≡ number (r.pair + j)) where
    pub run-pair : {A : Type 0} (f : ℤ → ℤ → ℤ → ℤ → A) (j : ℕ) → j < r.count →
        f (own j) (part j) (at first j) (at second j) ≡ f (weight (r.pair + j)) (number (r.pair + j)) (first_value s image (r.pair + j)) (second_value s image (r.pair + j))
    run-pair f j b =
        let x : at first j ≡ first_value s image (r.pair + j) = v.firsts.number j b ∙ ap (λ (q : Pair). at image q.first) (sym (v.run.joins j b)) in
        let y : at second j ≡ second_value s image (r.pair + j) = v.seconds.number j b ∙ ap (λ (q : Pair). at image q.second) (sym (v.run.joins j b)) in
        λ i. f (same j b i) (lent j b i) (x i) (y i)

    -- .. and so is a pass over them
    pub run-pass : {A B : Type 0} (pass : ℕ → (ℕ → A) → B) → ((n : ℕ) (g g' : ℕ → A) → ((i : ℕ) → i < n → g i ≡ g' i) → pass n g ≡ pass n g') →
        (f : ℤ → ℤ → ℤ → ℤ → A) {size : ℕ} → size ≡ r.count →
        pass size (λ j. f (own j) (part j) (at first j) (at second j))
        ≡ pass r.count (λ j. f (weight (r.pair + j)) (number (r.pair + j)) (first_value s image (r.pair + j)) (second_value s image (r.pair + j)))
    run-pass pass cong f e =
        ap (λ (n : ℕ). pass n (λ j. f (own j) (part j) (at first j) (at second j))) e ∙ cong r.count _ _ (run-pair f)
