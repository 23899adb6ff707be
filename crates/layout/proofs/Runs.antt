-- The runs of a raster's pairs: each lies inside the raster, the next begins where it ends, and one after the other they are
-- the pairs. Assumes nothing.
use mathlib.Core.Path.{◌≡◌, refl, sym, ap, ap₂, ◌∙◌}
use mathlib.Core.Bool.{cond}
use mathlib.Core.List.{List, [], ◌++◌}
use Prim.Native.Nat.{ℕ, zero, suc, ◌+◌, ◌-◌, ◌*◌, ◌≤◌, ◌<◌}
use native.Mathlib.Nat.{mul-le-mul_left, mul-le-mul_right, le_of_eq}
use native.Mathlib.Decide.{dec_lt}
use native.Mathlib.Omega.{arith}
use borrow.Author.Tests.{lt-ltb, le-ltb}
use lib.Dec.{ltb}
use lib.ListN.{length, get_or}
use Rattle.lists.specs.Lists.{table, chain}
use Rattle.lists.proofs.Tables.{table-append, table-cong, table-self}
use Rattle.model.specs.Problem.{Pair}
use Rattle.layout.proofs.Pairs.{grid-count, vertical-pair, horizontal_pair}
use Rattle.layout.specs.declared.Shape.{Shape}
use Rattle.layout.specs.declared.Run.{Run}
use Rattle.layout.specs.Limits.{ShapeLimits}
use Rattle.layout.specs.Runs.{pixel_count, pair_list, vertical, column_runs, column_run, row_run, run_count, run_at}

-- a pair that stands for none
abbrev none : Pair
none = record { first = 0; second = 0 }

-- A run of a raster: its pairs and their pixels are the raster's
pub record RunOf (s : Shape) (r : Run) : Type 0 where
  pub count_most : r.count ≤ 4096
  pub pairs-inside : r.pair + r.count ≤ length (pair_list s)
  pub firsts_inside : r.first + r.count ≤ pixel_count s
  pub seconds_inside : r.second + r.count ≤ pixel_count s
  pub joins : (j : ℕ) → j < r.count →
      get_or (pair_list s) (r.pair + j) (record { first = 0; second = 0 }) ≡ record { first = r.first + j; second = r.second + j }

module _ (s : Shape) (l : ShapeLimits s) where
  -- the lower pixels of the vertical pairs end where the raster does
  pub vertical-end : vertical s + s.width ≡ pixel_count s
  vertical-end =
      let e : s.height ≡ s.height - 1 + 1 = omega (arith, l.height_least) in
      omega (arith, ap (λ (n : ℕ). s.width * n) e)

  -- as many pairs as numbers in a flow
  pub pair-count : length (pair_list s) ≡ vertical s + s.height * (s.width - 1)
  pair-count = grid-count s.width s.height

  -- less than two pairs for each pixel
  pub pairs-most : length (pair_list s) ≤ 2 * pixel_count s
  pairs-most =
      let v : s.width * (s.height - 1) ≤ s.width * s.height = mul-le-mul_left s.width (omega arith) in
      let u : s.height * (s.width - 1) ≤ s.height * s.width = mul-le-mul_left s.height (omega arith) in
      omega (arith, pair-count)

  -- no more rows than pixels
  pub height_most : s.height ≤ pixel_count s
  height_most = let q : 1 * s.height ≤ s.width * s.height = mul-le-mul_right s.height l.width_least in omega arith

  -- row r ends within the raster, and its pairs within the pairs
  pub row-end : (r : ℕ) → r < s.height → r * s.width + s.width ≤ pixel_count s
  row-end r b = let q : suc r * s.width ≤ s.height * s.width = mul-le-mul_right s.width b in omega arith

  pub row-pairs-end : (r : ℕ) → r < s.height → vertical s + r * (s.width - 1) + (s.width - 1) ≤ length (pair_list s)
  row-pairs-end r b =
      let q : suc r * (s.width - 1) ≤ s.height * (s.width - 1) = mul-le-mul_right (s.width - 1) b in
      omega (arith, pair-count)

  column_is : (k : ℕ) → k < column_runs s → RunOf s (column_run s k)
  column_is k b =
      record {
        count_most = omega arith;
        pairs-inside = omega (arith, pair-count);
        firsts_inside = omega (arith, vertical-end);
        seconds_inside = omega (arith, vertical-end);
        joins = λ j h.
            vertical-pair s.width s.height none (4096 * k + j) (omega arith)
            ∙ ap (λ (n : ℕ). record { first = 4096 * k + j; second = n }) (omega arith);
      }

  row_is : (r : ℕ) → r < s.height → RunOf s (row_run s r)
  row_is r b =
      record {
        count_most = omega (arith, l.width_most);
        pairs-inside = row-pairs-end r b;
        firsts_inside = omega (arith, row-end r b);
        seconds_inside = omega (arith, row-end r b, l.width_least);
        joins = λ j h.
            ap (λ (n : ℕ). get_or (pair_list s) n none) (omega arith)
            ∙ horizontal_pair s.width s.height none r j b h
            ∙ ap (λ (n : ℕ). record { first = r * s.width + j; second = n }) (omega arith);
      }

  -- Every run is one of the raster
  pub run_is : (k : ℕ) → k < run_count s → RunOf s (run_at s k)
  unfolding run_at
  run_is k b = by (dec_lt k (column_runs s))
    where
      by : Dec (k < column_runs s) → RunOf s (cond (ltb k (column_runs s)) (column_run s k) (row_run s (k - column_runs s)))
      by (yes c) = rw (lt-ltb k (column_runs s) c) (column_is k c)
      by (no c) = rw (le-ltb k (column_runs s) (omega arith)) (row_is (k - column_runs s) (omega arith))

-- ---- one after the other

empty : (g : ℕ → Pair) → table 0 g ≡ []
unfolding table
empty g = refl

module _ (s : Shape) where
  pub in_columns : (k : ℕ) → k < column_runs s → run_at s k ≡ column_run s k
  unfolding run_at
  in_columns k c = rw (lt-ltb k (column_runs s) c)

  pub in_rows : (k : ℕ) → column_runs s ≤ k → run_at s k ≡ row_run s (k - column_runs s)
  unfolding run_at
  in_rows k c = rw (le-ltb k (column_runs s) c)

  abbrev pub start : ℕ → ℕ
  start k = (run_at s k).pair

  -- The first run begins at pair 0 ..
  pub run-first : start 0 ≡ 0
  run-first = by (dec_lt 0 (column_runs s))
    where
      by : Dec (0 < column_runs s) → start 0 ≡ 0
      by (yes c) = ap (λ (r : Run). r.pair) (in_columns 0 c)
      by (no c) =
          let e : 0 - column_runs s ≡ 0 = omega arith in
          ap (λ (r : Run). r.pair) (in_rows 0 (omega arith)) ∙ ap (λ (r : ℕ). vertical s + r * (s.width - 1)) e ∙ omega arith

  -- .. each begins where the one before ends ..
  pub run-next : (k : ℕ) → start (k + 1) ≡ start k + (run_at s k).count
  run-next k = by (dec_lt k (column_runs s)) (dec_lt (k + 1) (column_runs s))
    where
      follows : {a b : Run} → run_at s k ≡ a → run_at s (k + 1) ≡ b → b.pair ≡ a.pair + a.count → start (k + 1) ≡ start k + (run_at s k).count
      follows p q e = ap (λ (r : Run). r.pair) q ∙ e ∙ sym (ap (λ (r : Run). r.pair + r.count) p)

      by : Dec (k < column_runs s) → Dec (k + 1 < column_runs s) → start (k + 1) ≡ start k + (run_at s k).count
      by (yes c) (yes d) = follows (in_columns k c) (in_columns (k + 1) d) (omega arith)
      by (yes c) (no d) =
          let e : k + 1 - column_runs s ≡ 0 = omega arith in
          follows (in_columns k c) (in_rows (k + 1) (omega arith)) (ap (λ (r : ℕ). vertical s + r * (s.width - 1)) e ∙ omega arith)
      by (no c) _ =
          let e : k + 1 - column_runs s ≡ k - column_runs s + 1 = omega arith in
          follows (in_rows k (omega arith)) (in_rows (k + 1) (omega arith)) (ap (λ (r : ℕ). vertical s + r * (s.width - 1)) e ∙ omega arith)

  -- .. and the last one ends where the pairs do
  pub run-last : start (run_count s) ≡ length (pair_list s)
  run-last =
      let e : run_count s - column_runs s ≡ s.height = omega arith in
      ap (λ (r : Run). r.pair) (in_rows (run_count s) (omega arith))
      ∙ ap (λ (r : ℕ). vertical s + r * (s.width - 1)) e
      ∙ sym (grid-count s.width s.height)

  -- the pairs of run k
  abbrev pub pairs_of : ℕ → List Pair
  pairs_of k = table (run_at s k).count (λ j. record { first = (run_at s k).first + j; second = (run_at s k).second + j })

  module _ (l : ShapeLimits s) where
    front : (k : ℕ) → k ≤ run_count s → chain k pairs_of ≡ table (start k) (λ j. get_or (pair_list s) j none)
    unfolding chain
    front zero b = sym (ap (λ (n : ℕ). table n (λ j. get_or (pair_list s) j none)) run-first ∙ empty (λ j. get_or (pair_list s) j none))
    front (suc k) b =
        ap₂ (λ (a c : List Pair). a ++ c) (front k (omega arith)) (table-cong (run_at s k).count (λ j h. sym ((run_is s l k (omega arith)).joins j h)))
        ∙ sym (table-append (start k) (run_at s k).count (λ j. get_or (pair_list s) j none))
        ∙ ap (λ (n : ℕ). table n (λ j. get_or (pair_list s) j none)) (sym (run-next k) ∙ ap (λ (n : ℕ). start n) (omega arith))

    -- The runs, one after the other, are the raster's pairs
    pub runs_are_pairs : chain (run_count s) pairs_of ≡ pair_list s
    runs_are_pairs =
        front (run_count s) (le_of_eq refl)
        ∙ ap (λ (n : ℕ). table n (λ j. get_or (pair_list s) j none)) run-last
        ∙ table-self (pair_list s) none
