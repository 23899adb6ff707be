-- The first job of a season by the bytes at hand, whatever follows them: it is read from its first 65,536 bytes. Assumes
-- nothing.
use mathlib.Core.Path.{◌≡◌, refl, sym, ap, ◌∙◌}
use mathlib.Core.Bool.{Bool, true, false, cond}
use mathlib.Core.List.{List, [], ◌++◌, append-nil}
use Prim.Native.Nat.{ℕ, ◌+◌, ◌-◌, ◌≤◌, ◌<◌}
use native.Mathlib.Omega.{arith}
use lib.Dec.{ltb}
use lib.ListN.{length, take, length-append}
use lib.Seq.{take_all, take-append-le, take-append-add}
use borrow.Author.Tests.{ltb-true, ltb-false, lt-ltb, le-ltb}
use Rattle.model.specs.declared.Lent.{Lent}
use Rattle.model.specs.Tape.{Progress, Parse, turned, whole, record_rows, parse_from, parse, read_of, too_short}
use Rattle.model.specs.Verdict.{first_refusal}
use Rattle.model.specs.Season.{too_long, first_job}

module _ (lent : Lent) where
  -- no bytes are too few
  pub no_bytes : {n q : ℕ} → parse [] lent ≡ turned n q → too_short n ≡ true
  unfolding parse parse_from record_rows first_refusal
  no_bytes e = sym (ap (λ (r : Parse). too_short (read_of r).number) e)

  module _ (input : List ℕ) where
    -- what is read of the first bytes
    abbrev first : Parse
    first = parse (take 65536 input) lent

    by_length : (b : Bool) → ltb 65536 (length input) ≡ b → first_job lent input ≡ cond b (too_long first) first
    unfolding first_job
    by_length true h = rw (h, first_job) refl
    by_length false h = rw (h, first_job) (ap (λ (l : List ℕ). parse l lent) (sym (take_all 65536 input (ltb-false 65536 (length input) h))))

    job-by : {r : Parse} → first ≡ r → ((b : Bool) → ltb 65536 (length input) ≡ b → cond b (too_long r) r ≡ r) → first_job lent input ≡ r
    job-by {r} e same =
        by_length (ltb 65536 (length input)) refl
        ∙ ap (λ (x : Parse). cond (ltb 65536 (length input)) (too_long x) x) e
        ∙ same (ltb 65536 (length input)) refl

  long-faulty : (b : Bool) {n q : ℕ} → too_short n ≡ false → cond b (too_long (turned n q)) (turned n q) ≡ turned n q
  long-faulty true {n} {q} f = ap (λ (t : Bool). cond t (turned 17 0) (turned n q)) f
  long-faulty false f = refl

  long-whole : (b : Bool) (p : Progress) → cond b (too_long (whole p)) (whole p) ≡ whole p
  long-whole true p = refl
  long-whole false p = refl

  module _ (bytes rest : List ℕ) where
    -- the input's first bytes are those at hand, with more behind them or none
    front : (behind : List ℕ) × (take 65536 (bytes ++ rest) ≡ take 65536 bytes ++ behind)
    front = go (ltb (length bytes) 65536) refl
      where
        go : (b : Bool) → ltb (length bytes) 65536 ≡ b → (behind : List ℕ) × (take 65536 (bytes ++ rest) ≡ take 65536 bytes ++ behind)
        go true h =
            let l : length bytes < 65536 = ltb-true (length bytes) 65536 h in
            let n : 65536 ≡ length bytes + (65536 - length bytes) = omega arith in (
              take (65536 - length bytes) rest,
              ap (λ (m : ℕ). take m (bytes ++ rest)) n
                  ∙ take-append-add bytes rest (65536 - length bytes)
                  ∙ ap (λ (l : List ℕ). l ++ take (65536 - length bytes) rest) (sym (take_all 65536 bytes (omega arith))),
            )
        go false h =
            let l : 65536 ≤ length bytes = ltb-false (length bytes) 65536 h in
            ([], take-append-le 65536 bytes rest l ∙ sym (append-nil (take 65536 bytes)))

    pub first-whole : {p : Progress} → ((behind : List ℕ) → parse (take 65536 bytes ++ behind) lent ≡ whole p) → first_job lent (bytes ++ rest) ≡ whole p
    first-whole {p} h =
        let (behind, e) = front in job-by (bytes ++ rest) (ap (λ (l : List ℕ). parse l lent) e ∙ h behind) (λ b _. long-whole b p)

    pub first-faulty : {n q : ℕ} → too_short n ≡ false → ((behind : List ℕ) → parse (take 65536 bytes ++ behind) lent ≡ turned n q) →
        first_job lent (bytes ++ rest) ≡ turned n q
    first-faulty f h =
        let (behind, e) = front in job-by (bytes ++ rest) (ap (λ (l : List ℕ). parse l lent) e ∙ h behind) (λ b _. long-faulty b f)

    -- they are too few, and the input goes past them
    pub first_past : {n q : ℕ} → 65536 < length bytes → parse (take 65536 bytes) lent ≡ turned n q → too_short n ≡ true →
        first_job lent (bytes ++ rest) ≡ turned 17 0
    first_past {n} {q} l h s =
        by_length (bytes ++ rest) true (lt-ltb 65536 (length (bytes ++ rest)) (omega (arith, length-append bytes rest)))
        ∙ ap (λ (x : List ℕ). too_long (parse x lent)) (take-append-le 65536 bytes rest (omega arith))
        ∙ ap too_long h
        ∙ ap (λ (t : Bool). cond t (turned 17 0) (turned n q)) s

  -- they are too few, and the input ends
  pub first_ended : (bytes : List ℕ) {n q : ℕ} → length bytes ≤ 65536 → parse bytes lent ≡ turned n q → first_job lent bytes ≡ turned n q
  first_ended bytes l h =
      by_length bytes false (le-ltb 65536 (length bytes) l) ∙ ap (λ (x : List ℕ). parse x lent) (take_all 65536 bytes l) ∙ h
