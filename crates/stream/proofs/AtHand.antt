-- What the bytes at hand come to, from what taking a job of the first 65,536 of them gives. Assumes nothing.
use mathlib.Core.Path.{◌≡◌, sym, ap, ap₂, ◌∙◌, subst, subst⁻¹}
use mathlib.Core.Bool.{Bool, true, false, true≢false}
use mathlib.Core.List.{List, [], ◌++◌, append-nil}
use Prim.Native.Nat.{ℕ, ◌≤◌, ◌<◌}
use native.Mathlib.Omega.{arith}
use lib.ListN.{length, take, drop, length-append, length-take}
use lib.Seq.{take_all, drop-append-le}
use Rattle.model.specs.Verdict.{Accept, Refuse}
use Rattle.lists.proofs.Tables.{length_none}
use Rattle.model.specs.declared.Lent.{Lent}
use Rattle.model.specs.declared.Terms.{Terms}
use Rattle.model.specs.declared.Totals.{Totals}
use Rattle.std.specs.Prelude.{Result}
use Rattle.model.specs.declared.Ending.{Ending}
use Rattle.model.specs.declared.Refusal.{Refusal}
use Rattle.model.specs.Tape.{turned, parse}
use Rattle.model.specs.Season.{bytes_of, treated}
use Rattle.tape_records.specs.declared.state.ParserState.{ParserState}
use Rattle.tape_reader.specs.Scan.{Reached}
use Rattle.roundtrip.proofs.Offsets.{tape_length}
use Rattle.stream.specs.Totals.{with_job, Bounded}
use Rattle.stream.specs.Report.{Report, report_from}
use Rattle.stream.specs.Jobs.{Short, Refused, Whole}
use Rattle.stream.specs.AtHand.{Reports, CountsJob, NeedsMore}
use Rattle.stream.proofs.Sums.{bounded-more}
use Rattle.stream.proofs.First.{no_bytes, first-whole, first-faulty, first_past, first_ended}
use Rattle.stream.proofs.Reports.{over_report, refused-report, counted-report}

abbrev ends : Totals → ℕ → ℕ → Report
ends t number place = record { totals = t; ending = Refuse number place }

module _ (bytes : List ℕ) (lent : Lent) (t : Totals) (few : t.jobs < 65535) where
  abbrev front : List ℕ
  front = take 65536 bytes

  pub next_counted : {u : Terms} {a : Result Ending Refusal} {after : Totals} {size : ℕ} (c : Whole front lent t u a size) →
      after ≡ with_job t (treated c.job) → CountsJob bytes lent t after size
  unfolding bytes_of
  next_counted {after = after} {size} c is =
      let j = c.job in
      let some = tape_length j.terms j.rounds j.samples j.weights j.flow in
      let long : size ≤ length bytes = omega (arith, c.inside, length-take 65536 bytes) in
      let k = c.countable in
      record {
        inside = long;
        one = ap (λ (x : Totals). x.jobs) is;
        bounded = subst⁻¹ Bounded is (bounded-more t (treated j) k.bounded k.pixels_allowed k.slack_allowed);
        report =
            λ rest.
            counted-report lent t few (bytes ++ rest)
            (λ z. omega (arith, z, length-append bytes rest, c.length_in_bytes, some))
            (first-whole lent bytes rest c.read)
            ∙ ap₂ (λ (x : Totals) (n : ℕ). report_from lent x (drop n (bytes ++ rest))) (sym is) (sym c.length_in_bytes)
            ∙ ap (report_from lent after) (drop-append-le size bytes rest long);
      }

  pub next_refused : {n q : ℕ} {ended : Bool} → Refused front lent n q → Reports bytes ended lent t (ends t n q)
  next_refused {n} {q} r rest _ =
      refused-report lent t few (bytes ++ rest) some (first-faulty lent bytes rest r.faulty r.refused)
    where
      some : length (bytes ++ rest) ≡ 0 → ⊥
      some z =
          let none : take 65536 bytes ++ [] ≡ [] = append-nil (take 65536 bytes) ∙ ap (take 65536) (length_none bytes (omega (arith, length-append bytes rest))) in
          let nothing_read : parse [] lent ≡ turned n q = sym (ap (λ (l : List ℕ). parse l lent) none) ∙ r.refused [] in
          true≢false (sym (no_bytes lent nothing_read) ∙ r.faulty)

  module _ {n q : ℕ} {u : ParserState} {o : ℕ} (s : Short front lent n q u o) where
    pub next_past : {ended : Bool} → 65536 < length bytes → Reports bytes ended lent t (ends t 17 0)
    next_past l rest _ =
        refused-report lent t few (bytes ++ rest) (λ z. omega (arith, z, l, length-append bytes rest))
        (first_past lent bytes rest l s.refused s.short)

    module _ (l : length bytes ≤ 65536) where
      pub next_more : {ended : Bool} → ended ≡ false → NeedsMore bytes ended lent u o
      next_more e =
          record { reached = subst (λ (x : List ℕ). Reached x lent u o) (take_all 65536 bytes l) s.reached; few = l; not_ended = e }

      pub next_ended : {ended : Bool} → ended ≡ true → ¬ (length bytes ≡ 0) → Reports bytes ended lent t (ends t n q)
      next_ended e some rest follows =
          ap (report_from lent t) (ap (λ (x : List ℕ). bytes ++ x) (follows e) ∙ append-nil bytes)
          ∙ refused-report lent t few bytes some
          (first_ended lent bytes l (ap (λ (x : List ℕ). parse x lent) (sym (take_all 65536 bytes l)) ∙ s.refused))

  pub next_over : {ended : Bool} → ended ≡ true → length bytes ≡ 0 → Reports bytes ended lent t (record { totals = t; ending = Accept })
  next_over e z rest follows = ap₂ (λ (x y : List ℕ). report_from lent t (x ++ y)) (length_none bytes z) (follows e) ∙ over_report lent t
