-- What the bytes at hand come to, whatever follows them.
use Rattle.model.specs.Verdict.{Accept, Refuse, number_of}
use Rattle.std.specs.Prelude.{◌≡◌, Bool, false, List, ◌++◌, ℕ, ◌+◌, ◌≤◌, Result, Ok, Err, length, drop}
use Rattle.model.specs.declared.Lent.{Lent}
use Rattle.model.specs.declared.Refusal.{Refusal}
use Rattle.model.specs.declared.Totals.{Totals}
use Rattle.model.specs.Season.{Follows}
use Rattle.tape_records.specs.declared.state.ParserState.{ParserState}
use Rattle.tape_reader.specs.Scan.{Reached}
use Rattle.stream.specs.Totals.{Bounded}
use Rattle.stream.specs.declared.next.Next.{Next}
use Rattle.stream.specs.Report.{Report, report_from}

-- this is the report, whatever follows
abbrev pub Reports : List ℕ → Bool → Lent → Totals → Report → Type 0
Reports bytes ended lent totals r = (rest : List ℕ) → Follows ended rest → report_from lent totals (bytes ++ rest) ≡ r

-- a job is counted: the report goes on behind it
pub record CountsJob (bytes : List ℕ) (lent : Lent) (before after : Totals) (size : ℕ) : Type 0 where
  pub inside : size ≤ length bytes
  pub one : after.jobs ≡ before.jobs + 1
  pub bounded : Bounded after
  pub report : (rest : List ℕ) → report_from lent before (bytes ++ rest) ≡ report_from lent after (drop size bytes ++ rest)

-- more bytes are wanted: these are too few for the job, and the input goes on
pub record NeedsMore (bytes : List ℕ) (ended : Bool) (lent : Lent) (t : ParserState) (at : ℕ) : Type 0 where
  pub reached : Reached bytes lent t at
  pub few : length bytes ≤ 65536
  pub not_ended : ended ≡ false

abbrev pub NextJob : List ℕ → Bool → Lent → Totals → Result Next Refusal → Type 0
NextJob bytes ended lent totals (Ok (Next.More t at)) = NeedsMore bytes ended lent t at
NextJob bytes ended lent totals (Ok Next.Over) = Reports bytes ended lent totals (record { totals = totals; ending = Accept })
NextJob bytes ended lent totals (Ok (Next.Counted after size)) = CountsJob bytes lent totals after size
NextJob bytes ended lent totals (Err r) =
    Reports bytes ended lent totals (record { totals = totals; ending = Refuse (number_of r.reason) r.place })
