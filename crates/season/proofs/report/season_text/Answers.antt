use mathlib.Core.Path.{ap, ◌∙◌}
use mathlib.Core.List.{List, ◌++◌}
use Prim.Native.Nat.{ℕ}
use lib.ListN.{length}
use Rattle.std.proofs.lemmas.Option.{IfSome_then}
use Rattle.lists.specs.Lists.{overwritten}
use Rattle.output.proofs.Puts.{put_front}
use Rattle.stream.proofs.Reports.{season_text_lem}
use Rattle.season.proofs.report.season_text.Goals as goal

pub returns-clause-text_of : goal.returns-clause-text_of
returns-clause-text_of g c =
    let former : List ℕ = c.args.output.now in
    let f = put_front c.put_report-count.ensures.put in
    let (input, reports) = c.in_ok-e.ensures.report in
    record {
      input = input;
      ended = c.in_ok-e.e.ended;
      counted = λ rest follows. f.counted ∙ ap length (season_text_lem (input ++ rest) (reports rest follows));
      laid = λ rest follows. f.filled ∙ ap (λ (text : List ℕ). overwritten text former) (season_text_lem (input ++ rest) (reports rest follows));
    }

pub returns-clause-known_count : goal.returns-clause-known_count
returns-clause-known_count g c =
    IfSome_then (g.R.Read.remaining c.args.stdin.now) c.in_ok-e.ensures.known_report
    (λ input e. (put_front c.put_report-count.ensures.put).counted ∙ ap length (season_text_lem input e))

pub returns-clause-known_output : goal.returns-clause-known_output
returns-clause-known_output g c =
    let former : List ℕ = c.args.output.now in
    IfSome_then (g.R.Read.remaining c.args.stdin.now) c.in_ok-e.ensures.known_report
    (λ input e.
    (put_front c.put_report-count.ensures.put).filled ∙ ap (λ (text : List ℕ). overwritten text former) (season_text_lem input e))
