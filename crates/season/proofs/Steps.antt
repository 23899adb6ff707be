-- A step of a season: behind a job that was counted, with more bytes at hand, or to the season's end. Assumes nothing.
use mathlib.Core.Path.{◌≡◌, refl, ap, ◌∙◌}
use mathlib.Core.Bool.{Bool, true, false, cond, true≢false}
use mathlib.Core.List.{List, ◌++◌}
use Prim.Native.Nat.{ℕ, ◌+◌, ◌-◌, ◌*◌, ◌≤◌, ◌<◌}
use native.Mathlib.Omega.{arith}
use lib.ListN.{length, take, drop, length-drop, length-append}
use lib.Seq.{take-append-le, drop-drop}
use Rattle.model.specs.Verdict.{Accept}
use Rattle.model.specs.declared.Lent.{Lent}
use Rattle.model.specs.declared.Totals.{Totals}
use Rattle.model.specs.Tape.{nothing}
use Rattle.tape_records.specs.declared.state.ParserState.{ParserState}
use Rattle.tape_records.specs.State.{state_of}
use Rattle.tape_reader.proofs.Reached as scan
use Rattle.stream.specs.Report.{report_from}
use Rattle.stream.specs.AtHand.{Reports, CountsJob, NeedsMore}
use Rattle.stream.proofs.Reports.{full_report}
use Rattle.season.specs.declared.window.Window.{Window}
use Rattle.season.specs.declared.jobs.State.{State}
use Rattle.season.specs.Window.{at_hand, WindowIn, Grown}
use Rattle.season.specs.Jobs.{ValidState, left, Continues}
use Rattle.lists.proofs.Parts.{drop-take, part_length}

-- how many bytes are at hand
pub size_of : (buffer : List ℕ) (w : Window) → WindowIn buffer w → length (at_hand buffer w) ≡ w.end - w.start
size_of buffer w l = part_length w.start (w.end - w.start) buffer (omega (arith, l.inside))

-- behind a job
module _ (lent : Lent) (buffer : List ℕ) (w : Window) (within : WindowIn buffer w) {totals after : Totals} {n : ℕ}
    (g : CountsJob (at_hand buffer w) lent totals after n) where
  abbrev behind : Window
  behind = record { start = w.start + n; end = w.end; ended = w.ended }

  size : length (at_hand buffer w) ≡ w.end - w.start
  size = size_of buffer w within

  rest_of : drop n (at_hand buffer w) ≡ at_hand buffer behind
  rest_of =
      let fewer : w.end - w.start - n ≡ w.end - (w.start + n) = omega arith in
      drop-take n (w.end - w.start) (drop w.start buffer) (omega (arith, size, g.inside)) (omega (arith, length-drop w.start buffer, within.inside))
      ∙ ap (take (w.end - w.start - n)) (drop-drop n w.start buffer)
      ∙ ap (λ (k : ℕ). take k (drop (w.start + n) buffer)) fewer

  pub job-counted : after.jobs < 65535 → Continues lent buffer w totals (record { window = behind; at = 0; parser = state_of nothing; totals = after })
  job-counted few =
      record {
        within = record { ordered = omega (arith, size, g.inside, within.ordered); inside = within.inside };
        ended = refl;
        first = refl;
        unread = refl;
        bounded = g.bounded;
        one = g.one;
        not_last = few;
        report = λ rest. g.report rest ∙ ap (λ (l : List ℕ). report_from lent after (l ++ rest)) rest_of;
      }

  -- the last job
  pub last_counted : totals.jobs < 65535 → 65535 ≤ after.jobs →
      Reports (at_hand buffer w) w.ended lent totals (record { totals = after; ending = Accept })
  last_counted few l rest _ = g.report rest ∙ full_report lent after (drop n (at_hand buffer w) ++ rest) (omega (arith, g.one))

-- less is left to do behind a job
pub less_left : {lent : Lent} {buffer : List ℕ} (s : State) {r : State} → s.totals.jobs < 65535 →
    Continues lent buffer s.window s.totals r → left r < left s
less_left s {r} few g = go r.window.ended s.window.ended
  where
    go : (b c : Bool) →
        (65535 - r.totals.jobs) * 131076 + (2 * (65537 - (r.window.end - r.window.start)) + cond b 0 1)
        < (65535 - s.totals.jobs) * 131076 + (2 * (65537 - (s.window.end - s.window.start)) + cond c 0 1)
    go true true = omega (arith, g.one)
    go true false = omega (arith, g.one)
    go false true = omega (arith, g.one)
    go false false = omega (arith, g.one)

-- with more bytes
module _ {lent : Lent} {buffer : List ℕ} {s : State} (st : ValidState lent buffer s) {t : ParserState} {at : ℕ}
    (h : NeedsMore (at_hand buffer s.window) s.window.ended lent t at) {later : List ℕ} {i : Window}
    (g : Grown buffer s.window later i) where
  abbrev longer : State
  longer = record { window = i; at = at; parser = t; totals = s.totals }

  now : length (at_hand buffer s.window) ≡ s.window.end - s.window.start
  now = size_of buffer s.window st.within

  grows : i.end - i.start ≡ s.window.end - s.window.start + length g.more
  grows = omega (arith, now, size_of later i g.within, ap length g.grown, length-append (at_hand buffer s.window) g.more)

  pub nearer : left longer < left s
  nearer = go i.ended refl s.window.ended h.not_ended
    where
      go : (b : Bool) → i.ended ≡ b → (c : Bool) → c ≡ false →
          (65535 - s.totals.jobs) * 131076 + (2 * (65537 - (i.end - i.start)) + cond b 0 1)
          < (65535 - s.totals.jobs) * 131076 + (2 * (65537 - (s.window.end - s.window.start)) + cond c 0 1)
      go b e true z = absurd (true≢false z)
      go true e false z = omega (arith, grows)
      go false e false z = omega (arith, grows, now, h.few, g.some e)

  pub more-valid : ValidState lent later longer
  more-valid =
      record {
        within = g.within;
        reached =
            scan.moved h.reached (at_hand later i) (omega (arith, h.reached.inside, ap length g.grown, length-append (at_hand buffer s.window) g.more))
            (ap (take at) g.grown ∙ take-append-le at (at_hand buffer s.window) g.more h.reached.inside);
        near = omega (arith, h.reached.inside, h.few);
        bounded = st.bounded;
        not_last = st.not_last;
      }
