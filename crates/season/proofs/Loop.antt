-- What the loop over a season's jobs keeps: the report on all input that begins with the bytes read so far is the report on
-- the bytes at hand and what follows, with the totals counted so far. Assumes nothing.
use mathlib.Core.Path.{◌≡◌, sym, ap, ◌∙◌, subst, subst₂}
use mathlib.Core.Bool.{Bool, true, false}
use mathlib.Core.List.{List, [], ◌++◌, append_assoc}
use Prim.Native.Nat.{ℕ, ◌-◌, zero-le}
use native.Mathlib.Omega.{arith}
use lib.IntN.{ℤ}
use lib.ListN.{length, drop}
use lib.Seq.{drop_at}
use Rattle.std.specs.Prelude.{Option}
use Rattle.std.specs.Prelude.{None, Some, IfSome}
use Rattle.std.specs.Io.KnownBytes.{Consumes, IsAtEnd}
use Rattle.std.proofs.KnownBytes.{Consumes-trans}
use Rattle.model.specs.declared.Lent.{Lent}
use Rattle.model.specs.Tape.{nothing}
use Rattle.model.specs.declared.Totals.{Totals}
use Rattle.model.specs.Season.{totals_of, Follows}
use Rattle.tape_records.specs.declared.state.ParserState.{ParserState}
use Rattle.tape_records.specs.State.{state_of}
use Rattle.tape_reader.specs.Scan.{Reached}
use Rattle.tape_reader.proofs.Reached as scan
use Rattle.stream.proofs.Sums.{bounded-none}
use Rattle.stream.specs.Report.{Report, report_from}
use Rattle.stream.specs.Jobs.{lent_in}
use Rattle.stream.specs.AtHand.{NeedsMore}
use Rattle.season.specs.declared.window.Window.{Window}
use Rattle.season.specs.declared.jobs.State.{State}
use Rattle.season.specs.declared.jobs.Ended.{Ended}
use Rattle.season.specs.Window.{at_hand, new_bytes, Grown}
use Rattle.season.specs.Jobs.{ValidState, Continues, Stops, ReportOf, KnownReport}
use Rattle.season.proofs.Steps.{size_of, more-valid}

-- the buffers keep their lengths
pub record SameLengths (buffer₀ samples₀ : List ℕ) (weights₀ flow₀ image₀ work₀ : List ℤ) (buffer samples : List ℕ)
    (weights flow image work : List ℤ) : Type 0 where
  pub buffer_length : length buffer ≡ length buffer₀
  pub samples_length : length samples ≡ length samples₀
  pub weights_length : length weights ≡ length weights₀
  pub flow_length : length flow ≡ length flow₀
  pub image_length : length image ≡ length image₀
  pub work_length : length work ≡ length work₀

-- .. so what a reading is lent stays the same
pub same-lent : {buffer₀ samples₀ : List ℕ} {weights₀ flow₀ image₀ work₀ : List ℤ} {buffer samples : List ℕ}
    {weights flow image work : List ℤ} →
    SameLengths buffer₀ samples₀ weights₀ flow₀ image₀ work₀ buffer samples weights flow image work →
    lent_in (length samples) (length weights) (length flow) ≡ lent_in (length samples₀) (length weights₀) (length flow₀)
same-lent k i = lent_in (k.samples_length i) (k.weights_length i) (k.flow_length i)

-- of a reader whose bytes are known these are the first; all, where the input has ended
pub record Taken (known now : Option (List ℕ)) (input : List ℕ) (w : Window) : Type 0 where
  pub first_bytes : Consumes known now input
  pub all_bytes : w.ended ≡ true → IsAtEnd now

-- so the report on them, whatever follows, is the report on all
reported : (lent : Lent) (t : Totals) (input : List ℕ) {r : Report} {ended : Bool} (known now : Option (List ℕ)) → Consumes known now input →
    (ended ≡ true → IsAtEnd now) → ((rest : List ℕ) → Follows ended rest → report_from lent t (input ++ rest) ≡ r) →
    IfSome known (λ (l : List ℕ). report_from lent t l ≡ r)
reported lent t input None now p q f = tt
reported lent t input (Some l) None p q f = absurd p
reported lent t input (Some l) (Some left) p q f = ap (report_from lent t) p ∙ f left q

pub record Invariant (lent : Lent) (buffer : List ℕ) (s : State) : Type 0 where
  pub input : List ℕ
  pub valid : ValidState lent buffer s
  pub report :
      (rest : List ℕ) → report_from lent (totals_of []) (input ++ rest) ≡ report_from lent s.totals (at_hand buffer s.window ++ rest)

module _ (lent : Lent) where
  abbrev unread : ParserState → Totals → State
  unread t n = record { window = record { start = 0; end = 0; ended = false }; at = 0; parser = t; totals = n }

  abbrev pub begins : (buffer : List ℕ) {t : ParserState} {n : Totals} → t ≡ state_of nothing → n ≡ totals_of [] → Invariant lent buffer (unread t n)
  begins buffer {t} {n} e f =
      record {
        input = [];
        valid =
            subst₂ (λ (x : ParserState) (y : Totals). ValidState lent buffer (unread x y)) (sym e) (sym f)
            (record {
              within = record { ordered = zero-le; inside = zero-le };
              reached = scan.start [] lent;
              near = zero-le;
              bounded = bounded-none;
              not_last = omega arith;
            });
        report = λ rest. ap (λ (y : Totals). report_from lent y rest) (sym f);
      }

  module _ {buffer : List ℕ} {s : State} (k : Invariant lent buffer s) where
    abbrev pub continued : {r : State} → Continues lent buffer s.window s.totals r → Invariant lent buffer r
    continued {r} g =
        record {
          input = k.input;
          valid =
              record {
                within = g.within;
                reached =
                    subst₂ (λ (t : ParserState) (o : ℕ). Reached (at_hand buffer r.window) lent t o) (sym g.unread) (sym g.first)
                    (scan.start (at_hand buffer r.window) lent);
                near = omega (arith, g.first);
                bounded = g.bounded;
                not_last = g.not_last;
              };
          report = λ rest. k.report rest ∙ g.report rest;
        }

    abbrev pub grown : {t : ParserState} {at : ℕ} {later : List ℕ} {i : Window} →
        NeedsMore (at_hand buffer s.window) s.window.ended lent t at → Grown buffer s.window later i →
        Invariant lent later (record { window = i; at = at; parser = t; totals = s.totals })
    grown {later = later} {i} h g =
        record {
          input = k.input ++ g.more;
          valid = more-valid k.valid h g;
          report =
              λ rest.
              ap (report_from lent (totals_of [])) (append_assoc k.input g.more rest)
              ∙ k.report (g.more ++ rest)
              ∙ ap (report_from lent s.totals) (sym (append_assoc (at_hand buffer s.window) g.more rest) ∙ ap (λ (l : List ℕ). l ++ rest) (sym g.grown));
        }

    pub stopped : {e : Ended} → Stops lent buffer s.window s.totals e → ReportOf lent e
    stopped g = (k.input, λ rest f. k.report rest ∙ g.report rest f)

    -- what came is what was read next
    pub came : {later : List ℕ} {i : Window} (g : Grown buffer s.window later i) → new_bytes s.window later i ≡ g.more
    came g =
        ap (drop (s.window.end - s.window.start)) g.grown
        ∙ drop_at (at_hand buffer s.window) g.more (s.window.end - s.window.start) (size_of buffer s.window k.valid.within)

    -- where the bytes are known
    module _ {known now : Option (List ℕ)} (h : Taken known now k.input s.window) where
      pub taken-on : {r : State} (g : Continues lent buffer s.window s.totals r) → Taken known now (continued g).input r.window
      taken-on g = record { first_bytes = h.first_bytes; all_bytes = λ e. h.all_bytes (sym g.ended ∙ e) }

      pub taken_more : {t : ParserState} {at : ℕ} {later : List ℕ} {i : Window} (n : NeedsMore (at_hand buffer s.window) s.window.ended lent t at)
          (g : Grown buffer s.window later i) {next : Option (List ℕ)} → Consumes now next (new_bytes s.window later i) →
          (i.ended ≡ true → IsAtEnd next) → Taken known next (grown n g).input i
      taken_more n g {next} first all =
          record {
            first_bytes = Consumes-trans known now next k.input g.more h.first_bytes (subst (Consumes now next) (came g) first);
            all_bytes = all;
          }

      pub known_report : {e : Ended} → Stops lent buffer s.window s.totals e → KnownReport lent known e
      known_report {e} g =
          reported lent (totals_of []) k.input known now h.first_bytes (λ z. h.all_bytes (sym g.ended ∙ z)) (λ rest f. k.report rest ∙ g.report rest f)
