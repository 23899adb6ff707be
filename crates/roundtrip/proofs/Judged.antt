-- What reading gives once the records have been read: 8 is judged when the whole tape has passed. Assumes nothing.
use mathlib.Core.Path.{◌≡◌, refl, ap, ◌∙◌, subst}
use mathlib.Core.Bool.{Bool}
use mathlib.Core.List.{List, [], ◌∷◌}
use Prim.Native.Nat.{ℕ, zero, suc, ◌≤◌, ◌<◌}
use native.Mathlib.Omega.{arith}
use lib.IntN.{ℤ}
use lib.ListN.{length}
use borrow.Author.Tests.{lt-ltb, le-ltb, ltb-false}
use Rattle.model.specs.Verdict.{Verdict, Accept, Refuse, first_refusal}
use Rattle.model.specs.Grid.{weight_of}
use Rattle.model.specs.Calls.{first_beyond, flow_row}
use Rattle.model.specs.Tape.{Progress, nothing, Parse, turned, whole, parse_from, unless, judged, parse, read_of, read_answer, read_samples, read_weights, read_flow, samples_after, weights_after, flow_after, lent_by}
use Rattle.model.proofs.Refusals.{accepted, refused, passed, accepted-row, refused-number}
use Rattle.model.specs.declared.Lent.{Lent}
use Rattle.roundtrip.proofs.Turns.{Turn, turn}

-- the first number beyond its pair's weight
abbrev first : Progress → ℕ
first p = first_beyond (weight_of p.terms p.weights) p.flow

module _ (tape samples : List ℕ) (weights flow : List ℤ) where
  abbrev pub all : Parse
  all = parse_from (suc (length tape)) tape (lent_by samples weights flow) 0 nothing

  pub refused-parse : {n q : ℕ} → all ≡ turned n q → parse tape (lent_by samples weights flow) ≡ turned n q
  unfolding parse
  refused-parse e = ap judged e

  module _ (p : Progress) (e : all ≡ whole p) where
    pub beyond_parse : first p < length p.flow → parse tape (lent_by samples weights flow) ≡ turned 8 (first p)
    unfolding parse
    beyond_parse h = ap judged e ∙ ap (λ (v : Verdict). unless v (whole p)) (refused _ _ (lt-ltb _ _ h))

    pub whole-parse : length p.flow ≤ first p → parse tape (lent_by samples weights flow) ≡ whole p
    unfolding parse
    whole-parse h = ap judged e ∙ ap (λ (v : Verdict). unless v (whole p)) (passed _ _ (le-ltb _ _ h) ∙ accepted)

  -- the answer and the buffers by the parse
  module _ {r : Parse} (e : parse tape (lent_by samples weights flow) ≡ r) where
    pub answer-by : read_answer tape samples weights flow ≡ read_of r
    unfolding read_answer
    answer-by = ap read_of e

    pub samples-by : read_samples tape samples weights flow ≡ samples_after r samples
    unfolding read_samples
    samples-by = ap (λ (x : Parse). samples_after x samples) e

    pub weights-by : read_weights tape samples weights flow ≡ weights_after r weights
    unfolding read_weights
    weights-by = ap (λ (x : Parse). weights_after x weights) e

    pub flow-by : read_flow tape samples weights flow ≡ flow_after r flow
    unfolding read_flow
    flow-by = ap (λ (x : Parse). flow_after x flow) e

-- ---- an answer with number 0 is an acceptance

turned-number : (tape : List ℕ) (lent : Lent) (k o : ℕ) (p : Progress) {n q : ℕ} →
    parse_from k tape lent o p ≡ turned n q → 0 < n
unfolding parse_from
turned-number tape lent zero o p e = let number = ap (λ (r : Parse). (read_of r).number) e in omega (arith, number)
turned-number tape lent (suc k) o p {n} {q} e = go (turn tape lent k o p) e (λ o p. turned-number tape lent k o p)
  where
    go : {v : Verdict} {end : Bool} {r : Parse} → Turn tape lent k o p v end r → r ≡ turned n q →
        ((o : ℕ) (p : Progress) → parse_from k tape lent o p ≡ turned n q → 0 < n) → 0 < n
    go (Turn.refuse m l h) w ih = let same : m ≡ n = cc in omega arith
    go (Turn.done h z) w ih = let z : ◌≡◌ {A = ℕ} 0 1 = cc in absurd (omega arith)
    go (Turn.more h v z) w ih = ih _ _ w

-- a parse that passed: the scan passed, and no number is beyond its pair's weight
unless-whole : (p : Progress) (v : Verdict) {q : Progress} → unless v (whole p) ≡ whole q → (v ≡ Accept) × (p ≡ q)
unless-whole p Accept e = (refl, cc)
unless-whole p (Refuse n o) e = (cc, cc)

module _ (tape samples : List ℕ) (weights flow : List ℤ) where
  pub passed_parse : (p : Progress) → parse tape (lent_by samples weights flow) ≡ whole p →
      (all tape samples weights flow ≡ whole p) × (length p.flow ≤ first p)
  unfolding parse
  passed_parse p h = go (all tape samples weights flow) refl h
    where
      go : (r : Parse) → all tape samples weights flow ≡ r → judged r ≡ whole p →
          (all tape samples weights flow ≡ whole p) × (length p.flow ≤ first p)
      go (turned n q) e k = let z : ◌≡◌ {A = ℕ} 0 1 = cc in absurd (omega arith)
      go (whole o) e k =
          let c = unless-whole o (first_refusal (flow_row (weight_of o.terms o.weights) o.flow ∷ [])) k in
          let l : length o.flow ≤ first o = ltb-false _ _ (accepted-row _ _ c.0).0 in
          (e ∙ ap whole c.1, subst (λ (x : Progress). length x.flow ≤ first x) c.1 l)

  pub accepted-parse : (read_answer tape samples weights flow).number ≡ 0 →
      (p : Progress) × (parse tape (lent_by samples weights flow) ≡ whole p)
  unfolding read_answer parse
  accepted-parse h = go (all tape samples weights flow) refl h
    where
      decide : (o : Progress) (v : Verdict) → first_refusal (flow_row (weight_of o.terms o.weights) o.flow ∷ []) ≡ v →
          (read_of (unless v (whole o))).number ≡ 0 →
          (p : Progress) × (unless v (whole o) ≡ whole p)
      decide o Accept e z = (o, refl)
      decide o (Refuse n q) e z =
          absurd (omega (arith, refused-number (flow_row (weight_of o.terms o.weights) o.flow ∷ []) (omega arith) e))

      go : (r : Parse) → all tape samples weights flow ≡ r → (read_of (judged r)).number ≡ 0 → (p : Progress) × (judged r ≡ whole p)
      go (turned n q) e z =
          absurd (omega (arith, turned-number tape (lent_by samples weights flow) (suc (length tape)) 0 nothing e))
      go (whole o) e z = decide o _ refl z
