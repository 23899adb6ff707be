-- Where the records of a job stand on its tape: three of the header, 5 bytes each, the samples, 2 bytes each, the pair
-- weights, 3 bytes each, the flow numbers, 5 bytes each, and the end. Assumes nothing.
use mathlib.Core.Path.{◌≡◌, refl, ◌∙◌}
use mathlib.Core.List.{List, ◌++◌, append_assoc}
use Prim.Native.Nat.{ℕ, ◌+◌, ◌*◌, ◌<◌}
use native.Mathlib.Omega.{arith}
use lib.IntN.{ℤ, nat_abs}
use lib.ListN.{length, get_or, drop, length-append}
use Rattle.model.specs.declared.Terms.{Terms}
use Rattle.model.specs.declared.Rounds.{Rounds}
use Rattle.model.specs.declared.Entry.TheVariants.{End, Size, WeightBox, RoundLimits, Sample, Flow, PairWeight}
use Rattle.lists.specs.Lists.{at, chain}
use Rattle.model.specs.Tape.{encoded, tape_of}
use Rattle.lists.proofs.Chains.{length-chain, member_here, behind-here}

module _ (t : Terms) (r : Rounds) (s : List ℕ) (w f : List ℤ) where
  abbrev pub header : List ℕ
  header =
      encoded (Size t.width t.height)
      ++ encoded (WeightBox t.weight t.low t.high)
      ++ encoded (RoundLimits r.quick r.allowance)

  abbrev sample_at : ℕ → List ℕ
  sample_at i = encoded (Sample (get_or s i 0))

  abbrev weight_at : ℕ → List ℕ
  weight_at j = encoded (PairWeight (nat_abs (at w j)))

  abbrev flow_at : ℕ → List ℕ
  flow_at j = encoded (Flow (at f j))

  abbrev pub samples : List ℕ
  samples = chain (length s) sample_at

  abbrev pub weights : List ℕ
  weights = chain (length w) weight_at

  abbrev pub flow : List ℕ
  flow = chain (length f) flow_at

  abbrev pub SectionLengths : Type 0
  SectionLengths = (length samples ≡ length s * 2) × (length weights ≡ length w * 3) × (length flow ≡ length f * 5)

  pub section_lengths : SectionLengths
  section_lengths = (
    length-chain 2 sample_at (λ _. refl) (length s),
    length-chain 3 weight_at (λ _. refl) (length w),
    length-chain 5 flow_at (λ _. refl) (length f),
  )

  pub tape_length : length (tape_of t r s w f) ≡ 16 + 2 * length s + 3 * length w + 5 * length f
  unfolding tape_of
  tape_length =
      omega (
        arith,
        length-append (header ++ samples ++ weights ++ flow) (encoded End),
        length-append (header ++ samples ++ weights) flow,
        length-append (header ++ samples) weights,
        length-append header samples,
        section_lengths,
      )

  -- what begins behind the header, behind the samples, behind the weights and behind the flow
  past_header : drop 15 (tape_of t r s w f) ≡ samples ++ (weights ++ (flow ++ encoded End))
  unfolding tape_of
  past_header = append_assoc (samples ++ weights) flow (encoded End) ∙ append_assoc samples weights (flow ++ encoded End)

  past_samples : drop (15 + length s * 2) (tape_of t r s w f) ≡ weights ++ (flow ++ encoded End)
  past_samples = behind-here 2 sample_at (λ _. refl) (tape_of t r s w f) 15 (length s) _ past_header

  past_weights : drop (15 + length s * 2 + length w * 3) (tape_of t r s w f) ≡ flow ++ encoded End
  past_weights = behind-here 3 weight_at (λ _. refl) (tape_of t r s w f) (15 + length s * 2) (length w) _ past_samples

  pub end_here : drop (15 + length s * 2 + length w * 3 + length f * 5) (tape_of t r s w f) ≡ encoded End
  end_here = behind-here 5 flow_at (λ _. refl) (tape_of t r s w f) (15 + length s * 2 + length w * 3) (length f) _ past_weights

  -- the records of each
  pub sample_here : (i : ℕ) → i < length s → (rest : List ℕ) × (drop (15 + i * 2) (tape_of t r s w f) ≡ sample_at i ++ rest)
  sample_here = member_here 2 sample_at (λ _. refl) (tape_of t r s w f) 15 (length s) _ past_header

  pub weight-here : (j : ℕ) → j < length w →
      (rest : List ℕ) × (drop (15 + length s * 2 + j * 3) (tape_of t r s w f) ≡ weight_at j ++ rest)
  weight-here = member_here 3 weight_at (λ _. refl) (tape_of t r s w f) (15 + length s * 2) (length w) _ past_samples

  pub flow-here : (j : ℕ) → j < length f →
      (rest : List ℕ) × (drop (15 + length s * 2 + length w * 3 + j * 5) (tape_of t r s w f) ≡ flow_at j ++ rest)
  flow-here = member_here 5 flow_at (λ _. refl) (tape_of t r s w f) (15 + length s * 2 + length w * 3) (length f) _ past_weights

  pub header-here :
      (drop 0 (tape_of t r s w f) ≡ encoded (Size t.width t.height) ++ drop 5 (tape_of t r s w f))
      × (drop 5 (tape_of t r s w f) ≡ encoded (WeightBox t.weight t.low t.high) ++ drop 10 (tape_of t r s w f))
      × (drop 10 (tape_of t r s w f) ≡ encoded (RoundLimits r.quick r.allowance) ++ drop 15 (tape_of t r s w f))
  unfolding tape_of
  header-here = (refl, refl, refl)
