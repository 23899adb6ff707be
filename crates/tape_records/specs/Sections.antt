-- The numbers of records that a tape repeats, where they stand: each record has its kind byte first.
use Rattle.std.specs.Prelude.{List, ◌≡◌, ℕ, ◌+◌, ℤ, get_or}
use Rattle.std.proofs.Math.Path.{sym, ap}
use Rattle.std.proofs.Math.Nat.{add-zero}
use Rattle.model.specs.declared.Entry.TheVariants.{Sample, Flow, PairWeight}
use Rattle.model.specs.Tape.{from_two, from_four, kinds, decoded}

-- the weight of the pair whose record stands at offset o
abbrev pub pair_weight_at : List ℕ → ℕ → ℕ
pair_weight_at tape o = from_two (get_or tape (o + 1) 0) (get_or tape (o + 1 + 1) 0)

-- the number of the flow record at offset o
abbrev pub number_at : List ℕ → ℕ → ℤ
number_at tape o =
    from_four (get_or tape (o + 1) 0) (get_or tape (o + 1 + 1) 0) (get_or tape (o + 1 + 2) 0) (get_or tape (o + 1 + 3) 0)

-- Proved: these are the numbers of the records that the definition of the tape reads there
module _ (tape : List ℕ) (o : ℕ) where
  -- the first byte of a body, as it is counted here and there
  first_byte : o + 1 ≡ o + 1 + 0
  first_byte = sym (add-zero (o + 1))

  pub sample_read : Sample (get_or tape (o + 1) 0) ≡ decoded 4 (λ i. get_or tape (o + 1 + i) 0)
  unfolding kinds
  sample_read = ap (λ (n : ℕ). Sample (get_or tape n 0)) first_byte

  pub pair_weight_read : PairWeight (pair_weight_at tape o) ≡ decoded 6 (λ i. get_or tape (o + 1 + i) 0)
  unfolding kinds
  pair_weight_read = ap (λ (n : ℕ). PairWeight (from_two (get_or tape n 0) (get_or tape (o + 1 + 1) 0))) first_byte

  pub flow_read : Flow (number_at tape o) ≡ decoded 5 (λ i. get_or tape (o + 1 + i) 0)
  unfolding kinds
  flow_read =
      ap
      (λ (n : ℕ). Flow (from_four (get_or tape n 0) (get_or tape (o + 1 + 1) 0) (get_or tape (o + 1 + 2) 0) (get_or tape (o + 1 + 3) 0)))
      first_byte
