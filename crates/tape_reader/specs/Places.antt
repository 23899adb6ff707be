-- Where the numbers of a whole tape stand: from an offset on, one record after another, each with its kind byte first.
use Rattle.std.specs.Prelude.{Bool, cond, List, ℕ, ◌+◌, ◌*◌, eqb, ltb, nat_abs}
use Rattle.tape_records.specs.Sections.{pair_weight_at, number_at}

-- the weight of pair j, of so many weight records from an offset on: its own, or, where there are none, the terms' weight
abbrev pub own_weight : (tape : List ℕ) (weight weights_at weight_count j : ℕ) → ℕ
own_weight tape weight weights_at weight_count j = cond (eqb weight_count 0) weight (pair_weight_at tape (weights_at + 3 * j))

-- whether the number of pair j, of flow records from an offset on, is beyond ± that weight
abbrev pub beyond_own : (tape : List ℕ) (weight weights_at weight_count flow_at j : ℕ) → Bool
beyond_own tape weight weights_at weight_count flow_at j =
    ltb (own_weight tape weight weights_at weight_count j) (nat_abs (number_at tape (flow_at + 5 * j)))
