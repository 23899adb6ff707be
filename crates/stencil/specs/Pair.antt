-- What a step makes of one pair, from its number and its pixels' values, by the share of the fall that it adds. That this is
-- the step of crate `model` is proved in passes/proofs/Model.antt.
use Rattle.std.specs.Prelude.{Bool, not, ℤ, neg_ℤ, ◌+ℤ◌, ◌-ℤ◌}
use Rattle.integers.specs.Whole.{clamp, same_z}

-- The number of a pair after a step, from its number f and its pixels' values x and y
unfoldable pub step_value : (ℤ → ℤ) → ℤ → ℤ → ℤ → ℤ → ℤ
step_value share weight f x y = clamp (neg_ℤ weight) weight (f +ℤ share (x -ℤ y))

-- whether the step would change it
abbrev pub moves : (ℤ → ℤ) → ℤ → ℤ → ℤ → ℤ → Bool
moves share weight f x y = not (same_z (step_value share weight f x y) f)
