-- The pull on a pixel as a pass sees it, from the pixel's up to four pairs. That it is the pull of crate `model` is proved in
-- proofs/Pull.antt.
use Rattle.std.specs.Prelude.{cond, ℕ, ◌+◌, ◌-◌, ◌*◌, ltb, ℤ, pos, ◌+ℤ◌, ◌-ℤ◌}

-- the number of the pair of a pixel and the one to its right
abbrev pub right_pair : ℕ → ℕ → ℕ → ℕ → ℕ
right_pair w h row column = w * (h - 1) + (row * (w - 1) + column)

-- The pull on a pixel (the divergence): its pairs with the pixel below and to the right, less those with the pixel above
-- and to the left
unfoldable pub gathered : ℕ → ℕ → (ℕ → ℤ) → ℕ → ℕ → ℤ
gathered w h f row column =
    (cond (ltb (row + 1) h) (f (row * w + column)) (pos 0)
    +ℤ cond (ltb (column + 1) w) (f (right_pair w h row column)) (pos 0))
    -ℤ (cond (ltb 0 row) (f ((row - 1) * w + column)) (pos 0)
    +ℤ cond (ltb 0 column) (f (right_pair w h row (column - 1))) (pos 0))
