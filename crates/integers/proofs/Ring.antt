-- The laws of sum, difference and product that the kit's `lib.IntN` leaves out (it has the group's laws, `*ℤ-comm`,
-- `zero-*ℤ` and `*ℤ-zero`). Each also shows how an equation is closed by parts.
use mathlib.Core.Path.{◌≡◌}
use lib.IntN.{ℤ, pos, neg_ℤ, ◌+ℤ◌, ◌-ℤ◌, ◌*ℤ◌}
use Rattle.integers.specs.Whole.{square}
use Rattle.integers.proofs.Parts.{parts, whole, by-≡}

module _ (a b c : ℤ) where
  pub *ℤ-assoc : a *ℤ b *ℤ c ≡ a *ℤ (b *ℤ c)
  *ℤ-assoc = by-≡ (search parts depth 12) (omega whole)

  pub *ℤ-+ℤ : a *ℤ (b +ℤ c) ≡ a *ℤ b +ℤ a *ℤ c
  *ℤ-+ℤ = by-≡ (search parts depth 12) (omega whole)

  pub +ℤ-*ℤ : (a +ℤ b) *ℤ c ≡ a *ℤ c +ℤ b *ℤ c
  +ℤ-*ℤ = by-≡ (search parts depth 12) (omega whole)

  pub *ℤ--ℤ : a *ℤ (b -ℤ c) ≡ a *ℤ b -ℤ a *ℤ c
  *ℤ--ℤ = by-≡ (search parts depth 12) (omega whole)

  pub -ℤ-*ℤ : (a -ℤ b) *ℤ c ≡ a *ℤ c -ℤ b *ℤ c
  -ℤ-*ℤ = by-≡ (search parts depth 12) (omega whole)

  pub *ℤ-left-comm : a *ℤ (b *ℤ c) ≡ b *ℤ (a *ℤ c)
  *ℤ-left-comm = by-≡ (search parts depth 12) (omega whole)

  -- two steps make one
  pub -ℤ-chain : (a -ℤ b) +ℤ (b -ℤ c) ≡ a -ℤ c
  -ℤ-chain = by-≡ (search parts depth 12) (omega whole)

module _ (a b : ℤ) where
  pub *ℤ-neg_ℤ : a *ℤ neg_ℤ b ≡ neg_ℤ (a *ℤ b)
  *ℤ-neg_ℤ = by-≡ (search parts depth 12) (omega whole)

  pub neg_ℤ-*ℤ : neg_ℤ a *ℤ b ≡ neg_ℤ (a *ℤ b)
  neg_ℤ-*ℤ = by-≡ (search parts depth 12) (omega whole)

  pub neg_ℤ--ℤ : neg_ℤ (a -ℤ b) ≡ b -ℤ a
  neg_ℤ--ℤ = by-≡ (search parts depth 12) (omega whole)

  pub square-+ℤ : square (a +ℤ b) ≡ square a +ℤ pos 2 *ℤ (a *ℤ b) +ℤ square b
  square-+ℤ = by-≡ (search parts depth 12) (omega whole)

  pub square--ℤ : square (a -ℤ b) ≡ square a -ℤ pos 2 *ℤ (a *ℤ b) +ℤ square b
  square--ℤ = by-≡ (search parts depth 12) (omega whole)

  pub square-*ℤ : square (a *ℤ b) ≡ square a *ℤ square b
  square-*ℤ = by-≡ (search parts depth 12) (omega whole)

module _ (a b c d : ℤ) where
  pub +ℤ-swap : (a +ℤ b) +ℤ (c +ℤ d) ≡ (a +ℤ c) +ℤ (b +ℤ d)
  +ℤ-swap = by-≡ (search parts depth 12) (omega whole)

  pub -ℤ-swap : (a +ℤ b) -ℤ (c +ℤ d) ≡ (a -ℤ c) +ℤ (b -ℤ d)
  -ℤ-swap = by-≡ (search parts depth 12) (omega whole)

  pub *ℤ-swap : a *ℤ b *ℤ (c *ℤ d) ≡ a *ℤ c *ℤ (b *ℤ d)
  *ℤ-swap = by-≡ (search parts depth 12) (omega whole)

  pub +ℤ-*ℤ-+ℤ : (a +ℤ b) *ℤ (c +ℤ d) ≡ a *ℤ c +ℤ a *ℤ d +ℤ (b *ℤ c +ℤ b *ℤ d)
  +ℤ-*ℤ-+ℤ = by-≡ (search parts depth 12) (omega whole)

module _ (a : ℤ) where
  pub pos1-*ℤ : pos 1 *ℤ a ≡ a
  pos1-*ℤ = by-≡ (search parts depth 12) (omega whole)

  pub *ℤ-pos1 : a *ℤ pos 1 ≡ a
  *ℤ-pos1 = by-≡ (search parts depth 12) (omega whole)

  pub -ℤ-zero : a -ℤ pos 0 ≡ a
  -ℤ-zero = by-≡ (search parts depth 12) (omega whole)

  pub zero--ℤ : pos 0 -ℤ a ≡ neg_ℤ a
  zero--ℤ = by-≡ (search parts depth 12) (omega whole)

  pub square-neg_ℤ : square (neg_ℤ a) ≡ square a
  square-neg_ℤ = by-≡ (search parts depth 12) (omega whole)
