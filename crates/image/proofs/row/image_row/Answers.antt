use mathlib.Core.Path.{◌≡◌, refl, ap₂}
use Prim.Native.Nat.{zero-le}
use borrow.Author.Rules.{rules}
use native.Mathlib.Numerals.{add-one}
use native.Mathlib.Omega.{arith}
use lib.IntN.{ℤ, pos}
use lib.ListN.{length, get_or-eq_default}
use mir.Syntax.{w32}
use mir.Val.{to_z, of_z}
use Rattle.integers.proofs.Machine.{read}
use Rattle.lists.specs.Lists.{at}
use Rattle.passes.proofs.Elements.{element}
use Rattle.lists.proofs.Fill.{filling_none, filling_more, filling_all}
use Rattle.integers.specs.Whole.{clamp}
use Rattle.image.proofs.Columns.{column_limits, clamped_between}
use Rattle.image.proofs.row.image_row.Goals as goal

-- a value by these two ends
by-ends : {low high from to : ℤ} (value : ℤ) → from ≡ low → to ≡ high → clamp from to value ≡ clamp low high value
by-ends value = ap₂ (λ (low high : ℤ). clamp low high value)

pub loop-c-init : goal.loop-c-init
loop-c-init c = (filling_none _ _, refl)

pub column_value-requires : goal.column_value-requires
column_value-requires c =
    let l = c.loop-c in
    rw (element c.args.across.now c.requires.across_most l.c, l.invariant.1)
    (column_limits c.requires l.c (omega (arith, c.requires)) (at c.args.across.now l.c) (c.requires.across_most l.c))

pub loop-c-preserved : goal.loop-c-preserved
loop-c-preserved c =
    let l = c.loop-c in (
      filling_more l.invariant.0 (omega (arith, c.requires)) (rw (read w32 {r = c.column_value.result} c.column_value.type_inv, c.column_value.ensures, element c.args.across.now c.requires.across_most l.c, l.invariant.1) (by-ends _ (search rules) (search rules))),
      rw (add-one l.c) (element c.args.across.now c.requires.across_most l.c),
    )

-- the loop ends at the last column
pub column_value-requires-2 : goal.column_value-requires-2
column_value-requires-2 c =
    let l = c.loop-c in
    let last : l.c ≡ length c.args.across.now = omega arith in
    rw (l.invariant.1, last) (column_limits c.requires (length c.args.across.now) (omega (arith, c.requires)) (pos 0) zero-le)

pub returns : goal.returns
returns c =
    let l = c.loop-c in
    let n = length c.args.across.now in
    let last : l.c ≡ n = omega arith in
    let past : at c.args.across.now n ≡ pos 0 = get_or-eq_default c.args.across.now (pos 0) (omega arith) in
    let filling = rw last at l.invariant.0 in
    let left = rw last at l.invariant.1 in
    let row =
    filling_all
    (filling_more filling {x = to_z w32 (of_z w32 c.column_value-2.result)} (omega (arith, c.requires)) (rw (read w32 {r = c.column_value-2.result} c.column_value-2.type_inv, c.column_value-2.ensures, past, left) (by-ends _ (search rules) (search rules))))
    (omega (arith, c.requires))
    in
    record { row_after = row; between = λ o. rw row (clamped_between o (length c.args.row.now) _) }
