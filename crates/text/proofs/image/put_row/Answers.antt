use native.Mathlib.Omega.{arith}
use borrow.Author.Rules.{rules}
use mathlib.Core.Path.{◌≡◌, ap}
use mathlib.Core.Bool.{cond}
use Prim.Native.Nat.{ℕ}
use lib.Dec.{eqb}
use lib.IntN.{ℤ}
use lib.ListN.{length}
use mir.Syntax.{w32}
use mir.Val.{to_z, of_z}
use Rattle.lists.specs.Lists.{at, chain}
use Rattle.model.specs.Text.{ascii, signed_decimal}
use Rattle.model.specs.Program.{field}
use Rattle.output.proofs.Puts.{put_as, put_within, chain-start, chain_next}
use Rattle.text.proofs.image.put_row.Invariants.{values}
use Rattle.text.proofs.image.put_row.Goals as goal

pub loop-column-init : goal.loop-column-init
loop-column-init c = record { written = chain-start _; upper_bound = omega arith }

pub loop-column-preserved : goal.loop-column-preserved
loop-column-preserved c =
    let z : ℤ = at c.args.row.now c.loop-column.column in
    let read : to_z w32 (of_z w32 z) ≡ z = search rules in
    record {
      written =
          chain_next (values c.args.row.now) c.loop-column.column c.loop-column.invariant.written
          (put_as (ap (λ (y : ℤ). cond (eqb c.loop-column.column 0) (signed_decimal y) (field (signed_decimal y))) read) c.put_value-next.ensures.put)
          (omega arith);
      upper_bound = omega arith;
    }

pub returns-clause-put : goal.returns-clause-put
unfolding ascii
returns-clause-put c =
    let all : c.loop-column.column ≡ length c.args.row.now = omega arith in
    put_within (put_as (ap (λ (n : ℕ). chain n (values c.args.row.now)) all) c.loop-column.invariant.written) c.put_byte.ensures (omega arith)
