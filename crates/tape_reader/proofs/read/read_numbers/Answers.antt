use mathlib.Core.Path.{◌≡◌, refl, sym, ap, ◌∙◌}
use mathlib.Core.Bool.{Bool, true, false, cond}
use mathlib.Core.List.{List}
use Prim.Native.Nat.{ℕ, ◌≤◌, ◌<◌}
use native.Mathlib.Omega.{arith}
use borrow.Author.Tests.{ltb-true, ltb-false}
use lib.Dec.{ltb}
use lib.IntN.{ℤ}
use lib.ListN.{get_or}
use mir.Syntax.{w8}
use mir.Val.{Fits}
use Rattle.std.specs.Prelude.{Some, None}
use Rattle.lists.specs.Lists.{below}
use Rattle.model.specs.Tape.{parse, turned, lent_by}
use Rattle.tape_records.specs.declared.state.ParserState.{ParserState}
use Rattle.tape_reader.specs.Scan.{WholeRecords}
use Rattle.tape_reader.proofs.Numbers.{first_on}
use Rattle.tape_reader.proofs.Passed.{Room, room, beyond, left}
use Rattle.roundtrip.proofs.Judged.{answer-by, samples-by, weights-by, flow-by}
use Rattle.tape_reader.proofs.read.read_numbers.Goals as goal

byte : (tape : List ℕ) → ((i : ℕ) → Fits w8 (get_or tape i 0)) → (i : ℕ) → get_or tape i 0 < 256
byte tape f i = omega (arith, f i)

-- what a search found
some_below : (n k : ℕ) {i : ℕ} → Some i ≡ below n k → (i ≡ k) × (k < n)
some_below n k {i} = go (ltb k n) refl
  where
    go : (b : Bool) → ltb k n ≡ b → Some i ≡ cond b (Some k) None → (i ≡ k) × (k < n)
    go true t e = (cc, ltb-true k n t)
    go false t e = (cc, cc)

no_below : (n k : ℕ) → None ≡ below n k → n ≤ k
no_below n k = go (ltb k n) refl
  where
    go : (b : Bool) → ltb k n ≡ b → None ≡ cond b (Some k) None → n ≤ k
    go true t e = cc
    go false t e = ltb-false k n t

module _ (tape : List ℕ) (f : (i : ℕ) → Fits w8 (get_or tape i 0)) (samples : List ℕ) (weights flow : List ℤ) {t : ParserState}
    (h : WholeRecords tape (lent_by samples weights flow) t) where
  -- the tape's length, and that the buffers are long enough
  fits : Room tape (lent_by samples weights flow) t
  fits = room tape (byte tape f) samples weights flow h

  -- a number is beyond its pair's weight
  far : {place : ℕ} → place ≡ first_on tape t → first_on tape t < t.flows → parse tape (lent_by samples weights flow) ≡ turned 8 place
  far first l = beyond tape (byte tape f) samples weights flow h l ∙ ap (turned 8) (sym first)

pub overflow_mul-weight_records : goal.overflow_mul-weight_records
overflow_mul-weight_records c =
    let a = c.args in omega (arith, fits a.tape.now c.type_inv.tape a.samples.now a.weights.now a.flow.now c.requires, c.well_formed)

pub overflow_add-weight_records : goal.overflow_add-weight_records
overflow_add-weight_records c =
    let a = c.args in omega (arith, fits a.tape.now c.type_inv.tape a.samples.now a.weights.now a.flow.now c.requires, c.well_formed)

pub overflow_mul-flow_records : goal.overflow_mul-flow_records
overflow_mul-flow_records c =
    let a = c.args in omega (arith, fits a.tape.now c.type_inv.tape a.samples.now a.weights.now a.flow.now c.requires, c.well_formed)

pub overflow_add-flow_records : goal.overflow_add-flow_records
overflow_add-flow_records c =
    let a = c.args in omega (arith, fits a.tape.now c.type_inv.tape a.samples.now a.weights.now a.flow.now c.requires, c.well_formed)

pub first_beyond-requires : goal.first_beyond-requires
first_beyond-requires c =
    let a = c.args in
    let r = fits a.tape.now c.type_inv.tape a.samples.now a.weights.now a.flow.now c.requires in
    omega (arith, r)

pub returns-in-Some : goal.returns-in-Some
returns-in-Some c =
    let a = c.args in
    let b = some_below _ _ (sym c.in-Some.is ∙ c.first_beyond.ensures) in
    let r = far a.tape.now c.type_inv.tape a.samples.now a.weights.now a.flow.now c.requires b.0 b.1 in
    record {
      result_value = sym (answer-by a.tape.now a.samples.now a.weights.now a.flow.now r);
      samples_after = sym (samples-by a.tape.now a.samples.now a.weights.now a.flow.now r);
      weights_after = sym (weights-by a.tape.now a.samples.now a.weights.now a.flow.now r);
      flow_after = sym (flow-by a.tape.now a.samples.now a.weights.now a.flow.now r);
    }

pub fill-requires : goal.fill-requires
fill-requires c =
    let a = c.args in omega (arith, fits a.tape.now c.type_inv.tape a.samples.now a.weights.now a.flow.now c.requires)

pub fill-requires-2 : goal.fill-requires-2
fill-requires-2 c =
    let a = c.args in omega (arith, fits a.tape.now c.type_inv.tape a.samples.now a.weights.now a.flow.now c.requires)

pub fill-requires-3 : goal.fill-requires-3
fill-requires-3 c =
    let a = c.args in omega (arith, fits a.tape.now c.type_inv.tape a.samples.now a.weights.now a.flow.now c.requires)

pub returns : goal.returns
returns c =
    let a = c.args in
    let l = left a.tape.now (byte a.tape.now c.type_inv.tape) a.samples.now a.weights.now a.flow.now c.requires
    (no_below _ _ (sym c.in_default.is ∙ c.first_beyond.ensures)) in
    record {
      result_value = sym l.0;
      samples_after = c.fill.ensures ∙ sym l.1;
      weights_after = c.fill-2.ensures ∙ sym l.2;
      flow_after = c.fill-3.ensures ∙ sym l.3;
    }
