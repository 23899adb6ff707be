use native.Mathlib.Omega.{arith}
use Rattle.tape_writer.proofs.Puts.{room, assembled}
use Rattle.tape_writer.proofs.put.put_tape.Goals as goal

pub put_header-first-requires : goal.put_header-first-requires
put_header-first-requires c = let a = c.args in omega (arith, room a.t a.r a.samples.now a.weights.now a.flow.now c.requires)

pub put_section-second-requires : goal.put_section-second-requires
put_section-second-requires c = let a = c.args in omega (arith, room a.t a.r a.samples.now a.weights.now a.flow.now c.requires)

pub put_section-third-requires : goal.put_section-third-requires
put_section-third-requires c = let a = c.args in omega (arith, room a.t a.r a.samples.now a.weights.now a.flow.now c.requires)

pub put_section-fourth-requires : goal.put_section-fourth-requires
put_section-fourth-requires c = let a = c.args in omega (arith, room a.t a.r a.samples.now a.weights.now a.flow.now c.requires)

pub put_record-requires : goal.put_record-requires
put_record-requires c = let a = c.args in omega (arith, room a.t a.r a.samples.now a.weights.now a.flow.now c.requires)

pub returns : goal.returns
returns c =
    let a = c.args in
    let p = assembled a.t a.r a.samples.now a.weights.now a.flow.now c.put_header-first.ensures
    c.put_section-second.ensures c.put_section-third.ensures c.put_section-fourth.ensures c.put_record.ensures
    c.requires in
    record { value = p.0; output_after = p.1 }
