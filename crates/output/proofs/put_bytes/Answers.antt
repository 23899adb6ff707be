-- The loop's invariant: the first `i` bytes have been written.
use mathlib.Core.Path.{◌≡◌, sym, subst, ap, ◌∙◌}
use mathlib.Core.List.{List}
use Prim.Native.Nat.{ℕ, ◌<◌, zero-le}
use native.Mathlib.Omega.{arith}
use native.Mathlib.Numerals.{add-one}
use lib.ListN.{length, take}
use lib.Seq.{length-take-le, take-suc, take-length}
use Rattle.output.specs.Put.{Put}
use Rattle.output.proofs.Puts.{put_none, put_length, put_then}
use Rattle.output.proofs.put_bytes.Goals as goal

pub loop-i-init : goal.loop-i-init
loop-i-init c = (zero-le, put_none _ _)

pub put_byte-next-requires : goal.put_byte-next-requires
put_byte-next-requires c =
    let n : length (take c.loop-i.i c.args.bytes.now) ≡ c.loop-i.i = length-take-le c.loop-i.i c.args.bytes.now c.loop-i.invariant.0 in
    omega (arith, put_length c.loop-i.invariant.1 (omega arith))

pub loop-i-preserved : goal.loop-i-preserved
loop-i-preserved c =
    let b : List ℕ = c.args.bytes.now in
    let i : ℕ = c.loop-i.i in
    let h : i < length b = omega arith in (
      omega arith,
      subst (λ (l : List ℕ). Put c.args.o l c.args.output.now c.put_byte-next.result c.put_byte-next.new.output)
          (sym (ap (λ (n : ℕ). take n b) (add-one i) ∙ take-suc b i 0 h))
          (put_then c.loop-i.invariant.1 c.put_byte-next.ensures
          (omega (arith, length-take-le i b c.loop-i.invariant.0, c.requires))),
    )

pub returns : goal.returns
returns c =
    let all : c.loop-i.i ≡ length c.args.bytes.now = omega (arith, c.loop-i.invariant.0, c.loop-i-test.false) in
    subst (λ (l : List ℕ). Put c.args.o l c.args.output.now c.loop-i.next c.loop-i.output)
    (ap (λ (n : ℕ). take n c.args.bytes.now) all ∙ take-length c.args.bytes.now) c.loop-i.invariant.1
