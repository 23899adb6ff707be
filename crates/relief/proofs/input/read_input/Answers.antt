use Rattle.std.proofs.Common.{◌≡◌, List, ℕ, ◌++◌, ◌+◌, ◌-◌, ◌≤◌, length, take, arith}
use mathlib.Core.Path.{sym, ap, ◌∙◌, subst}
use lib.Seq.{length-take-le, take-append-le, take-append-add}
use borrow.Rule.Slice.PartMut.{post_of}
use Rattle.std.specs.Io.KnownBytes.{Consumes}
use Rattle.std.proofs.KnownBytes.{Consumes-trans}
use Rattle.relief.proofs.input.read_input.Goals as goal

-- the bytes read so far, once more have come behind them
joined : (buffer part behind : List ℕ) (n more : ℕ) → n ≤ length buffer → more ≤ length part →
    take (n + more) (take n buffer ++ (part ++ behind)) ≡ take n buffer ++ take more part
joined buffer part behind n more h k =
    ap (λ (m : ℕ). take (m + more) (take n buffer ++ (part ++ behind))) (sym (length-take-le n buffer h))
    ∙ take-append-add (take n buffer) (part ++ behind) more
    ∙ ap (λ (l : List ℕ). take n buffer ++ l) (take-append-le more part behind k)

pub loop-count-preserved : goal.loop-count-preserved
loop-count-preserved g c =
    let l = c.loop-count in
    let part : List ℕ = c.read.new.buf in
    let few : c.in-Ok.more ≤ length part = c.in-Ok.ensures.bound.0 in
    record {
      within = omega (arith, c.read.auto.buf, few);
      first_bytes =
          subst (Consumes (g.R.Read.remaining c.args.stdin.now) (g.R.Read.remaining c.read.new.self))
          (sym (joined l.buffer part (post_of l.count (length l.buffer - l.count) l.buffer) l.count c.in-Ok.more l.invariant.within few))
          (Consumes-trans _ _ _ _ _ l.invariant.first_bytes c.in-Ok.ensures.bytes.0);
    }
