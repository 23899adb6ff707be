use Rattle.std.proofs.Common.{◌≡◌, List, ℕ, ◌+◌, ◌-◌, take, drop, arith, zero-le, length-drop}
use mathlib.Core.Path.{ap, ◌∙◌, subst}
use Rattle.std.proofs.lemmas.List.Edits.{take-paste}
use Rattle.season.proofs.window.Window.with_room.Goals as goal

pub returns : goal.returns
returns c =
    let w = c.args.self in
    let n : ℕ = w.end - w.start in
    let left : List ℕ = c.copy_within.new.self in
    let kept = c.copy_within.ensures.len in
    let front : take (0 + n) left ≡ take n (drop w.start c.args.buffer.now) =
    ap (take (0 + n)) c.copy_within.ensures.after
    ∙ take-paste c.args.buffer.now 0 (drop w.start c.args.buffer.now) n zero-le (omega (arith, length-drop w.start c.args.buffer.now, c.requires.within.inside))
    in
    let size : 0 + n ≡ n - 0 = omega arith in
    record {
      within = record { ordered = zero-le; inside = omega (arith, kept, c.requires.within.inside) };
      room = omega (arith, kept, c.requires.few, c.requires.long);
      same = subst (λ (k : ℕ). take k left ≡ take n (drop w.start c.args.buffer.now)) size front;
    }
