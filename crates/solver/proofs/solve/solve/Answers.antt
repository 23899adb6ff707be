-- quick rounds, the work buffer cleared, steady rounds.
use mathlib.Core.Path.{◌≡◌, sym, ap, ◌∙◌, subst}
use mathlib.Core.List.{List}
use Prim.Native.Nat.{ℕ}
use lib.IntN.{ℤ, pos}
use lib.ListN.{length, replicate}
use Rattle.model.specs.Grid.{limit}
use Rattle.solver.specs.Scan.{problem_of}
use Rattle.model.specs.Rounds.{eighth, nearest_eighth, Steady, steady_rounds}
use Rattle.model.specs.Calls.{image_of, quick_flow, ending}
use Rattle.model.proofs.Sizes.{iterate-size}
use Rattle.passes.specs.Limits.{Within}
use Rattle.solver.proofs.QuickBounds.{iterate-within}
use Rattle.solver.proofs.solve.solve.Goals as goal

pub steady_rounds-requires : goal.steady_rounds-requires
unfolding quick_flow
steady_rounds-requires c =
    let a = c.args in
    let p = c.requires in
    let iterate = c.quick_rounds.ensures.flow_after in
    record {
      limits = p.limits;
      pair_weights = p.pair_weights;
      lengths =
          record {
            samples_length = p.lengths.samples_length;
            flow_length = ap length iterate ∙ iterate-size eighth (problem_of a.scan) a.r.quick;
            image_length = c.quick_rounds.auto.image ∙ p.lengths.image_length;
          };
      flow_most = subst (Within limit.weight) (sym iterate) (iterate-within eighth a.scan.terms a.scan.samples.now a.scan.weights.own.now p.limits p.pair_weights a.r.quick);
    }

pub returns : goal.returns
unfolding ending quick_flow
returns c =
    let a = c.args in
    let iterate : c.quick_rounds.new.flow ≡ quick_flow a.scan.terms a.r a.scan.samples.now a.scan.weights.own.now = c.quick_rounds.ensures.flow_after in
    let left = c.steady_rounds.ensures in
    let from : List ℤ → Steady = steady_rounds nearest_eighth (problem_of a.scan) a.r.allowance in
    let flow = left.flow_after ∙ ap (λ (f : List ℤ). (from f).flow) iterate in
    record {
      flow_after = flow;
      image_after = left.image_after ∙ ap (image_of a.scan.terms a.scan.samples.now) flow;
      work_after = c.fill.ensures.after (λ y e. e) ∙ ap (λ (n : ℕ). replicate n (pos 0)) c.quick_rounds.auto.work;
      moved_value = left.moved_value ∙ ap (λ (f : List ℤ). (from f).moved) iterate;
      settled_value = left.settled_value ∙ ap (λ (f : List ℤ). (from f).settled) iterate;
    }
