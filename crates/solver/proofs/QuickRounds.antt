-- Quick rounds in buffers, one after another. Assumes nothing.
use mathlib.Core.Path.{◌≡◌, refl, sym, ap, ap₂, ◌∙◌}
use mathlib.Core.List.{List, ◌++◌}
use Prim.Native.Nat.{ℕ, zero, suc, ◌+◌, ◌*◌, ◌≤◌, ◌<◌, zero-le}
use native.Mathlib.Nat.{le_trans}
use native.Mathlib.Numerals.{add-one}
use native.Mathlib.Omega.{arith}
use lib.IntN.{ℤ, pos}
use lib.ListN.{length, drop, replicate, length-append, length-replicate, replicate-append-replicate}
use lib.Seq.{drop_at}
use Rattle.model.specs.declared.Terms.{Terms}
use Rattle.model.specs.Problem.{Problem, pair_count}
use Rattle.model.specs.Grid.{grid_pairs, grid}
use Rattle.model.specs.Rounds.{eighth, Quick, quick_start, quick_round, quick_rounds}
use Rattle.model.specs.Calls.{image_of}
use Rattle.solver.specs.Ready.{QuickReady, QuickJob, held}
use Rattle.solver.specs.Left.{earlier, quick_work, quick_image}
use Rattle.momentum.proofs.Bounds.{momentum-low, momentum-high}
use Rattle.model.proofs.Sizes.{iterate-size, ahead-size}
use Rattle.solver.proofs.QuickBounds.{iterate-within, ahead_within}

-- after k rounds: the flow holds P, the work buffer the earlier P and R, the image that of the R stepped on last
pub record Turned (t : Terms) (quick : ℕ) (samples : List ℕ) (weights image₀ : List ℤ) (k : ℕ) (flow image work : List ℤ) (momentum : ℕ) : Type 0 where
  pub round_most : k ≤ quick
  pub image_length : length image ≡ t.width * t.height
  pub flow-is : flow ≡ (quick_rounds eighth (grid t samples weights) k).iterate
  pub image-is : image ≡ quick_image t samples weights k image₀
  pub work_is : work ≡ quick_work (grid t samples weights) k
  pub momentum-is : momentum ≡ (quick_rounds eighth (grid t samples weights) k).momentum

-- before the first round
pub turned_none : {t : Terms} {quick : ℕ} {samples : List ℕ} {weights flow₀ image work₀ flow work : List ℤ} → QuickJob t quick samples weights flow₀ image work₀ →
    flow ≡ replicate (length flow₀) (pos 0) → work ≡ replicate (length work₀) (pos 0) → Turned t quick samples weights image 0 flow image work 65536
unfolding quick_rounds quick_start
turned_none {t} {flow₀ = flow₀} {work₀ = work₀} {flow = flow} j e f =
    let m : ℕ = length (grid_pairs t.width t.height) in
    let both : length work₀ ≡ m + m = omega (arith, j.work_length, j.lengths.flow_length) in
    record {
      round_most = zero-le;
      image_length = j.lengths.image_length;
      flow-is = e ∙ ap (λ (n : ℕ). replicate n (pos 0)) j.lengths.flow_length;
      image-is = refl;
      work_is = f ∙ ap (λ (n : ℕ). replicate n (pos 0)) both ∙ sym (replicate-append-replicate m m (pos 0));
      momentum-is = refl;
    }

-- the earlier flow has a number for each pair
earlier-size : (p : Problem) (k : ℕ) → length (earlier p k) ≡ pair_count p
earlier-size p zero = length-replicate (pair_count p) (pos 0)
earlier-size p (suc k) = iterate-size eighth p k

module _ {t : Terms} {quick : ℕ} {samples : List ℕ} {weights image₀ : List ℤ} {k : ℕ} {flow image work : List ℤ} {momentum : ℕ} (r : Turned t quick samples weights image₀ k flow image work momentum) where
  pub turned-length : length flow ≡ pair_count (grid t samples weights)
  turned-length = ap length r.flow-is ∙ iterate-size eighth (grid t samples weights) k

  ahead-is : drop (length flow) work ≡ (quick_rounds eighth (grid t samples weights) k).extrapolated
  ahead-is =
      ap (drop (length flow)) r.work_is
      ∙ drop_at (earlier (grid t samples weights) k) _ (length flow) (earlier-size (grid t samples weights) k ∙ sym turned-length)

  -- the work buffer has two halves
  pub turned-work : length work ≡ 2 * length flow
  turned-work =
      ap length r.work_is
      ∙ length-append (earlier (grid t samples weights) k) _
      ∙ omega (arith, earlier-size (grid t samples weights) k, ahead-size eighth (grid t samples weights) k, turned-length)

  pub turned-state : held flow (drop (length flow) work) momentum ≡ quick_rounds eighth (grid t samples weights) k
  turned-state =
      ap₂ (λ (a b : List ℤ). held a b momentum) r.flow-is ahead-is
      ∙ ap (λ (n : ℕ). held (quick_rounds eighth (grid t samples weights) k).iterate (quick_rounds eighth (grid t samples weights) k).extrapolated n) r.momentum-is

  -- ready for the next round
  pub turned-ready : {flow₀ image₀ work₀ : List ℤ} → QuickJob t quick samples weights flow₀ image₀ work₀ → k < quick →
      QuickReady t samples weights flow (drop (length flow) work) image momentum
  turned-ready j l =
      record {
        limits = j.limits;
        pair_weights = j.pair_weights;
        lengths = record { samples_length = j.lengths.samples_length; flow_length = turned-length; image_length = r.image_length };
        same_length = turned-length ∙ sym (ap length (ahead-is) ∙ ahead-size eighth (grid t samples weights) k);
        flow_most = λ i. rw r.flow-is (iterate-within eighth t samples weights j.limits j.pair_weights k i);
        ahead_most = λ i. rw (ahead-is) (le_trans (ahead_within eighth t samples weights j.limits j.pair_weights k i) (omega arith));
        momentum_least = rw r.momentum-is (momentum-low eighth (grid t samples weights) k);
        momentum_most = rw r.momentum-is (omega (arith, momentum-high eighth (grid t samples weights) k, j.quick_most));
      }

  -- and after it
  pub turned_more : {flow₁ image₁ work₁ : List ℤ} {momentum₁ : ℕ} → k < quick →
      length image₁ ≡ length image →
      flow₁ ≡ (quick_round eighth (grid t samples weights) (held flow (drop (length flow) work) momentum)).iterate →
      work₁ ≡ flow ++ (quick_round eighth (grid t samples weights) (held flow (drop (length flow) work) momentum)).extrapolated →
      momentum₁ ≡ (quick_round eighth (grid t samples weights) (held flow (drop (length flow) work) momentum)).momentum →
      image₁ ≡ image_of t samples (drop (length flow) work) →
      Turned t quick samples weights image₀ (k + 1) flow₁ image₁ work₁ momentum₁
  turned_more l same a b c d =
      let next : quick_round eighth (grid t samples weights) (held flow (drop (length flow) work) momentum) ≡ quick_rounds eighth (grid t samples weights) (suc k) =
      unfold quick_rounds in ap (quick_round eighth (grid t samples weights)) turned-state
      in
      rw (add-one k)
      (record {
        round_most = omega arith;
        image_length = same ∙ r.image_length;
        flow-is = a ∙ ap (λ (s : Quick). s.iterate) next;
        image-is = d ∙ ap (image_of t samples) ahead-is;
        work_is = b ∙ ap₂ (λ (f : List ℤ) (s : Quick). f ++ s.extrapolated) r.flow-is next;
        momentum-is = c ∙ ap (λ (s : Quick). s.momentum) next;
      })
