-- The slack of a job in tables, by its pixels. Assumes nothing.
use mathlib.Core.Path.{◌≡◌, refl, sym, subst}
use mathlib.Core.Bool.{Bool, true, false}
use mathlib.Core.List.{List}
use Prim.Native.Nat.{ℕ, ◌*◌, ◌≤◌, ◌<◌}
use native.Mathlib.Omega.{arith}
use lib.Dec.{ltb}
use lib.IntN.{ℤ, nat_abs}
use borrow.Author.Tests.{ltb-true, ltb-false}
use lib.ListN.{get_or, take, length-take, get_or-eq_default}
use lib.Seq.{get_or-take}
use Rattle.model.specs.declared.Terms.{Terms}
use Rattle.model.specs.declared.Rounds.{Rounds}
use Rattle.model.specs.Calls.{pixels_of}
use Rattle.calls.specs.Slack.{most_slack}
use Rattle.calls.proofs.Sizes.{check_small, run_small}
use Rattle.job.specs.Tables.{answer_in}

-- the bytes of a front
pub front_bytes : (n : ℕ) (l : List ℕ) → ((i : ℕ) → get_or l i 0 < 256) → (i : ℕ) → get_or (take n l) i 0 < 256
front_bytes n l bytes i = go (ltb i n) refl
  where
    go : (b : Bool) → ltb i n ≡ b → get_or (take n l) i 0 < 256
    go true h = subst (λ (x : ℕ). x < 256) (sym (get_or-take n l i 0 (ltb-true i n h))) (bytes i)
    go false h =
        subst (λ (x : ℕ). x < 256) (sym (get_or-eq_default (take n l) 0 (omega (arith, length-take n l, ltb-false i n h)))) (omega arith)

pub slack-most : (t : Terms) (r : Rounds) (weighted flowed : Bool) (samples : List ℕ) (weights flow image work : List ℤ) →
    t.high < 256 → ((i : ℕ) → get_or samples i 0 < 256) →
    nat_abs (answer_in t r weighted flowed samples weights flow image work).slack ≤ most_slack * pixels_of t
slack-most t r weighted true samples weights flow image work high bytes =
    check_small t (take (pixels_of t) samples) _ high (front_bytes (pixels_of t) samples bytes) _ _
slack-most t r weighted false samples weights flow image work high bytes =
    run_small t (take (pixels_of t) samples) _ high (front_bytes (pixels_of t) samples bytes) r _ _ _
