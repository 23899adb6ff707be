-- What a call gave and left is the definition's; so it accepts exactly what is allowed, and its tape reads back. Assumes nothing.
use mathlib.Core.Path.{◌≡◌, ap}
use mathlib.Core.List.{List}
use mathlib.Core.Logic.{◌↔◌}
use Prim.Native.Nat.{ℕ, ◌<◌}
use lib.IntN.{ℤ}
use lib.ListN.{take}
use Rattle.model.specs.declared.Terms.{Terms}
use Rattle.model.specs.declared.Rounds.{Rounds}
use Rattle.model.specs.Tape.{WriteAnswer, write_answer, write_output}
use Rattle.model.proofs.Accepted.{zero-by}
use Rattle.model.specs.Accepted.{WriteAllowed}
use Rattle.model.specs.RoundTrip.{ReadsBack}
use Rattle.roundtrip.proofs.WriteRows.{write_number}
use Rattle.roundtrip.proofs.RoundTrip.{left_reads_back}

module _ (t : Terms) (r : Rounds) (samples : List ℕ) (weights numbers : List ℤ) (output : List ℕ) where
  pub promised : r.allowance < 65536 → {left : List ℕ} {a : WriteAnswer} →
      a ≡ write_answer t r samples weights numbers output → left ≡ write_output t r samples weights numbers output →
      (a ≡ write_answer t r samples weights numbers output)
      × ((left ≡ write_output t r samples weights numbers output)
      × (((a.number ≡ 0) ↔ WriteAllowed t r samples weights numbers output)
      × (a.number ≡ 0 → ReadsBack t r samples weights numbers (take a.count left))))
  promised small e h =
      let n = write_number t r samples weights numbers output in
      let same = ap (λ (b : WriteAnswer). b.number) e in
      (e, (h, (zero-by same n, left_reads_back t r samples weights numbers output small e h)))
