-- What a call gave and left is the definition's; so it accepts exactly what is allowed, and the job that it left is written
-- back. Assumes nothing.
use mathlib.Core.Path.{◌≡◌, ap}
use mathlib.Core.Logic.{◌↔◌}
use mathlib.Core.List.{List}
use Prim.Native.Nat.{ℕ, ◌<◌}
use lib.IntN.{ℤ}
use lib.ListN.{get_or, take}
use Rattle.model.specs.Calls.{pixels_of}
use Rattle.model.specs.Tape.{ReadAnswer, read_answer, read_samples, read_weights, read_flow}
use Rattle.model.proofs.Accepted.{zero-by}
use Rattle.model.specs.Accepted.{ReadAllowed}
use Rattle.model.specs.RoundTrip.{WritesBack, weight_count, flow_count}
use Rattle.roundtrip.proofs.RoundTrip.{read_number, left_writes_back}

pub promised : (tape samples : List ℕ) (weights flow : List ℤ) → ((i : ℕ) → get_or tape i 0 < 256) →
    {codes : List ℕ} {own numbers : List ℤ} {a : ReadAnswer} →
    a ≡ read_answer tape samples weights flow → codes ≡ read_samples tape samples weights flow →
    own ≡ read_weights tape samples weights flow → numbers ≡ read_flow tape samples weights flow →
    (a ≡ read_answer tape samples weights flow)
    × ((codes ≡ read_samples tape samples weights flow)
    × ((own ≡ read_weights tape samples weights flow)
    × ((numbers ≡ read_flow tape samples weights flow)
    × (((a.number ≡ 0) ↔ ReadAllowed tape samples weights flow)
    × (a.number ≡ 0 →
    WritesBack a.terms a.rounds (take (pixels_of a.terms) codes) (take (weight_count a) own)
    (take (flow_count a) numbers) tape)))))
promised tape samples weights flow byte e h w k =
    let n = read_number tape byte samples weights flow in
    let same = ap (λ (b : ReadAnswer). b.number) e in
    (e, (h, (w, (k, (zero-by same n, left_writes_back tape samples weights flow byte e h w k)))))
