-- A window's bytes when more come. Assumes nothing.
use mathlib.Core.Path.{◌≡◌, ap, ◌∙◌}
use mathlib.Core.List.{List, ◌++◌}
use Prim.Native.Nat.{ℕ, ◌+◌, ◌-◌, ◌≤◌}
use native.Mathlib.Omega.{arith}
use lib.ListN.{length, take, drop}
use lib.Seq.{drop-append-le, drop_at, length-take-le, take-append-add}
use Rattle.lists.proofs.Parts.{drop-take, part_length}

-- bytes that came behind a window
pub grown : (buffer part : List ℕ) (start end more : ℕ) → start ≤ end → end ≤ length buffer →
    take (end + more - start) (drop start (take end buffer ++ part)) ≡ take (end - start) (drop start buffer) ++ take more part
grown buffer part start end more h k =
    let kept : List ℕ = take (end - start) (drop start buffer) in
    let size : length kept ≡ end - start = part_length start (end - start) buffer (omega arith) in
    let all : end + more - start ≡ length kept + more = omega arith in
    ap (take (end + more - start)) (drop-append-le start (take end buffer) part (omega (arith, length-take-le end buffer k)))
    ∙ ap (λ (l : List ℕ). take (end + more - start) (l ++ part)) (drop-take start end buffer h k)
    ∙ ap (λ (n : ℕ). take n (kept ++ part)) all
    ∙ take-append-add kept part more

-- .. and these alone
pub came : (buffer part : List ℕ) (start end more : ℕ) → start ≤ end → end ≤ length buffer →
    drop (end - start) (take (end + more - start) (drop start (take end buffer ++ part))) ≡ take more part
came buffer part start end more h k =
    ap (drop (end - start)) (grown buffer part start end more h k)
    ∙ drop_at (take (end - start) (drop start buffer)) (take more part) (end - start) (part_length start (end - start) buffer (omega arith))
