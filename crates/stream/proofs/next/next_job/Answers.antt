use mathlib.Core.Path.{◌≡◌, sym, ap, ◌∙◌, subst}
use mathlib.Core.List.{List}
use Prim.Native.Nat.{ℕ, ◌+◌, ◌≤◌, ◌<◌, min}
use native.Mathlib.Decide.{dec_le}
use native.Mathlib.Omega.{arith}
use lib.ListN.{length, get_or, take}
use lib.Seq.{length-take-le, take-length, take_all}
use Rattle.job.proofs.Slacks.{front_bytes}
use Rattle.model.specs.Verdict.{number_of}
use Rattle.job.proofs.Tapes.{tables-read}
use Rattle.stream.specs.Jobs.{lent_in, Stopped, Answered}
use Rattle.stream.proofs.Jobs.{inside, records, stopped, read-from, answered}
use Rattle.stream.proofs.next.next_job.Goals as goal

-- the bytes that are scanned are the first 65,536
first_bytes : (bytes : List ℕ) {count : ℕ} → count ≡ min (length bytes) 65536 → take count bytes ≡ take 65536 bytes
first_bytes bytes {count} e = by (dec_le (length bytes) 65536)
  where
    by : Dec (length bytes ≤ 65536) → take count bytes ≡ take 65536 bytes
    by (yes h) = let all : count ≡ length bytes = omega arith in ap (λ (n : ℕ). take n bytes) all ∙ take-length bytes ∙ sym (take_all 65536 bytes h)
    by (no h) = let most : count ≡ 65536 = omega (arith, h) in ap (λ (n : ℕ). take n bytes) most

pub slice_bounds-read_numbers-end : goal.slice_bounds-read_numbers-end
slice_bounds-read_numbers-end c =
    let a = c.args in
    let w : List ℕ = take c.min-count.result a.bytes.now in
    let s = c.in-Ok.ensures in
    sym (length-take-le _ _ (inside w a.samples.now a.weights.now a.flow.now s.0 s.1))

pub read_numbers-read-requires : goal.read_numbers-read-requires
read_numbers-read-requires c =
    let a = c.args in
    let w : List ℕ = take c.min-count.result a.bytes.now in
    let s = c.in-Ok.ensures in
    records w a.samples.now a.weights.now a.flow.now s.0 s.1

pub answer_of-answer-requires : goal.answer_of-answer-requires
answer_of-answer-requires c =
    let a = c.args in
    let w : List ℕ = take c.min-count.result a.bytes.now in
    let s = c.in-Ok.ensures in
    let bytes : (i : ℕ) → get_or w i 0 < 256 = front_bytes c.min-count.result _ (λ i. (c.type_inv.bytes i).fits) in
    let kept = c.read_numbers-read.auto in
    tables-read c.read_numbers-read.result
    (read-from w a.samples.now a.weights.now a.flow.now s.0 s.1 bytes c.read_numbers-read.ensures.result_value)
    c.requires.2.holds kept.samples kept.weights kept.flow

pub count_job-requires : goal.count_job-requires
count_job-requires c =
    let a = c.args in
    let w : List ℕ = take c.min-count.result a.bytes.now in
    let s = c.in-Ok.ensures in
    let bytes : (i : ℕ) → get_or w i 0 < 256 = front_bytes c.min-count.result _ (λ i. (c.type_inv.bytes i).fits) in
    let e = c.read_numbers-read.ensures in
    let answer = c.answer_of-answer.ensures in (
      _,
      _,
      answered w a.samples.now a.weights.now a.flow.now s.0 s.1 bytes a.image.now a.work.now c.requires.2 e.samples_after e.weights_after e.flow_after
          c.read_numbers-read.result c.answer_of-answer.result e.result_value answer.result_value answer.result_bound,
    )

pub returns-in-Err : goal.returns-in-Err
returns-in-Err c =
    let a = c.args in
    let w : List ℕ = take c.min-count.result a.bytes.now in
    let v = c.in-Err.stopped in
    let s = c.in-Err.ensures in
    c.unfinished.ensures _ a.totals c.requires.2.not_last
    (subst
    (λ (l : List ℕ). Stopped l (lent_in (length a.samples.now) (length a.weights.now) (length a.flow.now)) (number_of v.refusal.reason) v.refusal.place v.state v.at)
    (first_bytes a.bytes.now c.min-count.ensures)
    (stopped w a.samples.now a.weights.now a.flow.now s.0 s.1))

pub returns-in-Ok : goal.returns-in-Ok
returns-in-Ok c =
    let a = c.args in
    let w : List ℕ = take c.min-count.result a.bytes.now in
    let s = c.in-Ok.ensures in
    let bytes : (i : ℕ) → get_or w i 0 < 256 = front_bytes c.min-count.result _ (λ i. (c.type_inv.bytes i).fits) in
    let e = c.read_numbers-read.ensures in
    let answer = c.answer_of-answer.ensures in
    c.count_job.ensures a.bytes.now a.ended _ c.requires.2.not_last
    (subst
    (λ (l : List ℕ).
    Answered l (lent_in (length a.samples.now) (length a.weights.now) (length a.flow.now)) a.totals
    c.read_numbers-read.result c.answer_of-answer.result (c.in-Ok.last + 1))
    (first_bytes a.bytes.now c.min-count.ensures)
    (answered w a.samples.now a.weights.now a.flow.now s.0 s.1 bytes a.image.now a.work.now c.requires.2 e.samples_after e.weights_after e.flow_after
    c.read_numbers-read.result c.answer_of-answer.result e.result_value answer.result_value answer.result_bound))
