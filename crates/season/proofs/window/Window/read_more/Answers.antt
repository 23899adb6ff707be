-- The bytes that came stand behind those before them, which are as they were.
use Rattle.std.proofs.Common.{◌≡◌, List, ℕ, ◌++◌, ◌-◌, ◌≤◌, length, take, drop, arith, length-append}
use mathlib.Core.Bool.{true≢false}
use mathlib.Core.List.{[]}
use native.Mathlib.Nat.{add-zero}
use mathlib.Core.Path.{sym, ◌∙◌, subst}
use lib.Seq.{length-take-le, take-append-le}
use borrow.Author.Tests.{eqb-false, eqb-true}
use borrow.Rule.Slice.PartMut.{post_of}
use Rattle.std.specs.Io.KnownBytes.{Consumes}
use Rattle.std.proofs.KnownBytes.{Consumes-nil, Consumes-kept}
use Rattle.season.proofs.Buffers.{grown, came}
use Rattle.season.proofs.window.Window.read_more.Goals as goal

-- what the read left behind those at hand: its part of the buffer
abbrev behind : List ℕ → List ℕ → ℕ → List ℕ
behind buffer part end = part ++ post_of end (length buffer - end) buffer

pub returns-in-Ok-clause-grown : goal.returns-in-Ok-clause-grown
returns-in-Ok-clause-grown g c =
    let a = c.args in
    let buffer : List ℕ = a.buffer.now in
    let part : List ℕ = c.read.new.buf in
    let count : ℕ = c.in-Ok.more in
    let few : count ≤ length part = c.in-Ok.ensures.bound.0 in
    let size : length (take count (behind buffer part a.self.end)) ≡ count =
    length-take-le count (behind buffer part a.self.end) (omega (arith, length-append part (post_of a.self.end (length buffer - a.self.end) buffer))) in
    record {
      more = take count (behind buffer part a.self.end);
      within = record { ordered = omega arith; inside = omega (arith, c.read.auto.buf, few) };
      grown = grown buffer (behind buffer part a.self.end) a.self.start a.self.end count c.requires.ordered c.requires.inside;
      some = λ h. omega (arith, size, eqb-false count 0 h);
    }

pub returns-in-Ok-clause-first_bytes : goal.returns-in-Ok-clause-first_bytes
returns-in-Ok-clause-first_bytes g c =
    let a = c.args in
    let buffer : List ℕ = a.buffer.now in
    let part : List ℕ = c.read.new.buf in
    subst (Consumes (g.R.Read.remaining a.stdin.now) (g.R.Read.remaining c.read.new.self))
    (sym
    (came buffer (behind buffer part a.self.end) a.self.start a.self.end c.in-Ok.more c.requires.ordered c.requires.inside
    ∙ take-append-le c.in-Ok.more part (post_of a.self.end (length buffer - a.self.end) buffer) c.in-Ok.ensures.bound.0))
    c.in-Ok.ensures.bytes.0

pub returns-in-Ok-clause-all_bytes : goal.returns-in-Ok-clause-all_bytes
returns-in-Ok-clause-all_bytes g c room ended = c.in-Ok.ensures.bytes.1 (eqb-true c.in-Ok.more 0 ended) (omega (arith, c.read.auto.buf))

pub returns-in-Err-clause-grown : goal.returns-in-Err-clause-grown
returns-in-Err-clause-grown g c =
    let a = c.args in
    let buffer : List ℕ = a.buffer.now in
    let part : List ℕ = c.read.new.buf in
    record {
      more = [];
      within = record { ordered = c.requires.ordered; inside = omega (arith, c.read.auto.buf) };
      grown =
          subst
          (λ (n : ℕ).
          take (n - a.self.start) (drop a.self.start (take a.self.end buffer ++ behind buffer part a.self.end)) ≡ take (a.self.end - a.self.start) (drop a.self.start buffer) ++ [])
          (add-zero a.self.end) (grown buffer (behind buffer part a.self.end) a.self.start a.self.end 0 c.requires.ordered c.requires.inside);
      some = λ h. absurd (true≢false h);
    }

pub returns-in-Err-clause-first_bytes : goal.returns-in-Err-clause-first_bytes
returns-in-Err-clause-first_bytes g c =
    let a = c.args in
    let buffer : List ℕ = a.buffer.now in
    let part : List ℕ = c.read.new.buf in
    subst (Consumes (g.R.Read.remaining a.stdin.now) (g.R.Read.remaining c.read.new.self))
    (sym
    (subst
    (λ (n : ℕ). drop (a.self.end - a.self.start) (take (n - a.self.start) (drop a.self.start (take a.self.end buffer ++ behind buffer part a.self.end))) ≡ [])
    (add-zero a.self.end) (came buffer (behind buffer part a.self.end) a.self.start a.self.end 0 c.requires.ordered c.requires.inside)))
    (Consumes-kept _ _ _ [] (Consumes-nil (g.R.Read.remaining a.stdin.now)) c.in-Err.ensures.bytes)
