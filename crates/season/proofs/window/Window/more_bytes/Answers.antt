use mathlib.Core.Path.{◌≡◌, sym, ap, ◌∙◌, subst}
use mathlib.Core.List.{List, ◌++◌}
use Prim.Native.Nat.{ℕ, ◌-◌}
use lib.ListN.{length, drop}
use Rattle.std.specs.Prelude.{Result, Ok, Err, IfOk}
use Rattle.std.specs.Io.KnownBytes.{Consumes}
use Rattle.season.specs.Window.{window_of, at_hand}
use Rattle.season.proofs.Steps.{size_of}
use Rattle.season.proofs.window.Window.more_bytes.Goals as goal

-- what follows from what a clause says of the value in an `Ok`
ok_then : {T E : Type 0} (r : Result T E) {P Q : T → Type 0} → IfOk r P → ((x : T) → P x → Q x) → IfOk r Q
ok_then (Ok x) h f = f x h
ok_then (Err e) h f = tt

pub returns-clause-grown : goal.returns-clause-grown
returns-clause-grown g c =
    let room = c.with_room-moved.ensures in
    let e = c.read_more.ensures.grown in
    record { more = e.more; within = e.within; grown = e.grown ∙ ap (λ (l : List ℕ). l ++ e.more) room.same; some = e.some }

pub returns-clause-first_bytes : goal.returns-clause-first_bytes
returns-clause-first_bytes g c =
    let w = c.args.self in
    let moved = c.with_room-moved.result in
    let room = c.with_room-moved.ensures in
    let size : moved.end - moved.start ≡ w.end - w.start =
    sym (size_of c.with_room-moved.new.buffer moved room.within) ∙ ap length room.same ∙ size_of c.args.buffer.now w c.requires.within in
    subst
    (λ (n : ℕ).
    Consumes (g.R.Read.remaining c.args.stdin.now) (g.R.Read.remaining c.read_more.new.stdin)
    (drop n (at_hand c.read_more.new.buffer (window_of c.read_more.result))))
    size c.read_more.ensures.first_bytes

pub returns-clause-all_bytes : goal.returns-clause-all_bytes
returns-clause-all_bytes g c = ok_then c.read_more.result c.read_more.ensures.all_bytes (λ r h. h c.with_room-moved.ensures.room)
