-- How many bytes were read.
use Rattle.std.specs.Prelude.{ℕ, Result, Ok, Err}
use Rattle.relief.specs.declared.input.Interrupted.{Interrupted}

-- all, or those before the read that failed
abbrev pub count_of : Result ℕ Interrupted → ℕ
count_of (Ok count) = count
count_of (Err e) = e.count
