-- What is written behind what was written before. Assumes nothing.
use mathlib.Core.Path.{◌≡◌, refl, sym, ap, ap₂, ◌∙◌, subst}
use mathlib.Core.List.{List, [], ◌++◌}
use Prim.Native.Nat.{ℕ, ◌+◌, ◌≤◌}
use native.Mathlib.Nat.{add-zero}
use native.Mathlib.Numerals.{add-one}
use native.Mathlib.Omega.{arith}
use lib.ListN.{length, take, drop, length-append}
use Rattle.lists.specs.Lists.{chain, overwritten}
use Rattle.lists.specs.Placed.{placed}
use Rattle.lists.proofs.Placed.{placed-none, placed-length, placed-more, placed-front, take-overwritten}
use Rattle.output.specs.Put.{Put}

-- the bytes under another name
pub put_as : {o next : ℕ} {new other buffer left : List ℕ} → new ≡ other → Put o new buffer next left → Put o other buffer next left
put_as {o} {next} {new} {other} {buffer} {left} e p = subst (λ (l : List ℕ). Put o l buffer next left) e p

-- what is written behind what was written before
module _ {o : ℕ} {new buffer : List ℕ} {next : ℕ} {left : List ℕ} (p : Put o new buffer next left) where
  pub put_length : o + length new ≤ length buffer → length left ≡ length buffer
  put_length h = ap length p.filled ∙ placed-length buffer o new h

  pub put_then : {more : List ℕ} {last : ℕ} {after : List ℕ} → Put next more left last after →
      o + length new + length more ≤ length buffer → Put o (new ++ more) buffer last after
  put_then {more} {last} {after} q h =
      record {
        behind = omega (arith, q.behind, p.behind, length-append new more);
        filled =
            q.filled
            ∙ ap₂ (λ (n : ℕ) (l : List ℕ). placed n more l) p.behind p.filled
            ∙ placed-more buffer o new more h;
      }

  -- where the last offset is known to lie within the buffer
  pub put_within : {more : List ℕ} {last : ℕ} {after : List ℕ} → Put next more left last after → last ≤ length buffer →
      Put o (new ++ more) buffer last after
  put_within q h = put_then q (omega (arith, p.behind, q.behind))

pub put_none : (o : ℕ) (buffer : List ℕ) → Put o [] buffer o buffer
put_none o buffer = record { behind = sym (add-zero o); filled = placed-none buffer o }

-- bytes written at a buffer's front: how many there are, the buffer, and that they are its first
pub record Front (new buffer : List ℕ) (count : ℕ) (left : List ℕ) : Type 0 where
  pub counted : count ≡ length new
  pub filled : left ≡ overwritten new buffer
  pub within : count ≤ length left
  pub first : count ≡ length (take count left)

pub put_front : {new buffer : List ℕ} {count : ℕ} {left : List ℕ} → Put 0 new buffer count left → Front new buffer count left
put_front {new} {buffer} {count} {left} p =
    let n : count ≡ length new = omega (arith, p.behind) in
    let e : left ≡ overwritten new buffer = p.filled ∙ placed-front buffer new in
    record {
      counted = n;
      filled = e;
      within = omega (arith, ap length e, length-append new (drop (length new) buffer));
      first = n ∙ sym (ap₂ (λ (k : ℕ) (l : List ℕ). length (take k l)) n e ∙ ap length (take-overwritten buffer new refl));
    }

-- lists written one behind the other
module _ {o : ℕ} {buffer : List ℕ} (g : ℕ → List ℕ) where
  pub chain-start : Put o (chain 0 g) buffer o buffer
  unfolding chain
  chain-start = put_none o buffer

  pub chain_next : (i : ℕ) {next : ℕ} {left : List ℕ} → Put o (chain i g) buffer next left →
      {last : ℕ} {after : List ℕ} → Put next (g i) left last after → last ≤ length buffer → Put o (chain (i + 1) g) buffer last after
  unfolding chain
  chain_next i p {last} {after} q h =
      subst (λ (n : ℕ). Put o (chain n g) buffer last after) (sym (add-one i)) (put_within p q h)
