-- Records and their bytes, there and back. Assumes nothing.
use mathlib.Core.Path.{◌≡◌, refl, sym, ap, ap₂, ◌∙◌, fun_ext}
use mathlib.Core.Bool.{true}
use mathlib.Core.List.{List, [], ◌∷◌, ◌++◌}
use Prim.Native.Nat.{ℕ, suc, ◌+◌, ◌≤◌, ◌<◌}
use native.Mathlib.Numerals.{add-one}
use native.Mathlib.Omega.{arith}
use lib.ListN.{length, get_or, take, drop, get_or-append}
use lib.Seq.{drop-cons, take-add, get_or-drop}
use mir.Syntax.{w32}
use mir.Val.{SFits}
use Rattle.model.specs.declared.Entry.{Entry}
use Rattle.model.specs.declared.Entry.TheVariants.{End, Size, WeightBox, RoundLimits, Sample, Flow, PairWeight}
use Rattle.lists.specs.Lists.{table}
use Rattle.model.specs.Tape.{kinds, known, body_length, decoded, encoded}
use Rattle.roundtrip.proofs.Digits.{two_there, two_back, four_there, four_back}
use Rattle.lists.proofs.Parts.{part_table}
use Rattle.roundtrip.proofs.EachKind.{each_kind}
use Rattle.roundtrip.proofs.Turns.{entry_at, next_at}

-- the bytes of the record that was read are those that it was read from
pub encoded-decoded : (kind : ℕ) (b : ℕ → ℕ) → known kind ≡ true → ((i : ℕ) → b i < 256) →
    encoded (decoded kind b) ≡ kind ∷ table (body_length kind) b
unfolding table kinds
encoded-decoded kind b k h =
    each_kind (λ n. encoded (decoded n b) ≡ n ∷ table (body_length n) b)
    refl
    (ap₂ (λ (x y : List ℕ). 1 ∷ x ++ y) (two_back (h 0) (h 1)) (two_back (h 2) (h 3)))
    (ap (λ (x : List ℕ). 2 ∷ x ++ (b 2 ∷ b 3 ∷ [])) (two_back (h 0) (h 1)))
    (ap₂ (λ (x y : List ℕ). 3 ∷ x ++ y) (two_back (h 0) (h 1)) (two_back (h 2) (h 3)))
    refl
    (ap (λ (x : List ℕ). 5 ∷ x) (four_back (h 0) (h 1) (h 2) (h 3)))
    (ap (λ (x : List ℕ). 6 ∷ x) (two_back (h 0) (h 1)))
    kind k

-- numbers that their bytes hold
abbrev pub Ranged : Entry → Type 0
Ranged End = Unit {0}
Ranged (Size w h) = (w < 65536) × (h < 65536)
Ranged (WeightBox weight low high) = weight < 65536
Ranged (RoundLimits q a) = (q < 65536) × (a < 65536)
Ranged (Sample s) = Unit {0}
Ranged (Flow f) = SFits w32 f
Ranged (PairWeight w) = w < 65536

-- the record that is read from a record's bytes is that record
decoded-encoded : (e : Entry) (rest : List ℕ) → Ranged e →
    decoded (get_or (encoded e ++ rest) 0 0) (λ i. get_or (encoded e ++ rest) (1 + i) 0) ≡ e
unfolding kinds
decoded-encoded End rest r = refl
decoded-encoded (Size w h) rest r = ap₂ Size (two_there w r.0) (two_there h r.1)
decoded-encoded (WeightBox weight low high) rest r = ap (λ (n : ℕ). WeightBox n low high) (two_there weight r)
decoded-encoded (RoundLimits q a) rest r = ap₂ RoundLimits (two_there q r.0) (two_there a r.1)
decoded-encoded (Sample s) rest r = refl
decoded-encoded (Flow f) rest r = ap Flow (four_there f r)
decoded-encoded (PairWeight w) rest r = ap PairWeight (two_there w r)

abbrev pub kind_of : Entry → ℕ
kind_of e = get_or (encoded e) 0 0

-- the kind of a record is known, and fixes how many bytes it has
pub kind_size : (e : Entry) → (known (kind_of e) ≡ true) × (length (encoded e) ≡ suc (body_length (kind_of e)))
unfolding kinds
kind_size End = (refl, refl)
kind_size (Size w h) = (refl, refl)
kind_size (WeightBox weight low high) = (refl, refl)
kind_size (RoundLimits q a) = (refl, refl)
kind_size (Sample s) = (refl, refl)
kind_size (Flow f) = (refl, refl)
kind_size (PairWeight w) = (refl, refl)

module _ (tape : List ℕ) (o : ℕ) where
  at_drop : (n i : ℕ) → i ≡ o + n → get_or tape i 0 ≡ get_or (drop o tape) n 0
  at_drop n i e = ap (λ (j : ℕ). get_or tape j 0) e ∙ sym (get_or-drop o tape n 0)

  -- a record whose bytes stand at an offset
  module _ (e : Entry) (rest : List ℕ) (h : drop o tape ≡ encoded e ++ rest) where
    pub kind_here : get_or tape o 0 ≡ kind_of e
    kind_here =
        at_drop 0 o (omega arith)
        ∙ ap (λ (l : List ℕ). get_or l 0 0) h
        ∙ get_or-append (encoded e) rest 0 0 (omega (arith, (kind_size e).1))

    pub entry_here : Ranged e → entry_at tape o ≡ e
    entry_here r =
        ap₂ decoded (at_drop 0 o (omega arith)) (fun_ext (λ i. at_drop (1 + i) (o + 1 + i) (omega arith)))
        ∙ ap (λ (l : List ℕ). decoded (get_or l 0 0) (λ i. get_or l (1 + i) 0)) h
        ∙ decoded-encoded e rest r

  -- the bytes up to the next record
  module _ (k : known (get_or tape o 0) ≡ true) (h : o < length tape) (fits : next_at tape o ≤ length tape) (b : (i : ℕ) → get_or tape i 0 < 256) where
    pub take_next : take (next_at tape o) tape ≡ take o tape ++ encoded (entry_at tape o)
    take_next =
        ap (λ (n : ℕ). take n tape) regroup
        ∙ take-add o (suc body) tape
        ∙ ap (λ (l : List ℕ). take o tape ++ l) (ap (take (suc body)) (drop-cons tape o 0 h) ∙ ap (λ (l : List ℕ). get_or tape o 0 ∷ l) rest ∙ sym encoding)
      where
        body : ℕ
        body = body_length (get_or tape o 0)

        regroup : o + 1 + body ≡ o + suc body
        regroup = omega arith

        rest : take body (drop (suc o) tape) ≡ table body (λ i. get_or tape (o + 1 + i) 0)
        rest = ap (λ (n : ℕ). take body (drop n tape)) (sym (add-one o)) ∙ part_table tape (o + 1) body 0 fits

        encoding : encoded (entry_at tape o) ≡ get_or tape o 0 ∷ table body (λ i. get_or tape (o + 1 + i) 0)
        encoding = encoded-decoded (get_or tape o 0) (λ i. get_or tape (o + 1 + i) 0) k (λ i. b (o + 1 + i))
