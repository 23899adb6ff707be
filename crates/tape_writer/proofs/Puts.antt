-- A section of the tape written one record behind the other, and the parts of a job's tape at the front of a buffer. Assumes nothing.
use mathlib.Core.Path.{◌≡◌, refl, sym, ap, ◌∙◌}
use mathlib.Core.List.{List, [], ◌∷◌, ◌++◌, append-nil, append_assoc}
use Prim.Native.Nat.{ℕ, zero, suc, ◌+◌, ◌*◌, ◌≤◌, ◌<◌, zero-le}
use native.Mathlib.Nat.{zero-add}
use native.Mathlib.Numerals.{add-one}
use native.Mathlib.Omega.{arith}
use lib.IntN.{ℤ, pos, nat_abs}
use lib.ListN.{length, get_or, take, drop, length-append, take-append-drop}
use lib.Seq.{take-suc, take-length}
use Rattle.std.specs.List.{flat_map}
use Rattle.model.specs.declared.Terms.{Terms}
use Rattle.model.specs.declared.Rounds.{Rounds}
use Rattle.model.specs.declared.Entry.TheVariants.{End, Sample, Flow, PairWeight}
use Rattle.lists.specs.Lists.{chain, overwritten}
use Rattle.model.specs.Tape.{encoded, tape_of}
use Rattle.lists.proofs.Placed.{placed-front}
use Rattle.output.specs.Put.{Put}
use Rattle.output.proofs.Puts.{put_as, put_length, put_then, put_none}
use Rattle.roundtrip.proofs.Offsets as Offsets

-- the lists f x of all x of a list, one after another
module _ {A : Type 0} (f : A → List ℕ) where
  flat-append : (xs ys : List A) → flat_map f (xs ++ ys) ≡ flat_map f xs ++ flat_map f ys
  flat-append [] ys = refl
  flat-append (x ∷ xs) ys = ap (λ l. f x ++ l) (flat-append xs ys) ∙ sym (append_assoc (f x) (flat_map f xs) (flat_map f ys))

  -- .. are those of its indices
  chain-front : (n : ℕ) (g : ℕ → List ℕ) → chain (suc n) g ≡ g 0 ++ chain n (λ i. g (suc i))
  unfolding chain
  chain-front zero g = sym (append-nil (g 0))
  chain-front (suc n) g = ap (λ l. l ++ g (suc n)) (chain-front n g) ∙ append_assoc (g 0) (chain n (λ i. g (suc i))) (g (suc n))

  pub chain-flat : (xs : List A) (d : A) → flat_map f xs ≡ chain (length xs) (λ i. f (get_or xs i d))
  unfolding chain
  chain-flat [] d = refl
  chain-flat (x ∷ xs) d =
      ap (λ l. f x ++ l) (chain-flat xs d) ∙ sym (chain-front (length xs) (λ i. f (get_or (x ∷ xs) i d)))

  -- The lists of the first i have been written, from offset o on
  module _ (xs : List A) (o : ℕ) (buffer : List ℕ) where
    pub record Written (i next : ℕ) (left : List ℕ) : Type 0 where
      pub up_to : i ≤ length xs
      pub put : Put o (flat_map f (take i xs)) buffer next left

    pub written_none : Written 0 o buffer
    written_none = record { up_to = zero-le; put = put_none o buffer }

    module _ (room : o + length (flat_map f xs) ≤ length buffer) {i next : ℕ} {left : List ℕ} (l : Written i next left) where
      -- there is room for one more, and it can be written
      module _ {x : A} (h : i < length xs) (is : x ≡ get_or xs i x) where
        one_more : flat_map f (take (i + 1) xs) ≡ flat_map f (take i xs) ++ f x
        one_more =
            ap (flat_map f) (ap (λ n. take n xs) (add-one i) ∙ take-suc xs i x h ∙ ap (λ y. take i xs ++ (y ∷ [])) (sym is))
            ∙ flat-append (take i xs) (x ∷ [])
            ∙ ap (λ l. flat_map f (take i xs) ++ l) (append-nil (f x))

        fits : length (flat_map f (take i xs)) + length (f x) ≤ length (flat_map f xs)
        fits =
            omega (
              arith,
              ap length one_more,
              length-append (flat_map f (take i xs)) (f x),
              ap (λ l. length (flat_map f l)) (take-append-drop (i + 1) xs),
              ap length (flat-append (take (i + 1) xs) (drop (i + 1) xs)),
              length-append (flat_map f (take (i + 1) xs)) (flat_map f (drop (i + 1) xs)),
            )

        pub written_room : next + length (f x) ≤ length left
        written_room = let n = fits in omega (arith, l.put.behind, put_length l.put (omega arith))

        pub written_more : {last : ℕ} {after : List ℕ} → Put next (f x) left last after → Written (i + 1) last after
        written_more p = record { up_to = omega arith; put = put_as (sym one_more) (put_then l.put p (let n = fits in omega arith)) }

      pub written_all : length xs ≤ i → Put o (flat_map f xs) buffer next left
      written_all h =
          let all : i ≡ length xs = omega (arith, l.up_to) in put_as (ap (flat_map f) (ap (λ n. take n xs) all ∙ take-length xs)) l.put

module _ (t : Terms) (r : Rounds) (s : List ℕ) (w f : List ℤ) where
  abbrev header : List ℕ
  header = Offsets.header t r s w f

  -- the three sections, as they are written
  abbrev samples : List ℕ
  samples = flat_map (λ code. encoded (Sample code)) s

  abbrev weights : List ℕ
  weights = flat_map (λ weight. encoded (PairWeight (nat_abs weight))) w

  abbrev flow : List ℕ
  flow = flat_map (λ value. encoded (Flow value)) f

  samples-are : samples ≡ Offsets.samples t r s w f
  samples-are = chain-flat (λ code. encoded (Sample code)) s 0

  weights-are : weights ≡ Offsets.weights t r s w f
  weights-are = chain-flat (λ weight. encoded (PairWeight (nat_abs weight))) w (pos 0)

  flow-are : flow ≡ Offsets.flow t r s w f
  flow-are = chain-flat (λ value. encoded (Flow value)) f (pos 0)

  -- how long they are, and that a buffer that holds the tape holds them all
  pub room : {n : ℕ} → length (tape_of t r s w f) ≤ n →
      (16 + 2 * length s + 3 * length w + 5 * length f ≤ n)
      × (length samples ≡ length s * 2)
      × (length weights ≡ length w * 3)
      × (length flow ≡ length f * 5)
  room h =
      let l = Offsets.section_lengths t r s w f in (
        omega (arith, Offsets.tape_length t r s w f),
        ap length samples-are ∙ l.0,
        ap length weights-are ∙ l.1,
        ap length flow-are ∙ l.2,
      )

  pub assembled : {p q m l n : ℕ} {buffer b₁ b₂ b₃ b₄ left : List ℕ} →
      Put 0 header buffer p b₁ → Put p samples b₁ q b₂ → Put q weights b₂ m b₃ → Put m flow b₃ l b₄ →
      Put l (encoded End) b₄ n left →
      length (tape_of t r s w f) ≤ length buffer → (n ≡ length (tape_of t r s w f)) × (left ≡ overwritten (tape_of t r s w f) buffer)
  unfolding tape_of
  assembled {n} {buffer} {left} a b c d e h =
      let two : List ℕ = header ++ Offsets.samples t r s w f in
      let three : List ℕ = two ++ Offsets.weights t r s w f in
      let four : List ℕ = three ++ Offsets.flow t r s w f in
      let x : length two ≡ length header + length (Offsets.samples t r s w f) = length-append header (Offsets.samples t r s w f) in
      let y : length three ≡ length two + length (Offsets.weights t r s w f) = length-append two (Offsets.weights t r s w f) in
      let z : length four ≡ length three + length (Offsets.flow t r s w f) = length-append three (Offsets.flow t r s w f) in
      let l : length (four ++ encoded End) ≡ length four + 1 = length-append four (encoded End) in
      let put : Put 0 (four ++ encoded End) buffer n left =
      put_then
      (put_then
      (put_then (put_then a (put_as samples-are b) (omega arith)) (put_as weights-are c) (omega arith))
      (put_as flow-are d) (omega arith))
      e (omega arith) in (
        put.behind ∙ zero-add (length (four ++ encoded End)),
        put.filled ∙ placed-front buffer (four ++ encoded End),
      )
