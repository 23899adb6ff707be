-- `chain`: its length, its members and what is behind them; one list for each element of another, and what holds of each
-- element. Assumes nothing.
use mathlib.Core.Path.{◌≡◌, refl, sym, ap, ap₂, ◌∙◌, subst, subst⁻¹}
use mathlib.Core.List.{List, [], ◌∷◌, ◌++◌, append-nil, append_assoc}
use mathlib.Core.Logic.{⊎_elim}
use Prim.Native.Nat.{ℕ, zero, suc, ◌+◌, ◌*◌, ◌≤◌, ◌<◌}
use native.Mathlib.Nat.{le_refl, mul-le-mul_right}
use native.Mathlib.Omega.{arith}
use lib.ListN.{length, get_or, drop, length-append, get_or-append}
use lib.Seq.{drop_at, drop-drop, get_or_at, get_or-append-add}
use Rattle.lists.specs.Lists.{chain}
use Rattle.lists.proofs.Tables.{last}

module _ {A : Type 0} where
  pub chain-cong : (n : ℕ) {g h : ℕ → List A} → ((i : ℕ) → i < n → g i ≡ h i) → chain n g ≡ chain n h
  unfolding chain
  chain-cong zero e = refl
  chain-cong (suc n) e = ap₂ ◌++◌ (chain-cong n (λ i l. e i (omega arith))) (e n (le_refl (suc n)))

  -- lists of one length k in a chain
  module _ (k : ℕ) (g : ℕ → List A) (even : (r : ℕ) → length (g r) ≡ k) where
    pub length-chain : (n : ℕ) → length (chain n g) ≡ n * k
    unfolding chain
    length-chain zero = omega arith
    length-chain (suc n) =
        let ih : length (chain n g) ≡ n * k = length-chain n in
        let e : length (g n) ≡ k = even n in
        length-append (chain n g) (g n) ∙ omega arith

    pub get_or-chain : (n r c : ℕ) (d : A) → r < n → c < k → get_or (chain n g) (r * k + c) d ≡ get_or (g r) c d
    unfolding chain
    get_or-chain zero r c d h l = absurd (omega arith)
    get_or-chain (suc n) r c d h l =
        ⊎_elim
        (λ (b : r < n).
        get_or-append (chain n g) (g n) d (r * k + c) (inside b) ∙ get_or-chain n r c d b l)
        (λ (e : r ≡ n).
        ap (λ (i : ℕ). get_or (chain n g ++ g n) i d) (seam e)
        ∙ get_or-append-add (chain n g) (g n) c d
        ∙ ap (λ (s : ℕ). get_or (g s) c d) (sym e))
        (last r n h)
      where
        inside : r < n → r * k + c < length (chain n g)
        inside b = let q : suc r * k ≤ n * k = mul-le-mul_right k b in omega (arith, length-chain n)

        seam : r ≡ n → r * k + c ≡ length (chain n g) + c
        seam e = ap (λ (m : ℕ). m * k + c) e ∙ ap (λ (m : ℕ). m + c) (sym (length-chain n))

-- ---- a chain of lists of one length, with more behind it

module _ {A : Type 0} (k : ℕ) (g : ℕ → List A) (even : (i : ℕ) → length (g i) ≡ k) where
  chain-drop : (n i : ℕ) (behind : List A) → i < n → (rest : List A) × (drop (i * k) (chain n g ++ behind) ≡ g i ++ rest)
  unfolding chain
  chain-drop zero i behind h = absurd (omega arith)
  chain-drop (suc n) i behind h = ⊎_elim (λ (l : i < n). before (chain-drop n i (g n ++ behind) l)) here (last i n h)
    where
      regroup : chain n g ++ g n ++ behind ≡ chain n g ++ (g n ++ behind)
      regroup = append_assoc (chain n g) (g n) behind

      before : (rest : List A) × (drop (i * k) (chain n g ++ (g n ++ behind)) ≡ g i ++ rest) →
          (rest : List A) × (drop (i * k) (chain n g ++ g n ++ behind) ≡ g i ++ rest)
      before (rest, e) = (rest, ap (drop (i * k)) regroup ∙ e)

      here : i ≡ n → (rest : List A) × (drop (i * k) (chain n g ++ g n ++ behind) ≡ g i ++ rest)
      here e = (
        behind,
        ap (drop (i * k)) regroup
            ∙ drop_at (chain n g) (g n ++ behind) (i * k) (length-chain k g even n ∙ ap (λ (m : ℕ). m * k) (sym e))
            ∙ ap (λ (m : ℕ). g m ++ behind) (sym e),
      )

  -- such a chain at an offset of a list: its member i, and what is behind it
  module _ (l : List A) (o n : ℕ) (behind : List A) (begins : drop o l ≡ chain n g ++ behind) where
    pub member_here : (i : ℕ) → i < n → (rest : List A) × (drop (o + i * k) l ≡ g i ++ rest)
    member_here i h =
        let (rest, e) = chain-drop n i behind h in
        (rest, sym (drop-drop (i * k) o l) ∙ ap (drop (i * k)) begins ∙ e)

    pub behind-here : drop (o + n * k) l ≡ behind
    behind-here =
        sym (drop-drop (n * k) o l) ∙ ap (drop (n * k)) begins ∙ drop_at (chain n g) behind (n * k) (length-chain k g even n)

-- one list for each element of another
module _ {A B : Type 0} (g : A → List B) (d : A) where
  abbrev pub listed : List A → List B
  listed xs = chain (length xs) (λ i. g (get_or xs i d))

  pub listed_snoc : (xs : List A) (x : A) → listed (xs ++ (x ∷ [])) ≡ listed xs ++ g x
  unfolding chain
  listed_snoc xs x =
      let one_more : length (xs ++ (x ∷ [])) ≡ suc (length xs) = omega (arith, length-append xs (x ∷ [])) in
      ap (λ (n : ℕ). chain n (λ i. g (get_or (xs ++ (x ∷ [])) i d))) one_more
      ∙ ap₂ ◌++◌
      (chain-cong (length xs) (λ i l. ap g (get_or-append xs (x ∷ []) d i l)))
      (ap g (get_or_at xs x [] d (length xs) refl))

  -- behind other elements: those of one more, and those of none
  pub listed_more : (front : List B) (xs : List A) (x : A) → front ++ listed (xs ++ (x ∷ [])) ≡ front ++ listed xs ++ g x
  listed_more front xs x = ap (λ (l : List B). front ++ l) (listed_snoc xs x) ∙ sym (append_assoc front (listed xs) (g x))

  pub listed_none : (front : List B) {xs : List A} → xs ≡ [] → front ++ listed xs ≡ front
  unfolding chain
  listed_none front e = ap (λ (l : List A). front ++ listed l) e ∙ append-nil front

-- what holds of each element of a list, of none, and of one more
module _ {A : Type 0} (P : A → Type 0) (d : A) where
  abbrev pub Each : List A → Type 0
  Each xs = (i : ℕ) → i < length xs → P (get_or xs i d)

  pub each_none : {xs : List A} → xs ≡ [] → Each xs
  each_none e i h = let z : i < 0 = subst (λ (l : List A). i < length l) e h in absurd (omega arith)

  pub each_more : (xs : List A) (x : A) → Each xs → P x → Each (xs ++ (x ∷ []))
  each_more xs x each more i h = ⊎_elim before here (last i (length xs) (omega (arith, length-append xs (x ∷ []))))
    where
      before : i < length xs → P (get_or (xs ++ (x ∷ [])) i d)
      before l = subst⁻¹ P (get_or-append xs (x ∷ []) d i l) (each i l)

      here : i ≡ length xs → P (get_or (xs ++ (x ∷ [])) i d)
      here e = subst⁻¹ P (get_or_at xs x [] d i (sym e)) more
