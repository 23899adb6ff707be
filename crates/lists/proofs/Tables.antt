-- `table`, and a list read at an index. Assumes nothing.
use mathlib.Core.Path.{◌≡◌, refl, sym, ap, ap₂, ◌∙◌, subst}
use mathlib.Core.List.{List, [], ◌∷◌, ◌++◌, append_assoc, append-nil}
use mathlib.Core.Logic.{◌⊎◌, inl, inr, ⊎_elim}
use Prim.Native.Nat.{ℕ, zero, suc, ◌+◌, ◌<◌}
use native.Mathlib.Nat.{le_of_suc-le-suc, add-zero, add-suc}
use native.Mathlib.Decide.{dec_lt}
use native.Mathlib.Omega.{arith}
use lib.ListN.{length, get_or, replicate, length-append, length-replicate, get_or-replicate, get_or-append, get_or-eq_default}
use lib.Seq.{get_or_at, ext_get_or}
use Rattle.lists.specs.Lists.{table}

-- an index below n + 1 is below n, or n
pub last : (i n : ℕ) → i < suc n → (i < n) ⊎ (i ≡ n)
last i n h = split (dec_lt i n)
  where
    split : Dec (i < n) → (i < n) ⊎ (i ≡ n)
    split (yes l) = inl l
    split (no g) = inr (omega (arith, g))

module _ {A : Type 0} where
  pub length_none : (l : List A) → length l ≡ 0 → l ≡ []
  length_none [] e = refl
  length_none (x ∷ l) e = absurd (omega arith)

  pub length-table : (n : ℕ) (f : ℕ → A) → length (table n f) ≡ n
  unfolding table
  length-table zero f = refl
  length-table (suc n) f =
      length-append (table n f) (f n ∷ []) ∙ ap (λ (k : ℕ). k + 1) (length-table n f) ∙ omega arith

  pub get_or-table : (n : ℕ) (f : ℕ → A) (i : ℕ) (d : A) → i < n → get_or (table n f) i d ≡ f i
  unfolding table
  get_or-table zero f i d h = absurd (omega arith)
  get_or-table (suc n) f i d h =
      ⊎_elim
      (λ (l : i < n).
      get_or-append (table n f) (f n ∷ []) d i (subst (λ (k : ℕ). i < k) (sym (length-table n f)) l)
      ∙ get_or-table n f i d l)
      (λ (e : i ≡ n). get_or_at (table n f) (f n) [] d i (length-table n f ∙ sym e) ∙ ap f (sym e))
      (last i n h)

  -- inside a list the default does not matter
  pub get_or-inside : (l : List A) (i : ℕ) (d d' : A) → i < length l → get_or l i d ≡ get_or l i d'
  get_or-inside [] i d d' h = absurd (omega arith)
  get_or-inside (x ∷ l) zero d d' h = refl
  get_or-inside (x ∷ l) (suc i) d d' h = get_or-inside l i d d' (le_of_suc-le-suc h)

  -- what holds of the default and of every element holds of what is read at any index
  pub get_or-by : (P : A → Type 0) (l : List A) (d d' : A) → P d → ((i : ℕ) → i < length l → P (get_or l i d')) → (i : ℕ) → P (get_or l i d)
  get_or-by P l d d' other each i = by (dec_lt i (length l))
    where
      by : Dec (i < length l) → P (get_or l i d)
      by (yes h) = subst P (get_or-inside l i d' d h) (each i h)
      by (no g) = subst P (sym (get_or-eq_default l d {n = i} (omega (arith, g)))) other

  -- a table of n + m values is that of the first n with that of the others behind it
  pub table-append : (n m : ℕ) (f : ℕ → A) → table (n + m) f ≡ table n f ++ table m (λ i. f (n + i))
  unfolding table
  table-append n zero f = rw (add-zero n) (sym (append-nil (table n f)))
  table-append n (suc m) f =
      rw (add-suc n m, table-append n m f) (append_assoc (table n f) (table m (λ i. f (n + i))) (f (n + m) ∷ []))

  -- the same numbers below n make the same table
  pub table-cong : (n : ℕ) {f g : ℕ → A} → ((i : ℕ) → i < n → f i ≡ g i) → table n f ≡ table n g
  unfolding table
  table-cong zero h = refl
  table-cong (suc n) h = ap₂ (λ l x. l ++ (x ∷ [])) (table-cong n (λ i l. h i (omega arith))) (h n (omega arith))

-- a constant table
pub table-constant : {A : Type 0} (n : ℕ) (a : A) → table n (λ _. a) ≡ replicate n a
table-constant n a =
    ext_get_or a (table n (λ _. a)) (replicate n a) (length-table n (λ _. a) ∙ sym (length-replicate n a)) (λ i l.
    let b : i < n = subst (λ (k : ℕ). i < k) (length-table n (λ _. a)) l in
    get_or-table n (λ _. a) i a b ∙ sym (get_or-replicate n i a a b))

-- a list from its elements
pub table-list : {A : Type 0} (l : List A) (g : ℕ → A) (d : A) → ((i : ℕ) → i < length l → g i ≡ get_or l i d) → table (length l) g ≡ l
table-list l g d e =
    ext_get_or d (table (length l) g) l (length-table (length l) g)
    (λ i h.
    let b : i < length l = subst (λ (n : ℕ). i < n) (length-table (length l) g) h in
    get_or-table (length l) g i d b ∙ e i b)

pub table-self : {A : Type 0} (l : List A) (d : A) → table (length l) (λ i. get_or l i d) ≡ l
table-self l d = table-list l (λ i. get_or l i d) d (λ i b. refl)
