-- How a statement about whole numbers is proved by `omega`, which reads natural numbers only.
--
-- A whole number x is `up x − down x`, its positive and its negative part. So an order or an equation between two
-- expressions is one between natural numbers, in which `omega` multiplies products out. A proof is one line:
--
--     by-≡ (search parts depth 12) (omega whole)          (or by-≤, by-<)
--
-- `search` takes both sides apart, down to what is no sum, difference, negation, product or `pos n`: that is an unknown.
-- `omega whole` then reads each hypothesis `x ≤ℤ y`, `x <ℤ y`, `x ≡ y` between unknowns and numerals. A hypothesis h
-- between longer expressions is handed over, taken apart in the same way:
--
--     by-≤ (search parts depth 12) (omega (whole, of-≤ h (search parts depth 12)))
--
-- What is not linear, such as that a square is not negative, is handed over too. `nat_abs x` is an unknown of its own:
-- `nat_abs-parts x` ties it to x. `omega` takes at most 64 monomials, which is degree 2 in some five unknowns: where an
-- expression grows past that, a helper over variables makes a product one unknown (`sums` in Cauchy). Ring and Order are
-- made of such lines.
use mathlib.Core.Path.{◌≡◌, refl, ap}
use mathlib.Core.Bool.{Bool, true, false, not, cond}
use Prim.Native.Nat.{ℕ, zero, suc, ◌+◌, ◌*◌, ◌-◌, ◌≤◌, ◌<◌}
use native.Mathlib.Omega.{arith}
use lib.Dec.{T, ltb, ltb→lt, nltb→le, le→leb, leb→le, lt→ltb}
use lib.IntN.{ℤ, pos, negsuc, nat_abs, neg_ℤ, sub_ℕ, ◌+ℤ◌, ◌*ℤ◌}
use lib.Signed.{◌≤ℤ◌, ◌<ℤ◌}

-- ---- the two parts: one of them is 0

abbrev pub up : ℤ → ℕ
up (pos n) = n
up (negsuc n) = 0

abbrev pub down : ℤ → ℕ
down (pos n) = 0
down (negsuc n) = suc n

pub nat_abs-parts : (x : ℤ) → nat_abs x ≡ up x + down x
nat_abs-parts (pos n) = omega arith
nat_abs-parts (negsuc n) = omega arith

-- ---- the parts of a sum, of a negation, of a product

parts_sub : (a b : ℕ) → up (sub_ℕ a b) + b ≡ a + down (sub_ℕ a b)
parts_sub a b = go (ltb a b) (ltb→lt a b) (nltb→le a b)
  where
    go : (t : Bool) → (T t → a < b) → (T (not t) → b ≤ a) → let z = cond t (negsuc (b - suc a)) (pos (a - b)) in up z + b ≡ a + down z
    go true h k = omega (arith, h tt)
    go false h k = omega (arith, k tt)

parts_sum : (x y : ℤ) → up (x +ℤ y) + (down x + down y) ≡ up x + up y + down (x +ℤ y)
parts_sum (pos a) (pos b) = omega arith
parts_sum (pos a) (negsuc b) = omega (arith, parts_sub a (suc b))
parts_sum (negsuc a) (pos b) = omega (arith, parts_sub b (suc a))
parts_sum (negsuc a) (negsuc b) = omega arith

up_neg : (x : ℤ) → up (neg_ℤ x) ≡ down x
up_neg (pos zero) = refl
up_neg (pos (suc n)) = refl
up_neg (negsuc n) = refl

down_neg : (x : ℤ) → down (neg_ℤ x) ≡ up x
down_neg (pos zero) = refl
down_neg (pos (suc n)) = refl
down_neg (negsuc n) = refl

parts_product : (x y : ℤ) → up (x *ℤ y) + (up x * down y + down x * up y) ≡ up x * up y + down x * down y + down (x *ℤ y)
parts_product (pos a) (pos b) = omega arith
parts_product (pos a) (negsuc b) = omega (arith, up_neg (pos (a * suc b)), down_neg (pos (a * suc b)))
parts_product (negsuc a) (pos b) = omega (arith, up_neg (pos (suc a * b)), down_neg (pos (suc a * b)))
parts_product (negsuc a) (negsuc b) = omega arith

-- ---- the order and equality by the parts

pub parts-≤ : {x y : ℤ} → x ≤ℤ y → up x + down y ≤ up y + down x
parts-≤ {x = pos a} {y = pos b} h = omega (arith, leb→le a b h.le)
parts-≤ {x = pos a} {y = negsuc b} h = absurd h.le
parts-≤ {x = negsuc a} {y = pos b} h = omega arith
parts-≤ {x = negsuc a} {y = negsuc b} h = omega (arith, leb→le b a h.le)

≤-parts : (x y : ℤ) → up x + down y ≤ up y + down x → x ≤ℤ y
≤-parts (pos a) (pos b) h = record { le = le→leb a b (omega arith) }
≤-parts (pos a) (negsuc b) h = absurd (omega arith)
≤-parts (negsuc a) (pos b) h = record { le = tt }
≤-parts (negsuc a) (negsuc b) h = record { le = le→leb b a (omega arith) }

pub parts-< : {x y : ℤ} → x <ℤ y → up x + down y < up y + down x
parts-< {x = pos a} {y = pos b} h = omega (arith, ltb→lt a b h.lt)
parts-< {x = pos a} {y = negsuc b} h = absurd h.lt
parts-< {x = negsuc a} {y = pos b} h = omega arith
parts-< {x = negsuc a} {y = negsuc b} h = omega (arith, ltb→lt b a h.lt)

<-parts : (x y : ℤ) → up x + down y < up y + down x → x <ℤ y
<-parts (pos a) (pos b) h = record { lt = lt→ltb a b (omega arith) }
<-parts (pos a) (negsuc b) h = absurd (omega arith)
<-parts (negsuc a) (pos b) h = record { lt = tt }
<-parts (negsuc a) (negsuc b) h = record { lt = lt→ltb b a (omega arith) }

pub parts-≡ : {x y : ℤ} → x ≡ y → up x + down y ≡ up y + down x
parts-≡ h = rw h

≡-parts : (x y : ℤ) → up x + down y ≡ up y + down x → x ≡ y
≡-parts (pos a) (pos b) h = ap pos (omega arith)
≡-parts (pos a) (negsuc b) h = absurd (omega arith)
≡-parts (negsuc a) (pos b) h = absurd (omega arith)
≡-parts (negsuc a) (negsuc b) h = ap negsuc (omega arith)

-- what `omega` is handed
pub ruleset whole = (arith, parts-≤, parts-<, parts-≡)

-- ---- an expression as a difference of two natural numbers
--
-- `search` looks for the shallowest proof, and of the lemmas that fit it tries one with fewer premises first. To have it
-- take an expression apart as far as it goes, and only then call what is left an unknown, all proofs of `Diff k x` are
-- made equally deep, by the index k, and `unknown` is given the most premises.

pub data Depth : Type 0 where
  none : Depth
  more : Depth → Depth

-- has one proof, which is as deep as k
pub data Reach : Depth → Type 0 where
  end : Reach none
  on : {k : Depth} → Reach k → Reach (more k)

-- x is `plus − minus`, taken apart at most k operations deep
pub record Diff (k : Depth) (x : ℤ) : Type 0 where
  pub plus : ℕ
  pub minus : ℕ
  pub is : plus + down x ≡ up x + minus

abbrev pub unknown : {k : Depth} {x : ℤ} → Reach k → Reach none → Reach none → Diff k x
unknown {x} r s t = record { plus = up x; minus = down x; is = refl }

abbrev pub number : {k : Depth} {n : ℕ} → Reach k → Diff k (pos n)
number {n} r = record { plus = n; minus = 0; is = refl }

abbrev pub negative : {k : Depth} {n : ℕ} → Reach k → Diff k (negsuc n)
negative {n} r = record { plus = 0; minus = suc n; is = refl }

pub negation_is : {k : Depth} {x : ℤ} (a : Diff k x) → a.minus + down (neg_ℤ x) ≡ up (neg_ℤ x) + a.plus
negation_is {x} a = omega (arith, up_neg x, down_neg x)

abbrev pub negation : {k : Depth} {x : ℤ} → Diff k x → Diff (more k) (neg_ℤ x)
negation a = record { plus = a.minus; minus = a.plus; is = negation_is a }

module _ {k : Depth} {x y : ℤ} (a : Diff k x) (b : Diff k y) where
  pub sum_is : a.plus + b.plus + down (x +ℤ y) ≡ up (x +ℤ y) + (a.minus + b.minus)
  sum_is = omega (arith, parts_sum x y)

  abbrev pub sum : Diff (more k) (x +ℤ y)
  sum = record { plus = a.plus + b.plus; minus = a.minus + b.minus; is = sum_is }

  pub product_is : a.plus * b.plus + a.minus * b.minus + down (x *ℤ y) ≡ up (x *ℤ y) + (a.plus * b.minus + a.minus * b.plus)
  product_is =
      omega (arith, parts_product x y, ap (λ t. t * b.plus) a.is, ap (λ t. t * b.minus) a.is, ap (λ t. up x * t) b.is, ap (λ t. down x * t) b.is)

  abbrev pub product : Diff (more k) (x *ℤ y)
  product =
      record { plus = a.plus * b.plus + a.minus * b.minus; minus = a.plus * b.minus + a.minus * b.plus; is = product_is }

  pub compare_is : a.plus + b.minus + (up y + down x) ≡ b.plus + a.minus + (up x + down y)
  compare_is = omega arith

-- x is to y as the natural number `low` is to `high`
pub record Compare (x y : ℤ) : Type 0 where
  pub low : ℕ
  pub high : ℕ
  pub is : low + (up y + down x) ≡ high + (up x + down y)

abbrev pub nine : Depth
nine = more (more (more (more (more (more (more (more (more none))))))))

-- A proof of `Reach nine` is ten lemmas deep, and `unknown` and `compare` add one each: hence `depth 12`. `compare` asks
-- for it first, so that a search that is not that deep fails at once.
abbrev pub compare : {x y : ℤ} → Reach nine → Diff nine x → Diff nine y → Compare x y
compare r a b = record { low = a.plus + b.minus; high = b.plus + a.minus; is = compare_is a b }

-- what `search` is handed
pub ruleset parts = (compare, unknown, number, negative, negation, sum, product, Reach.end, Reach.on)

-- ---- from natural numbers, and back

pub by-≤ : {x y : ℤ} (c : Compare x y) → c.low ≤ c.high → x ≤ℤ y
by-≤ {x} {y} c h = ≤-parts x y (omega arith)

pub by-< : {x y : ℤ} (c : Compare x y) → c.low < c.high → x <ℤ y
by-< {x} {y} c h = <-parts x y (omega arith)

pub by-≡ : {x y : ℤ} (c : Compare x y) → c.low ≡ c.high → x ≡ y
by-≡ {x} {y} c h = ≡-parts x y (omega arith)

pub of-≤ : {x y : ℤ} → x ≤ℤ y → (c : Compare x y) → c.low ≤ c.high
of-≤ h c = omega whole

pub of-< : {x y : ℤ} → x <ℤ y → (c : Compare x y) → c.low < c.high
of-< h c = omega whole

pub of-≡ : {x y : ℤ} → x ≡ y → (c : Compare x y) → c.low ≡ c.high
of-≡ h c = omega whole
