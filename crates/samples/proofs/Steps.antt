-- What the functions' proofs cite. Assumes nothing.
use mathlib.Core.Path.{◌≡◌, refl, sym, ap, ◌∙◌, subst}
use mathlib.Core.List.{List, [], ◌∷◌}
use Prim.Native.Nat.{ℕ, zero, suc, ◌+◌, ◌*◌, ◌/◌, ◌%◌, ◌^◌, ◌≤◌, ◌<◌}
use native.Mathlib.Nat.{mul-one, mul-div_cancel, mul-mod_left, mul-le-mul, le_trans, zero-lt-suc}
use native.Mathlib.Omega.{arith}
use native.Mathlib.Numerals.{add-one}
use mathlib.Core.Bool.{Bool, true, false, not, ◌&&◌}
use lib.IntN.{ℤ, pos, negsuc, neg_ℤ, nat_abs, ◌+ℤ◌, ◌*ℤ◌}
use lib.Signed.{lt_z}
use lib.Dec.{T, ltb, eqb, eqb→eq, lit≤, ltb→lt, lt→ltb}
use lib.ListN.{length, get_or}
use lib.Ieee.{Float, nan, inf, fin, binary64, up, down, add, sub, mul, lt}
use lib.Ieee.Fits.{down_pos, and_l, and_r, and_i, eq→eqb}
use Rattle.laws.specs.Scan.{all}
use Rattle.laws.proofs.Cases.{if_yes, if_no, and_yes, and_no}
use borrow.Author.Tests.{not-true, not-false, ne_eqb}
use Rattle.laws.proofs.Refusals.{stop, pass, none_left, not_due}
use Rattle.samples.specs.Whole.{signed, is_whole, whole_of, of_whole, within}
use Rattle.samples.proofs.Arithmetic.{Means, of_means, whole_means, lt_means, mul_means, add_whole, sub_whole, abs_add, abs_mul, plus_of, minus_of, plus_add, minus_add, plus_neg, minus_neg, abs_parts, between, between_parts, parts_between, none_sub}
use Rattle.samples.specs.Symbol.{is_sample, is_part, is_pair, total, part, product, verdict_of, refusal, taken, decide_cases, decide_answer, decided}
use Rattle.samples.specs.declared.Pair.{Pair}
use Rattle.samples.specs.declared.Verdict.{Verdict}
use Rattle.samples.specs.declared.Verdict.TheVariants.{Zero, One, Undecided}
use Rattle.samples.specs.Symbol.{Decided}

-- ---- small things
pub holds : {b : Bool} → b ≡ true → T b
holds e = subst T (sym e) tt

pub is_true : (b : Bool) → T b → b ≡ true
is_true true t = refl
is_true false t = absurd t

zero_add : (z : ℤ) → pos 0 +ℤ z ≡ z
zero_add (pos n) = let h : 0 + n ≡ n = omega arith in ap pos h
zero_add (negsuc n) = none_sub n

-- ---- the float of a whole number stands for it, and gives it back
pub means_back : (x : Float) (z : ℤ) → Means x z → T (is_whole x) × (whole_of x ≡ z)
unfolding is_whole whole_of
means_back nan z p = absurd p.value
means_back (inf s) z p = absurd p.value
means_back (fin t m e) z p =
    let q : m * up e ≡ p.size * down e = sym (mul-one (m * up e)) ∙ p.value.1 in (
      eq→eqb (ap (λ (x : ℕ). x % down e) q ∙ mul-mod_left p.size (down e)),
      ap (λ (x : ℕ). signed t (x / down e)) q ∙ ap (signed t) (mul-div_cancel p.size (down_pos e)) ∙ ap (λ (s : Bool). signed s p.size) p.value.0 ∙ p.is,
    )

-- ---- what `within` says
pub within_whole : (low high : ℤ) (x : Float) → T (within low high x) → T (is_whole x)
unfolding within
within_whole low high x t = and_l (is_whole x) (not (lt_z (whole_of x) low) && not (lt_z high (whole_of x))) t

pub within_means : (low high : ℤ) (x : Float) → T (within low high x) → Means x (whole_of x)
within_means low high x t = whole_means x (within_whole low high x t)

pub within_between : (a b : ℕ) (x : Float) → T (within (negsuc a) (pos b) x) → T (between a b (whole_of x))
unfolding within
within_between a b x t = and_r (is_whole x) (between a b (whole_of x)) t

pub between_within : (a b : ℕ) (x : Float) (z : ℤ) → Means x z → T (between a b z) → T (within (negsuc a) (pos b) x)
unfolding within
between_within a b x z m t =
    let k = means_back x z m in
    and_i (is_whole x) (between a b (whole_of x)) k.0 (subst (λ (w : ℤ). T (between a b w)) (sym k.1) t)

pub part_size : (x : Float) → T (is_part x) → nat_abs (whole_of x) ≤ 524280
part_size x t = (between_parts 524279 524280 (whole_of x) (within_between 524279 524280 x t)).2

-- ---- a symbol's samples
pub sample_at : (xs : List Float) → T (all is_sample xs) → (i : ℕ) → i < length xs → T (is_sample (get_or xs i nan))
sample_at [] t i h = absurd (none i h)
  where
    none : (i : ℕ) → i < 0 → ⊥
    none i h = omega arith
sample_at (x ∷ xs) t zero h = and_l (is_sample x) (all is_sample xs) t
sample_at (x ∷ xs) t (suc i) h = sample_at xs (and_r (is_sample x) (all is_sample xs) t) i (omega arith)

pub sample_bound : (xs : List Float) → T (all is_sample xs) → (i : ℕ) → (plus_of (whole_of (get_or xs i nan)) ≤ 32767) × (minus_of (whole_of (get_or xs i nan)) ≤ 32768)
unfolding whole_of
sample_bound [] t i = (lit≤ {m = 0} {n = 32767} tt, lit≤ {m = 0} {n = 32768} tt)
sample_bound (x ∷ xs) t zero = let k = between_parts 32767 32767 (whole_of x) (within_between 32767 32767 x (and_l (is_sample x) (all is_sample xs) t)) in (k.0, k.1)
sample_bound (x ∷ xs) t (suc i) = sample_bound xs (and_r (is_sample x) (all is_sample xs) t) i

pub total_bound : (xs : List Float) → T (all is_sample xs) → (at n : ℕ) → (plus_of (total xs at n) ≤ 32767 * n) × (minus_of (total xs at n) ≤ 32768 * n)
unfolding total
total_bound xs t at zero = (lit≤ {m = 0} {n = 0} tt, lit≤ {m = 0} {n = 0} tt)
total_bound xs t at (suc n) =
    let x = whole_of (get_or xs (at + 2 * n) nan) in
    let k = total_bound xs t at n in
    let l = sample_bound xs t (at + 2 * n) in
    (omega (arith, plus_add (total xs at n) x), omega (arith, minus_add (total xs at n) x))

pub total_abs : (xs : List Float) → T (all is_sample xs) → (at n : ℕ) → n ≤ 8 → nat_abs (total xs at n) ≤ 2 ^ 53
total_abs xs t at n h =
    let k = total_bound xs t at n in
    let l : nat_abs (total xs at n) ≤ 524280 = omega (arith, abs_parts (total xs at n)) in
    le_trans l (lit≤ {m = 524280} {n = 2 ^ 53} tt)

-- one turn of the sum
pub total_more : (xs : List Float) (at n : ℕ) → T (all is_sample xs) → n < 8 → at + 2 * n < length xs
    → add binary64 (of_whole (total xs at n)) (get_or xs (at + 2 * n) nan) ≡ of_whole (total xs at (n + 1))
unfolding total
total_more xs at n t h l =
    let x = get_or xs (at + 2 * n) nan in
    add_whole binary64 (total xs at n) x (whole_of x) (total_abs xs t at n (omega arith)) (within_means (negsuc 32767) (pos 32767) x (sample_at xs t (at + 2 * n) l))
    ∙ ap (λ (k : ℕ). of_whole (total xs at k)) (sym (add-one n))

pub part_is : (xs : List Float) (at : ℕ) → T (all is_sample xs) → sub binary64 (of_whole (total xs at 8)) (of_whole (total xs (at + 16) 8)) ≡ of_whole (part xs at)
part_is xs at t =
    let eight : 8 ≤ 8 = omega arith in
    sub_whole binary64 (total xs at 8) (of_whole (total xs (at + 16) 8)) (total xs (at + 16) 8) (total_abs xs t at 8 eight)
    (of_means binary64 (total xs (at + 16) 8) (total_abs xs t (at + 16) 8 eight))

-- the symbol's numbers are at most 524,280 either way
pub part_between : (xs : List Float) (at : ℕ) → T (all is_sample xs) → T (between 524279 524280 (part xs at))
part_between xs at t =
    let a = total xs at 8 in
    let b = total xs (at + 16) 8 in
    let k = total_bound xs t at 8 in
    let l = total_bound xs t (at + 16) 8 in
    parts_between 524279 524280 (part xs at) (omega (arith, plus_add a (neg_ℤ b), plus_neg b)) (omega (arith, minus_add a (neg_ℤ b), minus_neg b))

pub part_means : (xs : List Float) (at : ℕ) → T (all is_sample xs) → Means (of_whole (part xs at)) (part xs at)
part_means xs at t = of_means binary64 (part xs at) (le_trans (between_parts 524279 524280 (part xs at) (part_between xs at t)).2 (lit≤ {m = 524280} {n = 2 ^ 53} tt))

pub part_good : (xs : List Float) (at : ℕ) → T (all is_sample xs) → T (is_part (of_whole (part xs at)))
part_good xs at t = between_within 524279 524280 (of_whole (part xs at)) (part xs at) (part_means xs at t) (part_between xs at t)

-- ---- the dot product
pub product_is : (a b a' b' : Float) → T (is_whole a) → T (is_whole b) → T (is_whole a') → T (is_whole b')
    → nat_abs (whole_of a) ≤ 524280 → nat_abs (whole_of b) ≤ 524280 → nat_abs (whole_of a') ≤ 524280 → nat_abs (whole_of b') ≤ 524280
    → add binary64 (add binary64 (of_whole (pos 0)) (mul binary64 a a')) (mul binary64 b b') ≡ of_whole (product (whole_of a) (whole_of b) (whole_of a') (whole_of b'))
product_is a b a' b' p q p' q' s t s' t' =
    let i = whole_of a *ℤ whole_of a' in
    let j = whole_of b *ℤ whole_of b' in
    let x : nat_abs (whole_of a) * nat_abs (whole_of a') ≤ 2 ^ 53 = le_trans (mul-le-mul s s') (lit≤ {m = 524280 * 524280} {n = 2 ^ 53} tt) in
    let y : nat_abs (whole_of b) * nat_abs (whole_of b') ≤ 2 ^ 53 = le_trans (mul-le-mul t t') (lit≤ {m = 524280 * 524280} {n = 2 ^ 53} tt) in
    let m = mul_means binary64 a a' (whole_of a) (whole_of a') (whole_means a p) (whole_means a' p') x in
    let n = mul_means binary64 b b' (whole_of b) (whole_of b') (whole_means b q) (whole_means b' q') y in
    ap (λ (k : Float). add binary64 k (mul binary64 b b')) (add_whole binary64 (pos 0) (mul binary64 a a') i (lit≤ {m = 0} {n = 2 ^ 53} tt) m ∙ ap of_whole (zero_add i))
    ∙ add_whole binary64 i (mul binary64 b b') j (subst (λ (k : ℕ). k ≤ 2 ^ 53) (sym (abs_mul (whole_of a) (whole_of a'))) x) n

-- ---- the verdict
pub zero_means : Means (of_whole (pos 0)) (pos 0)
zero_means = of_means binary64 (pos 0) (lit≤ {m = 0} {n = 2 ^ 53} tt)

above : (x : Float) (z : ℤ) → x ≡ of_whole z → lt_z (pos 0) z ≡ true → Zero x ≡ verdict_of z
unfolding verdict_of
above x (pos zero) e h = let bad : false ≡ true = h in absurd (holds bad)
above x (pos (suc n)) e h = ap Zero e
above x (negsuc n) e h = absurd (holds h)

under : (x : Float) (z : ℤ) → x ≡ of_whole z → lt_z z (pos 0) ≡ true → One x ≡ verdict_of z
unfolding verdict_of
under x (pos n) e h = absurd (none n (holds h))
  where
    low_none : (n : ℕ) → n < 0 → ⊥
    low_none n h = omega arith

    none : (n : ℕ) → T (ltb n 0) → ⊥
    none n t = low_none n (ltb→lt n 0 t)
under x (negsuc n) e h = ap One e

neither : (z : ℤ) → lt_z (pos 0) z ≡ false → lt_z z (pos 0) ≡ false → Undecided (of_whole (pos 0)) ≡ verdict_of z
unfolding verdict_of
neither (pos zero) h k = refl
neither (pos (suc n)) h k = absurd (subst T h (lt→ltb 0 (suc n) (zero-lt-suc n)))
neither (negsuc n) h k = absurd (subst T k tt)

module _ (x : Float) (w : T (is_whole x)) (e : x ≡ of_whole (whole_of x)) where
  pub verdict_above : lt (of_whole (pos 0)) x ≡ true → Zero x ≡ verdict_of (whole_of x)
  verdict_above h = above x (whole_of x) e (sym (lt_means (of_whole (pos 0)) x (pos 0) (whole_of x) zero_means (whole_means x w)) ∙ h)

  pub verdict_under : lt x (of_whole (pos 0)) ≡ true → One x ≡ verdict_of (whole_of x)
  verdict_under h = under x (whole_of x) e (sym (lt_means x (of_whole (pos 0)) (whole_of x) (pos 0) (whole_means x w) zero_means) ∙ h)

  pub verdict_neither : lt (of_whole (pos 0)) x ≡ false → lt x (of_whole (pos 0)) ≡ false → Undecided (of_whole (pos 0)) ≡ verdict_of (whole_of x)
  verdict_neither h k =
      neither (whole_of x) (sym (lt_means (of_whole (pos 0)) x (pos 0) (whole_of x) zero_means (whole_means x w)) ∙ h)
      (sym (lt_means x (of_whole (pos 0)) (whole_of x) (pos 0) (whole_means x w) zero_means) ∙ k)

pub pair_part : (p : Pair) → T (is_pair p) → T (is_part p.inphase) × T (is_part p.quadrature)
pair_part p t = (and_l (is_part p.inphase) (is_part p.quadrature) t, and_r (is_part p.inphase) (is_part p.quadrature) t)

part_whole : (x : Float) → T (is_part x) → T (is_whole x)
part_whole x t = within_whole (negsuc 524279) (pos 524280) x t

part_below : (x : Float) → T (is_part x) → nat_abs (whole_of x) ≤ 524280
part_below x t = part_size x t

pub dot_is : (p r : Pair) → T (is_pair p) → T (is_pair r)
    → add binary64 (add binary64 (of_whole (pos 0)) (mul binary64 p.inphase r.inphase)) (mul binary64 p.quadrature r.quadrature)
    ≡ of_whole (product (whole_of p.inphase) (whole_of p.quadrature) (whole_of r.inphase) (whole_of r.quadrature))
dot_is p r s t =
    let a = pair_part p s in
    let b = pair_part r t in
    product_is p.inphase p.quadrature r.inphase r.quadrature
    (part_whole p.inphase a.0) (part_whole p.quadrature a.1) (part_whole r.inphase b.0) (part_whole r.quadrature b.1)
    (part_below p.inphase a.0) (part_below p.quadrature a.1) (part_below r.inphase b.0) (part_below r.quadrature b.1)

-- ---- the product stays exact
pub product_small : (i q i' q' : ℤ) → nat_abs i ≤ 524280 → nat_abs q ≤ 524280 → nat_abs i' ≤ 524280 → nat_abs q' ≤ 524280 → nat_abs (product i q i' q') ≤ 2 ^ 53
product_small i q i' q' a b c d =
    let x : nat_abs i * nat_abs i' ≤ 524280 * 524280 = mul-le-mul a c in
    let y : nat_abs q * nat_abs q' ≤ 524280 * 524280 = mul-le-mul b d in
    let z : nat_abs (product i q i' q') ≤ 524280 * 524280 + 524280 * 524280 = omega (arith, abs_add (i *ℤ i') (q *ℤ q'), abs_mul i i', abs_mul q q') in
    le_trans z (lit≤ {m = 524280 * 524280 + 524280 * 524280} {n = 2 ^ 53} tt)

-- ---- the answer, test by test
-- a test `if !f(x)`, with what f ensures
pub failed : {b r : Bool} → r ≡ b → not r ≡ true → b ≡ false
failed {r = r} e h = sym e ∙ not-true r h

pub passed : {b r : Bool} → r ≡ b → not r ≡ false → b ≡ true
passed {r = r} e h = sym e ∙ not-false r h

pub pair_first : (p : Pair) → is_part p.inphase ≡ false → is_pair p ≡ false
pair_first p h = and_no (is_part p.quadrature) h

pub pair_second : (p : Pair) → is_part p.inphase ≡ true → is_part p.quadrature ≡ false → is_pair p ≡ false
pair_second p h k = and_yes (is_part p.quadrature) h ∙ k

pub pair_both : (p : Pair) → is_part p.inphase ≡ true → is_part p.quadrature ≡ true → is_pair p ≡ true
pair_both p h k = and_yes (is_part p.quadrature) h ∙ k

module _ (s : Pair) (xs : List Float) where
  pub gives_28 : is_pair s ≡ false → 28 ≡ decide_answer s xs
  unfolding decide_answer decide_cases
  gives_28 a = sym (stop 28 _ (ap not a))

  pub gives_37 : is_pair s ≡ true → eqb (length xs) 32 ≡ false → 37 ≡ decide_answer s xs
  unfolding decide_answer decide_cases
  gives_37 a b = sym (pass 28 _ (ap not a) ∙ stop 37 _ (ap not b))

  pub gives_38 : is_pair s ≡ true → eqb (length xs) 32 ≡ true → all is_sample xs ≡ false → 38 ≡ decide_answer s xs
  unfolding decide_answer decide_cases
  gives_38 a b e = sym (pass 28 _ (ap not a) ∙ pass 37 _ (ap not b) ∙ stop 38 _ (ap not e))

  pub gives_0 : is_pair s ≡ true → eqb (length xs) 32 ≡ true → all is_sample xs ≡ true → 0 ≡ decide_answer s xs
  unfolding decide_answer decide_cases
  gives_0 a b e = sym (pass 28 _ (ap not a) ∙ pass 37 _ (ap not b) ∙ pass 38 _ (ap not e) ∙ none_left)

  -- and what 0 tells
  pub passed_all : 0 ≡ decide_answer s xs → T (is_pair s) × (length xs ≡ 32) × T (all is_sample xs)
  unfolding decide_answer decide_cases
  passed_all h =
      let a = not_due (not (is_pair s)) 28 _ (λ (z : 28 ≡ 0). omega arith) (sym h) in
      let b = not_due (not (eqb (length xs) 32)) 37 _ (λ (z : 37 ≡ 0). omega arith) a.1 in
      let d = not_due (not (all is_sample xs)) 38 _ (λ (z : 38 ≡ 0). omega arith) b.1 in
      (holds (not-false (is_pair s) a.0), eqb→eq (length xs) 32 (holds (not-false (eqb (length xs) 32) b.0)), holds (not-false (all is_sample xs) d.0))

  pub is_refused : (n : ℕ) → n ≡ decide_answer s xs → (n ≡ 0 → ⊥) → refusal n s ≡ decided s xs
  unfolding decided
  is_refused n e h =
      ap (λ (k : ℕ). refusal k s) e
      ∙ sym (if_no (taken s xs) (refusal (decide_answer s xs) s) (ap (λ (k : ℕ). eqb k 0) (sym e) ∙ ne_eqb n 0 h))

  pub is_taken : 0 ≡ decide_answer s xs → taken s xs ≡ decided s xs
  unfolding decided
  is_taken e = sym (if_yes (taken s xs) (refusal (decide_answer s xs) s) (ap (λ (k : ℕ). eqb k 0) (sym e)))

-- the symbol's pair, from its two numbers
module _ (s : Pair) (xs : List Float) (a : T (is_pair s)) (t : T (all is_sample xs)) (i q : Float) (di : i ≡ of_whole (part xs 0)) (dq : q ≡ of_whole (part xs 1)) where
  pub symbol_good : T (is_pair (record { inphase = i; quadrature = q }))
  symbol_good = and_i (is_part i) (is_part q) (subst (λ (x : Float). T (is_part x)) (sym di) (part_good xs 0 t)) (subst (λ (x : Float). T (is_part x)) (sym dq) (part_good xs 1 t))

  abbrev z : ℤ
  z = product (whole_of s.inphase) (whole_of s.quadrature) (whole_of i) (whole_of q)

  pub product_means : (p : Float) → p ≡ of_whole z → Means p z
  product_means p e =
      let k = pair_part s a in
      let l = pair_part (record { inphase = i; quadrature = q }) symbol_good in
      subst (λ (x : Float). Means x z) (sym e)
      (of_means binary64 z (product_small (whole_of s.inphase) (whole_of s.quadrature) (whole_of i) (whole_of q)
      (part_size s.inphase k.0) (part_size s.quadrature k.1) (part_size i l.0) (part_size q l.1)))

  pub product_good : (p : Float) → p ≡ of_whole z → T (is_whole p) × (p ≡ of_whole (whole_of p))
  product_good p e = let k = means_back p z (product_means p e) in (k.0, e ∙ ap of_whole (sym k.1))

  number : (x : Float) (at : ℕ) → x ≡ of_whole (part xs at) → whole_of x ≡ part xs at
  number x at d = ap whole_of d ∙ (means_back (of_whole (part xs at)) (part xs at) (part_means xs at t)).1

  pub all_good : (p : Float) (v : Verdict) → p ≡ of_whole z → v ≡ verdict_of (whole_of p)
      → ◌≡◌ {A = Decided} (record { answer = 0; verdict = v; state = record { inphase = i; quadrature = q } }) (taken s xs)
  all_good p v e h =
      let w : whole_of p ≡ product (whole_of s.inphase) (whole_of s.quadrature) (part xs 0) (part xs 1) =
      (means_back p z (product_means p e)).1
      ∙ ap (λ (k : ℤ). product (whole_of s.inphase) (whole_of s.quadrature) k (whole_of q)) (number i 0 di)
      ∙ ap (λ (k : ℤ). product (whole_of s.inphase) (whole_of s.quadrature) (part xs 0) k) (number q 1 dq) in
      λ j. record { answer = 0; verdict = (h ∙ ap verdict_of w) j; state = record { inphase = di j; quadrature = dq j } }
