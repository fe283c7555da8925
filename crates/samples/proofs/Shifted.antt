-- A float is a whole number within bounds exactly when its sum with 3 * 2 ^ 51 stays within the shifted bounds and gives it back. Assumes nothing.
use mathlib.Core.Path.{◌≡◌, refl, sym, ap, ◌∙◌, subst}
use Prim.Native.Nat.{ℕ, zero, suc, ◌+◌, ◌-◌, ◌*◌, ◌%◌, ◌^◌, ◌≤◌, ◌<◌}
use native.Mathlib.Nat.{le_trans, zero-lt-suc, zero-mul, mul-one, mul_right_comm, mul_comm, mul_assoc, lt_irrefl, lt_of_lt_of_le, le_of_mul-le-mul_right, mul-le-mul, mul-pos, eq_of_mul-eq-mul_right}
use native.Mathlib.Omega.{arith}
use mathlib.Core.Bool.{Bool, true, false, not, ◌&&◌, ◌||◌, cond, false≢true, true≢false, beq}
use lib.IntN.{ℤ, pos, negsuc, nat_abs, ◌+ℤ◌, ◌-ℤ◌, +ℤ_comm, +ℤ-neg_ℤ_cancel, pos-ne-negsuc}
use lib.Signed.{lt_z}
use lib.Dec.{T, ltb, leb, eqb, eqb→eq, ltb→lt, nltb→le, lit≤}
use lib.Pow.{pow_pos, pow_mono}
use lib.Ieee.{Float, nan, inf, fin, binary64, low, emax, up, down, below, add, sub, lt, eq, fits}
use lib.Ieee.Fits.{down_pos, eq→eqb, and_l, and_r, add-fits, of_int-fits}
use lib.Ieee.Exact.{HasValue}
use lib.Ieee.Back.{whole_unique}
use borrow.Author.Tests.{eq-eqb, not-true}
use Rattle.laws.proofs.Cases.{and_yes, and_both}
use Rattle.laws.proofs.Elements.{by_test}
use Rattle.samples.specs.Symbol.{is_part}
use Rattle.samples.specs.Whole.{signed, is_whole, whole_of, of_whole, within}
use Rattle.samples.proofs.Arithmetic.{Means, of_means, whole_means, lt_means, add_whole, sub_whole, ltb_is, of_value, abs_signed}
use Rattle.samples.proofs.Steps.{holds, is_true, means_back, part_size, within_means}

-- ---- z above m, as a natural number
abbrev raised : ℕ → ℤ → ℕ
raised m (pos n) = m + n
raised m (negsuc n) = m - suc n

raise : (m : ℕ) (z : ℤ) → nat_abs z ≤ m → pos m +ℤ z ≡ pos (raised m z)
raise m (pos n) h = refl
raise m (negsuc n) h = ap (λ (b : Bool). cond b (negsuc (suc n - suc m)) (pos (m - suc n))) (ltb_is m (suc n) false (λ t. absurd t) (λ t. h))

raised_order : (m : ℕ) (z w : ℤ) → nat_abs z ≤ m → nat_abs w ≤ m → ltb (raised m z) (raised m w) ≡ lt_z z w
raised_order m (pos a) (pos b) h k = ltb_is (m + a) (m + b) (ltb a b) (λ t. let p : a < b = ltb→lt a b t in omega arith) (λ t. let p : b ≤ a = nltb→le a b t in omega arith)
raised_order m (pos a) (negsuc b) h k = ltb_is (m + a) (m - suc b) false (λ t. absurd t) (λ t. omega arith)
raised_order m (negsuc a) (pos b) h k = ltb_is (m - suc a) (m + b) true (λ t. omega arith) (λ t. absurd t)
raised_order m (negsuc a) (negsuc b) h k = ltb_is (m - suc a) (m - suc b) (ltb b a) (λ t. let p : b < a = ltb→lt b a t in omega arith) (λ t. let p : a ≤ b = nltb→le b a t in omega arith)

-- y less m, which raised by m is y again
lowered : (m y : ℕ) → 0 < m → y ≤ m + m → (nat_abs (pos y -ℤ pos m) ≤ m) × (raised m (pos y -ℤ pos m) ≡ y)
lowered zero y h k = absurd (lt_irrefl 0 h)
lowered (suc m) y h k = go (ltb y (suc m)) (ltb→lt y (suc m)) (nltb→le y (suc m))
  where
    go : (b : Bool) → (T b → y < suc m) → (T (not b) → suc m ≤ y) → (nat_abs (cond b (negsuc (suc m - suc y)) (pos (y - suc m))) ≤ suc m) × (raised (suc m) (cond b (negsuc (suc m - suc y)) (pos (y - suc m))) ≡ y)
    go true p q = let l : y < suc m = p tt in (omega arith, omega arith)
    go false p q = let l : suc m ≤ y = q tt in (omega arith, omega arith)

-- ---- a number between two others is no larger than both
within_size : (k : ℕ) (l h z : ℤ) → nat_abs l ≤ k → nat_abs h ≤ k → lt_z z l ≡ false → lt_z h z ≡ false → nat_abs z ≤ k
within_size k l (pos b) (pos n) p q u v = le_trans (nltb→le b n (subst (λ (x : Bool). T (not x)) (sym v) tt)) q
within_size k l (negsuc b) (pos n) p q u v = absurd (true≢false v)
within_size k (pos a) h (negsuc n) p q u v = absurd (true≢false u)
within_size k (negsuc a) h (negsuc n) p q u v = let w : n ≤ a = nltb→le a n (subst (λ (x : Bool). T (not x)) (sym u) tt) in omega arith

-- ---- a float from 2 ^ 52 on is whole
few_digits : (t : Bool) (n : ℕ) (e : ℤ) → T (fits binary64 (fin t n e)) → n < 2 ^ 53
unfolding fits
few_digits t zero e f = pow_pos 53
few_digits t (suc n) e f =
    let u = eqb (suc n % 2) 1 && ltb (suc n) (2 ^ 53) in
    let v = u && leb (down e) (2 ^ low binary64) in
    ltb→lt (suc n) (2 ^ 53) (and_r (eqb (suc n % 2) 1) (ltb (suc n) (2 ^ 53)) (and_l u (leb (down e) (2 ^ low binary64)) (and_l v (ltb (suc n * up e) (2 ^ suc (emax binary64) * down e)) f)))

too_many : (n r k d : ℕ) → 0 < d → 2 ^ 52 ≤ r → n < 2 ^ 53 → r * d * 2 ^ suc k ≤ n * 1 * d → ⊥
too_many n r k d p h l q =
    let e : r * d * 2 ^ suc k ≡ r * 2 ^ suc k * d = mul_right_comm r d (2 ^ suc k) in
    let g : n * 1 * d ≡ n * d = ap (λ (x : ℕ). x * d) (mul-one n) in
    let m : r * 2 ^ suc k ≤ n = le_of_mul-le-mul_right (subst (λ (x : ℕ). x ≤ n * d) e (subst (λ (x : ℕ). r * d * 2 ^ suc k ≤ x) g q)) p in
    let one : 1 ≤ suc k = omega arith in
    let t : 2 ^ 52 * 2 ^ 1 ≤ r * 2 ^ suc k = mul-le-mul h (pow_mono one) in
    clash m t
  where
    clash : r * 2 ^ suc k ≤ n → 2 ^ 52 * 2 ^ 1 ≤ r * 2 ^ suc k → ⊥
    clash m t = omega arith

module _ (r : ℕ) (h : 2 ^ 52 ≤ r) where
  large : (t : Bool) (n : ℕ) (e : ℤ) (y : Float) → T (fits binary64 (fin t n e)) → HasValue y false r 1 → lt (fin t n e) y ≡ false → T (is_whole (fin t n e))
  unfolding lt is_whole
  large t n (pos k) y f v q = let z : n * 2 ^ k % 1 ≡ 0 = omega arith in eq→eqb z
  large t n (negsuc k) nan f v q = elim v [ ]
  large t n (negsuc k) (inf _) f v q = elim v [ ]
  large t n (negsuc k) (fin u m d) f v q = absurd (by t (few_digits t n (negsuc k) f) (sym given ∙ q))
    where
      given : below t (n * 1 * down d) u (m * up d * 2 ^ suc k) ≡ below t (n * 1 * down d) false (r * down d * 2 ^ suc k)
      given =
          ap (λ (x : Bool). below t (n * 1 * down d) x (m * up d * 2 ^ suc k)) v.0
          ∙ ap (λ (x : ℕ). below t (n * 1 * down d) false (x * 2 ^ suc k)) (sym (mul-one (m * up d)) ∙ v.1)

      above_none : 0 < r * down d * 2 ^ suc k
      above_none = mul-pos (mul-pos (lt_of_lt_of_le (pow_pos 52) h) (down_pos d)) (pow_pos (suc k))

      by : (t : Bool) → n < 2 ^ 53 → below t (n * 1 * down d) false (r * down d * 2 ^ suc k) ≡ false → ⊥
      by true l e =
          let none : n * 1 * down d + r * down d * 2 ^ suc k ≤ 0 = nltb→le 0 (n * 1 * down d + r * down d * 2 ^ suc k) (subst (λ (x : Bool). T (not x)) (sym e) tt) in
          clash above_none none
        where
          clash : 0 < r * down d * 2 ^ suc k → n * 1 * down d + r * down d * 2 ^ suc k ≤ 0 → ⊥
          clash a b = omega arith
      by false l e = too_many n r k (down d) (down_pos d) h l (nltb→le (n * 1 * down d) (r * down d * 2 ^ suc k) (subst (λ (x : Bool). T (not x)) (sym e) tt))

-- ---- floats that are equal stand for one number
same_sign : (s t : Bool) (a b : ℕ) → signed s a ≡ signed t b → (beq s t || eqb a 0) ≡ true
same_sign false false a b e = refl
same_sign true true a b e = refl
same_sign false true a zero e = eq-eqb a 0 (ap nat_abs e)
same_sign false true a (suc b) e = absurd (pos-ne-negsuc a b e)
same_sign true false zero b e = refl
same_sign true false (suc a) b e = absurd (pos-ne-negsuc b a (sym e))

beq_same : (s t : Bool) → beq s t ≡ true → s ≡ t
beq_same false false e = refl
beq_same true true e = refl
beq_same false true e = absurd (false≢true e)
beq_same true false e = absurd (false≢true e)

zero_sign : (s t : Bool) → signed s 0 ≡ signed t 0
zero_sign false false = refl
zero_sign false true = refl
zero_sign true false = refl
zero_sign true true = refl

zero_times : (a c : ℕ) → 0 < c → a * c ≡ 0 → a ≡ 0
zero_times zero c h e = refl
zero_times (suc a) c h e = absurd (lt_irrefl 0 (subst (λ (x : ℕ). 0 < x) e (mul-pos (zero-lt-suc a) h)))

pub eq_same : (x y : Float) (z : ℤ) → Means x z → Means y z → eq x y ≡ true
unfolding eq
eq_same nan y z p q = absurd p.value
eq_same (inf u) y z p q = absurd p.value
eq_same (fin u m e) nan z p q = absurd q.value
eq_same (fin u m e) (inf r) z p q = absurd q.value
eq_same (fin u m e) (fin r n d) z p q =
    let a = p.size in
    let b = q.size in
    let i : signed u a ≡ signed r b = ap (λ (t : Bool). signed t a) p.value.0 ∙ p.is ∙ sym q.is ∙ ap (λ (t : Bool). signed t b) (sym q.value.0) in
    let k : a ≡ b = sym (abs_signed u a) ∙ ap nat_abs i ∙ abs_signed r b in
    let left : m * up e * down d ≡ a * (down e * down d) = ap (λ (t : ℕ). t * down d) (sym (mul-one (m * up e)) ∙ p.value.1) ∙ mul_assoc a (down e) (down d) in
    let right : n * up d * down e ≡ b * (down e * down d) = ap (λ (t : ℕ). t * down e) (sym (mul-one (n * up d)) ∙ q.value.1) ∙ mul_assoc b (down d) (down e) ∙ ap (λ (t : ℕ). b * t) (mul_comm (down d) (down e)) in
    and_yes (beq u r || eqb (m * up e * down d) 0) (eq-eqb (m * up e * down d) (n * up d * down e) (left ∙ ap (λ (t : ℕ). t * (down e * down d)) k ∙ sym right))
    ∙ sign_scaled u r a (m * up e * down d) (λ h. left ∙ ap (λ (t : ℕ). t * (down e * down d)) h ∙ zero-mul (down e * down d)) (same_sign u r a b i)
  where
    sign_scaled : (u r : Bool) (a c : ℕ) → (a ≡ 0 → c ≡ 0) → (beq u r || eqb a 0) ≡ true → (beq u r || eqb c 0) ≡ true
    sign_scaled false false a c h e = refl
    sign_scaled true true a c h e = refl
    sign_scaled false true a c h e = eq-eqb c 0 (h (eqb→eq a 0 (holds e)))
    sign_scaled true false a c h e = eq-eqb c 0 (h (eqb→eq a 0 (holds e)))

pub eq_other : (x y : Float) (z : ℤ) → Means x z → eq x y ≡ true → Means y z
unfolding eq
eq_other nan y z p q = absurd p.value
eq_other (inf u) y z p q = absurd p.value
eq_other (fin u m e) nan z p q = absurd (false≢true q)
eq_other (fin u m e) (inf r) z p q = absurd (false≢true q)
eq_other (fin u m e) (fin r n d) z p q =
    let a = p.size in
    let h = and_both (eqb (m * up e * down d) (n * up d * down e)) (beq u r || eqb (m * up e * down d) 0) q in
    let left : m * up e * down d ≡ a * down d * down e = ap (λ (t : ℕ). t * down d) (sym (mul-one (m * up e)) ∙ p.value.1) ∙ mul_right_comm a (down e) (down d) in
    let k : m * up e * down d ≡ n * up d * down e = eqb→eq (m * up e * down d) (n * up d * down e) (holds h.0) in
    let v : n * up d ≡ a * down d = eq_of_mul-eq-mul_right (down e) (down_pos e) (n * up d) (a * down d) (sym k ∙ left) in
    record { sign = r; size = a; value = (refl, mul-one (n * up d) ∙ v); is = by (beq u r) refl h.1 left }
  where
    by : (b : Bool) → beq u r ≡ b → (b || eqb (m * up e * down d) 0) ≡ true → m * up e * down d ≡ p.size * down d * down e → signed r p.size ≡ z
    by true w g l = ap (λ (t : Bool). signed t p.size) (sym (beq_same u r w) ∙ p.value.0) ∙ p.is
    by false w g l =
        let c = p.size * down d * down e in
        let none : p.size ≡ 0 = zero_times p.size (down d) (down_pos d) (zero_times (p.size * down d) (down e) (down_pos e) (sym l ∙ eqb→eq (m * up e * down d) 0 (holds g))) in
        ap (signed r) none ∙ zero_sign r p.sign ∙ ap (signed p.sign) (sym none) ∙ p.is

-- ---- the test
abbrev pub shift : ℕ
shift = 6755399441055744

abbrev most : ℕ
most = 524280

raised_bounds : (z : ℤ) → nat_abs z ≤ most → (2 ^ 52 ≤ raised shift z) × (raised shift z ≤ 2 ^ 53) × (raised shift z ≤ shift + shift)
raised_bounds (pos n) h = (omega arith, omega arith, omega arith)
raised_bounds (negsuc n) h = (omega arith, omega arith, omega arith)

raised_means : (z : ℤ) → nat_abs z ≤ most → Means (of_whole (pos (raised shift z))) (pos (raised shift z))
raised_means z h = of_means binary64 (pos (raised shift z)) (raised_bounds z h).1

shift_fits : shift ≤ 2 ^ 53
shift_fits = lit≤ {m = shift} {n = 2 ^ 53} tt

shift_means : Means (of_whole (pos shift)) (pos shift)
shift_means = of_means binary64 (pos shift) shift_fits

shifted : (y : Float) (z : ℤ) → Means y z → nat_abs z ≤ most → add binary64 (of_whole (pos shift)) y ≡ of_whole (pos (raised shift z))
shifted y z m h =
    add_whole binary64 (pos shift) y z shift_fits m
    ∙ ap of_whole (raise shift z (le_trans h (lit≤ {m = most} {n = shift} tt)))

raised_less : (z w : ℤ) → nat_abs z ≤ most → nat_abs w ≤ most → lt (of_whole (pos (raised shift z))) (of_whole (pos (raised shift w))) ≡ lt_z z w
raised_less z w h k =
    lt_means (of_whole (pos (raised shift z))) (of_whole (pos (raised shift w))) (pos (raised shift z)) (pos (raised shift w)) (raised_means z h) (raised_means w k)
    ∙ raised_order shift z w (le_trans h (lit≤ {m = most} {n = shift} tt)) (le_trans k (lit≤ {m = most} {n = shift} tt))

-- what is raised comes back
back_down : (z : ℤ) → nat_abs z ≤ most → sub binary64 (of_whole (pos (raised shift z))) (of_whole (pos shift)) ≡ of_whole z
back_down z h =
    sub_whole binary64 (pos (raised shift z)) (of_whole (pos shift)) (pos shift) (raised_bounds z h).1 shift_means
    ∙ ap (λ (w : ℤ). of_whole (w -ℤ pos shift)) (sym (raise shift z (le_trans h (lit≤ {m = most} {n = shift} tt))) ∙ +ℤ_comm (pos shift) z)
    ∙ ap of_whole (+ℤ-neg_ℤ_cancel z (pos shift))

-- a sum that stays between whole bounds from 2 ^ 52 on is a natural number between them
record Stayed (x : Float) (a b : ℕ) : Type 0 where
  number : ℕ
  is : x ≡ of_whole (pos number)
  from : a ≤ number
  to : number ≤ b

low_end : (y : Float) (a : ℕ) → HasValue y false a 1 → lt (inf true) y ≡ false → ⊥
unfolding lt
low_end (fin u m d) a v e = true≢false e
low_end nan a v e = elim v [ ]
low_end (inf _) a v e = elim v [ ]

high_end : (y : Float) (b : ℕ) → HasValue y false b 1 → lt y (inf false) ≡ false → ⊥
unfolding lt
high_end (fin u m d) b v e = true≢false e
high_end nan b v e = elim v [ ]
high_end (inf _) b v e = elim v [ ]

positive_value : (s : Bool) (n y : ℕ) → 0 < y → signed s n ≡ pos y → (s ≡ false) × (n ≡ y)
positive_value false n y h e = (refl, ap nat_abs e)
positive_value true zero y h e = absurd (lt_irrefl 0 (subst (λ (x : ℕ). 0 < x) (sym (ap nat_abs e)) h))
positive_value true (suc n) y h e = absurd (pos-ne-negsuc y n (sym e))

stayed_at : (x : Float) (a b : ℕ) (z : ℤ) → Means x z → T (fits binary64 x) → 0 < a → b ≤ 2 ^ 53 → lt_z z (pos a) ≡ false → lt_z (pos b) z ≡ false → Stayed x a b
stayed_at x a b (negsuc n) m f g l p q = absurd (true≢false p)
stayed_at x a b (pos y) m f g l p q =
    let k : a ≤ y = nltb→le y a (subst (λ (t : Bool). T (not t)) (sym p) tt) in
    let j : y ≤ b = nltb→le b y (subst (λ (t : Bool). T (not t)) (sym q) tt) in
    let v = positive_value m.sign m.size y (omega arith) m.is in
    record {
      number = y;
      is = whole_unique binary64 x (of_whole (pos y)) false y f (of_int-fits binary64 (pos y))
          (subst (λ (t : Bool). HasValue x t y 1) v.0 (subst (λ (t : ℕ). HasValue x m.sign t 1) v.1 m.value))
          (of_value binary64 (pos y) (le_trans j l));
      from = k;
      to = j;
    }

stayed : (x : Float) (a b : ℕ) → T (fits binary64 x) → 2 ^ 52 ≤ a → a ≤ 2 ^ 53 → b ≤ 2 ^ 53 → lt x (of_whole (pos a)) ≡ false → lt (of_whole (pos b)) x ≡ false → (x ≡ nan → ⊥) → Stayed x a b
stayed nan a b f g h k p q n = absurd (n refl)
stayed (inf true) a b f g h k p q n = absurd (low_end (of_whole (pos a)) a (of_value binary64 (pos a) h) p)
stayed (inf false) a b f g h k p q n = absurd (high_end (of_whole (pos b)) b (of_value binary64 (pos b) k) q)
stayed (fin t m e) a b f g h k p q n =
    let x = fin t m e in
    let w = whole_means x (large a g t m e (of_whole (pos a)) f (of_value binary64 (pos a) h) p) in
    stayed_at x a b (whole_of x) w f (lt_of_lt_of_le (pow_pos 52) g) k
    (sym (lt_means x (of_whole (pos a)) (whole_of x) (pos a) w (of_means binary64 (pos a) h)) ∙ p)
    (sym (lt_means (of_whole (pos b)) x (pos b) (whole_of x) (of_means binary64 (pos b) k) w) ∙ q)

nan_never : (x y s : Float) → s ≡ nan → eq (sub binary64 s y) x ≡ true → ⊥
unfolding sub add eq
nan_never x y s e h = false≢true (sym (ap (λ (t : Float). eq (sub binary64 t y) x) e) ∙ h)

-- the test of the code, over the bounds that it is given
module _ (low high x : Float) (a : T (is_part low)) (b : T (is_part high)) where
  abbrev s : Float
  s = add binary64 (of_whole (pos shift)) x

  abbrev lower : Float
  lower = add binary64 (of_whole (pos shift)) low

  abbrev upper : Float
  upper = add binary64 (of_whole (pos shift)) high

  lower_is : lower ≡ of_whole (pos (raised shift (whole_of low)))
  lower_is = shifted low (whole_of low) (within_means (negsuc 524279) (pos 524280) low a) (part_size low a)

  upper_is : upper ≡ of_whole (pos (raised shift (whole_of high)))
  upper_is = shifted high (whole_of high) (within_means (negsuc 524279) (pos 524280) high b) (part_size high b)

  pub whole_passes : within (whole_of low) (whole_of high) x ≡ true → (lt s lower ≡ false) × (lt upper s ≡ false) × (eq (sub binary64 s (of_whole (pos shift))) x ≡ true)
  unfolding within
  whole_passes e =
      let z = whole_of x in
      let l = whole_of low in
      let h = whole_of high in
      let w = and_both (is_whole x) (not (lt_z z l) && not (lt_z h z)) e in
      let o = and_both (not (lt_z z l)) (not (lt_z h z)) w.1 in
      let under : lt_z z l ≡ false = not-true (lt_z z l) o.0 in
      let over : lt_z h z ≡ false = not-true (lt_z h z) o.1 in
      let k = within_size most l h z (part_size low a) (part_size high b) under over in
      let m = whole_means x (holds w.0) in
      let i = shifted x z m k in (
        ap (λ (t : Float). lt t lower) i ∙ ap (lt (of_whole (pos (raised shift z)))) lower_is ∙ raised_less z l k (part_size low a) ∙ under,
        ap (lt upper) i ∙ ap (λ (t : Float). lt t (of_whole (pos (raised shift z)))) upper_is ∙ raised_less h z (part_size high b) k ∙ over,
        ap (λ (t : Float). eq (sub binary64 t (of_whole (pos shift))) x) i ∙ ap (λ (t : Float). eq t x) (back_down z k)
            ∙ eq_same (of_whole z) x z (of_means binary64 z (le_trans k (lit≤ {m = most} {n = 2 ^ 53} tt))) m,
      )

  pub passes_whole : lt s lower ≡ false → lt upper s ≡ false → eq (sub binary64 s (of_whole (pos shift))) x ≡ true → within (whole_of low) (whole_of high) x ≡ true
  unfolding within
  passes_whole p q e =
      let l = whole_of low in
      let h = whole_of high in
      let rl = raised_bounds l (part_size low a) in
      let rh = raised_bounds h (part_size high b) in
      let y = stayed s (raised shift l) (raised shift h) (add-fits binary64 (of_whole (pos shift)) x) rl.0 rl.1 rh.1
      (ap (lt s) (sym lower_is) ∙ p) (ap (λ (t : Float). lt t s) (sym upper_is) ∙ q) (λ n. nan_never x (of_whole (pos shift)) s n e) in
      let n = y.number in
      let z = pos n -ℤ pos shift in
      let d = lowered shift n (lit≤ {m = 1} {n = shift} tt) (le_trans y.to rh.2) in
      let same : sub binary64 s (of_whole (pos shift)) ≡ of_whole z =
      ap (λ (t : Float). sub binary64 t (of_whole (pos shift))) y.is
      ∙ sub_whole binary64 (pos n) (of_whole (pos shift)) (pos shift) (le_trans y.to rh.1) shift_means in
      let m = eq_other (of_whole z) x z (of_means binary64 z (le_trans d.0 shift_fits)) (sym (ap (λ (t : Float). eq t x) same) ∙ e) in
      let w = means_back x z m in
      let ls : nat_abs l ≤ shift = le_trans (part_size low a) (lit≤ {m = most} {n = shift} tt) in
      let hs : nat_abs h ≤ shift = le_trans (part_size high b) (lit≤ {m = most} {n = shift} tt) in
      let under : lt_z z l ≡ false = sym (raised_order shift z l d.0 ls) ∙ ap (λ (t : ℕ). ltb t (raised shift l)) d.1 ∙ ltb_is n (raised shift l) false (λ t. absurd t) (λ t. y.from) in
      let over : lt_z h z ≡ false = sym (raised_order shift h z hs d.0) ∙ ap (ltb (raised shift h)) d.1 ∙ ltb_is (raised shift h) n false (λ t. absurd t) (λ t. y.to) in
      and_yes (not (lt_z (whole_of x) l) && not (lt_z h (whole_of x))) (is_true (is_whole x) w.0)
      ∙ and_yes (not (lt_z h (whole_of x))) (ap (λ (t : ℤ). not (lt_z t l)) w.1 ∙ ap not under)
      ∙ ap (λ (t : ℤ). not (lt_z h t)) w.1 ∙ ap not over

  pub below_stops : lt s lower ≡ true → false ≡ within (whole_of low) (whole_of high) x
  below_stops h = by_test (within (whole_of low) (whole_of high) x) (λ e. absurd (true≢false (sym h ∙ (whole_passes e).0))) (λ e. sym e)

  pub above_stops : lt upper s ≡ true → false ≡ within (whole_of low) (whole_of high) x
  above_stops h = by_test (within (whole_of low) (whole_of high) x) (λ e. absurd (true≢false (sym h ∙ (whole_passes e).1))) (λ e. sym e)

  pub last_decides : lt s lower ≡ false → lt upper s ≡ false → eq (sub binary64 s (of_whole (pos shift))) x ≡ within (whole_of low) (whole_of high) x
  last_decides p q =
      by_test (eq (sub binary64 s (of_whole (pos shift))) x)
      (λ e. e ∙ sym (passes_whole p q e))
      (λ e. e ∙ by_test (within (whole_of low) (whole_of high) x) (λ w. absurd (true≢false (sym (whole_passes w).2 ∙ e))) (λ w. sym w))
