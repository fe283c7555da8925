-- Sums, differences and products of floats that stand for whole numbers. Assumes nothing.
use mathlib.Core.Path.{◌≡◌, refl, sym, ap, ◌∙◌, subst}
use mathlib.Core.Logic.{◌⊎◌, inl, inr}
use Prim.Native.Nat.{ℕ, zero, suc, ◌+◌, ◌-◌, ◌*◌, ◌/◌, ◌%◌, ◌^◌, ◌≤◌, ◌<◌, max}
use native.Mathlib.Nat.{mul-one, mul_comm, mul_assoc, mul_left_comm, mul-pos, add-mul, mul-sub, add-zero, zero-lt-suc, mul-le-mul_right, mul-lt-mul_of_pos_right, div-add-mod', zero-mul, mul-zero}
use native.Mathlib.Omega.{arith}
use mathlib.Core.Bool.{Bool, true, false, not, ◌&&◌, cond}
use lib.IntN.{ℤ, pos, negsuc, neg_ℤ, nat_abs, sub_ℕ, ◌+ℤ◌, ◌-ℤ◌, ◌*ℤ◌}
use lib.Signed.{lt_z}
use lib.Dec.{T, ltb, eqb→eq, ltb→lt, nltb→le}
use lib.Ieee.{Float, nan, inf, fin, Format, prec, up, down, round, sum, add, sub, mul, neg, lt, of_int, unlike, below}
use lib.Ieee.Fits.{down_pos, and_i, and_l, and_r}
use lib.Ieee.Exact.{HasValue}
use lib.Ieee.Back.{round_whole}
use lib.Ieee.Scale.{round_same}
use Rattle.samples.specs.Whole.{signed, is_whole, whole_of}

abbrev pub negative : ℤ → Bool
negative (pos n) = false
negative (negsuc n) = true

-- x stands for z; -0 stands for 0
pub record Means (x : Float) (z : ℤ) : Type 0 where
  pub sign : Bool
  pub size : ℕ
  pub value : HasValue x sign size 1
  pub is : signed sign size ≡ z

-- ---- an integer up to 2 ^ prec, as a float
pub of_means : (f : Format) (z : ℤ) → nat_abs z ≤ 2 ^ prec f → Means (of_int f z) z
unfolding of_int
of_means f (pos n) h = record { sign = false; size = n; value = round_whole f false n h; is = refl }
of_means f (negsuc n) h = record { sign = true; size = suc n; value = round_whole f true (suc n) h; is = refl }

-- ---- the fraction's common denominator goes
round_down : (f : Format) (s : Bool) (a c : ℕ) → 0 < c → round f s (a * c) c ≡ round f s a 1
round_down f s a c h = round_same f s (a * c) c a 1 h (zero-lt-suc 0) (mul-one (a * c))

pub ltb_is : (a b : ℕ) (x : Bool) → (T x → a < b) → (T (not x) → b ≤ a) → ltb a b ≡ x
ltb_is a b true h k = go (ltb a b) (nltb→le a b) (h tt)
  where
    go : (y : Bool) → (T (not y) → b ≤ a) → a < b → y ≡ true
    go true p q = refl
    go false p q = absurd (clash (p tt) q)
      where
        clash : b ≤ a → a < b → ⊥
        clash p q = omega arith
ltb_is a b false h k = go (ltb a b) (ltb→lt a b) (k tt)
  where
    go : (y : Bool) → (T y → a < b) → b ≤ a → y ≡ false
    go true p q = absurd (clash (p tt) q)
      where
        clash : a < b → b ≤ a → ⊥
        clash p q = omega arith
    go false p q = refl

ltb_scale : (a b c : ℕ) → 0 < c → ltb (a * c) (b * c) ≡ ltb a b
ltb_scale a b c h = ltb_is (a * c) (b * c) (ltb a b) (λ t. mul-lt-mul_of_pos_right (ltb→lt a b t) h) (λ t. mul-le-mul_right c (nltb→le a b t))

sub_scale : (a b c : ℕ) → a * c - b * c ≡ (a - b) * c
sub_scale a b c =
    ap (λ (z : ℕ). z - b * c) (mul_comm a c) ∙ ap (λ (z : ℕ). c * a - z) (mul_comm b c) ∙ sym (mul-sub c a b) ∙ mul_comm c (a - b)

sum_scale : (f : Format) (s : Bool) (a : ℕ) (t : Bool) (b c : ℕ) → 0 < c → sum f s (a * c) t (b * c) c ≡ sum f s a t b 1
unfolding sum
sum_scale f s a t b c h = simp (← add-mul, sub_scale, ltb_scale, round_down)

-- ---- a sum, by the two values
pub add_values : (f : Format) (x y : Float) (s : Bool) (a : ℕ) (t : Bool) (b : ℕ) → HasValue x s a 1 → HasValue y t b 1 → add f x y ≡ sum f s a t b 1
unfolding add
add_values f nan y s a t b v w = absurd v
add_values f (inf u) y s a t b v w = absurd v
add_values f (fin u m e) nan s a t b v w = absurd w
add_values f (fin u m e) (inf r) s a t b v w = absurd w
add_values f (fin u m e) (fin r n d) s a t b v w =
    let c = down e * down d in
    let p : m * up e * down d ≡ a * c = ap (λ (z : ℕ). z * down d) (sym (mul-one (m * up e)) ∙ v.1) ∙ mul_assoc a (down e) (down d) in
    let q : n * up d * down e ≡ b * c = ap (λ (z : ℕ). z * down e) (sym (mul-one (n * up d)) ∙ w.1) ∙ mul_assoc b (down d) (down e) ∙ ap (λ (z : ℕ). b * z) (mul_comm (down d) (down e)) in
    ap (λ (z : ℕ). sum f u z r (n * up d * down e) c) p
    ∙ ap (λ (z : ℕ). sum f u (a * c) r z c) q
    ∙ ap (λ (z : Bool). sum f z (a * c) r (b * c) c) v.0
    ∙ ap (λ (z : Bool). sum f s (a * c) z (b * c) c) w.0
    ∙ sum_scale f s a t b c (mul-pos (down_pos e) (down_pos d))

-- ---- and it is the whole numbers' sum, rounded. The first is not -0
below_case : (a b : ℕ) → (a < b) ⊎ (b ≤ a)
below_case a b = go (ltb a b) (ltb→lt a b) (nltb→le a b)
  where
    go : (x : Bool) → (T x → a < b) → (T (not x) → b ≤ a) → (a < b) ⊎ (b ≤ a)
    go true h k = inl (h tt)
    go false h k = inr (k tt)

ltb_yes : (a b : ℕ) → a < b → ltb a b ≡ true
ltb_yes a b h = ltb_is a b true (λ t. h) (λ t. absurd t)

ltb_no : (a b : ℕ) → b ≤ a → ltb a b ≡ false
ltb_no a b h = ltb_is a b false (λ t. absurd t) (λ t. h)

abbrev mixed : Format → ℕ → ℕ → Bool → Float
mixed f a b x = cond x (round f true (b - a) 1) (round f false (a - b) 1)

abbrev mixedℤ : ℕ → ℕ → Bool → ℤ
mixedℤ a b x = cond x (negsuc (b - suc a)) (pos (a - b))

less_one : (a b : ℕ) → a < b → b - a ≡ suc (b - suc a)
less_one a b h = omega arith

sum_first : (f : Format) (a b : ℕ) → sum f false a true b 1 ≡ of_int f (sub_ℕ a b)
unfolding sum of_int
sum_first f a b = go (ltb a b) (ltb→lt a b)
  where
    go : (x : Bool) → (T x → a < b) → mixed f a b x ≡ of_int f (mixedℤ a b x)
    go true h = ap (λ (z : ℕ). round f true z 1) (less_one a b (h tt))
    go false h = refl

abbrev other : Format → ℕ → ℕ → Bool → Bool → Float
other f a b x y = cond x (round f false (b - a) 1) (round f y (a - b) 1)

sum_second : (f : Format) (a b : ℕ) → sum f true a false b 1 ≡ of_int f (sub_ℕ b a)
unfolding sum of_int
sum_second f a b = go (below_case b a)
  where
    last : (a < b) ⊎ (b ≤ a) → a ≤ b → other f a b (ltb a b) false ≡ round f false (b - a) 1
    last (inl h) k = ap (λ (x : Bool). other f a b x false) (ltb_yes a b h)
    last (inr h) k = ap (λ (x : Bool). other f a b x false) (ltb_no a b h) ∙ ap (λ (z : ℕ). round f false z 1) (omega arith)

    go : (b < a) ⊎ (a ≤ b) → other f a b (ltb a b) (ltb b a) ≡ of_int f (sub_ℕ b a)
    go (inl h) =
        ap (λ (x : Bool). other f a b x (ltb b a)) (ltb_no a b (omega arith))
        ∙ ap (λ (x : Bool). round f x (a - b) 1) (ltb_yes b a h)
        ∙ ap (λ (z : ℕ). round f true z 1) (less_one b a h)
        ∙ sym (ap (λ (x : Bool). of_int f (mixedℤ b a x)) (ltb_yes b a h))
    go (inr h) =
        ap (λ (x : Bool). other f a b (ltb a b) x) (ltb_no b a h)
        ∙ last (below_case a b) h
        ∙ sym (ap (λ (x : Bool). of_int f (mixedℤ b a x)) (ltb_no b a h))

sub_none : (a : ℕ) → sub_ℕ a 0 ≡ pos (a + 0)
sub_none a = ap (mixedℤ a 0) (ltb_no a 0 (omega arith)) ∙ ap pos (omega arith)

pub none_sub : (a : ℕ) → sub_ℕ 0 (suc a) ≡ negsuc a
none_sub a = ap (mixedℤ 0 (suc a)) (ltb_yes 0 (suc a) (omega arith)) ∙ ap negsuc (omega arith)

-- the whole number that the first stands for, as it is in `of_int`
pub sum_whole : (f : Format) (p : ℤ) (t : Bool) (b : ℕ) → sum f (negative p) (nat_abs p) t b 1 ≡ of_int f (p +ℤ signed t b)
unfolding sum of_int
sum_whole f (pos a) false b = refl
sum_whole f (pos a) true zero = sum_first f a 0 ∙ ap (of_int f) (sub_none a)
sum_whole f (pos a) true (suc b) = sum_first f a (suc b)
sum_whole f (negsuc a) false b = sum_second f (suc a) b
sum_whole f (negsuc a) true zero = ap (λ (z : ℕ). round f true z 1) (omega arith) ∙ sym (ap (of_int f) (none_sub a))
sum_whole f (negsuc a) true (suc b) = ap (λ (z : ℕ). round f true z 1) (omega arith)

-- ---- the float of p, and a float that stands for z: their sum is the float of the sum
pub of_value : (f : Format) (z : ℤ) → nat_abs z ≤ 2 ^ prec f → HasValue (of_int f z) (negative z) (nat_abs z) 1
unfolding of_int
of_value f (pos n) h = round_whole f false n h
of_value f (negsuc n) h = round_whole f true (suc n) h

pub add_whole : (f : Format) (p : ℤ) (x : Float) (z : ℤ) → nat_abs p ≤ 2 ^ prec f → Means x z → add f (of_int f p) x ≡ of_int f (p +ℤ z)
add_whole f p x z h m =
    add_values f (of_int f p) x (negative p) (nat_abs p) m.sign m.size (of_value f p h) m.value
    ∙ sum_whole f p m.sign m.size
    ∙ ap (λ (w : ℤ). of_int f (p +ℤ w)) m.is

-- ---- a difference
neg_signed : (s : Bool) (n : ℕ) → signed (not s) n ≡ neg_ℤ (signed s n)
neg_signed false n = refl
neg_signed true zero = refl
neg_signed true (suc n) = refl

neg_value : (x : Float) (s : Bool) (n : ℕ) → HasValue x s n 1 → HasValue (neg x) (not s) n 1
unfolding neg
neg_value (fin t m e) s n v = (ap not v.0, v.1)
neg_value nan s n v = elim v [ ]
neg_value (inf _) s n v = elim v [ ]

pub neg_means : (x : Float) (z : ℤ) → Means x z → Means (neg x) (neg_ℤ z)
neg_means x z m = record {
  sign = not m.sign;
  size = m.size;
  value = neg_value x m.sign m.size m.value;
  is = neg_signed m.sign m.size ∙ ap neg_ℤ m.is;
}

pub sub_whole : (f : Format) (p : ℤ) (x : Float) (z : ℤ) → nat_abs p ≤ 2 ^ prec f → Means x z → sub f (of_int f p) x ≡ of_int f (p -ℤ z)
unfolding sub
sub_whole f p x z h m = add_whole f p (neg x) (neg_ℤ z) h (neg_means x z m)

-- ---- a product, which can be -0
pub mul_values : (f : Format) (x y : Float) (s : Bool) (a : ℕ) (t : Bool) (b : ℕ) → HasValue x s a 1 → HasValue y t b 1 → mul f x y ≡ round f (unlike s t) (a * b) 1
unfolding mul
mul_values f nan y s a t b v w = absurd v
mul_values f (inf u) y s a t b v w = absurd v
mul_values f (fin u m e) nan s a t b v w = absurd w
mul_values f (fin u m e) (inf r) s a t b v w = absurd w
mul_values f (fin u m e) (fin r n d) s a t b v w =
    let c = down e * down d in
    let p : m * up e ≡ a * down e = sym (mul-one (m * up e)) ∙ v.1 in
    let q : n * up d ≡ b * down d = sym (mul-one (n * up d)) ∙ w.1 in
    let k : m * up e * (n * up d) ≡ a * b * c = ap (λ (z : ℕ). z * (n * up d)) p ∙ ap (λ (z : ℕ). a * down e * z) q ∙ simp (mul_assoc, mul_comm, mul_left_comm) in
    ap (λ (z : ℕ). round f (unlike u r) z c) k
    ∙ ap (λ (z : Bool). round f (unlike z r) (a * b * c) c) v.0
    ∙ ap (λ (z : Bool). round f (unlike s z) (a * b * c) c) w.0
    ∙ round_down f (unlike s t) (a * b) c (mul-pos (down_pos e) (down_pos d))

-- 0 and -0 are one number
no_sign : (s t : Bool) (n : ℕ) → n ≡ 0 → signed s n ≡ signed t 0
no_sign false false n h = ap pos h
no_sign false true n h = ap pos h
no_sign true false n h = ap (λ (z : ℕ). neg_ℤ (pos z)) h
no_sign true true n h = ap (λ (z : ℕ). neg_ℤ (pos z)) h

mul_signed : (s : Bool) (a : ℕ) (t : Bool) (b : ℕ) → signed (unlike s t) (a * b) ≡ signed s a *ℤ signed t b
mul_signed false a false b = refl
mul_signed false a true zero = no_sign true false (a * 0) (mul-zero a) ∙ ap pos (sym (mul-zero a))
mul_signed false a true (suc b) = refl
mul_signed true zero false b = no_sign true false (0 * b) (zero-mul b) ∙ ap pos (sym (zero-mul b))
mul_signed true (suc a) false b = refl
mul_signed true zero true zero = refl
mul_signed true zero true (suc b) = no_sign false true (0 * suc b) (zero-mul (suc b)) ∙ ap (λ (z : ℕ). neg_ℤ (pos z)) (sym (zero-mul (suc b)))
mul_signed true (suc a) true zero = no_sign false true (suc a * 0) (mul-zero (suc a)) ∙ ap (λ (z : ℕ). neg_ℤ (pos z)) (sym (mul-zero (suc a)))
mul_signed true (suc a) true (suc b) = refl

pub abs_signed : (s : Bool) (n : ℕ) → nat_abs (signed s n) ≡ n
abs_signed false n = refl
abs_signed true zero = refl
abs_signed true (suc n) = refl

pub mul_means : (f : Format) (x y : Float) (z w : ℤ) → Means x z → Means y w → nat_abs z * nat_abs w ≤ 2 ^ prec f → Means (mul f x y) (z *ℤ w)
mul_means f x y z w p q h =
    let a = p.size in
    let b = q.size in
    let g : nat_abs z * nat_abs w ≡ a * b = ap (λ (k : ℤ). nat_abs k * nat_abs w) (sym p.is) ∙ ap (λ (k : ℤ). nat_abs (signed p.sign a) * nat_abs k) (sym q.is) ∙ ap (λ (k : ℕ). k * nat_abs (signed q.sign b)) (abs_signed p.sign a) ∙ ap (λ (k : ℕ). a * k) (abs_signed q.sign b) in
    record {
      sign = unlike p.sign q.sign;
      size = a * b;
      value = subst (λ (k : Float). HasValue k (unlike p.sign q.sign) (a * b) 1) (sym (mul_values f x y p.sign a q.sign b p.value q.value))
          (round_whole f (unlike p.sign q.sign) (a * b) (subst (λ (k : ℕ). k ≤ 2 ^ prec f) g h));
      is = mul_signed p.sign a q.sign b ∙ ap (λ (k : ℤ). k *ℤ signed q.sign b) p.is ∙ ap (λ (k : ℤ). z *ℤ k) q.is;
    }

-- ---- an order
below_scale : (s : Bool) (a : ℕ) (t : Bool) (b c : ℕ) → 0 < c → below s (a * c) t (b * c) ≡ below s a t b
below_scale false a false b c h = ltb_scale a b c h
below_scale false a true b c h = refl
below_scale true a false b c h = ap (ltb 0) (sym (add-mul a b c)) ∙ ap (λ (z : ℕ). ltb z ((a + b) * c)) (sym (zero-mul c)) ∙ ltb_scale 0 (a + b) c h
below_scale true a true b c h = ltb_scale b a c h

below_whole : (s : Bool) (a : ℕ) (t : Bool) (b : ℕ) → below s a t b ≡ lt_z (signed s a) (signed t b)
below_whole false a false b = refl
below_whole false a true zero = sym (ltb_no a 0 (omega arith))
below_whole false a true (suc b) = refl
below_whole true zero false b = let h : 0 + b ≡ b = omega arith in ap (ltb 0) h
below_whole true (suc a) false b = ltb_yes 0 (suc a + b) (omega arith)
below_whole true zero true zero = refl
below_whole true zero true (suc b) = ltb_no (suc b) 0 (omega arith)
below_whole true (suc a) true zero = ltb_yes 0 (suc a) (omega arith)
below_whole true (suc a) true (suc b) = ltb_is (suc b) (suc a) (ltb b a) (λ t. suc_lt (ltb→lt b a t)) (λ t. suc_le (nltb→le b a t))
  where
    suc_lt : b < a → suc b < suc a
    suc_lt h = omega arith

    suc_le : a ≤ b → suc a ≤ suc b
    suc_le h = omega arith

pub lt_values : (x y : Float) (s : Bool) (a : ℕ) (t : Bool) (b : ℕ) → HasValue x s a 1 → HasValue y t b 1 → lt x y ≡ below s a t b
unfolding lt
lt_values nan y s a t b v w = absurd v
lt_values (inf u) y s a t b v w = absurd v
lt_values (fin u m e) nan s a t b v w = absurd w
lt_values (fin u m e) (inf r) s a t b v w = absurd w
lt_values (fin u m e) (fin r n d) s a t b v w =
    let c = down e * down d in
    let p : m * up e * down d ≡ a * c = ap (λ (z : ℕ). z * down d) (sym (mul-one (m * up e)) ∙ v.1) ∙ mul_assoc a (down e) (down d) in
    let q : n * up d * down e ≡ b * c = ap (λ (z : ℕ). z * down e) (sym (mul-one (n * up d)) ∙ w.1) ∙ mul_assoc b (down d) (down e) ∙ ap (λ (z : ℕ). b * z) (mul_comm (down d) (down e)) in
    ap (λ (z : ℕ). below u z r (n * up d * down e)) p
    ∙ ap (λ (z : ℕ). below u (a * c) r z) q
    ∙ ap (λ (z : Bool). below z (a * c) r (b * c)) v.0
    ∙ ap (λ (z : Bool). below s (a * c) z (b * c)) w.0
    ∙ below_scale s a t b c (mul-pos (down_pos e) (down_pos d))

pub lt_means : (x y : Float) (z w : ℤ) → Means x z → Means y w → lt x y ≡ lt_z z w
lt_means x y z w p q =
    lt_values x y p.sign p.size q.sign q.size p.value q.value
    ∙ below_whole p.sign p.size q.sign q.size
    ∙ ap (λ (k : ℤ). lt_z k (signed q.sign q.size)) p.is
    ∙ ap (λ (k : ℤ). lt_z z k) q.is

-- ---- a whole float stands for its number
pub whole_means : (x : Float) → T (is_whole x) → Means x (whole_of x)
unfolding is_whole whole_of
whole_means nan t = absurd t
whole_means (inf s) t = absurd t
whole_means (fin s m e) t =
    let k = m * up e in
    record {
      sign = s;
      size = k / down e;
      value = (refl, mul-one k ∙ sym (div-add-mod' k (down e)) ∙ ap (λ (x : ℕ). k / down e * down e + x) (eqb→eq (k % down e) 0 t) ∙ add-zero (k / down e * down e));
      is = refl;
    }

-- ---- sizes
abs_sub : (a b : ℕ) → nat_abs (sub_ℕ a b) ≤ a + b
abs_sub a b = go (ltb a b) (ltb→lt a b)
  where
    go : (x : Bool) → (T x → a < b) → nat_abs (mixedℤ a b x) ≤ a + b
    go true h = let k : a < b = h tt in omega arith
    go false h = omega arith

pub abs_add : (a b : ℤ) → nat_abs (a +ℤ b) ≤ nat_abs a + nat_abs b
abs_add (pos a) (pos b) = omega arith
abs_add (pos a) (negsuc b) = abs_sub a (suc b)
abs_add (negsuc a) (pos b) = omega (arith, abs_sub b (suc a))
abs_add (negsuc a) (negsuc b) = omega arith

pub abs_neg : (a : ℤ) → nat_abs (neg_ℤ a) ≡ nat_abs a
abs_neg (pos zero) = refl
abs_neg (pos (suc n)) = refl
abs_neg (negsuc n) = refl

pub abs_mul : (a b : ℤ) → nat_abs (a *ℤ b) ≡ nat_abs a * nat_abs b
abs_mul (pos a) (pos b) = refl
abs_mul (pos a) (negsuc b) = abs_neg (pos (a * suc b))
abs_mul (negsuc a) (pos b) = abs_neg (pos (suc a * b))
abs_mul (negsuc a) (negsuc b) = refl

-- ---- a number's part above zero and its part below
abbrev pub plus_of : ℤ → ℕ
plus_of (pos n) = n
plus_of (negsuc n) = 0

abbrev pub minus_of : ℤ → ℕ
minus_of (pos n) = 0
minus_of (negsuc n) = suc n

sub_parts : (a b : ℕ) → (plus_of (sub_ℕ a b) ≤ a) × (minus_of (sub_ℕ a b) ≤ b)
sub_parts a b = go (ltb a b) (ltb→lt a b)
  where
    go : (x : Bool) → (T x → a < b) → (plus_of (mixedℤ a b x) ≤ a) × (minus_of (mixedℤ a b x) ≤ b)
    go true h = let k : a < b = h tt in (omega arith, omega arith)
    go false h = (omega arith, omega arith)

pub plus_add : (a b : ℤ) → plus_of (a +ℤ b) ≤ plus_of a + plus_of b
plus_add (pos a) (pos b) = omega arith
plus_add (pos a) (negsuc b) = omega (arith, (sub_parts a (suc b)).0)
plus_add (negsuc a) (pos b) = omega (arith, (sub_parts b (suc a)).0)
plus_add (negsuc a) (negsuc b) = omega arith

pub minus_add : (a b : ℤ) → minus_of (a +ℤ b) ≤ minus_of a + minus_of b
minus_add (pos a) (pos b) = omega arith
minus_add (pos a) (negsuc b) = omega (arith, (sub_parts a (suc b)).1)
minus_add (negsuc a) (pos b) = omega (arith, (sub_parts b (suc a)).1)
minus_add (negsuc a) (negsuc b) = omega arith

pub plus_neg : (a : ℤ) → plus_of (neg_ℤ a) ≡ minus_of a
plus_neg (pos zero) = refl
plus_neg (pos (suc n)) = refl
plus_neg (negsuc n) = refl

pub minus_neg : (a : ℤ) → minus_of (neg_ℤ a) ≡ plus_of a
minus_neg (pos zero) = refl
minus_neg (pos (suc n)) = refl
minus_neg (negsuc n) = refl

pub abs_parts : (z : ℤ) → nat_abs z ≤ plus_of z + minus_of z
abs_parts (pos n) = omega arith
abs_parts (negsuc n) = omega arith

abbrev pub between : ℕ → ℕ → ℤ → Bool
between a b z = not (lt_z z (negsuc a)) && not (lt_z (pos b) z)

pub between_parts : (a b : ℕ) (z : ℤ) → T (between a b z) → (plus_of z ≤ b) × (minus_of z ≤ suc a) × (nat_abs z ≤ max b (suc a))
between_parts a b (pos n) t = let h : n ≤ b = nltb→le b n (and_r true (not (ltb b n)) t) in (h, omega arith, omega arith)
between_parts a b (negsuc n) t = let h : n ≤ a = nltb→le a n (and_l (not (ltb a n)) true t) in (omega arith, omega arith, omega arith)

not_ltb : (a b : ℕ) → b ≤ a → T (not (ltb a b))
not_ltb a b h = subst (λ (x : Bool). T (not x)) (sym (ltb_no a b h)) tt

pub parts_between : (a b : ℕ) (z : ℤ) → plus_of z ≤ b → minus_of z ≤ suc a → T (between a b z)
parts_between a b (pos n) p q = not_ltb b n p
parts_between a b (negsuc n) p q = and_i (not (ltb a n)) true (not_ltb a n (omega arith)) tt
