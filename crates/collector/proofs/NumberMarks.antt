-- A number and its marks: bit k is mark k, a bit more is a mark more, all bits below a total, none from it on. Assumes nothing.
use mathlib.Core.Path.{◌≡◌, refl, sym, ap, ap₂, ◌∙◌}
use mathlib.Core.Bool.{Bool, true, false, true≢false, cond, not, ◌&&◌}
use mathlib.Core.List.{List, [], ◌∷◌}
use Prim.Native.Nat.{ℕ, zero, suc, ◌+◌, ◌-◌, ◌*◌, ◌/◌, ◌%◌, ◌^◌, ◌<◌, ◌≤◌, max}
use native.Mathlib.Nat.{div-div-eq-div-mul, mod-lt, max-zero, zero-add, zero-mul, zero-div, one-mul}
use native.Mathlib.Omega.{arith}
use lib.ListN.{length, get_or, set}
use lib.Bits.{bit_or, or_step, or_zero_r}
use lib.Pow.{pow_pos, split, shl_exact, shr_lt, shr-shr, suc_ones, mod-pow-add}
use lib.Dec.{ltb, eqb}
use borrow.Author.Tests.{eq-eqb, ne_eqb, eqb-true, eqb-false, le-ltb, ltb-false, not-true}
use Rattle.laws.specs.Below.{below}
use Rattle.laws.proofs.Below.{at_each, below_yes}
use Rattle.laws.proofs.Elements.{by_test}
use Rattle.laws.proofs.Cases.{and_yes, and_no}
use Rattle.collector.specs.Layout.{marks_from, number_of}

-- ---- one mark
-- halving once and then k times
half_pow : (m k : ℕ) → m / 2 / 2 ^ k ≡ m / 2 ^ suc k
half_pow m k =
    let q : 2 * 2 ^ k ≡ 2 ^ suc k = omega arith in
    div-div-eq-div-mul m 2 (2 ^ k) ∙ ap (λ (d : ℕ). m / d) q

pub mark_is_bit : (n m k : ℕ) → k < n → get_or (marks_from n m) k false ≡ eqb (m / 2 ^ k % 2) 1
unfolding marks_from
mark_is_bit zero m k h = absurd (omega arith)
mark_is_bit (suc n) m zero h = let d : m / 1 ≡ m = omega arith in rw d
mark_is_bit (suc n) m (suc k) h = mark_is_bit n (m / 2) k (omega arith) ∙ ap (λ (x : ℕ). eqb (x % 2) 1) (half_pow m k)

-- one bit more is one mark more
or_one : (m : ℕ) → bit_or m 1 ≡ m / 2 * 2 + 1
or_one m = or_step m 1 ∙ ap₂ (λ (a b : ℕ). a * 2 + b) (or_zero_r (m / 2)) (top (m % 2) (omega arith))
  where
    top : (r : ℕ) → r < 2 → max r 1 ≡ 1
    top zero h = refl
    top (suc zero) h = refl
    top (suc (suc r)) h = absurd (omega arith)

or_next : (m k : ℕ) → bit_or m (2 ^ suc k) ≡ bit_or (m / 2) (2 ^ k) * 2 + m % 2
or_next m k =
    let h : 2 ^ suc k / 2 ≡ 2 ^ k = omega arith in
    let r : 2 ^ suc k % 2 ≡ 0 = omega arith in
    or_step m (2 ^ suc k) ∙ ap₂ (λ (a b : ℕ). bit_or (m / 2) a * 2 + max (m % 2) b) h r ∙ ap (λ (x : ℕ). bit_or (m / 2) (2 ^ k) * 2 + x) (max-zero (m % 2))

pub mark_more : (n m k : ℕ) → k < n → marks_from n (bit_or m (2 ^ k)) ≡ set (marks_from n m) k true
unfolding marks_from
mark_more zero m k h = absurd (omega arith)
mark_more (suc n) m zero h =
    let o = or_one m in
    let r : bit_or m 1 % 2 ≡ 1 = omega arith in
    let q : bit_or m 1 / 2 ≡ m / 2 = omega arith in
    ap₂ (λ (a b : ℕ). eqb a 1 ∷ marks_from n b) r q
mark_more (suc n) m (suc k) h =
    let o = or_next m k in
    let r : bit_or m (2 ^ suc k) % 2 ≡ m % 2 = omega arith in
    let q : bit_or m (2 ^ suc k) / 2 ≡ bit_or (m / 2) (2 ^ k) = omega arith in
    ap₂ (λ (a b : ℕ). eqb a 1 ∷ marks_from n b) r q ∙ ap (λ (bs : List Bool). eqb (m % 2) 1 ∷ bs) (mark_more n (m / 2) k (omega arith))

-- how many marks there are
pub length_marks : (n m : ℕ) → length (marks_from n m) ≡ n
unfolding marks_from
length_marks zero m = refl
length_marks (suc n) m = ap suc (length_marks n (m / 2))

-- a bit that is shifted up within 64 bits
pub one_bit : (k : ℕ) → k ≤ 63 → 1 * 2 ^ k % 2 ^ 64 ≡ 2 ^ k
one_bit k h = shl_exact 1 k 64 (omega arith) (omega arith) ∙ one-mul (2 ^ k)

-- ---- there and back
half : (m n : ℕ) → m < 2 ^ suc n → m / 2 < 2 ^ n
half m n h = omega arith

pub number_of_marks : (n m : ℕ) → m < 2 ^ n → number_of (marks_from n m) ≡ m
unfolding marks_from number_of
number_of_marks zero m h = omega arith
number_of_marks (suc n) m h =
    let s : m / 2 < 2 ^ n = half m n h in
    ap₂ (λ (a b : ℕ). a * 2 + b) (number_of_marks n (m / 2) s) (bit (m % 2) (omega arith)) ∙ omega arith
  where
    bit : (r : ℕ) → r < 2 → cond (eqb r 1) 1 0 ≡ r
    bit zero k = refl
    bit (suc zero) k = refl
    bit (suc (suc r)) k = absurd (omega arith)

pub marks_of_number : (bs : List Bool) → marks_from (length bs) (number_of bs) ≡ bs
unfolding marks_from number_of
marks_of_number [] = refl
marks_of_number (true ∷ bs) =
    let r : (number_of bs * 2 + 1) % 2 ≡ 1 = omega arith in
    let q : (number_of bs * 2 + 1) / 2 ≡ number_of bs = omega arith in
    ap₂ (λ (a b : ℕ). eqb a 1 ∷ marks_from (length bs) b) r q ∙ ap (λ (cs : List Bool). true ∷ cs) (marks_of_number bs)
marks_of_number (false ∷ bs) =
    let r : (number_of bs * 2 + 0) % 2 ≡ 0 = omega arith in
    let q : (number_of bs * 2 + 0) / 2 ≡ number_of bs = omega arith in
    ap₂ (λ (a b : ℕ). eqb a 1 ∷ marks_from (length bs) b) r q ∙ ap (λ (cs : List Bool). false ∷ cs) (marks_of_number bs)

pub number_small : (bs : List Bool) → number_of bs < 2 ^ length bs
unfolding number_of
number_small [] = omega arith
number_small (b ∷ bs) = one_more b (number_of bs) (length bs) (number_small bs)
  where
    one_more : (b : Bool) (x n : ℕ) → x < 2 ^ n → x * 2 + cond b 1 0 < 2 ^ suc n
    one_more true x n h = omega arith
    one_more false x n h = omega arith

-- ---- powers
one_add : (t : ℕ) → 1 + t ≡ suc t
one_add t = omega arith

low_lt : (m t : ℕ) → m % 2 ^ t < 2 ^ t
low_lt m t = mod-lt m (pow_pos t)

below_pow : (m k : ℕ) → m / 2 ^ k ≡ 0 → m < 2 ^ k
below_pow m k z =
    let e : m % 2 ^ k ≡ m = sym (zero-add _) ∙ ap (λ (x : ℕ). x + m % 2 ^ k) (sym (zero-mul (2 ^ k)) ∙ ap (λ (x : ℕ). x * 2 ^ k) (sym z)) ∙ split m k in
    rw e at (low_lt m k)

shr_none : (m t : ℕ) → m < 2 ^ t → m / 2 ^ t ≡ 0
shr_none m t h =
    let e : 0 + t ≡ t = omega arith in
    let q : m / 2 ^ t < 2 ^ 0 = shr_lt 0 t (rw e h) in
    omega arith

zero_on : (m t k : ℕ) → m / 2 ^ t ≡ 0 → t ≤ k → m / 2 ^ k ≡ 0
zero_on m t k z h = let e : t + (k - t) ≡ k = omega arith in
    ap (λ (x : ℕ). m / 2 ^ x) (sym e) ∙ sym (shr-shr m t (k - t)) ∙ ap (λ (x : ℕ). x / 2 ^ (k - t)) z ∙ zero-div (2 ^ (k - t))

-- ---- all below a total
pub all_marked : (n m t : ℕ) → t ≤ n → below t (λ k. get_or (marks_from n m) k false) ≡ eqb (m % 2 ^ t) (2 ^ t - 1)
unfolding below
all_marked n m zero h = let e : m % 1 ≡ 0 = omega arith in rw e
all_marked n m (suc t) h =
    ap₂ ◌&&◌ (mark_is_bit n m t h) (all_marked n m t (omega arith))
    ∙ both (m / 2 ^ t % 2) (omega arith)
    ∙ ap (λ (x : ℕ). eqb x (2 ^ suc t - 1)) (sym (mod-pow-add m 1 t) ∙ ap (λ (k : ℕ). m % 2 ^ k) (one_add t))
  where
    both : (b : ℕ) → b < 2 → (eqb b 1 && eqb (m % 2 ^ t) (2 ^ t - 1)) ≡ eqb (b * 2 ^ t + m % 2 ^ t) (2 ^ suc t - 1)
    both zero k =
        let u : m % 2 ^ t < 2 ^ t = low_lt m t in
        sym (ne_eqb _ _ (λ (e : 0 * 2 ^ t + m % 2 ^ t ≡ 2 ^ suc t - 1). omega arith))
    both (suc zero) k =
        by_test (eqb (m % 2 ^ t) (2 ^ t - 1))
        (λ e.
        let q : m % 2 ^ t ≡ 2 ^ t - 1 = eqb-true _ _ e in
        let p = suc_ones t in
        e ∙ sym (eq-eqb (1 * 2 ^ t + m % 2 ^ t) (2 ^ suc t - 1) (omega arith)))
        (λ e.
        let q = eqb-false (m % 2 ^ t) (2 ^ t - 1) e in
        let p = suc_ones t in
        e ∙ sym (ne_eqb _ _ (λ (w : 1 * 2 ^ t + m % 2 ^ t ≡ 2 ^ suc t - 1). q (omega arith))))
    both (suc (suc b)) k = absurd (omega arith)

-- ---- none from it on
-- a number with no bit from t on is below 2^t
no_bit : (m t d : ℕ) → m < 2 ^ (d + t) → ((k : ℕ) → t ≤ k → k < d + t → m / 2 ^ k % 2 ≡ 0) → m < 2 ^ t
no_bit m t zero s z = let e : 0 + t ≡ t = omega arith in rw e at s
no_bit m t (suc d) s z =
    let e : suc d + t ≡ 1 + (d + t) = omega arith in
    let q : m / 2 ^ (d + t) < 2 ^ 1 = shr_lt 1 (d + t) (rw e at s) in
    let b = z (d + t) (omega arith) (omega arith) in
    let o : m / 2 ^ (d + t) ≡ 0 = omega arith in
    no_bit m t d (below_pow m (d + t) o) (λ k lo hi. z k lo (omega arith))

pub none_astray : (n m t : ℕ) → t ≤ n → m < 2 ^ n → below n (λ k. not (not (ltb k t) && get_or (marks_from n m) k false)) ≡ eqb (m / 2 ^ t) 0
none_astray n m t h s =
    by_test (below n (λ k. not (not (ltb k t) && get_or (marks_from n m) k false)))
    (λ e. e ∙ sym (eq-eqb (m / 2 ^ t) 0 (shr_none m t (no_bit m t (n - t) small (λ k lo hi. bit_none e k lo hi)))))
    (λ e. e ∙ sym (ne_eqb (m / 2 ^ t) 0 (λ (z : m / 2 ^ t ≡ 0). true≢false (sym (below_yes n _ (λ k k<. not_astray z k k<)) ∙ e))))
  where
    small : m < 2 ^ ((n - t) + t)
    small = let q : (n - t) + t ≡ n = omega arith in rw q s

    bit_none : below n (λ k. not (not (ltb k t) && get_or (marks_from n m) k false)) ≡ true → (k : ℕ) → t ≤ k → k < (n - t) + t → m / 2 ^ k % 2 ≡ 0
    bit_none e k lo hi =
        let u : k < n = omega arith in
        let a = at_each n _ e k u in
        let g : get_or (marks_from n m) k false ≡ false = sym (and_yes _ (ap not (le-ltb k t lo))) ∙ not-true _ a in
        let f : m / 2 ^ k % 2 ≡ 1 → ⊥ = eqb-false _ _ (sym (mark_is_bit n m k u) ∙ g) in
        omega arith

    not_astray : m / 2 ^ t ≡ 0 → (k : ℕ) → k < n → not (not (ltb k t) && get_or (marks_from n m) k false) ≡ true
    not_astray z k u =
        by_test (ltb k t)
        (λ l. ap not (and_no _ (ap not l)))
        (λ l. ap not (and_yes _ (ap not l) ∙ mark_is_bit n m k u ∙ ap (λ (x : ℕ). eqb (x % 2) 1) (zero_on m t k z (ltb-false k t l))))
