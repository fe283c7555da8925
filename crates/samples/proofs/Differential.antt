-- What is coded differentially and sent in one phase comes back, but for the first bit. Assumes nothing.
use mathlib.Core.Path.{◌≡◌, refl, sym, ap, ap₂, ◌∙◌, subst}
use mathlib.Core.Bool.{Bool, true, false, not}
use mathlib.Core.List.{List, [], ◌∷◌, map}
use Prim.Native.Nat.{ℕ, zero, suc, ◌+◌, ◌*◌, ◌≤◌, ◌<◌, ◌^◌}
use native.Mathlib.Nat.{le_trans, lt_irrefl, not-suc-le-zero, le_of_suc-le-suc, mul-pos, zero-lt-suc}
use native.Mathlib.Omega.{arith}
use lib.Dec.{T, leb, leb→le, lit≤}
use lib.ListN.{length, length-map, get_or, replicate}
use lib.IntN.{ℤ, pos, negsuc, neg_ℤ, nat_abs, ◌+ℤ◌, ◌-ℤ◌, ◌*ℤ◌, neg_ℤ-+ℤ, neg_ℤ-neg_ℤ, zero-*ℤ, *ℤ-zero, *ℤ-negsuc, *ℤ_comm}
use lib.Ieee.{Float, nan, binary64}
use lib.Ieee.Fits.{and_i}
use borrow.Author.Tests.{eq-eqb}
use Rattle.laws.specs.Bits.{Under}
use Rattle.laws.specs.Scan.{all}
use Rattle.laws.proofs.Elements.{all_cons, all_head, all_tail}
use Rattle.samples.specs.Whole.{whole_of, of_whole}
use Rattle.samples.specs.Symbol.{is_sample, is_part, is_pair, total, part, product, verdict_of, pair_of, fresh_pair, taken, decided}
use Rattle.samples.specs.Coding.{coded, turned, symbol_at, wave_of, sent, Sendable, strength, told, ComeBack, answers, verdicts, bit_of}
use Rattle.samples.specs.declared.Pair.{Pair}
use Rattle.samples.specs.Symbol.{Decided}
use Rattle.samples.specs.declared.Verdict.TheVariants.{Zero, One, Undecided}
use Rattle.samples.proofs.Arithmetic.{of_means, abs_neg, parts_between, between}
use Rattle.samples.proofs.Exact.{fresh_good}
use Rattle.samples.proofs.Steps.{zero_means, holds, is_true, means_back, between_within, part_good, part_means, gives_0, is_taken}

-- ---- signs
abs_turned : (d : Bool) (z : ℤ) → nat_abs (turned d z) ≡ nat_abs z
abs_turned false z = refl
abs_turned true z = abs_neg z

turned_add : (d : Bool) (a b : ℤ) → turned d (a +ℤ b) ≡ turned d a +ℤ turned d b
turned_add false a b = refl
turned_add true a b = neg_ℤ-+ℤ a b

turned_sub : (d : Bool) (a b : ℤ) → turned d (a -ℤ b) ≡ turned d a -ℤ turned d b
turned_sub false a b = refl
turned_sub true a b = neg_ℤ-+ℤ a (neg_ℤ b)

turned_zero : (d : Bool) → turned d (pos 0) ≡ pos 0
turned_zero false = refl
turned_zero true = refl

times_neg : (a b : ℤ) → a *ℤ neg_ℤ b ≡ neg_ℤ (a *ℤ b)
times_neg a (pos zero) = *ℤ-zero a ∙ sym (ap neg_ℤ (*ℤ-zero a))
times_neg a (pos (suc n)) = *ℤ-negsuc a n
times_neg a (negsuc n) = sym (ap neg_ℤ (*ℤ-negsuc a n) ∙ neg_ℤ-neg_ℤ (a *ℤ pos (suc n)))

neg_times : (a b : ℤ) → neg_ℤ a *ℤ b ≡ neg_ℤ (a *ℤ b)
neg_times a b = *ℤ_comm (neg_ℤ a) b ∙ times_neg b a ∙ ap neg_ℤ (*ℤ_comm b a)

square : (a : ℤ) → a *ℤ a ≡ pos (nat_abs a * nat_abs a)
square (pos n) = refl
square (negsuc n) = refl

product_same : (d : Bool) (a b : ℤ) → product (turned d a) (turned d b) (turned d a) (turned d b) ≡ product a b a b
product_same false a b = refl
product_same true a b = ap₂ ◌+ℤ◌ (both a) (both b)
  where
    both : (a : ℤ) → neg_ℤ a *ℤ neg_ℤ a ≡ a *ℤ a
    both a = neg_times a (neg_ℤ a) ∙ ap neg_ℤ (times_neg a a) ∙ neg_ℤ-neg_ℤ (a *ℤ a)

product_other : (d : Bool) (a b : ℤ) → product (turned d a) (turned d b) (turned (not d) a) (turned (not d) b) ≡ neg_ℤ (product a b a b)
product_other false a b = ap₂ ◌+ℤ◌ (times_neg a a) (times_neg b b) ∙ sym (neg_ℤ-+ℤ (a *ℤ a) (b *ℤ b))
product_other true a b = ap₂ ◌+ℤ◌ (neg_times a a) (neg_times b b) ∙ sym (neg_ℤ-+ℤ (a *ℤ a) (b *ℤ b))

strong : (a b : ℤ) → (a ≡ pos 0 → b ≡ pos 0 → ⊥) → 0 < nat_abs a * nat_abs a + nat_abs b * nat_abs b
strong (pos zero) (pos zero) h = absurd (h refl refl)
strong (pos zero) (pos (suc n)) h = let k : 0 < suc n * suc n = mul-pos (zero-lt-suc n) (zero-lt-suc n) in omega arith
strong (pos zero) (negsuc n) h = let k : 0 < suc n * suc n = mul-pos (zero-lt-suc n) (zero-lt-suc n) in omega arith
strong (pos (suc m)) b h = let k : 0 < suc m * suc m = mul-pos (zero-lt-suc m) (zero-lt-suc m) in omega arith
strong (negsuc m) b h = let k : 0 < suc m * suc m = mul-pos (zero-lt-suc m) (zero-lt-suc m) in omega arith

above : (n : ℕ) → 0 < n → verdict_of (pos n) ≡ Zero (of_whole (pos n))
unfolding verdict_of
above zero h = absurd (lt_irrefl 0 h)
above (suc n) h = refl

under : (n : ℕ) → 0 < n → verdict_of (neg_ℤ (pos n)) ≡ One (of_whole (neg_ℤ (pos n)))
unfolding verdict_of
under zero h = absurd (lt_irrefl 0 h)
under (suc n) h = refl

-- ---- samples that stand for a level
small_between : (z : ℤ) → nat_abs z ≤ 32767 → T (between 32767 32767 z)
small_between (pos n) h = parts_between 32767 32767 (pos n) h (omega arith)
small_between (negsuc n) h = parts_between 32767 32767 (negsuc n) (omega arith) (omega arith)

small_fits : (z : ℤ) → nat_abs z ≤ 32767 → nat_abs z ≤ 2 ^ 53
small_fits z h = le_trans h (lit≤ {m = 32767} {n = 2 ^ 53} tt)

is_sample_lem : (z : ℤ) → nat_abs z ≤ 32767 → is_sample (of_whole z) ≡ true
is_sample_lem z h = is_true (is_sample (of_whole z)) (between_within 32767 32767 (of_whole z) z (of_means binary64 z (small_fits z h)) (small_between z h))

all_samples : (d : Bool) (wave : List ℤ) → all (λ z. leb (nat_abs z) 32767) wave ≡ true → all is_sample (symbol_at wave d) ≡ true
unfolding symbol_at
all_samples d [] h = refl
all_samples d (z ∷ wave) h =
    let k : nat_abs z ≤ 32767 = leb→le (nat_abs z) 32767 (holds (all_head (λ z. leb (nat_abs z) 32767) z wave h)) in
    all_cons is_sample (of_whole (turned d z)) (map (λ z. of_whole (turned d z)) wave) (is_sample_lem (turned d z) (subst (λ (n : ℕ). n ≤ 32767) (sym (abs_turned d z)) k)) (all_samples d wave (all_tail (λ z. leb (nat_abs z) 32767) z wave h))

-- each number of a level is that of the other, turned
number_turned : (d : Bool) (wave : List ℤ) → all (λ z. leb (nat_abs z) 32767) wave ≡ true → (j : ℕ) → whole_of (get_or (symbol_at wave d) j nan) ≡ turned d (whole_of (get_or (symbol_at wave false) j nan))
unfolding symbol_at whole_of
number_turned d [] h j = sym (turned_zero d)
number_turned d (z ∷ wave) h zero =
    let k : nat_abs z ≤ 32767 = leb→le (nat_abs z) 32767 (holds (all_head (λ z. leb (nat_abs z) 32767) z wave h)) in
    let m : nat_abs (turned d z) ≤ 32767 = subst (λ (n : ℕ). n ≤ 32767) (sym (abs_turned d z)) k in
    (means_back (of_whole (turned d z)) (turned d z) (of_means binary64 (turned d z) (small_fits (turned d z) m))).1
    ∙ ap (turned d) (sym (means_back (of_whole z) z (of_means binary64 z (small_fits z k))).1)
number_turned d (z ∷ wave) h (suc j) = number_turned d wave (all_tail (λ z. leb (nat_abs z) 32767) z wave h) j

module _ (wave : List ℤ) (h : all (λ z. leb (nat_abs z) 32767) wave ≡ true) (d : Bool) where
  total_turned : (at n : ℕ) → total (symbol_at wave d) at n ≡ turned d (total (symbol_at wave false) at n)
  unfolding total
  total_turned at zero = sym (turned_zero d)
  total_turned at (suc n) =
      ap₂ ◌+ℤ◌ (total_turned at n) (number_turned d wave h (at + 2 * n))
      ∙ sym (turned_add d (total (symbol_at wave false) at n) (whole_of (get_or (symbol_at wave false) (at + 2 * n) nan)))

  part_turned : (at : ℕ) → part (symbol_at wave d) at ≡ turned d (part (symbol_at wave false) at)
  part_turned at =
      ap₂ ◌-ℤ◌ (total_turned at 8) (total_turned (at + 16) 8)
      ∙ sym (turned_sub d (total (symbol_at wave false) at 8) (total (symbol_at wave false) (at + 16) 8))

-- ---- symbols of one wave
module _ (wave : List ℤ) (w : Sendable wave) where
  abbrev at0 : Bool → ℤ
  at0 d = part (symbol_at wave d) 0

  abbrev at1 : Bool → ℤ
  at1 d = part (symbol_at wave d) 1

  good : (d : Bool) → T (all is_sample (symbol_at wave d))
  good d = holds (all_samples d wave w.samples)

  long : (d : Bool) → length (symbol_at wave d) ≡ 32
  unfolding symbol_at
  long d = length-map wave (λ z. of_whole (turned d z)) ∙ w.numbers

  -- the state behind a symbol
  abbrev behind : Bool → Pair
  behind d = pair_of (at0 d) (at1 d)

  good_pair : (d : Bool) → is_pair (behind d) ≡ true
  good_pair d = is_true (is_pair (behind d)) (and_i (is_part (of_whole (at0 d))) (is_part (of_whole (at1 d))) (part_good (symbol_at wave d) 0 (good d)) (part_good (symbol_at wave d) 1 (good d)))

  takes : (s : Pair) (d : Bool) → is_pair s ≡ true → decided s (symbol_at wave d) ≡ taken s (symbol_at wave d)
  takes s d p = sym (is_taken s (symbol_at wave d) (gives_0 s (symbol_at wave d) p (eq-eqb (length (symbol_at wave d)) 32 (long d)) (is_true (all is_sample (symbol_at wave d)) (good d))))

  back : (d : Bool) (at : ℕ) → whole_of (of_whole (part (symbol_at wave d) at)) ≡ part (symbol_at wave d) at
  back d at = (means_back (of_whole (part (symbol_at wave d) at)) (part (symbol_at wave d) at) (part_means (symbol_at wave d) at (good d))).1

  itself : product (at0 false) (at1 false) (at0 false) (at1 false) ≡ pos (strength wave)
  unfolding strength
  itself = ap₂ ◌+ℤ◌ (square (at0 false)) (square (at1 false))

  positive : 0 < strength wave
  unfolding strength
  positive = strong (at0 false) (at1 false) w.nonzero

  abbrev crossed : Bool → Bool → ℤ
  crossed e d = product (whole_of (behind e).inphase) (whole_of (behind e).quadrature) (at0 d) (at1 d)

  crossed_is : (e d : Bool) → crossed e d ≡ product (turned e (at0 false)) (turned e (at1 false)) (turned d (at0 false)) (turned d (at1 false))
  crossed_is e d =
      let p = part_turned wave w.samples in
      ap₂ ◌+ℤ◌ (ap₂ ◌*ℤ◌ (back e 0 ∙ p e 0) (p d 0)) (ap₂ ◌*ℤ◌ (back e 1 ∙ p e 1) (p d 1))

  stays : (d : Bool) → verdict_of (crossed d d) ≡ told (strength wave) 0
  stays d = ap verdict_of (crossed_is d d ∙ product_same d (at0 false) (at1 false) ∙ itself) ∙ above (strength wave) positive

  turns : (d : Bool) → verdict_of (crossed d (not d)) ≡ told (strength wave) 1
  turns d = ap verdict_of (crossed_is d (not d) ∙ product_other d (at0 false) (at1 false) ∙ ap neg_ℤ itself) ∙ under (strength wave) positive

  -- a symbol behind a good state: its verdict, and what follows it
  one : (s : Pair) (d : Bool) (rest : List (List Float)) → is_pair s ≡ true
      → verdicts s (symbol_at wave d ∷ rest) ≡ verdict_of (product (whole_of s.inphase) (whole_of s.quadrature) (at0 d) (at1 d)) ∷ verdicts (behind d) rest
  unfolding verdicts
  one s d rest p = ap (λ (t : Decided). t.verdict ∷ verdicts t.state rest) (takes s d p)

  on : (d : Bool) (bits : List ℕ) → verdicts (behind d) (sent wave d bits) ≡ map (told (strength wave)) bits
  unfolding coded verdicts
  on d [] = refl
  on d (zero ∷ bits) = one (behind d) d (sent wave d bits) (good_pair d) ∙ ap₂ ◌∷◌ (stays d) (on d bits)
  on d (suc n ∷ bits) = one (behind d) (not d) (sent wave (not d) bits) (good_pair d) ∙ ap₂ ◌∷◌ (turns d) (on (not d) bits)

  good_begin : is_pair fresh_pair ≡ true
  good_begin = is_true (is_pair fresh_pair) fresh_good

  undecided : (d : Bool) → verdict_of (product (whole_of (of_whole (pos 0))) (whole_of (of_whole (pos 0))) (at0 d) (at1 d)) ≡ Undecided (of_whole (pos 0))
  unfolding verdict_of
  undecided d =
      let none : whole_of (of_whole (pos 0)) ≡ pos 0 = (means_back (of_whole (pos 0)) (pos 0) zero_means).1 in
      ap verdict_of (ap (λ (z : ℤ). product z z (at0 d) (at1 d)) none ∙ ap₂ ◌+ℤ◌ (zero-*ℤ (at0 d)) (zero-*ℤ (at1 d)))

  begun : (d : Bool) (bits : List ℕ) → verdicts fresh_pair (symbol_at wave d ∷ sent wave d bits) ≡ Undecided (of_whole (pos 0)) ∷ map (told (strength wave)) bits
  begun d bits = one fresh_pair d (sent wave d bits) good_begin ∙ ap₂ ◌∷◌ (undecided d) (on d bits)

  -- each is taken
  one_taken : (s : Pair) (d : Bool) (rest : List (List Float)) → is_pair s ≡ true → answers s (symbol_at wave d ∷ rest) ≡ 0 ∷ answers (behind d) rest
  unfolding answers
  one_taken s d rest p = ap (λ (t : Decided). t.answer ∷ answers t.state rest) (takes s d p)

  all_taken : (s : Pair) (d : Bool) (bits : List ℕ) → is_pair s ≡ true → answers s (sent wave d bits) ≡ replicate (length bits) 0
  unfolding coded answers
  all_taken s d [] p = refl
  all_taken s d (zero ∷ bits) p = one_taken s d (sent wave d bits) p ∙ ap (λ (l : List ℕ). 0 ∷ l) (all_taken (behind d) d bits (good_pair d))
  all_taken s d (suc n ∷ bits) p = one_taken s (not d) (sent wave (not d) bits) p ∙ ap (λ (l : List ℕ). 0 ∷ l) (all_taken (behind (not d)) (not d) bits (good_pair (not d)))

  -- whatever the level before it, the first bit has nothing before it
  pub verdicts_come : (before : Bool) (bit : ℕ) (bits : List ℕ) → verdicts fresh_pair (sent wave before (bit ∷ bits)) ≡ Undecided (of_whole (pos 0)) ∷ map (told (strength wave)) bits
  unfolding coded
  verdicts_come before zero bits = begun before bits
  verdicts_come before (suc n) bits = begun (not before) bits

-- bits are 0 or 1
bits_back : (n : ℕ) (bits : List ℕ) → Under 2 bits → map bit_of (map (told n) bits) ≡ bits
bits_back n [] u = refl
bits_back n (zero ∷ bits) u = ap (λ (l : List ℕ). 0 ∷ l) (bits_back n bits (λ i. u (suc i)))
bits_back n (suc zero ∷ bits) u = ap (λ (l : List ℕ). 1 ∷ l) (bits_back n bits (λ i. u (suc i)))
bits_back n (suc (suc k) ∷ bits) u = absurd (not-suc-le-zero (le_of_suc-le-suc (le_of_suc-le-suc (u 0))))

-- Bits that are coded differentially and sent as any wave of 32 whole samples, turned or not, come back, but for the first.
pub any_wave : (wave : List ℤ) → Sendable wave → (before : Bool) (bit : ℕ) (bits : List ℕ) → Under 2 bits → ComeBack (sent wave before (bit ∷ bits)) (strength wave) bits
any_wave wave w before bit bits u = record {
  none_refused = all_taken wave w fresh_pair before (bit ∷ bits) (good_begin wave w);
  verdicts_are = verdicts_come wave w before bit bits;
  bits_are = ap (map bit_of) (verdicts_come wave w before bit bits) ∙ ap (λ (l : List ℕ). 0 ∷ l) (bits_back (strength wave) bits u);
}

-- Bits that are coded differentially (004, 1.5) and sent as half-waves of any one phase, with no noise and a pair that is not zero, come back, but for
-- the first, which has nothing before it: it is undecided, each other verdict is its bit's, and no symbol is refused.
pub differential : (half : List ℤ) (i q : ℤ) → Sendable (wave_of half i q) → (before : Bool) (bit : ℕ) (bits : List ℕ) → Under 2 bits
    → ComeBack (sent (wave_of half i q) before (bit ∷ bits)) (strength (wave_of half i q)) bits
differential half i q = any_wave (wave_of half i q)
