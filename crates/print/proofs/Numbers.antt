-- A number in decimal, its digits one by one and how many there are; and a few bytes stored one by one. Assumes nothing.
use mathlib.Core.Path.{◌≡◌, refl, sym, ap, ◌∙◌, subst}
use mathlib.Core.List.{List, [], ◌∷◌, ◌++◌}
use Prim.Native.Nat.{ℕ, zero, suc, ◌+◌, ◌/◌, ◌%◌, ◌^◌, ◌-◌, ◌≤◌, ◌<◌}
use native.Mathlib.Nat.{div-lt_iff_lt-mul, pow-suc, zero-lt-suc}
use native.Mathlib.Omega.{arith}
use native.Mathlib.Numerals.{add-one}
use lib.ListN.{length, set, take, drop, length-set, length-append}
use lib.Dec.{ltb}
use lib.Seq.{sets}
use mathlib.Core.Bool.{cond}
use borrow.Author.Tests.{lt-ltb, le-ltb}
use Rattle.laws.proofs.Cases.{if_yes, if_no}
use Rattle.laws.proofs.Elements.{by_test}
use borrow.Rule.Slice.PartMut.{put_mid}
use mir.Syntax.{w16}
use native.Mathlib.Decide.{dec_lt}
use Rattle.std.specs.Int.{to_be_bytes}
use Rattle.laws.proofs.Parts.{in_part}
use Rattle.laws.proofs.Writes.{sets_append, from_front}
use Rattle.print.specs.Lines.{hex_of, decimal_of}
use Rattle.print.proofs.Laws as laws
use Rattle.print.specs.Letters.{digits_of, number_text, number_written, number_into, info_text}

-- room for more digits than there are changes nothing
more : (k n : ℕ) → n < 10 ^ suc k → digits_of (suc k) n ≡ digits_of (suc (suc k)) n
unfolding digits_of
more zero n h = if_yes _ _ (lt-ltb n 10 h) ∙ sym (if_yes _ _ (lt-ltb n 10 h))
more (suc k) n h =
    ap (λ (l : List ℕ). cond (ltb n 10) ((48 + n) ∷ []) (l ++ ((48 + n % 10) ∷ [])))
    (more k (n / 10) ((div-lt_iff_lt-mul (zero-lt-suc 9)).1 (subst (λ (x : ℕ). n < x) (pow-suc 10 (suc k)) h)))

pub one_digit : (n : ℕ) → n < 10 → number_text n ≡ (48 + n) ∷ []
unfolding number_text digits_of
one_digit n h = if_yes _ _ (lt-ltb n 10 h)

pub last_digit : (n : ℕ) → 10 ≤ n → n < 2 ^ 64 → number_text n ≡ number_text (n / 10) ++ ((48 + n % 10) ∷ [])
unfolding number_text digits_of
last_digit n h u =
    let t : n / 10 < 10 ^ 19 = omega arith in
    if_no _ _ (le-ltb n 10 h) ∙ ap (λ (l : List ℕ). l ++ ((48 + n % 10) ∷ [])) (more 18 (n / 10) t)

-- at most twenty
few : (k n : ℕ) → length (digits_of k n) ≤ k
unfolding digits_of
few zero n = omega arith
few (suc k) n =
    by_test (ltb n 10) (λ t. rw t (omega arith))
    (λ f. rw f (omega (arith, few k (n / 10), length-append (digits_of k (n / 10)) ((48 + n % 10) ∷ []))))

pub at_most_20 : (n : ℕ) → length (number_text n) ≤ 20
unfolding number_text
at_most_20 n = few 20 n

pub longer : (n : ℕ) → 10 ≤ n → n < 2 ^ 64 → length (number_text n) ≡ length (number_text (n / 10)) + 1
longer n h u = ap length (last_digit n h u) ∙ length-append (number_text (n / 10)) ((48 + n % 10) ∷ [])

-- the last digit goes behind the others
pub put_last : (n : ℕ) (out rest : List ℕ) (k : ℕ) → 10 ≤ n → n < 2 ^ 64 → k ≡ length (number_text (n / 10)) → rest ≡ sets out 0 (number_text (n / 10)) → set rest k (48 + n % 10) ≡ sets out 0 (number_text n)
put_last n out rest k h u e w =
    let f : k ≡ 0 + length (number_text (n / 10)) = omega arith in
    rw (f, w) (sym (ap (sets out 0) (last_digit n h u) ∙ sets_append (number_text (n / 10)) ((48 + n % 10) ∷ []) out 0))

-- a number below a thousand
pub decimal : (n : ℕ) → n < 1000 → number_text n ≡ decimal_of n
decimal n h =
    elim (dec_lt n 10) [
      | yes a ↦ one_digit n a ∙ laws.one_digit n a
      | no a ↦
          let two : number_text n ≡ number_text (n / 10) ++ ((48 + n % 10) ∷ []) = last_digit n (omega arith) (omega arith) in
          elim (dec_lt n 100) [
            | yes b ↦ two ∙ ap (λ (l : List ℕ). l ++ ((48 + n % 10) ∷ [])) (one_digit (n / 10) (omega arith)) ∙ laws.two_digits n (omega arith) b
            | no b ↦
                let e : n / 10 / 10 ≡ n / 100 = omega arith in
                two
                ∙ ap (λ (l : List ℕ). l ++ ((48 + n % 10) ∷ [])) (last_digit (n / 10) (omega arith) (omega arith) ∙ ap (λ (l : List ℕ). l ++ ((48 + n / 10 % 10) ∷ [])) (one_digit (n / 10 / 10) (omega arith)))
                ∙ ap (λ (m : ℕ). (48 + m) ∷ (48 + n / 10 % 10) ∷ (48 + n % 10) ∷ []) e
                ∙ laws.three_digits n (omega arith) (omega arith)
          ]
    ]

-- ---- by whether there is room for twenty
module _ (n : ℕ) (out : List ℕ) where
  pub no_number : length out < 20 → (0 ≡ number_written n out) × (out ≡ number_into n out)
  unfolding number_written number_into
  no_number h = let s = lt-ltb (length out) 20 h in (sym (if_yes _ _ s), sym (if_yes _ _ s))

  pub number_room : 20 ≤ length out → (number_written n out ≡ length (number_text n)) × (number_into n out ≡ sets out 0 (number_text n))
  unfolding number_written number_into
  number_room h =
      let s = le-ltb (length out) 20 h in
      (if_no _ _ s, if_no _ _ s ∙ sym (from_front (number_text n) out (omega (arith, at_most_20 n))))

-- ---- a space, then two bytes in hex in the part behind it, then the line's end
pub info_put : (info : ℕ) (out part : List ℕ) (at : ℕ) → info < 65536 → at + 6 ≤ length out → part ≡ sets (take (length (set out at 32) - (at + 1)) (drop (at + 1) (set out at 32))) 0 (hex_of (to_be_bytes w16 info))
    → set (put_mid (at + 1) (length (set out at 32) - (at + 1)) (set out at 32) part) (at + 5) 10 ≡ sets out at (info_text info)
unfolding info_text hex_of
info_put info out part at h room p =
    let o = set out at 32 in
    let k = length-set out at 32 in
    let e5 : at + 5 ≡ suc (suc (suc (suc (suc at)))) = omega arith in
    let a : info / 256 % 256 / 16 ≡ info / 4096 = omega arith in
    let b : info / 256 % 256 % 16 ≡ info / 256 % 16 = omega arith in
    let c : info % 256 / 16 ≡ info / 16 % 16 = omega arith in
    let d : info % 256 % 16 ≡ info % 16 = omega arith in
    rw (in_part o (hex_of (to_be_bytes w16 info)) part (at + 1) (omega arith) p, e5, add-one at, a, b, c, d) refl
