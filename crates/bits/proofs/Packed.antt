-- The turns of the packing loop. Assumes nothing.
use Rattle.std.proofs.Common.{◌≡◌, ℕ, zero, suc, ◌+◌, ◌-◌, ◌*◌, ◌<◌, ◌≤◌, true, false, eqb, List, [], ◌∷◌, length, get_or, sym, refl, ap, ◌∙◌, subst, ap₂, add-one, arith, eq-eqb, ne_eqb}
use lib.Seq.{sets}
use lib.Ieee.{Float, nan}
use Rattle.laws.specs.Bits.{bits, bits_of}
use Rattle.laws.proofs.Cases.{if_yes, if_no}
use Rattle.format.specs.Reach.{field_bits}
use Rattle.format.proofs.Leaves.{reached}
use Rattle.samples.specs.Numbers.{number_at}
use Rattle.samples.specs.Symbol.{decided}
use Rattle.samples.specs.Coding.{bit_of}
use Rattle.samples.specs.declared.Pair.{Pair}
use Rattle.samples.specs.Symbol.{Decided}
use Rattle.samples.specs.declared.Verdict.{Verdict}
use Rattle.samples.specs.declared.Verdict.TheVariants.{Zero, One, Undecided}
use Rattle.bits.specs.Packed.{numbers_from, symbols_from, decided_bits, taken_from}

-- an array with the right number at each place is the symbol
pub numbers_are : (b : List ℕ) (l : List Float) (n at : ℕ) → length l ≡ n → ((k : ℕ) → k < n → get_or l k nan ≡ number_at b (at + 8 * k)) → l ≡ numbers_from b at n
unfolding numbers_from
numbers_are b [] zero at e h = refl
numbers_are b [] (suc n) at e h = absurd (zero_not n e)
  where
    zero_not : (n : ℕ) → 0 ≡ suc n → ⊥
    zero_not n e = omega arith
numbers_are b (x ∷ l) zero at e h = absurd (suc_not (length l) e)
  where
    suc_not : (n : ℕ) → suc n ≡ 0 → ⊥
    suc_not n e = omega arith
numbers_are b (x ∷ l) (suc n) at e h =
    let first : at + 8 * 0 ≡ at = omega arith in
    ap₂ ◌∷◌ (h 0 (omega arith) ∙ ap (number_at b) first)
    (numbers_are b l n (at + 8) (omega arith) (λ k q. let next : at + 8 * suc k ≡ at + 8 + 8 * k = omega arith in h (suc k) (omega arith) ∙ ap (number_at b) next))

-- the symbol at k, then the others
pub symbols_next : (b : List ℕ) (k n : ℕ) → k < n → symbols_from b k (n - k) ≡ numbers_from b (k * 256) 32 ∷ symbols_from b (k + 1) (n - (k + 1))
unfolding symbols_from
symbols_next b k n h = let e : n - k ≡ suc (n - (k + 1)) = omega arith in ap (symbols_from b k) e

pub symbols_none : (b : List ℕ) (k n : ℕ) → n ≤ k → symbols_from b k (n - k) ≡ []
unfolding symbols_from
symbols_none b k n h = let e : n - k ≡ 0 = omega arith in ap (symbols_from b k) e

-- what the loop keeps: what is still to come from here gives what was to come from the start
pub record Going (first last : Pair) (k : ℕ) (before out : List ℕ) (all rest : List (List Float)) : Type 0 where
  pub result : taken_from first 0 all ≡ taken_from last k rest
  pub packed : sets (bits before) 0 (decided_bits first all) ≡ sets (bits out) k (decided_bits last rest)

module _ (s : Pair) (x : List Float) (xs : List (List Float)) (d : Decided) (e : d ≡ decided s x) where
  -- refused
  pub stops : (f : Pair) (k : ℕ) (before out : List ℕ) (all : List (List Float)) → Going f s k before out all (x ∷ xs) → (d.answer ≡ 0 → ⊥)
      → (record { state = s; symbols = k; answer = d.answer } ≡ taken_from f 0 all) × (bits out ≡ sets (bits before) 0 (decided_bits f all))
  unfolding taken_from decided_bits
  stops f k before out all g h =
      let t : eqb (decided s x).answer 0 ≡ false = ap (λ (d : Decided). eqb d.answer 0) (sym e) ∙ ne_eqb d.answer 0 h in (
        ap (λ (d : Decided). record { state = s; symbols = k; answer = d.answer }) e ∙ sym (g.result ∙ if_no _ _ t),
        sym (g.packed ∙ ap (sets (bits out) k) (if_no (bit_of (decided s x).verdict ∷ decided_bits (decided s x).state xs) [] t)),
      )

  one_bit : (v : Verdict) → bits_of 1 (bit_of v) ≡ bit_of v ∷ []
  unfolding bits_of
  one_bit (Zero _) = refl
  one_bit (One _) = refl
  one_bit (Undecided _) = refl

  -- taken: its bit is put, and the loop goes on
  pub goes_on : (f : Pair) (k : ℕ) (before out out' : List ℕ) (all : List (List Float)) (bit : ℕ) → Going f s k before out all (x ∷ xs) → d.answer ≡ 0 → k < 65536
      → bit ≡ bit_of d.verdict → bits out' ≡ sets (bits out) k (field_bits k 1 bit) → Going f d.state (k + 1) before out' all xs
  unfolding taken_from decided_bits
  goes_on f k before out out' all bit g h l v w =
      let t : eqb (decided s x).answer 0 ≡ true = ap (λ (d : Decided). eqb d.answer 0) (sym e) ∙ eq-eqb d.answer 0 h in
      let b = bit_of (decided s x).verdict in
      let put : bits out' ≡ sets (bits out) k (b ∷ []) =
      w ∙ ap (sets (bits out) k) (if_yes (bits_of 1 bit) [] (reached k 1 1 l (omega arith) (omega arith)) ∙ ap (bits_of 1) (v ∙ ap (λ (d : Decided). bit_of d.verdict) e) ∙ one_bit (decided s x).verdict) in
      record {
        result = g.result ∙ if_yes _ _ t ∙ ap (λ (d : Decided). taken_from d.state (k + 1) xs) (sym e);
        packed = g.packed ∙ ap (sets (bits out) k) (if_yes (b ∷ decided_bits (decided s x).state xs) [] t)
            ∙ ap (λ (o : List ℕ). sets o (suc k) (decided_bits (decided s x).state xs)) (sym put)
            ∙ ap (λ (n : ℕ). sets (bits out') n (decided_bits (decided s x).state xs)) (sym (add-one k))
            ∙ ap (λ (d : Decided). sets (bits out') (k + 1) (decided_bits d.state xs)) (sym e);
      }

-- the loop's first, each turn's and last fact
pub begins : (s : Pair) (o b : List ℕ) (n : ℕ) → Going s s 0 o o (symbols_from b 0 n) (symbols_from b 0 (n - 0))
begins s o b n =
    let e : n ≡ n - 0 = omega arith in
    record {
      result = ap (λ (m : ℕ). taken_from s 0 (symbols_from b 0 m)) e;
      packed = ap (λ (m : ℕ). sets (bits o) 0 (decided_bits s (symbols_from b 0 m))) e;
    }

pub at_symbol : (f s : Pair) (k n : ℕ) (before out b : List ℕ) (all : List (List Float)) → Going f s k before out all (symbols_from b k (n - k)) → k < n
    → Going f s k before out all (numbers_from b (k * 256) 32 ∷ symbols_from b (k + 1) (n - (k + 1)))
at_symbol f s k n before out b all g h = subst (Going f s k before out all) (symbols_next b k n h) g

pub ends : (f s : Pair) (k n : ℕ) (before out b : List ℕ) (all : List (List Float)) → Going f s k before out all (symbols_from b k (n - k)) → n ≤ k
    → (record { state = s; symbols = k; answer = 0 } ≡ taken_from f 0 all) × (bits out ≡ sets (bits before) 0 (decided_bits f all))
unfolding taken_from decided_bits
ends f s k n before out b all g h =
    let e = subst (Going f s k before out all) (symbols_none b k n h) g in
    (sym e.result, sym e.packed)
