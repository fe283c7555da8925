-- The four blocks at a place, mended one after the other. Assumes nothing.
use mathlib.Core.Path.{◌≡◌, refl, sym, ap, ap₂, ◌∙◌, subst}
use mathlib.Core.Bool.{true, false}
use mathlib.Core.List.{List}
use Prim.Native.Nat.{ℕ, zero, suc, ◌+◌, ◌*◌, ◌/◌, ◌%◌, ◌^◌, ◌<◌, ◌≤◌}
use native.Mathlib.Decide.{dec_lt}
use native.Mathlib.Omega.{arith}
use lib.Pow.{split}
use lib.Bits.{xor_shr, xor_mod}
use Rattle.laws.specs.Bits.{at, bits}
use Rattle.laws.specs.Poly.{◌⊕◌}
use Rattle.laws.proofs.Bits.{at_small}
use Rattle.block.specs.Block.{offset_of, syndrome}
use Rattle.block.specs.declared.Letter.{Letter}
use Rattle.block.specs.declared.Letter.TheVariants.{A, B, C, D}
use Rattle.mend.specs.Mend.{Outcome}
use Rattle.mend.specs.Mend.{mended_of}
use Rattle.mend.specs.Table.{mended_by}
use Rattle.mend.proofs.OnlyOne.{index_lt}
use Rattle.mend.proofs.Entries.{by_letter}
use Rattle.receiver.specs.Search.{Found}
use Rattle.receiver.specs.Rule.{one}
use Rattle.receiver.specs.Search.{ahead, Holds, Takes, which, rest_of}
use Rattle.receiver.proofs.Pairs.{syndrome_lt, offset_small}
use Rattle.receiver.proofs.Onward.{no_frame, block_small, one_small, fail_a, fail_b, fail_c, fail_d, all_mended}

-- what is none of the first three is the last
pub which_last : {X : Type 0} (a b c d : X) (k : ℕ) → (k ≡ 0 → ⊥) → (k ≡ 1 → ⊥) → (k ≡ 2 → ⊥) → d ≡ which a b c d k
unfolding which
which_last a b c d zero n m o = absurd (n refl)
which_last a b c d (suc zero) n m o = absurd (m refl)
which_last a b c d (suc (suc zero)) n m o = absurd (o refl)
which_last a b c d (suc (suc (suc k))) n m o = refl

-- what mending makes of block k of those in x and y
abbrev pub outcome_at : ℕ → ℕ → ℕ → Outcome
outcome_at x y k = mended_of (which (x / 274877906944) (x / 4096 % 67108864) (y / 274877906944) (y / 4096 % 67108864) k) (which A B C D k)

-- two rests side by side, and each again
pub side_by_side : (s t o p : ℕ) → s < 1024 → t < 1024 → o < 1024 → p < 1024 → (s * 67108864 + t) ⊕ (o * 67108864 + p) ≡ (s ⊕ o) * 67108864 + (t ⊕ p)
side_by_side s t o p hs ht ho hp =
    sym (split ((s * 2 ^ 26 + t) ⊕ (o * 2 ^ 26 + p)) 26)
    ∙ ap₂ (λ (x y : ℕ). x * 2 ^ 26 + y)
    (xor_shr (s * 2 ^ 26 + t) (o * 2 ^ 26 + p) 26 ∙ ap₂ (λ (x y : ℕ). x ⊕ y) (top s t ht) (top o p hp))
    (xor_mod (s * 2 ^ 26 + t) (o * 2 ^ 26 + p) 26 ∙ ap₂ (λ (x y : ℕ). x ⊕ y) (bottom s t ht) (bottom o p hp))
  where
    top : (s t : ℕ) → t < 1024 → (s * 2 ^ 26 + t) / 2 ^ 26 ≡ s
    top s t h = omega arith

    bottom : (s t : ℕ) → t < 1024 → (s * 2 ^ 26 + t) % 2 ^ 26 ≡ t
    bottom s t h = omega arith

pub both_rests : (x : ℕ) (first second : Letter) (r e : ℕ) → x < 2 ^ 64
    → r ≡ syndrome (x / 4096 / 67108864) * 67108864 + syndrome (x / 4096 % 67108864) → e ≡ offset_of first * 67108864 + offset_of second
    → r ⊕ e ≡ rest_of (x / 274877906944) first * 67108864 + rest_of (x / 4096 % 67108864) second
both_rests x first second r e h er ee =
    let same : x / 4096 / 67108864 ≡ x / 274877906944 = omega arith in
    ap₂ (λ (m n : ℕ). m ⊕ n) er ee
    ∙ side_by_side (syndrome (x / 4096 / 67108864)) (syndrome (x / 4096 % 67108864)) (offset_of first) (offset_of second) (syndrome_lt (x / 4096 / 67108864)) (syndrome_lt (x / 4096 % 67108864))
    (offset_small first) (offset_small second)
    ∙ ap (λ (n : ℕ). rest_of n first * 67108864 + rest_of (x / 4096 % 67108864) second) same

pub wide : (b : List ℕ) (from x : ℕ) → x ≡ at (bits b) from 64 → x < 2 ^ 64
wide b from x e = subst (λ (z : ℕ). z < 2 ^ 64) (sym e) (at_small b from 64 64 (omega arith))

one_of : (p a b : ℕ) → p ≡ a * 67108864 + b → a < 1024 → b < 1024 → (p / 67108864 % 1024 ≡ a) × (p % 1024 ≡ b)
one_of p a b e ha hb = (omega arith, omega arith)

-- asked by its rest, a block is that of its letter
by_rest : (m s : ℕ) (l : Letter) → m < 67108864 → s ≡ rest_of m l → mended_by m s ≡ mended_of m l
by_rest m s l h e = ap (mended_by m) e ∙ by_letter m l h

pub asked : (x y p q : ℕ) → x < 2 ^ 64 → y < 2 ^ 64
    → p ≡ rest_of (x / 274877906944) A * 67108864 + rest_of (x / 4096 % 67108864) B → q ≡ rest_of (y / 274877906944) C * 67108864 + rest_of (y / 4096 % 67108864) D
    → (k m s : ℕ) (o : Outcome) → o ≡ mended_by m s → m ≡ which (x / 274877906944) (x / 4096 % 67108864) (y / 274877906944) (y / 4096 % 67108864) k
    → s ≡ which (p / 67108864 % 1024) (p % 1024) (q / 67108864 % 1024) (q % 1024) k → o ≡ outcome_at x y k
unfolding which
asked x y p q hx hy ep eq zero m s o e f g =
    e ∙ ap₂ mended_by f g ∙ by_rest (x / 274877906944) _ A (omega arith) (one_of p _ _ ep (index_lt (x / 274877906944) A) (index_lt (x / 4096 % 67108864) B)).0
asked x y p q hx hy ep eq (suc zero) m s o e f g =
    e ∙ ap₂ mended_by f g ∙ by_rest (x / 4096 % 67108864) _ B (omega arith) (one_of p _ _ ep (index_lt (x / 274877906944) A) (index_lt (x / 4096 % 67108864) B)).1
asked x y p q hx hy ep eq (suc (suc zero)) m s o e f g =
    e ∙ ap₂ mended_by f g ∙ by_rest (y / 274877906944) _ C (omega arith) (one_of q _ _ eq (index_lt (y / 274877906944) C) (index_lt (y / 4096 % 67108864) D)).0
asked x y p q hx hy ep eq (suc (suc (suc k))) m s o e f g =
    e ∙ ap₂ mended_by f g ∙ by_rest (y / 4096 % 67108864) _ D (omega arith) (one_of q _ _ eq (index_lt (y / 274877906944) C) (index_lt (y / 4096 % 67108864) D)).1

-- the information of the first k, and how many of them were mended
unfoldable pub words_of : ℕ → ℕ → ℕ → ℕ
words_of x y zero = 0
words_of x y (suc k) = words_of x y k * 65536 % 18446744073709551616 + (outcome_at x y k).block / 1024

unfoldable pub count_of : ℕ → ℕ → ℕ → ℕ
count_of x y zero = 0
count_of x y (suc k) = count_of x y k + one (outcome_at x y k).changed

-- ---- the loop: the first k can be mended
pub record Mends (x y k w n : ℕ) : Type 0 where
  pub few : k ≤ 4
  pub found : (j : ℕ) → j < k → (outcome_at x y j).found ≡ true
  pub words : w ≡ words_of x y k
  pub count : n ≡ count_of x y k

pub none_yet : (x y : ℕ) → Mends x y 0 0 0
unfolding words_of count_of
none_yet x y = record { few = omega arith; found = λ j h. absurd (omega arith); words = refl; count = refl }

pub count_few : (x y k : ℕ) → count_of x y k ≤ k
unfolding count_of
count_few x y zero = omega arith
count_few x y (suc k) = omega (arith, count_few x y k, one_small (one (outcome_at x y k).changed) (outcome_at x y k).changed refl)

-- sixteen bits more
pub room : (w b : ℕ) → b < 67108864 → w * 65536 % 18446744073709551616 + b / 1024 < 18446744073709551616
room w b h = omega arith

pub one_more : {x y k w n : ℕ} → Mends x y k w n → k < 4 → (o : Outcome) → o ≡ outcome_at x y k → o.found ≡ true → (m : ℕ) → m ≡ one o.changed
    → Mends x y (k + 1) (w * 65536 % 18446744073709551616 + o.block / 1024) (n + m)
unfolding words_of count_of
one_more {x} {y} {k} {w} {n} s h o e v m em =
    let next : suc k ≡ k + 1 = omega arith in
    subst (λ (z : ℕ). Mends x y z (w * 65536 % 18446744073709551616 + o.block / 1024) (n + m)) next
    (record {
      few = omega arith;
      found = λ j l. elim (dec_lt j k) [
        | yes i ↦ s.found j i
        | no i ↦ let same : j ≡ k = omega arith in ap (λ (z : ℕ). (outcome_at x y z).found) same ∙ ap (λ (z : Outcome). z.found) (sym e) ∙ v
      ];
      words = ap₂ (λ (z : ℕ) (p : Outcome). z * 65536 % 18446744073709551616 + p.block / 1024) s.words e;
      count = ap₂ (λ (z p : ℕ). z + p) s.count (em ∙ ap (λ (z : Outcome). one z.changed) e);
    })

-- ---- its ends
module _ (b : List ℕ) (end from x y : ℕ) (hold : Holds b end) (h : from + 104 ≤ end) (ex : x ≡ at (bits b) from 64) (ey : y ≡ at (bits b) (from + 52) 64) where
  -- a block that can't be mended
  pub fail_at : (k : ℕ) → k < 4 → ((j : ℕ) → j < k → (outcome_at x y j).found ≡ true) → (o : Outcome) → o ≡ outcome_at x y k → o.found ≡ false → (r : Found) → r ≡ no_frame
      → Takes true (ahead b end from) r
  unfolding which
  fail_at zero l s o e v r g = fail_a b end from x y hold h ex ey o e v r g
  fail_at (suc zero) l s o e v r g = fail_b b end from x y hold h ex ey (outcome_at x y 0) refl (s 0 (omega arith)) o e v r g
  fail_at (suc (suc zero)) l s o e v r g =
      fail_c b end from x y hold h ex ey (outcome_at x y 0) refl (s 0 (omega arith)) (outcome_at x y 1) refl (s 1 (omega arith)) o e v r g
  fail_at (suc (suc (suc zero))) l s o e v r g =
      fail_d b end from x y hold h ex ey (outcome_at x y 0) refl (s 0 (omega arith)) (outcome_at x y 1) refl (s 1 (omega arith)) (outcome_at x y 2) refl (s 2 (omega arith)) o e v r g
  fail_at (suc (suc (suc (suc k)))) l s o e v r g = absurd (omega arith)

  joined_words : (w p q u v : ℕ) → p < 67108864 → q < 67108864 → u < 67108864 → v < 67108864
      → w ≡ (((0 * 65536 % 18446744073709551616 + p / 1024) * 65536 % 18446744073709551616 + q / 1024) * 65536 % 18446744073709551616 + u / 1024) * 65536 % 18446744073709551616 + v / 1024
      → w ≡ (p / 1024 * 65536 + q / 1024) * 4294967296 + (u / 1024 * 65536 + v / 1024)
  joined_words w p q u v hp hq hu hv e = omega arith

  joined_count : (n p q u v : ℕ) → n ≡ 0 + p + q + u + v → n ≡ p + q + u + v
  joined_count n p q u v e = omega arith

  -- all four
  all_done : (w n : ℕ) → Mends x y 4 w n → Takes true (ahead b end from) (record { frame = true; words = w; mended = n })
  unfolding which words_of count_of
  all_done w n s =
      let small : (j : ℕ) → j < 4 → (outcome_at x y j).block < 67108864 = λ j l. block_small (outcome_at x y j) _ _ refl (s.found j l) in
      all_mended b end from x y hold h ex ey (outcome_at x y 0) refl (s.found 0 (omega arith)) (outcome_at x y 1) refl (s.found 1 (omega arith)) (outcome_at x y 2) refl
      (s.found 2 (omega arith)) (outcome_at x y 3) refl (s.found 3 (omega arith)) w n
      (joined_words w (outcome_at x y 0).block (outcome_at x y 1).block (outcome_at x y 2).block (outcome_at x y 3).block (small 0 (omega arith)) (small 1 (omega arith)) (small 2 (omega arith))
      (small 3 (omega arith)) s.words)
      (joined_count n (one (outcome_at x y 0).changed) (one (outcome_at x y 1).changed) (one (outcome_at x y 2).changed) (one (outcome_at x y 3).changed) s.count)

  pub done : {k w n : ℕ} → Mends x y k w n → 4 ≤ k → Takes true (ahead b end from) (record { frame = true; words = w; mended = n })
  done {k} {w} {n} s l = let f = s.few in let e : k ≡ 4 = omega arith in all_done w n (subst (λ (z : ℕ). Mends x y z w n) e s)
