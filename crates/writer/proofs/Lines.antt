-- The loop that puts lines: how it starts, goes on and ends. Assumes nothing.
use mathlib.Core.Path.{◌≡◌, sym, ap, ap₂, ◌∙◌}
use mathlib.Core.Bool.{true, cond}
use mathlib.Core.List.{List, ◌++◌}
use Prim.Native.Nat.{ℕ, ◌+◌, ◌*◌, ◌<◌, ◌≤◌}
use native.Mathlib.Omega.{arith}
use lib.ListN.{length, get_or, drop, drop_of_length-le}
use lib.Seq.{sets, drop-drop}
use borrow.Author.Tests.{eqb-true}
use Rattle.laws.specs.Bits.{bits, bits_of}
use Rattle.laws.specs.Scan.{all}
use Rattle.laws.proofs.Bits.{length_bits_of}
use Rattle.laws.proofs.Cases.{if_yes}
use Rattle.laws.proofs.Elements.{all_at}
use Rattle.laws.proofs.Writes.{sets_append}
use Rattle.format.specs.declared.Line.{Line}
use Rattle.format.specs.Format.{own, size, need, encode, fill, sound}
use Rattle.format.specs.Reach.{field_bits}
use Rattle.format.proofs.Leaves.{reached, same_long}
use Rattle.packet.specs.Columns.{single}
use Rattle.packet.proofs.Loops.{lines_cons}
use Rattle.writer.specs.Puts.{After}
use Rattle.writer.proofs.Line.{bits_one}
use Rattle.format.proofs.Sound.{sound_is}

-- m lines T, j of them put
pub record Going (out₀ : List ℕ) (p : ℕ) (xs : List ℕ) (m : ℕ) (T : List Line) (out : List ℕ) (q i j : ℕ) : Type 0 where
  pub within : j ≤ m
  pub place : q ≤ p + 32 * j
  pub kept : length out ≡ length out₀
  pub room : i + need (drop j T) ≤ length xs
  pub sizes : p + size T ≡ q + size (drop j T)
  pub rest : sets (bits out₀) p (encode T (fill T xs)) ≡ sets (bits out) q (encode (drop j T) (fill (drop j T) (drop i xs)))

-- line j
module _ (T : List Line) (j : ℕ) (d t : Line) (h : j < length T) (e : t ≡ get_or T j d) where
  -- its numbers are there
  pub turn_fits : (out₀ : List ℕ) (p : ℕ) (xs : List ℕ) (m : ℕ) (out : List ℕ) (q i : ℕ) → Going out₀ p xs m T out q i j → i + own t ≤ length xs
  unfolding need
  turn_fits out₀ p xs m out q i g =
      let r = g.room in
      let nd : need (drop j T) ≡ own t + need (drop (j + 1) T) = ap need (lines_cons T j d t h e) in
      omega arith

  pub going_turn : sound t ≡ true → all single T ≡ true → (out₀ : List ℕ) (p : ℕ) (xs : List ℕ) (m : ℕ) (out last : List ℕ) (q i x v : ℕ) → j < m → Going out₀ p xs m T out q i j → q < 65536 → x ≡ cond t.given (get_or xs i 0) t.lo
      → bits last ≡ sets (bits out) q (field_bits q t.width x) → v ≡ own t → Going out₀ p xs m T last (q + t.width) (i + v) (j + 1)
  unfolding need size encode fill
  going_turn s ones out₀ p xs m out last q i x v k g l ex e' ev =
      let a = (sound_is t s).narrow in
      let one = ap single e ∙ all_at single T j d ones h in
      let cons = lines_cons T j d t h e in
      let fits = turn_fits out₀ p xs m out q i g in
      let nd : need (drop j T) ≡ own t + need (drop (j + 1) T) = ap need cons in
      let sz : size (drop j T) ≡ t.width + size (drop (j + 1) T) = ap size cons ∙ rw (eqb-true t.count 1 one) (omega arith) in
      let r = g.room in
      let y = g.sizes in
      let pl = g.place in
      let rest = drop (j + 1) T in
      let o = bits_one t xs i x one fits ex in
      let f : bits last ≡ sets (bits out) q (bits_of t.width x) = e' ∙ ap (sets (bits out) q) (if_yes (bits_of t.width x) _ (reached q 1 t.width l (omega arith) a)) in
      record {
        within = omega arith;
        place = omega arith;
        kept = same_long last out q (bits_of t.width x) f ∙ g.kept;
        room = omega arith;
        sizes = omega arith;
        rest =
            g.rest
            ∙ ap (λ (ts : List Line). sets (bits out) q (encode ts (fill ts (drop i xs)))) cons
            ∙ ap (λ (v : List ℕ). sets (bits out) q (v ++ encode rest (fill rest (drop (own t) (drop i xs))))) (sym o)
            ∙ sets_append (bits_of t.width x) (encode rest (fill rest (drop (own t) (drop i xs)))) (bits out) q
            ∙ ap₂ (λ (l : List ℕ) (w : ℕ). sets l (q + w) (encode rest (fill rest (drop (own t) (drop i xs))))) (sym f) (length_bits_of t.width x)
            ∙ ap (λ (ys : List ℕ). sets (bits last) (q + t.width) (encode rest (fill rest ys))) (drop-drop (own t) i xs ∙ ap (λ (x : ℕ). drop (i + x) xs) (sym ev));
      }

pub going_last : (out₀ : List ℕ) (p : ℕ) (xs : List ℕ) (m : ℕ) (T : List Line) (out : List ℕ) (q i j : ℕ) → length T ≤ j → Going out₀ p xs m T out q i j
    → After out₀ out p (encode T (fill T xs)) q (size T)
unfolding encode size
going_last out₀ p xs m T out q i j l g =
    let none_left = drop_of_length-le T l in
    let y = g.sizes in
    let z : size (drop j T) ≡ 0 = ap size none_left in
    record { put = sym (g.rest ∙ rw none_left); place = omega arith }
