-- The loop that puts a line: how it starts, goes on and ends. Assumes nothing.
use mathlib.Core.Path.{◌≡◌, refl, sym, ap, ◌∙◌}
use mathlib.Core.Bool.{Bool, true, false, cond}
use mathlib.Core.List.{List, [], ◌∷◌, append-nil}
use Prim.Native.Nat.{ℕ, ◌+◌, ◌*◌, ◌<◌, ◌≤◌}
use native.Mathlib.Omega.{arith}
use lib.ListN.{length, get_or, drop, length-drop, length-replicate, get_or-replicate, take}
use borrow.Author.Tests.{eqb-true}
use Rattle.packet.specs.Columns.{single}
use lib.Seq.{drop-cons, sets, length-take-le, get_or-take, get_or-drop}
use Rattle.laws.specs.Bits.{bits, bits_of, spread}
use Rattle.laws.proofs.Cases.{if_yes}
use Rattle.format.specs.declared.Line.{Line}
use Rattle.format.specs.Format.{own, sound}
use Rattle.format.specs.Reach.{field_bits}
use Rattle.format.proofs.Leaves.{reached, same_long, spread_turn, spread_done}
use Rattle.writer.specs.Puts.{value_of}
use Rattle.format.proofs.Sound.{sound_is}

-- a line has as many numbers as it says, and the j-th is the one that the code takes
module _ (t : Line) (xs : List ℕ) (i : ℕ) (h : i + own t ≤ length xs) where
  pub length_value : length (value_of t (drop i xs)) ≡ t.count
  length_value = part t.given refl
    where
      part : (b : Bool) → t.given ≡ b → length (value_of t (drop i xs)) ≡ t.count
      part true e =
          let o : own t ≡ t.count = if_yes t.count 0 e in
          rw e (length-take-le t.count (drop i xs) (omega (arith, length-drop i xs)))
      part false e = rw e (length-replicate t.count t.lo)

  pub number_at : (j : ℕ) → j < t.count → cond t.given (get_or xs (i + j) 0) t.lo ≡ get_or (value_of t (drop i xs)) j 0
  number_at j k = part t.given refl
    where
      part : (b : Bool) → t.given ≡ b → cond t.given (get_or xs (i + j) 0) t.lo ≡ get_or (value_of t (drop i xs)) j 0
      part true e = rw e (sym (get_or-take t.count (drop i xs) j 0 k ∙ get_or-drop i xs j 0))
      part false e = rw e (sym (get_or-replicate t.count j t.lo 0 k))

-- a line of one number has that one
pub value_one : (t : Line) (xs : List ℕ) (i : ℕ) → single t ≡ true → i + own t ≤ length xs → value_of t (drop i xs) ≡ cond t.given (get_or xs i 0) t.lo ∷ []
value_one t xs i s h = part t.given refl
  where
    one : t.count ≡ 1
    one = eqb-true t.count 1 s

    part : (b : Bool) → t.given ≡ b → value_of t (drop i xs) ≡ cond t.given (get_or xs i 0) t.lo ∷ []
    part true e =
        let o : own t ≡ t.count = if_yes t.count 0 e in
        rw (e, one) (ap (take 1) (drop-cons xs i 0 (omega (arith, o, one, h))))
    part false e = rw (e, one)

-- and its bits are those of that number
pub bits_one : (t : Line) (xs : List ℕ) (i x : ℕ) → single t ≡ true → i + own t ≤ length xs → x ≡ cond t.given (get_or xs i 0) t.lo → bits_of t.width x ≡ spread t.width (value_of t (drop i xs))
unfolding spread
bits_one t xs i x s h e = sym (rw (value_one t xs i s h, ← e) (append-nil (bits_of t.width x)))

pub record Going (out₀ : List ℕ) (p : ℕ) (t : Line) (xs : List ℕ) (i : ℕ) (out : List ℕ) (q j : ℕ) : Type 0 where
  pub within : j ≤ t.count
  pub place : q ≤ p + 32 * j
  pub kept : length out ≡ length out₀
  pub rest : sets (bits out₀) p (spread t.width (value_of t (drop i xs))) ≡ sets (bits out) q (spread t.width (drop j (value_of t (drop i xs))))

pub going_turn : (out₀ : List ℕ) (p : ℕ) (t : Line) (xs : List ℕ) (i : ℕ) (out last : List ℕ) (q j x : ℕ) → sound t ≡ true → p < 50000 → i + own t ≤ length xs → Going out₀ p t xs i out q j → j < t.count
    → x ≡ cond t.given (get_or xs (i + j) 0) t.lo → bits last ≡ sets (bits out) q (field_bits q t.width x) → Going out₀ p t xs i last (q + t.width) (j + 1)
going_turn out₀ p t xs i out last q j x s hp h g k ex e =
    let z = sound_is t s in
    let n1 = z.few in
    let w1 = z.narrow in
    let pl = g.place in
    let f : bits last ≡ sets (bits out) q (bits_of t.width x) = e ∙ ap (sets (bits out) q) (if_yes (bits_of t.width x) _ (reached q 1 t.width (omega arith) (omega arith) w1)) in
    let m = length_value t xs i h in
    record {
      within = omega arith;
      place = omega arith;
      kept = same_long last out q (bits_of t.width x) f ∙ g.kept;
      rest = spread_turn t.width (value_of t (drop i xs)) (bits out) (bits last) (sets (bits out₀) p (spread t.width (value_of t (drop i xs)))) q j x (omega arith) g.rest f (ex ∙ number_at t xs i h j k);
    }

pub going_last : (out₀ : List ℕ) (p : ℕ) (t : Line) (xs : List ℕ) (i : ℕ) (out : List ℕ) (q j : ℕ) → i + own t ≤ length xs → Going out₀ p t xs i out q j → t.count ≤ j
    → bits out ≡ sets (bits out₀) p (spread t.width (value_of t (drop i xs)))
going_last out₀ p t xs i out q j h g k =
    let m = length_value t xs i h in
    spread_done t.width (value_of t (drop i xs)) (bits out) (sets (bits out₀) p (spread t.width (value_of t (drop i xs)))) q j (omega arith) g.rest
