-- The loop that widens numbers, and lines that have more numbers at hand than they need. Assumes nothing.
use mathlib.Core.Path.{◌≡◌, refl, sym, ap, ap₂, ◌∙◌}
use mathlib.Core.List.{List, [], ◌∷◌, append-nil}
use Prim.Native.Nat.{ℕ, ◌+◌, ◌*◌, ◌≤◌}
use native.Mathlib.Omega.{arith}
use lib.ListN.{length, take, drop, length-drop, take-append-drop, length-append}
use lib.Seq.{length-take-le}
use Rattle.laws.specs.Bits.{spread}
use Rattle.laws.proofs.Bits.{length_spread}
use Rattle.format.specs.declared.Line.{Line}
use Rattle.format.specs.Format.{own, size, need, encode, fill}
use Rattle.format.proofs.Tables.{fill_join}
use Rattle.writer.specs.Puts.{value_of}
use Rattle.writer.proofs.Line.{length_value}

-- ---- lines and their numbers: only those that the lines need matter, and so many bits they are
pub first_of : (ts : List Line) (zs : List ℕ) → need ts ≤ length zs → fill ts zs ≡ fill ts (take (need ts) zs)
unfolding fill
first_of ts zs l =
    ap₂ fill (sym (append-nil ts)) (sym (take-append-drop (need ts) zs))
    ∙ fill_join ts [] (take (need ts) zs) (drop (need ts) zs) (length-take-le (need ts) zs l)
    ∙ append-nil (fill ts (take (need ts) zs))

pub same_fill : (ts : List Line) (xs ys : List ℕ) → need ts ≤ length xs → need ts ≤ length ys → take (need ts) xs ≡ take (need ts) ys → fill ts xs ≡ fill ts ys
same_fill ts xs ys h k e = first_of ts xs h ∙ ap (fill ts) e ∙ sym (first_of ts ys k)

pub encode_size : (ts : List Line) (xs : List ℕ) → need ts ≤ length xs → length (encode ts (fill ts xs)) ≡ size ts
unfolding encode fill size need
encode_size [] xs h = refl
encode_size (t ∷ ts) xs h =
    length-append (spread t.width (value_of t xs)) (encode ts (fill ts (drop (own t) xs)))
    ∙ ap₂ ◌+◌ (length_spread t.width (value_of t xs) ∙ ap (λ (n : ℕ). n * t.width) (length_value t xs 0 (omega arith)))
    (encode_size ts (drop (own t) xs) (omega (arith, length-drop (own t) xs)))
