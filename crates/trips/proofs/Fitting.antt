-- Values without a fault fit the bits of their lines; lists cut at the same place. Assumes nothing.
use mathlib.Core.Path.{◌≡◌, refl, sym, ap, ◌∙◌}
use mathlib.Core.List.{List, [], ◌∷◌, ◌++◌}
use mathlib.Core.Bool.{Bool, true, false, ◌&&◌, ◌||◌, cond}
use Prim.Native.Nat.{ℕ, zero, suc, ◌^◌, ◌<◌}
use native.Mathlib.Omega.{arith}
use lib.ListN.{length, take, drop, replicate, length-drop, length-replicate}
use lib.Seq.{length-take-le, take_at, drop_at}
use lib.Dec.{leb, ltb, eqb}
use borrow.Author.Tests.{leb-true, ltb-true}
use Rattle.laws.specs.Scan.{all}
use Rattle.laws.proofs.Bits.{Under}
use Rattle.laws.proofs.Cases.{and_both, if_yes}
use Rattle.format.specs.declared.Line.{Line}
use Rattle.format.specs.Format.{need, own, fill, inside, line_ok, fine}
use Rattle.format.proofs.Round.{Fits, none, line}

-- ---- lists
pub cut : {A : Type 0} (a a' b b' : List A) → length a ≡ length a' → a ++ b ≡ a' ++ b' → (a ≡ a') × (b ≡ b')
cut a a' b b' n e = (
  sym (take_at a b (length a) refl) ∙ ap (take (length a)) e ∙ take_at a' b' (length a) (sym n),
  sym (drop_at a b (length a) refl) ∙ ap (drop (length a)) e ∙ drop_at a' b' (length a) (sym n),
)

pub nil_of : (l : List ℕ) → length l ≡ 0 → l ≡ []
nil_of [] h = refl
nil_of (x ∷ l) h = absurd (omega arith)

-- ---- numbers in their bits
pub inside_under : (lo hi k : ℕ) (v : List ℕ) → hi < k → inside lo hi v ≡ true → Under k v
unfolding inside
inside_under lo hi k [] h e i = omega arith
inside_under lo hi k (x ∷ v) h e zero =
    let a = and_both (leb lo x && leb x hi) (inside lo hi v) e in
    let b = and_both (leb lo x) (leb x hi) a.0 in
    omega (arith, leb-true x hi b.1)
inside_under lo hi k (x ∷ v) h e (suc i) =
    inside_under lo hi k v h (and_both (leb lo x && leb x hi) (inside lo hi v) e).1 i

-- a line's greatest number is one of its bits, and its answer is one of those that are asked
abbrev pub tight : Line → Bool
tight t = ltb t.hi (2 ^ t.width) && (eqb t.answer 0 || (eqb t.answer 24 || (eqb t.answer 25 || (eqb t.answer 26 || eqb t.answer 27))))

-- no line is due any answer, and those that are due none have numbers of their bits
pub record Clean (ts : List Line) (vs : List (List ℕ)) : Type 0 where
  pub c0 : fine 0 ts vs ≡ true
  pub c24 : fine 24 ts vs ≡ true
  pub c25 : fine 25 ts vs ≡ true
  pub c26 : fine 26 ts vs ≡ true
  pub c27 : fine 27 ts vs ≡ true

line_inside : (t : Line) (v : List ℕ) → tight t ≡ true → line_ok 0 t v ≡ true → line_ok 24 t v ≡ true → line_ok 25 t v ≡ true → line_ok 26 t v ≡ true → line_ok 27 t v ≡ true
    → Under (2 ^ t.width) v
line_inside t v a z p q r s =
    let b = and_both (ltb t.hi (2 ^ t.width)) _ a in
    inside_under t.lo t.hi (2 ^ t.width) v (ltb-true t.hi (2 ^ t.width) b.0) (go (eqb t.answer 0) (eqb t.answer 24) (eqb t.answer 25) (eqb t.answer 26) refl refl refl refl b.1)
  where
    here : (k : ℕ) → eqb t.answer k ≡ true → line_ok k t v ≡ true → inside t.lo t.hi v ≡ true
    here k e f = sym (if_yes (inside t.lo t.hi v) true e) ∙ f

    go : (w x y u : Bool) → eqb t.answer 0 ≡ w → eqb t.answer 24 ≡ x → eqb t.answer 25 ≡ y → eqb t.answer 26 ≡ u → (w || (x || (y || (u || eqb t.answer 27)))) ≡ true → inside t.lo t.hi v ≡ true
    go true x y u ew ex ey eu h = here 0 ew z
    go false true y u ew ex ey eu h = here 24 ex p
    go false false true u ew ex ey eu h = here 25 ey q
    go false false false true ew ex ey eu h = here 26 eu r
    go false false false false ew ex ey eu h = here 27 h s

pub fits_fill : (ts : List Line) (xs : List ℕ) → length xs ≡ need ts → all tight ts ≡ true → Clean ts (fill ts xs) → Fits ts (fill ts xs)
unfolding fine fill need
fits_fill [] xs n a c = none
fits_fill (t ∷ ts) xs n a c =
    let v = cond t.given (take t.count xs) (replicate t.count t.lo) in
    let vs = fill ts (drop (own t) xs) in
    let b = and_both (tight t) (all tight ts) a in
    let z = and_both (line_ok 0 t v) (fine 0 ts vs) c.c0 in
    let p = and_both (line_ok 24 t v) (fine 24 ts vs) c.c24 in
    let q = and_both (line_ok 25 t v) (fine 25 ts vs) c.c25 in
    let r = and_both (line_ok 26 t v) (fine 26 ts vs) c.c26 in
    let s = and_both (line_ok 27 t v) (fine 27 ts vs) c.c27 in
    line (long t.given refl) (line_inside t v b.0 z.0 p.0 q.0 r.0 s.0)
    (fits_fill ts (drop (own t) xs) (omega (arith, length-drop (own t) xs)) b.1 record { c0 = z.1; c24 = p.1; c25 = q.1; c26 = r.1; c27 = s.1 })
  where
    long : (b : Bool) → t.given ≡ b → length (cond t.given (take t.count xs) (replicate t.count t.lo)) ≡ t.count
    long true e = let o : own t ≡ t.count = if_yes t.count 0 e in rw e (length-take-le t.count xs (omega arith))
    long false e = rw e (length-replicate t.count t.lo)
