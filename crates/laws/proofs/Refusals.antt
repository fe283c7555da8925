-- The law of `first`: a number is answered exactly when its case holds and no case before it does. Assumes nothing.
use mathlib.Core.Path.{◌≡◌, refl, sym, ap, ◌∙◌, subst}
use mathlib.Core.Logic.{◌↔◌, ◌⊎◌, inl, inr, ⊎_elim}
use mathlib.Core.Bool.{Bool, true, false, cond, not, ◌&&◌, true≢false, or-true}
use mathlib.Core.List.{List, [], ◌∷◌}
use Prim.Native.Nat.{ℕ, zero, suc, ◌<◌}
use native.Mathlib.Nat.{not-suc-le-zero, le_of_suc-le-suc}
use native.Mathlib.Omega.{arith}
use borrow.Author.Tests.{eq-eqb, not-true}
use lib.Dec.{eqb}
use lib.ListN.{length, take}
use Rattle.laws.specs.Refusals.{Case, first, none, among, apart, case_at}
use Rattle.laws.proofs.Cases.{if_yes, if_no, and_yes, and_left, and_right, or_yes}

-- the numbers of a list stand in it
at_among : (cs : List Case) (k : ℕ) → k < length cs → among (case_at cs k).1 cs ≡ true
unfolding among
at_among [] k h = absurd (not-suc-le-zero h)
at_among (c ∷ cs) zero h = or_yes (among c.1 cs) (eq-eqb c.1 c.1 refl)
at_among (c ∷ cs) (suc k) h = rw (at_among cs k (le_of_suc-le-suc h), or-true)

-- no number comes but 0 and those of the list
pub listed : (cs : List Case) → (first cs ≡ 0) ⊎ (among (first cs) cs ≡ true)
unfolding first among
listed [] = inl refl
listed (c ∷ cs) = by c.0 refl (listed cs)
  where
    by : (t : Bool) → c.0 ≡ t → (first cs ≡ 0) ⊎ (among (first cs) cs ≡ true) → (cond c.0 c.1 (first cs) ≡ 0) ⊎ (among (cond c.0 c.1 (first cs)) (c ∷ cs) ≡ true)
    by true e l =
        inr (subst (λ (x : ℕ). among x (c ∷ cs) ≡ true) (sym (if_yes c.1 (first cs) e)) (at_among (c ∷ cs) 0 (omega arith)))
    by false e (inl z) = inl (rw e z)
    by false e (inr m) =
        inr (subst (λ (x : ℕ). among x (c ∷ cs) ≡ true) (sym (if_no c.1 (first cs) e)) (rw (m, or-true)))

-- what apart says of the list's head: its number is not 0, and none of the rest has it
not_later : (n : ℕ) (cs : List Case) → (not (eqb n 0) && not (among n cs)) ≡ true → first cs ≡ n → ⊥
not_later n cs a e =
    ⊎_elim
    (λ z. let q : not (eqb n 0) ≡ false = ap not (eq-eqb n 0 (sym e ∙ z)) in
    true≢false (sym (and_left (not (eqb n 0)) (not (among n cs)) a) ∙ q))
    (λ m. let q : not (among n cs) ≡ false = ap not (ap (λ (x : ℕ). among x cs) (sym e) ∙ m) in
    true≢false (sym (and_right (not (eqb n 0)) (not (among n cs)) a) ∙ q))
    (listed cs)

pub due : (cs : List Case) (k : ℕ) → k < length cs → (case_at cs k).0 ≡ true → none (take k cs) ≡ true → first cs ≡ (case_at cs k).1
unfolding first none
due [] k h t n = absurd (not-suc-le-zero h)
due (c ∷ cs) zero h t n = rw t
due (c ∷ cs) (suc k) h t n =
    if_no c.1 (first cs) (not-true c.0 (and_left (not c.0) (none (take k cs)) n))
    ∙ due cs k (le_of_suc-le-suc h) t (and_right (not c.0) (none (take k cs)) n)

pub only_due : (cs : List Case) → apart cs ≡ true → (k : ℕ) → k < length cs → first cs ≡ (case_at cs k).1 → ((case_at cs k).0 ≡ true) × (none (take k cs) ≡ true)
unfolding first none apart
only_due [] a k h e = absurd (not-suc-le-zero h)
only_due (c ∷ cs) a k h e =
    by (only_due cs (and_right (not (eqb c.1 0) && not (among c.1 cs)) (apart cs) a)) c.0 refl k h e
  where
    alone : (not (eqb c.1 0) && not (among c.1 cs)) ≡ true
    alone = and_left (not (eqb c.1 0) && not (among c.1 cs)) (apart cs) a

    by : ((k : ℕ) → k < length cs → first cs ≡ (case_at cs k).1 → ((case_at cs k).0 ≡ true) × (none (take k cs) ≡ true)) → (t : Bool) → c.0 ≡ t → (k : ℕ) → k < length (c ∷ cs) → cond c.0 c.1 (first cs) ≡ (case_at (c ∷ cs) k).1 → ((case_at (c ∷ cs) k).0 ≡ true) × (none (take k (c ∷ cs)) ≡ true)
    by later true t zero h e = (t, refl)
    by later true t (suc k) h e =
        let same : c.1 ≡ (case_at cs k).1 = sym (if_yes c.1 (first cs) t) ∙ e in
        let q : not (among c.1 cs) ≡ false = ap not (ap (λ (x : ℕ). among x cs) same ∙ at_among cs k (le_of_suc-le-suc h)) in
        absurd (true≢false (sym (and_right (not (eqb c.1 0)) (not (among c.1 cs)) alone) ∙ q))
    by later false t zero h e = absurd (not_later c.1 cs alone (sym (if_no c.1 (first cs) t) ∙ e))
    by later false t (suc k) h e =
        let r = later k (le_of_suc-le-suc h) (sym (if_no c.1 (first cs) t) ∙ e) in
        (r.0, and_yes (none (take k cs)) (ap not t) ∙ r.1)

-- the law
pub exact : (cs : List Case) → apart cs ≡ true → (k : ℕ) → k < length cs → (first cs ≡ (case_at cs k).1) ↔ (((case_at cs k).0 ≡ true) × (none (take k cs) ≡ true))
exact cs a k h = (only_due cs a k h, λ d. due cs k h d.0 d.1)

-- 0 is answered exactly when no case holds
pub done : (cs : List Case) → apart cs ≡ true → (first cs ≡ 0) ↔ (none cs ≡ true)
unfolding first none apart
done [] a = (λ e. refl, λ e. refl)
done (c ∷ cs) a = let rest = done cs (and_right (not (eqb c.1 0) && not (among c.1 cs)) (apart cs) a) in (to rest c.0 refl, from rest)
  where
    alone : (not (eqb c.1 0) && not (among c.1 cs)) ≡ true
    alone = and_left (not (eqb c.1 0) && not (among c.1 cs)) (apart cs) a

    to : ((first cs ≡ 0) ↔ (none cs ≡ true)) → (t : Bool) → c.0 ≡ t → cond c.0 c.1 (first cs) ≡ 0 → (not c.0 && none cs) ≡ true
    to rest true t e =
        let q : not (eqb c.1 0) ≡ false = ap not (eq-eqb c.1 0 (sym (if_yes c.1 (first cs) t) ∙ e)) in
        absurd (true≢false (sym (and_left (not (eqb c.1 0)) (not (among c.1 cs)) alone) ∙ q))
    to rest false t e = and_yes (none cs) (ap not t) ∙ rest.0 (sym (if_no c.1 (first cs) t) ∙ e)

    from : ((first cs ≡ 0) ↔ (none cs ≡ true)) → (not c.0 && none cs) ≡ true → cond c.0 c.1 (first cs) ≡ 0
    from rest n = if_no c.1 (first cs) (not-true c.0 (and_left (not c.0) (none cs) n)) ∙ rest.1 (and_right (not c.0) (none cs) n)

-- what code asks of its tests, one after the other: a test that holds gives its number, one that doesn't is passed
pub stop : {t : Bool} (n : ℕ) (cs : List Case) → t ≡ true → first ((t, n) ∷ cs) ≡ n
unfolding first
stop n cs e = if_yes n (first cs) e

pub pass : {t : Bool} (n : ℕ) (cs : List Case) → t ≡ false → first ((t, n) ∷ cs) ≡ first cs
unfolding first
pass n cs e = if_no n (first cs) e

pub none_left : first [] ≡ 0
unfolding first
none_left = refl

-- an answer of 0 passed every case: the first does not hold, and the rest answers 0
pub not_due : (t : Bool) (n : ℕ) (cs : List Case) → (n ≡ 0 → ⊥) → first ((t, n) ∷ cs) ≡ 0 → (t ≡ false) × (first cs ≡ 0)
unfolding first
not_due true n cs h e = absurd (h e)
not_due false n cs h e = (refl, e)
