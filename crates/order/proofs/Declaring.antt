-- What a place is declared follows from the four bytes that it holds at each number. Assumes nothing.
use mathlib.Core.Path.{◌≡◌, refl, sym, ap, ap₂, ◌∙◌}
use mathlib.Core.List.{List, [], ◌∷◌, ◌++◌}
use mathlib.Core.Option.{Option, none, some}
use mathlib.Core.Bool.{Bool, true, false, cond, not, ◌&&◌}
use Prim.Native.Nat.{ℕ, zero, suc, ◌+◌, ◌*◌, ◌≤◌, ◌<◌}
use native.Mathlib.Omega.{arith}
use lib.ListN.{length, get_or, take, drop}
use lib.Seq.{take-add, drop-cons}
use Rattle.laws.specs.Below.{below}
use Rattle.laws.specs.Refusals.{first}
use Rattle.laws.proofs.Below.{at_each}
use Rattle.laws.proofs.Cases.{if_yes, and_no}
use Rattle.laws.proofs.Elements.{by_test}
use Rattle.frame.specs.declared.Total.{Total}
use Rattle.frame.specs.declared.Number.{Number}
use Rattle.collector.specs.declared.Place.{Place}
use Rattle.collector.specs.Whole.{passes}
use Rattle.collector.proofs.Marks.{bytes_long}
use Rattle.collector.specs.Places.{marked, complete, shaped, joined, whole, spoiled, state}
use Rattle.order.specs.Held.{Four, bytes_at, four_at}
use Rattle.order.specs.Given.{is_some, full, bytes_of, joined_to, joined_by, declare_cases}

-- ---- marks
some_when : {A : Type 0} (b : Bool) (x : A) → is_some (cond b (some x) none) ≡ b
some_when true x = refl
some_when false x = refl

pub four_marked : (p : Place) (n : Number) → is_some (four_at p n) ≡ marked p n
unfolding four_at
four_marked p n = some_when (marked p n) (bytes_at p n)

pub marked_four : (p : Place) (n : Number) → marked p n ≡ true → four_at p n ≡ some (bytes_at p n)
unfolding four_at
marked_four p n e = if_yes (some (bytes_at p n)) none e

-- ---- what is said of every number below the total, and the bytes joined, by what stands at each number
pub below_alike : (t : ℕ) (f g : ℕ → Bool) → ((n : ℕ) → f n ≡ g n) → below t f ≡ below t g
unfolding below
below_alike zero f g e = refl
below_alike (suc t) f g e = ap₂ ◌&&◌ (e t) (below_alike t f g e)

pub joined_alike : (t : ℕ) (f g : Number → Option Four) → ((n : Number) → f n ≡ g n) → joined_to t f ≡ joined_to t g
unfolding joined_to
joined_alike zero f g e = refl
joined_alike (suc t) f g e =
    ap₂ (λ (a : List ℕ) (o : Option Four). a ++ bytes_of o) (joined_alike t f g e) (e (record { 0 = t }))

pub full_alike : (t : Total) (f g : Number → Option Four) → ((n : Number) → f n ≡ g n) → full t f ≡ full t g
unfolding full
full_alike t f g e =
    below_alike t.0 (λ n. is_some (f (record { 0 = n }))) (λ n. is_some (g (record { 0 = n }))) (λ n. ap is_some (e (record { 0 = n })))

pub declare_alike : (t : Total) (f g : Number → Option Four) → ((n : Number) → f n ≡ g n) → declare_cases t f ≡ declare_cases t g
unfolding declare_cases
declare_alike t f g e =
    ap₂ (λ (b : Bool) (l : List ℕ). (b && not (passes l), 17) ∷ (b && passes l, 1) ∷ [])
    (full_alike t f g e)
    (joined_alike t.0 f g e)

-- ---- a place
four_taken : (b : List ℕ) (k : ℕ) → k + 4 ≤ length b → take 4 (drop k b) ≡ get_or b k 0 ∷ get_or b (k + 1) 0 ∷ get_or b (k + 2) 0 ∷ get_or b (k + 3) 0 ∷ []
four_taken b k h =
    let k₁ : suc k ≡ k + 1 = omega arith in
    let k₂ : suc (k + 1) ≡ k + 2 = omega arith in
    let k₃ : suc (k + 2) ≡ k + 3 = omega arith in
    ap (take 4) (drop-cons b k 0 (omega arith))
    ∙ ap (λ (n : ℕ). get_or b k 0 ∷ take 3 (drop n b)) k₁
    ∙ ap (λ (l : List ℕ). get_or b k 0 ∷ take 3 l) (drop-cons b (k + 1) 0 (omega arith))
    ∙ ap (λ (n : ℕ). get_or b k 0 ∷ get_or b (k + 1) 0 ∷ take 2 (drop n b)) k₂
    ∙ ap (λ (l : List ℕ). get_or b k 0 ∷ get_or b (k + 1) 0 ∷ take 2 l) (drop-cons b (k + 2) 0 (omega arith))
    ∙ ap (λ (n : ℕ). get_or b k 0 ∷ get_or b (k + 1) 0 ∷ get_or b (k + 2) 0 ∷ take 1 (drop n b)) k₃
    ∙ ap (λ (l : List ℕ). get_or b k 0 ∷ get_or b (k + 1) 0 ∷ get_or b (k + 2) 0 ∷ take 1 l) (drop-cons b (k + 3) 0 (omega arith))

module _ (p : Place) (s : shaped p ≡ true) (t : p.total.0 ≤ 63) where
  pub complete_full : complete p ≡ full p.total (four_at p)
  unfolding complete full
  complete_full =
      below_alike p.total.0 (λ n. marked p (record { 0 = n })) (λ n. is_some (four_at p (record { 0 = n }))) (λ n. sym (four_marked p (record { 0 = n })))

  joined_upto : (k : ℕ) → k ≤ p.total.0 → ((n : ℕ) → n < k → marked p (record { 0 = n }) ≡ true) → take (k * 4) p.bytes ≡ joined_to k (four_at p)
  unfolding joined_to
  joined_upto zero h m = refl
  joined_upto (suc k) h m =
      let e : suc k * 4 ≡ k * 4 + 4 = omega arith in
      let l = bytes_long p s in
      ap (λ (n : ℕ). take n p.bytes) e
      ∙ take-add (k * 4) 4 p.bytes
      ∙ ap₂ (λ (a b : List ℕ). a ++ b) (joined_upto k (omega arith) (λ n w. m n (omega arith)))
      (four_taken p.bytes (k * 4) (omega arith) ∙ sym (ap bytes_of (marked_four p (record { 0 = k }) (m k (omega arith)))))

  marks_set : complete p ≡ true → (n : ℕ) → n < p.total.0 → marked p (record { 0 = n }) ≡ true
  unfolding complete
  marks_set e n h = at_each p.total.0 (λ k. marked p (record { 0 = k })) e n h

  pub joined_full : complete p ≡ true → joined p ≡ joined_by p.total (four_at p)
  joined_full e = joined_upto p.total.0 (omega arith) (marks_set e)

  -- the pair's state, from what is held at each number
  pub state_declared : state p ≡ first (declare_cases p.total (four_at p))
  unfolding state spoiled whole declare_cases
  state_declared =
      ap first
      (by_test (complete p)
      (λ e.
      ap₂ (λ (b : Bool) (l : List ℕ). (b && not (passes l), 17) ∷ (b && passes l, 1) ∷ []) complete_full (joined_full e))
      (λ e.
      let f = sym complete_full ∙ e in
      ap₂ (λ (a b : Bool). (a, 17) ∷ (b, 1) ∷ [])
      (and_no _ e ∙ sym (and_no _ f)) (and_no _ e ∙ sym (and_no _ f))))
