-- Whose refusal is answered, in what order, and what it leaves. Assumes nothing.
use mathlib.Core.Path.{◌≡◌, refl, sym, ap}
use mathlib.Core.Bool.{true, false}
use mathlib.Core.List.{List}
use Prim.Native.Nat.{ℕ, ◌<◌, ◌≤◌}
use lib.ListN.{length}
use borrow.Author.Tests.{ne_eqb}
use Rattle.laws.proofs.Cases.{if_no}
use Rattle.std.specs.Prelude.{Result, Ok, Err}
use Rattle.refusal.specs.declared.Refusal.{Refusal}
use Rattle.refusal.proofs.Numbers.{some_number, same_number}
use Rattle.shelf.specs.Shelf.{shelf_answer}
use Rattle.compare.specs.declared.Unlisted.{Unlisted}
use Rattle.compare.specs.declared.Unlisted.TheVariants as unlisted
use Rattle.compare.specs.Compare.{room, compare_answer, right_refused, Compared, told, no_room, compared, compared_into}
use Rattle.compare.proofs.Answers.{left_is, right_is, short_is, done_is}

-- left's refusal, else right's, else 10 for too little memory, else 0; each with the shelf that it is of
pub record InOrder (l r out : List ℕ) : Type 0 where
  pub left_first : (shelf_answer l ≡ 0 → ⊥) → (compare_answer l r out ≡ shelf_answer l) × (right_refused l r ≡ false)
  pub then_right : shelf_answer l ≡ 0 → (shelf_answer r ≡ 0 → ⊥) → (compare_answer l r out ≡ shelf_answer r) × (right_refused l r ≡ true)
  pub then_room : shelf_answer l ≡ 0 → shelf_answer r ≡ 0 → length out < room → (compare_answer l r out ≡ 10) × (right_refused l r ≡ false)
  pub else_done : shelf_answer l ≡ 0 → shelf_answer r ≡ 0 → room ≤ length out → (compare_answer l r out ≡ 0) × (right_refused l r ≡ false)

pub in_order : (l r out : List ℕ) → InOrder l r out
in_order l r out = record {
  left_first = left_is l r out;
  then_right = right_is l r out;
  then_room = short_is l r out;
  else_done = done_is l r out;
}

pub refused_unchanged : (l r out : List ℕ) → (compare_answer l r out ≡ 0 → ⊥) → ((compared l r out).length ≡ 0) × (compared_into l r out ≡ out)
unfolding compared compared_into
refused_unchanged l r out h = let e = ne_eqb (compare_answer l r out) 0 h in (if_no _ _ e, if_no _ _ e)

two_sides : false ≡ true → ⊥
two_sides e = absurd (cc)

-- The three that are told, and whether the output is what is refused, name one result.
pub one_listed : (a b : Result ℕ Unlisted) → told a ≡ told b → no_room a ≡ no_room b → a ≡ b
one_listed (Ok x) (Ok y) e f = ap Ok (ap (λ (c : Compared). c.length) e)
one_listed (Ok x) (Err (unlisted.Left d)) e f = absurd (some_number d (sym (ap (λ (c : Compared). c.answer) e)))
one_listed (Ok x) (Err (unlisted.Right d)) e f = absurd (some_number d (sym (ap (λ (c : Compared). c.answer) e)))
one_listed (Ok x) (Err unlisted.Room) e f = absurd (cc)
one_listed (Err (unlisted.Left d)) (Ok y) e f = absurd (some_number d (ap (λ (c : Compared). c.answer) e))
one_listed (Err (unlisted.Left d)) (Err (unlisted.Left g)) e f = ap (λ (x : Refusal). Err (unlisted.Left x)) (same_number d g (ap (λ (c : Compared). c.answer) e))
one_listed (Err (unlisted.Left d)) (Err (unlisted.Right g)) e f = absurd (two_sides (ap (λ (c : Compared). c.right) e))
one_listed (Err (unlisted.Left d)) (Err unlisted.Room) e f = absurd (cc)
one_listed (Err (unlisted.Right d)) (Ok y) e f = absurd (some_number d (ap (λ (c : Compared). c.answer) e))
one_listed (Err (unlisted.Right d)) (Err (unlisted.Left g)) e f = absurd (two_sides (sym (ap (λ (c : Compared). c.right) e)))
one_listed (Err (unlisted.Right d)) (Err (unlisted.Right g)) e f = ap (λ (x : Refusal). Err (unlisted.Right x)) (same_number d g (ap (λ (c : Compared). c.answer) e))
one_listed (Err (unlisted.Right d)) (Err unlisted.Room) e f = absurd (cc)
one_listed (Err unlisted.Room) (Ok y) e f = absurd (cc)
one_listed (Err unlisted.Room) (Err (unlisted.Left g)) e f = absurd (cc)
one_listed (Err unlisted.Room) (Err (unlisted.Right g)) e f = absurd (cc)
one_listed (Err unlisted.Room) (Err unlisted.Room) e f = refl
