-- A test that is known picks its case. Over variables, so that an answer applies them with no rewriting of its goal. Assumes nothing.
use mathlib.Core.Path.{◌≡◌, refl, sym}
use mathlib.Core.Bool.{Bool, true, false, cond, ◌&&◌, ◌||◌, false≢true}

pub and_yes : {a : Bool} (b : Bool) → a ≡ true → (a && b) ≡ b
and_yes b e = rw e

pub and_no : {a : Bool} (b : Bool) → a ≡ false → (a && b) ≡ false
and_no b e = rw e

pub or_yes : {a : Bool} (b : Bool) → a ≡ true → (a || b) ≡ true
or_yes b e = rw e

pub or_no : {a : Bool} (b : Bool) → a ≡ false → (a || b) ≡ b
or_no b e = rw e

module _ {A : Type 0} where
  pub if_yes : {t : Bool} (x y : A) → t ≡ true → cond t x y ≡ x
  if_yes x y e = rw e

  pub if_no : {t : Bool} (x y : A) → t ≡ false → cond t x y ≡ y
  if_no x y e = rw e

-- what a joined test tells of its parts
pub and_left : (a b : Bool) → (a && b) ≡ true → a ≡ true
and_left true b e = refl
and_left false b e = e

pub and_right : (a b : Bool) → (a && b) ≡ true → b ≡ true
and_right true b e = e
and_right false b e = absurd (false≢true e)

pub and_both : (a b : Bool) → (a && b) ≡ true → (a ≡ true) × (b ≡ true)
and_both a b e = (and_left a b e, and_right a b e)

-- and one that fails
pub or_both : (a b : Bool) → (a || b) ≡ false → (a ≡ false) × (b ≡ false)
or_both true b e = absurd (false≢true (sym e))
or_both false b e = (refl, e)
