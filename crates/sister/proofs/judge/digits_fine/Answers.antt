-- `sister::judge::digits_fine`: what its goals need. Assumes nothing.
use mathlib.Core.Path.{◌≡◌, refl, ap, ◌∙◌}
use mathlib.Core.Bool.{Bool, ◌&&◌}
use mathlib.Core.List.{List, [], ◌∷◌}
use Prim.Native.Nat.{ℕ}
use native.Mathlib.Omega.{arith}
use lib.Dec.{leb}
use borrow.Author.Tests.{le-leb, tests}
use Rattle.std.proofs.lemmas.Iterator.{YieldsList-from_slice}
use Rattle.std.proofs.lemmas.Iterator.Search.{all_from_yields_List}
use Rattle.std.proofs.Common.{rules}
use Rattle.std.specs.List.{list_all}
use Rattle.format.specs.Format.{inside}
use Rattle.sister.proofs.judge.digits_fine.Goals as goal

-- no number is below 0
up_to_nine : (xs : List ℕ) → list_all (λ (x : ℕ). leb x 9) xs ≡ inside 0 9 xs
unfolding inside
up_to_nine [] = refl
up_to_nine (x ∷ xs) = rw (le-leb 0 x (omega arith)) (ap (λ (t : Bool). leb x 9 && t) (up_to_nine xs))

pub returns : goal.returns
returns c = let xs = c.args.xs.now in
    all_from_yields_List (λ (x : ℕ). leb x 9) _ _ _ c.all.ensures.ran (YieldsList-from_slice xs cc) (λ x r q k. search (rules, tests)) ∙ up_to_nine xs
