-- `stories::tales::with_text`: what its goals need. Assumes nothing.
use mathlib.Core.Path.{◌≡◌, ap}
use mathlib.Core.List.{List}
use Prim.Native.Nat.{ℕ, ◌+◌}
use native.Mathlib.Omega.{arith}
use lib.ListN.{length, set}
use Rattle.stories.proofs.Texts.{text_kept}
use borrow.Author.Rules.{rules}
use Rattle.stories.proofs.tales.with_text.Goals as goal

pub slice_bounds-copy_from_slice-end : goal.slice_bounds-copy_from_slice-end
slice_bounds-copy_from_slice-end c = let m : length c.args.p.bytes ≡ 1341 = search (rules, c.well_formed) in
    omega (arith, m, c.requires.0)

pub returns : goal.returns
returns c = let p = c.args.p in
    let m : length p.bytes ≡ 1341 = search (rules, c.well_formed) in
    ap (λ (b : List ℕ). record { held = p.held; number = p.number; total = p.total; lengths = set p.lengths c.args.k (4 + length c.args.text.now); bytes = b })
    (text_kept p.bytes c.args.text.now _ c.args.k m c.requires.0 c.requires.1 c.copy_from_slice.ensures.after)
