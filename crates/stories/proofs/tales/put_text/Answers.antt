-- `stories::tales::put_text`: what its goals need. Assumes nothing.
use mathlib.Core.Path.{◌≡◌, ap, sym, ◌∙◌}
use Prim.Native.Nat.{ℕ, ◌+◌, ◌*◌, ◌-◌}
use native.Mathlib.Omega.{arith}
use lib.ListN.{length, take, drop}
use lib.Seq.{sets}
use Rattle.laws.proofs.Parts.{in_place}
use Rattle.stories.proofs.Texts.{size_brief, text_room, text_is, text_long}
use borrow.Author.Rules.{rules}
use Rattle.stories.proofs.tales.put_text.Goals as goal

pub overflow_add-result : goal.overflow_add-result
overflow_add-result c = let x = c.args in
    let n : length x.p.lengths ≡ 9 = search (rules, c.well_formed) in
    omega (arith, c.size_at-n.ensures, size_brief x.p.lengths x.k c.requires.1 (omega (arith, n, c.requires.0)), c.requires.2)

pub slice_bounds-copy_from_slice-end : goal.slice_bounds-copy_from_slice-end
slice_bounds-copy_from_slice-end c =
    let p = c.args.p in
    let n : length p.lengths ≡ 9 = search (rules, c.well_formed) in
    omega (arith, c.size_at-n.ensures, size_brief p.lengths c.args.k c.requires.1 (omega (arith, n, c.requires.0)), c.requires.2)

pub slice_bounds-copy_from_slice-end-2 : goal.slice_bounds-copy_from_slice-end-2
slice_bounds-copy_from_slice-end-2 c =
    let p = c.args.p in
    let n : length p.lengths ≡ 9 = search (rules, c.well_formed) in
    let m : length p.bytes ≡ 1341 = search (rules, c.well_formed) in
    omega (arith, m, text_room p.lengths c.args.k c.size_at-n.result c.size_at-n.ensures c.requires.1 n c.requires.0)

pub returns : goal.returns
returns c = let x = c.args in
    let p = x.p in
    let n : length p.lengths ≡ 9 = search (rules, c.well_formed) in
    let m : length p.bytes ≡ 1341 = search (rules, c.well_formed) in
    let r = c.size_at-n.result in
    let e = c.size_at-n.ensures in
    let i = text_is p x.k r e in
    let l = text_long p x.k r e (omega (arith, text_room p.lengths x.k r e c.requires.1 n c.requires.0, m)) in
    let t = take (149 * x.k + r - 149 * x.k) (drop (149 * x.k) p.bytes) in record {
      place = ap (λ (y : ℕ). x.to + y) (sym l);
      output = in_place x.out.now t _ x.to (x.to + r - x.to) (omega (arith, ap length i, l)) (omega (arith, ap length i, l, e, size_brief p.lengths x.k c.requires.1 (omega (arith, n, c.requires.0)), c.requires.2)) c.copy_from_slice.ensures.after ∙ ap (sets x.out.now x.to) i;
    }
