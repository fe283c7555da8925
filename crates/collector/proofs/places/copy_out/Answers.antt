-- `collector::places::copy_out`: what its goals need. Assumes nothing.
use mathlib.Core.Path.{◌≡◌, sym, ap, ◌∙◌}
use mathlib.Core.Bool.{true}
use mathlib.Core.List.{List, ◌++◌}
use Prim.Native.Nat.{ℕ}
use native.Mathlib.Omega.{arith}
use lib.ListN.{length, drop}
use Rattle.collector.specs.Places.{state, whole}
use Rattle.collector.proofs.OnePlace.{whole_is, not_whole, copy_18, copy_10, copy_0, within, size_here, taken_here}
use Rattle.collector.specs.declared.Kept.TheVariants as pair
use Rattle.collector.proofs.Told.{is_kept, is_other}
use Rattle.collector.specs.Layout.{as_place}
use borrow.Author.Tests.{not-true, not-false}
use borrow.Author.Rules.{rules}
use Rattle.collector.proofs.places.copy_out.Goals as goal

pub returns-then-ne : goal.returns-then-ne
returns-then-ne c = let all = copy_18 _ _ (not_whole _ (λ (e : state (as_place c.args.p) ≡ 1). is_other _ pair.Whole (not-true _ (sym c.ne.ensures ∙ c.if-ne.true)) (c.state_of.ensures ∙ e))) in record { value = all.0; bytes = all.1 }

pub returns-then-out-n : goal.returns-then-out-n
returns-then-out-n c = let h = c.args.p in
    let p = as_place h in
    let n : length h.bytes ≡ 252 = search rules in
    let w : whole p ≡ true = whole_is p (sym c.state_of.ensures ∙ is_kept _ pair.Whole (not-false _ (sym c.ne.ensures ∙ c.if-ne.false))) in let all = copy_10 p _ c.requires.0 w (omega (arith, c.if-out-n.true, c.packet_size-n.ensures, size_here p n c.requires.1 w)) in record { value = all.0; bytes = all.1 }

pub write_out-requires : goal.write_out-requires
write_out-requires c = let h = c.args.p in
    let p = as_place h in
    let n : length h.bytes ≡ 252 = search rules in
    let w : whole p ≡ true = whole_is p (sym c.state_of.ensures ∙ is_kept _ pair.Whole (not-false _ (sym c.ne.ensures ∙ c.if-ne.false))) in
    (omega (arith, c.packet_size-n.ensures, size_here p n c.requires.1 w, within p n c.requires.1 w, c.requires.1), omega (arith, c.if-out-n.false))

pub returns : goal.returns
returns c = let h = c.args.p in
    let p = as_place h in
    let n : length h.bytes ≡ 252 = search rules in
    let w : whole p ≡ true = whole_is p (sym c.state_of.ensures ∙ is_kept _ pair.Whole (not-false _ (sym c.ne.ensures ∙ c.if-ne.false))) in
    let e = c.packet_size-n.ensures ∙ size_here p n c.requires.1 w in let all = copy_0 p _ c.requires.0 w _ _ e (omega (arith, c.if-out-n.false)) (c.write_out.ensures ∙ ap (λ (l : List ℕ). l ++ drop c.packet_size-n.result c.args.out.now) (taken_here p n c.requires.1 w _ e)) in record { value = all.0; bytes = all.1 }
