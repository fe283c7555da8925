-- `stories::take_in`: what its goals need. Assumes nothing.
use mathlib.Core.Path.{sym, ap, ap₂, ◌∙◌}
use mathlib.Core.List.{List}
use Prim.Native.Nat.{ℕ, ◌-◌}
use native.Mathlib.Omega.{arith}
use borrow.Author.Tests.{not-true, not-false}
use lib.ListN.{length, take, drop}
use lib.Seq.{sets}
use Rattle.laws.proofs.Parts.{part_is}
use Rattle.stories.specs.declared.Part.{Part}
use Rattle.stories.specs.Steps.{shown_with, kept_shown, kept_output}
use Rattle.stories.proofs.Heads.{known, belongs_is, body_brief}
use Rattle.stories.proofs.Texts.{copied_front}
use Rattle.stories.proofs.Answers.{taken_28, taken_10, taken_6, taken_alone, taken_part, keepable}
use mathlib.Core.Bool.{not}
use Rattle.stories.proofs.take_in.Goals as goal

pub returns-then-not-is_good : goal.returns-then-not-is_good
returns-then-not-is_good c = let x = c.args in
    let k = taken_28 x.stories x.packet.now x.out.now (sym c.is_good.ensures ∙ not-true _ (ap not c.if-not-is_good.true)) in record {
      answer = c.unshown.ensures ∙ k.0;
      output = k.1;
    }

pub returns-then-out-lt1341 : goal.returns-then-out-lt1341
returns-then-out-lt1341 c = let x = c.args in
    let k = taken_10 x.stories x.packet.now x.out.now (sym c.is_good.ensures ∙ not-false _ (ap not c.if-not-is_good.false)) (omega (arith, c.if-out-lt1341.true)) in record {
      answer = c.unshown-then-out-lt1341.ensures ∙ k.0;
      output = k.1;
    }

pub returns-then-not-is_part : goal.returns-then-not-is_part
returns-then-not-is_part c = let x = c.args in
    let k = taken_6 x.stories x.packet.now x.out.now (sym c.is_good.ensures ∙ not-false _ (ap not c.if-not-is_good.false)) c.if-out-lt1341.false (sym c.is_part.ensures ∙ not-true _ (ap not c.if-not-is_part.true)) in record {
      answer = c.unshown-then-not-is_part.ensures ∙ k.0;
      output = k.1;
    }

pub slice_bounds-copy_from_slice-end : goal.slice_bounds-copy_from_slice-end
slice_bounds-copy_from_slice-end c =
    let p = sym c.is_part.ensures ∙ not-false _ (ap not c.if-not-is_part.false) in
    omega (arith, ap length c.body-body.ensures, body_brief c.args.packet.now p, c.if-out-lt1341.false)

pub returns-then-not-x : goal.returns-then-not-x
returns-then-not-x c = let x = c.args in
    let b = x.packet.now in
    let p = sym c.is_part.ensures ∙ not-false _ (ap not c.if-not-is_part.false) in
    let t = sym (belongs_is b) ∙ ap (λ (y : Part). y.belongs) (sym c.part_of-x.ensures) ∙ not-true _ c.if-not-x.true in
    let e = c.body-body.ensures in
    let k = taken_alone x.stories b x.out.now (sym c.is_good.ensures ∙ not-false _ (ap not c.if-not-is_good.false)) c.if-out-lt1341.false p t in record {
      answer = c.show.ensures ∙ ap₂ (λ (y : Part) (n : ℕ). shown_with y n x.stories) c.part_of-x.ensures (ap length e) ∙ k.0;
      output = copied_front c.body-body.result.now x.out.now _ (omega (arith, ap length e, body_brief b p, c.if-out-lt1341.false)) c.copy_from_slice.ensures.after ∙ ap (sets x.out.now 0) e ∙ k.1;
    }

pub slice_bounds-keep-count : goal.slice_bounds-keep-count
slice_bounds-keep-count c = let b = c.args.packet.now in
    let t = sym (belongs_is b) ∙ ap (λ (y : Part). y.belongs) (sym c.part_of-x.ensures) ∙ not-false _ c.if-not-x.false in
    omega (arith, ap length c.body-body.ensures, (known b t).headed_long)

pub slice_bounds-keep-start : goal.slice_bounds-keep-start
slice_bounds-keep-start c = let b = c.args.packet.now in
    let t = sym (belongs_is b) ∙ ap (λ (y : Part). y.belongs) (sym c.part_of-x.ensures) ∙ not-false _ c.if-not-x.false in
    omega (arith, ap length c.body-body.ensures, (known b t).headed_long)

pub keep-requires : goal.keep-requires
keep-requires c = let x = c.args in
    let b = x.packet.now in
    let u = c.body-body.result.now in
    let t = sym (belongs_is b) ∙ ap (λ (y : Part). y.belongs) (sym c.part_of-x.ensures) ∙ not-false _ c.if-not-x.false in
    keepable x.stories b u (take (length u - 4) (drop 4 u)) c.part_of-x.result (length x.out.now) (sym c.is_good.ensures ∙ not-false _ (ap not c.if-not-is_good.false)) (sym c.is_part.ensures ∙ not-false _ (ap not c.if-not-is_part.false)) t c.part_of-x.ensures c.body-body.ensures (part_is u 4) c.if-out-lt1341.false

pub returns : goal.returns
returns c = let x = c.args in
    let b = x.packet.now in
    let u = c.body-body.result.now in
    let t = sym (belongs_is b) ∙ ap (λ (y : Part). y.belongs) (sym c.part_of-x.ensures) ∙ not-false _ c.if-not-x.false in
    let k = taken_part x.stories b x.out.now (sym c.is_good.ensures ∙ not-false _ (ap not c.if-not-is_good.false)) c.if-out-lt1341.false (sym c.is_part.ensures ∙ not-false _ (ap not c.if-not-is_part.false)) t in
    let e = part_is u 4 ∙ ap (drop 4) c.body-body.ensures in record {
      answer = c.keep.ensures.answer ∙ ap₂ (kept_shown x.stories) c.part_of-x.ensures e ∙ k.0;
      output = c.keep.ensures.output ∙ ap₂ (λ (y : Part) (l : List ℕ). kept_output x.stories y l x.out.now) c.part_of-x.ensures e ∙ k.1;
    }
