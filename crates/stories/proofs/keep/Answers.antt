-- `stories::keep`: what its goals need. Assumes nothing.
use mathlib.Core.Path.{◌≡◌, sym, ap, ap₂, ◌∙◌}
use Prim.Native.Nat.{ℕ}
use native.Mathlib.Omega.{arith}
use borrow.Author.Tests.{not-true, not-false}
use lib.ListN.{length}
use lib.Seq.{sets}
use Rattle.laws.proofs.Elements.{length_mapped}
use Rattle.stories.specs.declared.Tale.{Tale}
use Rattle.stories.specs.declared.Stories.{Stories}
use Rattle.stories.specs.Tales.{fair, is_whole, whole_text}
use Rattle.stories.specs.Steps.{unshown_with, shown_with}
use Rattle.stories.proofs.Keeping.{found_fair, leaves_below, repeat_is, after_is, after_steady, kept_is, kept_5, kept_4, kept_1}
use borrow.Author.Rules.{rules}
use mathlib.Core.Bool.{not}
use Rattle.stories.proofs.keep.Goals as goal

pub repeats-requires : goal.repeats-requires
repeats-requires c = (omega (arith, c.requires.place_small), ap fair c.find-at.ensures.1 ∙ found_fair c.args.x c.args.s.tales c.requires.every)

pub returns-then-repeats : goal.returns-then-repeats
returns-then-repeats c = let x = c.args in
    let k = kept_5 x.s x.x x.text.now x.out.now (sym (repeat_is x.s x.x x.text.now c.find-at.result.1 c.find-at.ensures.1) ∙ sym c.repeats.ensures ∙ c.if-repeats.true) in record {
      answer = c.unshown.ensures ∙ k.0;
      output = k.1;
    }

pub open-requires : goal.open-requires
open-requires c = (c.requires.place_small, ap fair c.find-at.ensures.1 ∙ found_fair c.args.x c.args.s.tales c.requires.every)

pub with_text-q-requires : goal.with_text-q-requires
with_text-q-requires c = (c.requires.place_small, c.requires.brief)

pub move_last-d-requires : goal.move_last-d-requires
move_last-d-requires c = let n : length c.args.s.tales ≡ 4 = search (rules, length_mapped, c.well_formed.0) in
    omega (arith, c.find-at.ensures.0, leaves_below c.args.x c.args.s.tales n)

pub is_whole-requires : goal.is_whole-requires
is_whole-requires c = let x = c.args in
    let p = c.requires in
    (after_steady x.s x.x x.text.now c.find-at.result.1 c.find-at.ensures.1 p.every p.total_few p.brief c.«open».result c.with_text-q.result c.«open».ensures c.with_text-q.ensures).few

pub returns-then-not-is_whole : goal.returns-then-not-is_whole
returns-then-not-is_whole c = let x = c.args in
    let t = x.text.now in
    let f = c.find-at.result.1 in
    let e = c.find-at.ensures in
    let q = after_is x.s x.x t f e.1 c.«open».result c.with_text-q.result c.«open».ensures c.with_text-q.ensures in
    let d = kept_is x.s c.move_last-d.result x.x t c.find-at.result.0 c.with_text-q.result c.move_last-d.ensures e.0 q in
    let r = sym (repeat_is x.s x.x t f e.1) ∙ sym c.repeats.ensures ∙ c.if-repeats.false in
    let k = kept_4 x.s x.x t x.out.now r (ap is_whole (sym q) ∙ sym c.is_whole.ensures ∙ not-true _ (ap not c.if-not-is_whole.true)) in record {
      answer = c.unshown-then-not-is_whole.ensures ∙ ap (unshown_with 4) d ∙ k.0;
      output = k.1;
    }

pub put_texts-n-requires : goal.put_texts-n-requires
put_texts-n-requires c = let x = c.args in
    let p = c.requires in
    (after_steady x.s x.x x.text.now c.find-at.result.1 c.find-at.ensures.1 p.every p.total_few p.brief c.«open».result c.with_text-q.result c.«open».ensures c.with_text-q.ensures, p.wide)

pub returns : goal.returns
returns c = let x = c.args in
    let t = x.text.now in
    let f = c.find-at.result.1 in
    let e = c.find-at.ensures in
    let q = after_is x.s x.x t f e.1 c.«open».result c.with_text-q.result c.«open».ensures c.with_text-q.ensures in
    let d = kept_is x.s c.move_last-d.result x.x t c.find-at.result.0 c.with_text-q.result c.move_last-d.ensures e.0 q in
    let r = sym (repeat_is x.s x.x t f e.1) ∙ sym c.repeats.ensures ∙ c.if-repeats.false in
    let k = kept_1 x.s x.x t x.out.now r (ap is_whole (sym q) ∙ sym c.is_whole.ensures ∙ not-false _ (ap not c.if-not-is_whole.false)) in record {
      answer = c.show.ensures ∙ ap₂ (λ (n : ℕ) (y : Stories). shown_with x.x n y) (c.put_texts-n.ensures.size ∙ ap (λ (p : Tale). length (whole_text p)) q) d ∙ k.0;
      output = c.put_texts-n.ensures.output ∙ ap (λ (p : Tale). sets x.out.now 0 (whole_text p)) q ∙ k.1;
    }
