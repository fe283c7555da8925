-- `join::join`: what its goals need. Assumes nothing.
use Rattle.join.proofs.Bodies.{ready}
use Rattle.join.proofs.Answers.{not_some, not_few, not_parts, not_found, not_stepping, can_join, text_is, as_33, as_10, as_done}
use Rattle.story.specs.Joining.{lent, is_part, found, joinable}
use Rattle.laws.specs.Scan.{all}
use borrow.Author.Tests.{not-true, not-false}
use lib.Seq.{sets}
use lib.ListN.{length}
use native.Mathlib.Omega.{arith}
use Prim.Native.Nat.{◌≤◌}
use mathlib.Core.Bool.{true}
use mathlib.Core.Path.{◌≡◌, refl, sym, ap, ◌∙◌}
use mathlib.Core.Bool.{not}
use Rattle.join.proofs.join.Goals as goal

pub returns-then-n-eq0 : goal.returns-then-n-eq0
returns-then-n-eq0 c = let b = c.args.packets.now in
    let out = c.args.out.now in
    let e = c.count-n.ensures in let all = as_33 b out _ refl (not_some (lent b) (sym e ∙ c.if-n-eq0.true)) in record { answer = all.0; output = all.1 }

pub returns-then-n-gt9 : goal.returns-then-n-gt9
returns-then-n-gt9 c = let b = c.args.packets.now in
    let out = c.args.out.now in
    let e = c.count-n.ensures in
    let some : 1 ≤ length (lent b) = omega (arith, e, c.if-n-eq0.false) in let all = as_33 b out _ refl (not_few (lent b) some (omega (arith, e, c.if-n-gt9.true))) in record { answer = all.0; output = all.1 }

pub returns-then-not-all_parts : goal.returns-then-not-all_parts
returns-then-not-all_parts c = let b = c.args.packets.now in
    let out = c.args.out.now in
    let e = c.count-n.ensures in
    let some : 1 ≤ length (lent b) = omega (arith, e, c.if-n-eq0.false) in
    let few : length (lent b) ≤ 9 = omega (arith, e, c.if-n-gt9.false) in let all = as_33 b out _ refl (not_parts (lent b) some few (sym c.all_parts.ensures ∙ not-true _ (ap not c.if-not-all_parts.true))) in record { answer = all.0; output = all.1 }

pub places-at-requires : goal.places-at-requires
places-at-requires c = (c.if-n-gt9.false, sym c.all_parts.ensures ∙ not-false _ (ap not c.if-not-all_parts.false))

pub all_found-requires : goal.all_found-requires
all_found-requires c = (c.if-n-gt9.false, c.places-at.ensures, sym c.all_parts.ensures ∙ not-false _ (ap not c.if-not-all_parts.false))

pub returns-then-not-all_found : goal.returns-then-not-all_found
returns-then-not-all_found c = let b = c.args.packets.now in
    let out = c.args.out.now in
    let n = c.count-n.result in
    let e = c.count-n.ensures in
    let some : 1 ≤ length (lent b) = omega (arith, e, c.if-n-eq0.false) in
    let few : length (lent b) ≤ 9 = omega (arith, e, c.if-n-gt9.false) in
    let p : all is_part (lent b) ≡ true = sym c.all_parts.ensures ∙ not-false _ (ap not c.if-not-all_parts.false) in let all = as_33 b out _ refl (not_found (lent b) some few n e p (sym c.all_found.ensures ∙ not-true _ (ap not c.if-not-all_found.true))) in record { answer = all.0; output = all.1 }

pub in_step-requires : goal.in_step-requires
in_step-requires c = (omega (arith, c.if-n-eq0.false), ready c.count-n.result c.args.packets.now c.places-at.result c.if-n-gt9.false c.places-at.ensures (sym c.all_found.ensures ∙ not-false _ (ap not c.if-not-all_found.false)))

pub returns-then-not-in_step : goal.returns-then-not-in_step
returns-then-not-in_step c = let b = c.args.packets.now in
    let out = c.args.out.now in
    let n = c.count-n.result in
    let e = c.count-n.ensures in
    let some : 1 ≤ length (lent b) = omega (arith, e, c.if-n-eq0.false) in
    let few : length (lent b) ≤ 9 = omega (arith, e, c.if-n-gt9.false) in
    let p : all is_part (lent b) ≡ true = sym c.all_parts.ensures ∙ not-false _ (ap not c.if-not-all_parts.false) in
    let f : all is_part (found n (lent b) 0 n) ≡ true = sym c.all_found.ensures ∙ not-false _ (ap not c.if-not-all_found.false) in let all = as_33 b out _ refl (not_stepping (lent b) some few n e p f (sym c.in_step.ensures ∙ not-true _ (ap not c.if-not-in_step.true))) in record { answer = all.0; output = all.1 }

pub text_length-m-requires : goal.text_length-m-requires
text_length-m-requires c = ready c.count-n.result c.args.packets.now c.places-at.result c.if-n-gt9.false c.places-at.ensures (sym c.all_found.ensures ∙ not-false _ (ap not c.if-not-all_found.false))

pub returns-then-out-m : goal.returns-then-out-m
returns-then-out-m c = let b = c.args.packets.now in
    let out = c.args.out.now in
    let n = c.count-n.result in
    let e = c.count-n.ensures in
    let some : 1 ≤ length (lent b) = omega (arith, e, c.if-n-eq0.false) in
    let few : length (lent b) ≤ 9 = omega (arith, e, c.if-n-gt9.false) in
    let p : all is_part (lent b) ≡ true = sym c.all_parts.ensures ∙ not-false _ (ap not c.if-not-all_parts.false) in
    let f : all is_part (found n (lent b) 0 n) ≡ true = sym c.all_found.ensures ∙ not-false _ (ap not c.if-not-all_found.false) in
    let j : joinable (lent b) ≡ true = can_join (lent b) some few n e p f (sym c.in_step.ensures ∙ not-false _ (ap not c.if-not-in_step.false)) in
    let m = c.text_length-m.ensures ∙ ap length (text_is b n e) in let all = as_10 b out _ c.text_length-m.result refl j m c.if-out-m.true in record { answer = all.0; output = all.1 }

pub put_texts-requires : goal.put_texts-requires
put_texts-requires c = (ready c.count-n.result c.args.packets.now c.places-at.result c.if-n-gt9.false c.places-at.ensures (sym c.all_found.ensures ∙ not-false _ (ap not c.if-not-all_found.false)), omega (arith, c.text_length-m.ensures, c.if-out-m.false))

pub returns : goal.returns
returns c = let b = c.args.packets.now in
    let out = c.args.out.now in
    let n = c.count-n.result in
    let e = c.count-n.ensures in
    let some : 1 ≤ length (lent b) = omega (arith, e, c.if-n-eq0.false) in
    let few : length (lent b) ≤ 9 = omega (arith, e, c.if-n-gt9.false) in
    let p : all is_part (lent b) ≡ true = sym c.all_parts.ensures ∙ not-false _ (ap not c.if-not-all_parts.false) in
    let f : all is_part (found n (lent b) 0 n) ≡ true = sym c.all_found.ensures ∙ not-false _ (ap not c.if-not-all_found.false) in
    let j : joinable (lent b) ≡ true = can_join (lent b) some few n e p f (sym c.in_step.ensures ∙ not-false _ (ap not c.if-not-in_step.false)) in
    let m = c.text_length-m.ensures ∙ ap length (text_is b n e) in let all = as_done b out _ _ c.text_length-m.result refl j m c.if-out-m.false (c.put_texts.ensures ∙ ap (sets out 0) (text_is b n e)) in record { answer = all.0; output = all.1 }
