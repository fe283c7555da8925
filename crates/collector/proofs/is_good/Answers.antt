-- `collector::is_good`: what its goals need. Assumes nothing.
use Rattle.std.proofs.Common.{◌≡◌, ◌-◌, ◌+◌, map, length, take, drop, sym, ap, ◌∙◌, arith, rules, length-drop}
use lib.Seq.{take_all, drop-length}
use Rattle.laws.specs.Scan.{all}
use Rattle.laws.proofs.Cases.{and_yes, and_no}
use Rattle.collector.specs.Layout.{as_place}
use Rattle.collector.specs.Collector.{good}
use Rattle.collector.proofs.AllPlaces.{good_turn}
use Rattle.collector.proofs.is_good.Goals as goal
use Rattle.collector.proofs.is_good.Goals.{then-not-is_fair-via-then-not-is_fair, then-not-is_fair-via-else-not-is_fair+then-not-alone}

pub returns-then-not-is_fair : goal.returns-then-not-is_fair
returns-then-not-is_fair c =
    let ps = c.args.c.places in
    let n : length ps ≡ 4 = search rules in
    let i = c.loop-i.i in
    let rest : take (length ps - (i + 1)) (drop (i + 1) ps) ≡ drop (i + 1) ps = take_all (length ps - (i + 1)) (drop (i + 1) ps) (omega (arith, length-drop (i + 1) ps)) in
    elim c.then-not-is_fair.branch [
      | then-not-is_fair-via-then-not-is_fair w ↦
          sym (and_yes _ c.loop-i.invariant.0 ∙ c.loop-i.invariant.1 ∙ good_turn ps i _ (omega (arith, n)) ∙ and_no _ (sym c.is_fair.ensures ∙ w.if-not-is_fair.true))
      | then-not-is_fair-via-else-not-is_fair+then-not-alone w ↦
          sym
          (and_yes _ c.loop-i.invariant.0
          ∙ c.loop-i.invariant.1
          ∙ good_turn ps i _ (omega (arith, n))
          ∙ and_yes _ (sym c.is_fair.ensures ∙ w.if-not-is_fair.false)
          ∙ and_no _ (ap (all _) (sym rest) ∙ sym w.alone.ensures ∙ w.if-not-alone.true))
    ]

pub loop-i-preserved : goal.loop-i-preserved
loop-i-preserved c =
    let ps = c.args.c.places in
    let n : length ps ≡ 4 = search rules in
    let i = c.loop-i.i in
    let rest : take (length ps - (i + 1)) (drop (i + 1) ps) ≡ drop (i + 1) ps = take_all (length ps - (i + 1)) (drop (i + 1) ps) (omega (arith, length-drop (i + 1) ps)) in (
      c.loop-i.invariant.0,
      c.loop-i.invariant.1
          ∙ good_turn ps i _ (omega (arith, n))
          ∙ and_yes _ (sym c.is_fair.ensures ∙ c.if-not-is_fair.false)
          ∙ and_yes _ (ap (all _) (sym rest) ∙ sym c.alone.ensures ∙ c.if-not-alone.false),
    )

pub returns : goal.returns
unfolding good
returns c =
    let ps = c.args.c.places in
    let n : c.loop-i.i ≡ length ps = omega arith in
    sym (and_yes _ c.loop-i.invariant.0 ∙ c.loop-i.invariant.1 ∙ ap (λ i. good (map as_place (drop i ps))) n ∙ ap (λ l. good (map as_place l)) (drop-length ps))
