-- `collector::copy`: what its goals need. Assumes nothing.
use mathlib.Core.Path.{◌≡◌, sym, ap, subst, ◌∙◌}
use mathlib.Core.Bool.{true}
use Prim.Native.Nat.{ℕ, ◌≤◌}
use native.Mathlib.Omega.{arith}
use lib.ListN.{length, get_or, length-map}
use Rattle.laws.proofs.Elements.{length_mapped}
use Rattle.collector.specs.Places.{blank}
use Rattle.collector.proofs.Calls.{copy_none, copy_held}
use Rattle.collector.proofs.AllPlaces.{good_at, total_small, is_held_lem, is_not_held}
use Rattle.laws.proofs.Cases.{and_both}
use Rattle.collector.specs.declared.Place.{Place}
use Rattle.collector.specs.Layout.{tops_clear, as_place, as_collector}
use Rattle.collector.proofs.Seen.{seen_at, copy_bad, copy_seen}
use borrow.Author.Rules.{rules}
use Rattle.collector.proofs.copy.Goals as goal

pub returns-then-not-is_good : goal.returns-then-not-is_good
returns-then-not-is_good c = let all = copy_bad _ (sym c.is_good.ensures ∙ c.if-not-is_good.true) _ _ _ in record { value = all.0; bytes = all.1 }

pub copy_out-requires : goal.copy_out-requires
copy_out-requires c = let a = c.args in
    let ps = a.collector.places in
    let d = as_collector a.collector in
    let n : length ps ≡ 4 = search (rules, length_mapped) in
    let m = length-map ps as_place in
    let e = c.in-Some.ensures.0 in
    let g = (and_both (tops_clear a.collector) _ (sym c.is_good.ensures ∙ c.if-not-is_good.false)).1 in
    let i = c.in-Some.i in
    let at = seen_at ps i _ (omega (arith, n, c.in-Some.ensures.1)) in
    let held : (get_or d.places i blank).held ≡ true =
    ap (λ (k : ℕ). (get_or d.places k blank).held) e ∙ is_held_lem d.places a.level a.version (omega (arith, e, c.in-Some.ensures.1)) in
    let small = total_small (get_or d.places i blank) (good_at d.places i blank (omega (arith, c.in-Some.ensures.1)) g) held in
    subst (λ (p : Place). (p.held ≡ true) × (p.total.0 ≤ 63)) at (held, small)

pub returns-in-Some : goal.returns-in-Some
returns-in-Some c = let a = c.args in
    let ps = a.collector.places in
    let d = as_collector a.collector in
    let n : length ps ≡ 4 = search (rules, length_mapped) in
    let i = c.in-Some.i in
    let at = seen_at ps i _ (omega (arith, n, c.in-Some.ensures.1)) in
    let g = and_both (tops_clear a.collector) _ (sym c.is_good.ensures ∙ c.if-not-is_good.false) in
    let w = copy_held d a.level a.version a.out.now g.1 _ (sym at ∙ ap (λ (k : ℕ). get_or d.places k blank) c.in-Some.ensures.0) in let all = copy_seen a.collector g.0 a.level a.version a.out.now _ _ (c.copy_out.ensures.value ∙ w.0, c.copy_out.ensures.bytes ∙ w.1) in record { value = all.0; bytes = all.1 }

pub returns-in-None : goal.returns-in-None
returns-in-None c = let a = c.args in
    let d = as_collector a.collector in
    let n : length a.collector.places ≡ 4 = search (rules, length_mapped) in
    let m = length-map a.collector.places as_place in
    let g = and_both (tops_clear a.collector) _ (sym c.is_good.ensures ∙ c.if-not-is_good.false) in let all = copy_seen a.collector g.0 _ _ _ _ _ (copy_none d _ _ _ g.1 (is_not_held d.places _ _ (omega (arith, c.in-None.ensures)))) in record { value = all.0; bytes = all.1 }
