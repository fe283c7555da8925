-- `collector::release`: what its goals need. Assumes nothing.
use mathlib.Core.Path.{◌≡◌, sym, ap, ◌∙◌}
use Prim.Native.Nat.{ℕ, ◌^◌}
use native.Mathlib.Omega.{arith}
use lib.ListN.{length, get_or, length-map}
use lib.Dec.{ltb}
use Rattle.laws.proofs.Elements.{length_mapped, all_at}
use Rattle.collector.specs.declared.Collector.{Collector}
use Rattle.collector.specs.declared.Place.{Place}
use Rattle.collector.specs.Places.{freed, blank}
use Rattle.collector.proofs.Calls.{release_18, release_0}
use Rattle.collector.proofs.AllPlaces.{is_held_lem, is_not_held}
use Rattle.collector.specs.Collector.{put}
use Rattle.laws.proofs.Cases.{and_both}
use Rattle.collector.specs.Layout.{top_clear, tops_clear, as_place, as_collector}
use Rattle.collector.proofs.Seen.{seen_at, release_bad, release_seen}
use borrow.Author.Rules.{rules}
use Rattle.collector.proofs.release.Goals as goal

pub returns-then-not-is_good : goal.returns-then-not-is_good
returns-then-not-is_good c = release_bad _ (sym c.is_good.ensures ∙ c.if-not-is_good.true) _ _

pub put_place-requires : goal.put_place-requires
put_place-requires c = let h = c.args.collector in
    let n : length h.places ≡ 4 = search (rules, length_mapped) in
    let g = and_both (tops_clear h) _ (sym c.is_good.ensures ∙ c.if-not-is_good.false) in
    (ap (λ (m : ℕ). ltb m (2 ^ 63)) c.make_free-freed.ensures.top ∙ all_at top_clear h.places c.in-Some.i _ g.0 (omega (arith, n, c.in-Some.ensures.1)), g.0)

pub returns-in-Some : goal.returns-in-Some
returns-in-Some c = let h = c.args.collector in
    let d = as_collector h in
    let i = c.in-Some.i in
    let n : length h.places ≡ 4 = search (rules, length_mapped) in
    let m = length-map h.places as_place in
    let e = c.in-Some.ensures.0 in
    let at = seen_at h.places i _ (omega (arith, n, c.in-Some.ensures.1)) in
    let g = and_both (tops_clear h) _ (sym c.is_good.ensures ∙ c.if-not-is_good.false) in
    release_seen h g.0 _ _ _ c.put_place.ensures.top
    (ap (λ (r : Collector). record { answer = 0; collector = r }) (c.put_place.ensures.result_value ∙ ap (λ (q : Place). put d i q) (c.make_free-freed.ensures.result_value ∙ ap freed (sym at)))
    ∙ ap (λ (k : ℕ). record { answer = 0; collector = put d k (freed (get_or d.places k blank)) }) e
    ∙ release_0 d _ _ g.1 (is_held_lem d.places _ _ (omega (arith, e, c.in-Some.ensures.1))))

pub returns-in-None : goal.returns-in-None
returns-in-None c = let h = c.args.collector in
    let d = as_collector h in
    let n : length h.places ≡ 4 = search (rules, length_mapped) in
    let m = length-map h.places as_place in
    let g = and_both (tops_clear h) _ (sym c.is_good.ensures ∙ c.if-not-is_good.false) in
    release_seen h g.0 _ _ _ g.0 (release_18 d _ _ g.1 (is_not_held d.places _ _ (omega (arith, c.in-None.ensures))))
