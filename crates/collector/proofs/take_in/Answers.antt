-- `collector::take_in`: what its goals need. Assumes nothing.
use mathlib.Core.Path.{◌≡◌, sym, ap, ◌∙◌}
use Prim.Native.Nat.{ℕ}
use native.Mathlib.Omega.{arith}
use lib.ListN.{length, get_or, length-map}
use Rattle.std.specs.Prelude.{Ok}
use Rattle.std.proofs.lemmas.Result.{err_from_is_err_and}
use Rattle.laws.proofs.Elements.{length_mapped, all_at}
use Rattle.refusal.specs.Refusal.{number_of}
use Rattle.collector.specs.declared.Place.{Place}
use Rattle.collector.specs.declared.places.Against.{Against}
use Rattle.collector.specs.Places.{against, against_told, blank}
use Rattle.collector.proofs.AllPlaces.{is_held_lem, take_held, take_begun, take_against}
use Rattle.collector.proofs.Told.{refusal_high}
use Rattle.collector.specs.Collector.{kept, begun}
use Rattle.collector.specs.Layout.{top_clear, as_place, as_collector}
use Rattle.collector.proofs.Seen.{seen_at}
use borrow.Author.Rules.{rules}
use Rattle.collector.proofs.take_in.Goals as goal

abbrev told : Against → ℕ
told k = against_told (Ok k)

pub keep_in-requires : goal.keep_in-requires
keep_in-requires c = let b = c in
    let ps = b.args.c.places in
    let n : length ps ≡ 4 = search (rules, length_mapped) in
    (b.requires.0, all_at top_clear ps c.in-Some.i _ b.requires.1 (omega (arith, n, c.in-Some.ensures.1)), b.requires.1)

pub returns-in-Nothing : goal.returns-in-Nothing
returns-in-Nothing c = let b = c in
    let ps = b.args.c.places in
    let d = as_collector b.args.c in
    let x = b.args.x in
    let i = c.in-Some.i in
    let n : length ps ≡ 4 = search (rules, length_mapped) in
    let m = length-map ps as_place in
    let e = c.in-Some.ensures.0 in
    let at = seen_at ps i _ (omega (arith, n, c.in-Some.ensures.1)) in
    let held = is_held_lem d.places x.heading.level x.heading.version (omega (arith, e, c.in-Some.ensures.1)) in record {
      result_value = c.keep_in.ensures.result_value
          ∙ ap (λ (p : Place). kept d i p x) (sym at)
          ∙ ap (λ (k : ℕ). kept d k (get_or d.places k blank) x) e
          ∙ take_held d x held (ap (λ (k : ℕ). against (get_or d.places k blank) x) (sym e) ∙ ap (λ (p : Place). against p x) at ∙ sym (sym (ap told c.in-Nothing.is) ∙ c.in_ok-held_against.ensures));
      top = c.keep_in.ensures.top;
    }

pub returns-in-Contradicted : goal.returns-in-Contradicted
returns-in-Contradicted c = let b = c in
    let ps = b.args.c.places in
    let d = as_collector b.args.c in
    let x = b.args.x in
    let i = c.in-Some.i in
    let n : length ps ≡ 4 = search (rules, length_mapped) in
    let m = length-map ps as_place in
    let e = c.in-Some.ensures.0 in
    let at = seen_at ps i _ (omega (arith, n, c.in-Some.ensures.1)) in
    let held = is_held_lem d.places x.heading.level x.heading.version (omega (arith, e, c.in-Some.ensures.1)) in record {
      result_value = c.begin_again.ensures.result_value
          ∙ ap (λ (k : ℕ). begun d k x) e
          ∙ take_begun d x held (ap (λ (k : ℕ). against (get_or d.places k blank) x) (sym e) ∙ ap (λ (p : Place). against p x) at ∙ sym (sym (ap told c.in-Contradicted.is) ∙ c.in_ok-held_against.ensures));
      top = c.begin_again.ensures.top;
    }

pub returns-in-Same : goal.returns-in-Same
returns-in-Same c = let b = c in
    let ps = b.args.c.places in
    let d = as_collector b.args.c in
    let x = b.args.x in
    let i = c.in-Some.i in
    let n : length ps ≡ 4 = search (rules, length_mapped) in
    let m = length-map ps as_place in
    let e = c.in-Some.ensures.0 in
    let at = seen_at ps i _ (omega (arith, n, c.in-Some.ensures.1)) in
    let held = is_held_lem d.places x.heading.level x.heading.version (omega (arith, e, c.in-Some.ensures.1)) in record {
      result_value = take_against d x held 2 (sym (ap told c.in-Same.is) ∙ c.in_ok-held_against.ensures ∙ ap (λ (p : Place). against p x) (sym at) ∙ ap (λ (k : ℕ). against (get_or d.places k blank) x) e) (λ (z : 2 ≡ 0). omega arith) (λ (z : 2 ≡ 3). omega arith);
      top = b.requires.1;
    }

pub returns-in_err-held_against : goal.returns-in_err-held_against
returns-in_err-held_against c = let b = c in
    let ps = b.args.c.places in
    let d = as_collector b.args.c in
    let x = b.args.x in
    let i = c.in-Some.i in
    let n : length ps ≡ 4 = search (rules, length_mapped) in
    let m = length-map ps as_place in
    let e = c.in-Some.ensures.0 in
    let at = seen_at ps i _ (omega (arith, n, c.in-Some.ensures.1)) in
    let held = is_held_lem d.places x.heading.level x.heading.version (omega (arith, e, c.in-Some.ensures.1)) in
    let r = c.in_err-held_against.field-0.0 in
    let high = refusal_high r in
    let p = err_from_is_err_and c.from_residual.result c.from_residual.ensures.1 in record {
      result_value = rw (p.1, p.2) (take_against d x held (number_of r) (c.in_err-held_against.ensures ∙ ap (λ (q : Place). against q x) (sym at) ∙ ap (λ (k : ℕ). against (get_or d.places k blank) x) e) (λ z. omega (arith, z, high)) (λ z. omega (arith, z, high)));
      top = rw p.1 b.requires.1;
    }
