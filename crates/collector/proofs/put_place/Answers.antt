-- `collector::put_place`: what its goals need. Assumes nothing.
use mathlib.Core.Path.{◌≡◌, sym, ap}
use mathlib.Core.List.{List, map}
use native.Mathlib.Omega.{arith}
use lib.ListN.{length, length-map}
use lib.Seq.{set_out}
use Rattle.laws.proofs.Elements.{length_mapped, all_set}
use Rattle.collector.specs.declared.Place.{Place}
use Rattle.collector.specs.Layout.{top_clear, as_place}
use Rattle.collector.proofs.Seen.{seen_set}
use borrow.Author.Rules.{rules}
use Rattle.collector.proofs.put_place.Goals as goal

pub returns-then-i-lt4 : goal.returns-then-i-lt4
returns-then-i-lt4 c = let a = c.args in record {
  result_value = ap (λ (ps : List Place). record { places = ps }) (seen_set a.c.places a.i a.p);
  top = all_set top_clear a.c.places a.i a.p c.requires.1 c.requires.0;
}

pub returns : goal.returns
returns c = let a = c.args in
    let n : length a.c.places ≡ 4 = search (rules, length_mapped) in
    let m = length-map a.c.places as_place in record {
      result_value = ap (λ (ps : List Place). record { places = ps }) (sym (set_out (map as_place a.c.places) a.i (as_place a.p) (omega (arith, n, c.if-i-lt4.false))));
      top = c.requires.1;
    }
