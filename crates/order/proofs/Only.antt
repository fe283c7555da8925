-- A collector after a run holds nothing that was not given, and no pair twice. Assumes nothing.
use mathlib.Core.Path.{◌≡◌, refl, sym, ap, ap₂, ◌∙◌}
use mathlib.Core.List.{List, [], ◌∷◌}
use mathlib.Core.Option.{Option, some}
use mathlib.Core.Bool.{true, not, ◌&&◌, true≢false}
use Prim.Native.Nat.{ℕ, zero, suc, ◌<◌}
use native.Mathlib.Nat.{not-suc-le-zero, le_of_suc-le-suc}
use lib.ListN.{length, get_or}
use lib.Dec.{eqb}
use borrow.Author.Tests.{eqb-true, eq-eqb}
use native.Mathlib.Omega.{arith}
use Rattle.laws.specs.Scan.{index_of}
use Rattle.laws.proofs.Cases.{and_yes, and_left, and_right}
use Rattle.laws.proofs.Elements.{by_test, index_yes, index_no, all_at}
use Rattle.collector.specs.declared.Place.{Place}
use Rattle.collector.specs.declared.Collector.{Collector}
use Rattle.collector.specs.Places.{blank, is_pair, same_pair, pairs_apart}
use Rattle.collector.specs.Collector.{nothing, good}
use Rattle.order.specs.Held.{Good, place_at, bytes_at, held_place, holds_in, total_in, holds, total_held, offer_all}
use Rattle.order.specs.Given.{Pair, Bounded, Accounted}
use Rattle.order.proofs.HeldPlace.{held_place_found}
use Rattle.order.proofs.Keeping.{good_apart, good_tail, empty_good}
use Rattle.order.proofs.Declaring.{marked_four}
use Rattle.order.proofs.Offering.{all_good}
use Rattle.order.proofs.Theorems.{holdings_exact, totals_exact}

-- a held place is one of its own pair
own_pair : (p : Place) → p.held ≡ true → is_pair p.level p.version p ≡ true
own_pair p h = and_yes _ h ∙ and_yes _ (eq-eqb p.level p.level refl) ∙ eq-eqb p.version p.version refl

-- two held places of one pair are not apart
pub one_pair : (x q : Place) → q.held ≡ true → is_pair q.level q.version x ≡ true → same_pair x q ≡ true
one_pair x q h t =
    let r = and_right x.held (eqb x.level q.level && eqb x.version q.version) t in
    let el : x.level ≡ q.level = eqb-true _ _ (and_left (eqb x.level q.level) (eqb x.version q.version) r) in
    let ev : x.version ≡ q.version = eqb-true _ _ (and_right (eqb x.level q.level) (eqb x.version q.version) r) in
    and_yes _ (and_left x.held (eqb x.level q.level && eqb x.version q.version) t)
    ∙ and_yes _ h ∙ and_yes _ (eq-eqb _ _ (sym el)) ∙ eq-eqb _ _ (sym ev)

-- so in a good record the first place of a held place's pair is that place
own_index : (xs : List Place) (i : ℕ) → good xs ≡ true → i < length xs → (get_or xs i blank).held ≡ true
    → index_of (is_pair (get_or xs i blank).level (get_or xs i blank).version) xs ≡ i
own_index [] i g h e = absurd (not-suc-le-zero h)
own_index (x ∷ xs) zero g h e = index_yes (is_pair x.level x.version) x xs (own_pair x e)
own_index (x ∷ xs) (suc i) g h e =
    let q = get_or xs i blank in
    let k : i < length xs = le_of_suc-le-suc h in
    by_test (is_pair q.level q.version x)
    (λ t. absurd (true≢false (sym (all_at (pairs_apart x) xs i blank (good_apart x xs g) k) ∙ ap not (one_pair x q e t))))
    (λ t. index_no (is_pair q.level q.version) x xs t ∙ ap suc (own_index xs i (good_tail x xs g) k e))

module _ (c : Collector) (g : Good c) (i : ℕ) (h : i < length c.places) (e : (place_at c i).held ≡ true) where
  found_there : held_place (place_at c i).level (place_at c i).version c.places ≡ some (place_at c i)
  found_there =
      let l = (place_at c i).level in
      let v = (place_at c i).version in
      let w : index_of (is_pair l v) c.places ≡ i = own_index c.places i g.order h e in
      let k : index_of (is_pair l v) c.places < length c.places = omega (arith, w) in
      held_place_found l v c.places k ∙ ap (λ (n : ℕ). some (get_or c.places n blank)) w

-- After any frames within the bounds, every place that is held is of a pair that they gave, with its total; every mark in it of a number
-- that they gave, with its bytes; and no two places are held for one pair.
pub nothing_else : (qs : List Pair) (fs : List (List ℕ)) → Bounded qs fs → Accounted fs (offer_all nothing fs)
unfolding holds total_held
nothing_else qs fs r =
    let c = offer_all nothing fs in
    let g = all_good fs nothing empty_good in
    record {
      pair = λ i h e. (totals_exact qs fs r (place_at c i).level (place_at c i).version (place_at c i).total).0 (ap total_in (found_there c g i h e));
      mark = λ i n h e m.
          (holdings_exact qs fs r (place_at c i).level (place_at c i).version n (bytes_at (place_at c i) n)).0
          (ap (λ (o : Option Place). holds_in o n) (found_there c g i h e) ∙ marked_four (place_at c i) n m);
      once = λ i j h k e f el ev.
          sym (own_index c.places i g.order h e)
          ∙ ap₂ (λ (a b : ℕ). index_of (is_pair a b) c.places) el ev
          ∙ own_index c.places j g.order k f;
    }
