-- No division of the characters into parts that fit has fewer parts than dealing. Assumes nothing.
use mathlib.Core.Path.{◌≡◌, subst}
use mathlib.Core.List.{List, [], ◌∷◌, ◌++◌}
use mathlib.Core.Bool.{Bool, true}
use Prim.Native.Nat.{ℕ, suc, ◌-◌, ◌≤◌}
use native.Mathlib.Omega.{arith}
use lib.ListN.{length, length-append}
use lib.Dec.{leb}
use borrow.Author.Tests.{leb-true, leb-false, le-leb}
use Rattle.laws.specs.Scan.{all}
use Rattle.laws.proofs.Elements.{by_test, all_head, all_tail}
use Rattle.story.specs.Characters.{deal, characters, parted}
use Rattle.laws.specs.Lists.{together}
use Rattle.story.specs.Divisions.{Division}
use Rattle.story.proofs.Dealing.{deal_none, long_fits, long_over}

abbrev fitting : ℕ → List (List ℕ) → Bool
fitting r p = leb (length (together p)) r

module _ (r : ℕ) where
  -- more room in the first part makes no more parts, and at most one fewer
  near : (cs : List (List ℕ)) (a b : ℕ) → a ≤ b → b ≤ r → (length (deal r b cs) ≤ length (deal r a cs)) × (length (deal r a cs) ≤ suc (length (deal r b cs)))
  near [] a b h g = rw (deal_none r a, deal_none r b) (omega arith, omega arith)
  near (c ∷ cs) a b h g =
      by_test (leb (length c) a)
      (λ t.
      let l = leb-true (length c) a t in
      let n = near cs (a - length c) (b - length c) (omega arith) (omega arith) in
      rw (long_fits r a c cs t, long_fits r b c cs (le-leb (length c) b (omega arith))) n)
      (λ t.
      let l = leb-false (length c) a t in
      by_test (leb (length c) b)
      (λ u.
      let m = leb-true (length c) b u in
      let n = near cs (b - length c) (r - length c) (omega arith) (omega arith) in
      rw (long_over r a c cs t, long_fits r b c cs u) (omega (arith, n.1), omega (arith, n.0)))
      (λ u. rw (long_over r a c cs t, long_over r b c cs u) (omega arith, omega arith)))

  -- a part that fits brings dealing to its end with no new part
  beyond : (rest : List (List ℕ)) (m : ℕ) → ((k : ℕ) → k ≤ r → length (deal r k rest) ≤ m) → (p : List (List ℕ)) (k : ℕ) → length (together p) ≤ k → k ≤ r → length (deal r k (p ++ rest)) ≤ m
  unfolding together
  beyond rest m w [] k h g = w k g
  beyond rest m w (c ∷ p) k h g =
      let e = length-append c (together p) in
      rw (long_fits r k c (p ++ rest) (le-leb (length c) k (omega arith))) (beyond rest m w p (k - length c) (omega arith) (omega arith))

  bound : (ps : List (List (List ℕ))) → all (fitting r) ps ≡ true → (k : ℕ) → k ≤ r → length (deal r k (together ps)) ≤ suc (length ps)
  unfolding together
  bound [] f k g = rw (deal_none r k) (omega arith)
  bound (q ∷ ps) f k g =
      let n = beyond (together ps) (suc (length ps)) (bound ps (all_tail (fitting r) q ps f)) q r (leb-true (length (together q)) r (all_head (fitting r) q ps f)) (omega arith) in
      omega (arith, n, (near (together (q ∷ ps)) k r g (omega arith)).1)

-- However the characters of a text are divided, in their order, into parts with room for r bytes each, there are no fewer parts than ours.
pub fewest_parts : (r : ℕ) (text : List ℕ) (d : Division r (characters text)) → length (parted r text) ≤ suc (length d.more)
unfolding parted together
fewest_parts r text d =
    let p = d.one in
    let ps = d.more in
    let n = beyond r (together ps) (suc (length ps)) (bound r ps (all_tail (fitting r) p ps d.fit)) p r (leb-true (length (together p)) r (all_head (fitting r) p ps d.fit)) (omega arith) in
    subst (λ (cs : List (List ℕ)). length (deal r r cs) ≤ suc (length ps)) d.divides n
