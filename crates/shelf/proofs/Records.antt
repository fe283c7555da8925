-- The records of a shelf as its whole chunks of 256 bytes: a test of each of them. Assumes nothing.
use denote.Param.Members.{Mut, Called}
use denote.Ref.{Bor}
use mathlib.Core.Path.{◌≡◌, refl, sym, ap, ◌∙◌, subst}
use mathlib.Core.Bool.{Bool, true, false}
use mathlib.Core.List.{List, ◌++◌}
use Prim.Native.Nat.{ℕ, ◌+◌, ◌*◌, ◌<◌, ◌≤◌}
use native.Mathlib.Omega.{arith}
use lib.ListN.{length, take, drop, length-append, length-drop}
use lib.Seq.{drop-drop, take_at, drop_at}
use Rattle.std.specs.Prelude.{Option, Some, None, MatchBool, IfSome, IsSomeAnd, option_map}
use Rattle.std.specs.List.{IsSubsliceAt}
use Rattle.std.specs.declared.slice.ChunksExact.{ChunksExact}
use Rattle.std.specs.Slice.Iter.{chunks_exact_steps, chunks_exact_rest, chunks_exact_size}
use Rattle.std.specs.Iterator.Runs.{Run, SomeRun, EveryRun, AllItemsGive, AnyItemGives, CallKeepsClosure, IsChunksExactRun}
use Rattle.laws.proofs.Below.{below_yes, below_no}
use Rattle.shelf.specs.Record.{right}
use Rattle.shelf.specs.Summary.{record_at, records_in}
use Rattle.shelf.specs.Shelf.{all_right}

module _ (s : List ℕ) (k : ℕ) where
  abbrev Here : Bor (List ℕ) → Type 0
  Here x = (length x.now ≡ 256) × (k * 256 + 256 ≤ length s) × IsSubsliceAt 256 s (k * 256) x.now

  is_record : (x : Bor (List ℕ)) → Here x → x.now ≡ record_at s k
  is_record x h = let e : k * 256 ≡ 256 * k = omega arith in h.2.0 ∙ ap (λ (j : ℕ). take 256 (drop j s)) e

  one_right : (o : Option (Bor (List ℕ))) (z : Bor (List ℕ)) → o ≡ Some z → IfSome o Here → IfSome o (λ x. true ≡ right x.now) → right (record_at s k) ≡ true
  one_right None z e h t = absurd (cc)
  one_right (Some x) z e h t = ap right (sym (is_record x h)) ∙ sym t

  one_wrong : (o : Option (Bor (List ℕ))) → IfSome o Here → IsSomeAnd o (λ x. false ≡ right x.now) → right (record_at s k) ≡ false
  one_wrong None h t = absurd t
  one_wrong (Some x) h t = ap right (sym (is_record x h)) ∙ sym t

some_item : {steps : ChunksExact ℕ → Option (Bor (List ℕ)) → ChunksExact ℕ → Type 0} (p : Run steps) (k : ℕ) → k < p.len → (z : Bor (List ℕ)) × (p.at k ≡ Some z)
some_item p k h = found (p.at k) (p.reads k p.from.rest h)
  where
    found : {y : Bor (List ℕ)} (o : Option (Bor (List ℕ))) → option_map (λ y. y) o ≡ Some y → (z : Bor (List ℕ)) × (o ≡ Some z)
    found None e = absurd (cc)
    found (Some z) e = (z, refl)

-- what `all` answers over the chunks is what the shelf's rule says
module _ (s : List ℕ) (i : ChunksExact ℕ) {F : Type 0} (g : Mut F (Bor (List ℕ) × Unit {0}) Bool) (f : F) where
  abbrev Ran : Bool → Type 0
  Ran r = SomeRun (chunks_exact_steps {A = ℕ}) i (λ p. MatchBool r ((p.whole ≡ true) × AllItemsGive p g f true) (AnyItemGives p g f false))

  abbrev Chunks : Run (chunks_exact_steps {A = ℕ}) → Type 0
  Chunks p = 0 < chunks_exact_size p.from → IsChunksExactRun p (chunks_exact_size p.from) (chunks_exact_rest p.from)

  module _ (er : chunks_exact_rest i ≡ s) (es : chunks_exact_size i ≡ 256) (every : EveryRun (chunks_exact_steps {A = ℕ}) Chunks)
      (keeps : CallKeepsClosure g f) (says : (x : Bor (List ℕ)) (b : Bool) → Called g f (x, tt) b f → b ≡ right x.now) where
    chunks : (p : Run (chunks_exact_steps {A = ℕ})) → p.from ≡ i → IsChunksExactRun p 256 s
    chunks p e =
        let n : chunks_exact_size p.from ≡ 256 = ap chunks_exact_size e ∙ es in
        subst (λ (l : List ℕ). IsChunksExactRun p 256 l) (ap chunks_exact_rest e ∙ er)
        (subst (λ (m : ℕ). IsChunksExactRun p m (chunks_exact_rest p.from)) n (every p p.seen (omega arith)))

    pub as_all_right : (r : Bool) → Ran r → r ≡ all_right s
    unfolding all_right
    as_all_right true (p, e, (whole, each)) =
        let c = chunks p e in
        sym (below_yes (records_in s) (λ k. right (record_at s k)) (λ k h.
        let z = some_item p k (omega (arith, c.1 whole)) in
        one_right s k (p.at k) z.0 z.1 (c.2 k) (told (p.at k) (each keeps k))))
      where
        told : (o : Option (Bor (List ℕ))) → IfSome o (λ x. Called g f (x, tt) true f) → IfSome o (λ x. true ≡ right x.now)
        told None t = tt
        told (Some x) t = says x true t
    as_all_right false (p, e, any) =
        let c = chunks p e in
        let a = any keeps in
        sym (below_no (records_in s) (λ k. right (record_at s k)) a.0 (omega (arith, c.0, a.1)) (one_wrong s a.0 (p.at a.0) (c.2 a.0) (told (p.at a.0) a.2)))
      where
        told : (o : Option (Bor (List ℕ))) → IsSomeAnd o (λ x. Called g f (x, tt) false f) → IsSomeAnd o (λ x. false ≡ right x.now)
        told None t = absurd t
        told (Some x) t = says x false t

-- a chunk off the front of what is left behind n records is record n
pub next_record : (s : List ℕ) (n : ℕ) (x rest : List ℕ) → drop (256 * n) s ≡ x ++ rest → length x ≡ 256 → 256 * n ≤ length s
    → (256 * (n + 1) ≤ length s) × (rest ≡ drop (256 * (n + 1)) s) × (x ≡ record_at s n)
next_record s n x rest e k h =
    let next : 256 * n + 256 ≡ 256 * (n + 1) = omega arith in (
      omega (arith, sym (length-drop (256 * n) s) ∙ ap length e ∙ length-append x rest),
      sym (sym (ap (λ (j : ℕ). drop j s) next) ∙ sym (drop-drop 256 (256 * n) s) ∙ ap (drop 256) e ∙ drop_at x rest 256 k),
      sym (ap (take 256) e ∙ take_at x rest 256 k),
    )
