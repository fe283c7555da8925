-- One place: a frame against it, whole or spoiled, and a copy from it; a law for each way out of the code. Assumes nothing.
use mathlib.Core.Path.{◌≡◌, sym, ap, ap₂, ◌∙◌}
use mathlib.Core.List.{List, [], ◌++◌}
use mathlib.Core.Bool.{true, false, cond, not, ◌&&◌}
use Prim.Native.Nat.{ℕ, ◌+◌, ◌*◌, ◌%◌, ◌<◌, ◌≤◌}
use native.Mathlib.Omega.{arith}
use lib.ListN.{length, drop, take, length-take}
use lib.Seq.{get_or-take, take-take}
use lib.Dec.{leb, eqb}
use borrow.Author.Tests.{eq-eqb, ne_eqb, leb-true, lt-ltb, le-ltb}
use Rattle.laws.specs.Refusals.{first}
use Rattle.laws.proofs.Cases.{if_yes, if_no, and_yes, and_no, or_yes, or_no, and_left, and_right}
use Rattle.laws.proofs.Elements.{by_test}
use Rattle.laws.proofs.Refusals.{stop, pass, none_left}
use Rattle.collector.specs.declared.Place.{Place}
use Rattle.collector.specs.declared.Piece.{Piece}
use Rattle.size.specs.Size.{packet_size}
use Rattle.size.proofs.Size.{size_bytes}
use Rattle.collector.specs.Whole.{sized, passes}
use Rattle.collector.specs.Places.{marked, complete, same_four, contradicts, again, against, joined, whole, spoiled, state, copy_cases, copy_answer, copy_bytes}

-- ---- a frame against a place of its pair
module _ (p : Place) (x : Piece) where
  pub opposed : contradicts p x ≡ true → again p x ≡ false → against p x ≡ cond (whole p) 15 3
  unfolding against
  opposed k a =
      by_test (whole p)
      (λ w. stop 15 _ (and_yes _ k ∙ w) ∙ sym (if_yes _ _ w))
      (λ w. pass 15 _ (and_yes _ k ∙ w) ∙ pass 2 _ a ∙ stop 3 [] k ∙ sym (if_no _ _ w))

  pub other_total : (p.total.0 ≡ x.heading.total.0 → ⊥) → against p x ≡ cond (whole p) 15 3
  unfolding contradicts again
  other_total n = opposed (or_yes _ (ap not (ne_eqb _ _ n))) (and_no _ (ne_eqb _ _ n))

  module _ (t : p.total.0 ≡ x.heading.total.0) where
    pub same_total : contradicts p x ≡ (marked p x.heading.number && not (same_four p x))
    unfolding contradicts
    same_total = or_no _ (ap not (eq-eqb _ _ t))

    pub new_number : marked p x.heading.number ≡ false → against p x ≡ 0
    unfolding against again
    new_number m =
        pass 15 _ (and_no _ (same_total ∙ and_no _ m)) ∙ pass 2 _ (and_yes _ (eq-eqb _ _ t) ∙ and_no _ m) ∙ pass 3 [] (same_total ∙ and_no _ m) ∙ none_left

    pub same_frame : marked p x.heading.number ≡ true → same_four p x ≡ true → against p x ≡ 2
    unfolding against again
    same_frame m f = pass 15 _ (and_no _ (same_total ∙ and_yes _ m ∙ ap not f)) ∙ stop 2 _ (and_yes _ (eq-eqb _ _ t) ∙ and_yes _ m ∙ f)

    pub other_bytes : marked p x.heading.number ≡ true → same_four p x ≡ false → against p x ≡ cond (whole p) 15 3
    unfolding again
    other_bytes m f = opposed (same_total ∙ and_yes _ m ∙ ap not f) (and_yes _ (eq-eqb _ _ t) ∙ and_yes _ m ∙ f)

-- ---- whole or spoiled
module _ (p : Place) where
  pub is_missing : complete p ≡ false → state p ≡ 0
  unfolding state spoiled whole
  is_missing e = pass 17 _ (and_no _ e) ∙ pass 1 [] (and_no _ e) ∙ none_left

  pub is_whole_lem : complete p ≡ true → passes (joined p) ≡ true → state p ≡ 1
  unfolding state spoiled whole
  is_whole_lem e w = pass 17 _ (and_yes _ e ∙ ap not w) ∙ stop 1 [] (and_yes _ e ∙ w)

  pub is_spoiled : complete p ≡ true → passes (joined p) ≡ false → state p ≡ 17
  unfolding state spoiled
  is_spoiled e w = stop 17 _ (and_yes _ e ∙ ap not w)

  -- 1 is said of a whole packet only
  pub whole_is : state p ≡ 1 → whole p ≡ true
  unfolding whole
  whole_is e =
      by_test (complete p)
      (λ t.
      by_test (passes (joined p))
      (λ u. and_yes _ t ∙ u)
      (λ u. let z : 17 ≡ 1 = sym (is_spoiled t u) ∙ e in absurd (omega arith)))
      (λ t. let z : 0 ≡ 1 = sym (is_missing t) ∙ e in absurd (omega arith))

  pub not_whole : (state p ≡ 1 → ⊥) → whole p ≡ false
  unfolding whole
  not_whole n = by_test (complete p) (λ t. and_yes _ t ∙ by_test (passes (joined p)) (λ u. absurd (n (is_whole_lem t u))) (λ u. u)) (λ t. and_no _ t)

-- ---- copy from a place
module _ (p : Place) (out : List ℕ) where
  abbrev due : ℕ
  due = first (copy_cases p (length out))

  abbrev Gives : ℕ → ℕ → List ℕ → Type 0
  Gives a n now = (record { answer = a; length = n } ≡ copy_answer due p) × (now ≡ copy_bytes due p out)

  refuses : (a : ℕ) → due ≡ a → (a ≡ 0 → ⊥) → Gives a 0 out
  unfolding copy_answer copy_bytes
  refuses a e n =
      let z : eqb due 0 ≡ false = ne_eqb _ _ (λ (q : due ≡ 0). n (sym e ∙ q)) in
      (ap₂ (λ (k m : ℕ). record { answer = k; length = m }) (sym e) (sym (if_no _ _ z)), sym (if_no _ _ z))

  pub copy_18 : whole p ≡ false → Gives 18 0 out
  unfolding copy_cases
  copy_18 w = refuses 18 (stop 18 _ (ap not (by_test p.held (λ h. and_yes _ h ∙ w) (λ h. and_no _ h)))) (λ (z : 18 ≡ 0). omega arith)

  module _ (h : p.held ≡ true) (w : whole p ≡ true) where
    pub copy_10 : length out < packet_size (joined p) → Gives 10 0 out
    unfolding copy_cases
    copy_10 l = refuses 10 (pass 18 _ (ap not (and_yes _ h ∙ w)) ∙ stop 10 [] (lt-ltb _ _ l)) (λ (z : 10 ≡ 0). omega arith)

    pub copy_0 : (n : ℕ) (now : List ℕ) → n ≡ packet_size (joined p) → n ≤ length out → now ≡ take n (joined p) ++ drop n out → Gives 0 n now
    unfolding copy_cases copy_answer copy_bytes
    copy_0 n now e l m =
        let a : due ≡ 0 = pass 18 _ (ap not (and_yes _ h ∙ w)) ∙ pass 10 [] (le-ltb (length out) (packet_size (joined p)) (omega arith)) ∙ none_left in
        let z : eqb due 0 ≡ true = eq-eqb _ _ a in (
          ap₂ (λ (k j : ℕ). record { answer = k; length = j }) (sym a) (e ∙ sym (if_yes _ _ z)),
          m ∙ ap (λ (k : ℕ). take k (joined p) ++ drop k out) e ∙ sym (if_yes _ _ z),
        )

-- a whole packet lies within the joined bytes, so its size is read and its bytes are copied from the place
module _ (p : Place) (len : length p.bytes ≡ 252) (t : p.total.0 ≤ 63) (w : whole p ≡ true) where
  sized_whole : sized (joined p) ≡ true
  unfolding whole passes
  sized_whole = and_left (sized (joined p)) _ (and_right (complete p) (passes (joined p)) w)

  pub within : packet_size (joined p) + 2 ≤ p.total.0 * 4
  unfolding sized
  within =
      let h : packet_size (joined p) + 2 ≤ length (joined p) =
      leb-true _ _ (and_left (leb (packet_size (joined p) + 2) (length (joined p))) (leb (length (joined p)) (packet_size (joined p) + 5)) sized_whole) in
      omega (arith, length-take (p.total.0 * 4) p.bytes)

  pub size_here : packet_size p.bytes ≡ packet_size (joined p)
  size_here =
      let k = within in
      let n = p.total.0 * 4 in
      let g₀ = get_or-take n p.bytes 0 0 (omega arith) in
      let g₁ = get_or-take n p.bytes 1 0 (omega arith) in
      size_bytes p.bytes
      ∙ ap₂ (λ (a b : ℕ). a % 8 * 256 + b % 256 + 2) (sym g₀) (sym g₁)
      ∙ sym (size_bytes (joined p))

  pub taken_here : (n : ℕ) → n ≡ packet_size (joined p) → take n p.bytes ≡ take n (joined p)
  taken_here n e = let k = within in sym (take-take n (p.total.0 * 4) p.bytes (omega arith))
