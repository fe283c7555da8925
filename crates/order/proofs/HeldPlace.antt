-- The place of a pair and its four bytes at each number, after a store. Assumes nothing.
use mathlib.Core.Path.{◌≡◌, refl, sym, ap, ◌∙◌}
use mathlib.Core.List.{List, [], ◌∷◌}
use mathlib.Core.Option.{Option, none, some}
use mathlib.Core.Bool.{Bool, true, false, cond}
use Prim.Native.Nat.{ℕ, zero, suc, ◌+◌, ◌*◌, ◌≤◌, ◌<◌}
use native.Mathlib.Nat.{not-suc-le-zero, le_of_suc-le-suc}
use native.Mathlib.Omega.{arith}
use lib.ListN.{length, get_or, set, length-set}
use lib.Seq.{get_or-set_same, get_or-set_other}
use Rattle.laws.specs.Scan.{index_of}
use Rattle.laws.proofs.Cases.{if_yes, if_no}
use Rattle.laws.proofs.Elements.{by_test, index_yes, index_no}
use Rattle.frame.specs.declared.Number.{Number}
use Rattle.collector.specs.declared.Place.{Place}
use Rattle.collector.specs.declared.Piece.{Piece}
use Rattle.collector.specs.Places.{blank, is_pair, shaped, stored}
use Rattle.collector.proofs.Marks.{bytes_long, mark_own, mark_other}
use Rattle.order.specs.Held.{Four, four_at, held_place}
use Rattle.order.specs.Given.{four}

-- ---- the place of a pair, after a store
pub held_place_yes : (l v : ℕ) (p : Place) (ps : List Place) → is_pair l v p ≡ true → held_place l v (p ∷ ps) ≡ some p
unfolding held_place
held_place_yes l v p ps e = if_yes (some p) (held_place l v ps) e

pub held_place_no : (l v : ℕ) (p : Place) (ps : List Place) → is_pair l v p ≡ false → held_place l v (p ∷ ps) ≡ held_place l v ps
unfolding held_place
held_place_no l v p ps e = if_no (some p) (held_place l v ps) e

module _ (l v : ℕ) where
  pub held_place_found : (xs : List Place) → index_of (is_pair l v) xs < length xs → held_place l v xs ≡ some (get_or xs (index_of (is_pair l v) xs) blank)
  held_place_found [] h = absurd (not-suc-le-zero h)
  held_place_found (x ∷ xs) h =
      by_test (is_pair l v x)
      (λ e. rw (index_yes (is_pair l v) x xs e) (held_place_yes l v x xs e))
      (λ e.
      let w = index_no (is_pair l v) x xs e in
      rw w (held_place_no l v x xs e ∙ held_place_found xs (omega arith)))

  pub held_place_missing : (xs : List Place) → length xs ≤ index_of (is_pair l v) xs → held_place l v xs ≡ none
  unfolding held_place
  held_place_missing [] h = refl
  held_place_missing (x ∷ xs) h =
      by_test (is_pair l v x)
      (λ e. let w = index_yes (is_pair l v) x xs e in absurd (omega arith))
      (λ e. let w = index_no (is_pair l v) x xs e in if_no (some x) (held_place l v xs) e ∙ held_place_missing xs (omega arith))

  -- the first of the pair is replaced by another of the pair
  pub held_place_hit : (xs : List Place) (i : ℕ) (q : Place) → i ≡ index_of (is_pair l v) xs → i < length xs → is_pair l v q ≡ true → held_place l v (set xs i q) ≡ some q
  held_place_hit [] i q e h t = absurd (not-suc-le-zero h)
  held_place_hit (x ∷ xs) zero q e h t = held_place_yes l v q xs t
  held_place_hit (x ∷ xs) (suc i) q e h t =
      by_test (is_pair l v x)
      (λ y. let w = index_yes (is_pair l v) x xs y in absurd (omega arith))
      (λ y.
      let w = index_no (is_pair l v) x xs y in
      held_place_no l v x (set xs i q) y ∙ held_place_hit xs i q (omega arith) (le_of_suc-le-suc h) t)

  -- a place is taken for a pair that is not held
  pub held_place_new : (xs : List Place) (i : ℕ) (q : Place) → length xs ≤ index_of (is_pair l v) xs → i < length xs → is_pair l v q ≡ true → held_place l v (set xs i q) ≡ some q
  held_place_new [] i q n h t = absurd (not-suc-le-zero h)
  held_place_new (x ∷ xs) zero q n h t = held_place_yes l v q xs t
  held_place_new (x ∷ xs) (suc i) q n h t =
      by_test (is_pair l v x)
      (λ y. let w = index_yes (is_pair l v) x xs y in absurd (omega arith))
      (λ y.
      let w = index_no (is_pair l v) x xs y in
      held_place_no l v x (set xs i q) y ∙ held_place_new xs i q (omega arith) (le_of_suc-le-suc h) t)

  -- a store of another pair
  pub held_place_miss : (xs : List Place) (i : ℕ) (q : Place) → i < length xs → is_pair l v (get_or xs i blank) ≡ false → is_pair l v q ≡ false → held_place l v (set xs i q) ≡ held_place l v xs
  unfolding held_place
  held_place_miss [] i q h a b = absurd (not-suc-le-zero h)
  held_place_miss (x ∷ xs) zero q h a b = if_no (some q) (held_place l v xs) b ∙ sym (if_no (some x) (held_place l v xs) a)
  held_place_miss (x ∷ xs) (suc i) q h a b = ap (cond (is_pair l v x) (some x)) (held_place_miss xs i q (le_of_suc-le-suc h) a b)

-- ---- what a place holds, after a store
pub four_same : {s t : Bool} {a a' b b' c c' d d' : ℕ} → s ≡ t → a ≡ a' → b ≡ b' → c ≡ c' → d ≡ d'
    → cond {A = Option Four} s (some (a, b, c, d)) none ≡ cond t (some (a', b', c', d')) none
four_same e f g h k = rw (e, f, g, h, k)

module _ (p : Place) (x : Piece) where
  -- at another number nothing changes
  pub byte_other : (m : Number) (j : ℕ) → m.0 * 4 ≤ j → j < m.0 * 4 + 4 → (m.0 ≡ x.heading.number.0 → ⊥) → get_or (stored p x).bytes j 0 ≡ get_or p.bytes j 0
  unfolding stored
  byte_other m j lo hi ne =
      let n = x.heading.number.0 in
      let b₁ = set p.bytes (n * 4) x.a in
      let b₂ = set b₁ (n * 4 + 1) x.b in
      let b₃ = set b₂ (n * 4 + 2) x.c in
      get_or-set_other b₃ (n * 4 + 3) j x.d 0 (λ (e : j ≡ n * 4 + 3). ne (omega arith))
      ∙ get_or-set_other b₂ (n * 4 + 2) j x.c 0 (λ (e : j ≡ n * 4 + 2). ne (omega arith))
      ∙ get_or-set_other b₁ (n * 4 + 1) j x.b 0 (λ (e : j ≡ n * 4 + 1). ne (omega arith))
      ∙ get_or-set_other p.bytes (n * 4) j x.a 0 (λ (e : j ≡ n * 4). ne (omega arith))

  pub four_other : (m : Number) → (m.0 ≡ x.heading.number.0 → ⊥) → four_at (stored p x) m ≡ four_at p m
  unfolding four_at
  four_other m ne =
      four_same
      (mark_other p x m ne)
      (byte_other m (m.0 * 4) (omega arith) (omega arith) ne)
      (byte_other m (m.0 * 4 + 1) (omega arith) (omega arith) ne)
      (byte_other m (m.0 * 4 + 2) (omega arith) (omega arith) ne)
      (byte_other m (m.0 * 4 + 3) (omega arith) (omega arith) ne)

  -- at its own number stand its own four
  pub four_own : shaped p ≡ true → x.heading.number.0 < 63 → four_at (stored p x) x.heading.number ≡ some (four x)
  unfolding four_at stored
  four_own s h =
      let n = x.heading.number.0 in
      let e₀ : length p.bytes ≡ 252 = bytes_long p s in
      let b₁ = set p.bytes (n * 4) x.a in
      let b₂ = set b₁ (n * 4 + 1) x.b in
      let b₃ = set b₂ (n * 4 + 2) x.c in
      let e₁ : length b₁ ≡ length p.bytes = length-set p.bytes (n * 4) x.a in
      let e₂ : length b₂ ≡ length b₁ = length-set b₁ (n * 4 + 1) x.b in
      let e₃ : length b₃ ≡ length b₂ = length-set b₂ (n * 4 + 2) x.c in
      four_same
      (mark_own p x s h)
      (get_or-set_other b₃ (n * 4 + 3) (n * 4) x.d 0 (λ (e : n * 4 ≡ n * 4 + 3). omega arith)
      ∙ get_or-set_other b₂ (n * 4 + 2) (n * 4) x.c 0 (λ (e : n * 4 ≡ n * 4 + 2). omega arith)
      ∙ get_or-set_other b₁ (n * 4 + 1) (n * 4) x.b 0 (λ (e : n * 4 ≡ n * 4 + 1). omega arith)
      ∙ get_or-set_same p.bytes (n * 4) x.a 0 (omega arith))
      (get_or-set_other b₃ (n * 4 + 3) (n * 4 + 1) x.d 0 (λ (e : n * 4 + 1 ≡ n * 4 + 3). omega arith)
      ∙ get_or-set_other b₂ (n * 4 + 2) (n * 4 + 1) x.c 0 (λ (e : n * 4 + 1 ≡ n * 4 + 2). omega arith)
      ∙ get_or-set_same b₁ (n * 4 + 1) x.b 0 (omega arith))
      (get_or-set_other b₃ (n * 4 + 3) (n * 4 + 2) x.d 0 (λ (e : n * 4 + 2 ≡ n * 4 + 3). omega arith)
      ∙ get_or-set_same b₂ (n * 4 + 2) x.c 0 (omega arith))
      (get_or-set_same b₃ (n * 4 + 3) x.d 0 (omega arith))
