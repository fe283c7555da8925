-- Pieces laid over a list at one distance: two that lie beside each other are one, and pieces that fill the distance are written at once. Assumes nothing.
use mathlib.Core.Path.{◌≡◌, refl, sym, ap, ap₂, ◌∙◌}
use mathlib.Core.List.{List, [], ◌∷◌, ◌++◌, append-nil, append_assoc}
use mathlib.Core.Bool.{Bool, true, false, ◌&&◌, and_assoc}
use Prim.Native.Nat.{ℕ, zero, suc, ◌+◌, ◌*◌, ◌<◌, ◌≤◌}
use native.Mathlib.Nat.{mul-le-mul_right, zero-mul, suc-mul}
use native.Mathlib.Omega.{arith}
use lib.ListN.{length, set, length-append}
use lib.Seq.{sets, length-sets, set_comm}
use Rattle.laws.specs.Strips.{strips, joined, every}
use Rattle.laws.proofs.Writes.{sets_append}

-- row r of n rows of w ends where row n begins, or before
pub row_below : (r n w : ℕ) → r < n → r * w + w ≤ n * w
row_below r n w h = let a : suc r * w ≤ n * w = mul-le-mul_right w (omega arith) in omega (arith, a, suc-mul r w)

module _ {A : Type 0} where
  -- ---- two writes of which one lies before the other
  set_before : (xs l : List A) (u v : ℕ) (y : A) → v < u → set (sets l u xs) v y ≡ sets (set l v y) u xs
  set_before [] l u v y h = refl
  set_before (x ∷ xs) l u v y h = set_before xs (set l u x) (suc u) v y (omega arith) ∙ ap (λ (m : List A). sets m (suc u) xs) (set_comm l u v x y (λ (e : u ≡ v). omega arith))

  sets_before : (ys xs l : List A) (u v : ℕ) → v + length ys ≤ u → sets (sets l u xs) v ys ≡ sets (sets l v ys) u xs
  sets_before [] xs l u v h = refl
  sets_before (y ∷ ys) xs l u v h = ap (λ (m : List A). sets m (suc v) ys) (set_before xs l u v y (omega arith)) ∙ sets_before ys xs (set l v y) u (suc v) (omega arith)

  strips_before : (n : ℕ) (g : ℕ → List A) (xs l : List A) (u v w : ℕ) → ((r : ℕ) → r < n → v + r * w + length (g r) ≤ u) → strips (sets l u xs) v w n g ≡ sets (strips l v w n g) u xs
  unfolding strips
  strips_before zero g xs l u v w h = refl
  strips_before (suc n) g xs l u v w h =
      ap (λ (m : List A). sets m (v + n * w) (g n)) (strips_before n g xs l u v w (λ r k. h r (omega arith)))
      ∙ sets_before (g n) xs (strips l v w n g) u (v + n * w) (h n (omega arith))

  -- ---- pieces beside pieces
  pub strips_beside : (n : ℕ) (f g : ℕ → List A) (l : List A) (i a w : ℕ) → ((r : ℕ) → r < n → length (f r) ≡ a) → ((r : ℕ) → r < n → a + length (g r) ≤ w)
      → strips (strips l i w n f) (i + a) w n g ≡ strips l i w n (λ r. f r ++ g r)
  unfolding strips
  strips_beside zero f g l i a w e h = refl
  strips_beside (suc n) f g l i a w e h =
      let S = strips l i w n f in
      let p : i + a + n * w ≡ i + n * w + length (f n) = omega (arith, e n (omega arith)) in
      ap (λ (m : List A). sets m (i + a + n * w) (g n))
      (strips_before n g (f n) S (i + n * w) (i + a) w (λ r k. omega (arith, h r (omega arith), row_below r n w k))
      ∙ ap (λ (m : List A). sets m (i + n * w) (f n)) (strips_beside n f g l i a w (λ r k. e r (omega arith)) (λ r k. h r (omega arith))))
      ∙ ap (λ (k : ℕ). sets (sets (strips l i w n (λ r. f r ++ g r)) (i + n * w) (f n)) k (g n)) p
      ∙ sym (sets_append (f n) (g n) (strips l i w n (λ r. f r ++ g r)) (i + n * w))

  pub length_strips : (n : ℕ) (f : ℕ → List A) (l : List A) (i w : ℕ) → length (strips l i w n f) ≡ length l
  unfolding strips
  length_strips zero f l i w = refl
  length_strips (suc n) f l i w = length-sets (strips l i w n f) (i + n * w) (f n) ∙ length_strips n f l i w

  pub strips_same : (n : ℕ) (f g : ℕ → List A) (l : List A) (i w : ℕ) → ((r : ℕ) → r < n → f r ≡ g r) → strips l i w n f ≡ strips l i w n g
  unfolding strips
  strips_same zero f g l i w e = refl
  strips_same (suc n) f g l i w e = ap₂ (λ (m : List A) (x : List A). sets m (i + n * w) x) (strips_same n f g l i w (λ r k. e r (omega arith))) (e n (omega arith))

  -- ---- pieces that are as long as their distance
  pub length_joined : (n : ℕ) (f : ℕ → List A) (w : ℕ) → ((r : ℕ) → r < n → length (f r) ≡ w) → length (joined n f) ≡ n * w
  unfolding joined
  length_joined zero f w e = sym (zero-mul w)
  length_joined (suc n) f w e = length-append (joined n f) (f n) ∙ ap₂ (λ (x y : ℕ). x + y) (length_joined n f w (λ r k. e r (omega arith))) (e n (omega arith)) ∙ sym (suc-mul n w)

  pub joined_same : (n : ℕ) (f g : ℕ → List A) → ((r : ℕ) → r < n → f r ≡ g r) → joined n f ≡ joined n g
  unfolding joined
  joined_same zero f g e = refl
  joined_same (suc n) f g e = ap₂ (λ (x y : List A). x ++ y) (joined_same n f g (λ r k. e r (omega arith))) (e n (omega arith))

  -- the first piece, then the others
  pub joined_first : (n : ℕ) (f : ℕ → List A) → joined (suc n) f ≡ f 0 ++ joined n (λ r. f (suc r))
  unfolding joined
  joined_first zero f = sym (append-nil (f 0))
  joined_first (suc n) f = ap (λ (x : List A). x ++ f (suc n)) (joined_first n f) ∙ append_assoc (f 0) (joined n (λ r. f (suc r))) (f (suc n))

  pub strips_whole : (n : ℕ) (f : ℕ → List A) (l : List A) (i w : ℕ) → ((r : ℕ) → r < n → length (f r) ≡ w) → strips l i w n f ≡ sets l i (joined n f)
  unfolding strips joined
  strips_whole zero f l i w e = refl
  strips_whole (suc n) f l i w e =
      let h : (r : ℕ) → r < n → length (f r) ≡ w = λ r k. e r (omega arith) in
      ap₂ (λ (m : List A) (k : ℕ). sets m (i + k) (f n)) (strips_whole n f l i w h) (sym (length_joined n f w h))
      ∙ sym (sets_append (joined n f) (f n) l i)

-- ---- tests of every number
and_four : (a b c d : Bool) → ((a && b) && (c && d)) ≡ ((a && c) && (b && d))
and_four true true c d = refl
and_four true false true d = refl
and_four true false false d = refl
and_four false b c d = refl

pub every_and : (n : ℕ) (f g : ℕ → Bool) → every n (λ r. f r && g r) ≡ (every n f && every n g)
unfolding every
every_and zero f g = refl
every_and (suc n) f g = ap (λ (x : Bool). x && (f n && g n)) (every_and n f g) ∙ and_four (every n f) (every n g) (f n) (g n)

pub every_same : (n : ℕ) (f g : ℕ → Bool) → ((r : ℕ) → r < n → f r ≡ g r) → every n f ≡ every n g
unfolding every
every_same zero f g e = refl
every_same (suc n) f g e = ap₂ (λ (x y : Bool). x && y) (every_same n f g (λ r k. e r (omega arith))) (e n (omega arith))

pub every_first : (n : ℕ) (f : ℕ → Bool) → every (suc n) f ≡ (f 0 && every n (λ r. f (suc r)))
unfolding every
every_first zero f = and_true (f 0)
  where
    and_true : (x : Bool) → (true && x) ≡ (x && true)
    and_true true = refl
    and_true false = refl
every_first (suc n) f = ap (λ (x : Bool). x && f (suc n)) (every_first n f) ∙ and_assoc (f 0) (every n (λ r. f (suc r))) (f (suc n))

pub every_true : (n : ℕ) (f : ℕ → Bool) → ((r : ℕ) → r < n → f r ≡ true) → every n f ≡ true
unfolding every
every_true zero f e = refl
every_true (suc n) f e = rw (every_true n f (λ r k. e r (omega arith)), e n (omega arith))
