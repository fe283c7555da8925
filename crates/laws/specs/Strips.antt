-- Pieces laid over a list at one distance, pieces one behind the other, and a test of every number below another. No rule of a paper stands here.
use Rattle.std.specs.Prelude.{List, [], ◌++◌, Bool, true, ◌&&◌, ℕ, zero, suc, ◌+◌, ◌*◌}
use Rattle.std.proofs.lemmas.List.Edits.{sets}

module _ {A : Type 0} where
  -- n pieces over l, the first from place i on, each w behind the one before
  unfoldable pub strips : List A → ℕ → ℕ → ℕ → (ℕ → List A) → List A
  strips l i w zero f = l
  strips l i w (suc n) f = sets (strips l i w n f) (i + n * w) (f n)

  -- n pieces, one behind the other
  unfoldable pub joined : ℕ → (ℕ → List A) → List A
  joined zero f = []
  joined (suc n) f = joined n f ++ f n

-- every number below n passes
unfoldable pub every : ℕ → (ℕ → Bool) → Bool
every zero f = true
every (suc n) f = every n f && f n
