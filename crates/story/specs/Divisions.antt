-- Every way to divide characters into parts (paper 02, K1).
use Rattle.std.specs.Prelude.{ℕ, List, ◌∷◌, ◌≡◌, true, length, leb}
use Rattle.laws.specs.Scan.{all}
use Rattle.laws.specs.Lists.{together}

-- characters cs, in their order, in parts of which each has room for r bytes: one part or more, whatever each of them takes
pub record Division (r : ℕ) (cs : List (List ℕ)) : Type 0 where
  pub one : List (List ℕ)
  pub more : List (List (List ℕ))
  pub divides : together (one ∷ more) ≡ cs
  pub fit : all (λ (p : List (List ℕ)). leb (length (together p)) r) (one ∷ more) ≡ true
