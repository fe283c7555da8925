-- What it means that an answer follows an order of cases exactly (paper 01, "Numbers given back").
use Rattle.std.specs.Prelude.{◌≡◌, ◌↔◌, ◌⊎◌, true, List, ℕ, ◌<◌, length, take}
use Rattle.laws.specs.Refusals.{Case, none, among, case_at}

-- each number comes exactly when its case holds and none before it does; 0 exactly when no case holds; and no other number comes (01, Numbers given back)
pub record Exactly (answer : ℕ) (cases : List Case) : Type 0 where
  pub each : (k : ℕ) → k < length cases → (answer ≡ (case_at cases k).1) ↔ (((case_at cases k).0 ≡ true) × (none (take k cases) ≡ true))
  pub done : (answer ≡ 0) ↔ (none cases ≡ true)
  pub listed : (answer ≡ 0) ⊎ (among answer cases ≡ true)
