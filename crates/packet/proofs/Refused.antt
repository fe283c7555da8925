-- Beside a refusal nothing is handed back: no field, no part, no byte (01, Numbers given back). Assumes nothing.
use mathlib.Core.Path.{◌≡◌, refl}
use mathlib.Core.List.{List, []}
use Prim.Native.Nat.{ℕ, zero, suc}
use Rattle.packet.specs.Reading.{opened_by, refused_as, part_by}
use Rattle.packet.specs.Writing.{written_by, output_by}

pub not_opened : (a : ℕ) (b : List ℕ) → (a ≡ 0 → ⊥) → opened_by a b ≡ refused_as a
not_opened zero b h = absurd (h refl)
not_opened (suc a) b h = refl

pub no_part : (a from k : ℕ) (b : List ℕ) → (a ≡ 0 → ⊥) → part_by a from k b ≡ []
no_part zero from k b h = absurd (h refl)
no_part (suc a) from k b h = refl

pub not_written_lem : (a p : ℕ) (xs out : List ℕ) → (a ≡ 0 → ⊥) → (written_by a p ≡ record { answer = a; length = 0 }) × (output_by a xs out ≡ out)
not_written_lem zero p xs out h = absurd (h refl)
not_written_lem (suc a) p xs out h = (refl, refl)
