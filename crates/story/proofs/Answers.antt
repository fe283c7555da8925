-- The numbers of telling and joining stand once each, and beside one nothing is given or written. Assumes nothing.
use mathlib.Core.Path.{◌≡◌, refl}
use mathlib.Core.List.{List}
use mathlib.Core.Bool.{true}
use Prim.Native.Nat.{ℕ, zero, suc}
use Rattle.laws.specs.Refusals.{apart, among}
use Rattle.packet.specs.Writing.{output_by}
use Rattle.story.specs.declared.Story.{Story}
use Rattle.story.specs.Telling.{tell_cases, told_by}
use Rattle.story.specs.Joining.{join_cases, joined_by}

pub tell_apart : (s : Story) (codes text : List ℕ) (room : ℕ) → apart (tell_cases s codes text room) ≡ true
unfolding apart among
tell_apart s codes text room = refl

pub join_apart : (b : List ℕ) (room : ℕ) → apart (join_cases b room) ≡ true
unfolding apart among
join_apart b room = refl

pub told_no : (a n m : ℕ) (xs out : List ℕ) → (a ≡ 0 → ⊥) → (told_by a n m ≡ record { answer = a; parts = 0; length = 0 }) × (output_by a xs out ≡ out)
told_no zero n m xs out h = absurd (h refl)
told_no (suc a) n m xs out h = (refl, refl)

pub joined_no : (a m : ℕ) (xs out : List ℕ) → (a ≡ 0 → ⊥) → (joined_by a m ≡ record { answer = a; length = 0 }) × (output_by a xs out ≡ out)
joined_no zero m xs out h = absurd (h refl)
joined_no (suc a) m xs out h = (refl, refl)
