-- A clock or a resource command carried over to our packets' contents and back is the same, and so is a content. Assumes nothing.
use mathlib.Core.Path.{◌≡◌, refl, sym, ap, ap₂, ◌∙◌}
use mathlib.Core.List.{List, [], append-nil}
use mathlib.Core.Bool.{true}
use Prim.Native.Nat.{ℕ, ◌+◌, ◌*◌}
use native.Mathlib.Omega.{arith}
use lib.ListN.{length, take, drop}
use lib.Seq.{take_all, length-take-le}
use Rattle.format.specs.Format.{need, inside}
use Rattle.packet.specs.declared.Content.{Content}
use Rattle.packet.specs.declared.Content.TheVariants as content
use Rattle.packet.specs.declared.Fields.{Fields}
use Rattle.packet.specs.Reading.{padded}
use Rattle.packet.specs.Content.{no_such_day}
use Rattle.packet.specs.Writing as packet
use Rattle.packet.specs.Writing.{digits_before, digits_after}
use Rattle.trips.proofs.Taken as trips
use Rattle.trips.proofs.Answers as answers
use Rattle.trips.proofs.Padded.{padded_take, take_padded}
use Rattle.trips.proofs.Fitting.{nil_of}
use Rattle.sister.specs.declared.Command.{Command}
use Rattle.sister.specs.declared.Command.TheVariants as command
use Rattle.sister.specs.Table.{code_count, kind_for, count_for, no_day}
use Rattle.carry.specs.Carrying.{content_for, command_for, CommandSame, ContentSame}
use Rattle.sister.specs.Reading.{opened}
use Rattle.sister.specs.Given.{lent_codes}
use Rattle.sister.proofs.Back.{lent_long}

-- ---- a command, its codes being as many digits as it has
there_back : (c : Command) (codes : List ℕ) → (content_for c ≡ content.Raw → ⊥) → length codes ≡ 23 * code_count (kind_for c) (count_for c) → CommandSame c codes
there_back (command.Clock year month day hour minute second) codes h n = record { command_same = refl; codes_same = sym (nil_of codes n) }
there_back (command.Resource m) codes h e =
    let n : length codes ≡ 23 = omega (arith, e) in
    record {
      command_same = refl;
      codes_same =
          ap₂ (λ (k : ℕ) (l : List ℕ). take k (padded 35 l)) (sym n) (take_all 23 codes (omega (arith, n)) ∙ sym (append-nil codes))
          ∙ take_padded 35 codes [] (omega (arith, n));
    }
there_back (command.Lock khz n) codes h e = absurd (h refl)
there_back command.Unknown codes h e = absurd (h refl)

-- ---- a content, with digits of which those that it does not use are 0
back_there : (c : Content) (ds : List ℕ) → (command_for c ≡ command.Unknown → ⊥) → length ds ≡ 35 → inside 0 0 (drop (digits_before c + digits_after c) ds) ≡ true → ContentSame c ds
unfolding need
back_there content.Raw ds h n e = absurd (h refl)
back_there (content.Frequencies k) ds h n e = absurd (h refl)
back_there (content.Address m) ds h n e =
    record {
      content_same = refl;
      digits_same = ap (padded 35) (take_all 23 (take 23 ds) (omega (arith, length-take-le 23 ds (omega (arith, n))))) ∙ padded_take 23 ds n (omega arith) e;
    }
back_there (content.Keep on period) ds h n e = absurd (h refl)
back_there (content.Clock year month day hour minute second) ds h n e = record { content_same = refl; digits_same = padded_take 0 ds n (omega arith) e }
back_there (content.Reset change) ds h n e = absurd (h refl)
back_there content.Factory ds h n e = absurd (h refl)
back_there (content.Drill action) ds h n e = absurd (h refl)
back_there (content.Text kind set t) ds h n e = absurd (h refl)
back_there (content.Hold serial) ds h n e = absurd (h refl)

-- ---- the theorems
-- A command has no such day exactly where its content has none.
pub same_day : (c : Command) → no_day c ≡ no_such_day (content_for c)
same_day (command.Clock year month day hour minute second) = refl
same_day (command.Resource m) = refl
same_day (command.Lock khz n) = refl
same_day command.Unknown = refl

-- Every command that the reader accepts and that our packets have a content for, a clock or a resource code, is the same there and back.
pub commands_carried : (b : List ℕ) → (opened b).answer ≡ 0 → (content_for (opened b).command ≡ content.Raw → ⊥) → CommandSame (opened b).command (lent_codes (opened b))
commands_carried b h g = there_back (opened b).command (lent_codes (opened b)) g (lent_long b h)

-- Every content that the packet writer takes and that the sister band has a command for, of type 1 or 3, is the same there and back, with the digits beside it.
pub contents_carried : (f : Fields) (codes body : List ℕ) (room : ℕ) → length f.digits ≡ 35 → (packet.written f codes body room).answer ≡ 0
    → (command_for f.content ≡ command.Unknown → ⊥) → ContentSame f.content f.digits
contents_carried f codes body room n h g =
    back_there f.content f.digits g n (trips.taken f codes body room (sym (answers.write_answer f codes body room) ∙ h)).digits_kept
