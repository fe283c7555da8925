-- Demand 1 for packets: each number of reader, text and writer exactly in its case, which types are answered 23, and what a refusal leaves as it was.
-- Assumes nothing.
use mathlib.Core.Path.{◌≡◌, refl, sym, ap, subst, ◌∙◌}
use mathlib.Core.Logic.{◌↔◌}
use mathlib.Core.Bool.{Bool, true, false, not, ◌&&◌}
use mathlib.Core.List.{List, []}
use Prim.Native.Nat.{ℕ}
use native.Mathlib.Omega.{arith}
use lib.ListN.{length}
use Rattle.laws.specs.Refusals.{none}
use Rattle.laws.proofs.Refusals.{stop, pass}
use Rattle.packet.specs.declared.Fields.{Fields}
use Rattle.packet.specs.Writing.{Written, write_cases, written_answer, written, packet_output, size_for, bytes_for}
use Rattle.packet.specs.Table.{refused_type, unwritten_type}
use Rattle.packet.specs.Reading.{type_in, size_bad, read_cases, read_answer, text_cases, text_answer, opened, refused_as, body_of, text_of}
use Rattle.packet.proofs.ByType.{refused_types, unwritten_types}
use Rattle.packet.proofs.Refused.{not_opened, no_part, not_written_lem}
use Rattle.trips.proofs.Answers.{then_apart, write_apart, read_answer_lem, write_answer, read_exact, write_exact}
use Rattle.promises.specs.Exactly.{Exactly}
use Rattle.promises.proofs.Answers.{exactly}

-- Whatever is given, each number of the reader, of its text and of the packet writer comes exactly when its case holds and none before it does, 0 exactly
-- when no case holds, and no other number comes.
pub packet_answer_exact : ((packet : List ℕ) → Exactly (opened packet).answer (read_cases packet))
    × ((packet : List ℕ) → Exactly (text_answer packet) (text_cases packet))
    × ((f : Fields) (codes body : List ℕ) (room : ℕ) → Exactly (written f codes body room).answer (write_cases f codes body room))
unfolding read_answer text_answer written_answer
packet_answer_exact = (
  λ b. subst (λ (a : ℕ). Exactly a (read_cases b)) (sym (read_answer_lem b)) (exactly (read_cases b) (then_apart b _)),
  λ b. exactly (text_cases b) (then_apart b _),
  λ f codes body room. subst (λ (a : ℕ). Exactly a (write_cases f codes body room)) (sym (write_answer f codes body room)) (exactly (write_cases f codes body room) (write_apart f codes body room)),
)

-- 23 comes exactly for types 9, 10, 17 to 20 and 25 or above, of the reader where the size is right; of the writer always, and for type 16 too.
pub types_refused : ((packet : List ℕ) → ((opened packet).answer ≡ 23) ↔ ((refused_type (type_in packet) ≡ true) × (size_bad packet ≡ false)))
    × ((f : Fields) (codes body : List ℕ) (room : ℕ) → ((written f codes body room).answer ≡ 23) ↔ (unwritten_type f.typenumber ≡ true))
unfolding none read_answer written_answer
types_refused = (
  λ b.
      let x = read_exact b 1 (omega arith) in (
        λ e. let y = x.0 (sym (read_answer_lem b) ∙ e) in (sym (refused_types (type_in b)) ∙ y.0, alone (size_bad b) y.1),
        λ y. read_answer_lem b ∙ pass 20 _ y.1 ∙ stop 23 _ (refused_types (type_in b) ∙ y.0),
      ),
  λ f codes body room.
      let x = write_exact f codes body room 0 (omega arith) in (
        λ e. sym (unwritten_types f.typenumber) ∙ (x.0 (sym (write_answer f codes body room) ∙ e)).0,
        λ y. write_answer f codes body room ∙ stop 23 _ (unwritten_types f.typenumber ∙ y),
      ),
)
  where
    alone : (x : Bool) → (not x && true) ≡ true → x ≡ false
    alone true e = sym e
    alone false e = refl

-- A packet that is refused gives fields of zero, raw content, no text and no body; fields that are refused leave the output as it was, with length 0.
pub packet_refused_unchanged : ((packet : List ℕ) → ((opened packet).answer ≡ 0 → ⊥) → (opened packet ≡ refused_as (opened packet).answer) × (body_of packet ≡ []))
    × ((packet : List ℕ) → (text_answer packet ≡ 0 → ⊥) → text_of packet ≡ [])
    × ((f : Fields) (codes body out : List ℕ) → ((written f codes body (length out)).answer ≡ 0 → ⊥) → ((written f codes body (length out)).length ≡ 0) × (packet_output f codes body out ≡ out))
unfolding opened body_of text_of written packet_output
packet_refused_unchanged = (
  λ b z. let r : read_answer b ≡ 0 → ⊥ = λ e. z (read_answer_lem b ∙ e) in (not_opened (read_answer b) b r ∙ ap refused_as (sym (read_answer_lem b)), no_part (read_answer b) _ _ b r),
  λ b z. no_part (text_answer b) _ _ b z,
  λ f codes body out z.
      let r : written_answer f codes body (length out) ≡ 0 → ⊥ = λ e. z (write_answer f codes body (length out) ∙ e) in
      let n = not_written_lem (written_answer f codes body (length out)) (size_for f body) (bytes_for f codes body) out r in
      (ap (λ (w : Written). w.length) n.0, n.1),
)
