-- The second exception of demand 2 (02, K13): type 16 is carried raw by a reader, and a writer refuses it. Assumes nothing.
use mathlib.Core.Path.{◌≡◌, sym, ap, ap₂, ◌∙◌}
use mathlib.Core.Logic.{◌↔◌}
use mathlib.Core.Bool.{true, false, not, cond, true≢false}
use mathlib.Core.List.{List}
use Prim.Native.Nat.{ℕ, ◌+◌, ◌*◌, ◌/◌}
use native.Mathlib.Omega.{arith}
use lib.ListN.{take, drop}
use lib.Dec.{eqb}
use borrow.Author.Tests.{eqb-true, eq-eqb}
use Rattle.laws.specs.Bits.{bits}
use Rattle.format.specs.Format.{size}
use Rattle.laws.proofs.Cases.{or_yes, or_no}
use Rattle.laws.proofs.Elements.{by_test}
use Rattle.laws.proofs.Refusals.{stop}
use Rattle.packet.specs.declared.Kind.{Kind}
use Rattle.packet.specs.declared.Kind.TheVariants.{Raw}
use Rattle.packet.specs.declared.Content.TheVariants as content
use Rattle.packet.specs.Table.{kind_of, row_of, content_bytes, count_in}
use Rattle.packet.specs.Content.{content_of}
use Rattle.packet.specs.Reading.{type_in, codes_in, kind_in, content_at, content_size, count_of, part_at, front_in, has_entries, fields_of, length_bad, is_unknown, read_answer, opened_by, opened, part_by, body_of}
use Rattle.packet.specs.Writing.{not_written, written_answer, written}
use Rattle.packet.proofs.Accepted.{accepted}
use Rattle.trips.specs.Given.{lent_codes, lent_body}
use Rattle.trips.proofs.Answers.{read_answer_lem, write_answer, read_exact, write_exact}

-- Of whatever a reader accepts, the writer answers 23 to what was read exactly where the type is 16.
pub retired : (b : List ℕ) (room : ℕ) → (opened b).answer ≡ 0
    → ((written (opened b).fields (lent_codes (opened b)) (lent_body (opened b) (body_of b)) room).answer ≡ 23) ↔ ((opened b).fields.typenumber ≡ 16)
unfolding opened fields_of written_answer
retired b room e =
    let f = (opened b).fields in
    let codes = lent_codes (opened b) in
    let body = lent_body (opened b) (body_of b) in
    let a : read_answer b ≡ 0 = sym (read_answer_lem b) ∙ e in
    let kind : f.typenumber ≡ type_in b = ap (λ (n : ℕ). (opened_by n b).fields.typenumber) a in
    let known : is_unknown (kind_of f.typenumber) ≡ false = ap (λ (t : ℕ). is_unknown (kind_of t)) kind ∙ (accepted b a).known in
    let x = write_exact f codes body room 0 (omega arith) in (
      λ h.
          let y : not_written f.typenumber ≡ true = (x.0 (sym (write_answer f codes body room) ∙ h)).0 in
          by_test (eqb f.typenumber 16) (λ t. eqb-true _ _ t) (λ t. absurd (true≢false (sym y ∙ or_no _ t ∙ known))),
      λ k. write_answer f codes body room ∙ stop 23 _ (or_yes _ (eq-eqb _ _ k)),
    )

-- A packet of type 16 is carried, whatever its content says: the reader never answers it 23 or 26, and beside 0 the content is raw, all of it the body.
pub carried : (b : List ℕ) → type_in b ≡ 16
    → ((opened b).answer ≡ 23 → ⊥) × ((opened b).answer ≡ 26 → ⊥)
    × ((opened b).answer ≡ 0 → ((opened b).fields.content ≡ content.Raw) × (body_of b ≡ take (content_size b) (drop (3 + 12 * codes_in b) b)))
unfolding opened fields_of body_of kind_of count_of length_bad part_at size
carried b k =
    let kind : kind_in b ≡ Raw = ap kind_of k in
    let count : count_of b ≡ content_size b = ap (λ (g : Kind). count_in (row_of g) (bits b) (content_at b) (content_size b)) kind in
    let right : length_bad b ≡ false = ap not (eq-eqb _ _ (ap₂ content_bytes kind count)) in
    let from : 3 + 12 * codes_in b + part_at (row_of Raw) / 8 ≡ 3 + 12 * codes_in b = omega arith in (
      λ e. true≢false (sym ((read_exact b 1 (omega arith)).0 (sym (read_answer_lem b) ∙ e)).0 ∙ ap is_unknown kind),
      λ e. true≢false (sym ((read_exact b 2 (omega arith)).0 (sym (read_answer_lem b) ∙ e)).0 ∙ right),
      λ e.
          let a : read_answer b ≡ 0 = sym (read_answer_lem b) ∙ e in (
            ap (λ (n : ℕ). (opened_by n b).fields.content) a ∙ ap (λ (g : Kind). content_of g (front_in b) (count_of b)) kind,
            ap (λ (n : ℕ). part_by n (3 + 12 * codes_in b + part_at (row_of (kind_in b)) / 8) (cond (has_entries (kind_in b)) 0 (count_of b)) b) a
                ∙ ap (λ (g : Kind). take (cond (has_entries g) 0 (count_of b)) (drop (3 + 12 * codes_in b + part_at (row_of g) / 8) b)) kind
                ∙ ap₂ (λ (n p : ℕ). take n (drop p b)) count from,
          ),
    )
