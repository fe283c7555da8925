-- The text of a packet that a reader accepts: the body of a type 15 packet, of exactly its stated length. Assumes nothing.
use mathlib.Core.Path.{◌≡◌, sym, ap, ap₂, ◌∙◌}
use mathlib.Core.List.{List, []}
use mathlib.Core.Bool.{Bool, not}
use Prim.Native.Nat.{ℕ, ◌+◌, ◌*◌}
use native.Mathlib.Omega.{arith}
use lib.ListN.{length, take, drop, length-drop}
use lib.Seq.{length-take-le}
use borrow.Author.Tests.{eq-eqb, ne_eqb}
use Rattle.laws.specs.Bits.{at, run, bits}
use Rattle.format.specs.Format.{decode, flat}
use Rattle.packet.specs.declared.Kind.{Kind}
use Rattle.packet.specs.declared.Kind.TheVariants.{Text}
use Rattle.packet.specs.declared.Content.TheVariants as content
use Rattle.packet.specs.Table.{kind_of, row_of}
use Rattle.packet.specs.Content.{content_of}
use Rattle.packet.specs.Reading.{type_in, codes_in, kind_in, content_at, count_of, numbers_at, front_in, content_in, fields_of, read_answer, opened_by, opened, part_by, body_of, text_answer, text_of}
use Rattle.packet.proofs.Accepted.{accepted, later, text_later, text_from, text_inside}
use Rattle.packet.proofs.Refused.{no_part}
use Rattle.trips.proofs.Answers.{read_answer_lem}

module _ (b : List ℕ) (a : read_answer b ≡ 0) where
  kind_is : (opened b).fields.typenumber ≡ type_in b
  unfolding opened fields_of
  kind_is = ap (λ (n : ℕ). (opened_by n b).fields.typenumber) a

  content_is : (opened b).fields.content ≡ content_in b
  unfolding opened fields_of
  content_is = ap (λ (n : ℕ). (opened_by n b).fields.content) a

  module _ (k : type_in b ≡ 15) where
    number_0 : text_answer b ≡ 0
    number_0 = text_later b ∙ ap₂ (λ (n : ℕ) (t : Bool). later n (not t)) a (eq-eqb (type_in b) 15 k)

    part_is : text_of b ≡ take (count_of b) (drop (23 + 12 * codes_in b) b)
    unfolding text_of
    part_is = ap (λ (n : ℕ). part_by n (23 + 12 * codes_in b) (count_of b) b) number_0

    pub is_body : text_of b ≡ body_of b
    unfolding body_of
    is_body = let t = text_from b k in part_is ∙ sym (ap₂ (λ (p n : ℕ). part_by (read_answer b) p n b) t.0 t.1 ∙ ap (λ (n : ℕ). part_by n (23 + 12 * codes_in b) (count_of b) b) a)

    is_long : length (text_of b) ≡ count_of b
    is_long = ap length part_is ∙ length-take-le (count_of b) (drop (23 + 12 * codes_in b) b) (omega (arith, length-drop (23 + 12 * codes_in b) b, text_inside b (accepted b a) k))

    says_text : content_in b ≡ content.Text (at (bits b) (24 + 96 * codes_in b) 4) (at (bits b) (28 + 96 * codes_in b) 4) (count_of b)
    unfolding front_in decode flat run kind_of
    says_text =
        let f : kind_in b ≡ Text = ap kind_of k in
        let p : 24 + 96 * codes_in b + 4 ≡ 28 + 96 * codes_in b = omega arith in
        ap (λ (g : Kind). content_of g (numbers_at (row_of g).before b (content_at b)) (count_of b)) f
        ∙ ap (λ (q : ℕ). content.Text (at (bits b) (24 + 96 * codes_in b) 4) (at (bits b) q 4) (count_of b)) p

-- Of every packet that the reader accepts: for type 15 the text's number is 0, the text is the body, and it is of exactly the length t that the content
-- says, beside kind and set; for any other type the number is 27, and no byte is handed back.
pub text_of_packet : (b : List ℕ) → (opened b).answer ≡ 0
    → ((opened b).fields.typenumber ≡ 15 → (text_answer b ≡ 0) × (text_of b ≡ body_of b)
    × ((opened b).fields.content ≡ content.Text (at (bits b) (24 + 96 * codes_in b) 4) (at (bits b) (28 + 96 * codes_in b) 4) (length (text_of b))))
    × (((opened b).fields.typenumber ≡ 15 → ⊥) → (text_answer b ≡ 27) × (text_of b ≡ []))
unfolding text_of
text_of_packet b e =
    let a = sym (read_answer_lem b) ∙ e in
    let n : ((opened b).fields.typenumber ≡ 15 → ⊥) → text_answer b ≡ 27 = λ h. text_later b ∙ ap₂ (λ (n : ℕ) (t : Bool). later n (not t)) a (ne_eqb (type_in b) 15 (λ z. h (kind_is b a ∙ z))) in (
      λ h. let k = sym (kind_is b a) ∙ h in (
        number_0 b a k,
        is_body b a k,
        content_is b a ∙ says_text b a k ∙ ap (λ (t : ℕ). content.Text (at (bits b) (24 + 96 * codes_in b) 4) (at (bits b) (28 + 96 * codes_in b) 4) t) (sym (is_long b a k)),
      ),
      λ h. (n h, no_part (text_answer b) (23 + 12 * codes_in b) (count_of b) b (λ (z : text_answer b ≡ 0). let w = sym (n h) ∙ z in omega arith)),
    )
