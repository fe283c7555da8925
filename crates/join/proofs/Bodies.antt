-- The body of a packet that is known to be a part: its text, by the fields of type 15. Assumes nothing.
use mathlib.Core.Path.{◌≡◌, refl, sym, ap, ap₂, ◌∙◌}
use mathlib.Core.List.{List, [], ◌∷◌, ◌++◌}
use mathlib.Core.Bool.{true, false, cond}
use Prim.Native.Nat.{ℕ, zero, suc, ◌+◌, ◌*◌, ◌/◌, ◌<◌, ◌≤◌}
use native.Mathlib.Omega.{arith}
use lib.ListN.{length, take, drop, get_or, set, replicate}
use lib.Seq.{sets, get_or-set_same, get_or-set_other}
use lib.Dec.{eqb}
use borrow.Author.Tests.{eqb-true, eqb-false, le-leb, lt-ltb}
use Rattle.laws.specs.Bits.{at, run, bits}
use Rattle.size.specs.Size.{packet_size}
use Rattle.laws.specs.Scan.{all}
use Rattle.laws.proofs.Cases.{and_yes, and_left, if_yes, if_no}
use Rattle.laws.proofs.Elements.{by_test, all_head, all_tail}
use Rattle.packet.specs.declared.Kind.{Kind}
use Rattle.packet.specs.declared.Kind.TheVariants as kind
use Rattle.format.specs.Format.{size, decode, flat}
use Rattle.format.specs.Reach.{field_read, fields_read}
use Rattle.packet.specs.Table.{kind_of, row_of, count_in}
use Rattle.packet.specs.declared.Content.{Content}
use Rattle.packet.specs.Content.{numbers_of, numbers_in}
use Rattle.packet.specs.Reading.{type_in, codes_in, kind_in, content_at, content_size, count_of, part_at, numbers_at, front_in, back_in, zeros, padded, has_entries, fields_of, read_answer, opened_by, opened, part_by, body_of, text_answer}
use Rattle.packet.proofs.Accepted.{accepted, text_there}
use Rattle.trips.proofs.Answers.{read_answer_lem}
use Rattle.trips.proofs.Text.{text_of_packet}
use Rattle.story.specs.Telling.{head_of}
use Rattle.story.specs.Joining.{lent, set_in, is_part, digits_of, headed, with_head, found}
use Rattle.join.specs.Places.{piece_at, Placed, Ready}
use Rattle.join.proofs.Cuts.{onward, onward_next}

-- ---- what a part is: accepted, of type 15
pub part_text : (b : List ℕ) → is_part b ≡ true → (read_answer b ≡ 0) × (type_in b ≡ 15)
unfolding is_part
part_text b e = text_there b (eqb-true (text_answer b) 0 (and_left (eqb (text_answer b) 0) (eqb (set_in b) 0) e))

pub part_zero : (b : List ℕ) → is_part b ≡ true → read_answer b ≡ 0
part_zero b e = (part_text b e).0

part_kind : (b : List ℕ) → is_part b ≡ true → kind_in b ≡ kind.Text
unfolding kind_of
part_kind b e = ap kind_of (part_text b e).1

-- the set stands 4 bits into the content
pub part_set : (b : List ℕ) → text_answer b ≡ 0 → set_in b ≡ at (bits b) (28 + 96 * codes_in b) 4
unfolding opened fields_of
part_set b e =
    let t = text_there b e in
    let k = ap (λ (a : ℕ). (opened_by a b).fields.typenumber) t.0 ∙ t.1 in
    ap (λ (c : Content). get_or (numbers_of c) 1 0) ((text_of_packet b (read_answer_lem b ∙ t.0)).0 k).2

-- the message number stands 12 bits into it
digits_at : Kind → List ℕ → List ℕ
digits_at f b =
    padded 35 (drop (numbers_in f) (numbers_at (row_of f).before b (content_at b)) ++ numbers_at (row_of f).after b (content_at b + (part_at (row_of f) + count_of b * size (row_of f).each)))

pub part_digits : (b : List ℕ) → is_part b ≡ true → digits_of b ≡ sets (replicate 35 0) 0 (run (bits b) (36 + 96 * codes_in b) 35 4)
unfolding opened fields_of front_in back_in digits_at decode flat run zeros
part_digits b e =
    let p : 24 + 96 * codes_in b + 4 + 4 + 4 ≡ 36 + 96 * codes_in b = omega arith in
    ap (λ (a : ℕ). (opened_by a b).fields.digits) (part_zero b e)
    ∙ ap (λ (f : Kind). digits_at f b) (part_kind b e)
    ∙ ap (λ (q : ℕ). sets (replicate 35 0) 0 (run (bits b) q 35 4)) p

-- so its body stands behind the codes and 20 bytes, with its length in the byte before it
text_at : Kind → List ℕ → List ℕ
text_at f b = take (cond (has_entries f) 0 (count_in (row_of f) (bits b) (content_at b) (content_size b))) (drop (3 + 12 * codes_in b + part_at (row_of f) / 8) b)

text_lead : part_at (row_of kind.Text) / 8 ≡ 20
unfolding part_at size
text_lead = refl

pub part_body : (b : List ℕ) → is_part b ≡ true → body_of b ≡ take (at (bits b) (176 + 96 * codes_in b) 8) (drop (23 + 12 * codes_in b) b)
unfolding body_of count_of text_at size
part_body b e =
    let n = codes_in b in
    let p : 24 + 96 * n + 152 ≡ 176 + 96 * n = omega arith in
    let q : 3 + 12 * n + 20 ≡ 23 + 12 * n = omega arith in
    ap (λ (a : ℕ). part_by a (3 + 12 * n + part_at (row_of (kind_in b)) / 8) (cond (has_entries (kind_in b)) 0 (count_of b)) b) (part_zero b e)
    ∙ ap (λ (f : Kind). text_at f b) (part_kind b e)
    ∙ ap (λ (x : ℕ). take (at (bits b) (24 + 96 * n + 152) 8) (drop (3 + 12 * n + x) b)) text_lead
    ∙ ap₂ (λ (x y : ℕ). take (at (bits b) x 8) (drop y b)) p q

-- ---- no byte is no part, and what is found among parts is one of them, or no byte
none_read : read_answer [] ≡ 0 → ⊥
none_read e = let z = (accepted [] e).least in omega arith

pub part_none : (b : List ℕ) → length b ≡ 0 → is_part b ≡ false
part_none [] h = by_test (is_part []) (λ t. absurd (none_read (part_zero [] t))) (λ t. t)
part_none (x ∷ b) h = absurd (omega arith)

pub found_part : (h : List ℕ) (bs : List (List ℕ)) → all is_part bs ≡ true → (length (with_head h bs) ≡ 0 → ⊥) → is_part (with_head h bs) ≡ true
unfolding with_head
found_part h [] p z = absurd (z refl)
found_part h (b ∷ bs) p z =
    by_test (headed h b)
    (λ t. ap is_part (if_yes b (with_head h bs) t) ∙ all_head is_part b bs p)
    (λ t. let e = if_no b (with_head h bs) t in
    ap is_part e ∙ found_part h bs (all_tail is_part b bs p) (λ y. z (ap length e ∙ y)))

-- of parts that are left, the next is one, and so are the others
pub piece_part : (b : List ℕ) (m i j : ℕ) → m < 10 → i < length b → drop j b ≡ drop (i + packet_size (drop i b)) b → all is_part (onward b m i) ≡ true
    → (is_part (take (packet_size (drop i b)) (drop i b)) ≡ true) × (all is_part (onward b (m + 1) j) ≡ true)
piece_part b m i j h g e p =
    let q = sym (ap (all is_part) (onward_next b m i j h g e)) ∙ p in
    (all_head is_part (take (packet_size (drop i b)) (drop i b)) (onward b (m + 1) j) q, all_tail is_part (take (packet_size (drop i b)) (drop i b)) (onward b (m + 1) j) q)

-- a part has few codes, so its length is within reach
pub part_codes : (b : List ℕ) → is_part b ≡ true → codes_in b ≤ 14
part_codes b e = let a = accepted b (part_zero b e) in omega (arith, a.least, a.most)

-- and so has whatever the reader takes as a text
pub text_codes : (b : List ℕ) → text_answer b ≡ 0 → codes_in b ≤ 14
text_codes b e = let a = accepted b (text_there b e).0 in omega (arith, a.least, a.most)

pub field_is : (l : List ℕ) (p w : ℕ) → p < 65536 → w ≤ 32 → field_read l p w ≡ at l p w
field_is l p w h g = if_yes (at l p w) 0 (and_yes _ (lt-ltb p 65536 h) ∙ le-leb w 32 g)

pub fields_are : (l : List ℕ) (p : ℕ) → p < 65536 → fields_read l p 35 4 0 ≡ run l p 35 4
fields_are l p h = if_yes (run l p 35 4) [] (and_yes _ (and_yes _ (lt-ltb p 65536 h)))

-- ---- every part found, each is one
found_each : (n : ℕ) (bs : List (List ℕ)) (m k j : ℕ) → all is_part (found n bs k m) ≡ true → j < m → is_part (with_head (head_of (k + j + 1) n) bs) ≡ true
unfolding found
found_each n bs zero k j e h = absurd (omega arith)
found_each n bs (suc m) k zero e h =
    let z : k + 0 + 1 ≡ k + 1 = omega arith in
    ap (λ (x : ℕ). is_part (with_head (head_of x n) bs)) z ∙ all_head is_part (with_head (head_of (k + 1) n) bs) (found n bs (k + 1) m) e
found_each n bs (suc m) k (suc j) e h =
    let z : k + 1 + j + 1 ≡ k + suc j + 1 = omega arith in
    ap (λ (x : ℕ). is_part (with_head (head_of x n) bs)) (sym z) ∙ found_each n bs m (k + 1) j (all_tail is_part (with_head (head_of (k + 1) n) bs) (found n bs (k + 1) m) e) (omega arith)

pub ready : (n : ℕ) (b places : List ℕ) → n ≤ 9 → Placed n b places n → all is_part (found n (lent b) 0 n) ≡ true → Ready n b places
ready n b places few p e =
    record { few = few; placed = p; parts = λ k h. let z : 0 + k + 1 ≡ k + 1 = omega arith in ap is_part (p k h) ∙ ap (λ (x : ℕ). is_part (with_head (head_of x n) (lent b))) (sym z) ∙ found_each n (lent b) n 0 k e h }

-- ---- a place more
pub placed_more : (n : ℕ) (b places : List ℕ) (m x : ℕ) → m < length places → Placed n b places m → piece_at b x ≡ with_head (head_of (m + 1) n) (lent b) → Placed n b (set places m x) (m + 1)
placed_more n b places m x l p e k h =
    by_test (eqb k m)
    (λ t. let z = eqb-true k m t in ap (λ (j : ℕ). piece_at b (get_or (set places m x) j 0)) z ∙ ap (piece_at b) (get_or-set_same places m x 0 l) ∙ e ∙ ap (λ (j : ℕ). with_head (head_of (j + 1) n) (lent b)) (sym z))
    (λ t. let z = eqb-false k m t in ap (piece_at b) (get_or-set_other places m k x 0 z) ∙ p k (omega (arith, z)))
