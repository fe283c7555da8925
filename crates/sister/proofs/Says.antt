-- The answers of reader and writer, one law for each way out of the code. Assumes nothing.
use mathlib.Core.Path.{◌≡◌, refl, sym, ap, ◌∙◌}
use mathlib.Core.Bool.{Bool, true, false, not, ◌&&◌, ◌||◌}
use mathlib.Core.List.{List, ◌++◌}
use Prim.Native.Nat.{ℕ, zero, suc, ◌*◌, ◌≤◌, ◌<◌}
use native.Mathlib.Omega.{arith}
use lib.ListN.{length, drop}
use lib.Seq.{sets}
use lib.Dec.{eqb, ltb}
use borrow.Author.Tests.{lt-ltb, le-ltb, ltb-false}
use Rattle.laws.specs.Bits.{bits, Under}
use Rattle.laws.specs.Refusals.{first}
use Rattle.laws.proofs.Refusals.{stop, pass, none_left, not_due}
use Rattle.format.specs.Format.{times, encode, decode, inside, fine, unmet}
use Rattle.laws.specs.Scan.{all}
use Rattle.format.proofs.Round.{under_encode}
use Rattle.packet.specs.Table.{code}
use Rattle.packet.proofs.Refused.{not_written_lem}
use Rattle.writer.proofs.Rows.{encode_size}
use Rattle.writer.proofs.Written.{bytes_put}
use Rattle.sister.specs.declared.Kind.{Kind}
use Rattle.sister.specs.declared.Command.{Command}
use Rattle.sister.specs.declared.parts.Layout.{Layout}
use Rattle.sister.specs.Table.{is_unknown_kind, row_for, command_lines, parts_of, kind_for, count_for, no_day}
use Rattle.sister.specs.Reading as reading
use Rattle.sister.specs.Reading.{kind_in, count_of, table_of, values_in, command_in, length_bad, read_cases, read_answer, opened_by, refused_as}
use Rattle.sister.specs.Writing.{size_for, table_for, numbers_for, values_for, bytes_for, count_bad, digit_bad, field_bad, write_cases, written_answer, written, command_output}
use Rattle.sister.specs.Layout.{layout_of, fields_fine}
use Rattle.sister.proofs.Found as found
use Rattle.sister.proofs.Put as put
use Rattle.sister.proofs.Put.{counted}
use Rattle.sister.proofs.Rows as rows
use Rattle.sister.proofs.There as there

both : (x y : Bool) → (x && not y) ≡ not (not x || y)
both true true = refl
both true false = refl
both false y = refl

-- ---- reading
pub judged : (a : ℕ) → eqb 0 a ≡ false → eqb 26 a ≡ false → ((f : Kind) → all (unmet a) (row_for f).before ≡ true) → (b : List ℕ) (l : Layout) → l ≡ layout_of (kind_in b) (count_of b)
    → fine a (times l.codes code) (decode (times l.codes code) (bits b) l.place) ≡ fine a (table_of b) (values_in b)
unfolding table_of
judged a e0 e26 h b l e = rw e (sym (found.codes_only a e0 e26 (kind_in b) (count_of b) (h (kind_in b)) (bits b)))

module _ (b : List ℕ) where
  pub fields_are : fields_fine (command_in b) ≡ not (reading.field_bad b)
  unfolding fields_fine reading.field_bad
  fields_are = ap (λ (x : Bool). x && not (no_day (command_in b))) (sym (found.fine_27 b)) ∙ both (fine 27 (table_of b) (values_in b)) (no_day (command_in b))

  pub says_24 : fine 24 (table_of b) (values_in b) ≡ false → 24 ≡ first (drop 3 (read_cases b))
  says_24 e = sym (stop _ _ (ap not e))

  module _ (p : fine 24 (table_of b) (values_in b) ≡ true) where
    pub says_25 : fine 25 (table_of b) (values_in b) ≡ false → 25 ≡ first (drop 3 (read_cases b))
    says_25 e = sym (pass _ _ (ap not p) ∙ stop _ _ (ap not e))

    module _ (q : fine 25 (table_of b) (values_in b) ≡ true) where
      pub says_27 : reading.field_bad b ≡ true → 27 ≡ first (drop 3 (read_cases b))
      says_27 e = sym (pass _ _ (ap not p) ∙ pass _ _ (ap not q) ∙ stop _ _ e)

      pub says_0 : reading.field_bad b ≡ false → 0 ≡ first (drop 3 (read_cases b))
      says_0 e = sym (pass _ _ (ap not p) ∙ pass _ _ (ap not q) ∙ pass _ _ e ∙ none_left)

  pub says_short : length b < 3 → 26 ≡ read_answer b
  unfolding read_answer
  says_short h = sym (stop _ _ (lt-ltb _ _ h))

  module _ (s : 3 ≤ length b) where
    pub says_39 : is_unknown_kind (kind_in b) ≡ true → 39 ≡ read_answer b
    unfolding read_answer
    says_39 e = sym (pass _ _ (le-ltb _ _ s) ∙ stop _ _ e)

    module _ (u : is_unknown_kind (kind_in b) ≡ false) where
      pub says_26 : length_bad b ≡ true → 26 ≡ read_answer b
      unfolding read_answer
      says_26 e = sym (pass _ _ (le-ltb _ _ s) ∙ pass _ _ u ∙ stop _ _ e)

      pub then_lines : length_bad b ≡ false → (a : ℕ) → a ≡ first (drop 3 (read_cases b)) → a ≡ read_answer b
      unfolding read_answer
      then_lines l a e = e ∙ sym (pass _ _ (le-ltb _ _ s) ∙ pass _ _ u ∙ pass _ _ l)

pub not_opened : (a : ℕ) (b : List ℕ) → (a ≡ 0 → ⊥) → opened_by a b ≡ refused_as a
not_opened zero b h = absurd (h refl)
not_opened (suc a) b h = refl

-- ---- writing
module _ (c : Command) (address codes : List ℕ) (room : ℕ) where
  pub writes_39 : is_unknown_kind (kind_for c) ≡ true → 39 ≡ written_answer c address codes room
  unfolding written_answer
  writes_39 e = sym (stop _ _ e)

  module _ (u : is_unknown_kind (kind_for c) ≡ false) where
    pub writes_26 : count_bad c address codes ≡ true → 26 ≡ written_answer c address codes room
    unfolding written_answer
    writes_26 e = sym (pass _ _ u ∙ stop _ _ e)

    pub then_rest : count_bad c address codes ≡ false → (a : ℕ) → a ≡ first (drop 2 (write_cases c address codes room)) → a ≡ written_answer c address codes room
    unfolding written_answer
    then_rest k a e = e ∙ sym (pass _ _ u ∙ pass _ _ k)

  module _ (k : count_bad c address codes ≡ false) where
    digits_are : digit_bad c address codes ≡ not (inside 0 9 codes)
    unfolding digit_bad
    digits_are = ap not (put.fine_25 c address codes (counted c address codes k))

    taken_are : fields_fine c ≡ not (field_bad c address codes)
    unfolding fields_fine field_bad
    taken_are = ap (λ (x : Bool). x && not (no_day c)) (sym (put.fine_27 c address codes (counted c address codes k))) ∙ both (fine 27 (table_for c) (values_for c address codes)) (no_day c)

    bad_is : (x : Bool) → fields_fine c ≡ not x → field_bad c address codes ≡ x
    bad_is x e = turn (field_bad c address codes) x (sym taken_are ∙ e)
      where
        turn : (x y : Bool) → not x ≡ not y → x ≡ y
        turn true true h = refl
        turn true false h = ap not h
        turn false true h = ap not h
        turn false false h = refl

    pub writes_25 : inside 0 9 codes ≡ false → 25 ≡ first (drop 2 (write_cases c address codes room))
    writes_25 e = sym (stop _ _ (digits_are ∙ ap not e))

    module _ (d : inside 0 9 codes ≡ true) where
      pub writes_27 : fields_fine c ≡ false → 27 ≡ first (drop 2 (write_cases c address codes room))
      writes_27 e = sym (pass _ _ (digits_are ∙ ap not d) ∙ stop _ _ (bad_is true e))

      module _ (t : fields_fine c ≡ true) where
        pub writes_10 : room < size_for c → 10 ≡ first (drop 2 (write_cases c address codes room))
        writes_10 h = sym (pass _ _ (digits_are ∙ ap not d) ∙ pass _ _ (bad_is false t) ∙ stop _ _ (lt-ltb _ _ h))

        pub writes_0 : size_for c ≤ room → 0 ≡ first (drop 2 (write_cases c address codes room))
        writes_0 h = sym (pass _ _ (digits_are ∙ ap not d) ∙ pass _ _ (bad_is false t) ∙ pass _ _ (le-ltb _ _ h) ∙ none_left)

-- what an answer of 0 says
pub passed : (c : Command) (address codes : List ℕ) (room : ℕ) → written_answer c address codes room ≡ 0 → (count_bad c address codes ≡ false) × (size_for c ≤ room)
unfolding written_answer
passed c address codes room e =
    let a = not_due _ 39 _ (λ h. omega arith) e in
    let b = not_due (count_bad c address codes) 26 _ (λ h. omega arith) a.1 in
    let d = not_due (digit_bad c address codes) 25 _ (λ h. omega arith) b.1 in
    let f = not_due (field_bad c address codes) 27 _ (λ h. omega arith) d.1 in
    let r = not_due (ltb room (size_for c)) 10 _ (λ h. omega arith) f.1 in
    (b.0, ltb-false room (size_for c) r.0)

-- the ways out of `write`
module _ (c : Command) (address codes out : List ℕ) where
  pub refused : (a : ℕ) → a ≡ written_answer c address codes (length out) → (a ≡ 0 → ⊥) → (record { answer = a; length = 0 } ≡ written c address codes (length out)) × (out ≡ command_output c address codes out)
  unfolding written command_output
  refused a e n =
      let w = not_written_lem a (size_for c) (bytes_for c address codes) out n in
      rw (← e) (sym w.0, sym w.1)

  bits_long : count_bad c address codes ≡ false → length (encode (table_for c) (values_for c address codes)) ≡ 8 * size_for c
  unfolding table_for numbers_for
  bits_long k =
      let h = counted c address codes k in
      let n = there.numbers_all c address codes h.address_long h.codes_long in
      encode_size (command_lines (kind_for c) (count_for c)) ((parts_of c).numbers ++ (address ++ codes)) (omega (arith, n)) ∙ rows.whole_size (kind_for c) (count_for c)

  pub done : (last : List ℕ) (p : ℕ) → written_answer c address codes (length out) ≡ 0 → Under 256 last → Under 256 out → p ≡ size_for c
      → bits last ≡ sets (bits out) 0 (encode (table_for c) (values_for c address codes)) → (record { answer = 0; length = p } ≡ written c address codes (length out)) × (last ≡ command_output c address codes out)
  unfolding written command_output bytes_for
  done last p e ul uo ep w =
      let g = passed c address codes (length out) e in
      rw (e, ep) (refl, bytes_put last out (encode (table_for c) (values_for c address codes)) (size_for c) ul uo (under_encode (table_for c) (values_for c address codes)) (bits_long g.0) g.1 w)
