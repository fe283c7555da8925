-- What `tell` answers, by the tests of the code. Assumes nothing.
use mathlib.Core.Path.{◌≡◌, refl, sym, ap, ap₂, ◌∙◌}
use mathlib.Core.List.{List, [], ◌∷◌}
use mathlib.Core.Bool.{Bool, true, false}
use Prim.Native.Nat.{ℕ, zero, suc, ◌+◌, ◌-◌, ◌*◌, ◌≤◌, ◌<◌}
use native.Mathlib.Nat.{suc-mul, le_trans, mul-le-mul_left, mul-le-mul_right}
use native.Mathlib.Omega.{arith}
use lib.ListN.{length, length-append}
use lib.Seq.{sets}
use lib.Dec.{leb, ltb}
use borrow.Author.Tests.{leb-true, lt-ltb, le-ltb}
use Rattle.laws.specs.Scan.{all}
use Rattle.laws.specs.Refusals.{first, none, apart, among}
use Rattle.laws.proofs.Cases.{if_yes, if_no}
use Rattle.laws.proofs.Elements.{by_test, first_append, all_head, all_tail}
use Rattle.laws.proofs.Refusals.{done, stop, pass, none_left, not_due}
use Rattle.laws.proofs.Writes.{from_front}
use Rattle.packet.specs.Table.{kind_of}
use Rattle.packet.specs.Reading.{is_unknown}
use Rattle.packet.specs.Writing.{size_for, count_bad, digit_bad, not_taken, written_answer, output_by}
use Rattle.story.specs.declared.Story.{Story}
use Rattle.story.specs.Telling.{Told, head_of, room_with, last_four, own_cases, later_cases, part_texts, part_count, part_packet, packets_from, packets_of, bytes_of, told_answer, told_by, told, tell_output}
use Rattle.story.specs.Characters.{characters, lone, parted}
use Rattle.laws.specs.Lists.{together}
use Rattle.story.proofs.Dealing.{some_part}
use Rattle.story.proofs.Whole.{whole_characters}
use Rattle.story.specs.Given.{Lengths}
use Rattle.story.proofs.Part.{bare, own_written, few_codes, part_long}
use Rattle.tell.specs.Steps.{parts_from}

own_apart : (s : Story) (codes : List ℕ) → apart (own_cases s codes) ≡ true
unfolding apart among
own_apart s codes = refl

-- ---- the packet writer's answer for a part with no text
module _ (s : Story) (codes : List ℕ) where
  abbrev w : ℕ
  w = written_answer (bare s) codes (head_of 1 1) 250

  pub own_zero : w ≡ 0 → first (own_cases s codes) ≡ 0
  unfolding written_answer
  own_zero e =
      let a = not_due (is_unknown (kind_of 15)) 23 _ (λ h. omega arith) e in
      let b = not_due (count_bad (bare s) codes (head_of 1 1)) 26 _ (λ h. omega arith) a.1 in
      let d = not_due (digit_bad (bare s) codes (head_of 1 1)) 25 _ (λ h. omega arith) b.1 in
      let g = not_due (not_taken (bare s) codes (head_of 1 1)) 27 _ (λ h. omega arith) d.1 in
      let h = not_due (ltb 250 (size_for (bare s) (head_of 1 1))) 20 _ (λ h. omega arith) g.1 in
      pass 23 _ a.0 ∙ pass 26 _ b.0 ∙ pass 25 _ d.0 ∙ pass 27 _ g.0 ∙ pass 20 _ h.0 ∙ none_left

  pub own_refused : (text : List ℕ) (room : ℕ) → (w ≡ 0 → ⊥) → told_answer s codes text room ≡ w
  unfolding told_answer written_answer
  own_refused text room h =
      by_test (none (own_cases s codes))
      (λ t. absurd (h (own_written s codes ((done (own_cases s codes) (own_apart s codes)).1 t))))
      (λ t.
      first_append (own_cases s codes) (later_cases s codes text room) ∙ if_no _ _ t
      ∙ sym (first_append (own_cases s codes) ((ltb 250 (size_for (bare s) (head_of 1 1)), 10) ∷ []) ∙ if_no _ _ t))

-- ---- a refusal
by_answer : (a : ℕ) (n m : ℕ) (xs out : List ℕ) → (a ≡ 0 → ⊥) → (◌≡◌ {A = Told} (record { answer = a; parts = 0; length = 0 }) (told_by a n m)) × (out ≡ output_by a xs out)
by_answer zero n m xs out h = absurd (h refl)
by_answer (suc a) n m xs out h = (refl, refl)

pub refused_as : (s : Story) (codes text out : List ℕ) (r : Told) (a : ℕ) → r ≡ record { answer = a; parts = 0; length = 0 } → told_answer s codes text (length out) ≡ a → (a ≡ 0 → ⊥) → (r ≡ told s codes text (length out)) × (out ≡ tell_output s codes text out)
unfolding told tell_output
refused_as s codes text out r a q e h =
    let z = by_answer a (part_count s text) (length (bytes_of s codes text)) (bytes_of s codes text) out h in (
      q ∙ z.0 ∙ ap (λ (x : ℕ). told_by x (part_count s text) (length (bytes_of s codes text))) (sym e),
      z.1 ∙ ap (λ (x : ℕ). output_by x (bytes_of s codes text) out) (sym e),
    )

-- ---- the later cases, once the first are passed
module _ (s : Story) (codes text : List ℕ) (own : first (own_cases s codes) ≡ 0) where
  later : (room : ℕ) → told_answer s codes text room ≡ first (later_cases s codes text room)
  unfolding told_answer
  later room = first_append (own_cases s codes) (later_cases s codes text room) ∙ if_yes _ _ ((done (own_cases s codes) (own_apart s codes)).0 own)

  pub says_30 : (room : ℕ) → lone text ≡ true → told_answer s codes text room ≡ 30
  says_30 room l = later room ∙ stop 30 _ l

  module _ (room : ℕ) (l : lone text ≡ false) where
    pub says_31 : 9 < part_count s text → told_answer s codes text room ≡ 31
    says_31 h = later room ∙ pass 30 _ l ∙ stop 31 _ (lt-ltb 9 (part_count s text) h)

    module _ (f : part_count s text ≤ 9) where
      pub says_32 : 9999 < last_four s.digits + (part_count s text - 1) → told_answer s codes text room ≡ 32
      says_32 h = later room ∙ pass 30 _ l ∙ pass 31 _ (le-ltb 9 (part_count s text) f) ∙ stop 32 _ (lt-ltb 9999 _ h)

      module _ (d : last_four s.digits + (part_count s text - 1) ≤ 9999) where
        pub says_10 : room < length (bytes_of s codes text) → told_answer s codes text room ≡ 10
        says_10 h = later room ∙ pass 30 _ l ∙ pass 31 _ (le-ltb 9 (part_count s text) f) ∙ pass 32 _ (le-ltb 9999 _ d) ∙ stop 10 [] (lt-ltb room _ h)

        pub says_0 : length (bytes_of s codes text) ≤ room → told_answer s codes text room ≡ 0
        says_0 h = later room ∙ pass 30 _ l ∙ pass 31 _ (le-ltb 9 (part_count s text) f) ∙ pass 32 _ (le-ltb 9999 _ d) ∙ pass 10 [] (le-ltb room _ h) ∙ none_left

-- ---- numbers of the code
pub count_is : (s : Story) (text : List ℕ) (r n : ℕ) → r ≡ room_with s.codes → n ≡ parts_from r r text → n ≡ part_count s text
unfolding parts_from parted
count_is s text r n e f = f ∙ ap (λ (x : ℕ). length (parted x text)) e

pub count_some : (s : Story) (text : List ℕ) → 1 ≤ part_count s text
unfolding parted
count_some s text = some_part (room_with s.codes) (room_with s.codes) (characters text)

abbrev short : ℕ → List ℕ → Bool
short r p = leb (length p) r

module _ (s : Story) (codes : List ℕ) (y : Lengths s) (own : first (own_cases s codes) ≡ 0) (each : ℕ) (size : each ≡ 101 + 12 * s.codes) where
  long_all : (n : ℕ) (ps : List (List ℕ)) (k : ℕ) → all (short (room_with s.codes)) ps ≡ true → length (together (packets_from s codes n k ps)) ≡ length ps * each + length (together ps)
  unfolding packets_from together
  long_all n [] k h = omega arith
  long_all n (p ∷ ps) k h =
      let f = leb-true (length p) (room_with s.codes) (all_head (short (room_with s.codes)) p ps h) in
      let i = long_all n ps (k + 1) (all_tail (short (room_with s.codes)) p ps h) in
      length-append (part_packet s codes n k p) (together (packets_from s codes n (k + 1) ps))
      ∙ omega (arith, part_long s codes y own n k p f, i, length-append p (together ps), suc-mul (length ps) each)

  pub bytes_long : (text : List ℕ) → lone text ≡ false → length (bytes_of s codes text) ≡ part_count s text * each + length text
  unfolding bytes_of packets_of
  bytes_long text l =
      let w = whole_characters (room_with s.codes) text l in
      long_all (part_count s text) (part_texts s text) 0 (w.3 (omega (arith, few_codes s codes y own))) ∙ ap (λ (t : List ℕ). part_count s text * each + length t) w.0

-- so nothing runs over
small_all : (r : ℕ) (ps : List (List ℕ)) → all (short r) ps ≡ true → length (together ps) ≤ length ps * r
unfolding together
small_all r [] h = omega arith
small_all r (p ∷ ps) h =
    omega (arith, leb-true (length p) r (all_head (short r) p ps h), small_all r ps (all_tail (short r) p ps h), length-append p (together ps), suc-mul (length ps) r)

pub mul_small : (n m b : ℕ) → n ≤ 9 → m ≤ b → n * m ≤ 9 * b
mul_small n m b h g = le_trans (mul-le-mul_left n g) (mul-le-mul_right b h)

pub text_small : (s : Story) (text : List ℕ) → lone text ≡ false → 2 ≤ room_with s.codes → part_count s text ≤ 9 → length text ≤ 1341
text_small s text l g h =
    let r = room_with s.codes in
    let w = whole_characters r text l in
    omega (arith, ap length w.0, small_all r (part_texts s text) (w.3 g), mul_small (part_count s text) r 149 h (omega arith))

pub done_as : (s : Story) (codes text out out'' : List ℕ) (r : Told) (n m : ℕ) → r ≡ record { answer = 0; parts = n; length = m } → n ≡ part_count s text → m ≡ length (bytes_of s codes text) → told_answer s codes text (length out) ≡ 0
    → m ≤ length out → out'' ≡ sets out 0 (bytes_of s codes text) → (r ≡ told s codes text (length out)) × (out'' ≡ tell_output s codes text out)
unfolding told tell_output
done_as s codes text out out'' r n m q e f z h o = (
  q ∙ ap₂ (λ (x v : ℕ). told_by 0 x v) e f ∙ ap (λ (x : ℕ). told_by x (part_count s text) (length (bytes_of s codes text))) (sym z),
  o ∙ from_front (bytes_of s codes text) out (omega arith) ∙ ap (λ (x : ℕ). output_by x (bytes_of s codes text) out) (sym z),
)
