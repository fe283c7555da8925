-- What is left of those parts to test: digits, ranges and entries. Assumes nothing.
use mathlib.Core.Path.{◌≡◌, refl, sym, ap, ap₂, ◌∙◌, subst}
use mathlib.Core.Logic.{◌⊎◌, inl, inr}
use mathlib.Core.Bool.{true, false, ◌&&◌, and-true}
use mathlib.Core.List.{List, [], ◌∷◌, ◌++◌}
use Prim.Native.Nat.{ℕ, zero, suc, ◌*◌}
use native.Mathlib.Nat.{suc-mul}
use native.Mathlib.Omega.{arith}
use lib.ListN.{length, take, drop, length-drop, take-append-drop}
use lib.Seq.{take_at, length-take-le, take_all}
use Rattle.laws.specs.Scan.{all}
use Rattle.format.specs.Format.{fill, times, inside, fine, unmet}
use Rattle.format.proofs.Tables.{unmet_fine, all_times}
use Rattle.packet.specs.declared.Content.{Content}
use Rattle.packet.specs.declared.Kind.{Kind}
use Rattle.packet.specs.Table.{code, ending, row_of}
use Rattle.packet.specs.Content.{kind_for, count_for}
use Rattle.packet.specs.Reading.{has_entries}
use Rattle.packet.specs.Writing.{row_for}
use Rattle.packet.proofs.Good.{good}
use Rattle.laws.proofs.Cases.{and_both, or_no}
use Rattle.writer.specs.Parts.{Lent, rows_fine}
use Rattle.writer.proofs.Contents.{body_whole}
use Rattle.writer.proofs.Fine.{Class, digit, range, two_fine, inside_append}
use Rattle.writer.proofs.Together.{code_need}

-- ---- codes
code_digits_lem : (x : List ℕ) → length x ≡ 23 → fine 25 code (fill code x) ≡ inside 0 9 x
unfolding fine fill
code_digits_lem x h = and-true (inside 0 9 (take 23 x)) ∙ ap (inside 0 9) (take_all 23 x (omega arith))

pub codes_digits : (n : ℕ) (codes : List ℕ) → length codes ≡ n * 23 → fine 25 (times n code) (fill (times n code) codes) ≡ inside 0 9 codes
unfolding times fine inside
codes_digits zero [] h = refl
codes_digits zero (x ∷ codes) h = absurd (omega arith)
codes_digits (suc n) codes h =
    let e = suc-mul n 23 in
    let l : length (take 23 codes) ≡ 23 = length-take-le 23 codes (omega arith) in
    ap (λ (xs : List ℕ). fine 25 (code ++ times n code) (fill (code ++ times n code) xs)) (sym (take-append-drop 23 codes))
    ∙ two_fine 25 code (times n code) (take 23 codes) (drop 23 codes) (l ∙ sym code_need)
    ∙ ap₂ ◌&&◌ (code_digits_lem (take 23 codes) l) (codes_digits n (drop 23 codes) (omega (arith, length-drop 23 codes)))
    ∙ sym (inside_append 0 9 (take 23 codes) (drop 23 codes))
    ∙ ap (inside 0 9) (take-append-drop 23 codes)

pub codes_range : (n : ℕ) (vs : List (List ℕ)) → fine 27 (times n code) vs ≡ true
codes_range n vs = unmet_fine 27 (times n code) vs (all_times (unmet 27) n code refl)

-- ---- what is repeated: only entries are tested
untested : {a : ℕ} → Class a → (f : Kind) → has_entries f ≡ false → all (unmet a) (row_of f).each ≡ true
untested q f n =
    let b = and_both (all (unmet 25) (row_of f).each) (all (unmet 27) (row_of f).each) (sym (or_no _ n) ∙ (good f).octets_pass) in
    by q b.0 b.1
  where
    by : {a : ℕ} → Class a → all (unmet 25) (row_of f).each ≡ true → all (unmet 27) (row_of f).each ≡ true → all (unmet a) (row_of f).each ≡ true
    by digit x y = x
    by range x y = y

pub rows_untested : {a : ℕ} → Class a → (c : Content) (body : List ℕ) → has_entries (kind_for c) ≡ false → rows_fine a c body ≡ true
rows_untested {a} q c body n = unmet_fine a (times (count_for c body) (row_for c).each) _ (all_times (unmet a) (count_for c body) (row_for c).each (untested q (kind_for c) n))

-- ---- what follows the content
pub ending_digits : (time : ℕ) (certificate signature : List ℕ) → length certificate ≡ 12 → fine 25 ending (fill ending (time ∷ (certificate ++ signature))) ≡ inside 0 9 certificate
unfolding fine fill
ending_digits time certificate signature h = rw (take_at certificate signature 12 h, and-true (inside 0 9 certificate))

pub ending_range : (vs : List (List ℕ)) → fine 27 ending vs ≡ true
ending_range vs = unmet_fine 27 ending vs refl

-- ---- an answer that is one of the two, and the entries as they are lent
pub class_of : (a : ℕ) → (a ≡ 25) ⊎ (a ≡ 27) → Class a
class_of a (inl e) = subst Class (sym e) digit
class_of a (inr e) = subst Class (sym e) range

pub entries_are : (a : ℕ) (c : Content) (body : List ℕ) → Lent c body → fine a (times (count_for c body) (row_for c).each) (fill (times (count_for c body) (row_for c).each) body) ≡ rows_fine a c body
entries_are a c body h = rw (body_whole c body h)
