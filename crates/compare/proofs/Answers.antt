-- What comparing answers and leaves, one law for each way out of the code. Assumes nothing.
use mathlib.Core.Path.{◌≡◌, refl, sym, ap, ◌∙◌}
use mathlib.Core.Bool.{Bool, true, false, not, true≢false}
use mathlib.Core.List.{List, [], ◌∷◌}
use Prim.Native.Nat.{ℕ, ◌+◌, ◌≤◌, ◌<◌}
use native.Mathlib.Omega.{arith}
use lib.ListN.{length, length-append}
use lib.Seq.{sets}
use lib.Dec.{ltb}
use borrow.Author.Tests.{eq-eqb, ne_eqb, lt-ltb, le-ltb, not-false}
use Rattle.std.specs.Prelude.{Result, Ok, Err, MatchResult, is_ok}
use Rattle.refusal.specs.declared.Refusal.{Refusal}
use Rattle.refusal.specs.Refusal.{number_of, answer_of}
use Rattle.laws.proofs.Cases.{if_yes, if_no, and_yes, and_no}
use Rattle.laws.proofs.Elements.{by_test}
use Rattle.laws.proofs.Writes.{join, from_front}
use Rattle.laws.proofs.Refusals.{not_due}
use Rattle.shelf.specs.Summary.{records_in}
use Rattle.shelf.specs.Shelf.{whole, shelf_cases, shelf_answer}
use Rattle.shelf.proofs.Rules.{at_most}
use Rattle.compare.specs.Differences.{below, longer, differences}
use Rattle.compare.specs.Texts.{last_word, phrase, texts_of, Further, report}
use Rattle.compare.specs.Compare.{room, compare_answer, right_refused, room_refused, compared, compared_into}
use Rattle.std.specs.Prelude.{Result, Ok, Err}
use Rattle.refusal.proofs.Numbers.{some_number, same_number}
use Rattle.compare.specs.declared.Unlisted.{Unlisted}
use Rattle.compare.specs.declared.Unlisted.TheVariants as unlisted
use Rattle.compare.specs.Compare.{Compared, told, no_room}

-- ---- a shelf's refusal, as a side of it
module _ {T : Type 0} where
  pub passed : (r : Result T Refusal) → true ≡ is_ok r → answer_of r ≡ 0
  passed (Ok value) e = refl
  passed (Err d) e = absurd (cc)

  pub refused_as : (P : T → Type 0) (Q : Refusal → Type 0) (r : Result T Refusal) → false ≡ is_ok r → MatchResult r P Q → (d : Refusal) × (answer_of r ≡ number_of d) × Q d
  refused_as P Q (Ok value) e h = absurd (cc)
  refused_as P Q (Err d) e h = (d, refl, h)

-- ---- how many records
shelf_most : (s : List ℕ) → shelf_answer s ≡ 0 → records_in s ≤ 4096
unfolding shelf_answer shelf_cases
shelf_most s e = at_most s (not-false _ (not_due (not (whole s)) 34 _ (λ (z : 34 ≡ 0). omega arith) e).0)

pub longer_most : (l r : List ℕ) (n : ℕ) → n ≡ longer l r → shelf_answer l ≡ 0 → shelf_answer r ≡ 0 → n ≤ 4096
unfolding longer
longer_most l r n e a b =
    let x = shelf_most l a in
    let y = shelf_most r b in
    by_test (ltb (records_in l) (records_in r)) (λ t. omega (arith, e ∙ if_yes (records_in r) (records_in l) t)) (λ t. omega (arith, e ∙ if_no (records_in r) (records_in l) t))

-- ---- the list and its last line are the report
pub report_put : (l r out a c : List ℕ) (n at lines end : ℕ) → n ≡ longer l r → Further 0 0 out (below l r n) at lines a
    → end ≡ at + length (phrase last_word lines (10 ∷ [])) → c ≡ sets a at (phrase last_word lines (10 ∷ []))
    → (end ≡ length (report l r)) × (c ≡ sets out 0 (report l r))
unfolding report differences
report_put l r out a c n at lines end en f ee ec =
    let ds = below l r (longer l r) in
    let g : Further 0 0 out ds at lines a = rw (sym en) f in
    let k : lines ≡ length ds = omega (arith, g.1) in
    let p = phrase last_word (length ds) (10 ∷ []) in (
      omega (arith, ee ∙ ap (λ (j : ℕ). at + length (phrase last_word j (10 ∷ []))) k, g.0, length-append (texts_of ds) p),
      join out a c (texts_of ds) p 0 at g.2 (ec ∙ ap (λ (j : ℕ). sets a at (phrase last_word j (10 ∷ []))) k) g.0,
    )

-- ---- the ways out
module _ (l r out : List ℕ) where
  abbrev Says : ℕ → Bool → ℕ → List ℕ → Type 0
  Says a q n x = (record { answer = a; right = q; length = n } ≡ compared l r out) × (x ≡ compared_into l r out)

  refused : (a : ℕ) (q : Bool) → (a ≡ 0 → ⊥) → compare_answer l r out ≡ a → right_refused l r ≡ q → Says a q 0 out
  unfolding compared compared_into
  refused a q z e f =
      let t = ne_eqb (compare_answer l r out) 0 (λ (y : compare_answer l r out ≡ 0). z (sym e ∙ y)) in
      (rw (t, sym e, sym f) refl, sym (if_no _ _ t))

  pub left_is : (shelf_answer l ≡ 0 → ⊥) → (compare_answer l r out ≡ shelf_answer l) × (right_refused l r ≡ false)
  unfolding compare_answer right_refused
  left_is h = let t = ne_eqb (shelf_answer l) 0 h in (if_no _ _ t, and_no _ t)

  pub left_refused : (a : ℕ) → a ≡ shelf_answer l → (a ≡ 0 → ⊥) → Says a false 0 out
  left_refused a e z = let w = left_is (λ (y : shelf_answer l ≡ 0). z (e ∙ y)) in refused a false z (w.0 ∙ sym e) w.1

  pub room_left : (a : ℕ) → a ≡ shelf_answer l → (a ≡ 0 → ⊥) → false ≡ room_refused l r out
  unfolding room_refused
  room_left a e z = sym (and_no _ (ne_eqb (shelf_answer l) 0 (λ (y : shelf_answer l ≡ 0). z (e ∙ y))))

  module _ (el : shelf_answer l ≡ 0) where
    pub right_is : (shelf_answer r ≡ 0 → ⊥) → (compare_answer l r out ≡ shelf_answer r) × (right_refused l r ≡ true)
    unfolding compare_answer right_refused
    right_is h =
        let s = eq-eqb (shelf_answer l) 0 el in
        let t = ne_eqb (shelf_answer r) 0 h in
        (if_yes _ _ s ∙ if_no _ _ t, and_yes _ s ∙ ap not t)

    pub right_refused_lem : (a : ℕ) → a ≡ shelf_answer r → (a ≡ 0 → ⊥) → Says a true 0 out
    right_refused_lem a e z = let w = right_is (λ (y : shelf_answer r ≡ 0). z (e ∙ y)) in refused a true z (w.0 ∙ sym e) w.1

    pub room_right : (a : ℕ) → a ≡ shelf_answer r → (a ≡ 0 → ⊥) → false ≡ room_refused l r out
    unfolding room_refused
    room_right a e z =
        sym (and_yes _ (eq-eqb (shelf_answer l) 0 el) ∙ and_no _ (ne_eqb (shelf_answer r) 0 (λ (y : shelf_answer r ≡ 0). z (e ∙ y))))

    module _ (er : shelf_answer r ≡ 0) where
      both_stand : room_refused l r out ≡ ltb (length out) room
      unfolding room_refused
      both_stand = and_yes _ (eq-eqb (shelf_answer l) 0 el) ∙ and_yes _ (eq-eqb (shelf_answer r) 0 er)

      pub room_short : length out < room → true ≡ room_refused l r out
      room_short h = sym (both_stand ∙ lt-ltb (length out) room h)

      pub room_enough : room ≤ length out → false ≡ room_refused l r out
      room_enough h = sym (both_stand ∙ le-ltb (length out) room h)

      neither : right_refused l r ≡ false
      unfolding right_refused
      neither = and_yes _ (eq-eqb (shelf_answer l) 0 el) ∙ ap not (eq-eqb (shelf_answer r) 0 er)

      pub short_is : length out < room → (compare_answer l r out ≡ 10) × (right_refused l r ≡ false)
      unfolding compare_answer
      short_is h =
          (if_yes _ _ (eq-eqb (shelf_answer l) 0 el) ∙ if_yes _ _ (eq-eqb (shelf_answer r) 0 er) ∙ if_yes _ _ (lt-ltb (length out) room h), neither)

      pub too_short : length out < room → Says 10 false 0 out
      too_short h = let w = short_is h in refused 10 false (λ (z : 10 ≡ 0). omega arith) w.0 w.1

      pub done_is : room ≤ length out → (compare_answer l r out ≡ 0) × (right_refused l r ≡ false)
      unfolding compare_answer
      done_is h =
          (if_yes _ _ (eq-eqb (shelf_answer l) 0 el) ∙ if_yes _ _ (eq-eqb (shelf_answer r) 0 er) ∙ if_no _ _ (le-ltb (length out) room h), neither)

      pub listed : room ≤ length out → (n : ℕ) (x : List ℕ) → n ≡ length (report l r) → x ≡ sets out 0 (report l r) → n ≤ length out → Says 0 false n x
      unfolding compared compared_into
      listed h n x en ex k =
          let d = (done_is h).0 in
          let t = eq-eqb (compare_answer l r out) 0 d in
          (rw (t, d, neither, en) refl, ex ∙ from_front (report l r) out (omega (arith, en)) ∙ sym (if_yes _ _ t))

-- what is told of a result tells the result
pub told_apart : (r s : Result ℕ Unlisted) → told r ≡ told s → no_room r ≡ no_room s → r ≡ s
told_apart (Ok n) (Ok m) e f = ap {B = Result ℕ Unlisted} (λ k. Ok k) (ap (λ (t : Compared). t.length) e)
told_apart (Ok n) (Err (unlisted.Left d)) e f = absurd (some_number d (sym (ap (λ (t : Compared). t.answer) e)))
told_apart (Ok n) (Err (unlisted.Right d)) e f = absurd (true≢false (sym (ap (λ (t : Compared). t.right) e)))
told_apart (Ok n) (Err unlisted.Room) e f = absurd (true≢false (sym f))
told_apart (Err (unlisted.Left d)) (Ok m) e f = absurd (some_number d (ap (λ (t : Compared). t.answer) e))
told_apart (Err (unlisted.Left d)) (Err (unlisted.Left c)) e f =
    ap {B = Result ℕ Unlisted} (λ x. Err (unlisted.Left x)) (same_number d c (ap (λ (t : Compared). t.answer) e))
told_apart (Err (unlisted.Left d)) (Err (unlisted.Right c)) e f = absurd (true≢false (sym (ap (λ (t : Compared). t.right) e)))
told_apart (Err (unlisted.Left d)) (Err unlisted.Room) e f = absurd (true≢false (sym f))
told_apart (Err (unlisted.Right d)) (Ok m) e f = absurd (true≢false (ap (λ (t : Compared). t.right) e))
told_apart (Err (unlisted.Right d)) (Err (unlisted.Left c)) e f = absurd (true≢false (ap (λ (t : Compared). t.right) e))
told_apart (Err (unlisted.Right d)) (Err (unlisted.Right c)) e f =
    ap {B = Result ℕ Unlisted} (λ x. Err (unlisted.Right x)) (same_number d c (ap (λ (t : Compared). t.answer) e))
told_apart (Err (unlisted.Right d)) (Err unlisted.Room) e f = absurd (true≢false (sym f))
told_apart (Err unlisted.Room) (Ok m) e f = absurd (true≢false f)
told_apart (Err unlisted.Room) (Err (unlisted.Left c)) e f = absurd (true≢false f)
told_apart (Err unlisted.Room) (Err (unlisted.Right c)) e f = absurd (true≢false f)
told_apart (Err unlisted.Room) (Err unlisted.Room) e f = refl
