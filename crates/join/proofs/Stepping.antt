-- The parts as they are found: their numbers in step, and their texts, one part at a time. Assumes nothing.
use mathlib.Core.Path.{◌≡◌, refl, sym, ap, ◌∙◌}
use mathlib.Core.List.{List, [], ◌∷◌, ◌++◌}
use mathlib.Core.Bool.{true, false, cond, ◌&&◌}
use Prim.Native.Nat.{ℕ, zero, suc, ◌+◌, ◌-◌, ◌*◌, ◌/◌, ◌≤◌, ◌<◌}
use native.Mathlib.Omega.{arith}
use lib.ListN.{length, take, drop, length-drop, length-append}
use lib.Seq.{sets, length-sets}
use Rattle.laws.proofs.Cases.{and_yes, and_no}
use Rattle.laws.proofs.Writes.{sets_append}
use Rattle.packet.specs.Table.{row_of}
use Rattle.packet.specs.Reading.{codes_in, kind_in, count_of, part_at, has_entries, read_answer, part_by, body_of}
use Rattle.packet.proofs.Accepted.{accepted}
use Rattle.story.specs.Telling.{head_of}
use Rattle.story.specs.Joining.{digits_of, is_after, with_head, found, in_step, all_in_step, texts}
use Rattle.join.proofs.Finding.{found_first, found_next, found_end}

-- ---- numbers in step
step_cons : (ds : List ℕ) (k : ℕ) (b : List ℕ) (bs : List (List ℕ)) → in_step ds k (b ∷ bs) ≡ (is_after (digits_of b) ds k && in_step ds (k + 1) bs)
unfolding in_step
step_cons ds k b bs = refl

step_none : (ds : List ℕ) (k : ℕ) → in_step ds k [] ≡ true
unfolding in_step
step_none ds k = refl

module _ (n : ℕ) (bs : List (List ℕ)) where
  -- what part k + 1 is
  abbrev pub nth : ℕ → List ℕ
  nth k = with_head (head_of (k + 1) n) bs

  -- what is left of the parts
  abbrev pub left : ℕ → List (List ℕ)
  left k = found n bs k (n - k)

  pub steps_first : (ds : List ℕ) → 1 ≤ n → ds ≡ digits_of (nth 0) → all_in_step (found n bs 0 n) ≡ in_step ds 0 (left 0)
  steps_first ds h e =
      let f = found_next n bs 0 (omega arith) in
      ap all_in_step (found_first n bs ∙ f) ∙ ap (λ (d : List ℕ). in_step d 0 (nth 0 ∷ left 1)) (sym e) ∙ ap (in_step ds 0) (sym f)

  pub steps_next : (ds : List ℕ) (k : ℕ) → k < n → is_after (digits_of (nth k)) ds k ≡ true → in_step ds k (left k) ≡ in_step ds (k + 1) (left (k + 1))
  steps_next ds k h e = ap (in_step ds k) (found_next n bs k h) ∙ step_cons ds k (nth k) (left (k + 1)) ∙ and_yes _ e

  pub steps_stop : (ds : List ℕ) (k : ℕ) → k < n → is_after (digits_of (nth k)) ds k ≡ false → in_step ds k (left k) ≡ false
  steps_stop ds k h e = ap (in_step ds k) (found_next n bs k h) ∙ step_cons ds k (nth k) (left (k + 1)) ∙ and_no _ e

  pub steps_end : (ds : List ℕ) (k : ℕ) → n ≤ k → in_step ds k (left k) ≡ true
  steps_end ds k h = ap (in_step ds k) (found_end n bs k h) ∙ step_none ds k

  -- ---- texts
  abbrev pub text_at : ℕ → List ℕ
  text_at k = drop 4 (body_of (nth k))

  pub texts_first : texts (found n bs 0 n) ≡ texts (left 0)
  texts_first = ap texts (found_first n bs)

  pub texts_next : (k : ℕ) → k < n → texts (left k) ≡ text_at k ++ texts (left (k + 1))
  unfolding texts
  texts_next k h = ap texts (found_next n bs k h)

  pub texts_end : (k : ℕ) → n ≤ k → texts (left k) ≡ []
  unfolding texts
  texts_end k h = ap texts (found_end n bs k h)

-- a packet that is read has at most 250 bytes, and one that is refused no body
take_short : (k : ℕ) (l : List ℕ) → length (take k l) ≤ length l
take_short zero l = omega arith
take_short (suc k) [] = omega arith
take_short (suc k) (x ∷ l) = omega (arith, take_short k l)

part_small : (a from k : ℕ) (b : List ℕ) → (a ≡ 0 → length b ≤ 250) → length (part_by a from k b) ≤ 250
part_small zero from k b h = omega (arith, take_short k (drop from b), length-drop from b, h refl)
part_small (suc a) from k b h = omega arith

pub text_small : (b : List ℕ) → length (drop 4 (body_of b)) ≤ 250
unfolding body_of
text_small b = omega (arith, length-drop 4 (body_of b), part_small (read_answer b) (3 + 12 * codes_in b + part_at (row_of (kind_in b)) / 8) (cond (has_entries (kind_in b)) 0 (count_of b)) b (λ e. (accepted b e).most))

-- ---- how long: a loop's turn
pub long_next : (n : ℕ) (bs : List (List ℕ)) (k all sum : ℕ) (t : List ℕ) → k < n → all ≡ sum + length (texts (left n bs k)) → t ≡ text_at n bs k → all ≡ sum + length t + length (texts (left n bs (k + 1)))
long_next n bs k all sum t h e f = omega (arith, e, ap length (texts_next n bs k h), length-append (text_at n bs k) (texts (left n bs (k + 1))), ap length f)

pub long_end : (n : ℕ) (bs : List (List ℕ)) (k all sum : ℕ) → n ≤ k → all ≡ sum + length (texts (left n bs k)) → sum ≡ all
long_end n bs k all sum h e = omega (arith, e, ap length (texts_end n bs k h))

-- ---- the texts, put one behind the other: k parts and p bytes of the output are done
pub record Putting (n : ℕ) (bs : List (List ℕ)) (out₀ out : List ℕ) (p k : ℕ) : Type 0 where
  pub goes : sets out₀ 0 (texts (found n bs 0 n)) ≡ sets out p (texts (left n bs k))
  pub kept : length out ≡ length out₀
  pub ends : p + length (texts (left n bs k)) ≡ length (texts (found n bs 0 n))

pub putting_first : (n : ℕ) (bs : List (List ℕ)) (out : List ℕ) → Putting n bs out out 0 0
putting_first n bs out = record { goes = ap (sets out 0) (texts_first n bs); kept = refl; ends = omega (arith, ap length (texts_first n bs)) }

module _ (n : ℕ) (bs : List (List ℕ)) (out₀ out : List ℕ) (p k : ℕ) (g : Putting n bs out₀ out p k) (h : k < n) (t : List ℕ) (e : t ≡ text_at n bs k) where
  pub putting_room : p + (length t + length (texts (left n bs (k + 1)))) ≡ length (texts (found n bs 0 n))
  putting_room = omega (arith, g.ends, ap length (texts_next n bs k h), length-append (text_at n bs k) (texts (left n bs (k + 1))), ap length e)

  pub putting_next : (out'' : List ℕ) → out'' ≡ sets out p t → Putting n bs out₀ out'' (p + length t) (k + 1)
  putting_next out'' f =
      let B = texts (left n bs (k + 1)) in
      record {
        goes = g.goes ∙ ap (sets out p) (texts_next n bs k h ∙ ap (λ (l : List ℕ). l ++ B) (sym e)) ∙ sets_append t B out p ∙ ap (λ (o : List ℕ). sets o (p + length t) B) (sym f);
        kept = ap length f ∙ length-sets out p t ∙ g.kept;
        ends = omega (arith, putting_room);
      }

pub putting_last : (n : ℕ) (bs : List (List ℕ)) (out₀ out : List ℕ) (p k : ℕ) → Putting n bs out₀ out p k → n ≤ k → out ≡ sets out₀ 0 (texts (found n bs 0 n))
putting_last n bs out₀ out p k g h = sym (g.goes ∙ ap (sets out p) (texts_end n bs k h))
