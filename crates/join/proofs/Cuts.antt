-- The packets that are lent, one at a time. Assumes nothing.
use mathlib.Core.Path.{◌≡◌, refl, sym, ap, ap₂, ◌∙◌}
use mathlib.Core.List.{List, [], ◌∷◌}
use mathlib.Core.Bool.{Bool, true, false}
use Prim.Native.Nat.{ℕ, zero, suc, ◌+◌, ◌-◌, ◌≤◌, ◌<◌}
use native.Mathlib.Omega.{arith}
use lib.ListN.{length, take, drop, length-drop, drop_of_length-le}
use lib.Seq.{drop-drop, take-nil}
use lib.Dec.{eqb}
use borrow.Author.Tests.{eq-eqb, ne_eqb}
use Rattle.laws.specs.Scan.{all}
use Rattle.laws.proofs.Cases.{and_yes, and_no}
use Rattle.laws.proofs.Lists.{same_long}
use Rattle.size.specs.Size.{packet_size}
use Rattle.packet.specs.Reading.{body_of, text_answer}
use Rattle.story.specs.Telling.{head_of}
use Rattle.story.specs.Joining.{cut, set_in, is_part, headed, with_head}
use Rattle.laws.specs.Lists.{same}
use Rattle.join.specs.Places.{piece_at}

cut_some : (k : ℕ) (l : List ℕ) → 1 ≤ length l → cut (suc k) l ≡ take (packet_size l) l ∷ cut k (drop (packet_size l) l)
unfolding cut
cut_some k [] h = absurd (omega arith)
cut_some k (x ∷ l) h = refl

cut_none : (k : ℕ) (l : List ℕ) → l ≡ [] → cut k l ≡ []
unfolding cut
cut_none zero l e = refl
cut_none (suc k) l e = ap (cut (suc k)) e

cut_zero : (l : List ℕ) → cut 0 l ≡ []
unfolding cut
cut_zero l = refl

-- what is left of the packets at byte i, m packets on
abbrev pub onward : List ℕ → ℕ → ℕ → List (List ℕ)
onward b m i = cut (10 - m) (drop i b)

pub onward_next : (b : List ℕ) (m i j : ℕ) → m < 10 → i < length b → drop j b ≡ drop (i + packet_size (drop i b)) b → onward b m i ≡ take (packet_size (drop i b)) (drop i b) ∷ onward b (m + 1) j
onward_next b m i j h g e =
    let l = drop i b in
    let z : 10 - m ≡ suc (10 - (m + 1)) = omega arith in
    ap (λ (k : ℕ). cut k l) z
    ∙ cut_some (10 - (m + 1)) l (omega (arith, length-drop i b))
    ∙ ap (λ (r : List ℕ). take (packet_size l) l ∷ cut (10 - (m + 1)) r) (drop-drop (packet_size l) i b ∙ sym e)

pub onward_end : (b : List ℕ) (m i : ℕ) → length b ≤ i → onward b m i ≡ []
onward_end b m i h = cut_none (10 - m) (drop i b) (drop_of_length-le b {i = i} h)

pub onward_ten : (b : List ℕ) (m i : ℕ) → m ≡ 10 → onward b m i ≡ []
onward_ten b m i e = ap (λ (k : ℕ). cut (10 - k) (drop i b)) e ∙ cut_zero (drop i b)

-- ---- all parts
pub parts_next : (p : List ℕ) (ps : List (List ℕ)) → is_part p ≡ true → all is_part (p ∷ ps) ≡ all is_part ps
parts_next p ps e = and_yes (all is_part ps) e

pub parts_stop : (p : List ℕ) (ps : List (List ℕ)) → is_part p ≡ false → all is_part (p ∷ ps) ≡ false
parts_stop p ps e = and_no (all is_part ps) e

pub parts_end : all is_part [] ≡ true
parts_end = refl

pub head_end : (h : List ℕ) → with_head h [] ≡ []
unfolding with_head
head_end h = refl

pub not_four : (w x y z : ℕ) (l : List ℕ) → (length l ≡ 4 → ⊥) → same (w ∷ x ∷ y ∷ z ∷ []) l ≡ false
not_four w x y z l h = same_long (w ∷ x ∷ y ∷ z ∷ []) l (λ e. h (sym e))

-- ---- a part, by what the reader gives and by its set
pub part_no : (b : List ℕ) → (text_answer b ≡ 0 → ⊥) → is_part b ≡ false
unfolding is_part
part_no b h = and_no _ (ne_eqb (text_answer b) 0 h)

pub part_by : (b : List ℕ) (x : ℕ) → text_answer b ≡ 0 → x ≡ set_in b → eqb x 0 ≡ is_part b
unfolding is_part
part_by b x h e = ap (λ (y : ℕ). eqb y 0) e ∙ sym (and_yes _ (eq-eqb (text_answer b) 0 h))

-- no packet begins at the end
pub piece_end : (b : List ℕ) → piece_at b (length b) ≡ []
piece_end b = ap (take (packet_size (drop (length b) b))) (drop_of_length-le b {i = length b} (omega arith)) ∙ take-nil (packet_size (drop (length b) b))

-- ---- a head
pub head_no : (b u : List ℕ) (k n : ℕ) → u ≡ take 4 (body_of b) → (length u ≡ 4 → ⊥) → headed (head_of (k + 1) n) b ≡ false
unfolding headed
head_no b u k n e h = ap (same (head_of (k + 1) n)) (sym e) ∙ not_four (48 + (k + 1)) 47 (48 + n) 32 u h

pub head_by : (b u : List ℕ) (k n : ℕ) (r : Bool) → u ≡ take 4 (body_of b) → r ≡ same ((49 + k) ∷ 47 ∷ (48 + n) ∷ 32 ∷ []) u → r ≡ headed (head_of (k + 1) n) b
unfolding headed
head_by b u k n r e f = let z : 49 + k ≡ 48 + (k + 1) = omega arith in f ∙ ap₂ (λ (x : ℕ) (l : List ℕ). same (x ∷ 47 ∷ (48 + n) ∷ 32 ∷ []) l) z e
