-- Packets that read as the parts of a story, in their order and in any other: they are joined. Assumes nothing.
use mathlib.Core.Path.{◌≡◌, refl, sym, ap, ap₂, ◌∙◌}
use mathlib.Core.List.{List, [], ◌∷◌, ◌++◌}
use mathlib.Core.Bool.{true}
use Prim.Native.Nat.{ℕ, zero, suc, ◌+◌, ◌*◌, ◌/◌, ◌%◌, ◌≤◌, ◌<◌}
use native.Mathlib.Omega.{arith}
use lib.ListN.{length, take, drop, get_or}
use lib.Seq.{take_at, length-take-le, get_or-append-add}
use lib.Dec.{eqb}
use borrow.Author.Tests.{eqb-true, eqb-false, le-leb, eq-eqb, ne_eqb}
use Rattle.laws.specs.Scan.{all}
use Rattle.laws.proofs.Cases.{and_yes}
use Rattle.laws.proofs.Elements.{by_test, all_cons}
use Rattle.packet.specs.Reading.{body_of}
use Rattle.laws.specs.Lists.{together}
use Rattle.laws.proofs.Lists.{same_self}
use Rattle.story.specs.Telling.{head_of, last_four, four_of, number_after}
use Rattle.story.specs.Joining.{is_part, digits_of, headed, found, in_order, in_step, all_in_step, joinable, texts}
use Rattle.laws.specs.Lists.{same}
use Rattle.order.specs.Given.{Rearranged}
use Rattle.story.proofs.Shuffled.{length_same, all_same, tally, with_yes, with_no, head_same}
use Rattle.story.proofs.Cutting.{stated}

-- ---- message numbers
last_four_lem : (u : List ℕ) (a b c d : ℕ) → length u ≡ 31 → last_four (u ++ (a ∷ b ∷ c ∷ d ∷ [])) ≡ a * 1000 + b * 100 + c * 10 + d
last_four_lem u a b c d n =
    let ys : List ℕ = a ∷ b ∷ c ∷ d ∷ [] in
    let at : (i : ℕ) → get_or (u ++ ys) (31 + i) 0 ≡ get_or ys i 0 = λ i. ap (λ (k : ℕ). get_or (u ++ ys) (k + i) 0) (sym n) ∙ get_or-append-add u ys i 0 in
    omega (arith, at 0, at 1, at 2, at 3)

four_sum : (x a b c p q r s : ℕ) → x ≡ a * 10 + p → a ≡ b * 10 + q → b ≡ c * 10 + r → s ≡ c → s * 1000 + r * 100 + q * 10 + p ≡ x
four_sum x a b c p q r s e f g h = omega arith

four_back : (x : ℕ) → x ≤ 9999 → x / 1000 % 10 * 1000 + x / 100 % 10 * 100 + x / 10 % 10 * 10 + x % 10 ≡ x
four_back x h =
    let a : x / 100 ≡ x / 10 / 10 = omega arith in
    let b : x / 1000 ≡ x / 100 / 10 = omega arith in
    let c : x / 1000 ≤ 9 = omega arith in
    four_sum x (x / 10) (x / 100) (x / 1000) (x % 10) (x / 10 % 10) (x / 100 % 10) (x / 1000 % 10) (omega arith) (omega arith) (omega arith) (omega arith)

pub number_last : (ds : List ℕ) (k : ℕ) → 31 ≤ length ds → last_four ds + k ≤ 9999 → last_four (number_after ds k) ≡ last_four ds + k
unfolding number_after
number_last ds k l h =
    let x = last_four ds + k in
    last_four_lem (take 31 ds) (x / 1000 % 10) (x / 100 % 10) (x / 10 % 10) (x % 10) (length-take-le 31 ds l) ∙ four_back x h

pub number_first : (ds : List ℕ) (k : ℕ) → 31 ≤ length ds → take 31 (number_after ds k) ≡ take 31 ds
unfolding number_after
number_first ds k l = take_at (take 31 ds) (four_of (last_four ds + k)) 31 (length-take-le 31 ds l)

-- ---- a packet that reads as the part of n with k before it, with the text p
pub record Reads (n : ℕ) (ds : List ℕ) (k : ℕ) (b p : List ℕ) : Type 0 where
  pub part : is_part b ≡ true
  pub body : body_of b ≡ head_of (k + 1) n ++ p
  pub digits : digits_of b ≡ number_after ds k
  pub numbered : last_four ds + k ≤ 9999
  pub sized : stated b ≡ true

-- packets that read as the parts with the texts ps, in their order
pub data Parts (n : ℕ) (ds : List ℕ) : ℕ → List (List ℕ) → List (List ℕ) → Type 0 where
  no_more : {k : ℕ} → Parts n ds k [] []
  and_more : {k : ℕ} {b p : List ℕ} {bs ps : List (List ℕ)} → Reads n ds k b p → Parts n ds (k + 1) bs ps → Parts n ds k (b ∷ bs) (p ∷ ps)

head_test : (n j k : ℕ) (p : List ℕ) → same (head_of (j + 1) n) (take 4 (head_of (k + 1) n ++ p)) ≡ eqb j k
head_test n j k p =
    by_test (eqb j k)
    (λ e. rw (e, eq-eqb (48 + (j + 1)) (48 + (k + 1)) (omega (arith, eqb-true j k e)), eq-eqb (48 + n) (48 + n) refl))
    (λ e. rw (e, ne_eqb (48 + (j + 1)) (48 + (k + 1)) (λ z. eqb-false j k e (omega arith))))

module _ (n : ℕ) (ds : List ℕ) where
  head_at : (j k : ℕ) (b p : List ℕ) → Reads n ds k b p → headed (head_of (j + 1) n) b ≡ eqb j k
  unfolding headed
  head_at j k b p r = ap (λ (l : List ℕ). same (head_of (j + 1) n) (take 4 l)) r.body ∙ head_test n j k p

  pub as_many : {k : ℕ} {bs ps : List (List ℕ)} → Parts n ds k bs ps → length bs ≡ length ps
  as_many no_more = refl
  as_many (and_more r q) = ap suc (as_many q)

  all_parts : {k : ℕ} {bs ps : List (List ℕ)} → Parts n ds k bs ps → all is_part bs ≡ true
  all_parts no_more = refl
  all_parts (and_more {b = b} {bs = bs} r q) = all_cons is_part b bs r.part (all_parts q)

  pub all_stated : {k : ℕ} {bs ps : List (List ℕ)} → Parts n ds k bs ps → all stated bs ≡ true
  all_stated no_more = refl
  all_stated (and_more {b = b} {bs = bs} r q) = all_cons stated b bs r.sized (all_stated q)

  texts_are : {k : ℕ} {bs ps : List (List ℕ)} → Parts n ds k bs ps → texts bs ≡ together ps
  unfolding texts together
  texts_are no_more = refl
  texts_are (and_more {p = p} r q) = ap₂ (λ (u v : List ℕ). drop 4 u ++ v) r.body (texts_are q)

  in_step_lem : 31 ≤ length ds → last_four ds ≤ 9999 → {k : ℕ} {bs ps : List (List ℕ)} → Parts n ds k bs ps → in_step (number_after ds 0) k bs ≡ true
  unfolding in_step
  in_step_lem l h no_more = refl
  in_step_lem l h (and_more {k = k} {b = b} r q) =
      let e1 : take 31 (digits_of b) ≡ take 31 (number_after ds 0) = ap (take 31) r.digits ∙ number_first ds k l ∙ sym (number_first ds 0 l) in
      let e2 : last_four (digits_of b) ≡ last_four (number_after ds 0) + k = ap last_four r.digits ∙ number_last ds k l r.numbered ∙ omega (arith, number_last ds 0 l (omega arith)) in
      and_yes _ (and_yes _ (ap (λ (u : List ℕ). same u (take 31 (number_after ds 0))) e1 ∙ same_self (take 31 (number_after ds 0))) ∙ eq-eqb _ _ e2) ∙ in_step_lem l h q

  -- no head stands twice
  none_before : (j : ℕ) {k : ℕ} {bs ps : List (List ℕ)} → Parts n ds k bs ps → j < k → tally (head_of (j + 1) n) bs ≡ 0
  unfolding tally
  none_before j no_more h = refl
  none_before j (and_more {k = k} {b = b} {p = p} r q) h =
      rw (head_at j k b p r, ne_eqb j k (λ z. omega arith)) (omega (arith, none_before j q (omega arith)))

  at_most_one : (j : ℕ) {k : ℕ} {bs ps : List (List ℕ)} → Parts n ds k bs ps → tally (head_of (j + 1) n) bs ≤ 1
  unfolding tally
  at_most_one j no_more = omega arith
  at_most_one j (and_more {k = k} {b = b} {p = p} r q) =
      by_test (eqb j k)
      (λ e. rw (head_at j k b p r, e, none_before j q (omega (arith, eqb-true j k e))) (omega arith))
      (λ e. rw (head_at j k b p r, e) (omega (arith, at_most_one j q)))

  -- the parts behind the first are not it
  found_behind : (m j : ℕ) {k : ℕ} (b p : List ℕ) (bs : List (List ℕ)) → Reads n ds k b p → k < j → found n (b ∷ bs) j m ≡ found n bs j m
  unfolding found
  found_behind zero j b p bs r h = refl
  found_behind (suc m) j {k = k} b p bs r h =
      ap₂ (λ (c : List ℕ) (cs : List (List ℕ)). c ∷ cs)
      (with_no (head_of (j + 1) n) b bs (head_at j k b p r ∙ ne_eqb j k (λ z. omega arith)))
      (found_behind m (j + 1) b p bs r (omega arith))

  -- in their order, they are found in their order
  found_all : {k : ℕ} {bs ps : List (List ℕ)} → Parts n ds k bs ps → found n bs k (length bs) ≡ bs
  unfolding found
  found_all no_more = refl
  found_all (and_more {k = k} {b = b} {p = p} {bs = bs} r q) =
      ap₂ (λ (c : List ℕ) (cs : List (List ℕ)). c ∷ cs)
      (with_yes (head_of (k + 1) n) b bs (head_at k k b p r ∙ eq-eqb k k refl))
      (found_behind (length bs) (k + 1) b p bs r (omega arith) ∙ found_all q)

  -- and in any order
  found_same : (m j : ℕ) {bs cs ps : List (List ℕ)} → Parts n ds 0 bs ps → Rearranged bs cs → found n cs j m ≡ found n bs j m
  unfolding found
  found_same zero j q w = refl
  found_same (suc m) j q w =
      ap₂ (λ (c : List ℕ) (cs : List (List ℕ)). c ∷ cs)
      (sym (head_same (head_of (j + 1) n) w (at_most_one j q)))
      (found_same m (j + 1) q w)

  -- packets that read as all parts of a story, in any order, are joined, and the text is that of the parts
  pub order_is : {bs cs ps : List (List ℕ)} → n ≡ length bs → Parts n ds 0 bs ps → Rearranged bs cs → in_order cs ≡ bs
  order_is {bs = bs} {cs = cs} e q w =
      let l : length cs ≡ n = sym (e ∙ length_same w) in
      ap (λ (m : ℕ). found m cs 0 m) l ∙ found_same n 0 q w ∙ ap (λ (m : ℕ). found n bs 0 m) e ∙ found_all q

  step_all : 31 ≤ length ds → {bs ps : List (List ℕ)} → Parts n ds 0 bs ps → all_in_step bs ≡ true
  step_all l no_more = refl
  step_all l (and_more {b = b} {p = p} {bs = bs} {ps = ps} r q) =
      ap (λ (u : List ℕ). in_step u 0 (b ∷ bs)) r.digits ∙ in_step_lem l (omega (arith, r.numbered)) {k = 0} {bs = b ∷ bs} {ps = p ∷ ps} (and_more r q)

  pub joined_all : {bs cs ps : List (List ℕ)} → 31 ≤ length ds → n ≡ length bs → 1 ≤ n → n ≤ 9 → Parts n ds 0 bs ps → Rearranged bs cs → (joinable cs ≡ true) × (texts (in_order cs) ≡ together ps)
  unfolding joinable
  joined_all {bs = bs} {cs = cs} l e low high q w =
      let o = order_is e q w in
      let m : length cs ≡ n = sym (e ∙ length_same w) in (
        and_yes _ (and_yes _ (le-leb 1 (length cs) (omega arith)) ∙ le-leb (length cs) 9 (omega arith))
            ∙ and_yes _ (sym (all_same is_part w) ∙ all_parts q)
            ∙ and_yes _ (ap (all is_part) o ∙ all_parts q)
            ∙ ap all_in_step o ∙ step_all l q,
        ap texts o ∙ texts_are q,
      )
