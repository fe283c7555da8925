-- What a packet is a part of, test by test, and what is known of one that is. Assumes nothing.
use mathlib.Core.Path.{◌≡◌, refl, sym, ap, ◌∙◌}
use mathlib.Core.List.{List}
use mathlib.Core.Bool.{Bool, true, false, cond, ◌&&◌, false≢true}
use Prim.Native.Nat.{ℕ, zero, suc, ◌+◌, ◌-◌, ◌*◌, ◌/◌, ◌≤◌, ◌<◌}
use native.Mathlib.Omega.{arith}
use native.Mathlib.Decide.{dec_lt}
use lib.ListN.{length, take, drop, get_or, length-take}
use lib.Seq.{take_all}
use lib.Dec.{leb}
use borrow.Author.Tests.{le-leb, leb-true}
use Rattle.laws.proofs.Cases.{and_yes, and_no, and_both}
use Rattle.packet.specs.Table.{row_of}
use Rattle.packet.specs.Reading.{codes_in, kind_in, count_of, part_at, has_entries, read_answer, part_by, body_of}
use Rattle.packet.proofs.Accepted.{accepted, body_inside, text_from}
use Rattle.story.specs.Telling.{head_of, last_four}
use Rattle.story.specs.Joining.{headed, digits_of, is_part}
use Rattle.laws.specs.Lists.{same}
use Rattle.laws.proofs.Lists.{same_long}
use Rattle.join.proofs.Bodies.{part_text}
use Rattle.stories.specs.declared.Part.{Part}
use Rattle.stories.specs.Parts.{part_in, total_in, right_head, in_reach, first_number, belongs, part_of}
use Rattle.stories.specs.Steps.{head_in}

-- ---- the head
last_yes : (a b : Bool) → b ≡ true → a ≡ (a && b)
last_yes true b e = sym e
last_yes false b e = refl

module _ (t : List ℕ) (k n : ℕ) where
  pub head_short : length t < 4 → head_in t k n ≡ false
  unfolding head_in
  head_short h = and_no _ (same_long (head_of k n) (take 4 t) (λ e. let z = ap length (take_all 4 t (omega arith)) in omega (arith, e, z)))

  pub head_same : 1 ≤ k → k ≤ n → n ≤ 9 → same (head_of k n) (take 4 t) ≡ head_in t k n
  unfolding head_in
  head_same a b c = last_yes (same (head_of k n) (take 4 t)) _ (and_yes _ (le-leb 1 k a) ∙ and_yes _ (le-leb k n b) ∙ le-leb n 9 c)

  -- what a right head tells
  pub head_bounds : head_in t k n ≡ true → (1 ≤ k) × (k ≤ n) × (n ≤ 9)
  unfolding head_in
  head_bounds e =
      let a = and_both (same (head_of k n) (take 4 t)) _ e in
      let b = and_both (leb 1 k) _ a.1 in
      let c = and_both (leb k n) (leb n 9) b.1 in
      (leb-true 1 k b.0, leb-true k n c.0, leb-true n 9 c.1)

  pub head_long : head_in t k n ≡ true → 4 ≤ length t
  head_long e =
      elim (dec_lt (length t) 4) [
        | yes h ↦ absurd (false≢true (sym (head_short h) ∙ e))
        | no h ↦ omega arith
      ]

-- ---- the number
pub reach_room : (d : List ℕ) (k n : ℕ) → in_reach d k n ≡ true → k ≤ last_four d + 1
unfolding in_reach
reach_room d k n e = leb-true _ _ (and_both (leb k (last_four d + 1)) _ e).0

-- ---- a part, by its body, number and digits as they were read
module _ (b u d : List ℕ) (k n : ℕ) (eu : u ≡ body_of b) (ed : d ≡ digits_of b) (ek : k ≡ get_or u 0 0 - 48) (en : n ≡ get_or u 2 0 - 48) where
  head_is : head_in u k n ≡ right_head b
  unfolding head_in right_head headed
  head_is = rw (ek, en, eu)

  reach_is : in_reach d k n ≡ in_reach (digits_of b) (part_in b) (total_in b)
  reach_is = rw (ek, en, eu, ed)

  pub no_head : head_in u k n ≡ false → belongs b ≡ false
  unfolding belongs
  no_head e = and_no _ (sym head_is ∙ e)

  -- a right head leaves it to the number
  pub by_reach : {t : Bool} → head_in u k n ≡ true → in_reach d k n ≡ t → belongs b ≡ t
  unfolding belongs
  by_reach e f = and_yes _ (sym head_is ∙ e) ∙ sym reach_is ∙ f

  pub part_is : head_in u k n ≡ true → in_reach d k n ≡ true → (number : List ℕ) → number ≡ first_number d k → record { belongs = true; number = number; total = n; place = k - 1 } ≡ part_of b
  unfolding part_of
  part_is e f number g = rw (by_reach e f, g, ek, en, eu, ed)

pub part_alone : (b d : List ℕ) → d ≡ digits_of b → belongs b ≡ false → record { belongs = false; number = d; total = 1; place = 0 } ≡ part_of b
unfolding part_of
part_alone b d e f = rw (f, e)

-- ---- what is known of a part
pub record Known (b : List ℕ) (x : Part) : Type 0 where
  pub place_small : x.place < 9
  pub total_some : 1 ≤ x.total
  pub total_few : x.total ≤ 9
  pub headed_long : 4 ≤ length (body_of b)

pub known : (b : List ℕ) → belongs b ≡ true → Known b (part_of b)
unfolding belongs right_head headed head_in part_of
known b e = made (and_both (right_head b) (in_reach (digits_of b) (part_in b) (total_in b)) e).0
  where
    made : head_in (body_of b) (part_in b) (total_in b) ≡ true → Known b (part_of b)
    made h = let w = head_bounds (body_of b) (part_in b) (total_in b) h in
        rw e record { place_small = omega (arith, w.0, w.1, w.2); total_some = omega (arith, w.0, w.1); total_few = w.2; headed_long = head_long (body_of b) (part_in b) (total_in b) h }

pub belongs_is : (b : List ℕ) → (part_of b).belongs ≡ belongs b
unfolding part_of
belongs_is b = refl

take_most : (k : ℕ) (l : List ℕ) → length (take k l) ≤ k
take_most k l = omega (arith, length-take k l)

part_few : (a from k : ℕ) (b : List ℕ) → length (part_by a from k b) ≤ k
part_few zero from k b = take_most k (drop from b)
part_few (suc a) from k b = omega arith

-- its body has at most 153 bytes: 250 less 97
pub body_brief : (b : List ℕ) → is_part b ≡ true → length (body_of b) ≤ 153
unfolding body_of
body_brief b e =
    let p = part_text b e in
    let z = accepted b p.0 in
    omega (arith, body_inside b z, (text_from b p.1).0, z.most, part_few (read_answer b) (3 + 12 * codes_in b + part_at (row_of (kind_in b)) / 8) (cond (has_entries (kind_in b)) 0 (count_of b)) b)
