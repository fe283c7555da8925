-- What hearing a frame answers, case by case. Assumes nothing.
use mathlib.Core.Path.{◌≡◌, refl, sym, ap, ap₂, ◌∙◌}
use mathlib.Core.List.{List}
use mathlib.Core.Bool.{true, false, cond, not}
use Prim.Native.Nat.{ℕ, ◌≤◌, ◌<◌}
use native.Mathlib.Omega.{arith}
use lib.ListN.{length, take}
use borrow.Author.Rules.{rules}
use denote.Enum.Bare.{sameb, same_true, same_false}
use lib.Dec.{eqb}
use borrow.Author.Tests.{lt-ltb, le-ltb, eq-eqb, ne_eqb, eqb-true, eqb-false}
use Rattle.laws.specs.Scan.{all}
use Rattle.laws.specs.Refusals.{first}
use Rattle.laws.proofs.Cases.{if_yes, if_no, and_yes, and_no, and_both}
use Rattle.laws.proofs.Refusals.{stop, pass, none_left}
use Rattle.laws.proofs.Elements.{by_test}
use Rattle.frame.specs.declared.Heading.{Heading}
use Rattle.frame.specs.Heading.{refusals, heading_fields, heading_of}
use Rattle.frame.proofs.Accepted.{answer_is, fields_are, refused_with}
use Rattle.collector.specs.Collector.{Offered}
use Rattle.std.specs.Prelude.{Result, Ok, Err}
use Rattle.std.specs.Result.{result_unwrap_or}
use Rattle.refusal.specs.declared.Refusal.{Refusal}
use Rattle.refusal.specs.declared.Refusal.TheVariants as refusal
use Rattle.refusal.specs.contracts.Refusal.{the_type}
use Rattle.refusal.specs.Refusal.{number_of, value_or}
use Rattle.refusal.proofs.Numbers.{same_number}
use Rattle.collector.specs.declared.Kept.{Kept}
use Rattle.collector.specs.declared.Kept.TheVariants as pair
use Rattle.collector.specs.declared.Offered.{Offered as Offer}
use Rattle.collector.specs.Places.{kept_number, Copied, copy_told}
use Rattle.collector.specs.declared.Holdings.{Holdings}
use Rattle.collector.specs.Layout.{offer_told, tops_clear, as_collector, sound, offer_gives, release_gives, copy_gives, copy_leaves, Outcome}
use Rattle.collector.proofs.Calls.{offer_heading}
use Rattle.collector.proofs.Seen.{offer_same, offer_28_exactly}
use Rattle.stories.specs.declared.Shown.{Shown}
use Rattle.stories.specs.Tales.{fair, zeros}
use Rattle.stories.specs.Stories.{taken_in, taken_output}
use Rattle.board.specs.declared.Board.{Board}
use Rattle.board.specs.declared.Heard.{Heard}
use Rattle.board.specs.Board.{refused_for_this, room_made, ready_for, offered_at, good_board, packet_in, packet_of, unheard, whole_heard, refused_for, offered_to, heard_of, heard_output}

-- ---- the collector's answer tells of its record, and of the frame's heading
module _ (c : Holdings) (f : List ℕ) where
  pub offer_bad : (offer_gives c f).answer ≡ 28 → sound c ≡ false
  offer_bad e = (offer_28_exactly c f).0 e

  pub offer_good : ((offer_gives c f).answer ≡ 28 → ⊥) → sound c ≡ true
  offer_good n = by_test (sound c) (λ t. t) (λ t. absurd (n ((offer_28_exactly c f).1 t)))

  heading_zero : (offer_gives c f).answer ≡ 1 → first (refusals f) ≡ 0
  heading_zero e =
      by_test (eqb (first (refusals f)) 0)
      (λ t. eqb-true _ _ t)
      (λ t.
      let n = eqb-false _ _ t in
      let g = and_both (tops_clear c) _ (offer_good (λ z. let w : 28 ≡ 1 = sym z ∙ e in omega arith)) in
      let w = ap (λ (o : Offered). o.answer) (offer_heading (as_collector c) f g.1 n ∙ sym (offer_same c g.0 f).0) ∙ e in
      absurd (refused_with f n (λ (k : ℕ). k ≡ 1 → ⊥) (λ z. omega arith) (λ z. omega arith) (λ z. omega arith) (λ z. omega arith) w))

  pub heading_is : (offer_gives c f).answer ≡ 1 → (heading_of f).heading ≡ heading_fields f
  heading_is e = fields_are f (heading_zero e)

  pub heading_read : (offer_gives c f).answer ≡ 1 → (heading_of f).answer ≡ 0
  heading_read e = answer_is f ∙ heading_zero e

-- ---- an offer that was refused, by numbers
-- no number is both that of an accepted frame and 16, or 28
not_16 : (k : Kept) → kept_number k ≡ 16 → ⊥
not_16 pair.Missing z = omega arith
not_16 pair.Whole z = omega arith
not_16 pair.Same z = omega arith
not_16 pair.BegunAgain z = omega arith
not_16 pair.Spoiled z = omega arith

not_28 : (k : Kept) → kept_number k ≡ 28 → ⊥
not_28 pair.Missing z = omega arith
not_28 pair.Whole z = omega arith
not_28 pair.Same z = omega arith
not_28 pair.BegunAgain z = omega arith
not_28 pair.Spoiled z = omega arith

pub full_told : (h : Holdings) (r : Result Offer Refusal) → refused_for_this r refusal.Place ≡ eqb (offer_told h r).answer 16
full_told h (Ok o) = sym (ne_eqb _ 16 (not_16 o.kept))
full_told h (Err e) = refl

pub bad_told : (h : Holdings) (r : Result Offer Refusal) → refused_for_this r refusal.State ≡ eqb (offer_told h r).answer 28
bad_told h (Ok o) = sym (ne_eqb _ 28 (not_28 o.kept))
bad_told h (Err e) = refl

-- two refusals are one where their numbers are
pub same_refusal : (d e : Refusal) → sameb the_type d e ≡ eqb (number_of d) (number_of e)
same_refusal d e =
    by_test (sameb the_type d e)
    (λ t. t ∙ sym (eq-eqb _ _ (ap number_of (same_true the_type (search rules) d e t))))
    (λ t. t ∙ sym (ne_eqb _ _ (λ z. same_false the_type d e t (same_number d e z))))

-- what stands for the value of a refusal, as the code takes it
pub taken_or : {A : Type 0} (r : Result A Refusal) (beside : A) → result_unwrap_or r beside ≡ value_or beside r
taken_or (Ok value) beside = refl
taken_or (Err e) beside = refl

-- ---- a packet that is whole, as the code takes it in
pub packet_copied : (c : Holdings) (l v : ℕ) (r : Result ℕ Refusal) (n : ℕ) (q p : List ℕ) → copy_told r ≡ copy_gives c l v 250 → n ≡ result_unwrap_or r 0 → q ≡ copy_leaves c l v (zeros 250) → p ≡ take n q → p ≡ packet_in c l v
unfolding packet_in
packet_copied c l v r n q p er en eq ep = ep ∙ ap₂ take (en ∙ taken_or r 0 ∙ ap (λ (y : Copied). y.length) er) eq

module _ (b : Board) (f out : List ℕ) (o : Outcome) (e : o ≡ offered_at b.collector f) (h : Heading) (eh : h ≡ heading_fields f) where
  packet_is : packet_in o.collector h.level h.version ≡ packet_of b f
  packet_is = ap₂ (λ (r : Outcome) (k : Heading). packet_in r.collector k.level k.version) e eh

  module _ (p : List ℕ) (ep : p ≡ packet_in o.collector h.level h.version) where
    pub whole_output : taken_output b.stories p out ≡ taken_output b.stories (packet_of b f) out
    whole_output = ap (λ (q : List ℕ). taken_output b.stories q out) (ep ∙ packet_is)

    pub whole_heard_lem : (r : Shown) (d : Holdings) (level : ℕ) → r ≡ taken_in b.stories p (length out) → d ≡ (release_gives o.collector h.level h.version).collector → level ≡ cond (eqb r.answer 1) h.level 0
        → record { answer = r.answer; length = r.length; level = level; parts = r.parts; number = r.number; board = record { collector = d; stories = r.stories } } ≡ whole_heard b f (length out)
    unfolding whole_heard
    whole_heard_lem r d level er ed el =
        let q = er ∙ ap (λ (x : List ℕ). taken_in b.stories x (length out)) (ep ∙ packet_is) in
        let z = ed ∙ ap₂ (λ (y : Outcome) (k : Heading). (release_gives y.collector k.level k.version).collector) e eh in
        let w = el ∙ ap₂ (λ (y : Shown) (k : Heading). cond (eqb y.answer 1) k.level 0) q eh in
        rw (w, q, z)

-- ---- the ways out
module _ (b : Board) (f out : List ℕ) where
  -- what is given back and left in the output
  abbrev pub Gives : Heard → List ℕ → Type 0
  Gives r o = (r ≡ heard_of b f (length out)) × (o ≡ heard_output b f out)

  refused : (a : ℕ) → eqb a 0 ≡ false → refused_for b (length out) ≡ a → Gives (unheard a b) out
  unfolding heard_of heard_output
  refused a z e = (rw (e, z), rw (e, z))

  bad : good_board b ≡ false → Gives (unheard 28 b) out
  unfolding refused_for
  bad e = refused 28 refl (stop 28 _ (ap not e))

  pub bad_stories : all fair b.stories.tales ≡ false → Gives (unheard 28 b) out
  unfolding good_board
  bad_stories e = bad (by_test (sound b.collector) (λ t. and_yes _ t ∙ e) (λ t. and_no _ t))

  module _ (e : all fair b.stories.tales ≡ true) where
    pub bad_collector : (offer_gives b.collector f).answer ≡ 28 → Gives (unheard 28 b) out
    unfolding good_board
    bad_collector g = bad (and_no _ (offer_bad b.collector f g))

    module _ (g : (offer_gives b.collector f).answer ≡ 28 → ⊥) where
      right : good_board b ≡ true
      unfolding good_board
      right = and_yes _ (offer_good b.collector f g) ∙ e

      pub no_room : length out < 1341 → Gives (unheard 10 b) out
      unfolding refused_for
      no_room h = refused 10 refl (pass 28 _ (ap not right) ∙ stop 10 _ (lt-ltb (length out) 1341 h))

      module _ (h : 1341 ≤ length out) where
        taken : refused_for b (length out) ≡ 0
        unfolding refused_for
        taken = pass 28 _ (ap not right) ∙ pass 10 _ (le-ltb (length out) 1341 h) ∙ none_left

        pub not_whole : ((offered_at b.collector f).answer ≡ 1 → ⊥) → Gives (unheard (offered_at b.collector f).answer (record { collector = (offered_at b.collector f).collector; stories = b.stories })) out
        unfolding heard_of heard_output offered_to
        not_whole n = let z = ne_eqb _ _ n in (rw (taken, z), rw (taken, z))

        pub is_whole_lem : (offered_at b.collector f).answer ≡ 1 → Gives (whole_heard b f (length out)) (taken_output b.stories (packet_of b f) out)
        unfolding heard_of heard_output offered_to
        is_whole_lem n = let z = eq-eqb _ _ n in (rw (taken, z), rw (taken, z))

module _ (c : Holdings) (f : List ℕ) where
  pub ready_again : (offer_gives c f).answer ≡ 16 → offered_at c f ≡ offer_gives (room_made c) f
  unfolding ready_for
  ready_again e = ap (λ (d : Holdings). offer_gives d f) (if_yes _ _ (ap (λ (n : ℕ). eqb n 16) e))

  pub ready_as_is : ((offer_gives c f).answer ≡ 16 → ⊥) → offered_at c f ≡ offer_gives c f
  unfolding ready_for
  ready_as_is n = ap (λ (d : Holdings). offer_gives d f) (if_no _ _ (ne_eqb _ 16 n))
