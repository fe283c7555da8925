-- The packets of a told story as parts, and as a history: each is of the one story, at its place, with its text. Assumes nothing.
use mathlib.Core.Path.{◌≡◌, refl, sym, ap, ap₂, subst, ◌∙◌}
use mathlib.Core.List.Memᴰ
use mathlib.Core.List.{List, [], ◌∷◌, ◌++◌, Memᴰ}
use mathlib.Core.Logic.{⊎_elim}
use mathlib.Core.Bool.{Bool, true, false, cond, not, ◌&&◌}
use mathlib.Core.Option.{Option, none, some}
use Prim.Native.Nat.{ℕ, zero, suc, ◌+◌, ◌-◌, ◌≤◌, ◌<◌}
use native.Mathlib.Omega.{arith}
use lib.ListN.{length, get_or, take, drop}
use lib.Dec.{eqb}
use borrow.Author.Tests.{eqb-true, eqb-false, ne_eqb, le-leb}
use Rattle.laws.specs.Below.{below}
use Rattle.laws.proofs.Below.{below_yes, below_no}
use Rattle.laws.proofs.Cases.{if_yes, if_no, and_yes, or_yes}
use Rattle.laws.proofs.Elements.{by_test}
use Rattle.laws.proofs.Refusals.{pass, stop}
use Rattle.packet.specs.Reading.{body_of}
use Rattle.laws.specs.Lists.{together}
use Rattle.story.specs.Telling.{head_of, last_four, four_of, number_after}
use Rattle.story.specs.Joining.{digits_of, headed}
use Rattle.laws.specs.Lists.{same}
use Rattle.story.proofs.Placed.{number_last, number_first, Reads}
use Rattle.laws.proofs.Lists.{same_self}
use Rattle.stories.specs.declared.Part.{Part}
use Rattle.stories.specs.Parts.{part_in, total_in, right_head, in_reach, first_number, belongs, part_of, text_of}
use Rattle.order.specs.Given.{is_some}
use Rattle.pier.specs.Given.{same_story, is_place, came, story_count, given, full, text_in, texts_given, Bounded, due_cases, due}
use Rattle.pier.proofs.Keys.{story_self, given_same}

-- ---- one packet
module _ (n : ℕ) (ds : List ℕ) (nine : n ≤ 9) (long : 31 ≤ length ds) (numbers : last_four ds + (n - 1) ≤ 9999) where
  -- the story, by its part k
  abbrev pub its : ℕ → Part
  its k = record { belongs = true; number = number_after ds 0; total = n; place = k }

  module _ (k : ℕ) (b p : List ℕ) (r : Reads n ds k b p) (inside : k < n) where
    part_digit : part_in b ≡ k + 1
    part_digit = let e : part_in b ≡ 48 + (k + 1) - 48 = ap (λ (l : List ℕ). get_or l 0 0 - 48) r.body in omega arith

    total_digit : total_in b ≡ n
    total_digit = let e : total_in b ≡ 48 + n - 48 = ap (λ (l : List ℕ). get_or l 2 0 - 48) r.body in omega arith

    head_there : headed (head_of (part_in b) (total_in b)) b ≡ true
    unfolding headed
    head_there =
        ap₂ (λ (i j : ℕ). same (head_of i j) (take 4 (body_of b))) part_digit total_digit
        ∙ ap (λ (l : List ℕ). same (head_of (k + 1) n) (take 4 l)) r.body
        ∙ same_self (head_of (k + 1) n)

    head_right : right_head b ≡ true
    unfolding right_head
    head_right =
        and_yes _ head_there
        ∙ and_yes _ (le-leb 1 (part_in b) (omega (arith, part_digit)))
        ∙ and_yes _ (le-leb (part_in b) (total_in b) (omega (arith, part_digit, total_digit)))
        ∙ le-leb (total_in b) 9 (omega (arith, total_digit))

    last : last_four (digits_of b) ≡ last_four ds + k
    last = ap last_four r.digits ∙ number_last ds k long r.numbered

    reached : in_reach (digits_of b) (part_in b) (total_in b) ≡ true
    unfolding in_reach
    reached =
        and_yes _ (le-leb (part_in b) (last_four (digits_of b) + 1) (omega (arith, part_digit, last)))
        ∙ le-leb (last_four (digits_of b) + (total_in b - part_in b)) 9999 (omega (arith, part_digit, total_digit, last))

    pub part_belongs : belongs b ≡ true
    unfolding belongs
    part_belongs = and_yes _ head_right ∙ reached

    first_is : first_number (digits_of b) (part_in b) ≡ number_after ds 0
    unfolding first_number number_after
    first_is =
        let z : last_four (digits_of b) + 1 - part_in b ≡ last_four ds + 0 = omega (arith, part_digit, last) in
        ap₂ (λ (l : List ℕ) (x : ℕ). take 31 l ++ four_of x) r.digits z
        ∙ ap (λ (l : List ℕ). l ++ four_of (last_four ds + 0)) (number_first ds k long)

    pub part_is : part_of b ≡ its k
    unfolding part_of
    part_is =
        let g = part_belongs in
        let place : cond (belongs b) (part_in b - 1) 0 ≡ k = if_yes _ _ g ∙ (let z : part_in b - 1 ≡ k = omega (arith, part_digit) in z) in
        ap (λ (t : Bool). record { belongs = t; number = cond (belongs b) (first_number (digits_of b) (part_in b)) (digits_of b); total = cond (belongs b) (total_in b) 1; place = cond (belongs b) (part_in b - 1) 0 }) g
        ∙ ap (λ (l : List ℕ). record { belongs = true; number = l; total = cond (belongs b) (total_in b) 1; place = cond (belongs b) (part_in b - 1) 0 }) (if_yes _ _ g ∙ first_is)
        ∙ ap₂ (λ (i j : ℕ). record { belongs = true; number = number_after ds 0; total = i; place = j }) (if_yes _ _ g ∙ total_digit) place

    pub text_is : text_of b ≡ p
    text_is = ap (drop 4) r.body

  -- ---- several: the parts before k, in whatever order, and the text of each
  module _ (ps : List (List ℕ)) where
    pub record Heard (k : ℕ) (hs : List (List ℕ)) : Type 0 where
      pub members : (c : List ℕ) → Memᴰ c hs → (i : ℕ) × (i < k) × Reads n ds i c (get_or ps i [])
      pub one_story : story_count hs ≤ 1
      pub there : (i : ℕ) → i < k → given hs (its 0) i ≡ some (get_or ps i [])
      pub missing : (i : ℕ) → k ≤ i → given hs (its 0) i ≡ none

    pub heard_none : Heard 0 []
    unfolding story_count given
    heard_none = record { members = λ c m. absurd (Memᴰ.not-nil m); one_story = omega arith; there = λ i h. absurd (omega arith); missing = λ i h. refl }

    module _ (k : ℕ) (hs : List (List ℕ)) (w : Heard k hs) (b : List ℕ) (r : Reads n ds k b (get_or ps k [])) (inside : k < n) where
      is : part_of b ≡ its k
      is = part_is k b (get_or ps k []) r inside

      place_test : (i : ℕ) → is_place (its 0) i b ≡ eqb k i
      place_test i = ap (λ (x : Part). same_story x (its 0) && eqb x.place i) is ∙ and_yes _ (story_self (its 0))

      given_next : (i : ℕ) → given (b ∷ hs) (its 0) i ≡ cond (eqb k i) (some (get_or ps k [])) (given hs (its 0) i)
      unfolding given
      given_next i =
          ap₂ (λ (t : Bool) (l : List ℕ). cond t (some l) (given hs (its 0) i)) (place_test i) (text_is k b (get_or ps k []) r inside)

      member : (c : List ℕ) → Memᴰ c (b ∷ hs) → (i : ℕ) × (i < k + 1) × Reads n ds i c (get_or ps i [])
      member c m =
          ⊎_elim (λ (e : c ≡ b). (k, omega arith, subst (λ (x : List ℕ). Reads n ds k x (get_or ps k [])) (sym e) r))
          (λ q. let z = w.members c q in (z.0, omega (arith, z.1), z.2))
          (Memᴰ.cases_cons m)

      -- the story came before, unless this is the first packet
      count_next : story_count (b ∷ hs) ≤ 1
      unfolding story_count came
      count_next = go hs w.one_story (λ c m. w.members c m)
        where
          go : (cs : List (List ℕ)) → story_count cs ≤ 1 → ((c : List ℕ) → Memᴰ c cs → (i : ℕ) × (i < k) × Reads n ds i c (get_or ps i [])) → story_count (b ∷ cs) ≤ 1
          go [] h f = omega arith
          go (c ∷ cs) h f =
              let z = f c (Memᴰ.head refl) in
              let pc = part_is z.0 c (get_or ps z.0 []) z.2 (omega (arith, z.1)) in
              let t : same_story (part_of c) (part_of b) ≡ true = ap₂ (λ (u v : Part). same_story u v) pc is ∙ story_self (its 0) in
              let e : story_count (b ∷ c ∷ cs) ≡ story_count (c ∷ cs) = if_yes _ _ (or_yes (came (part_of b) cs) t) in
              omega (arith, e, h)

      pub heard_next : Heard (k + 1) (b ∷ hs)
      heard_next =
          record {
            members = member;
            one_story = count_next;
            there = λ i h. given_next i ∙ by_test (eqb k i)
                (λ t. if_yes _ _ t ∙ ap (λ (j : ℕ). some (get_or ps j [])) (eqb-true k i t))
                (λ t. if_no _ _ t ∙ w.there i (omega (arith, eqb-false k i t)));
            missing = λ i h. given_next i ∙ if_no _ _ (ne_eqb k i (λ (z : k ≡ i). omega arith)) ∙ w.missing i (omega arith);
          }

      pub heard_bounded : Bounded (b ∷ hs)
      heard_bounded =
          record {
            few = omega (arith, count_next);
            parts = λ c m. let z = member c m in (z.2.part, part_belongs z.0 c (get_or ps z.0 []) z.2 (omega (arith, z.1)));
            clear = λ c d m o e.
                let y = member c m in
                let z = member d o in
                let py = part_is y.0 c (get_or ps y.0 []) y.2 (omega (arith, y.1)) in
                let pz = part_is z.0 d (get_or ps z.0 []) z.2 (omega (arith, z.1)) in
                let q : eqb y.0 z.0 ≡ true =
                sym (ap₂ (λ (u v : Part). same_story u v && eqb u.place v.place) py pz ∙ and_yes _ (story_self (its 0))) ∙ e in
                text_is y.0 c (get_or ps y.0 []) y.2 (omega (arith, y.1))
                ∙ ap (λ (i : ℕ). get_or ps i []) (eqb-true y.0 z.0 q)
                ∙ sym (text_is z.0 d (get_or ps z.0 []) z.2 (omega (arith, z.1)));
          }

      -- ---- the answer due to it
      of_its : (hs' : List (List ℕ)) (i : ℕ) → given hs' (part_of b) i ≡ given hs' (its 0) i
      of_its hs' i = ap (λ (x : Part). given hs' x i) is ∙ given_same (its 0) (its k) (story_self (its 0)) hs' i

      new_here : is_some (given hs (part_of b) (part_of b).place) ≡ false
      new_here = ap (λ (x : Part). is_some (given hs (part_of b) x.place)) is ∙ ap is_some (of_its hs k ∙ w.missing k (omega arith))

      full_is : full (part_of b) (given (b ∷ hs) (part_of b)) ≡ below n (λ i. is_some (given (b ∷ hs) (part_of b) i))
      unfolding full
      full_is = ap (λ (x : Part). below x.total (λ i. is_some (given (b ∷ hs) (part_of b) i))) is

      pub due_four : k + 1 < n → due hs b ≡ 4
      unfolding due due_cases
      due_four h =
          let miss : is_some (given (b ∷ hs) (part_of b) (k + 1)) ≡ false = ap is_some (of_its (b ∷ hs) (k + 1) ∙ heard_next.missing (k + 1) (omega arith)) in
          let z = full_is ∙ below_no n (λ i. is_some (given (b ∷ hs) (part_of b) i)) (k + 1) h miss in
          pass 5 _ new_here ∙ stop 4 _ (ap not z)

      pub due_one : k + 1 ≡ n → due hs b ≡ 1
      unfolding due due_cases
      due_one h =
          let z = full_is ∙ below_yes n (λ i. is_some (given (b ∷ hs) (part_of b) i)) (λ i l. ap is_some (of_its (b ∷ hs) i ∙ heard_next.there i (omega arith))) in
          pass 5 _ new_here ∙ pass 4 _ (ap not z) ∙ stop 1 _ refl

      -- and the text of all
      joined : (g : ℕ → Option (List ℕ)) (m j : ℕ) (qs : List (List ℕ)) → length qs ≡ m → ((i : ℕ) → i < m → g (j + i) ≡ some (get_or qs i [])) → texts_given g j m ≡ together qs
      unfolding texts_given together
      joined g zero j [] e f = refl
      joined g zero j (q ∷ qs) e f = absurd (omega arith)
      joined g (suc m) j [] e f = absurd (omega arith)
      joined g (suc m) j (q ∷ qs) e f =
          let z : j + 0 ≡ j = omega arith in
          ap₂ (λ (x y : List ℕ). x ++ y) (ap text_in (ap g (sym z) ∙ f 0 (omega arith)))
          (joined g m (j + 1) qs (omega arith) (λ i h. let y : j + 1 + i ≡ j + suc i = omega arith in ap g y ∙ f (suc i) (omega arith)))

      pub text_all : k + 1 ≡ n → length ps ≡ n → texts_given (given (b ∷ hs) (part_of b)) 0 (part_of b).total ≡ together ps
      text_all h l =
          ap (λ (x : Part). texts_given (given (b ∷ hs) (part_of b)) 0 x.total) is
          ∙ joined (given (b ∷ hs) (part_of b)) n 0 ps l (λ i o. let z : 0 + i ≡ i = omega arith in ap (given (b ∷ hs) (part_of b)) z ∙ of_its (b ∷ hs) i ∙ heard_next.there i (omega arith))
