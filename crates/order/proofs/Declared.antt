-- Each pair that is completed is declared exactly once, and no other ever. Assumes nothing.
use mathlib.Core.Path.{◌≡◌, refl, sym, ap, ap₂, subst, ◌∙◌}
use mathlib.Core.List.{List, [], ◌∷◌, ◌++◌, append_assoc, append-nil, Memᴰ}
use mathlib.Core.Logic.{◌↔◌}
use mathlib.Core.Option.{Option, none, some}
use mathlib.Core.Bool.{Bool, true, false, cond, not, ◌&&◌, ◌||◌, false≢true, true≢false, and-false}
use Prim.Native.Nat.{ℕ, ◌+◌, ◌<◌}
use native.Mathlib.Omega.{arith}
use lib.Dec.{eqb}
use borrow.Author.Tests.{eqb-true, eq-eqb}
use Rattle.laws.specs.Refusals.{first}
use Rattle.laws.proofs.Cases.{if_yes, if_no, and_yes, and_no, and_left, and_right}
use Rattle.laws.proofs.Elements.{by_test}
use Rattle.laws.proofs.Refusals.{stop, pass, none_left}
use Rattle.frame.specs.declared.Total.{Total}
use Rattle.frame.specs.declared.Number.{Number}
use Rattle.frame.specs.Heading.{refusals, accepted}
use Rattle.frame.proofs.Accepted.{refused_with}
use Rattle.collector.specs.declared.Collector.{Collector}
use Rattle.collector.specs.declared.Piece.{Piece}
use Rattle.collector.specs.Whole.{passes}
use Rattle.collector.specs.Collector.{nothing, piece_of, taken_in, offered, Offered}
use Rattle.order.specs.Held.{Four, offer_all, declares, declarations}
use Rattle.order.specs.Given.{pieces, four, of_pair, of_number, came, Pair, Bounded, or_else, first_of, given, total_given, is_some, full, joined_by, declare_cases, given_with, due_cases, complete_by, completed}
use Rattle.order.proofs.Keeping.{empty_good}
use Rattle.order.proofs.Declaring.{full_alike}
use Rattle.order.proofs.Running.{Clear, Feed, some_inj, none_some, found_append, came_given, number_parts, mem_left, mem_right, answer_due}
use Rattle.order.proofs.Offering.{offered_taken, offered_refused, all_good, all_taken, pieces_yes, pieces_no, pieces_append, refused_some, feed, bounded_among, offer_on}
use Rattle.laws.proofs.Below.{below_no}

unfoldable pub one_if : Bool → ℕ
one_if b = cond b 1 0

-- ---- one frame more, at one key
module _ {B : Type 0} (is : Piece → Bool) (val : Piece → B) (ps : List Piece) (x : Piece) where
  skipped : is x ≡ false → first_of is val (ps ++ (x ∷ [])) ≡ first_of is val ps
  unfolding first_of
  skipped e =
      found_append is val ps (x ∷ [])
      ∙ ap (or_else (first_of is val ps)) (if_no (some (val x)) none e)
      ∙ or_nothing (first_of is val ps)
    where
      or_nothing : (o : Option B) → or_else o none ≡ o
      or_nothing none = refl
      or_nothing (some b) = refl

  stays : is_some (first_of is val ps) ≡ true → first_of is val (ps ++ (x ∷ [])) ≡ first_of is val ps
  stays e = found_append is val ps (x ∷ []) ∙ first_wins (first_of is val ps) (first_of is val (x ∷ [])) e
    where
      first_wins : (o u : Option B) → is_some o ≡ true → or_else o u ≡ o
      first_wins none u q = absurd (false≢true q)
      first_wins (some b) u q = refl

-- a pair's total has come with any of its numbers
total_too : (ps : List Piece) (l v : ℕ) (n : Number) → is_some (given ps l v n) ≡ true → is_some (total_given ps l v) ≡ true
unfolding first_of
total_too [] l v n e = e
total_too (x ∷ ps) l v n e =
    by_test (of_pair l v x)
    (λ t. ap is_some (if_yes (some x.heading.total) (total_given ps l v) t))
    (λ t.
    ap is_some (if_no (some x.heading.total) (total_given ps l v) t)
    ∙ total_too ps l v n (sym (ap is_some (if_no (some (four x)) (given ps l v n) (and_no _ t))) ∙ e))

-- a total that came is that of every frame of the pair
total_agrees : (ps : List Piece) (l v : ℕ) (t : Total) → ((y : Piece) → Memᴰ y ps → of_pair l v y ≡ true → y.heading.total ≡ t)
    → (u : Total) → total_given ps l v ≡ some u → u ≡ t
unfolding first_of
total_agrees [] l v t k u e = absurd (none_some e)
total_agrees (y ∷ ps) l v t k u e =
    by_test (of_pair l v y)
    (λ q. sym (some_inj (sym (if_yes _ _ q) ∙ e)) ∙ k y (Memᴰ.head refl) q)
    (λ q. total_agrees ps l v t (λ z m. k z (Memᴰ.tail m)) u (sym (if_no _ _ q) ∙ e))

-- 1 or 17 is due just where every number has its bytes
says_declared : (t : Total) (g : Number → Option Four) → (eqb (first (declare_cases t g)) 1 || eqb (first (declare_cases t g)) 17) ≡ full t g
unfolding declare_cases
says_declared t g =
    by_test (full t g)
    (λ f.
    by_test (passes (joined_by t g))
    (λ p. said 1 (pass 17 _ (and_yes _ f ∙ ap not p) ∙ stop 1 [] (and_yes _ f ∙ p)) ∙ sym f)
    (λ p. said 17 (stop 17 _ (and_yes _ f ∙ ap not p)) ∙ sym f))
    (λ f. said 0 (pass 17 _ (and_no _ f) ∙ pass 1 [] (and_no _ f) ∙ none_left) ∙ sym f)
  where
    said : (k : ℕ) → first (declare_cases t g) ≡ k → (eqb (first (declare_cases t g)) 1 || eqb (first (declare_cases t g)) 17) ≡ (eqb k 1 || eqb k 17)
    said k e = ap (λ (n : ℕ). eqb n 1 || eqb n 17) e

complete_alike : (o u : Option Total) (f g : Number → Option Four) → o ≡ u → ((n : Number) → f n ≡ g n) → complete_by o f ≡ complete_by u g
complete_alike o u f g e k = ap (λ (w : Option Total). complete_by w f) e ∙ by_total u
  where
    by_total : (w : Option Total) → complete_by w f ≡ complete_by w g
    by_total none = refl
    by_total (some t) = full_alike t f g k

missing_one : (t : Total) (g : Number → Option Four) (n : Number) → n.0 < t.0 → is_some (g n) ≡ false → full t g ≡ false
unfolding full
missing_one t g n h e = below_no t.0 (λ k. is_some (g (record { 0 = k }))) n.0 h e

own_total : (x : Piece) → total_given (x ∷ []) x.heading.level x.heading.version ≡ some x.heading.total
unfolding first_of
own_total x = if_yes _ _ (and_yes _ (eq-eqb x.heading.level x.heading.level refl) ∙ eq-eqb x.heading.version x.heading.version refl)

-- ---- one frame more completes its pair just where it is answered 1 or 17, and none is complete before that
module _ (qs : List Pair) (ps : List Piece) (x : Piece) (fd : Feed qs (ps ++ (x ∷ []))) where
  abbrev l : ℕ
  l = x.heading.level

  abbrev v : ℕ
  v = x.heading.version

  last : Memᴰ x (ps ++ (x ∷ []))
  last = mem_right x ps (x ∷ []) (Memᴰ.head refl)

  clear_of : (y : Piece) → Memᴰ y ps → Clear y x
  clear_of y m = fd.clear y x (mem_left y ps (x ∷ []) m) last

  -- another pair is not touched
  other_pair : (i j : ℕ) → of_pair i j x ≡ false → completed (ps ++ (x ∷ [])) i j ≡ completed ps i j
  other_pair i j e =
      complete_alike _ _ (given (ps ++ (x ∷ [])) i j) (given ps i j)
      (skipped (of_pair i j) (λ y. y.heading.total) ps x e)
      (λ n. skipped (of_number i j n) four ps x (and_no _ e))

  -- a frame that came before completes nothing
  again_same : came ps x ≡ true → completed (ps ++ (x ∷ [])) l v ≡ completed ps l v
  again_same e =
      let here : is_some (given ps l v x.heading.number) ≡ true = sym (came_given ps x clear_of) ∙ e in
      complete_alike _ _ (given (ps ++ (x ∷ [])) l v) (given ps l v)
      (stays (of_pair l v) (λ y. y.heading.total) ps x (total_too ps l v x.heading.number here))
      (λ n.
      by_test (of_number l v n x)
      (λ k.
      let q : x.heading.number.0 ≡ n.0 = (number_parts l v n x k).2 in
      stays (of_number l v n) four ps x (ap (λ (i : ℕ). is_some (given ps l v (record { 0 = i }))) (sym q) ∙ here))
      (λ k. skipped (of_number l v n) four ps x k))

  -- a number that comes for the first time was missing
  was_incomplete : came ps x ≡ false → completed ps l v ≡ false
  was_incomplete e = by_total (total_given ps l v) refl
    where
      incomplete : (t : Total) → x.heading.number.0 < t.0 → full t (given ps l v) ≡ false
      incomplete t n = missing_one t (given ps l v) x.heading.number n (sym (came_given ps x clear_of) ∙ e)

      by_total : (o : Option Total) → total_given ps l v ≡ o → complete_by o (given ps l v) ≡ false
      by_total none q = refl
      by_total (some t) q =
          let w : t ≡ x.heading.total = total_agrees ps l v x.heading.total (λ y m p. (clear_of y m).total p) t q in
          let n : x.heading.number.0 < t.0 = subst (λ (u : Total). x.heading.number.0 < u.0) (sym w) (fd.fits x last).number_below in
          incomplete t n

  -- and is complete just where every number now has its bytes
  is_complete : completed (ps ++ (x ∷ [])) l v ≡ full x.heading.total (given_with ps x)
  is_complete = ap (λ (o : Option Total). complete_by o (given_with ps x)) (total_now (total_given ps l v) refl)
    where
      total_now : (o : Option Total) → total_given ps l v ≡ o → total_given (ps ++ (x ∷ [])) l v ≡ some x.heading.total
      total_now none q = found_append (of_pair l v) (λ y. y.heading.total) ps (x ∷ []) ∙ ap (λ (o : Option Total). or_else o (total_given (x ∷ []) l v)) q ∙ own_total x
      total_now (some t) q =
          stays (of_pair l v) (λ y. y.heading.total) ps x (ap is_some q)
          ∙ q
          ∙ ap some (total_agrees ps l v x.heading.total (λ y m p. (clear_of y m).total p) t q)

  counted : (i j a : ℕ) → a ≡ first (due_cases ps x) → one_if (completed ps i j) + one_if (of_pair i j x && (eqb a 1 || eqb a 17)) ≡ one_if (completed (ps ++ (x ∷ [])) i j)
  unfolding one_if due_cases
  counted i j a ea =
      by_test (of_pair i j x)
      (λ p.
      let el : l ≡ i = eqb-true _ _ (and_left (eqb l i) (eqb v j) p) in
      let ev : v ≡ j = eqb-true _ _ (and_right (eqb l i) (eqb v j) p) in
      ap (λ (b : Bool). one_if (completed ps i j) + one_if b) (and_yes _ p)
      ∙ sym (ap₂ (λ (s t : ℕ). one_if (completed ps s t) + one_if (eqb a 1 || eqb a 17)) el ev)
      ∙ by_test (came ps x)
      (λ c.
      let two : a ≡ 2 = ea ∙ stop 2 _ c in
      ap₂ (λ (b k : Bool). one_if b + one_if k) (sym (again_same c)) (ap (λ (n : ℕ). eqb n 1 || eqb n 17) two)
      ∙ omega arith)
      (λ c.
      let due : a ≡ first (declare_cases x.heading.total (given_with ps x)) = ea ∙ pass 2 _ c in
      ap₂ (λ (b k : Bool). one_if b + one_if k) (was_incomplete c)
      (ap (λ (n : ℕ). eqb n 1 || eqb n 17) due ∙ says_declared x.heading.total (given_with ps x) ∙ sym is_complete)
      ∙ omega arith)
      ∙ ap₂ (λ (s t : ℕ). one_if (completed (ps ++ (x ∷ [])) s t)) el ev)
      (λ p.
      ap₂ (λ (b k : Bool). one_if b + one_if k) (sym (other_pair i j p)) (and_no _ p) ∙ omega arith)

one_step : (a d b : Bool) → one_if a + one_if d ≡ one_if b → (d ≡ true) ↔ ((a ≡ false) × (b ≡ true))
unfolding one_if
one_step true true true e = absurd (omega arith)
one_step true true false e = absurd (omega arith)
one_step true false b e = (λ q. absurd (false≢true q), λ w. absurd (true≢false w.0))
one_step false true true e = (λ q. (refl, refl), λ w. refl)
one_step false true false e = absurd (omega arith)
one_step false false true e = absurd (omega arith)
one_step false false false e = (λ q. absurd (false≢true q), λ w. absurd (false≢true w.1))

-- ---- a run
offer_last : (fs : List (List ℕ)) (f : List ℕ) (c : Collector) → offer_all c (fs ++ (f ∷ [])) ≡ (offered (offer_all c fs) f).collector
unfolding offer_all
offer_last fs f c = offer_on fs (f ∷ []) c

module _ (qs : List Pair) (l v : ℕ) where
  step_counts : (before : List (List ℕ)) (f : List ℕ) → Bounded qs (before ++ (f ∷ []))
      → one_if (completed (pieces before) l v) + one_if (declares l v (offer_all nothing before) f) ≡ one_if (completed (pieces (before ++ (f ∷ []))) l v)
  unfolding declares one_if pieces
  step_counts before f r =
      let c = offer_all nothing before in
      let g = all_good before nothing empty_good in
      let ps = pieces before in
      by_test (accepted f)
      (λ e.
      let now : pieces (before ++ (f ∷ [])) ≡ ps ++ (piece_of f ∷ []) = pieces_append before (f ∷ []) ∙ ap (λ (w : List Piece). ps ++ w) (pieces_yes f [] e) in
      let fd : Feed qs (ps ++ (piece_of f ∷ [])) = subst (Feed qs) now (feed qs (before ++ (f ∷ [])) r) in
      let a : (offered c f).answer ≡ first (due_cases ps (piece_of f)) =
      ap (λ (o : Offered). o.answer) (offered_taken c f g e)
      ∙ ap (λ (d : Collector). (taken_in d (piece_of f)).answer) (all_taken before nothing empty_good)
      ∙ answer_due qs ps (piece_of f) [] fd in
      counted qs ps (piece_of f) fd l v (offered c f).answer a ∙ ap (λ (w : List Piece). one_if (completed w l v)) (sym now))
      (λ e.
      let now : pieces (before ++ (f ∷ [])) ≡ ps ++ [] = pieces_append before (f ∷ []) ∙ ap (λ (w : List Piece). ps ++ w) (pieces_no f [] e) in
      let n = refused_some f e in
      let a : (offered c f).answer ≡ first (refusals f) = ap (λ (o : Offered). o.answer) (offered_refused c f g e) in
      let no : (eqb (offered c f).answer 1 || eqb (offered c f).answer 17) ≡ false =
      ap (λ (k : ℕ). eqb k 1 || eqb k 17) a ∙ refused_with f n (λ (k : ℕ). (eqb k 1 || eqb k 17) ≡ false) refl refl refl refl in
      ap₂ (λ (w : List Piece) (b : Bool). one_if (completed w l v) + one_if b) (sym (now ∙ append-nil ps)) (ap (λ (b : Bool). of_pair l v (piece_of f) && b) no ∙ and-false (of_pair l v (piece_of f)))
      ∙ omega arith)

  -- A pair is declared at a frame exactly when its numbers were not all given before it, and with it they are.
  pub declared_at : (before : List (List ℕ)) (f : List ℕ) (rest : List (List ℕ)) → Bounded qs (before ++ (f ∷ rest))
      → (declares l v (offer_all nothing before) f ≡ true)
      ↔ ((completed (pieces before) l v ≡ false) × (completed (pieces (before ++ (f ∷ []))) l v ≡ true))
  declared_at before f rest r =
      let more = append_assoc before (f ∷ []) rest in
      one_step (completed (pieces before) l v) (declares l v (offer_all nothing before) f) (completed (pieces (before ++ (f ∷ []))) l v)
      (step_counts before f
      (bounded_among qs (before ++ (f ∷ rest)) (before ++ (f ∷ [])) r (λ g m. subst (Memᴰ g) more (mem_left g (before ++ (f ∷ [])) rest m))))

  counts : (rest before : List (List ℕ)) → Bounded qs (before ++ rest)
      → one_if (completed (pieces before) l v) + declarations l v (offer_all nothing before) rest ≡ one_if (completed (pieces (before ++ rest)) l v)
  unfolding declarations one_if
  counts [] before r =
      let e : one_if (completed (pieces before) l v) ≡ one_if (completed (pieces (before ++ [])) l v) =
      ap (λ (w : List (List ℕ)). one_if (completed (pieces w) l v)) (sym (append-nil before)) in
      omega arith
  counts (f ∷ rest) before r =
      let more = append_assoc before (f ∷ []) rest in
      let s = step_counts before f (bounded_among qs (before ++ (f ∷ rest)) (before ++ (f ∷ [])) r (λ g m. subst (Memᴰ g) more (mem_left g (before ++ (f ∷ [])) rest m))) in
      let ih = counts rest (before ++ (f ∷ [])) (subst (Bounded qs) (sym more) r) in
      let go : one_if (completed (pieces (before ++ (f ∷ []))) l v) + declarations l v (offered (offer_all nothing before) f).collector rest ≡ one_if (completed (pieces (before ++ (f ∷ rest))) l v) =
      ap (λ (d : Collector). one_if (completed (pieces (before ++ (f ∷ []))) l v) + declarations l v d rest) (sym (offer_last before f nothing))
      ∙ ih
      ∙ ap (λ (w : List (List ℕ)). one_if (completed (pieces w) l v)) more in
      omega (arith, s)

  -- Each pair of which every number has come is declared exactly once, and no other is ever declared.
  pub declared_once : (fs : List (List ℕ)) → Bounded qs fs → declarations l v nothing fs ≡ cond (completed (pieces fs) l v) 1 0
  unfolding one_if pieces offer_all first_of
  declared_once fs r = let w = counts fs [] r in omega (arith, w)
