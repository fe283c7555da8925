-- A run of frames with accepted headings that do not contradict each other, of four pairs at most. Assumes nothing.
use mathlib.Core.Path.{◌≡◌, refl, sym, ap, ap₂, ◌∙◌}
use mathlib.Core.List.Memᴰ
use mathlib.Core.List.{List, [], ◌∷◌, ◌++◌, Memᴰ}
use mathlib.Core.Logic.{⊎_elim}
use mathlib.Core.Option.{Option, none, some}
use mathlib.Core.Bool.{Bool, true, false, cond, ◌||◌}
use Prim.Native.Nat.{ℕ, ◌≤◌}
use native.Mathlib.Omega.{arith}
use lib.ListN.{length}
use lib.Dec.{eqb}
use borrow.Author.Tests.{eqb-true, eq-eqb}
use Rattle.laws.specs.Scan.{all}
use Rattle.laws.specs.Refusals.{Case, first}
use Rattle.laws.proofs.Cases.{if_yes, if_no, and_yes, and_no, and_left, and_right}
use Rattle.laws.proofs.Elements.{by_test}
use Rattle.laws.proofs.Refusals.{stop, pass}
use Rattle.frame.specs.declared.Total.{Total}
use Rattle.frame.specs.declared.Number.{Number}
use Rattle.frame.proofs.Accepted.{Bounds}
use Rattle.collector.specs.declared.Collector.{Collector}
use Rattle.collector.specs.declared.Piece.{Piece}
use Rattle.collector.specs.Collector.{nothing, taken_in}
use Rattle.order.specs.Held.{Good, Four, held_place, holds, total_held, take_all}
use Rattle.order.specs.Given.{four, of_pair, of_number, same, came, Pair, pair_among, or_else, first_of, given, total_given, is_some, given_with, declare_cases, due_cases}
use Rattle.order.proofs.Keeping.{empty_good}
use Rattle.order.proofs.Stepping.{Stepped, Agrees}
use Rattle.order.proofs.Room.{Within}
use Rattle.order.proofs.Declaring.{declare_alike}
use Rattle.order.proofs.Taking.{Took, took}

pub some_inj : {A : Type 0} {a b : A} → some a ≡ some b → a ≡ b
some_inj e = cc

pub none_some : {A : Type 0} {b : A} → none ≡ some b → ⊥
none_some e = let z : ◌≡◌ {A = ℕ} 0 1 = cc in omega arith

-- two frames that do not contradict: of one pair, one total; of one number too, the same four bytes
pub record Clear (x y : Piece) : Type 0 where
  pub total : of_pair y.heading.level y.heading.version x ≡ true → x.heading.total ≡ y.heading.total
  pub bytes : of_number y.heading.level y.heading.version y.heading.number x ≡ true → four x ≡ four y

-- what agrees with a collector and with the frame agrees with the collector after the frame
agrees_on : (c c' : Collector) (x y : Piece) → Stepped c x c' → Clear x y → Agrees c y → Agrees c' y
agrees_on c c' x y s k a = record { total = on_total; bytes = on_bytes }
  where
    on_total : (t : Total) → total_held c' y.heading.level y.heading.version ≡ some t → t ≡ y.heading.total
    on_total t e =
        by_test (of_pair y.heading.level y.heading.version x)
        (λ p. some_inj (sym e ∙ s.total y.heading.level y.heading.version ∙ if_yes _ _ p) ∙ k.total p)
        (λ p. a.total t (sym (s.total y.heading.level y.heading.version ∙ if_no _ _ p) ∙ e))

    on_bytes : (b : Four) → holds c' y.heading.level y.heading.version y.heading.number ≡ some b → b ≡ four y
    on_bytes b e =
        by_test (of_number y.heading.level y.heading.version y.heading.number x)
        (λ p. some_inj (sym e ∙ s.held y.heading.level y.heading.version y.heading.number ∙ if_yes _ _ p) ∙ k.bytes p)
        (λ p. a.bytes b (sym (s.held y.heading.level y.heading.version y.heading.number ∙ if_no _ _ p) ∙ e))

-- what a run needs of its frames, and of the collector that it starts from
pub record Ready (qs : List Pair) (c : Collector) (ps : List Piece) : Type 0 where
  pub few : length qs ≤ 4
  pub good : Good c
  pub within : Within qs c
  pub fits : (x : Piece) → Memᴰ x ps → Bounds x.heading
  pub listed : (x : Piece) → Memᴰ x ps → pair_among x.heading.level x.heading.version qs ≡ true
  pub clear : (x y : Piece) → Memᴰ x ps → Memᴰ y ps → Clear x y
  pub agrees : (x : Piece) → Memᴰ x ps → Agrees c x

module _ (qs : List Pair) (c : Collector) (x : Piece) (ps : List Piece) (r : Ready qs c (x ∷ ps)) where
  abbrev here : Memᴰ x (x ∷ ps)
  here = Memᴰ.head refl

  pub head_took : Took qs c x
  head_took = took qs r.few c x r.good r.within (r.listed x here) (r.fits x here) (r.agrees x here)

  pub ready_tail : Ready qs (taken_in c x).collector ps
  ready_tail =
      let t = head_took in
      record {
        few = r.few;
        good = t.good;
        within = t.within;
        fits = λ y m. r.fits y (Memᴰ.tail m);
        listed = λ y m. r.listed y (Memᴰ.tail m);
        clear = λ y z m n. r.clear y z (Memᴰ.tail m) (Memᴰ.tail n);
        agrees = λ y m. agrees_on c (taken_in c x).collector x y t.stepped (r.clear x y here (Memᴰ.tail m)) (r.agrees y (Memᴰ.tail m));
      }

-- the run goes on after its first frames
pub ready_rest : (qs : List Pair) (ps rest : List Piece) (c : Collector) → Ready qs c (ps ++ rest) → Ready qs (take_all c ps) rest
unfolding take_all
ready_rest qs [] rest c r = r
ready_rest qs (x ∷ ps) rest c r = ready_rest qs ps rest (taken_in c x).collector (ready_tail qs c x (ps ++ rest) r)

-- ---- a run, seen at one key: `look` reads the collector there, `is` says which frames speak of it, and `val` what they say
-- a frame that agrees with what is held may come before it or behind it
mix : {B : Type 0} (k : Bool) (v : B) (o p : Option B) → (k ≡ true → (b : B) → o ≡ some b → b ≡ v) → or_else (cond k (some v) o) p ≡ or_else o (cond k (some v) p)
mix false v o p a = refl
mix true v none p a = refl
mix true v (some b) p a = ap some (sym (a refl b refl))

or_none : {B : Type 0} (o : Option B) → or_else o none ≡ o
or_none none = refl
or_none (some b) = refl

-- what two lists say one after the other
pub found_append : {B : Type 0} (is : Piece → Bool) (val : Piece → B) (xs ys : List Piece) → first_of is val (xs ++ ys) ≡ or_else (first_of is val xs) (first_of is val ys)
unfolding first_of
found_append is val [] ys = refl
found_append is val (z ∷ xs) ys = one (is z) (found_append is val xs ys)
  where
    one : (k : Bool) → first_of is val (xs ++ ys) ≡ or_else (first_of is val xs) (first_of is val ys)
        → cond k (some (val z)) (first_of is val (xs ++ ys)) ≡ or_else (cond k (some (val z)) (first_of is val xs)) (first_of is val ys)
    one true h = refl
    one false h = h

module _ {B : Type 0} (look : Collector → Option B) (is : Piece → Bool) (val : Piece → B)
    (stepped : (c : Collector) (x : Piece) (c' : Collector) → Stepped c x c' → look c' ≡ cond (is x) (some (val x)) (look c))
    (agreed : (c : Collector) (x : Piece) → Agrees c x → is x ≡ true → (b : B) → look c ≡ some b → b ≡ val x)
    (qs : List Pair) where
  looked : (ps : List Piece) (c : Collector) → Ready qs c ps → look (take_all c ps) ≡ or_else (look c) (first_of is val ps)
  unfolding take_all first_of
  looked [] c r = sym (or_none (look c))
  looked (x ∷ ps) c r =
      let t = head_took qs c x ps r in
      let c' = (taken_in c x).collector in
      looked ps c' (ready_tail qs c x ps r)
      ∙ ap (λ (o : Option B). or_else o (first_of is val ps)) (stepped c x c' t.stepped)
      ∙ mix (is x) (val x) (look c) (first_of is val ps) (agreed c x (r.agrees x (here qs c x ps r)))

  -- with one frame more behind those that gave what is held
  looked_with : (ps : List Piece) (c : Collector) (x : Piece) → look c ≡ first_of is val ps → Agrees c x
      → cond (is x) (some (val x)) (look c) ≡ first_of is val (ps ++ (x ∷ []))
  unfolding first_of
  looked_with ps c x e a =
      sym (or_none (cond (is x) (some (val x)) (look c)))
      ∙ mix (is x) (val x) (look c) none (agreed c x a)
      ∙ ap (λ (o : Option B). or_else o (cond (is x) (some (val x)) none)) e
      ∙ sym (found_append is val ps (x ∷ []))

-- ---- what is held, and totals
pub number_parts : (l v : ℕ) (m : Number) (x : Piece) → of_number l v m x ≡ true → (x.heading.level ≡ l) × (x.heading.version ≡ v) × (x.heading.number.0 ≡ m.0)
number_parts l v m x e =
    let pr = and_left (of_pair l v x) (eqb x.heading.number.0 m.0) e in (
      eqb-true _ _ (and_left (eqb x.heading.level l) (eqb x.heading.version v) pr),
      eqb-true _ _ (and_right (eqb x.heading.level l) (eqb x.heading.version v) pr),
      eqb-true _ _ (and_right (of_pair l v x) (eqb x.heading.number.0 m.0) e),
    )

holds_agreed : (l v : ℕ) (m : Number) (c : Collector) (x : Piece) → Agrees c x → of_number l v m x ≡ true → (b : Four) → holds c l v m ≡ some b → b ≡ four x
holds_agreed l v m c x a k b e =
    let p = number_parts l v m x k in
    a.bytes b (ap₂ (λ (i j : ℕ). holds c i j x.heading.number) p.0 p.1 ∙ ap (λ (n : ℕ). holds c l v (record { 0 = n })) p.2 ∙ e)

total_agreed : (l v : ℕ) (c : Collector) (x : Piece) → Agrees c x → of_pair l v x ≡ true → (t : Total) → total_held c l v ≡ some t → t ≡ x.heading.total
total_agreed l v c x a k t e =
    let el : x.heading.level ≡ l = eqb-true _ _ (and_left (eqb x.heading.level l) (eqb x.heading.version v) k) in
    let ev : x.heading.version ≡ v = eqb-true _ _ (and_right (eqb x.heading.level l) (eqb x.heading.version v) k) in
    a.total t (ap₂ (total_held c) el ev ∙ e)

empty_holds : (l v : ℕ) (m : Number) → holds nothing l v m ≡ none
unfolding holds held_place
empty_holds l v m = refl

empty_total : (l v : ℕ) → total_held nothing l v ≡ none
unfolding total_held held_place
empty_total l v = refl

empty_within : (qs : List Pair) → Within qs nothing
unfolding Within
empty_within qs = refl

-- frames that can all be true, of four pairs at most
pub record Feed (qs : List Pair) (ps : List Piece) : Type 0 where
  pub few : length qs ≤ 4
  pub fits : (x : Piece) → Memᴰ x ps → Bounds x.heading
  pub listed : (x : Piece) → Memᴰ x ps → pair_among x.heading.level x.heading.version qs ≡ true
  pub clear : (x y : Piece) → Memᴰ x ps → Memᴰ y ps → Clear x y

pub feed_ready : (qs : List Pair) (ps : List Piece) → Feed qs ps → Ready qs nothing ps
feed_ready qs ps f =
    record {
      few = f.few;
      good = empty_good;
      within = empty_within qs;
      fits = f.fits;
      listed = f.listed;
      clear = f.clear;
      agrees = λ x m.
          record {
            total = λ t e. absurd (none_some (sym (empty_total x.heading.level x.heading.version) ∙ e));
            bytes = λ b e. absurd (none_some (sym (empty_holds x.heading.level x.heading.version x.heading.number) ∙ e));
          };
    }

module _ (qs : List Pair) (ps : List Piece) (f : Feed qs ps) where
  pub held_given : (l v : ℕ) (n : Number) → holds (take_all nothing ps) l v n ≡ given ps l v n
  held_given l v n =
      looked (λ c. holds c l v n) (of_number l v n) four (λ c x c' s. s.held l v n) (holds_agreed l v n) qs ps nothing (feed_ready qs ps f)
      ∙ ap (λ (o : Option Four). or_else o (given ps l v n)) (empty_holds l v n)

  pub total_given_lem : (l v : ℕ) → total_held (take_all nothing ps) l v ≡ total_given ps l v
  total_given_lem l v =
      looked (λ c. total_held c l v) (of_pair l v) (λ x. x.heading.total) (λ c x c' s. s.total l v) (total_agreed l v) qs ps nothing (feed_ready qs ps f)
      ∙ ap (λ (o : Option Total). or_else o (total_given ps l v)) (empty_total l v)

-- ---- the answer
-- a frame of the same pair and number that does not contradict is the same frame
same_is : (x y : Piece) → Clear x y → same x y ≡ of_number y.heading.level y.heading.version y.heading.number x
unfolding same
same_is x y k =
    by_test (of_number y.heading.level y.heading.version y.heading.number x)
    (λ e.
    let pr = and_left (of_pair y.heading.level y.heading.version x) (eqb x.heading.number.0 y.heading.number.0) e in
    let b = k.bytes e in
    and_yes _ e
    ∙ and_yes _ (eq-eqb _ _ (ap (λ (t : Total). t.0) (k.total pr)))
    ∙ and_yes _ (eq-eqb _ _ (ap (λ (w : Four). w.0) b))
    ∙ and_yes _ (eq-eqb _ _ (ap (λ (w : Four). w.1) b))
    ∙ and_yes _ (eq-eqb _ _ (ap (λ (w : Four). w.2) b))
    ∙ eq-eqb _ _ (ap (λ (w : Four). w.3) b)
    ∙ sym e)
    (λ e. and_no _ e ∙ sym e)

pub came_given : (ps : List Piece) (y : Piece) → ((x : Piece) → Memᴰ x ps → Clear x y) → came ps y ≡ is_some (given ps y.heading.level y.heading.version y.heading.number)
unfolding came first_of
came_given [] y k = refl
came_given (x ∷ ps) y k =
    ap₂ ◌||◌ (same_is x y (k x (Memᴰ.head refl))) (came_given ps y (λ z m. k z (Memᴰ.tail m)))
    ∙ either (of_number y.heading.level y.heading.version y.heading.number x) (given ps y.heading.level y.heading.version y.heading.number)
  where
    either : (b : Bool) (o : Option Four) → (b || is_some o) ≡ is_some (cond b (some (four x)) o)
    either true o = refl
    either false o = refl

pub mem_left : {A : Type 0} (a : A) (xs ys : List A) → Memᴰ a xs → Memᴰ a (xs ++ ys)
mem_left a [] ys m = absurd (Memᴰ.not-nil m)
mem_left a (x ∷ xs) ys m = ⊎_elim (λ e. Memᴰ.head e) (λ k. Memᴰ.tail (mem_left a xs ys k)) (Memᴰ.cases_cons m)

pub mem_right : {A : Type 0} (a : A) (xs ys : List A) → Memᴰ a ys → Memᴰ a (xs ++ ys)
mem_right a [] ys m = m
mem_right a (x ∷ xs) ys m = Memᴰ.tail (mem_right a xs ys m)

pub first_frames : (qs : List Pair) (ps rest : List Piece) → Feed qs (ps ++ rest) → Feed qs ps
first_frames qs ps rest f =
    record {
      few = f.few;
      fits = λ x m. f.fits x (mem_left x ps rest m);
      listed = λ x m. f.listed x (mem_left x ps rest m);
      clear = λ x y m n. f.clear x y (mem_left x ps rest m) (mem_left y ps rest n);
    }

pub answer_due : (qs : List Pair) (ps : List Piece) (x : Piece) (rest : List Piece) → Feed qs (ps ++ (x ∷ rest))
    → (taken_in (take_all nothing ps) x).answer ≡ first (due_cases ps x)
unfolding due_cases
answer_due qs ps x rest f =
    let l = x.heading.level in
    let v = x.heading.version in
    let n = x.heading.number in
    let c = take_all nothing ps in
    let r = ready_rest qs ps (x ∷ rest) nothing (feed_ready qs (ps ++ (x ∷ rest)) f) in
    let t = head_took qs c x rest r in
    let fp = first_frames qs ps (x ∷ rest) f in
    let ag = r.agrees x (Memᴰ.head refl) in
    let now : (m : Number) → holds (taken_in c x).collector l v m ≡ given_with ps x m =
    λ m.
    t.stepped.held l v m
    ∙ looked_with (λ d. holds d l v m) (of_number l v m) four (λ d y e s. s.held l v m) (holds_agreed l v m) qs ps c x (held_given qs ps fp l v m) ag
    in
    let before : is_some (holds c l v n) ≡ came ps x =
    ap is_some (held_given qs ps fp l v n)
    ∙ sym (came_given ps x (λ y m. f.clear y x (mem_left y ps (x ∷ rest) m) (mem_right x ps (x ∷ rest) (Memᴰ.head refl))))
    in
    t.answer
    ∙ ap₂ (λ (b : Bool) (k : ℕ). cond b 2 k) before
    (ap first (declare_alike x.heading.total (holds (taken_in c x).collector l v) (given_with ps x) now))
    ∙ sym (first_cons (came ps x) 2 (declare_cases x.heading.total (given_with ps x)))
  where
    first_cons : (b : Bool) (k : ℕ) (cs : List Case) → first ((b, k) ∷ cs) ≡ cond b k (first cs)
    first_cons true k cs = stop k cs refl
    first_cons false k cs = pass k cs refl
