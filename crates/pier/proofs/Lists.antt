-- Lists of stories: the one that passes a test, how many do, and one moved to the end. Assumes nothing.
use mathlib.Core.Path.{◌≡◌, refl, sym, ap, ◌∙◌}
use mathlib.Core.List.{List, [], ◌∷◌, ◌++◌, append_assoc}
use mathlib.Core.Bool.{Bool, true, false, cond}
use Prim.Native.Nat.{ℕ, zero, suc, ◌+◌, ◌≤◌, ◌<◌}
use native.Mathlib.Omega.{arith}
use lib.ListN.{length, get_or, take, drop, length-append}
use Rattle.laws.specs.Scan.{all, index_of}
use Rattle.laws.proofs.Cases.{if_yes, if_no}
use Rattle.laws.proofs.Elements.{by_test, index_yes, index_no, all_cons, all_head, all_tail}
use Rattle.stories.specs.declared.Tale.{Tale}
use Rattle.stories.specs.Tales.{blank}
use Rattle.stories.specs.Stories.{moved_last}

-- the first that passes
unfoldable pub find : (Tale → Bool) → List Tale → Tale
find f [] = blank
find f (p ∷ ps) = cond (f p) p (find f ps)

pub find_is : (f : Tale → Bool) (ps : List Tale) → get_or ps (index_of f ps) blank ≡ find f ps
unfolding find
find_is f [] = refl
find_is f (p ∷ ps) =
    by_test (f p)
    (λ t. ap (λ (i : ℕ). get_or (p ∷ ps) i blank) (index_yes f p ps t) ∙ sym (if_yes p (find f ps) t))
    (λ t. ap (λ (i : ℕ). get_or (p ∷ ps) i blank) (index_no f p ps t) ∙ find_is f ps ∙ sym (if_no p (find f ps) t))

-- a test that fails at the first leaves it to the others
pub find_no : (f : Tale → Bool) (p : Tale) (ps : List Tale) → f p ≡ false → find f (p ∷ ps) ≡ find f ps
unfolding find
find_no f p ps t = if_no p (find f ps) t

pub find_yes : (f : Tale → Bool) (p : Tale) (ps : List Tale) → f p ≡ true → find f (p ∷ ps) ≡ p
unfolding find
find_yes f p ps t = if_yes p (find f ps) t

-- ---- how many pass
abbrev pub one : Bool → ℕ
one b = cond b 1 0

unfoldable pub count : (Tale → Bool) → List Tale → ℕ
count f [] = 0
count f (p ∷ ps) = one (f p) + count f ps

pub count_append : (f : Tale → Bool) (ps qs : List Tale) → count f (ps ++ qs) ≡ count f ps + count f qs
unfolding count
count_append f [] qs = omega arith
count_append f (p ∷ ps) qs = let e = count_append f ps qs in omega arith

pub count_one : (f : Tale → Bool) (q : Tale) → count f (q ∷ []) ≡ one (f q)
unfolding count
count_one f q = omega arith

-- what passes, and stands behind none that does, is found
pub find_last : (f : Tale → Bool) (ps : List Tale) (q : Tale) → f q ≡ true → count f (ps ++ (q ∷ [])) ≤ 1 → find f (ps ++ (q ∷ [])) ≡ q
unfolding count
find_last f [] q t h = find_yes f q [] t
find_last f (p ∷ ps) q t h =
    by_test (f p)
    (λ u. let e = count_append f ps (q ∷ []) in
    let g : count f (q ∷ []) ≡ 1 = count_one f q ∙ ap one t in
    let w : one (f p) ≡ 1 = ap one u in absurd (omega arith))
    (λ u. let w : one (f p) ≡ 0 = ap one u in find_no f p (ps ++ (q ∷ [])) u ∙ find_last f ps q t (omega arith))

-- ---- one moved to the end
pub moved_on : (p q : Tale) (ps : List Tale) (j : ℕ) → moved_last (p ∷ ps) (suc j) q ≡ p ∷ moved_last ps j q
moved_on p q ps j =
    let e : suc j + 1 ≡ suc (j + 1) = omega arith in
    ap (λ (n : ℕ). take (suc j) (p ∷ ps) ++ (drop n (p ∷ ps) ++ (q ∷ []))) e

pub moved_joined : (ps : List Tale) (j : ℕ) (q : Tale) → moved_last ps j q ≡ (take j ps ++ drop (j + 1) ps) ++ (q ∷ [])
moved_joined ps j q = sym (append_assoc (take j ps) (drop (j + 1) ps) (q ∷ []))

pub moved_length : (ps : List Tale) (j : ℕ) (q : Tale) → j < length ps → length (moved_last ps j q) ≡ length ps
moved_length [] j q h = absurd (omega arith)
moved_length (p ∷ ps) zero q h = let e = length-append ps (q ∷ []) in omega arith
moved_length (p ∷ ps) (suc j) q h = ap length (moved_on p q ps j) ∙ ap suc (moved_length ps j q (omega arith))

pub moved_count : (f : Tale → Bool) (ps : List Tale) (j : ℕ) (q : Tale) → j < length ps
    → count f (moved_last ps j q) + one (f (get_or ps j blank)) ≡ count f ps + one (f q)
unfolding count
moved_count f [] j q h = absurd (omega arith)
moved_count f (p ∷ ps) zero q h = let e = count_append f ps (q ∷ []) in let g = count_one f q in omega arith
moved_count f (p ∷ ps) (suc j) q h =
    let e = ap (count f) (moved_on p q ps j) in
    let i = moved_count f ps j q (omega arith) in
    omega arith

pub moved_all : (f : Tale → Bool) (ps : List Tale) (j : ℕ) (q : Tale) → j < length ps → all f ps ≡ true → f q ≡ true → all f (moved_last ps j q) ≡ true
moved_all f [] j q l h t = absurd (omega arith)
moved_all f (p ∷ ps) zero q l h t = behind ps (all_tail f p ps h)
  where
    behind : (rs : List Tale) → all f rs ≡ true → all f (rs ++ (q ∷ [])) ≡ true
    behind [] g = all_cons f q [] t g
    behind (r ∷ rs) g = all_cons f r (rs ++ (q ∷ [])) (all_head f r rs g) (behind rs (all_tail f r rs g))
moved_all f (p ∷ ps) (suc j) q l h t =
    ap (all f) (moved_on p q ps j) ∙ all_cons f p (moved_last ps j q) (all_head f p ps h) (moved_all f ps j q (omega arith) (all_tail f p ps h) t)

-- what neither the one that leaves nor the one that comes passes finds what it found
find_behind : (f : Tale → Bool) (ps : List Tale) (q : Tale) → f q ≡ false → find f (ps ++ (q ∷ [])) ≡ find f ps
unfolding find
find_behind f [] q t = if_no q blank t
find_behind f (p ∷ ps) q t = ap (cond (f p) p) (find_behind f ps q t)

pub find_other : (f : Tale → Bool) (ps : List Tale) (j : ℕ) (q : Tale) → j < length ps → f (get_or ps j blank) ≡ false → f q ≡ false → find f (moved_last ps j q) ≡ find f ps
unfolding find
find_other f [] j q h s t = absurd (omega arith)
find_other f (p ∷ ps) zero q h s t = find_behind f ps q t ∙ sym (find_no f p ps s)
find_other f (p ∷ ps) (suc j) q h s t = ap (find f) (moved_on p q ps j) ∙ ap (cond (f p) p) (find_other f ps j q (omega arith) s t)

-- the one that comes is found, where it is the only one
pub find_own : (f : Tale → Bool) (ps : List Tale) (j : ℕ) (q : Tale) → f q ≡ true → count f (moved_last ps j q) ≤ 1 → find f (moved_last ps j q) ≡ q
find_own f ps j q t h =
    let e = moved_joined ps j q in
    let g : count f ((take j ps ++ drop (j + 1) ps) ++ (q ∷ [])) ≤ 1 = omega (arith, ap (count f) e, h) in
    ap (find f) e ∙ find_last f (take j ps ++ drop (j + 1) ps) q t g

-- ---- free places come first
abbrev pub is_held : Tale → Bool
is_held p = p.held

unfoldable pub free_first : List Tale → Bool
free_first [] = true
free_first (p ∷ ps) = cond p.held (all is_held ps) (free_first ps)

held_free_first : (ps : List Tale) → all is_held ps ≡ true → free_first ps ≡ true
unfolding free_first
held_free_first [] h = refl
held_free_first (p ∷ ps) h = if_yes _ _ (all_head is_held p ps h) ∙ all_tail is_held p ps h

free_tail : (p : Tale) (ps : List Tale) → free_first (p ∷ ps) ≡ true → free_first ps ≡ true
unfolding free_first
free_tail p ps h =
    by_test p.held
    (λ t. held_free_first ps (sym (if_yes _ _ t) ∙ h))
    (λ t. sym (if_no _ _ t) ∙ h)

free_behind : (ps : List Tale) (q : Tale) → q.held ≡ true → free_first ps ≡ true → free_first (ps ++ (q ∷ [])) ≡ true
unfolding free_first
free_behind [] q t h = if_yes _ _ t
free_behind (p ∷ ps) q t h =
    by_test p.held
    (λ u. if_yes _ _ u ∙ moved_all is_held (p ∷ ps) 0 q (omega arith) (all_cons is_held p ps u (sym (if_yes _ _ u) ∙ h)) t)
    (λ u. if_no _ _ u ∙ free_behind ps q t (sym (if_no _ _ u) ∙ h))

pub moved_free_first : (ps : List Tale) (j : ℕ) (q : Tale) → j < length ps → q.held ≡ true → free_first ps ≡ true → free_first (moved_last ps j q) ≡ true
unfolding free_first
moved_free_first [] j q l t h = absurd (omega arith)
moved_free_first (p ∷ ps) zero q l t h = free_behind ps q t (free_tail p ps h)
moved_free_first (p ∷ ps) (suc j) q l t h =
    ap free_first (moved_on p q ps j)
    ∙ by_test p.held
    (λ u. if_yes _ _ u ∙ moved_all is_held ps j q (omega arith) (sym (if_yes _ _ u) ∙ h) t)
    (λ u. if_no _ _ u ∙ moved_free_first ps j q (omega arith) t (sym (if_no _ _ u) ∙ h))

-- where the first place is held, all are
pub all_counted : (ps : List Tale) → all is_held ps ≡ true → count is_held ps ≡ length ps
unfolding count
all_counted [] h = refl
all_counted (p ∷ ps) h =
    let e = all_counted ps (all_tail is_held p ps h) in
    let g : one p.held ≡ 1 = ap one (all_head is_held p ps h) in
    omega arith

pub first_held : (p : Tale) (ps : List Tale) → free_first (p ∷ ps) ≡ true → p.held ≡ true → count is_held (p ∷ ps) ≡ length (p ∷ ps)
unfolding free_first
first_held p ps h t = all_counted (p ∷ ps) (all_cons is_held p ps t (sym (if_yes _ _ t) ∙ h))
