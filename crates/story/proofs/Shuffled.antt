-- What another order of the same packets leaves as it is. Assumes nothing.
use mathlib.Core.Path.{◌≡◌, refl, sym, ap, ◌∙◌}
use mathlib.Core.List.{List, [], ◌∷◌}
use mathlib.Core.Bool.{Bool, true, false, ◌&&◌}
use Prim.Native.Nat.{ℕ, suc, ◌+◌, ◌≤◌}
use native.Mathlib.Omega.{arith}
use lib.ListN.{length}
use Rattle.laws.specs.Scan.{all}
use Rattle.laws.proofs.Cases.{if_yes, if_no}
use Rattle.laws.proofs.Elements.{by_test}
use Rattle.story.specs.Joining.{headed, with_head}
use Rattle.order.specs.Given.{Rearranged, none_left, one_kept, two_swapped, and_then}

pub length_same : {bs cs : List (List ℕ)} → Rearranged bs cs → length bs ≡ length cs
length_same none_left = refl
length_same (one_kept r) = ap suc (length_same r)
length_same two_swapped = refl
length_same (and_then r q) = length_same r ∙ length_same q

both_ways : (x y z : Bool) → (x && (y && z)) ≡ (y && (x && z))
both_ways true y z = refl
both_ways false true z = refl
both_ways false false z = refl

pub all_same : (f : List ℕ → Bool) {bs cs : List (List ℕ)} → Rearranged bs cs → all f bs ≡ all f cs
all_same f none_left = refl
all_same f (one_kept {f = b} r) = ap (λ (t : Bool). f b && t) (all_same f r)
all_same f (two_swapped {f = b} {g = c} {fs = bs}) = both_ways (f b) (f c) (all f bs)
all_same f (and_then r q) = all_same f r ∙ all_same f q

-- how many have the head h
abbrev one : Bool → ℕ
one true = 1
one false = 0

unfoldable pub tally : List ℕ → List (List ℕ) → ℕ
tally h [] = 0
tally h (b ∷ bs) = one (headed h b) + tally h bs

pub tally_cons : (h b : List ℕ) (bs : List (List ℕ)) → tally h (b ∷ bs) ≡ one (headed h b) + tally h bs
unfolding tally
tally_cons h b bs = refl

tally_same : (h : List ℕ) {bs cs : List (List ℕ)} → Rearranged bs cs → tally h bs ≡ tally h cs
unfolding tally
tally_same h none_left = refl
tally_same h (one_kept {f = b} r) = ap (λ (n : ℕ). one (headed h b) + n) (tally_same h r)
tally_same h (two_swapped {f = b} {g = c} {fs = bs}) = omega arith
tally_same h (and_then r q) = tally_same h r ∙ tally_same h q

pub with_yes : (h b : List ℕ) (bs : List (List ℕ)) → headed h b ≡ true → with_head h (b ∷ bs) ≡ b
unfolding with_head
with_yes h b bs e = if_yes _ _ e

pub with_no : (h b : List ℕ) (bs : List (List ℕ)) → headed h b ≡ false → with_head h (b ∷ bs) ≡ with_head h bs
unfolding with_head
with_no h b bs e = if_no _ _ e

-- where at most one has the head h, it is found in any order
pub head_same : (h : List ℕ) {bs cs : List (List ℕ)} → Rearranged bs cs → tally h bs ≤ 1 → with_head h bs ≡ with_head h cs
head_same h none_left t = refl
head_same h (one_kept {f = b} {fs = bs} {gs = cs} r) t =
    by_test (headed h b)
    (λ e. with_yes h b bs e ∙ sym (with_yes h b cs e))
    (λ e.
    let n : tally h (b ∷ bs) ≡ tally h bs = tally_cons h b bs ∙ ap (λ (x : Bool). one x + tally h bs) e ∙ omega arith in
    with_no h b bs e ∙ head_same h r (omega arith) ∙ sym (with_no h b cs e))
head_same h (two_swapped {f = b} {g = c} {fs = bs}) t =
    by_test (headed h b)
    (λ e.
    by_test (headed h c)
    (λ d.
    let m : one (headed h b) ≡ 1 = ap one e in
    let n : one (headed h c) ≡ 1 = ap one d in
    absurd (omega (arith, tally_cons h b (c ∷ bs), tally_cons h c bs)))
    (λ d. with_yes h b (c ∷ bs) e ∙ sym (with_no h c (b ∷ bs) d ∙ with_yes h b bs e)))
    (λ e.
    by_test (headed h c)
    (λ d. with_no h b (c ∷ bs) e ∙ with_yes h c bs d ∙ sym (with_yes h c (b ∷ bs) d))
    (λ d. with_no h b (c ∷ bs) e ∙ with_no h c bs d ∙ sym (with_no h c (b ∷ bs) d ∙ with_no h b bs e)))
head_same h (and_then r q) t = head_same h r t ∙ head_same h q (omega (arith, tally_same h r))
