-- What is written to a lent part of a list, from a place on to the end, is written to the list. Assumes nothing.
use mathlib.Core.Path.{◌≡◌, sym, ap, ◌∙◌}
use mathlib.Core.List.{List, ◌++◌, append_assoc, append-nil}
use Prim.Native.Nat.{ℕ, ◌+◌, ◌-◌, ◌≤◌}
use native.Mathlib.Omega.{arith}
use lib.ListN.{length, take, drop, length-drop, drop_of_length-le}
use lib.Seq.{sets, sets-eq, drop-drop, take_all}
use borrow.Rule.Slice.PartMut.{put_mid}
use Rattle.laws.proofs.Writes.{from_front}

module _ {A : Type 0} where
  pub part_is : (l : List A) (n : ℕ) → take (length l - n) (drop n l) ≡ drop n l
  part_is l n = take_all (length l - n) (drop n l) (omega (arith, length-drop n l))

  pub in_part : (l v part : List A) (n : ℕ) → n + length v ≤ length l → part ≡ sets (take (length l - n) (drop n l)) 0 v → put_mid n (length l - n) l part ≡ sets l n v
  in_part l v part n h e =
      let k = length-drop n l in
      let all : length (drop n l) ≤ length l - n = omega arith in
      ap (λ (r : List A). take n l ++ (part ++ r)) (drop_of_length-le (drop n l) all)
      ∙ ap (λ (r : List A). take n l ++ r)
      (append-nil part ∙ e ∙ ap (λ (r : List A). sets r 0 v) (part_is l n) ∙ from_front v (drop n l) (omega arith) ∙ ap (λ (r : List A). v ++ r) (drop-drop (length v) n l))
      ∙ sym (append_assoc (take n l) v (drop (n + length v) l))
      ∙ sym (sets-eq v l n h)

  -- a part as long as what is written to it
  pub in_place : (l v part : List A) (n k : ℕ) → k ≡ length v → n + length v ≤ length l → part ≡ v → put_mid n k l part ≡ sets l n v
  in_place l v part n k long h e =
      ap (λ (r : List A). take n l ++ (r ++ drop k (drop n l))) e
      ∙ ap (λ (m : ℕ). take n l ++ (v ++ drop m (drop n l))) long
      ∙ ap (λ (r : List A). take n l ++ (v ++ r)) (drop-drop (length v) n l)
      ∙ sym (append_assoc (take n l) v (drop (n + length v) l))
      ∙ sym (sets-eq v l n h)
