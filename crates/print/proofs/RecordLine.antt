-- The line of a record: when there is one, how long it is, and what its parts write together. Assumes nothing.
use mathlib.Core.Path.{◌≡◌, sym, ap, ap₂, ◌∙◌}
use mathlib.Core.List.{List, [], ◌∷◌, ◌++◌, append_assoc}
use Prim.Native.Nat.{ℕ, ◌+◌, ◌-◌, ◌*◌, ◌≤◌, ◌<◌}
use native.Mathlib.Omega.{arith}
use lib.ListN.{length, set, take, drop, length-append}
use lib.Seq.{sets, set-set, length-sets}
use borrow.Author.Tests.{lt-ltb, le-ltb}
use borrow.Rule.Slice.PartMut.{put_mid}
use Rattle.laws.proofs.Cases.{if_yes, if_no, or_yes, or_no}
use Rattle.laws.proofs.Writes.{sets_append, join, from_front}
use Rattle.laws.proofs.Parts.{in_part}
use Rattle.print.specs.Lines.{hex_of, decimal_of}
use Rattle.print.specs.Records.{spaced, front, record_line, no_line, record_written, record_into}
use Rattle.print.proofs.Laws.{length_hex}

-- what is written to a part leaves the whole as long as it was
pub part_keeps : (l v part : List ℕ) (n : ℕ) → n + length v ≤ length l → part ≡ sets (take (length l - n) (drop n l)) 0 v → length (put_mid n (length l - n) l part) ≡ length l
part_keeps l v part n h e = ap length (in_part l v part n h e) ∙ length-sets l n v

pub spaced_length : (n : ℕ) → length (spaced n) ≡ length (decimal_of n) + 1
unfolding spaced
spaced_length n = length-append (decimal_of n) (32 ∷ [])

pub front_length : (l v s : ℕ) → length (front l v s) ≡ length (decimal_of l) + length (decimal_of v) + length (decimal_of s) + 3
unfolding front
front_length l v s =
    length-append (spaced l) (spaced v ++ spaced s)
    ∙ omega (arith, length-append (spaced v) (spaced s), spaced_length l, spaced_length v, spaced_length s)

-- a number is put with a line's end, which gives way to a space
pub space_behind : (n at k : ℕ) (out part : List ℕ) → at + length (spaced n) ≤ length out → k ≡ length (decimal_of n)
    → part ≡ sets (take (length out - at) (drop at out)) 0 (decimal_of n ++ (10 ∷ []))
    → set (put_mid at (length out - at) out part) (at + k) 32 ≡ sets out at (spaced n)
unfolding spaced
space_behind n at k out part h ek e =
    let d = decimal_of n in
    ap₂ (λ (l : List ℕ) (j : ℕ). set l (at + j) 32)
    (in_part out (d ++ (10 ∷ [])) part at (omega (arith, length-append d (10 ∷ []), length-append d (32 ∷ []))) e ∙ sets_append d (10 ∷ []) out at) ek
    ∙ set-set (sets out at d) (at + length d) 10 32
    ∙ sym (sets_append d (32 ∷ []) out at)

-- three of them
pub front_put : (l v s : ℕ) (out a b c : List ℕ) (i j k : ℕ) → a ≡ sets out 0 (spaced l) → i ≡ 0 + length (spaced l)
    → b ≡ sets a i (spaced v) → j ≡ i + length (spaced v) → c ≡ sets b j (spaced s) → k ≡ j + length (spaced s)
    → (k ≡ length (front l v s)) × (c ≡ sets out 0 (front l v s))
unfolding front
front_put l v s out a b c i j k ea ei eb ej ec ek = (
  ek ∙ omega (arith, length-append (spaced l) (spaced v ++ spaced s), length-append (spaced v) (spaced s)),
  join out a c (spaced l) (spaced v ++ spaced s) 0 i ea (join a b c (spaced v) (spaced s) i j eb ec ej) ei,
)

module _ (l v : ℕ) (packet : List ℕ) where
  pub record_length : length (record_line l v packet) ≡ length (decimal_of l) + length (decimal_of v) + length (decimal_of (length packet)) + 2 * length packet + 4
  unfolding record_line
  record_length =
      length-append (front l v (length packet)) (hex_of packet ++ (10 ∷ []))
      ∙ omega (arith, front_length l v (length packet), length-append (hex_of packet) (10 ∷ []), length_hex packet)

  module _ (out : List ℕ) where
    pub too_long : 255 < length packet → (0 ≡ record_written l v packet out) × (out ≡ record_into l v packet out)
    unfolding record_written record_into no_line
    too_long h = let t = or_yes _ (lt-ltb _ _ h) in (sym (if_yes _ _ t), sym (if_yes _ _ t))

    pub no_room : length packet ≤ 255 → length out < length (record_line l v packet) → (0 ≡ record_written l v packet out) × (out ≡ record_into l v packet out)
    unfolding record_written record_into no_line
    no_room s h = let t = or_no _ (le-ltb _ _ s) ∙ lt-ltb _ _ h in (sym (if_yes _ _ t), sym (if_yes _ _ t))

    -- front, hex in the part behind it, the line's end
    pub put_record : (from : ℕ) (a part : List ℕ) → length (record_line l v packet) ≤ length out → from ≡ length (front l v (length packet)) → a ≡ sets out 0 (front l v (length packet))
        → part ≡ sets (take (length a - from) (drop from a)) 0 (hex_of packet)
        → set (put_mid from (length a - from) a part) (from + 2 * length packet) 10 ≡ sets out 0 (record_line l v packet)
    unfolding record_line
    put_record from a part h ef ea ep =
        let f = front l v (length packet) in
        let x = hex_of packet in
        let m = length-append f (x ++ (10 ∷ [])) in
        let k = length-append x (10 ∷ []) in
        let la : length a ≡ length out = ap length ea ∙ length-sets out 0 f in
        let e : from + 2 * length packet ≡ 0 + length (f ++ x) = omega (arith, length-append f x, length_hex packet) in
        ap₂ (λ (z : List ℕ) (j : ℕ). set z j 10)
        (join out a (put_mid from (length a - from) a part) f x 0 from ea (in_part a x part from (omega arith) ep) (omega arith)) e
        ∙ sym (sets_append (f ++ x) (10 ∷ []) out 0)
        ∙ ap (sets out 0) (append_assoc f x (10 ∷ []))

    pub all_put : length packet ≤ 255 → length (record_line l v packet) ≤ length out → (n : ℕ) → n ≡ length (record_line l v packet) → (last : List ℕ) → last ≡ sets out 0 (record_line l v packet)
        → (n ≡ record_written l v packet out) × (last ≡ record_into l v packet out)
    unfolding record_written record_into no_line
    all_put s h n e last w =
        let t = or_no _ (le-ltb _ _ s) ∙ le-ltb _ _ h in
        (e ∙ sym (if_no _ _ t), w ∙ from_front (record_line l v packet) out h ∙ sym (if_no _ _ t))
