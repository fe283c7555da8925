-- A part at a time: what the first part takes of a text, and how the rest is told. Assumes nothing.
use mathlib.Core.Path.{◌≡◌, refl, sym, ap, ap₂, subst, ◌∙◌}
use mathlib.Core.List.{List, [], ◌∷◌, ◌++◌, append_assoc}
use mathlib.Core.Bool.{Bool, true, cond}
use Prim.Native.Nat.{ℕ, zero, suc, ◌+◌, ◌-◌, ◌≤◌, ◌<◌}
use native.Mathlib.Omega.{arith}
use lib.ListN.{length, take, drop, get_or, length-drop, length-append, take-append-drop}
use lib.Seq.{drop-drop, take_at, length-take-le, sets, length-sets}
use lib.Dec.{leb, ltb}
use borrow.Author.Tests.{le-leb, leb-true, lt-ltb, le-ltb}
use borrow.Rule.Slice.PartMut.{put_mid}
use Rattle.laws.specs.Scan.{all}
use Rattle.laws.proofs.Cases.{if_yes, if_no}
use Rattle.laws.proofs.Elements.{by_test, all_cons, all_head, all_tail}
use Rattle.laws.proofs.Writes.{sets_append}
use Rattle.laws.proofs.Parts.{in_part, part_is}
use Rattle.story.specs.declared.Story.{Story}
use Rattle.story.specs.Characters.{characters, onto, deal, parted}
use Rattle.laws.specs.Lists.{together}
use Rattle.story.specs.Telling.{room_with, part_texts, part_packet, packets_from, packets_of, bytes_of}
use Rattle.story.proofs.Dealing.{deal_none, deal_fits, deal_over, some_part}
use Rattle.story.proofs.Whole.{together_chars}
use Rattle.story.specs.Given.{Lengths}
use Rattle.story.proofs.Part.{few_codes, part_long}
use Rattle.tell.specs.Steps.{width_of, first_size, Sendable, AllSendable}
use Rattle.tell.proofs.Stepping.{First, first_of}

-- ---- over lists of characters
abbrev short : ℕ → List ℕ → Bool
short r c = leb (length c) r

abbrev again : ℕ → List (List ℕ) → List (List ℕ)
again r [] = []
again r (c ∷ cs) = deal r r (c ∷ cs)

record Split (r k : ℕ) (cs : List (List ℕ)) : Type 0 where
  m : ℕ
  head : get_or (deal r k cs) 0 [] ≡ together (take m cs)
  tail : drop 1 (deal r k cs) ≡ again r (drop m cs)

onto_head : (c : List ℕ) (ps : List (List ℕ)) → get_or (onto c ps) 0 [] ≡ c ++ get_or ps 0 []
onto_head c [] = sym (nil c)
  where
    nil : (c : List ℕ) → c ++ [] ≡ c
    nil [] = refl
    nil (x ∷ c) = ap (λ (l : List ℕ). x ∷ l) (nil c)
onto_head c (p ∷ ps) = refl

onto_tail : (c : List ℕ) (ps : List (List ℕ)) → drop 1 (onto c ps) ≡ drop 1 ps
onto_tail c [] = refl
onto_tail c (p ∷ ps) = refl

split : (r k : ℕ) (cs : List (List ℕ)) → all (short r) cs ≡ true → Split r k cs
unfolding together
split r k [] h = record { m = 0; head = ap (λ (x : List (List ℕ)). get_or x 0 []) (deal_none r k); tail = ap (drop 1) (deal_none r k) }
split r k (c ∷ cs) h =
    by_test (leb (length c) k)
    (λ t.
    let i = split r (k - length c) cs (all_tail (short r) c cs h) in
    let e = deal_fits r k c cs t in
    let D = deal r (k - length c) cs in
    record {
      m = suc i.m;
      head = ap (λ (x : List (List ℕ)). get_or x 0 []) e ∙ onto_head c D ∙ ap (λ (l : List ℕ). c ++ l) i.head;
      tail = ap (drop 1) e ∙ onto_tail c D ∙ i.tail;
    })
    (λ t.
    let e = deal_over r k c cs t in
    record {
      m = 0;
      head = ap (λ (x : List (List ℕ)). get_or x 0 []) e;
      tail = ap (drop 1) e ∙ sym (deal_fits r r c cs (all_head (short r) c cs h));
    })

length_take_most : (k : ℕ) (l : List ℕ) → length (take k l) ≤ k
length_take_most zero l = omega arith
length_take_most (suc k) [] = omega arith
length_take_most (suc k) (x ∷ l) = omega (arith, length_take_most k l)

-- ---- over texts
together_append : (xs ys : List (List ℕ)) → together (xs ++ ys) ≡ together xs ++ together ys
unfolding together
together_append [] ys = refl
together_append (x ∷ xs) ys = ap (λ (l : List ℕ). x ++ l) (together_append xs ys) ∙ sym (append_assoc x (together xs) (together ys))

prefix : (m : ℕ) (l : List ℕ) → take (length (together (take m (characters l)))) l ≡ together (take m (characters l))
prefix m l =
    let A = together (take m (characters l)) in
    let B = together (drop m (characters l)) in
    let e : l ≡ A ++ B = sym (together_chars l) ∙ ap together (sym (take-append-drop m (characters l))) ∙ together_append (take m (characters l)) (drop m (characters l)) in
    ap (take (length A)) e ∙ take_at A B (length A) refl

chars_drop : (m : ℕ) (l : List ℕ) → characters (drop (length (together (take m (characters l)))) l) ≡ drop m (characters l)
unfolding together characters
chars_drop zero l = refl
chars_drop (suc m) [] = refl
chars_drop (suc m) (x ∷ l) =
    let t = x ∷ l in
    let f = first_of t (omega arith) in
    let w = width_of t in
    let c = take w t in
    let l' = drop w t in
    let n : length c ≡ w = length-take-le w t f.within in
    let a : length (together (take (suc m) (characters t))) ≡ w + length (together (take m (characters l'))) =
    ap (λ (cs : List (List ℕ)). length (together (take (suc m) cs))) f.chars ∙ length-append c (together (take m (characters l'))) ∙ omega arith in
    ap (λ (k : ℕ). characters (drop k t)) a
    ∙ ap characters (sym (drop-drop (length (together (take m (characters l')))) w t))
    ∙ chars_drop m l'
    ∙ sym (ap (drop (suc m)) f.chars)

chars_short : (r n : ℕ) (l : List ℕ) → 2 ≤ r → length l ≤ n → all (short r) (characters l) ≡ true
unfolding characters
chars_short r zero [] h g = refl
chars_short r zero (x ∷ l) h g = absurd (omega arith)
chars_short r (suc n) [] h g = refl
chars_short r (suc n) (x ∷ l) h g =
    let t = x ∷ l in
    let f = first_of t (omega arith) in
    let w = width_of t in
    let k : length (take w t) ≡ w = length-take-le w t f.within in
    ap (all (short r)) f.chars
    ∙ all_cons (short r) (take w t) (characters (drop w t)) (le-leb (length (take w t)) r (omega (arith, f.most)))
    (chars_short r n (drop w t) h (omega (arith, length-drop w t, f.some)))

-- the parts behind the first
unfoldable pub rest : ℕ → List ℕ → List (List ℕ)
rest r [] = []
rest r (x ∷ l) = parted r (x ∷ l)

rest_is : (r : ℕ) (l : List ℕ) → again r (characters l) ≡ rest r l
unfolding rest parted characters
rest_is r [] = refl
rest_is r (x ∷ l) = ap (again r) f.chars ∙ sym (ap (deal r r) f.chars)
  where
    f : First (x ∷ l)
    f = first_of (x ∷ l) (omega arith)

whole_list : (ps : List (List ℕ)) → 1 ≤ length ps → ps ≡ get_or ps 0 [] ∷ drop 1 ps
whole_list [] h = absurd (omega arith)
whole_list (p ∷ ps) h = refl

-- the first part, and the parts of what it leaves
pub parted_step : (r : ℕ) (l : List ℕ) → 2 ≤ r → parted r l ≡ take (first_size r r l) l ∷ rest r (drop (first_size r r l) l)
unfolding parted first_size
parted_step r l h =
    let cs = characters l in
    let s = split r r cs (chars_short r (length l) l h (omega arith)) in
    let z : first_size r r l ≡ length (together (take s.m cs)) = ap length s.head in
    let a : get_or (deal r r cs) 0 [] ≡ take (first_size r r l) l = s.head ∙ sym (prefix s.m l) ∙ ap (λ (n : ℕ). take n l) (sym z) in
    let b : drop 1 (deal r r cs) ≡ rest r (drop (first_size r r l) l) = s.tail ∙ ap (again r) (sym (chars_drop s.m l)) ∙ rest_is r (drop (length (together (take s.m cs))) l) ∙ ap (λ (n : ℕ). rest r (drop n l)) (sym z) in
    whole_list (deal r r cs) (some_part r r cs) ∙ ap₂ (λ (p : List ℕ) (ps : List (List ℕ)). p ∷ ps) a b

first_least : (r k : ℕ) (cs : List (List ℕ)) → length (get_or (deal r k cs) 0 []) ≤ k
first_least r k [] = rw (deal_none r k) (omega arith)
first_least r k (c ∷ cs) =
    by_test (leb (length c) k)
    (λ t.
    let h = leb-true (length c) k t in
    let D = deal r (k - length c) cs in
    rw (deal_fits r k c cs t, onto_head c D) (omega (arith, length-append c (get_or D 0 []), first_least r (k - length c) cs)))
    (λ t. rw (deal_over r k c cs t) (omega arith))

pub first_small : (r : ℕ) (l : List ℕ) → first_size r r l ≤ r
unfolding first_size
first_small r l = first_least r r (characters l)

-- ---- the loop: k parts are out, i bytes of the text and p of the output are done
unfoldable pub remaining : ℕ → ℕ → ℕ → List ℕ → List (List ℕ)
remaining n k r l = cond (ltb k n) (parted r l) []

none_more : (n k r : ℕ) (l : List ℕ) → n ≤ k → remaining n k r l ≡ []
unfolding remaining
none_more n k r l h = if_no _ _ (le-ltb k n h)

some_more : (n k r : ℕ) (l : List ℕ) → k < n → remaining n k r l ≡ parted r l
unfolding remaining
some_more n k r l h = if_yes _ _ (lt-ltb k n h)

rest_remains : (n k r : ℕ) (l : List ℕ) → k + length (rest r l) ≡ n → rest r l ≡ remaining n k r l
unfolding rest parted
rest_remains n k r [] e = sym (none_more n k r [] (omega arith))
rest_remains n k r (x ∷ l) e = sym (some_more n k r (x ∷ l) (omega (arith, some_part r r (characters (x ∷ l)))))

pub remains : (n k r : ℕ) (l : List ℕ) → 2 ≤ r → k < n → k + length (remaining n k r l) ≡ n
    → remaining n k r l ≡ take (first_size r r l) l ∷ remaining n (k + 1) r (drop (first_size r r l) l)
remains n k r l w h e =
    let a = some_more n k r l h ∙ parted_step r l w in
    let c : k + 1 + length (rest r (drop (first_size r r l) l)) ≡ n = omega (arith, e, ap length a) in
    a ∙ ap (λ (ps : List (List ℕ)). take (first_size r r l) l ∷ ps) (rest_remains n (k + 1) r (drop (first_size r r l) l) c)

abbrev comes : Story → List ℕ → ℕ → ℕ → ℕ → List ℕ → List ℕ
comes s codes n k r l = together (packets_from s codes n k (remaining n k r l))

pub record Going (s : Story) (codes text : List ℕ) (n r : ℕ) (out₀ out : List ℕ) (k i p : ℕ) : Type 0 where
  pub same : sets out₀ 0 (bytes_of s codes text) ≡ sets out p (comes s codes n k r (drop i text))
  pub count : k + length (remaining n k r (drop i text)) ≡ n
  pub kept : length out ≡ length out₀
  pub within : i ≤ length text
  pub ends : p + length (comes s codes n k r (drop i text)) ≡ length (bytes_of s codes text)

pub going_first : (s : Story) (codes text : List ℕ) (n r each : ℕ) (out : List ℕ) → AllSendable s codes text n r each (length out) → Going s codes text n r out out 0 0 0
unfolding bytes_of packets_of parted
going_first s codes text n r each out h =
    let q = room_with s.codes in
    let o : 1 ≤ n = omega (arith, h.parts, some_part q q (characters text)) in
    let e : remaining n 0 r text ≡ part_texts s text = some_more n 0 r text o ∙ ap (λ (x : ℕ). parted x text) h.rest in
    let f : comes s codes n 0 r text ≡ bytes_of s codes text = ap₂ (λ (m : ℕ) (ps : List (List ℕ)). together (packets_from s codes m 0 ps)) h.parts e in
    record {
      same = ap (λ (l : List ℕ). sets out 0 l) (sym f);
      count = omega (arith, ap length e, h.parts);
      kept = refl;
      within = omega arith;
      ends = omega (arith, ap length f);
    }

module _ (s : Story) (codes text : List ℕ) (n r each : ℕ) (out₀ out : List ℕ) (k i p : ℕ) (y : Lengths s) (h : AllSendable s codes text n r each (length out₀)) (wide_enough : 2 ≤ r) (g : Going s codes text n r out₀ out k i p) (more : k < n) where
  abbrev size : ℕ
  size = first_size r r (drop i text)

  abbrev piece : List ℕ
  piece = take size (drop i text)

  comes_is : comes s codes n k r (drop i text) ≡ part_packet s codes n k piece ++ comes s codes n (k + 1) r (drop (i + size) text)
  unfolding packets_from together
  comes_is =
      ap (λ (ps : List (List ℕ)). together (packets_from s codes n k ps)) (remains n k r (drop i text) wide_enough more g.count)
      ∙ ap (λ (l : List ℕ). part_packet s codes n k piece ++ comes s codes n (k + 1) r l) (drop-drop size i text)

  fits : length piece ≤ room_with s.codes
  fits = omega (arith, length_take_most size (drop i text), first_small r (drop i text), h.rest)

  long : length (part_packet s codes n k piece) ≡ each + length piece
  long = part_long s codes y h.own n k piece fits ∙ omega (arith, h.size)

  pub going_room : p + (each + length piece) ≤ length out
  going_room = omega (arith, long, ap length comes_is, length-append (part_packet s codes n k piece) (comes s codes n (k + 1) r (drop (i + size) text)), g.ends, g.kept, h.enough)

  pub going_far : (e : ℕ) → e ≡ i + size → e ≤ length text → p + (each + (e - i)) ≤ length out
  going_far e ee el = omega (arith, going_room, length-take-le size (drop i text) (omega (arith, length-drop i text)))

  part_room : length (take (length out - p) (drop p out)) ≡ length out - p
  part_room = ap length (part_is out p) ∙ length-drop p out

  pub going_send : (e : ℕ) → e ≡ i + size → Sendable s codes n k (take (e - i) (drop i text)) (length (take (length out - p) (drop p out)))
  going_send e ee =
      let z : e - i ≡ size = omega arith in
      subst (λ (m : ℕ). Sendable s codes n k (take m (drop i text)) (length (take (length out - p) (drop p out)))) (sym z)
      record { own = h.own; fits = fits; before = omega (arith, h.few); total = h.few; small = omega (arith, h.small); room_left = omega (arith, h.size, going_room, part_room) }

  turned : (out'' : List ℕ) (e p' : ℕ) → e ≡ i + size → e ≤ length text → p' ≡ p + (each + (e - i)) → out'' ≡ sets out p (part_packet s codes n k piece) → Going s codes text n r out₀ out'' (k + 1) e p'
  turned out'' e p' ee el pe oe =
      let A = part_packet s codes n k piece in
      let B = comes s codes n (k + 1) r (drop (i + size) text) in
      let lp : length piece ≡ size = length-take-le size (drop i text) (omega (arith, length-drop i text)) in
      let q : p + length A ≡ p' = omega (arith, long) in
      let rm = remains n k r (drop i text) wide_enough more g.count in
      let B' : B ≡ comes s codes n (k + 1) r (drop e text) = ap (λ (x : ℕ). comes s codes n (k + 1) r (drop x text)) (sym ee) in
      record {
        same = g.same ∙ ap (λ (l : List ℕ). sets out p l) comes_is ∙ sets_append A B out p ∙ ap₂ (λ (o : List ℕ) (x : ℕ). sets o x B) (sym oe) q ∙ ap (λ (l : List ℕ). sets out'' p' l) B';
        count = omega (arith, ap length rm, g.count, ap (λ (l : List ℕ). length (remaining n (k + 1) r l)) (drop-drop size i text ∙ ap (λ (x : ℕ). drop x text) (sym ee)));
        kept = ap length oe ∙ length-sets out p A ∙ g.kept;
        within = el;
        ends = omega (arith, ap length comes_is, length-append A B, g.ends, ap length B');
      }

  pub going_turn : (part : List ℕ) (e : ℕ) → e ≡ i + size → e ≤ length text → part ≡ sets (take (length out - p) (drop p out)) 0 (part_packet s codes n k (take (e - i) (drop i text)))
      → Going s codes text n r out₀ (put_mid p (length out - p) out part) (k + 1) e (p + (each + (e - i)))
  going_turn part e ee el pe =
      let z : e - i ≡ size = omega arith in
      let v = part_packet s codes n k piece in
      let q : part ≡ sets (take (length out - p) (drop p out)) 0 v = pe ∙ ap (λ (m : ℕ). sets (take (length out - p) (drop p out)) 0 (part_packet s codes n k (take m (drop i text)))) z in
      turned (put_mid p (length out - p) out part) e (p + (each + (e - i))) ee el refl (in_part out v part p (omega (arith, long, going_room)) q)

-- with so few codes there is room for a character
pub wide_of : (s : Story) (codes text : List ℕ) (n r each room : ℕ) → Lengths s → AllSendable s codes text n r each room → 2 ≤ r
wide_of s codes text n r each room y h = omega (arith, few_codes s codes y h.own, h.rest)

pub going_last : (s : Story) (codes text : List ℕ) (n r : ℕ) (out₀ out : List ℕ) (k i p : ℕ) → Going s codes text n r out₀ out k i p → n ≤ k → out ≡ sets out₀ 0 (bytes_of s codes text)
unfolding packets_from together
going_last s codes text n r out₀ out k i p g h = sym (g.same ∙ ap (λ (ps : List (List ℕ)). sets out p (together (packets_from s codes n k ps))) (none_more n k r (drop i text) h))
