-- The search on its way over a buffer: what each turn does to what is left. Assumes nothing.
use mathlib.Core.Path.{◌≡◌, refl, sym, ap, ap₂, ◌∙◌, subst}
use mathlib.Core.Bool.{Bool, true, false, false≢true, ◌&&◌}
use mathlib.Core.List.{List, [], ◌∷◌, ◌++◌, append_assoc}
use Prim.Native.Nat.{ℕ, zero, suc, ◌+◌, ◌*◌, ◌/◌, ◌%◌, ◌-◌, ◌^◌, ◌<◌, ◌≤◌}
use native.Mathlib.Nat.{add-zero}
use native.Mathlib.Omega.{arith}
use lib.ListN.{length, take, drop, length-drop}
use lib.Seq.{sets, length-take-le, drop-drop, length-sets}
use lib.Pow.{high}
use Rattle.laws.specs.Bits.{at, bits_of, bits, bytes}
use Rattle.laws.proofs.Bits.{Under, length_spread, under_spread, under_take, under_drop, at_below, bits_at, at_small}
use Rattle.laws.proofs.ByteFields.{at_parts}
use Rattle.laws.proofs.Words.{bits_join}
use Rattle.laws.proofs.Writes.{sets_append}
use Rattle.laws.proofs.Cases.{and_yes, and_no, and_both}
use Rattle.block.specs.Block.{is_valid}
use Rattle.block.specs.declared.Letter.{Letter}
use Rattle.block.specs.declared.Letter.TheVariants.{A, B, C, D}
use Rattle.mend.specs.Mend.{Outcome}
use Rattle.mend.specs.Mend.{mended_of}
use Rattle.mend.proofs.OnlyOne.{valid_lt}
use Rattle.receiver.specs.Search.{Found}
use Rattle.receiver.specs.Rule.{Heard, is_frame, information, block_at, can_mend, mended_bits, one, mended_blocks, is_taken, taken_bytes, taken_count, ended, heard}
use Rattle.receiver.specs.Receive.{joined}
use Rattle.receiver.specs.Search.{ahead, heard_from, Holds, NoneOf, Takes, Further, Searched}
use Rattle.receiver.proofs.Octets.{within, at_drop, at_take}
use Rattle.receiver.proofs.Pairs.{fails_more}
use Rattle.receiver.proofs.Rule.{first, heard_short, heard_frame, heard_on}
use Rattle.receiver.proofs.Sound.{taken_eight, mended_long, under_mended}
use Rattle.receiver.proofs.Starts.{sum_same, frame_taken, frame_count, frame_bytes, mends, mended_fields}

-- ---- the bits ahead
module _ (b : List ℕ) (end : ℕ) (h : end ≤ length b * 8) where
  pub whole : length (take end (bits b)) ≡ end
  whole = length-take-le end (bits b) (omega (arith, length_spread 8 b))

  pub ahead_long : (from : ℕ) → length (ahead b end from) ≡ end - from
  ahead_long from = omega (arith, length-drop from (take end (bits b)), whole)

pub ahead_at : (b : List ℕ) (end from p w : ℕ) → from + p + w ≤ end → at (ahead b end from) p w ≡ at (bits b) (from + p) w
ahead_at b end from p w h = at_drop from (take end (bits b)) p w ∙ at_take end (bits b) (from + p) w h

pub ahead_on : (b : List ℕ) (end from n : ℕ) → drop n (ahead b end from) ≡ ahead b end (from + n)
ahead_on b end from n = drop-drop n from (take end (bits b))

pub under_ahead : (b : List ℕ) (end from : ℕ) → Under 2 (ahead b end from)
under_ahead b end from = under_drop 2 from (take end (bits b)) (under_take 2 end (bits b) (under_spread 8 b))

-- ---- places that pass by
not_at : (b : List ℕ) (end from : ℕ) → from + 104 ≤ end → is_valid (at (bits b) from 26) A ≡ false → is_taken false (ahead b end from) ≡ false
unfolding is_taken is_frame
not_at b end from h v =
    and_no _ (ap (λ (x : ℕ). is_valid x A) (ahead_at b end from 0 26 (omega arith) ∙ ap (λ (p : ℕ). at (bits b) p 26) (add-zero from)) ∙ v)

one_by : (b : List ℕ) (end : ℕ) (t : Bool) (from : ℕ) → end ≤ length b * 8 → from + 104 ≤ end → is_taken t (ahead b end from) ≡ false → heard_from b end false (from + 1) ≡ heard_from b end t from
unfolding heard_from
one_by b end t from k h v =
    ap (heard false) (sym (ahead_on b end from 1)) ∙ sym (heard_on t (ahead b end from) (omega (arith, ahead_long b end k from)) v)

pass_by : (b : List ℕ) (end from n : ℕ) → end ≤ length b * 8 → from + n + 103 ≤ end → NoneOf (bits b) from n → heard_from b end false (from + n) ≡ heard_from b end false from
pass_by b end from zero k h none = ap (heard_from b end false) (add-zero from)
pass_by b end from (suc n) k h none =
    let e : from + suc n ≡ from + 1 + n = omega arith in
    let v : is_valid (at (bits b) from 26) A ≡ false = ap (λ (p : ℕ). is_valid (at (bits b) p 26) A) (sym (add-zero from)) ∙ none 0 (omega arith) in
    ap (heard_from b end false) e
    ∙ pass_by b end (from + 1) n k (omega arith)
    (λ j l. let f : from + 1 + j ≡ from + suc j = omega arith in ap (λ (p : ℕ). is_valid (at (bits b) p 26) A) f ∙ none (suc j) (omega arith))
    ∙ one_by b end false from k (omega arith) (not_at b end from (omega arith) v)

module _ {b : List ℕ} {end from last p : ℕ} (hold : Holds b end) (e : last + 103 ≡ end) (f : Further b end from last p) where
  inside_buffer : end ≤ length b * 8
  inside_buffer = omega (arith, hold.padded)

  pub go_on : (n : ℕ) → NoneOf (bits b) p n → p + n ≤ last → Further b end from last (p + n)
  go_on n none h = record {
    later = omega (arith, f.later);
    inside = h;
    on = pass_by b end p n inside_buffer (omega arith) none ∙ f.on;
  }

  pub to_last : (n : ℕ) → NoneOf (bits b) p n → last ≤ p + n → Further b end from last last
  to_last n none h =
      let i = f.inside in
      let g : p + (last - p) ≡ last = omega arith in
      subst (Further b end from last) g (go_on (last - p) (λ k l. none k (omega arith)) (omega arith))

pub here : (b : List ℕ) (end from last : ℕ) → from ≤ last → Further b end from last from
here b end from last h = record { later = omega arith; inside = h; on = refl }

-- ---- the four blocks at a place
module _ (b : List ℕ) (end from x y : ℕ) (h : from + 104 ≤ end) (k : end ≤ length b * 8) (ex : x ≡ at (bits b) from 64) (ey : y ≡ at (bits b) (from + 52) 64) where
  u : Under 2 (bits b)
  u = under_spread 8 b

  pub a_is : x / 274877906944 ≡ at (ahead b end from) 0 26
  a_is =
      let s = at_small b from 64 64 (omega arith) in
      let t : x / 274877906944 ≡ x / 2 ^ 38 % 2 ^ 26 = omega arith in
      t ∙ ap (λ (z : ℕ). z / 2 ^ 38 % 2 ^ 26) ex ∙ within (bits b) from 0 26 38 u ∙ sym (ahead_at b end from 0 26 (omega arith))

  pub b_is : x / 4096 % 67108864 ≡ at (ahead b end from) 26 26
  b_is = ap (λ (z : ℕ). z / 2 ^ 12 % 2 ^ 26) ex ∙ within (bits b) from 26 26 12 u ∙ sym (ahead_at b end from 26 26 (omega arith))

  pub c_is : y / 274877906944 ≡ at (ahead b end from) 52 26
  c_is =
      let s = at_small b (from + 52) 64 64 (omega arith) in
      let t : y / 274877906944 ≡ y / 2 ^ 38 % 2 ^ 26 = omega arith in
      t ∙ ap (λ (z : ℕ). z / 2 ^ 38 % 2 ^ 26) ey ∙ within (bits b) (from + 52) 0 26 38 u
      ∙ ap (λ (p : ℕ). at (bits b) p 26) (add-zero (from + 52)) ∙ sym (ahead_at b end from 52 26 (omega arith))

  pub d_is : y / 4096 % 67108864 ≡ at (ahead b end from) 78 26
  d_is =
      let e : from + 52 + 26 ≡ from + 78 = omega arith in
      ap (λ (z : ℕ). z / 2 ^ 12 % 2 ^ 26) ey ∙ within (bits b) (from + 52) 26 26 12 u
      ∙ ap (λ (p : ℕ). at (bits b) p 26) e ∙ sym (ahead_at b end from 78 26 (omega arith))

-- no frame, by the first block that fails
abbrev pub no_frame : Found
no_frame = record { frame = false; words = 0; mended = 0 }

none_taken : (t : Bool) (l : List ℕ) → is_taken t l ≡ false → Takes t l no_frame
none_taken t l e = record { same = sym e; words = λ v. absurd (false≢true v); count = λ v. absurd (false≢true v) }

none_found : (l : List ℕ) → is_frame l ≡ false → Takes false l no_frame
unfolding is_taken
none_found l e = none_taken false l e

-- the words of four blocks are the information of the bits that they stand in
module _ (l : List ℕ) (u : Under 2 l) (h : 104 ≤ length l) where
  word : (x m : ℕ) → x ≡ at l m 26 → m + 26 ≤ 104 → bits_of 16 (x / 1024) ≡ take 16 (drop m l)
  word x m e k =
      ap (λ (y : ℕ). bits_of 16 (y / 2 ^ 10)) (e ∙ at_parts l m 16 10)
      ∙ ap (bits_of 16) (high (at l m 16) 10 (at_below l (m + 16) 10 u))
      ∙ bits_at l m 16 u (omega arith)

  small : (x m : ℕ) → x ≡ at l m 26 → x < 2 ^ 26
  small x m e = subst (λ (y : ℕ). y < 2 ^ 26) (sym e) (at_below l m 26 u)

  pub words_are : (a p q d : ℕ) → a ≡ at l 0 26 → p ≡ at l 26 26 → q ≡ at l 52 26 → d ≡ at l 78 26
      → bytes (bits_of 64 ((a / 1024 * 65536 + p / 1024) * 4294967296 + (q / 1024 * 65536 + d / 1024))) ≡ information l
  unfolding information
  words_are a p q d ea ep ec ed =
      let sp = small p 26 ep in
      let sq = small q 52 ec in
      let sd = small d 78 ed in
      ap bytes
      (bits_join 32 32 (a / 1024 * 65536 + p / 1024) (q / 1024 * 65536 + d / 1024) (omega arith)
      ∙ ap₂ (λ (m n : List ℕ). m ++ n) (bits_join 16 16 (a / 1024) (p / 1024) (omega arith)) (bits_join 16 16 (q / 1024) (d / 1024) (omega arith))
      ∙ append_assoc (bits_of 16 (a / 1024)) (bits_of 16 (p / 1024)) (bits_of 16 (q / 1024) ++ bits_of 16 (d / 1024))
      ∙ ap₂ (λ (m n : List ℕ). m ++ n) (word a 0 ea (omega arith))
      (ap₂ (λ (m n : List ℕ). m ++ n) (word p 26 ep (omega arith))
      (ap₂ (λ (m n : List ℕ). m ++ n) (word q 52 ec (omega arith)) (word d 78 ed (omega arith)))))

module _ (l : List ℕ) (a p q d : ℕ) (ea : a ≡ at l 0 26) (ep : p ≡ at l 26 26) (ec : q ≡ at l 52 26) (ed : d ≡ at l 78 26) where
  four : is_frame l ≡ (is_valid a A && (is_valid p B && (is_valid q C && is_valid d D)))
  unfolding is_frame
  four =
      sym
      (ap₂ ◌&&◌ (ap (λ (x : ℕ). is_valid x A) ea)
      (ap₂ ◌&&◌ (ap (λ (x : ℕ). is_valid x B) ep) (ap₂ ◌&&◌ (ap (λ (x : ℕ). is_valid x C) ec) (ap (λ (x : ℕ). is_valid x D) ed))))

  pub no_first : (is_valid a A && is_valid p B) ≡ false → Takes false l no_frame
  no_first v = none_found l (four ∙ fails_more (is_valid a A) (is_valid p B) (is_valid q C && is_valid d D) v)

  module _ (vf : (is_valid a A && is_valid p B) ≡ true) where
    then : is_frame l ≡ (is_valid q C && is_valid d D)
    then =
        let v = and_both (is_valid a A) (is_valid p B) vf in
        four ∙ and_yes _ v.0 ∙ and_yes _ v.1

    pub no_second : (is_valid q C && is_valid d D) ≡ false → Takes false l no_frame
    no_second v = none_found l (then ∙ v)

    pub found : Under 2 l → 104 ≤ length l → (w : ℕ) → w ≡ (a / 1024 * 65536 + p / 1024) * 4294967296 + (q / 1024 * 65536 + d / 1024) → (is_valid q C && is_valid d D) ≡ true
        → Takes false l (record { frame = true; words = w; mended = 0 })
    unfolding is_taken taken_bytes taken_count
    found u h w e v = record {
      same = sym (then ∙ v);
      words = λ t. ap (λ (x : ℕ). bytes (bits_of 64 x)) e ∙ words_are l u h a p q d ea ep ec ed;
      count = λ t. refl;
    }

module _ (b : List ℕ) (end from x y : ℕ) (hold : Holds b end) (h : from + 104 ≤ end) (ex : x ≡ at (bits b) from 64) (ey : y ≡ at (bits b) (from + 52) 64) where
  within_b : end ≤ length b * 8
  within_b = omega (arith, hold.padded)

  pub stop_first : (is_valid (x / 274877906944) A && is_valid (x / 4096 % 67108864) B) ≡ false → Takes false (ahead b end from) no_frame
  stop_first =
      no_first (ahead b end from) _ _ _ _ (a_is b end from x y h within_b ex ey) (b_is b end from x y h within_b ex ey) (c_is b end from x y h within_b ex ey) (d_is b end from x y h within_b ex ey)

  module _ (vf : (is_valid (x / 274877906944) A && is_valid (x / 4096 % 67108864) B) ≡ true) where
    pub stop_second : (is_valid (y / 274877906944) C && is_valid (y / 4096 % 67108864) D) ≡ false → Takes false (ahead b end from) no_frame
    stop_second =
        no_second (ahead b end from) _ _ _ _ (a_is b end from x y h within_b ex ey) (b_is b end from x y h within_b ex ey) (c_is b end from x y h within_b ex ey) (d_is b end from x y h within_b ex ey) vf

    pub all_four : (w : ℕ)
        → w ≡ (x / 274877906944 / 1024 * 65536 + x / 4096 % 67108864 / 1024) * 4294967296 + (y / 274877906944 / 1024 * 65536 + y / 4096 % 67108864 / 1024)
        → (is_valid (y / 274877906944) C && is_valid (y / 4096 % 67108864) D) ≡ true → Takes false (ahead b end from) (record { frame = true; words = w; mended = 0 })
    all_four w e =
        found (ahead b end from) _ _ _ _ (a_is b end from x y h within_b ex ey) (b_is b end from x y h within_b ex ey) (c_is b end from x y h within_b ex ey) (d_is b end from x y h within_b ex ey) vf
        (under_ahead b end from) (omega (arith, ahead_long b end within_b from)) w e

-- ---- the four blocks at a place, mended
-- a block that was given has 26 bits
pub block_small : (o : Outcome) (n : ℕ) (x : Letter) → o ≡ mended_of n x → o.found ≡ true → o.block < 67108864
block_small o n x e v =
    subst (λ (z : Outcome). z.block < 67108864) (sym e) (valid_lt (mended_of n x).block x (mends n x (ap (λ (z : Outcome). z.found) (sym e) ∙ v)).valid)

pub one_small : (r : ℕ) (b : Bool) → r ≡ one b → r ≤ 1
one_small r true e = omega arith
one_small r false e = omega arith

sum_of : (a b c d : ℕ) → a + b + c + d ≡ a + (b + (c + d))
sum_of a b c d = omega arith

not_mended : (l : List ℕ) → can_mend l ≡ false → (r : Found) → r ≡ no_frame → Takes true l r
unfolding is_taken
not_mended l e r g = subst (Takes true l) (sym g) (none_taken true l e)

module _ (b : List ℕ) (end from x y : ℕ) (hold : Holds b end) (h : from + 104 ≤ end) (ex : x ≡ at (bits b) from 64) (ey : y ≡ at (bits b) (from + 52) 64)
    (oa : Outcome) (ma : oa ≡ mended_of (x / 274877906944) A) where
  abbrev here_l : List ℕ
  here_l = ahead b end from

  inside_b : end ≤ length b * 8
  inside_b = omega (arith, hold.padded)

  ea : oa ≡ block_at here_l 0 A
  ea = ma ∙ ap (λ (n : ℕ). mended_of n A) (a_is b end from x y h inside_b ex ey)

  pub fail_a : oa.found ≡ false → (r : Found) → r ≡ no_frame → Takes true here_l r
  unfolding can_mend
  fail_a v = not_mended here_l (and_no _ (ap (λ (o : Outcome). o.found) (sym ea) ∙ v))

  module _ (va : oa.found ≡ true) (ob : Outcome) (mb : ob ≡ mended_of (x / 4096 % 67108864) B) where
    eb : ob ≡ block_at here_l 26 B
    eb = mb ∙ ap (λ (n : ℕ). mended_of n B) (b_is b end from x y h inside_b ex ey)

    pub fail_b : ob.found ≡ false → (r : Found) → r ≡ no_frame → Takes true here_l r
    unfolding can_mend
    fail_b v = not_mended here_l (and_yes _ (ap (λ (o : Outcome). o.found) (sym ea) ∙ va) ∙ and_no _ (ap (λ (o : Outcome). o.found) (sym eb) ∙ v))

    module _ (vb : ob.found ≡ true) (oc : Outcome) (mc : oc ≡ mended_of (y / 274877906944) C) where
      ec : oc ≡ block_at here_l 52 C
      ec = mc ∙ ap (λ (n : ℕ). mended_of n C) (c_is b end from x y h inside_b ex ey)

      pub fail_c : oc.found ≡ false → (r : Found) → r ≡ no_frame → Takes true here_l r
      unfolding can_mend
      fail_c v =
          not_mended here_l
          (and_yes _ (ap (λ (o : Outcome). o.found) (sym ea) ∙ va) ∙ and_yes _ (ap (λ (o : Outcome). o.found) (sym eb) ∙ vb) ∙ and_no _ (ap (λ (o : Outcome). o.found) (sym ec) ∙ v))

      module _ (vc : oc.found ≡ true) (od : Outcome) (md : od ≡ mended_of (y / 4096 % 67108864) D) where
        ed : od ≡ block_at here_l 78 D
        ed = md ∙ ap (λ (n : ℕ). mended_of n D) (d_is b end from x y h inside_b ex ey)

        by_last : can_mend here_l ≡ od.found
        unfolding can_mend
        by_last =
            and_yes _ (ap (λ (o : Outcome). o.found) (sym ea) ∙ va)
            ∙ and_yes _ (ap (λ (o : Outcome). o.found) (sym eb) ∙ vb)
            ∙ and_yes _ (ap (λ (o : Outcome). o.found) (sym ec) ∙ vc)
            ∙ ap (λ (o : Outcome). o.found) (sym ed)

        pub fail_d : od.found ≡ false → (r : Found) → r ≡ no_frame → Takes true here_l r
        fail_d v = not_mended here_l (by_last ∙ v)

        pub all_mended : od.found ≡ true → (w k : ℕ)
            → w ≡ (oa.block / 1024 * 65536 + ob.block / 1024) * 4294967296 + (oc.block / 1024 * 65536 + od.block / 1024)
            → k ≡ one oa.changed + one ob.changed + one oc.changed + one od.changed
            → Takes true here_l (record { frame = true; words = w; mended = k })
        unfolding is_taken taken_bytes taken_count mended_blocks
        all_mended v w k ew ek =
            let can = by_last ∙ v in
            let f = mended_fields here_l can in
            record {
              same = sym can;
              words = λ t.
                  ap (λ (z : ℕ). bytes (bits_of 64 z)) ew
                  ∙ words_are (mended_bits here_l) (under_mended here_l) (omega (arith, mended_long here_l)) oa.block ob.block oc.block od.block
                  (ap (λ (o : Outcome). o.block) ea ∙ sym f.0) (ap (λ (o : Outcome). o.block) eb ∙ sym f.1)
                  (ap (λ (o : Outcome). o.block) ec ∙ sym f.2) (ap (λ (o : Outcome). o.block) ed ∙ sym f.3);
              count = λ t.
                  ek
                  ∙ sum_of (one oa.changed) (one ob.changed) (one oc.changed) (one od.changed)
                  ∙ sum_same (ap (λ (o : Outcome). one o.changed) ea) (ap (λ (o : Outcome). one o.changed) eb)
                  (ap (λ (o : Outcome). one o.changed) ec) (ap (λ (o : Outcome). one o.changed) ed);
            }

-- ---- a start of either kind
-- four blocks that pass are handed out behind a frame as they are anywhere
pub either : (b : List ℕ) (end from : ℕ) (t : Bool) (r : Found) → Holds b end → from + 104 ≤ end → Takes false (ahead b end from) r → r.frame ≡ true → Takes t (ahead b end from) r
unfolding is_taken taken_bytes taken_count
either b end from t r hold h k v =
    let l = ahead b end from in
    let is : is_frame l ≡ true = sym k.same ∙ v in
    let inside : end ≤ length b * 8 = omega (arith, hold.padded) in
    record {
      same = v ∙ sym (frame_taken l is t);
      words = λ z. k.words z ∙ sym (frame_bytes l is (omega (arith, ahead_long b end inside from)) (under_ahead b end from) t);
      count = λ z. k.count z ∙ sym (frame_count l is t);
    }

-- ---- the loop
pub record Going (b : List ℕ) (end : ℕ) (behind : Bool) (start : ℕ) (out₀ out counts₀ counts : List ℕ) (from n : ℕ) (t : Bool) : Type 0 where
  pub count : n + length (heard_from b end t from).frames ≡ length (heard_from b end behind start).frames
  pub pending : (heard_from b end t from).pending ≡ (heard_from b end behind start).pending
  pub follows : (heard_from b end t from).follows ≡ (heard_from b end behind start).follows
  pub stored : sets out (n * 8) (joined (heard_from b end t from).frames) ≡ sets out₀ 0 (joined (heard_from b end behind start).frames)
  pub counted : sets counts n (heard_from b end t from).counts ≡ sets counts₀ 0 (heard_from b end behind start).counts
  pub same : length out ≡ length out₀
  pub same_counts : length counts ≡ length counts₀
  pub few : n * 104 + 25 ≤ from
  pub inside : from ≤ end

pub begin : (b : List ℕ) (end : ℕ) (behind : Bool) (start : ℕ) (out counts : List ℕ) → 25 ≤ start → start ≤ end → Going b end behind start out out counts counts start 0 behind
begin b end behind start out counts h k = record {
  count = omega arith;
  pending = refl;
  follows = refl;
  stored = refl;
  counted = refl;
  same = refl;
  same_counts = refl;
  few = h;
  inside = k;
}

module _ {b : List ℕ} {end : ℕ} {behind : Bool} {start : ℕ} {out₀ out counts₀ counts : List ℕ} {from n : ℕ} {t : Bool} (hold : Holds b end)
    (g : Going b end behind start out₀ out counts₀ counts from n t) where
  fits : end ≤ length b * 8
  fits = omega (arith, hold.padded)

  -- there is room for one more
  pub room : from + 104 ≤ end → 320 ≤ length out₀ → n * 8 + 8 ≤ length out
  room h k = omega (arith, g.few, g.same, hold.short)

  pub count_room : from + 104 ≤ end → 40 ≤ length counts₀ → n < length counts
  count_room h k = omega (arith, g.few, g.same_counts, hold.short)

  module _ (h : from + 104 ≤ end) where
    long : 104 ≤ length (ahead b end from)
    long = omega (arith, ahead_long b end fits from)

    -- a frame was stored, and its count
    pub stored_on : is_taken t (ahead b end from) ≡ true → (t' : Bool) → t' ≡ true → (f out' : List ℕ) (k : ℕ) (counts' : List ℕ)
        → f ≡ taken_bytes t (ahead b end from) → out' ≡ sets out (n * 8) f → k ≡ taken_count t (ahead b end from) → counts' ≡ sets counts n (k ∷ [])
        → Going b end behind start out₀ out' counts₀ counts' (from + 104) (n + 1) t'
    unfolding joined heard_from
    stored_on v t' et f out' k counts' e s ek sk =
        let step : heard_from b end t from ≡ first t (ahead b end from) (heard_from b end true (from + 104)) =
        heard_frame t (ahead b end from) long v ∙ ap (λ (m : List ℕ). first t (ahead b end from) (heard true m)) (ahead_on b end from 104) in
        let rest = (heard_from b end true (from + 104)).frames in
        let others = (heard_from b end true (from + 104)).counts in
        let c : length (heard_from b end t from).frames ≡ suc (length rest) = ap (λ (x : Heard). length x.frames) step in
        let eight : length f ≡ 8 = ap length e ∙ taken_eight t (ahead b end from) long in
        let place : (n + 1) * 8 ≡ n * 8 + length f = omega arith in
        subst (Going b end behind start out₀ out' counts₀ counts' (from + 104) (n + 1)) (sym et)
        (record {
          count = omega (arith, g.count, c);
          pending = ap (λ (x : Heard). x.pending) (sym step) ∙ g.pending;
          follows = ap (λ (x : Heard). x.follows) (sym step) ∙ g.follows;
          stored =
              ap₂ (λ (o : List ℕ) (i : ℕ). sets o i (joined rest)) s place
              ∙ sym (sets_append f (joined rest) out (n * 8))
              ∙ ap (λ (m : List ℕ). sets out (n * 8) (m ++ joined rest)) e
              ∙ ap (λ (x : Heard). sets out (n * 8) (joined x.frames)) (sym step)
              ∙ g.stored;
          counted =
              ap (λ (o : List ℕ). sets o (n + 1) others) sk
              ∙ sym (sets_append (k ∷ []) others counts n)
              ∙ ap (λ (m : ℕ). sets counts n (m ∷ others)) ek
              ∙ ap (λ (x : Heard). sets counts n x.counts) (sym step)
              ∙ g.counted;
          same = ap length s ∙ length-sets out (n * 8) f ∙ g.same;
          same_counts = ap length sk ∙ length-sets counts n (k ∷ []) ∙ g.same_counts;
          few = omega (arith, g.few);
          inside = h;
        })

    -- no frame: the search has gone further, and follows none
    pub passed_on : is_taken t (ahead b end from) ≡ false → (t' : Bool) → t' ≡ false → {to : ℕ} → Further b end (from + 1) (end - 103) to → Going b end behind start out₀ out counts₀ counts to n t'
    passed_on v t' et {to} f =
        let step : heard_from b end false to ≡ heard_from b end t from = f.on ∙ one_by b end t from fits h v in
        subst (Going b end behind start out₀ out counts₀ counts to n) (sym et)
        (record {
          count = ap (λ (x : Heard). n + length x.frames) step ∙ g.count;
          pending = ap (λ (x : Heard). x.pending) step ∙ g.pending;
          follows = ap (λ (x : Heard). x.follows) step ∙ g.follows;
          stored = ap (λ (x : Heard). sets out (n * 8) (joined x.frames)) step ∙ g.stored;
          counted = ap (λ (x : Heard). sets counts n x.counts) step ∙ g.counted;
          same = g.same;
          same_counts = g.same_counts;
          few = omega (arith, g.few, f.later);
          inside = omega (arith, f.inside);
        })

  -- fewer than 104 bits are left
  pub over : end < from + 104
      → Searched b end behind start (record { from = from; frames = n; follows = t })
      × ((out ≡ sets out₀ 0 (joined (heard_from b end behind start).frames)) × (counts ≡ sets counts₀ 0 (heard_from b end behind start).counts))
  unfolding joined heard_from
  over h =
      let step : heard_from b end t from ≡ ended t (ahead b end from) = heard_short t (ahead b end from) (omega (arith, ahead_long b end fits from)) in
      let z : length (heard_from b end t from).frames ≡ 0 = ap (λ (x : Heard). length x.frames) step in (
        record {
          frames = omega (arith, g.count, z);
          pending = ap (λ (x : Heard). x.pending) (sym step) ∙ g.pending;
          behind = ap (λ (x : Heard). x.follows) (sym step) ∙ g.follows;
          inside = g.inside;
          few = h;
        },
        (ap (λ (x : Heard). sets out (n * 8) (joined x.frames)) (sym step) ∙ g.stored, ap (λ (x : Heard). sets counts n x.counts) (sym step) ∙ g.counted),
      )
