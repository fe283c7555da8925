-- A receiver hands out only what stood on air. Assumes nothing.
use mathlib.Core.Path.{◌≡◌, refl, sym, ap, ap₂, subst, ◌∙◌}
use mathlib.Core.List.{List, [], ◌∷◌, ◌++◌, append_assoc}
use mathlib.Core.Bool.{Bool, true, false, not}
use Prim.Native.Nat.{ℕ, ◌+◌, ◌*◌, ◌/◌, ◌%◌, ◌^◌, ◌<◌, ◌≤◌}
use native.Mathlib.Omega.{arith}
use lib.ListN.{length, take, drop, take-append-drop}
use lib.Seq.{take_all, length-take-le}
use lib.Bits.{xor_zero_r}
use lib.Dec.{eqb, ltb}
use borrow.Author.Tests.{eqb-true, eq-eqb}
use Rattle.laws.specs.Bits.{at, bits_of, bits}
use Rattle.laws.proofs.Cases.{and_right}
use Rattle.laws.proofs.Elements.{by_test}
use Rattle.laws.proofs.Bits.{Under, at_below, bits_at, bits_bytes, under_append, under_spread, under_take, under_drop}
use Rattle.laws.proofs.ByteFields.{at_parts}
use Rattle.block.specs.declared.Letter.{Letter}
use Rattle.block.specs.declared.Letter.TheVariants.{A, B, C, D}
use Rattle.block.specs.Block.{offset_of, check_word, carries, is_valid}
use Rattle.frame.specs.OnAir.{block_bits, frame_bits, air_bytes}
use Rattle.frame.proofs.OnAir.{block_number, length_frame, air_bits}
use Rattle.mend.specs.Mend.{within_five}
use Rattle.mend.proofs.Near.{narrow_near}
use Rattle.receiver.specs.Rule.{is_frame, information, mended_bits, one, mended_blocks, is_taken, taken_bytes, taken_count, heard}
use Rattle.receiver.specs.Receive.{fresh_receiver, hearing}
use Rattle.receiver.specs.Calls.{Call, all_frames, all_counts, delivered, in_bounds}
use Rattle.receiver.specs.Standing.{differs, Damaged, StandIn}
use Rattle.receiver.proofs.Rule.{over}
use Rattle.receiver.proofs.Sound.{information_bits, information_64, mended_long, under_mended}
use Rattle.receiver.proofs.Starts.{frame_blocks, fields, in_blocks, by_numbers, four_same, mended_frame, mended_damaged}
use Rattle.receiver.proofs.Cutting.{cutting_any, takes_all}

-- a valid block's bits are those of its information word and no others
block_there : (l : List ℕ) (p : ℕ) (x : Letter) → p + 26 ≤ length l → Under 2 l → is_valid (at l p 26) x ≡ true → take 26 (drop p l) ≡ block_bits (at l p 16) x
unfolding is_valid carries
block_there l p x k u v =
    let n = at l p 26 in
    let e : check_word (n / 2 ^ 10) (offset_of x) ≡ n % 2 ^ 10 = eqb-true _ _ (and_right (ltb n (2 ^ 26)) (eqb (check_word (n / 2 ^ 10) (offset_of x)) (n % 2 ^ 10)) v) in
    let w : n / 2 ^ 10 ≡ at l p 16 = omega (arith, at_parts l p 16 10, at_below l (p + 16) 10 u) in
    let c : check_word (at l p 16) (offset_of x) ≡ n % 2 ^ 10 = ap (λ (m : ℕ). check_word m (offset_of x)) (sym w) ∙ e in
    let all : n ≡ at l p 16 * 2 ^ 10 + check_word (at l p 16) (offset_of x) = omega (arith, w, c) in
    sym (bits_at l p 26 u k) ∙ ap (bits_of 26) all ∙ sym (block_number (at l p 16) x)

module _ (l : List ℕ) (h : 104 ≤ length l) (u : Under 2 l) where
  four_words : information_bits l ≡ bits_of 16 (at l 0 16) ++ (bits_of 16 (at l 26 16) ++ (bits_of 16 (at l 52 16) ++ bits_of 16 (at l 78 16)))
  four_words =
      sym
      (ap₂ (λ (a b : List ℕ). a ++ b) (bits_at l 0 16 u (omega arith))
      (ap₂ (λ (a b : List ℕ). a ++ b) (bits_at l 26 16 u (omega arith))
      (ap₂ (λ (a b : List ℕ). a ++ b) (bits_at l 52 16 u (omega arith)) (bits_at l 78 16 u (omega arith)))))

  small : (p : ℕ) → at l p 16 < 2 ^ 16
  small p = at_below l p 16 u

  in_bits : bits (information l) ≡ information_bits l
  unfolding information
  in_bits =
      bits_bytes (information_bits l)
      (under_append 2 (take 16 l) _ (under_take 2 16 l u)
      (under_append 2 (take 16 (drop 26 l)) _ (under_take 2 16 (drop 26 l) (under_drop 2 26 l u))
      (under_append 2 (take 16 (drop 52 l)) (take 16 (drop 78 l)) (under_take 2 16 (drop 52 l) (under_drop 2 52 l u)) (under_take 2 16 (drop 78 l) (under_drop 2 78 l u)))))
      (omega (arith, information_64 l h))

  -- the first 104 bits are those of the frame that is handed out, as a sender makes them
  pub frame_there : is_frame l ≡ true → take 104 l ≡ frame_bits (information l)
  unfolding is_frame frame_bits
  frame_there v =
      let t = frame_blocks l v in
      let w = fields 16 (at l 0 16) (at l 26 16) (at l 52 16) (at l 78 16) (small 0) (small 26) (small 52) (small 78) (bits (information l)) (in_bits ∙ four_words) in
      in_blocks l
      ∙ ap₂ (λ (a b : List ℕ). a ++ b) (block_there l 0 A (omega arith) u t.0 ∙ ap (λ (x : ℕ). block_bits x A) (sym w.0))
      (ap₂ (λ (a b : List ℕ). a ++ b) (block_there l 26 B (omega arith) u t.1 ∙ ap (λ (x : ℕ). block_bits x B) (sym w.1))
      (ap₂ (λ (a b : List ℕ). a ++ b) (block_there l 52 C (omega arith) u t.2 ∙ ap (λ (x : ℕ). block_bits x C) (sym w.2))
      (block_there l 78 D (omega arith) u t.3 ∙ ap (λ (x : ℕ). block_bits x D) (sym w.3))))

-- ---- what is handed out, with its damage
frame_bits_long : (s f : List ℕ) → length s ≡ 104 → take 104 s ≡ frame_bits f → s ≡ frame_bits f
frame_bits_long s f h e = sym (take_all 104 s (omega arith)) ∙ e

-- bits that differ from themselves in nothing
near_self : (n : ℕ) → within_five n n ≡ true
near_self n = ap (λ (x : ℕ). within_five x n) (sym (xor_zero_r n)) ∙ narrow_near n 0 (record { pattern = 0; place = 0; short = omega arith; inside = omega arith; is = refl })

differs_self : (n : ℕ) → differs n n ≡ 0
differs_self n = ap (λ (b : Bool). one (not b)) (eq-eqb n n refl)

pub undamaged : (s : List ℕ) → length s ≡ 104 → Damaged s s 0
undamaged s h = record {
  long = h;
  a = near_self (at s 0 26);
  b = near_self (at s 26 26);
  c = near_self (at s 52 26);
  d = near_self (at s 78 26);
  count = sym (ap₂ (λ (x y : ℕ). x + y) (differs_self (at s 0 26)) (ap₂ (λ (x y : ℕ). x + y) (differs_self (at s 26 26)) (ap₂ (λ (x y : ℕ). x + y) (differs_self (at s 52 26)) (differs_self (at s 78 26)))));
}

-- whether 104 bits are handed out as they are or as mended, they are the frame with so many blocks damaged
damaged_there : (t : Bool) (l : List ℕ) → 104 ≤ length l → Under 2 l → is_taken t l ≡ true → Damaged (frame_bits (taken_bytes t l)) (take 104 l) (taken_count t l)
unfolding is_taken taken_bytes taken_count
damaged_there false l h u v = subst (λ (s : List ℕ). Damaged s (take 104 l) 0) (frame_there l h u v) (undamaged (take 104 l) (length-take-le 104 l h))
damaged_there true l h u v =
    let m = mended_bits l in
    subst (λ (s : List ℕ). Damaged s (take 104 l) (mended_blocks l))
    (frame_bits_long m (information m) (mended_long l) (frame_there m (omega (arith, mended_long l)) (under_mended l) (mended_frame l v)))
    (mended_damaged l v h)

-- with none damaged, it is as it was sent
same_number : (a b : ℕ) → differs a b ≡ 0 → a ≡ b
same_number a b e =
    by_test (eqb a b) (λ y. eqb-true a b y)
    (λ y. let z : ◌≡◌ {A = ℕ} 1 0 = sym (ap (λ (x : Bool). one (not x)) y) ∙ e in absurd (omega arith))

sum_zero : (a b c d : ℕ) → 0 ≡ a + (b + (c + d)) → (a ≡ 0) × (b ≡ 0) × (c ≡ 0) × (d ≡ 0)
sum_zero a b c d e = (omega arith, omega arith, omega arith, omega arith)

pub clean_there : (s x : List ℕ) (k : ℕ) → 104 ≤ length s → Under 2 s → Under 2 x → Damaged s x k → k ≡ 0 → take 104 s ≡ x
clean_there s x k h u w d e =
    let z = sum_zero _ _ _ _ (sym e ∙ d.count) in
    sym (by_numbers s h u)
    ∙ four_same (same_number _ _ z.0) (same_number _ _ z.1) (same_number _ _ z.2) (same_number _ _ z.3)
    ∙ by_numbers x (omega (arith, d.long)) w
    ∙ take_all 104 x (omega (arith, d.long))

pub under_frame : (f : List ℕ) → Under 2 (frame_bits f)
under_frame f = subst (Under 2) (air_bits f) (under_spread 8 (air_bytes f))

-- ---- the rule hands out what stood there
-- frames that stand behind stand in the whole
stand_behind : (fs : List (List ℕ)) (ks a l : List ℕ) → StandIn fs ks l → StandIn fs ks (a ++ l)
stand_behind [] [] a l s = s
stand_behind [] (k ∷ ks) a l s = s
stand_behind (f ∷ fs) [] a l s = s
stand_behind (f ∷ fs) (k ∷ ks) a l s = record {
  before = a ++ s.before;
  from = s.from;
  there = ap (λ (m : List ℕ). a ++ m) s.there ∙ sym (append_assoc a s.before s.from);
  here = s.here;
  clean = s.clean;
}

pub stood : (t : Bool) (l : List ℕ) → Under 2 l → StandIn (heard t l).frames (heard t l).counts l
stood =
    over (λ t l h. Under 2 l → StandIn h.frames h.counts l)
    (λ t l k u. tt)
    (λ t l h k v ih u.
    let d = damaged_there t l k u v in
    let n = length_frame (taken_bytes t l) in
    record {
      before = [];
      from = l;
      there = refl;
      here = record { stood = take 104 l; behind = drop 104 l; there = sym (take-append-drop 104 l); damage = d; rest = ih (under_drop 2 104 l u) };
      clean = λ e. sym (clean_there (frame_bits (taken_bytes t l)) (take 104 l) (taken_count t l) (omega arith) (under_frame (taken_bytes t l)) (under_take 2 104 l u) d e) ∙ take_all 104 (frame_bits (taken_bytes t l)) (omega arith);
    })
    (λ t l h k v ih u. subst (StandIn h.frames h.counts) (take-append-drop 1 l) (stand_behind h.frames h.counts (take 1 l) (drop 1 l) (ih (under_drop 2 1 l u))))

-- Every frame that a fresh receiver hands out, in whatever deliveries, stood on air, one frame behind the other: with count 0 its 104 bits, as a sender makes
-- them, are among the bits delivered. With another count so many of its four blocks differ from what stood there, each only within five neighbouring bits, and
-- the others stood there as they are. Nothing else is made up, or put together from two places.
pub stood_on_air : (c : Call) (cs : List Call) → in_bounds (c ∷ cs) ≡ true → StandIn (all_frames fresh_receiver (c ∷ cs)) (all_counts fresh_receiver (c ∷ cs)) (bits (delivered (c ∷ cs)))
unfolding hearing bits_of
stood_on_air c cs b =
    let l = bits (delivered (c ∷ cs)) in
    let all = cutting_any fresh_receiver c cs (takes_all fresh_receiver (c ∷ cs) (omega arith) b) in
    subst (λ (ks : List ℕ). StandIn (all_frames fresh_receiver (c ∷ cs)) ks l) (sym all.1)
    (subst (λ (fs : List (List ℕ)). StandIn fs (hearing fresh_receiver (delivered (c ∷ cs))).counts l) (sym all.0) (stood false l (under_spread 8 (delivered (c ∷ cs)))))
