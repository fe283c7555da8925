-- What a start hands out: 104 bits as they are or as mended, whatever is behind them. Assumes nothing.
use mathlib.Core.Path.{◌≡◌, refl, sym, ap, ap₂, ◌∙◌}
use mathlib.Core.Bool.{Bool, true, false, not, ◌&&◌}
use mathlib.Core.List.{List, ◌++◌}
use Prim.Native.Nat.{ℕ, ◌+◌, ◌^◌, ◌<◌, ◌≤◌}
use native.Mathlib.Omega.{arith}
use lib.ListN.{length, take, drop, length-drop, take-append-drop}
use lib.Seq.{take-add, drop-drop, take-append-le, drop-append-le, length-take-le}
use lib.Dec.{eqb}
use Rattle.laws.specs.Bits.{at, bits_of, bytes}
use Rattle.laws.proofs.Bits.{Under, at_left, at_bits, bits_at}
use Rattle.laws.proofs.ByteFields.{at_front, at_behind}
use Rattle.laws.proofs.Cases.{and_both}
use Rattle.block.specs.declared.Letter.{Letter}
use Rattle.block.specs.declared.Letter.TheVariants.{A, B, C, D}
use Rattle.block.specs.Block.{is_valid}
use Rattle.mend.specs.Mend.{Outcome}
use Rattle.mend.specs.Mend.{within_five, fits, mended_of}
use Rattle.mend.proofs.Search.{used}
use Rattle.mend.proofs.OnlyOne.{fits_is, valid_lt, given_one, whole_stays}
use Rattle.mend.proofs.Mending.{found_fits}
use Rattle.receiver.specs.Rule.{is_frame, information, block_at, can_mend, mended_bits, one, mended_blocks, is_taken, taken_bytes, taken_count}
use Rattle.receiver.specs.Standing.{Damaged, differs}
use Rattle.receiver.proofs.Octets.{at_take}

-- ---- four tests, four blocks
abbrev pub AllFour : Bool → Bool → Bool → Bool → Type 0
AllFour a b c d = (a ≡ true) × (b ≡ true) × (c ≡ true) × (d ≡ true)

pub all_four : (a b c d : Bool) → (a && (b && (c && d))) ≡ true → AllFour a b c d
all_four a b c d t =
    let x = and_both a (b && (c && d)) t in
    let y = and_both b (c && d) x.1 in
    let z = and_both c d y.1 in
    (x.0, y.0, z.0, z.1)

pub frame_blocks : (l : List ℕ) → is_frame l ≡ true → AllFour (is_valid (at l 0 26) A) (is_valid (at l 26 26) B) (is_valid (at l 52 26) C) (is_valid (at l 78 26) D)
unfolding is_frame
frame_blocks l v = all_four (is_valid (at l 0 26) A) (is_valid (at l 26 26) B) (is_valid (at l 52 26) C) (is_valid (at l 78 26) D) v

-- four numbers of w bits each, one behind the other
pub fields : (w a b c d : ℕ) → a < 2 ^ w → b < 2 ^ w → c < 2 ^ w → d < 2 ^ w → (l : List ℕ) → l ≡ bits_of w a ++ (bits_of w b ++ (bits_of w c ++ bits_of w d))
    → (at l 0 w ≡ a) × (at l (w + 0) w ≡ b) × (at l (w + (w + 0)) w ≡ c) × (at l (w + (w + (w + 0))) w ≡ d)
fields w a b c d ha hb hc hd l e =
    let t = bits_of w c ++ bits_of w d in
    let s = bits_of w b ++ t in (
      ap (λ (x : List ℕ). at x 0 w) e ∙ at_front w a s ha,
      ap (λ (x : List ℕ). at x (w + 0) w) e ∙ at_behind w a s 0 w ∙ at_front w b t hb,
      ap (λ (x : List ℕ). at x (w + (w + 0)) w) e ∙ at_behind w a s (w + 0) w ∙ at_behind w b t 0 w ∙ at_front w c (bits_of w d) hc,
      ap (λ (x : List ℕ). at x (w + (w + (w + 0))) w) e ∙ at_behind w a s (w + (w + 0)) w ∙ at_behind w b t (w + 0) w ∙ at_behind w c (bits_of w d) 0 w ∙ at_bits w d hd,
    )

-- 104 bits, block by block
pub in_blocks : (l : List ℕ) → take 104 l ≡ take 26 l ++ (take 26 (drop 26 l) ++ (take 26 (drop 52 l) ++ take 26 (drop 78 l)))
in_blocks l =
    take-add 26 78 l
    ∙ ap (λ (m : List ℕ). take 26 l ++ m)
    (take-add 26 52 (drop 26 l)
    ∙ ap (λ (m : List ℕ). take 26 (drop 26 l) ++ take 52 m) (drop-drop 26 26 l)
    ∙ ap (λ (m : List ℕ). take 26 (drop 26 l) ++ m) (take-add 26 26 (drop 52 l) ∙ ap (λ (m : List ℕ). take 26 (drop 52 l) ++ take 26 m) (drop-drop 26 52 l)))

-- and by the four numbers
abbrev pub four_of : ℕ → ℕ → ℕ → ℕ → List ℕ
four_of a b c d = bits_of 26 a ++ (bits_of 26 b ++ (bits_of 26 c ++ bits_of 26 d))

pub by_numbers : (l : List ℕ) → 104 ≤ length l → Under 2 l → four_of (at l 0 26) (at l 26 26) (at l 52 26) (at l 78 26) ≡ take 104 l
by_numbers l h u =
    ap₂ (λ (a b : List ℕ). a ++ b) (bits_at l 0 26 u (omega arith))
    (ap₂ (λ (a b : List ℕ). a ++ b) (bits_at l 26 26 u (omega arith)) (ap₂ (λ (a b : List ℕ). a ++ b) (bits_at l 52 26 u (omega arith)) (bits_at l 78 26 u (omega arith))))
    ∙ sym (in_blocks l)

pub four_same : {a b c d e f g h : ℕ} → a ≡ e → b ≡ f → c ≡ g → d ≡ h → four_of a b c d ≡ four_of e f g h
four_same p q r s =
    ap₂ (λ (x y : List ℕ). x ++ y) (ap (bits_of 26) p)
    (ap₂ (λ (x y : List ℕ). x ++ y) (ap (bits_of 26) q) (ap₂ (λ (x y : List ℕ). x ++ y) (ap (bits_of 26) r) (ap (bits_of 26) s)))

pub sum_same : {a b c d e f g h : ℕ} → a ≡ e → b ≡ f → c ≡ g → d ≡ h → a + (b + (c + d)) ≡ e + (f + (g + h))
sum_same p q r s = ap₂ (λ (x y : ℕ). x + y) p (ap₂ (λ (x y : ℕ). x + y) q (ap₂ (λ (x y : ℕ). x + y) r s))

-- ---- what is behind the first 104 bits has no part in whether they are handed out, and as what
module _ (l m : List ℕ) (k : 104 ≤ length l) where
  pub same_frame : is_frame (l ++ m) ≡ is_frame l
  unfolding is_frame
  same_frame =
      ap₂ ◌&&◌ (ap (λ (x : ℕ). is_valid x A) (at_left l m 0 26 (omega arith)))
      (ap₂ ◌&&◌ (ap (λ (x : ℕ). is_valid x B) (at_left l m 26 26 (omega arith)))
      (ap₂ ◌&&◌ (ap (λ (x : ℕ). is_valid x C) (at_left l m 52 26 (omega arith))) (ap (λ (x : ℕ). is_valid x D) (at_left l m 78 26 (omega arith)))))

  word : (p : ℕ) → p + 16 ≤ 104 → take 16 (drop p (l ++ m)) ≡ take 16 (drop p l)
  word p h =
      ap (take 16) (drop-append-le p l m (omega arith)) ∙ take-append-le 16 (drop p l) m (omega (arith, length-drop p l))

  pub same_information : information (l ++ m) ≡ information l
  unfolding information
  same_information =
      ap bytes
      (ap₂ (λ (a b : List ℕ). a ++ b) (word 0 (omega arith))
      (ap₂ (λ (a b : List ℕ). a ++ b) (word 26 (omega arith)) (ap₂ (λ (a b : List ℕ). a ++ b) (word 52 (omega arith)) (word 78 (omega arith)))))

  block_same : (p : ℕ) (x : Letter) → p + 26 ≤ 104 → block_at (l ++ m) p x ≡ block_at l p x
  block_same p x h = ap (λ (n : ℕ). mended_of n x) (at_left l m p 26 (omega arith))

  pub same_taken : (t : Bool) → is_taken t (l ++ m) ≡ is_taken t l
  unfolding is_taken can_mend
  same_taken false = same_frame
  same_taken true =
      ap₂ ◌&&◌ (ap (λ (o : Outcome). o.found) (block_same 0 A (omega arith)))
      (ap₂ ◌&&◌ (ap (λ (o : Outcome). o.found) (block_same 26 B (omega arith)))
      (ap₂ ◌&&◌ (ap (λ (o : Outcome). o.found) (block_same 52 C (omega arith))) (ap (λ (o : Outcome). o.found) (block_same 78 D (omega arith)))))

  pub same_bytes : (t : Bool) → taken_bytes t (l ++ m) ≡ taken_bytes t l
  unfolding taken_bytes mended_bits
  same_bytes false = same_information
  same_bytes true =
      ap information
      (four_same (ap (λ (o : Outcome). o.block) (block_same 0 A (omega arith))) (ap (λ (o : Outcome). o.block) (block_same 26 B (omega arith)))
      (ap (λ (o : Outcome). o.block) (block_same 52 C (omega arith))) (ap (λ (o : Outcome). o.block) (block_same 78 D (omega arith))))

  pub same_count : (t : Bool) → taken_count t (l ++ m) ≡ taken_count t l
  unfolding taken_count mended_blocks
  same_count false = refl
  same_count true =
      sum_same (ap (λ (o : Outcome). one o.changed) (block_same 0 A (omega arith))) (ap (λ (o : Outcome). one o.changed) (block_same 26 B (omega arith)))
      (ap (λ (o : Outcome). one o.changed) (block_same 52 C (omega arith))) (ap (λ (o : Outcome). one o.changed) (block_same 78 D (omega arith)))

-- the first 104 bits alone
pub first_104 : (l : List ℕ) → 104 ≤ length l → information (take 104 l) ≡ information l
first_104 l h =
    sym (same_information (take 104 l) (drop 104 l) (omega (arith, length-take-le 104 l h))) ∙ ap information (take-append-drop 104 l)

-- ---- a block that passes is used as it is
module _ (l : List ℕ) (v : is_frame l ≡ true) where
  stays : (p : ℕ) (x : Letter) → is_valid (at l p 26) x ≡ true → block_at l p x ≡ record { found = true; changed = false; block = at l p 26 }
  stays p x t = whole_stays (at l p 26) x t

  whole_mend : can_mend l ≡ true
  unfolding can_mend
  whole_mend =
      let w = frame_blocks l v in
      ap₂ ◌&&◌ (ap (λ (o : Outcome). o.found) (stays 0 A w.0))
      (ap₂ ◌&&◌ (ap (λ (o : Outcome). o.found) (stays 26 B w.1))
      (ap₂ ◌&&◌ (ap (λ (o : Outcome). o.found) (stays 52 C w.2)) (ap (λ (o : Outcome). o.found) (stays 78 D w.3))))

  -- so what is handed out anywhere is handed out behind a frame too
  pub frame_taken : (t : Bool) → is_taken t l ≡ true
  unfolding is_taken
  frame_taken false = v
  frame_taken true = whole_mend

  pub frame_count : (t : Bool) → taken_count t l ≡ 0
  unfolding taken_count mended_blocks
  frame_count false = refl
  frame_count true =
      let w = frame_blocks l v in
      sum_same (ap (λ (o : Outcome). one o.changed) (stays 0 A w.0)) (ap (λ (o : Outcome). one o.changed) (stays 26 B w.1))
      (ap (λ (o : Outcome). one o.changed) (stays 52 C w.2)) (ap (λ (o : Outcome). one o.changed) (stays 78 D w.3))

  pub frame_bytes : 104 ≤ length l → Under 2 l → (t : Bool) → taken_bytes t l ≡ information l
  unfolding taken_bytes mended_bits
  frame_bytes h u false = refl
  frame_bytes h u true =
      let w = frame_blocks l v in
      ap information
      (four_same (ap (λ (o : Outcome). o.block) (stays 0 A w.0)) (ap (λ (o : Outcome). o.block) (stays 26 B w.1))
      (ap (λ (o : Outcome). o.block) (stays 52 C w.2)) (ap (λ (o : Outcome). o.block) (stays 78 D w.3))
      ∙ by_numbers l h u)
      ∙ first_104 l h

-- ---- four blocks that can be mended
-- one of them: it is valid, near the bits, and marked as changed where it is another number
pub record Mends (bits : ℕ) (x : Letter) (o : Outcome) : Type 0 where
  pub valid : is_valid o.block x ≡ true
  pub near : within_five o.block bits ≡ true
  pub marked : o.changed ≡ not (eqb o.block bits)

pub mends : (bits : ℕ) (x : Letter) → (mended_of bits x).found ≡ true → Mends bits x (mended_of bits x)
mends bits x t =
    let f = found_fits bits x t in
    let i = fits_is bits x (mended_of bits x).block f in
    record {
      valid = i.0;
      near = i.1;
      marked = ap (λ (o : Outcome). o.changed) (given_one bits x (mended_of bits x).block f);
    }

module _ (l : List ℕ) (v : can_mend l ≡ true) where
  all_found : AllFour (block_at l 0 A).found (block_at l 26 B).found (block_at l 52 C).found (block_at l 78 D).found
  unfolding can_mend
  all_found = all_four (block_at l 0 A).found (block_at l 26 B).found (block_at l 52 C).found (block_at l 78 D).found v

  ma : Mends (at l 0 26) A (block_at l 0 A)
  ma = mends (at l 0 26) A all_found.0

  mb : Mends (at l 26 26) B (block_at l 26 B)
  mb = mends (at l 26 26) B all_found.1

  mc : Mends (at l 52 26) C (block_at l 52 C)
  mc = mends (at l 52 26) C all_found.2

  md : Mends (at l 78 26) D (block_at l 78 D)
  md = mends (at l 78 26) D all_found.3

  -- the mended bits by their numbers
  pub mended_fields : (at (mended_bits l) 0 26 ≡ (block_at l 0 A).block) × (at (mended_bits l) 26 26 ≡ (block_at l 26 B).block) × (at (mended_bits l) 52 26 ≡ (block_at l 52 C).block) × (at (mended_bits l) 78 26 ≡ (block_at l 78 D).block)
  unfolding mended_bits
  mended_fields =
      fields 26 (block_at l 0 A).block (block_at l 26 B).block (block_at l 52 C).block (block_at l 78 D).block
      (valid_lt (block_at l 0 A).block A ma.valid) (valid_lt (block_at l 26 B).block B mb.valid) (valid_lt (block_at l 52 C).block C mc.valid) (valid_lt (block_at l 78 D).block D md.valid)
      (mended_bits l) refl

  -- they are a frame
  pub mended_frame : is_frame (mended_bits l) ≡ true
  unfolding is_frame
  mended_frame =
      let f = mended_fields in
      ap₂ ◌&&◌ (ap (λ (x : ℕ). is_valid x A) f.0 ∙ ma.valid)
      (ap₂ ◌&&◌ (ap (λ (x : ℕ). is_valid x B) f.1 ∙ mb.valid)
      (ap₂ ◌&&◌ (ap (λ (x : ℕ). is_valid x C) f.2 ∙ mc.valid) (ap (λ (x : ℕ). is_valid x D) f.3 ∙ md.valid)))

  -- and what stood there is that frame with so many blocks damaged
  near_there : (p n : ℕ) → p + 26 ≤ 104 → at (mended_bits l) p 26 ≡ n → within_five n (at l p 26) ≡ true → within_five (at (mended_bits l) p 26) (at (take 104 l) p 26) ≡ true
  near_there p n h e t = ap₂ within_five e (at_take 104 l p 26 h) ∙ t

  differs_there : (p n : ℕ) (b : Bool) → p + 26 ≤ 104 → at (mended_bits l) p 26 ≡ n → b ≡ not (eqb n (at l p 26)) → one b ≡ differs (at (mended_bits l) p 26) (at (take 104 l) p 26)
  differs_there p n b h e t = ap one t ∙ ap₂ differs (sym e) (sym (at_take 104 l p 26 h))

  pub mended_damaged : 104 ≤ length l → Damaged (mended_bits l) (take 104 l) (mended_blocks l)
  unfolding mended_blocks
  mended_damaged h =
      let f = mended_fields in
      record {
        long = length-take-le 104 l h;
        a = near_there 0 _ (omega arith) f.0 ma.near;
        b = near_there 26 _ (omega arith) f.1 mb.near;
        c = near_there 52 _ (omega arith) f.2 mc.near;
        d = near_there 78 _ (omega arith) f.3 md.near;
        count =
            sum_same (differs_there 0 _ _ (omega arith) f.0 ma.marked) (differs_there 26 _ _ (omega arith) f.1 mb.marked)
            (differs_there 52 _ _ (omega arith) f.2 mc.marked) (differs_there 78 _ _ (omega arith) f.3 md.marked);
      }

-- ---- a frame with damaged blocks
module _ (s x : List ℕ) (k : ℕ) (v : is_frame s ≡ true) (d : Damaged s x k) where
  given : (p : ℕ) (y : Letter) → is_valid (at s p 26) y ≡ true → within_five (at s p 26) (at x p 26) ≡ true → block_at x p y ≡ used (at x p 26) (at s p 26)
  unfolding fits
  given p y t n = given_one (at x p 26) y (at s p 26) (ap₂ ◌&&◌ t n)

  pub damaged_taken : is_taken true x ≡ true
  unfolding is_taken can_mend
  damaged_taken =
      let w = frame_blocks s v in
      ap₂ ◌&&◌ (ap (λ (o : Outcome). o.found) (given 0 A w.0 d.a))
      (ap₂ ◌&&◌ (ap (λ (o : Outcome). o.found) (given 26 B w.1 d.b))
      (ap₂ ◌&&◌ (ap (λ (o : Outcome). o.found) (given 52 C w.2 d.c)) (ap (λ (o : Outcome). o.found) (given 78 D w.3 d.d))))

  pub damaged_count : taken_count true x ≡ k
  unfolding taken_count mended_blocks
  damaged_count =
      let w = frame_blocks s v in
      sum_same (ap (λ (o : Outcome). one o.changed) (given 0 A w.0 d.a)) (ap (λ (o : Outcome). one o.changed) (given 26 B w.1 d.b))
      (ap (λ (o : Outcome). one o.changed) (given 52 C w.2 d.c)) (ap (λ (o : Outcome). one o.changed) (given 78 D w.3 d.d))
      ∙ sym d.count

  pub damaged_bytes : 104 ≤ length s → Under 2 s → taken_bytes true x ≡ information s
  unfolding taken_bytes mended_bits
  damaged_bytes h u =
      let w = frame_blocks s v in
      ap information
      (four_same (ap (λ (o : Outcome). o.block) (given 0 A w.0 d.a)) (ap (λ (o : Outcome). o.block) (given 26 B w.1 d.b))
      (ap (λ (o : Outcome). o.block) (given 52 C w.2 d.c)) (ap (λ (o : Outcome). o.block) (given 78 D w.3 d.d))
      ∙ by_numbers s h u)
      ∙ first_104 s h
