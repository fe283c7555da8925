-- Examples of the rule, computed. Assumes nothing.
use mathlib.Core.Path.{◌≡◌, refl, ap, ◌∙◌}
use mathlib.Core.Bool.{Bool, true, false, not}
use mathlib.Core.List.{List, [], ◌∷◌}
use Prim.Native.Nat.{ℕ, zero, suc, ◌+◌, ◌≤◌}
use native.Mathlib.Omega.{arith}
use borrow.Author.Tests.{not-true}
use lib.ListN.{length, drop, length-drop}
use lib.Seq.{drop-drop}
use Rattle.laws.specs.Bits.{at, bits_of, run, spread, bits}
use Rattle.laws.specs.Below.{below}
use Rattle.laws.specs.Poly.{reduce, remainder}
use Rattle.laws.proofs.Cases.{and_left, and_right}
use Rattle.block.specs.Block.{syndrome, check_word, carries, is_valid}
use Rattle.receiver.specs.Rule.{is_frame, information, is_taken, taken_bytes, taken_count, onto, heard}
use Rattle.receiver.specs.Receive.{fresh_receiver, pending_of, record_of, hearing}
use Rattle.receiver.proofs.Rule.{heard_short, heard_frame, heard_on}

-- places at which no frame begins, by computation
skipped : (n : ℕ) (l : List ℕ) → n + 103 ≤ length l → below n (λ k. not (is_frame (drop k l))) ≡ true → heard false l ≡ heard false (drop n l)
unfolding below is_taken
skipped zero l h t = refl
skipped (suc n) l h t =
    let f : ℕ → Bool = λ k. not (is_frame (drop k l)) in
    let e : n + 1 ≡ suc n = omega arith in
    skipped n l (omega arith) (and_right (f n) (below n f) t)
    ∙ heard_on false (drop n l) (omega (arith, length-drop n l)) (not-true (is_frame (drop n l)) (and_left (f n) (below n f) t))
    ∙ ap (heard false) (drop-drop 1 n l ∙ ap (λ (k : ℕ). drop k l) e)

-- 26 bits that pass as a block A, right behind them a true frame, and six bits more. The rule of paper 01 locked on the 26 and took the frame's A for a B
-- that fails; hunting began behind it, and no frame was handed out.
abbrev pub garbage_before : List ℕ
garbage_before = 0x12 ∷ 0x34 ∷ 0x1A ∷ 0x80 ∷ 0x48 ∷ 0xC2 ∷ 0xC4 ∷ 0x56 ∷ 0x7E ∷ 0xD6 ∷ 0x26 ∷ 0xAD ∷ 0xFB ∷ 0xCD ∷ 0xEF ∷ 0xF6 ∷ 0xAD ∷ []

abbrev as_bits : List ℕ
as_bits = 0 ∷ 0 ∷ 0 ∷ 1 ∷ 0 ∷ 0 ∷ 1 ∷ 0 ∷ 0 ∷ 0 ∷ 1 ∷ 1 ∷ 0 ∷ 1 ∷ 0 ∷ 0 ∷ 0 ∷ 0 ∷ 0 ∷ 1 ∷ 1 ∷ 0 ∷ 1 ∷ 0 ∷ 1 ∷ 0 ∷ 0 ∷ 0 ∷ 0 ∷ 0 ∷ 0 ∷ 0 ∷ 0 ∷ 1 ∷ 0 ∷ 0 ∷ 1 ∷ 0 ∷ 0 ∷ 0 ∷ 1 ∷ 1 ∷ 0 ∷ 0 ∷ 0 ∷ 0 ∷ 1 ∷ 0 ∷ 1 ∷ 1 ∷ 0 ∷ 0 ∷ 0 ∷ 1 ∷ 0 ∷ 0 ∷ 0 ∷ 1 ∷ 0 ∷ 1 ∷ 0 ∷ 1 ∷ 1 ∷ 0 ∷ 0 ∷ 1 ∷ 1 ∷ 1 ∷ 1 ∷ 1 ∷ 1 ∷ 0 ∷ 1 ∷ 1 ∷ 0 ∷ 1 ∷ 0 ∷ 1 ∷ 1 ∷ 0 ∷ 0 ∷ 0 ∷ 1 ∷ 0 ∷ 0 ∷ 1 ∷ 1 ∷ 0 ∷ 1 ∷ 0 ∷ 1 ∷ 0 ∷ 1 ∷ 1 ∷ 0 ∷ 1 ∷ 1 ∷ 1 ∷ 1 ∷ 1 ∷ 1 ∷ 0 ∷ 1 ∷ 1 ∷ 1 ∷ 1 ∷ 0 ∷ 0 ∷ 1 ∷ 1 ∷ 0 ∷ 1 ∷ 1 ∷ 1 ∷ 1 ∷ 0 ∷ 1 ∷ 1 ∷ 1 ∷ 1 ∷ 1 ∷ 1 ∷ 1 ∷ 1 ∷ 0 ∷ 1 ∷ 1 ∷ 0 ∷ 1 ∷ 0 ∷ 1 ∷ 0 ∷ 1 ∷ 1 ∷ 0 ∷ 1 ∷ []

garbage_bits : bits garbage_before ≡ as_bits
unfolding spread bits_of
garbage_bits = refl

-- at none of the 26 places before the true frame is there one
none_before : below 26 (λ k. not (is_frame (drop k as_bits))) ≡ true
unfolding below is_frame is_valid carries check_word syndrome remainder reduce at
none_before = refl

there : is_frame (drop 26 as_bits) ≡ true
unfolding is_frame is_valid carries check_word syndrome remainder reduce at
there = refl

its_bytes : information (drop 26 as_bits) ≡ 0x01 ∷ 0x23 ∷ 0x45 ∷ 0x67 ∷ 0x89 ∷ 0xAB ∷ 0xCD ∷ 0xEF ∷ []
unfolding information run at
its_bytes = refl

-- the frame is handed out, and the six bits are pending
pub frame_behind_garbage : hearing fresh_receiver garbage_before ≡ record { frames = (0x01 ∷ 0x23 ∷ 0x45 ∷ 0x67 ∷ 0x89 ∷ 0xAB ∷ 0xCD ∷ 0xEF ∷ []) ∷ []; counts = 0 ∷ []; pending = 1 ∷ 0 ∷ 1 ∷ 1 ∷ 0 ∷ 1 ∷ []; follows = true }
unfolding hearing bits_of is_taken taken_bytes taken_count
frame_behind_garbage =
    ap (heard false) garbage_bits
    ∙ skipped 26 as_bits (omega arith) none_before
    ∙ heard_frame false (drop 26 as_bits) (omega arith) there
    ∙ ap (λ (f : List ℕ). onto (f ∷ []) (0 ∷ []) (heard true (drop 130 as_bits))) its_bytes
    ∙ ap (onto ((0x01 ∷ 0x23 ∷ 0x45 ∷ 0x67 ∷ 0x89 ∷ 0xAB ∷ 0xCD ∷ 0xEF ∷ []) ∷ []) (0 ∷ [])) (heard_short true (1 ∷ 0 ∷ 1 ∷ 1 ∷ 0 ∷ 1 ∷ []) (omega arith))

-- ones above the count of a record mean nothing, and none are handed back
pub nothing_above : pending_of (record { high = 0xFFFFFFFFFFFFFFFF; low = 0xFFFFFFFFFFFFFFFD; count = 3; follows = 0 }) ≡ 1 ∷ 0 ∷ 1 ∷ []
unfolding bits_of
nothing_above = refl

pub no_ones_above : record_of true (1 ∷ 0 ∷ 1 ∷ []) ≡ record { high = 0; low = 5; count = 3; follows = 1 }
unfolding at
no_ones_above = refl
