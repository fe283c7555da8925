-- The whole line: its length, what is written of it, and what its three parts write together. Assumes nothing.
use mathlib.Core.Path.{◌≡◌, sym, ap, ap₂, ◌∙◌}
use mathlib.Core.List.{List, [], ◌∷◌, ◌++◌}
use Prim.Native.Nat.{ℕ, ◌+◌, ◌-◌, ◌*◌, ◌<◌, ◌≤◌}
use native.Mathlib.Omega.{arith}
use native.Mathlib.Numerals.{add-one}
use lib.ListN.{length, set, take, drop, length-append, length-set}
use lib.Seq.{sets, length-sets}
use borrow.Author.Tests.{lt-ltb, le-ltb}
use borrow.Rule.Slice.PartMut.{put_mid}
use Rattle.laws.proofs.Cases.{if_yes, if_no}
use Rattle.laws.proofs.Writes.{sets_append, from_front}
use Rattle.laws.proofs.Parts.{in_part}
use Rattle.print.specs.Lines.{hex_of, decimal_of, line_of, written_of, line_into}
use Rattle.print.proofs.Laws.{length_hex}

module _ (frame : List ℕ) (answer : ℕ) where
  pub length_line : length (line_of frame answer) ≡ 2 * length frame + length (decimal_of answer) + 2
  unfolding line_of
  length_line =
      length-append (hex_of frame) (32 ∷ decimal_of answer ++ (10 ∷ []))
      ∙ omega (arith, length_hex frame, length-append (decimal_of answer) (10 ∷ []))

  module _ (out : List ℕ) where
    -- too short an output is left as it was
    pub nothing : length out < 2 * length frame + length (decimal_of answer) + 2 → (0 ≡ written_of frame answer out) × (out ≡ line_into frame answer out)
    unfolding written_of line_into
    nothing h =
        let no = lt-ltb (length out) (length (line_of frame answer)) (omega (arith, length_line)) in
        (sym (if_yes _ _ no), sym (if_yes _ _ no))

    -- else the line stands first, and the rest as it was
    pub all : 2 * length frame + length (decimal_of answer) + 2 ≤ length out → (n : ℕ) → n ≡ 2 * length frame + length (decimal_of answer) + 2 → (last : List ℕ) → last ≡ sets out 0 (line_of frame answer)
        → (n ≡ written_of frame answer out) × (last ≡ line_into frame answer out)
    unfolding written_of line_into
    all h n e last w =
        let go = le-ltb (length out) (length (line_of frame answer)) (omega (arith, length_line)) in
        (e ∙ sym length_line ∙ sym (if_no _ _ go), w ∙ from_front (line_of frame answer) out (omega (arith, length_line)) ∙ sym (if_no _ _ go))

    -- bytes, then a space, then the answer in the part behind it
    pub together : (hexed part : List ℕ) → 2 * length frame + length (decimal_of answer) + 2 ≤ length out → hexed ≡ sets out 0 (hex_of frame)
        → part ≡ sets (take (length (set hexed (2 * length frame) 32) - (2 * length frame + 1)) (drop (2 * length frame + 1) (set hexed (2 * length frame) 32))) 0 (decimal_of answer ++ (10 ∷ []))
        → put_mid (2 * length frame + 1) (length (set hexed (2 * length frame) 32) - (2 * length frame + 1)) (set hexed (2 * length frame) 32) part ≡ sets out 0 (line_of frame answer)
    unfolding line_of
    together hexed part h e p =
        let rest = decimal_of answer ++ (10 ∷ []) in
        let m = length-append (decimal_of answer) (10 ∷ []) in
        let k : length (set hexed (2 * length frame) 32) ≡ length out = length-set hexed (2 * length frame) 32 ∙ ap length e ∙ length-sets out 0 (hex_of frame) in
        let q : 0 + length (hex_of frame) ≡ 2 * length frame = omega (arith, length_hex frame) in
        in_part (set hexed (2 * length frame) 32) rest part (2 * length frame + 1) (omega arith) p
        ∙ ap (λ (j : ℕ). sets (set hexed (2 * length frame) 32) j rest) (add-one (2 * length frame))
        ∙ ap₂ (λ (l : List ℕ) (j : ℕ). sets l j (32 ∷ rest)) e (sym q)
        ∙ sym (sets_append (hex_of frame) (32 ∷ rest) out 0)
