-- Laws for loops over the lines of the table: the line of a turn, the end, and rows of lines. Assumes nothing.
use mathlib.Core.Path.{◌≡◌, refl, sym, ap, ◌∙◌}
use mathlib.Core.List.{List, ◌∷◌}
use mathlib.Core.Bool.{true}
use Prim.Native.Nat.{ℕ, ◌+◌, ◌<◌, ◌≤◌}
use native.Mathlib.Numerals.{add-one}
use native.Mathlib.Decide.{dec_lt}
use native.Mathlib.Omega.{arith}
use lib.ListN.{length, get_or, take, drop, length-drop, get_or-eq_default}
use lib.Seq.{length-take-le, get_or-take, get_or-drop, drop-cons}
use Rattle.laws.specs.Scan.{all}
use Rattle.laws.proofs.Elements.{all_at}
use Rattle.format.specs.declared.Line.{Line}
use Rattle.format.specs.Format.{octets, times, need, own, decode, fine, sound, unmet}
use Rattle.packet.specs.InCode.{lines_of_each, every_line}
use Rattle.format.proofs.Tables.{all_times, unmet_fine}

-- every line is one that the loops take, and so is what stands past the last
every_sound : all sound every_line ≡ true
unfolding every_line lines_of_each
every_sound = refl

pub every_few : length every_line ≤ 1000
unfolding every_line lines_of_each
every_few = omega arith

sound_at : (i : ℕ) → sound (get_or every_line i (octets 0)) ≡ true
sound_at i = elim (dec_lt i (length every_line)) [
  | yes l ↦ all_at sound every_line i (octets 0) every_sound l
  | no l ↦ ap sound (get_or-eq_default every_line (octets 0) {n = i} (omega arith))
]

-- line j of m from a place on, and the line that code has for it
pub record Turn (from m j : ℕ) (t : Line) : Type 0 where
  pub inside : j < length (take m (drop from every_line))
  pub same : t ≡ get_or (take m (drop from every_line)) j (octets 0)
  pub good : sound t ≡ true

long : (from m : ℕ) → from + m ≤ length every_line → length (take m (drop from every_line)) ≡ m
long from m h = length-take-le m (drop from every_line) (omega (arith, length-drop from every_line))

pub turn_at : (from m j : ℕ) (t : Line) → from + m ≤ length every_line → j < m → t ≡ get_or every_line (from + j) (octets 0) → Turn from m j t
turn_at from m j t h k e =
    record {
      inside = omega (arith, long from m h);
      same = e ∙ sym (get_or-drop from every_line j (octets 0)) ∙ sym (get_or-take m (drop from every_line) j (octets 0) k);
      good = ap sound e ∙ sound_at (from + j);
    }

pub lines_end : (from m j : ℕ) → from + m ≤ length every_line → m ≤ j → length (take m (drop from every_line)) ≤ j
lines_end from m j h k = omega (arith, long from m h)

-- lines from the j-th on
module _ (T : List Line) (j : ℕ) (d t : Line) (h : j < length T) (e : t ≡ get_or T j d) where
  pub lines_cons : drop j T ≡ t ∷ drop (j + 1) T
  lines_cons = rw (drop-cons T j d h, add-one, e)

  pub need_turn : (i s : ℕ) → s ≡ i + need (drop j T) → s ≡ i + own t + need (drop (j + 1) T)
  unfolding need
  need_turn i s f = let g : need (drop j T) ≡ own t + need (drop (j + 1) T) = rw lines_cons in omega arith

-- ---- rows of lines
pub rows_unmet : (k n : ℕ) (row : List Line) (l : List ℕ) (q : ℕ) → all (unmet k) row ≡ true → fine k (times n row) (decode (times n row) l q) ≡ true
rows_unmet k n row l q e = unmet_fine k (times n row) (decode (times n row) l q) (all_times (unmet k) n row e)
