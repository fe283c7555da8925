-- The code's rows are the table's: what the writer asks of them, and what it then knows. Assumes nothing.
use mathlib.Core.Path.{◌≡◌, sym, ap, ap₂, ◌∙◌, subst}
use mathlib.Core.List.{List, ◌++◌}
use Prim.Native.Nat.{ℕ, ◌+◌, ◌*◌, ◌<◌, ◌≤◌}
use native.Mathlib.Omega.{arith}
use lib.ListN.{length}
use lib.Seq.{sets}
use Rattle.packet.specs.InCode.{lines_in}
use Rattle.packet.proofs.Spans.{Listed}
use Rattle.laws.specs.Bits.{bits}
use Rattle.laws.proofs.Writes.{sets_append}
use Rattle.format.specs.declared.Line.{Line}
use Rattle.format.proofs.Leaves.{same_long}
use Rattle.format.specs.Format.{size, need, encode, fill, fine, times}
use Rattle.packet.specs.declared.Lines.{Lines}
use Rattle.writer.specs.Puts.{After, Rows}

module _ (ts : Lines) (ls : List Line) (h : Listed ts ls) where
  pub can_put_rows : (n w : ℕ) (xs : List ℕ) (p : ℕ) → need ls ≡ w → w ≤ 40 → size ls ≤ 160 → n ≤ 255 → length xs ≡ n * w → p + 160 * n < 48000 → Rows ts n w xs p
  can_put_rows n w xs p e k z c l q =
      record {
        few = h.few;
        each = ap need h.lines ∙ e;
        narrow = k;
        short = subst (λ (l : List Line). size l ≤ 160) (sym h.lines) z;
        count = c;
        numbers = l;
        place = q;
      }

  pub have_put_rows : (out last xs : List ℕ) (n p r : ℕ) → After out last p (encode (times n (lines_in ts)) (fill (times n (lines_in ts)) xs)) r (n * size (lines_in ts))
      → After out last p (encode (times n ls) (fill (times n ls) xs)) r (n * size ls)
  have_put_rows out last xs n p r a =
      subst (λ (l : List Line). After out last p (encode (times n l) (fill (times n l) xs)) r (n * size l)) h.lines a

  -- and tested against them
  pub have_fit_rows : (a n : ℕ) (xs : List ℕ) → fine a (times n (lines_in ts)) (fill (times n (lines_in ts)) xs) ≡ fine a (times n ls) (fill (times n ls) xs)
  have_fit_rows a n xs = rw h.lines

-- one part behind another
pub then_put : (out mid last : List ℕ) (p q r : ℕ) (v w : List ℕ) (s t : ℕ) → length v ≡ s → After out mid p v q s → After mid last q w r t → After out last p (v ++ w) r (s + t)
then_put out mid last p q r v w s t e a b =
    let x = a.place in
    let y = b.place in
    let k : p + length v ≡ q = omega arith in
    record {
      put = b.put ∙ ap₂ (λ (l : List ℕ) (n : ℕ). sets l n w) a.put (sym k) ∙ sym (sets_append v w (bits out) p);
      place = omega arith;
    }

-- and nothing is longer for it
pub after_long : {out last v : List ℕ} {p r s : ℕ} → After out last p v r s → length last ≡ length out
after_long {out} {last} {v} {p} a = same_long last out p v a.put
