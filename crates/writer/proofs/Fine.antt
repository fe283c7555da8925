-- What the answers 25 and 27 ask of a packet's table, part by part. Assumes nothing.
use mathlib.Core.Path.{◌≡◌, refl, sym, ap, ◌∙◌}
use mathlib.Core.Bool.{Bool, true, ◌&&◌}
use mathlib.Core.List.{List, [], ◌∷◌, ◌++◌}
use Prim.Native.Nat.{ℕ, ◌*◌}
use lib.ListN.{length}
use Rattle.laws.proofs.Cases.{and_yes}
use Rattle.format.specs.declared.Line.{Line}
use Rattle.format.specs.Format.{just, need, fill, times, fine}
pub use Rattle.format.proofs.Halves.{inside_append}
use Rattle.format.proofs.Tables.{fill_join, fine_join, length_fill, need_times}
use Rattle.packet.specs.declared.Counting.{Counting}
use Rattle.packet.specs.declared.Counting.TheVariants as counting
use Rattle.packet.specs.declared.Content.{Content}
use Rattle.packet.specs.declared.Fields.{Fields}
use Rattle.packet.specs.Table.{code, ending, packet, content_lines, count_line}
use Rattle.packet.specs.Content.{count_for}
use Rattle.packet.specs.Writing.{row_for, front_for, back_for, body_for, table_for, values_for}
use Rattle.writer.specs.Parts.{lines_for, Counts, front_fine, rows_fine, back_fine}
use Rattle.writer.proofs.Contents.{length_front}
use Rattle.writer.proofs.Whole.{count_needs}
use Rattle.writer.proofs.Together.{code_need, middle_long, in_order}

-- ---- tables, part by part
pub two_fine : (a : ℕ) (A B : List Line) (x y : List ℕ) → length x ≡ need A → fine a (A ++ B) (fill (A ++ B) (x ++ y)) ≡ (fine a A (fill A x) && fine a B (fill B y))
two_fine a A B x y e = ap (fine a (A ++ B)) (fill_join A B x y e) ∙ fine_join a A B (fill A x) (fill B y) (length_fill A x)

-- the answers that a writer's tests are about
pub data Class : ℕ → Type 0 where
  digit : Class 25
  range : Class 27

count_fine : {a : ℕ} → Class a → (s : Counting) (k : ℕ) (xs : List ℕ) → fine a (count_line s k) (fill (count_line s k) xs) ≡ true
unfolding fine fill
count_fine digit counting.Fixed k xs = refl
count_fine digit counting.Counted k xs = refl
count_fine digit counting.Raw k xs = refl
count_fine digit counting.Unknown k xs = refl
count_fine range counting.Fixed k xs = refl
count_fine range counting.Counted k xs = refl
count_fine range counting.Raw k xs = refl
count_fine range counting.Unknown k xs = refl

head_fine : {a : ℕ} → Class a → (ts : List Line) (xs : List ℕ) (kind p n : ℕ) → fine a (just 5 kind ∷ just 11 p ∷ just 8 n ∷ ts) (fill (just 5 kind ∷ just 11 p ∷ just 8 n ∷ ts) xs) ≡ fine a ts (fill ts xs)
unfolding fine fill
head_fine digit ts xs kind p n = refl
head_fine range ts xs kind p n = refl

module _ (f : Fields) (codes body : List ℕ) (h : Counts f codes body) (d : length f.digits ≡ 35) (lc : length f.certificate ≡ 12) (ls : length f.signature ≡ 64) where
  abbrev c : Content
  c = f.content

  abbrev k : ℕ
  k = count_for c body

  abbrev tail : List ℕ
  tail = f.time ∷ (f.certificate ++ f.signature)

  abbrev middle : List ℕ
  middle = front_for c f.digits ++ (body_for c body ++ back_for c f.digits)

  content_fine : {a : ℕ} → Class a → fine a (lines_for c body) (fill (lines_for c body) middle) ≡ (front_fine a c f.digits && (rows_fine a c body && back_fine a c f.digits))
  unfolding content_lines
  content_fine {a} q =
      two_fine a (row_for c).before (count_line (row_for c).counting k ++ (times k (row_for c).each ++ (row_for c).after)) (front_for c f.digits) (body_for c body ++ back_for c f.digits) (length_front c f.digits d)
      ∙ ap (λ (b : Bool). front_fine a c f.digits && b)
      (two_fine a (count_line (row_for c).counting k) (times k (row_for c).each ++ (row_for c).after) [] (body_for c body ++ back_for c f.digits) (sym (count_needs (row_for c).counting k))
      ∙ and_yes _ (count_fine q (row_for c).counting k [])
      ∙ two_fine a (times k (row_for c).each) (row_for c).after (body_for c body) (back_for c f.digits) (h.bodied ∙ sym (need_times k (row_for c).each)))

  pub packet_fine : {a : ℕ} → Class a → fine a (table_for f body) (values_for f codes body)
      ≡ (fine a (times f.codes code) (fill (times f.codes code) codes) && ((front_fine a c f.digits && (rows_fine a c body && back_fine a c f.digits)) && fine a ending (fill ending tail)))
  unfolding table_for packet
  packet_fine {a} q =
      ap (λ (xs : List ℕ). fine a (table_for f body) (fill (table_for f body) xs)) (in_order f codes body h d lc ls)
      ∙ head_fine q (times f.codes code ++ (lines_for c body ++ ending)) (codes ++ (middle ++ tail)) f.typenumber _ f.codes
      ∙ two_fine a (times f.codes code) (lines_for c body ++ ending) codes (middle ++ tail) (h.coded ∙ sym (need_times f.codes code ∙ ap (λ (n : ℕ). f.codes * n) code_need))
      ∙ ap (λ (b : Bool). fine a (times f.codes code) (fill (times f.codes code) codes) && b)
      (two_fine a (lines_for c body) ending middle tail (middle_long f codes body h d lc ls) ∙ ap (λ (b : Bool). b && fine a ending (fill ending tail)) (content_fine q))
