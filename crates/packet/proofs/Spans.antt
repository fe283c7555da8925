-- A kind's row in code stands for its row in the table: the lines at each place are the row's. Assumes nothing.
use mathlib.Core.Path.{◌≡◌, refl, sym, ap, subst, ◌∙◌}
use mathlib.Core.Bool.{Bool, true, ◌&&◌}
use mathlib.Core.List.{List, [], ◌∷◌}
use Prim.Native.Nat.{ℕ, zero, suc, ◌+◌, ◌-◌, ◌≤◌}
use native.Mathlib.Nat.{sub-zero}
use native.Mathlib.Omega.{arith}
use lib.ListN.{length, take, drop}
use lib.Seq.{take-nil, take-take, drop-drop}
use lib.Dec.{leb}
use borrow.Author.Tests.{leb-true}
use Rattle.laws.specs.Scan.{all}
use Rattle.laws.proofs.Cases.{and_both}
use Rattle.format.specs.declared.Line.{Line}
use Rattle.packet.specs.declared.Lines.{Lines}
use Rattle.packet.specs.declared.RowLines.{RowLines}
use Rattle.packet.specs.declared.Kind.{Kind}
use Rattle.packet.specs.declared.Kind.TheVariants as kind
use Rattle.packet.specs.Table.{kinds, Row, row_of}
use Rattle.packet.specs.InCode.{lines_of_each, every_line, lines_up_to, own_lines, own_of, beside_of, row_at, lines_in, Stands}
use Rattle.packet.proofs.Each.{each_kind}
use Rattle.packet.proofs.Columns.{columned}

-- lines in code stand for the lines ts
pub record Listed (r : Lines) (ts : List Line) : Type 0 where
  pub lines : lines_in r ≡ ts
  pub few : Stands r

-- a row in code stands for a row of the table
pub record StandsFor (r : RowLines) (t : Row) : Type 0 where
  pub same : r.counting ≡ t.counting
  pub first : Listed r.before t.before
  pub rows : Listed r.each t.each
  pub last : Listed r.after t.after

-- the lines at the three places of a kind's row are the row's
lines_at : (f : Kind) → (lines_in (row_at f).before ≡ (row_of f).before) × (lines_in (row_at f).each ≡ (row_of f).each) × (lines_in (row_at f).after ≡ (row_of f).after)
unfolding row_at lines_up_to every_line lines_of_each
lines_at kind.Frequencies = (refl, refl, refl)
lines_at kind.Address = (refl, refl, refl)
lines_at kind.Keep = (refl, refl, refl)
lines_at kind.Clock = (refl, refl, refl)
lines_at kind.Reset = (refl, refl, refl)
lines_at kind.Factory = (refl, refl, refl)
lines_at kind.Drill = (refl, refl, refl)
lines_at kind.Text = (refl, refl, refl)
lines_at kind.Hold = (refl, refl, refl)
lines_at kind.Raw = (refl, refl, refl)
lines_at kind.Unknown = (refl, refl, refl)

-- and they are few, and all there
abbrev fits : Lines → Bool
fits ts = leb ts.m 6 && leb (ts.from + ts.m) (length every_line)

abbrev passed : Kind → Bool
passed f = fits (row_at f).before && (fits (row_at f).each && fits (row_at f).after)

all_pass : all passed kinds ≡ true
unfolding row_at lines_up_to every_line lines_of_each
all_pass = refl

stands_by : (ts : Lines) → fits ts ≡ true → Stands ts
stands_by ts e = let b = and_both (leb ts.m 6) (leb (ts.from + ts.m) (length every_line)) e in (leb-true _ _ b.0, leb-true _ _ b.1)

counting_at : (f : Kind) → (row_at f).counting ≡ (row_of f).counting
unfolding row_at
counting_at f = refl

row_stands : (f : Kind) → StandsFor (row_at f) (row_of f)
row_stands f =
    let l = lines_at f in
    let p = and_both (fits (row_at f).before) (fits (row_at f).each && fits (row_at f).after) (each_kind passed all_pass f) in
    let q = and_both (fits (row_at f).each) (fits (row_at f).after) p.1 in
    record {
      same = counting_at f;
      first = record { lines = l.0; few = stands_by (row_at f).before p.0 };
      rows = record { lines = l.1; few = stands_by (row_at f).each q.0 };
      last = record { lines = l.2; few = stands_by (row_at f).after q.1 };
    }

-- what code that gives a kind's row has of it
pub stands : (f : Kind) {r : RowLines} → r ≡ row_at f → StandsFor r (row_of f)
stands f e = subst (λ (r : RowLines). StandsFor r (row_of f)) (sym e) (row_stands f)

-- the first lines of a row that hold the content's own numbers, and the others, in code
pub record Parted (f : Kind) (o : ℕ) (r : Lines) : Type 0 where
  pub own : take o (drop r.from every_line) ≡ own_of f
  pub beside : take (r.m - o) (drop (r.from + o) every_line) ≡ beside_of f
  pub some : o ≤ r.m
  pub few : Stands r

rest_of : (j m : ℕ) (l : List Line) → j ≤ m → take (m - j) (drop j l) ≡ drop j (take m l)
rest_of zero m l h = ap (λ (n : ℕ). take n l) (sub-zero m)
rest_of (suc j) zero l h = absurd (omega arith)
rest_of (suc j) (suc m) [] h = take-nil (suc m - suc j)
rest_of (suc j) (suc m) (x ∷ l) h = let e : suc m - suc j ≡ m - j = omega arith in ap (λ (n : ℕ). take n (drop j l)) e ∙ rest_of j m l (omega arith)

parted_few : (f : Kind) → (row_at f).own ≤ (row_at f).before.m
unfolding row_at
parted_few f = (columned f).few

own_is : (f : Kind) (g : ℕ → List Line) → g (row_at f).own ≡ g (own_lines f)
unfolding row_at
own_is f g = refl

pub parted : (f : Kind) {r : RowLines} → r ≡ row_at f → Parted f r.own r.before
parted f e =
    let o = (row_at f).own in
    let m = (row_at f).before.m in
    let p = (row_at f).before.from in
    let h = parted_few f in
    let l = (lines_at f).0 in
    subst (λ (r : RowLines). Parted f r.own r.before) (sym e)
    (record {
      own = sym (take-take o m (drop p every_line) h) ∙ ap (take o) l ∙ own_is f (λ (n : ℕ). take n (row_of f).before);
      beside = ap (take (m - o)) (sym (drop-drop o p every_line)) ∙ rest_of o m (drop p every_line) h ∙ ap (drop o) l ∙ own_is f (λ (n : ℕ). drop n (row_of f).before);
      some = h;
      few = (row_stands f).first.few;
    })
