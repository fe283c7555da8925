-- The rules of a record and of a shelf. Assumes nothing.
use mathlib.Core.Path.{◌≡◌}
use mathlib.Core.Bool.{true, false, not, ◌&&◌}
use mathlib.Core.List.{List, [], ◌∷◌}
use Prim.Native.Nat.{ℕ, zero, suc, ◌%◌, ◌≤◌}
use native.Mathlib.Omega.{arith}
use lib.ListN.{length, take}
use lib.Dec.{eqb, leb}
use borrow.Author.Tests.{leb-true, eqb-true, not-true}
use Rattle.laws.specs.Scan.{all}
use Rattle.laws.proofs.Cases.{and_both}
use Rattle.frame.specs.Heading.{reserved}
use Rattle.size.specs.Size.{packet_size}
use Rattle.shelf.specs.Record.{level_in, version_in, size_in, packet_in, fill_in, closing_in, right}
use Rattle.shelf.specs.Summary.{records_in}
use Rattle.shelf.specs.Shelf.{whole}

-- ---- what a record that keeps the rules says
pub record Keeps (r : List ℕ) : Type 0 where
  pub level : reserved (level_in r) ≡ false
  pub version : version_in r ≤ 31
  pub least : 2 ≤ size_in r
  pub most : size_in r ≤ 250
  pub says : size_in r ≡ packet_size (packet_in r)
  pub filled : all (eqb 0xFF) (fill_in r) ≡ true
  pub closed : all (eqb 0) (closing_in r) ≡ true

pub keeps : (r : List ℕ) → right r ≡ true → Keeps r
unfolding right
keeps r e =
    let a = and_both (not (reserved (level_in r))) (leb (version_in r) 31 && (leb 2 (size_in r) && (leb (size_in r) 250 && (eqb (size_in r) (packet_size (packet_in r)) && (all (eqb 0xFF) (fill_in r) && all (eqb 0) (closing_in r)))))) e in
    let b = and_both (leb (version_in r) 31) (leb 2 (size_in r) && (leb (size_in r) 250 && (eqb (size_in r) (packet_size (packet_in r)) && (all (eqb 0xFF) (fill_in r) && all (eqb 0) (closing_in r))))) a.1 in
    let c = and_both (leb 2 (size_in r)) (leb (size_in r) 250 && (eqb (size_in r) (packet_size (packet_in r)) && (all (eqb 0xFF) (fill_in r) && all (eqb 0) (closing_in r)))) b.1 in
    let d = and_both (leb (size_in r) 250) (eqb (size_in r) (packet_size (packet_in r)) && (all (eqb 0xFF) (fill_in r) && all (eqb 0) (closing_in r))) c.1 in
    let f = and_both (eqb (size_in r) (packet_size (packet_in r))) (all (eqb 0xFF) (fill_in r) && all (eqb 0) (closing_in r)) d.1 in
    let g = and_both (all (eqb 0xFF) (fill_in r)) (all (eqb 0) (closing_in r)) f.1 in
    record {
      level = not-true (reserved (level_in r)) a.0;
      version = leb-true (version_in r) 31 b.0;
      least = leb-true 2 (size_in r) c.0;
      most = leb-true (size_in r) 250 d.0;
      says = eqb-true (size_in r) (packet_size (packet_in r)) f.0;
      filled = g.0;
      closed = g.1;
    }

pub take_most : (n : ℕ) (l : List ℕ) → length (take n l) ≤ n
take_most zero l = omega arith
take_most (suc n) [] = omega arith
take_most (suc n) (x ∷ l) = omega (arith, take_most n l)

pub at_most : (s : List ℕ) → whole s ≡ true → records_in s ≤ 4096
unfolding whole
at_most s e = leb-true (records_in s) 4096 (and_both (eqb (length s % 256) 0) (leb (records_in s) 4096) e).1
