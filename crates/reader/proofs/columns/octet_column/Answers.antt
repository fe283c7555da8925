-- `reader::columns::octet_column`: what its goals need. Assumes nothing.
use mathlib.Core.Path.{◌≡◌, sym}
use native.Mathlib.Omega.{arith}
use mathlib.Core.List.{List}
use mathlib.Core.Bool.{true}
use Prim.Native.Nat.{ℕ, ◌+◌, ◌*◌}
use borrow.Author.Tests.{le-leb}
use Rattle.laws.specs.Bits.{at, run, bits}
use Rattle.laws.proofs.Bits.{at_small}
use Rattle.laws.proofs.Strips.{every_true}
use Rattle.format.specs.Format.{inside}
use Rattle.reader.proofs.columns.octet_column.Goals as goal

any : (b : List ℕ) (lo hi p : ℕ) → lo ≡ 0 → hi ≡ 255 → inside lo hi (run (bits b) p 1 8) ≡ true
unfolding inside run
any b lo hi p e f = rw (e, f, le-leb 0 (at (bits b) p 8) (omega arith), le-leb (at (bits b) p 8) 255 (omega (arith, at_small b p 8 8 (omega arith))))

pub returns-then-hi-eq255 : goal.returns-then-hi-eq255
returns-then-hi-eq255 c = let a = c.args in
    (c.copy_column.ensures, sym (every_true a.s.rows _ (λ j h. any a.b.now a.lo a.hi (a.k * 8 + j * (a.s.bytes * 8)) c.if-lo-eq0.true c.if-hi-eq255.true)))
