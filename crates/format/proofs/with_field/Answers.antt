-- `format::with_field`: what its goals need. Assumes nothing.
use mathlib.Core.Path.{ap, ◌∙◌}
use Prim.Native.Nat.{ℕ}
use native.Mathlib.Omega.{arith}
use lib.Seq.{sets}
use Rattle.laws.specs.Bits.{at, bits_of}
use Rattle.format.proofs.Within.{made}
use Rattle.format.proofs.with_field.Goals as goal

pub overflow_add-result : goal.overflow_add-result
overflow_add-result c = let a = c.args in omega (arith, (made c.from-y.result a.i a.w a.v c.ones.result c.ones-2.result c.requires (omega arith) c.ones.ensures c.ones-2.ensures).upper_fits)

pub overflow_add-result-2 : goal.overflow_add-result-2
overflow_add-result-2 c = let a = c.args in omega (arith, (made c.from-y.result a.i a.w a.v c.ones.result c.ones-2.result c.requires (omega arith) c.ones.ensures c.ones-2.ensures).fits)

pub overflow_cast-result-2 : goal.overflow_cast-result-2
overflow_cast-result-2 c = let a = c.args in omega (arith, (made c.from-y.result a.i a.w a.v c.ones.result c.ones-2.result c.requires (omega arith) c.ones.ensures c.ones-2.ensures).fits)

pub returns : goal.returns
returns c = let a = c.args in
    (made c.from-y.result a.i a.w a.v c.ones.result c.ones-2.result c.requires (omega arith) c.ones.ensures c.ones-2.ensures).is ∙ ap (λ (x : ℕ). at (sets (bits_of 8 x) a.i (bits_of a.w a.v)) 0 8) c.from-y.ensures
