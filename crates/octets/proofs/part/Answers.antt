-- `octets::part`: what its goals need. Assumes nothing.
use mathlib.Core.Path.{◌≡◌, sym, ap, ◌∙◌}
use Prim.Native.Nat.{ℕ, ◌-◌, ◌+◌}
use native.Mathlib.Omega.{arith}
use lib.ListN.{length, take, drop, drop_of_length-le, length-drop}
use lib.Seq.{take-nil, take_all}
use Rattle.octets.proofs.part.Goals as goal

pub returns-then-p-from : goal.returns-then-p-from
returns-then-p-from c = let a = c.args in sym (ap (take a.k) (drop_of_length-le a.b.now c.if-p-from.true) ∙ take-nil a.k)

pub returns-then-k-p : goal.returns-then-k-p
returns-then-k-p c = let a = c.args in
    let e : a.from + a.k - a.from ≡ a.k = omega arith in
    ap (λ (n : ℕ). take n (drop a.from a.b.now)) e

pub returns-else-k-p : goal.returns-else-k-p
returns-else-k-p c = let a = c.args in
    let n = length-drop a.from a.b.now in
    take_all (length a.b.now - a.from) (drop a.from a.b.now) (omega arith) ∙ sym (take_all a.k (drop a.from a.b.now) (omega arith))
