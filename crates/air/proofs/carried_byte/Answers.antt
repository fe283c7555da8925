-- `air::carried_byte`: what its goals need. Assumes nothing.
use mathlib.Core.Path.{ap, ◌∙◌}
use Prim.Native.Nat.{ℕ, ◌/◌, ◌%◌}
use native.Mathlib.Omega.{arith}
use Rattle.air.proofs.Laws.{carried_packet, carried_high, carried_low, carried_fill}
use borrow.Author.Rules.{rules}
use Rattle.air.proofs.carried_byte.Goals as goal

pub returns-then-i-p : goal.returns-then-i-p
returns-then-i-p c = carried_packet _ _ (omega arith)

pub returns-then-i-p-2 : goal.returns-then-i-p-2
returns-then-i-p-2 c = ap (λ (x : ℕ). x / 256) c.requires.0 ∙ carried_high _ _ (search rules)

pub returns-then-i-p-3 : goal.returns-then-i-p-3
returns-then-i-p-3 c = ap (λ (x : ℕ). x % 256) c.requires.0 ∙ carried_low _ _ (search rules)

pub returns-else-i-p-3 : goal.returns-else-i-p-3
returns-else-i-p-3 c = carried_fill c.args.packet.now c.args.i (omega arith)
