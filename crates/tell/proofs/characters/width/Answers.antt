use mathlib.Core.Path.{sym}
use native.Mathlib.Omega.{arith}
use Rattle.tell.proofs.Stepping.{width_narrow, width_wide, width_last}
use Rattle.tell.proofs.characters.width.Goals as goal

pub returns-then-text-i-lt128 : goal.returns-then-text-i-lt128
returns-then-text-i-lt128 c = let a = c.args in
    sym (width_narrow a.text.now a.i c.requires (omega (arith, c.if-text-i-lt128.true)))

pub returns-then-i-text : goal.returns-then-i-text
returns-then-i-text c = let a = c.args in
    sym (width_wide a.text.now a.i (omega (arith, c.if-i-text.true)) (omega (arith, c.if-text-i-lt128.false)))

pub returns-else-i-text : goal.returns-else-i-text
returns-else-i-text c = let a = c.args in
    sym (width_last a.text.now a.i c.requires (omega (arith, c.if-i-text.false)))
