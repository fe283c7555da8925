-- `receiver::searching::rest_at`: what its goals need, an arm a block. Assumes nothing.
use mathlib.Core.Path.{sym, ap}
use Prim.Native.Nat.{◌/◌, ◌%◌}
use Rattle.receiver.specs.Search.{which}
use Rattle.receiver.proofs.Blocks.{which_last}
use Rattle.receiver.proofs.searching.rest_at.Goals as goal

pub returns-in-0 : goal.returns-in-0
unfolding which
returns-in-0 c = let a = c.args in sym (ap (which (a.p / 67108864 % 1024) (a.p % 1024) (a.q / 67108864 % 1024) (a.q % 1024)) c.in-0.is)

pub returns-in-1 : goal.returns-in-1
unfolding which
returns-in-1 c = let a = c.args in sym (ap (which (a.p / 67108864 % 1024) (a.p % 1024) (a.q / 67108864 % 1024) (a.q % 1024)) c.in-1.is)

pub returns-in-2 : goal.returns-in-2
unfolding which
returns-in-2 c = let a = c.args in sym (ap (which (a.p / 67108864 % 1024) (a.p % 1024) (a.q / 67108864 % 1024) (a.q % 1024)) c.in-2.is)

pub returns-in_default : goal.returns-in_default
returns-in_default c = let a = c.args in which_last (a.p / 67108864 % 1024) (a.p % 1024) (a.q / 67108864 % 1024) (a.q % 1024) a.k c.in_default.in_default-own.rest.0.0.1 c.in_default.in_default-own.rest.0.1 c.in_default.in_default-own.rest.1
