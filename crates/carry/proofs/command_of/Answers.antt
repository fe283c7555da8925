-- `carry::command_of`: what its goals need. Assumes nothing.
use Rattle.carry.proofs.command_of.Goals as goal

pub returns-in-Address : goal.returns-in-Address
returns-in-Address c = rw c.in-Address.is

pub returns-in-Clock : goal.returns-in-Clock
returns-in-Clock c = rw c.in-Clock.is
