-- `carry::content_of`: what its goals need. Assumes nothing.
use Rattle.carry.proofs.content_of.Goals as goal

pub returns-in-Clock : goal.returns-in-Clock
returns-in-Clock c = rw c.in-Clock.is

pub returns-in-Resource : goal.returns-in-Resource
returns-in-Resource c = rw c.in-Resource.is
