-- `crc::packet_check`: what its goals need. Assumes nothing.
use borrow.Author.Rules.{rules}
use Rattle.crc.specs.Crc16.{crc16}
use Rattle.crc.proofs.packet_check.Goals as goal

pub returns : goal.returns
unfolding crc16
returns c = search rules
