-- `writer::content::put_own`: what its goals need. Assumes nothing.
use native.Mathlib.Omega.{arith}
use Rattle.writer.proofs.Parted.{own_ready, own_put}
use Rattle.writer.proofs.content.put_own.Goals as goal

pub put_lines-requires : goal.put_lines-requires
put_lines-requires c = let a = c.args in own_ready a.c a.l a.s c.requires.0 c.lines_at-own.result a.p c.lines_at-own.ensures (omega (arith, c.requires.1))

pub returns : goal.returns
returns c = let a = c.args in own_put a.c a.l a.s c.requires.0 c.lines_at-own.result a.out.now c.put_lines.new.out a.p c.put_lines.result c.lines_at-own.ensures c.put_lines.ensures
