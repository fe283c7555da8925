-- `writer::refusals::own_fine`: what its goals need. Assumes nothing.
use mathlib.Core.Path.{sym, ap, ◌∙◌, subst}
use mathlib.Core.List.{List}
use Prim.Native.Nat.{ℕ}
use native.Mathlib.Omega.{arith}
use Rattle.format.specs.Format.{fine, fill}
use Rattle.format.specs.declared.Line.{Line}
use Rattle.packet.specs.declared.Kind.{Kind}
use Rattle.packet.specs.declared.Laid.{Laid}
use Rattle.packet.specs.declared.Lines.{Lines}
use Rattle.packet.specs.Content.{kind_for}
use Rattle.packet.specs.InCode.{lines_in, own_of}
use Rattle.packet.proofs.Spans.{Parted, parted}
use Rattle.writer.specs.Puts.{Puttable}
use Rattle.writer.proofs.Plain.{own_fill, own_puttable}
use Rattle.writer.proofs.refusals.own_fine.Goals as goal

pub lines_fit-requires : goal.lines_fit-requires
lines_fit-requires c = let x = c.args.c in
    let s = c.row_of-s.result in
    let h : Parted (kind_for x) s.own s.before = subst (λ (f : Kind). Parted f s.own s.before) (ap (λ (l : Laid). l.kind) c.lay-l.ensures) (parted _ c.row_of-s.ensures) in
    let n = ap (λ (l : Laid). l.numbers) c.lay-l.ensures in
    subst (λ (r : Lines). Puttable r c.lay-l.result.numbers 0) (sym c.lines_at-own.ensures) (own_puttable x s.own s.before h 0 c.lay-l.result.numbers n (omega arith))

pub returns : goal.returns
returns c = let x = c.args.c in
    let s = c.row_of-s.result in
    let h : Parted (kind_for x) s.own s.before = subst (λ (f : Kind). Parted f s.own s.before) (ap (λ (l : Laid). l.kind) c.lay-l.ensures) (parted _ c.row_of-s.ensures) in
    let n = ap (λ (l : Laid). l.numbers) c.lay-l.ensures in
    c.lines_fit.ensures
    ∙ ap (λ (r : Lines). fine 27 (lines_in r) (fill (lines_in r) c.lay-l.result.numbers)) c.lines_at-own.ensures
    ∙ ap (λ (ts : List Line). fine 27 ts (fill ts c.lay-l.result.numbers)) h.own
    ∙ ap (λ (xs : List ℕ). fine 27 (own_of (kind_for x)) (fill (own_of (kind_for x)) xs)) n
    ∙ ap (fine 27 (own_of (kind_for x))) (own_fill x)
