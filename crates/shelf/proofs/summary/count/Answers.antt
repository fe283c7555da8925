-- `shelf::summary::count`: what its goals need. Assumes nothing.
use native.Mathlib.Omega.{arith}
use mathlib.Core.Path.{ap, ap₂, sym, subst, ◌∙◌}
use mathlib.Core.List.{List}
use Prim.Native.Nat.{ℕ, ◌*◌, ◌≤◌}
use native.Mathlib.Numerals.{add-one}
use lib.ListN.{length, drop}
use borrow.Author.Rules.{rules}
use Rattle.std.specs.Iterator.Adapters.{enumerate_source, enumerate_count}
use Rattle.std.specs.Slice.Iter.{chunks_exact_rest}
use Rattle.shelf.specs.Record.{type_in}
use Rattle.shelf.specs.Summary.{record_at, summary_of, noted}
use Rattle.shelf.proofs.Entries.{one_more, summary_length}
use Rattle.shelf.proofs.Records.{next_record}
use Rattle.shelf.proofs.summary.count.Goals as goal

pub note-requires : goal.note-requires
note-requires c = (ap length c.loop-i.invariant.5 ∙ summary_length c.args.shelf.now _, c.type_in.ensures.1)

pub loop-i-preserved : goal.loop-i-preserved
loop-i-preserved c =
    let s = c.args.shelf.now in
    let n = enumerate_count c.loop-i.i-iterator in
    let step = c.in-Some.ensures.steps in
    let kept = c.loop-i.invariant in
    let next = next_record s n c.in-Some.record.now (chunks_exact_rest (enumerate_source c.next.new.self)) (sym kept.4 ∙ step.0.1.0) (step.0.1.1 ∙ kept.2) kept.3 in
    let goes = sym step.2 in (
      search rules,
      search rules,
      step.0.0 ∙ kept.2,
      subst (λ (j : ℕ). 256 * j ≤ length s) goes next.0,
      next.1 ∙ ap (λ (j : ℕ). drop (256 * j) s) goes,
      c.note.ensures
          ∙ ap₂ (λ (t : ℕ) (m : List ℕ). noted m t c.in-Some.i) (c.type_in.ensures.0 ∙ ap type_in next.2) kept.5
          ∙ ap (λ (j : ℕ). noted (summary_of s n) (type_in (record_at s n)) j) step.1
          ∙ one_more s n (omega (arith, next.0, c.requires.1))
          ∙ ap (summary_of s) (sym (add-one n) ∙ goes),
    )
