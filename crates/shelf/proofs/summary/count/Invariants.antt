-- `shelf::summary::count`: what its goals need. Assumes nothing.
use Rattle.std.specs.Prelude.{◌≡◌, ◌*◌, ◌≤◌, length, drop}
use Rattle.std.specs.Slice.Iter.{chunks_exact_rest, chunks_exact_size}
use Rattle.std.specs.Iterator.Adapters.{enumerate_source, enumerate_count}
use Rattle.shelf.specs.Summary.{summary_of}
use Rattle.shelf.proofs.summary.count.Given as goal

abbrev pub invariant-loop-i : goal.invariant-loop-i
invariant-loop-i l =
    let it = l.i-iterator in
    (goal.iterator-loop-i).can_next it
    × (goal.iterator-loop-i).is_finite it
    × (chunks_exact_size (enumerate_source it) ≡ 256)
    × (256 * enumerate_count it ≤ length l.shelf)
    × (chunks_exact_rest (enumerate_source it) ≡ drop (256 * enumerate_count it) l.shelf)
    × (l.summary ≡ summary_of l.shelf (enumerate_count it))
