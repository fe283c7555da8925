-- `reader::parts::bytes_count`: what its goals need. Assumes nothing.
use mathlib.Core.Path.{◌≡◌, sym, ap, ◌∙◌}
use Rattle.laws.proofs.Cases.{if_yes, if_no}
use Rattle.packet.specs.Reading.{kind_in, count_of, has_entries}
use Rattle.reader.proofs.parts.bytes_count.Goals as goal

pub returns-then-has_entries : goal.returns-then-has_entries
returns-then-has_entries c = sym (if_yes 0 (count_of c.args.b.now) (sym (c.has_entries.ensures ∙ ap has_entries c.kind.ensures) ∙ c.if-has_entries.true))

pub returns-else-has_entries : goal.returns-else-has_entries
returns-else-has_entries c = let b = c.args.b.now in
    let e : c.has_entries.result ≡ has_entries (kind_in b) = c.has_entries.ensures ∙ ap has_entries c.kind.ensures in
    c.count.ensures ∙ sym (if_no 0 (count_of b) (sym e ∙ c.if-has_entries.false))
