-- `reader::filled`: what its goals need. Assumes nothing.
use mathlib.Core.Path.{◌≡◌, refl, sym, ap, ◌∙◌}
use native.Mathlib.Omega.{arith}
use mathlib.Core.Bool.{false}
use Rattle.packet.specs.Reading.{is_unknown, size_bad}
use Rattle.reader.proofs.Zeros.{length_zeros}
use Rattle.reader.proofs.Telling as telling
use Rattle.reader.proofs.Whole as whole
use Rattle.reader.proofs.filled.Goals as goal

pub returns-then-size_bad : goal.returns-then-size_bad
returns-then-size_bad c = let b = c.args.b.now in
    telling.refused_lined b 20 _ _ _ _ (whole.says_20 b (sym c.size_bad.ensures ∙ c.if-size_bad.true)) (λ e. omega arith) refl c.requires

pub returns-then-unknown : goal.returns-then-unknown
returns-then-unknown c = let b = c.args.b.now in
    let sized : size_bad b ≡ false = sym c.size_bad.ensures ∙ c.if-size_bad.false in
    let by = whole.unknown_is c.kind-kind.result _ _ c.row_of-row.ensures c.unknown.ensures ∙ ap is_unknown c.kind-kind.ensures in
    telling.refused_lined b 23 _ _ _ _ (whole.says_23 b sized (sym by ∙ c.if-unknown.true)) (λ e. omega arith) refl c.requires

pub overflow_mul-n : goal.overflow_mul-n
overflow_mul-n c = omega (arith, c.codes_count-n.ensures.1)

pub overflow_add-n : goal.overflow_add-n
overflow_add-n c = omega (arith, c.codes_count-n.ensures.1)

pub overflow_add-n-2 : goal.overflow_add-n-2
overflow_add-n-2 c = omega (arith, c.codes_count-n.ensures.1, (whole.sizes c.kind-kind.result c.sizes_of-sizes.result c.sizes_of-sizes.ensures).lead_most)

pub count_at-count-requires : goal.count_at-count-requires
count_at-count-requires c = omega (arith, c.codes_count-n.ensures.1, (whole.sizes c.kind-kind.result c.sizes_of-sizes.result c.sizes_of-sizes.ensures).lead_most)

pub length_bad-requires : goal.length_bad-requires
length_bad-requires c = let b = c.args.b.now in
    let S = whole.sized b (sym c.size_bad.ensures ∙ c.if-size_bad.false) in
    let Z = whole.sizes c.kind-kind.result c.sizes_of-sizes.result c.sizes_of-sizes.ensures in
    let count = whole.count_here b c.kind-kind.result _ _ _ _ c.count_at-count.result c.kind-kind.ensures c.row_of-row.ensures c.sizes_of-sizes.ensures c.codes_count-n.ensures.0 c.content_size-m.ensures c.count_at-count.ensures in
    (Z.lead_most, Z.each_most, Z.rest_most, rw count (whole.count_small b S.most), omega (arith, c.content_size-m.ensures, S.most))

pub returns-then-length_bad : goal.returns-then-length_bad
returns-then-length_bad c = let b = c.args.b.now in
    let sized : size_bad b ≡ false = sym c.size_bad.ensures ∙ c.if-size_bad.false in
    let by = whole.unknown_is c.kind-kind.result _ _ c.row_of-row.ensures c.unknown.ensures ∙ ap is_unknown c.kind-kind.ensures in
    let count = whole.count_here b c.kind-kind.result _ _ _ _ c.count_at-count.result c.kind-kind.ensures c.row_of-row.ensures c.sizes_of-sizes.ensures c.codes_count-n.ensures.0 c.content_size-m.ensures c.count_at-count.ensures in
    let long = whole.long_here b c.kind-kind.result c.sizes_of-sizes.result c.count_at-count.result c.content_size-m.result c.length_bad.result c.kind-kind.ensures c.sizes_of-sizes.ensures count c.content_size-m.ensures c.length_bad.ensures in
    telling.refused_lined b 26 _ _ _ _ (whole.says_26 b sized (sym by ∙ c.if-unknown.false) (sym long ∙ c.if-length_bad.true)) (λ e. omega arith) refl c.requires

pub lines_told-requires : goal.lines_told-requires
lines_told-requires c = let b = c.args.b.now in
    let by = whole.unknown_is c.kind-kind.result _ _ c.row_of-row.ensures c.unknown.ensures in
    let count = whole.count_here b c.kind-kind.result _ _ _ _ c.count_at-count.result c.kind-kind.ensures c.row_of-row.ensures c.sizes_of-sizes.ensures c.codes_count-n.ensures.0 c.content_size-m.ensures c.count_at-count.ensures in
    let long = whole.long_here b c.kind-kind.result c.sizes_of-sizes.result c.count_at-count.result c.content_size-m.result c.length_bad.result c.kind-kind.ensures c.sizes_of-sizes.ensures count c.content_size-m.ensures c.length_bad.ensures in
    (record { kind = c.kind-kind.ensures; row = c.row_of-row.ensures; sizes = c.sizes_of-sizes.ensures; many = c.codes_count-n.ensures.0; count = count; known = sym by ∙ c.if-unknown.false; sized = sym c.size_bad.ensures ∙ c.if-size_bad.false; long = sym long ∙ c.if-length_bad.false }, c.requires)

pub shape_of-codes : goal.shape_of-codes
shape_of-codes c = c.lines_told.ensures.long.codes_long ∙ sym (length_zeros 322 _ c.requires.codes_none)

pub shape_of-entries : goal.shape_of-entries
shape_of-entries c = c.lines_told.ensures.long.entries_long ∙ sym (length_zeros 272 _ c.requires.entries_none)

pub shape_of-digits : goal.shape_of-digits
shape_of-digits c = c.lines_told.ensures.long.digits_long ∙ sym (length_zeros 35 _ c.requires.digits_none)

pub returns : goal.returns
returns c = c.lines_told.ensures
