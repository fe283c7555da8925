-- `mend::mended_by`: what its goals need: the entry tells the change, or that there is none. Assumes nothing.
use native.Mathlib.Omega.{arith}
use Rattle.mend.proofs.Entries.{by_wide, by_high, by_none, info_lt, check_lt, by_some}
use Rattle.mend.proofs.mended_by.Goals as goal

pub returns-then-bits-ge67108864 : goal.returns-then-bits-ge67108864
returns-then-bits-ge67108864 c = by_wide c.args.bits c.args.rest c.if-bits-ge67108864.true

pub returns-then-rest-ge1024 : goal.returns-then-rest-ge1024
returns-then-rest-ge1024 c = by_high c.args.bits c.args.rest c.if-bits-ge67108864.false c.if-rest-ge1024.true

pub returns-then-change : goal.returns-then-change
returns-then-change c = by_none c.args.bits c.args.rest c.entry-change.result c.if-bits-ge67108864.false c.if-rest-ge1024.false c.entry-change.ensures c.if-change.true

pub overflow_cast-result : goal.overflow_cast-result
overflow_cast-result c = let l = info_lt c.args.bits c.args.rest c.entry-change.result c.if-bits-ge67108864.false c.if-rest-ge1024.false c.entry-change.ensures in omega arith

pub overflow_mul-result : goal.overflow_mul-result
overflow_mul-result c = let l = info_lt c.args.bits c.args.rest c.entry-change.result c.if-bits-ge67108864.false c.if-rest-ge1024.false c.entry-change.ensures in omega arith

pub overflow_cast-result-2 : goal.overflow_cast-result-2
overflow_cast-result-2 c = let l = check_lt c.args.bits c.args.rest c.entry-change.result c.remainder_of.result c.if-rest-ge1024.false c.remainder_of.ensures in omega arith

pub overflow_add-result : goal.overflow_add-result
overflow_add-result c = let l = info_lt c.args.bits c.args.rest c.entry-change.result c.if-bits-ge67108864.false c.if-rest-ge1024.false c.entry-change.ensures in
    let m = check_lt c.args.bits c.args.rest c.entry-change.result c.remainder_of.result c.if-rest-ge1024.false c.remainder_of.ensures in
    omega arith

pub returns : goal.returns
returns c = by_some c.args.bits c.args.rest c.entry-change.result c.remainder_of.result c.if-bits-ge67108864.false c.if-rest-ge1024.false c.entry-change.ensures c.if-change.false c.remainder_of.ensures
