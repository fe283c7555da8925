-- `writer::refusals::rest_answer`: what its goals need: each way out has its law in Answers. Assumes nothing.
use Rattle.writer.proofs.Taken.{good_counts, entries_lent}
use Rattle.writer.proofs.Answers.{says_25, says_27, says_20, says_10, says_0}
use mathlib.Core.Path.{ap}
use mathlib.Core.Bool.{not}
use Rattle.writer.proofs.refusals.rest_answer.Goals as goal

pub digits_fine-requires : goal.digits_fine-requires
digits_fine-requires c = let x = c.args in
    let g = good_counts x.f x.codes.now x.body.now c.requires in
    (g.counts, entries_lent x.f x.codes.now x.body.now g)

pub returns-then-not-digits_fine : goal.returns-then-not-digits_fine
returns-then-not-digits_fine c = says_25 _ _ _ _ c.digits_fine.ensures (ap not c.if-not-digits_fine.true)

pub content_taken-requires : goal.content_taken-requires
content_taken-requires c = let x = c.args in
    let g = good_counts x.f x.codes.now x.body.now c.requires in
    (g.counts, entries_lent x.f x.codes.now x.body.now g)

pub returns-then-not-content_taken : goal.returns-then-not-content_taken
returns-then-not-content_taken c = says_27 _ _ _ _ c.digits_fine.ensures (ap not c.if-not-digits_fine.false) c.content_taken.ensures (ap not c.if-not-content_taken.true)

pub size_of-size-requires : goal.size_of-size-requires
size_of-size-requires c = let x = c.args in
    (good_counts x.f x.codes.now x.body.now c.requires).few

pub returns-then-size-gt250 : goal.returns-then-size-gt250
returns-then-size-gt250 c = says_20 _ _ _ _ c.digits_fine.ensures (ap not c.if-not-digits_fine.false) c.content_taken.ensures (ap not c.if-not-content_taken.false) c.size_of-size.ensures c.if-size-gt250.true

pub returns-then-room-size : goal.returns-then-room-size
returns-then-room-size c = says_10 _ _ _ _ c.digits_fine.ensures (ap not c.if-not-digits_fine.false) c.content_taken.ensures (ap not c.if-not-content_taken.false) c.size_of-size.ensures c.if-size-gt250.false c.if-room-size.true

pub returns : goal.returns
returns c = says_0 _ _ _ _ c.digits_fine.ensures (ap not c.if-not-digits_fine.false) c.content_taken.ensures (ap not c.if-not-content_taken.false) c.size_of-size.ensures c.if-size-gt250.false c.if-room-size.false
