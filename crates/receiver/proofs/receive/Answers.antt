use mathlib.Core.Path.{refl}
use Rattle.receiver.proofs.Whole.{due_28, due_11, due_10, short_output, short_counts, refused}
use Rattle.receiver.proofs.receive.Goals as goal

pub returns-then-receiver-gt103 : goal.returns-then-receiver-gt103
returns-then-receiver-gt103 c = let a = c.args in let all = refused a.receiver a.delivery.now a.out.now a.counts.now 28 _ (due_28 a.receiver a.delivery.now a.out.now a.counts.now c.if-receiver-gt103.true) refl c.refused.ensures in record { answer = all.0; out = all.1.0; counts = all.1.1 }

pub returns-then-delivery-gt512 : goal.returns-then-delivery-gt512
returns-then-delivery-gt512 c = let a = c.args in let all = refused a.receiver a.delivery.now a.out.now a.counts.now 11 _ (due_11 a.receiver a.delivery.now a.out.now a.counts.now c.if-receiver-gt103.false c.if-delivery-gt512.true) refl c.refused-then-delivery-gt512.ensures in record { answer = all.0; out = all.1.0; counts = all.1.1 }

pub returns-then-out-lt320 : goal.returns-then-out-lt320
returns-then-out-lt320 c = let a = c.args in let all = refused a.receiver a.delivery.now a.out.now a.counts.now 10 _
    (due_10 a.receiver a.delivery.now a.out.now a.counts.now c.if-receiver-gt103.false c.if-delivery-gt512.false
    (short_output a.receiver a.delivery.now a.out.now a.counts.now c.if-out-lt320.true))
    refl c.refused-then-out-lt320.ensures in record { answer = all.0; out = all.1.0; counts = all.1.1 }

pub returns-then-counts-lt40 : goal.returns-then-counts-lt40
returns-then-counts-lt40 c = let a = c.args in let all = refused a.receiver a.delivery.now a.out.now a.counts.now 10 _
    (due_10 a.receiver a.delivery.now a.out.now a.counts.now c.if-receiver-gt103.false c.if-delivery-gt512.false
    (short_counts a.receiver a.delivery.now a.out.now a.counts.now c.if-out-lt320.false c.if-counts-lt40.true))
    refl c.refused-then-counts-lt40.ensures in record { answer = all.0; out = all.1.0; counts = all.1.1 }
