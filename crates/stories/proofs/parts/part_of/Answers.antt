-- `stories::parts::part_of`: what its goals need. Assumes nothing.
use mathlib.Core.Path.{◌≡◌, sym, ◌∙◌}
use Rattle.story.specs.Joining.{digits_of}
use Rattle.stories.proofs.Heads.{head_bounds, reach_room, no_head, by_reach, part_is, part_alone}
use Rattle.stories.proofs.parts.part_of.Goals as goal
use Rattle.stories.proofs.parts.part_of.Goals.{else-right_head-via-then-right_head+else-in_reach, else-right_head-via-else-right_head}

pub in_reach-requires : goal.in_reach-requires
in_reach-requires c = let w = head_bounds c.body-t.result.now c.digit-k.result c.digit-n.result (sym c.right_head.ensures ∙ c.if-right_head.true) in
    (w.1, w.2)

pub first_number-requires : goal.first_number-requires
first_number-requires c = reach_room c.digits_of-d.result c.digit-k.result c.digit-n.result (sym c.in_reach.ensures ∙ c.if-in_reach.true)

pub overflow_sub-result : goal.overflow_sub-result
overflow_sub-result c = (head_bounds c.body-t.result.now c.digit-k.result c.digit-n.result (sym c.right_head.ensures ∙ c.if-right_head.true)).0

pub returns-then-in_reach : goal.returns-then-in_reach
returns-then-in_reach c = let d : c.digits_of-d.result ≡ digits_of c.args.packet.now = c.digits_of-d.ensures in
    part_is c.args.packet.now c.body-t.result.now c.digits_of-d.result c.digit-k.result c.digit-n.result c.body-t.ensures d c.digit-k.ensures c.digit-n.ensures (sym c.right_head.ensures ∙ c.if-right_head.true) (sym c.in_reach.ensures ∙ c.if-in_reach.true) c.first_number.result c.first_number.ensures

pub returns-else-right_head : goal.returns-else-right_head
returns-else-right_head c =
    let b = c.args.packet.now in
    let t = c.body-t.result.now in
    let d = c.digits_of-d.result in
    let same : d ≡ digits_of b = c.digits_of-d.ensures in
    part_alone b d same
    (elim c.else-right_head.branch [
      | else-right_head-via-then-right_head+else-in_reach w ↦
          by_reach b t d c.digit-k.result c.digit-n.result c.body-t.ensures same c.digit-k.ensures c.digit-n.ensures (sym c.right_head.ensures ∙ w.if-right_head.true) (sym w.in_reach.ensures ∙ w.if-in_reach.false)
      | else-right_head-via-else-right_head w ↦
          no_head b t d c.digit-k.result c.digit-n.result c.body-t.ensures same c.digit-k.ensures c.digit-n.ensures (sym c.right_head.ensures ∙ w.if-right_head.false)
    ])
