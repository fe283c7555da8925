-- `tell::packets::put_text`: what its goals need. Assumes nothing.
use Rattle.story.proofs.Copying.{copied_in}
use Rattle.tell.proofs.packets.put_text.Goals as goal

pub returns : goal.returns
returns c = copied_in c.args.body.now c.args.text.now _ 4 c.requires c.copy_from_slice.ensures.after
