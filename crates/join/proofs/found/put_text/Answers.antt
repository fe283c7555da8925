-- `join::found::put_text`: what its goals need. Assumes nothing.
use Rattle.story.proofs.Copying.{copied_in}
use Rattle.join.proofs.found.put_text.Goals as goal

pub returns : goal.returns
returns c = copied_in c.args.out.now c.args.text.now _ c.args.p c.requires c.copy_from_slice.ensures.after
