-- `sister::parts::kind`: what its goals need. Assumes nothing.
use Rattle.sister.proofs.Found.{other_tag}
use mathlib.Core.Path.{sym, ◌∙◌}
use Rattle.sister.specs.Table.{tagged, kind_of}
use Rattle.sister.proofs.parts.kind.Goals as goal

pub returns-in-1 : goal.returns-in-1
unfolding kind_of tagged
returns-in-1 c = rw (sym c.octet.ensures ∙ c.in-1.is)

pub returns-in-2 : goal.returns-in-2
unfolding kind_of tagged
returns-in-2 c = rw (sym c.octet.ensures ∙ c.in-2.is)

pub returns-in-3 : goal.returns-in-3
unfolding kind_of tagged
returns-in-3 c = rw (sym c.octet.ensures ∙ c.in-3.is)

pub returns-in_default : goal.returns-in_default
returns-in_default c = other_tag _ (λ h. c.in_default.in_default-own.rest.0.0.1 (c.octet.ensures ∙ h)) (λ h. c.in_default.in_default-own.rest.0.1 (c.octet.ensures ∙ h)) (λ h. c.in_default.in_default-own.rest.1 (c.octet.ensures ∙ h))
