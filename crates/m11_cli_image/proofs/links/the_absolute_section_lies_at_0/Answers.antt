use Rattle.m11_cli_image.proofs.AbsoluteSection.{lies_at_zero}
use Rattle.m11_cli_image.proofs.links.the_absolute_section_lies_at_0.Goals as goal

pub returns : goal.returns
returns c = lies_at_zero
