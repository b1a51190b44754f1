use Rattle.m11_cli_image.proofs.GlobalsLie.{global_lies}
use Rattle.m11_cli_image.proofs.labels.globals_lie_where_they_are_defined.Goals as goal

pub returns : goal.returns
returns c bottom sources index source name number kind first value = global_lies name bottom sources index source number kind first value
