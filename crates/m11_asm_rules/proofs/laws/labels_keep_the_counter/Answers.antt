use Rattle.m11_asm_rules.proofs.LabelLocations.{labels_keep}
use Rattle.m11_asm_rules.proofs.laws.labels_keep_the_counter.Goals as goal

pub returns : goal.returns
returns c = labels_keep
