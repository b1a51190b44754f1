use Rattle.std.proofs.Common.{◌∙◌, ap}
use Rattle.m11_base.specs.Instructions.{instruction_of}
use Rattle.m11_base.proofs.Words.{instruction_again}
use Rattle.m11_base.proofs.encoding.encode.Goals as goal

pub returns-clause-means : goal.returns-clause-means
returns-clause-means c =
    ap instruction_of c.code.ensures.code ∙ instruction_again c.args.instruction.now c.requires c.code.ensures.held
