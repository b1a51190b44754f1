use Rattle.m11_base.specs.declared.operand.Size.TheVariants.{Word, Byte}
use Rattle.m11_cpu_arithmetic.proofs.Comparing.{compared}
use Rattle.m11_cpu_arithmetic.proofs.laws.branches_after_compare.Goals as goal

pub returns-clause-words : goal.returns-clause-words
returns-clause-words c = compared Word

pub returns-clause-bytes : goal.returns-clause-bytes
returns-clause-bytes c = compared Byte
