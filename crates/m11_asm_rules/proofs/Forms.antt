-- An operand has at most one word after its instruction.
use Rattle.std.proofs.Common.{◌≤◌, arith}
use Rattle.m11_scan_expressions.specs.Tokens.{Expression}
use Rattle.m11_asm_rules.specs.declared.operands.Form.{Form}
use Rattle.m11_asm_rules.specs.declared.operands.Form.TheVariants.{Absent, InRegister, Indexed, Unindexed, AfterCounter}
use Rattle.m11_asm_rules.specs.Operands.{words_of}

pub one_word : (form : Form Expression) → words_of form ≤ 1
one_word Absent = omega arith
one_word (InRegister kind register) = omega arith
one_word (Indexed kind register index) = omega arith
one_word (Unindexed register) = omega arith
one_word (AfterCounter kind start) = omega arith
