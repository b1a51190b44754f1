use Rattle.std.proofs.Common.{◌≡◌, ◌<◌, ◌∙◌, ℕ, true, ap}
use Rattle.m11_base.specs.declared.instruction.Insn.{Insn}
use Rattle.m11_base.specs.Encoding.{code_of, fits}
use Rattle.m11_base.specs.Instructions.{instruction_of}
use Rattle.m11_base.proofs.OneRow.{one_row}
use Rattle.m11_base.proofs.Words.{code_again, instruction_fits, tables_meaning}
use Rattle.m11_base.proofs.decoding.decode.Goals as goal

again : (i : Insn) (word : ℕ) → word < 65536 → i ≡ instruction_of word → (fits i ≡ true) × (code_of i ≡ word)
again i word h e = (ap fits e ∙ instruction_fits word h, ap code_of e ∙ code_again word h)

pub returns-clause-instruction : goal.returns-clause-instruction
returns-clause-instruction c = c.by_tables.ensures ∙ tables_meaning c.args.word c.ranges.word.fits

pub returns-clause-one_row : goal.returns-clause-one_row
returns-clause-one_row c = one_row c.args.word

pub returns-clause-again : goal.returns-clause-again
returns-clause-again c = again c.by_tables.result c.args.word c.ranges.word.fits (c.by_tables.ensures ∙ tables_meaning c.args.word c.ranges.word.fits)
