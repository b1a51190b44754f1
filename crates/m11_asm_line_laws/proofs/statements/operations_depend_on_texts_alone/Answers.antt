use Rattle.m11_scan_statements.specs.Labels.{labels_end}
use Rattle.m11_asm_line_laws.proofs.ColumnOperations.{instruction_here, size_here, texts_decide}
use Rattle.m11_asm_line_laws.proofs.statements.operations_depend_on_texts_alone.Goals as goal

pub returns-clause-operation : goal.returns-clause-operation
returns-clause-operation c = texts_decide labels_end c.labels_and_body_are_in_order.ensures.body

pub returns-clause-size : goal.returns-clause-size
returns-clause-size c = size_here

pub returns-clause-words : goal.returns-clause-words
returns-clause-words c = instruction_here
