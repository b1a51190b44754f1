use Rattle.std.proofs.Common.{refl}
use Rattle.m11_base.specs.Instructions.{other_names, rows}
use Rattle.m11_base.specs.Rad50.{alphabet, code_of}
use Rattle.m11_scan.specs.Pieces.{first_piece}
use Rattle.m11_scan_expressions.specs.Values.{value_of}
use Rattle.m11_asm_line_laws.proofs.statements.an_example_is_read_as_worked.Goals as goal

pub returns-clause-label : goal.returns-clause-label
unfolding first_piece
returns-clause-label c = refl

pub returns-clause-body : goal.returns-clause-body
unfolding first_piece
returns-clause-body c = refl

pub returns-clause-operator : goal.returns-clause-operator
unfolding other_names rows alphabet code_of first_piece
returns-clause-operator c = refl

pub returns-clause-fields : goal.returns-clause-fields
unfolding other_names rows alphabet code_of first_piece value_of
returns-clause-fields c = refl

pub returns-clause-before : goal.returns-clause-before
unfolding first_piece
returns-clause-before c = refl

pub returns-clause-after : goal.returns-clause-after
unfolding first_piece
returns-clause-after c = refl
