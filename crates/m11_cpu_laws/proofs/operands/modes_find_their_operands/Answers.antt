use Rattle.m11_cpu_laws.proofs.OperandsFound.{eight_modes, forms_of_counter}
use Rattle.m11_cpu_laws.proofs.operands.modes_find_their_operands.Goals as goal

pub returns-clause-modes : goal.returns-clause-modes
returns-clause-modes c = eight_modes

pub returns-clause-forms : goal.returns-clause-forms
returns-clause-forms c = forms_of_counter
