use Rattle.std.proofs.Common.{refl}
use Rattle.m11_base.specs.Instructions.{other_names, rows}
use Rattle.m11_base.specs.Rad50.{alphabet, code_of}
use Rattle.m11_asm_rules.specs.Lines.{line_change, line_emission}
use Rattle.m11_asm_line_laws.proofs.worked_relocations.names_are_as_worked.Goals as goal
use Rattle.m11_scan.specs.Pieces.{first_piece}
use Rattle.m11_scan_expressions.specs.Values.{value_of}

pub returns : goal.returns
unfolding other_names rows alphabet code_of line_change line_emission first_piece value_of
returns c = refl
