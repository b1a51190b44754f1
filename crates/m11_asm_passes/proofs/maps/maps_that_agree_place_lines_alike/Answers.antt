use Rattle.m11_asm_passes.proofs.LiveLines.{counting_at_same, table_at_same}
use Rattle.m11_asm_passes.proofs.MapsAlike as alike
use Rattle.m11_asm_passes.proofs.maps.maps_that_agree_place_lines_alike.Goals as goal

pub returns-clause-puts : goal.returns-clause-puts
returns-clause-puts c = alike.line_put_same

pub returns-clause-changes : goal.returns-clause-changes
returns-clause-changes c = alike.after_line_same

pub returns-clause-pieces : goal.returns-clause-pieces
returns-clause-pieces c = alike.pieces_same

pub returns-clause-flags : goal.returns-clause-flags
returns-clause-flags c = alike.flags_same

pub returns-clause-moves : goal.returns-clause-moves
returns-clause-moves c = alike.moved_same

pub returns-clause-all_flags : goal.returns-clause-all_flags
returns-clause-all_flags c = alike.all_flags_same

pub returns-clause-tables : goal.returns-clause-tables
returns-clause-tables c = table_at_same

pub returns-clause-names : goal.returns-clause-names
returns-clause-names c = counting_at_same

pub returns-clause-faults : goal.returns-clause-faults
returns-clause-faults c = alike.line_fault_same
