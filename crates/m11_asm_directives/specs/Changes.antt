-- The code's moves of the location counter, as the definitions represent them.
use Rattle.std.specs.Prelude.{Option, Some, None}
use Rattle.m11_asm_rules.specs.Changes.{Change, Counts, Keeps}
use Rattle.m11_asm_rules.specs.Locations as locations
use Rattle.m11_asm_directives.specs.declared.changes.Move.{Move}
use Rattle.m11_asm_directives.specs.declared.changes.Move.TheVariants.{Steps, Goes}

abbrev pub move_model : Move → locations.Move
move_model (Steps size) = locations.Steps size
move_model (Goes location) = locations.Goes location

-- the change of the location counter that a move makes; without a move, the change that keeps the counter
abbrev pub moves : Option Move → Change
moves (Some step) = Counts (move_model step)
moves None = Keeps
