-- Which relocations have a form that exists. (RT-11 Volume and File Formats Manual, "Object file format", RLD block.)
use Rattle.std.specs.Prelude.{Bool, true, false, if◌then◌else◌}
use Rattle.m11_obj.specs.declared.relocations.Relocation.{Relocation}
use Rattle.m11_obj.specs.declared.relocations.Target.{Target}
use Rattle.m11_obj.specs.declared.relocations.Target.TheVariants.{LocationCounterDefinition, LocationCounterModification, ProgramLimits}

-- whether a command has a byte form: each command that stores a value of one word has one
abbrev pub has_byte_form : Target → Bool
has_byte_form (LocationCounterDefinition name constant) = false
has_byte_form (LocationCounterModification constant) = false
has_byte_form ProgramLimits = false
has_byte_form target = true

-- whether a relocation's form exists: only a command with a byte form may relocate a byte
abbrev pub has_form : Relocation → Bool
has_form relocation = if relocation.is_byte then has_byte_form relocation.target else true
