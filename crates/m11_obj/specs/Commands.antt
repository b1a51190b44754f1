-- The commands of a relocation directory, grouped by the fields that follow their displacement. (RT-11 Volume and File Formats
-- Manual, "Object file format", RLD block.) `Reading` has the form of each command, by its code.
use Rattle.std.specs.Prelude.{ℕ}
use Rattle.m11_base.specs.Rad50 as rad50
use Rattle.m11_obj.specs.declared.relocations.Target.{Target}
use Rattle.m11_obj.specs.declared.relocations.Target.TheVariants as target
use Rattle.m11_obj.specs.declared.commands.ConstantCommand.{ConstantCommand}
use Rattle.m11_obj.specs.declared.commands.ConstantCommand.TheVariants as constant_command
use Rattle.m11_obj.specs.declared.commands.NameCommand.{NameCommand}
use Rattle.m11_obj.specs.declared.commands.NameCommand.TheVariants as name_command
use Rattle.m11_obj.specs.declared.commands.NameAndConstantCommand.{NameAndConstantCommand}
use Rattle.m11_obj.specs.declared.commands.NameAndConstantCommand.TheVariants as both_command
use Rattle.m11_obj.specs.declared.commands.Command.{Command}
use Rattle.m11_obj.specs.declared.commands.Command.TheVariants as command
use Rattle.m11_obj.specs.Reading.{Form, Nothing, Constant, Name, NameAndConstant}

abbrev pub constant_target : ConstantCommand → ℕ → Target
constant_target constant_command.Internal constant = target.Internal constant
constant_target constant_command.InternalDisplaced constant = target.InternalDisplaced constant
constant_target constant_command.LocationCounterModification constant =
    target.LocationCounterModification constant

abbrev pub name_target : NameCommand → rad50.Name → Target
name_target name_command.Global name = target.Global name
name_target name_command.GlobalDisplaced name = target.GlobalDisplaced name
name_target name_command.Section name = target.Section name
name_target name_command.SectionDisplaced name = target.SectionDisplaced name

abbrev pub both_target : NameAndConstantCommand → rad50.Name → ℕ → Target
both_target both_command.GlobalAdditive name constant = target.GlobalAdditive name constant
both_target both_command.GlobalAdditiveDisplaced name constant =
    target.GlobalAdditiveDisplaced name constant
both_target both_command.LocationCounterDefinition name constant =
    target.LocationCounterDefinition name constant
both_target both_command.SectionAdditive name constant = target.SectionAdditive name constant
both_target both_command.SectionAdditiveDisplaced name constant =
    target.SectionAdditiveDisplaced name constant

-- the form of a command: the fields that follow its displacement, and the target that they yield
abbrev pub form_in : Command → Form
form_in command.ProgramLimits = Nothing target.ProgramLimits
form_in (command.Constant row) = Constant (λ constant. constant_target row constant)
form_in (command.Name row) = Name (λ name. name_target row name)
form_in (command.NameAndConstant row) = NameAndConstant (λ name constant. both_target row name constant)
