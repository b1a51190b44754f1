-- Relocations that store bytes in the text before them. (RT-11 Volume and File Formats Manual, "Object file format", RLD
-- block.)
use Rattle.std.specs.Prelude.{ℕ, Option, Some, None}
use Rattle.m11_obj.specs.declared.relocations.Relocation.{Relocation}
use Rattle.m11_obj.specs.declared.relocations.Target.{Target}
use Rattle.m11_obj.specs.declared.relocations.Target.TheVariants as target

-- a relocation, and the length in bytes of the text before it
pub record InText : Type 0 where
  pub relocation : Relocation
  pub text_length : ℕ

abbrev pub in_text : Relocation → ℕ → InText
in_text relocation count = record { relocation = relocation; text_length = count }

-- a relocation with the length of the text before it; None if there is no text
abbrev pub in_text_before : Relocation → Option ℕ → Option InText
in_text_before relocation None = None
in_text_before relocation (Some count) = Some (in_text relocation count)

-- a relocation with the length of the text before it; None for commands 7 and octal 10, which store nothing, and if there is no
-- text
abbrev pub stored_by : Target → Relocation → Option ℕ → Option InText
stored_by (target.LocationCounterDefinition name constant) relocation text = None
stored_by (target.LocationCounterModification constant) relocation text = None
stored_by other relocation text = in_text_before relocation text

-- a relocation with the length of the text before it; None if it stores nothing, or if there is no text
abbrev pub stored_in : Relocation → Option ℕ → Option InText
stored_in relocation text = stored_by relocation.target relocation text
