-- The entries of a relocation directory. (RT-11 Volume and File Formats Manual, "Object file format",
-- RLD block.)
use Rattle.std.specs.Prelude.{ℕ, ◌+◌, ◌<◌, ◌^◌, Bool, true, false, List, [], ◌∷◌, ◌++◌, Option, Some, None, IfSome, All, if◌then◌else◌}
use Rattle.std.specs.List.{flat_map}
use Rattle.m11_base.specs.Devices.{Bytes}
use Rattle.m11_base.specs.Rad50.{Name, IsName}
use Rattle.m11_obj.specs.declared.relocations.Target.{Target}
use Rattle.m11_obj.specs.declared.relocations.Target.TheVariants.{Internal, Global, InternalDisplaced, GlobalDisplaced, GlobalAdditive, GlobalAdditiveDisplaced, LocationCounterDefinition, LocationCounterModification, ProgramLimits, Section, SectionDisplaced, SectionAdditive, SectionAdditiveDisplaced}
use Rattle.m11_obj.specs.declared.relocations.Relocation.{Relocation}
use Rattle.m11_obj_blocks.specs.Frames.{word_bytes}
use Rattle.m11_obj.specs.Gsd.{name_bytes}

-- the parts of an entry that its target determines: the command, in octal as in the manual; the name, if there is one; and the
-- constant at the end, if there is one
pub record Parts : Type 0 where
  pub command : ℕ
  pub name : Option Name
  pub constant : Option ℕ

abbrev pub parts : ℕ → Option Name → Option ℕ → Parts
parts command name constant = record { command = command; name = name; constant = constant }

abbrev pub parts_of : Target → Parts
parts_of (Internal constant) = parts 0o1 None (Some constant)
parts_of (Global name) = parts 0o2 (Some name) None
parts_of (InternalDisplaced constant) = parts 0o3 None (Some constant)
parts_of (GlobalDisplaced name) = parts 0o4 (Some name) None
parts_of (GlobalAdditive name constant) = parts 0o5 (Some name) (Some constant)
parts_of (GlobalAdditiveDisplaced name constant) = parts 0o6 (Some name) (Some constant)
parts_of (LocationCounterDefinition name constant) = parts 0o7 (Some name) (Some constant)
parts_of (LocationCounterModification constant) = parts 0o10 None (Some constant)
parts_of ProgramLimits = parts 0o11 None None
parts_of (Section name) = parts 0o12 (Some name) None
parts_of (SectionDisplaced name) = parts 0o14 (Some name) None
parts_of (SectionAdditive name constant) = parts 0o15 (Some name) (Some constant)
parts_of (SectionAdditiveDisplaced name constant) = parts 0o16 (Some name) (Some constant)

abbrev pub optional_name : Option Name → Bytes
optional_name None = []
optional_name (Some name) = name_bytes name

abbrev pub optional_word : Option ℕ → Bytes
optional_word None = []
optional_word (Some word) = word_bytes word

-- the bit of a command byte that selects the byte form, octal 200; 0 for the word form
abbrev pub byte_form : Bool → ℕ
byte_form is_byte = if is_byte then 0o200 else 0

-- the command byte, the displacement byte, and the name and the constant if there are any
abbrev pub relocation_bytes : Relocation → Bytes
relocation_bytes relocation =
    ((parts_of relocation.target).command + byte_form relocation.is_byte) ∷ relocation.displacement
    ∷ optional_name (parts_of relocation.target).name ++ optional_word (parts_of relocation.target).constant

abbrev pub relocations_bytes : List Relocation → Bytes
relocations_bytes relocations = flat_map relocation_bytes relocations

-- a command has a byte form if it stores a value of one word, as all do but 7, octal 10 and octal 11
abbrev pub HasByteForm : Target → Type 0
HasByteForm (LocationCounterDefinition name constant) = ⊥
HasByteForm (LocationCounterModification constant) = ⊥
HasByteForm ProgramLimits = ⊥
HasByteForm target = Unit {0}

-- the byte form (`true`) or the word form (`false`) of a command exists; every command has a word form
abbrev pub FormExists : Bool → Target → Type 0
FormExists true target = HasByteForm target
FormExists false target = Unit {0}

-- the fields of a relocation fit into its bytes, and its form exists
pub record RelocationFits (relocation : Relocation) : Type 0 where
  pub form : FormExists relocation.is_byte relocation.target
  pub displacement : relocation.displacement < 2 ^ 8
  pub name : IfSome (parts_of relocation.target).name IsName
  pub constant : IfSome (parts_of relocation.target).constant (λ word. word < 2 ^ 16)

abbrev pub RelocationsFit : List Relocation → Type 0
RelocationsFit relocations = All RelocationFits relocations

-- the largest number of relocations in a block
abbrev pub relocation_limit : ℕ
relocation_limit = 255
