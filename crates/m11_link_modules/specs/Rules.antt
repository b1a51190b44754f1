-- Which records, in their order, are modules, and with which fault others are refused: each part is judged by the parts before it.
-- (RT-11 Volume and File Formats Manual, "Object file format". The faults, their order and the limits are this project's own.)
use Rattle.std.specs.Prelude.{◌≡◌, ℕ, ◌+◌, ◌<◌, ◌≤◌, ◌&&◌, not, nat_lt, nat_le, nat_eq, Bool, true, false, List, [], ◌∷◌, ◌++◌, length, Option, Some, None, Result, Ok, Err, if◌then◌else◌}
use Rattle.std.specs.Option.{is_none, is_some, option_or, unwrap_or}
use Rattle.std.specs.Map.{lookup}
use Rattle.m11_base.specs.Rad50.{Name, is_same_name}
use Rattle.m11_obj.specs.Gsd.{has_bits}
use Rattle.m11_obj.specs.declared.gsd.GsdEntry.{GsdEntry}
use Rattle.m11_obj.specs.declared.gsd.GsdKind.{GsdKind}
use Rattle.m11_obj.specs.declared.gsd.GsdKind.TheVariants.{ControlSection, TransferAddress, GlobalSymbol, ProgramSection}
use Rattle.m11_obj.specs.declared.relocations.Relocation.{Relocation}
use Rattle.m11_obj.specs.declared.relocations.Target.{Target}
use Rattle.m11_obj.specs.declared.relocations.Target.TheVariants as target
use Rattle.m11_link_modules.specs.declared.fault.ModuleFault.{ModuleFault}
use Rattle.m11_link_modules.specs.declared.fault.ModuleFault.TheVariants.{BadOrder, NoText, BadDisplacement, UnknownSection, TextOutside, TooManyGlobals, TooManySections, TooManyModules}
use Rattle.m11_link_modules.specs.Names.{is_among}
use Rattle.m11_link_modules.specs.Parts.{Part, Directory, Entry, EndOfDirectory, Text, Relocations, Relocated, EndOfModule, EndOfFile}
use Rattle.m11_link_modules.specs.Positions.{RulesState, adds_name, known_of, size_known}
use Rattle.m11_link_modules.specs.declared.stage.Stage.{Stage}
use Rattle.m11_link_modules.specs.declared.stage.Stage.TheVariants.{Between, InBody}

-- ---- the order of records

-- whether a part may come at this stage; entries and relocations always may, since the beginning of their record is judged instead
abbrev pub may_occur : Part → Stage → Bool
may_occur Directory InBody = false
may_occur Directory stage = true
may_occur EndOfDirectory InBody = false
may_occur EndOfDirectory stage = true
may_occur (Text address bytes) InBody = true
may_occur (Text address bytes) stage = false
may_occur Relocations InBody = true
may_occur Relocations stage = false
may_occur EndOfModule InBody = true
may_occur EndOfModule stage = false
may_occur EndOfFile Between = true
may_occur EndOfFile stage = false
may_occur (Entry entry) stage = true
may_occur (Relocated relocation) stage = true

-- ---- the limits

abbrev pub most_modules : ℕ
most_modules = 32

abbrev pub most_sections : ℕ
most_sections = 256

abbrev pub most_globals : ℕ
most_globals = 8192

-- whether a name would be one too many: it is new, and there are already as many names as are allowed, or more
abbrev pub is_past : ℕ → List Name → Name → Bool
is_past most names name = not (is_among names name) && nat_le most (length names)

-- ---- the faults of a part

-- the first of these faults whose condition holds, if there is one
abbrev pub first_there : List (Bool × ModuleFault) → Option ModuleFault
first_there [] = None
first_there (fault ∷ faults) = if fault.0 then Some fault.1 else first_there faults

-- the fault of a directory record or of an end of a directory, outside the body of a module: TooManyModules if it would begin a
-- module past the limit
abbrev pub begin_fault : Stage → ℕ → Option ModuleFault
begin_fault Between modules = first_there ((nat_le most_modules modules, TooManyModules) ∷ [])
begin_fault stage modules = None

-- whether an entry defines its symbol; octal 10 is the flag of a definition, and octal 40 that of a relocatable value
abbrev pub defines : GsdEntry → Bool
defines entry = has_bits 0o10 entry.flags

abbrev pub defines_relocatable : GsdEntry → Bool
defines_relocatable entry = defines entry && has_bits 0o40 entry.flags

-- the fault of entering a section, if any: the module has entered it already, or its name is one too many
abbrev pub entering_fault : List (Name × ℕ) → List Name → Name → Option ModuleFault
entering_fault entered sections name = first_there
    ((is_some (lookup (is_same_name name) entered), BadOrder) ∷ (is_past most_sections sections name, TooManySections) ∷ [])

-- the fault of naming a section, if the module doesn't know it
abbrev pub section_fault : List (Name × ℕ) → Name → Option ModuleFault
section_fault entered name = first_there ((is_none (size_known entered name), UnknownSection) ∷ [])

-- the fault of naming a global, if its name is one too many
abbrev pub global_fault : List Name → Name → Option ModuleFault
global_fault globals name = first_there ((is_past most_globals globals name, TooManyGlobals) ∷ [])

-- the fault of a global symbol's entry, if any: a relocatable definition before the entry of any section, or a name that is one too many
abbrev pub symbol_fault : GsdEntry → List (Name × ℕ) → List Name → Option ModuleFault
symbol_fault entry entered globals = option_or
    (first_there ((defines_relocatable entry && nat_eq (length entered) 0, BadOrder) ∷ []))
    (global_fault globals entry.name)

-- the fault of an entry, if it has one, given the sections that the module has entered, and the names of all sections and of all globals so
-- far
abbrev pub entry_fault : GsdKind → GsdEntry → List (Name × ℕ) → List Name → List Name → Option ModuleFault
entry_fault ControlSection entry entered sections globals = entering_fault entered sections entry.name
entry_fault ProgramSection entry entered sections globals = entering_fault entered sections entry.name
entry_fault TransferAddress entry entered sections globals = section_fault entered entry.name
entry_fault GlobalSymbol entry entered sections globals = symbol_fault entry entered globals
entry_fault kind entry entered sections globals = None

-- the fault of a text of `count` bytes at an address, if the text ends past the end of a section of this size
abbrev pub text_fault : ℕ → ℕ → ℕ → Option ModuleFault
text_fault size address count = first_there ((nat_lt size (address + count), TextOutside) ∷ [])

-- the number of bytes that a relocation stores, commands 7 and octal 10 aside: 4 for the two limits of the program, otherwise 1 for
-- a byte and 2 for a word
abbrev pub width_of : Bool → Target → ℕ
width_of is_byte target.ProgramLimits = 4
width_of true other = 1
width_of false other = 2

-- whether all bytes that a relocation stores lie within a text of this many bytes, whose first byte has the displacement 4
abbrev pub lies_within : Relocation → ℕ → Bool
lies_within relocation count = nat_le 4 relocation.displacement
    && nat_le (relocation.displacement + width_of relocation.is_byte relocation.target) (4 + count)

-- the fault of a relocation's location, if any: there is no text, or the bytes stored don't all lie within it
abbrev pub location_fault : Relocation → Option ℕ → Option ModuleFault
location_fault relocation None = Some NoText
location_fault relocation (Some count) = first_there ((not (lies_within relocation count), BadDisplacement) ∷ [])

-- the fault of a target: an unknown section, or a global whose name is one too many; a target without a name has none
abbrev pub target_fault : Target → List (Name × ℕ) → List Name → Option ModuleFault
target_fault (target.Section name) entered globals = section_fault entered name
target_fault (target.SectionDisplaced name) entered globals = section_fault entered name
target_fault (target.SectionAdditive name constant) entered globals = section_fault entered name
target_fault (target.SectionAdditiveDisplaced name constant) entered globals = section_fault entered name
target_fault (target.Global name) entered globals = global_fault globals name
target_fault (target.GlobalDisplaced name) entered globals = global_fault globals name
target_fault (target.GlobalAdditive name constant) entered globals = global_fault globals name
target_fault (target.GlobalAdditiveDisplaced name constant) entered globals = global_fault globals name
target_fault other entered globals = None

-- the fault of a relocation, if it has one: commands 7 and octal 10 store nothing; 7 must name a known section, and octal 10 has no
-- fault; for any other command the location's fault comes before the target's
abbrev pub relocation_by : Target → Relocation → List (Name × ℕ) → Option ℕ → List Name → Option ModuleFault
relocation_by (target.LocationCounterDefinition name constant) relocation entered text globals = section_fault entered name
relocation_by (target.LocationCounterModification constant) relocation entered text globals = None
relocation_by other relocation entered text globals =
    option_or (location_fault relocation text) (target_fault other entered globals)

abbrev pub relocation_fault : Relocation → List (Name × ℕ) → Option ℕ → List Name → Option ModuleFault
relocation_fault relocation entered text globals = relocation_by relocation.target relocation entered text globals

-- the fault of a part that comes where it may, if it has one
abbrev pub fault_in_order : RulesState → Part → Option ModuleFault
fault_in_order known Directory = begin_fault known.stage known.modules
fault_in_order known EndOfDirectory = begin_fault known.stage known.modules
fault_in_order known (Entry entry) = entry_fault entry.kind entry known.entered known.sections known.globals
fault_in_order known (Text address bytes) =
    text_fault (unwrap_or (size_known known.entered known.section) 0) address (length bytes)
fault_in_order known (Relocated relocation) =
    relocation_fault relocation known.entered known.text known.globals
fault_in_order known part = None

-- the fault of a part, if it has one, given what is known before it; BadOrder if the part may not come at that stage
unfoldable pub fault_known : RulesState → Part → Option ModuleFault
fault_known known part = if may_occur part known.stage then fault_in_order known part else Some BadOrder

-- the fault of a part after the parts before it, if it has one
abbrev pub fault_of : List Part → Part → Option ModuleFault
fault_of before part = fault_known (known_of before) part

-- the first fault of these parts in their order, given the parts before them; None if they have no fault
unfoldable pub first_fault : List Part → List Part → Option ModuleFault
first_fault before [] = None
first_fault before (part ∷ parts) = option_or (fault_of before part) (first_fault (before ++ part ∷ []) parts)

-- memory was refused at one of these parts, which adds a name; neither this part nor one before it has a fault, so limits are
-- checked before a table grows
pub record StopsAtName (fault_in : List Part → Option ModuleFault) (parts : List Part) : Type 0 where
  pub taken : List Part
  pub part : Part
  pub left : List Part
  pub split : parts ≡ taken ++ part ∷ left
  pub sound : fault_in (taken ++ part ∷ []) ≡ None
  pub adds : adds_name part ≡ true

-- the result of a check that found this fault, or none
abbrev pub returned : Option ModuleFault → Result (Unit {0}) ModuleFault
returned None = Ok tt
returned (Some fault) = Err fault

-- the result of a check that returns a value, without the value
abbrev pub outcome_of : {A : Type 0} → Result A ModuleFault → Result (Unit {0}) ModuleFault
outcome_of (Ok value) = Ok tt
outcome_of (Err fault) = Err fault

-- the fault of a directory record or of an end of a directory, at any stage: BadOrder in the body of a module, TooManyModules if it
-- would begin a module past the limit
abbrev pub opening_fault : Stage → ℕ → Option ModuleFault
opening_fault InBody modules = Some BadOrder
opening_fault stage modules = begin_fault stage modules

-- at most as many modules have ended as a link accepts; inside a module, fewer than that
abbrev pub InLimits : Stage → ℕ → Type 0
InLimits Between modules = modules ≤ most_modules
InLimits stage modules = modules < most_modules
