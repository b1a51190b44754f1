-- Globals: where each is defined, its value, and how modules refer to it. (RT-11 Volume and File Formats Manual, "Object file
-- format", GSD and RLD blocks. Weak references, by bit 001 of an entry that defines nothing, are this project's own.)
use Rattle.std.specs.Prelude.{ℕ, ◌+◌, ◌%◌, map, option_map, Bool, ◌&&◌, not, List, [], ◌∷◌, Option, Some, None, if◌then◌else◌}
use Rattle.std.specs.List.{filter_map, list_any}
use Rattle.std.specs.Map.{keys_of, lookup}
use Rattle.m11_base.specs.Rad50.{Name, is_same_name}
use Rattle.m11_obj.specs.declared.gsd.GsdEntry.{GsdEntry}
use Rattle.m11_obj.specs.declared.gsd.GsdKind.{GsdKind}
use Rattle.m11_obj.specs.declared.gsd.GsdKind.TheVariants.{GlobalSymbol}
use Rattle.m11_link_modules.specs.Names.{is_among}
use Rattle.m11_link_modules.specs.Parts.{Part, Entry, Relocated}
use Rattle.m11_link_modules.specs.Positions.{distinct, this_module, modules_in, sections_in, global_of}
use Rattle.m11_link_modules.specs.Rules.{defines}
use Rattle.m11_obj.specs.Gsd.{has_bits}
use Rattle.m11_link_layout.specs.Modules.{name_at, reported_after}
use Rattle.m11_link_layout.specs.Sections.{module_base}
use Rattle.m11_link_layout.specs.declared.definition.Definition.{Definition}
use Rattle.m11_link_layout.specs.declared.definition.GlobalLocation.{GlobalLocation}
use Rattle.m11_link_layout.specs.declared.definition.GlobalLocation.TheVariants.{Absolute, In}
use Rattle.m11_link_layout.specs.declared.planned.PlannedGlobal.{PlannedGlobal}

-- ---- definitions

abbrev pub last_of : {X : Type 0} → List X → Option X
last_of [] = None
last_of (x ∷ []) = Some x
last_of (x ∷ y ∷ xs) = last_of (y ∷ xs)

-- the section that a module entered last, if it has entered any
unfoldable pub last_section : List Part → Option Name
last_section parts = last_of (keys_of (sections_in parts))

-- the location of a relocatable symbol, one with bit octal 040: in the section that its module entered last; absolute if the module
-- has entered none
abbrev pub location_in : Option Name → ℕ → GlobalLocation
location_in None value = Absolute value
location_in (Some section) value = In section value

abbrev pub location_of : Option Name → GsdEntry → GlobalLocation
location_of section entry = if has_bits 0o40 entry.flags then location_in section entry.value else Absolute entry.value

abbrev pub definition_by : GsdKind → GsdEntry → ℕ → Option Name → Option (Name × Definition)
definition_by GlobalSymbol entry modules section =
    if defines entry then Some (entry.name, record { module_index = modules; location = location_of section entry }) else None
definition_by kind entry modules section = None

-- the name of a global and its definition in a part, if the part has one; the module and the section follow from the preceding parts
abbrev pub definition_in : List Part → Part → Option (Name × Definition)
definition_in before (Entry entry) =
    definition_by entry.kind entry (modules_in before) (last_section (this_module before))
definition_in before part = None

-- all definitions, in the order of the parts
unfoldable pub definitions_of : List Part → List (Name × Definition)
definitions_of parts = reported_after definition_in [] parts

-- ---- values

-- the value at a location in the module with this index: an absolute value, or the base of the module's contribution to a section
-- plus an offset, modulo octal 200000
abbrev pub location_value : ℕ → List Part → ℕ → GlobalLocation → ℕ
location_value bottom parts index (Absolute value) = value
location_value bottom parts index (In section value) = (module_base bottom parts index section + value) % 0o200000

abbrev pub definition_value : ℕ → List Part → Definition → ℕ
definition_value bottom parts definition = location_value bottom parts definition.module_index definition.location

-- the first definition of a global, if there is one
abbrev pub first_definition : List Part → Name → Option Definition
first_definition parts name = lookup (is_same_name name) (definitions_of parts)

-- the value of a global, if it is defined
unfoldable pub global_value : ℕ → List Part → Name → Option ℕ
global_value bottom parts name = option_map (definition_value bottom parts) (first_definition parts name)

abbrev pub global_reported : ℕ → List Part → Name → Definition → PlannedGlobal
global_reported bottom parts name definition = record {
  name = name;
  value = definition_value bottom parts definition;
  module_name = name_at parts definition.module_index;
}

abbrev pub global_defined : ℕ → List Part → Name → Option PlannedGlobal
global_defined bottom parts name = option_map (global_reported bottom parts name) (first_definition parts name)

-- the defined globals, in the order of first definitions, each with its value and the name of the first module that defines it
unfoldable pub globals_of : ℕ → List Part → List PlannedGlobal
globals_of bottom parts = filter_map (global_defined bottom parts) (distinct (keys_of (definitions_of parts)))

-- ---- references

-- the name that an entry refers to weakly: the entry defines nothing, and its bit 001 is set; None for any other entry
abbrev pub weak_by : GsdKind → GsdEntry → Option Name
weak_by GlobalSymbol entry = if not (defines entry) && has_bits 1 entry.flags then Some entry.name else None
weak_by kind entry = None

abbrev pub weak_in : Part → Option Name
weak_in (Entry entry) = weak_by entry.kind entry
weak_in part = None

-- the names that a module's entries refer to weakly
unfoldable pub weak_names : List Part → List Name
weak_names parts = filter_map weak_in parts

-- the name that an entry refers to without defining it, and whether the reference is strong, which it is if bit 001 is clear; None
-- for any other entry
abbrev pub reference_by : GsdKind → GsdEntry → Option (Name × Bool)
reference_by GlobalSymbol entry = if defines entry then None else Some (entry.name, not (has_bits 1 entry.flags))
reference_by kind entry = None

-- the name of the global that a relocation refers to, if there is one, and whether the reference is strong, which it is unless an
-- earlier entry in the same module refers weakly to the name
abbrev pub relocated_reference : List Name → Option Name → Option (Name × Bool)
relocated_reference weak None = None
relocated_reference weak (Some name) = Some (name, not (is_among weak name))

abbrev pub reference_in : List Part → Part → Option (Name × Bool)
reference_in before (Entry entry) = reference_by entry.kind entry
reference_in before (Relocated relocation) =
    relocated_reference (weak_names (this_module before)) (global_of relocation.target)
reference_in before part = None

-- all references, in the order of the parts
unfoldable pub references_of : List Part → List (Name × Bool)
references_of parts = reported_after reference_in [] parts

abbrev pub is_strong_to : Name → Name × Bool → Bool
is_strong_to name reference = is_same_name name reference.0 && reference.1

-- the names that modules refer to, in the order of first references, each with whether it has a strong reference
unfoldable pub referred : List Part → List (Name × Bool)
referred parts =
    map (λ name. (name, list_any (is_strong_to name) (references_of parts))) (distinct (keys_of (references_of parts)))
