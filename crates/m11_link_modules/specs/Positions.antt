-- What is known before a part of objects: the module so far, the sections that it entered, the section that texts go to, and the
-- length of the text that relocations change; and, over all modules, their number and the names so far. (RT-11 Volume and File
-- Formats Manual, "Object file format", GSD, TXT and RLD blocks.)
use Rattle.std.specs.Prelude.{ℕ, ◌+◌, ◌||◌, Bool, true, false, List, [], ◌∷◌, length, Option, Some, None, if◌then◌else◌}
use Rattle.std.specs.List.{filter_map, list_any}
use Rattle.std.specs.Map.{keys_of, lookup}
use Rattle.std.specs.Option.{is_some, option_or}
use Rattle.indexmap.specs.IndexSet.{insert_key}
use Rattle.m11_base.specs.Rad50.{Name, is_same_name}
use Rattle.m11_base.specs.Names.{absolute_name}
use Rattle.m11_obj.specs.declared.gsd.GsdEntry.{GsdEntry}
use Rattle.m11_obj.specs.declared.gsd.GsdKind.{GsdKind}
use Rattle.m11_obj.specs.declared.gsd.GsdKind.TheVariants.{ControlSection, GlobalSymbol, ProgramSection}
use Rattle.m11_obj.specs.declared.relocations.Target.{Target}
use Rattle.m11_obj.specs.declared.relocations.Target.TheVariants as target
use Rattle.m11_link_modules.specs.declared.stage.Stage.{Stage}
use Rattle.m11_link_modules.specs.declared.stage.Stage.TheVariants.{Between, InDirectory, InBody}
use Rattle.m11_link_modules.specs.Parts.{Part, Directory, Entry, EndOfDirectory, Text, Relocated, EndOfModule}

-- ---- modules

abbrev pub ends_module : Part → Bool
ends_module EndOfModule = true
ends_module part = false

-- the parts after the last end of a module, or all parts if there is none
unfoldable pub this_module : List Part → List Part
this_module [] = []
this_module (part ∷ parts) = if list_any ends_module (part ∷ parts) then this_module parts else part ∷ parts

-- the number of modules that ended
unfoldable pub modules_in : List Part → ℕ
modules_in [] = 0
modules_in (EndOfModule ∷ parts) = modules_in parts + 1
modules_in (part ∷ parts) = modules_in parts

-- the stage after these parts, from the stage before them
abbrev pub stage_from : Stage → List Part → Stage
stage_from stage [] = stage
stage_from stage (Directory ∷ parts) = stage_from InDirectory parts
stage_from stage (EndOfDirectory ∷ parts) = stage_from InBody parts
stage_from stage (EndOfModule ∷ parts) = stage_from Between parts
stage_from stage (part ∷ parts) = stage_from stage parts

unfoldable pub stage_after : List Part → Stage
stage_after parts = stage_from Between parts

-- ---- sections

-- the name and the size in bytes of the section that an entry enters; None for an entry of another kind
abbrev pub section_by : GsdKind → GsdEntry → Option (Name × ℕ)
section_by ControlSection entry = Some (entry.name, entry.value)
section_by ProgramSection entry = Some (entry.name, entry.value)
section_by kind entry = None

abbrev pub section_in : Part → Option (Name × ℕ)
section_in (Entry entry) = section_by entry.kind entry
section_in part = None

-- the name and the size in bytes of each section entered in these parts, in order
unfoldable pub sections_in : List Part → List (Name × ℕ)
sections_in parts = filter_map section_in parts

-- the size in bytes of a section in a module that has entered these sections; 0 for `. ABS.` if the module hasn't entered it; None for
-- any other name
abbrev pub size_known : List (Name × ℕ) → Name → Option ℕ
size_known sections name =
    option_or (lookup (is_same_name name) sections) (if is_same_name name absolute_name then Some 0 else None)

-- the section that texts go to after a relocation: the section that a location counter definition selects; after any other
-- relocation, the same section as before
abbrev pub selected_by : Name → Target → Name
selected_by section (target.LocationCounterDefinition name constant) = name
selected_by section other = section

abbrev pub section_after : Name → List Part → Name
section_after section [] = section
section_after section (Relocated relocation ∷ parts) = section_after (selected_by section relocation.target) parts
section_after section (part ∷ parts) = section_after section parts

-- the section selected last in a module; `. ABS.` if none was
unfoldable pub current_section : List Part → Name
current_section parts = section_after absolute_name parts

-- ---- texts

abbrev pub length_after : Option ℕ → List Part → Option ℕ
length_after before [] = before
length_after before (Text address bytes ∷ parts) = length_after (Some (length bytes)) parts
length_after before (part ∷ parts) = length_after before parts

-- the length in bytes of the last text of a module, if there is one
unfoldable pub text_length : List Part → Option ℕ
text_length parts = length_after None parts

-- ---- names

-- the names in `seen`, and then the other names, each once, in the order of first appearances
abbrev pub distinct_after : List Name → List Name → List Name
distinct_after seen [] = seen
distinct_after seen (name ∷ names) = distinct_after (insert_key is_same_name seen name) names

unfoldable pub distinct : List Name → List Name
distinct names = distinct_after [] names

-- the global symbol in a target; None if the target has none
abbrev pub global_of : Target → Option Name
global_of (target.Global name) = Some name
global_of (target.GlobalDisplaced name) = Some name
global_of (target.GlobalAdditive name constant) = Some name
global_of (target.GlobalAdditiveDisplaced name constant) = Some name
global_of other = None

-- the global symbol of an entry, defined or only referred to; None for an entry of another kind
abbrev pub global_by : GsdKind → GsdEntry → Option Name
global_by GlobalSymbol entry = Some entry.name
global_by kind entry = None

abbrev pub global_in : Part → Option Name
global_in (Entry entry) = global_by entry.kind entry
global_in (Relocated relocation) = global_of relocation.target
global_in part = None

-- whether a part enters a section or names a global; the name is then added unless it is known already
abbrev pub adds_name : Part → Bool
adds_name part = is_some (section_in part) || is_some (global_in part)

unfoldable pub global_names : List Part → List Name
global_names parts = distinct (filter_map global_in parts)

unfoldable pub section_names : List Part → List Name
section_names parts = distinct (keys_of (sections_in parts))

-- ---- what the next part is judged by

pub record RulesState : Type 0 where
  pub stage : Stage
  -- the number of modules that ended
  pub modules : ℕ
  -- the names of sections and of globals over all modules
  pub sections : List Name
  pub globals : List Name
  -- the sections that this module entered, each with its size in bytes
  pub entered : List (Name × ℕ)
  -- the section that texts go to
  pub section : Name
  -- the length in bytes of this module's last text, if it has one
  pub text : Option ℕ

unfoldable pub known_of : List Part → RulesState
known_of parts = record {
  stage = stage_after parts;
  modules = modules_in parts;
  sections = section_names parts;
  globals = global_names parts;
  entered = sections_in (this_module parts);
  section = current_section (this_module parts);
  text = text_length (this_module parts);
}
