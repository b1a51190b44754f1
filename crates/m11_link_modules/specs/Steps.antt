-- The state after a part, from the state before it. (This project's own: how the state changes from part to part. It is proved that
-- this is the state that Positions.antt defines for all parts so far.)
use Rattle.std.specs.Prelude.{◌≡◌, ◌+◌, true, List, [], ◌∷◌, length, ⊤, Option, Some, None, Result, Ok, Err}
use Rattle.std.specs.Option.{option_or}
use Rattle.indexmap.specs.IndexMap.{insert_entry}
use Rattle.indexmap.specs.IndexSet.{insert_key}
use Rattle.m11_base.specs.Rad50.{Name, is_same_name}
use Rattle.m11_base.specs.Names.{absolute_name}
use Rattle.m11_obj.specs.declared.gsd.GsdEntry.{GsdEntry}
use Rattle.m11_obj.specs.declared.gsd.GsdKind.{GsdKind}
use Rattle.m11_obj.specs.declared.gsd.GsdKind.TheVariants.{ControlSection, GlobalSymbol, ProgramSection}
use Rattle.m11_obj.specs.declared.relocations.Target.{Target}
use Rattle.m11_link_modules.specs.declared.fault.ModuleFault.{ModuleFault}
use Rattle.m11_link_modules.specs.declared.fault.ModuleFault.TheVariants.{NoMemory}
use Rattle.m11_link_modules.specs.declared.stage.Stage.TheVariants.{Between, InDirectory, InBody}
use Rattle.m11_link_modules.specs.Parts.{Part, Directory, Entry, EndOfDirectory, Text, Relocations, Relocated, EndOfModule, EndOfFile}
use Rattle.m11_link_modules.specs.Positions.{RulesState, adds_name, selected_by, global_of}
use Rattle.m11_link_modules.specs.Rules.{StopsAtName, fault_known}

abbrev pub with_section : GsdEntry → RulesState → RulesState
with_section entry known = record known {
  sections = insert_key is_same_name known.sections entry.name;
  entered = insert_entry is_same_name known.entered entry.name entry.value;
}

abbrev pub with_global : Name → RulesState → RulesState
with_global name known = record known { globals = insert_key is_same_name known.globals name }

abbrev pub with_entry : GsdKind → GsdEntry → RulesState → RulesState
with_entry ControlSection entry known = with_section entry known
with_entry ProgramSection entry known = with_section entry known
with_entry GlobalSymbol entry known = with_global entry.name known
with_entry kind entry known = known

abbrev pub with_optional_global : Option Name → RulesState → RulesState
with_optional_global None known = known
with_optional_global (Some name) known = with_global name known

abbrev pub with_target : Target → RulesState → RulesState
with_target target known =
    with_optional_global (global_of target) (record known { section = selected_by known.section target })

-- the state after the end of a module
abbrev pub with_end : RulesState → RulesState
with_end known = record known {
  stage = Between;
  modules = known.modules + 1;
  entered = [];
  section = absolute_name;
  text = None;
}

unfoldable pub known_after : RulesState → Part → RulesState
known_after known Directory = record known { stage = InDirectory }
known_after known (Entry entry) = with_entry entry.kind entry known
known_after known EndOfDirectory = record known { stage = InBody }
known_after known (Text address bytes) = record known { text = Some (length bytes) }
known_after known Relocations = known
known_after known (Relocated relocation) = with_target relocation.target known
known_after known EndOfModule = with_end known
known_after known EndOfFile = known

abbrev pub known_after_all : RulesState → List Part → RulesState
known_after_all known [] = known
known_after_all known (part ∷ parts) = known_after_all (known_after known part) parts

abbrev pub first_known_fault : RulesState → List Part → Option ModuleFault
first_known_fault known [] = None
first_known_fault known (part ∷ parts) =
    option_or (fault_known known part) (first_known_fault (known_after known part) parts)

-- the new state is the expected one; or memory was refused, and nothing is known of the new state; no other fault is possible
abbrev pub Notes : {A : Type 0} → RulesState → RulesState → Result A ModuleFault → Type 0
Notes new noted (Ok done) = new ≡ noted
Notes new noted (Err NoMemory) = ⊤
Notes new noted (Err fault) = ⊥

-- a part was accepted, or its fault was returned; or memory was refused at a part that adds a name and has no fault
unfoldable pub AcceptsOne : RulesState → RulesState → Part → Result (Unit {0}) ModuleFault → Type 0
AcceptsOne old new part (Ok done) = (fault_known old part ≡ None) × (new ≡ known_after old part)
AcceptsOne old new part (Err NoMemory) = (fault_known old part ≡ None) × (adds_name part ≡ true)
AcceptsOne old new part (Err fault) = fault_known old part ≡ Some fault

-- parts were accepted, or their first fault was returned; or memory was refused at a part that adds a name, and neither that part nor
-- one before it has a fault
unfoldable pub RulesAccept : RulesState → RulesState → List Part → Result (Unit {0}) ModuleFault → Type 0
RulesAccept old new parts (Ok done) = (first_known_fault old parts ≡ None) × (new ≡ known_after_all old parts)
RulesAccept old new parts (Err NoMemory) = StopsAtName (first_known_fault old) parts
RulesAccept old new parts (Err fault) = first_known_fault old parts ≡ Some fault
