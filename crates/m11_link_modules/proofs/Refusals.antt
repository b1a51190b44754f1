-- No part has the fault NoMemory: no rule yields it, and only storing a name returns it.
use Rattle.std.proofs.Common.{◌≡◌, ℕ, Bool, true, false, if◌then◌else◌, List, [], ◌∷◌, Option, Some, None}
use Rattle.std.specs.Map.{lookup}
use Rattle.std.specs.Option.{is_some, option_or}
use Rattle.m11_base.specs.Rad50.{Name, is_same_name}
use Rattle.m11_obj.specs.declared.gsd.GsdEntry.{GsdEntry}
use Rattle.m11_obj.specs.declared.gsd.GsdKind.{GsdKind}
use Rattle.m11_obj.specs.declared.gsd.GsdKind.TheVariants.{ControlSection, TransferAddress, GlobalSymbol, ProgramSection}
use Rattle.m11_obj.specs.declared.relocations.Relocation.{Relocation}
use Rattle.m11_obj.specs.declared.relocations.Target.{Target}
use Rattle.m11_obj.specs.declared.relocations.Target.TheVariants as target
use Rattle.m11_link_modules.specs.declared.fault.ModuleFault.{ModuleFault}
use Rattle.m11_link_modules.specs.declared.fault.ModuleFault.TheVariants.{BadOrder, BadDisplacement, UnknownSection, TextOutside, TooManyGlobals, TooManySections, TooManyModules, NoMemory}
use Rattle.m11_link_modules.specs.declared.stage.Stage.{Stage}
use Rattle.m11_link_modules.specs.declared.stage.Stage.TheVariants.{Between, InDirectory, InBody}
use Rattle.m11_link_modules.specs.Parts.{Part, Directory, Entry, EndOfDirectory, Text, Relocated}
use Rattle.m11_link_modules.specs.Positions.{RulesState}
use Rattle.m11_link_modules.specs.Rules.{begin_fault, entering_fault, entry_fault, fault_in_order, fault_known, first_there, global_fault, is_past, location_fault, may_occur, most_sections, relocation_by, section_fault, symbol_fault, target_fault}

abbrev NotMemory : Option ModuleFault → Type 0
NotMemory fault = fault ≡ Some NoMemory → ⊥

none_is : NotMemory None
none_is e = cc

one_is : (there : Bool) (fault : ModuleFault) (rest : List (Bool × ModuleFault)) → (fault ≡ NoMemory → ⊥)
    → NotMemory (first_there rest) → NotMemory (first_there ((there, fault) ∷ rest))
one_is true fault rest n r e = n cc
one_is false fault rest n r e = r e

last_is : (there : Bool) (fault : ModuleFault) → (fault ≡ NoMemory → ⊥) → NotMemory (first_there ((there, fault) ∷ []))
last_is there fault n = one_is there fault [] n none_is

either : (first rest : Option ModuleFault) → NotMemory first → NotMemory rest → NotMemory (option_or first rest)
either None rest f r e = r e
either (Some fault) rest f r e = f e

begin_is : (stage : Stage) (modules : ℕ) → NotMemory (begin_fault stage modules)
begin_is Between modules = last_is _ TooManyModules (λ e. cc)
begin_is InDirectory modules = none_is
begin_is InBody modules = none_is

entering_is : (entered : List (Name × ℕ)) (sections : List Name) (name : Name) → NotMemory (entering_fault entered sections name)
entering_is entered sections name =
    one_is (is_some (lookup (is_same_name name) entered)) BadOrder ((is_past most_sections sections name, TooManySections) ∷ [])
    (λ e. cc) (last_is (is_past most_sections sections name) TooManySections (λ e. cc))

section_is : (entered : List (Name × ℕ)) (name : Name) → NotMemory (section_fault entered name)
section_is entered name = last_is _ UnknownSection (λ e. cc)

global_is : (globals : List Name) (name : Name) → NotMemory (global_fault globals name)
global_is globals name = last_is _ TooManyGlobals (λ e. cc)

symbol_is : (entry : GsdEntry) (entered : List (Name × ℕ)) (globals : List Name) → NotMemory (symbol_fault entry entered globals)
symbol_is entry entered globals = either _ _ (last_is _ BadOrder (λ e. cc)) (global_is globals entry.name)

entry_is : (kind : GsdKind) (entry : GsdEntry) (entered : List (Name × ℕ)) (sections globals : List Name)
    → NotMemory (entry_fault kind entry entered sections globals)
entry_is ControlSection entry entered sections globals = entering_is entered sections entry.name
entry_is ProgramSection entry entered sections globals = entering_is entered sections entry.name
entry_is TransferAddress entry entered sections globals = section_is entered entry.name
entry_is GlobalSymbol entry entered sections globals = symbol_is entry entered globals
entry_is kind entry entered sections globals = none_is

location_is : (relocation : Relocation) (text : Option ℕ) → NotMemory (location_fault relocation text)
location_is relocation None e = cc
location_is relocation (Some count) e = last_is _ BadDisplacement (λ n. cc) e

target_is : (stored : Target) (entered : List (Name × ℕ)) (globals : List Name) → NotMemory (target_fault stored entered globals)
target_is (target.Section name) entered globals = section_is entered name
target_is (target.SectionDisplaced name) entered globals = section_is entered name
target_is (target.SectionAdditive name constant) entered globals = section_is entered name
target_is (target.SectionAdditiveDisplaced name constant) entered globals = section_is entered name
target_is (target.Global name) entered globals = global_is globals name
target_is (target.GlobalDisplaced name) entered globals = global_is globals name
target_is (target.GlobalAdditive name constant) entered globals = global_is globals name
target_is (target.GlobalAdditiveDisplaced name constant) entered globals = global_is globals name
target_is other entered globals = none_is

relocation_is : (stored : Target) (relocation : Relocation) (entered : List (Name × ℕ)) (text : Option ℕ) (globals : List Name)
    → NotMemory (relocation_by stored relocation entered text globals)
relocation_is (target.LocationCounterDefinition name constant) relocation entered text globals = section_is entered name
relocation_is (target.LocationCounterModification constant) relocation entered text globals = none_is
relocation_is other relocation entered text globals =
    either _ _ (location_is relocation text) (target_is other entered globals)

in_order_is : (known : RulesState) (part : Part) → NotMemory (fault_in_order known part)
in_order_is known Directory = begin_is known.stage known.modules
in_order_is known EndOfDirectory = begin_is known.stage known.modules
in_order_is known (Entry entry) = entry_is entry.kind entry known.entered known.sections known.globals
in_order_is known (Text address bytes) = last_is _ TextOutside (λ e. cc)
in_order_is known (Relocated relocation) = relocation_is relocation.target relocation known.entered known.text known.globals
in_order_is known part = none_is

chosen_is : (stands : Bool) (known : RulesState) (part : Part)
    → NotMemory (if stands then fault_in_order known part else Some BadOrder)
chosen_is true known part e = in_order_is known part e
chosen_is false known part e = cc

pub no_memory : (known : RulesState) (part : Part) → fault_known known part ≡ Some NoMemory → ⊥
unfolding fault_known
no_memory known part e = chosen_is (may_occur part known.stage) known part e
