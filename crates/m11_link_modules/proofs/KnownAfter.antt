-- The state known after one more part is the step for this part, applied to the state known before it.
use Rattle.std.proofs.Common.{◌≡◌, ℕ, ◌+◌, Bool, true, false, ◌||◌, if◌then◌else◌, List, [], ◌∷◌, ◌++◌, length, append-nil, Option, Some, None, Result, Ok, Err, refl, sym, subst, arith}
use Rattle.std.specs.List.{cons_option, filter_map, list_any}
use Rattle.std.specs.Map.{keys_of, lookup}
use Rattle.std.specs.Option.{option_or, is_some}
use Rattle.std.proofs.Math.Seq.{append_snoc}
use Rattle.std.proofs.lemmas.List.{map-append}
use Rattle.std.proofs.lemmas.List.Elements.{filter_map-append}
use Rattle.indexmap.specs.IndexMap.{insert_entry}
use Rattle.indexmap.specs.IndexSet.{insert_key}
use Rattle.indexmap.proofs.MapLemmas.{insert_entry-absent, absent_from_lookup}
use Rattle.m11_base.specs.Rad50.{is_same_name}
use Rattle.m11_base.specs.Names.{absolute_name}
use Rattle.m11_link_modules.specs.declared.stage.Stage.{Stage}
use Rattle.m11_link_modules.specs.declared.stage.Stage.TheVariants.{Between, InDirectory, InBody}
use Rattle.m11_link_modules.specs.Parts.{Part, Directory, Entry, EndOfDirectory, Text, Relocations, Relocated, EndOfModule, EndOfFile}
use Rattle.m11_obj.specs.declared.gsd.GsdEntry.{GsdEntry}
use Rattle.m11_obj.specs.declared.gsd.GsdKind.{GsdKind}
use Rattle.m11_obj.specs.declared.gsd.GsdKind.TheVariants.{ModuleName, ControlSection, InternalSymbol, TransferAddress, GlobalSymbol, ProgramSection, Identification}
use Rattle.m11_link_modules.specs.declared.fault.ModuleFault.{ModuleFault}
use Rattle.m11_link_modules.specs.declared.fault.ModuleFault.TheVariants.{BadOrder, NoText, BadDisplacement, UnknownSection, TextOutside, TooManyGlobals, TooManySections, TooManyModules, NoMemory}
use Rattle.m11_link_modules.specs.Rules.{first_there, entry_fault, is_past, most_sections, fault_known, fault_of, first_fault}
use Rattle.m11_link_modules.specs.Laws.{AcceptsAfter}
use Rattle.m11_link_modules.specs.Steps.{known_after, known_after_all, first_known_fault, RulesAccept, with_entry, with_end, with_optional_global}
use Rattle.m11_link_modules.specs.Positions.{global_of, section_by, global_by, this_module, ends_module, modules_in, stage_from, stage_after, section_in, sections_in, selected_by, section_after, current_section, length_after, text_length, distinct, distinct_after, global_in, global_names, section_names, RulesState, known_of}

-- ---- the parts of the module

or_true : (b : Bool) → (b || true) ≡ true
or_true true = refl
or_true false = refl

has_end : (parts : List Part) → list_any ends_module (parts ++ EndOfModule ∷ []) ≡ true
has_end [] = refl
has_end (part ∷ parts) =
    let P : Bool → Type 0 = λ b. (ends_module part || b) ≡ true in subst P (sym (has_end parts)) (or_true (ends_module part))

same_ends : (parts : List Part) (part : Part) → ends_module part ≡ false
    → list_any ends_module (parts ++ part ∷ []) ≡ list_any ends_module parts
same_ends [] part e = let P : Bool → Type 0 = λ b. (b || false) ≡ false in subst P (sym e) refl
same_ends (first ∷ parts) part e =
    let P : Bool → Type 0 = λ b. (ends_module first || b) ≡ (ends_module first || list_any ends_module parts) in
    subst P (sym (same_ends parts part e)) refl

chosen : (b : Bool) (there more : List Part) (first : Part) (parts : List Part) (part : Part) → more ≡ there ++ part ∷ []
    → (if b then more else first ∷ (parts ++ part ∷ [])) ≡ (if b then there else first ∷ parts) ++ part ∷ []
chosen true there more first parts part e = e
chosen false there more first parts part e = refl

pub this_module_ended : (parts : List Part) → this_module (parts ++ EndOfModule ∷ []) ≡ []
unfolding this_module
this_module_ended [] = refl
this_module_ended (part ∷ parts) =
    let P : Bool → Type 0 = λ b. (if b then this_module (parts ++ EndOfModule ∷ []) else part ∷ (parts ++ EndOfModule ∷ [])) ≡ [] in
    subst P (sym (has_end (part ∷ parts))) (this_module_ended parts)

pub this_module_goes_on : (parts : List Part) (part : Part) → ends_module part ≡ false
    → this_module (parts ++ part ∷ []) ≡ this_module parts ++ part ∷ []
unfolding this_module
this_module_goes_on [] part e =
    let P : Bool → Type 0 = λ b. (if b || false then [] else part ∷ []) ≡ part ∷ [] in subst P (sym e) refl
this_module_goes_on (first ∷ parts) part e =
    let P : Bool → Type 0 = λ b. (if b then this_module (parts ++ part ∷ []) else first ∷ (parts ++ part ∷ []))
    ≡ (if list_any ends_module (first ∷ parts) then this_module parts else first ∷ parts) ++ part ∷ [] in
    subst P (sym (same_ends (first ∷ parts) part e))
    (chosen (list_any ends_module (first ∷ parts)) (this_module parts) (this_module (parts ++ part ∷ [])) first parts part (this_module_goes_on parts part e))

-- ---- what is counted and selected

pub stage_append : (stage : Stage) (xs ys : List Part) → stage_from stage (xs ++ ys) ≡ stage_from (stage_from stage xs) ys
stage_append stage [] ys = refl
stage_append stage (Directory ∷ xs) ys = stage_append InDirectory xs ys
stage_append stage (EndOfDirectory ∷ xs) ys = stage_append InBody xs ys
stage_append stage (EndOfModule ∷ xs) ys = stage_append Between xs ys
stage_append stage (part ∷ xs) ys = stage_append stage xs ys

add_zero : (n : ℕ) → n + 0 ≡ n
add_zero n = omega arith

zero_add : (n : ℕ) → 0 + n ≡ n
zero_add n = omega arith

one_moved : (a b : ℕ) → a + b + 1 ≡ a + 1 + b
one_moved a b = omega arith

modules_append : (parts : List Part) (part : Part) → modules_in (parts ++ part ∷ []) ≡ modules_in parts + modules_in (part ∷ [])
unfolding modules_in
modules_append [] part = sym (zero_add (modules_in (part ∷ [])))
modules_append (Directory ∷ parts) part = modules_append parts part
modules_append (Entry entry ∷ parts) part = modules_append parts part
modules_append (EndOfDirectory ∷ parts) part = modules_append parts part
modules_append (Text address bytes ∷ parts) part = modules_append parts part
modules_append (Relocations ∷ parts) part = modules_append parts part
modules_append (Relocated relocation ∷ parts) part = modules_append parts part
modules_append (EndOfModule ∷ parts) part =
    let P : ℕ → Type 0 = λ n. n + 1 ≡ modules_in parts + 1 + modules_in (part ∷ []) in
    subst P (sym (modules_append parts part)) (one_moved (modules_in parts) (modules_in (part ∷ [])))
modules_append (EndOfFile ∷ parts) part = modules_append parts part

section_append : (section : ℕ × ℕ) (parts : List Part) (part : Part) → section_after section (parts ++ part ∷ []) ≡ section_after (section_after section parts) (part ∷ [])
section_append section [] part = refl
section_append section (Directory ∷ parts) part = section_append section parts part
section_append section (Entry entry ∷ parts) part = section_append section parts part
section_append section (EndOfDirectory ∷ parts) part = section_append section parts part
section_append section (Text address bytes ∷ parts) part = section_append section parts part
section_append section (Relocations ∷ parts) part = section_append section parts part
section_append section (Relocated relocation ∷ parts) part = section_append (selected_by section relocation.target) parts part
section_append section (EndOfModule ∷ parts) part = section_append section parts part
section_append section (EndOfFile ∷ parts) part = section_append section parts part

length_append : (before : Option ℕ) (parts : List Part) (part : Part) → length_after before (parts ++ part ∷ []) ≡ length_after (length_after before parts) (part ∷ [])
length_append before [] part = refl
length_append before (Directory ∷ parts) part = length_append before parts part
length_append before (Entry entry ∷ parts) part = length_append before parts part
length_append before (EndOfDirectory ∷ parts) part = length_append before parts part
length_append before (Text address bytes ∷ parts) part = length_append (Some (length bytes)) parts part
length_append before (Relocations ∷ parts) part = length_append before parts part
length_append before (Relocated relocation ∷ parts) part = length_append before parts part
length_append before (EndOfModule ∷ parts) part = length_append before parts part
length_append before (EndOfFile ∷ parts) part = length_append before parts part

-- ---- names

distinct_append : (seen names more : List (ℕ × ℕ)) → distinct_after seen (names ++ more) ≡ distinct_after (distinct_after seen names) more
distinct_append seen [] more = refl
distinct_append seen (name ∷ names) more = distinct_append (insert_key is_same_name seen name) names more

globals_append : (parts : List Part) (part : Part)
    → global_names (parts ++ part ∷ []) ≡ distinct_after (global_names parts) (filter_map global_in (part ∷ []))
unfolding global_names distinct
globals_append parts part =
    let P : List (ℕ × ℕ) → Type 0 = λ names. distinct_after [] names ≡ distinct_after (distinct_after [] (filter_map global_in parts)) (filter_map global_in (part ∷ [])) in
    subst P (sym (filter_map-append global_in parts (part ∷ []))) (distinct_append [] (filter_map global_in parts) (filter_map global_in (part ∷ [])))

sections_append : (parts : List Part) (part : Part) → sections_in (parts ++ part ∷ []) ≡ sections_in parts ++ sections_in (part ∷ [])
unfolding sections_in
sections_append parts part = filter_map-append section_in parts (part ∷ [])

section_names_append : (parts : List Part) (part : Part)
    → section_names (parts ++ part ∷ []) ≡ distinct_after (section_names parts) (keys_of (sections_in (part ∷ [])))
unfolding section_names distinct
section_names_append parts part =
    let P : List ((ℕ × ℕ) × ℕ) → Type 0 = λ entered. distinct_after [] (keys_of entered) ≡ distinct_after (distinct_after [] (keys_of (sections_in parts))) (keys_of (sections_in (part ∷ []))) in
    let Q : List (ℕ × ℕ) → Type 0 = λ names. distinct_after [] names ≡ distinct_after (distinct_after [] (keys_of (sections_in parts))) (keys_of (sections_in (part ∷ []))) in
    subst P (sym (sections_append parts part))
    (subst Q (sym (map-append (λ e. e.0) (sections_in parts) (sections_in (part ∷ []))))
    (distinct_append [] (keys_of (sections_in parts)) (keys_of (sections_in (part ∷ [])))))

-- ---- all that is known

none_there : {X : Type 0} (found : Option X) (faults : List (Bool × ModuleFault)) → first_there ((is_some found, BadOrder) ∷ faults) ≡ None → found ≡ None
none_there None faults e = refl
none_there (Some x) faults e = search

-- the state after a part that ends no module
abbrev going_on : RulesState → Part → RulesState
going_on known part = record {
  stage = stage_from known.stage (part ∷ []);
  modules = known.modules + modules_in (part ∷ []);
  sections = distinct_after known.sections (keys_of (filter_map section_in (part ∷ [])));
  globals = distinct_after known.globals (filter_map global_in (part ∷ []));
  entered = known.entered ++ filter_map section_in (part ∷ []);
  section = section_after known.section (part ∷ []);
  text = length_after known.text (part ∷ []);
}

known_goes_on : (before : List Part) (part : Part) → ends_module part ≡ false
    → known_of (before ++ part ∷ []) ≡ going_on (known_of before) part
unfolding known_of stage_after current_section text_length sections_in
known_goes_on before part e =
    rw (stage_append Between before (part ∷ []), modules_append before part, section_names_append before part, globals_append before part, this_module_goes_on before part e, sections_append (this_module before) part, section_append absolute_name (this_module before) part, length_append None (this_module before) part)

-- the state with these fields
abbrev with_parts : RulesState → Stage → List (ℕ × ℕ) → List (ℕ × ℕ) → ℕ × ℕ → Option ℕ → ℕ → List ((ℕ × ℕ) × ℕ) → RulesState
with_parts known stage sections globals section text modules entered = record {
  stage = stage;
  modules = modules;
  sections = sections;
  globals = globals;
  entered = entered;
  section = section;
  text = text;
}

enters_none : (known : RulesState) (stage : Stage) (sections globals : List (ℕ × ℕ)) (section : ℕ × ℕ) (text : Option ℕ)
    → with_parts known stage sections globals section text (known.modules + 0) (known.entered ++ [])
    ≡ with_parts known stage sections globals section text known.modules known.entered
enters_none known stage sections globals section text = rw (add_zero known.modules, append-nil known.entered)

-- if entering a section has no fault, it is inserted after the sections that the module entered before
enters : (known : RulesState) (entry : GsdEntry) → first_there ((is_some (lookup (is_same_name entry.name) known.entered), BadOrder) ∷ (is_past most_sections known.sections entry.name, TooManySections) ∷ []) ≡ None
    → known.entered ++ (entry.name, entry.value) ∷ [] ≡ insert_entry is_same_name known.entered entry.name entry.value
enters known entry e = sym (insert_entry-absent is_same_name entry.name entry.value known.entered
    (absent_from_lookup (is_same_name entry.name) known.entered (none_there (lookup (is_same_name entry.name) known.entered) ((is_past most_sections known.sections entry.name, TooManySections) ∷ []) e)))

entry_after : (kind : GsdKind) (entry : GsdEntry) (known : RulesState) → entry_fault kind entry known.entered known.sections known.globals ≡ None
    → with_parts known known.stage (distinct_after known.sections (keys_of (cons_option (section_by kind entry) [])))
    (distinct_after known.globals (cons_option (global_by kind entry) [])) known.section known.text
    (known.modules + 0) (known.entered ++ cons_option (section_by kind entry) [])
    ≡ with_entry kind entry known
entry_after ControlSection entry known e = rw (enters known entry e, add_zero known.modules)
entry_after ProgramSection entry known e = rw (enters known entry e, add_zero known.modules)
entry_after ModuleName entry known e = enters_none known known.stage known.sections known.globals known.section known.text
entry_after InternalSymbol entry known e = enters_none known known.stage known.sections known.globals known.section known.text
entry_after TransferAddress entry known e = enters_none known known.stage known.sections known.globals known.section known.text
entry_after GlobalSymbol entry known e =
    enters_none known known.stage known.sections (insert_key is_same_name known.globals entry.name) known.section known.text
entry_after Identification entry known e = enters_none known known.stage known.sections known.globals known.section known.text

target_after : (global : Option (ℕ × ℕ)) (section : ℕ × ℕ) (known : RulesState)
    → with_parts known known.stage known.sections (distinct_after known.globals (cons_option global [])) section known.text
    (known.modules + 0) (known.entered ++ [])
    ≡ with_optional_global global (record known { section = section })
target_after None section known = enters_none known known.stage known.sections known.globals section known.text
target_after (Some name) section known =
    enters_none known known.stage known.sections (insert_key is_same_name known.globals name) section known.text

part_after : (known : RulesState) (part : Part) → ends_module part ≡ false → fault_known known part ≡ None → going_on known part ≡ known_after known part
unfolding known_after modules_in fault_known
part_after known Directory e n = enters_none known InDirectory known.sections known.globals known.section known.text
part_after known (Entry entry) e n = entry_after entry.kind entry known n
part_after known EndOfDirectory e n = enters_none known InBody known.sections known.globals known.section known.text
part_after known (Text address bytes) e n =
    enters_none known known.stage known.sections known.globals known.section (Some (length bytes))
part_after known Relocations e n = enters_none known known.stage known.sections known.globals known.section known.text
part_after known (Relocated relocation) e n =
    target_after (global_of relocation.target) (selected_by known.section relocation.target) known
part_after known EndOfModule e n = search
part_after known EndOfFile e n = enters_none known known.stage known.sections known.globals known.section known.text

module_ended : (before : List Part) → known_of (before ++ EndOfModule ∷ []) ≡ with_end (known_of before)
unfolding known_of stage_after current_section text_length sections_in modules_in
module_ended before =
    rw (stage_append Between before (EndOfModule ∷ []), modules_append before EndOfModule, section_names_append before EndOfModule, globals_append before EndOfModule, this_module_ended before)

goes : (before : List Part) (part : Part) → ends_module part ≡ false → fault_of before part ≡ None
    → known_of (before ++ part ∷ []) ≡ known_after (known_of before) part
goes before part e n =
    let P : RulesState → Type 0 = λ known. known_of (before ++ part ∷ []) ≡ known in
    subst P (part_after (known_of before) part e n) (known_goes_on before part e)

pub known_after_part : (before : List Part) (part : Part) → fault_of before part ≡ None
    → known_of (before ++ part ∷ []) ≡ known_after (known_of before) part
unfolding known_after
known_after_part before Directory n = goes before Directory refl n
known_after_part before (Entry entry) n = goes before (Entry entry) refl n
known_after_part before EndOfDirectory n = goes before EndOfDirectory refl n
known_after_part before (Text address bytes) n = goes before (Text address bytes) refl n
known_after_part before Relocations n = goes before Relocations refl n
known_after_part before (Relocated relocation) n = goes before (Relocated relocation) refl n
known_after_part before EndOfModule n = module_ended before
known_after_part before EndOfFile n = goes before EndOfFile refl n

-- ---- several parts

head_fault : (fault : Option ModuleFault) (before : List Part) (part : Part) (parts : List Part) → fault_of before part ≡ fault
    → first_fault (before ++ part ∷ []) parts ≡ first_known_fault (known_of (before ++ part ∷ [])) parts
    → option_or (fault_of before part) (first_fault (before ++ part ∷ []) parts)
    ≡ option_or (fault_of before part) (first_known_fault (known_after (known_of before) part) parts)
head_fault (Some fault) before part parts e h =
    let P : Option ModuleFault → Type 0 = λ f. option_or f (first_fault (before ++ part ∷ []) parts)
    ≡ option_or f (first_known_fault (known_after (known_of before) part) parts) in
    subst P (sym e) refl
head_fault None before part parts e h =
    let P : RulesState → Type 0 = λ known. option_or (fault_of before part) (first_fault (before ++ part ∷ []) parts)
    ≡ option_or (fault_of before part) (first_known_fault known parts) in
    let Q : Option ModuleFault → Type 0 = λ f. option_or (fault_of before part) (first_fault (before ++ part ∷ []) parts)
    ≡ option_or (fault_of before part) f in
    subst P (known_after_part before part e) (subst Q h refl)

-- the first fault of parts is the one that is found from the state known before each of them
pub faults_known : (before parts : List Part) → first_fault before parts ≡ first_known_fault (known_of before) parts
unfolding first_fault
faults_known before [] = refl
faults_known before (part ∷ parts) =
    head_fault (fault_of before part) before part parts refl (faults_known (before ++ part ∷ []) parts)

head_none : (first rest : Option ModuleFault) → option_or first rest ≡ None → first ≡ None
head_none None rest e = refl
head_none (Some fault) rest e = search

rest_none : (first rest : Option ModuleFault) → option_or first rest ≡ None → rest ≡ None
rest_none None rest e = e
rest_none (Some fault) rest e = search

-- the state known after parts without a fault is the state after the steps for them
pub known_after_parts : (before parts : List Part) → first_known_fault (known_of before) parts ≡ None
    → known_of (before ++ parts) ≡ known_after_all (known_of before) parts
known_after_parts before [] n = rw (append-nil before)
known_after_parts before (part ∷ parts) n =
    let first = head_none (fault_of before part) (first_known_fault (known_after (known_of before) part) parts) n in
    let rest = rest_none (fault_of before part) (first_known_fault (known_after (known_of before) part) parts) n in
    let P : RulesState → Type 0 = λ known. first_known_fault known parts ≡ None in
    let Q : RulesState → Type 0 = λ known. known_of ((before ++ part ∷ []) ++ parts) ≡ known_after_all known parts in
    let R : List Part → Type 0 = λ all. known_of all ≡ known_after_all (known_after (known_of before) part) parts in
    subst R (append_snoc before part parts)
    (subst Q (known_after_part before part first) (known_after_parts (before ++ part ∷ []) parts (subst P (sym (known_after_part before part first)) rest)))

fault_after : (before : List Part) (old : RulesState) (parts : List Part) (fault : Option ModuleFault) → old ≡ known_of before
    → first_known_fault old parts ≡ fault → first_fault before parts ≡ fault
fault_after before old parts fault is h =
    let P : RulesState → Type 0 = λ known. first_known_fault known parts ≡ fault in
    let Q : Option ModuleFault → Type 0 = λ f. f ≡ fault in
    subst Q (sym (faults_known before parts)) (subst P is h)

all_after : (before : List Part) (old new : RulesState) (parts : List Part) → old ≡ known_of before
    → first_known_fault old parts ≡ None → new ≡ known_after_all old parts → new ≡ known_of (before ++ parts)
all_after before old new parts is h e =
    let P : RulesState → Type 0 = λ known. first_known_fault known parts ≡ None in
    let Q : RulesState → Type 0 = λ known. new ≡ known_after_all known parts in
    let R : RulesState → Type 0 = λ known. new ≡ known in
    subst R (sym (known_after_parts before parts (subst P is h))) (subst Q is e)

-- parts that are accepted from the state known after earlier parts are accepted after these
pub accepted_after : (before : List Part) (old new : RulesState) (parts : List Part) (result : Result (Unit {0}) ModuleFault)
    → old ≡ known_of before → RulesAccept old new parts result → AcceptsAfter before new parts result
unfolding RulesAccept
accepted_after before old new parts (Ok done) is h =
    (fault_after before old parts None is h.0, all_after before old new parts is h.0 h.1)
accepted_after before old new parts (Err NoMemory) is h = record {
  taken = h.taken;
  part = h.part;
  left = h.left;
  split = h.split;
  sound = fault_after before old (h.taken ++ h.part ∷ []) None is h.sound;
  adds = h.adds;
}
accepted_after before old new parts (Err BadOrder) is h = fault_after before old parts (Some BadOrder) is h
accepted_after before old new parts (Err NoText) is h = fault_after before old parts (Some NoText) is h
accepted_after before old new parts (Err BadDisplacement) is h = fault_after before old parts (Some BadDisplacement) is h
accepted_after before old new parts (Err UnknownSection) is h = fault_after before old parts (Some UnknownSection) is h
accepted_after before old new parts (Err TextOutside) is h = fault_after before old parts (Some TextOutside) is h
accepted_after before old new parts (Err TooManyGlobals) is h = fault_after before old parts (Some TooManyGlobals) is h
accepted_after before old new parts (Err TooManySections) is h = fault_after before old parts (Some TooManySections) is h
accepted_after before old new parts (Err TooManyModules) is h = fault_after before old parts (Some TooManyModules) is h
