-- The rule for the order of parts is equivalent to the grammar of modules and files.
use Rattle.std.proofs.Common.{◌≡◌, Bool, true, false, List, [], ◌∷◌, ◌++◌, map, refl, sym, subst}
use Rattle.std.specs.List.{flat_map}
use Rattle.std.proofs.lemmas.List.{append_assoc}
use Rattle.m11_obj.specs.declared.gsd.GsdEntry.{GsdEntry}
use Rattle.m11_obj.specs.declared.relocations.Relocation.{Relocation}
use Rattle.m11_obj.specs.Records as records
use Rattle.m11_link_modules.specs.declared.stage.Stage.{Stage}
use Rattle.m11_link_modules.specs.declared.stage.Stage.TheVariants.{Between, InDirectory, InBody}
use Rattle.m11_link_modules.specs.Grammar.{BodyRecord, TextRecord, RelocationRecord, Module, directory_parts, body_parts, module_parts, file_parts, files_parts, Item, RecordOf, FileEnds, items_parts}
use Rattle.m11_link_modules.specs.Laws.{AreFiles, AreInOrder}
use Rattle.m11_link_modules.specs.Parts.{Part, Directory, Entry, EndOfDirectory, Text, Relocations, Relocated, EndOfModule, EndOfFile}
use Rattle.m11_link_modules.specs.Positions.{stage_from, stage_after}
use Rattle.m11_link_modules.specs.Rules.{may_occur}

-- each of these parts comes where it may, and they lead from the first stage to the last
abbrev pub Leads : Stage → List Part → Stage → Type 0
Leads stage [] last = stage ≡ last
Leads stage (part ∷ parts) last = (may_occur part stage ≡ true) × Leads (stage_from stage (part ∷ [])) parts last

stage_step : (stage : Stage) (part : Part) (parts : List Part)
    → stage_from (stage_from stage (part ∷ [])) parts ≡ stage_from stage (part ∷ parts)
stage_step stage Directory parts = refl
stage_step stage (Entry entry) parts = refl
stage_step stage EndOfDirectory parts = refl
stage_step stage (Text address bytes) parts = refl
stage_step stage Relocations parts = refl
stage_step stage (Relocated relocation) parts = refl
stage_step stage EndOfModule parts = refl
stage_step stage EndOfFile parts = refl

-- ---- each part comes where it may

leads_there : (stage last : Stage) (before : List Part) (part : Part) (following : List Part)
    → Leads stage (before ++ part ∷ following) last → may_occur part (stage_from stage before) ≡ true
leads_there stage last [] part following h = h.0
leads_there stage last (first ∷ before) part following h =
    let P : Stage → Type 0 = λ s. may_occur part s ≡ true in
    subst P (stage_step stage first before) (leads_there (stage_from stage (first ∷ [])) last before part following h.1)

in_order : (parts : List Part) → Leads Between parts Between → AreInOrder parts
unfolding stage_after
in_order parts h before part following e =
    let P : List Part → Type 0 = λ all. Leads Between all Between in leads_there Between Between before part following (subst P e h)

leads_to : (stage last : Stage) (parts : List Part) → Leads stage parts last → stage_from stage parts ≡ last
leads_to stage last [] h = h
leads_to stage last (part ∷ parts) h =
    let P : Stage → Type 0 = λ s. s ≡ last in
    subst P (stage_step stage part parts) (leads_to (stage_from stage (part ∷ [])) last parts h.1)

abbrev IsOrderedFrom : Stage → List Part → Type 0
IsOrderedFrom stage parts = (before : List Part) (part : Part) (following : List Part) → parts ≡ before ++ part ∷ following
    → may_occur part (stage_from stage before) ≡ true

after_first : (stage : Stage) (first : Part) (parts : List Part) → IsOrderedFrom stage (first ∷ parts)
    → IsOrderedFrom (stage_from stage (first ∷ [])) parts
after_first stage first parts h before part following e =
    let P : Stage → Type 0 = λ s. may_occur part s ≡ true in
    let Q : List Part → Type 0 = λ all. first ∷ parts ≡ first ∷ all in
    subst P (sym (stage_step stage first before)) (h (first ∷ before) part following (subst Q e refl))

ordered_leads : (stage : Stage) (parts : List Part) → IsOrderedFrom stage parts → Leads stage parts (stage_from stage parts)
ordered_leads stage [] h = refl
ordered_leads stage (part ∷ parts) h =
    let P : Stage → Type 0 = λ s. Leads (stage_from stage (part ∷ [])) parts s in
    (h [] part parts refl, subst P (stage_step stage part parts) (ordered_leads (stage_from stage (part ∷ [])) parts (after_first stage part parts h)))

-- ---- files are in order

entries_lead : (stage last : Stage) (entries : List GsdEntry) (rest : List Part) → Leads stage rest last
    → Leads stage (map (λ entry. Entry entry) entries ++ rest) last
entries_lead stage last [] rest h = h
entries_lead stage last (entry ∷ entries) rest h = (refl, entries_lead stage last entries rest h)

relocations_lead : (stage last : Stage) (relocations : List Relocation) (rest : List Part) → Leads stage rest last
    → Leads stage (map (λ relocation. Relocated relocation) relocations ++ rest) last
relocations_lead stage last [] rest h = h
relocations_lead stage last (relocation ∷ relocations) rest h = (refl, relocations_lead stage last relocations rest h)

directory_leads : (last : Stage) (directory : List (List GsdEntry)) (rest : List Part) → Leads InDirectory rest last
    → Leads InDirectory (flat_map directory_parts directory ++ rest) last
directory_leads last [] rest h = h
directory_leads last (entries ∷ directory) rest h =
    let P : List Part → Type 0 = λ parts. Leads InDirectory parts last in
    subst P (sym (append_assoc (directory_parts entries) (flat_map directory_parts directory) rest))
    (refl, entries_lead InDirectory last entries (flat_map directory_parts directory ++ rest) (directory_leads last directory rest h))

module_begins : (last : Stage) (directory : List (List GsdEntry)) (rest : List Part)
    → Leads InBody rest last → Leads Between (flat_map directory_parts directory ++ EndOfDirectory ∷ rest) last
module_begins last [] rest h = (refl, h)
module_begins last (entries ∷ directory) rest h =
    let P : List Part → Type 0 = λ parts. Leads Between parts last in
    subst P (sym (append_assoc (directory_parts entries) (flat_map directory_parts directory) (EndOfDirectory ∷ rest)))
    (refl, entries_lead InDirectory last entries (flat_map directory_parts directory ++ EndOfDirectory ∷ rest) (directory_leads last directory (EndOfDirectory ∷ rest) (refl, h)))

body_leads : (last : Stage) (body : List BodyRecord) (rest : List Part) → Leads InBody rest last
    → Leads InBody (flat_map body_parts body ++ rest) last
body_leads last [] rest h = h
body_leads last (TextRecord address bytes ∷ body) rest h = (refl, body_leads last body rest h)
body_leads last (RelocationRecord relocations ∷ body) rest h =
    let P : List Part → Type 0 = λ parts. Leads InBody parts last in
    subst P (sym (append_assoc (body_parts (RelocationRecord relocations)) (flat_map body_parts body) rest))
    (refl, relocations_lead InBody last relocations (flat_map body_parts body ++ rest) (body_leads last body rest h))

-- in the parts of a module and of what follows it, the end of the module comes right after its body
module_then : (directory : List (List GsdEntry)) (body : List BodyRecord) (rest : List Part)
    → (flat_map directory_parts directory ++ EndOfDirectory ∷ flat_map body_parts body ++ EndOfModule ∷ []) ++ rest
    ≡ flat_map directory_parts directory ++ EndOfDirectory ∷ (flat_map body_parts body ++ EndOfModule ∷ rest)
module_then directory body rest =
    rw (append_assoc (flat_map directory_parts directory ++ EndOfDirectory ∷ flat_map body_parts body) (EndOfModule ∷ []) rest, append_assoc (flat_map directory_parts directory) (EndOfDirectory ∷ flat_map body_parts body) (EndOfModule ∷ rest))

module_leads : (last : Stage) (m : Module) (rest : List Part) → Leads Between rest last → Leads Between (module_parts m ++ rest) last
module_leads last m rest h =
    let P : List Part → Type 0 = λ parts. Leads Between parts last in
    subst P (sym (module_then m.directory m.body rest))
    (module_begins last m.directory (flat_map body_parts m.body ++ EndOfModule ∷ rest) (body_leads last m.body (EndOfModule ∷ rest) (refl, h)))

modules_lead : (last : Stage) (modules : List Module) (rest : List Part) → Leads Between rest last
    → Leads Between (flat_map module_parts modules ++ rest) last
modules_lead last [] rest h = h
modules_lead last (m ∷ modules) rest h =
    let P : List Part → Type 0 = λ parts. Leads Between parts last in
    subst P (sym (append_assoc (module_parts m) (flat_map module_parts modules) rest))
    (module_leads last m (flat_map module_parts modules ++ rest) (modules_lead last modules rest h))

-- the parts of a file and of what follows it are those of its modules, its end, and what follows it
file_then : (modules : List Module) (rest : List Part) → file_parts modules ++ rest ≡ flat_map module_parts modules ++ EndOfFile ∷ rest
file_then modules rest = append_assoc (flat_map module_parts modules) (EndOfFile ∷ []) rest

files_lead : (files : List (List Module)) → Leads Between (files_parts files) Between
files_lead [] = refl
files_lead (modules ∷ files) =
    let P : List Part → Type 0 = λ parts. Leads Between parts Between in
    subst P (sym (file_then modules (files_parts files)))
    (modules_lead Between modules (EndOfFile ∷ files_parts files) (refl, files_lead files))

pub files_in_order : (files : List (List Module)) → AreInOrder (files_parts files)
files_in_order files = in_order (files_parts files) (files_lead files)

pub files_closed : (files : List (List Module)) → stage_after (files_parts files) ≡ Between
unfolding stage_after
files_closed files = leads_to Between Between (files_parts files) (files_lead files)

-- ---- parts in order are those of files

past_entries : (stage last : Stage) (entries : List GsdEntry) (rest : List Part)
    → Leads stage (map (λ entry. Entry entry) entries ++ rest) last → Leads stage rest last
past_entries stage last [] rest h = h
past_entries stage last (entry ∷ entries) rest h = past_entries stage last entries rest h.1

past_relocations : (stage last : Stage) (relocations : List Relocation) (rest : List Part)
    → Leads stage (map (λ relocation. Relocated relocation) relocations ++ rest) last → Leads stage rest last
past_relocations stage last [] rest h = h
past_relocations stage last (relocation ∷ relocations) rest h = past_relocations stage last relocations rest h.1

abbrev WhereTrue : Type 0 → Bool → Type 0
WhereTrue X true = X
WhereTrue X false = Unit {0}

refuted : {X : Type 0} → false ≡ true → X
refuted {X} e = subst (WhereTrue X) e tt

-- the parts of modules, of the end of their file, and of the files after it
abbrev files_from : List Module → List (List Module) → List Part
files_from modules files = flat_map module_parts modules ++ EndOfFile ∷ files_parts files

abbrev body_from : List BodyRecord → List Module → List (List Module) → List Part
body_from body modules files = flat_map body_parts body ++ EndOfModule ∷ files_from modules files

abbrev directory_from : List (List GsdEntry) → List BodyRecord → List Module → List (List Module) → List Part
directory_from directory body modules files = flat_map directory_parts directory ++ EndOfDirectory ∷ body_from body modules files

-- the parts of all items and of a last end of a file
abbrev all_parts : List Item → List Part
all_parts items = items_parts (items ++ FileEnds ∷ [])

record FoundFiles (parts : List Part) : Type 0 where
  modules : List Module
  files : List (List Module)
  is : parts ≡ files_from modules files

record FoundBody (parts : List Part) : Type 0 where
  body : List BodyRecord
  modules : List Module
  files : List (List Module)
  is : parts ≡ body_from body modules files

record FoundDirectory (parts : List Part) : Type 0 where
  directory : List (List GsdEntry)
  body : List BodyRecord
  modules : List Module
  files : List (List Module)
  is : parts ≡ directory_from directory body modules files

-- parts that begin in the directory of a module are those of the whole module, and of what follows it in its file
module_found : (directory : List (List GsdEntry)) (body : List BodyRecord) (modules : List Module) (files : List (List Module)) (parts : List Part)
    → parts ≡ directory_from directory body modules files → FoundFiles parts
module_found directory body modules files parts e = record {
  modules = record { directory = directory; body = body } ∷ modules;
  files = files;
  is = rw (e, append_assoc (module_parts (record { directory = directory; body = body })) (flat_map module_parts modules) (EndOfFile ∷ files_parts files), module_then directory body (files_from modules files));
}

file_found : (parts : List Part) → FoundFiles parts → FoundFiles (EndOfFile ∷ parts)
file_found parts f = record {
  modules = [];
  files = f.modules ∷ f.files;
  is = rw (f.is, file_then f.modules (files_parts f.files));
}

directory_more : (entries : List GsdEntry) (parts : List Part) → FoundDirectory parts → FoundDirectory (directory_parts entries ++ parts)
directory_more entries parts f = record {
  directory = entries ∷ f.directory;
  body = f.body;
  modules = f.modules;
  files = f.files;
  is = rw (f.is, append_assoc (directory_parts entries) (flat_map directory_parts f.directory) (EndOfDirectory ∷ body_from f.body f.modules f.files));
}

directory_ends : (parts : List Part) → FoundBody parts → FoundDirectory (EndOfDirectory ∷ parts)
directory_ends parts f = record {
  directory = [];
  body = f.body;
  modules = f.modules;
  files = f.files;
  is = rw f.is;
}

body_more : (r : BodyRecord) (parts : List Part) → FoundBody parts → FoundBody (body_parts r ++ parts)
body_more r parts f = record {
  body = r ∷ f.body;
  modules = f.modules;
  files = f.files;
  is = rw (f.is, append_assoc (body_parts r) (flat_map body_parts f.body) (EndOfModule ∷ files_from f.modules f.files));
}

body_ends : (parts : List Part) → FoundFiles parts → FoundBody (EndOfModule ∷ parts)
body_ends parts f = record {
  body = [];
  modules = f.modules;
  files = f.files;
  is = rw f.is;
}

opened : (parts : List Part) → FoundDirectory parts → FoundFiles parts
opened parts f = module_found f.directory f.body f.modules f.files parts f.is

mutual
  between : (last : Stage) (items : List Item) → Leads Between (all_parts items) last → FoundFiles (all_parts items)
  between last [] h = record { modules = []; files = []; is = refl }
  between last (FileEnds ∷ items) h = file_found (all_parts items) (between last items h.1)
  between last (RecordOf (records.Gsd entries) ∷ items) h =
      opened (directory_parts entries ++ all_parts items) (directory_more entries (all_parts items)
      (in_directory last items (past_entries InDirectory last entries (all_parts items) h.1)))
  between last (RecordOf records.EndOfGsd ∷ items) h =
      opened (EndOfDirectory ∷ all_parts items) (directory_ends (all_parts items) (in_body last items h.1))
  between last (RecordOf (records.Text address bytes) ∷ items) h = refuted h.0
  between last (RecordOf (records.Relocations relocations) ∷ items) h = refuted h.0
  between last (RecordOf records.InternalSymbols ∷ items) h = between last items h
  between last (RecordOf records.EndOfModule ∷ items) h = refuted h.0

  in_directory : (last : Stage) (items : List Item) → Leads InDirectory (all_parts items) last → FoundDirectory (all_parts items)
  in_directory last [] h = refuted h.0
  in_directory last (FileEnds ∷ items) h = refuted h.0
  in_directory last (RecordOf (records.Gsd entries) ∷ items) h =
      directory_more entries (all_parts items) (in_directory last items (past_entries InDirectory last entries (all_parts items) h.1))
  in_directory last (RecordOf records.EndOfGsd ∷ items) h = directory_ends (all_parts items) (in_body last items h.1)
  in_directory last (RecordOf (records.Text address bytes) ∷ items) h = refuted h.0
  in_directory last (RecordOf (records.Relocations relocations) ∷ items) h = refuted h.0
  in_directory last (RecordOf records.InternalSymbols ∷ items) h = in_directory last items h
  in_directory last (RecordOf records.EndOfModule ∷ items) h = refuted h.0

  in_body : (last : Stage) (items : List Item) → Leads InBody (all_parts items) last → FoundBody (all_parts items)
  in_body last [] h = refuted h.0
  in_body last (FileEnds ∷ items) h = refuted h.0
  in_body last (RecordOf (records.Gsd entries) ∷ items) h = refuted h.0
  in_body last (RecordOf records.EndOfGsd ∷ items) h = refuted h.0
  in_body last (RecordOf (records.Text address bytes) ∷ items) h =
      body_more (TextRecord address bytes) (all_parts items) (in_body last items h.1)
  in_body last (RecordOf (records.Relocations relocations) ∷ items) h =
      body_more (RelocationRecord relocations) (all_parts items)
      (in_body last items (past_relocations InBody last relocations (all_parts items) h.1))
  in_body last (RecordOf records.InternalSymbols ∷ items) h = in_body last items h
  in_body last (RecordOf records.EndOfModule ∷ items) h = body_ends (all_parts items) (between last items h.1)

found : (parts : List Part) → FoundFiles parts → AreFiles parts
found parts f = (f.modules ∷ f.files, rw (f.is, file_then f.modules (files_parts f.files)))

pub ordered_files : (items : List Item) → AreInOrder (items_parts (items ++ FileEnds ∷ [])) → AreFiles (items_parts (items ++ FileEnds ∷ []))
unfolding stage_after
ordered_files items h =
    found (all_parts items) (between (stage_from Between (all_parts items)) items (ordered_leads Between (all_parts items) h))
