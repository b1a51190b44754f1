-- The writes of parts, one after another with the pending text, are the writes of all parts together.
use Rattle.std.proofs.Common.{◌≡◌, ℕ, Bool, true, false, if◌then◌else◌, List, [], ◌∷◌, ◌++◌, map, append_assoc, append-nil, Option, Some, None, refl, sym, ap, ap₂, ◌∙◌}
use Rattle.std.specs.List.{cons_option}
use Rattle.std.specs.Map.{keys_of}
use Rattle.std.proofs.Math.Seq.{append_snoc}
use Rattle.m11_obj.specs.Records as records
use Rattle.m11_obj.specs.declared.gsd.GsdEntry.{GsdEntry}
use Rattle.m11_obj.specs.declared.gsd.GsdKind.{GsdKind}
use Rattle.m11_obj.specs.declared.gsd.GsdKind.TheVariants as kind
use Rattle.m11_obj.specs.declared.relocations.Relocation.{Relocation}
use Rattle.m11_link_modules.specs.Parts.{Part, Directory, Entry, EndOfDirectory, Text, Relocations, Relocated, EndOfModule, EndOfFile, parts_of}
use Rattle.m11_link_modules.specs.Positions.{current_section, distinct, modules_in, this_module}
use Rattle.m11_link_modules.specs.Rules.{defines}
use Rattle.m11_link_layout.proofs.ModulesOfParts.{add_zero, modules_more}
use Rattle.m11_link_layout.proofs.Reporting.{names_more, reported_more}
use Rattle.m11_link_layout.specs.Globals.{definition_by, definition_in, definitions_of, last_section, location_of}
use Rattle.m11_link_layout.specs.declared.definition.Definition.{Definition}
use Rattle.m11_link.specs.Emit.{defined_by, defined_if, defined_with, defined_with_all, entries_writes, held_at, held_after, held_text, held_with, held_with_all, held_writes}
use Rattle.m11_link_text.specs.Findings.{Findings}
use Rattle.m11_base_writes.specs.Outputs.{Write}
use Rattle.m11_link.specs.Written.{PlacedText, defined_names, ended_writes, entry_writes, parts_writes, placed_text, writes_at, writes_after}

-- ---- part by part

-- the writes at a part, given the pending text before it, if there is one
abbrev pub reported_at : Findings → List Part → Option PlacedText → Part → List Write
reported_at found before held Relocations = []
reported_at found before held (Relocated relocation) = []
reported_at found before held (Entry entry) =
    held_writes held ++ entry_writes found (modules_in before) (defined_names before) entry
reported_at found before held part = held_writes held

abbrev pub reported_all : Findings → List Part → Option PlacedText → List Part → List Write
reported_all found before held [] = []
reported_all found before held (part ∷ parts) =
    reported_at found before held part ++ reported_all found (before ++ part ∷ []) (held_at found before held part) parts

-- the write of a pending text if these parts end it
abbrev left_open : Findings → Option PlacedText → List Part → List Write
left_open found None parts = []
left_open found (Some text) parts = ended_writes found text parts

all_reported : (found : Findings) (before : List Part) (held : Option PlacedText) (parts : List Part)
    → reported_all found before held parts ≡ left_open found held parts ++ writes_after found before parts
unfolding writes_at
all_reported found before None [] = refl
all_reported found before (Some text) [] = refl
all_reported found before None (Text address bytes ∷ parts) = all_reported found (before ++ Text address bytes ∷ [])
    (Some (placed_text found (modules_in before) (current_section (this_module before)) address bytes)) parts
all_reported found before (Some text) (Text address bytes ∷ parts) = ap (λ ws. held_writes (Some text) ++ ws)
    (all_reported found (before ++ Text address bytes ∷ [])
    (Some (placed_text found (modules_in before) (current_section (this_module before)) address bytes)) parts)
all_reported found before None (Relocations ∷ parts) = all_reported found (before ++ Relocations ∷ []) None parts
all_reported found before (Some text) (Relocations ∷ parts) = all_reported found (before ++ Relocations ∷ []) (Some text) parts
all_reported found before None (Relocated relocation ∷ parts) = all_reported found (before ++ Relocated relocation ∷ []) None parts
all_reported found before (Some text) (Relocated relocation ∷ parts) =
    all_reported found (before ++ Relocated relocation ∷ []) (held_with found (Some text) relocation) parts
all_reported found before None (Entry entry ∷ parts) =
    ap (λ ws. entry_writes found (modules_in before) (defined_names before) entry ++ ws)
    (all_reported found (before ++ Entry entry ∷ []) None parts)
all_reported found before (Some text) (Entry entry ∷ parts) =
    append_assoc (held_writes (Some text)) (entry_writes found (modules_in before) (defined_names before) entry) _
    ∙ ap (λ ws. held_writes (Some text) ++ (entry_writes found (modules_in before) (defined_names before) entry ++ ws))
    (all_reported found (before ++ Entry entry ∷ []) None parts)
all_reported found before None (Directory ∷ parts) = all_reported found (before ++ Directory ∷ []) None parts
all_reported found before (Some text) (Directory ∷ parts) =
    ap (λ ws. held_writes (Some text) ++ ws) (all_reported found (before ++ Directory ∷ []) None parts)
all_reported found before None (EndOfDirectory ∷ parts) = all_reported found (before ++ EndOfDirectory ∷ []) None parts
all_reported found before (Some text) (EndOfDirectory ∷ parts) =
    ap (λ ws. held_writes (Some text) ++ ws) (all_reported found (before ++ EndOfDirectory ∷ []) None parts)
all_reported found before None (EndOfModule ∷ parts) = all_reported found (before ++ EndOfModule ∷ []) None parts
all_reported found before (Some text) (EndOfModule ∷ parts) =
    ap (λ ws. held_writes (Some text) ++ ws) (all_reported found (before ++ EndOfModule ∷ []) None parts)
all_reported found before None (EndOfFile ∷ parts) = all_reported found (before ++ EndOfFile ∷ []) None parts
all_reported found before (Some text) (EndOfFile ∷ parts) =
    ap (λ ws. held_writes (Some text) ++ ws) (all_reported found (before ++ EndOfFile ∷ []) None parts)

reported_append : (found : Findings) (before : List Part) (held : Option PlacedText) (xs ys : List Part)
    → reported_all found before held (xs ++ ys)
    ≡ reported_all found before held xs ++ reported_all found (before ++ xs) (held_after found before held xs) ys
reported_append found before held [] ys = ap (λ all. reported_all found all held ys) (sym (append-nil before))
reported_append found before held (x ∷ xs) ys =
    ap (λ ws. reported_at found before held x ++ ws)
    (reported_append found (before ++ x ∷ []) (held_at found before held x) xs ys
    ∙ ap (λ all. reported_all found (before ++ x ∷ []) (held_at found before held x) xs
    ++ reported_all found all (held_after found before held (x ∷ xs)) ys) (append_snoc before x xs))
    ∙ sym (append_assoc (reported_at found before held x)
    (reported_all found (before ++ x ∷ []) (held_at found before held x) xs) _)

held_append : (found : Findings) (before : List Part) (held : Option PlacedText) (xs ys : List Part)
    → held_after found before held (xs ++ ys) ≡ held_after found (before ++ xs) (held_after found before held xs) ys
held_append found before held [] ys = ap (λ all. held_after found all held ys) (sym (append-nil before))
held_append found before held (x ∷ xs) ys =
    held_append found (before ++ x ∷ []) (held_at found before held x) xs ys
    ∙ ap (λ all. held_after found all (held_after found before held (x ∷ xs)) ys) (append_snoc before x xs)

-- the writes of two lists of parts are those of the first, and then those of the second, given the text that is pending between them
pub parts_more : (found : Findings) (before parts : List Part)
    → parts_writes found (before ++ parts) ≡ parts_writes found before ++ reported_all found before (held_text found before) parts
unfolding parts_writes held_text
parts_more found before parts = sym (all_reported found [] None (before ++ parts)) ∙ reported_append found [] None before parts
    ∙ ap (λ ws. ws ++ reported_all found before (held_after found [] None before) parts) (all_reported found [] None before)

pub held_more : (found : Findings) (before parts : List Part)
    → held_text found (before ++ parts) ≡ held_after found before (held_text found before) parts
unfolding held_text
held_more found before parts = held_append found [] None before parts

-- ---- names that are defined

abbrev Definitions : Type 0
Definitions = List ((ℕ × ℕ) × Definition)

definitions_more : (before : List Part) (part : Part)
    → definitions_of (before ++ part ∷ []) ≡ definitions_of before ++ cons_option (definition_in before part) []
unfolding definitions_of
definitions_more before part = reported_more definition_in before part

none_more : (before : List Part) (part : Part) → definition_in before part ≡ None
    → defined_names (before ++ part ∷ []) ≡ defined_names before
unfolding defined_names
none_more before part e = ap (λ pairs. distinct (keys_of pairs)) (definitions_more before part
    ∙ ap (λ o. definitions_of before ++ cons_option o []) e ∙ append-nil (definitions_of before))

named_if : (b : Bool) (pairs : Definitions) (pair : (ℕ × ℕ) × Definition)
    → distinct (keys_of (pairs ++ cons_option (if b then Some pair else None) []))
    ≡ defined_if b (distinct (keys_of pairs)) pair.0
named_if true pairs pair = names_more pairs pair
named_if false pairs pair = ap (λ these. distinct (keys_of these)) (append-nil pairs)

named_by : (k : GsdKind) (before : List Part) (entry : GsdEntry)
    → distinct (keys_of (definitions_of before
    ++ cons_option (definition_by k entry (modules_in before) (last_section (this_module before))) []))
    ≡ defined_by k (distinct (keys_of (definitions_of before))) entry
named_by kind.GlobalSymbol before entry = named_if (defines entry) (definitions_of before) (
  entry.name,
  record {
    module_index = modules_in before;
    location = location_of (last_section (this_module before)) entry;
  },
)
named_by kind.ModuleName before entry = ap (λ pairs. distinct (keys_of pairs)) (append-nil (definitions_of before))
named_by kind.ControlSection before entry = ap (λ pairs. distinct (keys_of pairs)) (append-nil (definitions_of before))
named_by kind.InternalSymbol before entry = ap (λ pairs. distinct (keys_of pairs)) (append-nil (definitions_of before))
named_by kind.TransferAddress before entry = ap (λ pairs. distinct (keys_of pairs)) (append-nil (definitions_of before))
named_by kind.ProgramSection before entry = ap (λ pairs. distinct (keys_of pairs)) (append-nil (definitions_of before))
named_by kind.Identification before entry = ap (λ pairs. distinct (keys_of pairs)) (append-nil (definitions_of before))

entry_more : (before : List Part) (entry : GsdEntry)
    → defined_names (before ++ Entry entry ∷ []) ≡ defined_with (defined_names before) entry
unfolding defined_names
entry_more before entry = ap (λ pairs. distinct (keys_of pairs)) (definitions_more before (Entry entry))
    ∙ named_by entry.kind before entry

entry_stays : (before : List Part) (entry : GsdEntry) → modules_in (before ++ Entry entry ∷ []) ≡ modules_in before
unfolding modules_in
entry_stays before entry = modules_more before (Entry entry) ∙ add_zero (modules_in before)

directory_stays : (before : List Part) → modules_in (before ++ Directory ∷ []) ≡ modules_in before
unfolding modules_in
directory_stays before = modules_more before Directory ∙ add_zero (modules_in before)

-- ---- entries

entries_reported : (found : Findings) (before : List Part) (entries : List GsdEntry)
    → reported_all found before None (map (λ entry. Entry entry) entries)
    ≡ entries_writes found (modules_in before) (defined_names before) entries
entries_reported found before [] = refl
entries_reported found before (entry ∷ entries) =
    ap (λ ws. entry_writes found (modules_in before) (defined_names before) entry ++ ws)
    (entries_reported found (before ++ Entry entry ∷ []) entries
    ∙ ap₂ (λ n d. entries_writes found n d entries) (entry_stays before entry) (entry_more before entry))

entries_defined : (before : List Part) (entries : List GsdEntry)
    → defined_names (before ++ map (λ entry. Entry entry) entries) ≡ defined_with_all (defined_names before) entries
entries_defined before [] = ap (λ all. defined_names all) (append-nil before)
entries_defined before (entry ∷ entries) =
    ap (λ all. defined_names all) (sym (append_snoc before (Entry entry) (map (λ e. Entry e) entries)))
    ∙ entries_defined (before ++ Entry entry ∷ []) entries
    ∙ ap (λ d. defined_with_all d entries) (entry_more before entry)

entries_held : (found : Findings) (before : List Part) (entries : List GsdEntry)
    → held_after found before None (map (λ entry. Entry entry) entries) ≡ None
entries_held found before [] = refl
entries_held found before (entry ∷ entries) = entries_held found (before ++ Entry entry ∷ []) entries

-- ---- relocations

relocations_reported : (found : Findings) (before : List Part) (held : Option PlacedText) (relocations : List Relocation)
    → reported_all found before held (map (λ relocation. Relocated relocation) relocations) ≡ []
relocations_reported found before held [] = refl
relocations_reported found before held (relocation ∷ relocations) =
    relocations_reported found (before ++ Relocated relocation ∷ []) (held_with found held relocation) relocations

relocations_defined : (before : List Part) (relocations : List Relocation)
    → defined_names (before ++ map (λ relocation. Relocated relocation) relocations) ≡ defined_names before
relocations_defined before [] = ap (λ all. defined_names all) (append-nil before)
relocations_defined before (relocation ∷ relocations) =
    ap (λ all. defined_names all) (sym (append_snoc before (Relocated relocation) (map (λ r. Relocated r) relocations)))
    ∙ relocations_defined (before ++ Relocated relocation ∷ []) relocations
    ∙ none_more before (Relocated relocation) refl

relocations_held : (found : Findings) (before : List Part) (held : Option PlacedText) (relocations : List Relocation)
    → held_after found before held (map (λ relocation. Relocated relocation) relocations)
    ≡ held_with_all found held relocations
relocations_held found before held [] = refl
relocations_held found before held (relocation ∷ relocations) =
    relocations_held found (before ++ Relocated relocation ∷ []) (held_with found held relocation) relocations

-- ---- records

abbrev pub content_reported : Findings → List Part → Option PlacedText → records.Content → List Write
content_reported found before held (records.Gsd entries) =
    held_writes held ++ entries_writes found (modules_in before) (defined_names before) entries
content_reported found before held (records.Relocations relocations) = []
content_reported found before held records.InternalSymbols = []
content_reported found before held content = held_writes held

abbrev pub content_held : Findings → List Part → Option PlacedText → records.Content → Option PlacedText
content_held found before held (records.Text address bytes) =
    Some (placed_text found (modules_in before) (current_section (this_module before)) address bytes)
content_held found before held (records.Relocations relocations) = held_with_all found held relocations
content_held found before held records.InternalSymbols = held
content_held found before held content = None

abbrev pub content_defined : List Part → records.Content → List (ℕ × ℕ)
content_defined before (records.Gsd entries) = defined_with_all (defined_names before) entries
content_defined before content = defined_names before

directory_names : (before : List Part) → defined_names (before ++ Directory ∷ []) ≡ defined_names before
directory_names before = none_more before Directory refl

pub content_reported_is : (found : Findings) (before : List Part) (held : Option PlacedText) (content : records.Content)
    → reported_all found before held (parts_of content) ≡ content_reported found before held content
content_reported_is found before held (records.Gsd entries) = ap (λ ws. held_writes held ++ ws)
    (entries_reported found (before ++ Directory ∷ []) entries
    ∙ ap₂ (λ n d. entries_writes found n d entries) (directory_stays before) (directory_names before))
content_reported_is found before held records.EndOfGsd = append-nil (held_writes held)
content_reported_is found before held (records.Text address bytes) = append-nil (held_writes held)
content_reported_is found before held (records.Relocations relocations) =
    relocations_reported found (before ++ Relocations ∷ []) held relocations
content_reported_is found before held records.InternalSymbols = refl
content_reported_is found before held records.EndOfModule = append-nil (held_writes held)

pub content_held_is : (found : Findings) (before : List Part) (held : Option PlacedText) (content : records.Content)
    → held_after found before held (parts_of content) ≡ content_held found before held content
content_held_is found before held (records.Gsd entries) = entries_held found (before ++ Directory ∷ []) entries
content_held_is found before held records.EndOfGsd = refl
content_held_is found before held (records.Text address bytes) = refl
content_held_is found before held (records.Relocations relocations) =
    relocations_held found (before ++ Relocations ∷ []) held relocations
content_held_is found before held records.InternalSymbols = refl
content_held_is found before held records.EndOfModule = refl

pub content_defined_is : (before : List Part) (content : records.Content)
    → defined_names (before ++ parts_of content) ≡ content_defined before content
content_defined_is before (records.Gsd entries) =
    ap (λ all. defined_names all) (sym (append_snoc before Directory (map (λ e. Entry e) entries)))
    ∙ entries_defined (before ++ Directory ∷ []) entries
    ∙ ap (λ d. defined_with_all d entries) (directory_names before)
content_defined_is before records.EndOfGsd = none_more before EndOfDirectory refl
content_defined_is before (records.Text address bytes) = none_more before (Text address bytes) refl
content_defined_is before (records.Relocations relocations) =
    ap (λ all. defined_names all) (sym (append_snoc before Relocations (map (λ r. Relocated r) relocations)))
    ∙ relocations_defined (before ++ Relocations ∷ []) relocations ∙ none_more before Relocations refl
content_defined_is before records.InternalSymbols = ap (λ all. defined_names all) (append-nil before)
content_defined_is before records.EndOfModule = none_more before EndOfModule refl

pub file_defined : (before : List Part) → defined_names (before ++ EndOfFile ∷ []) ≡ defined_names before
file_defined before = none_more before EndOfFile refl
