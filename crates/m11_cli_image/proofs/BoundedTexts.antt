-- Texts that a link accepts end within their module's contribution to their section.
use Rattle.std.proofs.Common.{◌≡◌, ◌∙◌, ℕ, ◌+◌, ◌≤◌, nat_lt, Bool, true, false, if◌then◌else◌, List, [], ◌∷◌, ◌++◌, append-nil, append_assoc, length, map, flat_map, Option, Some, None, refl, sym, ap, subst}
use Rattle.std.specs.Prelude.{⊤}
use Rattle.std.specs.List.{AllByRecursion, cons_option, filter_map}
use Rattle.std.specs.Option.{unwrap_or}
use Rattle.std.proofs.lemmas.Bool.{ltb-false}
use Rattle.std.proofs.lemmas.List.Elements.{filter_map-append}
use Rattle.m11_asm_outputs.specs.Object.{texts_of}
use Rattle.m11_base.specs.Names.{absolute_name}
use Rattle.m11_base.specs.Rad50.{Name}
use Rattle.m11_asm_directory.specs.Rows.{directory_rows}
use Rattle.m11_link_layout.proofs.Walking.{head_none, rest_none}
use Rattle.m11_link_modules.specs.Grammar.{directory_parts}
use Rattle.m11_link_modules.specs.Parts.{Part, Directory, Entry, EndOfDirectory, Text, Relocations, Relocated, EndOfModule, EndOfFile, parts_of}
use Rattle.m11_link_modules.specs.Positions.{current_section, ends_module, known_of, section_after, section_by, section_in, sections_in, selected_by, size_known, stage_after, this_module}
use Rattle.m11_link_modules.specs.Rules.{fault_known, fault_of, first_fault, may_occur, text_fault}
use Rattle.m11_link_modules.specs.declared.fault.ModuleFault.{ModuleFault}
use Rattle.m11_link_modules.specs.declared.fault.ModuleFault.TheVariants.{BadOrder, TextOutside}
use Rattle.m11_link_modules.proofs.KnownAfter.{this_module_ended, this_module_goes_on}
use Rattle.m11_obj.specs.declared.gsd.GsdEntry.{GsdEntry}
use Rattle.m11_obj.specs.declared.relocations.Relocation.{Relocation}
use Rattle.m11_obj.specs.Records.{Content}
use Rattle.m11_obj.specs.Records as records
use Rattle.m11_obj.specs.Directory.{entry_of, record_cutting}
use Rattle.m11_obj.specs.Fronts.{joined}
use Rattle.m11_obj.specs.TextsRead.{ReadText, as_read, texts_read}
use Rattle.m11_obj.specs.TextsRead as read
use Rattle.m11_obj.specs.Texts.{TextParts, text_records}
use Rattle.m11_obj.specs.declared.directory.DirectoryRow.{DirectoryRow}
use Rattle.m11_obj.proofs.InReading.{are_read_again}
use Rattle.m11_obj.proofs.InRecords.{holds_rows}
use Rattle.m11_cli_image.specs.Objects.{source_parts}
use Rattle.m11_cli_image.specs.Sections.{sections_of, size_entered}
use Rattle.m11_cli_image.specs.Sources.{Source}
use Rattle.m11_cli_image.proofs.ReadModules.{IsBody, are_body}
use Rattle.m11_cli_image.proofs.ReadParts.{selected_more}
use Rattle.m11_cli_image.proofs.ReadRows.{row_sections}
use Rattle.m11_cli_image.proofs.ReadTexts.{selects_same, whole_split}

abbrev Entered : Type 0
Entered = List (Name × ℕ)

-- these bytes end within the section; one that wasn't entered has size 0
abbrev pub EndsWithin : Entered → Name → ℕ → List ℕ → Type 0
EndsWithin entered section location bytes = location + length bytes ≤ unwrap_or (size_known entered section) 0

-- ---- texts without a fault

-- each text ends within its section; these sections were entered, and this one selected, before the first part
abbrev pub Bounded : Entered → Name → List Part → Type 0
Bounded entered section [] = ⊤
Bounded entered section (Text location bytes ∷ parts) =
    EndsWithin entered section location bytes × Bounded entered section parts
Bounded entered section (Entry entry ∷ parts) =
    Bounded (entered ++ cons_option (section_by entry.kind entry) []) section parts
Bounded entered section (Relocated relocation ∷ parts) =
    Bounded entered (selected_by section relocation.target) parts
Bounded entered section (EndOfModule ∷ parts) = Bounded [] absolute_name parts
Bounded entered section (part ∷ parts) = Bounded entered section parts

within : (location count size : ℕ) → text_fault size location count ≡ None → location + count ≤ size
within location count size e = by (nat_lt size (location + count)) refl e
  where
    by : (b : Bool) → nat_lt size (location + count) ≡ b → (if b then Some TextOutside else None) ≡ None → location + count ≤ size
    by true f e = absurd cc
    by false f e = ltb-false size (location + count) f

unless_bad : (b : Bool) (fault : Option ModuleFault) → (if b then fault else Some BadOrder) ≡ None → fault ≡ None
unless_bad true fault e = e
unless_bad false fault e = absurd cc

abbrev After : List Part → List Part → Type 0
After before parts = Bounded (sections_in (this_module before)) (current_section (this_module before)) parts

text_within : (before : List Part) (location : ℕ) (bytes : List ℕ) → fault_of before (Text location bytes) ≡ None
    → EndsWithin (sections_in (this_module before)) (current_section (this_module before)) location bytes
unfolding fault_known known_of
text_within before location bytes e =
    within location (length bytes) _ (unless_bad (may_occur (Text location bytes) (stage_after before)) _ e)

goes_on : (before : List Part) (part : Part) (parts : List Part) → ends_module part ≡ false
    → After (before ++ part ∷ []) parts
    → Bounded (sections_in (this_module before) ++ cons_option (section_in part) [])
    (section_after (current_section (this_module before)) (part ∷ [])) parts
unfolding sections_in current_section
goes_on before part parts e h =
    let own = this_module before in
    let P : List Part → Type 0 = λ these. Bounded (filter_map section_in these) (section_after absolute_name these) parts in
    let Q : Entered → Type 0 = λ entered. Bounded entered (section_after absolute_name (own ++ part ∷ [])) parts in
    let R : Name → Type 0 = λ section. Bounded (filter_map section_in own ++ cons_option (section_in part) []) section parts in
    subst R (selected_more absolute_name own part)
    (subst Q (filter_map-append section_in own (part ∷ [])) (subst P (this_module_goes_on before part e) h))

enters_none : (before : List Part) (section : Name) (parts : List Part)
    → Bounded (sections_in (this_module before) ++ []) section parts → Bounded (sections_in (this_module before)) section parts
enters_none before section parts h =
    let P : Entered → Type 0 = λ entered. Bounded entered section parts in
    subst P (append-nil (sections_in (this_module before))) h

ended : (before parts : List Part) → After (before ++ EndOfModule ∷ []) parts → Bounded [] absolute_name parts
unfolding sections_in current_section
ended before parts h =
    let P : List Part → Type 0 = λ these. Bounded (filter_map section_in these) (section_after absolute_name these) parts in
    subst P (this_module_ended before) h

part_bounded : (before : List Part) (part : Part) (parts : List Part) → fault_of before part ≡ None
    → After (before ++ part ∷ []) parts → After before (part ∷ parts)
part_bounded before (Text location bytes) parts e h =
    (text_within before location bytes e, enters_none before _ parts (goes_on before (Text location bytes) parts refl h))
part_bounded before (Entry entry) parts e h = goes_on before (Entry entry) parts refl h
part_bounded before (Relocated relocation) parts e h =
    enters_none before _ parts (goes_on before (Relocated relocation) parts refl h)
part_bounded before EndOfModule parts e h = ended before parts h
part_bounded before Directory parts e h = enters_none before _ parts (goes_on before Directory parts refl h)
part_bounded before EndOfDirectory parts e h = enters_none before _ parts (goes_on before EndOfDirectory parts refl h)
part_bounded before Relocations parts e h = enters_none before _ parts (goes_on before Relocations parts refl h)
part_bounded before EndOfFile parts e h = enters_none before _ parts (goes_on before EndOfFile parts refl h)

pub bounded : (before parts : List Part) → first_fault before parts ≡ None → After before parts
unfolding first_fault
bounded before [] e = tt
bounded before (part ∷ parts) e =
    let rest = first_fault (before ++ part ∷ []) parts in
    part_bounded before part parts (head_none (fault_of before part) rest e)
    (bounded (before ++ part ∷ []) parts (rest_none (fault_of before part) rest e))

-- ---- in a source

abbrev sections_from : List GsdEntry → Entered
sections_from entries = filter_map (λ entry. section_by entry.kind entry) entries

entries_bounded : (entered : Entered) (section : Name) (entries : List GsdEntry) (rest : List Part)
    → Bounded entered section (map (λ entry. Entry entry) entries ++ rest)
    → Bounded (entered ++ sections_from entries) section rest
entries_bounded entered section [] rest h =
    let P : Entered → Type 0 = λ these. Bounded these section rest in subst P (sym (append-nil entered)) h
entries_bounded entered section (entry ∷ entries) rest h =
    let one = cons_option (section_by entry.kind entry) [] in
    let P : Entered → Type 0 = λ these. Bounded these section rest in
    subst P (append_assoc entered one (sections_from entries)
    ∙ ap (λ these. entered ++ these) (onto (section_by entry.kind entry) (sections_from entries)))
    (entries_bounded (entered ++ one) section entries rest h)
  where
    onto : (found : Option (Name × ℕ)) (more : Entered) → cons_option found [] ++ more ≡ cons_option found more
    onto None more = refl
    onto (Some section) more = refl

directory_bounded : (entered : Entered) (section : Name) (cuts : List (List GsdEntry)) (rest : List Part)
    → Bounded entered section (flat_map directory_parts cuts ++ rest)
    → Bounded (entered ++ sections_from (joined cuts)) section rest
directory_bounded entered section [] rest h =
    let P : Entered → Type 0 = λ these. Bounded these section rest in subst P (sym (append-nil entered)) h
directory_bounded entered section (entries ∷ cuts) rest h =
    let parts = map (λ entry. Entry entry) entries in
    let P : List Part → Type 0 = λ these. Bounded entered section these in
    let Q : Entered → Type 0 = λ these. Bounded these section rest in
    subst Q (append_assoc entered (sections_from entries) (sections_from (joined cuts))
    ∙ ap (λ these. entered ++ these) (sym (filter_map-append (λ entry. section_by entry.kind entry) entries (joined cuts))))
    (directory_bounded (entered ++ sections_from entries) section cuts rest
    (entries_bounded entered section entries (flat_map directory_parts cuts ++ rest)
    (subst P (append_assoc parts (flat_map directory_parts cuts) rest) h)))

relocations_bounded : (entered : Entered) (section : Name) (relocations : List Relocation) (rest : List Part)
    → Bounded entered section (map (λ relocation. Relocated relocation) relocations ++ rest)
    → Bounded entered (read.section_after section relocations) rest
relocations_bounded entered section [] rest h = h
relocations_bounded entered section (first ∷ relocations) rest h =
    let parts = map (λ relocation. Relocated relocation) relocations ++ rest in
    let P : Name → Type 0 = λ chosen. Bounded entered chosen parts in
    relocations_bounded entered (read.selected section first.target) relocations rest
    (subst P (selects_same section first.target) h)

abbrev ReadWithin : Entered → ReadText → Type 0
ReadWithin entered text = EndsWithin entered text.section text.location text.bytes

body_bounded : (entered : Entered) (section : Name) (contents : List Content) → AllByRecursion IsBody contents
    → (rest : List Part) → Bounded entered section (flat_map parts_of contents ++ EndOfModule ∷ rest)
    → AllByRecursion (ReadWithin entered) (texts_read section contents) × Bounded [] absolute_name rest
body_bounded entered section [] b rest h = (tt, h)
body_bounded entered section (records.Text location bytes ∷ contents) b rest h =
    let more = body_bounded entered section contents b.1 rest h.1 in ((h.0, more.0), more.1)
body_bounded entered section (records.Relocations relocations ∷ contents) b rest h =
    let parts = map (λ relocation. Relocated relocation) relocations in
    let P : List Part → Type 0 = λ these. Bounded entered section these in
    body_bounded entered (read.section_after section relocations) contents b.1 rest
    (relocations_bounded entered section relocations (flat_map parts_of contents ++ EndOfModule ∷ rest)
    (subst P (append_assoc parts (flat_map parts_of contents) (EndOfModule ∷ rest)) h))
body_bounded entered section (content ∷ contents) b rest h = absurd b.0

rows_sections : (rows : List DirectoryRow)
    → sections_from (map entry_of rows) ≡ filter_map (λ row. section_by (entry_of row).kind (entry_of row)) rows
rows_sections [] = refl
rows_sections (first ∷ rows) =
    ap (cons_option (section_by (entry_of first).kind (entry_of first))) (rows_sections rows)

abbrev pub TextWithin : Source → TextParts → Type 0
TextWithin source text = EndsWithin (map size_entered (sections_of source)) text.section text.location text.bytes

as_read_within : (source : Source) (texts : List TextParts)
    → AllByRecursion (ReadWithin (map size_entered (sections_of source))) (map as_read texts)
    → AllByRecursion (TextWithin source) texts
as_read_within source [] h = tt
as_read_within source (text ∷ texts) h = (h.0, as_read_within source texts h.1)

-- if the texts of a source and of the parts after it end within their sections, so do the texts of the source, and so do those of the parts
pub source_bounded : (source : Source) (rest : List Part) → Bounded [] absolute_name (source_parts source ++ rest)
    → AllByRecursion (TextWithin source) (texts_of source.pieces) × Bounded [] absolute_name rest
source_bounded source rest h =
    let rows = directory_rows source.facts in
    let own = map size_entered (sections_of source) in
    let contents = text_records source.pieces in
    let body = EndOfDirectory ∷ (flat_map parts_of contents ++ EndOfModule ∷ rest) in
    let P : List Part → Type 0 = λ parts. Bounded [] absolute_name parts in
    let Q : Entered → Type 0 = λ entered. Bounded entered absolute_name body in
    let R : List ReadText → Type 0 = λ texts. AllByRecursion (ReadWithin own) texts in
    let inside = subst Q (ap sections_from (holds_rows rows).exact ∙ rows_sections rows ∙ row_sections source)
    (directory_bounded [] absolute_name (record_cutting rows) body (subst P (whole_split source rest) h)) in
    let both = body_bounded own absolute_name contents (are_body source) rest inside in
    (as_read_within source (texts_of source.pieces) (subst R (are_read_again source.pieces) both.0), both.1)
