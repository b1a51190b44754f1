-- The texts of a module are read as its records were written for them.
use Rattle.std.proofs.Common.{◌≡◌, ◌∙◌, ℕ, ◌+◌, List, [], ◌∷◌, ◌++◌, append_assoc, filter, map, flat_map, refl, ap, ap₂}
use Rattle.std.specs.List.{AllByRecursion}
use Rattle.std.proofs.lemmas.List.Elements.{filter-append}
use Rattle.m11_asm_outputs.specs.Object.{texts_of}
use Rattle.m11_base.specs.Names.{absolute_name}
use Rattle.m11_base.specs.Rad50.{Name}
use Rattle.m11_asm_directory.specs.Rows.{directory_rows}
use Rattle.m11_link.specs.Written.{relocations_after}
use Rattle.m11_link_laws.specs.LinkedTexts.{ObjectText, texts_after}
use Rattle.m11_link_modules.specs.Grammar.{directory_parts}
use Rattle.m11_link_modules.specs.Parts.{Part, Entry, EndOfDirectory, Text, Relocated, EndOfModule, parts_of}
use Rattle.m11_link_modules.specs.Positions.{current_section, modules_in, selected_by, this_module}
use Rattle.m11_obj.specs.declared.gsd.GsdEntry.{GsdEntry}
use Rattle.m11_obj.specs.declared.relocations.Relocation.{Relocation}
use Rattle.m11_obj.specs.declared.relocations.Target.{Target}
use Rattle.m11_obj.specs.declared.relocations.Target.TheVariants.{LocationCounterDefinition}
use Rattle.m11_obj.specs.Records.{Content}
use Rattle.m11_obj.specs.Records as records
use Rattle.m11_obj.specs.Directory.{record_cutting}
use Rattle.m11_obj.specs.TextsRead.{ReadText, as_read, is_stored, section_after, selected, texts_read}
use Rattle.m11_obj.specs.TextsRead as read
use Rattle.m11_obj.specs.Texts.{TextParts, text_records}
use Rattle.m11_obj.proofs.InReading.{are_read_again}
use Rattle.m11_cli_image.specs.Objects.{source_parts, stored_alone, text_in}
use Rattle.m11_cli_image.specs.Sources.{Source}
use Rattle.m11_cli_image.proofs.ReadModules.{IsBody, are_body, split}
use Rattle.m11_cli_image.proofs.ReadParts.{Seen, seen_more}

-- ---- texts, after some modules that ended, with the selected section

abbrev pub texts_from : ℕ → Name → List Part → List ObjectText
texts_from modules section [] = []
texts_from modules section (Text address bytes ∷ following) =
    record {
      module_index = modules;
      section = section;
      address = address;
      bytes = bytes;
      relocations = relocations_after following;
    }
    ∷ texts_from modules section following
texts_from modules section (Relocated relocation ∷ following) =
    texts_from modules (selected_by section relocation.target) following
texts_from modules section (EndOfModule ∷ following) = texts_from (modules + 1) absolute_name following
texts_from modules section (part ∷ following) = texts_from modules section following

pub texts_are : (before parts : List Part)
    → texts_after before parts ≡ texts_from (modules_in before) (current_section (this_module before)) parts
texts_are before [] = refl
texts_are before (Text address bytes ∷ following) =
    ap (λ (more : List ObjectText). record {
      module_index = modules_in before;
      section = current_section (this_module before);
      address = address;
      bytes = bytes;
      relocations = relocations_after following;
    } ∷ more) (texts_are (before ++ Text address bytes ∷ []) following
    ∙ ap (λ (seen : Seen). texts_from seen.modules seen.selected following) (seen_more before (Text address bytes)))
texts_are before (part ∷ following) =
    texts_are (before ++ part ∷ []) following
    ∙ ap (λ (seen : Seen). texts_from seen.modules seen.selected following) (seen_more before part)

-- ---- a directory has no texts

entries_pass : (modules : ℕ) (section : Name) (entries : List GsdEntry) (rest : List Part)
    → texts_from modules section (map (λ entry. Entry entry) entries ++ rest) ≡ texts_from modules section rest
entries_pass modules section [] rest = refl
entries_pass modules section (entry ∷ entries) rest = entries_pass modules section entries rest

directory_passes : (modules : ℕ) (section : Name) (cuts : List (List GsdEntry)) (rest : List Part)
    → texts_from modules section (flat_map directory_parts cuts ++ rest) ≡ texts_from modules section rest
directory_passes modules section [] rest = refl
directory_passes modules section (entries ∷ cuts) rest =
    ap (texts_from modules section)
    (append_assoc (map (λ entry. Entry entry) entries) (flat_map directory_parts cuts) rest)
    ∙ entries_pass modules section entries (flat_map directory_parts cuts ++ rest)
    ∙ directory_passes modules section cuts rest

-- ---- relocations that select sections come after their text

pub selects_same : (section : Name) (target : Target) → selected_by section target ≡ selected section target
selects_same section (LocationCounterDefinition name location) = refl
selects_same section target = refl

abbrev relocated : List Relocation → List Part
relocated relocations = map (λ relocation. Relocated relocation) relocations

relocations_pass : (modules : ℕ) (section : Name) (relocations : List Relocation) (rest : List Part)
    → texts_from modules section (relocated relocations ++ rest)
    ≡ texts_from modules (section_after section relocations) rest
relocations_pass modules section [] rest = refl
relocations_pass modules section (first ∷ relocations) rest =
    ap (λ chosen. texts_from modules chosen (relocated relocations ++ rest)) (selects_same section first.target)
    ∙ relocations_pass modules (selected section first.target) relocations rest

relocations_first : (relocations : List Relocation) (rest : List Part)
    → relocations_after (relocated relocations ++ rest) ≡ relocations ++ relocations_after rest
relocations_first [] rest = refl
relocations_first (first ∷ relocations) rest = ap (λ more. first ∷ more) (relocations_first relocations rest)

stored_after : (contents : List Content) → AllByRecursion IsBody contents → (rest : List Part)
    → filter is_stored (relocations_after (flat_map parts_of contents ++ EndOfModule ∷ rest))
    ≡ read.relocations_after contents
stored_after [] h rest = refl
stored_after (records.Text location bytes ∷ contents) h rest = refl
stored_after (records.Relocations relocations ∷ contents) h rest =
    let more = flat_map parts_of contents ++ EndOfModule ∷ rest in
    ap (λ parts. filter is_stored (relocations_after parts))
    (append_assoc (relocated relocations) (flat_map parts_of contents) (EndOfModule ∷ rest))
    ∙ ap (filter is_stored) (relocations_first relocations more)
    ∙ filter-append is_stored relocations (relocations_after more)
    ∙ ap (λ others. filter is_stored relocations ++ others) (stored_after contents h.1 rest)
stored_after (content ∷ contents) h rest = absurd h.0

-- ---- the texts of records

abbrev read_in : ℕ → ReadText → ObjectText
read_in modules text = record {
  module_index = modules;
  section = text.section;
  address = text.location;
  bytes = text.bytes;
  relocations = text.relocations;
}

body_texts : (contents : List Content) → AllByRecursion IsBody contents
    → (modules : ℕ) (section : Name) (rest : List Part)
    → map stored_alone (texts_from modules section (flat_map parts_of contents ++ EndOfModule ∷ rest))
    ≡ map (read_in modules) (texts_read section contents)
    ++ map stored_alone (texts_from (modules + 1) absolute_name rest)
body_texts [] h modules section rest = refl
body_texts (records.Text location bytes ∷ contents) h modules section rest =
    ap₂ (λ relocations more. record {
      module_index = modules;
      section = section;
      address = location;
      bytes = bytes;
      relocations = relocations;
    } ∷ more) (stored_after contents h.1 rest) (body_texts contents h.1 modules section rest)
body_texts (records.Relocations relocations ∷ contents) h modules section rest =
    ap (λ parts. map stored_alone (texts_from modules section parts))
    (append_assoc (relocated relocations) (flat_map parts_of contents) (EndOfModule ∷ rest))
    ∙ ap (map stored_alone)
    (relocations_pass modules section relocations (flat_map parts_of contents ++ EndOfModule ∷ rest))
    ∙ body_texts contents h.1 modules (section_after section relocations) rest
body_texts (content ∷ contents) h modules section rest = absurd h.0

read_are : (modules : ℕ) (texts : List TextParts)
    → map (read_in modules) (map as_read texts) ≡ map (text_in modules) texts
read_are modules [] = refl
read_are modules (text ∷ texts) = ap (λ more. text_in modules text ∷ more) (read_are modules texts)

-- ---- the texts of a source

pub whole_split : (source : Source) (rest : List Part) → source_parts source ++ rest
    ≡ flat_map directory_parts (record_cutting (directory_rows source.facts))
    ++ EndOfDirectory ∷ (flat_map parts_of (text_records source.pieces) ++ EndOfModule ∷ rest)
whole_split source rest =
    let directory = flat_map directory_parts (record_cutting (directory_rows source.facts)) in
    let texts = flat_map parts_of (text_records source.pieces) in
    ap (λ parts. parts ++ rest) (split source)
    ∙ append_assoc (directory ++ EndOfDirectory ∷ texts) (EndOfModule ∷ []) rest
    ∙ append_assoc directory (EndOfDirectory ∷ texts) (EndOfModule ∷ rest)

-- after some modules and before other parts, the texts read from the parts of a source are those made from its pieces
pub source_texts : (source : Source) (modules : ℕ) (rest : List Part)
    → map stored_alone (texts_from modules absolute_name (source_parts source ++ rest))
    ≡ map (text_in modules) (texts_of source.pieces) ++ map stored_alone (texts_from (modules + 1) absolute_name rest)
source_texts source modules rest =
    let contents = text_records source.pieces in
    ap (λ parts. map stored_alone (texts_from modules absolute_name parts)) (whole_split source rest)
    ∙ ap (map stored_alone) (directory_passes modules absolute_name (record_cutting (directory_rows source.facts))
    (EndOfDirectory ∷ (flat_map parts_of contents ++ EndOfModule ∷ rest)))
    ∙ body_texts contents (are_body source) modules absolute_name rest
    ∙ ap (λ texts. texts ++ map stored_alone (texts_from (modules + 1) absolute_name rest))
    (ap (map (read_in modules)) (are_read_again source.pieces) ∙ read_are modules (texts_of source.pieces))
