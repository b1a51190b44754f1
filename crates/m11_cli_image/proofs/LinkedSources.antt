-- What the objects of sources enter and define one after another, source by source.
use Rattle.std.proofs.Common.{◌≡◌, ◌∙◌, ℕ, ◌+◌, List, [], ◌∷◌, ◌++◌, append-nil, append_assoc, map, flat_map, Option, refl, sym, ap, ap₂}
use Rattle.std.specs.List.{AllByRecursion, enumerate_from, filter_map}
use Rattle.std.proofs.lemmas.List.{map-append}
use Rattle.std.proofs.lemmas.List.Concat.{flat_map_single}
use Rattle.m11_base.specs.Names.{absolute_name}
use Rattle.m11_asm_directory.specs.Rows.{directory_rows}
use Rattle.m11_link_layout.specs.Globals.{definition_in, definitions_of}
use Rattle.m11_link_layout.specs.Sections.{attributes_in}
use Rattle.m11_link_layout.specs.Transfers.{transfer_in, transfers_of}
use Rattle.m11_link_laws.specs.LinkedTexts.{object_texts}
use Rattle.m11_link_modules.specs.Grammar.{directory_parts}
use Rattle.m11_link_modules.specs.Parts.{Part, Entry, EndOfDirectory, Relocated, EndOfModule, EndOfFile, parts_of}
use Rattle.m11_link_modules.specs.Positions.{sections_in}
use Rattle.m11_obj.specs.declared.gsd.GsdEntry.{GsdEntry}
use Rattle.m11_obj.specs.declared.relocations.Relocation.{Relocation}
use Rattle.m11_obj.specs.Records.{Content}
use Rattle.m11_obj.specs.Records as records
use Rattle.m11_obj.specs.Directory.{entry_of, record_cutting}
use Rattle.m11_obj.specs.Texts.{text_records}
use Rattle.m11_cli_image.specs.Globals.{all_globals, globals_of, in_source}
use Rattle.m11_cli_image.specs.Links.{HasSources, all_texts, all_transfers, texts_at, transfer_of}
use Rattle.m11_cli_image.specs.Objects.{link_parts, object_parts, source_parts, stored_alone}
use Rattle.m11_cli_image.specs.Sections.{OwnSection, all_sections, attributes_entered, sections_of, size_entered}
use Rattle.m11_cli_image.specs.Sources.{Source}
use Rattle.m11_cli_image.proofs.ReadDirectories.{first, first_is, source_said}
use Rattle.m11_cli_image.proofs.ReadEntries.{attributes_alone, attributes_said, definition_said, definition_same, entries_by, of_entry, section_said, sections_alone, transfer_said, transfer_same}
use Rattle.m11_cli_image.proofs.ReadGlobals.{globals_are}
use Rattle.m11_cli_image.proofs.ReadModules.{IsBody, are_body}
use Rattle.m11_cli_image.proofs.ReadParts.{Seen, reported_by, reported_is, reported_then, seen_after, seen_after_all}
use Rattle.m11_cli_image.proofs.ReadRows.{attributes_are, sections_are, transfers_are}
use Rattle.m11_cli_image.proofs.ReadTexts.{source_texts, texts_are, texts_from, whole_split}

-- ---- the number of modules that ended

abbrev modules_from : ℕ → List Part → ℕ
modules_from modules [] = modules
modules_from modules (EndOfModule ∷ parts) = modules_from (modules + 1) parts
modules_from modules (part ∷ parts) = modules_from modules parts

modules_are : (seen : Seen) (parts : List Part) → (seen_after_all seen parts).modules ≡ modules_from seen.modules parts
modules_are seen [] = refl
modules_are seen (EndOfModule ∷ parts) = modules_are (seen_after seen EndOfModule) parts
modules_are seen (part ∷ parts) = modules_are (seen_after seen part) parts

past_entries : (modules : ℕ) (entries : List GsdEntry) (rest : List Part)
    → modules_from modules (map (λ entry. Entry entry) entries ++ rest) ≡ modules_from modules rest
past_entries modules [] rest = refl
past_entries modules (entry ∷ entries) rest = past_entries modules entries rest

past_directory : (modules : ℕ) (cuts : List (List GsdEntry)) (rest : List Part)
    → modules_from modules (flat_map directory_parts cuts ++ rest) ≡ modules_from modules rest
past_directory modules [] rest = refl
past_directory modules (entries ∷ cuts) rest =
    ap (modules_from modules) (append_assoc (map (λ entry. Entry entry) entries) (flat_map directory_parts cuts) rest)
    ∙ past_entries modules entries (flat_map directory_parts cuts ++ rest) ∙ past_directory modules cuts rest

past_relocations : (modules : ℕ) (relocations : List Relocation) (rest : List Part)
    → modules_from modules (map (λ relocation. Relocated relocation) relocations ++ rest) ≡ modules_from modules rest
past_relocations modules [] rest = refl
past_relocations modules (relocation ∷ relocations) rest = past_relocations modules relocations rest

past_body : (modules : ℕ) (contents : List Content) → AllByRecursion IsBody contents → (rest : List Part)
    → modules_from modules (flat_map parts_of contents ++ rest) ≡ modules_from modules rest
past_body modules [] h rest = refl
past_body modules (records.Text location bytes ∷ contents) h rest = past_body modules contents h.1 rest
past_body modules (records.Relocations relocations ∷ contents) h rest =
    ap (modules_from modules)
    (append_assoc (map (λ relocation. Relocated relocation) relocations) (flat_map parts_of contents) rest)
    ∙ past_relocations modules relocations (flat_map parts_of contents ++ rest) ∙ past_body modules contents h.1 rest
past_body modules (content ∷ contents) h rest = absurd h.0

one_module : (seen : Seen) (source : Source) → (seen_after_all seen (object_parts source)).modules ≡ seen.modules + 1
one_module seen source =
    let contents = text_records source.pieces in
    modules_are seen (object_parts source)
    ∙ ap (modules_from seen.modules) (whole_split source (EndOfFile ∷ []))
    ∙ past_directory seen.modules (record_cutting (directory_rows source.facts))
    (EndOfDirectory ∷ (flat_map parts_of contents ++ EndOfModule ∷ EndOfFile ∷ []))
    ∙ past_body seen.modules contents (are_body source) (EndOfModule ∷ EndOfFile ∷ [])

-- ---- all sources together

module _ {X : Type 0} (said : Seen → GsdEntry → Option X) (own : ℕ × Source → List X)
    (is : (source : Source) (seen : Seen)
    → entries_by said seen (map entry_of (directory_rows source.facts)) ≡ own (seen.modules, source)) where
  pub linked_said : (sources : List Source) (seen : Seen)
      → reported_by (of_entry said) seen (link_parts sources) ≡ flat_map own (enumerate_from seen.modules sources)
  linked_said [] seen = refl
  linked_said (source ∷ sources) seen =
      reported_then (of_entry said) seen (object_parts source) (link_parts sources)
      ∙ ap₂ (λ some more. some ++ more)
      (reported_then (of_entry said) seen (source_parts source) (EndOfFile ∷ []) ∙ append-nil _
      ∙ source_said said seen source ∙ is source seen)
      (linked_said sources (seen_after_all seen (object_parts source))
      ∙ ap (λ modules. flat_map own (enumerate_from modules sources)) (one_module seen source))

all_viewed : {X : Type 0} (view : OwnSection → X) (number : ℕ) (sources : List Source)
    → flat_map (λ numbered. map view (sections_of numbered.1)) (enumerate_from number sources)
    ≡ map view (all_sections sources)
all_viewed view number [] = refl
all_viewed view number (source ∷ sources) =
    ap (λ more. map view (sections_of source) ++ more) (all_viewed view (number + 1) sources)
    ∙ sym (map-append view (sections_of source) (all_sections sources))

pub sections_linked : (sources : List Source) → sections_in (link_parts sources) ≡ map size_entered (all_sections sources)
unfolding sections_in
sections_linked sources =
    sections_alone first (link_parts sources)
    ∙ linked_said section_said (λ numbered. map size_entered (sections_of numbered.1)) sections_are sources first
    ∙ all_viewed size_entered first.modules sources

pub attributes_linked : (sources : List Source)
    → filter_map attributes_in (link_parts sources) ≡ map attributes_entered (all_sections sources)
attributes_linked sources =
    attributes_alone first (link_parts sources)
    ∙ linked_said attributes_said (λ numbered. map attributes_entered (sections_of numbered.1)) attributes_are sources first
    ∙ all_viewed attributes_entered first.modules sources

pub globals_linked : (sources : List Source) → definitions_of (link_parts sources) ≡ all_globals sources
unfolding definitions_of
globals_linked sources =
    reported_is definition_in (of_entry definition_said) definition_same [] (link_parts sources)
    ∙ ap (λ seen. reported_by (of_entry definition_said) seen (link_parts sources)) first_is
    ∙ linked_said definition_said (λ numbered. map (in_source numbered.0) (globals_of numbered.1.facts))
    (λ source. globals_are source.facts) sources first

pub transfers_linked : (sources : List Source) → transfers_of (link_parts sources) ≡ all_transfers sources
unfolding transfers_of
transfers_linked sources =
    reported_is transfer_in (of_entry transfer_said) transfer_same [] (link_parts sources)
    ∙ ap (λ seen. reported_by (of_entry transfer_said) seen (link_parts sources)) first_is
    ∙ linked_said transfer_said (λ numbered. transfer_of numbered ∷ []) transfers_are sources first
    ∙ flat_map_single transfer_of (enumerate_from 0 sources)

-- ---- texts

texts_after_some : (modules : ℕ) (sources : List Source)
    → map stored_alone (texts_from modules absolute_name (link_parts sources))
    ≡ flat_map texts_at (enumerate_from modules sources)
texts_after_some modules [] = refl
texts_after_some modules (source ∷ sources) =
    ap (λ parts. map stored_alone (texts_from modules absolute_name parts))
    (append_assoc (source_parts source) (EndOfFile ∷ []) (link_parts sources))
    ∙ source_texts source modules (EndOfFile ∷ link_parts sources)
    ∙ ap (λ texts. texts_at (modules, source) ++ texts) (texts_after_some (modules + 1) sources)

pub texts_linked : (sources : List Source) → map stored_alone (object_texts (link_parts sources)) ≡ all_texts sources
unfolding object_texts
texts_linked sources =
    ap (map stored_alone) (texts_are [] (link_parts sources)
    ∙ ap (λ (seen : Seen). texts_from seen.modules seen.selected (link_parts sources)) first_is)
    ∙ texts_after_some 0 sources

pub has_sources : (sources : List Source) → HasSources sources
has_sources sources = record {
  sections = sections_linked sources;
  attributes = attributes_linked sources;
  globals = globals_linked sources;
  transfers = transfers_linked sources;
  texts = texts_linked sources;
}
