-- What a linker reads from the directory of a source's module.
use Rattle.std.proofs.Common.{◌≡◌, ◌∙◌, [], ◌∷◌, append-nil, map, Option, None, refl, sym, ap}
use Rattle.std.specs.List.{filter_map}
use Rattle.m11_asm_outputs.specs.Object.{texts_of}
use Rattle.m11_base.specs.Names.{absolute_name}
use Rattle.m11_asm_directory.specs.Rows.{directory_rows}
use Rattle.m11_link_layout.specs.Globals.{definition_in, definitions_of, last_section}
use Rattle.m11_link_layout.specs.Sections.{attributes_in}
use Rattle.m11_link_layout.specs.Transfers.{transfer_in, transfers_of}
use Rattle.m11_link_laws.specs.LinkedTexts.{object_texts}
use Rattle.m11_link_modules.specs.Positions.{current_section, modules_in, sections_in, this_module}
use Rattle.m11_obj.specs.declared.gsd.GsdEntry.{GsdEntry}
use Rattle.m11_obj.specs.Directory.{entry_of}
use Rattle.m11_obj.proofs.InRecords.{holds_rows}
use Rattle.m11_obj.proofs.InTexts.{holds_pieces}
use Rattle.m11_cli_image.specs.Globals.{globals_of, in_source}
use Rattle.m11_cli_image.specs.Objects.{HasDirectory, HasTexts, source_parts, stored_alone, text_in, transfer_at}
use Rattle.m11_cli_image.specs.Sections.{attributes_entered, sections_of, size_entered}
use Rattle.m11_cli_image.specs.Sources.{Source}
use Rattle.m11_cli_image.proofs.ReadEntries.{attributes_alone, attributes_said, definition_said, definition_same, entries_by, module_said, of_entry, section_said, sections_alone, transfer_said, transfer_same}
use Rattle.m11_cli_image.proofs.ReadGlobals.{globals_are}
use Rattle.m11_cli_image.proofs.ReadModules.{is_module, module_of}
use Rattle.m11_cli_image.proofs.ReadParts.{Seen, reported_by, reported_is, seen_of}
use Rattle.m11_cli_image.proofs.ReadRows.{attributes_are, sections_are, transfers_are}
use Rattle.m11_cli_image.proofs.ReadTexts.{source_texts, texts_are, texts_from}

-- the entries of a source's module are those of the rows of its directory
pub source_said : {X : Type 0} (said : Seen → GsdEntry → Option X) (seen : Seen) (source : Source)
    → reported_by (of_entry said) seen (source_parts source)
    ≡ entries_by said seen (map entry_of (directory_rows source.facts))
source_said said seen source =
    ap (reported_by (of_entry said) seen) (is_module source)
    ∙ module_said said (module_of source) seen
    ∙ ap (entries_by said seen) (holds_rows (directory_rows source.facts)).exact

-- the summary before the first part
abbrev pub first : Seen
first = record { modules = 0; entered = None; selected = absolute_name }

pub first_is : seen_of [] ≡ first
unfolding modules_in last_section this_module current_section sections_in
first_is = refl

sections_read : (source : Source) → sections_in (source_parts source) ≡ map size_entered (sections_of source)
unfolding sections_in
sections_read source =
    sections_alone first (source_parts source) ∙ source_said section_said first source ∙ sections_are source first

attributes_read : (source : Source)
    → filter_map attributes_in (source_parts source) ≡ map attributes_entered (sections_of source)
attributes_read source =
    attributes_alone first (source_parts source) ∙ source_said attributes_said first source ∙ attributes_are source first

globals_read : (source : Source) → definitions_of (source_parts source) ≡ map (in_source 0) (globals_of source.facts)
unfolding definitions_of
globals_read source =
    reported_is definition_in (of_entry definition_said) definition_same [] (source_parts source)
    ∙ ap (λ seen. reported_by (of_entry definition_said) seen (source_parts source)) first_is
    ∙ source_said definition_said first source ∙ globals_are source.facts first

transfer_read : (source : Source) → transfers_of (source_parts source) ≡ transfer_at 0 source.facts.transfer ∷ []
unfolding transfers_of
transfer_read source =
    reported_is transfer_in (of_entry transfer_said) transfer_same [] (source_parts source)
    ∙ ap (λ seen. reported_by (of_entry transfer_said) seen (source_parts source)) first_is
    ∙ source_said transfer_said first source ∙ transfers_are source first

pub has_directory : (source : Source) → HasDirectory source
has_directory source = record {
  sections = sections_read source;
  attributes = attributes_read source;
  globals = globals_read source;
  transfer = transfer_read source;
}

texts_read : (source : Source)
    → map stored_alone (object_texts (source_parts source)) ≡ map (text_in 0) (texts_of source.pieces)
unfolding object_texts
texts_read source =
    ap (map stored_alone) (texts_are [] (source_parts source)
    ∙ ap (λ (seen : Seen). texts_from seen.modules seen.selected (source_parts source)) first_is
    ∙ ap (texts_from 0 absolute_name) (sym (append-nil (source_parts source))))
    ∙ source_texts source 0 [] ∙ append-nil _

pub has_texts : (source : Source) → HasTexts source
has_texts source = record { texts = texts_read source; pieces = (holds_pieces source.pieces).exact }
