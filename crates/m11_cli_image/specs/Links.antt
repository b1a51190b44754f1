-- What a link reads from the objects of several sources, where it places their contributions, and the tape that it writes. (RT-11 Volume
-- and File Formats Manual, "Object file format".)
use Rattle.std.specs.Prelude.{◌≡◌, ℕ, ◌+◌, ◌≤◌, false, List, [], length, map, filter, find, None}
use Rattle.std.specs.List.{enumerate_from, filter_map, flat_map}
use Rattle.std.specs.Option.{unwrap_or}
use Rattle.m11_asm_outputs.specs.Object.{texts_of}
use Rattle.m11_base.specs.Devices.{Bytes}
use Rattle.m11_base.specs.Rad50.{Name}
use Rattle.m11_obj_blocks.specs.Tapes.{IsTape}
use Rattle.m11_link_layout.specs.declared.definition.Transfer.{Transfer}
use Rattle.m11_base_writes.specs.declared.outputs.Output.TheVariants.{Product}
use Rattle.m11_link_layout.specs.Globals.{definitions_of}
use Rattle.m11_link_layout.specs.Sections.{attributes_in, is_too_large, module_base, top}
use Rattle.m11_link_layout.specs.Transfers.{is_even, transfers_of}
use Rattle.m11_link.specs.Outputs.{link}
use Rattle.m11_link.specs.Written.{link_writes}
use Rattle.m11_link_laws.specs.LinkedTexts.{ObjectText, has_data, linked_text, object_texts}
use Rattle.m11_link_text.specs.Findings.{findings_of}
use Rattle.m11_link_text.specs.Relocation.{modulo, symbol}
use Rattle.m11_link_modules.specs.Parts.{Part}
use Rattle.m11_link_modules.specs.Positions.{sections_in}
use Rattle.m11_link_modules.specs.Rules.{first_fault}
use Rattle.m11_base_writes.specs.Writes.{gained}
use Rattle.m11_cli_image.specs.Globals.{all_globals, global}
use Rattle.m11_cli_image.specs.Objects.{link_parts, stored_alone, text_in, transfer_at}
use Rattle.m11_cli_image.specs.Sections.{all_sections, attributes_entered, contribution, size_entered, top_of}
use Rattle.m11_cli_image.specs.Sources.{Source}

-- ---- the parts

abbrev pub transfer_of : ℕ × Source → Transfer
transfer_of numbered = transfer_at numbered.0 numbered.1.facts.transfer

abbrev pub all_transfers : List Source → List Transfer
all_transfers sources = map transfer_of (enumerate_from 0 sources)

abbrev pub texts_at : ℕ × Source → List ObjectText
texts_at numbered = map (text_in numbered.0) (texts_of numbered.1.pieces)

abbrev pub all_texts : List Source → List ObjectText
all_texts sources = flat_map texts_at (enumerate_from 0 sources)

-- the objects have the sections with their sizes and attributes, the globals, the transfer addresses and the texts of all sources;
-- relocation commands that store nothing don't count
pub record HasSources (sources : List Source) : Type 0 where
  pub sections : sections_in (link_parts sources) ≡ map size_entered (all_sections sources)
  pub attributes : filter_map attributes_in (link_parts sources) ≡ map attributes_entered (all_sections sources)
  pub globals : definitions_of (link_parts sources) ≡ all_globals sources
  pub transfers : transfers_of (link_parts sources) ≡ all_transfers sources
  pub texts : map stored_alone (object_texts (link_parts sources)) ≡ all_texts sources

-- ---- the layout

-- the linker finds the contributions, the globals and the end of the relocatable sections at the addresses that follow from the sources
pub record LiesBySources (bottom : ℕ) (sources : List Source) : Type 0 where
  pub base : (index : ℕ) (name : Name)
      → module_base bottom (link_parts sources) index name ≡ contribution bottom sources index name
  pub global : (name : Name) → symbol (findings_of bottom (link_parts sources)) name ≡ global bottom sources name
  pub top : top bottom (link_parts sources) ≡ top_of bottom sources

-- a text doesn't extend past the last address
abbrev pub EndsInside : ℕ → List Source → ObjectText → Type 0
EndsInside bottom sources text =
    contribution bottom sources text.module_index text.section + text.address + length text.bytes ≤ 0o200000

-- ---- the tape

-- the address of a transfer entry, modulo 65536
abbrev pub beginning_at : ℕ → List Source → Transfer → ℕ
beginning_at bottom sources transfer =
    modulo (contribution bottom sources transfer.module_index transfer.section + transfer.value)

-- the first even transfer address, or 1, where no program starts, if there is none
abbrev pub beginning : ℕ → List Source → ℕ
beginning bottom sources = unwrap_or (find is_even (map (beginning_at bottom sources) (all_transfers sources))) 1

-- the non-empty texts of the sources, each at its address and with the values that its relocations store
abbrev pub linked_blocks : ℕ → List Source → List (ℕ × Bytes)
linked_blocks bottom sources =
    filter (λ text. has_data text.1) (map (linked_text (findings_of bottom (link_parts sources))) (all_texts sources))

-- a link of the objects has these parts and refuses none of them, no relocatable section ends above octal 160000, and the tape holds the
-- texts of the sources and the first even transfer address, or 1 if there is none
pub record AreLinked (bottom : ℕ) (sources : List Source) (parts : List Part) : Type 0 where
  pub parts_are : parts ≡ link_parts sources
  pub sound : first_fault [] parts ≡ None
  pub low : is_too_large bottom parts ≡ false
  pub tape : IsTape (linked_blocks bottom sources) (beginning bottom sources)
      (gained link Product (link_writes (findings_of bottom parts) parts))
