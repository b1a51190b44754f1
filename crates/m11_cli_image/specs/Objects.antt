-- The object of a source, and what a linker reads from it. (RT-11 Volume and File Formats Manual, "Object file format".)
use Rattle.std.specs.Prelude.{◌≡◌, ◌<◌, ◌^◌, ℕ, List, [], ◌∷◌, ◌++◌, map, filter, Option, Some, None, Ok}
use Rattle.std.specs.List.{AllByRecursion, filter_map, flat_map}
use Rattle.m11_asm_outputs.specs.Object.{object_contents, texts_of}
use Rattle.m11_base.specs.Devices.{Bytes}
use Rattle.m11_base.specs.Names.{absolute_name}
use Rattle.m11_obj_blocks.specs.Frames.{AreBlocks, block}
use Rattle.m11_asm_directory.specs.Rows.{directory_rows}
use Rattle.m11_asm_directory.specs.Transfers.{home}
use Rattle.m11_link_layout.specs.declared.definition.Transfer.{Transfer}
use Rattle.m11_link_layout.specs.Globals.{definitions_of}
use Rattle.m11_link_layout.specs.Sections.{attributes_in}
use Rattle.m11_link_layout.specs.Transfers.{transfers_of}
use Rattle.m11_link_laws.specs.LinkedTexts.{ObjectText, object_texts}
use Rattle.m11_link_modules.specs.Grammar.{Module, module_parts}
use Rattle.m11_link_modules.specs.Parts.{Part, EndOfFile, parts_of}
use Rattle.m11_link_modules.specs.Positions.{sections_in}
use Rattle.m11_obj.specs.Reading.{content_of}
use Rattle.m11_obj.specs.Records.{Content, Fits, record_data}
use Rattle.m11_obj.specs.declared.pieces.Piece.{Piece}
use Rattle.m11_obj.specs.Fronts.{joined}
use Rattle.m11_obj.specs.TextsRead.{is_stored}
use Rattle.m11_obj.specs.Texts.{TextParts, cutting}
use Rattle.m11_asm_rules.specs.declared.sections.Section.{Section}
use Rattle.m11_asm_rules.specs.Sections.{of_absolute, section}
use Rattle.m11_scan_expressions.specs.Quantities.{Quantity}
use Rattle.m11_cli_image.specs.Globals.{globals_of, in_source}
use Rattle.m11_cli_image.specs.Sections.{attributes_entered, sections_of, size_entered}
use Rattle.m11_cli_image.specs.Sources.{Source}

-- ---- the object

-- the records of the object of a source: those of the directory, those of the texts, and the end of the module
abbrev pub contents_of : Source → List Content
contents_of source = object_contents (directory_rows source.facts) source.pieces

abbrev pub data_of : Source → List Bytes
data_of source = map record_data (contents_of source)

-- the object of a source: each record in a block of its own
abbrev pub object_of : Source → Bytes
object_of source = flat_map block (data_of source)

-- ---- properties of an assembled source

abbrev pub LiesAtWord : Piece → Type 0
LiesAtWord piece = piece.location < 2 ^ 16

-- the object of the source can be written and read back
pub record SourceFits (source : Source) : Type 0 where
  -- the fields of each record fit, and its bytes fit a block
  pub records : AllByRecursion Fits (contents_of source)
  pub locations : AllByRecursion LiesAtWord source.pieces
  -- `. ABS.` is the first section
  pub others : List Section
  pub absolute : source.facts.table.sections ≡ section absolute_name of_absolute ∷ others

-- ---- the parts of the object

abbrev pub source_parts : Source → List Part
source_parts source = flat_map parts_of (contents_of source)

-- the parts of the object of a source, and then the end of the file
abbrev pub object_parts : Source → List Part
object_parts source = source_parts source ++ EndOfFile ∷ []

-- the parts of the objects of sources, one after another
abbrev pub link_parts : List Source → List Part
link_parts sources = flat_map object_parts sources

-- ---- reading one object

-- each block of the object of a source is read as a record of the source, and the records are one module
pub record IsReadBack (source : Source) : Type 0 where
  pub blocks : AreBlocks (data_of source) (object_of source)
  pub records : map content_of (data_of source) ≡ map (λ content. Ok content) (contents_of source)
  pub whole : Module
  pub is_whole : source_parts source ≡ module_parts whole

-- the transfer entry of the source with this index: the source's transfer address; or 1 in `. ABS.`, where no program starts, if the source
-- has none
abbrev pub transfer_at : ℕ → Option Quantity → Transfer
transfer_at index (Some value) = record { module_index = index; section = home value.kind; value = value.number }
transfer_at index None = record { module_index = index; section = absolute_name; value = 1 }

-- the module has entries for the sections of the source with their sizes and attributes, defines its globals, and has its transfer entry
pub record HasDirectory (source : Source) : Type 0 where
  pub sections : sections_in (source_parts source) ≡ map size_entered (sections_of source)
  pub attributes : filter_map attributes_in (source_parts source) ≡ map attributes_entered (sections_of source)
  pub globals : definitions_of (source_parts source) ≡ map (in_source 0) (globals_of source.facts)
  pub transfer : transfers_of (source_parts source) ≡ transfer_at 0 source.facts.transfer ∷ []

-- a text without the relocation commands that only select a section and a location, and store nothing
abbrev pub stored_alone : ObjectText → ObjectText
stored_alone text = record text { relocations = filter is_stored text.relocations }

-- a text of the source with this index, as a linker reads it
abbrev pub text_in : ℕ → TextParts → ObjectText
text_in index text = record {
  module_index = index;
  section = text.section;
  address = text.location;
  bytes = text.bytes;
  relocations = text.relocations;
}

-- the texts of the module, without relocation commands that store nothing, are those made from the pieces of the source, and hold exactly
-- these pieces
pub record HasTexts (source : Source) : Type 0 where
  pub texts : map stored_alone (object_texts (source_parts source)) ≡ map (text_in 0) (texts_of source.pieces)
  pub pieces : joined (cutting source.pieces) ≡ source.pieces
