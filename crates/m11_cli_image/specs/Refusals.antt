-- The faults that a link of the objects of sources may have: an exceeded limit, or a text outside its section. (RT-11 Volume and File
-- Formats Manual, "Object file format"; MACRO-11 Language Reference Manual, ".PSECT directive" and "Current location counter". This
-- project's own: the limits, and that a location counter that reaches 200000 (octal) continues at 0, so no section has that size.)
use Rattle.std.specs.Prelude.{◌≡◌, ◌<◌, ◌≤◌, ℕ, ◌+◌, ◌&&◌, nat_le, nat_lt, Bool, true, false, List, [], ◌∷◌, ◌++◌, length, map, Option, Some, None, ⊤}
use Rattle.std.specs.List.{AllByRecursion, filter_map, flat_map, list_any}
use Rattle.std.specs.Map.{lookup}
use Rattle.std.specs.Option.{unwrap_or}
use Rattle.m11_base.specs.Rad50.{Name, is_same_name}
use Rattle.m11_asm_directory.specs.Rows.{directory_rows}
use Rattle.m11_obj_blocks.specs.Limited.{most_bytes}
use Rattle.m11_obj.specs.declared.directory.DirectoryRow.{DirectoryRow}
use Rattle.m11_obj.specs.declared.directory.DirectoryRow.TheVariants as row
use Rattle.m11_obj.specs.declared.pieces.Piece.{Piece}
use Rattle.m11_obj.specs.declared.pieces.PieceContent.{PieceContent}
use Rattle.m11_obj.specs.declared.pieces.PieceContent.TheVariants.{Byte, Word, Limits}
use Rattle.m11_obj.specs.declared.pieces.RelocationKind.{RelocationKind}
use Rattle.m11_obj.specs.declared.pieces.RelocationKind.TheVariants as kind
use Rattle.m11_obj.specs.Pieces.{size_of}
use Rattle.m11_link_modules.specs.Names.{is_among}
use Rattle.m11_link_modules.specs.Positions.{distinct}
use Rattle.m11_link_modules.specs.Rules.{most_globals, most_modules, most_sections}
use Rattle.m11_link_layout.specs.Sections.{is_relocatable}
use Rattle.m11_link_layout.specs.declared.fault.LinkFault.{LinkFault}
use Rattle.m11_link_layout.specs.declared.fault.LinkFault.TheVariants as fault
use Rattle.m11_cli_image.specs.Objects.{object_of, transfer_at}
use Rattle.m11_cli_image.specs.Sections as own
use Rattle.m11_cli_image.specs.Sections.{attributes_of, base_of, name_of, names_of, sections_of, size_entered}
use Rattle.m11_cli_image.specs.Sources.{Source}

-- ---- properties of a source that consists of live lines

-- no name occurs twice
abbrev pub AreOnce : List Name → Type 0
AreOnce [] = ⊤
AreOnce (name ∷ names) = (is_among names name ≡ false) × AreOnce names

abbrev pub own_names : Source → List Name
own_names source = map name_of (sections_of source)

-- the name is the name of a section of the source
abbrev pub IsOwn : Source → Name → Type 0
IsOwn source name = is_among (own_names source) name ≡ true

-- if a value is relative to a section, that section is one of the source's
abbrev pub KindIsOwn : Source → RelocationKind → Type 0
KindIsOwn source (kind.Section name) = IsOwn source name
KindIsOwn source (kind.SectionDisplaced name) = IsOwn source name
KindIsOwn source other = ⊤

abbrev pub ContentIsOwn : Source → PieceContent → Type 0
ContentIsOwn source (Byte stored) = KindIsOwn source stored.kind
ContentIsOwn source (Word stored) = KindIsOwn source stored.kind
ContentIsOwn source Limits = ⊤

pub record PieceIsOwn (source : Source) (piece : Piece) : Type 0 where
  pub section : IsOwn source piece.section
  pub content : ContentIsOwn source piece.content

-- the piece, whose location is below 65536, has a byte at octal 177777, the last location of a section
abbrev pub covers_last : Piece → Bool
covers_last piece = nat_le 0o200000 (piece.location + size_of piece)

-- some piece of the source has a byte at the last location of a section
abbrev pub fills_last : Source → Bool
fills_last source = list_any covers_last source.pieces

abbrev pub own_size : Source → Name → ℕ
own_size source name = unwrap_or (lookup (is_same_name name) (map size_entered (sections_of source))) 0

abbrev pub LiesInSection : Source → Piece → Type 0
LiesInSection source piece = piece.location + size_of piece ≤ own_size source piece.section

-- each section has a name of its own; the pieces, their values and the transfer address refer only to sections of the source; and if no
-- piece has a byte at the last location of a section, each piece is within the size of its section
pub record IsConsistent (source : Source) : Type 0 where
  pub once : AreOnce (own_names source)
  pub pieces : AllByRecursion (PieceIsOwn source) source.pieces
  pub within : fills_last source ≡ false → AllByRecursion (LiesInSection source) source.pieces
  pub begins : IsOwn source (transfer_at 0 source.facts.transfer).section

-- ---- refusals of a link

abbrev pub row_global : DirectoryRow → Option Name
row_global (row.Definition name is_relocatable value) = Some name
row_global (row.Reference name is_weak) = Some name
row_global other = None

abbrev pub kind_global : RelocationKind → Option Name
kind_global (kind.Global name) = Some name
kind_global (kind.GlobalDisplaced name) = Some name
kind_global other = None

abbrev pub content_global : PieceContent → Option Name
content_global (Byte stored) = kind_global stored.kind
content_global (Word stored) = kind_global stored.kind
content_global Limits = None

abbrev pub piece_global : Piece → Option Name
piece_global piece = content_global piece.content

-- the globals that a source names: those that its directory defines or refers to, and those to which values of its pieces are relative
abbrev pub own_globals : Source → List Name
own_globals source = filter_map row_global (directory_rows source.facts) ++ filter_map piece_global source.pieces

-- the globals that sources name, each once
abbrev pub globals_named : List Source → List Name
globals_named sources = distinct (flat_map own_globals sources)

abbrev pub is_long : Source → Bool
is_long source = nat_lt most_bytes (length (object_of source))

-- the section is relocatable and ends above octal 160000, where the device registers begin
abbrev pub ends_high : ℕ → List Source → Name → Bool
ends_high bottom sources name = is_relocatable (attributes_of sources name)
    && nat_lt 0o160000 (base_of bottom sources name + own.size_of sources name)

abbrev pub is_large : ℕ → List Source → Bool
is_large bottom sources = list_any (ends_high bottom sources) (names_of sources)

-- The fault is that of an exceeded limit: more than 32 sources; more than 256 names of sections, or 8,192 of globals, in all; an object of
-- more than 4,194,304 bytes; or a relocatable section that ends above octal 160000. Or it is that of a text outside its section, and then
-- some source has a byte at the last location of a section.
abbrev pub IsOfSizes : ℕ → List Source → LinkFault → Type 0
IsOfSizes bottom sources fault.TooManyModules = most_modules < length sources
IsOfSizes bottom sources fault.TooManySections = most_sections < length (names_of sources)
IsOfSizes bottom sources fault.TooManyGlobals = most_globals < length (globals_named sources)
IsOfSizes bottom sources fault.TooMuch = list_any is_long sources ≡ true
IsOfSizes bottom sources fault.TooLarge = is_large bottom sources ≡ true
IsOfSizes bottom sources fault.TextOutside = list_any fills_last sources ≡ true
IsOfSizes bottom sources other = ⊥

-- no limit is exceeded, and no source has a byte at the last location of a section
pub record IsWithinSizes (bottom : ℕ) (sources : List Source) : Type 0 where
  pub modules : length sources ≤ most_modules
  pub sections : length (names_of sources) ≤ most_sections
  pub globals : length (globals_named sources) ≤ most_globals
  pub objects : list_any is_long sources ≡ false
  pub low : is_large bottom sources ≡ false
  pub inside : list_any fills_last sources ≡ false
