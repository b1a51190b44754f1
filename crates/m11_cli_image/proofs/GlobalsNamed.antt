-- The globals that parts of sources name are those that the sources name.
use Rattle.std.proofs.Common.{◌≡◌, ◌∙◌, ℕ, ◌+◌, ◌==◌, Bool, true, false, if◌then◌else◌, List, [], ◌∷◌, ◌++◌, append-nil, map, flat_map, Option, Some, None, refl, sym, ap, ap₂}
use Rattle.std.specs.Prelude.{option_map}
use Rattle.std.specs.List.{cons_option, filter_map}
use Rattle.std.specs.Option.{option_to_list}
use Rattle.std.proofs.lemmas.List.Concat.{flat_map-append}
use Rattle.std.proofs.lemmas.List.Elements.{filter_map-append}
use Rattle.m11_asm_directory.specs.Rows.{directory_rows}
use Rattle.m11_base.specs.Rad50.{Name}
use Rattle.m11_link_modules.specs.Grammar.{directory_parts}
use Rattle.m11_link_modules.specs.Parts.{Part, Entry, EndOfDirectory, EndOfFile, EndOfModule, Relocated, parts_of}
use Rattle.m11_link_modules.specs.Positions.{distinct, global_by, global_in, global_names, global_of}
use Rattle.m11_obj.proofs.InRecords.{holds_rows}
use Rattle.m11_obj.proofs.InTexts.{holds_pieces}
use Rattle.m11_obj.specs.Directory.{entry_of, record_cutting}
use Rattle.m11_obj.specs.Fronts.{joined}
use Rattle.m11_obj.specs.Pieces.{relocation, relocation_at, relocations_from, relocations_of, size_of, target_of}
use Rattle.m11_obj.specs.Records.{Content}
use Rattle.m11_obj.specs.Records as records
use Rattle.m11_obj.specs.Texts.{cutting, is_in_section, records_of, relocation_records, selection, text_of, text_records, texts_after}
use Rattle.m11_obj.specs.declared.directory.DirectoryRow.{DirectoryRow}
use Rattle.m11_obj.specs.declared.directory.DirectoryRow.TheVariants as row
use Rattle.m11_obj.specs.declared.gsd.GsdEntry.{GsdEntry}
use Rattle.m11_obj.specs.declared.pieces.Piece.{Piece}
use Rattle.m11_obj.specs.declared.pieces.PieceContent.{PieceContent}
use Rattle.m11_obj.specs.declared.pieces.PieceContent.TheVariants.{Byte, Word, Limits}
use Rattle.m11_obj.specs.declared.pieces.RelocationKind.{RelocationKind}
use Rattle.m11_obj.specs.declared.pieces.RelocationKind.TheVariants as kind
use Rattle.m11_obj.specs.declared.relocations.Relocation.{Relocation}
use Rattle.m11_obj.specs.declared.relocations.Target.{Target}
use Rattle.m11_obj.specs.declared.relocations.Target.TheVariants as target
use Rattle.m11_cli_image.specs.Objects.{link_parts, object_parts, source_parts}
use Rattle.m11_cli_image.specs.Refusals.{content_global, globals_named, kind_global, own_globals, piece_global, row_global}
use Rattle.m11_cli_image.specs.Sources.{Source}
use Rattle.m11_cli_image.proofs.ReadModules.{split}

abbrev named : List Part → List Name
named parts = filter_map global_in parts

both : (some more : List Part) → named (some ++ more) ≡ named some ++ named more
both some more = filter_map-append global_in some more

-- ---- the directory

abbrev entry_global : GsdEntry → Option Name
entry_global entry = global_by entry.kind entry

entries_named : (entries : List GsdEntry) → named (map (λ entry. Entry entry) entries) ≡ filter_map entry_global entries
entries_named [] = refl
entries_named (entry ∷ entries) = ap (cons_option (entry_global entry)) (entries_named entries)

directory_named : (cuts : List (List GsdEntry)) → named (flat_map directory_parts cuts) ≡ filter_map entry_global (joined cuts)
directory_named [] = refl
directory_named (entries ∷ cuts) =
    both (map (λ entry. Entry entry) entries) (flat_map directory_parts cuts)
    ∙ ap₂ (λ (some more : List Name). some ++ more) (entries_named entries) (directory_named cuts)
    ∙ sym (filter_map-append entry_global entries (joined cuts))

rows_named : (rows : List DirectoryRow) → filter_map entry_global (map entry_of rows) ≡ filter_map row_global rows
rows_named [] = refl
rows_named (row.Definition name moves value ∷ rows) = ap (λ (names : List Name). name ∷ names) (rows_named rows)
rows_named (row.Reference name is_weak ∷ rows) = ap (λ (names : List Name). name ∷ names) (rows_named rows)
rows_named (other ∷ rows) = rows_named rows

-- ---- texts

abbrev relocation_global : Relocation → Option Name
relocation_global one = global_of one.target

relocations_named : (relocations : List Relocation) → named (map (λ one. Relocated one) relocations) ≡ filter_map relocation_global relocations
relocations_named [] = refl
relocations_named (one ∷ relocations) = ap (cons_option (relocation_global one)) (relocations_named relocations)

-- the global that a relocation names, as a list; empty if there is no relocation or it names none
abbrev said : Option Relocation → List Name
said found = filter_map relocation_global (option_to_list found)

global_either : (b is_byte : Bool) (displacement : ℕ) (one other : Target) (name : Name) → global_of one ≡ Some name
    → global_of other ≡ Some name → said (Some (relocation is_byte displacement (if b then one else other))) ≡ name ∷ []
global_either true is_byte displacement one other name e f = ap (λ found. cons_option found []) e
global_either false is_byte displacement one other name e f = ap (λ found. cons_option found []) f

none_either : (b is_byte : Bool) (displacement : ℕ) (one other : Target) → global_of one ≡ None → global_of other ≡ None
    → said (Some (relocation is_byte displacement (if b then one else other))) ≡ []
none_either true is_byte displacement one other e f = ap (λ found. cons_option found []) e
none_either false is_byte displacement one other e f = ap (λ found. cons_option found []) f

stored_named : (is_byte : Bool) (displacement constant : ℕ) (how : RelocationKind)
    → said (option_map (λ to. relocation is_byte displacement to) (target_of how constant)) ≡ option_to_list (kind_global how)
stored_named is_byte displacement constant kind.Fixed = refl
stored_named is_byte displacement constant kind.Internal = refl
stored_named is_byte displacement constant kind.InternalDisplaced = refl
stored_named is_byte displacement constant (kind.Global name) =
    global_either (constant == 0) is_byte displacement (target.Global name) (target.GlobalAdditive name constant) name refl refl
stored_named is_byte displacement constant (kind.GlobalDisplaced name) =
    global_either (constant == 0) is_byte displacement (target.GlobalDisplaced name) (target.GlobalAdditiveDisplaced name constant) name refl refl
stored_named is_byte displacement constant (kind.Section name) =
    none_either (constant == 0) is_byte displacement (target.Section name) (target.SectionAdditive name constant) refl refl
stored_named is_byte displacement constant (kind.SectionDisplaced name) =
    none_either (constant == 0) is_byte displacement (target.SectionDisplaced name) (target.SectionAdditiveDisplaced name constant) refl refl

content_named : (displacement : ℕ) (content : PieceContent)
    → said (relocation_at displacement content) ≡ option_to_list (content_global content)
content_named displacement (Byte stored) = stored_named true displacement stored.constant stored.kind
content_named displacement (Word stored) = stored_named false displacement stored.constant stored.kind
content_named displacement Limits = refl

one_more : (found : Option Name) (names : List Name) → option_to_list found ++ names ≡ cons_option found names
one_more None names = refl
one_more (Some name) names = refl

pieces_named : (displacement : ℕ) (pieces : List Piece)
    → filter_map relocation_global (relocations_from displacement pieces) ≡ filter_map piece_global pieces
pieces_named displacement [] = refl
pieces_named displacement (piece ∷ pieces) =
    filter_map-append relocation_global (option_to_list (relocation_at displacement piece.content))
    (relocations_from (displacement + size_of piece) pieces)
    ∙ ap₂ (λ (some more : List Name). some ++ more) (content_named displacement piece.content)
    (pieces_named (displacement + size_of piece) pieces)
    ∙ one_more (piece_global piece) (filter_map piece_global pieces)

record_named : (relocations : List Relocation)
    → named (flat_map parts_of (relocation_records relocations)) ≡ filter_map relocation_global relocations
record_named [] = refl
record_named (one ∷ relocations) =
    ap named (append-nil (map (λ one. Relocated one) (one ∷ relocations))) ∙ relocations_named (one ∷ relocations)

text_named : (b : Bool) (section : Name) (location : ℕ) (bytes : List ℕ) (relocations : List Relocation)
    → named (flat_map parts_of ((if b then [] else selection section location ∷ [])
    ++ records.Text location bytes ∷ relocation_records relocations)) ≡ filter_map relocation_global relocations
text_named true section location bytes relocations = record_named relocations
text_named false section location bytes relocations = record_named relocations

texts_named : (before : Option Name) (fronts : List (List Piece))
    → named (flat_map parts_of (flat_map records_of (texts_after before fronts))) ≡ filter_map piece_global (joined fronts)
texts_named before [] = refl
texts_named before ([] ∷ fronts) = texts_named before fronts
texts_named before ((first ∷ rest) ∷ fronts) =
    let own = records_of (text_of before first rest) in
    let more = flat_map records_of (texts_after (Some first.section) fronts) in
    ap named (flat_map-append parts_of own more)
    ∙ both (flat_map parts_of own) (flat_map parts_of more)
    ∙ ap₂ (λ (some more : List Name). some ++ more)
    (text_named (is_in_section before first.section) first.section first.location _ (relocations_of (first ∷ rest))
    ∙ pieces_named 4 (first ∷ rest))
    (texts_named (Some first.section) fronts)
    ∙ sym (filter_map-append piece_global (first ∷ rest) (joined fronts))

-- ---- sources

source_named : (source : Source) → named (object_parts source) ≡ own_globals source
source_named source =
    let rows = directory_rows source.facts in
    let directory = flat_map directory_parts (record_cutting rows) in
    let texts = flat_map parts_of (text_records source.pieces) in
    both (source_parts source) (EndOfFile ∷ []) ∙ append-nil (named (source_parts source))
    ∙ ap named (split source)
    ∙ both (directory ++ EndOfDirectory ∷ texts) (EndOfModule ∷ []) ∙ append-nil (named (directory ++ EndOfDirectory ∷ texts))
    ∙ both directory (EndOfDirectory ∷ texts)
    ∙ ap₂ (λ (some more : List Name). some ++ more)
    (directory_named (record_cutting rows) ∙ ap (filter_map entry_global) (holds_rows rows).exact ∙ rows_named rows)
    (texts_named None (cutting source.pieces) ∙ ap (filter_map piece_global) (holds_pieces source.pieces).exact)

sources_named : (sources : List Source) → named (link_parts sources) ≡ flat_map own_globals sources
sources_named [] = refl
sources_named (source ∷ sources) =
    both (object_parts source) (link_parts sources)
    ∙ ap₂ (λ (some more : List Name). some ++ more) (source_named source) (sources_named sources)

pub globals_same : (sources : List Source) → global_names (link_parts sources) ≡ globals_named sources
unfolding global_names
globals_same sources = ap distinct (sources_named sources)
