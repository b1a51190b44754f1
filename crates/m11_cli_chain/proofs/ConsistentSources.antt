-- The source that live lines define is consistent.
use Rattle.std.proofs.Common.{◌≡◌, ◌∙◌, ℕ, ◌+◌, ◌≤◌, true, false, get_or, List, [], ◌∷◌, map, Option, Some, None, refl, sym, ap, ap₂, subst}
use Rattle.std.specs.List.{AllByRecursion, enumerate_from}
use Rattle.std.specs.Map.{lookup}
use Rattle.std.specs.Option.{unwrap_or}
use Rattle.std.proofs.lemmas.Bool.{or_left, or_right}
use Rattle.m11_asm.specs.Written.{pieces_in}
use Rattle.m11_asm_directory.specs.FirstPass.{DirectoryFacts}
use Rattle.m11_asm_passes.specs.Lines.{NumberedLine, givens}
use Rattle.m11_asm_rules.proofs.History.{first_agrees}
use Rattle.m11_asm_rules.specs.Meanings.{Map, empty_map}
use Rattle.m11_asm_rules.specs.Placements.{program_map, table_after}
use Rattle.m11_asm_rules.specs.Sections.{first_sections}
use Rattle.m11_asm_rules.specs.Tables as tables
use Rattle.m11_asm_rules.specs.Tables.{Table, firm_table, first_table}
use Rattle.m11_asm_rules.specs.declared.sections.Section.{Section}
use Rattle.m11_base.specs.Names.{absolute_name, blank_name}
use Rattle.m11_base.specs.Rad50.{Name, alphabet, code_of, is_same_name}
use Rattle.m11_base.proofs.SameNames.{same_name_itself}
use Rattle.m11_link_modules.specs.Names.{is_among}
use Rattle.m11_obj.specs.Pieces.{size_of}
use Rattle.m11_obj.specs.declared.pieces.Piece.{Piece}
use Rattle.m11_obj.specs.declared.pieces.PieceContent.{PieceContent}
use Rattle.m11_obj.specs.declared.pieces.PieceContent.TheVariants.{Byte, Word, Limits}
use Rattle.m11_obj.specs.declared.pieces.RelocationKind.{RelocationKind}
use Rattle.m11_obj.specs.declared.pieces.RelocationKind.TheVariants as relocation
use Rattle.m11_scan_expressions.specs.Quantities.{Quantity}
use Rattle.m11_unfold_rules.specs.Unfolding.{UnfoldedLine}
use Rattle.m11_cli_image.specs.Objects.{transfer_at}
use Rattle.m11_cli_image.specs.Refusals.{AreOnce, ContentIsOwn, IsConsistent, IsOwn, KindIsOwn, LiesInSection, PieceIsOwn, own_size}
use Rattle.m11_cli_image.specs.Sections as own
use Rattle.m11_cli_image.specs.Sections.{own_section, sections_of, size_entered}
use Rattle.m11_cli_image.specs.Sources.{Source}
use Rattle.m11_cli_chain.specs.Sources.{source_of}
use Rattle.m11_cli_chain.proofs.EmissionsHeld.{ContentHolds, RelocationHolds}
use Rattle.m11_cli_chain.proofs.KindsHeld.{AllDefined, SectionHolds, TableHolds, none_defined, registers_defined}
use Rattle.m11_cli_chain.proofs.LinesInside.{Entered, FillsLaw, LiesIn, entered_from, final_size, lines_lie}
use Rattle.m11_cli_chain.proofs.LinesNamed.{BeginsIn, PieceHolds, definitions_hold, lines_begin, pieces_hold}
use Rattle.m11_cli_image.proofs.TablesGrow.{lines_grow, names_of}

-- any two maps place lines alike
abbrev pub AlikeLaw : Type 0
AlikeLaw = (one other : Map) (lines : List UnfoldedLine) → firm_table (table_after one lines) ≡ firm_table (table_after other lines)

-- ---- the names of sections are among themselves

wider : (name : Name) (names : List Name) (sections : List Section)
    → AllByRecursion (λ (section : Section). is_among names section.name ≡ true) sections
    → AllByRecursion (λ (section : Section). is_among (name ∷ names) section.name ≡ true) sections
wider name names [] h = tt
wider name names (section ∷ sections) h =
    (or_right (is_same_name section.name name) (is_among names section.name) h.0, wider name names sections h.1)

among_own : (sections : List Section) → AllByRecursion (λ (section : Section). is_among (names_of sections) section.name ≡ true) sections
among_own [] = tt
among_own (section ∷ sections) = (
  or_left (is_same_name section.name section.name) (is_among (names_of sections) section.name) (same_name_itself section.name),
  wider section.name (names_of sections) sections (among_own sections),
)

-- ---- the names of a source's sections

same_names : (facts : DirectoryFacts) (first : ℕ) (sections : List Section)
    → map own.name_of (map (own_section facts) (enumerate_from first sections)) ≡ names_of sections
same_names facts first [] = refl
same_names facts first (section ∷ sections) = ap (λ (names : List Name). section.name ∷ names) (same_names facts (first + 1) sections)

same_entered : (facts : DirectoryFacts) (first : ℕ) (sections : List Section)
    → entered_from (λ number. tables.size_of number facts.table) first sections ≡ map size_entered (map (own_section facts) (enumerate_from first sections))
same_entered facts first [] = refl
same_entered facts first (section ∷ sections) =
    ap (λ (these : Entered). (section.name, tables.size_of first facts.table) ∷ these) (same_entered facts (first + 1) sections)

-- ---- pieces, and the start of the program

module _ (source : Source) where
  kind_own : (how : RelocationKind) → RelocationHolds (IsOwn source) how → KindIsOwn source how
  kind_own relocation.Fixed h = tt
  kind_own relocation.Internal h = tt
  kind_own relocation.InternalDisplaced h = tt
  kind_own (relocation.Global name) h = tt
  kind_own (relocation.GlobalDisplaced name) h = tt
  kind_own (relocation.Section name) h = h
  kind_own (relocation.SectionDisplaced name) h = h

  content_own : (content : PieceContent) → ContentHolds (IsOwn source) content → ContentIsOwn source content
  content_own (Byte stored) h = kind_own stored.kind h
  content_own (Word stored) h = kind_own stored.kind h
  content_own Limits h = tt

  pieces_own : (blank : IsOwn source blank_name) (pieces : List Piece) → AllByRecursion (PieceHolds (IsOwn source) blank) pieces
      → AllByRecursion (PieceIsOwn source) pieces
  pieces_own blank [] h = tt
  pieces_own blank (piece ∷ pieces) h =
      (record { section = h.0.section; content = content_own piece.content h.0.content }, pieces_own blank pieces h.1)

  pieces_lie : (final : Table) → ((name : Name) → final_size final name ≡ own_size source name) → (pieces : List Piece)
      → AllByRecursion (LiesIn final) pieces → AllByRecursion (LiesInSection source) pieces
  pieces_lie final same [] h = tt
  pieces_lie final same (piece ∷ pieces) h =
      (subst (λ (size : ℕ). piece.location + size_of piece ≤ size) (same piece.section) h.0, pieces_lie final same pieces h.1)

  begins_own : (blank : IsOwn source blank_name) (absolute : IsOwn source absolute_name) (found : Option Quantity)
      → BeginsIn (IsOwn source) blank absolute found → IsOwn source (transfer_at 0 found).section
  begins_own blank absolute (Some value) h = h
  begins_own blank absolute None h = absolute

-- ---- the source of live lines

different : is_among (blank_name ∷ []) absolute_name ≡ false
unfolding alphabet code_of
different = refl

module _ (alike : AlikeLaw) (fills : FillsLaw) (lines : List NumberedLine) where
  abbrev all : List UnfoldedLine
  all = givens lines

  abbrev source : Source
  source = source_of lines

  abbrev known : Map
  known = program_map all

  -- the tables after all lines, with no map and with that of the program
  abbrev last : Table
  last = table_after empty_map all

  abbrev final : Table
  final = table_after known all

  sections_same : final.sections ≡ last.sections
  sections_same = ap (λ (t : Table). t.sections) (alike known empty_map all)

  sizes_same : final.sizes ≡ last.sizes
  sizes_same = ap (λ (t : Table). t.sizes) (alike known empty_map all)

  abbrev AreOwn : List Section → Type 0
  AreOwn sections = AllByRecursion (SectionHolds (IsOwn source)) sections

  sections_own : AreOwn last.sections
  sections_own =
      subst (λ (names : List Name). AllByRecursion (λ (section : Section). is_among names section.name ≡ true) last.sections)
      (sym (same_names source.facts 0 last.sections)) (among_own last.sections)

  first_own : AreOwn first_sections
  first_own =
      let g = lines_grow empty_map first_table all in
      let both = subst AreOwn g.sections sections_own in
      (both.0, (both.1.0, tt))

  abbrev blank : IsOwn source blank_name
  blank = first_own.1.0

  first_held : TableHolds (IsOwn source) blank first_table
  first_held = record { definitions = registers_defined (IsOwn source); sections = first_own }

  defined : AllDefined (IsOwn source) known.definitions
  defined = definitions_hold (IsOwn source) blank empty_map first_table all (none_defined (IsOwn source)) first_held sections_own

  names_once : AreOnce (names_of last.sections)
  names_once = (lines_grow empty_map first_table all).once (different, (refl, tt))

  size_same : (name : Name) → final_size final name ≡ own_size source name
  size_same name =
      ap₂ (λ (sizes : List ℕ) (sections : List Section).
      unwrap_or (lookup (is_same_name name) (entered_from (λ number. get_or sizes number 0) 0 sections)) 0) sizes_same sections_same
      ∙ ap (λ (entered : Entered). unwrap_or (lookup (is_same_name name) entered) 0) (same_entered source.facts 0 last.sections)

  pub is_consistent : IsConsistent (source_of lines)
  unfolding pieces_in
  is_consistent = record {
    once = subst AreOnce (sym (same_names source.facts 0 last.sections)) names_once;
    pieces = pieces_own source blank source.pieces
        (pieces_hold (IsOwn source) blank known first_table all defined first_held (subst AreOwn (sym sections_same) sections_own));
    within = λ none. pieces_lie source final size_same source.pieces
        (lines_lie fills known final (subst (λ (sections : List Section). AreOnce (names_of sections)) (sym sections_same) names_once)
        [] first_table all refl first_agrees none);
    begins = begins_own source blank first_own.0 source.facts.transfer
        (lines_begin (IsOwn source) blank first_own.0 first_table all first_held sections_own);
  }
