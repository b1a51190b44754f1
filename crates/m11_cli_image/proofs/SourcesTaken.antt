-- The parts of sources, one source after another, have no fault but a limit.
use Rattle.std.proofs.Common.{◌≡◌, ◌∙◌, ℕ, ◌+◌, ◌<◌, ◌≤◌, Bool, true, false, List, [], ◌∷◌, ◌++◌, append_assoc, length, map, flat_map, Option, Some, None, refl, sym, ap, subst, arith}
use Rattle.std.proofs.lemmas.Bool.{or_left, or_parts, or_right}
use Rattle.std.specs.Prelude.{nat_le}
use Rattle.std.specs.List.{AllByRecursion, list_any}
use Rattle.std.specs.Map.{lookup}
use Rattle.std.specs.Option.{option_or, unwrap_or}
use Rattle.std.proofs.lemmas.Bool.Decides.{nat_tests}
use Rattle.m11_asm_directory.specs.Rows.{directory_rows}
use Rattle.m11_base.specs.Names.{absolute_name}
use Rattle.m11_base.specs.Rad50.{Name, is_same_name}
use Rattle.m11_link_modules.proofs.KnownAfter.{faults_known}
use Rattle.m11_link_modules.specs.Parts.{Part, EndOfDirectory, EndOfFile, EndOfModule, parts_of}
use Rattle.m11_link_modules.specs.Positions.{current_section, global_names, known_of, modules_in, section_names, sections_in, stage_after, text_length, this_module, distinct}
use Rattle.m11_link_modules.specs.Rules.{fault_known, first_fault, most_modules}
use Rattle.m11_link_modules.specs.Steps.{first_known_fault, known_after}
use Rattle.m11_link_modules.specs.declared.fault.ModuleFault.{ModuleFault}
use Rattle.m11_link_modules.specs.declared.stage.Stage.TheVariants.{Between, InBody}
use Rattle.m11_obj.proofs.InRecords.{holds_rows}
use Rattle.m11_obj.proofs.InTexts.{holds_pieces}
use Rattle.m11_obj.specs.Directory.{record_cutting}
use Rattle.m11_obj.specs.Fronts.{joined}
use Rattle.m11_obj.specs.Pieces.{size_of}
use Rattle.m11_obj.specs.Texts.{cutting, text_records}
use Rattle.m11_obj.specs.declared.gsd.GsdEntry.{GsdEntry}
use Rattle.m11_obj.specs.declared.pieces.Piece.{Piece}
use Rattle.m11_obj.specs.declared.pieces.PieceContent.{PieceContent}
use Rattle.m11_obj.specs.declared.pieces.PieceContent.TheVariants.{Byte, Word, Limits}
use Rattle.m11_obj.specs.declared.pieces.RelocationKind.{RelocationKind}
use Rattle.m11_obj.specs.declared.pieces.RelocationKind.TheVariants as kind
use Rattle.m11_cli_image.proofs.BytesPlaced.{cutting_runs}
use Rattle.m11_cli_image.proofs.ReadTexts.{whole_split}
use Rattle.m11_cli_image.specs.Objects.{link_parts, source_parts}
use Rattle.m11_cli_image.specs.Sections.{sections_of, size_entered}
use Rattle.m11_cli_image.specs.Sources.{Source}
use Rattle.m11_cli_image.specs.Refusals.{ContentIsOwn, IsConsistent, KindIsOwn, LiesInSection, PieceIsOwn, fills_last, covers_last}
use Rattle.m11_cli_image.proofs.DirectoryTaken.{Entered, Fine, MayAllCome, directory_ends, directory_goes, entered_after, state}
use Rattle.m11_cli_image.proofs.RowsTaken.{own_known, rows_come}
use Rattle.m11_cli_image.proofs.TextsTaken.{ContentNamed, KindNamed, Stands, module_ends, texts_go}

-- ---- the pieces of a source

pub not_past : (n : ℕ) → nat_le 65536 n ≡ false → n < 65536
not_past n e = grind (arith, nat_tests)

size_same : (found other : Option ℕ) (end : ℕ) → end ≤ unwrap_or found 0 → end ≤ unwrap_or (option_or found other) 0
size_same (Some size) other end le = le
size_same None other end le = omega (arith, le)

module _ (source : Source) where
  abbrev entered : Entered
  entered = map size_entered (sections_of source)

  kind_named : (how : RelocationKind) → KindIsOwn source how → KindNamed entered how
  kind_named kind.Fixed own = tt
  kind_named kind.Internal own = tt
  kind_named kind.InternalDisplaced own = tt
  kind_named (kind.Global name) own = tt
  kind_named (kind.GlobalDisplaced name) own = tt
  kind_named (kind.Section name) own = own_known source name own
  kind_named (kind.SectionDisplaced name) own = own_known source name own

  content_named : (content : PieceContent) → ContentIsOwn source content → ContentNamed entered content
  content_named (Byte stored) own = kind_named stored.kind own
  content_named (Word stored) own = kind_named stored.kind own
  content_named Limits own = tt

  -- if no piece has a byte at the last location, each piece ends at or before it
  none_reaches : (pieces : List Piece) → list_any covers_last pieces ≡ false
      → AllByRecursion (λ (piece : Piece). piece.location + size_of piece < 65536) pieces
  none_reaches [] e = tt
  none_reaches (piece ∷ pieces) e =
      let parts = or_parts (covers_last piece) (list_any covers_last pieces) e in
      (not_past (piece.location + size_of piece) parts.0, none_reaches pieces parts.1)

  pieces_stand : (fills : Bool) (pieces : List Piece) → AllByRecursion (PieceIsOwn source) pieces
      → (fills ≡ false → AllByRecursion (λ (piece : Piece). piece.location + size_of piece < 65536) pieces)
      → (fills ≡ false → AllByRecursion (LiesInSection source) pieces) → AllByRecursion (Stands entered fills) pieces
  pieces_stand fills [] own low within = tt
  pieces_stand fills (piece ∷ pieces) own low within = (
    record {
      section = own_known source piece.section own.0.section;
      content = content_named piece.content own.0.content;
      low = λ e. (low e).0;
      within = λ e. size_same (lookup (is_same_name piece.section) entered) _ (piece.location + size_of piece) (within e).0;
    },
    pieces_stand fills pieces own.1 (λ e. (low e).1) (λ e. (within e).1),
  )

-- ---- one source, and then others

module _ (many outside : Type 0) where
  abbrev Sound : Option ModuleFault → Type 0
  Sound fault = Fine many outside fault

  -- after this number of modules, these parts have no fault but a limit, whatever names come before
  abbrev GoesAt : ℕ → List Part → Type 0
  GoesAt modules parts = (sections globals : List Name)
      → Sound (first_known_fault (state Between modules sections globals [] absolute_name None) parts)

  end_goes : (modules : ℕ) (parts : List Part) → GoesAt modules parts → GoesAt modules (EndOfFile ∷ parts)
  unfolding fault_known known_after
  end_goes modules parts h sections globals = h sections globals

  source_goes : (modules : ℕ) (source : Source) (parts : List Part) → IsConsistent source → (nat_le most_modules modules ≡ true → many)
      → (fills_last source ≡ true → outside) → GoesAt (modules + 1) parts → GoesAt modules (source_parts source ++ EndOfFile ∷ parts)
  source_goes modules source parts is room hit h =
      let rows = directory_rows source.facts in
      let own = entered source in
      let fills = fills_last source in
      let rest : List Part = EndOfModule ∷ EndOfFile ∷ parts in
      let body : List Part = flat_map parts_of (text_records source.pieces) ++ rest in
      let come = rows_come source is in
      let P : List Piece → Type 0 = λ pieces. AllByRecursion (Stands own fills) pieces in
      let Q : List GsdEntry → Type 0 = λ entries. MayAllCome [] entries in
      let R : List Part → Type 0 = λ these. GoesAt modules these in
      let stand = subst P (sym (holds_pieces source.pieces).exact) (pieces_stand source fills source.pieces is.pieces
      (none_reaches source source.pieces) is.within) in
      let texts = texts_go many outside modules own fills hit None (cutting source.pieces) absolute_name None rest
      (cutting_runs source.pieces) stand tt (module_ends many outside modules own fills hit (EndOfFile ∷ parts) (end_goes (modules + 1) parts h)) in
      let same : entered_after [] (joined (record_cutting rows)) ≡ own = ap (entered_after []) (holds_rows rows).exact ∙ come.enter in
      let S : Entered → Type 0 = λ these. (sections globals : List Name)
      → Sound (first_known_fault (state InBody modules sections globals these absolute_name None) body) in
      subst R (sym (whole_split source (EndOfFile ∷ parts)))
      (directory_goes many outside modules absolute_name None room [] (record_cutting rows) (EndOfDirectory ∷ body)
      (subst Q (sym (holds_rows rows).exact) come.come)
      (directory_ends many outside modules absolute_name None room (entered_after [] (joined (record_cutting rows))) body
      (subst S (sym same) texts))).0

-- ---- all sources

first_known : known_of [] ≡ state Between 0 [] [] [] absolute_name None
unfolding known_of stage_after modules_in section_names sections_in global_names distinct this_module current_section text_length
first_known = refl

room_for : (modules rest all : ℕ) → modules + (rest + 1) ≡ all → nat_le most_modules modules ≡ true → most_modules < all
room_for modules rest all e le = grind (arith, nat_tests)

module _ (sources : List Source) where
  -- a fault of the parts of the sources is a limit
  abbrev pub IsLimit : Option ModuleFault → Type 0
  IsLimit fault = Fine (most_modules < length sources) (list_any fills_last sources ≡ true) fault

  rest_goes : (modules : ℕ) (rest : List Source) → modules + length rest ≡ length sources
      → (list_any fills_last rest ≡ true → list_any fills_last sources ≡ true) → AllByRecursion IsConsistent rest
      → GoesAt (most_modules < length sources) (list_any fills_last sources ≡ true) modules (link_parts rest)
  rest_goes modules [] count hit are sections globals = tt
  rest_goes modules (source ∷ rest) count hit are sections globals =
      let on : modules + 1 + length rest ≡ length sources = omega (arith, count) in
      let P : List Part → Type 0 = λ parts. IsLimit (first_known_fault (state Between modules sections globals [] absolute_name None) parts) in
      subst P (sym (append_assoc (source_parts source) (EndOfFile ∷ []) (link_parts rest)))
      (source_goes (most_modules < length sources) (list_any fills_last sources ≡ true) modules source (link_parts rest) are.0
      (room_for modules (length rest) (length sources) (omega (arith, count)))
      (λ e. hit (or_left (fills_last source) (list_any fills_last rest) e))
      (rest_goes (modules + 1) rest on (λ e. hit (or_right (fills_last source) (list_any fills_last rest) e)) are.1) sections globals)

  pub sources_go : AllByRecursion IsConsistent sources → IsLimit (first_fault [] (link_parts sources))
  sources_go are =
      let count : 0 + length sources ≡ length sources = omega arith in
      subst IsLimit (sym (faults_known [] (link_parts sources)
      ∙ ap (λ known. first_known_fault known (link_parts sources)) first_known))
      (rest_goes 0 sources count (λ e. e) are [] [])
