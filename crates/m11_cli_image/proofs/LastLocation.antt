-- If a link refuses nothing, no source has a byte at the last location of a section.
use Rattle.std.proofs.Common.{◌≡◌, ◌∙◌, ℕ, ◌+◌, ◌<◌, Bool, true, false, if◌then◌else◌, List, [], ◌∷◌, append_assoc, length, map, Option, Some, None, Ok, refl, subst, arith}
use Rattle.std.proofs.lemmas.Bool.{or_from}
use Rattle.std.proofs.lemmas.List.Folds.{list_any-append}
use Rattle.std.specs.Prelude.{nat_le}
use Rattle.std.specs.List.{AllByRecursion, list_any}
use Rattle.std.specs.Map.{lookup}
use Rattle.std.specs.Option.{option_or, unwrap_or}
use Rattle.std.proofs.lemmas.Bool.Decides.{nat_tests}
use Rattle.std.proofs.lemmas.List.{length-append}
use Rattle.m11_asm_outputs.specs.Object.{texts_of}
use Rattle.m11_base.specs.Names.{absolute_name}
use Rattle.m11_base.specs.Rad50.{Name, is_same_name}
use Rattle.m11_link.specs.Objects.{AreItems, Item, outcome}
use Rattle.m11_link_modules.specs.Parts.{Part, EndOfFile}
use Rattle.m11_link_modules.specs.Positions.{size_known}
use Rattle.m11_link_modules.specs.Rules.{first_fault}
use Rattle.m11_obj.proofs.InTexts.{holds_pieces}
use Rattle.m11_obj.specs.Fronts.{joined}
use Rattle.m11_obj.specs.Pieces.{content_bytes, size_of, text_bytes}
use Rattle.m11_obj.specs.Texts.{cutting, texts_after}
use Rattle.m11_obj.specs.declared.pieces.Piece.{Piece}
use Rattle.m11_cli_image.specs.Objects.{SourceFits, link_parts, object_of, source_parts}
use Rattle.m11_cli_image.specs.Refusals.{covers_last, fills_last}
use Rattle.m11_cli_image.specs.Sections.{sections_of, size_entered}
use Rattle.m11_cli_image.specs.Sources.{Source}
use Rattle.m11_cli_image.proofs.BoundedTexts.{Bounded, TextWithin, source_bounded}
use Rattle.m11_cli_image.proofs.BytesPlaced.{IsRun, Runs, cutting_runs, runs_of}
use Rattle.m11_cli_image.proofs.LinkedTapes.{are_linked}
use Rattle.m11_cli_image.proofs.TextsInside.{SmallSize, first_bounded, found_small, sizes_small}

-- ---- pieces of one text

low_not : (n : ℕ) → n < 65536 → nat_le 65536 n ≡ false
low_not n lt = grind (arith, nat_tests)

-- if pieces, each beginning where the one before it ends, end at or before the last location, none has a byte there
run_not : (section : Name) (location : ℕ) (pieces : List Piece) → Runs section location pieces
    → location + length (text_bytes pieces) < 65536 → list_any covers_last pieces ≡ false
run_not section location [] run low = refl
run_not section location (piece ∷ pieces) run low =
    let size = length-append (content_bytes piece.content) (text_bytes pieces) in
    let at = run.1 in
    or_from (covers_last piece) (list_any covers_last pieces)
    (low_not (piece.location + size_of piece) (omega (arith, low, size, at)))
    (run_not section (location + size_of piece) pieces run.2 (omega (arith, low, size)))

-- ---- the texts of a source

known_low : (name : Name) (entered : List (Name × ℕ)) → AllByRecursion SmallSize entered → unwrap_or (size_known entered name) 0 < 65536
known_low name entered small = by (lookup (is_same_name name) entered) refl (is_same_name name absolute_name)
  where
    by : (found : Option ℕ) → lookup (is_same_name name) entered ≡ found → (b : Bool)
        → unwrap_or (option_or found (if b then Some 0 else None)) 0 < 65536
    by (Some size) e b = found_small name entered size small e
    by None e true = omega arith
    by None e false = omega arith

fronts_not : (source : Source) → SourceFits source → (before : Option Name) (fronts : List (List Piece)) → AllByRecursion IsRun fronts
    → AllByRecursion (TextWithin source) (texts_after before fronts) → list_any covers_last (joined fronts) ≡ false
fronts_not source fits before [] run within = refl
fronts_not source fits before ([] ∷ fronts) run within = fronts_not source fits before fronts run.1 within
fronts_not source fits before ((first ∷ rest) ∷ fronts) run within =
    let here = within.0 in
    let size = known_low first.section (map size_entered (sections_of source)) (sizes_small source fits) in
    let low : first.location + length (text_bytes (first ∷ rest)) < 65536 = omega (arith, here, size) in
    list_any-append covers_last (first ∷ rest) (joined fronts)
    ∙ or_from (list_any covers_last (first ∷ rest)) (list_any covers_last (joined fronts))
    (run_not first.section first.location (first ∷ rest) (runs_of first rest run.0 (omega (arith, low))) low)
    (fronts_not source fits (Some first.section) fronts run.1 within.1)

source_not : (source : Source) → SourceFits source → AllByRecursion (TextWithin source) (texts_of source.pieces) → fills_last source ≡ false
source_not source fits within =
    let P : List Piece → Type 0 = λ pieces. list_any covers_last pieces ≡ false in
    subst P (holds_pieces source.pieces).exact
    (fronts_not source fits None (cutting source.pieces) (cutting_runs source.pieces) within)

-- ---- all sources

sources_not : (sources : List Source) → AllByRecursion SourceFits sources → Bounded [] absolute_name (link_parts sources)
    → list_any fills_last sources ≡ false
sources_not [] fit bounds = refl
sources_not (source ∷ sources) fit bounds =
    let P : List Part → Type 0 = λ parts. Bounded [] absolute_name parts in
    let split = source_bounded source (EndOfFile ∷ link_parts sources)
    (subst P (append_assoc (source_parts source) (EndOfFile ∷ []) (link_parts sources)) bounds) in
    or_from (fills_last source) (list_any fills_last sources) (source_not source fit.0 split.0) (sources_not sources fit.1 split.1)

pub none_fill : (bottom : ℕ) (sources : List Source) (items : List Item) (parts : List Part) → AllByRecursion SourceFits sources
    → AreItems (map object_of sources) items → outcome bottom items ≡ Ok parts → list_any fills_last sources ≡ false
none_fill bottom sources items parts fit are e =
    let linked = are_linked bottom sources items parts fit are e in
    let P : List Part → Type 0 = λ these. first_fault [] these ≡ None in
    sources_not sources fit (first_bounded (link_parts sources) (subst P linked.parts_are linked.sound))
