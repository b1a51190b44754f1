-- The pieces of sources have the addresses of the values that their lines state.
use Rattle.std.proofs.Common.{◌≡◌, ◌∙◌, ℕ, ◌+◌, List, [], ◌∷◌, ◌++◌, map, flat_map, refl, ap, ap₂, subst}
use Rattle.std.specs.List.{AllByRecursion, enumerate_from}
use Rattle.std.proofs.lemmas.List.{map-append}
use Rattle.m11_base.specs.Devices.{Bytes}
use Rattle.m11_asm_rules.specs.Lines.{after_line, pieces, stands}
use Rattle.m11_asm_rules.specs.Meanings.{Map, empty_map}
use Rattle.m11_asm_rules.specs.Placements.{after_lines, placed_from, program_map, table_after}
use Rattle.m11_asm_rules.specs.Tables.{Table, firm_table, first_table}
use Rattle.m11_asm_rules.specs.declared.sections.Section.{Section}
use Rattle.m11_unfold_rules.specs.Unfolding.{UnfoldedLine}
use Rattle.m11_cli_image.specs.Addresses.{Addresses}
use Rattle.m11_cli_image.specs.Image.{addresses_of, image_of, placed_pieces}
use Rattle.m11_cli_image.specs.Pieces.{placed}
use Rattle.m11_cli_image.specs.Sources.{Source}
use Rattle.m11_cpu_laws.specs.Image.{byte_of}
use Rattle.m11_cli_image.specs.Agreement as agreement
use Rattle.m11_cli_image.specs.Agreement.{AbsolutesAgree, AreOf, IsOf}
use Rattle.m11_cli_image.specs.Lines.{all_lying, lines_lying, source_lying}
use Rattle.m11_cli_image.proofs.Absolutes.{AllAtZero, LieAtZero, LiesAtZero, all_at_zero, one_of}
use Rattle.m11_cli_image.proofs.LineLies.{line_lies}
use Rattle.m11_cli_image.proofs.TablesGrow.{Grows, lines_grow, operator_grows}

-- ---- sections are only added

module _ (P : Section → Type 0) where
  front_of : (xs ys : List Section) → AllByRecursion P (xs ++ ys) → AllByRecursion P xs
  front_of [] ys all = tt
  front_of (x ∷ xs) ys all = (all.0, front_of xs ys all.1)

  before : (old new : Table) → Grows old new → AllByRecursion P new.sections → AllByRecursion P old.sections
  before old new grows all = front_of old.sections grows.more (subst (AllByRecursion P) grows.sections all)

  -- a property of the sections after a line and all later ones holds of the sections at the line
  pub at_line : (known : Map) (table : Table) (given : UnfoldedLine) (lines : List UnfoldedLine)
      → AllByRecursion P (after_lines known table (given ∷ lines)).sections → AllByRecursion P (stands table given).sections
  at_line known table given lines all =
      before (stands table given) (after_line known table given) (operator_grows known table given)
      (before (after_line known table given) (after_lines known table (given ∷ lines)) (lines_grow known (after_line known table given) lines) all)

-- ---- the lines of one source

pub lines_lie : (program : Addresses) (source : ℕ) (known : Map) (table : Table) (lines : List UnfoldedLine)
    → LieAtZero program source (after_lines known table lines).sections
    → map (placed program source) (flat_map agreement.placed_pieces (placed_from known table lines))
    ≡ lines_lying program source known table lines
lines_lie program source known table [] all = refl
lines_lie program source known table (given ∷ lines) all =
    let stood = at_line (LiesAtZero program source) known table given lines all in
    map-append (placed program source) (pieces known table given)
    (flat_map agreement.placed_pieces (placed_from known (after_line known table given) lines))
    ∙ ap₂ (λ (here more : List (ℕ × Bytes)). here ++ more)
    (line_lies program source known table given
    (one_of program source (stands table given).modes.section (stands table given).sections stood))
    (lines_lie program source known (after_line known table given) lines all)

-- ---- all sources

-- any two maps place lines alike
abbrev pub Alike : Type 0
Alike = (one other : Map) (lines : List UnfoldedLine) → firm_table (table_after one lines) ≡ firm_table (table_after other lines)

pub zeros_of : Alike → (program : Addresses) (index : ℕ) (lines : List UnfoldedLine) (source : Source) → IsOf lines source
    → LieAtZero program index source.facts.table.sections → LieAtZero program index (table_after (program_map lines) lines).sections
zeros_of alike program index lines source is zeros =
    subst (LieAtZero program index) (ap (λ (t : Table). t.sections) is.table
    ∙ ap (λ (t : Table). t.sections) (alike empty_map (program_map lines) lines)) zeros

source_lies : Alike → (program : Addresses) (index : ℕ) (lines : List UnfoldedLine) (source : Source) → IsOf lines source
    → LieAtZero program index source.facts.table.sections
    → map (placed program index) source.pieces ≡ source_lying program (index, lines)
source_lies alike program index lines source is zeros =
    ap (map (placed program index)) is.pieces
    ∙ lines_lie program index (program_map lines) first_table lines (zeros_of alike program index lines source is zeros)

module _ (alike : Alike) (bottom : ℕ) (sources : List Source) where
  sources_lie : (index : ℕ) (all : List (List UnfoldedLine)) (others : List Source) → AreOf all others → AllAtZero bottom sources index others
      → flat_map (placed_pieces (addresses_of bottom sources)) (enumerate_from index others)
      ≡ flat_map (source_lying (addresses_of bottom sources)) (enumerate_from index all)
  sources_lie index [] [] are zeros = refl
  sources_lie index [] (source ∷ others) are zeros = absurd are
  sources_lie index (lines ∷ all) [] are zeros = absurd are
  sources_lie index (lines ∷ all) (source ∷ others) are zeros =
      ap₂ (λ (here more : List (ℕ × Bytes)). here ++ more)
      (source_lies alike (addresses_of bottom sources) index lines source are.0 zeros.0)
      (sources_lie (index + 1) all others are.1 zeros.1)

  pub image_lies : (all : List (List UnfoldedLine)) → AreOf all sources → AbsolutesAgree sources → (address : ℕ)
      → (image_of bottom sources).byte address ≡ byte_of (all_lying (addresses_of bottom sources) all) address
  unfolding image_of
  image_lies all are agree address =
      ap (λ (blocks : List (ℕ × Bytes)). byte_of blocks address)
      (sources_lie 0 all sources are (all_at_zero bottom sources 0 sources agree))
