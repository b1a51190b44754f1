-- Pieces of live lines are within the sizes of their sections if none has a byte at the last location.
use Rattle.std.proofs.Common.{◌≡◌, ◌∙◌, ℕ, zero, suc, ◌+◌, ◌<◌, ◌≤◌, ◌%◌, max, Bool, true, false, if◌then◌else◌, List, [], ◌∷◌, ◌++◌, append_assoc, length, flat_map, Option, Some, refl, sym, ap, subst, arith, get_or-set_same, inl, inr}
use Rattle.std.specs.Prelude.{nat_le}
use Rattle.std.specs.List.{AllByRecursion, list_any}
use Rattle.std.specs.Map.{lookup}
use Rattle.std.specs.Option.{unwrap_or}
use Rattle.std.proofs.lemmas.Bool.{or_parts}
use Rattle.std.proofs.lemmas.List.{length-append}
use Rattle.std.proofs.lemmas.List.Folds.{list_any-append}
use Rattle.m11_base.specs.Rad50.{Name, is_same_name}
use Rattle.m11_base.proofs.SameNames.{same_name_itself}
use Rattle.m11_link_modules.specs.Names.{is_among}
use Rattle.m11_obj.specs.declared.pieces.Piece.{Piece}
use Rattle.m11_obj.specs.declared.pieces.PieceContent.{PieceContent}
use Rattle.m11_obj.specs.Pieces.{size_of}
use Rattle.m11_unfold_rules.specs.Unfolding.{UnfoldedLine}
use Rattle.m11_asm_rules.proofs.History.{Agrees, line_agrees, stood_agrees}
use Rattle.m11_asm_rules.specs.Changes.{Change, changed, moved, with_location, with_move}
use Rattle.m11_asm_rules.specs.Contents.{content_size, contents_size, further, pieces_from}
use Rattle.m11_asm_rules.specs.Filling.{Fills, gap_before}
use Rattle.m11_asm_rules.specs.Actions.{Action, Operate}
use Rattle.m11_asm_rules.specs.Lines.{after_line, line_change, line_emission, pieces, put_location, stands}
use Rattle.m11_asm_rules.specs.Operations.{action}
use Rattle.m11_asm_rules.specs.History.{line_moves}
use Rattle.m11_asm_rules.specs.Locations.{Move, SectionMove, Steps}
use Rattle.m11_asm_rules.specs.Meanings.{Map}
use Rattle.m11_asm_rules.specs.Placements.{after_lines, placed_from}
use Rattle.m11_asm_rules.specs.Sections.{numbered}
use Rattle.m11_asm_rules.specs.Tables as tables
use Rattle.m11_asm_rules.specs.Tables.{Table, firm_table, location, section_name}
use Rattle.m11_asm_rules.specs.declared.sections.Section.{Section}
use Rattle.m11_cli_chain.proofs.LinesNamed.{pieces_of}
use Rattle.m11_cli_image.proofs.RowsTaken.{turned}
use Rattle.m11_cli_image.proofs.SourcesTaken.{not_past}
use Rattle.m11_cli_image.specs.Refusals.{AreOnce, covers_last}
use Rattle.m11_cli_image.proofs.TablesGrow.{lines_grow, names_of, operator_grows}

-- ---- counters and sizes follow from the moves

abbrev pub AgreesWith : List SectionMove → Table → Type 0
AgreesWith moves table = Agrees moves (record {
  sections = table.sections;
  counters = table.counters;
  sizes = table.sizes;
  section = table.modes.section;
})

-- if counters and sizes follow from the moves, the location counter is below 65536
counter_low : (moves : List SectionMove) (table : Table) → AgreesWith moves table → location table < 65536
counter_low moves table agrees = let at = agrees.counters table.modes.section in omega (arith, at)

-- the counter after a line is within the size of its section
counter_within : (new : ℕ) (table : Table) → table.modes.section < length table.sizes
    → new ≤ tables.size_of table.modes.section (with_location new table)
counter_within new table within =
    let number : ℕ = table.modes.section in
    let size : ℕ = max (tables.size_of number table) new in
    let there : tables.size_of number (with_location new table) ≡ size = get_or-set_same table.sizes number size 0 within in
    omega (arith, there)

-- ---- pieces of one line

further_is : (start size : ℕ) → start + size < 65536 → further start size ≡ start + size
further_is start size low = omega (arith, low)

-- if no piece covers the last location, none wraps around to 0, and all of them end at or before that location
all_low : (section : Name) (start : ℕ) (contents : List PieceContent) → start < 65536
    → list_any covers_last (pieces_from section start contents) ≡ false → start + contents_size contents < 65536
all_low section start [] low none = omega (arith, low)
all_low section start (content ∷ contents) low none =
    let parts = or_parts (nat_le 65536 (start + content_size content))
    (list_any covers_last (pieces_from section (further start (content_size content)) contents)) none in
    let here = not_past (start + content_size content) parts.0 in
    let on = further_is start (content_size content) here in
    let P : ℕ → Type 0 = λ n. list_any covers_last (pieces_from section n contents) ≡ false in
    let rest = all_low section (start + content_size content) contents here (subst P on parts.1) in
    omega (arith, rest)

-- a piece ends at or before this location
abbrev pub EndsBy : ℕ → Piece → Type 0
EndsBy end piece = piece.location + size_of piece ≤ end

all_end : (section : Name) (start end : ℕ) (contents : List PieceContent) → start + contents_size contents ≤ end → end < 65536
    → AllByRecursion (EndsBy end) (pieces_from section start contents)
all_end section start end [] fits low = tt
all_end section start end (content ∷ contents) fits low =
    let on = further_is start (content_size content) (omega (arith, fits, low)) in
    let P : ℕ → Type 0 = λ n. AllByRecursion (EndsBy end) (pieces_from section n contents) in
    (omega (arith, fits), subst P (sym on) (all_end section (start + content_size content) end contents (omega (arith, fits)) low))

-- a line emits at its location counter plus the gap before its bytes, modulo 65536
start_is : (table : Table) (does : Action) → location table < 65536 → put_location table does ≡ (location table + gap_before table does) % 65536
start_is table (Operate operator start) low = refl
start_is table other low = omega (arith, low)

-- ---- a section by its name

abbrev pub Entered : Type 0
Entered = List (Name × ℕ)

-- the names of sections with their sizes; `size` returns the size of the section with a number, and the first one has this number
abbrev pub entered_from : (ℕ → ℕ) → ℕ → List Section → Entered
entered_from size number [] = []
entered_from size number (section ∷ sections) = (section.name, size number) ∷ entered_from size (number + 1) sections

numbered_first : (number : ℕ) (some more : List Section) → number < length some → numbered number (some ++ more) ≡ numbered number some
numbered_first number [] more lt = absurd (omega arith)
numbered_first zero (section ∷ some) more lt = refl
numbered_first (suc number) (section ∷ some) more lt = numbered_first number some more (omega (arith, lt))

among_at : (number : ℕ) (sections : List Section) (name : Name) → number < length sections → is_among (names_of sections) name ≡ false
    → is_same_name name (numbered number sections).name ≡ false
among_at number [] name lt e = absurd (omega arith)
among_at zero (section ∷ sections) name lt e = (or_parts (is_same_name name section.name) _ e).0
among_at (suc number) (section ∷ sections) name lt e =
    among_at number sections name (omega (arith, lt)) (or_parts (is_same_name name section.name) _ e).1

size_found : (size : ℕ → ℕ) (first number : ℕ) (sections : List Section) → AreOnce (names_of sections) → number < length sections
    → lookup (is_same_name (numbered number sections).name) (entered_from size first sections) ≡ Some (size (first + number))
size_found size first number [] once lt = absurd (omega arith)
size_found size first zero (section ∷ sections) once lt =
    let here : first ≡ first + 0 = omega arith in
    by (is_same_name section.name section.name) (same_name_itself section.name) ∙ ap (λ (n : ℕ). Some (size n)) here
  where
    by : (b : Bool) → b ≡ true → (if b then Some (size first) else lookup (is_same_name section.name) (entered_from size (first + 1) sections))
        ≡ Some (size first)
    by true e = refl
    by false e = absurd cc
size_found size first (suc number) (section ∷ sections) once lt =
    let name : Name = (numbered number sections).name in
    let on : first + 1 + number ≡ first + suc number = omega arith in
    by (is_same_name name section.name) (turned section.name name (among_at number sections section.name (omega (arith, lt)) once.0))
    ∙ size_found size (first + 1) number sections once.1 (omega (arith, lt)) ∙ ap (λ (n : ℕ). Some (size n)) on
  where
    by : (b : Bool) → b ≡ false → (if b then Some (size first) else lookup (is_same_name (numbered number sections).name)
        (entered_from size (first + 1) sections))
        ≡ lookup (is_same_name (numbered number sections).name) (entered_from size (first + 1) sections)
    by true e = absurd cc
    by false e = refl

-- ---- lines

-- the emission of a line fills the bytes by which the line steps
abbrev pub FillsLaw : Type 0
FillsLaw = (map : Map) (table : Table) (given : UnfoldedLine)
    → Fills (gap_before table (action given.is_own given.arguments given.live.line.text)) (line_emission map table given).contents
    (line_change (firm_table table) given)

-- the size of a section by its name, after all lines
abbrev pub final_size : Table → Name → ℕ
final_size final name = unwrap_or (lookup (is_same_name name) (entered_from (λ number. tables.size_of number final) 0 final.sections)) 0

abbrev pub LiesIn : Table → Piece → Type 0
LiesIn final piece = piece.location + size_of piece ≤ final_size final piece.section

module _ (fills : FillsLaw) (known : Map) (final : Table) (once : AreOnce (names_of final.sections)) where
  in_section_of : (name : Name) (end start : ℕ) (contents : List PieceContent) → end ≤ final_size final name
      → AllByRecursion (EndsBy end) (pieces_from name start contents) → AllByRecursion (LiesIn final) (pieces_from name start contents)
  in_section_of name end start [] le all = tt
  in_section_of name end start (content ∷ contents) le all =
      let here = all.0 in
      (omega (arith, here, le), in_section_of name end (further start (content_size content)) contents le all.1)

  -- the size after all lines of an earlier table's current section is the same by its name and by its number
  size_here : (table : Table) (more : List Section) → final.sections ≡ table.sections ++ more
      → table.modes.section < length table.sections
      → final_size final (section_name table) ≡ tables.size_of table.modes.section final
  size_here table more same inside =
      let number : ℕ = table.modes.section in
      let size = length-append table.sections more in
      let at : numbered number final.sections ≡ numbered number table.sections =
      ap (numbered number) same ∙ numbered_first number table.sections more inside in
      let within : number < length final.sections =
      subst (λ (these : List Section). number < length these) (sym same) (omega (arith, size, inside)) in
      ap (λ (section : Section). final_size final section.name) (sym at)
      ∙ ap (λ (found : Option ℕ). unwrap_or found 0) (size_found (λ n. tables.size_of n final) 0 number final.sections once within)
      ∙ ap (λ (n : ℕ). tables.size_of n final) (zero_on number)
    where
      zero_on : (n : ℕ) → 0 + n ≡ n
      zero_on n = omega arith

  -- the pieces of a line; `stood` is the table after its labels
  module _ (given : UnfoldedLine) (table : Table) where
    abbrev stood : Table
    stood = stands table given

    abbrev contents : List PieceContent
    contents = (line_emission known stood given).contents

    abbrev does : Action
    does = action given.is_own given.arguments given.live.line.text

    line_lies : (moves : List SectionMove) (more : List Section) → AgreesWith moves stood → final.sections ≡ stood.sections ++ more
        → tables.size_of stood.modes.section (after_line known table given) ≤ tables.size_of stood.modes.section final
        → list_any covers_last (pieces known table given) ≡ false
        → Fills (gap_before stood does) contents (line_change (firm_table stood) given)
        → AllByRecursion (LiesIn final) (pieces known table given)
    line_lies moves more agrees sections grows none (inl nothing) =
        subst (λ (these : List PieceContent). AllByRecursion (LiesIn final) (pieces_from (section_name stood) (put_location stood does) these))
        (sym nothing) tt
    line_lies moves more agrees sections grows none (inr counts) =
        let number : ℕ = stood.modes.section in
        let move : Move = Steps (gap_before stood does + contents_size contents) in
        let start : ℕ = put_location stood does in
        let is = start_is stood does (counter_low moves stood agrees) in
        let low = all_low (section_name stood) start contents (omega (arith, is)) none in
        let here : tables.size_of number (after_line known table given) ≡ tables.size_of number (with_move move stood) =
        ap (λ (what : Change). tables.size_of number (changed known what stood)) counts in
        let within = counter_within (moved move (location stood)) stood
        (subst (λ (n : ℕ). number < n) (sym agrees.as_many_sizes) agrees.within) in
        let end : ℕ = start + contents_size contents in
        let size = size_here stood more sections agrees.within in
        let fits : end ≤ final_size final (section_name stood) = omega (arith, within, here, grows, is, low, size) in
        in_section_of (section_name stood) end start contents fits
        (all_end (section_name stood) start end contents (omega arith) low)

  none_of : (some more : List Piece) → list_any covers_last (some ++ more) ≡ false
      → (list_any covers_last some ≡ false) × (list_any covers_last more ≡ false)
  none_of some more e =
      or_parts (list_any covers_last some) (list_any covers_last more) (sym (list_any-append covers_last some more) ∙ e)

  both_lie : (some more : List Piece) → AllByRecursion (LiesIn final) some → AllByRecursion (LiesIn final) more
      → AllByRecursion (LiesIn final) (some ++ more)
  both_lie [] more h k = k
  both_lie (one ∷ some) more h k = (h.0, both_lie some more h.1 k)

  pub lines_lie : (moves : List SectionMove) (table : Table) (lines : List UnfoldedLine) → final ≡ after_lines known table lines
      → AgreesWith moves table
      → list_any covers_last (flat_map pieces_of (placed_from known table lines)) ≡ false
      → AllByRecursion (LiesIn final) (flat_map pieces_of (placed_from known table lines))
  lines_lie moves table [] same agrees none = tt
  lines_lie moves table (given ∷ lines) same agrees none =
      let stood = stands table given in
      let after = after_line known table given in
      let operator = operator_grows known table given in
      let rest = lines_grow known after lines in
      let parts = none_of (pieces known table given) (flat_map pieces_of (placed_from known after lines)) none in
      let sections : final.sections ≡ stood.sections ++ (operator.more ++ rest.more) =
      ap (λ (t : Table). t.sections) same ∙ rest.sections
      ∙ ap (λ (these : List Section). these ++ rest.more) operator.sections ∙ append_assoc stood.sections operator.more rest.more in
      let grows = subst (λ (t : Table). tables.size_of stood.modes.section after ≤ tables.size_of stood.modes.section t) (sym same)
      (rest.sizes stood.modes.section) in
      both_lie (pieces known table given) (flat_map pieces_of (placed_from known after lines))
      (line_lies given table moves (operator.more ++ rest.more) (stood_agrees moves table given agrees) sections grows parts.0
      (fills known stood given))
      (lines_lie (moves ++ line_moves table given) after lines same (line_agrees known moves table given agrees) parts.1)
