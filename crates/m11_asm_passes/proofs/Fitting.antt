-- A line that exceeds no limit in one pass exceeds none in a second pass that has the same line and counts only definitions.
use Rattle.std.proofs.Common.{◌≡◌, ◌∙◌, ℕ, suc, ◌||◌, Bool, true, false, List, [], ◌∷◌, ◌++◌, length, map, Option, Some, None, refl, sym, ap}
use Rattle.std.specs.Option.{option_or}
use Rattle.std.specs.Prelude.{if◌then◌else◌, nat_lt, option_map}
use Rattle.m11_asm_faults.specs.Faults.{of_unfolding}
use Rattle.m11_asm_faults.specs.declared.fault.AsmFault.{AsmFault}
use Rattle.m11_asm_faults.specs.declared.fault.AsmFault.TheVariants as fault
use Rattle.m11_base.specs.Rad50.{Name}
use Rattle.m11_asm_lines.specs.Counting.{names_counted, with_counted}
use Rattle.m11_asm_lines.specs.declared.counting.Counting.{Counting}
use Rattle.m11_asm_lines.specs.declared.counting.Counting.TheVariants.{Definitions}
use Rattle.m11_asm_passes.specs.Lines.{NumberedLine, givens, table_at}
use Rattle.m11_asm_passes.specs.Refusals.{given_by, labels_fault, line_fault, uses_of_labels, of_limit, placing_fault}
use Rattle.m11_asm_rules.specs.Definitions.{firm_entry}
use Rattle.m11_asm_rules.specs.Limits.{LimitFault, TooManySymbols, TooManySections, has_too_many, limit_fault, local_count, most_defined_names, most_local_symbols, most_names, most_sections, name_count}
use Rattle.m11_asm_rules.specs.Lines.{after_line, stands}
use Rattle.m11_asm_rules.specs.Meanings.{Map}
use Rattle.m11_asm_rules.specs.SymbolUses.{symbol_uses}
use Rattle.m11_asm_rules.specs.Tables.{Table, firm_table, first_table}
use Rattle.m11_asm_rules.specs.declared.definitions.Definition.{Definition}
use Rattle.m11_unfold_rules.specs.Acting.{act_fault}
use Rattle.m11_unfold_rules.specs.Stages.{Stage}
use Rattle.m11_unfold_rules.specs.Taking.{Live}
use Rattle.m11_unfold_rules.specs.Unfolding.{UnfoldedLine}
use Rattle.m11_asm_passes.proofs.KnownAlike.{PlaceAlike, after_both, given_alike, stands_alike}

-- ---- the parts of a fault

first_none : {A : Type 0} (one other : Option A) → option_or one other ≡ None → one ≡ None
first_none (Some found) other none = absurd (cc)
first_none None other none = refl

second_none : {A : Type 0} (one other : Option A) → option_or one other ≡ None → other ≡ None
second_none (Some found) other none = absurd (cc)
second_none None other none = none

limit_none : (found : Option LimitFault) → of_limit found ≡ None → found ≡ None
limit_none (Some TooManySymbols) none = absurd (cc)
limit_none (Some TooManySections) none = absurd (cc)
limit_none None none = refl

-- if neither kind of limit is exceeded, then neither are the definitions and the sections by themselves
limits_by : (names many sections : Bool)
    → (if names || many then Some TooManySymbols else (if sections then Some TooManySections else None)) ≡ None
    → (many ≡ false) × (sections ≡ false)
limits_by true many sections none = absurd (cc)
limits_by false true sections none = absurd (cc)
limits_by false false true none = absurd (cc)
limits_by false false false none = (refl, refl)

labels_by : (names many : Bool) → (if names || many then Some fault.TooManySymbols else None) ≡ None → many ≡ false
labels_by true many none = absurd (cc)
labels_by false true none = absurd (cc)
labels_by false false none = refl

limits : (names : List Name) (table : Table) → limit_fault names table ≡ None
    → (has_too_many table ≡ false) × (nat_lt most_sections (length table.sections) ≡ false)
limits names table none =
    limits_by (nat_lt most_names (length names)) (has_too_many table) (nat_lt most_sections (length table.sections)) none

-- a live line exceeds no limit: not with its labels, not with its operator, and not when it is placed
pub record Fits (map : Map) (table : Table) (counting : Counting) (live : Live) (stage : Stage) : Type 0 where
  labels : labels_fault counting table live.line.text ≡ None
  acts : option_map of_unfolding (act_fault stage live.line.text) ≡ None
  placed : limit_fault (names_counted (with_counted (symbol_uses table (given_by table live stage)) counting))
      (after_line map table (given_by table live stage)) ≡ None

pub fits : (map : Map) (table : Table) (counting : Counting) (live : Live) (stage : Stage) → line_fault map table counting live stage ≡ None
    → Fits map table counting live stage
fits map table counting live stage none =
    let labels : Option AsmFault = labels_fault counting table live.line.text in
    let acts : Option AsmFault = option_map of_unfolding (act_fault stage live.line.text) in
    let placed : Option AsmFault = placing_fault map table counting (given_by table live stage) in
    let others : option_or acts placed ≡ None = second_none labels (option_or acts placed) none in record {
      labels = first_none labels (option_or acts placed) none;
      acts = first_none acts placed others;
      placed = limit_none (limit_fault (names_counted (with_counted (symbol_uses table (given_by table live stage)) counting))
          (after_line map table (given_by table live stage))) (second_none acts placed others);
    }

-- ---- names and local symbols have the same counts

module _ {A : Type 0} where
  entries_firm : (entries : List (A × Definition)) → length (map firm_entry entries) ≡ length entries
  entries_firm [] = refl
  entries_firm (entry ∷ entries) = ap suc (entries_firm entries)

too_many_firm : (table : Table) → has_too_many (firm_table table) ≡ has_too_many table
too_many_firm table =
    ap (λ (n : ℕ). nat_lt most_defined_names n || nat_lt most_local_symbols (local_count (firm_table table)))
    (entries_firm table.definitions.names)
    ∙ ap (λ (n : ℕ). nat_lt most_defined_names (name_count table) || nat_lt most_local_symbols n)
    (entries_firm table.definitions.local_symbols)

too_many_alike : (first second : Table) → firm_table first ≡ firm_table second → has_too_many first ≡ has_too_many second
too_many_alike first second same = sym (too_many_firm first) ∙ ap has_too_many same ∙ too_many_firm second

-- ---- the same line, with only definitions counted

module _ (alike : PlaceAlike) (one other : Map) (before : List NumberedLine) (live : Live) (stage : Stage) where
  abbrev table : Table
  table = table_at one before

  abbrev later : Table
  later = table_at other before

  abbrev given : UnfoldedLine
  given = given_by table live stage

  same_stands : firm_table (stands table given) ≡ firm_table (stands later given)
  same_stands = stands_alike alike one other (givens before) given

  same_after : firm_table (after_line one table given) ≡ firm_table (after_line other later given)
  same_after =
      ap firm_table (sym (after_both one (givens before) (given ∷ []) first_table))
      ∙ alike one other (givens before ++ given ∷ []) ∙ ap firm_table (after_both other (givens before) (given ∷ []) first_table)

  module _ (counting : Counting) (fits_first : Fits one table counting live stage) where
    labels_fit : labels_fault Definitions later live.line.text ≡ None
    labels_fit =
        let first = labels_by (nat_lt most_names (length (names_counted (with_counted (uses_of_labels live.line.text) counting))))
        (has_too_many (stands table given)) fits_first.labels in
        ap (λ (b : Bool). if b then Some fault.TooManySymbols else None)
        (sym (too_many_alike (stands table given) (stands later given) same_stands) ∙ first)

    placed_fits : limit_fault [] (after_line other later given) ≡ None
    placed_fits =
        let first = limits (names_counted (with_counted (symbol_uses table given) counting)) (after_line one table given) fits_first.placed in
        let after : Table = after_line other later given in
        let many : has_too_many after ≡ false
        = sym (too_many_alike (after_line one table given) after same_after) ∙ first.0 in
        let sections : nat_lt most_sections (length after.sections) ≡ false
        = ap (λ (t : Table). nat_lt most_sections (length t.sections)) (sym same_after) ∙ first.1 in
        let by : Bool → Bool → Option LimitFault = λ b c.
        if b then Some TooManySymbols else (if c then Some TooManySections else None) in
        ap (λ (b : Bool). by b (nat_lt most_sections (length after.sections))) many ∙ ap (by false) sections

    pub fits_too : line_fault other later Definitions live stage ≡ None
    fits_too =
        let same : given ≡ given_by later live stage = given_alike alike one other before live stage in
        let placing : placing_fault other later Definitions (given_by later live stage) ≡ None
        = ap (placing_fault other later Definitions) (sym same) ∙ ap of_limit placed_fits in
        ap (λ (f : Option AsmFault). option_or f
        (option_or (option_map of_unfolding (act_fault stage live.line.text)) (placing_fault other later Definitions (given_by later live stage))))
        labels_fit
        ∙ ap (λ (f : Option AsmFault). option_or f (placing_fault other later Definitions (given_by later live stage))) fits_first.acts
        ∙ placing
