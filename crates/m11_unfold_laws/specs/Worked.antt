-- A macro that contains a repeat and is called twice, worked out by hand. (MACRO-11 Language Reference Manual, "Automatic
-- creation of local symbols" and "Repeat block directive".) A loop written like this has a label of its own in each call.
use Rattle.std.specs.Prelude.{ℕ, Bool, true, false, List, [], ◌∷◌, codes, map, Option, Some, None}
use Rattle.m11_base.specs.Devices.{Bytes}
use Rattle.m11_base.specs.Names.{name_in_words}
use Rattle.m11_base.specs.Rad50.{Name}
use Rattle.m11_scan.specs.Line.{SourceLine, line_of}
use Rattle.m11_scan.specs.declared.radix.Radix.TheVariants.{Octal}
use Rattle.m11_scan_expressions.specs.declared.names.Symbol.{Symbol}
use Rattle.m11_scan_expressions.specs.Quantities.{Quantity}
use Rattle.m11_scan_expressions.specs.Expressions.{known_by}
use Rattle.m11_scan_expressions.specs.Remarks.{no_remarks}
use Rattle.m11_unfold_rules.specs.declared.macros.MacroFormal.{MacroFormal}
use Rattle.m11_unfold_rules.specs.Unfolding.{UnfoldedLine}
use Rattle.m11_unfold_laws.specs.Levels.{Situation}

abbrev pub worked_source : List SourceLine
worked_source = map line_of
    (codes " .MACRO TWICE ?L"
    ∷ codes "L: .REPT 2"
    ∷ codes " NOP"
    ∷ codes " .ENDR"
    ∷ codes " BR L"
    ∷ codes " .ENDM"
    ∷ codes " TWICE"
    ∷ codes " TWICE"
    ∷ [])

-- a live line without flags or symbols; the Booleans say whether it belongs to unfolding, and whether it comes from an expansion
abbrev pub worked_line : (Symbol → Quantity) → Bytes → Bool → Bool → Option ℕ → UnfoldedLine
worked_line value_of_symbol text is_own is_expanded arguments = record {
  live = record { line = line_of text; is_expanded = is_expanded };
  known = known_by Octal value_of_symbol;
  is_own = is_own;
  remarks = no_remarks;
  arguments = arguments;
}

-- a line of the source itself, which belongs to unfolding; the next two definitions are for lines in the expansion of a call without
-- actuals: the `.REPT` line, and a line that doesn't belong to unfolding
abbrev pub source_line : (Symbol → Quantity) → Bytes → UnfoldedLine
source_line value_of_symbol text = worked_line value_of_symbol text true false None

abbrev pub repeat_line : (Symbol → Quantity) → Bytes → UnfoldedLine
repeat_line value_of_symbol text = worked_line value_of_symbol text true true (Some 0)

abbrev pub inner_line : (Symbol → Quantity) → Bytes → UnfoldedLine
inner_line value_of_symbol text = worked_line value_of_symbol text false true (Some 0)

-- the live lines, whatever the values of symbols
abbrev pub worked_lines : (Symbol → Quantity) → List UnfoldedLine
worked_lines value_of_symbol =
    source_line value_of_symbol (codes " .MACRO TWICE ?L")
    ∷ source_line value_of_symbol (codes " TWICE")
    ∷ repeat_line value_of_symbol (codes "30000$: .REPT 2")
    ∷ inner_line value_of_symbol (codes " NOP")
    ∷ inner_line value_of_symbol (codes " NOP")
    ∷ inner_line value_of_symbol (codes " BR 30000$")
    ∷ source_line value_of_symbol (codes " TWICE")
    ∷ repeat_line value_of_symbol (codes "30001$: .REPT 2")
    ∷ inner_line value_of_symbol (codes " NOP")
    ∷ inner_line value_of_symbol (codes " NOP")
    ∷ inner_line value_of_symbol (codes " BR 30001$")
    ∷ []

-- the macro, and the situation at the end: 29 bytes in its body, two created symbols, and twenty lines read
abbrev pub twice_name : Name
twice_name = name_in_words (codes "TWICE ")

abbrev pub twice_formals : List MacroFormal
twice_formals = record { name = name_in_words (codes "L     "); is_created = true } ∷ []

abbrev pub twice_body : List Bytes
twice_body = codes "L: .REPT 2" ∷ codes " NOP" ∷ codes " .ENDR" ∷ codes " BR L" ∷ []

abbrev pub worked_end : Situation
worked_end = record {
  macros = (twice_name, record { formals = twice_formals; body = twice_body }) ∷ [];
  defined_bytes = 29;
  created = 30002;
  taken = 20;
}
