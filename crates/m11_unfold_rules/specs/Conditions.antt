-- The conditions of `.IF` and `.IIF`. (MACRO-11 Language Reference Manual, "Conditional assembly block directives". The treatment
-- of missing and bad arguments is this project's own.)
use Rattle.std.specs.Prelude.{◌≡◌, ℕ, Bool, true, false, not, ◌||◌, ◌==◌, nat_le, if◌then◌else◌, List, [], ◌∷◌, length, Option, Some, None}
use Rattle.std.specs.List.{prefix_len}
use Rattle.std.specs.Str.{bytes_eq}
use Rattle.std.specs.Int.RustNames.{bit_or}
use Rattle.m11_base.specs.Devices.{Bytes}
use Rattle.m11_base.specs.NameCharacters.{six_of}
use Rattle.m11_scan.specs.Classes.{is_blank}
use Rattle.m11_scan.specs.Conditions.{condition_named}
use Rattle.m11_scan.specs.Cutting.{Lexeme, text_between, tokens_from}
use Rattle.m11_scan.specs.Ends.{expression_end}
use Rattle.m11_scan.specs.ErrorFlags.{flag_A, flag_if}
use Rattle.m11_scan.specs.Views.{bits_of}
use Rattle.m11_scan.specs.declared.conditions.Condition.{Condition}
use Rattle.m11_scan.specs.declared.conditions.Condition.TheVariants.{Zero, NotZero, Positive, Negative, NotNegative, NotPositive, Defined, NotDefined, Blank, NotBlank, Identical, Different}
use Rattle.m11_scan.specs.declared.sort.Sort.{Sort}
use Rattle.m11_scan.specs.declared.sort.Sort.TheVariants as sorts
use Rattle.m11_scan_statements.specs.Actuals.{next_actual, separator_at}
use Rattle.m11_scan_statements.specs.declared.actuals.Actual.{Actual}
use Rattle.m11_scan_statements.specs.declared.actuals.Separator.{Separator}
use Rattle.m11_scan_expressions.specs.declared.names.Symbol.{Symbol}
use Rattle.m11_unfold_rules.specs.declared.conditions.Verdict.{Verdict}
use Rattle.m11_unfold_rules.specs.declared.conditions.Finding.{Finding}
use Rattle.m11_unfold_rules.specs.Definedness.{Tested, is_as, names_at}
use Rattle.m11_scan_expressions.specs.Expressions.{KnownSymbols, has_expression, number_at, number_flags, symbols_at}
use Rattle.m11_scan_expressions.specs.LeftOvers.{flags_before, skip_flags}
use Rattle.m11_scan_expressions.specs.Remarks.{Remarks, remarks_of}

-- whether a condition is true, the column after it, its flags, and the symbols that it refers to
pub record ConditionResult : Type 0 where
  pub holds : Bool
  pub end : ℕ
  pub flags : ℕ
  pub symbols : List Symbol

-- the code's result is the result of the condition, apart from the symbols
abbrev pub IsFound : Finding → ConditionResult → Type 0
IsFound finding asked =
    (finding.holds ≡ asked.holds) × (finding.end ≡ asked.end) × (bits_of finding.flags ≡ asked.flags)

abbrev pub verdict_of : ConditionResult → Verdict
verdict_of asked = record { holds = asked.holds; end = asked.end }

abbrev pub remarks_in : ConditionResult → Remarks
remarks_in asked = remarks_of asked.flags asked.symbols

-- a condition that is false, and flagged A, because its name is missing or unknown, or an argument is missing
abbrev pub refused : ℕ → ConditionResult
refused end = record { holds = false; end = end; flags = flag_A; symbols = [] }

-- whether a word is negative as a signed number: it is octal 100000 or more
abbrev pub is_negative : ℕ → Bool
is_negative number = nat_le 0o100000 number

abbrev pub passes : Condition → ℕ → Bool
passes Zero number = number == 0
passes NotZero number = not (number == 0)
passes Positive number = not (number == 0 || is_negative number)
passes Negative number = is_negative number
passes NotNegative number = not (is_negative number)
passes NotPositive number = number == 0 || is_negative number
passes condition number = false

-- EQ NE GT LT GE LE: compares the number of the expression at a column with 0; without an expression, the result is false, and flagged A
abbrev pub numeric : KnownSymbols → Bytes → ℕ → Condition → ConditionResult
numeric known line column condition =
    if has_expression line column then record {
      holds = passes condition (number_at known line column);
      end = expression_end line column;
      flags = number_flags known line column;
      symbols = symbols_at line column;
    } else refused column

-- DF NDF: the result of the names at a column, with I for a skipped character; if a name is bad or missing, the result is false, and
-- flagged A
abbrev pub defined : KnownSymbols → Bytes → ℕ → Bool → ConditionResult
defined known line column wants_defined =
    let names : Tested = names_at known wants_defined line column in
    let skipped : ℕ = skip_flags line column names.end in
    elim names.verdict [
      | Some verdict ↦ record { holds = verdict; end = names.end; flags = skipped; symbols = names.symbols }
      | None ↦ record { holds = false; end = names.end; flags = bit_or flag_A skipped; symbols = names.symbols }
    ]

-- the characters inside an argument
abbrev pub text_of : Bytes → Actual → Bytes
text_of line actual = text_between line actual.inside.start actual.inside.end

-- A if an argument lacks its `>`, otherwise no flags
abbrev pub actual_flags : Actual → ℕ
actual_flags actual = flag_if (not actual.is_closed) flag_A

-- B NB: whether an argument has only blanks and tabs, or for NB, whether it has any other character; a missing one counts as empty
abbrev pub blank : Bytes → ℕ → Bool → ConditionResult
blank line column wants_blank = elim (next_actual line column false) [
  | None ↦ record { holds = wants_blank; end = column; flags = 0; symbols = [] }
  | Some actual ↦ record {
    holds = is_as wants_blank (prefix_len is_blank (text_of line actual) == length (text_of line actual));
    end = actual.end;
    flags = actual_flags actual;
    symbols = [];
  }
]

-- IDN DIF: whether two texts are the same byte for byte, or for DIF differ
abbrev pub matched : Bool → Bytes → Bytes → ℕ → ℕ → ConditionResult
matched wants_same first second end flags =
    record { holds = is_as wants_same (bytes_eq first second); end = end; flags = flags; symbols = [] }

-- IDN DIF: compares the first argument with the second; a second one that is missing after a comma counts as empty; if the comma is
-- missing too, the result is false, and flagged A
abbrev pub second_at : Bytes → Bool → Actual → Separator → ConditionResult
second_at line wants_same first separator = elim (next_actual line separator.end false) [
  | Some second ↦ matched wants_same (text_of line first) (text_of line second) second.end
      (bit_or (actual_flags first) (actual_flags second))
  | None ↦ if separator.has_comma then matched wants_same (text_of line first) [] separator.end (actual_flags first)
      else refused separator.end
]

abbrev pub same : Bytes → ℕ → Bool → ConditionResult
same line column wants_same = elim (next_actual line column false) [
  | None ↦ refused column
  | Some first ↦ second_at line wants_same first (separator_at line first.end)
]

-- the result of a condition for its arguments, which begin at or after a column
abbrev pub asked : KnownSymbols → Bytes → ℕ → Condition → ConditionResult
asked known line column Defined = defined known line column true
asked known line column NotDefined = defined known line column false
asked known line column Blank = blank line column true
asked known line column NotBlank = blank line column false
asked known line column Identical = same line column true
asked known line column Different = same line column false
asked known line column condition = numeric known line column condition

-- the condition that a token names, if it names one
abbrev pub condition_of : Sort → Bytes → Option Condition
condition_of sort text = elim sort [ sorts.Name ↦ condition_named (six_of text) | _ ↦ None ]

-- the result of the condition that a token names; blanks, a comma or both separate its arguments from the name; an unknown
-- condition is false, and flagged A, and its arguments are ignored
abbrev pub asked_at : KnownSymbols → Bytes → Lexeme → ConditionResult
asked_at known line name = elim (condition_of name.sort name.text) [
  | Some condition ↦ asked known line (separator_at line name.end).end condition
  | None ↦ refused (length line)
]

-- the result of the condition at a column, with I for a skipped character before its name; a missing condition is false, and flagged A
abbrev pub condition : KnownSymbols → Bytes → ℕ → ConditionResult
condition known line column =
    let found : ConditionResult = elim (tokens_from line column) [
      | [] ↦ refused (length line)
      | name ∷ tokens ↦ asked_at known line name
    ] in
    record found { flags = bit_or (flags_before line column) found.flags }
