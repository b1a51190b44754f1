-- Lists of formals, of actuals and of names, as written. (MACRO-11 Language Reference Manual, "Arguments in macro definitions and macro
-- calls" and ".GLOBL directive".)
use Rattle.std.specs.Prelude.{◌≡◌, ◌⊎◌, ℕ, true, false, List, [], ◌∷◌, ◌++◌, Option, Some, None}
use Rattle.std.specs.Int.RustNames.{bit_or}
use Rattle.m11_unfold_rules.specs.Actuals.{ActualTexts, followed_by, given_by, no_actual_texts}
use Rattle.m11_scan_expressions.specs.Expressions.{KnownSymbols}
use Rattle.m11_unfold_rules.specs.Headers.{listed_at}
use Rattle.m11_unfold_rules.specs.Headers.NextListed.{Ending, Formally}
use Rattle.m11_unfold_rules.specs.declared.macros.MacroFormal.{MacroFormal}
use Rattle.m11_base.specs.Devices.{Bytes}
use Rattle.m11_scan.specs.Cutting.{tokens_from}
use Rattle.m11_scan_statements.specs.Actuals.{next_actual, separator_at}
use Rattle.m11_scan_statements.specs.Listed.{listed_name}
use Rattle.m11_scan_statements.specs.declared.actuals.Actual.{Actual}
use Rattle.m11_scan_statements.specs.declared.listed.ListedName.{ListedName}
use Rattle.m11_scan_statements.specs.declared.spans.Span.{Span}
use Rattle.m11_asm_line_laws.specs.Printed.{AreBlanks}

-- these are the formals that follow a column, with the flags of their list; blanks, a comma or both may come before each
pub data AreFormals (line : Bytes) : ℕ → List MacroFormal → ℕ → Type 0 where
  -- without a next formal the list ends
  NoFormal : (column flags : ℕ) → listed_at line (separator_at line column).end ≡ Ending flags
      → AreFormals line column [] flags
  -- the list goes on after a formal
  OneFormal : (column : ℕ) (formal : MacroFormal) (flags end : ℕ) (formals : List MacroFormal) (further : ℕ)
      → listed_at line (separator_at line column).end ≡ Formally formal flags end → AreFormals line end formals further
      → AreFormals line column (formal ∷ formals) (bit_or flags further)

-- these are the actuals that follow a column, with their texts and the remarks on them; between two of them are blanks, a comma or both
pub data AreActuals (known : KnownSymbols) (line : Bytes) : ℕ → ActualTexts → Type 0 where
  -- without a next actual the list ends
  NoActual : (column : ℕ) → next_actual line column true ≡ None → AreActuals known line column no_actual_texts
  -- further actuals follow the separator after an actual
  OneActual : (column : ℕ) (actual : Actual) (more : ActualTexts) → next_actual line column true ≡ Some actual
      → AreActuals known line (separator_at line actual.end).end more
      → AreActuals known line column (followed_by (given_by known line actual) more)

-- blanks and tabs, if any, and then nothing or a comment
abbrev pub IsOver : Bytes → Type 0
IsOver text = (blanks rest : Bytes) × (text ≡ blanks ++ rest) × AreBlanks blanks
    × ((rest ≡ []) ⊎ ((comment : Bytes) × (rest ≡ 0o73 ∷ comment)))

-- these are the elements of the list of names that begins at a column, and the column after them; `None` is an element that isn't a name
pub data AreNames (line : Bytes) : ℕ → List (Option Span) → ℕ → Type 0 where
  -- an element without a comma after it is the last one
  LastName : (column : ℕ) (element : ListedName) → listed_name column (tokens_from line column) ≡ element → element.goes_on ≡ false
      → AreNames line column (element.name ∷ []) element.end
  -- the next element follows the comma
  NextName : (column : ℕ) (element : ListedName) (names : List (Option Span)) (end : ℕ)
      → listed_name column (tokens_from line column) ≡ element → element.goes_on ≡ true → AreNames line element.end names end
      → AreNames line column (element.name ∷ names) end
