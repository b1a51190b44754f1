-- Lists of expressions and of names. (MACRO-11 Language Reference Manual, ".WORD directive", ".BYTE directive" and ".GLOBL directive".
-- This project's own: a list ends where no comma follows; and an element that isn't a name is skipped, and flagged A.)
use Rattle.std.specs.Prelude.{ℕ, zero, suc, if◌then◌else◌, List, [], ◌∷◌, length, filter_map, Option, Some, None, is_none, option_map}
use Rattle.std.specs.List.{list_any}
use Rattle.std.specs.Int.RustNames.{bit_or}
use Rattle.m11_scan_expressions.specs.LeftOvers.{left_over, skip_flags}
use Rattle.m11_scan_expressions.specs.Tokens.{Expression, expression}
use Rattle.m11_unfold_rules.specs.Immediate.{column_after_comma}
use Rattle.m11_base.specs.Devices.{Bytes}
use Rattle.m11_base.specs.NameCharacters.{six_of}
use Rattle.m11_base.specs.Rad50.{Name, name_of}
use Rattle.m11_scan.specs.Cutting.{text_between, tokens_from}
use Rattle.m11_scan.specs.Ends.{expression_end}
use Rattle.m11_scan.specs.ErrorFlags.{flag_A, flag_if}
use Rattle.m11_scan_statements.specs.Listed.{listed_name}
use Rattle.m11_scan_statements.specs.declared.listed.ListedName.{ListedName}
use Rattle.m11_scan_statements.specs.declared.spans.Span.{Span}

-- the most elements that a line may have: one more than it has characters
abbrev pub most_elements : Bytes → ℕ
most_elements line = suc (length line)

-- I for a character skipped between the two columns of the arguments, and the flags of what is left over after the second column
abbrev pub argument_flags : Bytes → ℕ → ℕ → ℕ
argument_flags line start end = bit_or (skip_flags line start end) (left_over line end)

-- the items of a list, in order, and the column after the list
pub record ListAt (A : Type 0) : Type 0 where
  pub list : List A
  pub end : ℕ

-- a list with one more item at its front
abbrev pub item_before : {A : Type 0} → A → ListAt A → ListAt A
item_before item more = record { list = item ∷ more.list; end = more.end }

-- ---- expressions

abbrev pub elements_by : (ℕ → ListAt Expression) → Expression → ℕ → Option ℕ → ListAt Expression
elements_by more element end None = record { list = element ∷ []; end = end }
elements_by more element end (Some next) = item_before element (more next)

abbrev pub elements_within : ℕ → Bytes → ℕ → ListAt Expression
elements_within zero line column = record { list = []; end = column }
elements_within (suc bound) line column =
    elements_by (λ next. elements_within bound line next) (expression line column) (expression_end line column)
    (column_after_comma line (expression_end line column))

-- the elements of a list that begins at a column, at least one, and the column after the list
abbrev pub elements_at : Bytes → ℕ → ListAt Expression
elements_at line column = elements_within (most_elements line) line column

-- ---- names

-- a list of names that begins with this element, and has further ones only after a comma; None for an element that isn't a name
abbrev pub names_by : (ℕ → ListAt (Option Span)) → ListedName → ListAt (Option Span)
names_by more element =
    if element.goes_on then item_before element.name (more element.end) else record { list = element.name ∷ []; end = element.end }

abbrev pub names_within : ℕ → Bytes → ℕ → ListAt (Option Span)
names_within zero line column = record { list = []; end = column }
names_within (suc bound) line column =
    names_by (λ next. names_within bound line next) (listed_name column (tokens_from line column))

-- the elements of a list of names that begins at a column, at least one, and the column after the list
abbrev pub names_at : Bytes → ℕ → ListAt (Option Span)
names_at line column = names_within (most_elements line) line column

-- the six characters of each name; elements that aren't names are left out
abbrev pub texts_of : Bytes → List (Option Span) → List Bytes
texts_of line names = filter_map (option_map (λ (name : Span). six_of (text_between line name.start name.end))) names

-- the names with these characters; a text that isn't a valid name is left out
abbrev pub names_of : List Bytes → List Name
names_of texts = filter_map name_of texts

-- A if an element isn't a name
abbrev pub bad_flags : List (Option Span) → ℕ
bad_flags names = flag_if (list_any is_none names) flag_A

-- the flags of arguments that begin at the column `start` and end with this list of names: A for an element that isn't a name, I for
-- skipped characters, and the flags of what is left over after the list
abbrev pub names_flags : Bytes → ℕ → ListAt (Option Span) → ℕ
names_flags line start names = bit_or (bad_flags names.list) (argument_flags line start names.end)
