-- Names in a list. (MACRO-11 Language Reference Manual, ".GLOBL directive". That an element other than a name is skipped up to the next
-- comma, and that a list ends at a name without a comma after it, are this project's own choices.)
use Rattle.std.specs.Prelude.{ℕ, Bool, true, false, not, if◌then◌else◌, List, [], ◌∷◌, Option, Some, None}
use Rattle.m11_scan.specs.declared.sort.Sort.{Sort}
use Rattle.m11_scan.specs.declared.sort.Sort.TheVariants.{Name, Comma}
use Rattle.m11_scan.specs.Cutting.{Lexeme}
use Rattle.m11_scan_statements.specs.Labels.{is_counter}
use Rattle.m11_scan_statements.specs.declared.listed.ListedName.{ListedName}
use Rattle.m11_scan_statements.specs.declared.spans.Span.{Span}

abbrev pub is_comma : Sort → Bool
is_comma Comma = true
is_comma _ = false

-- whether a token is a name that can be defined: any but `.`
abbrev pub is_name : Lexeme → Bool
is_name token = elim token.sort [ Name ↦ not (is_counter token.text) | _ ↦ false ]

abbrev pub element : Option Span → Bool → ℕ → ListedName
element name goes_on end = record { name = name; goes_on = goes_on; end = end }

abbrev pub span_of : Lexeme → Span
span_of token = record { start = token.start; end = token.end }

-- an element that is a name, with the comma after it if there is one; without a comma the list ends
abbrev pub after_name : Lexeme → List Lexeme → ListedName
after_name name [] = element (Some (span_of name)) false name.end
after_name name (token ∷ tokens) =
    if is_comma token.sort then element (Some (span_of name)) true token.end
    else element (Some (span_of name)) false name.end

-- an element that isn't a name, up to the next comma, or without a comma to the last token of the line, where the list ends
abbrev pub passed_over : ℕ → List Lexeme → ListedName
passed_over column [] = element None false column
passed_over column (token ∷ tokens) =
    if is_comma token.sort then element None true token.end else passed_over token.end tokens

-- the element of a list of names that begins at a column; the tokens are those at or after the column
abbrev pub listed_name : ℕ → List Lexeme → ListedName
listed_name column [] = passed_over column []
listed_name column (token ∷ tokens) =
    if is_name token then after_name token tokens else passed_over column (token ∷ tokens)
