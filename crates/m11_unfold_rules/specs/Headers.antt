-- The name of a macro and its formals. (MACRO-11 Language Reference Manual, "Macro definition" and "Automatic creation of local symbols".
-- That a bad formal ends the list is this project's own choice.)
use Rattle.std.specs.Prelude.{ℕ, zero, suc, ◌-◌, if◌then◌else◌, List, [], ◌∷◌, Option, Some, None, option_map}
use Rattle.std.specs.Int.RustNames.{bit_or}
use Rattle.m11_base.specs.Devices.{Bytes}
use Rattle.m11_base.specs.NameCharacters.{six_of}
use Rattle.m11_base.specs.Rad50.{Name, name_of}
use Rattle.m11_scan.specs.Line.{line_limit}
use Rattle.m11_scan.specs.Cutting.{Lexeme, text_between, tokens_from}
use Rattle.m11_scan.specs.Views.{bits_of}
use Rattle.m11_scan.specs.declared.sort.Sort.{Sort}
use Rattle.m11_scan.specs.declared.sort.Sort.TheVariants as sorts
use Rattle.m11_scan_statements.specs.Actuals.{separator_at}
use Rattle.m11_scan_statements.specs.Formals.{next_formal}
use Rattle.m11_scan_statements.specs.Labels.{is_counter}
use Rattle.m11_scan_statements.specs.declared.formals.Formal.{Formal}
use Rattle.m11_scan_statements.specs.declared.formals.NextFormal.TheVariants.{Ends, Bad, Named}
use Rattle.m11_unfold_rules.specs.declared.macros.Header.{Header}
use Rattle.m11_unfold_rules.specs.declared.macros.FormalOrEnd.{FormalOrEnd}
use Rattle.m11_unfold_rules.specs.declared.macros.FormalOrEnd.TheVariants.{Last, More}
use Rattle.m11_unfold_rules.specs.declared.macros.MacroFormal.{MacroFormal}
use Rattle.m11_unfold_rules.specs.declared.macros.NameAt.{NameAt}
use Rattle.m11_scan_expressions.specs.LeftOvers.{bad_flags, flags_before, rest_flags, skip_flags}

-- the name in a token; none if the token isn't a name other than `.`
abbrev pub name_in : Sort → Bytes → Option Name
name_in sorts.Name text = if is_counter text then None else name_of (six_of text)
name_in sort text = None

-- the name in the first of these tokens and the column after it; none if there is no token, or if it isn't a name other than `.`
abbrev pub name_at : List Lexeme → Option NameAt
name_at [] = None
name_at (token ∷ tokens) = option_map (λ name. record { name = name; end = token.end }) (name_in token.sort token.text)

-- the next item in a list of formals: the end of the list and its flags; or a formal, its flags and the column after it
pub data NextListed : Type 0 where
  Ending : ℕ → NextListed
  Formally : MacroFormal → ℕ → ℕ → NextListed

-- the column where a formal begins, including a `?` directly before it
abbrev pub formal_start : Formal → ℕ
formal_start formal = if formal.is_created then formal.name.start - 1 else formal.name.start

-- the next item in a list of formals, at or after a column: a formal, with I for a skipped character before it; or the end of the
-- list, with I for a skipped character in the rest of the line, and with A if a token is left
abbrev pub listed_at : Bytes → ℕ → NextListed
listed_at line column = elim (next_formal line column) [
  | Ends ↦ Ending (rest_flags line column)
  | Bad ↦ Ending (bad_flags line column)
  | Named formal ↦ elim (name_of (six_of (text_between line formal.name.start formal.name.end))) [
    | None ↦ Ending (bad_flags line column)
    | Some name ↦ Formally (record { name = name; is_created = formal.is_created })
        (skip_flags line column (formal_start formal)) formal.name.end
  ]
]

-- formals and the flags of their list
pub record FormalList : Type 0 where
  pub list : List MacroFormal
  pub flags : ℕ

abbrev pub formals_by : (ℕ → FormalList) → NextListed → FormalList
formals_by more (Ending flags) = record { list = []; flags = flags }
formals_by more (Formally formal flags end) =
    record { list = formal ∷ (more end).list; flags = bit_or flags (more end).flags }

-- the formals at or after a column, at most `bound` of them, and the flags of their list; blanks, a comma or both may come before
-- each formal
abbrev pub formals_within : ℕ → Bytes → ℕ → FormalList
formals_within zero line column = record { list = []; flags = 0 }
formals_within (suc bound) line column =
    formals_by (λ next. formals_within bound line next) (listed_at line (separator_at line column).end)

-- the formals at or after a column, at most as many as a line may have characters, and the flags of their list
abbrev pub formals_after : Bytes → ℕ → FormalList
formals_after line column = formals_within line_limit line column

-- a macro's name, and its formals
pub record MacroNamed : Type 0 where
  pub name : Name
  pub formals : List MacroFormal

-- the result of a `.MACRO`: the macro's name and formals (none if the name is bad or missing), and flags
pub record MacroHeader : Type 0 where
  pub named : Option MacroNamed
  pub flags : ℕ

-- the header at a column of a line; without a name, only flags
abbrev pub header : Bytes → ℕ → MacroHeader
header line column = elim (name_at (tokens_from line column)) [
  | None ↦ record { named = None; flags = bad_flags line column }
  | Some name ↦ record {
    named = Some (record { name = name.name; formals = (formals_after line name.end).list });
    flags = bit_or (flags_before line column) (formals_after line name.end).flags;
  }
]

-- the header that the code's value represents
abbrev pub macro_of_header : Header → MacroNamed
macro_of_header header = record { name = header.name; formals = header.formals.items }

abbrev pub header_model : Option Header → Option MacroNamed
header_model (Some header) = Some (macro_of_header header)
header_model None = None

-- the list item that the code's value represents
abbrev pub listed_model : FormalOrEnd → NextListed
listed_model (Last flags) = Ending (bits_of flags)
listed_model (More found) = Formally found.formal (bits_of found.flags) found.end
