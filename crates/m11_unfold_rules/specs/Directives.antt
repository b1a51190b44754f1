-- The directives for conditions, repeats and macros, and `.END`, by their names. (MACRO-11 Language Reference Manual, "Conditional
-- assembly block directives", "Macro definition", "Repeat block directive", "Indefinite repeat block directives" and ".END
-- directive".)
use Rattle.std.specs.Prelude.{ℕ, ◌==◌, List, [], ◌∷◌, codes, filter, find, Option, Some, None, option_map, slice_index, option_and_then}
use Rattle.std.specs.Str.{bytes_eq}
use Rattle.m11_base.specs.Devices.{Bytes}
use Rattle.m11_base.specs.NameCharacters.{six_of}
use Rattle.m11_scan.specs.Cutting.{text_between}
use Rattle.m11_scan_statements.specs.declared.bodies.Body.{Body}
use Rattle.m11_scan_statements.specs.declared.bodies.Body.TheVariants.{Operate}
use Rattle.m11_scan_statements.specs.declared.spans.Span.{Span}
use Rattle.m11_scan_statements.specs.Statements.{body_of}
use Rattle.m11_unfold_rules.specs.declared.directives.Directive.{Directive}
use Rattle.m11_unfold_rules.specs.declared.directives.Directive.TheVariants as word
use Rattle.m11_unfold_rules.specs.declared.directives.DirectiveRow.{DirectiveRow}

abbrev pub named : Bytes → Directive → DirectiveRow
named name directive = record { name = name; directive = directive }

-- the directives, each with its six-character name
abbrev pub directive_rows : List DirectiveRow
directive_rows =
    named (codes ".IF   ") word.If
    ∷ named (codes ".IFF  ") word.Iff
    ∷ named (codes ".IFT  ") word.Ift
    ∷ named (codes ".IFTF ") word.Iftf
    ∷ named (codes ".ENDC ") word.Endc
    ∷ named (codes ".IIF  ") word.Iif
    ∷ named (codes ".MACRO") word.Macro
    ∷ named (codes ".ENDM ") word.Endm
    ∷ named (codes ".REPT ") word.Rept
    ∷ named (codes ".ENDR ") word.Endr
    ∷ named (codes ".IRP  ") word.Irp
    ∷ named (codes ".IRPC ") word.Irpc
    ∷ named (codes ".MEXIT") word.Mexit
    ∷ named (codes ".NARG ") word.Narg
    ∷ named (codes ".NCHR ") word.Nchr
    ∷ named (codes ".END  ") word.End
    ∷ []

-- the directives whose names have this second character
abbrev pub rows_with : ℕ → List DirectiveRow
rows_with second = filter (λ row. slice_index row.name 1 == second) directive_rows

-- the directive of the row with this name, if there is one
abbrev pub directive_among : List DirectiveRow → Bytes → Option Directive
directive_among rows name = option_map (λ row. row.directive) (find (λ row. bytes_eq row.name name) rows)

-- the directive with this six-character name, if there is one
abbrev pub directive_named : Bytes → Option Directive
directive_named name = option_map (λ row. row.directive) (find (λ row. bytes_eq row.name name) directive_rows)

-- the name of the operator in the body of a statement, if it has one
abbrev pub operator_in : Body → Option Span
operator_in (Operate name) = Some name
operator_in other = None

-- the name of the operator after a line's labels, if it has one; an assignment has none
abbrev pub operator : Bytes → Option Span
operator line = operator_in (body_of line)

-- the directive that a line's operator names, if it names one
abbrev pub directive : Bytes → Option Directive
directive line = option_and_then (λ (name : Span). directive_named (six_of (text_between line name.start name.end))) (operator line)
