-- The cases of rules by themselves: a proof about a rule goes through them one by one.
use Rattle.std.specs.Prelude.{ℕ, Bool, false, if◌then◌else◌, List, [], ◌∷◌, drop, length, Option, Some, None}
use Rattle.std.specs.Option.{is_some}
use Rattle.std.specs.Int.RustNames.{bit_or}
use Rattle.m11_base.specs.Devices.{Bytes}
use Rattle.m11_base.specs.NameCharacters.{six_of}
use Rattle.m11_base.specs.Rad50.{Name, name_of}
use Rattle.m11_scan.specs.Cutting.{Lexeme, text_between}
use Rattle.m11_scan.specs.Ends.{expression_end}
use Rattle.m11_scan.specs.ErrorFlags.{flag_A, flag_Q, flag_if}
use Rattle.m11_scan.specs.Line.{SourceLine, line_of}
use Rattle.m11_scan.specs.declared.conditions.Condition.{Condition}
use Rattle.m11_scan_statements.specs.Actuals.{separator_at}
use Rattle.m11_scan_statements.specs.declared.actuals.Actual.{Actual}
use Rattle.m11_scan_statements.specs.declared.actuals.ActualKind.{ActualKind}
use Rattle.m11_scan_statements.specs.declared.actuals.ActualKind.TheVariants.{Bare, Bracketed, Digits}
use Rattle.m11_scan_statements.specs.declared.actuals.Separator.{Separator}
use Rattle.m11_scan_statements.specs.declared.formals.Formal.{Formal}
use Rattle.m11_scan_statements.specs.declared.formals.NextFormal.{NextFormal}
use Rattle.m11_scan_statements.specs.declared.formals.NextFormal.TheVariants.{Ends, Bad, Named}
use Rattle.m11_scan_statements.specs.declared.spans.Span.{Span}
use Rattle.m11_scan_expressions.specs.Expressions.{KnownSymbols, number_at, number_flags, symbols_at}
use Rattle.m11_scan_expressions.specs.LeftOvers.{bad_flags, flags_before, rest_flags, skip_flags}
use Rattle.m11_scan_expressions.specs.Remarks.{remarks_of}
use Rattle.m11_unfold_bodies.specs.Bodies.{depth_after, size_of}
use Rattle.m11_unfold_bodies.specs.Conditions.{OpenConditions}
use Rattle.m11_unfold_bodies.specs.Left.{RemainingItem, Line, End, is_expanding}
use Rattle.m11_unfold_rules.specs.Acting.{Operation, Calls, OwnDirective, Foreign, operation_of}
use Rattle.m11_unfold_rules.specs.Actuals.{ActualTexts, characters, followed_by, given_by, no_actual_texts, numeral}
use Rattle.m11_unfold_rules.specs.Conditions.{ConditionResult, actual_flags, asked, asked_at, matched, passes, refused, second_at, text_of}
use Rattle.m11_unfold_rules.specs.Definedness.{Tested, at_last}
use Rattle.m11_unfold_rules.specs.Directives.{directive_named}
use Rattle.m11_unfold_rules.specs.Headers.{MacroHeader, NextListed, Ending, Formally, formal_start, formals_after}
use Rattle.m11_unfold_rules.specs.Limits.{body_fault, depth_fault, line_fault}
use Rattle.m11_unfold_rules.specs.Stages.{Macro, Opening, Stage}
use Rattle.m11_unfold_rules.specs.Taking.{Gives, Move, Passes, NothingLeft, ended, line_move, nesting, one_taken}
use Rattle.m11_unfold_rules.specs.declared.definedness.Joint.{Joint}
use Rattle.m11_unfold_rules.specs.declared.definedness.SoFar.{SoFar}
use Rattle.m11_unfold_rules.specs.declared.directives.Directive.{Directive}
use Rattle.m11_unfold_rules.specs.declared.fault.UnfoldFault.{UnfoldFault}
use Rattle.m11_unfold_rules.specs.declared.macros.NameAt.{NameAt}

-- ---- conditions

abbrev pub compared : KnownSymbols → Bytes → ℕ → Condition → ConditionResult
compared known line column condition = record {
  holds = passes condition (number_at known line column);
  end = expression_end line column;
  flags = number_flags known line column;
  symbols = symbols_at line column;
}

abbrev pub named : Bytes → ℕ → Option Bool → Tested → ConditionResult
named line column verdict names =
    let skipped : ℕ = skip_flags line column names.end in
    elim verdict [
      | Some verdict ↦ record { holds = verdict; end = names.end; flags = skipped; symbols = names.symbols }
      | None ↦ record { holds = false; end = names.end; flags = bit_or flag_A skipped; symbols = names.symbols }
    ]

abbrev pub after_joint : Bool → ℕ → Option Joint → (Option SoFar → Tested) → Tested
after_joint verdict end joint more = elim joint [
  | None ↦ at_last verdict end
  | Some joint ↦ more (Some (record { holds = verdict; joint = joint }))
]

abbrev pub second_by : Bytes → Bool → Actual → Separator → Option Actual → ConditionResult
second_by line wants_same first separator (Some second) =
    matched wants_same (text_of line first) (text_of line second) second.end
    (bit_or (actual_flags first) (actual_flags second))
second_by line wants_same first separator None =
    if separator.has_comma then matched wants_same (text_of line first) [] separator.end (actual_flags first)
    else refused separator.end

abbrev pub first_by : Bytes → ℕ → Bool → Option Actual → ConditionResult
first_by line column wants_same None = refused column
first_by line column wants_same (Some first) = second_at line wants_same first (separator_at line first.end)

abbrev pub asked_by : KnownSymbols → Bytes → ℕ → Option Condition → ConditionResult
asked_by known line column (Some condition) = asked known line column condition
asked_by known line column None = refused (length line)

abbrev pub named_by : KnownSymbols → Bytes → List Lexeme → ConditionResult
named_by known line [] = refused (length line)
named_by known line (name ∷ tokens) = asked_at known line name

-- ---- actuals and formals

abbrev pub given_as : KnownSymbols → Bytes → Actual → ActualKind → ActualTexts
given_as known line actual Bare = characters line actual
given_as known line actual Bracketed = characters line actual
given_as known line actual Digits = numeral known line actual.inside.start

abbrev pub wanted_by : KnownSymbols → Bytes → (ℕ → ActualTexts) → Option Actual → ActualTexts
wanted_by known line more None = no_actual_texts
wanted_by known line more (Some actual) =
    followed_by (given_by known line actual) (more (separator_at line actual.end).end)

abbrev pub unwanted : Option Actual → ActualTexts
unwanted actual = record { texts = []; remarks = remarks_of (flag_if (is_some actual) flag_Q) [] }

abbrev pub listed_named : Bytes → ℕ → Formal → Option Name → NextListed
listed_named line column formal None = Ending (bad_flags line column)
listed_named line column formal (Some name) =
    Formally (record { name = name; is_created = formal.is_created }) (skip_flags line column (formal_start formal))
    formal.name.end

abbrev pub formal_name : Bytes → Formal → Option Name
formal_name line formal = name_of (six_of (text_between line formal.name.start formal.name.end))

abbrev pub listed_by : Bytes → ℕ → NextFormal → NextListed
listed_by line column Ends = Ending (rest_flags line column)
listed_by line column Bad = Ending (bad_flags line column)
listed_by line column (Named formal) = listed_named line column formal (formal_name line formal)

abbrev pub header_by : Bytes → ℕ → Option NameAt → MacroHeader
header_by line column None = record { named = None; flags = bad_flags line column }
header_by line column (Some name) = record {
  named = Some (record { name = name.name; formals = (formals_after line name.end).list });
  flags = bit_or (flags_before line column) (formals_after line name.end).flags;
}

-- ---- operators

abbrev pub directive_at : Bytes → Option Span → Option Directive
directive_at line (Some name) = directive_named (six_of (text_between line name.start name.end))
directive_at line None = None

abbrev pub directed : Option Directive → ℕ → Operation
directed directive column = elim directive [ Some directive ↦ OwnDirective directive column | None ↦ Foreign ]

abbrev pub called : Option Macro → Option Directive → ℕ → Operation
called macro directive column = elim macro [ Some macro ↦ Calls macro column | None ↦ directed directive column ]

abbrev pub operation_in : OpenConditions → List (Name × Macro) → Bytes → Option Span → Operation
operation_in conditions macros text None = Foreign
operation_in conditions macros text (Some name) =
    operation_of conditions macros (text_between text name.start name.end) name.end

abbrev pub fault_by : Stage → Operation → Option UnfoldFault
fault_by stage Foreign = None
fault_by stage (Calls macro column) = depth_fault stage.left
fault_by stage (OwnDirective directive column) = None

abbrev pub with_statement : Bytes → Bool → Option ℕ → Stage → Stage
with_statement text holds column stage =
    if holds then (elim column [
      | Some begin ↦ record stage { left = Line (line_of (drop begin text)) ∷ stage.left }
      | None ↦ stage
    ]) else stage

-- ---- moves

abbrev pub bytes_taken : Option Opening → ℕ
bytes_taken None = 0
bytes_taken (Some opening) = size_of opening.taken.body

abbrev pub taking_fault : Option Opening → Stage → Bytes → Option UnfoldFault
taking_fault opening stage text = elim opening [
  | None ↦ None
  | Some opening ↦ body_fault opening.purpose stage text (depth_after (nesting text) opening.taken.depth)
]

abbrev pub fault_from : List RemainingItem → Stage → Option UnfoldFault
fault_from left stage =
    elim left [ [] ↦ None | End mark ∷ left ↦ None | Line line ∷ left ↦ line_fault stage line.text ]

abbrev pub live_or_skipped : Option OpenConditions → SourceLine → Stage → Move
live_or_skipped conditions line stage = elim conditions [
  | Some conditions ↦ Passes (record stage { conditions = conditions })
  | None ↦ Gives (record { line = line; is_expanded = is_expanding stage.left }) stage
]

abbrev pub move_from : List RemainingItem → Stage → Move
move_from left stage = elim left [
  | [] ↦ NothingLeft
  | End mark ∷ left ↦ Passes (ended mark left stage)
  | Line line ∷ left ↦ line_move stage.opening line (one_taken left stage)
]
