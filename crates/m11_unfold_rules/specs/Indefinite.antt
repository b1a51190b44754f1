-- The rounds of `.IRP` and `.IRPC`. (MACRO-11 Language Reference Manual, "Indefinite repeat block directives". That a list without brackets
-- is one actual, and that a missing list is flagged A, are this project's own choices.)
use Rattle.std.specs.Prelude.{ℕ, Bool, true, false, List, [], ◌∷◌, map, Option, Some, None}
use Rattle.m11_base.specs.Devices.{Bytes}
use Rattle.m11_base.specs.Rad50.{Name}
use Rattle.m11_scan.specs.Line.{line_limit}
use Rattle.m11_scan.specs.Cutting.{tokens_from}
use Rattle.m11_scan_statements.specs.Actuals.{next_actual, separator_at}
use Rattle.m11_scan_statements.specs.declared.actuals.Actual.{Actual}
use Rattle.m11_scan_statements.specs.declared.actuals.ActualKind.TheVariants.{Bracketed}
use Rattle.m11_unfold_rules.specs.Actuals.{ActualTexts, actuals_from, followed_by, given_by, texts_of}
use Rattle.m11_unfold_rules.specs.Conditions.{actual_flags, text_of}
use Rattle.m11_scan_expressions.specs.Expressions.{KnownSymbols}
use Rattle.m11_scan_expressions.specs.LeftOvers.{bad_flags, left_over, flags_before}
use Rattle.m11_unfold_rules.specs.Headers.{name_at}
use Rattle.m11_scan_expressions.specs.Remarks.{Remarks, joined, remarks_of}
use Rattle.m11_unfold_rules.specs.declared.indefinite.RepeatHeader.{RepeatHeader}
use Rattle.m11_unfold_rules.specs.declared.indefinite.Rounds.{Rounds}

-- a formal and its actual in each round
pub record Repetition : Type 0 where
  pub formal : Name
  pub texts : List Bytes

-- the rounds (none without a formal or a list), and the flags and symbols that were read
pub record Repeated : Type 0 where
  pub rounds : Option Repetition
  pub remarks : Remarks

-- the actuals of a bracketed list, which is read as a line of its own; flagged A if the list lacks its `>`
abbrev pub listed_in : KnownSymbols → Bytes → Actual → ActualTexts
listed_in known line actual =
    followed_by (record { texts = []; remarks = remarks_of (actual_flags actual) [] })
    (actuals_from known (text_of line actual) line_limit 0)

-- the actuals of an `.IRP`: those in its brackets, or a single one without brackets
abbrev pub listed : KnownSymbols → Bytes → Actual → ActualTexts
listed known line actual = elim actual.kind [ Bracketed ↦ listed_in known line actual | _ ↦ given_by known line actual ]

-- the actuals of an `.IRPC`: the characters of its text
abbrev pub spelled : Bytes → Actual → ActualTexts
spelled line actual =
    record { texts = map (λ byte. byte ∷ []) (text_of line actual); remarks = remarks_of (actual_flags actual) [] }

-- the formal at or after a column, and the argument after it; none unless the first token there is a name other than `.`, which is
-- the formal, and an argument follows. Blanks, a comma or both may separate the two
abbrev pub begun_at : Bytes → ℕ → Bool → Option RepeatHeader
begun_at line column allows_digits = elim (name_at (tokens_from line column)) [
  | None ↦ None
  | Some name ↦ elim (next_actual line (separator_at line name.end).end allows_digits) [
    | None ↦ None
    | Some list ↦ Some (record { formal = name.name; list = list })
  ]
]

-- the rounds with the texts of the list. The remarks have I for a skipped character before the formal, the flags and symbols of the
-- list, and the flags of what is left over after the list. Without a formal or a list, the rounds are None, and the remarks have the
-- flags of a bad argument
abbrev pub repeated : Bytes → ℕ → (Actual → ActualTexts) → Option RepeatHeader → Repeated
repeated line column texts None = record { rounds = None; remarks = remarks_of (bad_flags line column) [] }
repeated line column texts (Some begun) = record {
  rounds = Some (record { formal = begun.formal; texts = (texts begun.list).texts });
  remarks = joined (joined (remarks_of (flags_before line column) []) (texts begun.list).remarks)
      (remarks_of (left_over line begun.list.end) []);
}

-- an `.IRP` whose arguments begin at or after a column: each actual of its list is the formal's text in one round
abbrev pub irp : KnownSymbols → Bytes → ℕ → Repeated
irp known line column =
    repeated line column (λ list. listed known line list) (begun_at line column true)

-- an `.IRPC` whose arguments begin at or after a column: each character of its text is the formal's text in one round
abbrev pub irpc : Bytes → ℕ → Repeated
irpc line column = repeated line column (λ list. spelled line list) (begun_at line column false)

-- the rounds that the code's value represents
abbrev pub repetition : Rounds → Repetition
repetition rounds = record { formal = rounds.formal; texts = texts_of rounds.texts.items }

abbrev pub rounds_model : Option Rounds → Option Repetition
rounds_model (Some rounds) = Some (repetition rounds)
rounds_model None = None
