-- The effect of the operator of a live line. (MACRO-11 Language Reference Manual, "Conditional assembly block directives", "Macro
-- definition", "Macro calls", "Repeat block directive", "Indefinite repeat block directives" and ".MEXIT directive". The flags,
-- and the treatment of bad arguments, are this project's own.)
use Rattle.std.specs.Prelude.{ℕ, Bool, true, false, if◌then◌else◌, List, [], ◌∷◌, length, map, replicate, drop, Option, Some, None}
use Rattle.std.specs.Int.RustNames.{bit_or}
use Rattle.m11_base.specs.Devices.{Bytes}
use Rattle.m11_base.specs.NameCharacters.{six_of}
use Rattle.m11_base.specs.Rad50.{Name, name_of}
use Rattle.m11_scan.specs.Line.{line_of}
use Rattle.m11_scan.specs.Cutting.{text_between}
use Rattle.m11_unfold_rules.specs.Actuals.{ActualTexts, actuals_from}
use Rattle.m11_unfold_rules.specs.Conditions.{ConditionResult, condition, remarks_in}
use Rattle.m11_unfold_rules.specs.Directives.{directive_named, operator}
use Rattle.m11_scan_expressions.specs.Expressions.{KnownSymbols}
use Rattle.m11_unfold_rules.specs.Filling.{FormalTexts, filled}
use Rattle.m11_unfold_rules.specs.Immediate as immediate
use Rattle.m11_unfold_rules.specs.declared.immediate.Immediate.{Immediate}
use Rattle.m11_unfold_rules.specs.Indefinite.{Repeated, Repetition, irpc, irp}
use Rattle.m11_unfold_rules.specs.Headers.{MacroNamed, MacroHeader, header}
use Rattle.m11_scan_expressions.specs.LeftOvers.{left_over}
use Rattle.m11_scan_expressions.specs.Remarks.{Remarks, no_remarks, remarks_of, with_flags}
use Rattle.m11_unfold_rules.specs.Repeats as repeats
use Rattle.m11_unfold_rules.specs.declared.directives.Directive.{Directive}
use Rattle.m11_unfold_rules.specs.declared.directives.Directive.TheVariants as word
use Rattle.m11_unfold_bodies.specs.Bodies.{nothing_taken}
use Rattle.m11_unfold_bodies.specs.Conditions.{OpenConditions, closed, entering, has_none, is_skipping, past, switched}
use Rattle.m11_unfold_bodies.specs.Left.{Line, after_mark, is_expanding}
use Rattle.m11_unfold_bodies.specs.declared.conditions.Part.TheVariants as part
use Rattle.m11_unfold_rules.specs.Limits.{depth_fault, has_room}
use Rattle.m11_unfold_rules.specs.Macros.{macro_named}
use Rattle.m11_unfold_rules.specs.Stages.{Macro, Purpose, Defines, Repeats, Drops, Stage}
use Rattle.m11_unfold_rules.specs.Taking.{opened}
use Rattle.m11_unfold_rules.specs.declared.fault.UnfoldFault.{UnfoldFault}

-- the result of executing a line's operator: its flags and symbols, and the stage after it
pub record Acted : Type 0 where
  -- whether the line belongs to unfolding, and so emits nothing
  pub is_own : Bool
  pub remarks : Remarks
  pub after : Stage

-- the set of flags that has only O
abbrev pub flag_O : ℕ
flag_O = 0o400

-- ---- operators

-- the operator of a line
pub data Operation : Type 0 where
  -- a macro call, and the column after the macro's name
  Calls : Macro → ℕ → Operation
  -- a directive for conditions, repeats or macros, or `.END`, and the column after its name
  OwnDirective : Directive → ℕ → Operation
  -- anything else
  Foreign : Operation

-- the macro that an operator names, if it names one; none while lines are skipped: a line that becomes live then is executed as a
-- directive, even if a macro has the directive's name
abbrev pub macro_of : OpenConditions → List (Name × Macro) → Option Name → Option Macro
macro_of conditions macros None = None
macro_of conditions macros (Some name) = if is_skipping conditions then None else macro_named macros name

-- the operation of an operator whose name ends at a column: the call of a macro, or else a directive for conditions, repeats or macros, or
-- `.END`, or else foreign
abbrev pub operation_of : OpenConditions → List (Name × Macro) → Bytes → ℕ → Operation
operation_of conditions macros characters column = elim (macro_of conditions macros (name_of (six_of characters))) [
  | Some macro ↦ Calls macro column
  | None ↦ elim (directive_named (six_of characters)) [ Some directive ↦ OwnDirective directive column | None ↦ Foreign ]
]

-- the operation of a line: the operation of its operator, or foreign if it has none
abbrev pub operation : OpenConditions → List (Name × Macro) → Bytes → Operation
operation conditions macros text = elim (operator text) [
  | None ↦ Foreign
  | Some name ↦ operation_of conditions macros (text_between text name.start name.end) name.end
]

-- ---- their effects

abbrev pub own : Remarks → Stage → Acted
own remarks stage = record { is_own = true; remarks = remarks; after = stage }

abbrev pub foreign : Stage → Acted
foreign stage = record { is_own = false; remarks = no_remarks; after = stage }

-- remarks with these flags, with Q for a left-over token and I for a skipped character at or after a column, and without symbols
abbrev pub flagged : ℕ → Bytes → ℕ → Remarks
flagged flags text column = remarks_of (bit_or flags (left_over text column)) []

-- `.IF` with room for one more condition: opens it with this result
abbrev pub condition_opened : Bytes → ConditionResult → Stage → Acted
condition_opened text asked stage =
    own (with_flags (remarks_in asked) (left_over text asked.end))
    (record stage { conditions = entering asked.holds stage.conditions })

-- `.IF`: opens a condition; a 33rd isn't opened: its line is flagged O, its arguments aren't read, and the lines inside are skipped
abbrev pub acted_if : KnownSymbols → Bytes → ℕ → Stage → Acted
acted_if known text column stage =
    if has_room stage then condition_opened text (condition known text column) stage
    else own (remarks_of flag_O []) (record stage { conditions = past stage.conditions })

-- `.IIF`: its statement becomes the next line if its condition is true; without a comma there is no statement
abbrev pub acted_immediate : KnownSymbols → Bytes → ℕ → Stage → Acted
acted_immediate known text column stage =
    let found : Immediate = immediate.immediate known text column in
    own (immediate.remarks known text column)
    (if found.holds then (elim found.statement [
      | Some begin ↦ record stage { left = Line (line_of (drop begin text)) ∷ stage.left }
      | None ↦ stage
    ]) else stage)

-- `.IFF`, `.IFT`, `.IFTF` and `.ENDC`: change the open conditions of the innermost expansion, or of the source if no expansion is open; if
-- there is none, not even one beyond the limit, the line is flagged O instead
abbrev pub acted_within : (OpenConditions → OpenConditions) → Bytes → ℕ → Stage → Acted
acted_within change text column stage =
    if has_none stage.conditions then own (flagged flag_O text column) stage
    else own (flagged 0 text column) (record stage { conditions = change stage.conditions })

-- the stage with a body opened for this purpose; the following lines belong to the body
abbrev pub opens : Purpose → Stage → Stage
opens purpose stage = record stage { opening = Some (record { purpose = purpose; taken = nothing_taken }) }

-- `.REPT`: opens a body that is repeated, without formals
abbrev pub acted_repeat : KnownSymbols → Bytes → ℕ → Stage → Acted
acted_repeat known text column stage =
    own (repeats.remarks known text column) (opens (Repeats [] (replicate (repeats.rept_count known text column) [])) stage)

-- `.MEXIT`: everything up to the end of the innermost expansion is discarded; if no expansion is open, the line is flagged O instead
abbrev pub acted_exit : Bytes → ℕ → Stage → Acted
acted_exit text column stage =
    if is_expanding stage.left then own (flagged 0 text column) (record stage { left = after_mark stage.left })
    else own (flagged flag_O text column) stage

-- the purpose of the body of a `.MACRO`: to define the macro, or without a name to be discarded
abbrev pub defining : Option MacroNamed → Purpose
defining named = elim named [ Some macro ↦ Defines macro.name macro.formals | None ↦ Drops ]

-- `.MACRO`: opens a body that defines a macro, or without a name is discarded
abbrev pub acted_header : MacroHeader → Stage → Acted
acted_header header stage = own (remarks_of header.flags []) (opens (defining header.named) stage)

-- the purpose of the body of an `.IRP` or `.IRPC`: one formal, and one actual for each round; no round without a formal or a list
abbrev pub repeating : Option Repetition → Purpose
repeating (Some rounds) = Repeats (rounds.formal ∷ []) (map (λ text. text ∷ []) rounds.texts)
repeating None = Repeats [] []

-- `.IRP` and `.IRPC`: open a body that is repeated for each actual
abbrev pub acted_repeated : Repeated → Stage → Acted
acted_repeated repeated stage = own repeated.remarks (opens (repeating repeated.rounds) stage)

-- a call: the macro's body comes next, with an actual or a created symbol in place of each formal; the mark at the end of the
-- expansion has the number of actuals
abbrev pub acted_call : Macro → ActualTexts → Stage → Acted
acted_call macro given stage =
    let texts : FormalTexts = filled macro.formals given.texts stage.created in
    own given.remarks (opened (Some (length given.texts)) 0 (map (λ formal. formal.name) macro.formals) (texts.texts ∷ []) macro.body
    (record stage { created = texts.created }))

abbrev pub acted_by : KnownSymbols → Bytes → Stage → Operation → Acted
acted_by known text stage (Calls macro column) =
    acted_call macro (actuals_from known text (length macro.formals) column) stage
acted_by known text stage (OwnDirective word.If column) = acted_if known text column stage
acted_by known text stage (OwnDirective word.Iff column) = acted_within (switched part.False) text column stage
acted_by known text stage (OwnDirective word.Ift column) = acted_within (switched part.True) text column stage
acted_by known text stage (OwnDirective word.Iftf column) = acted_within (switched part.Both) text column stage
acted_by known text stage (OwnDirective word.Endc column) = acted_within closed text column stage
acted_by known text stage (OwnDirective word.Iif column) = acted_immediate known text column stage
acted_by known text stage (OwnDirective word.Macro column) = acted_header (header text column) stage
acted_by known text stage (OwnDirective word.Endm column) = own (remarks_of flag_O []) stage
acted_by known text stage (OwnDirective word.Rept column) = acted_repeat known text column stage
acted_by known text stage (OwnDirective word.Endr column) = own (remarks_of flag_O []) stage
acted_by known text stage (OwnDirective word.Irp column) = acted_repeated (irp known text column) stage
acted_by known text stage (OwnDirective word.Irpc column) = acted_repeated (irpc text column) stage
acted_by known text stage (OwnDirective word.Mexit column) = acted_exit text column stage
acted_by known text stage (OwnDirective word.End column) = foreign (record stage { has_ended = true })
acted_by known text stage other = foreign stage

-- the effect of a line's operator at a stage, with these symbols known
abbrev pub act : KnownSymbols → Stage → Bytes → Acted
act known stage text = acted_by known text stage (operation stage.conditions stage.macros text)

-- ---- the fault of executing an operator

-- the fault of executing a line's operator, if it exceeds a limit; only a call can do so, by one expansion too many; this limit
-- is checked before any argument is read
abbrev pub act_fault : Stage → Bytes → Option UnfoldFault
act_fault stage text =
    elim (operation stage.conditions stage.macros text) [ Calls macro column ↦ depth_fault stage.left | _ ↦ None ]
