-- The next move: the end of an expansion, a line of a body, a skipped line, or a line that becomes live. (MACRO-11 Language Reference
-- Manual, "Macro definition" and "Conditional assembly block directives". That bodies are closed by nesting alone, and which directives
-- count among skipped lines, are this project's own choices.)
use Rattle.std.specs.Prelude.{ℕ, ◌+◌, ◌==◌, Bool, if◌then◌else◌, List, [], ◌∷◌, Option, Some, None}
use Rattle.m11_base.specs.Devices.{Bytes}
use Rattle.m11_base.specs.Rad50.{Name}
use Rattle.m11_scan.specs.Line.{SourceLine}
use Rattle.m11_unfold_rules.specs.Directives.{directive}
use Rattle.m11_unfold_rules.specs.declared.directives.Directive.{Directive}
use Rattle.m11_unfold_rules.specs.declared.directives.Directive.TheVariants as word
use Rattle.m11_unfold_bodies.specs.Bodies.{PartialBody, depth_after, size_of, partial_body_with}
use Rattle.m11_unfold_bodies.specs.Conditions.{OpenConditions, is_skipping, nested, no_conditions, unnested}
use Rattle.m11_unfold_bodies.specs.Left.{RemainingItem, Line, End, expanded, is_expanding}
use Rattle.m11_unfold_bodies.specs.declared.mark.Mark.{Mark}
use Rattle.m11_unfold_bodies.specs.declared.open_body.Nesting.{Nesting}
use Rattle.m11_unfold_bodies.specs.declared.open_body.Nesting.TheVariants.{Opens, Closes, Neither}
use Rattle.m11_unfold_rules.specs.Macros.{defined}
use Rattle.m11_unfold_rules.specs.Stages.{Stage, Opening, Purpose, Defines, Repeats, Drops}

-- ---- bodies

-- the effect of a line's directive on an open body: `.MACRO`, `.REPT`, `.IRP` and `.IRPC` open another one inside it, and `.ENDM`
-- and `.ENDR` both close any body
abbrev pub nesting : Bytes → Nesting
nesting text = elim (directive text) [
  | Some word.Macro ↦ Opens
  | Some word.Rept ↦ Opens
  | Some word.Irp ↦ Opens
  | Some word.Irpc ↦ Opens
  | Some word.Endm ↦ Closes
  | Some word.Endr ↦ Closes
  | _ ↦ Neither
]

-- the stage with an expansion inserted before what is left; the expansion begins without open conditions, and its end restores
-- those around it
abbrev pub opened : Option ℕ → ℕ → List Name → List (List Bytes) → List Bytes → Stage → Stage
opened arguments bytes formals rounds body stage = record stage {
  left = expanded formals rounds body (record { arguments = arguments; bytes = bytes; conditions = stage.conditions }) stage.left;
  conditions = no_conditions;
}

-- the stage after a closed body is used: it defines a macro, is replaced by its rounds, or is discarded
abbrev pub used : Purpose → List Bytes → Stage → Stage
used (Defines name formals) body stage = record stage {
  macros = defined stage.macros name (record { formals = formals; body = body });
  defined_bytes = stage.defined_bytes + size_of body;
}
used (Repeats formals rounds) body stage = opened None (size_of body) formals rounds body stage
used Drops body stage = stage

-- the stage after a line of a body: either the line is added to the body, inside which `depth` bodies are then open, or the line
-- closes the body, which is used
abbrev pub into_body : Purpose → PartialBody → Bytes → Option ℕ → Stage → Stage
into_body purpose taken text None stage = used purpose taken.body (record stage { opening = None })
into_body purpose taken text (Some depth) stage =
    record stage { opening = Some (record { purpose = purpose; taken = partial_body_with taken text depth }) }

-- ---- skipped lines

-- the conditions, unchanged, after an `.IFF`, `.IFT` or `.IFTF` among skipped lines; None, since the directive is live, if it belongs to
-- the skipped condition itself and this condition isn't beyond the limit
abbrev pub switch_in : OpenConditions → Option OpenConditions
switch_in conditions =
    if conditions.is_past then Some conditions else (if conditions.nested == 0 then None else Some conditions)

-- the conditions after a line with this directive among skipped lines: only `.IF` and `.ENDC` change them; None if the line is live
abbrev pub skipped_by : OpenConditions → Option Directive → Option OpenConditions
skipped_by conditions (Some word.If) = Some (nested conditions)
skipped_by conditions (Some word.Endc) = if conditions.nested == 0 then None else Some (unnested conditions)
skipped_by conditions (Some word.Iff) = switch_in conditions
skipped_by conditions (Some word.Ift) = switch_in conditions
skipped_by conditions (Some word.Iftf) = switch_in conditions
skipped_by conditions other = Some conditions

abbrev pub skipped : OpenConditions → Bytes → Option OpenConditions
skipped conditions text = if is_skipping conditions then skipped_by conditions (directive text) else None

-- ---- moves

-- a line that became live, and whether it comes from an expansion
pub record Live : Type 0 where
  pub line : SourceLine
  pub is_expanded : Bool

pub data Move : Type 0 where
  -- nothing is left to unfold, or a live `.END` was read
  NothingLeft : Move
  -- something was read, and no line became live
  Passes : Stage → Move
  -- a line became live
  Gives : Live → Stage → Move

-- the stage after one more line was read; `left` is what is left after it
abbrev pub one_taken : List RemainingItem → Stage → Stage
one_taken left stage = record stage { left = left; taken = stage.taken + 1 }

-- the stage after the end of an expansion: its open conditions and its open body are discarded, and the conditions around it are
-- open again
abbrev pub ended : Mark → List RemainingItem → Stage → Stage
ended mark left stage = record stage { left = left; conditions = mark.conditions; opening = None }

-- the move that reads a line: if a body is open, the line is added to it or closes it; otherwise the line is skipped or becomes live
abbrev pub line_move : Option Opening → SourceLine → Stage → Move
line_move (Some opening) line stage = Passes
    (into_body opening.purpose opening.taken line.text (depth_after (nesting line.text) opening.taken.depth) stage)
line_move None line stage = elim (skipped stage.conditions line.text) [
  | Some conditions ↦ Passes (record stage { conditions = conditions })
  | None ↦ Gives (record { line = line; is_expanded = is_expanding stage.left }) stage
]

-- the next move; nothing is read after a live `.END`
abbrev pub move : Stage → Move
move stage =
    if stage.has_ended then NothingLeft
    else elim stage.left [
      | [] ↦ NothingLeft
      | End mark ∷ left ↦ Passes (ended mark left stage)
      | Line line ∷ left ↦ line_move stage.opening line (one_taken left stage)
    ]
