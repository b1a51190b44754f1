-- The two halves of handling a live line: its labels are defined, and unfolding handles its operator; then the line is placed. (This
-- project's own.)
use Rattle.std.specs.Prelude.{◌≡◌, Option, Result, Ok, Err}
use Rattle.std.specs.Option.{option_to_list}
use Rattle.m11_asm_faults.specs.declared.fault.AsmFault.{AsmFault}
use Rattle.m11_asm_listing.specs.declared.items.Item.{Item}
use Rattle.m11_scan.specs.Views.{bits_of}
use Rattle.m11_scan_statements.specs.Labels.{labels_end}
use Rattle.m11_scan_statements.specs.Statements.{body_of, label_flags}
use Rattle.m11_scan_statements.specs.declared.statements.Statement.{Statement}
use Rattle.m11_unfold.specs.Unfolder.{Acts}
use Rattle.m11_unfold_rules.specs.Stages.{Stage}
use Rattle.m11_unfold_rules.specs.Taking.{Live}
use Rattle.m11_asm_rules.specs.Items.{assigned_items}
use Rattle.m11_asm_rules.specs.Operations.{operation}
use Rattle.m11_asm_rules.specs.Meanings.{Map}
use Rattle.m11_asm_rules.specs.Unfolded.{known_after_labels}
use Rattle.m11_asm_lines.specs.Actions.{IsRead, operation_model}
use Rattle.m11_asm_lines.specs.Counting.{with_counted}
use Rattle.m11_asm_lines.specs.declared.actions.Operation.{Operation}
use Rattle.m11_asm_passes.specs.Faults.{FailsAtLine}
use Rattle.m11_asm_passes.specs.Labelled.{LabelsLie}
use Rattle.m11_asm_passes.specs.Refusals.{given_by, uses_of_labels}
use Rattle.m11_asm_passes.specs.States.{PassState}
use Rattle.m11_asm_passes.specs.Turns.{LeavesAfter}
use Rattle.m11_asm_passes.specs.declared.begun.LabelledLine.{LabelledLine}

-- a statement has the end of the labels, the body and the label flags of the live line
pub record States (live : Live) (statement : Statement) : Type 0 where
  pub labels_end_is : statement.labels_end ≡ labels_end live.line.text
  pub body_is : statement.body ≡ body_of live.line.text
  pub flags_are : bits_of statement.label_flags ≡ label_flags live.line

-- the first half of handling a live line: its labels are defined and their names counted, unfolding has handled its operator, and the
-- operation after the labels is read
pub record Begins (map : Map) (live : Live) (old new : PassState) (does : Operation) (begun : LabelledLine) : Type 0 where
  pub labels : LabelsLie map old.counting live.line.text old.table new.table begun.found
  pub named : new.counting ≡ with_counted (uses_of_labels live.line.text) old.counting
  pub acts : Acts (known_after_labels new.table) live.line.text old.unfolder.stage new.unfolder.stage (Ok begun.act)
  pub operation_is : operation_model live.line.text does ≡ operation begun.act.is_own begun.act.arguments live.line.text
  pub is_read : IsRead new.table live.line.text does

-- the second half of handling a live line: the line is placed, with the item that a listing shows of its assignment, if it has one; or the
-- line exceeds a limit, or memory was refused
abbrev pub Finishes : Map → Live → Stage → PassState → PassState → Result (Option Item) AsmFault → Type 0
Finishes map live stage old new (Ok item) =
    LeavesAfter map live stage old new × (option_to_list item ≡ assigned_items map old.table (given_by old.table live stage))
Finishes map live stage old new (Err fault) = FailsAtLine map old.table old.counting live stage fault
