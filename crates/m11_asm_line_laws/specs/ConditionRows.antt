-- Names in conditions, worked by hand. (MACRO-11 Language Reference Manual, "Conditional assembly block directives" and "Symbols". Two
-- things are this project's own: that conditions know only firm names, and that a label whose name is already defined defines nothing.)
use Rattle.std.specs.Prelude.{Bool, true, false, not, List, [], ◌∷◌, codes, map}
use Rattle.m11_base.specs.Devices.{Bytes}
use Rattle.m11_unfold_bodies.specs.Conditions.{is_skipping}
use Rattle.m11_asm_rules.specs.Lines.{stands}
use Rattle.m11_asm_rules.specs.Meanings.{empty_map}
use Rattle.m11_asm_rules.specs.Placements.{table_after}
use Rattle.m11_asm_rules.specs.Unfolded.{known_after_labels}
use Rattle.m11_asm_line_laws.specs.Worked.{plain}
use Rattle.m11_scan.specs.ErrorFlags.{flags_text}
use Rattle.m11_unfold_rules.specs.Acting.{Acted, act}
use Rattle.m11_unfold_rules.specs.Stages.{start}

-- whether a condition holds, and its flags
pub record Verdict : Type 0 where
  pub holds : Bool
  pub flags : Bytes

-- some lines; a line after them with a condition; and the verdict on that condition
pub record ConditionRow : Type 0 where
  pub before : List Bytes
  pub line : Bytes
  pub verdict : Verdict

abbrev pub verdict_of : Acted → Verdict
verdict_of acted = record {
  holds = not (is_skipping acted.after.conditions);
  flags = flags_text acted.remarks.flags;
}

-- the verdict on the condition of a line, after the lines before it and after its own labels
abbrev pub judged : List Bytes → Bytes → Verdict
judged before line =
    verdict_of (act (known_after_labels (stands (table_after empty_map (map plain before)) (plain line))) (start []) line)

abbrev pub found_verdict : ConditionRow → Verdict
found_verdict row = judged row.before row.line

abbrev pub expected_verdict : ConditionRow → Verdict
expected_verdict row = row.verdict

abbrev pub row : List Bytes → Bytes → Bool → Bytes → ConditionRow
row before line holds flags =
    record { before = before; line = line; verdict = record { holds = holds; flags = flags } }

-- a label on the condition's own line counts, unless its name is already defined; a label that is defined twice is defined; and a test of
-- a relocatable label's number is flagged A
abbrev pub label_rows : List ConditionRow
label_rows =
    row [] (codes "A: .IF DF A") true []
    ∷ row (codes "A=Y" ∷ []) (codes "A: .IF DF A") false []
    ∷ row (codes "A:" ∷ codes "A:" ∷ []) (codes ".IF DF A") true []
    ∷ row (codes "A:" ∷ []) (codes ".IF EQ A") true (codes "A")
    ∷ []

-- an ordinary label ends the block of the local symbols before it
abbrev pub local_rows : List ConditionRow
local_rows =
    row [] (codes "5$: .IF DF 5$") true []
    ∷ row [] (codes "5$: A: .IF DF 5$") false []
    ∷ row [] (codes "A: 5$: .IF DF 5$") true []
    ∷ row (codes "5$:" ∷ []) (codes ".IF DF 5$") true []
    ∷ row (codes "5$:" ∷ []) (codes "A: .IF DF 5$") false []
    ∷ []

-- a name is firm if its definition uses only firm names
abbrev pub firm_rows : List ConditionRow
firm_rows =
    row (codes "A=1" ∷ []) (codes ".IF NE A") true []
    ∷ row (codes "A=B" ∷ []) (codes ".IF NE A") false (codes "U")
    ∷ row (codes "A=B" ∷ codes "B=4" ∷ []) (codes ".IF NE A") false (codes "U")
    ∷ row (codes "B=4" ∷ codes "A=B" ∷ []) (codes ".IF NE A") true []
    ∷ row (codes "A=B" ∷ []) (codes ".IF DF A") false []
    ∷ row [] (codes ".IF DF R0") true []
    ∷ row [] (codes ".IF DF .") true []
    ∷ []
