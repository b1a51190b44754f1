-- The lines that a repeat, an indefinite repeat, a call and a condition yield, and the stages before and after each. (MACRO-11 Language
-- Reference Manual, "Repeat block directive", "Indefinite repeat block directives", "Macro calls" and "Conditional assembly block
-- directives".)
use Rattle.std.specs.Prelude.{◌≡◌, ℕ, zero, suc, ◌+◌, ◌<◌, ◌≤◌, true, false, List, [], ◌∷◌, ◌++◌, length, map, Option, ⊤}
use Rattle.std.specs.List.{flat_map}
use Rattle.m11_base.specs.Devices.{Bytes}
use Rattle.m11_base.specs.Rad50.{Name}
use Rattle.m11_scan.specs.Line.{SourceLine}
use Rattle.m11_unfold_rules.specs.Conditions.{condition, remarks_in}
use Rattle.m11_scan_expressions.specs.Expressions.{KnownSymbols}
use Rattle.m11_unfold_rules.specs.Indefinite.{Repetition}
use Rattle.m11_scan_expressions.specs.LeftOvers.{left_over}
use Rattle.m11_scan_expressions.specs.Remarks.{Remarks, no_remarks, with_flags}
use Rattle.m11_unfold_bodies.specs.Bodies.{size_of}
use Rattle.m11_unfold_bodies.specs.Conditions.{most_conditions}
use Rattle.m11_unfold_bodies.specs.Left.{RemainingItem, Line, bytes_held, conditions_open, depth, most_expansions}
use Rattle.m11_unfold_bodies.specs.Substitution.{line_with}
use Rattle.m11_unfold_bodies.specs.declared.open_body.Nesting.TheVariants.{Neither}
use Rattle.m11_unfold_rules.specs.Acting.{Calls, operation}
use Rattle.m11_unfold_rules.specs.Limits.{most_bytes, most_lines}
use Rattle.m11_unfold_rules.specs.Stages.{Stage, line_left}
use Rattle.m11_unfold_rules.specs.Taking.{nesting}
use Rattle.m11_unfold_rules.specs.Unfolding.{UnfoldedLine}

-- a block of lines: the line that opens it, the lines inside, the line that closes it, and what is left after it
pub record Block : Type 0 where
  pub first : SourceLine
  pub lines : List SourceLine
  pub close : SourceLine
  pub left : List RemainingItem

-- the stage before a block
abbrev pub before_block : Stage → Block → Stage
before_block stage block = record stage { left = Line block.first ∷ map line_left block.lines ++ Line block.close ∷ block.left }

-- the stage after a block, when its lines and the `further` lines that it yields have been read
abbrev pub after_block : Stage → Block → ℕ → Stage
after_block stage block further =
    record stage { left = block.left; taken = stage.taken + (length block.lines + 2) + further }

-- ---- repeats

-- none of these lines opens or closes a body
abbrev pub IsPlainBody : List Bytes → Type 0
IsPlainBody [] = ⊤
IsPlainBody (text ∷ texts) = (nesting text ≡ Neither) × IsPlainBody texts

-- the lines of a body with the actuals of one round in place of the formals
abbrev pub round_lines : List Name → List Bytes → List Bytes → List SourceLine
round_lines formals body actuals = map (line_with formals actuals) body

-- the lines of a body in all rounds, each with the actuals of its round in place of the formals
abbrev pub lines_of_rounds : List Name → List (List Bytes) → List Bytes → List SourceLine
lines_of_rounds formals rounds body = flat_map (round_lines formals body) rounds

-- the lines in all rounds of an `.IRP` or `.IRPC`
abbrev pub repeated_lines : Repetition → List Bytes → List SourceLine
repeated_lines rounds body = lines_of_rounds (rounds.formal ∷ []) (map (λ text. text ∷ []) rounds.texts) body

-- these lines n times
abbrev pub times : ℕ → List SourceLine → List SourceLine
times zero lines = []
times (suc n) lines = lines ++ times n lines

-- the block of a repeat and the lines that it yields are within the limits on lines, on the bytes of bodies and on expansions
pub record HasRoom (stage : Stage) (block : Block) (body : List Bytes) (gives : List SourceLine) : Type 0 where
  pub lines : stage.taken + (length block.lines + 2) + length gives ≤ most_lines
  pub bytes : stage.defined_bytes + bytes_held block.left + size_of body ≤ most_bytes
  pub expansions : depth block.left < most_expansions

-- a live line that comes from an expansion and doesn't belong to unfolding
abbrev pub expanded_live_line : KnownSymbols → Option ℕ → SourceLine → UnfoldedLine
expanded_live_line known arguments line = record {
  live = record { line = line; is_expanded = true };
  known = known;
  is_own = false;
  remarks = no_remarks;
  arguments = arguments;
}

-- ---- calls

-- the line calls a macro without formals and with this body; the column is the one after the macro's name
abbrev pub IsCall : Stage → SourceLine → List Bytes → ℕ → Type 0
IsCall stage line body column =
    operation stage.conditions stage.macros line.text ≡ Calls (record { formals = []; body = body }) column

-- the stage before a call
abbrev pub before_call : Stage → SourceLine → List RemainingItem → Stage
before_call stage line left = record stage { left = Line line ∷ left }

-- the stage after a call and the lines of its expansion
abbrev pub after_call : Stage → List Bytes → List RemainingItem → Stage
after_call stage body left = record stage { left = left; taken = stage.taken + 1 + length body }

-- ---- conditions

-- the flags and symbols of an `.IF`
abbrev pub condition_remarks : KnownSymbols → Bytes → ℕ → Remarks
condition_remarks known text column =
    with_flags (remarks_in (condition known text column)) (left_over text (condition known text column).end)

-- one more condition may be opened
abbrev pub HasConditionLeft : Stage → Block → Type 0
HasConditionLeft stage block = length stage.conditions.entered + conditions_open block.left < most_conditions
