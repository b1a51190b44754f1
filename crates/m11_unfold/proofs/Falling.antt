-- The limits on the state of an unfolding also hold after a fault.
use Rattle.std.proofs.Common.{◌≡◌, ◌<◌, ◌+◌, Bool, true, Option, Some, None, ap, arith}
use Rattle.m11_unfold_bodies.specs.Conditions.{no_conditions}
use Rattle.m11_scan.specs.Line.{SourceLine}
use Rattle.m11_unfold_rules.specs.Limits.{most_lines}
use Rattle.m11_unfold_rules.specs.Stages.{Opening, Stage}
use Rattle.m11_unfold_rules.specs.declared.fault.UnfoldFault.{UnfoldFault}
use Rattle.m11_unfold_rules.specs.declared.fault.UnfoldFault.TheVariants.{TooDeep, TooManyLines, TooMuchText, TooManyMacros, NoMemory}
use Rattle.m11_unfold_rules.proofs.Cases.{bytes_taken}
use Rattle.m11_unfold.specs.Kept.{IsKept}
use Rattle.m11_unfold.specs.Steps.{Fails, FailsGrowing, with_line}

-- if the limits hold with a line before what is left, they hold without it
pub kept_untaken : (line : SourceLine) (stage : Stage) → IsKept (with_line line stage) → IsKept stage
kept_untaken line stage kept = record {
  lines = kept.lines;
  macros = kept.macros;
  bytes = kept.bytes;
  expansions = kept.expansions;
  conditions = kept.conditions;
  nested = kept.nested;
}

-- if there is room for one more line, the limits hold after the line is read
pub kept_taken : (line : SourceLine) (stage : Stage) → IsKept (with_line line stage) → stage.taken < most_lines
    → IsKept (record stage { taken = stage.taken + 1 })
kept_taken line stage kept room =
    let nested = kept.nested in
    record {
      lines = omega (arith, room);
      macros = kept.macros;
      bytes = kept.bytes;
      expansions = kept.expansions;
      conditions = kept.conditions;
      nested = omega (arith, nested);
    }

-- if the limits hold with an open body, they hold without it
pub kept_dropped : (stage : Stage) (opening : Opening) → stage.opening ≡ None → IsKept (record stage { opening = Some opening })
    → IsKept stage
kept_dropped stage opening none kept =
    let bytes = kept.bytes in
    let dropped = ap bytes_taken none in
    record {
      lines = kept.lines;
      macros = kept.macros;
      bytes = omega (arith, bytes, dropped);
      expansions = kept.expansions;
      conditions = kept.conditions;
      nested = kept.nested;
    }

-- the limits still hold if the conditions of the innermost expansion are lost
pub kept_unconditioned : (stage : Stage) → IsKept stage → IsKept (record stage { conditions = no_conditions })
kept_unconditioned stage kept =
    let conditions = kept.conditions in
    let nested = kept.nested in
    record {
      lines = kept.lines;
      macros = kept.macros;
      bytes = kept.bytes;
      expansions = kept.expansions;
      conditions = omega (arith, conditions);
      nested = omega (arith, nested);
    }

-- if a line of an open body fails, the move fails with the same fault
pub fails_moving : (passed : Option UnfoldFault) (grows : Bool) (fault : UnfoldFault) → grows ≡ true → Fails passed fault
    → FailsGrowing passed grows fault
fails_moving passed grows TooDeep is fails = fails
fails_moving passed grows TooManyLines is fails = fails
fails_moving passed grows TooMuchText is fails = fails
fails_moving passed grows TooManyMacros is fails = fails
fails_moving passed grows NoMemory is fails = (fails, is)
