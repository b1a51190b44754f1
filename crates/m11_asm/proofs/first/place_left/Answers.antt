use Rattle.std.proofs.Common.{◌∙◌, refl, sym}
use Rattle.m11_asm_faults.specs.declared.fault.AsmFault.TheVariants.{NoMemory}
use Rattle.m11_asm_rules.specs.Meanings.{empty_map}
use Rattle.m11_asm_passes.proofs.Resting.{turns_nowhere}
use Rattle.m11_asm_passes.specs.Placed.{live_in}
use Rattle.m11_asm_passes.specs.Turns.{SaysLive}
use Rattle.m11_asm_passes.specs.declared.turns.Turn.TheVariants.{NeedLine}
use Rattle.m11_asm.proofs.FirstTaking.{fails_all, left_ends, left_rests, note_fails, placed_more}
use Rattle.m11_asm.proofs.first.place_left.Goals as goal

pub lines-preserved : goal.lines-preserved
lines-preserved c = record {
  goes_on = c.in_ok-define.ensures.fault;
  takes = λ source lines taken.
      placed_more c.the_calls_place_the_lines_of_a_source.ensures.defines source c.lines.pass.pass_state c.define.new.self.pass_state c.define.new.live
      c.lines.facts (c.lines.invariant.takes source lines taken) c.in_ok-define.field-0
      (c.in_ok-define.ensures.turns c.lines.invariant.goes_on) c.in-Line.is c.add_line.new.self c.table.result.now
      c.table.ensures c.in_ok-add_line-in-Line.ensures;
}

pub returns-in-NeedLine-clause-takes : goal.returns-in-NeedLine-clause-takes
returns-in-NeedLine-clause-takes c = λ source lines taken.
    left_rests c.the_calls_place_the_lines_of_a_source.ensures.defines source c.lines.pass.pass_state c.define.new.self.pass_state c.define.new.live
    c.lines.facts (c.lines.invariant.takes source lines taken) c.in_ok-define.field-0
    (c.in_ok-define.ensures.turns c.lines.invariant.goes_on) c.in-NeedLine.is

pub returns-in-End-clause-takes : goal.returns-in-End-clause-takes
returns-in-End-clause-takes c = λ source lines taken.
    left_ends c.the_calls_place_the_lines_of_a_source.ensures.defines source c.lines.pass.pass_state c.define.new.self.pass_state c.define.new.live
    c.lines.facts (c.lines.invariant.takes source lines taken) c.in_ok-define.field-0
    (c.in_ok-define.ensures.turns c.lines.invariant.goes_on) c.in-End.is

pub returns-in_err-define-clause-takes : goal.returns-in_err-define-clause-takes
returns-in_err-define-clause-takes c = λ source lines taken.
    fails_all c.the_calls_place_the_lines_of_a_source.ensures.defines source c.lines.pass.pass_state c.define.new.self.pass_state c.define.new.live
    c.lines.facts (c.lines.invariant.takes source lines taken) c.in_err-define.field-0.0
    c.lines.facts c.from_residual.result (c.in_err-define.ensures.turns c.lines.invariant.goes_on) c.from_residual.ensures.1

pub returns-in_err-add_line-in-Line-clause-takes : goal.returns-in_err-add_line-in-Line-clause-takes
returns-in_err-add_line-in-Line-clause-takes c = λ source lines taken.
    note_fails c.the_calls_place_the_lines_of_a_source.ensures.defines source c.lines.pass.pass_state c.define.new.self.pass_state c.define.new.live
    c.lines.facts (c.lines.invariant.takes source lines taken) c.in_ok-define.field-0
    (c.in_ok-define.ensures.turns c.lines.invariant.goes_on) c.in-Line.is NoMemory refl c.add_line.new.self c.from_residual-in_err-add_line-in-Line.result
    c.from_residual-in_err-add_line-in-Line.ensures.1

-- no line is left, just as if a further call had returned `NeedLine`
pub returns-then-needs_line-clause-takes : goal.returns-then-needs_line-clause-takes
returns-then-needs_line-clause-takes c = λ source lines taken.
    let some = placed_more c.the_calls_place_the_lines_of_a_source.ensures.defines source c.lines.pass.pass_state c.define.new.self.pass_state
    c.define.new.live c.lines.facts (c.lines.invariant.takes source lines taken) c.in_ok-define.field-0
    (c.in_ok-define.ensures.turns c.lines.invariant.goes_on) c.in-Line.is c.add_line.new.self c.table.result.now
    c.table.ensures c.in_ok-add_line-in-Line.ensures in
    left_rests c.the_calls_place_the_lines_of_a_source.ensures.defines source c.define.new.self.pass_state c.define.new.self.pass_state
    c.define.new.live c.add_line.new.self some NeedLine
    (turns_nowhere empty_map c.define.new.self.pass_state (live_in c.define.new.live) (SaysLive c.define.new.live)
    (sym c.needs_line.ensures ∙ c.if-needs_line.true)) refl
