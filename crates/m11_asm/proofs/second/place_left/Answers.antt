use Rattle.std.proofs.Common.{◌∙◌, refl, sym}
use Rattle.m11_asm_passes.proofs.Resting.{turns_nowhere}
use Rattle.m11_asm_passes.specs.Placed.{live_in}
use Rattle.m11_asm_passes.specs.Turns.{SaysPlaced}
use Rattle.m11_asm_passes.specs.declared.turns.Turn.TheVariants.{NeedLine}
use Rattle.m11_asm.proofs.SecondTaking.{fails_all, left_ends, left_rests, placed_more, stops_there}
use Rattle.m11_asm.proofs.second.place_left.Goals as goal

pub lines-preserved : goal.lines-preserved
lines-preserved g c = record {
  goes_on = c.in_ok-next.ensures.fault;
  takes = λ program source lines first same number taken.
      let some = c.lines.invariant.takes program source lines first same number taken in
      placed_more c.the_calls_place_the_lines_of_a_source.ensures.turns program source first _ c.lines.pass.pass_state c.next.new.self.pass_state c.next.new.placed
      c.lines.writing some c.args.map.now same c.in_ok-next.field-0 (c.in_ok-next.ensures.turns c.lines.invariant.goes_on)
      c.in-Line.is c.args.number number c.contents.result.now c.contents.ensures _ c.put_line.new.self
      (λ one emission stands is same number. c.in_ok-put_line-in-Line.ensures.writes program some.0 one emission stands is same number)
      (λ one emission stands is same number. c.in_ok-put_line-in-Line.ensures.stands program some.0 one emission stands is same number);
}

pub returns-in-NeedLine-clause-takes : goal.returns-in-NeedLine-clause-takes
returns-in-NeedLine-clause-takes g c = λ program source lines first same number taken.
    left_rests c.the_calls_place_the_lines_of_a_source.ensures.turns program source first _ c.lines.pass.pass_state c.next.new.self.pass_state c.next.new.placed
    c.lines.writing (c.lines.invariant.takes program source lines first same number taken) c.args.map.now same
    c.in_ok-next.field-0 (c.in_ok-next.ensures.turns c.lines.invariant.goes_on) c.in-NeedLine.is

pub returns-in-End-clause-takes : goal.returns-in-End-clause-takes
returns-in-End-clause-takes g c = λ program source lines first same number taken.
    left_ends c.the_calls_place_the_lines_of_a_source.ensures.turns program source first _ c.lines.pass.pass_state c.next.new.self.pass_state c.next.new.placed
    c.lines.writing (c.lines.invariant.takes program source lines first same number taken) c.args.map.now same
    c.in_ok-next.field-0 (c.in_ok-next.ensures.turns c.lines.invariant.goes_on) c.in-End.is

pub returns-in_err-put_line-in-Line-clause-takes : goal.returns-in_err-put_line-in-Line-clause-takes
returns-in_err-put_line-in-Line-clause-takes g c = λ program source lines first same number taken.
    let some = c.lines.invariant.takes program source lines first same number taken in
    stops_there c.the_calls_place_the_lines_of_a_source.ensures.turns program source first _ c.lines.pass.pass_state c.next.new.self.pass_state c.next.new.placed
    c.lines.writing some c.args.map.now same c.in_ok-next.field-0 (c.in_ok-next.ensures.turns c.lines.invariant.goes_on)
    c.in-Line.is c.args.number number c.contents.result.now c.contents.ensures _ c.put_line.new.self _ _
    (λ one emission stands is same number. c.in_err-put_line-in-Line.ensures.writes program some.0 one emission stands is same number)
    c.from_residual-in_err-put_line-in-Line.ensures.1

pub returns-in_err-next-clause-takes : goal.returns-in_err-next-clause-takes
returns-in_err-next-clause-takes g c = λ program source lines first same number taken.
    fails_all c.the_calls_place_the_lines_of_a_source.ensures.turns program source first _ c.lines.pass.pass_state c.next.new.self.pass_state c.next.new.placed
    c.lines.writing (c.lines.invariant.takes program source lines first same number taken) c.args.map.now same
    c.in_err-next.field-0.0 (c.in_err-next.ensures.turns c.lines.invariant.goes_on) c.lines.writing
    c.from_residual.result c.from_residual.ensures.1

-- no line is left, just as if a further call had returned `NeedLine`
pub returns-then-needs_line-clause-takes : goal.returns-then-needs_line-clause-takes
returns-then-needs_line-clause-takes g c = λ program source lines first same number taken.
    let some = c.lines.invariant.takes program source lines first same number taken in
    let more = placed_more c.the_calls_place_the_lines_of_a_source.ensures.turns program source first _ c.lines.pass.pass_state
    c.next.new.self.pass_state c.next.new.placed
    c.lines.writing some c.args.map.now same c.in_ok-next.field-0 (c.in_ok-next.ensures.turns c.lines.invariant.goes_on)
    c.in-Line.is c.args.number number c.contents.result.now c.contents.ensures _ c.put_line.new.self
    (λ one emission stands is same number. c.in_ok-put_line-in-Line.ensures.writes program some.0 one emission stands is same number)
    (λ one emission stands is same number. c.in_ok-put_line-in-Line.ensures.stands program some.0 one emission stands is same number) in
    left_rests c.the_calls_place_the_lines_of_a_source.ensures.turns program source first _ c.next.new.self.pass_state
    c.next.new.self.pass_state c.next.new.placed
    c.put_line.new.self more c.args.map.now same NeedLine
    (turns_nowhere c.args.map.now c.next.new.self.pass_state (live_in c.next.new.placed.live)
    (SaysPlaced c.args.map.now c.next.new.placed c.next.new.self.pass_state.emission) (sym c.needs_line.ensures ∙ c.if-needs_line.true)) refl
