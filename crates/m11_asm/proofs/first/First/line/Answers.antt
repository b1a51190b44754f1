use Rattle.m11_asm.proofs.Counting.{keeps_none}
use Rattle.m11_asm.proofs.FirstTaking.{line_fails, line_refused, line_takes}
use Rattle.m11_asm.proofs.first.First.line.Goals as goal

pub returns-in_err-read-clause-takes : goal.returns-in_err-read-clause-takes
returns-in_err-read-clause-takes c = λ source stands.
    line_refused source c.args.line.now c.self.inside.pass c.self.inside.facts c.self.inside.read c.self.inside.has_ended
    c.self.inside.fault c.args.self.now c.self.view_is c.if-self.false c.number_after.result c.in_err-read.field-0.0 _
    c.from_residual-in_err-read.result c.number_after.ensures.refuses c.in_err-read.ensures.same
    c.from_residual-in_err-read.ensures.1

pub returns-in_err-self-inside-clause-takes : goal.returns-in_err-self-inside-clause-takes
returns-in_err-self-inside-clause-takes c = λ source stands.
    line_fails source c.args.line.now c.self.inside.pass c.self.inside.facts c.self.inside.read c.self.inside.has_ended
    c.self.inside.fault c.args.self.now c.self.view_is c.if-self.false c.number_after.result
    c.the_calls_place_the_lines_of_a_source.ensures.feeds c.feed.new.self c.feed.ensures c.in_ok-read.read
    c.number_after.ensures.counts c.number_after.ensures.fits c.in_ok-read.ensures.same
    c.place_left-taken.result c.place_left-taken.new.pass.pass_state c.place_left-taken.new.facts c.place_left-taken.ensures.takes stands
    c.in_err-self-inside.field-0.0 _ c.from_residual-in_err-self-inside.result c.in_err-self-inside.ensures.same
    c.from_residual-in_err-self-inside.ensures.1

pub returns-clause-takes : goal.returns-clause-takes
returns-clause-takes c = λ source stands.
    line_takes source c.args.line.now c.self.inside.pass c.self.inside.facts c.self.inside.read c.self.inside.has_ended
    c.self.inside.fault c.args.self.now c.self.view_is c.if-self.false c.number_after.result
    c.the_calls_place_the_lines_of_a_source.ensures.feeds c.feed.new.self c.feed.ensures c.in_ok-read.read
    c.number_after.ensures.counts c.number_after.ensures.fits c.in_ok-read.ensures.same
    c.place_left-taken.result c.place_left-taken.new.pass.pass_state c.place_left-taken.new.facts c.place_left-taken.ensures.takes stands
    c.in_ok-self-inside.field-0 c.keep-2.new.self c.keep.new.self c.in_ok-self-inside.ensures.same
    c.place_left-taken.ensures.needs c.keep-2.ensures.kept
    (keeps_none c.keep.new.self c.self.inside.fault c.number_after.result c.in_ok-read.read c.keep.ensures.kept
    c.in_ok-check.ensures.none c.in_ok-read.ensures.same)
