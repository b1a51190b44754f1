use Rattle.std.proofs.Common.{◌∙◌, Ok, ap, subst, refl}
use Rattle.m11_base_writes.specs.Outputs.{Outputs, outputs_of}
use Rattle.m11_asm.proofs.Counting.{keeps_none}
use Rattle.m11_asm_rules.specs.Meanings.{map_of}
use Rattle.m11_asm.specs.Second.{SecondAfter, SecondState, SecondReadsLine}
use Rattle.m11_asm.proofs.SecondLine.{between, line_fails, line_refused, line_takes, state_of}
use Rattle.m11_asm.proofs.second.Second.line.Goals as goal

pub returns-in_err-read-clause-takes : goal.returns-in_err-read-clause-takes
returns-in_err-read-clause-takes g c = λ program source first.
    let before : Outputs = outputs_of g.S.Sink g.T.Sink g.U.Sink c.args.object.now c.args.listing.now c.args.messages.now in
    let new : SecondState = state_of (map_of c.self.inside.first) c.self.inside.pass.pass_state c.self.inside.writing c.self.inside.read
    c.self.inside.has_ended c.keep.new.self in
    let P : SecondState → Type 0 = λ s. SecondAfter program source first before s
    → SecondReadsLine program source c.args.line.now first (between before before s new) c.from_residual-in_err-read.result in
    subst P c.self.view_is (λ stands.
    line_refused program source c.args.line.now first before (map_of c.self.inside.first) c.self.inside.pass.pass_state c.self.inside.writing c.self.inside.read
    c.self.inside.has_ended c.self.inside.fault c.if-self.false stands c.number_after.result c.in_err-read.field-0.0 new c.from_residual-in_err-read.result
    c.number_after.ensures.refuses c.in_err-read.ensures.same c.from_residual-in_err-read.ensures.1)

pub returns-in_err-self-inside-clause-takes : goal.returns-in_err-self-inside-clause-takes
returns-in_err-self-inside-clause-takes g c = λ program source first.
    let before : Outputs = outputs_of g.S.Sink g.T.Sink g.U.Sink c.args.object.now c.args.listing.now c.args.messages.now in
    let now : Outputs = outputs_of g.S.Sink g.T.Sink g.U.Sink c.place_left-taken.new.object c.place_left-taken.new.listing c.place_left-taken.new.messages in
    let new : SecondState = state_of (map_of c.self.inside.first) c.place_left-taken.new.pass.pass_state c.place_left-taken.new.writing
    c.in_ok-read.read c.self.inside.has_ended c.keep-2.new.self in
    let P : SecondState → Type 0 = λ s. SecondAfter program source first before s
    → SecondReadsLine program source c.args.line.now first (between before now s new) c.from_residual-in_err-self-inside.result in
    subst P c.self.view_is (λ stands.
    line_fails program source c.args.line.now first before (map_of c.self.inside.first) c.self.inside.pass.pass_state c.self.inside.writing c.self.inside.read
    c.self.inside.has_ended c.self.inside.fault c.if-self.false stands c.the_calls_place_the_lines_of_a_source.ensures.feeds
    c.self.inside.pass c.feed.new.self refl c.feed.ensures c.number_after.result c.in_ok-read.read c.number_after.ensures.counts
    c.in_ok-read.ensures.same c.of-map.result (c.of-map.ensures ∙ ap map_of c.table.ensures) now c.place_left-taken.result
    c.place_left-taken.new.pass.pass_state c.place_left-taken.new.writing
    c.place_left-taken.ensures.takes
    c.in_err-self-inside.field-0.0 new c.from_residual-in_err-self-inside.result c.in_err-self-inside.ensures.same c.from_residual-in_err-self-inside.ensures.1)

pub returns-clause-takes : goal.returns-clause-takes
returns-clause-takes g c = λ program source first.
    let before : Outputs = outputs_of g.S.Sink g.T.Sink g.U.Sink c.args.object.now c.args.listing.now c.args.messages.now in
    let now : Outputs = outputs_of g.S.Sink g.T.Sink g.U.Sink c.place_left-taken.new.object c.place_left-taken.new.listing c.place_left-taken.new.messages in
    let new : SecondState = state_of (map_of c.self.inside.first) c.place_left-taken.new.pass.pass_state c.place_left-taken.new.writing
    c.in_ok-read.read c.in_ok-self-inside.field-0 c.keep-2.new.self in
    let P : SecondState → Type 0 = λ s. SecondAfter program source first before s
    → SecondReadsLine program source c.args.line.now first (between before now s new) (Ok tt) in
    subst P c.self.view_is (λ stands.
    line_takes program source c.args.line.now first before (map_of c.self.inside.first) c.self.inside.pass.pass_state c.self.inside.writing c.self.inside.read
    c.self.inside.has_ended c.self.inside.fault c.if-self.false stands c.the_calls_place_the_lines_of_a_source.ensures.feeds
    c.self.inside.pass c.feed.new.self refl c.feed.ensures c.number_after.result c.in_ok-read.read c.number_after.ensures.counts
    c.in_ok-read.ensures.same c.of-map.result (c.of-map.ensures ∙ ap map_of c.table.ensures) now c.place_left-taken.result
    c.place_left-taken.new.pass.pass_state c.place_left-taken.new.writing
    c.place_left-taken.ensures.takes
    c.in_ok-self-inside.field-0 c.keep-2.new.self c.keep.new.self c.in_ok-self-inside.ensures.same c.place_left-taken.ensures.needs
    c.keep-2.ensures.kept
    (keeps_none c.keep.new.self c.self.inside.fault c.number_after.result c.in_ok-read.read c.keep.ensures.kept c.in_ok-check.ensures.none
    c.in_ok-read.ensures.same))
