use Rattle.std.proofs.Common.{◌∙◌, ap, subst}
use Rattle.m11_base_writes.specs.Outputs.{Outputs, outputs_of}
use Rattle.m11_asm_rules.specs.Tables.{Table, location}
use Rattle.m11_asm.specs.Second.{SecondEnds, SecondAfter, SecondState}
use Rattle.m11_asm.proofs.Finishing.{few_flagged, location_is, second_finishes}
use Rattle.m11_asm.proofs.second.Second.end_in_place.Goals as goal

pub returns-clause-ends : goal.returns-clause-ends
returns-clause-ends g c = λ program source first.
    let before : Outputs = outputs_of g.S.Sink g.T.Sink g.U.Sink c.args.object.now c.args.listing.now c.args.messages.now in
    let now : Outputs = outputs_of g.S.Sink g.T.Sink g.U.Sink c.end.new.object c.end.new.listing c.end.new.messages in
    let P : SecondState → Type 0 = λ s. SecondAfter program source first before s → SecondEnds program source first now s c.end.result in
    subst P c.self.view_is (λ stands.
    second_finishes program source first before _ stands now c.end.result
    (c.end.ensures.writes program stands.stands.lines stands.stands.taken.done.keeps
    (c.location-location.ensures ∙ ap (λ (t : Table). location t) c.table.ensures ∙ location_is program source first before _ stands)
    (few_flagged program source first before _ stands))
    (c.end.ensures.counts program stands.stands.lines stands.stands.taken.done.keeps (few_flagged program source first before _ stands))
    (c.end.ensures.fit program stands.stands.lines stands.stands.taken.done.keeps) c.end.ensures.flushed)
