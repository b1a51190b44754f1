use Rattle.std.proofs.Common.{◌∙◌}
use Rattle.m11_obj.specs.Reading.{relocations_left}
use Rattle.m11_link_modules.specs.Parts.{Relocated}
use Rattle.m11_link_modules.proofs.Unread.{all_taken, left_after, one_refused, one_taken, refused_judged, same_after}
use Rattle.m11_link_layout.proofs.Noting as noting
use Rattle.m11_link_layout.proofs.layout.Layout.add_each_relocation.Goals as goal

pub relocations-preserved : goal.relocations-preserved
relocations-preserved c =
    let i = c.relocations.invariant in
    let all = c.args.unread.now in
    let bytes = c.relocations.unread in
    let rest = c.read_next.new.self in
    let relocation = c.in-Ok-Some.relocation in
    let first = (rw c.in-Ok-Some.field-0-is at c.in-Ok-Some.ensures).0 in
    record {
      read = same_after all bytes rest relocation i.read first;
      judged = one_taken all bytes rest relocation i.read first c.args.self.now.known c.relocations.self.known
          c.add_relocation.new.self.known c.in-Ok.field-0 i.judged c.in-Ok.ensures.judged;
      noted = λ are. noting.walk_noted c.args.self.now.bottom (λ relocation. Relocated relocation) c.args.self.now.gathered
          c.relocations.self.gathered c.add_relocation.new.self.gathered (relocations_left all) (relocations_left bytes)
          (relocations_left rest) relocation (left_after all bytes rest relocation i.read first are) (i.noted are)
          (noting.relocation_noted c.args.self.now.bottom c.relocations.self.gathered c.add_relocation.new.self.gathered
          relocation c.in-Ok.ensures.noted);
      bottom = c.in-Ok.ensures.bottom ∙ i.bottom;
      kept = c.in-Ok.ensures.kept ∙ i.kept;
    }

pub returns-in-Err-add_relocation-clause-judged : goal.returns-in-Err-add_relocation-clause-judged
returns-in-Err-add_relocation-clause-judged c =
    let i = c.relocations.invariant in
    let all = c.args.unread.now in
    let bytes = c.relocations.unread in
    let rest = c.read_next.new.self in
    let relocation = c.in-Ok-Some.relocation in
    let first = (rw c.in-Ok-Some.field-0-is at c.in-Ok-Some.ensures).0 in
    let fault = c.in-Err-add_relocation.fault in
    refused_judged c.args.self.now.known c.add_relocation.new.self.known all fault c.refuse.result
    c.refuse.ensures.refused (c.refuse.ensures.read ∙ same_after all bytes rest relocation i.read first)
    (one_refused all bytes rest relocation i.read first c.args.self.now.known c.relocations.self.known
    c.add_relocation.new.self.known c.add_relocation.new.self.known fault i.judged
    c.in-Err-add_relocation.ensures.judged)

pub returns-in-Ok-None-clause-judged : goal.returns-in-Ok-None-clause-judged
returns-in-Ok-None-clause-judged c =
    let i = c.relocations.invariant in
    all_taken c.args.unread.now c.relocations.unread i.read (rw c.in-Ok-None.field-0-is at c.in-Ok-None.ensures)
    c.args.self.now.known c.relocations.self.known tt i.judged
