use Rattle.std.proofs.Common.{◌≡◌, length}
use Rattle.m11_obj.specs.Reading.{AreRelocations}
use Rattle.m11_link_modules.proofs.Unread.{LeadsOn, SameRead, parts_left}
use Rattle.m11_link_layout.specs.Tables.{collected_after_all}
use Rattle.m11_link_layout.proofs.layout.Layout.add_each_relocation.Given as goal

abbrev pub invariant-relocations : goal.invariant-relocations
invariant-relocations l = record {
  read : SameRead l.unread l.initial.unread;
  judged : LeadsOn l.initial.self.known l.self.known l.unread l.initial.unread;
  noted : AreRelocations l.initial.unread → collected_after_all l.initial.self.bottom l.self.gathered (parts_left l.unread)
      ≡ collected_after_all l.initial.self.bottom l.initial.self.gathered (parts_left l.initial.unread);
  bottom : l.self.bottom ≡ l.initial.self.bottom;
  kept : l.self.fault ≡ l.initial.self.fault;
}

abbrev pub decreases-relocations : goal.decreases-relocations
decreases-relocations l = length l.unread
