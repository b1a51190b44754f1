use Rattle.std.proofs.Common.{◌≡◌, length}
use Rattle.m11_obj.specs.Reading.{AreRelocations, relocations_left}
use Rattle.m11_link_modules.proofs.Unread.{LeadsOn, SameRead}
use Rattle.m11_link.specs.Emit.{HoldsLastText}
use Rattle.m11_link.proofs.Emitted.{relocating}
use Rattle.m11_link.proofs.emit.Emit.store_each_relocation.Given as goal

abbrev pub invariant-relocations : goal.invariant-relocations
invariant-relocations l = record {
  read : SameRead l.unread l.initial.unread;
  judged : LeadsOn l.initial.self.known l.self.known l.unread l.initial.unread;
  holds : HoldsLastText l.initial.self → HoldsLastText l.self;
  stored : AreRelocations l.initial.unread → HoldsLastText l.initial.self
      → relocating (relocations_left l.unread) l.self.reporting
      ≡ relocating (relocations_left l.initial.unread) l.initial.self.reporting;
  begun : l.self.has_begun ≡ l.initial.self.has_begun;
  kept : l.self.fault ≡ l.initial.self.fault;
}

abbrev pub decreases-relocations : goal.decreases-relocations
decreases-relocations l = length l.unread
