use Rattle.m11_obj.specs.Reading.{relocations_left}
use Rattle.m11_link.proofs.LastText.{stored_after}
use Rattle.m11_link.proofs.emit.Emit.store_relocations.Goals as goal

pub returns-in-Ok-clause-stored : goal.returns-in-Ok-clause-stored
returns-in-Ok-clause-stored c = stored_after c.args.self.now c.begin_relocations.new.self c.in-Ok.field-0
    c.store_each_relocation.new.self.reporting (relocations_left c.args.unread.now) c.store_each_relocation.result
    c.self.view_is c.in-Ok.ensures c.store_each_relocation.ensures.stored
