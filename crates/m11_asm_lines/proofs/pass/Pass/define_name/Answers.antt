use Rattle.std.proofs.Common.{◌≡◌, ◌∙◌, false, sym, subst}
use Rattle.m11_asm_rules.specs.Labels.{with_definition}
use Rattle.m11_asm_rules.specs.declared.definitions.Key.TheVariants.{Named}
use Rattle.m11_asm_rules.specs.Limits.{has_too_many}
use Rattle.m11_asm_rules.specs.Tables.{Table}
use Rattle.m11_asm_lines.proofs.Room.{full, new_room, overfills_first, without_memory}
use Rattle.m11_asm_lines.proofs.pass.Pass.define_name.Goals as goal

pub returns-then-lacks_room-clause-refuses : goal.returns-then-lacks_room-clause-refuses
returns-then-lacks_room-clause-refuses c =
    full (with_definition (Named c.args.name) c.args.definition c.args.self.now)
    (sym (c.lacks_room.ensures c.args.definition) ∙ c.if-lacks_room.true)

pub returns-in_err-insert_name-clause-refuses : goal.returns-in_err-insert_name-clause-refuses
returns-in_err-insert_name-clause-refuses c =
    overfills_first c.from_residual.result (with_definition (Named c.args.name) c.args.definition c.args.self.now)
    (without_memory (with_definition (Named c.args.name) c.args.definition c.args.self.now)
    (sym (c.lacks_room.ensures c.args.definition) ∙ c.if-lacks_room.false))
    c.from_residual.ensures.1

pub insert_name-requires : goal.insert_name-requires
insert_name-requires c =
    let P : Table → Type 0 = λ t. has_too_many (with_definition (Named c.args.name) c.args.definition t) ≡ false in
    new_room c.args.name c.args.definition c.self.inside.table
    (subst P (sym c.self.view_is) (sym (c.lacks_room.ensures c.args.definition) ∙ c.if-lacks_room.false))
