use Rattle.std.proofs.Common.{◌≡◌, ◌∙◌, false, arith, subst}
use Rattle.std.proofs.lemmas.Bool.Decides.{nat_tests}
use Rattle.std.specs.Prelude.{nat_le, not}
use Rattle.m11_asm_rules.specs.Labels.{with_definition}
use Rattle.m11_asm_rules.specs.Limits.{has_too_many, name_count}
use Rattle.m11_asm_rules.specs.Tables.{Table}
use Rattle.m11_asm_rules.specs.declared.definitions.Key.TheVariants.{Named}
use Rattle.m11_asm_lines.proofs.Room.{full_so, room_so}
use Rattle.m11_asm_lines.proofs.pass.Pass.lacks_room.Goals as goal

pub returns-then-name_count-ge-MOST_DEFINED_NAMES : goal.returns-then-name_count-ge-MOST_DEFINED_NAMES
returns-then-name_count-ge-MOST_DEFINED_NAMES c = λ definition.
    let count : c.name_count.result ≡ name_count c.self.inside.table = c.name_count.ensures in
    let P : Table → Type 0 = λ t. not c.is_defined.result ≡ has_too_many (with_definition (Named c.args.name) definition t) in
    subst P c.self.view_is
    (full_so c.args.name definition c.self.inside.table c.counts_are_within_the_limits.ensures.names
    c.counts_are_within_the_limits.ensures.symbols (omega (arith, count, c.if-name_count-ge-MOST_DEFINED_NAMES.true)) c.is_defined.result
    c.is_defined.ensures)

pub returns-else-name_count-ge-MOST_DEFINED_NAMES : goal.returns-else-name_count-ge-MOST_DEFINED_NAMES
returns-else-name_count-ge-MOST_DEFINED_NAMES c = λ definition.
    let count : c.name_count.result ≡ name_count c.self.inside.table = c.name_count.ensures in
    let none : nat_le 4104 c.name_count.result ≡ false = grind (arith, nat_tests, c.if-name_count-ge-MOST_DEFINED_NAMES.false) in
    let P : Table → Type 0 = λ t. nat_le 4104 c.name_count.result ≡ has_too_many (with_definition (Named c.args.name) definition t) in
    subst P c.self.view_is
    (none ∙ room_so c.args.name definition c.self.inside.table c.counts_are_within_the_limits.ensures.symbols
    (omega (arith, count, c.if-name_count-ge-MOST_DEFINED_NAMES.false)))
