use Rattle.std.proofs.Common.{◌≤◌, ◌+◌, sym, subst}
use Rattle.m11_asm_rules.specs.Limits.{name_count}
use Rattle.m11_asm_rules.specs.Tables.{Table}
use Rattle.m11_asm_rules.proofs.LastDefinitions.{one_more_at_most}
use Rattle.m11_asm_rules.proofs.table.Table.add_register.Goals as goal

pub returns-clause-names : goal.returns-clause-names
returns-clause-names c =
    let P : Table → Type 0 = λ t. name_count t ≤ name_count c.args.self.now + 1 in
    subst P (sym c.in_ok-insert_name.ensures.inserts) (one_more_at_most c.name_in_words.result c.register.result c.args.self.now)
