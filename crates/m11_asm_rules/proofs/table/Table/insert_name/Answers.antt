use Rattle.std.proofs.Common.{◌≡◌, ◌<◌, ◌≤◌, false, length, List, sym, subst}
use Rattle.m11_base.specs.Rad50.{Name}
use Rattle.m11_asm_rules.specs.Definitions.{Definition, Named, is_defined}
use Rattle.m11_asm_rules.specs.Limits.{name_count}
use Rattle.m11_asm_rules.specs.Tables.{Table}
use Rattle.m11_asm_rules.proofs.LastDefinitions.{entry_fits}
use Rattle.m11_asm_rules.proofs.table.Table.insert_name.Goals as goal

pub invariant_of-self-2 : goal.invariant_of-self-2
invariant_of-self-2 c =
    let P : List (Name × Definition) → Type 0 = λ entries. length entries ≤ 4104 in
    let Q : Table → Type 0 = λ t. is_defined (Named c.args.name) t.definitions ≡ false → name_count t < 4104 in (
      subst P (sym c.in_ok-insert.ensures.entries)
          (entry_fits c.args.name _ c.self.inside.names.entries 4104 (subst Q (sym c.self.view_is) c.requires) c.self.invariant.0),
      c.self.invariant.1,
      c.self.invariant.2,
      c.self.invariant.3,
      c.self.invariant.4,
    )
