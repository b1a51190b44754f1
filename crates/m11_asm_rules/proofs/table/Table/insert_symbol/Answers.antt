use Rattle.std.proofs.Common.{◌≡◌, ◌<◌, ◌≤◌, ℕ, false, length, List, sym, subst}
use Rattle.m11_asm_rules.specs.Definitions.{Definition, Numbered, is_defined}
use Rattle.m11_asm_rules.specs.Limits.{local_count}
use Rattle.m11_asm_rules.specs.Tables.{Table}
use Rattle.m11_asm_rules.proofs.LastDefinitions.{entry_fits}
use Rattle.m11_asm_rules.proofs.table.Table.insert_symbol.Goals as goal

pub invariant_of-self-2 : goal.invariant_of-self-2
invariant_of-self-2 c =
    let P : List ((ℕ × ℕ) × Definition) → Type 0 = λ entries. length entries ≤ 16384 in
    let Q : Table → Type 0 = λ t. is_defined (Numbered c.args.block c.args.number) t.definitions ≡ false → local_count t < 16384 in (
      c.self.invariant.0,
      subst P (sym c.in_ok-insert.ensures.entries)
          (entry_fits (c.args.block, c.args.number) _ c.self.inside.local_symbols.entries 16384 (subst Q (sym c.self.view_is) c.requires)
          c.self.invariant.1),
      c.self.invariant.2,
      c.self.invariant.3,
      c.self.invariant.4,
    )
