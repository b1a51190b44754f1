-- A table and its firm part determine the same move by `.=`.
use Rattle.std.proofs.Common.{◌≡◌, if◌then◌else◌, ap}
use Rattle.m11_scan_expressions.specs.Expressions.{value}
use Rattle.m11_scan_expressions.specs.Tokens.{Expression}
use Rattle.m11_asm_rules.proofs.FilledSizes.{table_twice}
use Rattle.m11_asm_rules.specs.Assigning.{counter_change}
use Rattle.m11_asm_rules.specs.Changes.{Counts, Keeps}
use Rattle.m11_asm_rules.specs.Locations.{Goes}
use Rattle.m11_asm_rules.specs.Meanings.{empty_map, known_at}
use Rattle.m11_asm_rules.specs.Relocations.{is_here}
use Rattle.m11_asm_rules.specs.Tables.{Table, firm_table, location}
use Rattle.m11_asm_rules.specs.declared.meanings.Context.TheVariants.{LocalOnly}

pub counter_firm : (table : Table) (tokens : Expression)
    → counter_change (firm_table table) tokens ≡ counter_change table tokens
counter_firm table tokens =
    ap (λ (t : Table).
    let found = value (known_at empty_map LocalOnly t (location table)) tokens in
    if is_here table found.kind then Counts (Goes found.number) else Keeps)
    (table_twice table)
