-- A table and its firm part determine the same steps of the location counter.
use Rattle.std.proofs.Common.{◌*◌, ◌≡◌, ℕ, true, refl, ap}
use Rattle.m11_base.specs.Devices.{Bytes}
use Rattle.m11_base.specs.declared.instruction.Op.{Op}
use Rattle.m11_scan_expressions.specs.Expressions.{KnownSymbols}
use Rattle.m11_asm_rules.proofs.FilledSizes.{table_twice}
use Rattle.m11_asm_rules.specs.Actions.{Room, Storage}
use Rattle.m11_asm_rules.specs.Alignment.{gap, location_for}
use Rattle.m11_asm_rules.specs.Effects.{instruction_change, is_even, size, steps, storage_change}
use Rattle.m11_asm_rules.specs.Fields.{fields_at, forms_of}
use Rattle.m11_asm_rules.specs.Operands.{instruction_size}
use Rattle.m11_asm_rules.specs.Meanings.{empty_map, firm_known, known_at}
use Rattle.m11_asm_rules.specs.Storage.{block_count}
use Rattle.m11_asm_rules.specs.Tables.{Table, firm_table, location}
use Rattle.m11_asm_rules.specs.declared.meanings.Context.TheVariants.{LocalOnly}

known_firm : (table : Table) (here : ℕ) → firm_known (firm_table table) here ≡ firm_known table here
known_firm table here = ap (λ (t : Table). known_at empty_map LocalOnly t here) (table_twice table)

size_firm : (table : Table) (here : ℕ) (storage : Storage) → size (firm_table table) here storage ≡ size table here storage
size_firm table here (Room unit count) = ap (λ (k : KnownSymbols). block_count k count * unit) (known_firm table here)
size_firm table here other = refl

pub change_firm : (table : Table) (storage : Storage) → storage_change (firm_table table) storage ≡ storage_change table storage
change_firm table storage =
    ap (λ (n : ℕ). steps (gap (is_even storage) (location table)) n)
    (size_firm table (location_for (is_even storage) (location table)) storage)

pub instruction_firm : (table : Table) (line : Bytes) (operation : Op) (start : ℕ)
    → instruction_change (firm_table table) line operation start ≡ instruction_change table line operation start
instruction_firm table line operation start =
    ap (λ (k : KnownSymbols). steps (gap true (location table)) (instruction_size (forms_of (fields_at k line start operation))))
    (known_firm table (location_for true (location table)))
