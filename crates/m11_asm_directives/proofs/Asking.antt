-- The value of an expression under the names of a line, all of them or the firm ones alone.
use Rattle.std.proofs.Common.{◌≡◌, ℕ, ap, ◌∙◌}
use Rattle.m11_scan_expressions.specs.Tokens.{Expression}
use Rattle.m11_scan_expressions.specs.Quantities.{Quantity}
use Rattle.m11_scan_expressions.specs.Expressions.{known_by, value}
use Rattle.m11_asm_rules.specs.Meanings.{Map, empty_map, firm_known, known_at, value_of_symbol}
use Rattle.m11_asm_rules.specs.declared.meanings.Context.{Context}
use Rattle.m11_asm_rules.specs.declared.meanings.Context.TheVariants.{LocalOnly}
use Rattle.m11_asm_rules.specs.Tables.{Table, firm_table, location}
use Rattle.m11_asm_rules.specs.Asking.{LookupContext, FirmContext, asked, firm_asked}

pub known : (names : LookupContext) (map : Map) (context : Context) (table : Table) (here : ℕ) (tokens : Expression) (one : Quantity)
    → one ≡ value (known_by names.table.modes.radix (λ symbol. value_of_symbol names.map names.context names.table names.location symbol)) tokens
    → names ≡ asked map context table here → here ≡ location table
    → one ≡ value (known_at map context table (location table)) tokens
known names map context table here tokens one is are at =
    is
    ∙ ap (λ (n : LookupContext). value (known_by n.table.modes.radix (λ symbol. value_of_symbol n.map n.context n.table n.location symbol)) tokens) are
    ∙ ap (λ p. value (known_at map context table p) tokens) at

pub firm : (names : FirmContext) (table : Table) (here : ℕ) (tokens : Expression) (one : Quantity)
    → one ≡ value (known_by names.table.modes.radix (λ symbol. value_of_symbol empty_map LocalOnly (firm_table names.table) names.location symbol)) tokens
    → names ≡ firm_asked table here → here ≡ location table
    → one ≡ value (firm_known table (location table)) tokens
firm names table here tokens one is are at =
    is
    ∙ ap (λ (n : FirmContext). value (known_by n.table.modes.radix (λ symbol. value_of_symbol empty_map LocalOnly (firm_table n.table) n.location symbol)) tokens) are
    ∙ ap (λ p. value (firm_known table p) tokens) at
