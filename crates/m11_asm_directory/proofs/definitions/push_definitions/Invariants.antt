use Rattle.std.proofs.Common.{◌≡◌, ◌++◌, length}
use Rattle.m11_asm_directory.specs.Definitions.{definition_rows}
use Rattle.m11_asm_directory.proofs.definitions.push_definitions.Given as goal

abbrev pub invariant-names : goal.invariant-names
invariant-names l =
    l.rows.items ++ definition_rows l.table l.section l.rest ≡ l.initial.rows.items ++ definition_rows l.table l.section l.names

abbrev pub decreases-names : goal.decreases-names
decreases-names l = length l.rest
