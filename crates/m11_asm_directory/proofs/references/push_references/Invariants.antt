use Rattle.std.proofs.Common.{◌≡◌, ◌++◌, length}
use Rattle.m11_asm_directory.specs.References.{reference_rows}
use Rattle.m11_asm_directory.proofs.references.push_references.Given as goal

abbrev pub invariant-names : goal.invariant-names
invariant-names l =
    l.rows.items ++ reference_rows l.weak.keys l.rest ≡ l.initial.rows.items ++ reference_rows l.weak.keys l.names

abbrev pub decreases-names : goal.decreases-names
decreases-names l = length l.rest
