use Rattle.std.proofs.Common.{◌≡◌, ◌++◌, filter, length}
use Rattle.m11_asm_directory.specs.References.{is_open}
use Rattle.m11_asm_directory.proofs.references.push_open.Given as goal

abbrev pub invariant-names : goal.invariant-names
invariant-names l =
    l.needed.items ++ filter (is_open l.table) l.rest ≡ l.initial.needed.items ++ filter (is_open l.table) l.names

abbrev pub decreases-names : goal.decreases-names
decreases-names l = length l.rest
