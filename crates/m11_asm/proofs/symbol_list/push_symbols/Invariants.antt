use Rattle.std.proofs.Common.{◌≡◌, ◌++◌, length, map}
use Rattle.m11_asm_directory.specs.FirstPass.{directory_facts}
use Rattle.m11_asm.specs.Symbols.{symbol_entry}
use Rattle.m11_asm.proofs.symbol_list.push_symbols.Given as goal

abbrev pub invariant-names : goal.invariant-names
invariant-names l =
    l.entries.items ++ map (symbol_entry (directory_facts l.first)) l.rest
    ≡ l.initial.entries.items ++ map (symbol_entry (directory_facts l.first)) l.names

abbrev pub decreases-names : goal.decreases-names
decreases-names l = length l.rest
