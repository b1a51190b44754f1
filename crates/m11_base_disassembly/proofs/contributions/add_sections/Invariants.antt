use Rattle.std.proofs.Common.{◌≡◌, ◌++◌, length}
use Rattle.m11_base_disassembly.specs.Contributions.{section_symbols}
use Rattle.m11_base_disassembly.proofs.contributions.add_sections.Given as goal

abbrev pub invariant-contributions : goal.invariant-contributions
invariant-contributions l =
    l.symbols.items ++ section_symbols l.contributions l.rest ≡ l.initial.symbols.items ++ section_symbols l.contributions l.contributions

abbrev pub decreases-contributions : goal.decreases-contributions
decreases-contributions l = length l.rest
