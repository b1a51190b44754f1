use Rattle.std.proofs.Common.{◌≤◌, length, subst}
use Rattle.m11_asm_rules.specs.Limits.{most_names}
use Rattle.m11_asm_lines.specs.UsedSymbols.{UsedNames}
use Rattle.m11_asm_lines.proofs.used_symbols.UsedSymbols.names_are_within_the_limit.Goals as goal

pub returns : goal.returns
returns c = let P : UsedNames → Type 0 = λ g. length g.names ≤ most_names in subst P c.self.view_is c.self.invariant
