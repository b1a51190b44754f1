use Rattle.std.proofs.Common.{◌≡◌, ◌++◌, drop, map}
use Rattle.m11_unfold_rules.specs.declared.macros.MacroFormal.{MacroFormal}
use Rattle.m11_unfold.proofs.macros.names_of.Given as goal

abbrev pub invariant-formals : goal.invariant-formals
invariant-formals l = l.names.items ++ map (λ (formal : MacroFormal). formal.name) (drop l.formal-index l.formals) ≡ map (λ (formal : MacroFormal). formal.name) l.formals
