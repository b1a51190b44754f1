use Rattle.std.proofs.Common.{◌≡◌, length}
use Rattle.m11_asm_rules.specs.Elements.{bad_flags}
use Rattle.m11_asm_directives.proofs.exports.bad_flags.Given as goal

abbrev pub invariant-names : goal.invariant-names
invariant-names l = bad_flags l.rest ≡ bad_flags l.names

abbrev pub decreases-names : goal.decreases-names
decreases-names l = length l.rest
