use Rattle.std.proofs.Common.{◌≡◌, Some, length}
use Rattle.m11_base_disassembly.specs.Contributions.{scope_of}
use Rattle.m11_base_disassembly.proofs.contributions.scope_in.Given as goal

abbrev pub invariant-contributions : goal.invariant-contributions
invariant-contributions l = scope_of (Some l.module_name) l.value l.contributions ≡ scope_of (Some l.module_name) l.value l.rest

abbrev pub decreases-contributions : goal.decreases-contributions
decreases-contributions l = length l.rest
