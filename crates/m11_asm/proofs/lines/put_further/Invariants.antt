use Rattle.std.proofs.Common.{length}
use Rattle.m11_asm_listing.specs.Listing.{further_lines}
use Rattle.m11_base_writes.specs.States.{OutputState, optional_output}
use Rattle.m11_base_writes.specs.Outputs.{outputs}
use Rattle.m11_asm.specs.Listed.{all_to_listing}
use Rattle.m11_base_writes.proofs.Looping.{Leads}
use Rattle.m11_asm_outputs.specs.Outputs.{assembly}
use Rattle.m11_asm.proofs.lines.put_further.Given as goal

abbrev pub invariant-lines : goal.invariant-lines
invariant-lines g l = (object messages : OutputState)
    → Leads assembly (Unit {0}) (outputs object (optional_output g.T.Sink l.initial.listing) messages)
    (outputs object (optional_output g.T.Sink l.listing) messages) (all_to_listing (further_lines l.location l.left))
    (all_to_listing (further_lines l.initial.location l.items))

abbrev pub decreases-lines : goal.decreases-lines
decreases-lines g l = length l.left
