use Rattle.m11_cli_tasks.proofs.Opening.{at_fault, stops_at_first, stops_at_second}
use Rattle.m11_cli_tasks.proofs.opened.open_asm_files.Goals as goal

pub returns-in_err-object-clause-stops : goal.returns-in_err-object-clause-stops
returns-in_err-object-clause-stops g c =
    at_fault _ _ _ c.from_residual-in_err-object.ensures.1
    (stops_at_first g.F.Input.Feed.text _ _ _ _ _ _ _ _
    (rw c.as_slice.ensures.value at c.in_ok-sources.ensures.first) c.in_ok-sources.ensures.files
    c.in_err-object.ensures.kept c.in_err-object.ensures.named)

pub returns-in_err-listing-clause-stops : goal.returns-in_err-listing-clause-stops
returns-in_err-listing-clause-stops g c =
    at_fault _ _ _ c.from_residual-in_err-listing.ensures.1
    (stops_at_second g.F.Input.Feed.text _ _ _ _ _ _ _ _ _
    (rw c.as_slice.ensures.value at c.in_ok-sources.ensures.first) c.in_ok-sources.ensures.files
    c.in_ok-object.ensures.created c.in_err-listing.ensures.kept c.in_err-listing.ensures.named)
