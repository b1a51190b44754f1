use Rattle.m11_cli_tasks.proofs.Opening.{at_fault, stops_at_first, stops_at_second}
use Rattle.m11_cli_tasks.proofs.opened.open_link_files.Goals as goal

pub returns-in_err-tape-clause-stops : goal.returns-in_err-tape-clause-stops
returns-in_err-tape-clause-stops g c =
    at_fault _ _ _ c.from_residual-in_err-tape.ensures.1
    (stops_at_first g.F.Input.Feed.text _ _ _ _ _ _ _ _
    (rw c.as_slice.ensures.value at c.in_ok-objects.ensures.first) c.in_ok-objects.ensures.files
    c.in_err-tape.ensures.kept c.in_err-tape.ensures.named)

pub returns-in_err-map-clause-stops : goal.returns-in_err-map-clause-stops
returns-in_err-map-clause-stops g c =
    at_fault _ _ _ c.from_residual-in_err-map.ensures.1
    (stops_at_second g.F.Input.Feed.text _ _ _ _ _ _ _ _ _
    (rw c.as_slice.ensures.value at c.in_ok-objects.ensures.first) c.in_ok-objects.ensures.files
    c.in_ok-tape.ensures.created c.in_err-map.ensures.kept c.in_err-map.ensures.named)
