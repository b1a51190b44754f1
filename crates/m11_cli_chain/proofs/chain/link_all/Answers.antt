use Rattle.std.proofs.Common.{map}
use Rattle.m11_cli_chain.proofs.Feeding.{known_slice}
use Rattle.m11_cli_chain.proofs.Outputs.{link_fails, writes_tape}
use Rattle.m11_cli_chain.proofs.Unfailing.{none_rises}
use Rattle.m11_cli_chain.proofs.chain.link_all.Goals as goal

pub returns-in-Ok-clause-tape : goal.returns-in-Ok-clause-tape
returns-in-Ok-clause-tape c =
    let objects = map (λ object. object.items) c.args.objects.now in
    let items = c.objects_yield_items.ensures.yields objects in
    writes_tape c.args.bottom objects items.0 items.1 _ _ c.in-Ok.field-0
    (c.in-Ok.ensures.decided objects items.0 items.1
    (known_slice _ _ c.in_ok-first.first.items objects c.as_mut_slice.ensures.value c.in_ok-first.ensures.known)
    (known_slice _ _ c.in_ok-second.second.items objects c.as_mut_slice-2.ensures.value c.in_ok-second.ensures.known))
    c.into_bytes.result.items c.new-tape.ensures.text c.into_bytes.ensures

pub returns-clause-fails : goal.returns-clause-fails
returns-clause-fails c =
    let objects = map (λ object. object.items) c.args.objects.now in
    let items = c.objects_yield_items.ensures.yields objects in
    link_fails c.args.bottom objects items.0 items.1 _ _ c.in-Err.fault c.link_fault.result c.link_fault.ensures
    (c.in-Err.ensures.reads (λ before after rises. none_rises rises))
    (c.in-Err.ensures.decided objects items.0 items.1
    (known_slice _ _ c.in_ok-first.first.items objects c.as_mut_slice.ensures.value c.in_ok-first.ensures.known)
    (known_slice _ _ c.in_ok-second.second.items objects c.as_mut_slice-2.ensures.value c.in_ok-second.ensures.known))
