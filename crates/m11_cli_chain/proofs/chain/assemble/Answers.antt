use Rattle.std.proofs.Common.{map}
use Rattle.m11_cli_chain.proofs.Feeding.{known_slice}
use Rattle.m11_cli_chain.proofs.Outputs.{assembly_fails, is_object}
use Rattle.m11_cli_chain.proofs.Unfailing.{none_rises}
use Rattle.m11_cli_chain.proofs.chain.assemble.Goals as goal

pub returns-in-Ok-clause-object : goal.returns-in-Ok-clause-object
returns-in-Ok-clause-object c =
    let texts = map (λ text. text.items) c.args.texts.now in
    is_object texts _ _
    (c.in-Ok.ensures.yields texts
    (known_slice _ _ c.in_ok-first.first.items texts c.as_mut_slice.ensures.value c.in_ok-first.ensures.known)
    (known_slice _ _ c.in_ok-second.second.items texts c.as_mut_slice-2.ensures.value c.in_ok-second.ensures.known))
    c.into_bytes.result.items c.new-object.ensures.text c.into_bytes.ensures

pub returns-clause-fails : goal.returns-clause-fails
returns-clause-fails c =
    let texts = map (λ text. text.items) c.args.texts.now in
    assembly_fails texts c.in-Err.fault c.assembly_fault.result c.assembly_fault.ensures
    (c.in-Err.ensures.reads (λ before after rises. none_rises rises))
    (c.in-Err.ensures.yields texts
    (known_slice _ _ c.in_ok-first.first.items texts c.as_mut_slice.ensures.value c.in_ok-first.ensures.known)
    (known_slice _ _ c.in_ok-second.second.items texts c.as_mut_slice-2.ensures.value c.in_ok-second.ensures.known))
