use Rattle.m11_cli_chain.proofs.TapesLeft.{leaves_tape}
use Rattle.m11_cli_chain.proofs.commands.links_leave_the_tapes_of_their_objects.Goals as goal

pub returns : goal.returns
returns c = λ words link done old new before after objects planned obeys fresh are apart.
    leaves_tape c.objects_yield_items.ensures.yields objects old new fresh done words link before after planned obeys are apart
