use Rattle.std.proofs.Common.{ap, ◌∙◌}
use Rattle.m11_cpu_machine.specs.Extended.{extended}
use Rattle.m11_cpu_machine.proofs.AtOnce.{bind_at}
use Rattle.m11_cpu_quick.proofs.ResultsPut.{done}
use Rattle.m11_cpu_quick.proofs.extended.extended_of_any.Goals as goal

pub returns-clause-some : goal.returns-clause-some
unfolding extended
returns-clause-some c =
    bind_at _ _ _ _ _ c.in_ok-value.ensures.some ∙ ap done (c.extend.ensures.done c.in_ok-value.after)
