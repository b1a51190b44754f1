use Rattle.m11_asm_directives.proofs.Packs.{none_waits}
use Rattle.m11_asm_directives.proofs.packing.Waiting.end.Goals as goal

pub returns-in-Nothing : goal.returns-in-Nothing
returns-in-Nothing c = none_waits c.args.emission.now c.args.self c.in-Nothing.is
