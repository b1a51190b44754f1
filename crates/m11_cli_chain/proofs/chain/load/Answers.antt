use Rattle.std.proofs.Common.{Err}
use Rattle.m11_cli_chain.proofs.Loading.{loads_new}
use Rattle.m11_cli_chain.proofs.chain.load.Goals as goal

pub returns-in-Err-load-clause-fails : goal.returns-in-Err-load-clause-fails
returns-in-Err-load-clause-fails c = (
  c.load.new.self,
  loads_new c.args.tape.now c.args.words _ _ _ c.load.new.self (Err c.in-Err-load.fault) c.new-2.ensures.text c.in-Ok.ensures
      c.in-Err-load.ensures,
)
