use Rattle.std.proofs.lemmas.Result.{err_from_is_err_and}
use Rattle.m11_cpu.proofs.SimulationDone.{has_run, not_loaded, not_reported}
use Rattle.m11_cpu.specs.Simulation.{request_of}
use Rattle.m11_cpu.proofs.simulation.sim_run.Goals as goal

pub returns-in_err-transfer : goal.returns-in_err-transfer
returns-in_err-transfer g c =
    let r = c.from_residual-in_err-transfer in
    let p = err_from_is_err_and r.result r.ensures.1 in
    rw (p.1, p.2) (not_loaded (request_of c.args.start c.args.words c.args.limit) _ _ _ _ _ _ _ c.in_ok-machine.ensures c.in_err-transfer.ensures)

pub returns-in_err-put_messages : goal.returns-in_err-put_messages
returns-in_err-put_messages g c =
    let r = c.from_residual-in_err-put_messages in
    let p = err_from_is_err_and r.result r.ensures.1 in
    rw (p.1, p.2)
    (not_reported (request_of c.args.start c.args.words c.args.limit) _ _ _ _ _ _ _
    (has_run (request_of c.args.start c.args.words c.args.limit) _ _ _ _ _ _ _ _ c.in_ok-machine.ensures
    c.in_ok-transfer.ensures c.unwrap_or.ensures c.started-ran.ensures)
    c.registers.ensures c.psw.ensures.word c.in_err-put_messages.ensures)
