use Rattle.std.proofs.Common.{sym}
use Rattle.std.proofs.lemmas.Result.{err_from_is_err_and}
use Rattle.m11_link_modules.proofs.Taking.{relocation_refused}
use Rattle.m11_link_modules.proofs.rules.Rules.relocation.Goals as goal

pub returns-in_err-stored-clause-takes : goal.returns-in_err-stored-clause-takes
returns-in_err-stored-clause-takes c =
    let r = c.from_residual in
    let p = err_from_is_err_and r.result r.ensures.1 in
    rw (p.1, p.2)
    (relocation_refused c.args.self.now _ c.args.relocation _ c.self.view_is
    (sym c.in_err-stored.ensures.judged))
