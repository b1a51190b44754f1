use Rattle.std.proofs.Common.{inl, refl}
use Rattle.std.proofs.lemmas.Result.{err_from_is_err_and}
use Rattle.m11_base_writes.specs.Outputs.{outputs_of}
use Rattle.m11_base_writes.specs.Passes.{pass_of}
use Rattle.m11_asm.proofs.Joined.{asm_gives, asm_runs}
use Rattle.m11_asm.proofs.run.asm_run_with_seed.Goals as goal

pub returns-clause-runs : goal.returns-clause-runs
returns-clause-runs g c =
    asm_runs _ (pass_of g.F.Feed.text g.F.Feed.faults c.args.first.now c.read_first.new.feeds)
    (pass_of g.F.Feed.text g.F.Feed.faults c.args.second.now c.read_second.new.feeds)
    (outputs_of g.S.Sink g.T.Sink g.U.Sink c.args.object.now c.args.listing.now c.args.messages.now)
    (outputs_of g.S.Sink g.T.Sink g.U.Sink c.read_second.new.object c.read_second.new.listing c.read_second.new.messages)
    c.in_ok-symbols.symbols c.in_ok-symbols.ensures c.read_second.result c.read_second.ensures.0

pub returns-clause-untouched : goal.returns-clause-untouched
returns-clause-untouched g c =
    asm_runs _ (pass_of g.F.Feed.text g.F.Feed.faults c.args.first.now c.read_first.new.feeds)
    (pass_of g.F.Feed.text g.F.Feed.faults c.args.second.now c.read_second.new.feeds)
    (outputs_of g.S.Sink g.T.Sink g.U.Sink c.args.object.now c.args.listing.now c.args.messages.now)
    (outputs_of g.S.Sink g.T.Sink g.U.Sink c.read_second.new.object c.read_second.new.listing c.read_second.new.messages)
    c.in_ok-symbols.symbols c.in_ok-symbols.ensures c.read_second.result c.read_second.ensures.0

pub returns-clause-gives : goal.returns-clause-gives
returns-clause-gives g c =
    asm_gives (pass_of g.F.Feed.text g.F.Feed.faults c.args.first.now c.read_first.new.feeds)
    (pass_of g.F.Feed.text g.F.Feed.faults c.args.second.now c.read_second.new.feeds)
    (outputs_of g.S.Sink g.T.Sink g.U.Sink c.args.object.now c.args.listing.now c.args.messages.now)
    (outputs_of g.S.Sink g.T.Sink g.U.Sink c.read_second.new.object c.read_second.new.listing c.read_second.new.messages)
    c.in_ok-symbols.symbols c.in_ok-symbols.ensures c.read_second.result c.read_second.ensures.1

pub returns-in_err-symbols-clause-runs : goal.returns-in_err-symbols-clause-runs
returns-in_err-symbols-clause-runs g c =
    let r = c.from_residual in
    let p = err_from_is_err_and r.result r.ensures.1 in
    rw (p.1, p.2) (inl (c.in_err-symbols.ensures.0, refl, refl))

pub returns-in_err-symbols-clause-untouched : goal.returns-in_err-symbols-clause-untouched
returns-in_err-symbols-clause-untouched g c =
    let r = c.from_residual in
    let p = err_from_is_err_and r.result r.ensures.1 in
    rw (p.1, p.2) (inl (c.in_err-symbols.ensures.0, refl, (refl, refl, refl)))

pub returns-in_err-symbols-clause-gives : goal.returns-in_err-symbols-clause-gives
returns-in_err-symbols-clause-gives g c =
    let r = c.from_residual in
    let p = err_from_is_err_and r.result r.ensures.1 in
    rw (p.1, p.2) (inl (c.in_err-symbols.ensures.1, refl))
