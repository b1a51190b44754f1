use Rattle.std.proofs.Common.{inl, ap₂, refl, subst, sym, rules, []}
use Rattle.m11_base.specs.Devices.{Rises}
use Rattle.m11_base_writes.specs.States.{output_of}
use Rattle.m11_cpu_machine.specs.Dialogue.{input_of}
use Rattle.m11_cli_reports.specs.Lines.{open_line}
use Rattle.m11_cli_reports.specs.Reports.{Reports}
use Rattle.m11_cli_reports.specs.Streams.{store}
use Rattle.m11_cli.specs.Driver.{Carries}
use Rattle.m11_cli_tasks.specs.Opened.{StopsAt, sim_inputs}
use Rattle.m11_cli.specs.declared.outcome.Outcome.{Outcome}
use Rattle.m11_cli_tasks.specs.declared.tasks.Task.TheVariants.{Sim}
use Rattle.m11_cli.proofs.driver.simulate.Goals as goal

pub returns-in-Ok-clause-outcome : goal.returns-in-Ok-clause-outcome
returns-in-Ok-clause-outcome g c = inl (record {
  tape = input_of (g.F.Input.Feed.text c.in-Ok.tape) (g.F.Input.Feed.faults c.in-Ok.tape);
  tape' = c.run_sim.ensures.0;
  read = c.in-Ok.ensures.opened;
  runs = c.run_sim.ensures.1;
  kept = ap₂ store c.in-Ok.ensures.files c.in-Ok.ensures.counts;
})

-- the path at which opening stopped is reported
pub returns-in-Err-NotOpened-clause-outcome : goal.returns-in-Err-NotOpened-clause-outcome
returns-in-Err-NotOpened-clause-outcome g c =
    let old = store (g.F.Opens.files c.args.files.now) (g.F.Opens.refusals c.args.files.now) in
    let new = store (g.F.Opens.files c.open_sim_file.new.files) (g.F.Opens.refusals c.open_sim_file.new.files) in
    let input = input_of (g.I.Feed.text c.args.input.now) (g.I.Feed.faults c.args.input.now) in
    let printed = output_of g.O.Sink c.args.out.now in
    let reported = output_of g.E.Sink c.args.err.now in
    let reported' = output_of g.E.Sink c.not_opened.new.err in
    let path = c.in-Err-NotOpened.path.now in
    let stopped = c.in-Err-NotOpened.ensures in
    let rises : Rises old.refusals new.refusals = search rules in
    let stops : StopsAt old.files new.files (sim_inputs c.args.task.now) [] path = search rules in
    let reports : Reports (open_line path) reported reported' = search rules in
    let P : Outcome → Type 0 = λ outcome. Carries (Sim c.args.task.now) outcome old new
    (record { input = input; printed = printed; reported = reported }) (record { input = input; printed = printed; reported = reported' })
    in subst P (sym c.not_opened.ensures.outcome) (refl, refl, (rises, path, stops, reports))
