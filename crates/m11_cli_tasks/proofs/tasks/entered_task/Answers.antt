use Rattle.std.proofs.Common.{sym, subst, refl, codes}
use Rattle.clap.specs.Words.{found_of, rows_of, subcommand_rows_of}
use Rattle.m11_cli_tasks.specs.Tasks.{EntriesHaveResult, IsTask}
use Rattle.m11_cli_tasks.specs.declared.tasks.Task.TheVariants.{Asm, Link, Sim}
use Rattle.m11_cli_tasks.proofs.Addresses.{bottom_gives, err_is, start_gives}
use Rattle.m11_cli_tasks.proofs.Entered.{excluded, none_left}
use Rattle.m11_cli_tasks.proofs.Entries.{entered_is}
use Rattle.m11_cli_tasks.proofs.tasks.entered_task.Goals as goal

pub returns-in-Some-clause-given : goal.returns-in-Some-clause-given
returns-in-Some-clause-given c =
    let asm = c.in-Some in
    let entered = entered_is c.args.matches.now (codes "asm") _ (asm.ensures.found.0 refl) asm.ensures.rows in
    subst (λ o. IsTask o (Asm c.in_ok-asm_task.field-0)) (sym entered) (refl, c.in_ok-asm_task.ensures)

pub returns-in-Some-subcommand_matches-clause-given : goal.returns-in-Some-subcommand_matches-clause-given
returns-in-Some-subcommand_matches-clause-given c =
    let link = c.in-Some-subcommand_matches in
    let entered = entered_is c.args.matches.now (codes "link") _ (link.ensures.found.0 refl) link.ensures.rows in
    subst (λ o. IsTask o (Link c.in_ok-link_task.field-0)) (sym entered) (refl, c.in_ok-link_task.ensures.task)

pub returns-in_err-link_task-clause-given : goal.returns-in_err-link_task-clause-given
returns-in_err-link_task-clause-given c =
    let link = c.in-Some-subcommand_matches in
    let rows = rows_of (found_of link.entries.now) in
    let fault = c.in_err-link_task.field-0.0 in
    let entered = entered_is c.args.matches.now (codes "link") rows (link.ensures.found.0 refl) link.ensures.rows in
    subst (EntriesHaveResult (subcommand_rows_of c.args.matches.now)) (sym
    (err_is c.from_residual-in_err-link_task.result fault c.from_residual-in_err-link_task.ensures.1))
    (bottom_gives _ rows fault entered c.in_err-link_task.ensures.fault)

pub returns-in-Some-subcommand_matches-2-clause-given : goal.returns-in-Some-subcommand_matches-2-clause-given
returns-in-Some-subcommand_matches-2-clause-given c =
    let sim = c.in-Some-subcommand_matches-2 in
    let entered = entered_is c.args.matches.now (codes "sim") _ (sim.ensures.found.0 refl) sim.ensures.rows in
    subst (λ o. IsTask o (Sim c.in_ok-sim_task.field-0)) (sym entered) (refl, c.in_ok-sim_task.ensures.task)

pub returns-in_err-sim_task-clause-given : goal.returns-in_err-sim_task-clause-given
returns-in_err-sim_task-clause-given c =
    let sim = c.in-Some-subcommand_matches-2 in
    let rows = rows_of (found_of sim.entries.now) in
    let fault = c.in_err-sim_task.field-0.0 in
    let entered = entered_is c.args.matches.now (codes "sim") rows (sim.ensures.found.0 refl) sim.ensures.rows in
    subst (EntriesHaveResult (subcommand_rows_of c.args.matches.now)) (sym
    (err_is c.from_residual-in_err-sim_task.result fault c.from_residual-in_err-sim_task.ensures.1))
    (start_gives _ rows fault entered c.in_err-sim_task.ensures.fault)

-- one of the commands was entered, and all were tested
pub unreachable-requires : goal.unreachable-requires
unreachable-requires c =
    none_left _ c.requires
    (λ e. excluded c.subcommand_matches.result (c.subcommand_matches.ensures.found.1 e) c.in_default.not-Some)
    (λ e. excluded c.subcommand_matches-2.result (c.subcommand_matches-2.ensures.found.1 e)
    c.in_default-subcommand_matches.not-Some)
    (λ e. excluded c.subcommand_matches-3.result (c.subcommand_matches-3.ensures.found.1 e)
    c.in_default-subcommand_matches-2.not-Some)
