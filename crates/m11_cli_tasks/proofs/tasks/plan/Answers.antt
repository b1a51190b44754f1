use Rattle.std.proofs.Common.{◌≡◌, [], ap, sym, subst, refl, map}
use Rattle.clap.specs.Words.{fault_of, is_simple_and_free}
use Rattle.m11_cli_tasks.specs.Commands.{application}
use Rattle.m11_cli_tasks.specs.Tasks.{IsCommandName}
use Rattle.m11_cli_tasks.proofs.Addresses.{planned}
use Rattle.m11_cli_tasks.proofs.Entered.{entered_command, entered_free}
use Rattle.m11_cli_tasks.proofs.tasks.plan.Goals as goal

pub entered_task-task-requires : goal.entered_task-task-requires
entered_task-task-requires g c =
    let parsed = c.in_ok-matches.ensures in
    let command = c.in_ok-command.ensures in
    let entered = entered_command c.in_ok-command.command c.in_ok-matches.matches application
    (map g.S.AsStr.text c.args.words.now) command.is command.local parsed.parsed parsed.matches refl refl in
    subst IsCommandName (sym entered.1) entered.2

pub returns-clause-planned : goal.returns-clause-planned
returns-clause-planned g c =
    let words = map g.S.AsStr.text c.args.words.now in
    let parsed = c.in_ok-matches.ensures in
    let app = c.in_ok-command.ensures.is in
    planned words _ c.entered_task-task.result
    (subst (λ a. fault_of a words ≡ []) app (parsed.kinds (ap is_simple_and_free app)))
    (entered_free c.in_ok-command.command c.in_ok-matches.matches application words app refl parsed.matches)
    c.entered_task-task.ensures.given
