-- The outcome of a task.
use Rattle.std.proofs.Common.{List, Ok}
use Rattle.clap.specs.Words.{Text}
use Rattle.m11_cli.specs.Driver.{Carries, HasOutcome}
use Rattle.m11_cli.specs.declared.outcome.Outcome.{Outcome}
use Rattle.m11_cli.specs.declared.outcome.Outcome.TheVariants.{Usage, Asm, Link, Sim, NotOpened}
use Rattle.m11_cli_reports.specs.Streams.{Store, Streams}
use Rattle.m11_cli_tasks.specs.Tasks.{Plans}
use Rattle.m11_cli_tasks.specs.declared.tasks.Task.{Task}
use Rattle.m11_cli_tasks.specs.declared.tasks.Task.TheVariants as task

-- if a command line asks for a task, the outcome of the task is an outcome of the command line
pub carried : (words : List Text) (t : Task) (outcome : Outcome) (old new : Store) (before after : Streams)
    → Plans words (Ok t) → Carries t outcome old new before after → HasOutcome words outcome old new before after
carried words (task.Asm asm) (Usage fault) old new before after planned h = absurd h
carried words (task.Link link) (Usage fault) old new before after planned h = absurd h
carried words (task.Sim sim) (Usage fault) old new before after planned h = absurd h
carried words t (Asm result) old new before after planned h = (t, planned, h)
carried words t (Link result) old new before after planned h = (t, planned, h)
carried words t (Sim result) old new before after planned h = (t, planned, h)
carried words t NotOpened old new before after planned h = (t, planned, h)
