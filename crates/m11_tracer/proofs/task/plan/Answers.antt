use Rattle.std.proofs.Common.{◌≡◌, ◌∙◌, [], ap, map, subst}
use Rattle.clap.specs.Kinds.{HasKind}
use Rattle.clap.specs.Words.{fault_of, is_simple, is_simple_and_free, matches_of}
use Rattle.m11_cli_tasks.proofs.Planned.{planned, refused}
use Rattle.m11_cli_reports.proofs.Refusing.{words_refused}
use Rattle.m11_cli_reports.specs.Refusals.{of_words}
use Rattle.m11_tracer.specs.Application.{application}
use Rattle.m11_tracer.specs.Task.{EntriesHaveResult}
use Rattle.m11_tracer.proofs.task.plan.Goals as goal

pub returns-in_err-matches-clause-planned : goal.returns-in_err-matches-clause-planned
returns-in_err-matches-clause-planned g c =
    let words = map g.S.AsStr.text c.args.words.now in
    let app = c.in_ok-command.ensures.is in
    let e = c.in_err-matches.field-0.0 in
    refused application EntriesHaveResult words e (of_words c.from_residual-in_err-matches.result)
    (subst (λ a. HasKind (fault_of a words) e) app (c.in_err-matches.ensures.kinds (ap is_simple_and_free app)))
    (words_refused e c.from_residual-in_err-matches.result c.from_residual-in_err-matches.ensures.1)

pub returns-clause-planned : goal.returns-clause-planned
returns-clause-planned g c =
    let words = map g.S.AsStr.text c.args.words.now in
    let parsed = c.in_ok-matches.ensures in
    let app = c.in_ok-command.ensures.is in
    planned application EntriesHaveResult words _ (of_words c.parsed_task-task.result)
    (subst (λ a. fault_of a words ≡ []) app (parsed.kinds (ap is_simple_and_free app)))
    ((parsed.matches (ap is_simple app)).0 ∙ ap (λ a. matches_of a words) app)
    c.parsed_task-task.ensures.given
