-- A command with one more argument, or with one more subcommand.
use Rattle.std.proofs.Common.{◌∙◌, ap, ap₂, Result, Ok, Err}
use Rattle.std.specs.Prelude.{◌||◌, IfOk}
use Rattle.std.specs.declared.alloc.AllocError.{AllocError}
use Rattle.clap.specs.Words.{AddsArg, AddsSubcommand, App, Rule, with_rule, with_subcommand}
use Rattle.clap.specs.declared.builder.arg.Arg.{Arg}
use Rattle.clap.specs.declared.builder.command.Command.{Command}
use Rattle.m11_cli_tasks.specs.Commands.{IsArgument, IsCommand}

pub argument_added : (old : Command) (a : Arg) (after : Result Command AllocError) → IfOk after (AddsArg old a)
    → (app : App) (rule : Rule) → IsCommand app old → IsArgument rule a → IfOk after (IsCommand (with_rule app rule))
argument_added old a (Ok new) adds app rule command argument = record {
  is = adds.shape argument.local ∙ ap₂ with_rule command.is argument.is;
  local = adds.globals ∙ ap₂ ◌||◌ command.local argument.local;
}
argument_added old a (Err e) adds app rule command argument = tt

pub subcommand_added : (old sub : Command) (after : Result Command AllocError) → IfOk after (AddsSubcommand old sub)
    → (app below : App) → IsCommand app old → IsCommand below sub
    → IfOk after (IsCommand (with_subcommand app below.top))
subcommand_added old sub (Ok new) adds app below command lower = record {
  is = adds.shape lower.local ∙ ap₂ with_subcommand command.is (ap (λ (a : App). a.top) lower.is);
  local = adds.globals ∙ ap₂ ◌||◌ command.local lower.local;
}
subcommand_added old sub (Err e) adds app below command lower = tt
