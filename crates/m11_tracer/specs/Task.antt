-- What a command line asks for. (This project's own.)
use Rattle.std.specs.Prelude.{◌≡◌, ◌+◌, ◌==◌, if◌then◌else◌, ℕ, List, [], Option, Some, None, option_map, Result, Ok, Err, codes, unwrap_or}
use Rattle.std.specs.Result.{result_and}
use Rattle.std.specs.Str.{bytes_eq}
use Rattle.clap.specs.Words.{Row, Text, all_of, first_of, one_of}
use Rattle.m11_base_disassembly.specs.declared.kept.Kept.{Kept}
use Rattle.m11_base_disassembly.specs.declared.kept.Kept.TheVariants.{Names, NamesAndLines}
use Rattle.m11_cli_tasks.specs.Commands.{most_steps}
use Rattle.m11_cli_tasks.specs.Opened.{texts}
use Rattle.m11_cli_tasks.specs.Plans as tasks
use Rattle.m11_cli_tasks.specs.Tasks.{IsSimTask, bottom_of, number_or, start_of}
use Rattle.m11_cli_tasks.specs.declared.usage.UsageFault.{UsageFault}
use Rattle.m11_cli_tasks.specs.declared.usage.UsageFault.TheVariants.{NoMemory}
use Rattle.m11_cli_reports.specs.Refusals.{RefusedWord, of_words, refused_word, single}
use Rattle.m11_cli_reports.specs.declared.refusals.AddressOption.TheVariants as option
use Rattle.m11_cli_reports.specs.declared.refusals.RefusedValue.{RefusedValue}
use Rattle.m11_cli_reports.specs.declared.refusals.Refusal.{Refusal}
use Rattle.m11_trace.specs.declared.ranges.Range.{Range}
use Rattle.m11_tracer.specs.Application.{application, most_last}
use Rattle.m11_tracer.specs.Places.{ValueTexts, asked_in_order, value_texts}
use Rattle.m11_tracer.specs.declared.task.TraceTask.{TraceTask}

-- where the run starts, if an option says so; or its word is refused
abbrev pub start_by : List Row → Result (Option ℕ) RefusedWord
start_by rows = single option.Start start_of (first_of (codes "start") rows)

-- the values of the breakpoints, of the words of memory to watch, and of the memory ranges of a command line, each in order
abbrev pub values_of : List Row → ValueTexts
values_of rows = record {
  places = unwrap_or (all_of (codes "place") rows) [];
  watched = unwrap_or (all_of (codes "watch") rows) [];
  ranges = unwrap_or (all_of (codes "range") rows) [];
}

-- the bottom; or its word is refused
abbrev pub bottom_by : List Row → Result ℕ RefusedWord
bottom_by rows = single option.Bottom bottom_of (first_of (codes "bottom") rows)

-- how many of the last steps are asked for; `other` if the option is left out
abbrev pub last_or : ℕ → List Row → ℕ
last_or other rows = number_or other 1 most_last (one_of (codes "last") rows)

-- the number of the first step that has a line when it is made: the one that the option says, or each step without it; if only the last steps
-- are asked for, a number that no run reaches
abbrev pub first_shown : List Row → ℕ
first_shown rows = if last_or 0 rows == 0 then number_or 0 0 most_steps (one_of (codes "from") rows) else most_steps + 1

-- how many of the last steps are shown if no step had a line when it was made
abbrev pub last_shown : List Row → ℕ
last_shown rows = last_or 16 rows

-- what is kept of the files of names: the lines of listings too, if the option for their texts is given. The parser then stores `true` for it
abbrev pub kept_by : Option Text → Kept
kept_by None = Names
kept_by (Some text) = if bytes_eq text (codes "true") then NamesAndLines else Names

-- the words of options are looked at in this order: the start, the breakpoints, the words to watch, the memory ranges, the bottom. None is
-- refused, or this is the first one that is. Names aren't looked up yet
abbrev pub in_order : List Row → Result ℕ RefusedWord
in_order rows = result_and (start_by rows) (result_and (asked_in_order None (values_of rows)) (bottom_by rows))

-- the traced run that the parsed options ask for: the run is that of `m11 sim`; `from` gives the first step with a trace line, and `last`
-- says that only so many of the last ones have lines; `output` gives the file for the lines; `place` gives the values of the breakpoints,
-- `watch` those of the words to watch, `range` those of the memory ranges, each in order, and none of them is refused whatever their names
-- mean; `symbols` gives the files of names, in order, `text` says whether the lines of their listings are kept, and `bottom` where the
-- relocatable sections of listings and objects begin
pub record IsTraceTask (rows : List Row) (task : TraceTask) : Type 0 where
  pub sim : IsSimTask rows task.sim
  pub first : task.from ≡ first_shown rows
  pub last : task.last ≡ last_shown rows
  pub lines : option_map (λ path. path.now) task.lines ≡ first_of (codes "output") rows
  pub values : value_texts task.values ≡ values_of rows
  pub checked : (ranges : List Range) × (asked_in_order None (value_texts task.values) ≡ Ok ranges)
  pub names : texts task.names.items ≡ unwrap_or (all_of (codes "symbols") rows) []
  pub kept : task.kept ≡ kept_by (first_of (codes "text") rows)
  pub bottom : bottom_by rows ≡ Ok task.bottom

-- the parsed options ask for this run; or this is the first word of an option that is refused; or memory was refused
abbrev pub EntriesHaveResult : List Row → Result (Result TraceTask RefusedValue) UsageFault → Type 0
EntriesHaveResult rows (Ok (Ok task)) = IsTraceTask rows task
EntriesHaveResult rows (Ok (Err value)) = in_order rows ≡ Err (refused_word value)
EntriesHaveResult rows (Err fault) = fault ≡ NoMemory

-- what a command line asks for, or why it is refused; memory may be refused for any command line
abbrev pub Plans : List Text → Result TraceTask Refusal → Type 0
Plans words result = tasks.Plans application EntriesHaveResult words (of_words result)
