-- The command line, in terms of `clap`'s definitions: the options of `m11 sim` and some more. (This project's own.)
use Rattle.std.specs.Prelude.{ℕ, Some, codes, pos}
use Rattle.clap.specs.Words.{App, Rule, new_app, new_rule, with_rule}
use Rattle.clap.specs.declared.builder.action.ArgAction.TheVariants.{Append, SetTrue}
use Rattle.clap.specs.declared.builder.value_parser.ValueParser.TheVariants.{Signed}
use Rattle.m11_cli_tasks.specs.Commands.{bottom_rule, most_steps, option_rule, start_rule, steps_rule, tape_rule, words_rule}

-- the most steps that can be asked for as the last ones
abbrev pub most_last : ℕ
most_last = 65535

-- `-f FROM`, `--from FROM`: the first step that has a trace line
abbrev pub from_rule : Rule
from_rule = record (option_rule (codes "from") 0o146) { parser = Some (Signed (pos 0) (pos most_steps)) }

-- `-l LAST`, `--last LAST`: how many of the last steps are shown, and no others
abbrev pub last_rule : Rule
last_rule = record (option_rule (codes "last") 0o154) { parser = Some (Signed (pos 1) (pos most_last)) }

-- `-o FILE`, `--output FILE`: the file to which the lines of the steps are written
abbrev pub lines_rule : Rule
lines_rule = option_rule (codes "output") 0o157

-- `-p PLACE[:COUNT]`, `--place PLACE[:COUNT]`: an address at which to stop, and how many times the program counter must reach it for
-- the run to stop
abbrev pub breakpoint_rule : Rule
breakpoint_rule = record (option_rule (codes "place") 0o160) { action = Some Append }

-- `-w PLACE[:COUNT]`, `--watch PLACE[:COUNT]`: a word to watch, and how many times steps must change it for the run to stop
abbrev pub watch_rule : Rule
watch_rule = record (option_rule (codes "watch") 0o167) { action = Some Append }

-- `-r FIRST[:LAST]`, `--range FIRST[:LAST]`: a memory range to show at the end
abbrev pub range_rule : Rule
range_rule = record (option_rule (codes "range") 0o162) { action = Some Append }

-- `-y NAMES`, `--symbols NAMES`: a map, a listing or an object that names addresses
abbrev pub symbols_rule : Rule
symbols_rule = record (option_rule (codes "symbols") 0o171) { action = Some Append }

-- `-t`, `--text`: show the text of each step's line in the listings
abbrev pub text_rule : Rule
text_rule = record (new_rule (codes "text")) {
  short = Some 0o164;
  long = Some (codes "text");
  action = Some SetTrue;
}

-- `m11-trace [-n STEPS] [-s OCTAL] [-k WORDS] [-f FROM] [-l LAST] [-o FILE] [-p PLACE[:COUNT]]... [-w PLACE[:COUNT]]... [-r FIRST[:LAST]]...
-- [-y NAMES]... [-t] [-b OCTAL] TAPE`
abbrev pub application : App
application =
    with_rule (with_rule (with_rule (with_rule (with_rule (with_rule (with_rule (with_rule (with_rule (with_rule (with_rule (with_rule (with_rule
    (new_app (codes "m11-trace")) steps_rule) start_rule) words_rule) from_rule) last_rule) lines_rule) breakpoint_rule) watch_rule) range_rule) symbols_rule)
    text_rule) bottom_rule) tape_rule
