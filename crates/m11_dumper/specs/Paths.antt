-- What a command line asks for: the paths of files and what to show of them; or why it is refused. (This project's own.)
use Rattle.std.specs.Prelude.{◌≡◌, ℕ, Bool, false, if◌then◌else◌, List, [], Option, Some, None, Result, Ok, Err, codes, unwrap_or}
use Rattle.clap.specs.Words.{Row, Text, all_of, first_of}
use Rattle.std.specs.Str.{bytes_eq}
use Rattle.m11_dump.specs.declared.kind.Kind.{Kind}
use Rattle.m11_dump.specs.declared.kind.Kind.TheVariants.{Object, Tape}
use Rattle.m11_dump.specs.declared.view.View.{View}
use Rattle.m11_dump.specs.declared.view.View.TheVariants.{Octal, Instructions}
use Rattle.m11_dumper.specs.Application.{application}
use Rattle.m11_dumper.specs.declared.paths.Form.{Form}
use Rattle.m11_dumper.specs.declared.paths.Form.TheVariants.{Dump, Source}
use Rattle.m11_dumper.specs.declared.paths.Look.{Look}
use Rattle.m11_dumper.specs.declared.paths.Request.{Request}
use Rattle.m11_dumper.specs.declared.paths.Show.{Show}
use Rattle.m11_dumper.specs.declared.paths.Show.TheVariants.{Contents, Map}
use Rattle.m11_cli_reports.specs.Refusals.{RefusedWord, of_words, refused_word, single}
use Rattle.m11_cli_reports.specs.declared.refusals.AddressOption.TheVariants.{Bottom}
use Rattle.m11_cli_reports.specs.declared.refusals.RefusedValue.{RefusedValue}
use Rattle.m11_cli_reports.specs.declared.refusals.Refusal.{Refusal}
use Rattle.m11_cli_tasks.specs.Opened.{texts}
use Rattle.m11_cli_tasks.specs.Plans as tasks
use Rattle.m11_cli_tasks.specs.Tasks.{bottom_of}
use Rattle.m11_cli_tasks.specs.declared.usage.UsageFault.{UsageFault}
use Rattle.m11_cli_tasks.specs.declared.usage.UsageFault.TheVariants.{NoMemory}

-- whether an option that takes no value is given: the parser then stores `true` for it
abbrev pub is_set : Option Text → Bool
is_set None = false
is_set (Some text) = bytes_eq text (codes "true")

-- how to show the bytes of texts and of a tape's blocks: as instructions, or in octal
abbrev pub view_by : Option Text → View
view_by value = if is_set value then Instructions else Octal

-- the kind that all files are read as, if an option states one; objects if both options are given
abbrev pub kind_by : Option Text → Option Text → Option Kind
kind_by object tape = if is_set object then Some Object else if is_set tape then Some Tape else None

-- what the contents of files are shown as: sources if that is asked for; otherwise dumps, with their bytes in a view
abbrev pub form_of : List Row → Form
form_of rows =
    if is_set (first_of (codes "source") rows) then Source else Dump (view_by (first_of (codes "disassemble") rows))

-- how to show the contents of files: what they are shown as, and their kind if an option states it
abbrev pub look_of : List Row → Look
look_of rows = record {
  form = form_of rows;
  kind = kind_by (first_of (codes "object") rows) (first_of (codes "tape") rows);
}

-- what to show: the load map if it is asked for, whatever other options say; otherwise the contents of each file
abbrev pub show_of : List Row → Show
show_of rows = if is_set (first_of (codes "map") rows) then Map else Contents (look_of rows)

-- the bottom, or its word if that is refused, even if nothing uses it
abbrev pub bottom_by : List Row → Result ℕ RefusedWord
bottom_by rows = single Bottom bottom_of (first_of (codes "bottom") rows)

-- the values of an argument, in order; none if it is missing
abbrev pub values : Text → List Row → List Text
values argument rows = unwrap_or (all_of argument rows) []

-- the parsed options and files ask for this request: what to show, the bottom, the files of names, and the files to show
abbrev pub IsRequest : List Row → Request → Type 0
IsRequest rows request = (request.show ≡ show_of rows) × (bottom_by rows ≡ Ok request.bottom)
    × (texts request.names.items ≡ values (codes "symbols") rows) × (texts request.paths.items ≡ values (codes "files") rows)

-- the parsed options and files ask for this request; or the word of the bottom is refused; or memory was refused
abbrev pub EntriesHaveResult : List Row → Result (Result Request RefusedValue) UsageFault → Type 0
EntriesHaveResult rows (Ok (Ok request)) = IsRequest rows request
EntriesHaveResult rows (Ok (Err value)) = bottom_by rows ≡ Err (refused_word value)
EntriesHaveResult rows (Err fault) = fault ≡ NoMemory

-- the result of a command line: what it asks for, or why it is refused; memory may be refused for any command line
abbrev pub Plans : List Text → Result Request Refusal → Type 0
Plans words result = tasks.Plans application EntriesHaveResult words (of_words result)
