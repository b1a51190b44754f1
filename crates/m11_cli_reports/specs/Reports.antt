-- The texts that a program prints and reports, and the status of a program whose arguments could not be read. (This project's own.)
use Rattle.std.specs.Prelude.{◌≡◌, ◌⊎◌, ℕ}
use Rattle.std.specs.Io.KnownBytes.{Appends}
use Rattle.m11_base.specs.Devices.{Bytes, Rises}
use Rattle.m11_base.specs.Sink.{AppendsPrefix}
use Rattle.m11_base_writes.specs.States.{OutputState}
use Rattle.m11_cli_tasks.specs.Arguments.{refusal_line}
use Rattle.m11_cli_tasks.specs.declared.arguments.WordsFault.{WordsFault}
use Rattle.m11_cli_tasks.specs.declared.arguments.WordsFault.TheVariants as words
use Rattle.m11_cli_tasks.specs.declared.usage.UsageFault.{UsageFault}
use Rattle.m11_cli_tasks.specs.declared.usage.UsageFault.TheVariants.{Help, Words, NoMemory}
use Rattle.m11_cli_reports.specs.Usage.{usage_line}

-- a text was reported whole, or the device failed after a prefix of it
abbrev pub Reports : Bytes → OutputState → OutputState → Type 0
Reports text old new = (Appends old.text new.text text × (new.faults ≡ old.faults))
    ⊎ (AppendsPrefix old.text new.text text × Rises old.faults new.faults)

-- a text was reported whole, or the device failed after a prefix of it, or nothing was reported because memory was refused for the text
abbrev pub MayReport : Bytes → OutputState → OutputState → Type 0
MayReport text old new = Reports text old new ⊎ (new ≡ old)

-- some text was reported whole, or the device failed after a prefix of it; the text is empty if memory was refused for it
abbrev pub ReportsSome : OutputState → OutputState → Type 0
ReportsSome old new = (text : Bytes) × Reports text old new

-- the parser's text is printed if it is help, and reported if it is a refusal; for any other fault nothing is printed or reported
abbrev pub Explains : UsageFault → OutputState → OutputState → OutputState → OutputState → Type 0
Explains (Help error) printed printed' reported reported' = ReportsSome printed printed' × (reported' ≡ reported)
Explains (Words error) printed printed' reported reported' = (printed' ≡ printed) × ReportsSome reported reported'
Explains fault printed printed' reported reported' = (printed' ≡ printed) × (reported' ≡ reported)

-- ---- arguments that could not be read

abbrev pub words_status : WordsFault → ℕ
words_status words.NoMemory = 5
words_status (words.NotText number) = 2

-- the line for NoMemory is reported; or the line for a word that is not UTF-8, unless memory is refused for that line
abbrev pub ReportsOfWords : WordsFault → OutputState → OutputState → Type 0
ReportsOfWords words.NoMemory old new = Reports (usage_line NoMemory) old new
ReportsOfWords (words.NotText number) old new = MayReport (refusal_line number) old new
