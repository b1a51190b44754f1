-- The line and the status of a command line without a task. (This project's own.)
use Rattle.std.specs.Prelude.{[], ℕ, codes}
use Rattle.m11_base.specs.Devices.{Bytes}
use Rattle.m11_cli_tasks.specs.Usage.{usage_name, usage_number}
use Rattle.m11_cli_tasks.specs.declared.usage.UsageFault.{UsageFault}
use Rattle.m11_cli_tasks.specs.declared.usage.UsageFault.TheVariants.{Help, Words, BadOctal, OddAddress, BadAddress, BadCount, NoMemory}
use Rattle.m11_cli_reports.specs.Lines.{line_for}

-- the status of a command line without a task
abbrev pub usage_status : UsageFault → ℕ
usage_status (Help error) = 0
usage_status (Words error) = 2
usage_status BadOctal = 2
usage_status OddAddress = 2
usage_status BadAddress = 2
usage_status BadCount = 2
usage_status NoMemory = 5

-- the line for a fault of the command line; empty for help and for a refusal by the parser, which have texts of their own
abbrev pub usage_line : UsageFault → Bytes
usage_line (Help error) = []
usage_line (Words error) = []
usage_line fault = line_for (codes "USAGE") (usage_number fault) (usage_name fault) []
