-- The faults of a command line, with their numbers and names. (This project's own.)
use Rattle.std.specs.Prelude.{◌≡◌, ◌≢◌, ℕ, codes}
use Rattle.clap.specs.Words.{kind_of}
use Rattle.clap.specs.declared.error.Error.{Error}
use Rattle.clap.specs.declared.error.kind.ErrorKind.TheVariants as kind
use Rattle.m11_base.specs.Devices.{Bytes}
use Rattle.m11_cli_tasks.specs.declared.usage.UsageFault.{UsageFault}
use Rattle.m11_cli_tasks.specs.declared.usage.UsageFault.TheVariants.{Help, Words, BadOctal, OddAddress, BadAddress, BadCount, NoMemory}

-- the number of a fault
abbrev pub usage_number : UsageFault → ℕ
usage_number (Help error) = 1
usage_number (Words error) = 2
usage_number BadOctal = 3
usage_number OddAddress = 4
usage_number BadAddress = 5
usage_number BadCount = 6
usage_number NoMemory = 90

-- the name of a fault
abbrev pub usage_name : UsageFault → Bytes
usage_name (Help error) = codes "Help"
usage_name (Words error) = codes "Words"
usage_name BadOctal = codes "BadOctal"
usage_name OddAddress = codes "OddAddress"
usage_name BadAddress = codes "BadAddress"
usage_name BadCount = codes "BadCount"
usage_name NoMemory = codes "NoMemory"

-- the fault for an error of the parser: `Help` if help was asked for, `NoMemory` if memory was refused, and `Words` for any other; `Help`
-- and `Words` hold the error; the faults of addresses and counts aren't the parser's
abbrev pub UsageFaultOf : Error → UsageFault → Type 0
UsageFaultOf e (Help error) = (error ≡ e) × (kind_of e ≡ kind.DisplayHelp)
UsageFaultOf e (Words error) =
    (error ≡ e) × (kind_of e ≢ kind.DisplayHelp) × (kind_of e ≢ kind.OutOfMemory)
UsageFaultOf e BadOctal = ⊥
UsageFaultOf e OddAddress = ⊥
UsageFaultOf e BadAddress = ⊥
UsageFaultOf e BadCount = ⊥
UsageFaultOf e NoMemory = kind_of e ≡ kind.OutOfMemory
