-- The result of a command line, for a program without commands. (This project's own.)
use Rattle.std.specs.Prelude.{◌≡◌, ◌≢◌, ◌⊎◌, List, [], Result, Ok, Err, ⊤}
use Rattle.clap.specs.Kinds.{Kinds}
use Rattle.clap.specs.Words.{App, IsAmong, Row, Text, fault_of, kind_of, matches_of}
use Rattle.clap.specs.declared.error.kind.ErrorKind.TheVariants as kind
use Rattle.m11_cli_tasks.specs.declared.usage.UsageFault.{UsageFault}
use Rattle.m11_cli_tasks.specs.declared.usage.UsageFault.TheVariants.{Help, Words, BadOctal, OddAddress, BadAddress, BadCount, NoMemory}

-- the parser refuses a command line with this fault: the fault's error is of one of these kinds, or memory was refused, as may happen for
-- any command line
abbrev pub ParserRefuses : Kinds → UsageFault → Type 0
ParserRefuses kinds (Help error) = (kind_of error ≡ kind.DisplayHelp) × IsAmong kind.DisplayHelp kinds
ParserRefuses kinds (Words error) = (kind_of error ≢ kind.DisplayHelp) × IsAmong (kind_of error) kinds
ParserRefuses kinds BadOctal = ⊥
ParserRefuses kinds OddAddress = ⊥
ParserRefuses kinds BadAddress = ⊥
ParserRefuses kinds BadCount = ⊥
ParserRefuses kinds NoMemory = ⊤

-- If the parser accepts the command line, the result is one that `Gives` allows for its options and arguments, a task or a fault. Otherwise
-- it is one of the parser's refusals. Memory may be refused for any command line.
abbrev pub Plans : {A : Type 0} → App → (List Row → Result A UsageFault → Type 0) → List Text → Result A UsageFault → Type 0
Plans app Gives words (Ok task) = (fault_of app words ≡ []) × Gives (matches_of app words) (Ok task)
Plans app Gives words (Err fault) = ParserRefuses (fault_of app words) fault
    ⊎ ((fault_of app words ≡ []) × Gives (matches_of app words) (Err fault))
