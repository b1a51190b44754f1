-- The task of a command line. (This project's own.)
use Rattle.std.specs.Prelude.{◌≡◌, ◌≢◌, ◌⊎◌, ◌≤◌, ◌==◌, ◌%◌, ⊤, ℕ, List, [], ◌∷◌, map, option_map, Option, Some, None, Result, Ok, Err, codes, unwrap_or, if◌then◌else◌, ◌&&◌, nat_le, nat_lt, IfSome}
use Rattle.std.specs.Str.Parse.{digits_value, without_leading_plus}
use Rattle.clap.specs.Words.{IsAmong, Row, Text, all_of, fault_of, first_of, kind_of, one_of, subcommand_of}
use Rattle.clap.specs.ValueTests.{is_unsigned_in}
use Rattle.m11_base.specs.Octal.{octal_of}
use Rattle.m11_base.specs.declared.fault.OctalFault.{OctalFault}
use Rattle.clap.specs.declared.error.kind.ErrorKind.TheVariants as kind
use Rattle.m11_cli_tasks.specs.Commands.{application, default_bottom, default_steps, least_words, most_steps, most_words}
use Rattle.m11_cli_tasks.specs.declared.tasks.AsmTask.{AsmTask}
use Rattle.m11_cli_tasks.specs.declared.tasks.LinkTask.{LinkTask}
use Rattle.m11_cli_tasks.specs.declared.tasks.SimTask.{SimTask}
use Rattle.m11_cli_tasks.specs.declared.tasks.Task.{Task}
use Rattle.m11_cli_tasks.specs.declared.tasks.Task.TheVariants.{Asm, Link, Sim}
use Rattle.m11_cli_tasks.specs.declared.usage.UsageFault.{UsageFault}
use Rattle.m11_cli_tasks.specs.declared.usage.UsageFault.TheVariants.{Help, Words, BadOctal, OddAddress, BadAddress, BadCount, NoMemory}

-- the assembly that options and arguments specify: the object is the first value of `output`; the listing is the first value of `listing`,
-- if there is one; the sources are all values of `sources`, in order
pub record IsAsmTask (rows : List Row) (task : AsmTask) : Type 0 where
  pub object : task.object.now ≡ unwrap_or (first_of (codes "output") rows) []
  pub listing_path : option_map (λ path. path.now) task.listing ≡ first_of (codes "listing") rows
  pub sources : map (λ s. s.now) task.sources.items ≡ unwrap_or (all_of (codes "sources") rows) []

-- a word as an address of memory: `OddAddress` if it is odd; else `BadAddress` if it is above octal 157776, and so outside the largest
-- memory
abbrev pub address_of_word : ℕ → Result ℕ UsageFault
address_of_word word =
    if word % 2 == 1 then Err OddAddress
    else if nat_lt 0o157776 word then Err BadAddress else Ok word

abbrev pub address_of_octal : Result ℕ OctalFault → Result ℕ UsageFault
address_of_octal (Ok word) = address_of_word word
address_of_octal (Err fault) = Err BadOctal

-- the address that a text spells in octal, or the first fault that applies: `BadOctal`, `OddAddress` or `BadAddress`
abbrev pub address_of : Text → Result ℕ UsageFault
address_of text = address_of_octal (octal_of text)

abbrev pub start_at : Result ℕ UsageFault → Result (Option ℕ) UsageFault
start_at (Ok address) = Ok (Some address)
start_at (Err fault) = Err fault

-- the start address that a text spells, or the fault of that text; no start address if there is no text
abbrev pub start_of : Option Text → Result (Option ℕ) UsageFault
start_of None = Ok None
start_of (Some text) = start_at (address_of text)

-- the bottom that a text spells, or the fault of that text; the default if there is no text
abbrev pub bottom_of : Option Text → Result ℕ UsageFault
bottom_of None = Ok default_bottom
bottom_of (Some text) = address_of text

-- the link that options and arguments specify: the tape is the first value of `output`; the map is the first value of `map`, if there is
-- one; the bottom is the address that the first value of `bottom` spells, or octal 1000 without one; the objects are all values of
-- `objects`, in order
pub record IsLinkTask (rows : List Row) (task : LinkTask) : Type 0 where
  pub tape : task.tape.now ≡ unwrap_or (first_of (codes "output") rows) []
  pub map_path : option_map (λ path. path.now) task.map ≡ first_of (codes "map") rows
  pub bottom : bottom_of (first_of (codes "bottom") rows) ≡ Ok task.bottom
  pub objects : map (λ path. path.now) task.objects.items ≡ unwrap_or (all_of (codes "objects") rows) []

-- the decimal number of a text if it is from `least` to `most`; otherwise, or if there is no text, `other`. (A number out of range yields
-- no task: the parser refuses it.)
abbrev pub number_or : ℕ → ℕ → ℕ → Option Text → ℕ
number_or other least most None = other
number_or other least most (Some text) =
    if is_unsigned_in least most text then digits_value 10 (without_leading_plus text) else other

-- a number as a count: from 1 to the highest limit of steps; any other is `BadCount`
abbrev pub count_within : ℕ → Result ℕ UsageFault
count_within number = if nat_le 1 number && nat_le number most_steps then Ok number else Err BadCount

-- the count that a text spells: a decimal number from 1 to the highest limit of steps; any other text is `BadCount`
abbrev pub count_of : Text → Result ℕ UsageFault
count_of text =
    if is_unsigned_in 1 most_steps text then Ok (digits_value 10 (without_leading_plus text)) else Err BadCount

-- the run that options and arguments specify: the tape is the first value of `tape`; the start is the address that the first value of
-- `start` spells, if there is one; the size of memory and the limit of steps are the numbers of `words` and `steps`, or else 28,672 and
-- 1,000,000
pub record IsSimTask (rows : List Row) (task : SimTask) : Type 0 where
  pub tape : task.tape.now ≡ unwrap_or (first_of (codes "tape") rows) []
  pub start : start_of (first_of (codes "start") rows) ≡ Ok task.start
  pub words : task.words ≡ number_or most_words least_words most_words (one_of (codes "words") rows)
  pub limit : task.limit ≡ number_or default_steps 0 most_steps (one_of (codes "steps") rows)

-- the address is even and inside the largest memory
abbrev pub IsEvenAddress : ℕ → Type 0
IsEvenAddress address = (address % 2 ≡ 0) × (address ≤ 0o157776)

-- all numbers of a task are in range: the bottom, and the start if there is one, are even addresses inside the largest memory; the size of
-- memory and the limit of steps are within their bounds
abbrev pub IsDoable : Task → Type 0
IsDoable (Asm task) = ⊤
IsDoable (Link task) = IsEvenAddress task.bottom
IsDoable (Sim task) = (least_words ≤ task.words) × (task.words ≤ most_words)
    × (task.limit ≤ most_steps) × IfSome task.start IsEvenAddress

-- this is the task that the options and arguments of the entered command specify
abbrev pub IsTask : Option (Text × List Row) → Task → Type 0
IsTask None task = ⊥
IsTask (Some entered) (Asm task) = (entered.0 ≡ codes "asm") × IsAsmTask entered.1 task
IsTask (Some entered) (Link task) = (entered.0 ≡ codes "link") × IsLinkTask entered.1 task
IsTask (Some entered) (Sim task) = (entered.0 ≡ codes "sim") × IsSimTask entered.1 task

-- this is the fault of the bottom entered for a link, or of the start entered for a run
abbrev pub HasAddressFault : Option (Text × List Row) → UsageFault → Type 0
HasAddressFault None fault = ⊥
HasAddressFault (Some entered) fault =
    ((entered.0 ≡ codes "link") × (bottom_of (first_of (codes "bottom") entered.1) ≡ Err fault))
    ⊎ ((entered.0 ≡ codes "sim") × (start_of (first_of (codes "start") entered.1) ≡ Err fault))

-- a name is one of these names
abbrev pub IsOneOf : Text → List Text → Type 0
IsOneOf name [] = ⊥
IsOneOf name (x ∷ xs) = (name ≡ x) ⊎ IsOneOf name xs

-- one of the commands was entered
abbrev pub IsCommandName : Option Text → Type 0
IsCommandName None = ⊥
IsCommandName (Some name) = IsOneOf name (codes "asm" ∷ codes "link" ∷ codes "sim" ∷ [])

-- the options and arguments of a command have this result: its task, or the fault of its address; memory may be refused for any command
abbrev pub EntriesHaveResult : Option (Text × List Row) → Result Task UsageFault → Type 0
EntriesHaveResult entered (Ok task) = IsTask entered task
EntriesHaveResult entered (Err (Help error)) = ⊥
EntriesHaveResult entered (Err (Words error)) = ⊥
EntriesHaveResult entered (Err BadOctal) = HasAddressFault entered BadOctal
EntriesHaveResult entered (Err OddAddress) = HasAddressFault entered OddAddress
EntriesHaveResult entered (Err BadAddress) = HasAddressFault entered BadAddress
EntriesHaveResult entered (Err BadCount) = ⊥
EntriesHaveResult entered (Err NoMemory) = ⊤

-- the parser accepts the command line, and an address in it has this fault
abbrev pub IsAddressRefused : List Text → UsageFault → Type 0
IsAddressRefused words fault =
    (fault_of application words ≡ []) × HasAddressFault (subcommand_of application words) fault

-- A command line has this result. If the parser refuses it, the result is the parser's refusal; if an address in it has a fault, that
-- fault; otherwise its task. Memory may be refused for any command line.
abbrev pub Plans : List Text → Result Task UsageFault → Type 0
Plans words (Ok task) =
    (fault_of application words ≡ []) × IsTask (subcommand_of application words) task
Plans words (Err (Help error)) =
    (kind_of error ≡ kind.DisplayHelp) × IsAmong kind.DisplayHelp (fault_of application words)
Plans words (Err (Words error)) =
    (kind_of error ≢ kind.DisplayHelp) × IsAmong (kind_of error) (fault_of application words)
Plans words (Err BadOctal) = IsAddressRefused words BadOctal
Plans words (Err OddAddress) = IsAddressRefused words OddAddress
Plans words (Err BadAddress) = IsAddressRefused words BadAddress
Plans words (Err BadCount) = ⊥
Plans words (Err NoMemory) = ⊤
