-- Values of options that are refused, and the line that names one. (This project's own.)
use Rattle.std.specs.Prelude.{◌≡◌, [], ◌∷◌, Option, Result, Ok, Err, codes, unwrap_or}
use Rattle.std.specs.Fmt.{decimal}
use Rattle.std.specs.List.{join_with_byte}
use Rattle.clap.specs.Words.{Text}
use Rattle.clap.specs.declared.error.Error.{Error}
use Rattle.m11_base.specs.Devices.{Bytes}
use Rattle.m11_cli_tasks.specs.Usage.{UsageFaultOf, usage_name, usage_number}
use Rattle.m11_cli_tasks.specs.declared.usage.UsageFault.{UsageFault}
use Rattle.m11_cli_reports.specs.Lines.{line_for}
use Rattle.m11_cli_reports.specs.declared.refusals.AddressOption.{AddressOption}
use Rattle.m11_cli_reports.specs.declared.refusals.AddressOption.TheVariants.{Start, Place, Watch, Range, Bottom}
use Rattle.m11_cli_reports.specs.declared.refusals.RefusedValue.{RefusedValue}
use Rattle.m11_cli_reports.specs.declared.refusals.Refusal.{Refusal}
use Rattle.m11_cli_reports.specs.declared.refusals.Refusal.TheVariants.{Usage, Value}

-- an option as a line names it: a hyphen and its letter
abbrev pub option_word : AddressOption → Bytes
option_word Start = codes "-s"
option_word Place = codes "-p"
option_word Watch = codes "-w"
option_word Range = codes "-r"
option_word Bottom = codes "-b"

-- a word that is refused: its option, the word as it was given for the option, and its fault
pub record RefusedWord : Type 0 where
  pub option : AddressOption
  pub word : Text
  pub fault : UsageFault

-- the word of a refused value
abbrev pub refused_word : RefusedValue → RefusedWord
refused_word value = record { option = value.option; word = value.word.now; fault = value.fault }

-- the line for a refused word: its fault's line with the additions `OF`, the option and the word, as in `?M11 USAGE 3 BadOctal OF -b ABC`
abbrev pub refused_line : RefusedWord → Bytes
refused_line refused = line_for (codes "USAGE") (usage_number refused.fault) (usage_name refused.fault)
    (codes "OF" ∷ option_word refused.option ∷ refused.word ∷ [])

-- the words of that line before the option, with a space after each
abbrev pub words_before_option : UsageFault → Bytes
words_before_option fault =
    join_with_byte 0o40 (codes "?M11" ∷ codes "USAGE" ∷ decimal (usage_number fault) ∷ usage_name fault ∷ codes "OF" ∷ [] ∷ [])

-- what a word of an option means; or the word is refused, if it has a fault
abbrev pub reading : {A : Type 0} → AddressOption → Text → Result A UsageFault → Result A RefusedWord
reading option word (Ok meaning) = Ok meaning
reading option word (Err fault) = Err (record { option = option; word = word; fault = fault })

-- what an option means that is given at most once; or its word is refused, if it has a fault
abbrev pub single : {A : Type 0} → AddressOption → (Option Text → Result A UsageFault) → Option Text → Result A RefusedWord
single option meaning word = reading option (unwrap_or word []) (meaning word)

-- a result is this reading
abbrev pub Reads : {A : Type 0} → Result A RefusedWord → Result A RefusedValue → Type 0
Reads read (Ok meaning) = read ≡ Ok meaning
Reads read (Err value) = read ≡ Err (refused_word value)

-- a refusal, seen as one of the words themselves; values are looked at only in words that aren't refused, and one of them may then be
-- refused
abbrev pub of_words : {A : Type 0} → Result A Refusal → Result (Result A RefusedValue) UsageFault
of_words (Ok task) = Ok (Ok task)
of_words (Err (Value value)) = Ok (Err value)
of_words (Err (Usage fault)) = Err fault

-- the refusal for an error of the parser
abbrev pub RefusalOf : Error → Refusal → Type 0
RefusalOf error (Usage fault) = UsageFaultOf error fault
RefusalOf error (Value value) = ⊥
