-- The addresses that the values of `-p`, `-w` and `-r` give: numbers, and names of the files of `-y` with distances. (This project's own. A
-- symbol and a distance: MACRO-11 Language Reference Manual, "Expressions".)
use Rattle.std.specs.Prelude.{◌≡◌, ◌+◌, ◌%◌, ◌==◌, ◌&&◌, ◌||◌, if◌then◌else◌, nat_le, nat_lt, ℕ, Bool, false, List, [], ◌∷◌, ◌++◌, length, Option, Some, None, Result, Ok, Err}
use Rattle.std.specs.List.{after_first, before_first, position_or_len}
use Rattle.std.specs.Result.{result_and}
use Rattle.clap.specs.Words.{Text}
use Rattle.m11_base.specs.Octal.{octal_of}
use Rattle.m11_base.specs.declared.fault.OctalFault.{OctalFault}
use Rattle.m11_base_disassembly.specs.Symbols.{value_named}
use Rattle.m11_base_disassembly.specs.declared.symbols.Symbol.{Symbol}
use Rattle.m11_cli_tasks.specs.Tasks.{address_of, address_of_word, count_of}
use Rattle.m11_cli_tasks.specs.declared.usage.UsageFault.{UsageFault}
use Rattle.m11_cli_tasks.specs.declared.usage.UsageFault.TheVariants.{BadOctal, NoMemory}
use Rattle.m11_cli_reports.specs.Refusals.{RefusedWord, reading, refused_word}
use Rattle.m11_cli_reports.specs.declared.refusals.AddressOption.{AddressOption}
use Rattle.m11_cli_reports.specs.declared.refusals.AddressOption.TheVariants as option
use Rattle.m11_cli_reports.specs.declared.refusals.Refusal.{Refusal}
use Rattle.m11_cli_reports.specs.declared.refusals.Refusal.TheVariants.{Usage, Value}
use Rattle.m11_trace.specs.declared.ranges.Range.{Range}
use Rattle.m11_trace.specs.declared.stops.CountedAddress.{CountedAddress}
use Rattle.m11_cli_tasks.specs.Opened.{texts}
use Rattle.m11_tracer.specs.declared.places.Asked.{Asked}
use Rattle.m11_tracer.specs.declared.places.Values.{Values}

-- ---- parts of a value

abbrev pub is_colon : ℕ → Bool
is_colon character = character == 58

abbrev pub is_plus : ℕ → Bool
is_plus character = character == 43

-- the part of a text after the first character of this kind, if it has one
abbrev pub part_after : (ℕ → Bool) → Text → Option Text
part_after is text = if nat_lt (position_or_len is text) (length text) then Some (after_first is text) else None

-- ---- an address

-- a text begins with a letter, `$` or `.`, as names do and numbers don't
abbrev pub begins_name : Text → Bool
begins_name [] = false
begins_name (character ∷ characters) = (nat_le 65 character && nat_le character 90) || character == 36 || character == 46

-- the distance that this text spells in octal; 0 if there is no text
abbrev pub distance_by : Option Text → Result ℕ OctalFault
distance_by None = Ok 0
distance_by (Some digits) = octal_of digits

abbrev pub far_from : Option ℕ → ℕ → Result ℕ UsageFault
far_from None distance = Err BadOctal
far_from (Some value) distance = address_of_word ((value + distance) % 65536)

-- the address of a name among these symbols, and a distance; before there are symbols any name may be an address, and 0 stands for it
abbrev pub named_at : Option (List Symbol) → Text → Result ℕ OctalFault → Result ℕ UsageFault
named_at symbols name (Err fault) = Err BadOctal
named_at None name (Ok distance) = Ok 0
named_at (Some symbols) name (Ok distance) = far_from (value_named name symbols) distance

-- the address that a text spells in octal, or that its name has among these symbols, with the distance after `+`; or its fault, which is
-- `BadOctal` for a name that no symbol has
abbrev pub place_of : Option (List Symbol) → Text → Result ℕ UsageFault
place_of symbols text = if begins_name text
    then named_at symbols (before_first is_plus text) (distance_by (part_after is_plus text)) else address_of text

-- ---- addresses with counts

-- the count that this text spells; 1 if there is no text
abbrev pub count_by : Option Text → Result ℕ UsageFault
count_by None = Ok 1
count_by (Some text) = count_of text

abbrev pub counted_at : Result ℕ UsageFault → Result ℕ UsageFault → Result CountedAddress UsageFault
counted_at (Err fault) count = Err fault
counted_at (Ok address) (Err fault) = Err fault
counted_at (Ok address) (Ok count) = Ok (record { address = address; count = count })

-- the address before the colon of a text with the count after it, or 1 if there is no colon; or the fault of the address, or else of the
-- count
abbrev pub counted_of : Option (List Symbol) → Text → Result CountedAddress UsageFault
counted_of symbols text = counted_at (place_of symbols (before_first is_colon text)) (count_by (part_after is_colon text))

-- an address with a count followed by others; or the first word among them that is refused
abbrev pub with_counted : Result CountedAddress RefusedWord → Result (List CountedAddress) RefusedWord → Result (List CountedAddress) RefusedWord
with_counted (Err refused) more = Err refused
with_counted (Ok first) (Err refused) = Err refused
with_counted (Ok first) (Ok others) = Ok (first ∷ others)

-- the addresses with counts that these texts of an option give; or the first text that gives none, which is refused
abbrev pub counted_by : AddressOption → Option (List Symbol) → List Text → Result (List CountedAddress) RefusedWord
counted_by option symbols [] = Ok []
counted_by option symbols (text ∷ texts) =
    with_counted (reading option text (counted_of symbols text)) (counted_by option symbols texts)

-- ---- memory ranges

abbrev pub range_by : Result ℕ UsageFault → Result ℕ UsageFault → Result Range UsageFault
range_by (Err fault) last = Err fault
range_by (Ok first) (Err fault) = Err fault
range_by (Ok first) (Ok last) = Ok (record { first = first; last = last })

-- the last address of a memory range: the one that this text gives, or the first address if there is no text
abbrev pub last_by : Option (List Symbol) → Result ℕ UsageFault → Option Text → Result ℕ UsageFault
last_by symbols first None = first
last_by symbols first (Some text) = place_of symbols text

-- the memory range from the address before the colon of a text to the address after it, both included, or only the word at the one address
-- if there is no colon; or the fault of the first bad address
abbrev pub range_of : Option (List Symbol) → Text → Result Range UsageFault
range_of symbols text =
    let first = place_of symbols (before_first is_colon text) in range_by first (last_by symbols first (part_after is_colon text))

abbrev pub with_range : Result Range RefusedWord → Result (List Range) RefusedWord → Result (List Range) RefusedWord
with_range (Err refused) more = Err refused
with_range (Ok range) (Err refused) = Err refused
with_range (Ok range) (Ok ranges) = Ok (range ∷ ranges)

-- the memory ranges that these texts give; or the first text that gives none, which is refused
abbrev pub ranges_by : Option (List Symbol) → List Text → Result (List Range) RefusedWord
ranges_by symbols [] = Ok []
ranges_by symbols (text ∷ texts) = with_range (reading option.Range text (range_of symbols text)) (ranges_by symbols texts)

-- ---- all of them

-- the values of the breakpoints, of the words to watch, and of the memory ranges, each in order
pub record ValueTexts : Type 0 where
  pub places : List Text
  pub watched : List Text
  pub ranges : List Text

abbrev pub value_texts : Values → ValueTexts
value_texts values = record { places = texts values.places.items; watched = texts values.watched.items; ranges = texts values.ranges.items }

-- the values are looked at in this order: the breakpoints, the words to watch, the memory ranges. None is refused, or this is the first one
-- that is
abbrev pub asked_in_order : Option (List Symbol) → ValueTexts → Result (List Range) RefusedWord
asked_in_order symbols values = result_and (counted_by option.Place symbols values.places)
    (result_and (counted_by option.Watch symbols values.watched) (ranges_by symbols values.ranges))

-- these values ask for this; or this is the first one that is refused; or memory was refused
abbrev pub AsksFor : Option (List Symbol) → ValueTexts → Result Asked Refusal → Type 0
AsksFor symbols values (Ok asked) = (counted_by option.Place symbols values.places ≡ Ok asked.stops.breakpoints.items)
    × (counted_by option.Watch symbols values.watched ≡ Ok asked.stops.watched.items)
    × (ranges_by symbols values.ranges ≡ Ok asked.ranges.items)
AsksFor symbols values (Err (Value value)) = asked_in_order symbols values ≡ Err (refused_word value)
AsksFor symbols values (Err (Usage fault)) = fault ≡ NoMemory

-- ---- adding addresses with counts and memory ranges

-- the addresses with counts that these texts of an option give were added; or the first text that gives none is refused; or memory was
-- refused
abbrev pub AddsCounted : AddressOption → Option (List Symbol) → List Text → List CountedAddress → List CountedAddress
    → Result (Unit {0}) Refusal → Type 0
AddsCounted option symbols texts old new (Ok done) =
    (more : List CountedAddress) × (counted_by option symbols texts ≡ Ok more) × (new ≡ old ++ more)
AddsCounted option symbols texts old new (Err (Value value)) = counted_by option symbols texts ≡ Err (refused_word value)
AddsCounted option symbols texts old new (Err (Usage fault)) = fault ≡ NoMemory

-- the memory ranges that these texts give were added; or the first text that gives none is refused; or memory was refused
abbrev pub AddsRanges : Option (List Symbol) → List Text → List Range → List Range → Result (Unit {0}) Refusal → Type 0
AddsRanges symbols texts old new (Ok done) = (more : List Range) × (ranges_by symbols texts ≡ Ok more) × (new ≡ old ++ more)
AddsRanges symbols texts old new (Err (Value value)) = ranges_by symbols texts ≡ Err (refused_word value)
AddsRanges symbols texts old new (Err (Usage fault)) = fault ≡ NoMemory
