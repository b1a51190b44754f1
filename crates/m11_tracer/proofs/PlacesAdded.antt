-- Addresses with counts and memory ranges that are read one after another.
use Rattle.std.proofs.Common.{◌≡◌, ◌∙◌, ℕ, List, [], ◌∷◌, ◌++◌, append_assoc, Option, Result, Ok, Err, ap, ap₂}
use Rattle.m11_cli_reports.specs.Refusals.{RefusedWord, reading, refused_word}
use Rattle.m11_cli_reports.specs.declared.refusals.AddressOption.{AddressOption}
use Rattle.m11_cli_reports.specs.declared.refusals.AddressOption.TheVariants as option
use Rattle.m11_cli_reports.specs.declared.refusals.RefusedValue.{RefusedValue}
use Rattle.m11_cli_reports.specs.declared.refusals.Refusal.{Refusal}
use Rattle.m11_cli_reports.specs.declared.refusals.Refusal.TheVariants.{Usage, Value}
use Rattle.m11_base_disassembly.specs.declared.symbols.Symbol.{Symbol}
use Rattle.m11_tracer.specs.Places.{AddsCounted, AddsRanges, counted_by, counted_of, range_of, ranges_by, with_counted, with_range}
use Rattle.m11_trace.specs.declared.ranges.Range.{Range}
use Rattle.m11_trace.specs.declared.stops.CountedAddress.{CountedAddress}

-- if the first address was added, and then the others were, all of them were added
pub one_added : (by : AddressOption) (symbols : Option (List Symbol)) (text : List ℕ) (texts : List (List ℕ)) (first : CountedAddress) (old middle new : List CountedAddress)
    (result : Result (Unit {0}) Refusal) → reading by text (counted_of symbols text) ≡ Ok first → middle ≡ old ++ first ∷ []
    → AddsCounted by symbols texts middle new result → AddsCounted by symbols (text ∷ texts) old new result
one_added by symbols text texts first old middle new (Ok done) is added more =
    let whole = ap₂ with_counted is more.1 in
    let long = more.2 ∙ ap (λ (xs : List CountedAddress). xs ++ more.0) added ∙ append_assoc old (first ∷ []) more.0 in
    (first ∷ more.0, whole, long)
one_added by symbols text texts first old middle new (Err (Value value)) is added e = ap₂ with_counted is e
one_added by symbols text texts first old middle new (Err (Usage fault)) is added memory = memory

-- if the first text spells no address, it is refused
pub first_refused : (by : AddressOption) (symbols : Option (List Symbol)) (text : List ℕ) (texts : List (List ℕ)) (old new : List CountedAddress) (value : RefusedValue)
    → reading by text (counted_of symbols text) ≡ Err (refused_word value) → AddsCounted by symbols (text ∷ texts) old new (Err (Value value))
first_refused by symbols text texts old new value is =
    let to : Result CountedAddress RefusedWord → Result (List CountedAddress) RefusedWord = λ r. with_counted r (counted_by by symbols texts) in
    ap to is

-- the same holds for memory ranges
pub one_range_added : (symbols : Option (List Symbol)) (text : List ℕ) (texts : List (List ℕ)) (range : Range) (old middle new : List Range)
    (result : Result (Unit {0}) Refusal) → reading option.Range text (range_of symbols text) ≡ Ok range → middle ≡ old ++ range ∷ []
    → AddsRanges symbols texts middle new result → AddsRanges symbols (text ∷ texts) old new result
one_range_added symbols text texts range old middle new (Ok done) is added more =
    let whole = ap₂ with_range is more.1 in
    let long = more.2 ∙ ap (λ (xs : List Range). xs ++ more.0) added ∙ append_assoc old (range ∷ []) more.0 in
    (range ∷ more.0, whole, long)
one_range_added symbols text texts range old middle new (Err (Value value)) is added e = ap₂ with_range is e
one_range_added symbols text texts range old middle new (Err (Usage fault)) is added memory = memory

pub first_range_refused : (symbols : Option (List Symbol)) (text : List ℕ) (texts : List (List ℕ)) (old new : List Range) (value : RefusedValue)
    → reading option.Range text (range_of symbols text) ≡ Err (refused_word value) → AddsRanges symbols (text ∷ texts) old new (Err (Value value))
first_range_refused symbols text texts old new value is =
    let to : Result Range RefusedWord → Result (List Range) RefusedWord = λ r. with_range r (ranges_by symbols texts) in
    ap to is
