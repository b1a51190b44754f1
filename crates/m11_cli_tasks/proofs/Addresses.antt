-- The fault of a bottom or of a start is one of three, and the command line yields that fault.
use Rattle.std.proofs.Common.{◌≡◌, ◌∙◌, ap, sym, subst, refl, Bool, true, false, ℕ, List, [], Option, Some, None, Result, Ok, Err, ◌⊎◌, inl, inr, codes, option_map}
use Rattle.std.specs.Prelude.{if◌then◌else◌, nat_lt, ◌==◌, ◌%◌, ⊤, IsErrAnd}
use Rattle.std.specs.Borrow.{Bor}
use Rattle.clap.specs.Words.{Row, Text, fault_of, first_of, first_value, rows_of, subcommand_of}
use Rattle.clap.specs.declared.parser.matches.Found.{Found}
use Rattle.m11_base.specs.Octal.{octal_of}
use Rattle.m11_base.specs.declared.fault.OctalFault.{OctalFault}
use Rattle.m11_cli_tasks.specs.Commands.{application}
use Rattle.m11_cli_tasks.specs.Tasks.{EntriesHaveResult, HasAddressFault, IsTask, Plans, address_of_octal, bottom_of, address_of, start_at, start_of}
use Rattle.m11_cli_tasks.specs.declared.tasks.Task.{Task}
use Rattle.m11_cli_tasks.specs.declared.usage.UsageFault.{UsageFault}
use Rattle.m11_cli_tasks.specs.declared.usage.UsageFault.TheVariants.{Help, Words, BadOctal, OddAddress, BadAddress, BadCount, NoMemory}
use Rattle.m11_cli_tasks.proofs.Entries.{first_entry_value}

pub err_is : {X E : Type 0} (r : Result X E) (e : E) → IsErrAnd r (λ y. y ≡ e) → r ≡ Err e
err_is (Ok x) e h = absurd h
err_is (Err y) e h = ap Err h

-- if the text of a start has a fault, the start has that fault
pub start_refused : (f : Found) (id : Text) (o : Option (Bor Text)) (text : Bor Text) (fault : UsageFault)
    → option_map (λ s. s.now) o ≡ first_value f id → o ≡ Some text → Err fault ≡ address_of text.now
    → Err fault ≡ start_of (first_of id (rows_of f))
start_refused f id o text fault got some bad =
    ap start_at bad ∙ ap start_of (sym (first_entry_value f id o got ∙ ap (option_map (λ s. s.now)) some))

-- the bottom is the address that its text spells, or the fault of that text
pub bottom_spelled : (f : Found) (id : Text) (o : Option (Bor Text)) (text : Bor Text) (r : Result ℕ UsageFault)
    → option_map (λ s. s.now) o ≡ first_value f id → o ≡ Some text → r ≡ address_of text.now
    → r ≡ bottom_of (first_of id (rows_of f))
bottom_spelled f id o text r got some is =
    is ∙ ap bottom_of (sym (first_entry_value f id o got ∙ ap (option_map (λ s. s.now)) some))

abbrev IsAddressFault : UsageFault → Type 0
IsAddressFault (Help error) = ⊥
IsAddressFault (Words error) = ⊥
IsAddressFault BadOctal = ⊤
IsAddressFault OddAddress = ⊤
IsAddressFault BadAddress = ⊤
IsAddressFault BadCount = ⊥
IsAddressFault NoMemory = ⊥

abbrev fault_in : {X : Type 0} → Result X UsageFault → UsageFault
fault_in (Ok x) = NoMemory
fault_in (Err fault) = fault

of_word : (odd past : Bool) (word : ℕ) (fault : UsageFault)
    → (if odd then Err OddAddress else if past then Err BadAddress else Ok word) ≡ Err fault
    → IsAddressFault fault
of_word true past word fault e = subst IsAddressFault (ap fault_in e) tt
of_word false true word fault e = subst IsAddressFault (ap fault_in e) tt
of_word false false word fault e = cc

of_octal : (r : Result ℕ OctalFault) (fault : UsageFault) → address_of_octal r ≡ Err fault → IsAddressFault fault
of_octal (Ok word) fault e = of_word (word % 2 == 1) (nat_lt 0o157776 word) word fault e
of_octal (Err octal) fault e = subst IsAddressFault (ap fault_in e) tt

of_bottom : (o : Option Text) (fault : UsageFault) → bottom_of o ≡ Err fault → IsAddressFault fault
of_bottom None fault e = cc
of_bottom (Some text) fault e = of_octal (octal_of text) fault e

of_start_at : (r : Result ℕ UsageFault) (fault : UsageFault) → start_at r ≡ Err fault → r ≡ Err fault
of_start_at (Ok address) fault e = cc
of_start_at (Err other) fault e = ap Err (ap fault_in e)

of_start : (o : Option Text) (fault : UsageFault) → start_of o ≡ Err fault → IsAddressFault fault
of_start None fault e = cc
of_start (Some text) fault e = of_octal (octal_of text) fault (of_start_at (address_of text) fault e)

-- the entries yield the fault of an address that was entered
refused : (entered : Option (Text × List Row)) (fault : UsageFault) → HasAddressFault entered fault
    → IsAddressFault fault → EntriesHaveResult entered (Err fault)
refused entered (Help error) has is = absurd is
refused entered (Words error) has is = absurd is
refused entered BadOctal has is = has
refused entered OddAddress has is = has
refused entered BadAddress has is = has
refused entered BadCount has is = absurd is
refused entered NoMemory has is = tt

pub start_gives : (entered : Option (Text × List Row)) (rows : List Row) (fault : UsageFault)
    → entered ≡ Some (codes "sim", rows) → start_of (first_of (codes "start") rows) ≡ Err fault
    → EntriesHaveResult entered (Err fault)
start_gives entered rows fault is e =
    refused entered fault (subst (λ o. HasAddressFault o fault) (sym is) (inr (refl, e)))
    (of_start (first_of (codes "start") rows) fault e)

pub bottom_gives : (entered : Option (Text × List Row)) (rows : List Row) (fault : UsageFault)
    → entered ≡ Some (codes "link", rows)
    → (fault ≡ NoMemory) ⊎ (bottom_of (first_of (codes "bottom") rows) ≡ Err fault) → EntriesHaveResult entered (Err fault)
bottom_gives entered rows fault is (inl memory) = subst (λ f. EntriesHaveResult entered (Err f)) (sym memory) tt
bottom_gives entered rows fault is (inr e) =
    refused entered fault (subst (λ o. HasAddressFault o fault) (sym is) (inl (refl, e)))
    (of_bottom (first_of (codes "bottom") rows) fault e)

-- if the parser accepts a command line, its result is that of its entries
pub planned : (words : List Text) (entered : Option (Text × List Row)) (r : Result Task UsageFault)
    → fault_of application words ≡ [] → entered ≡ subcommand_of application words → EntriesHaveResult entered r → Plans words r
planned words entered (Ok task) free is given = (free, subst (λ o. IsTask o task) is given)
planned words entered (Err (Help error)) free is given = absurd given
planned words entered (Err (Words error)) free is given = absurd given
planned words entered (Err BadOctal) free is given = (free, subst (λ o. HasAddressFault o BadOctal) is given)
planned words entered (Err OddAddress) free is given = (free, subst (λ o. HasAddressFault o OddAddress) is given)
planned words entered (Err BadAddress) free is given = (free, subst (λ o. HasAddressFault o BadAddress) is given)
planned words entered (Err BadCount) free is given = absurd given
planned words entered (Err NoMemory) free is given = tt
