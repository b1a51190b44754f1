-- A text as a count.
use Rattle.std.proofs.Common.{◌≡◌, refl, arith, ℕ, Result, Ok, Err}
use Rattle.std.specs.Prelude.{◌&&◌, nat_le}
use Rattle.std.specs.Str.Parse.{ParsesUnsigned}
use Rattle.clap.specs.Words.{Text}
use Rattle.clap.specs.ValueTests.{is_unsigned_in}
use Rattle.m11_cli_tasks.specs.Commands.{most_steps}
use Rattle.m11_cli_tasks.specs.Tasks.{count_of, count_within}
use Rattle.m11_cli_tasks.specs.declared.usage.UsageFault.{UsageFault}
use Rattle.m11_cli_tasks.specs.declared.usage.UsageFault.TheVariants.{BadCount}
use Rattle.m11_cli_tasks.proofs.Numbers.{not_read, was_read}

-- the number that was read, as a count; `BadCount` if none was read
abbrev pub counted : {E : Type 0} → Result ℕ E → Result ℕ UsageFault
counted (Ok number) = count_within number
counted (Err e) = Err BadCount

pub counted_is : {E : Type 0} (text : Text) (r : Result ℕ E) → ParsesUnsigned 32 10 text r → counted r ≡ count_of text
counted_is text (Ok n) parsed =
    was_read Ok (Err BadCount) 1 most_steps (omega arith) text n (is_unsigned_in 1 most_steps text)
    (nat_le 1 n && nat_le n most_steps) refl refl parsed.0.0 parsed.1
counted_is text (Err e) parsed = not_read Ok (Err BadCount) 1 most_steps (omega arith) text (is_unsigned_in 1 most_steps text) refl parsed
