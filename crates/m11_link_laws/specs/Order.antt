-- What the laws about the order of a link's writes refer to: whether writes reach the tape, how many of them are messages, how many
-- messages are about undefined globals, and whether some writes begin with others. (This project's own.)
use Rattle.std.specs.Prelude.{◌≡◌, ℕ, Bool, true, false, List, ◌++◌, length}
use Rattle.std.specs.List.{filter, list_any}
use Rattle.m11_base_writes.specs.declared.outputs.Output.{Output}
use Rattle.m11_base_writes.specs.declared.outputs.Output.TheVariants.{Product}
use Rattle.m11_link_text.specs.Findings.{Findings}
use Rattle.m11_link.specs.Front.{undefined_writes}
use Rattle.m11_base_writes.specs.Outputs.{Write}
use Rattle.m11_link.specs.Written.{is_message}

abbrev pub is_to_tape : Output → Bool
is_to_tape Product = true
is_to_tape output = false

abbrev pub is_block : Write → Bool
is_block write = is_to_tape write.output

-- whether one of these writes is to the tape
abbrev pub reach_tape : List Write → Bool
reach_tape writes = list_any is_block writes

-- the number of messages among these writes
abbrev pub messages_in : List Write → ℕ
messages_in writes = length (filter is_message writes)

-- the number of messages about undefined globals with a strong reference
abbrev pub undefined_count : Findings → ℕ
undefined_count found = length (undefined_writes found found.references)

-- `writes` begins with all writes of `first`
abbrev pub BeginsWith : List Write → List Write → Type 0
BeginsWith writes first = (rest : List Write) × (writes ≡ first ++ rest)
