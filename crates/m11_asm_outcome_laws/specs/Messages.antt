-- The number of messages among writes. (MACRO-11 Language Reference Manual, "Diagnostic error message summary".)
use Rattle.std.specs.Prelude.{ℕ, Bool, List, count_by}
use Rattle.m11_base_writes.specs.declared.outputs.Output.TheVariants.{Messages}
use Rattle.m11_base_writes.specs.Outputs.{Write, is_output}

abbrev pub is_message : Write → Bool
is_message write = is_output write.output Messages

abbrev pub messages_in : List Write → ℕ
messages_in writes = count_by is_message writes
