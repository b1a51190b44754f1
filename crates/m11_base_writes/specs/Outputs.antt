-- The outputs of a program, and writes to them in one order. (This project's own. Writes.antt has the rules for writes to any
-- outputs.)
use Rattle.std.specs.Prelude.{◌≡◌, Bool, true, false, List, [], ◌∷◌, Option, refl}
use Rattle.m11_base.specs.Devices.{Bytes}
use Rattle.m11_base.specs.declared.sink.Sink.{Ghosts}
use Rattle.m11_base_writes.specs.States.{OutputState, optional_output, output_of}
use Rattle.m11_base_writes.specs.Writes as writes
use Rattle.m11_base_writes.specs.declared.outputs.Output.{Output}
use Rattle.m11_base_writes.specs.declared.outputs.Output.TheVariants.{Product, Report, Messages}

-- ---- outputs

abbrev pub Outputs : Type 0
Outputs = Output → OutputState

abbrev pub outputs : OutputState → OutputState → OutputState → Outputs
outputs product report messages Product = product
outputs product report messages Report = report
outputs product report messages Messages = messages

-- three sinks as outputs, of which the report may be missing; the first three arguments are the ghosts of the sinks' types
abbrev pub outputs_of : {S T U : Type 0} → Ghosts S → Ghosts T → Ghosts U → S → Option T → U → Outputs
outputs_of known_product known_report known_messages product report messages =
    outputs (output_of known_product product) (optional_output known_report report) (output_of known_messages messages)

-- whether two outputs are the same
abbrev pub is_output : Output → Output → Bool
is_output Product Product = true
is_output Report Report = true
is_output Messages Messages = true
is_output _ _ = false

pub same_output : (a b : Output) → is_output a b ≡ true → a ≡ b
same_output Product Product e = refl
same_output Product Report e = absurd cc
same_output Product Messages e = absurd cc
same_output Report Product e = absurd cc
same_output Report Report e = refl
same_output Report Messages e = absurd cc
same_output Messages Product e = absurd cc
same_output Messages Report e = absurd cc
same_output Messages Messages e = refl

pub output_itself : (a : Output) → is_output a a ≡ true
output_itself Product = refl
output_itself Report = refl
output_itself Messages = refl

-- the outputs of a program, with its faults; `stop` returns where writes ended early, if a fault says that they did
abbrev pub kinds_of : {E : Type 0} → (E → Option (writes.Stop Output)) → writes.Kinds Output E
kinds_of stop = record { is = is_output; same = same_output; itself = output_itself; stop = stop }

-- ---- writes

abbrev pub Write : Type 0
Write = writes.Write Output

abbrev pub to_product : Bytes → Write
to_product bytes = writes.to_output Product bytes

abbrev pub to_report : Bytes → Write
to_report bytes = writes.to_output Report bytes

abbrev pub to_messages : Bytes → Write
to_messages bytes = writes.to_output Messages bytes

-- ---- the flush

-- the outputs that may hold bytes back, in the order in which they are flushed at the end; not the messages, which a person watching
-- the run reads as they appear
abbrev pub files : List Output
files = Product ∷ Report ∷ []

abbrev pub flushes : List Write
flushes = writes.flushes files

-- the product and the report hold nothing back
abbrev pub AreFlushed : Outputs → Type 0
AreFlushed now = writes.AreFlushed now files
