-- The state of an output, and the effect of bytes put to it. (This project's own.)
use Rattle.std.specs.Prelude.{◌≡◌, ℕ, Option, Some, None, Result, Ok, Err}
use Rattle.std.specs.Io.KnownBytes.{Appends}
use Rattle.m11_base.specs.Devices.{Bytes, Rises}
use Rattle.m11_base.specs.Sink.{AppendsPrefix}
use Rattle.m11_base.specs.declared.sink.Sink.{Ghosts}

-- an output: all that it has accepted, if that is known, its count of failures, and how many of the last bytes it still holds back
pub record OutputState : Type 0 where
  pub text : Option Bytes
  pub faults : ℕ
  pub held : ℕ

-- a sink as an output
abbrev pub output_of : {S : Type 0} → Ghosts S → S → OutputState
output_of known sink = record { text = known.text sink; faults = known.faults sink; held = known.held sink }

-- a missing output: its text is unknown, it doesn't fail, and it holds nothing back
abbrev pub no_output : OutputState
no_output = record { text = None; faults = 0; held = 0 }

abbrev pub optional_output : {S : Type 0} → Ghosts S → Option S → OutputState
optional_output known None = no_output
optional_output known (Some sink) = output_of known sink

-- bytes put to one output: all of them were put; or the output failed after a prefix of them, counted the failure, and this fault
-- was returned
abbrev pub Puts : {A E : Type 0} → OutputState → OutputState → Bytes → E → Result A E → Type 0
Puts old new bytes fault (Ok done) = Appends old.text new.text bytes × (new.faults ≡ old.faults)
Puts old new bytes fault (Err stopped) =
    (stopped ≡ fault) × AppendsPrefix old.text new.text bytes × Rises old.faults new.faults
