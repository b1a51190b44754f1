-- The bytes of an output after equal writes.
use Rattle.std.proofs.Common.{◌≡◌, ◌∙◌, ℕ, List, ◌++◌, Option, Some, None, sym, ap, subst}
use Rattle.std.specs.Io.KnownBytes.{Appends}
use Rattle.m11_asm.specs.Outcome.{Assembled, HasOutcome, Outcome}
use Rattle.m11_base_writes.specs.declared.outputs.Output.{Output}
use Rattle.m11_asm_outputs.specs.Outputs.{Gains, assembly}
use Rattle.m11_base_writes.specs.Outputs.{Outputs, Write}
use Rattle.m11_base.specs.Devices.{Bytes}
use Rattle.m11_scan_line_laws.specs.Readings.{Reading}
use Rattle.m11_base_writes.specs.Writes.{gained}

-- if the bytes of an output are known, those after a gain are the same bytes followed by the gained ones
grown : (before more : Bytes) (new : Option Bytes) → Appends (Some before) new more → new ≡ Some (before ++ more)
grown before more None appends = absurd appends
grown before more (Some after) appends = ap (λ (bytes : Bytes). Some bytes) appends

abbrev writes_in : Outcome → List Write → List Write
writes_in (Assembled writes flagged) others = writes
writes_in other others = others

holds : (output : Output) (before : Bytes) (old new : Outputs) (writes : List Write) → (old output).text ≡ Some before
    → Gains old new writes → (new output).text ≡ Some (before ++ gained assembly output writes)
holds output before old new writes known gains =
    let P : Option Bytes → Type 0 = λ text. Appends text (new output).text (gained assembly output writes) in
    grown before (gained assembly output writes) (new output).text (subst P known (gains.texts output))

pub left_alike : ((first second : Reading) (one other : Outcome) → HasOutcome first second one → HasOutcome first second other → one ≡ other)
    → (first second : Reading) (writes others : List Write) (flagged count : ℕ)
    → HasOutcome first second (Assembled writes flagged) → HasOutcome first second (Assembled others count)
    → (old new with_old with_new : Outputs) → Gains old new writes → Gains with_old with_new others
    → (output : Output) (before : Bytes) → (old output).text ≡ Some before → (with_old output).text ≡ Some before
    → (new output).text ≡ (with_new output).text
left_alike once first second writes others flagged count has has_other old new with_old with_new gains gains_other output before known known_other =
    let same : writes ≡ others =
    ap (λ (o : Outcome). writes_in o others) (once first second (Assembled writes flagged) (Assembled others count) has has_other) in
    holds output before old new writes known gains
    ∙ ap (λ (ws : List Write). Some (before ++ gained assembly output ws)) same
    ∙ sym (holds output before with_old with_new others known_other gains_other)
