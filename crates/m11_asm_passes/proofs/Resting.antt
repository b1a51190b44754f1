-- If no line is left, a further call would ask for a line and change nothing.
use Rattle.std.proofs.Common.{◌≡◌, Bool, true, false, List, [], ◌∷◌, Ok, refl, not, ◌&&◌}
use Rattle.m11_unfold_bodies.specs.Left.{RemainingItem, is_empty}
use Rattle.m11_asm_rules.specs.Meanings.{Map}
use Rattle.m11_unfold.specs.Unfolder.{needs_line}
use Rattle.m11_unfold_rules.specs.Stages.{Stage}
use Rattle.m11_unfold_rules.specs.Taking.{Live}
use Rattle.m11_unfold_rules.specs.Unfolding as unfolded
use Rattle.m11_asm_passes.specs.States.{PassState}
use Rattle.m11_asm_passes.specs.Turns.{LineFact, Turns}
use Rattle.m11_asm_passes.specs.declared.turns.Turn.TheVariants.{NeedLine}

rested : (left : List RemainingItem) (has_ended : Bool) → (not has_ended && is_empty left) ≡ true → (left ≡ []) × (has_ended ≡ false)
rested [] false is = (refl, refl)
rested [] true is = absurd cc
rested (next ∷ left) false is = absurd cc
rested (next ∷ left) true is = absurd cc

pub nothing_left : (stage : Stage) → needs_line stage ≡ true → stage.left ≡ []
nothing_left stage is = (rested stage.left stage.has_ended is).0

pub turns_nowhere : (map : Map) (pass_state : PassState) (live : Live) (said : LineFact) → needs_line pass_state.unfolder.stage ≡ true
    → Turns map pass_state pass_state live said (Ok NeedLine)
turns_nowhere map pass_state live said is =
    let rests = rested pass_state.unfolder.stage.left pass_state.unfolder.stage.has_ended is in
    ((unfolded.Leads.Stays, rests.0, rests.1), record { table = refl; counting = refl })
