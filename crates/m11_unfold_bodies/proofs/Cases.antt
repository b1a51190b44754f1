-- The cases of rules, each by itself: a proof about a rule goes through them one by one.
use Rattle.std.specs.Prelude.{ℕ, ◌&&◌, Bool, if◌then◌else◌, List, [], ◌∷◌}
use Rattle.m11_base.specs.Devices.{Bytes}
use Rattle.m11_unfold_bodies.specs.Conditions.{is_live_in}
use Rattle.m11_unfold_bodies.specs.Substitution.{Piece, Run, Other, is_quote, text_of}
use Rattle.m11_unfold_bodies.specs.declared.conditions.OpenCondition.{OpenCondition}
use Rattle.m11_unfold_bodies.specs.declared.conditions.Part.{Part}

abbrev pub in_run : ℕ → List Piece → List Piece
in_run byte [] = Run (byte ∷ []) ∷ []
in_run byte (Run run ∷ pieces) = Run (byte ∷ run) ∷ pieces
in_run byte (Other other ∷ pieces) = Run (byte ∷ []) ∷ Other other ∷ pieces

abbrev pub kept : Bool → Piece → Bytes
kept is_beside piece = if is_quote piece && is_beside then [] else text_of piece

abbrev pub with_part : Part → List OpenCondition → List OpenCondition
with_part part [] = []
with_part part (condition ∷ outer) =
    record { holds = condition.holds; is_live = is_live_in part condition.holds } ∷ outer

abbrev pub without_first : List OpenCondition → List OpenCondition
without_first [] = []
without_first (condition ∷ outer) = outer
