-- The effects of the directives of a shape at a stage.
use Rattle.std.proofs.Common.{◌≡◌, ◌∙◌, ℕ, Bool, false, List, [], length, refl, ap, arith}
use Rattle.std.specs.Prelude.{◌==◌, if◌then◌else◌}
use Rattle.std.proofs.lemmas.Bool.Decides.{nat_tests}
use Rattle.m11_base.specs.Devices.{Bytes}
use Rattle.m11_scan_expressions.specs.Expressions.{KnownSymbols}
use Rattle.m11_scan_expressions.specs.Remarks.{Remarks}
use Rattle.m11_unfold_rules.specs.declared.directives.Directive.TheVariants as word
use Rattle.m11_unfold_bodies.specs.Conditions.{closed, is_live_in, switched}
use Rattle.m11_unfold_bodies.specs.Left.{RemainingItem, after_mark, has_mark, marks}
use Rattle.m11_unfold_bodies.specs.declared.conditions.OpenCondition.{OpenCondition}
use Rattle.m11_unfold_bodies.specs.declared.conditions.Part.{Part}
use Rattle.m11_unfold_bodies.specs.declared.conditions.Part.TheVariants as parts
use Rattle.m11_unfold_bodies.specs.declared.mark.Mark.{Mark}
use Rattle.m11_unfold_rules.specs.Acting.{OwnDirective, Operation, acted_by, flagged, foreign, flag_O, opens, own}
use Rattle.m11_unfold_rules.specs.Stages.{Purpose, Stage}
use Rattle.m11_unfold_laws.specs.Levels.{Level, Situation, only_entered, stage_of, within_condition}
use Rattle.m11_unfold_laws.specs.Putting.{Opens}
use Rattle.m11_unfold_laws.specs.Putting as putting
use Rattle.m11_unfold_laws.specs.Shapes.{Begins, IsAstray, IsOther}
use Rattle.m11_unfold_laws.specs.Shapes as shapes

pub other_acts : (known : KnownSymbols) (text : Bytes) (stage : Stage) (operation : Operation) → IsOther operation
    → acted_by known text stage operation ≡ foreign stage
other_acts known text stage _ shapes.IsOther.Other = refl
other_acts known text stage _ (shapes.IsOther.ArgumentCount column) = refl
other_acts known text stage _ (shapes.IsOther.CharacterCount column) = refl

pub opens_acts : (known : KnownSymbols) (text : Bytes) (stage : Stage) (operation : Operation) (remarks : Remarks) (purpose : Purpose)
    → Opens known text operation remarks purpose → acted_by known text stage operation ≡ own remarks (opens purpose stage)
opens_acts known text stage _ _ _ (putting.Opens.Macro column) = refl
opens_acts known text stage _ _ _ (putting.Opens.Repeat column) = refl
opens_acts known text stage _ _ _ (putting.Opens.IndefiniteRepeat column) = refl
opens_acts known text stage _ _ _ (putting.Opens.CharacterRepeat column) = refl

-- ---- directives out of place

module _ (known : KnownSymbols) (text : Bytes) (level : Level) (situation : Situation) (left : List RemainingItem) where
  abbrev stage : Stage
  stage = stage_of level situation left

  pub astray_acts : (operation : Operation) (remarks : Remarks) → marks left ≡ level.around → IsAstray level text operation remarks
      → acted_by known text stage operation ≡ own remarks stage
  astray_acts _ _ around (shapes.IsAstray.EndMacro at) = refl
  astray_acts _ _ around (shapes.IsAstray.EndRepeat at) = refl
  astray_acts _ _ around (shapes.IsAstray.MacroExit at none) =
      ap (λ (m : List Mark). if has_mark m then own (flagged 0 text at) (record stage { left = after_mark left })
      else own (flagged flag_O text at) stage) (around ∙ none)
  astray_acts operation remarks around (shapes.IsAstray.Begin operation' part at begins none)
      = begin_astray operation' part at begins none where
        begin_astray : (operation : Operation) (part : Part) (at : ℕ) → Begins operation part at → level.entered ≡ []
            → acted_by known text stage operation ≡ own (flagged flag_O text at) stage
        begin_astray _ _ _ (shapes.Begins.IfFalse at) none =
            ap (λ (e : List OpenCondition). if length e == 0 then own (flagged flag_O text at) stage
            else own (flagged 0 text at) (record stage { conditions = switched parts.False (only_entered level.entered) })) none
        begin_astray _ _ _ (shapes.Begins.IfTrue at) none =
            ap (λ (e : List OpenCondition). if length e == 0 then own (flagged flag_O text at) stage
            else own (flagged 0 text at) (record stage { conditions = switched parts.True (only_entered level.entered) })) none
        begin_astray _ _ _ (shapes.Begins.IfTrueFalse at) none =
            ap (λ (e : List OpenCondition). if length e == 0 then own (flagged flag_O text at) stage
            else own (flagged 0 text at) (record stage { conditions = switched parts.Both (only_entered level.entered) })) none
  astray_acts _ _ around (shapes.IsAstray.EndCondition at none) =
      ap (λ (e : List OpenCondition). if length e == 0 then own (flagged flag_O text at) stage
      else own (flagged 0 text at) (record stage { conditions = closed (only_entered level.entered) })) none

-- ---- the directives of a condition

module _ (known : KnownSymbols) (text : Bytes) (level : Level) (holds is_live : Bool) (situation : Situation) (left : List RemainingItem) where
  abbrev inside : Stage
  inside = stage_of (within_condition holds is_live level) situation left

  some : (length (within_condition holds is_live level).entered == 0) ≡ false
  some = grind (arith, nat_tests)

  pub begins_acts : (operation : Operation) (part : Part) (at : ℕ) → Begins operation part at
      → acted_by known text inside operation
      ≡ own (flagged 0 text at) (stage_of (within_condition holds (is_live_in part holds) level) situation left)
  begins_acts _ _ _ (shapes.Begins.IfFalse at) =
      ap (λ (b : Bool). if b then own (flagged flag_O text at) inside
      else own (flagged 0 text at) (stage_of (within_condition holds (is_live_in parts.False holds) level) situation left)) some
  begins_acts _ _ _ (shapes.Begins.IfTrue at) =
      ap (λ (b : Bool). if b then own (flagged flag_O text at) inside
      else own (flagged 0 text at) (stage_of (within_condition holds (is_live_in parts.True holds) level) situation left)) some
  begins_acts _ _ _ (shapes.Begins.IfTrueFalse at) =
      ap (λ (b : Bool). if b then own (flagged flag_O text at) inside
      else own (flagged 0 text at) (stage_of (within_condition holds (is_live_in parts.Both holds) level) situation left)) some

  pub close_acts : (at : ℕ) → acted_by known text inside (OwnDirective word.Endc at)
      ≡ own (flagged 0 text at) (stage_of level situation left)
  close_acts at =
      ap (λ (b : Bool). if b then own (flagged flag_O text at) inside else own (flagged 0 text at)
      (stage_of level situation left)) some
