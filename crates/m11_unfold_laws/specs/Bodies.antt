-- Bodies during an unfolding. (MACRO-11 Language Reference Manual, "Macro definition" and "Repeat block directive".)
use Rattle.std.specs.Prelude.{ℕ, ◌+◌, false, [], ◌++◌, length, Some, None}
use Rattle.m11_unfold_bodies.specs.Bodies.{Cut, PartialBody, cut_at}
use Rattle.m11_unfold_rules.specs.Stages.{Purpose, Stage}
use Rattle.m11_unfold_rules.specs.Taking.{nesting}
use Rattle.m11_unfold_rules.specs.Unfolding.{Leads}

-- a stage with an open body, of which some lines are read
abbrev pub with_body : Purpose → PartialBody → Stage → Stage
with_body purpose taken stage = record stage {
  opening = Some (record { purpose = purpose; taken = taken });
  has_ended = false;
}

-- the rest of the body, by nesting alone: its lines before the closing line, the end of an expansion or the end of what is left, whichever
-- comes first
abbrev pub rest_of_body : PartialBody → Stage → Cut
rest_of_body taken stage = cut_at nesting taken.depth stage.left

-- the stage after the lines of a body and the line that closes it
abbrev pub past_body : Cut → Stage → Stage
past_body cut stage = record stage {
  left = cut.after;
  opening = None;
  taken = stage.taken + (length cut.body + 1);
  has_ended = false;
}

-- the stage after the lines of a body that isn't closed, with the body itself discarded
abbrev pub past_open_body : Cut → Stage → Stage
past_open_body cut stage = record stage {
  left = cut.after;
  opening = None;
  taken = stage.taken + length cut.body;
  has_ended
      = false;
}

-- a body that isn't closed stays open after its lines
pub record StaysOpen (purpose : Purpose) (taken : PartialBody) (cut : Cut) (before : Stage) : Type 0 where
  pub inner : ℕ
  pub leads : Leads (with_body purpose taken before) []
      (with_body purpose (record { body = taken.body ++ cut.body; depth = inner }) (past_open_body cut before))
