-- The stage that the code's state represents. (This project's own.)
use Rattle.m11_unfold_rules.specs.Stages.{Stage}
use Rattle.m11_unfold.specs.declared.state.State.{State}

abbrev pub stage_of : State → Stage
stage_of state = record {
  left = state.left.left;
  conditions = state.conditions;
  opening = state.opening;
  macros = state.macros.entries;
  defined_bytes = state.defined_bytes;
  created = state.created;
  taken = state.taken;
  has_ended = state.has_ended;
}
