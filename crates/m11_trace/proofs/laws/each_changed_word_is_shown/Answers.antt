use Rattle.m11_trace.proofs.Changed.{shown_are_changed}
use Rattle.m11_trace.proofs.laws.each_changed_word_is_shown.Goals as goal

pub returns : goal.returns
returns c = shown_are_changed
