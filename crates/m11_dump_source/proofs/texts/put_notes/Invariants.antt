use Rattle.std.proofs.Common.{◌≡◌, ◌++◌, length}
use Rattle.std.specs.List.{flat_map}
use Rattle.m11_dump_source.specs.Labels.{left_by}
use Rattle.m11_dump_source.specs.Texts.{note}
use Rattle.m11_dump_source.proofs.texts.put_notes.Given as goal

abbrev pub invariant-symbols : goal.invariant-symbols
invariant-symbols l = l.text.items ++ flat_map note (left_by l.kept l.rest) ≡ l.initial.text.items ++ flat_map note (left_by l.kept l.symbols)

abbrev pub decreases-symbols : goal.decreases-symbols
decreases-symbols l = length l.rest
