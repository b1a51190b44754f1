use Rattle.std.proofs.Common.{◌≡◌, ◌++◌, length}
use Rattle.m11_dump_source.specs.Texts.{lines_text}
use Rattle.m11_dump_source.proofs.texts.put_lines.Given as goal

abbrev pub invariant-lines : goal.invariant-lines
invariant-lines l = l.text.items ++ lines_text l.symbols l.here l.rest ≡ l.initial.text.items ++ lines_text l.symbols 0 l.lines

abbrev pub decreases-lines : goal.decreases-lines
decreases-lines l = length l.rest
