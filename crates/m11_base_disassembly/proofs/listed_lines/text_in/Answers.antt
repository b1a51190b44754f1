use Rattle.std.proofs.Common.{◌-◌, length, drop, sym, arith}
use Rattle.std.proofs.lemmas.List.{drop_all, length-drop, take_all}
use Rattle.m11_base_disassembly.proofs.listed_lines.text_in.Goals as goal

pub returns-then-line-gt42 : goal.returns-then-line-gt42
returns-then-line-gt42 c =
    take_all (length c.args.line.now - 42) (drop 42 c.args.line.now) (omega (arith, length-drop 42 c.args.line.now))

pub returns-else-line-gt42 : goal.returns-else-line-gt42
returns-else-line-gt42 c = sym (drop_all 42 c.args.line.now (omega (arith, c.if-line-gt42.false)))
