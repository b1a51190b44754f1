use Rattle.std.proofs.Common.{length}
use Rattle.m11_dumper.proofs.showing.+show_all.Given as goal

abbrev pub decreases-show_all : goal.decreases-show_all
decreases-show_all g l = length l.paths.now
