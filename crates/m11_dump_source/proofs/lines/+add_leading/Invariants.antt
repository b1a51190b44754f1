use Rattle.m11_dump_source.proofs.lines.+add_leading.Given as goal

abbrev pub decreases-add_leading : goal.decreases-add_leading
decreases-add_leading l = l.most
