use Rattle.std.proofs.Common.{length}
use Rattle.m11_link_load_map.proofs.name_files.+add_files.Given as goal

abbrev pub decreases-add_files : goal.decreases-add_files
decreases-add_files g l = length l.paths.now
