use Rattle.std.proofs.Common.{drop}
use Rattle.m11_link_load_map.specs.LoadMap.{line_of_global}
use Rattle.m11_link_load_map.proofs.Texts.{Leads}
use Rattle.m11_link_load_map.proofs.text.put_globals.Given as goal

abbrev pub invariant-globals : goal.invariant-globals
invariant-globals l = Leads line_of_global l.initial.text.items l.globals l.text.items (drop l.global-index l.globals)
