use Rattle.std.proofs.Common.{◌≡◌, ◌++◌, length, map}
use Rattle.m11_link_load_map.specs.LinkGlobals.{symbol_of}
use Rattle.m11_link_load_map.proofs.link_globals.add_each.Given as goal

abbrev pub invariant-globals : goal.invariant-globals
invariant-globals l = l.symbols.items ++ map symbol_of l.rest ≡ l.initial.symbols.items ++ map symbol_of l.globals

abbrev pub decreases-globals : goal.decreases-globals
decreases-globals l = length l.rest
