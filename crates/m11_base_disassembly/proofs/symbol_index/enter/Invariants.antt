use Rattle.m11_base_disassembly.proofs.Entered.{IsEntered}
use Rattle.m11_base_disassembly.proofs.symbol_index.enter.Given as goal

abbrev pub invariant-addresses : goal.invariant-addresses
invariant-addresses l = IsEntered l.list l.symbol l.fn.places l.address l.places
