use Rattle.std.proofs.Common.{◌<◌, ◌≤◌, ◌∙◌, sym, arith}
use Rattle.std.specs.Prelude.{option_copied}
use Rattle.m11_base_disassembly.specs.SymbolIndex.{end_of}
use Rattle.m11_base_disassembly.proofs.Entered.{end_few, entered_kept, entered_over, entered_taken}
use Rattle.m11_base_disassembly.proofs.symbol_index.enter.Goals as goal
use Rattle.m11_base_disassembly.proofs.symbol_index.enter.Goals.{then-takes, else-takes}

pub returns-then-is_over : goal.returns-then-is_over
returns-then-is_over c =
    let below : c.addresses.address < end_of c.args.symbol.now.scope = rw (← c.end_of-address-end.ensures) c.addresses-test.true in
    let few : c.addresses.address < 65536 = omega (arith, below, end_few c.args.symbol.now.scope) in
    entered_over c.args.list.now c.args.symbol.now c.args.places.now c.addresses.address c.addresses.places few c.addresses.invariant
    (option_copied c.found-later.result) c.found-later.ensures (sym c.is_over.ensures ∙ c.if-is_over.true)

pub addresses-preserved : goal.addresses-preserved
addresses-preserved c =
    let below : c.addresses.address < end_of c.args.symbol.now.scope = rw (← c.end_of-address-end.ensures) c.addresses-test.true in
    let above : c.args.symbol.now.value ≤ c.addresses.address = rw (← c.from-address.ensures) c.addresses.auto.address in
    let few : c.addresses.address < 65536 = omega (arith, below, end_few c.args.symbol.now.scope) in
    elim c.if-takes.branch [
      | then-takes w ↦ rw w.places-is (entered_taken c.args.list.now c.args.symbol.now c.args.places.now c.addresses.address
          c.addresses.places few c.addresses.invariant c.args.place (option_copied c.found-later.result) c.requires.there c.found-later.ensures
          (sym c.takes.ensures ∙ w.if-takes.true) above below)
      | else-takes w ↦ rw w.places-is (entered_kept c.args.list.now c.args.symbol.now c.args.places.now c.addresses.address
          c.addresses.places few c.addresses.invariant (option_copied c.found-later.result) c.found-later.ensures
          (sym c.takes.ensures ∙ w.if-takes.false))
    ]
