use Rattle.std.proofs.Common.{map, subst, ap₂}
use Rattle.m11_base_disassembly.specs.ListedLines.{listing_of}
use Rattle.m11_cli_reports.specs.Streams.{store, streams}
use Rattle.m11_trace.specs.Known.{Known}
use Rattle.m11_tracer.specs.Driver.{CarriesAsked}
use Rattle.m11_tracer.proofs.Carried.{goes_on}
use Rattle.m11_tracer.proofs.driver.carry_out.Goals as goal

pub returns-in-Ok : goal.returns-in-Ok
returns-in-Ok g c =
    let P : Known → Type 0 = λ known. CarriesAsked c.args.task.now known c.carry_asked.result
    (store (g.F.Opens.files c.read_names.new.files) (g.F.Opens.refusals c.read_names.new.files))
    (store (g.F.Opens.files c.carry_asked.new.files) (g.F.Opens.refusals c.carry_asked.new.files))
    (streams g.I.Feed g.O.Sink g.E.Sink c.args.input.now c.args.out.now c.args.err.now)
    (streams g.I.Feed g.O.Sink g.E.Sink c.carry_asked.new.input c.carry_asked.new.out c.carry_asked.new.err) in
    goes_on g.F.Input.Feed.text g.F.Input.Feed.faults c.args.task.now (record { symbols = c.in-Ok.names.symbols; listings = map listing_of c.in-Ok.names.listings.items }) c.carry_asked.result _ _ _ _ _
    (rw c.as_slice.ensures.value at c.in-Ok.ensures.names)
    (ap₂ store c.in-Ok.ensures.files c.in-Ok.ensures.counts)
    (subst P c.known_in.ensures c.carry_asked.ensures)
