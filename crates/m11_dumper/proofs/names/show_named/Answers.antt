use Rattle.std.proofs.Common.{map}
use Rattle.m11_base_disassembly.specs.ListedLines.{listing_of}
use Rattle.m11_cli_tasks.specs.Opened.{texts}
use Rattle.m11_dumper.proofs.Named.{shown_with}
use Rattle.m11_dumper.proofs.names.show_named.Goals as goal

pub returns-in-Ok-clause-shows : goal.returns-in-Ok-clause-shows
returns-in-Ok-clause-shows g c =
    shown_with g.F.Input.Feed.text g.F.Input.Feed.faults c.args.look c.args.bottom (texts c.args.names.now) (g.F.Opens.files c.args.files.now)
    (g.F.Opens.files c.read_names.new.files) (texts c.args.paths.now) c.in-Ok.known.symbols (map listing_of c.in-Ok.known.listings.items) _ _
    c.show_all.result c.in-Ok.ensures.names c.in-Ok.ensures.files c.show_all.ensures.shows
