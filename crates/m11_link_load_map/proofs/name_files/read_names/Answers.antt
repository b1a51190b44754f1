use Rattle.m11_link_load_map.proofs.NamesAdded.{none_from}
use Rattle.m11_link_load_map.proofs.name_files.read_names.Goals as goal

pub returns-in-empty-clause-names : goal.returns-in-empty-clause-names
returns-in-empty-clause-names g c =
    none_from g.F.Input.Feed.text g.F.Input.Feed.faults c.args.kept c.args.bottom (g.F.Opens.files c.args.files.now) c.args.paths.now
    c.no_names.result.symbols c.no_names.result.listings.items c.in-empty.len_below c.no_names.ensures.symbols c.no_names.ensures.listings
