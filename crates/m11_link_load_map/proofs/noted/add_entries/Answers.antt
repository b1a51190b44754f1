use Rattle.std.proofs.Common.{◌++◌, map, arith}
use Rattle.m11_link_modules.specs.Parts.{Entry}
use Rattle.m11_link_modules.proofs.Indexing.{found_at}
use Rattle.m11_link_load_map.specs.Noted.{noted_of}
use Rattle.m11_link_load_map.proofs.NotedParts.{entries_noted, entry_noted}
use Rattle.m11_link_load_map.proofs.noted.add_entries.Goals as goal

pub entries-preserved : goal.entries-preserved
entries-preserved c =
    entry_noted (c.args.noted.now.items ++ noted_of (map (λ entry. Entry entry) c.args.entries.now))
    c.entries.noted.items c.add_entry.new.noted.items c.args.entries.now c.entries.entry-index c.entry-item.result
    (found_at c.args.entries.now c.entries.entry-index c.entry-item.result c.entries-test.true c.entry-item.is)
    c.entries.invariant c.in_ok-add_entry.ensures

pub returns : goal.returns
returns c =
    entries_noted (c.args.noted.now.items ++ noted_of (map (λ entry. Entry entry) c.args.entries.now))
    c.entries.noted.items c.args.entries.now c.entries.entry-index (omega (arith, c.entries-test.false)) c.entries.invariant
