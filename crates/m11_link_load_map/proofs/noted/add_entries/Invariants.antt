use Rattle.std.proofs.Common.{◌≡◌, ◌++◌, drop, map}
use Rattle.m11_link_modules.specs.Parts.{Entry}
use Rattle.m11_link_load_map.specs.Noted.{noted_of}
use Rattle.m11_link_load_map.proofs.noted.add_entries.Given as goal

abbrev pub invariant-entries : goal.invariant-entries
invariant-entries l =
    l.noted.items ++ noted_of (map (λ entry. Entry entry) (drop l.entry-index l.entries))
    ≡ l.initial.noted.items ++ noted_of (map (λ entry. Entry entry) l.entries)
