use Rattle.std.proofs.Common.{◌≡◌, drop, map}
use Rattle.m11_link_modules.specs.Parts.{Entry}
use Rattle.m11_link_layout.specs.Tables.{collected_after_all}
use Rattle.m11_link_layout.proofs.tables.Tables.add_entries.Given as goal

abbrev pub invariant-entries : goal.invariant-entries
invariant-entries l =
    collected_after_all l.bottom l.self (map (λ entry. Entry entry) (drop l.entry-index l.entries))
    ≡ collected_after_all l.bottom l.initial.self (map (λ entry. Entry entry) l.entries)
