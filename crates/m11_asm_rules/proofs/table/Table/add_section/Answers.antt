use Rattle.std.proofs.Common.{◌≡◌, ◌∙◌, ◌+◌, ◌<◌, ℕ, None, List, [], ◌∷◌, ◌++◌, length, map, sym, ap, subst, arith}
use Rattle.std.proofs.lemmas.List.{length-map}
use Rattle.m11_base.specs.Rad50.{Name}
use Rattle.m11_asm_rules.specs.Entries.{section_in, with_new_section}
use Rattle.m11_asm_rules.specs.Sections.{Section, number_of, section}
use Rattle.m11_asm_rules.specs.Tables.{Table}
use Rattle.m11_asm_rules.proofs.SectionEntries.{one_section_more, section_added}
use Rattle.m11_asm_rules.proofs.table.Table.add_section.Goals as goal

pub returns-clause-adds : goal.returns-clause-adds
returns-clause-adds c =
    let entries : List (Name × ℕ) = c.self.inside.sections.entries in
    let before : Table = record {
      definitions = record { names = c.self.inside.names.entries; local_symbols = c.self.inside.local_symbols.entries };
      doubly_defined = record { names = c.self.inside.doubly_defined_names.keys; local_symbols = c.self.inside.doubly_defined_symbols.keys };
      globals = c.self.inside.globals.keys;
      sections = map section_in entries;
      counters = c.self.inside.counters.items;
      sizes = c.self.inside.sizes.items;
      modes = c.self.inside.modes;
    } in
    let after : List Section → List ℕ → List ℕ → Table = λ sections counters sizes.
    record before { sections = sections; counters = counters; sizes = sizes } in
    let new : Section = section c.args.name c.args.attributes in
    let absent : number_of c.args.name (map section_in entries) ≡ None =
    ap (λ (t : Table). number_of c.args.name t.sections) c.self.view_is ∙ c.requires.absent in
    ap (λ (l : List Section). after l c.push.new.self.items c.push-2.new.self.items)
    (ap (λ (l : List (Name × ℕ)). map section_in l) c.in_ok-insert.ensures.entries ∙ section_added c.args.name c.args.attributes entries absent)
    ∙ ap (λ (l : List ℕ). after (map section_in entries ++ new ∷ []) l c.push-2.new.self.items) c.push.ensures.items
    ∙ ap (λ (l : List ℕ). after (map section_in entries ++ new ∷ []) (c.self.inside.counters.items ++ 0 ∷ []) l) c.push-2.ensures.items
    ∙ ap (with_new_section new) c.self.view_is

pub invariant_of-self-2 : goal.invariant_of-self-2
invariant_of-self-2 c =
    let entries : List (Name × ℕ) = c.self.inside.sections.entries in
    let absent : number_of c.args.name (map section_in entries) ≡ None =
    ap (λ (t : Table). number_of c.args.name t.sections) c.self.view_is ∙ c.requires.absent in
    let more : length c.insert.new.self.entries ≡ length entries + 1 =
    ap (λ (l : List (Name × ℕ)). length l) c.in_ok-insert.ensures.entries
    ∙ one_section_more c.args.name c.args.attributes entries absent in
    let mapped : length (map section_in entries) ≡ length entries = length-map entries section_in in
    let room : length (map section_in entries) < 64 =
    subst (λ (t : Table). length t.sections < 64) (sym c.self.view_is) c.requires.room in (
      c.self.invariant.0,
      c.self.invariant.1,
      omega (arith, more, mapped, room),
      c.push.ensures.len ∙ ap (λ (n : ℕ). n + 1) c.self.invariant.3 ∙ sym more,
      c.push-2.ensures.len ∙ ap (λ (n : ℕ). n + 1) c.self.invariant.4 ∙ sym more,
    )
