use Rattle.std.proofs.Common.{◌≡◌, IfSome, map, slice_get, subst}
use Rattle.std.specs.Map.{lookup}
use Rattle.m11_base.specs.Rad50.{is_same_name}
use Rattle.m11_link_layout.specs.Tables.{LayoutTables}
use Rattle.m11_link_layout.proofs.tables.Tables.definition_index.Goals as goal

pub returns-clause-at : goal.returns-clause-at
returns-clause-at c =
    let P : LayoutTables → Type 0 = λ g. IfSome c.get_index_of.result (λ index. slice_get (map (λ entry. entry.1) g.definitions) index
    ≡ lookup (is_same_name c.args.name) g.definitions) in
    subst P c.self.view_is c.get_index_of.ensures.value
