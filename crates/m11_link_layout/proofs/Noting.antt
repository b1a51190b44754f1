-- Records whose parts are stored in the tables one after another.
use Rattle.std.proofs.Common.{◌≡◌, ℕ, ◌+◌, ◌≤◌, List, [], ◌∷◌, length, map, drop, slice_get, Some, sym, subst}
use Rattle.std.proofs.lemmas.List.{drop_all}
use Rattle.m11_obj.specs.declared.gsd.GsdEntry.{GsdEntry}
use Rattle.m11_obj.specs.declared.relocations.Relocation.{Relocation}
use Rattle.m11_link_modules.specs.Parts.{Part, Entry, Relocated}
use Rattle.m11_link_modules.specs.Positions.{global_of}
use Rattle.m11_link_modules.proofs.Indexing.{drop_at}
use Rattle.m11_link_layout.specs.Tables.{LayoutTables, collected_after, collected_after_all, with_entry, with_relocated}

module _ {X : Type 0} (bottom : ℕ) (make : X → Part) where
  pub walk_noted : (old now later : LayoutTables) (items rest following : List X) (item : X) → rest ≡ item ∷ following
      → collected_after_all bottom now (map make rest) ≡ collected_after_all bottom old (map make items)
      → later ≡ collected_after bottom now (make item)
      → collected_after_all bottom later (map make following) ≡ collected_after_all bottom old (map make items)
  walk_noted old now later items rest following item e i h =
      let P : List X → Type 0 = λ left. collected_after_all bottom now (map make left)
      ≡ collected_after_all bottom old (map make items) in
      let Q : LayoutTables → Type 0 = λ g. collected_after_all bottom g (map make following)
      ≡ collected_after_all bottom old (map make items) in
      subst Q (sym h) (subst P e i)

  pub walk_ended : (old now : LayoutTables) (items rest : List X) → rest ≡ []
      → collected_after_all bottom now (map make rest) ≡ collected_after_all bottom old (map make items)
      → now ≡ collected_after_all bottom old (map make items)
  walk_ended old now items rest e i =
      let P : List X → Type 0 = λ left. collected_after_all bottom now (map make left)
      ≡ collected_after_all bottom old (map make items) in
      subst P e i

  pub item_noted : (old now later : LayoutTables) (items : List X) (index : ℕ) (item : X)
      → slice_get items index ≡ Some item
      → collected_after_all bottom now (map make (drop index items)) ≡ collected_after_all bottom old (map make items)
      → later ≡ collected_after bottom now (make item)
      → collected_after_all bottom later (map make (drop (index + 1) items))
      ≡ collected_after_all bottom old (map make items)
  item_noted old now later items index item e i h =
      walk_noted old now later items (drop index items) (drop (index + 1) items) item (drop_at items index item e) i h

  pub items_noted : (old now : LayoutTables) (items : List X) (index : ℕ) → length items ≤ index
      → collected_after_all bottom now (map make (drop index items)) ≡ collected_after_all bottom old (map make items)
      → now ≡ collected_after_all bottom old (map make items)
  items_noted old now items index le i = walk_ended old now items (drop index items) (drop_all index items le) i

-- storing an entry by its kind is the step of the tables for this entry
pub entry_noted : (bottom : ℕ) (now later : LayoutTables) (entry : GsdEntry)
    → later ≡ with_entry bottom entry.kind entry now
    → later ≡ collected_after bottom now (Entry entry)
unfolding collected_after
entry_noted bottom now later entry e = e

pub relocation_noted : (bottom : ℕ) (now later : LayoutTables) (relocation : Relocation)
    → later ≡ with_relocated (global_of relocation.target) now
    → later ≡ collected_after bottom now (Relocated relocation)
unfolding collected_after
relocation_noted bottom now later relocation e = e
