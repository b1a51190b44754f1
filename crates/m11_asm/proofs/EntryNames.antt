-- The names of the entries made for some names are these names.
use Rattle.std.proofs.Common.{◌≡◌, List, [], ◌∷◌, map, refl, sym, ap, subst}
use Rattle.m11_base.specs.Rad50.{Name}
use Rattle.m11_asm_directory.specs.FirstPass.{DirectoryFacts}
use Rattle.m11_asm_directory.specs.Laws.{AreInOrder}
use Rattle.m11_asm_directory.specs.Names.{ordered}
use Rattle.m11_asm.specs.Symbols.{entry_names, symbol_entries, symbol_entry}

names_of : (facts : DirectoryFacts) (names : List Name) → entry_names (map (symbol_entry facts) names) ≡ names
names_of facts [] = refl
names_of facts (name ∷ names) = ap (λ (others : List Name). name ∷ others) (names_of facts names)

module _ (in_order : (names : List Name) → AreInOrder (ordered names) names) where
  pub names_in_order : (facts : DirectoryFacts) (names : List Name) → AreInOrder (entry_names (symbol_entries facts names)) names
  unfolding symbol_entries
  names_in_order facts names =
      let P : List Name → Type 0 = λ list. AreInOrder list names in
      subst P (sym (names_of facts (ordered names))) (in_order names)
