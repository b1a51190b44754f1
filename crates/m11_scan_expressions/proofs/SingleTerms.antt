-- The value of an expression that is a single term.
use Rattle.std.proofs.Common.{◌≡◌, [], ◌∷◌, refl}
use Rattle.m11_scan.specs.Expressions.{role_of}
use Rattle.m11_scan.specs.declared.expressions.Role.TheVariants.{Term}
use Rattle.m11_scan.specs.declared.radix.Radix.{Radix}
use Rattle.m11_scan.specs.declared.sort.Sort.{Sort}
use Rattle.m11_scan.specs.declared.sort.Sort.TheVariants.{Name, Number, DecimalNumber, LocalSymbol, Character, TwoCharacters, Packed}
use Rattle.m11_scan_expressions.specs.Terms.{Atom, Item, atom_value}
use Rattle.m11_scan_expressions.specs.Values.{value_of}

module _ (radix : Radix) (atom : Atom) where
  by_sort : (sort : Sort) → role_of sort ≡ Term → value_of radix (record { sort = sort; atom = atom } ∷ []) ≡ atom_value radix atom
  unfolding value_of
  by_sort Name term = refl
  by_sort Number term = refl
  by_sort DecimalNumber term = refl
  by_sort LocalSymbol term = refl
  by_sort Character term = refl
  by_sort TwoCharacters term = refl
  by_sort Packed term = refl
  by_sort _ term = absurd (cc)

pub alone : (radix : Radix) (item : Item) → role_of item.sort ≡ Term → value_of radix (item ∷ []) ≡ atom_value radix item.atom
alone radix item term = by_sort radix item.atom item.sort term
