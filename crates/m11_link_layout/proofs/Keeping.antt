-- What a part leaves alone.
use Rattle.std.proofs.Common.{◌≡◌, ℕ, Bool, true, false, if◌then◌else◌, List, Option, Some, None, refl}
use Rattle.m11_obj.specs.declared.gsd.GsdEntry.{GsdEntry}
use Rattle.m11_link_modules.specs.Rules.{defines}
use Rattle.m11_obj.specs.Gsd.{has_bits}
use Rattle.m11_link_layout.specs.Tables.{LayoutTables, with_definition, with_reference, with_relocated, with_symbol, with_weak}
use Rattle.m11_link_layout.specs.declared.definition.Definition.{Definition}

module _ {A : Type 0} (F : LayoutTables → A) (g : LayoutTables)
    (keeps : (definitions : List ((ℕ × ℕ) × Definition)) (references : List ((ℕ × ℕ) × Bool)) (weak : List (ℕ × ℕ))
    → F (record g { definitions = definitions; references = references; weak = weak }) ≡ F g) where
  by_symbol : (b c : Bool) (entry : GsdEntry)
      → F (if b then with_definition entry g else if c then with_weak entry.name g else with_reference entry.name
      true g) ≡ F g
  by_symbol true c entry = keeps _ _ _
  by_symbol false true entry = keeps _ _ _
  by_symbol false false entry = keeps _ _ _

  -- a symbol's entry changes only globals
  pub symbol_keeps : (entry : GsdEntry) → F (with_symbol entry g) ≡ F g
  symbol_keeps entry = by_symbol (defines entry) (has_bits 1 entry.flags) entry

  -- a relocation changes only globals
  pub relocated_keeps : (global : Option (ℕ × ℕ)) → F (with_relocated global g) ≡ F g
  relocated_keeps None = refl
  relocated_keeps (Some name) = keeps _ _ _
