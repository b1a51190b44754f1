-- Maps that agree: they have the same entry for each name and each local symbol, in whatever order. (MACRO-11 Language Reference
-- Manual, "Symbols" and "Local symbols".)
use Rattle.std.specs.Prelude.{◌≡◌}
use Rattle.std.specs.List.{list_any}
use Rattle.m11_base.specs.Rad50.{Name, is_same_name}
use Rattle.m11_asm_rules.specs.Definitions.{has_key, last_definition}
use Rattle.m11_asm_rules.specs.Meanings.{Map}
use Rattle.m11_asm_rules.specs.declared.definitions.Key.{Key}

pub record MapsAgree (one other : Map) : Type 0 where
  -- each key has the same last definition, or none in both, and is doubly defined in both or in neither
  pub definitions : (key : Key) → last_definition key one.definitions ≡ last_definition key other.definitions
  pub doubly_defined : (key : Key) → has_key key one.doubly_defined ≡ has_key key other.doubly_defined
  -- each name is global in both or in neither
  pub globals : (name : Name) → list_any (λ global. is_same_name global name) one.globals
      ≡ list_any (λ global. is_same_name global name) other.globals
