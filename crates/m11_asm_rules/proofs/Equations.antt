-- The map of a source solves its equation, and every map that solves it has its labels and firm values.
use Rattle.std.proofs.Common.{◌≡◌, ◌∙◌, Bool, true, false, List, Option, Some, None, refl, sym, ap}
use Rattle.std.specs.Prelude.{if◌then◌else◌}
use Rattle.m11_unfold_rules.specs.Unfolding.{UnfoldedLine}
use Rattle.m11_asm_rules.proofs.FirmLines.{tables_alike}
use Rattle.m11_asm_rules.proofs.NamesByMaps.{firm_option, last_firm}
use Rattle.m11_asm_rules.specs.Definitions.{Definition, Definitions, Key, Standing, firm_parts, firm_standing, last_definition}
use Rattle.m11_asm_rules.specs.Equation.{AreAlike, Solves, is_label_or_firm, label_or_value, label_or_value_of}
use Rattle.m11_asm_rules.specs.Meanings.{Map, empty_map}
use Rattle.m11_asm_rules.specs.Placements.{program_map, table_after}
use Rattle.m11_asm_rules.specs.Tables.{Table}

-- a firm part is its own firm part
firm_twice : (is_firm : Bool) (standing : Standing)
    → firm_standing is_firm (firm_standing is_firm standing) ≡ firm_standing is_firm standing
firm_twice true standing = refl
firm_twice false standing = refl

-- so labels and firm values depend on firm parts alone
kept : (found : Option Definition) → label_or_value (firm_option found) ≡ label_or_value found
kept (Some definition) =
    ap (λ (s : Standing). if is_label_or_firm definition then Some (record {
      standing = s;
      is_firm = definition.is_firm;
      label = definition.label;
    }) else None) (firm_twice definition.is_firm definition.standing)
kept None = refl

by_firm : (key : Key) (definitions : Definitions)
    → label_or_value_of key (firm_parts definitions) ≡ label_or_value_of key definitions
by_firm key definitions = ap label_or_value (last_firm key definitions) ∙ kept (last_definition key definitions)

meanings_alike : (one other : Map) (lines : List UnfoldedLine) (key : Key)
    → label_or_value_of key (table_after one lines).definitions ≡ label_or_value_of key (table_after other lines).definitions
meanings_alike one other lines key =
    sym (by_firm key (table_after one lines).definitions)
    ∙ ap (λ (t : Table). label_or_value_of key t.definitions) (tables_alike one other lines)
    ∙ by_firm key (table_after other lines).definitions

pub solves : (lines : List UnfoldedLine) → Solves (program_map lines) lines
solves lines key = meanings_alike empty_map (program_map lines) lines key

pub only_solution : (map : Map) (lines : List UnfoldedLine) → Solves map lines → AreAlike map (program_map lines)
only_solution map lines solution key = solution key ∙ meanings_alike map empty_map lines key
