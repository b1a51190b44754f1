-- The value of a key, if it is firm.
use Rattle.std.proofs.Common.{◌≡◌, ◌∙◌, Bool, Option, Some, None, refl, sym, ap}
use Rattle.m11_unfold_rules.specs.Definedness.{flag_U}
use Rattle.m11_scan_expressions.specs.Quantities.{Quantity, absolute}
use Rattle.m11_asm_rules.specs.declared.definitions.Key.{Key}
use Rattle.m11_asm_rules.specs.Definitions.{Definition, Named, Numbered, firm_standing, has_key, last_definition}
use Rattle.m11_asm_rules.specs.Meanings.{defined_or, empty_map, flag_D, meaning_of, quantity_of}
use Rattle.m11_scan.specs.ErrorFlags.{flag_if}
use Rattle.m11_asm_rules.specs.Tables.{Table, firm_table}
use Rattle.m11_asm_rules.proofs.NamesByMaps.{firm_option, last_firm}

-- the empty map defines no key, so a key that the lines don't define counts as 0, flagged U
nothing_else : (key : Key) → defined_or key empty_map.doubly_defined (absolute 0 flag_U) (last_definition key empty_map.definitions) ≡ absolute 0 flag_U
nothing_else (Named name) = refl
nothing_else (Numbered block number) = refl

-- under the empty map, the last definition of a key decides its value, if it is firm; otherwise the value is 0, flagged U
meant_by : (table : Table) (key : Key) (found : Option Definition) → found ≡ last_definition key table.definitions
    → defined_or key table.doubly_defined (absolute 0 flag_U) (firm_option found)
    ≡ meaning_of empty_map (absolute 0 flag_U) (firm_table table) key
meant_by table key found f =
    ap (defined_or key table.doubly_defined (absolute 0 flag_U)) (ap firm_option f ∙ sym (last_firm key table.definitions))
    ∙ ap (λ (q : Quantity). defined_or key table.doubly_defined q (last_definition key (firm_table table).definitions)) (sym (nothing_else key))

-- if a key has a definition, its value under the empty map is that of the definition if it is firm, and otherwise 0, flagged U; a doubly
-- defined key is flagged D too
pub firm_known : (table : Table) (key : Key) (is_doubly_defined : Bool) (definition : Definition)
    → Some definition ≡ last_definition key table.definitions → is_doubly_defined ≡ has_key key table.doubly_defined
    → quantity_of (flag_if is_doubly_defined flag_D) (firm_standing definition.is_firm definition.standing)
    ≡ meaning_of empty_map (absolute 0 flag_U) (firm_table table) key
firm_known table key is_doubly_defined definition f d =
    ap (λ (b : Bool). quantity_of (flag_if b flag_D) (firm_standing definition.is_firm definition.standing)) d
    ∙ meant_by table key (Some definition) f

-- if a key has no definition, its value under the empty map is 0, flagged U
pub firm_unknown : (table : Table) (key : Key) → None ≡ last_definition key table.definitions
    → absolute 0 flag_U ≡ meaning_of empty_map (absolute 0 flag_U) (firm_table table) key
firm_unknown table key f = meant_by table key None f
