-- What an assignment changes, from its name and its definition.
use Rattle.std.proofs.Common.{◌≡◌, ◌∙◌, Bool, Option, Some, None, refl, ap}
use Rattle.m11_base.specs.Rad50.{Name}
use Rattle.m11_scan_expressions.specs.Expressions.{symbols, value}
use Rattle.m11_scan_expressions.specs.Quantities.{Quantity}
use Rattle.m11_scan_expressions.specs.Tokens.{Expression}
use Rattle.m11_asm_rules.specs.Assigning.{assignment}
use Rattle.m11_asm_rules.specs.Assignments.{all_firm, assigned, standing_of}
use Rattle.m11_asm_rules.specs.Changes.{changed}
use Rattle.m11_asm_rules.specs.Meanings.{Map, known_at}
use Rattle.m11_asm_rules.specs.Tables.{Table, location}
use Rattle.m11_asm_rules.specs.declared.definitions.Definition.{Definition}
use Rattle.m11_asm_rules.specs.declared.meanings.Context.TheVariants.{LocalOnly}
use Rattle.m11_asm_lines.specs.Assigned.{with_assignment}

-- the definition of a name to which a value is assigned
abbrev pub valued : Quantity → Bool → Definition
valued one is_firm = record { standing = standing_of one; is_firm = is_firm; label = None }

pub assigned_by : (map : Map) (table : Table) (tokens : Expression) (name : Option Name) (is_global : Bool)
    → with_assignment name is_global (assigned map table tokens) table ≡ changed map (assignment name is_global tokens) table
assigned_by map table tokens (Some name) is_global = refl
assigned_by map table tokens None is_global = refl

-- if a definition is made from the value and the firmness of the expression, assigning it is the change of the assignment
pub assigned_so : (map : Map) (inside table : Table) (tokens : Expression) (name : Option Name) (is_global : Bool)
    (one : Quantity) (is_firm : Bool) (definition : Definition) → inside ≡ table → definition ≡ valued one is_firm
    → one ≡ value (known_at map LocalOnly inside (location inside)) tokens → is_firm ≡ all_firm inside (symbols tokens)
    → with_assignment name is_global definition table ≡ changed map (assignment name is_global tokens) table
assigned_so map inside table tokens name is_global one is_firm definition same gives is firm =
    ap (λ (d : Definition). with_assignment name is_global d table)
    (gives ∙ ap (λ (q : Quantity). valued q is_firm) is
    ∙ ap (valued (value (known_at map LocalOnly inside (location inside)) tokens)) firm
    ∙ ap (λ (t : Table). assigned map t tokens) same)
    ∙ assigned_by map table tokens name is_global
