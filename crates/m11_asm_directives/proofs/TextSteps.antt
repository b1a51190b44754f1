-- The parts of a text, and its characters, are emitted one after the other.
use Rattle.std.proofs.Common.{◌≡◌, ℕ, List, [], ◌∷◌, map, ap, ◌∙◌}
use Rattle.m11_asm_operands.proofs.Joining.{followed_joins}
use Rattle.m11_asm_directives.proofs.Stepping.{step_on}
use Rattle.m11_asm_rules.specs.Contents.{Emission, fixed_byte, followed_by, further, emission}
use Rattle.m11_asm_rules.specs.Meanings.{Map}
use Rattle.m11_asm_rules.specs.Strings.{part_bytes, part_size, parts_bytes}
use Rattle.m11_asm_rules.specs.Tables.{Table}
use Rattle.m11_asm_rules.specs.Actions.{TextPart}

pub part_on : (known : Map) (table : Table) (done new : Emission) (location next : ℕ) (part : TextPart)
    → new ≡ followed_by done (part_bytes known table location part)
    → next ≡ further location (part_size part) → (parts : List TextPart)
    → followed_by new (parts_bytes known table next parts) ≡ followed_by done (parts_bytes known table location (part ∷ parts))
part_on known table done new location next part adds goes parts =
    step_on done new (part_bytes known table location part) (parts_bytes known table next parts)
    (parts_bytes known table (further location (part_size part)) parts) adds (ap (λ (n : ℕ). parts_bytes known table n parts) goes)

pub character_on : (done new : Emission) (character number : ℕ) (text : List ℕ) → number ≡ character
    → new ≡ followed_by done (emission (fixed_byte number ∷ []) 0)
    → followed_by new (emission (map fixed_byte text) 0) ≡ followed_by done (emission (map fixed_byte (character ∷ text)) 0)
character_on done new character number text same adds =
    ap (λ (p : Emission). followed_by p (emission (map fixed_byte text) 0))
    (adds ∙ ap (λ (n : ℕ). followed_by done (emission (fixed_byte n ∷ []) 0)) same)
    ∙ followed_joins done (emission (fixed_byte character ∷ []) 0) (emission (map fixed_byte text) 0)
