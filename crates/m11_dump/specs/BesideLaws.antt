-- The order of lines and relocations in a text. (This project's own.)
use Rattle.std.specs.Prelude.{◌≡◌, ℕ, zero, suc, ◌+◌, ◌<◌, List, [], ◌++◌, length}
use Rattle.std.specs.List.{flat_map}
use Rattle.m11_base.specs.Devices.{Bytes}
use Rattle.m11_base_disassembly.specs.declared.references.References.{References}
use Rattle.m11_obj.specs.declared.relocations.Relocation.{Relocation}
use Rattle.m11_dump.specs.Beside.{lines_beside, other_place, place_at}
use Rattle.m11_dump.specs.Instructions.{lines_from}
use Rattle.m11_dump.specs.Relocations.{relocation_line}

-- the lines of `others` for `count` successive indexes, beginning with this one, in order
abbrev pub others_from : (ℕ → Bytes) → ℕ → ℕ → Bytes
others_from others index zero = []
others_from others index (suc count) = others index ++ others_from others (index + 1) count

-- the lines with others among them divide into these pieces of two parts: the first parts together are the lines without the others,
-- and the second parts together are all the others, both in order
abbrev pub AreBeside : (ℕ → References) → (ℕ → Bytes) → ℕ → ℕ → ℕ → Bytes → Bytes → List (Bytes × Bytes) → Type 0
AreBeside references others address index shown bytes beyond pieces =
    (lines_beside references others address index shown bytes beyond ≡ flat_map (λ piece. piece.0 ++ piece.1) pieces)
    × (lines_from [] references address index shown bytes beyond ≡ flat_map (λ piece. piece.0) pieces)
    × (others_from others index (length bytes) ≡ flat_map (λ piece. piece.1) pieces)

-- the line of a relocation of a text of `count` bytes is shown at the byte with this index, at no other byte, and not after the text
abbrev pub IsShownBeside : ℕ → ℕ → Relocation → ℕ → Type 0
IsShownBeside address count relocation index = (index < count)
    × (place_at address index relocation ≡ relocation_line address relocation)
    × ((other : ℕ) → (other ≡ index → ⊥) → place_at address other relocation ≡ [])
    × (other_place address count relocation ≡ [])

-- the line of a relocation of a text of `count` bytes is shown after the text, and at none of its bytes
abbrev pub IsShownAfter : ℕ → ℕ → Relocation → Type 0
IsShownAfter address count relocation = (other_place address count relocation ≡ relocation_line address relocation)
    × ((index : ℕ) → index < count → place_at address index relocation ≡ [])
