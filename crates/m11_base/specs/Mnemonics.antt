-- The operations that names in a source mean. (MACRO-11 Language Reference Manual, "Permanent symbol table"; for the rule that six
-- characters of a name count, "Symbols".)
use Rattle.std.specs.Prelude.{ℕ, if◌then◌else◌, List, [], ◌∷◌, find, Option, Some, None}
use Rattle.std.specs.List.{list_all}
use Rattle.std.specs.Str.{bytes_eq}
use Rattle.m11_base.specs.NameCharacters.{is_name_character, six_of}
use Rattle.m11_base.specs.declared.instruction.Op.{Op}
use Rattle.m11_base.specs.declared.instruction_list.Row.{Row}
use Rattle.m11_base.specs.Instructions.{rows, other_names, operation_in}

-- the operation of the first row with this name, if there is one
abbrev pub named_in : List Row → List ℕ → Option Op
named_in list name = operation_in (find (λ row. bytes_eq row.name name) list)

-- the first operation if there is one, otherwise the other, if there is one
abbrev pub or_else : Option Op → Option Op → Option Op
or_else (Some operation) other = Some operation
or_else None other = other

-- the operation that a name means, by its first six characters in upper case: the first list's, or else the second list's; None if neither
-- list has the name, the text is empty, or a byte of it can't be in a name
abbrev pub operation_named : List ℕ → Option Op
operation_named [] = None
operation_named (first ∷ rest) =
    if list_all is_name_character (first ∷ rest)
    then or_else (named_in rows (six_of (first ∷ rest))) (named_in other_names (six_of (first ∷ rest))) else None
