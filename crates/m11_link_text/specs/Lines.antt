-- The lines of a link's map and messages. (This project's own: the columns, the words, and that lines end without blanks.)
use Rattle.std.specs.Prelude.{ℕ, [], ◌∷◌, ◌++◌, codes}
use Rattle.m11_base.specs.Devices.{Bytes}
use Rattle.m11_base.specs.Octal.{octal_text}
use Rattle.m11_base.specs.Rad50.{Name, name_text}
use Rattle.m11_obj_print.specs.Attributes.{attributes_text}
use Rattle.m11_obj_print.specs.Lines.{line_of}

-- ---- messages

-- the message about a global that is referred to and not defined
abbrev pub undefined_line : Name → Bytes
undefined_line name = line_of (codes "UNDEFINED GLOBAL " ++ name_text name)

-- the message about a module that defines a global again
abbrev pub multiple_line : Name → Name → Bytes
multiple_line name module_name =
    line_of ((codes "MULTIPLE DEFINITION " ++ name_text name) ++ (codes " IN MODULE " ++ name_text module_name))

-- the message about a module whose entry for a section has attributes other than those of the section's first entry
abbrev pub different_line : Name → Name → Bytes
different_line section module_name =
    line_of ((codes "DIFFERENT ATTRIBUTES " ++ name_text section) ++ (codes " IN MODULE " ++ name_text module_name))

-- ---- the map

abbrev pub columns : Name → ℕ → ℕ → Bytes
columns name first second =
    ((((name_text name ++ 32 ∷ []) ++ octal_text first) ++ 32 ∷ []) ++ octal_text second) ++ 32 ∷ []

-- the line of a section: its name, base, size in bytes and attributes
abbrev pub section_line : Name → ℕ → ℕ → ℕ → Bytes
section_line name base size attributes = line_of (columns name base size ++ attributes_text attributes)

-- the line of a defined global: its name, its value, and the first module that defines it
abbrev pub global_line : Name → ℕ → Name → Bytes
global_line name value module_name =
    line_of ((((name_text name ++ 32 ∷ []) ++ octal_text value) ++ 32 ∷ []) ++ name_text module_name)

-- the line of an undefined global: its name
abbrev pub name_line : Name → Bytes
name_line name = line_of (name_text name)

abbrev pub transfer_line : ℕ → Bytes
transfer_line address = line_of (codes "TRANSFER " ++ octal_text address)

-- the line of the limits: the first address of the relocatable sections, and the address after the last relocatable section
abbrev pub limit_line : ℕ → ℕ → Bytes
limit_line bottom top = line_of (((codes "LIMIT " ++ octal_text bottom) ++ 32 ∷ []) ++ octal_text top)
