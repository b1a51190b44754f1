-- Names of sections that a source needn't name: the absolute one and the blank one. (MACRO-11 Language Reference Manual, ".ASECT
-- and .CSECT directives".)
use Rattle.std.specs.Prelude.{codes, unwrap_or}
use Rattle.m11_base.specs.Devices.{Bytes}
use Rattle.m11_base.specs.Rad50.{Name, name_of}

-- the name with these six characters; the name of six blanks if a character has no code
abbrev pub name_in_words : Bytes → Name
name_in_words text = unwrap_or (name_of text) (0, 0)

-- the name of the absolute section, which each module has whether its source enters it or not
abbrev pub absolute_name : Name
absolute_name = name_in_words (codes ". ABS.")

-- six blanks: the name of the section in which assembly begins, and of a linked module if its object file gives it no name
abbrev pub blank_name : Name
blank_name = (0, 0)
