-- Lists of names in order. (RT-11 Volume and File Formats Manual, "Object file format", GSD block.)
use Rattle.std.specs.Prelude.{◌≡◌, List}
use Rattle.std.specs.List.Sorted.{IsStrictlySortedBy}
use Rattle.m11_base.specs.Rad50.{Name}
use Rattle.m11_asm_directory.specs.Names.{has_name, name_order}

-- two lists have the same names, in whatever order and however often
abbrev pub HaveTheSame : List Name → List Name → Type 0
HaveTheSame one other = (name : Name) → has_name name one ≡ has_name name other

-- each name is before the next one
abbrev pub AreOrdered : List Name → Type 0
AreOrdered names = IsStrictlySortedBy name_order names

-- a list has the names of another one, each once and in order
pub record AreInOrder (list names : List Name) : Type 0 where
  pub ordered : AreOrdered list
  pub same : HaveTheSame list names
