-- Whether a name of a section or of a global is in a list of names. (This project's own.)
use Rattle.std.specs.Prelude.{Bool, List}
use Rattle.std.specs.List.{list_any}
use Rattle.m11_base.specs.Rad50.{Name, is_same_name}

abbrev pub is_among : List Name → Name → Bool
is_among names name = list_any (is_same_name name) names
