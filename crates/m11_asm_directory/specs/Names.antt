-- Names in the order in which an object lists them. (RT-11 Volume and File Formats Manual, "Object file format", GSD block. This project's
-- own: names are sorted by their two RADIX-50 words, and each occurs once.)
use Rattle.std.specs.Prelude.{Bool, List, [], ◌∷◌}
use Rattle.std.specs.BTreeSet.{insert_key}
use Rattle.std.specs.List.{list_any}
use Rattle.std.specs.Ordering.{nat_cmp, ordering_then}
use Rattle.std.specs.declared.cmp.Ordering.{Ordering}
use Rattle.m11_base.specs.Rad50.{Name, is_same_name}

-- the order of two names: by their first words, and if those are equal by the second
abbrev pub name_order : Name → Name → Ordering
name_order one other = ordering_then (nat_cmp one.0 other.0) (nat_cmp one.1 other.1)

-- the names of a list in order, each once
abbrev pub ordered : List Name → List Name
ordered [] = []
ordered (name ∷ names) = insert_key name_order (ordered names) name

abbrev pub has_name : Name → List Name → Bool
has_name name names = list_any (λ other. is_same_name other name) names
