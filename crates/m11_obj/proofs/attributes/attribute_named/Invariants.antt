use Rattle.std.proofs.Common.{◌≡◌, length}
use Rattle.std.specs.List.{find}
use Rattle.std.specs.Str.{bytes_eq}
use Rattle.m11_obj.specs.Attributes.{attributes}
use Rattle.m11_obj.proofs.attributes.attribute_named.Given as goal

abbrev pub invariant-rows : goal.invariant-rows
invariant-rows l = find (λ row. bytes_eq row.name l.name) l.rest ≡ find (λ row. bytes_eq row.name l.name) attributes

abbrev pub decreases-rows : goal.decreases-rows
decreases-rows l = length l.rest
