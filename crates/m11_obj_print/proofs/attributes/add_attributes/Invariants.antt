use Rattle.std.proofs.Common.{◌≡◌, ◌++◌, length}
use Rattle.m11_obj.specs.Attributes.{bits_of, names_among}
use Rattle.m11_obj_print.specs.Attributes.{attributes_text}
use Rattle.m11_obj_print.proofs.NamesShown.{marked}
use Rattle.m11_obj_print.proofs.attributes.add_attributes.Given as goal

abbrev pub invariant-attributes : goal.invariant-attributes
invariant-attributes l =
    l.line.items ++ marked l.mark (names_among l.rest (bits_of l.flags)) ≡ l.initial.line.items ++ attributes_text (bits_of l.flags)

abbrev pub decreases-attributes : goal.decreases-attributes
decreases-attributes l = length l.rest
