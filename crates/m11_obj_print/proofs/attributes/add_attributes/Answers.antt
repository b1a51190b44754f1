use Rattle.std.proofs.Common.{◌∙◌, arith, sym}
use Rattle.m11_obj.specs.Attributes.{bits_of}
use Rattle.m11_obj_print.proofs.NamesShown.{at_first, at_last, fits_first}
use Rattle.m11_obj_print.proofs.attributes.add_attributes.Goals as goal

pub attributes-init : goal.attributes-init
attributes-init c =
    at_first c.args.line.now.items c.all_attributes-rest.result.now (bits_of c.args.flags) c.all_attributes-rest.ensures

pub add_bytes-requires : goal.add_bytes-requires
add_bytes-requires c =
    omega (
      arith,
      fits_first c.args.line.now.items c.attributes.line.items c.attributes.mark.now c.attributes.rest.now _ (bits_of c.args.flags)
          c.in-len1-up.len_at_least (sym c.is_in.ensures ∙ c.if-is_in.true) c.attributes.invariant c.requires,
    )

pub add_name-requires : goal.add_name-requires
add_name-requires c =
    omega (
      arith,
      c.add_bytes.ensures.size,
      fits_first c.args.line.now.items c.attributes.line.items c.attributes.mark.now
          c.attributes.rest.now _ (bits_of c.args.flags) c.in-len1-up.len_at_least (sym c.is_in.ensures ∙ c.if-is_in.true)
          c.attributes.invariant c.requires,
    )

pub returns-clause-room : goal.returns-clause-room
returns-clause-room c =
    at_last c.args.line.now.items c.attributes.line.items c.attributes.mark.now c.attributes.rest.now (bits_of c.args.flags)
    c.in_default.len_below c.attributes.invariant
