use Rattle.std.proofs.Common.{◌≡◌, length, Ok, ap, arith, rules}
use Rattle.m11_obj.specs.Reading.{content_after, content_of}
use Rattle.m11_obj.specs.Records.{Text}
use Rattle.m11_obj.proofs.RecordFields.{text_fits}
use Rattle.m11_obj.proofs.Steps.{type_length}
use Rattle.m11_obj.proofs.contents.read_contents.Goals as goal

pub returns-in_ok-address-in-Text : goal.returns-in_ok-address-in-Text
unfolding content_of content_after
returns-in_ok-address-in-Text c =
    let text = c.in_ok-address-in-Text in
    let is : content_of c.args.block.now.items ≡ Ok (Text text.address text.bytes.now) = search rules in
    let le = text_fits c.args.block.now.items text.address text.bytes.now is in
    (is, omega (arith, le, ap length c.as_slice-content.ensures.value, c.as_slice-content.ensures.fits))

pub invariant_of-result : goal.invariant_of-result
invariant_of-result c =
    let after = type_length c.as_slice-content.result.now (c.in_ok-kind.kind, c.in_ok-kind.rest.now) c.in_ok-kind.ensures in
    omega (arith, after, c.as_slice-content.ensures.fits)
