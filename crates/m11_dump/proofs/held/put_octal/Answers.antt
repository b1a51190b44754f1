use Rattle.std.proofs.Common.{[], ◌∷◌, codes}
use Rattle.m11_base.specs.Octal.{octal_text}
use Rattle.m11_dump.specs.Octets.{octets}
use Rattle.m11_dump.proofs.Items.{four_put}
use Rattle.m11_dump.proofs.held.put_octal.Goals as goal

pub returns : goal.returns
returns c =
    four_put c.args.text.now.items (codes "TEXT ") (octal_text c.args.address) (octets c.args.address c.args.bytes.now)
    (10 ∷ []) c.extend_from_slice.new.self.items c.extend_from_slice-2.new.self.items c.put_octets.new.text.items
    c.push.new.self.items c.in_ok-extend_from_slice.ensures.items
    (cc (c.in_ok-extend_from_slice-2.ensures.items, c.octal6.ensures.text))
    c.in_ok-put_octets.ensures c.in_ok-push.ensures.items
