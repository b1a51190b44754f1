use Rattle.std.proofs.Common.{◌≡◌, rules}
use Rattle.m11_obj.specs.Reading.{checked, content_of}
use Rattle.m11_obj.proofs.RecordsBack.{all_bytes, some_content}
use Rattle.m11_obj.proofs.reading.check_record.Goals as goal

pub returns-clause-says : goal.returns-clause-says
unfolding content_of
returns-clause-says c =
    let is : c.check_after.result ≡ checked (content_of c.args.bytes.now) = search rules in
    some_content c.args.bytes.now c.check_after.result (all_bytes c.args.bytes.now c.type_inv.bytes) c.requires is
