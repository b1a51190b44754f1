use Rattle.std.proofs.Common.{List, ℕ, ◌≡◌, ◌∙◌, sym, subst}
use Rattle.std.specs.List.{flat_map}
use Rattle.m11_obj.specs.Reading.{content_of, record_entries}
use Rattle.m11_base_writes.specs.States.{output_of}
use Rattle.m11_dump.specs.Entries.{entry_line}
use Rattle.m11_dump.specs.Objects.{FailsToPut}
use Rattle.m11_dump.proofs.Listing.{directory_refused, record_is}
use Rattle.m11_dump.proofs.libraries.accept_directory.Goals as goal

pub returns-in-Err-show_entries : goal.returns-in-Err-show_entries
returns-in-Err-show_entries g c =
    let same : c.in-Ok.record ≡ c.args.block.now.items =
    record_is (content_of c.args.block.now.items) c.args.block.now.items c.in-Ok.record (sym c.in-Ok.is ∙ c.read_record.ensures.read) in
    let P : List ℕ → Type 0 = λ bytes. FailsToPut (flat_map entry_line (record_entries bytes)) (output_of g.S.Sink c.args.sink.now)
    (output_of g.S.Sink c.show_entries.new.sink) c.in-Err-show_entries.fault in
    directory_refused c.args.stage c.args.blocks c.args.block.now.items c.args.read c.from.result (output_of g.S.Sink c.args.sink.now)
    (output_of g.S.Sink c.show_entries.new.sink) c.in-Err-show_entries.fault c.placed.result c.requires.part
    (subst P same c.in-Err-show_entries.ensures) c.from.ensures c.placed.ensures
