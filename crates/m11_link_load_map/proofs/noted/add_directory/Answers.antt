use Rattle.std.proofs.Common.{◌∙◌, List, Result, Ok, ap, sym}
use Rattle.m11_obj.specs.declared.fault.RecordFault.{RecordFault}
use Rattle.m11_obj.specs.declared.gsd.GsdEntry.{GsdEntry}
use Rattle.m11_link_load_map.proofs.NotedParts.{of_directory_noted}
use Rattle.m11_link_load_map.proofs.noted.add_directory.Goals as goal

pub returns-in-Ok : goal.returns-in-Ok
returns-in-Ok c bytes e =
    let given : List GsdEntry → Result (List GsdEntry) RecordFault = λ entries. Ok entries in
    of_directory_noted c.add_entries.result c.args.noted.now.items c.add_entries.new.noted.items bytes c.args.unread.now
    c.as_slice.result.now e (c.in-Ok.ensures ∙ ap given (sym c.as_slice.ensures.value)) c.add_entries.ensures
