use Rattle.std.proofs.Common.{◌∙◌, List, Result, Ok, ap, sym}
use Rattle.m11_obj.specs.declared.fault.RecordFault.{RecordFault}
use Rattle.m11_obj.specs.declared.gsd.GsdEntry.{GsdEntry}
use Rattle.m11_obj.specs.Reading.{◌>>=◌}
use Rattle.m11_obj.specs.Records.{Gsd}
use Rattle.m11_link_layout.proofs.Standing.{block_taken}
use Rattle.m11_link_layout.proofs.layout.Layout.accept_directory.Goals as goal

pub returns-clause-takes : goal.returns-clause-takes
returns-clause-takes c = λ bottom before bytes stands e.
    block_taken bottom before c.accept_entries.new.self bytes (Gsd c.as_slice.result.now) c.accept_entries.result
    (e ∙ ap (λ (r : Result (List GsdEntry) RecordFault). r >>= λ entries. Ok (Gsd entries)) c.in_ok-entries.ensures
    ∙ ap (λ (entries : List GsdEntry). Ok (Gsd entries)) (sym c.as_slice.ensures.value))
    (c.accept_entries.ensures.takes bottom before stands)
