use Rattle.std.proofs.Common.{subst}
use Rattle.m11_link_load_map.specs.NameFiles.{ObjectsLack}
use Rattle.m11_link_load_map.proofs.NamesAdded.{texts}
use Rattle.m11_link_load_map.proofs.name_files.with_objects.Goals as goal

pub returns-clause-none : goal.returns-clause-none
returns-clause-none g c =
    subst (λ inputs.
    ObjectsLack g.F.Input.Feed.text g.F.Input.Feed.faults c.args.bottom (texts c.args.found.objects.items) inputs c.in-Err.none)
    c.as_mut_slice.ensures.value (rw c.as_slice.ensures.value at c.in-Err.ensures)
