use Rattle.std.proofs.Common.{◌∙◌, ◌++◌, subst, ap}
use Rattle.m11_base_disassembly.specs.Maps.{NamesSoFar, so_far}
use Rattle.m11_link_load_map.specs.NameFiles.{GiveAll}
use Rattle.m11_link_load_map.proofs.NamesAdded.{none_named, texts}
use Rattle.m11_link_load_map.proofs.name_files.listed_names.Goals as goal

pub returns-in-Ok-clause-none : goal.returns-in-Ok-clause-none
returns-in-Ok-clause-none g c =
    let a = c.in-Ok.ensures.adds in
    let files = g.F.Opens.files c.args.files.now in
    let found : NamesSoFar = so_far c.add_files.new.found.names in
    none_named g.F.Input.Feed.text g.F.Input.Feed.faults c.args.kept c.args.bottom files (texts c.args.paths.now) found
    (texts c.add_files.new.found.objects.items) a.0 c.add_files.new.found.inputs.items a.1 c.with_objects.result
    (subst (λ old. GiveAll c.args.bottom files (texts c.args.paths.now) old found a.0) c.new.ensures a.2) a.3
    (a.4 ∙ ap (λ items. texts items ++ a.0) c.new-2.ensures.items) (a.5 ∙ ap (λ items. items ++ a.1) c.new-3.ensures.items)
    c.with_objects.ensures.none
