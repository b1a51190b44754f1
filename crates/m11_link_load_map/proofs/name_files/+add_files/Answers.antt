use Rattle.std.proofs.Common.{refl}
use Rattle.m11_base_disassembly.specs.Maps.{so_far}
use Rattle.m11_link_load_map.proofs.NamesAdded.{first_added, none_added, texts}
use Rattle.m11_link_load_map.proofs.name_files.+add_files.Goals as goal

pub returns-in_ok-add_file-in-len1-up-clause-adds :
    goal.returns-in_ok-add_file-in-len1-up-clause-adds
returns-in_ok-add_file-in-len1-up-clause-adds g t c =
    first_added g.F.Input.Feed.text c.args.bottom (g.F.Opens.files c.args.files.now) (g.F.Opens.files c.add_file.new.files)
    c.args.paths.now _ _ (so_far c.args.found.now.names) (so_far c.add_file.new.found.names) (so_far c.add_files.new.found.names)
    (texts c.args.found.now.objects.items) (texts c.add_file.new.found.objects.items) (texts c.add_files.new.found.objects.items)
    c.args.found.now.inputs.items c.add_file.new.found.inputs.items c.add_files.new.found.inputs.items
    c.in_ok-add_file-in-len1-up.field-0 c.add_files.result c.in-len1-up.len_at_least refl c.in_ok-add_file-in-len1-up.ensures.adds
    c.in_ok-add_file-in-len1-up.ensures.files c.add_files.ensures.adds

pub returns-in-empty-clause-adds : goal.returns-in-empty-clause-adds
returns-in-empty-clause-adds g t c =
    none_added g.F.Input.Feed.text c.args.bottom (g.F.Opens.files c.args.files.now) c.args.paths.now
    (so_far c.args.found.now.names) (texts c.args.found.now.objects.items) c.args.found.now.inputs.items c.in-empty.len_below
