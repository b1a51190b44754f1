use Rattle.std.proofs.Common.{◌∙◌, sym, ap}
use Rattle.m11_base_disassembly.specs.Maps.{so_far, with_text}
use Rattle.m11_link_load_map.specs.NameFiles.{is_object}
use Rattle.m11_link_load_map.proofs.NamesAdded.{object_added, text_added, texts}
use Rattle.m11_link_load_map.proofs.name_files.add_file.Goals as goal

pub returns-then-is_object-clause-adds : goal.returns-then-is_object-clause-adds
returns-then-is_object-clause-adds g c =
    object_added g.F.Input.Feed.text c.args.bottom (g.F.Opens.files c.args.files.now) (g.F.Opens.files c.open.new.self)
    c.args.path.now c.in-Ok-text_of.text.items (so_far c.args.found.now.names) (so_far c.hold_object.new.found.names)
    (texts c.args.found.now.objects.items) (texts c.hold_object.new.found.objects.items) c.args.found.now.inputs.items
    c.hold_object.new.found.inputs.items c.hold_object.result
    (g.F.Input.Feed.text c.in-Ok.input, c.in-Ok.ensures.finds, c.in-Ok-text_of.ensures.text)
    (ap is_object (sym c.as_slice.ensures.value) ∙ sym c.is_object.ensures ∙ c.if-is_object.true)
    c.in-Ok.ensures.files c.hold_object.ensures.holds

pub returns-in-Ok-add_text-clause-adds : goal.returns-in-Ok-add_text-clause-adds
returns-in-Ok-add_text-clause-adds g c =
    text_added g.F.Input.Feed.text c.args.bottom (g.F.Opens.files c.args.files.now) c.args.path.now c.in-Ok-text_of.text.items
    (so_far c.args.found.now.names) (so_far c.add_text.new.self)
    (texts c.args.found.now.objects.items) c.args.found.now.inputs.items
    (g.F.Input.Feed.text c.in-Ok.input, c.in-Ok.ensures.finds, c.in-Ok-text_of.ensures.text)
    (ap is_object (sym c.as_slice.ensures.value) ∙ sym c.is_object.ensures ∙ c.if-is_object.false)
    (ap (with_text c.args.bottom (so_far c.args.found.now.names)) (sym c.as_slice-else-is_object.ensures.value) ∙ c.in-Ok-add_text.ensures)
