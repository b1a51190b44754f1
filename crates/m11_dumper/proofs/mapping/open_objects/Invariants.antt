use Rattle.std.proofs.Common.{◌≡◌, take}
use Rattle.m11_base_files.specs.Opens.{AreFiles}
use Rattle.m11_cli_tasks.specs.Opened.{texts}
use Rattle.m11_dumper.proofs.mapping.open_objects.Given as goal

-- the objects at the paths so far are open, and the files are unchanged
abbrev pub invariant-paths : goal.invariant-paths
invariant-paths g l =
    AreFiles g.F.Input.Feed.text (g.F.Opens.files l.initial.files) (texts (take l.path-index l.paths)) l.objects.items
    × (g.F.Opens.files l.files ≡ g.F.Opens.files l.initial.files)
