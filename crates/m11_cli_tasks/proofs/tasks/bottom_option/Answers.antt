use Rattle.std.proofs.Common.{codes}
use Rattle.clap.specs.Words.{found_of}
use Rattle.m11_cli_tasks.proofs.Addresses.{bottom_spelled}
use Rattle.m11_cli_tasks.proofs.tasks.bottom_option.Goals as goal

pub returns-in-Some : goal.returns-in-Some
returns-in-Some c =
    bottom_spelled (found_of c.args.entries.now) (codes "bottom") c.get_str.result c.in-Some.text c.address.result
    c.get_str.ensures c.in-Some.is c.address.ensures
