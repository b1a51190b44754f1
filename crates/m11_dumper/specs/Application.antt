-- The command line, in terms of `clap`'s definitions. (This project's own.)
use Rattle.std.specs.Prelude.{Some, codes}
use Rattle.clap.specs.Words.{App, Rule, new_app, new_rule, with_rule}
use Rattle.clap.specs.declared.builder.action.ArgAction.TheVariants.{Append, SetTrue}
use Rattle.m11_cli_tasks.specs.Commands.{bottom_rule, operand_rule, option_rule}

-- `FILE...`: the files to show, in order
abbrev pub files_rule : Rule
files_rule = operand_rule (codes "files") Append

-- `-d`, `--disassemble`: show words as instructions
abbrev pub disassemble_rule : Rule
disassemble_rule = record (new_rule (codes "disassemble")) {
  short = Some 0o144;
  long = Some (codes "disassemble");
  action = Some SetTrue;
}

-- `-s`, `--source`: write every tape as a source
abbrev pub source_rule : Rule
source_rule = record (new_rule (codes "source")) {
  short = Some 0o163;
  long = Some (codes "source");
  action = Some SetTrue;
}

-- `-o`, `--object`: read every file as an object
abbrev pub object_rule : Rule
object_rule = record (new_rule (codes "object")) {
  short = Some 0o157;
  long = Some (codes "object");
  action = Some SetTrue;
}

-- `-t`, `--tape`: read every file as a tape, unless `-o` is given too
abbrev pub tape_rule : Rule
tape_rule = record (new_rule (codes "tape")) {
  short = Some 0o164;
  long = Some (codes "tape");
  action = Some SetTrue;
}

-- `-m`, `--map`: show the load map of objects
abbrev pub load_map_rule : Rule
load_map_rule = record (new_rule (codes "map")) {
  short = Some 0o155;
  long = Some (codes "map");
  action = Some SetTrue;
}

-- `-y NAMES`, `--symbols NAMES`: a map, a listing or an object that names a tape's addresses
abbrev pub symbols_rule : Rule
symbols_rule = record (option_rule (codes "symbols") 0o171) { action = Some Append }

-- `m11-dump [-d] [-s] [-o] [-t] [-m] [-b OCTAL] [-y NAMES]... FILE...`
abbrev pub application : App
application =
    with_rule (with_rule (with_rule (with_rule (with_rule (with_rule (with_rule (with_rule (new_app (codes "m11-dump")) disassemble_rule)
    source_rule) object_rule) tape_rule) load_map_rule) bottom_rule) symbols_rule) files_rule
