-- The commands and their arguments, in terms of `clap`'s definitions. (This project's own: no manual describes these commands.)
use Rattle.std.specs.Prelude.{◌≡◌, [], ◌∷◌, Some, true, false, codes, ℕ, pos}
use Rattle.clap.specs.Words.{App, Rule, Shape, Text, app_of, new_app, new_rule, rule_of, with_subcommand}
use Rattle.clap.specs.Simple.{new_shape}
use Rattle.clap.specs.declared.builder.action.ArgAction.{ArgAction}
use Rattle.clap.specs.declared.builder.action.ArgAction.TheVariants.{Set, Append}
use Rattle.clap.specs.declared.builder.arg.Arg.{Arg}
use Rattle.clap.specs.declared.builder.command.Command.{Command}
use Rattle.clap.specs.declared.builder.command.Command.TheViews.{out-Command}
use Rattle.clap.specs.declared.builder.value_parser.ValueParser.TheVariants.{Signed}

-- the argument has this rule, and belongs to its own command only
pub record IsArgument (rule : Rule) (argument : Arg) : Type 0 where
  pub is : rule_of argument ≡ rule
  pub local : argument.global ≡ false

-- the command has this definition, and its arguments all belong to it alone
pub record IsCommand (app : App) (command : Command) : Type 0 where
  pub is : app_of command ≡ app
  pub local : (out-Command command).has_globals ≡ false

-- an option with one value, written with a letter, as in `-o OBJ`, or with its name, as in `--output OBJ`
abbrev pub option_rule : Text → ℕ → Rule
option_rule name letter = record (new_rule name) {
  short = Some letter;
  long = Some name;
  value_names = 1;
  action = Some Set;
}

-- a required argument that isn't an option: exactly one word with `Set`, one or more with `Append`
abbrev pub operand_rule : Text → ArgAction → Rule
operand_rule name action = record (new_rule name) {
  value_names = 1;
  action = Some action;
  required = true;
}

-- `-o FILE`, `--output FILE`, which is required: the object or the tape to write
abbrev pub output_rule : Rule
output_rule = record (option_rule (codes "output") 0o157) { required = true }

-- `-l LST`, `--listing LST`: the listing to write, if there is one
abbrev pub listing_rule : Rule
listing_rule = option_rule (codes "listing") 0o154

-- `SOURCE...`: the sources, in order
abbrev pub sources_rule : Rule
sources_rule = operand_rule (codes "sources") Append

-- `asm -o OBJ [-l LST] SOURCE...`
abbrev pub asm_shape : Shape
asm_shape = record (new_shape (codes "asm")) { rules = output_rule ∷ listing_rule ∷ sources_rule ∷ [] }

abbrev pub asm_app : App
asm_app = record { top = asm_shape; subs = [] }

-- `-m MAP`, `--map MAP`: the map to write, if there is one
abbrev pub map_rule : Rule
map_rule = option_rule (codes "map") 0o155

-- the default of the first address of relocatable sections
abbrev pub default_bottom : ℕ
default_bottom = 0o1000

-- `-b OCTAL`, `--bottom OCTAL`: the first address of relocatable sections
abbrev pub bottom_rule : Rule
bottom_rule = option_rule (codes "bottom") 0o142

-- `OBJECT...`: the objects, in order
abbrev pub objects_rule : Rule
objects_rule = operand_rule (codes "objects") Append

-- `link -o TAPE [-m MAP] [-b OCTAL] OBJECT...`
abbrev pub link_shape : Shape
link_shape = record (new_shape (codes "link")) {
  rules = output_rule ∷ map_rule ∷ bottom_rule ∷ objects_rule ∷ [];
}

abbrev pub link_app : App
link_app = record { top = link_shape; subs = [] }

-- the highest limit of steps, and the default limit
abbrev pub most_steps : ℕ
most_steps = 1000000000

abbrev pub default_steps : ℕ
default_steps = 1000000

-- the smallest size of memory in words, and the largest, which is also the default
abbrev pub least_words : ℕ
least_words = 4096

abbrev pub most_words : ℕ
most_words = 28672

-- `-n STEPS`, `--steps STEPS`: the limit of steps, in decimal
abbrev pub steps_rule : Rule
steps_rule = record (option_rule (codes "steps") 0o156) { parser = Some (Signed (pos 0) (pos most_steps)) }

-- `-s OCTAL`, `--start OCTAL`: the start address
abbrev pub start_rule : Rule
start_rule = option_rule (codes "start") 0o163

-- `-k WORDS`, `--words WORDS`: the size of memory in words, in decimal
abbrev pub words_rule : Rule
words_rule = record (option_rule (codes "words") 0o153) { parser = Some (Signed (pos least_words) (pos most_words)) }

-- `TAPE`: the tape to run
abbrev pub tape_rule : Rule
tape_rule = operand_rule (codes "tape") Set

-- `sim [-n STEPS] [-s OCTAL] [-k WORDS] TAPE`
abbrev pub sim_shape : Shape
sim_shape = record (new_shape (codes "sim")) {
  rules = steps_rule ∷ start_rule ∷ words_rule ∷ tape_rule ∷ [];
}

abbrev pub sim_app : App
sim_app = record { top = sim_shape; subs = [] }

-- `m11` without its commands
abbrev pub bare : App
bare = record {
  top = record (new_app (codes "m11")).top {
    disable_help_subcommand = true;
    subcommand_required = true;
  };
  subs = [];
}

-- `m11` with its commands
abbrev pub application : App
application = with_subcommand (with_subcommand (with_subcommand bare asm_shape) link_shape) sim_shape
