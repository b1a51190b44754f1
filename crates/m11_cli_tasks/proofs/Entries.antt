-- The values that the getters of a parse return, in terms of its entries.
use Rattle.std.proofs.Common.{◌≡◌, ◌∙◌, sym, ap, ap₂, List, [], Option, Some, None, option_map, unwrap_or}
use Rattle.std.specs.Borrow.{Bor}
use Rattle.clap.specs.Words.{Row, Text, all_of, first_of, first_value, matched_of, raw_values, rows_of, subcommand_name_of, subcommand_rows, subcommand_rows_of}
use Rattle.clap.specs.declared.parser.matches.Found.{Found}
use Rattle.std.specs.Prelude.{Box}
use Rattle.std.specs.Box.{box_value}
use Rattle.std.specs.declared.alloc.Global.{Global}
use Rattle.clap.specs.declared.parser.matches.ArgMatches.{ArgMatches}
use Rattle.clap.specs.declared.parser.matches.ArgMatches.TheViews.{out-ArgMatches, out-SubCommand}
use Rattle.clap.specs.declared.parser.matches.SubCommand.{SubCommand}
use Rattle.clap.proofs.WalkLemmas.{first_value-rows, raw_values-rows}

-- the first value that a getter returns is the first one of the entries
pub first_entry_value : (f : Found) (id : Text) (o : Option (Bor Text)) → option_map (λ s. s.now) o ≡ first_value f id
    → first_of id (rows_of f) ≡ option_map (λ s. s.now) o
first_entry_value f id o e = sym (e ∙ first_value-rows f id)

-- the first value that a getter returns, or else the empty text, is the first one of the entries, or else the empty text
pub first_is : (f : Found) (id : Text) (o : Option (Bor Text)) (d : Bor Text)
    → option_map (λ s. s.now) o ≡ first_value f id → d.now ≡ []
    → (unwrap_or o d).now ≡ unwrap_or (first_of id (rows_of f)) []
first_is f id None d e empty = empty ∙ ap (λ t. unwrap_or t []) (e ∙ first_value-rows f id)
first_is f id (Some s) d e empty = ap (λ t. unwrap_or t []) (e ∙ first_value-rows f id)

-- all values that a getter returns are those of the entries, or there are none
pub all_are : (f : Found) (id : Text) (o : Option (List Text))
    → o ≡ option_map raw_values (matched_of f id)
    → unwrap_or o [] ≡ unwrap_or (all_of id (rows_of f)) []
all_are f id o e = ap (λ t. unwrap_or t []) (e ∙ raw_values-rows f id)

-- if a parse has this subcommand name and these entries, it has entered the subcommand with them
pub entered_is : (m : ArgMatches) (name : Text) (rows : List Row) → subcommand_name_of m ≡ Some name
    → option_map (λ p. p.1) (subcommand_rows_of m) ≡ Some rows
    → subcommand_rows_of m ≡ Some (name, rows)
entered_is m name rows = go (out-ArgMatches m).subcommand
  where
    go : (o : Option (Box SubCommand Global)) → option_map (λ b. (out-SubCommand (box_value b)).name.now) o ≡ Some name
        → option_map (λ p. p.1) (subcommand_rows o) ≡ Some rows → subcommand_rows o ≡ Some (name, rows)
    go None e f = cc
    go (Some b) e f = ap₂ (λ (n : Text) (r : List Row). Some (n, r))
        (ap (λ o. unwrap_or o name) e) (ap (λ o. unwrap_or o rows) f)
