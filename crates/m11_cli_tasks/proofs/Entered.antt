-- The command that was entered, if one is required.
use Rattle.std.proofs.Common.{◌≡◌, ◌∙◌, sym, ap, refl, inl, inr, Bool, true, false, List, [], ◌∷◌, codes, map, Option, Some, None, option_map, unwrap_or, is_some, IsSome}
use Rattle.std.specs.Prelude.{Box, find}
use Rattle.std.specs.Box.{box_value}
use Rattle.std.specs.declared.alloc.Global.{Global}
use Rattle.clap.specs.Words.{App, HasMatchesOf, IsParsedFrom, Row, Shape, Text, app_of, built, found_of, is_simple, rows_of, subcommand_name_of, subcommand_of, subcommand_rows, subcommand_rows_of}
use Rattle.clap.specs.Simple.{entered, label_of, rows_at}
use Rattle.clap.specs.Walk.{answers_to}
use Rattle.clap.specs.declared.builder.command.Command.{Command}
use Rattle.clap.specs.declared.builder.command.Command.TheViews.{out-Command}
use Rattle.clap.specs.declared.parser.matches.ArgMatches.{ArgMatches}
use Rattle.clap.specs.declared.parser.matches.ArgMatches.TheViews.{out-ArgMatches, out-SubCommand}
use Rattle.clap.specs.declared.parser.matches.SubCommand.{SubCommand}
use Rattle.clap.proofs.CallerLemmas.{subcommand_required}
use Rattle.m11_cli_tasks.specs.Tasks.{IsCommandName, IsOneOf}

found_name : (word : Text) (after : List Text) (subs : List Shape) (p : Text × List Row)
    → option_map (λ s. rows_at s after) (find (λ s. answers_to word (label_of s)) subs) ≡ Some p
    → IsOneOf p.0 (map (λ s. s.name) subs)
found_name word after [] p e = cc
found_name word after (s ∷ subs) p e = go (answers_to word (label_of s)) refl (found_name word after subs p)
  where
    go : (t : Bool) → answers_to word (label_of s) ≡ t
        → (option_map (λ x. rows_at x after) (find (λ x. answers_to word (label_of x)) subs) ≡ Some p
        → IsOneOf p.0 (map (λ x. x.name) subs))
        → IsOneOf p.0 (map (λ x. x.name) (s ∷ subs))
    go true t rest =
        let here : Some (rows_at s after) ≡ Some p = rw t at e in
        inl (ap (λ (o : Option (Text × List Row)). (unwrap_or o p).0) (sym here))
    go false t rest = inr (rest (rw t at e))

entered_name : (a : App) (stop : Option (Text × List Text)) (p : Text × List Row) → entered a stop ≡ Some p
    → IsOneOf p.0 (map (λ s. s.name) a.subs)
entered_name a None p e = cc
entered_name a (Some q) p e = found_name q.0 q.1 a.subs p e

some_entered : (o : Option (Box SubCommand Global)) → is_some o ≡ true
    → (p : Text × List Row) × (subcommand_rows o ≡ Some p)
    × (option_map (λ b. (out-SubCommand (box_value b)).name.now) o ≡ Some p.0)
some_entered None e = cc
some_entered (Some b) e =
    (((out-SubCommand (box_value b)).name.now, rows_of (found_of (out-SubCommand (box_value b)).matches)), refl, refl)

-- a parse of a command that requires a subcommand has entered one of that command's subcommands
pub entered_command : (c : Command) (m : ArgMatches) (a : App) (words : List Text) → app_of c ≡ a
    → (out-Command c).has_globals ≡ false → IsParsedFrom c m → HasMatchesOf (app_of c) words m
    → is_simple a ≡ true → a.top.subcommand_required ≡ true
    → (name : Text) × (subcommand_name_of m ≡ Some name) × IsOneOf name (map (λ s. s.name) (built a).subs)
entered_command c m a words app local parsed matches simple required =
    let needed : (out-Command c).subcommand_required ≡ true =
    ap (λ (x : App). x.top.subcommand_required) app ∙ required in
    let some = some_entered (out-ArgMatches m).subcommand (subcommand_required c m parsed local needed) in
    let rows = (matches (ap is_simple app ∙ simple)).1 ∙ ap (λ (x : App). subcommand_of x words) app in
    (some.0.0, some.2, entered_name (built a) _ some.0 (sym rows ∙ some.1))

-- an option doesn't both have a value and have none
pub excluded : {X : Type 0} (o : Option X) → IsSome o → ((x : X) → o ≡ Some x → ⊥) → ⊥
excluded None some none = cc
excluded (Some x) some none = none x refl

-- a parse of a simple command has the subcommand and the entries that the words give
pub entered_free : (c : Command) (m : ArgMatches) (a : App) (words : List Text) → app_of c ≡ a → is_simple a ≡ true
    → HasMatchesOf (app_of c) words m → subcommand_rows_of m ≡ subcommand_of a words
entered_free c m a words app simple matches =
    (matches (ap is_simple app ∙ simple)).1 ∙ ap (λ (x : App). subcommand_of x words) app

-- if none of the three commands was entered, no command was
pub none_left : (o : Option Text) → IsCommandName o → (o ≡ Some (codes "asm") → ⊥) → (o ≡ Some (codes "link") → ⊥)
    → (o ≡ Some (codes "sim") → ⊥) → ⊥
none_left None named asm link sim = named
none_left (Some name) (inl e) asm link sim = asm (ap Some e)
none_left (Some name) (inr (inl e)) asm link sim = link (ap Some e)
none_left (Some name) (inr (inr (inl e))) asm link sim = sim (ap Some e)
none_left (Some name) (inr (inr (inr none))) asm link sim = none
