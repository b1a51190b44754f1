-- The facts added for a live line are those of the line.
use Rattle.std.proofs.Common.{◌≡◌, ◌∙◌, true, false, List, [], Option, Some, None, Result, Ok, Err, IfOk, refl, sym, ap}
use Rattle.std.specs.Option.{option_or}
use Rattle.m11_base.specs.Rad50.{Name}
use Rattle.m11_unfold_rules.specs.Taking.{Live}
use Rattle.m11_unfold_rules.specs.Unfolding.{UnfoldedLine}
use Rattle.m11_scan_expressions.specs.Tokens.{Expression}
use Rattle.m11_asm_rules.specs.Actions.{Action, Entitle, Export, Identify, Transfer}
use Rattle.m11_asm_rules.specs.Changes.{changed}
use Rattle.m11_asm_rules.specs.Lines.{after_line, change_of, line_change, stands}
use Rattle.m11_asm_rules.specs.Meanings.{empty_map}
use Rattle.m11_asm_rules.specs.Operations.{action}
use Rattle.m11_asm_rules.specs.Sources.{transfer_by}
use Rattle.m11_asm_rules.specs.Tables.{Table, firm_table}
use Rattle.m11_asm_lines.specs.Actions.{action_in}
use Rattle.m11_asm_passes.specs.Placed.{IsLive}
use Rattle.m11_asm_passes.specs.declared.placed.LiveLine.{LiveLine}
use Rattle.m11_asm.specs.Facts.{Facts, each_once, with_line}
use Rattle.m11_asm.specs.Noted.{with_action}

-- the title, the identification and the weak names of an action
abbrev title_of : Action → Option Name
title_of of = elim of [ Entitle name ↦ Some name | _ ↦ None ]

abbrev identification_of : Action → Option Name
identification_of of = elim of [ Identify name ↦ name | _ ↦ None ]

abbrev weak_by : Action → List Name
weak_by of = elim of [ Export true names ↦ names | _ ↦ [] ]

-- the facts with those of an action, part by part
abbrev by_parts : Table → Action → Facts → Facts
by_parts stood of facts = record {
  title = option_or (title_of of) facts.title;
  identification = option_or (identification_of of) facts.identification;
  weak = each_once facts.weak (weak_by of);
  transfer = option_or (transfer_by empty_map stood of) facts.transfer;
}

parts_so : (stood : Table) (of : Action) (facts : Facts) → with_action stood of facts ≡ by_parts stood of facts
parts_so stood (Entitle name) facts = refl
parts_so stood (Identify name) facts = refl
parts_so stood (Export true names) facts = refl
parts_so stood (Export false names) facts = refl
parts_so stood (Transfer tokens) facts = refl
parts_so stood other facts = refl

module _ (before table : Table) (given : UnfoldedLine) (facts : Facts) (after : table ≡ after_line empty_map before given) where
  abbrev done : Action
  done = action given.is_own given.arguments given.live.line.text

  -- `.END` leaves the table as it is after the labels of its line
  stays : (tokens : Expression) → Transfer tokens ≡ done → after_line empty_map before given ≡ stands before given
  unfolding line_change
  stays tokens is =
      ap (λ (of : Action). changed empty_map (change_of (firm_table (stands before given)) given.live.line.text of) (stands before given))
      (sym is)

  -- the table before the action and the one after it give the same facts
  before_or_after : (of : Action) → of ≡ done → with_action table of facts ≡ with_action (stands before given) of facts
  before_or_after (Entitle name) is = refl
  before_or_after (Identify name) is = refl
  before_or_after (Export true names) is = refl
  before_or_after (Export false names) is = refl
  before_or_after (Transfer tokens) is = ap (λ (t : Table). with_action t (Transfer tokens) facts) (after ∙ stays tokens is)
  before_or_after other is = refl

  told_so : (of : Action) → of ≡ done → with_action table of facts ≡ with_line before given facts
  told_so of is =
      before_or_after of is ∙ parts_so (stands before given) of facts
      ∙ ap (λ (d : Action). by_parts (stands before given) d facts) is

noted : (before table : Table) (given : UnfoldedLine) (live : LiveLine) (old new : Facts)
    → IsLive given live → table ≡ after_line empty_map before given
    → new ≡ with_action table (action_in live.line.text live.operation) old → new ≡ with_line before given old
noted before table given live old new is after so =
    so ∙ ap (λ (l : Live). with_action table (action_in l.line.text live.operation) old) is.live_is
    ∙ told_so before table given old after (action_in given.live.line.text live.operation) is.action_is

pub notes : (table : Table) (live : LiveLine) (old new : Facts) {E : Type 0} (result : Result (Unit {0}) E)
    → IfOk result (λ _. new ≡ with_action table (action_in live.line.text live.operation) old)
    → IfOk result (λ _. (before : Table) (given : UnfoldedLine) → IsLive given live
    → table ≡ after_line empty_map before given → new ≡ with_line before given old)
notes table live old new (Ok _) so = λ before given is after. noted before table given live old new is after so
notes table live old new (Err fault) so = tt
