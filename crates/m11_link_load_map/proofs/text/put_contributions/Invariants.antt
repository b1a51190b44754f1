use Rattle.std.proofs.Common.{◌≤◌, drop}
use Rattle.m11_link_load_map.specs.Noted.{contributions_from}
use Rattle.m11_link_load_map.specs.Run.{planned_line}
use Rattle.m11_link_load_map.proofs.Texts.{Leads}
use Rattle.m11_link_load_map.proofs.text.put_contributions.Given as goal

abbrev pub invariant-noted : goal.invariant-noted
invariant-noted l = record {
  few : l.module_index ≤ l.item-index;
  leads : Leads (planned_line l.plan) l.initial.text.items (contributions_from 0 l.noted) l.text.items
      (contributions_from l.module_index (drop l.item-index l.noted));
}
