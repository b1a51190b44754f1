use Rattle.std.proofs.Common.{◌∙◌, ◌++◌, ℕ, List, ap}
use Rattle.std.specs.List.{flat_map}
use Rattle.m11_link_layout.specs.declared.planned.PlannedGlobal.{PlannedGlobal}
use Rattle.m11_link_text.specs.Lines.{limit_line}
use Rattle.m11_link_load_map.specs.LoadMap.{line_of_global, map_text}
use Rattle.m11_link_load_map.proofs.Texts.{first_put, five_put}
use Rattle.m11_link_load_map.proofs.text.map_text.Goals as goal

pub returns : goal.returns
unfolding map_text
returns c = (
  c.in_ok-globals.globals.items,
  c.in_ok-globals.ensures,
  five_put _ _ _ _ (flat_map line_of_global c.in_ok-globals.globals.items) _ _ _ _ _
      (first_put _ _ _ _ c.new-text.ensures.items c.in_ok-extend_from_slice.ensures.items
      (c.deref.ensures.0 ∙ c.limit_line.ensures ∙ ap (λ (p : ℕ × ℕ). limit_line p.0 p.1) c.limits-bottom.ensures))
      c.in_ok-extend_from_slice-2.ensures.items
      (c.in_ok-put_contributions.ensures)
      c.in_ok-extend_from_slice-3.ensures.items
      (c.in_ok-put_globals.ensures
      ∙ ap (λ (globals : List PlannedGlobal). c.extend_from_slice-3.new.self.items ++ flat_map line_of_global globals)
      c.as_slice.ensures.value),
)
