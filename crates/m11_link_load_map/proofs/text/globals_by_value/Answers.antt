use Rattle.std.proofs.Common.{List, rules, subst}
use Rattle.std.proofs.lemmas.List.Sorted.{IsNonDecreasingBy-from_sort_by_key, answers_always}
use Rattle.m11_link_layout.specs.declared.planned.PlannedGlobal.{PlannedGlobal}
use Rattle.m11_link_load_map.specs.LoadMap.{IsByValue}
use Rattle.m11_link_load_map.proofs.Shown.{ties_are}
use Rattle.m11_link_load_map.proofs.text.globals_by_value.Goals as goal

pub returns : goal.returns
returns c =
    let P : List PlannedGlobal → Type 0 = λ globals. IsByValue globals c.sort_by_key.new.self.items in
    subst P c.in_ok-globals.ensures (record {
      same = c.sort_by_key.ensures.permutation;
      rise = IsNonDecreasingBy-from_sort_by_key (λ global. global.value) _ c.in_ok-sort_by_key.ensures.sorted
          (λ a r q k. search rules);
      ties = ties_are c.in_ok-globals.globals.items c.sort_by_key.new.self.items
          (c.sort_by_key.ensures.stable (λ global. global.value) (answers_always _ _ _ (λ f a r g h. search rules)));
    })
