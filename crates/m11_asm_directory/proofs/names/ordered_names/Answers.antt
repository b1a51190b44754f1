use Rattle.std.proofs.Common.{List, subst}
use Rattle.std.specs.List.Sorted.{IsPermutation}
use Rattle.std.proofs.lemmas.List.Filters.{dedup_is}
use Rattle.m11_base.specs.Rad50.{Name, is_same_name}
use Rattle.m11_asm_directory.proofs.InOrder.{sorted_once}
use Rattle.m11_asm_directory.proofs.names.ordered_names.Goals as goal

pub returns : goal.returns
returns c =
    let sorted : List Name = c.sort.new.self.items in
    let P : List Name → Type 0 = λ names. IsPermutation names sorted in
    sorted_once c.args.names.now sorted c.dedup.new.self.items
    (subst P c.in_ok-list.ensures.items c.sort.ensures.permutation) c.in_ok-sort.ensures.sorted
    (dedup_is is_same_name sorted c.dedup.new.self.items c.dedup.ensures.filtered)
