use Rattle.std.proofs.Common.{◌≡◌, ℕ, ◌≤◌, take, Err}
use Rattle.m11_obj.specs.Reading.{content_of}
use Rattle.m11_dump.proofs.positions.index_with.Given as goal

abbrev pub invariant-beginnings : goal.invariant-beginnings
invariant-beginnings l = record {
  read : l.beginning.items ≡ take l.index l.content.items;
  shorter : (count : ℕ) → count ≤ l.index → content_of (take count l.content.items) ≡ Err l.fault → ⊥;
}
