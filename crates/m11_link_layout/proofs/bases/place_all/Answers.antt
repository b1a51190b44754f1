use Rattle.std.proofs.Common.{arith}
use Rattle.std.proofs.lemmas.Result.{err_from_is_err_and}
use Rattle.m11_link_layout.specs.Plan.{bases_onto}
use Rattle.m11_link_layout.proofs.Placing.{placed_next, placed_so_far, place_failed, all_placed}
use Rattle.m11_link_layout.proofs.bases.place_all.Goals as goal

pub returns-in_err-next : goal.returns-in_err-next
returns-in_err-next c =
    let r = c.from_residual in
    let p = err_from_is_err_and r.result r.ensures.1 in
    rw (p.1, p.2)
    (place_failed c.args.bases.now.entries c.sections.bases.entries c.place.new.bases.entries
    c.place.new.bases.entries c.args.bottom c.sections.next c.args.tables.now.sections c.sections.index
    c.section_at-name.result c.section_at-name.ensures c.sections.invariant.left c.sections.invariant.done
    _ c.in_err-next.ensures)

pub sections-preserved : goal.sections-preserved
sections-preserved c = record {
  left = placed_next c.sections.bases.entries c.place.new.bases.entries c.sections.next _
      c.args.tables.now.sections c.sections.index c.section_at-name.result
      (bases_onto c.args.bases.now.entries c.args.bottom c.args.tables.now.sections)
      c.section_at-name.ensures c.sections.invariant.left c.in_ok-next.ensures;
  done = placed_so_far c.args.bases.now.entries c.sections.bases.entries c.place.new.bases.entries c.args.bottom
      c.sections.next _ c.args.tables.now.sections c.sections.index c.section_at-name.result
      c.section_at-name.ensures c.sections.invariant.done c.in_ok-next.ensures;
}

pub returns : goal.returns
returns c = all_placed c.args.bases.now.entries c.sections.bases.entries c.args.bottom c.sections.next
    c.args.tables.now.sections c.sections.index
    (omega (arith, c.sections-test.false, c.section_count-index-end.ensures)) c.sections.invariant.left
