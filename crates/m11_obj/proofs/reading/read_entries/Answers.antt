use Rattle.std.proofs.Common.{sym, subst, ap, ◌∙◌, List, arith, length}
use Rattle.std.proofs.lemmas.Bool.{eqb-true, eqb-false}
use Rattle.m11_obj.specs.declared.gsd.GsdEntry.{GsdEntry}
use Rattle.m11_obj.proofs.Entries.{AreRead, all_read, fault_read, more_read, none_read}
use Rattle.m11_obj.proofs.Steps.{entry_length}
use Rattle.m11_obj.proofs.reading.read_entries.Goals as goal

pub entries-init : goal.entries-init
entries-init c =
    let P : List GsdEntry → Type 0 = λ entries. AreRead c.args.bytes.now entries c.args.bytes.now in
    record {
      read = subst P (sym c.new-entries.ensures) (none_read c.args.bytes.now);
      room = omega (arith, c.requires, ap length c.new-entries.ensures);
    }

pub push-requires : goal.push-requires
push-requires c = (
  omega arith,
  omega (
    arith,
    c.entries.invariant.room,
    entry_length c.entries.rest.now (c.in-Ok.entry, c.in-Ok.following.now) c.in-Ok.ensures,
  ),
)

pub entries-smaller : goal.entries-smaller
entries-smaller c =
    omega (arith, entry_length c.entries.rest.now (c.in-Ok.entry, c.in-Ok.following.now) c.in-Ok.ensures)

pub entries-preserved : goal.entries-preserved
entries-preserved c =
    let P : List GsdEntry → Type 0 = λ entries. AreRead c.args.bytes.now entries c.in-Ok.following.now in
    record {
      read = subst P (sym c.push.ensures.items) (more_read c.args.bytes.now c.entries.entries.items c.entries.rest.now
          c.in-Ok.following.now c.in-Ok.entry c.entries.invariant.read c.in-Ok.ensures);
      room = omega (
        arith,
        c.entries.invariant.room,
        c.push.ensures.len,
        entry_length c.entries.rest.now (c.in-Ok.entry, c.in-Ok.following.now) c.in-Ok.ensures,
      );
    }

pub returns-in-Err : goal.returns-in-Err
returns-in-Err c = fault_read c.args.bytes.now c.entries.entries.items c.entries.rest.now c.in-Err.fault
    c.entries.invariant.read (omega (arith, eqb-false _ 0 (sym c.is_empty.ensures ∙ c.entries-test.true))) c.in-Err.ensures

pub returns : goal.returns
returns c = all_read c.args.bytes.now c.entries.entries.items c.entries.rest.now c.entries.invariant.read
    (omega (arith, eqb-true _ 0 (sym c.is_empty.ensures ∙ c.entries-test.false)))
