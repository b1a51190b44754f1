use Rattle.std.proofs.Common.{◌≡◌, suc, ◌-◌, arith, refl}
use Rattle.m11_asm_rules.specs.Strings.{parts_at}
use Rattle.m11_asm_directives.proofs.NextParts.{is_closed, part_joins, parts_end}
use Rattle.m11_asm_directives.proofs.parts.Parts.read.Goals as goal

pub parts-preserved : goal.parts-preserved
parts-preserved c =
    let some = c.parts-test.true in
    let is : c.parts.left ≡ suc (c.parts.left - 1) = omega arith in
    let line = c.args.line.now.text in
    let longer = c.in-Some.ensures.closed (is_closed _ c.if-not-part.false) in
    let begins = c.in-Some.ensures.begins in
    record {
      parts =
          part_joins line c.parts.is_first c.parts.left (c.parts.left - 1) c.parts.column is c.parts.self.list.items
          (parts_at line c.args.start) c.parts.invariant.parts c.in-Some.part c.push.new.self.items c.in-Some.ensures.part
          c.push.ensures.items (is_closed _ c.if-not-part.false) c.in-Some.part.end refl;
      room = omega arith;
    }

pub returns-in_default : goal.returns-in_default
returns-in_default c =
    let some = c.parts-test.true in
    let is : c.parts.left ≡ suc (c.parts.left - 1) = omega arith in
    let line = c.args.line.now.text in
    parts_end line c.parts.is_first c.parts.left (c.parts.left - 1) c.parts.column is c.parts.self.list.items
    (parts_at line c.args.start) c.parts.invariant.parts c.in_default.ensures.part
