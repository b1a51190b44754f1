use Rattle.std.proofs.Common.{arith}
use Rattle.m11_obj_print.proofs.Trimming.{after_blank, after_none, after_other, room_again, shorter}
use Rattle.m11_obj_print.proofs.lines.trim.Goals as goal

pub push-requires : goal.push-requires
push-requires c = (
  omega arith,
  room_again c.args.line.now.items c.blanks.line.items c.pop.new.self.items c.in-Some.byte
      c.in-Some.ensures.items c.blanks.invariant.1 c.requires,
)

pub returns-then-byte-ne32-clause-bytes : goal.returns-then-byte-ne32-clause-bytes
returns-then-byte-ne32-clause-bytes c = after_other c.args.line.now.items c.blanks.line.items c.pop.new.self.items c.push.new.self.items
    c.in-Some.byte c.in-Some.ensures.items c.if-byte-ne32.true c.blanks.invariant.0 c.push.ensures.items

pub blanks-preserved : goal.blanks-preserved
blanks-preserved c = (
  after_blank c.args.line.now.items c.blanks.line.items c.pop.new.self.items c.in-Some.byte
      c.in-Some.ensures.items c.if-byte-ne32.false c.blanks.invariant.0,
  shorter c.args.line.now.items c.blanks.line.items c.pop.new.self.items c.in-Some.byte c.in-Some.ensures.items c.blanks.invariant.1,
)

pub returns-in-None-clause-bytes : goal.returns-in-None-clause-bytes
returns-in-None-clause-bytes c = after_none c.args.line.now.items c.blanks.line.items c.pop.new.self.items c.in-None.ensures.variant.1
    c.in-None.ensures.items c.blanks.invariant.0
