use Rattle.std.proofs.Common.{rules, refl}
use Rattle.m11_cpu_quick.proofs.OperandsFound.{at_absolute, at_decrement, at_decrement_pointer, at_deferred, at_immediate_location, at_increment, at_increment_pointer, at_index, at_index_pointer, at_relative, at_relative_pointer}
use Rattle.m11_cpu_quick.proofs.operands.address_of.Goals as goal

pub returns-else-not-is_plain-clause-some : goal.returns-else-not-is_plain-clause-some
returns-else-not-is_plain-clause-some c =
    let is = rw c.in-Deferred.is at c.requires in at_deferred _ _ _ _ _ c.args.machine.now is.0 is.1 c.held-address.ensures

pub returns-else-not-is_plain-2-clause-some : goal.returns-else-not-is_plain-2-clause-some
returns-else-not-is_plain-2-clause-some c =
    let is = rw c.in-Increment.is at c.requires in
    at_increment _ _ _ _ _ _ c.args.machine.now is.0 is.1 is.2 c.held-address-in-Increment.ensures
    (rw (c.held-address-in-Increment.ensures, c.bytes_of.ensures) at c.hold.ensures)

pub returns-else-not-is_plain-3-clause-some : goal.returns-else-not-is_plain-3-clause-some
returns-else-not-is_plain-3-clause-some c =
    let is = rw c.in-Decrement.is at c.requires in
    at_decrement _ _ _ _ _ _ c.args.machine.now is.0 is.1 is.2 (rw (c.held.ensures, c.bytes_of-in-Decrement.ensures)) c.hold-in-Decrement.ensures

pub returns-else-not-is_plain-4-clause-some : goal.returns-else-not-is_plain-4-clause-some
returns-else-not-is_plain-4-clause-some c =
    let is = rw c.in-Index.is at c.requires in
    at_index _ _ _ _ _ _ c.args.machine.now is.0 is.1 (search rules) c.in_ok-index-in-Index.ensures.plain c.in_ok-index-in-Index.ensures.value
    (rw c.held-in-Index.ensures)

pub returns-else-not-is_plain-5-clause-some : goal.returns-else-not-is_plain-5-clause-some
returns-else-not-is_plain-5-clause-some c =
    let is = rw c.in-IncrementPointer.is at c.requires in
    at_increment_pointer _ _ _ _ _ _ _ c.args.machine.now is.0 is.1 c.held-pointer.ensures
    c.in_ok-address-in-IncrementPointer.ensures.plain c.in_ok-address-in-IncrementPointer.ensures.value
    c.hold-in-IncrementPointer.ensures

pub returns-else-not-is_plain-6-clause-some : goal.returns-else-not-is_plain-6-clause-some
returns-else-not-is_plain-6-clause-some c =
    let is = rw c.in-DecrementPointer.is at c.requires in
    at_decrement_pointer _ _ _ _ _ _ _ c.args.machine.now is.0 is.1 (rw c.held-pointer-in-DecrementPointer.ensures)
    c.in_ok-address-in-DecrementPointer.ensures.plain c.in_ok-address-in-DecrementPointer.ensures.value
    c.hold-in-DecrementPointer.ensures

pub returns-else-not-is_plain-7-clause-some : goal.returns-else-not-is_plain-7-clause-some
returns-else-not-is_plain-7-clause-some c =
    let is = rw c.in-IndexPointer.is at c.requires in
    at_index_pointer _ _ _ _ _ _ _ c.args.machine.now is.0 is.1 (search rules)
    c.in_ok-index-in-IndexPointer.ensures.plain c.in_ok-index-in-IndexPointer.ensures.value
    (rw c.held-in-IndexPointer.ensures)
    c.in_ok-address-in-IndexPointer.ensures.plain c.in_ok-address-in-IndexPointer.ensures.value

pub returns-else-not-is_plain-8-clause-some : goal.returns-else-not-is_plain-8-clause-some
returns-else-not-is_plain-8-clause-some c =
    let is = rw c.in-RelativePointer.is at c.requires in
    at_relative_pointer _ _ _ _ _ _ _ c.args.machine.now is.0 is.1 (search rules)
    c.in_ok-index-in-RelativePointer.ensures.plain c.in_ok-index-in-RelativePointer.ensures.value refl
    c.in_ok-address-in-RelativePointer.ensures.plain c.in_ok-address-in-RelativePointer.ensures.value

pub returns-else-not-is_plain-9-clause-some : goal.returns-else-not-is_plain-9-clause-some
returns-else-not-is_plain-9-clause-some c =
    let is = rw c.in-Absolute.is at c.requires in
    at_absolute _ _ _ _ _ c.args.machine.now is.0 is.1 (search rules) c.in_ok-address-in-Absolute.ensures.plain c.in_ok-address-in-Absolute.ensures.value

pub returns-else-not-is_plain-10-clause-some : goal.returns-else-not-is_plain-10-clause-some
returns-else-not-is_plain-10-clause-some c =
    let is = rw c.in-Relative.is at c.requires in
    at_relative _ _ _ _ _ _ c.args.machine.now is.0 is.1 (search rules) c.in_ok-index-in-Relative.ensures.plain c.in_ok-index-in-Relative.ensures.value
    refl

pub returns-else-not-is_plain-11-clause-some : goal.returns-else-not-is_plain-11-clause-some
returns-else-not-is_plain-11-clause-some c =
    let is = rw c.in-Immediate.is at c.requires in
    at_immediate_location _ _ _ _ _ c.args.machine.now is.0 is.1 (search rules) refl
