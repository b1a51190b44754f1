use Rattle.std.proofs.Common.{refl, rules}
use Rattle.m11_cpu_machine.specs.Execution.{execute}
use Rattle.m11_cpu_machine.proofs.Dialogues.{act_by, bind_aborts, bind_does, bind_reads, bind_reads_aborts, comes, comes_ok, reads_beside}
use Rattle.m11_cpu_machine.proofs.machine.Machine.execute.Goals as goal

pub returns-in_ok-double-in-Double : goal.returns-in_ok-double-in-Double
unfolding execute
returns-in_ok-double-in-Double g c =
    act_by execute _ _ _ _ _ _ c.in-Double.is
    (bind_does _ _ _ _ _ _ _ _ _ c.in_ok-double-in-Double.ensures
    (comes _ _ _ refl))

pub returns-in_err-double-in-Double : goal.returns-in_err-double-in-Double
unfolding execute
returns-in_err-double-in-Double g c =
    act_by execute _ _ _ _ _ _ c.in-Double.is
    (bind_aborts _ _ _ _ _ _ _ _ c.in_err-double-in-Double.ensures c.from_residual.ensures.1)

pub returns-in_ok-extended-in-Extended : goal.returns-in_ok-extended-in-Extended
unfolding execute
returns-in_ok-extended-in-Extended g c =
    act_by execute _ _ _ _ _ _ c.in-Extended.is
    (bind_reads _ _ _ _ _ _ _ _ _ _ c.in_ok-extended-in-Extended.ensures
    (comes _ _ _ refl))

pub returns-in_err-extended-in-Extended : goal.returns-in_err-extended-in-Extended
unfolding execute
returns-in_err-extended-in-Extended g c =
    act_by execute _ _ _ _ _ _ c.in-Extended.is
    (bind_reads_aborts _ _ _ _ _ _ _ _ _ c.in_err-extended-in-Extended.ensures c.from_residual-in_err-extended-in-Extended.ensures.1)

pub returns-in_ok-on_register-in-Register : goal.returns-in_ok-on_register-in-Register
unfolding execute
returns-in_ok-on_register-in-Register g c =
    act_by execute _ _ _ _ _ _ c.in-Register.is
    (bind_does _ _ _ _ _ _ _ _ _ c.in_ok-on_register-in-Register.ensures
    (comes _ _ _ refl))

pub returns-in_err-on_register-in-Register : goal.returns-in_err-on_register-in-Register
unfolding execute
returns-in_err-on_register-in-Register g c =
    act_by execute _ _ _ _ _ _ c.in-Register.is
    (bind_aborts _ _ _ _ _ _ _ _ c.in_err-on_register-in-Register.ensures c.from_residual-in_err-on_register-in-Register.ensures.1)

pub returns-in_ok-single-in-Single : goal.returns-in_ok-single-in-Single
unfolding execute
returns-in_ok-single-in-Single g c =
    act_by execute _ _ _ _ _ _ c.in-Single.is
    (bind_does _ _ _ _ _ _ _ _ _ c.in_ok-single-in-Single.ensures
    (comes _ _ _ refl))

pub returns-in_err-single-in-Single : goal.returns-in_err-single-in-Single
unfolding execute
returns-in_err-single-in-Single g c =
    act_by execute _ _ _ _ _ _ c.in-Single.is
    (bind_aborts _ _ _ _ _ _ _ _ c.in_err-single-in-Single.ensures c.from_residual-in_err-single-in-Single.ensures.1)

pub returns-in_ok-return_by-in-Rts : goal.returns-in_ok-return_by-in-Rts
unfolding execute
returns-in_ok-return_by-in-Rts g c =
    act_by execute _ _ _ _ _ _ c.in-Rts.is
    (bind_reads _ _ _ _ _ _ _ _ _ _ c.in_ok-return_by-in-Rts.ensures
    (comes _ _ _ refl))

pub returns-in_err-return_by-in-Rts : goal.returns-in_err-return_by-in-Rts
unfolding execute
returns-in_err-return_by-in-Rts g c =
    act_by execute _ _ _ _ _ _ c.in-Rts.is
    (bind_reads_aborts _ _ _ _ _ _ _ _ _ c.in_err-return_by-in-Rts.ensures c.from_residual-in_err-return_by-in-Rts.ensures.1)

pub returns-in_ok-numbered-in-Number : goal.returns-in_ok-numbered-in-Number
unfolding execute
returns-in_ok-numbered-in-Number g c =
    act_by execute _ _ _ _ _ _ c.in-Number.is
    (bind_reads _ _ _ _ _ _ _ _ _ _ c.in_ok-numbered-in-Number.ensures
    (comes _ _ _ refl))

pub returns-in_err-numbered-in-Number : goal.returns-in_err-numbered-in-Number
unfolding execute
returns-in_err-numbered-in-Number g c =
    act_by execute _ _ _ _ _ _ c.in-Number.is
    (bind_reads_aborts _ _ _ _ _ _ _ _ _ c.in_err-numbered-in-Number.ensures c.from_residual-in_err-numbered-in-Number.ensures.1)

pub returns-in-Sob : goal.returns-in-Sob
unfolding execute
returns-in-Sob g c =
    act_by execute _ _ _ _ _ _ c.in-Sob.is (comes_ok _ _ _ _ _ refl c.count_down.ensures)

pub returns-in-Condition : goal.returns-in-Condition
unfolding execute
returns-in-Condition g c =
    act_by execute _ _ _ _ _ _ c.in-Condition.is (comes_ok _ _ _ _ _ refl c.apply_conditions.ensures)

pub returns-in-Branch : goal.returns-in-Branch
unfolding execute
returns-in-Branch g c =
    act_by execute _ _ _ _ _ _ c.in-Branch.is (comes_ok _ _ _ _ _ refl (search rules))

pub returns-in-Bare : goal.returns-in-Bare
unfolding execute
returns-in-Bare g c =
    act_by execute _ _ _ _ _ _ c.in-Bare.is (reads_beside _ _ _ _ _ c.bare.ensures)

pub returns-in-Reserved : goal.returns-in-Reserved
unfolding execute
returns-in-Reserved g c =
    act_by execute _ _ _ _ _ _ c.in-Reserved.is (comes _ _ _ refl)
