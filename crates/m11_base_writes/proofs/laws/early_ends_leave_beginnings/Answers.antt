use Rattle.m11_base_writes.proofs.Writing.{beginnings_left, flushed_beginnings}
use Rattle.m11_base_writes.proofs.laws.early_ends_leave_beginnings.Goals as goal

pub returns-clause-writes : goal.returns-clause-writes
returns-clause-writes g c = λ kinds old new writes fault h. beginnings_left kinds old new writes fault h

pub returns-clause-flush : goal.returns-clause-flush
returns-clause-flush g c = λ kinds old new writes outputs fault h. flushed_beginnings kinds old new writes outputs fault h
