use Rattle.std.proofs.Common.{refl}
use Rattle.std.specs.Fmt.{digits}
use Rattle.m11_cli_reports.proofs.refusals.words_before_option.Goals as goal

pub returns-in-Help : goal.returns-in-Help
unfolding digits
returns-in-Help c = rw c.in-Help.is refl

pub returns-in-Words : goal.returns-in-Words
unfolding digits
returns-in-Words c = rw c.in-Words.is refl

pub returns-in-BadOctal : goal.returns-in-BadOctal
unfolding digits
returns-in-BadOctal c = rw c.in-BadOctal.is refl

pub returns-in-OddAddress : goal.returns-in-OddAddress
unfolding digits
returns-in-OddAddress c = rw c.in-OddAddress.is refl

pub returns-in-BadAddress : goal.returns-in-BadAddress
unfolding digits
returns-in-BadAddress c = rw c.in-BadAddress.is refl

pub returns-in-BadCount : goal.returns-in-BadCount
unfolding digits
returns-in-BadCount c = rw c.in-BadCount.is refl

pub returns-in-NoMemory : goal.returns-in-NoMemory
unfolding digits
returns-in-NoMemory c = rw c.in-NoMemory.is refl
