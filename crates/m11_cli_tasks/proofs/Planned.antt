-- The result of a command line of a program without commands.
use Rattle.std.proofs.Common.{◌≡◌, ◌≢◌, ◌∙◌, List, [], Result, Ok, Err, inl, inr, subst, sym, ap}
use Rattle.std.specs.Prelude.{IsErrAnd}
use Rattle.clap.specs.Kinds.{HasKind, Kinds}
use Rattle.clap.specs.Words.{App, IsAmong, Row, Text, fault_of, kind_of, matches_of}
use Rattle.clap.specs.declared.error.Error.{Error}
use Rattle.clap.specs.declared.error.kind.ErrorKind.{ErrorKind}
use Rattle.clap.specs.declared.error.kind.ErrorKind.TheVariants as kind
use Rattle.m11_cli_tasks.specs.Plans.{ParserRefuses, Plans}
use Rattle.m11_cli_tasks.specs.Usage.{UsageFaultOf}
use Rattle.m11_cli_tasks.specs.declared.usage.UsageFault.{UsageFault}
use Rattle.m11_cli_tasks.specs.declared.usage.UsageFault.TheVariants.{Help, Words, BadOctal, OddAddress, BadAddress, BadCount, NoMemory}

-- an error with a kind that the parser may report becomes a fault with which the parser may refuse the command line
help_is : (kinds : Kinds) (e error : Error) → HasKind kinds e → error ≡ e → kind_of e ≡ kind.DisplayHelp
    → (kind_of error ≡ kind.DisplayHelp) × IsAmong kind.DisplayHelp kinds
help_is kinds e error (inl memory) same is = absurd cc
help_is kinds e error (inr among) same is =
    (ap kind_of same ∙ is, subst (λ (k : ErrorKind). IsAmong k kinds) is among)

words_are : (kinds : Kinds) (e error : Error) → HasKind kinds e → error ≡ e → kind_of e ≢ kind.DisplayHelp
    → kind_of e ≢ kind.OutOfMemory → (kind_of error ≢ kind.DisplayHelp) × IsAmong (kind_of error) kinds
words_are kinds e error (inl memory) same other some = absurd (some memory)
words_are kinds e error (inr among) same other some =
    (λ h. other (sym (ap kind_of same) ∙ h), subst (λ (k : ErrorKind). IsAmong k kinds) (sym (ap kind_of same)) among)

refusal : (kinds : Kinds) (e : Error) (fault : UsageFault) → HasKind kinds e → UsageFaultOf e fault → ParserRefuses kinds fault
refusal kinds e (Help error) has h = help_is kinds e error has h.0 h.1
refusal kinds e (Words error) has h = words_are kinds e error has h.0 h.1 h.2
refusal kinds e BadOctal has h = h
refusal kinds e OddAddress has h = h
refusal kinds e BadAddress has h = h
refusal kinds e BadCount has h = h
refusal kinds e NoMemory has h = tt

module _ {A : Type 0} (app : App) (Gives : List Row → Result A UsageFault → Type 0) (words : List Text) where
  pub refused : (e : Error) (r : Result A UsageFault) → HasKind (fault_of app words) e → IsErrAnd r (UsageFaultOf e)
      → Plans app Gives words r
  refused e (Ok task) has h = absurd h
  refused e (Err fault) has h = inl (refusal (fault_of app words) e fault has h)

  -- if the parser accepts a command line, its result is that of its entries
  pub planned : (rows : List Row) (r : Result A UsageFault) → fault_of app words ≡ [] → rows ≡ matches_of app words → Gives rows r
      → Plans app Gives words r
  planned rows (Ok task) free is given = let P : List Row → Type 0 = λ x. Gives x (Ok task) in (free, subst P is given)
  planned rows (Err fault) free is given = let P : List Row → Type 0 = λ x. Gives x (Err fault) in inr (free, subst P is given)
