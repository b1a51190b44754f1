-- Refused command lines and values.
use Rattle.std.proofs.Common.{◌≡◌, [], ◌∷◌, ◌++◌, Result, Ok, Err, append_assoc, refl}
use Rattle.std.specs.Prelude.{IsErrAnd}
use Rattle.clap.specs.declared.error.Error.{Error}
use Rattle.m11_cli_tasks.specs.Usage.{UsageFaultOf}
use Rattle.m11_cli_reports.specs.Refusals.{RefusalOf, RefusedWord, of_words, option_word, refused_line, words_before_option}
use Rattle.m11_cli_reports.specs.declared.refusals.Refusal.{Refusal}
use Rattle.m11_cli_reports.specs.declared.refusals.Refusal.TheVariants.{Usage, Value}

-- the refusal for an error of the parser is one of the words, with the fault for that error
pub words_refused : {A : Type 0} (e : Error) (r : Result A Refusal) → IsErrAnd r (RefusalOf e) → IsErrAnd (of_words r) (UsageFaultOf e)
words_refused e (Ok task) h = absurd h
words_refused e (Err (Usage fault)) h = h
words_refused e (Err (Value value)) h = absurd h

-- the line for a refused word consists of the words before its option, the option, a space, the word and a line feed
pub line_parts : (refused : RefusedWord) → refused_line refused
    ≡ words_before_option refused.fault ++ (option_word refused.option ++ (32 ∷ (refused.word ++ 10 ∷ [])))
line_parts refused = simp append_assoc refl
