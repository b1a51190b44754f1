use Rattle.m11_scan.specs.declared.radix.Radix.TheVariants.{Octal}
use Rattle.m11_scan_expressions.proofs.BeforeTerms.{prefixed_term, signed_term}
use Rattle.m11_scan_expressions.proofs.Folds.{no_operator}
use Rattle.m11_scan_expressions.proofs.Groups.{none_outside}
use Rattle.m11_scan_expressions.proofs.laws.terms_are_made_of_terms.Goals as goal

pub returns-clause-token : goal.returns-clause-token
returns-clause-token c = λ token is. no_operator token.sort is

pub returns-clause-signed : goal.returns-clause-signed
returns-clause-signed c = signed_term

pub returns-clause-prefixed : goal.returns-clause-prefixed
returns-clause-prefixed c = prefixed_term

pub returns-clause-bracketed : goal.returns-clause-bracketed
returns-clause-bracketed c = none_outside Octal
