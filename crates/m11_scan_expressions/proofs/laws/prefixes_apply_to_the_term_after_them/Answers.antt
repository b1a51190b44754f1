use Rattle.m11_scan_expressions.proofs.BeforeTerms.{binary_value, complement_value, decimal_sum, decimal_value, minus_value, octal_value, plus_value, register_value}
use Rattle.m11_scan_expressions.proofs.laws.prefixes_apply_to_the_term_after_them.Goals as goal

pub returns-clause-plus : goal.returns-clause-plus
returns-clause-plus c = plus_value

pub returns-clause-minus : goal.returns-clause-minus
returns-clause-minus c = minus_value

pub returns-clause-complement : goal.returns-clause-complement
returns-clause-complement c = complement_value

pub returns-clause-register : goal.returns-clause-register
returns-clause-register c = register_value

pub returns-clause-binary : goal.returns-clause-binary
returns-clause-binary c = binary_value

pub returns-clause-octal : goal.returns-clause-octal
returns-clause-octal c = octal_value

pub returns-clause-decimal : goal.returns-clause-decimal
returns-clause-decimal c = decimal_value

pub returns-clause-in_brackets : goal.returns-clause-in_brackets
returns-clause-in_brackets c = decimal_sum
