use Rattle.std.proofs.Common.{◌≡◌, ℕ, suc, zero, ◌-◌, List, [], ◌∷◌, ◌++◌, refl, sym, ap, ◌∙◌, arith}
use Rattle.std.specs.Int.Bits.{or_zero_r}
use Rattle.std.specs.Int.RustNames.{bit_or}
use Rattle.std.proofs.lemmas.List.{append-nil, append_assoc}
use Rattle.m11_scan.specs.Views.{bits_of}
use Rattle.m11_scan_statements.specs.declared.actuals.Separator.{Separator}
use Rattle.m11_unfold_rules.specs.Headers.{FormalList, formals_within, listed_model}
use Rattle.m11_unfold_rules.specs.declared.macros.FormalOrEnd.TheVariants.{Last}
use Rattle.m11_unfold_rules.specs.declared.macros.MacroFormal.{MacroFormal}
use Rattle.m11_unfold_rules.proofs.Headers.{formal_on, listed_on}
use Rattle.m11_scan_expressions.proofs.Joining.{or_joins}
use Rattle.m11_unfold_rules.proofs.macros.formals_within.Goals as goal

pub returns-in-Last-clause-list : goal.returns-in-Last-clause-list
returns-in-Last-clause-list c =
    let some = c.formals-test.true in
    let is : c.formals.left ≡ suc (c.formals.left - 1) = omega arith in
    let step = listed_on c.args.line.now.text c.formals.left (c.formals.left - 1) c.formals.end c.separator_at-begin.result.end is
    (ap (λ (s : Separator). s.end) c.separator_at-begin.ensures)
    (listed_model (Last c.in-Last.last)) c.in-Last.ensures in
    sym (append-nil _) ∙ ap (λ (f : FormalList). c.formals.list.items ++ f.list) (sym step) ∙ c.formals.invariant.list

pub returns-in-Last-clause-flags : goal.returns-in-Last-clause-flags
returns-in-Last-clause-flags c =
    let some = c.formals-test.true in
    let is : c.formals.left ≡ suc (c.formals.left - 1) = omega arith in
    let step = listed_on c.args.line.now.text c.formals.left (c.formals.left - 1) c.formals.end c.separator_at-begin.result.end is
    (ap (λ (s : Separator). s.end) c.separator_at-begin.ensures)
    (listed_model (Last c.in-Last.last)) c.in-Last.ensures in
    c.with.ensures ∙ ap (λ (f : FormalList). bit_or (bits_of c.formals.flags) f.flags) (sym step) ∙ c.formals.invariant.flags

pub formals-preserved : goal.formals-preserved
formals-preserved c =
    let some = c.formals-test.true in
    let is : c.formals.left ≡ suc (c.formals.left - 1) = omega arith in
    let more = formals_within (c.formals.left - 1) c.args.line.now.text c.in-More.next.end in
    let step = formal_on c.args.line.now.text c.formals.left (c.formals.left - 1) c.formals.end c.separator_at-begin.result.end is
    (ap (λ (s : Separator). s.end) c.separator_at-begin.ensures)
    c.in-More.next.formal (bits_of c.in-More.next.flags) c.in-More.next.end c.in-More.next.end c.in-More.ensures
    refl in
    record {
      list =
          ap (λ (l : List MacroFormal). l ++ more.list) c.in_ok-push-in-More.ensures.items
          ∙ append_assoc c.formals.list.items (c.in-More.next.formal ∷ []) more.list
          ∙ ap (λ (f : FormalList). c.formals.list.items ++ f.list) (sym step) ∙ c.formals.invariant.list;
      flags =
          ap (λ (n : ℕ). bit_or n more.flags) c.with-flags.ensures
          ∙ or_joins (bits_of c.formals.flags) (bits_of c.in-More.next.flags) more.flags
          ∙ ap (λ (f : FormalList). bit_or (bits_of c.formals.flags) f.flags) (sym step) ∙ c.formals.invariant.flags;
    }

pub returns-clause-flags : goal.returns-clause-flags
returns-clause-flags c =
    let none = c.formals-test.false in
    let is : c.formals.left ≡ zero = omega arith in
    sym (or_zero_r _)
    ∙ ap (λ (n : ℕ). bit_or (bits_of c.formals.flags) (formals_within n c.args.line.now.text c.formals.end).flags) (sym is)
    ∙ c.formals.invariant.flags
