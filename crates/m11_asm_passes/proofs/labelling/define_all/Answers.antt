use Rattle.std.proofs.Common.{◌≡◌, ◌∙◌, ◌≤◌, ℕ, ◌||◌, Bool, List, Some, None, false, flat_map, if◌then◌else◌, length, nat_lt, inl, inr, ap, arith, refl, subst}
use Rattle.std.proofs.lemmas.Bool.Decides.{nat_tests}
use Rattle.m11_asm_rules.specs.Labels.{labels_flags, with_labels}
use Rattle.m11_asm_rules.specs.Limits.{has_too_many, most_names}
use Rattle.m11_asm_rules.specs.SymbolUses.{label_uses}
use Rattle.m11_asm_rules.specs.Tables.{Table}
use Rattle.m11_asm_lines.specs.Labels.{AreFlags, FitsUpToDefined}
use Rattle.m11_asm_lines.specs.Moved.{moved_flags}
use Rattle.m11_asm_lines.proofs.Room.{few_of_both}
use Rattle.m11_asm_lines.specs.Counting.{FitsUpToCounted, names_counted, with_counted}
use Rattle.m11_asm_lines.specs.declared.counting.Counting.{Counting}
use Rattle.m11_scan_statements.specs.declared.labels.Label.{Label}
use Rattle.m11_asm_lines.proofs.Refusals.{handed_on}
use Rattle.m11_asm_passes.specs.Labelled.{FitUpToOne}
use Rattle.m11_asm_faults.specs.declared.fault.AsmFault.{AsmFault}
use Rattle.m11_asm_faults.specs.declared.fault.AsmFault.TheVariants.{NoMemory, TooManySymbols}
use Rattle.m11_asm_passes.proofs.labelling.define_all.Goals as goal

passes_none : (count : ℕ) (many : Bool) → count ≤ most_names → many ≡ false
    → (if nat_lt most_names count || many then Some TooManySymbols else None) ≡ None
passes_none count many few none =
    let below : nat_lt most_names count ≡ false = grind (arith, nat_tests, few) in rw (below, none) refl

pub returns-clause-stand : goal.returns-clause-stand
returns-clause-stand c =
    let G : Counting → Type 0 = λ g. length (names_counted g) ≤ most_names in
    let all = c.in_ok-add_labels.ensures.counts
    ∙ ap (λ (labels : List Label). with_counted (flat_map (label_uses c.args.line.now.text) labels) c.args.counting.now) c.requires in
    let table = c.in_ok-flags.ensures.defines ∙ ap (with_labels c.args.line.now.text c.args.pass.now) c.requires in
    let R : Table → Type 0 = λ t. has_too_many t ≡ false in
    let F : List Label → Type 0 = λ labels. AreFlags c.in_ok-flags.flags (labels_flags c.args.line.now.text c.args.pass.now labels)
    (moved_flags c.args.map.now c.args.line.now.text c.args.pass.now labels) in
    record {
      fits = passes_none _ _ (subst G all c.names_are_within_the_limit.ensures)
          (subst R table (few_of_both c.define_labels.new.self c.counts_are_within_the_limits.ensures.names
          c.counts_are_within_the_limits.ensures.symbols));
      table = table;
      are = subst F c.requires c.in_ok-flags.ensures.flags;
    }

pub returns-in_err-add_labels-clause-limits_first : goal.returns-in_err-add_labels-clause-limits_first
returns-in_err-add_labels-clause-limits_first c =
    let P : AsmFault → Type 0 = λ fault. fault ≡ NoMemory → FitUpToOne c.args.counting.now c.args.pass.now c.args.line.now.text in
    let L : List Label → Type 0 = λ labels. FitsUpToCounted c.args.line.now.text labels c.args.counting.now in
    handed_on P c.in_err-add_labels.field-0.0 c.from_residual.result
    (λ none. inl (subst L c.requires (c.in_err-add_labels.ensures.limit_first none)))
    c.from_residual.ensures.1

pub returns-in_err-flags-clause-limits_first : goal.returns-in_err-flags-clause-limits_first
returns-in_err-flags-clause-limits_first c =
    let P : AsmFault → Type 0 = λ fault. fault ≡ NoMemory → FitUpToOne c.args.counting.now c.args.pass.now c.args.line.now.text in
    let G : Counting → Type 0 = λ g. length (names_counted g) ≤ most_names in
    let L : List Label → Type 0 = λ labels. FitsUpToDefined c.args.line.now.text labels c.args.pass.now in
    let all = c.in_ok-add_labels.ensures.counts
    ∙ ap (λ (labels : List Label). with_counted (flat_map (label_uses c.args.line.now.text) labels) c.args.counting.now) c.requires in
    handed_on P c.in_err-flags.field-0.0 c.from_residual-in_err-flags.result
    (λ none. inr (
      subst G all c.names_are_within_the_limit.ensures,
      subst L c.requires (c.in_err-flags.ensures.limits_first none),
    ))
    c.from_residual-in_err-flags.ensures.1
