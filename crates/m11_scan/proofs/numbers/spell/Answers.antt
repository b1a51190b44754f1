use Rattle.std.proofs.Common.{◌+◌, ◌-◌, ◌*◌, ◌%◌, ◌∙◌, sym, ap, take, get_or, arith, ltb}
use Rattle.m11_scan.specs.Numbers.{spelled}
use Rattle.m11_scan.proofs.Spelling.{next_value, passes, spelled-push, stays}
use Rattle.m11_scan.proofs.numbers.spell.Goals as goal
use Rattle.m11_scan.proofs.numbers.spell.Goals.{then-next-gt65535, else-next-gt65535}

pub digits-preserved : goal.digits-preserved
digits-preserved c =
    let here = spelled-push c.args.base c.args.digits.now c.digits.digit-index c.digits-test.true in
    let before = spelled c.args.base (take c.digits.digit-index c.args.digits.now) in
    let digit = get_or c.args.digits.now c.digits.digit-index 0 - 48 in
    let least = c.requires.least in
    let added = ap (λ d. c.digits.value * c.args.base + d) c.digit_value.ensures.value in
    record {
      value =
          ap (λ n. n % 65536) added
          ∙ next_value c.args.base before digit c.digits.value least c.digits.invariant.value
          ∙ ap (λ n. n % 65536) (sym here);
      small = omega arith;
      large = elim c.if-next-gt65535.branch [
        | then-next-gt65535 w ↦
            w.is_large-is
            ∙ passes c.args.base before digit c.digits.value least c.digits.invariant.value
            (let lt = w.if-next-gt65535.true in omega arith)
            ∙ ap (ltb 65535) (sym here)
        | else-next-gt65535 w ↦
            w.is_large-is
            ∙ stays c.args.base before digit c.digits.value least c.digits.invariant.value
            (let le = w.if-next-gt65535.false in omega arith) c.digits.is_large c.digits.invariant.large
            ∙ ap (ltb 65535) (sym here)
      ];
    }
