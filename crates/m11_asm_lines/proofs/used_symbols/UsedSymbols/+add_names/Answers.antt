use Rattle.std.proofs.Common.{◌≡◌, ◌∙◌, ◌<◌, ◌-◌, List, drop, take, length, map, ap, refl, subst, sym}
use Rattle.m11_base.specs.Rad50.{Name}
use Rattle.m11_asm_rules.specs.Limits.{most_names}
use Rattle.m11_asm_rules.specs.SymbolUses.{SymbolUse, named}
use Rattle.m11_asm_lines.proofs.Gathering.{defined_as, each_named, failed_item, item_then, name_uses}
use Rattle.m11_asm_lines.specs.Faults.{Refuses}
use Rattle.m11_asm_lines.specs.UsedSymbols.{Adds, with_all}
use Rattle.m11_asm_lines.proofs.used_symbols.UsedSymbols.+add_names.Goals as goal

pub returns-in_err-define-in-len1-up : goal.returns-in_err-define-in-len1-up
returns-in_err-define-in-len1-up t c =
    let line = c.args.line.now.text in
    let fault = c.in_err-define-in-len1-up.field-0.0 in
    let A : List SymbolUse → Type 0 = λ l. Adds l c.args.self.now c.define.new.self c.from_residual.result in
    let R : List SymbolUse → Type 0 = λ l. Refuses fault (most_names < length (with_all l c.args.self.now).names) ⊥ in
    subst A (each_named line c.args.names.now)
    (failed_item (name_uses line) c.args.names.now _ _ c.args.self.now c.from_residual.result c.define.new.self fault c.in-len1-up.len_at_least refl
    (subst R (defined_as c.listed_name.result ∙ ap (λ (l : List Name). map named l) c.listed_name.ensures)
    c.in_err-define-in-len1-up.ensures.adds)
    c.from_residual.ensures.1)

pub returns-in_ok-define-in-len1-up : goal.returns-in_ok-define-in-len1-up
returns-in_ok-define-in-len1-up t c =
    let line = c.args.line.now.text in
    let A : List SymbolUse → Type 0 = λ l. Adds l c.args.self.now c.add_names.new.self c.add_names.result in
    let R : List SymbolUse → Type 0 = λ l. c.define.new.self ≡ with_all l c.args.self.now in
    let B : List SymbolUse → Type 0 = λ l. Adds l c.define.new.self c.add_names.new.self c.add_names.result in
    subst A (each_named line c.args.names.now)
    (item_then (name_uses line) c.args.names.now _ _ c.args.self.now c.add_names.result c.define.new.self c.add_names.new.self
    c.in-len1-up.len_at_least refl
    (subst R (defined_as c.listed_name.result ∙ ap (λ (l : List Name). map named l) c.listed_name.ensures)
    c.in_ok-define-in-len1-up.ensures.adds)
    (subst B (sym (each_named line (take (length c.args.names.now - 1) (drop 1 c.args.names.now)))) c.add_names.ensures))
