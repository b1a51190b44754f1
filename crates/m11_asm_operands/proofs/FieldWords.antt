-- The flags of the fields and the words after an instruction, one field after the other.
use Rattle.std.proofs.Common.{◌≡◌, ℕ, List, ◌*◌, sym, ap, ◌∙◌}
use Rattle.m11_asm_operands.proofs.Joining.{followed_joins}
use Rattle.m11_asm_rules.specs.Codes.{LineContext, form_words, words_from}
use Rattle.m11_asm_rules.specs.Contents.{Emission, followed_by, further}
use Rattle.m11_asm_rules.specs.Fields.{with_form}
use Rattle.m11_asm_rules.specs.Operands.{words_of}
use Rattle.m11_asm_rules.specs.declared.fields.Field.{Field}
use Rattle.m11_asm_rules.specs.declared.fields.Field.TheVariants as content
use Rattle.m11_asm_rules.specs.declared.operands.Form.{Form}
use Rattle.m11_scan_expressions.specs.Tokens.{Expression}

pub formed_on : (line_context : LineContext) (done new : Emission) (location next size : ℕ) (field : Field Expression) (form : Form Expression) → field ≡ content.Operand form
    → new ≡ followed_by done (form_words line_context location form) → next ≡ further location size → size ≡ words_of form * 2
    → (forms : List (Form Expression))
    → followed_by new (words_from line_context next forms) ≡ followed_by done (words_from line_context location (with_form field forms))
formed_on line_context done new location next size field form is adds goes sizes forms =
    ap (λ (p : Emission). followed_by p (words_from line_context next forms)) adds
    ∙ followed_joins done (form_words line_context location form) (words_from line_context next forms)
    ∙ ap (λ (n : ℕ). followed_by done (followed_by (form_words line_context location form) (words_from line_context n forms)))
    (goes ∙ ap (λ (n : ℕ). further location n) sizes)
    ∙ ap (λ (f : Field Expression). followed_by done (words_from line_context location (with_form f forms))) (sym is)
