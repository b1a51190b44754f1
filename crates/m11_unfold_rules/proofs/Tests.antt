-- Names joined by `&` and `!`, tested one after the other.
use Rattle.std.proofs.Common.{◌≡◌, ℕ, Bool, List, [], ◌∷◌, drop, option_to_list, Option, Some, None, refl, sym, ap, ◌∙◌, subst}
use Rattle.std.proofs.lemmas.List.{append_assoc}
use Rattle.m11_scan.specs.Cutting.{Lexeme}
use Rattle.m11_scan_expressions.specs.declared.names.Symbol.{Symbol}
use Rattle.m11_scan_expressions.specs.Terms.{symbol_in}
use Rattle.m11_unfold_rules.specs.declared.definedness.Joint.{Joint}
use Rattle.m11_unfold_rules.specs.declared.definedness.JointAt.{JointAt}
use Rattle.m11_unfold_rules.specs.declared.definedness.SoFar.{SoFar}
use Rattle.m11_scan_expressions.specs.Expressions.{KnownSymbols}
use Rattle.m11_scan_expressions.specs.Remarks.{Remarks, with_symbols}
use Rattle.m11_unfold_rules.proofs.Cases.{after_joint}
use Rattle.m11_unfold_rules.specs.Definedness.{Tested, verdict_of, after_symbol, at_bad, at_last, joined_to, joining, joint_at, joint_in, names_in, tested}

abbrev pub symbol_first : Symbol → Tested → Tested
symbol_first symbol more = record { verdict = more.verdict; end = more.end; symbols = symbol ∷ more.symbols }

abbrev next_after : Bool → Option SoFar → Option JointAt → Option SoFar
next_after verdict other None = other
next_after verdict other (Some next) = Some (record { holds = verdict; joint = next.joint })

module _ (test : Symbol → Bool) (size : ℕ) (before : Option SoFar) (name : Lexeme) where
  pub bad_name : (tokens : List Lexeme) → symbol_in name.sort name.text ≡ None → names_in test size before (name ∷ tokens) ≡ at_bad size
  bad_name [] none = ap (λ (s : Option Symbol). after_symbol size s (λ symbol. at_last (joined_to before (test symbol)) name.end)) none
  bad_name (mark ∷ tokens) none =
      ap (λ (s : Option Symbol). after_symbol size s (λ symbol.
      after_joint (joined_to before (test symbol)) name.end (joining mark.sort) (λ next. names_in test size next tokens))) none

  module _ (symbol : Symbol) (is : symbol_in name.sort name.text ≡ Some symbol) where
    ended : (end : ℕ) (tokens : List Lexeme) (joint : Option Joint) → joint_at end joint ≡ None
        → after_joint (joined_to before (test symbol)) name.end joint (λ next. names_in test size next tokens)
        ≡ at_last (joined_to before (test symbol)) name.end
    ended end tokens None none = refl
    ended end tokens (Some joint) none = absurd (cc)

    pub last_name : (tokens : List Lexeme) → joint_in tokens ≡ None
        → names_in test size before (name ∷ tokens) ≡ symbol_first symbol (at_last (joined_to before (test symbol)) name.end)
    last_name [] none = ap (λ (s : Option Symbol). after_symbol size s (λ symbol. at_last (joined_to before (test symbol)) name.end)) is
    last_name (mark ∷ tokens) none =
        ap (λ (s : Option Symbol). after_symbol size s (λ symbol.
        after_joint (joined_to before (test symbol)) name.end (joining mark.sort) (λ next. names_in test size next tokens))) is
        ∙ ap (λ (t : Tested). symbol_first symbol t) (ended mark.end tokens (joining mark.sort) none)

    further : (end : ℕ) (tokens : List Lexeme) (joint : Option Joint) (next : JointAt) → joint_at end joint ≡ Some next
        → after_joint (joined_to before (test symbol)) name.end joint (λ next. names_in test size next tokens)
        ≡ names_in test size (Some (record { holds = joined_to before (test symbol); joint = next.joint })) tokens
    further end tokens None next some = absurd (cc)
    further end tokens (Some joint) next some =
        ap (λ (j : Option JointAt). names_in test size (next_after (joined_to before (test symbol)) None j) tokens) some

    pub next_name : (tokens : List Lexeme) (next : JointAt) → joint_in tokens ≡ Some next
        → names_in test size before (name ∷ tokens) ≡ symbol_first symbol
        (names_in test size (Some (record { holds = joined_to before (test symbol); joint = next.joint })) (drop 1 tokens))
    next_name [] next some = absurd (cc)
    next_name (mark ∷ tokens) next some =
        ap (λ (s : Option Symbol). after_symbol size s (λ symbol.
        after_joint (joined_to before (test symbol)) name.end (joining mark.sort) (λ next. names_in test size next tokens))) is
        ∙ ap (λ (t : Tested). symbol_first symbol t) (further mark.end tokens (joining mark.sort) next some)

-- the names that are left have the result of the whole list, and their symbols, added to the remarks, are all of its symbols
pub record Leads (remarks begin : Remarks) (left all : Tested) : Type 0 where
  pub verdict : left.verdict ≡ all.verdict
  pub end : left.end ≡ all.end
  pub symbols : with_symbols remarks left.symbols ≡ with_symbols begin all.symbols

-- this result, this column and these remarks are those of the whole list
pub record AreAsked (remarks begin : Remarks) (found : Option Bool) (column : ℕ) (all : Tested) : Type 0 where
  pub verdict : found ≡ all.verdict
  pub end : column ≡ all.end
  pub symbols : remarks ≡ with_symbols begin all.symbols

module _ (remarks begin : Remarks) (all left : Tested) (leads : Leads remarks begin left all) where
  pub found_so : (verdict : Option Bool) (end : ℕ) (after : Remarks) → left ≡ record { verdict = verdict; end = end; symbols = [] }
      → after ≡ with_symbols remarks [] → AreAsked after begin verdict end all
  found_so verdict end after is same = record {
    verdict = sym (ap (λ (t : Tested). t.verdict) is) ∙ leads.verdict;
    end = sym (ap (λ (t : Tested). t.end) is) ∙ leads.end;
    symbols = same ∙ sym (ap (λ (t : Tested). with_symbols remarks t.symbols) is) ∙ leads.symbols;
  }

  pub found_last : (symbol : Symbol) (verdict : Bool) (end : ℕ) (after : Remarks) → left ≡ symbol_first symbol (at_last verdict end)
      → after ≡ with_symbols remarks (symbol ∷ []) → AreAsked after begin (Some verdict) end all
  found_last symbol verdict end after is same = record {
    verdict = sym (ap (λ (t : Tested). t.verdict) is) ∙ leads.verdict;
    end = sym (ap (λ (t : Tested). t.end) is) ∙ leads.end;
    symbols = same ∙ sym (ap (λ (t : Tested). with_symbols remarks t.symbols) is) ∙ leads.symbols;
  }

  pub leads_on : (symbol : Symbol) (more : Tested) (after : Remarks) → left ≡ symbol_first symbol more
      → after ≡ with_symbols remarks (symbol ∷ []) → Leads after begin more all
  leads_on symbol more after is same = record {
    verdict = sym (ap (λ (t : Tested). t.verdict) is) ∙ leads.verdict;
    end = sym (ap (λ (t : Tested). t.end) is) ∙ leads.end;
    symbols =
        ap (λ (n : Remarks). with_symbols n more.symbols) same
        ∙ ap (λ (l : List Symbol). record { flags = remarks.flags; symbols = l })
        (append_assoc remarks.symbols (symbol ∷ []) more.symbols)
        ∙ sym (ap (λ (t : Tested). with_symbols remarks t.symbols) is) ∙ leads.symbols;
  }

abbrev verdict_or : Bool → Option Bool → Bool
verdict_or other None = other
verdict_or other (Some verdict) = verdict

-- a step from one name to the tokens after it
module _ (known : KnownSymbols) (wants : Bool) (size : ℕ) (before : Option SoFar) (name : Lexeme) (here tokens : List Lexeme)
    (remarks after begin : Remarks) (all : Tested) (begins : here ≡ name ∷ tokens)
    (leads : Leads remarks begin (names_in (tested known wants) size before here) all) where
  moved : Leads remarks begin (names_in (tested known wants) size before (name ∷ tokens)) all
  moved =
      let P : List Lexeme → Type 0 = λ ts. Leads remarks begin (names_in (tested known wants) size before ts) all in
      subst P begins leads

  pub bad_exit : (symbol : Option Symbol) → symbol_in name.sort name.text ≡ symbol → verdict_of known wants symbol ≡ None
      → after ≡ with_symbols remarks (option_to_list symbol) → AreAsked after begin None size all
  bad_exit None is none same =
      found_so remarks begin all _ moved None size after (bad_name (tested known wants) size before name tokens is) same
  bad_exit (Some symbol) is none same = absurd (cc)

  pub last_exit : (symbol : Option Symbol) (verdict : Bool) → symbol_in name.sort name.text ≡ symbol
      → verdict_of known wants symbol ≡ Some verdict → after ≡ with_symbols remarks (option_to_list symbol)
      → joint_in tokens ≡ None → AreAsked after begin (Some (joined_to before verdict)) name.end all
  last_exit None verdict is some same none = absurd (cc)
  last_exit (Some symbol) verdict is some same none =
      let P : Bool → Type 0 = λ a. AreAsked after begin (Some (joined_to before a)) name.end all in
      subst P (ap (λ (o : Option Bool). verdict_or verdict o) some)
      (found_last remarks begin all _ moved symbol (joined_to before (tested known wants symbol)) name.end after
      (last_name (tested known wants) size before name symbol is tokens none) same)

  pub next_exit : (symbol : Option Symbol) (verdict : Bool) (next : JointAt) → symbol_in name.sort name.text ≡ symbol
      → verdict_of known wants symbol ≡ Some verdict → after ≡ with_symbols remarks (option_to_list symbol)
      → joint_in tokens ≡ Some next → (left : List Lexeme) → drop 1 tokens ≡ left → (holds : Bool) → holds ≡ joined_to before verdict
      → Leads after begin (names_in (tested known wants) size (Some (record { holds = holds; joint = next.joint })) left) all
  next_exit None verdict next is some same joint left rest holds joins = absurd (cc)
  next_exit (Some symbol) verdict next is some same joint left rest holds joins =
      let P : Bool → Type 0 = λ a.
      Leads after begin (names_in (tested known wants) size (Some (record { holds = a; joint = next.joint })) left) all in
      let Q : List Lexeme → Type 0 = λ ts.
      Leads after begin (names_in (tested known wants) size
      (Some (record { holds = joined_to before (tested known wants symbol); joint = next.joint })) ts) all in
      subst P (ap (λ (o : Option Bool). joined_to before (verdict_or verdict o)) some ∙ sym joins)
      (subst Q rest
      (leads_on remarks begin all _ moved symbol _ after (next_name (tested known wants) size before name symbol is tokens next joint) same))
