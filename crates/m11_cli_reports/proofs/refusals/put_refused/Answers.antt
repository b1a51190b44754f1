use Rattle.std.proofs.Common.{◌++◌, [], ◌∷◌, List, ℕ, subst, sym}
use Rattle.std.proofs.lemmas.Result.{on_ok_weaker}
use Rattle.std.specs.Io.KnownBytes.{Appends}
use Rattle.m11_base.proofs.Known.{Appends-Appends}
use Rattle.m11_base.specs.Sink.{AppendsPrefix}
use Rattle.m11_cli_reports.specs.Refusals.{option_word, refused_word, words_before_option}
use Rattle.m11_cli_reports.proofs.Refusing.{line_parts}
use Rattle.m11_cli_reports.proofs.Reporting.{at_error, begins, begins_after, then_at_error}
use Rattle.m11_cli_reports.proofs.refusals.put_refused.Goals as goal

pub returns-in_err-put_all-clause-prefix : goal.returns-in_err-put_all-clause-prefix
returns-in_err-put_all-clause-prefix g c =
    let value = refused_word c.args.value.now in
    let P : List ℕ → Type 0 = λ text. AppendsPrefix (g.S.Sink.text c.args.sink.now) (g.S.Sink.text c.put_all.new.sink) text in
    at_error c.from_residual.result _ (subst P (sym (line_parts value))
    (begins _ _ (words_before_option value.fault) (option_word value.option ++ (32 ∷ (value.word ++ 10 ∷ [])))
    (rw c.words_before_option.ensures at (rw c.as_bytes.ensures.value at c.in_err-put_all.ensures.prefix))))

pub returns-in_err-put_all-2-clause-prefix : goal.returns-in_err-put_all-2-clause-prefix
returns-in_err-put_all-2-clause-prefix g c =
    let value = refused_word c.args.value.now in
    let P : List ℕ → Type 0 = λ text. AppendsPrefix (g.S.Sink.text c.args.sink.now) (g.S.Sink.text c.put_all-2.new.sink) text in
    at_error c.from_residual-in_err-put_all-2.result _ (subst P (sym (line_parts value))
    (begins_after _ _ _ (words_before_option value.fault) (option_word value.option ++ (32 ∷ (value.word ++ 10 ∷ [])))
    (rw c.words_before_option.ensures at (rw c.as_bytes.ensures.value at c.in_ok-put_all.ensures.whole))
    (begins _ _ (option_word value.option) (32 ∷ (value.word ++ 10 ∷ []))
    (rw c.word.ensures at (rw c.as_bytes-2.ensures.value at c.in_err-put_all-2.ensures.prefix)))))

pub returns-in_err-put_all-3-clause-prefix : goal.returns-in_err-put_all-3-clause-prefix
returns-in_err-put_all-3-clause-prefix g c =
    let value = refused_word c.args.value.now in
    let P : List ℕ → Type 0 = λ text. AppendsPrefix (g.S.Sink.text c.args.sink.now) (g.S.Sink.text c.put_all-3.new.sink) text in
    at_error c.from_residual-in_err-put_all-3.result _ (subst P (sym (line_parts value))
    (begins_after _ _ _ (words_before_option value.fault) (option_word value.option ++ (32 ∷ (value.word ++ 10 ∷ [])))
    (rw c.words_before_option.ensures at (rw c.as_bytes.ensures.value at c.in_ok-put_all.ensures.whole))
    (begins_after _ _ _ (option_word value.option) (32 ∷ (value.word ++ 10 ∷ []))
    (rw c.word.ensures at (rw c.as_bytes-2.ensures.value at c.in_ok-put_all-2.ensures.whole))
    (begins _ _ (32 ∷ []) (value.word ++ 10 ∷ []) c.in_err-put_all-3.ensures.prefix))))

pub returns-in_err-put_all-4-clause-prefix : goal.returns-in_err-put_all-4-clause-prefix
returns-in_err-put_all-4-clause-prefix g c =
    let value = refused_word c.args.value.now in
    let P : List ℕ → Type 0 = λ text. AppendsPrefix (g.S.Sink.text c.args.sink.now) (g.S.Sink.text c.put_all-4.new.sink) text in
    at_error c.from_residual-in_err-put_all-4.result _ (subst P (sym (line_parts value))
    (begins_after _ _ _ (words_before_option value.fault) (option_word value.option ++ (32 ∷ (value.word ++ 10 ∷ [])))
    (rw c.words_before_option.ensures at (rw c.as_bytes.ensures.value at c.in_ok-put_all.ensures.whole))
    (begins_after _ _ _ (option_word value.option) (32 ∷ (value.word ++ 10 ∷ []))
    (rw c.word.ensures at (rw c.as_bytes-2.ensures.value at c.in_ok-put_all-2.ensures.whole))
    (begins_after _ _ _ (32 ∷ []) (value.word ++ 10 ∷ []) c.in_ok-put_all-3.ensures.whole
    (begins _ _ value.word (10 ∷ []) (rw c.as_bytes-3.ensures.value at c.in_err-put_all-4.ensures.prefix))))))

pub returns-clause-prefix : goal.returns-clause-prefix
returns-clause-prefix g c =
    let value = refused_word c.args.value.now in
    let P : List ℕ → Type 0 = λ text. AppendsPrefix (g.S.Sink.text c.args.sink.now) (g.S.Sink.text c.put_all-5.new.sink) text in
    then_at_error c.put_all-5.result _ _ (λ h. subst P (sym (line_parts value))
    (begins_after _ _ _ (words_before_option value.fault) (option_word value.option ++ (32 ∷ (value.word ++ 10 ∷ [])))
    (rw c.words_before_option.ensures at (rw c.as_bytes.ensures.value at c.in_ok-put_all.ensures.whole))
    (begins_after _ _ _ (option_word value.option) (32 ∷ (value.word ++ 10 ∷ []))
    (rw c.word.ensures at (rw c.as_bytes-2.ensures.value at c.in_ok-put_all-2.ensures.whole))
    (begins_after _ _ _ (32 ∷ []) (value.word ++ 10 ∷ []) c.in_ok-put_all-3.ensures.whole
    (begins_after _ _ _ value.word (10 ∷ []) (rw c.as_bytes-3.ensures.value at c.in_ok-put_all-4.ensures.whole) h)))))
    c.put_all-5.ensures.prefix

pub returns-clause-whole : goal.returns-clause-whole
returns-clause-whole g c =
    let value = refused_word c.args.value.now in
    let P : List ℕ → Type 0 = λ text. Appends (g.S.Sink.text c.args.sink.now) (g.S.Sink.text c.put_all-5.new.sink) text in
    on_ok_weaker c.put_all-5.result (λ h. subst P (sym (line_parts value))
    (Appends-Appends _ _ _ (words_before_option value.fault) (option_word value.option ++ (32 ∷ (value.word ++ 10 ∷ [])))
    (rw c.words_before_option.ensures at (rw c.as_bytes.ensures.value at c.in_ok-put_all.ensures.whole))
    (Appends-Appends _ _ _ (option_word value.option) (32 ∷ (value.word ++ 10 ∷ []))
    (rw c.word.ensures at (rw c.as_bytes-2.ensures.value at c.in_ok-put_all-2.ensures.whole))
    (Appends-Appends _ _ _ (32 ∷ []) (value.word ++ 10 ∷ []) c.in_ok-put_all-3.ensures.whole
    (Appends-Appends _ _ _ value.word (10 ∷ []) (rw c.as_bytes-3.ensures.value at c.in_ok-put_all-4.ensures.whole) h)))))
    c.put_all-5.ensures.whole
