-- The local symbols that calls create have consecutive numbers.
use Rattle.std.proofs.Common.{◌≡◌, ◌≢◌, ℕ, zero, suc, ◌+◌, ◌-◌, ◌*◌, ◌/◌, ◌%◌, ◌<◌, ◌≤◌, Bool, true, false, if◌then◌else◌, List, [], ◌∷◌, ◌++◌, length, get_or, drop, map, All, AllPairs, refl, sym, ap, ◌∙◌, subst, arith, inl, inr}
use Rattle.std.proofs.lemmas.Bool.{cases_lt, le-ltb, lt-ltb, ne_eqb}
use Rattle.std.proofs.lemmas.List.Elements.{All-cons, All-map, All-nil, All-weaker}
use Rattle.std.proofs.lemmas.List.Kept.{AllPairs-cons}
use Rattle.m11_unfold_rules.specs.Digits.{last_digits}
use Rattle.m11_unfold_rules.specs.Filling.{FormalTexts, created_after, created_text, creates, filled, text_before}
use Rattle.m11_unfold_rules.specs.ArgumentLaws.{Call, created_among, created_in, numbers_from}
use Rattle.m11_unfold_rules.specs.declared.macros.MacroFormal.{MacroFormal}

-- ---- from number to number

-- created symbols with consecutive numbers: the number of the first symbol, the symbols, and the number of the symbol after them
data AreCreated : ℕ → List (List ℕ) → ℕ → Type 0 where
  NoSymbol : (number : ℕ) → AreCreated number [] number
  OneMore : (number next : ℕ) (texts : List (List ℕ)) → AreCreated (created_after number) texts next
      → AreCreated number (created_text number ∷ texts) next

then_more : (number middle next : ℕ) (texts more : List (List ℕ)) → AreCreated number texts middle → AreCreated middle more next
    → AreCreated number (texts ++ more) next
then_more number middle next texts more (NoSymbol n) rest = rest
then_more number middle next texts more (OneMore n m others are) rest =
    OneMore n next (others ++ more) (then_more (created_after n) m next others more are rest)

abbrev first_filled : Bool → List (List ℕ) → ℕ → (List (List ℕ) → ℕ → FormalTexts) → FormalTexts
first_filled b actuals number more =
    if b then text_before (created_text number) (more (drop 1 actuals) (created_after number))
    else text_before (get_or actuals 0 []) (more (drop 1 actuals) number)

in_call : (formals : List MacroFormal) (actuals : List (List ℕ)) (number : ℕ)
    → AreCreated number (created_among formals actuals (filled formals actuals number).texts) (filled formals actuals number).created
in_call [] actuals number = NoSymbol number
in_call (formal ∷ formals) actuals number =
    go (creates formal (get_or actuals 0 [])) (λ n. in_call formals (drop 1 actuals) n)
  where
    go : (b : Bool)
        → ((n : ℕ) → AreCreated n (created_among formals (drop 1 actuals) (filled formals (drop 1 actuals) n).texts)
        (filled formals (drop 1 actuals) n).created)
        → AreCreated number
        ((if b then get_or (first_filled b actuals number (filled formals)).texts 0 [] ∷ [] else [])
        ++ created_among formals (drop 1 actuals) (drop 1 (first_filled b actuals number (filled formals)).texts))
        (first_filled b actuals number (filled formals)).created
    go true rest = OneMore number (filled formals (drop 1 actuals) (created_after number)).created
        (created_among formals (drop 1 actuals) (filled formals (drop 1 actuals) (created_after number)).texts)
        (rest (created_after number))
    go false rest = rest number

abbrev after_calls : List Call → ℕ → ℕ
after_calls [] number = number
after_calls (call ∷ calls) number = after_calls calls (filled call.formals call.actuals number).created

in_calls : (calls : List Call) (number : ℕ) → AreCreated number (created_in calls number) (after_calls calls number)
in_calls [] number = NoSymbol number
in_calls (call ∷ calls) number =
    let next : ℕ = (filled call.formals call.actuals number).created in
    then_more number next (after_calls calls next)
    (created_among call.formals call.actuals (filled call.formals call.actuals number).texts) (created_in calls next)
    (in_call call.formals call.actuals number) (in_calls calls next)

by_numbers : (number next : ℕ) (texts : List (List ℕ)) → AreCreated number texts next
    → texts ≡ map created_text (numbers_from number (length texts))
by_numbers number next texts (NoSymbol n) = refl
by_numbers number next texts (OneMore n m others are) =
    ap (λ (t : List (List ℕ)). created_text n ∷ t) (by_numbers (created_after n) m others are)

pub one_after_another : (calls : List Call) (number : ℕ)
    → created_in calls number ≡ map created_text (numbers_from number (length (created_in calls number)))
one_after_another calls number =
    by_numbers number (after_calls calls number) (created_in calls number) (in_calls calls number)

-- ---- the number of a text

abbrev read_on : ℕ → List ℕ → ℕ
read_on so_far [] = so_far
read_on so_far (byte ∷ bytes) = read_on (so_far * 10 + (byte - 48)) bytes

read_last : (so_far : ℕ) (bytes : List ℕ) (byte : ℕ) → read_on so_far (bytes ++ byte ∷ []) ≡ read_on so_far bytes * 10 + (byte - 48)
read_last so_far [] byte = refl
read_last so_far (first ∷ bytes) byte = read_last (so_far * 10 + (first - 48)) bytes byte

-- ten to the power of the number of digits
abbrev limit : ℕ → ℕ
limit zero = 1
limit (suc bound) = 10 * limit bound

read_digits : (bound number : ℕ) → number < limit bound → 0 < bound → read_on 0 (last_digits bound 10 number) ≡ number
read_digits zero number less some = absurd (omega arith)
read_digits (suc zero) number less some =
    let one : number < 10 = omega arith in
    rw (lt-ltb number 10 one) (omega arith)
read_digits (suc (suc bound)) number less some = elim (cases_lt number 10) [
  | inl one ↦ rw (lt-ltb number 10 one) (omega arith)
  | inr more ↦ rw (le-ltb number 10 more) (read_last 0 (last_digits (suc bound) 10 (number / 10)) (48 + number % 10)
      ∙ omega (arith, read_digits (suc bound) (number / 10) (omega arith) (omega arith)))
]

read_text : (number : ℕ) → number < 65536 → read_on 0 (created_text number) ≡ number * 10
read_text number less =
    read_last 0 (last_digits 16 10 number) 36
    ∙ omega (arith, read_digits 16 number (omega arith) (omega arith))

pub same_number : (one other : ℕ) → one < 65536 → other < 65536 → created_text one ≡ created_text other → one ≡ other
same_number one other less below same =
    omega (arith, read_text one less, read_text other below, ap (read_on 0) same)

-- ---- numbers that rise

later : (number : ℕ) → number < 65535 → created_after number ≡ number + 1
later number less = rw (ne_eqb number 65535 (λ e. omega arith)) refl

abbrev Between : ℕ → ℕ → Type 0
Between low number = (low ≤ number) × (number < 65536)

rising : (count low number : ℕ) → low ≤ number → number + count ≤ 65536 → All (Between low) (numbers_from number count)
rising zero low number from within = All-nil (Between low)
rising (suc zero) low number from within =
    All-cons (Between low) number [] (from, omega arith) (All-nil (Between low))
rising (suc (suc count)) low number from within =
    let one = later number (omega arith) in
    All-cons (Between low) number (numbers_from (created_after number) (suc count)) (from, omega arith)
    (rising (suc count) low (created_after number) (omega arith) (omega arith))

abbrev Differ : List ℕ → List ℕ → Type 0
Differ one other = one ≢ other

others_differ : (number count : ℕ) → number + suc count ≤ 65536
    → All (Differ (created_text number)) (map created_text (numbers_from (created_after number) count))
others_differ number zero within = All-nil (Differ (created_text number))
others_differ number (suc count) within =
    let one = later number (omega arith) in
    All-map (Differ (created_text number)) created_text (numbers_from (created_after number) (suc count))
    (All-weaker (Between (number + 1)) (λ n. Differ (created_text number) (created_text n))
    (λ n between same. let e = same_number number n (omega arith) between.1 same in omega (arith, e, between.0))
    (numbers_from (created_after number) (suc count))
    (rising (suc count) (number + 1) (created_after number) (omega arith) (omega arith)))

texts_differ : (count number : ℕ) → number + count ≤ 65536 → AllPairs Differ (map created_text (numbers_from number count))
texts_differ zero number within = λ i j d before less. absurd (omega arith)
texts_differ (suc zero) number within =
    AllPairs-cons Differ (created_text number) [] (All-nil (Differ (created_text number)))
    (λ i j d before less. absurd (omega arith))
texts_differ (suc (suc count)) number within =
    let one = later number (omega arith) in
    AllPairs-cons Differ (created_text number) (map created_text (numbers_from (created_after number) (suc count)))
    (others_differ number (suc count) within) (texts_differ (suc count) (created_after number) (omega arith))

pub all_differ : (calls : List Call) (number : ℕ) → number + length (created_in calls number) ≤ 65536
    → AllPairs (λ one other. one ≢ other) (created_in calls number)
all_differ calls number within =
    let P : List (List ℕ) → Type 0 = λ l. AllPairs Differ l in
    subst P (sym (one_after_another calls number)) (texts_differ (length (created_in calls number)) number within)
