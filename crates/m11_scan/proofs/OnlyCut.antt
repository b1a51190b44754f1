-- The pieces of a text are a cut of it, and the only one.
use Rattle.std.proofs.Common.{◌≡◌, ℕ, zero, suc, ◌+◌, ◌<◌, ◌≤◌, min, Bool, true, false, List, [], ◌∷◌, length, drop, take, Option, Some, None, refl, sym, ap, ◌∙◌, subst, inl, inr, arith}
use Rattle.std.specs.Prelude.{◌==◌, if◌then◌else◌}
use Rattle.std.specs.List.{prefix_len}
use Rattle.std.proofs.lemmas.Bool.{cases_Bool, cases_lt, cond-false, cond-true, le-leb, lt-leb}
use Rattle.std.proofs.lemmas.List.{length-drop, length-take-le}
use Rattle.std.proofs.Math.Seq.{take-length}
use Rattle.m11_base.specs.NameCharacters.{folded, is_name_character}
use Rattle.m11_scan.specs.Classes.{is_blank, is_digit}
use Rattle.m11_scan.specs.declared.sort.Sort.{Sort}
use Rattle.m11_scan.specs.declared.sort.Sort.TheVariants.{Name, Number, DecimalNumber, LocalSymbol, Character, TwoCharacters, Packed, BinaryRadix, OctalRadix, DecimalRadix, Complement, Colon, TwoColons, Equals, TwoEquals}
use Rattle.m11_scan.specs.declared.sort.Form.{Form}
use Rattle.m11_scan.specs.declared.sort.Form.TheVariants.{Cut, Blank, Comment, Skipped}
use Rattle.m11_scan.specs.declared.pieces.Piece.{Piece}
use Rattle.m11_scan.specs.Pieces.{caret_piece, doubled_piece, first_piece, mark_form, mark_piece, number_ending, number_piece, token}
use Rattle.m11_scan.specs.Cutting.{pieces_of}
use Rattle.m11_scan.specs.Cuts.{IsCut, IsNext, all_pass, alone, at_most, caret_form, doubled_form, form_of, marked_form, number_form}
use Rattle.m11_scan.proofs.NextPieces.{pieces_of-first}

-- a text has only one next piece
same_length : (text : List ℕ) (p q : Piece) → IsNext p text → IsNext q text → p.length < q.length → ⊥
same_length text p q a b lt =
    let none = a.longest q.length lt b.within in
    let both : Some q.form ≡ None = sym b.form ∙ none in
    cc

module _ (text : List ℕ) (p q : Piece) (a : IsNext p text) (b : IsNext q text) where
  lengths : p.length ≡ q.length
  lengths = elim (cases_lt p.length q.length) [
    | inl lt ↦ absurd (same_length text p q a b lt)
    | inr le ↦ elim (cases_lt q.length p.length) [
      | inl lt ↦ absurd (same_length text q p b a lt)
      | inr ge ↦ omega arith
    ]
  ]

  forms : p.form ≡ q.form
  forms =
      let both : Some p.form ≡ Some q.form = sym a.form ∙ ap (λ n. form_of (take n text)) lengths ∙ b.form in
      cc

  one_next : p ≡ q
  one_next = λ i. record { form = forms i; length = lengths i }

-- a text's first n characters are its longest prefix for which a test yields a form, and this is the form
record Longest (test : List ℕ → Option Form) (text : List ℕ) (form : Form) (n : ℕ) : Type 0 where
  within : n ≤ length text
  has : test (take n text) ≡ Some form
  longest : (m : ℕ) → n < m → m ≤ length text → test (take m text) ≡ None

-- with one more character in front, the longest prefix is longer by one, if the test of the longer text agrees with that of the rest
longer : (test more_test : List ℕ → Option Form) (byte : ℕ) (text : List ℕ) (form : Form) (n : ℕ)
    → ((more : List ℕ) → test (byte ∷ more) ≡ more_test more) → Longest more_test text form n
    → (m : ℕ) → suc n < m → m ≤ suc (length text) → test (take m (byte ∷ text)) ≡ None
longer test more_test byte text form n same l zero lt le = absurd (omega arith)
longer test more_test byte text form n same l (suc m) lt le = same (take m text) ∙ l.longest m (omega arith) (omega arith)

before : (test more_test : List ℕ → Option Form) (byte : ℕ) (text : List ℕ) (form : Form) (n : ℕ)
    → ((more : List ℕ) → test (byte ∷ more) ≡ more_test more) → Longest more_test text form n
    → Longest test (byte ∷ text) form (suc n)
before test more_test byte text form n same l = record {
  within = let w = l.within in omega arith;
  has = same (take n text) ∙ l.has;
  longest = longer test more_test byte text form n same l;
}

-- if a test yields a form for the empty text, but for no other one, it yields none for a longer prefix
none_after : (test : List ℕ → Option Form) (text : List ℕ) (form : Form) → test [] ≡ Some form
    → ((byte : ℕ) (more : List ℕ) → test (byte ∷ more) ≡ None)
    → (m : ℕ) → 0 < m → m ≤ length text → test (take m text) ≡ None
none_after test text form has stops zero lt le = absurd (omega arith)
none_after test [] form has stops (suc m) lt le = absurd (omega arith)
none_after test (byte ∷ text) form has stops (suc m) lt le = stops byte (take m text)

nothing : (test : List ℕ → Option Form) (text : List ℕ) (form : Form) → test [] ≡ Some form
    → ((byte : ℕ) (more : List ℕ) → test (byte ∷ more) ≡ None) → Longest test text form 0
nothing test text form has stops = record {
  within = omega arith;
  has = has;
  longest = none_after test text form has stops;
}

only_it : (form : Form) (text : List ℕ) → Longest (alone form) text form 0
only_it form text = nothing (alone form) text form refl (λ byte more. refl)

-- if a test yields a form for the empty text, but for no text with this first character, it yields none for a longer prefix
first_decides : (test : List ℕ → Option Form) (byte : ℕ) (text : List ℕ) (form : Form) → test [] ≡ Some form
    → ((more : List ℕ) → test (byte ∷ more) ≡ None) → (m : ℕ) → 0 < m → m ≤ length (byte ∷ text)
    → test (take m (byte ∷ text)) ≡ None
first_decides test byte text form has stops zero lt le = absurd (omega arith)
first_decides test byte text form has stops (suc m) lt le = stops (take m text)

stopped : (test : List ℕ → Option Form) (byte : ℕ) (text : List ℕ) (form : Form) → test [] ≡ Some form
    → ((more : List ℕ) → test (byte ∷ more) ≡ None) → Longest test (byte ∷ text) form 0
stopped test byte text form has stops = record {
  within = omega arith;
  has = has;
  longest = first_decides test byte text form has stops;
}

-- an empty text has no longer prefix
no_more : (test : List ℕ → Option Form) (m : ℕ) → 0 < m → m ≤ length {A = ℕ} [] → test (take m []) ≡ None
no_more test zero lt le = absurd (omega arith)
no_more test (suc m) lt le = absurd (omega arith)

at_end : (test : List ℕ → Option Form) (form : Form) → test [] ≡ Some form → Longest test [] form 0
at_end test form has = record { within = omega arith; has = has; longest = no_more test }

-- the longest prefix of characters that all pass a test is the run of such characters at the beginning of the text
one_more : (n : ℕ) → 1 + n ≡ suc n
one_more n = omega arith

run : (passes : ℕ → Bool) (form : Form) (text : List ℕ)
    → Longest (all_pass passes form) text form (prefix_len passes text)
run passes form [] = at_end (all_pass passes form) form refl
run passes form (byte ∷ text) = elim (cases_Bool (passes byte)) [
  | inl pass ↦ rw (pass, one_more (prefix_len passes text))
      (before (all_pass passes form) (all_pass passes form) byte text form (prefix_len passes text) (λ more. rw pass refl)
      (run passes form text))
  | inr stop ↦ rw stop (stopped (all_pass passes form) byte text form refl (λ more. rw stop refl))
]

-- the longest prefix of at most `count` characters has `count`, or all of them if the text has fewer
too_many : (count : ℕ) (form : Form) (text : List ℕ) (m : ℕ) → count < m → m ≤ length text
    → at_most count form (take m text) ≡ None
too_many count form text m lt le = rw (length-take-le m text le, lt-leb m count lt) refl

few : (count : ℕ) (form : Form) (text : List ℕ) → Longest (at_most count form) text form (min (length text) count)
few count form text = elim (cases_lt count (length text)) [
  | inl lt ↦ let least : min (length text) count ≡ count = omega arith in
      rw least (record {
        within = omega arith;
        has = let at : count ≤ length text = omega arith in rw (length-take-le count text at, le-leb count count (omega arith)) refl;
        longest = too_many count form text;
      })
  | inr le ↦ let least : min (length text) count ≡ length text = omega arith in
      rw least (record {
        within = omega arith;
        has = rw (take-length text, le-leb (length text) count le) refl;
        longest = λ m lt at. absurd (omega arith);
      })
]

-- a piece isn't empty, and is the longest prefix of the text for which a test yields a form
record Next (test : List ℕ → Option Form) (text : List ℕ) (piece : Piece) : Type 0 where
  longest : Longest test text piece.form piece.length
  begins : 0 < piece.length

next_by : (test more_test : List ℕ → Option Form) (byte : ℕ) (text : List ℕ) (piece : Piece) (n : ℕ)
    → piece.length ≡ suc n → ((more : List ℕ) → test (byte ∷ more) ≡ more_test more)
    → Longest more_test text piece.form n → Next test (byte ∷ text) piece
next_by test more_test byte text piece n is same l = record {
  longest = rw is (before test more_test byte text piece.form n same l);
  begins = omega arith;
}

single : (test : List ℕ → Option Form) (byte : ℕ) (text : List ℕ) (form : Form)
    → ((more : List ℕ) → test (byte ∷ more) ≡ alone form more) → Next test (byte ∷ text) (record { form = form; length = 1 })
single test byte text form same = next_by test (alone form) byte text _ 0 refl same (only_it form text)

-- the next piece that begins with a character that may be doubled: this character once or twice
module _ (test : List ℕ → Option Form) (byte mark : ℕ) (one two : Sort)
    (same : (more : List ℕ) → test (byte ∷ more) ≡ doubled_form mark one two more) where
  doubled : (text : List ℕ) → Next test (byte ∷ text) (doubled_piece mark one two text)
  doubled [] = next_by test (doubled_form mark one two) byte [] _ 0 refl same (at_end (doubled_form mark one two) (Cut one) refl)
  doubled (next ∷ text) = elim (cases_Bool (next == mark)) [
    | inl twice ↦ rw twice (next_by test (doubled_form mark one two) byte (next ∷ text) _ 1 refl same
        (before (doubled_form mark one two) (alone (Cut two)) next text (Cut two) 0 (λ more. rw twice refl) (only_it (Cut two) text)))
    | inr once ↦ rw once (next_by test (doubled_form mark one two) byte (next ∷ text) _ 0 refl same
        (stopped (doubled_form mark one two) next text (Cut one) refl (λ more. rw once refl)))
  ]

-- the next piece of a text that begins with `^`
module _ (test : List ℕ → Option Form) (byte : ℕ) (same : (more : List ℕ) → test (byte ∷ more) ≡ caret_form more) where
  prefix_next : (flag : ℕ) (text : List ℕ) (sort : Sort) → ((more : List ℕ) → caret_form (flag ∷ more) ≡ alone (Cut sort) more)
      → Next test (byte ∷ flag ∷ text) (token sort 2)
  prefix_next flag text sort is = next_by test caret_form byte (flag ∷ text) _ 1 refl same
      (before caret_form (alone (Cut sort)) flag text (Cut sort) 0 is (only_it (Cut sort) text))

  packed_next : (flag : ℕ) (text : List ℕ)
      → ((more : List ℕ) → caret_form (flag ∷ more) ≡ all_pass is_name_character (Cut Packed) more)
      → Next test (byte ∷ flag ∷ text) (token Packed (prefix_len is_name_character text + 2))
  packed_next flag text is =
      next_by test caret_form byte (flag ∷ text) _ (suc (prefix_len is_name_character text)) (omega arith) same
      (before caret_form (all_pass is_name_character (Cut Packed)) flag text (Cut Packed)
      (prefix_len is_name_character text) is (run is_name_character (Cut Packed) text))

  caret : (text : List ℕ) → Next test (byte ∷ text) (caret_piece text)
  caret [] = next_by test caret_form byte [] _ 0 refl same (at_end caret_form Skipped refl)
  caret (flag ∷ text) = elim (cases_Bool (folded flag == 66)) [
    | inl b ↦ rw b (prefix_next flag text BinaryRadix (λ more. rw b refl))
    | inr b ↦ elim (cases_Bool (folded flag == 79)) [
      | inl o ↦ rw (b, o) (prefix_next flag text OctalRadix (λ more. rw (b, o) refl))
      | inr o ↦ elim (cases_Bool (folded flag == 68)) [
        | inl d ↦ rw (b, o, d) (prefix_next flag text DecimalRadix (λ more. rw (b, o, d) refl))
        | inr d ↦ elim (cases_Bool (folded flag == 67)) [
          | inl c ↦ rw (b, o, d, c) (prefix_next flag text Complement (λ more. rw (b, o, d, c) refl))
          | inr c ↦ elim (cases_Bool (folded flag == 82)) [
            | inl r ↦ rw (b, o, d, c, r) (packed_next flag text (λ more. rw (b, o, d, c, r) refl))
            | inr r ↦ rw (b, o, d, c, r) (next_by test caret_form byte (flag ∷ text) _ 0 refl same
                (stopped caret_form flag text Skipped refl (λ more. rw (b, o, d, c, r) refl)))
          ]
        ]
      ]
    ]
  ]

-- the form of a number doesn't depend on how many digits it has, and its length is their number plus the length of what ends them
ending_form : (digits : ℕ) (text : List ℕ) → (number_ending digits text).form ≡ (number_ending 0 text).form
ending_form digits [] = refl
ending_form digits (byte ∷ text) = elim (cases_Bool (byte == 46)) [
  | inl point ↦ rw point refl
  | inr point ↦ elim (cases_Bool (byte == 36)) [
    | inl dollar ↦ rw (point, dollar) refl
    | inr dollar ↦ rw (point, dollar) refl
  ]
]

ending_length : (digits : ℕ) (text : List ℕ)
    → (number_ending digits text).length ≡ digits + (number_ending 0 text).length
ending_length digits [] = omega arith
ending_length digits (byte ∷ text) = elim (cases_Bool (byte == 46)) [
  | inl point ↦ rw point (omega arith)
  | inr point ↦ elim (cases_Bool (byte == 36)) [
    | inl dollar ↦ rw (point, dollar) (omega arith)
    | inr dollar ↦ rw (point, dollar) (omega arith)
  ]
]

-- the longest prefix that continues a number has the digits at the beginning of the text and what ends them
suc_first : (n m : ℕ) → suc n + m ≡ suc (n + m)
suc_first n m = omega arith

digits_stop : (byte : ℕ) (text : List ℕ) → is_digit byte ≡ false
    → Longest number_form (byte ∷ text) (number_ending 0 (byte ∷ text)).form (0 + (number_ending 0 (byte ∷ text)).length)
digits_stop byte text stop = elim (cases_Bool (byte == 46)) [
  | inl point ↦ rw point
      (before number_form (alone (Cut DecimalNumber)) byte text (Cut DecimalNumber) 0 (λ more. rw (stop, point) refl)
      (only_it (Cut DecimalNumber) text))
  | inr point ↦ elim (cases_Bool (byte == 36)) [
    | inl dollar ↦ rw (point, dollar)
        (before number_form (alone (Cut LocalSymbol)) byte text (Cut LocalSymbol) 0 (λ more. rw (stop, point, dollar) refl)
        (only_it (Cut LocalSymbol) text))
    | inr dollar ↦ rw (point, dollar)
        (stopped number_form byte text (Cut Number) refl (λ more. rw (stop, point, dollar) refl))
  ]
]

digits : (text : List ℕ)
    → Longest number_form text (number_ending 0 (drop (prefix_len is_digit text) text)).form
    (prefix_len is_digit text + (number_ending 0 (drop (prefix_len is_digit text) text)).length)
digits [] = at_end number_form (Cut Number) refl
digits (byte ∷ text) = elim (cases_Bool (is_digit byte)) [
  | inl digit ↦ rw (digit, one_more (prefix_len is_digit text), suc_first)
      (before number_form number_form byte text _ _ (λ more. rw digit refl) (digits text))
  | inr stop ↦ rw stop (digits_stop byte text stop)
]

number_next : (test : List ℕ → Option Form) (byte : ℕ) (text : List ℕ) → is_digit byte ≡ true
    → ((more : List ℕ) → test (byte ∷ more) ≡ number_form more) → Next test (byte ∷ text) (number_piece (byte ∷ text))
number_next test byte text digit same =
    let run_is : ℕ = prefix_len is_digit text in
    let rest : List ℕ = drop run_is text in
    rw (digit, one_more (prefix_len is_digit text))
    (next_by test number_form byte text (number_ending (suc run_is) rest) (run_is + (number_ending 0 rest).length)
    (ending_length (suc run_is) rest ∙ suc_first run_is (number_ending 0 rest).length) same
    (rw (ending_form (suc run_is) rest) (digits text)))

-- if a condition chooses between two pieces, and the chosen one is the next piece, so is the result
if_so : (test : List ℕ → Option Form) (text : List ℕ) (b : Bool) (yes' no' : Piece) → b ≡ true
    → Next test text yes' → Next test text (if b then yes' else no')
if_so test text b yes' no' e next = subst (Next test text) (sym (cond-true b yes' no' e)) next

if_not : (test : List ℕ → Option Form) (text : List ℕ) (b : Bool) (yes' no' : Piece) → b ≡ false
    → Next test text no' → Next test text (if b then yes' else no')
if_not test text b yes' no' e next = subst (Next test text) (sym (cond-false b yes' no' e)) next

-- the next piece of a text whose first character begins no number and no name and is neither a blank, a tab nor `;`
module _ (test : List ℕ → Option Form) (byte : ℕ) (same : (more : List ℕ) → test (byte ∷ more) ≡ marked_form byte more) where
  one_less : (n m : ℕ) → min (suc n) (suc m) ≡ suc (min n m)
  one_less n m = omega arith

  other_mark : (more : List ℕ) → (byte == 39) ≡ false → (byte == 34) ≡ false → (byte == 94) ≡ false
      → (byte == 58) ≡ false → (byte == 61) ≡ false → marked_form byte more ≡ alone (mark_form byte) more
  other_mark more a b c d e =
      cond-false _ _ _ a ∙ cond-false _ _ _ b ∙ cond-false _ _ _ c ∙ cond-false _ _ _ d ∙ cond-false _ _ _ e

  few_next : (count : ℕ) (sort : Sort) (text : List ℕ)
      → ((more : List ℕ) → test (byte ∷ more) ≡ at_most count (Cut sort) more)
      → Next test (byte ∷ text) (token sort (min (length (byte ∷ text)) (suc count)))
  few_next count sort text is = next_by test (at_most count (Cut sort)) byte text _ (min (length text) count)
      (one_less (length text) count) is (few count (Cut sort) text)

  mark_next : (text : List ℕ) → Next test (byte ∷ text) (mark_piece (byte ∷ text))
  mark_next text = elim (cases_Bool (byte == 39)) [
    | inl a ↦ if_so _ _ _ _ _ a (few_next 1 Character text (λ more. same more ∙ rw a refl))
    | inr a ↦ if_not _ _ _ _ _ a (elim (cases_Bool (byte == 34)) [
      | inl b ↦ if_so _ _ _ _ _ b (few_next 2 TwoCharacters text (λ more. same more ∙ rw (a, b) refl))
      | inr b ↦ if_not _ _ _ _ _ b (elim (cases_Bool (byte == 94)) [
        | inl c ↦ if_so _ _ _ _ _ c (caret test byte (λ more. same more ∙ rw (a, b, c) refl) text)
        | inr c ↦ if_not _ _ _ _ _ c (elim (cases_Bool (byte == 58)) [
          | inl d ↦ if_so _ _ _ _ _ d (doubled test byte 58 Colon TwoColons (λ more. same more ∙ rw (a, b, c, d) refl) text)
          | inr d ↦ if_not _ _ _ _ _ d (elim (cases_Bool (byte == 61)) [
            | inl e ↦ if_so _ _ _ _ _ e
                (doubled test byte 61 Equals TwoEquals (λ more. same more ∙ rw (a, b, c, d, e) refl) text)
            | inr e ↦ if_not _ _ _ _ _ e
                (single test byte text (mark_form byte) (λ more. same more ∙ other_mark more a b c d e))
          ])
        ])
      ])
    ])
  ]

comment : (byte : ℕ) (text : List ℕ) → ((more : List ℕ) → form_of (byte ∷ more) ≡ Some Comment)
    → Next form_of (byte ∷ text) (record { form = Comment; length = length (byte ∷ text) })
comment byte text same = next_by form_of (λ more. Some Comment) byte text _ (length text) refl same
    (record { within = omega arith; has = refl; longest = λ m lt le. absurd (omega arith) })

-- the form of a text, in each class of its first character
module _ (byte : ℕ) (more : List ℕ) where
  after_digit : is_digit byte ≡ true → form_of (byte ∷ more) ≡ number_form more
  after_digit digit = cond-true _ _ _ digit

  after_name : is_digit byte ≡ false → is_name_character byte ≡ true
      → form_of (byte ∷ more) ≡ all_pass is_name_character (Cut Name) more
  after_name digit name = cond-false _ _ _ digit ∙ cond-true _ _ _ name

  after_blank : is_digit byte ≡ false → is_name_character byte ≡ false → is_blank byte ≡ true
      → form_of (byte ∷ more) ≡ alone Blank more
  after_blank digit name blank = cond-false _ _ _ digit ∙ cond-false _ _ _ name ∙ cond-true _ _ _ blank

  after_semicolon : is_digit byte ≡ false → is_name_character byte ≡ false → is_blank byte ≡ false
      → (byte == 59) ≡ true → form_of (byte ∷ more) ≡ Some Comment
  after_semicolon digit name blank semicolon =
      cond-false _ _ _ digit ∙ cond-false _ _ _ name ∙ cond-false _ _ _ blank ∙ cond-true _ _ _ semicolon

  after_mark : is_digit byte ≡ false → is_name_character byte ≡ false → is_blank byte ≡ false
      → (byte == 59) ≡ false → form_of (byte ∷ more) ≡ marked_form byte more
  after_mark digit name blank semicolon =
      cond-false _ _ _ digit ∙ cond-false _ _ _ name ∙ cond-false _ _ _ blank ∙ cond-false _ _ _ semicolon

-- the first piece of a text is its next piece
first_next : (byte : ℕ) (text : List ℕ) → Next form_of (byte ∷ text) (first_piece (byte ∷ text))
unfolding first_piece
first_next byte text = elim (cases_Bool (is_digit byte)) [
  | inl digit ↦ if_so _ _ _ _ _ digit (number_next form_of byte text digit (λ more. after_digit byte more digit))
  | inr digit ↦ if_not _ _ _ _ _ digit (elim (cases_Bool (is_name_character byte)) [
    | inl name ↦ if_so _ _ _ _ _ name
        (next_by form_of (all_pass is_name_character (Cut Name)) byte text _ (prefix_len is_name_character text)
        (cond-true _ _ _ name ∙ one_more (prefix_len is_name_character text))
        (λ more. after_name byte more digit name) (run is_name_character (Cut Name) text))
    | inr name ↦ if_not _ _ _ _ _ name (elim (cases_Bool (is_blank byte)) [
      | inl blank ↦ if_so _ _ _ _ _ blank (single form_of byte text Blank (λ more. after_blank byte more digit name blank))
      | inr blank ↦ if_not _ _ _ _ _ blank (elim (cases_Bool (byte == 59)) [
        | inl semicolon ↦ if_so _ _ _ _ _ semicolon
            (comment byte text (λ more. after_semicolon byte more digit name blank semicolon))
        | inr other ↦ if_not _ _ _ _ _ other
            (mark_next form_of byte (λ more. after_mark byte more digit name blank other) text)
      ])
    ])
  ])
]

first_is_next : (text : List ℕ) → 0 < length text → IsNext (first_piece text) text
first_is_next [] nonempty = absurd (omega arith)
first_is_next (byte ∷ text) nonempty =
    let next = first_next byte text in
    record {
      begins = next.begins;
      within = next.longest.within;
      form = next.longest.has;
      longest = next.longest.longest;
    }

cut_by_length : (n : ℕ) (text : List ℕ) → length text ≤ n → IsCut (pieces_of text) text
cut_by_length n [] le = refl
cut_by_length zero (byte ∷ text) le = absurd (omega arith)
cut_by_length (suc n) (byte ∷ text) le =
    let next = first_is_next (byte ∷ text) (omega arith) in
    let begins = next.begins in
    let left = length-drop (first_piece (byte ∷ text)).length (byte ∷ text) in
    let P : List Piece → Type 0 = λ pieces. IsCut pieces (byte ∷ text) in
    subst P (sym (pieces_of-first (byte ∷ text) (omega arith) begins))
    (next, cut_by_length n (drop (first_piece (byte ∷ text)).length (byte ∷ text)) (omega arith))

pub pieces_of-cut : (text : List ℕ) → IsCut (pieces_of text) text
pieces_of-cut text = cut_by_length (length text) text (omega arith)

pub cut_is_pieces_of : (text : List ℕ) (pieces : List Piece) → IsCut pieces text → pieces ≡ pieces_of text
cut_is_pieces_of text [] cut = sym (ap pieces_of cut)
cut_is_pieces_of text (piece ∷ pieces) (next, cut) =
    let begins = next.begins in
    let within = next.within in
    let nonempty : 0 < length text = omega arith in
    let first = first_is_next text nonempty in
    let same = one_next text piece (first_piece text) next first in
    ap (λ rest. piece ∷ rest) (cut_is_pieces_of (drop piece.length text) pieces cut)
    ∙ ap (λ p. p ∷ pieces_of (drop p.length text)) same
    ∙ sym (pieces_of-first text nonempty first.begins)

pub ruleset cuts = (pieces_of-cut, cut_is_pieces_of)
