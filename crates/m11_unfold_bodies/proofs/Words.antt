-- A text with a formal in it.
use Rattle.std.proofs.Common.{◌≡◌, ◌≢◌, ◌∙◌, ℕ, Bool, true, false, List, [], ◌∷◌, ◌++◌, refl, sym, ap, append_assoc, append-nil, subst, Option, Some, inl, inr, ◌⊎◌}
use Rattle.std.specs.Prelude.{◌||◌, ◌&&◌, ◌==◌, if◌then◌else◌, is_some, unwrap_or}
use Rattle.m11_base.specs.NameCharacters.{is_name_character}
use Rattle.m11_scan.proofs.Cuts.{either}
use Rattle.m11_scan.specs.Names.{has_name_characters_alone}
use Rattle.m11_unfold_bodies.specs.Laws.{IsReplacedBy, IsWord, begins_in_word, ends_in_word, without_first_quote, without_last_quote}
use Rattle.m11_unfold_bodies.specs.Substitution.{Other, Piece, Run, actual_for, begins_replaced, is_replaced, joined, pieces_of, substituted}
use Rattle.m11_unfold_bodies.proofs.Cases.{in_run, kept}

-- ---- pieces of a text in two parts, if no run crosses from the first into the second

in_run_some : (byte : ℕ) (pieces : List Piece) → in_run byte pieces ≢ []
in_run_some byte [] h = let bad = h in cc
in_run_some byte (Run run ∷ pieces) h = let bad = h in cc
in_run_some byte (Other other ∷ pieces) h = let bad = h in cc

some_piece : (byte : ℕ) (text : List ℕ) → pieces_of (byte ∷ text) ≢ []
some_piece byte text = go (is_name_character byte) where
  go : (b : Bool) → (if b then in_run byte (pieces_of text) else Other byte ∷ pieces_of text) ≢ []
  go true h = in_run_some byte (pieces_of text) h
  go false h = let bad = h in cc

in_run_more : (byte : ℕ) (pieces more : List Piece) → pieces ≢ [] → in_run byte (pieces ++ more) ≡ in_run byte pieces ++ more
in_run_more byte [] more some = absurd (some refl)
in_run_more byte (Run run ∷ pieces) more some = refl
in_run_more byte (Other other ∷ pieces) more some = refl

first_more : (byte : ℕ) (b : Bool) (pieces more : List Piece) → pieces ≢ []
    → (if b then in_run byte (pieces ++ more) else Other byte ∷ (pieces ++ more))
    ≡ (if b then in_run byte pieces else Other byte ∷ pieces) ++ more
first_more byte true pieces more some = in_run_more byte pieces more some
first_more byte false pieces more some = refl

run_ends : (byte : ℕ) (after : List ℕ) → begins_in_word after ≡ false
    → in_run byte (pieces_of after) ≡ Run (byte ∷ []) ∷ pieces_of after
run_ends byte [] none = refl
run_ends byte (next ∷ text) none = rw none refl

border : (byte : ℕ) (after : List ℕ) → (is_name_character byte ≡ false) ⊎ (begins_in_word after ≡ false)
    → pieces_of (byte ∷ after) ≡ pieces_of (byte ∷ []) ++ pieces_of after
border byte after (inl none) = rw none refl
border byte after (inr none) = go (is_name_character byte) where
  go : (b : Bool) → (if b then in_run byte (pieces_of after) else Other byte ∷ pieces_of after)
      ≡ (if b then Run (byte ∷ []) ∷ [] else Other byte ∷ []) ++ pieces_of after
  go true = run_ends byte after none
  go false = refl

apart : (before after : List ℕ) → (ends_in_word before ≡ false) ⊎ (begins_in_word after ≡ false)
    → pieces_of (before ++ after) ≡ pieces_of before ++ pieces_of after
apart [] after none = refl
apart (byte ∷ []) after none = border byte after none
apart (byte ∷ next ∷ text) after none =
    ap (λ (ps : List Piece). if is_name_character byte then in_run byte ps else Other byte ∷ ps) (apart (next ∷ text) after none)
    ∙ first_more byte (is_name_character byte) (pieces_of (next ∷ text)) (pieces_of after) (some_piece next text)

both : (a b : Bool) → (a && b) ≡ true → (a ≡ true) × (b ≡ true)
both true b h = (refl, h)
both false b h = absurd (let bad = h in cc)

word_piece : (name : List ℕ) → IsWord name → pieces_of name ≡ Run name ∷ []
word_piece [] is = absurd is
word_piece (byte ∷ []) is = let named = (both (is_name_character byte) true is).0 in rw named refl
word_piece (byte ∷ next ∷ text) is =
    let parts = both (is_name_character byte) (has_name_characters_alone (next ∷ text)) is in
    let named = parts.0 in
    let rest = word_piece (next ∷ text) parts.1 in
    ap (λ (ps : List Piece). if is_name_character byte then in_run byte ps else Other byte ∷ ps) rest ∙ rw named refl

name_first : (name after : List ℕ) → IsWord name → begins_in_word after ≡ false
    → pieces_of (name ++ after) ≡ Run name ∷ pieces_of after
name_first name after is none =
    apart name after (inr none) ∙ ap (λ (ps : List Piece). ps ++ pieces_of after) (word_piece name is)

-- ---- the last byte of a text

data Ends (text : List ℕ) : Type 0 where
  Nowhere : text ≡ [] → Ends text
  With : (front : List ℕ) (byte : ℕ) → text ≡ front ++ byte ∷ [] → Ends text

ends : (text : List ℕ) → Ends text
ends [] = Nowhere refl
ends (byte ∷ text) = elim (ends text) [
  | Nowhere none ↦ With [] byte (ap (λ (t : List ℕ). byte ∷ t) none)
  | With front last is ↦ With (byte ∷ front) last (ap (λ (t : List ℕ). byte ∷ t) is)
]

last_in_word : (front : List ℕ) (byte : ℕ) → ends_in_word (front ++ byte ∷ []) ≡ is_name_character byte
last_in_word [] byte = refl
last_in_word (first ∷ []) byte = refl
last_in_word (first ∷ next ∷ front) byte = last_in_word (next ∷ front) byte

last_quote : (front : List ℕ) (byte : ℕ) → (byte == 39) ≡ true → without_last_quote (front ++ byte ∷ []) ≡ front
last_quote [] byte is = rw is refl
last_quote (first ∷ []) byte is = ap (λ (t : List ℕ). first ∷ t) (last_quote [] byte is)
last_quote (first ∷ next ∷ front) byte is = ap (λ (t : List ℕ). first ∷ t) (last_quote (next ∷ front) byte is)

no_last_quote : (front : List ℕ) (byte : ℕ) → (byte == 39) ≡ false
    → without_last_quote (front ++ byte ∷ []) ≡ front ++ byte ∷ []
no_last_quote [] byte other = rw other refl
no_last_quote (first ∷ []) byte other = ap (λ (t : List ℕ). first ∷ t) (no_last_quote [] byte other)
no_last_quote (first ∷ next ∷ front) byte other = ap (λ (t : List ℕ). first ∷ t) (no_last_quote (next ∷ front) byte other)

last_piece : (front : List ℕ) (byte : ℕ) → is_name_character byte ≡ false
    → pieces_of (front ++ byte ∷ []) ≡ pieces_of front ++ Other byte ∷ []
last_piece front byte none = apart front (byte ∷ []) (inr none) ∙ rw none refl

-- ---- replacement

module _ (formals : List (ℕ × ℕ)) (actuals : List (List ℕ)) where
  -- whether the last of these pieces is replaced; without pieces, whether the piece before them is
  last_replaced : Bool → List Piece → Bool
  last_replaced is_after [] = is_after
  last_replaced is_after (piece ∷ pieces) = last_replaced (is_replaced formals actuals piece) pieces

  joined_apart : (is_after : Bool) (front rest : List Piece) → begins_replaced formals actuals rest ≡ false
      → joined formals actuals is_after (front ++ rest)
      ≡ joined formals actuals is_after front ++ joined formals actuals (last_replaced is_after front) rest
  unfolding last_replaced
  joined_apart is_after [] rest none = refl
  joined_apart is_after (piece ∷ []) rest none =
      ap (λ (b : Bool). unwrap_or (actual_for formals actuals piece) (kept (is_after || b) piece)
      ++ joined formals actuals (is_replaced formals actuals piece) rest) none
      ∙ ap (λ (t : List ℕ). t ++ joined formals actuals (is_replaced formals actuals piece) rest)
      (sym (append-nil (unwrap_or (actual_for formals actuals piece) (kept (is_after || false) piece))))
  joined_apart is_after (piece ∷ next ∷ front) rest none =
      let put : List ℕ =
      unwrap_or (actual_for formals actuals piece) (kept (is_after || is_replaced formals actuals next) piece) in
      ap (λ (t : List ℕ). put ++ t) (joined_apart (is_replaced formals actuals piece) (next ∷ front) rest none)
      ∙ sym (append_assoc put (joined formals actuals (is_replaced formals actuals piece) (next ∷ front))
      (joined formals actuals (last_replaced (is_replaced formals actuals piece) (next ∷ front)) rest))

  module _ (name actual : List ℕ) (put : actual_for formals actuals (Run name) ≡ Some actual) where
    word_put : (is_after : Bool) (rest : List Piece)
        → joined formals actuals is_after (Run name ∷ rest) ≡ actual ++ joined formals actuals true rest
    word_put is_after rest =
        ap (λ (a : Option (List ℕ)). unwrap_or a (kept (is_after || begins_replaced formals actuals rest) (Run name))
        ++ joined formals actuals (is_some a) rest) put

    -- another character before a replaced word stays, unless it is a quote
    beside : (is_after is_quote : Bool) (byte : ℕ) (rest : List Piece) → (byte == 39) ≡ is_quote
        → joined formals actuals is_after (Other byte ∷ Run name ∷ rest)
        ≡ (if is_quote then [] else byte ∷ []) ++ (actual ++ joined formals actuals true rest)
    beside is_after is_quote byte rest is =
        ap (λ (a : Option (List ℕ)). kept (is_after || is_some a) (Other byte) ++ joined formals actuals false (Run name ∷ rest)) put
        ∙ ap (λ (b : Bool). (if b && (is_after || true) then [] else byte ∷ []) ++ joined formals actuals false (Run name ∷ rest)) is
        ∙ ap (λ (t : List ℕ). t ++ joined formals actuals false (Run name ∷ rest)) (gone is_after is_quote)
        ∙ ap (λ (t : List ℕ). (if is_quote then [] else byte ∷ []) ++ t) (word_put false rest)
      where
        gone : (a b : Bool) → (if b && (a || true) then [] else byte ∷ []) ≡ (if b then [] else byte ∷ [])
        gone true true = refl
        gone true false = refl
        gone false true = refl
        gone false false = refl

    after_text : (front : List ℕ) (byte : ℕ) (is_quote : Bool) (rest : List Piece) → is_name_character byte ≡ false
        → (byte == 39) ≡ is_quote
        → joined formals actuals false (pieces_of (front ++ byte ∷ []) ++ Run name ∷ rest)
        ≡ substituted formals actuals front
        ++ ((if is_quote then [] else byte ∷ []) ++ (actual ++ joined formals actuals true rest))
    after_text front byte is_quote rest none is =
        ap (λ (ps : List Piece). joined formals actuals false (ps ++ Run name ∷ rest)) (last_piece front byte none)
        ∙ ap (joined formals actuals false) (append_assoc (pieces_of front) (Other byte ∷ []) (Run name ∷ rest))
        ∙ joined_apart false (pieces_of front) (Other byte ∷ Run name ∷ rest) refl
        ∙ ap (λ (t : List ℕ). substituted formals actuals front ++ t)
        (beside (last_replaced false (pieces_of front)) is_quote byte rest is)

    -- a character that is neither a name character nor a quote stays at the end of a text
    text_alone : (front : List ℕ) (byte : ℕ) → is_name_character byte ≡ false → (byte == 39) ≡ false
        → substituted formals actuals (front ++ byte ∷ []) ≡ substituted formals actuals front ++ byte ∷ []
    text_alone front byte none other =
        ap (joined formals actuals false) (last_piece front byte none)
        ∙ joined_apart false (pieces_of front) (Other byte ∷ []) refl
        ∙ ap (λ (t : List ℕ). substituted formals actuals front ++ t) (one (last_replaced false (pieces_of front)))
      where
        one : (b : Bool) → joined formals actuals b (Other byte ∷ []) ≡ byte ∷ []
        one b = rw other refl

    before_word : (front : List ℕ) (byte : ℕ) (rest : List Piece) → is_name_character byte ≡ false
        → joined formals actuals false (pieces_of (front ++ byte ∷ []) ++ Run name ∷ rest)
        ≡ substituted formals actuals (without_last_quote (front ++ byte ∷ [])) ++ (actual ++ joined formals actuals true rest)
    before_word front byte rest none = elim (either (byte == 39)) [
      | inl is ↦ after_text front byte true rest none is
          ∙ ap (λ (t : List ℕ). substituted formals actuals t ++ (actual ++ joined formals actuals true rest))
          (sym (last_quote front byte is))
      | inr other ↦ after_text front byte false rest none other
          ∙ sym (append_assoc (substituted formals actuals front) (byte ∷ []) (actual ++ joined formals actuals true rest))
          ∙ ap (λ (t : List ℕ). t ++ (actual ++ joined formals actuals true rest))
          (sym (ap (substituted formals actuals) (no_last_quote front byte other) ∙ text_alone front byte none other))
    ]

  after_word : (after : List ℕ) → begins_in_word after ≡ false
      → joined formals actuals true (pieces_of after) ≡ substituted formals actuals (without_first_quote after)
  after_word [] none = refl
  after_word (byte ∷ text) none = elim (either (byte == 39)) [
    | inl is ↦ rw (none, is) refl
    | inr other ↦ rw (none, other, none, other) refl
  ]

  pub word_replaced : (before name after actual : List ℕ) → IsWord name → ends_in_word before ≡ false
      → begins_in_word after ≡ false → actual_for formals actuals (Run name) ≡ Some actual
      → substituted formals actuals (before ++ (name ++ after))
      ≡ substituted formals actuals (without_last_quote before)
      ++ (actual ++ substituted formals actuals (without_first_quote after))
  word_replaced before name after actual is ended begun put =
      ap (joined formals actuals false) (apart before (name ++ after) (inl ended)
      ∙ ap (λ (ps : List Piece). pieces_of before ++ ps) (name_first name after is begun))
      ∙ go (ends before)
      ∙ ap (λ (t : List ℕ). substituted formals actuals (without_last_quote before) ++ (actual ++ t)) (after_word after begun)
    where
      go : Ends before → joined formals actuals false (pieces_of before ++ Run name ∷ pieces_of after)
          ≡ substituted formals actuals (without_last_quote before) ++ (actual ++ joined formals actuals true (pieces_of after))
      go (Nowhere none) =
          let P : List ℕ → Type 0 = λ b. joined formals actuals false (pieces_of b ++ Run name ∷ pieces_of after)
          ≡ substituted formals actuals (without_last_quote b) ++ (actual ++ joined formals actuals true (pieces_of after)) in
          subst P (sym none) (word_put name actual put false (pieces_of after))
      go (With front byte text) =
          let P : List ℕ → Type 0 = λ b. joined formals actuals false (pieces_of b ++ Run name ∷ pieces_of after)
          ≡ substituted formals actuals (without_last_quote b) ++ (actual ++ joined formals actuals true (pieces_of after)) in
          let none : is_name_character byte ≡ false = sym (last_in_word front byte) ∙ ap ends_in_word (sym text) ∙ ended in
          subst P (sym text) (before_word name actual put front byte (pieces_of after) none)

  -- ---- quotes beside words

  pub alone : (word actual : List ℕ) → IsReplacedBy formals actuals word actual → substituted formals actuals word ≡ actual
  alone word actual is =
      ap (substituted formals actuals) (sym (append-nil word)) ∙ word_replaced [] word [] actual is.0 refl refl is.1
      ∙ append-nil actual

  pub after_quote : (word actual : List ℕ) → IsReplacedBy formals actuals word actual
      → substituted formals actuals (39 ∷ word) ≡ actual
  after_quote word actual is =
      ap (λ (t : List ℕ). substituted formals actuals (39 ∷ t)) (sym (append-nil word))
      ∙ word_replaced (39 ∷ []) word [] actual is.0 refl refl is.1 ∙ append-nil actual

  pub before_quote : (word actual : List ℕ) → IsReplacedBy formals actuals word actual
      → substituted formals actuals (word ++ 39 ∷ []) ≡ actual
  before_quote word actual is = word_replaced [] word (39 ∷ []) actual is.0 refl refl is.1 ∙ append-nil actual

  pub between_quotes : (word actual : List ℕ) → IsReplacedBy formals actuals word actual
      → substituted formals actuals (39 ∷ (word ++ 39 ∷ [])) ≡ actual
  between_quotes word actual is =
      word_replaced (39 ∷ []) word (39 ∷ []) actual is.0 refl refl is.1 ∙ append-nil actual

  after_two_quotes : (word actual : List ℕ) → IsReplacedBy formals actuals word actual
      → substituted formals actuals (39 ∷ 39 ∷ word) ≡ 39 ∷ actual
  after_two_quotes word actual is =
      ap (λ (t : List ℕ). substituted formals actuals (39 ∷ 39 ∷ t)) (sym (append-nil word))
      ∙ word_replaced (39 ∷ 39 ∷ []) word [] actual is.0 refl refl is.1
      ∙ ap (λ (t : List ℕ). 39 ∷ t) (append-nil actual)

  module _ (first second one other : List ℕ) (left : IsReplacedBy formals actuals first one)
      (right : IsReplacedBy formals actuals second other) where
    pub one_quote : substituted formals actuals (first ++ 39 ∷ second) ≡ one ++ other
    one_quote = word_replaced [] first (39 ∷ second) one left.0 refl refl left.1
        ∙ ap (λ (t : List ℕ). one ++ t) (alone second other right)

    pub two_quotes : substituted formals actuals (first ++ 39 ∷ 39 ∷ second) ≡ one ++ other
    two_quotes = word_replaced [] first (39 ∷ 39 ∷ second) one left.0 refl refl left.1
        ∙ ap (λ (t : List ℕ). one ++ t) (after_quote second other right)

    pub three_quotes : substituted formals actuals (first ++ 39 ∷ 39 ∷ 39 ∷ second) ≡ one ++ 39 ∷ other
    three_quotes = word_replaced [] first (39 ∷ 39 ∷ 39 ∷ second) one left.0 refl refl left.1
        ∙ ap (λ (t : List ℕ). one ++ t) (after_two_quotes second other right)
