-- Bodies and expansions as wholes.
use Rattle.std.proofs.Common.{◌≡◌, ◌∙◌, ℕ, Bool, true, false, List, [], ◌∷◌, ◌++◌, map, refl, ap, append_assoc, append-nil, Option, Some, None}
use Rattle.std.specs.Prelude.{◌||◌, ◌&&◌, ◌==◌, if◌then◌else◌, is_some, unwrap_or}
use Rattle.std.specs.List.{flat_map, list_any}
use Rattle.m11_base.specs.NameCharacters.{is_name_character}
use Rattle.m11_scan.specs.Line.{SourceLine}
use Rattle.m11_unfold_bodies.specs.Bodies.{PartialBody, IsPartialBody, before_left, body_of, cut_after, cut_at, depth_after, depth_next, depth_past, partial_body_with, texts_of, with_line, with_lines}
use Rattle.m11_unfold_bodies.specs.Left.{End, RemainingItem, Line, expanded, round}
use Rattle.m11_unfold_bodies.specs.Substitution.{Other, Piece, Run, actual_for, begins_replaced, is_replaced, joined, line_with, pieces_of, substituted, text_of}
use Rattle.m11_unfold_bodies.specs.declared.mark.Mark.{Mark}
use Rattle.m11_unfold_bodies.specs.declared.open_body.Nesting.{Nesting}
use Rattle.m11_unfold_bodies.proofs.Cases.{in_run, kept}

-- ---- bodies

module _ (nesting : List ℕ → Nesting) where
  at_last : (depth : Option ℕ) → depth_next (λ inside. depth_past nesting inside []) depth ≡ depth
  at_last None = refl
  at_last (Some depth) = refl

  -- the depth after one more line of a body follows from the depth before it
  past_more : (texts : List (List ℕ)) (depth inside : ℕ) (text : List ℕ) → depth_past nesting depth texts ≡ Some inside
      → depth_past nesting depth (texts ++ text ∷ []) ≡ depth_after (nesting text) inside
  past_more [] depth inside text stands =
      let same : depth ≡ inside = cc in
      at_last (depth_after (nesting text) depth) ∙ ap (depth_after (nesting text)) same
  past_more (first ∷ texts) depth inside text stands =
      go (depth_after (nesting first) depth) (λ i h. past_more texts i inside text h) stands
    where
      go : (x : Option ℕ)
          → ((i : ℕ) → depth_past nesting i texts ≡ Some inside
          → depth_past nesting i (texts ++ text ∷ []) ≡ depth_after (nesting text) inside)
          → depth_next (λ i. depth_past nesting i texts) x ≡ Some inside
          → depth_next (λ i. depth_past nesting i (texts ++ text ∷ [])) x ≡ depth_after (nesting text) inside
      go None more h = absurd (let bad = h in cc)
      go (Some i) more h = more i h

  -- a body cut off after some of its lines is these lines, followed by the rest of the cut
  cut_past : (lines : List SourceLine) (depth inside : ℕ) (left : List RemainingItem) → depth_past nesting depth (texts_of lines) ≡ Some inside
      → cut_at nesting depth (before_left lines left) ≡ with_lines (texts_of lines) (cut_at nesting inside left)
  cut_past [] depth inside left stands =
      let same : depth ≡ inside = cc in
      ap (λ (d : ℕ). cut_at nesting d left) same
  cut_past (line ∷ lines) depth inside left stands =
      go (depth_after (nesting line.text) depth) (λ i h. cut_past lines i inside left h) stands
    where
      go : (x : Option ℕ)
          → ((i : ℕ) → depth_past nesting i (texts_of lines) ≡ Some inside
          → cut_at nesting i (before_left lines left) ≡ with_lines (texts_of lines) (cut_at nesting inside left))
          → depth_next (λ i. depth_past nesting i (texts_of lines)) x ≡ Some inside
          → cut_after line.text (before_left lines left) (λ i. cut_at nesting i (before_left lines left)) x
          ≡ with_lines (line.text ∷ texts_of lines) (cut_at nesting inside left)
      go None more h = absurd (let bad = h in cc)
      go (Some i) more h = ap (with_line line.text) (more i h)

  pub grown : (taken : PartialBody) (text : List ℕ) (depth : ℕ) → IsPartialBody nesting taken
      → depth_after (nesting text) taken.depth ≡ Some depth → IsPartialBody nesting (partial_body_with taken text depth)
  grown taken text depth stands goes = past_more taken.body 0 taken.depth text stands ∙ goes

  pub goes_on : (taken : PartialBody) (lines : List SourceLine) (left : List RemainingItem) → texts_of lines ≡ taken.body
      → IsPartialBody nesting taken → body_of nesting (before_left lines left) ≡ with_lines taken.body (cut_at nesting taken.depth left)
  goes_on taken lines left same stands =
      cut_past lines 0 taken.depth left (ap (depth_past nesting 0) same ∙ stands)
      ∙ ap (λ (texts : List (List ℕ)). with_lines texts (cut_at nesting taken.depth left)) same

-- ---- replacement

in_run_text : (byte : ℕ) (pieces : List Piece) → flat_map text_of (in_run byte pieces) ≡ byte ∷ flat_map text_of pieces
in_run_text byte [] = refl
in_run_text byte (Run run ∷ pieces) = refl
in_run_text byte (Other other ∷ pieces) = refl

pieces_text : (text : List ℕ) → flat_map text_of (pieces_of text) ≡ text
pieces_text [] = refl
pieces_text (byte ∷ text) = go (is_name_character byte) (pieces_text text) where
  go : (b : Bool) → flat_map text_of (pieces_of text) ≡ text
      → flat_map text_of (if b then in_run byte (pieces_of text) else Other byte ∷ pieces_of text) ≡ byte ∷ text
  go true rest = in_run_text byte (pieces_of text) ∙ ap (λ (t : List ℕ). byte ∷ t) rest
  go false rest = ap (λ (t : List ℕ). byte ∷ t) rest

kept_alone : (piece : Piece) → kept false piece ≡ text_of piece
kept_alone (Run run) = refl
kept_alone (Other byte) = go (byte == 39) where
  go : (b : Bool) → (if b && false then [] else byte ∷ []) ≡ byte ∷ []
  go true = refl
  go false = refl

either : (a b : Bool) → (a || b) ≡ false → (a ≡ false) × (b ≡ false)
either false b h = (refl, h)
either true b h = absurd (let bad = h in cc)

no_actual : (found : Option (List ℕ)) → is_some found ≡ false → found ≡ None
no_actual None h = refl
no_actual (Some actual) h = absurd (let bad = h in cc)

module _ (formals : List (ℕ × ℕ)) (actuals : List (List ℕ)) where
  begins_alone : (pieces : List Piece) → list_any (is_replaced formals actuals) pieces ≡ false
      → begins_replaced formals actuals pieces ≡ false
  begins_alone [] h = refl
  begins_alone (piece ∷ pieces) h =
      (either (is_replaced formals actuals piece) (list_any (is_replaced formals actuals) pieces) h).0

  joined_alone : (pieces : List Piece) → list_any (is_replaced formals actuals) pieces ≡ false
      → joined formals actuals false pieces ≡ flat_map text_of pieces
  joined_alone [] h = refl
  joined_alone (piece ∷ pieces) h =
      let parts = either (is_replaced formals actuals piece) (list_any (is_replaced formals actuals) pieces) h in
      ap (λ (a : Option (List ℕ)). unwrap_or a (kept (false || begins_replaced formals actuals pieces) piece)
      ++ joined formals actuals (is_some a) pieces) (no_actual (actual_for formals actuals piece) parts.0)
      ∙ ap (λ (b : Bool). kept (false || b) piece ++ joined formals actuals false pieces) (begins_alone pieces parts.1)
      ∙ ap (λ (t : List ℕ). t ++ joined formals actuals false pieces) (kept_alone piece)
      ∙ ap (λ (t : List ℕ). text_of piece ++ t) (joined_alone pieces parts.1)

  pub unchanged : (text : List ℕ) → list_any (is_replaced formals actuals) (pieces_of text) ≡ false
      → substituted formals actuals text ≡ text
  unchanged text h = joined_alone (pieces_of text) h ∙ pieces_text text

  -- the text of two runs with a `'` between them, given what replaces each run, if anything
  abbrev two_put : List ℕ → List ℕ → Option (List ℕ) → Option (List ℕ) → List ℕ
  two_put first second a b = unwrap_or a first ++ (kept (is_some a || is_some b) (Other 39) ++ (unwrap_or b second ++ []))

  pub two_joined : (first second one other : List ℕ) → actual_for formals actuals (Run first) ≡ Some one
      → actual_for formals actuals (Run second) ≡ Some other
      → joined formals actuals false (Run first ∷ Other 39 ∷ Run second ∷ []) ≡ one ++ other
  two_joined first second one other h k =
      ap (λ (a : Option (List ℕ)). two_put first second a (actual_for formals actuals (Run second))) h
      ∙ ap (λ (b : Option (List ℕ)). two_put first second (Some one) b) k
      ∙ ap (λ (t : List ℕ). one ++ t) (append-nil other)

-- ---- expansions

module _ (formals : List (ℕ × ℕ)) (mark : Mark) (left : List RemainingItem) where
  pub one_round : (actuals : List (List ℕ)) (rounds : List (List (List ℕ))) (body : List (List ℕ))
      → expanded formals (actuals ∷ rounds) body mark left
      ≡ map (λ text. Line (line_with formals actuals text)) body ++ expanded formals rounds body mark left
  one_round actuals rounds body =
      append_assoc (round formals body actuals) (flat_map (round formals body) rounds) (End mark ∷ left)

  no_texts : (rounds : List (List (List ℕ))) → flat_map (round formals []) rounds ≡ []
  no_texts [] = refl
  no_texts (actuals ∷ rounds) = no_texts rounds

  pub no_line : (rounds : List (List (List ℕ))) → expanded formals rounds [] mark left ≡ End mark ∷ left
  no_line rounds = ap (λ (l : List RemainingItem). l ++ End mark ∷ left) (no_texts rounds)
