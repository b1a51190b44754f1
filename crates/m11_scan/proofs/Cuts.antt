-- Cutting an input, one part after another.
use Rattle.std.proofs.Common.{◌≡◌, ℕ, Bool, true, false, List, [], ◌∷◌, ◌++◌, map, Option, Some, None, refl, ap, ◌∙◌, inl, inr, ◌⊎◌}
use Rattle.std.specs.Prelude.{◌==◌}
use Rattle.m11_scan.specs.Lines.{RawLine, Cut, cut, closed_by, in_front, HasNoLineFeed}

pub either : (b : Bool) → (b ≡ true) ⊎ (b ≡ false)
either true = inl refl
either false = inr refl

abbrev pub raw : List ℕ → Bool → RawLine
raw bytes has_line_feed = record { bytes = bytes; has_line_feed = has_line_feed }

-- a cut with these lines before its own
abbrev after_lines : List RawLine → Cut → Cut
after_lines lines c = record { lines = lines ++ c.lines; unclosed = c.unclosed }

closes_later : (byte : ℕ) (lines : List RawLine) (unclosed : List ℕ) → (in_front byte lines unclosed).unclosed ≡ []
    → unclosed ≡ []
closes_later byte [] unclosed h = absurd (cc)
closes_later byte (line ∷ lines) unclosed h = h

in_front_after : (byte : ℕ) (lines : List RawLine) (unclosed : List ℕ) (c : Cut)
    → (in_front byte lines unclosed).unclosed ≡ []
    → in_front byte (lines ++ c.lines) c.unclosed ≡ after_lines (in_front byte lines unclosed).lines c
in_front_after byte [] unclosed c h = absurd (cc)
in_front_after byte (line ∷ lines) unclosed c h = refl

cut_after : (front rest : List (Option ℕ)) → (cut front).unclosed ≡ []
    → cut (front ++ rest) ≡ after_lines (cut front).lines (cut rest)
cut_after [] rest h = refl
cut_after (None ∷ front) rest h = ap (closed_by false) (cut_after front rest h)
cut_after (Some byte ∷ front) rest h = elim (either (byte == 10)) [
  | inl is ↦
      let closed = rw is at h in
      rw is (ap (closed_by true) (cut_after front rest closed))
  | inr other ↦
      let closed = rw other at h in
      let later = cut_after front rest (closes_later byte (cut front).lines (cut front).unclosed closed) in
      rw other (ap (λ (c : Cut). in_front byte c.lines c.unclosed) later
      ∙ in_front_after byte (cut front).lines (cut front).unclosed (cut rest) closed)
]

pub cut_joined : (front rest : List (Option ℕ)) (lines more : List RawLine) (unclosed : List ℕ)
    → cut front ≡ record { lines = lines; unclosed = [] } → cut rest ≡ record { lines = more; unclosed = unclosed }
    → cut (front ++ rest) ≡ record { lines = lines ++ more; unclosed = unclosed }
cut_joined front rest lines more unclosed e f =
    cut_after front rest (ap (λ (c : Cut). c.unclosed) e)
    ∙ ap (λ (c : Cut). after_lines c.lines (cut rest)) e
    ∙ ap (λ (c : Cut). after_lines lines c) f

-- ---- one piece

abbrev pub bytes_of : List ℕ → List (Option ℕ)
bytes_of bytes = map (λ byte. Some byte) bytes

pub cut_open : (bytes : List ℕ) → HasNoLineFeed bytes
    → cut (bytes_of bytes) ≡ record { lines = []; unclosed = bytes }
cut_open [] h = refl
cut_open (byte ∷ bytes) h =
    let rest = cut_open bytes h.1 in
    rw h.0 (ap (λ (c : Cut). in_front byte c.lines c.unclosed) rest)

cut_piece : (bytes : List ℕ) (last : List (Option ℕ)) (has_line_feed : Bool) → HasNoLineFeed bytes
    → cut last ≡ record { lines = raw [] has_line_feed ∷ []; unclosed = [] }
    → cut (bytes_of bytes ++ last) ≡ record { lines = raw bytes has_line_feed ∷ []; unclosed = [] }
cut_piece [] last has_line_feed h e = e
cut_piece (byte ∷ bytes) last has_line_feed h e =
    let rest = cut_piece bytes last has_line_feed h.1 e in
    rw h.0 (ap (λ (c : Cut). in_front byte c.lines c.unclosed) rest)

pub cut_line_feed : (bytes : List ℕ) → HasNoLineFeed bytes
    → cut (bytes_of bytes ++ Some 10 ∷ []) ≡ record { lines = raw bytes true ∷ []; unclosed = [] }
cut_line_feed bytes h = cut_piece bytes (Some 10 ∷ []) true h refl

pub cut_end : (bytes : List ℕ) → HasNoLineFeed bytes
    → cut (bytes_of bytes ++ None ∷ []) ≡ record { lines = raw bytes false ∷ []; unclosed = [] }
cut_end bytes h = cut_piece bytes (None ∷ []) false h refl
