-- The bytes read from sources, one part after another.
use Rattle.std.proofs.Common.{◌≡◌, ℕ, List, [], ◌∷◌, ◌++◌, Option, Some, None, refl, sym, ap, ◌∙◌}
use Rattle.m11_base.specs.Feed.{Text, GivesByte, GivesBytes, GivesEnd}
use Rattle.m11_scan.specs.Reader.{Gave}
use Rattle.m11_scan.proofs.Cuts.{bytes_of}

-- reading no bytes of a source before an input makes no difference to what was read
loosen : (t t' : Option Text) (ts new : List (Option Text)) (input : List (Option ℕ)) → GivesBytes t t' []
    → Gave (t' ∷ ts) new input → Gave (t ∷ ts) new input
loosen (Some t) t' ts new input g h =
    let same : Some t ≡ t' = ap (λ (bytes : List ℕ). Some (record { bytes = bytes; ending = t.ending })) g.1 ∙ sym g.2 in
    rw same h
loosen None t' ts new [] g h = (h.0, tt, h.2)
loosen None t' ts new (Some byte ∷ input) g h = (h.0, tt, h.2)
loosen None t' ts new (None ∷ input) g h = (h.0, tt, h.2)

pub gave_both : (a b c : List (Option Text)) (front rest : List (Option ℕ)) → Gave a b front → Gave b c rest
    → Gave a c (front ++ rest)
gave_both [] b c [] rest g h = rw g at h
gave_both [] b c (symbol ∷ front) rest g h = absurd g
gave_both (t ∷ ts) b c [] rest g h = loosen t g.0 ts c rest g.1 (rw g.2 at h)
gave_both (t ∷ ts) b c (Some byte ∷ front) rest g h = (g.0, g.1, gave_both (g.0 ∷ ts) b c front rest g.2 h)
gave_both (t ∷ ts) b c (None ∷ front) rest g h = (g.0, g.1, gave_both ts b c front rest g.2 h)

pub gave_bytes : (t t' : Option Text) (ts : List (Option Text)) (bytes : List ℕ) → GivesBytes t t' bytes
    → Gave (t ∷ ts) (t' ∷ ts) (bytes_of bytes)
gave_bytes t t' ts [] g = (t', g, refl)
gave_bytes None t' ts (byte ∷ bytes) g = (None, tt, gave_bytes None t' ts bytes tt)
gave_bytes (Some t) t' ts (byte ∷ bytes) g =
    let middle : Option Text = Some (record { bytes = bytes ++ g.0; ending = t.ending }) in
    (middle, (bytes ++ g.0, g.1, refl), gave_bytes middle t' ts bytes (g.0, refl, g.2))

same_bytes : (t : Option Text) → GivesBytes t t []
same_bytes None = tt
same_bytes (Some t) = (t.bytes, refl, refl)

pub gave_none : (ts : List (Option Text)) → Gave ts ts []
gave_none [] = refl
gave_none (t ∷ ts) = (t, same_bytes t, refl)

pub gave_byte : (t t' : Option Text) (ts : List (Option Text)) (byte : ℕ) → GivesByte t t' byte
    → Gave (t ∷ ts) (t' ∷ ts) (Some byte ∷ [])
gave_byte t t' ts byte g = (t', g, gave_none (t' ∷ ts))

pub gave_end : (t t' : Option Text) (ts : List (Option Text)) → GivesEnd t t' → Gave (t ∷ ts) ts (None ∷ [])
gave_end t t' ts g = (t', g, gave_none ts)
