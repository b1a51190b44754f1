-- The innermost expansion comes last in the list, and is changed in place.
use Rattle.std.proofs.Common.{◌≡◌, ◌∙◌, ℕ, suc, ◌-◌, ◌<◌, List, [], ◌∷◌, ◌++◌, length, refl, sym, subst, ap, arith}
use Rattle.std.specs.Prelude.{slice_index_or}
use Rattle.m11_unfold_bodies.specs.Frames.{Frame}
use lib.ListN.{set}

-- a list of `count` items has this last item; with another item in its place, the items before are the same
pub record Ended (items : List Frame) (last other : Frame) (count : ℕ) : Type 0 where
  pub front : List Frame
  pub items_are : items ≡ front ++ last ∷ []
  pub changed : set items (count - 1) other ≡ front ++ other ∷ []

ends : (items : List Frame) (last other : Frame) → 0 < length items → last ≡ slice_index_or items (length items - 1) last
    → Ended items last other (length items)
ends [] last other some is = absurd (omega arith)
ends (frame ∷ []) last other some is = record { front = []; items_are = ap (λ (f : Frame). f ∷ []) (sym is); changed = refl }
ends (frame ∷ (next ∷ items)) last other some is =
    let index : length (frame ∷ next ∷ items) - 1 ≡ suc (length (next ∷ items) - 1) = omega arith in
    let inner = ends (next ∷ items) last other (omega arith)
    (is ∙ ap (λ (n : ℕ). slice_index_or (frame ∷ next ∷ items) n last) index) in
    record {
      front = frame ∷ inner.front;
      items_are = ap (λ (l : List Frame). frame ∷ l) inner.items_are;
      changed = ap (λ (n : ℕ). set (frame ∷ next ∷ items) n other) index ∙ ap (λ (l : List Frame). frame ∷ l) inner.changed;
    }

pub ends_after : (items : List Frame) (last other : Frame) (count : ℕ) → count ≡ length items → 0 < count
    → last ≡ slice_index_or items (count - 1) last → Ended items last other count
ends_after items last other count all some is =
    subst (Ended items last other) (sym all)
    (ends items last other (rw all at some) (is ∙ ap (λ (n : ℕ). slice_index_or items (n - 1) last) all))

no_more : (items : List Frame) (last : Frame) → [] ≡ items ++ last ∷ [] → ⊥
no_more [] last h = cc
no_more (frame ∷ items) last h = cc

-- equal lists have equal last items, and equal items before them
pub one_end : (items others : List Frame) (last other : Frame) → items ++ last ∷ [] ≡ others ++ other ∷ [] → (items ≡ others) × (last ≡ other)
one_end [] [] last other h = (refl, cc)
one_end [] (frame ∷ others) last other h = absurd (no_more others other cc)
one_end (frame ∷ items) [] last other h = absurd (no_more items last cc)
one_end (frame ∷ items) (first ∷ others) last other h =
    let inner = one_end items others last other cc in
    let same : frame ≡ first = cc in
    (ap (λ (f : Frame). f ∷ items) same ∙ ap (λ (l : List Frame). first ∷ l) inner.0, inner.1)
