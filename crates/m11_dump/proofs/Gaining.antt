-- Texts that an output gains one after another.
use Rattle.std.proofs.Common.{◌≡◌, ◌∙◌, ℕ, List, [], ◌∷◌, ◌++◌, append-nil, append_assoc, Option, Some, None, refl, sym, ap, subst}
use Rattle.std.proofs.lemmas.List.Folds.{concat-append}
use Rattle.std.specs.List.{concat}
use Rattle.std.specs.Io.KnownBytes.{Appends}
use Rattle.m11_base_writes.specs.States.{OutputState}
use Rattle.m11_dump.specs.Objects.{Gained, LacksOne, RefusesOne}

pub appends_nothing : (text : Option (List ℕ)) → Appends text text []
appends_nothing None = tt
appends_nothing (Some text) = sym (append-nil text)

pub appends_then : (t0 t1 t2 : Option (List ℕ)) (xs ys : List ℕ) → Appends t0 t1 xs → Appends t1 t2 ys → Appends t0 t2 (xs ++ ys)
appends_then None t1 t2 xs ys a b = tt
appends_then (Some x) None t2 xs ys a b = absurd a
appends_then (Some x) (Some y) None xs ys a b = absurd b
appends_then (Some x) (Some y) (Some z) xs ys a b = b ∙ ap (λ (text : List ℕ). text ++ ys) a ∙ append_assoc x xs ys

pub gained_nothing : (output : OutputState) → Gained [] output output
gained_nothing output = (appends_nothing output.text, refl)

pub gained_then : (o0 o1 o2 : OutputState) (xs ys : List ℕ) → Gained xs o0 o1 → Gained ys o1 o2 → Gained (xs ++ ys) o0 o2
gained_then o0 o1 o2 xs ys a b = (appends_then o0.text o1.text o2.text xs ys a.0 b.0, b.1 ∙ a.1)

pub gained_texts : (o0 o1 o2 : OutputState) (put more : List (List ℕ)) → Gained (concat put) o0 o1 → Gained (concat more) o1 o2
    → Gained (concat (put ++ more)) o0 o2
gained_texts o0 o1 o2 put more a b =
    let P : List ℕ → Type 0 = λ text. Gained text o0 o2 in
    subst P (sym (concat-append put more)) (gained_then o0 o1 o2 (concat put) (concat more) a b)

-- the texts in `put` were written, and those in `part` come after them
module _ (o0 o1 o2 : OutputState) (texts put part : List (List ℕ)) (all : texts ≡ put ++ part) (gained : Gained (concat put) o0 o1) where
  pub gained_all : Gained (concat part) o1 o2 → Gained (concat texts) o0 o2
  gained_all more =
      let P : List (List ℕ) → Type 0 = λ l. Gained (concat l) o0 o2 in
      subst P (sym all) (gained_texts o0 o1 o2 put part gained more)

  pub refused_after : RefusesOne part o1 o2 → RefusesOne texts o0 o2
  refused_after r = record {
    put = put ++ r.put;
    text = r.text;
    others = r.others;
    all = all ∙ ap (λ (l : List (List ℕ)). put ++ l) r.all ∙ sym (append_assoc put r.put (r.text ∷ r.others));
    last = r.last;
    middle = r.middle;
    gained = gained_texts o0 o1 r.middle put r.put gained r.gained;
    fails = r.fails;
  }

  pub lacked_after : LacksOne part o1 o2 → LacksOne texts o0 o2
  lacked_after r = record {
    put = put ++ r.put;
    others = r.others;
    all = all ∙ ap (λ (l : List (List ℕ)). put ++ l) r.all ∙ sym (append_assoc put r.put r.others);
    some = r.some;
    last = r.last;
    gained = gained_texts o0 o1 o2 put r.put gained r.gained;
  }
