-- Feeds that a loop reads one after another, and what is true when it has read some of them.
use Rattle.std.proofs.Common.{◌≡◌, ℕ, zero, suc, ◌+◌, ◌<◌, ◌≤◌, List, [], ◌∷◌, ◌++◌, length, get_or, set, Option, Some, None, refl, sym, ap, ◌∙◌, append_assoc, arith}
use Rattle.std.proofs.lemmas.List.{length-append, append-nil}
use Rattle.m11_base.specs.Devices.{Rises}
use Rattle.m11_base.specs.Feed.{Text, HasBytes, BeginsWith, GiveAll, NoneFailed, OneFailed}

-- the feeds that a loop has read, before and after it read them, with their texts; and the feeds left
pub record SoFar {F : Type 0} (text : F → Option Text) (faults : F → ℕ) (initial now : List F) (index : ℕ)
    (sources : List (List ℕ)) : Type 0 where
  pub done : List F
  pub done_now : List F
  pub left : List F
  pub initial-is : initial ≡ done ++ left
  pub now-is : now ≡ done_now ++ left
  pub index-is : length done ≡ index
  pub index_now : length done_now ≡ index
  pub given : GiveAll text done sources
  pub unfailed : NoneFailed faults done done_now

-- if an index is the length of the first part of a list and inside the list, the second part has a first element
split_part : {F : Type 0} (done left : List F) (i : ℕ) → length done ≡ i → i < length (done ++ left)
    → (x : F) × (rest : List F) × (left ≡ x ∷ rest)
split_part [] [] i e h = absurd (omega arith)
split_part [] (x ∷ left) i e h = (x, left, refl)
split_part (y ∷ done) left zero e h = absurd (omega arith)
split_part (y ∷ done) left (suc i) e h = split_part done left i (omega arith) (omega arith)

get_part : {F : Type 0} (done rest : List F) (x d : F) → get_or (done ++ x ∷ rest) (length done) d ≡ x
get_part [] rest x d = refl
get_part (y ∷ done) rest x d = get_part done rest x d

set_part : {F : Type 0} (done rest : List F) (x new : F) → set (done ++ x ∷ rest) (length done) new ≡ done ++ new ∷ rest
set_part [] rest x new = refl
set_part {F = F} (y ∷ done) rest x new = ap (λ (t : List F). y ∷ t) (set_part done rest x new)

module _ {F : Type 0} (text : F → Option Text) (faults : F → ℕ) where
  give_after : (done : List F) (ss : List (List ℕ)) (rest : List F) (os : List (List ℕ)) → GiveAll text done ss
      → GiveAll text rest os → GiveAll text (done ++ rest) (ss ++ os)
  give_after [] [] rest os g h = h
  give_after [] (s ∷ ss) rest os g h = absurd g
  give_after (x ∷ done) [] rest os g h = absurd g
  give_after (x ∷ done) (s ∷ ss) rest os g h = (g.0, give_after done ss rest os g.1 h)

  none_after : (xs ys us vs : List F) → NoneFailed faults xs ys → NoneFailed faults us vs
      → NoneFailed faults (xs ++ us) (ys ++ vs)
  none_after [] [] us vs g h = h
  none_after [] (y ∷ ys) us vs g h = absurd g
  none_after (x ∷ xs) [] us vs g h = absurd g
  none_after (x ∷ xs) (y ∷ ys) us vs g h = (g.0, none_after xs ys us vs g.1 h)

  none_same : (xs : List F) → NoneFailed faults xs xs
  none_same [] = tt
  none_same (x ∷ xs) = (refl, none_same xs)

  move_given : (xs ys : List F) (ss : List (List ℕ)) → xs ≡ ys → GiveAll text ys ss → GiveAll text xs ss
  move_given xs ys ss e h = rw e h

  move_none : (xs xs' ys ys' : List F) → xs ≡ xs' → ys ≡ ys' → NoneFailed faults xs' ys' → NoneFailed faults xs ys
  move_none xs xs' ys ys' e f h = rw (e, f) h

  move_one : (xs xs' ys ys' : List F) (ss : List (List ℕ)) (beginning : List ℕ) → xs ≡ xs' → ys ≡ ys'
      → OneFailed text faults xs' ys' ss beginning → OneFailed text faults xs ys ss beginning
  move_one xs xs' ys ys' ss beginning e f h = rw (e, f) h

  any_bytes : (t : Option Text) → (source : List ℕ) × HasBytes t source
  any_bytes None = ([], tt)
  any_bytes (Some t) = (t.bytes, refl)

  any_sources : (xs : List F) → (ss : List (List ℕ)) × GiveAll text xs ss
  any_sources [] = ([], tt)
  any_sources (x ∷ xs) = let a = any_bytes (text x) in let b = any_sources xs in (a.0 ∷ b.0, (a.1, b.1))

  one_failed : (done done_now : List F) (ss : List (List ℕ)) (x z : F) (rest : List F) (beginning : List ℕ)
      → GiveAll text done ss → NoneFailed faults done done_now → BeginsWith (text x) beginning
      → Rises (faults x) (faults z)
      → OneFailed text faults (done ++ x ∷ rest) (done_now ++ z ∷ rest) ss beginning
  one_failed [] [] [] x z rest beginning g n b r = (b, r, none_same rest)
  one_failed [] [] (s ∷ ss) x z rest beginning g n b r = absurd g
  one_failed [] (y ∷ ys) ss x z rest beginning g n b r = absurd n
  one_failed (y ∷ done) [] ss x z rest beginning g n b r = absurd n
  one_failed (y ∷ done) (w ∷ ws) [] x z rest beginning g n b r = absurd g
  one_failed (y ∷ done) (w ∷ ws) (s ∷ ss) x z rest beginning g n b r =
      (g.0, n.0, one_failed done ws ss x z rest beginning g.1 n.1 b r)

  pub begin : (initial : List F) → SoFar text faults initial initial 0 []
  begin initial = record {
    done = [];
    done_now = [];
    left = initial;
    initial-is = refl;
    now-is = refl;
    index-is = refl;
    index_now = refl;
    given = tt;
    unfailed = tt;
  }

  no_rest : (done left : List F) → length (done ++ left) ≤ length done → left ≡ []
  no_rest [] [] h = refl
  no_rest [] (x ∷ left) h = absurd (omega arith)
  no_rest (y ∷ done) left h = no_rest done left (omega arith)

  pub all_read : (initial now : List F) (index : ℕ) (sources : List (List ℕ))
      → SoFar text faults initial now index sources → length now ≤ index
      → NoneFailed faults initial now × GiveAll text initial sources
  all_read initial now index sources s h =
      let over : length (s.done_now ++ s.left) ≤ length s.done_now = omega (arith, ap length s.now-is, s.index_now) in
      let none = no_rest s.done_now s.left over in
      let initial-is : initial ≡ s.done = s.initial-is ∙ ap (λ (t : List F). s.done ++ t) none ∙ append-nil s.done in
      let now-is : now ≡ s.done_now = s.now-is ∙ ap (λ (t : List F). s.done_now ++ t) none ∙ append-nil s.done_now in (
        move_none initial s.done now s.done_now initial-is now-is s.unfailed,
        move_given initial s.done sources initial-is s.given,
      )

  -- the loop reads one more feed, the one at the index that it has reached
  module _ (initial now : List F) (index : ℕ) (sources : List (List ℕ))
      (s : SoFar text faults initial now index sources)
      (inside : index < length now) (d x z : F) (x-is : x ≡ get_or now index d) where
    part : (y : F) × (rest : List F) × (s.left ≡ y ∷ rest)
    part = split_part s.done_now s.left index s.index_now (omega (arith, ap length s.now-is))

    now_here : now ≡ s.done_now ++ part.0 ∷ part.1
    now_here = s.now-is ∙ ap (λ (t : List F). s.done_now ++ t) part.2

    x-is-here : x ≡ part.0
    x-is-here = x-is ∙ ap (λ (t : List F). get_or t index d) now_here
        ∙ ap (λ i. get_or (s.done_now ++ part.0 ∷ part.1) i d) (sym s.index_now) ∙ get_part s.done_now part.1 part.0 d

    initial_here : initial ≡ s.done ++ x ∷ part.1
    initial_here =
        s.initial-is ∙ ap (λ (t : List F). s.done ++ t) part.2 ∙ ap (λ (y : F). s.done ++ y ∷ part.1) (sym x-is-here)

    new_here : set now index z ≡ s.done_now ++ z ∷ part.1
    new_here = ap (λ (t : List F). set t index z) now_here
        ∙ ap (λ i. set (s.done_now ++ part.0 ∷ part.1) i z) (sym s.index_now) ∙ set_part s.done_now part.1 part.0 z

    -- if this feed hasn't failed, no feed has
    pub none_failed : faults z ≡ faults x → NoneFailed faults initial (set now index z)
    none_failed same =
        move_none initial (s.done ++ x ∷ part.1) (set now index z) (s.done_now ++ z ∷ part.1) initial_here new_here
        (none_after s.done s.done_now (x ∷ part.1) (z ∷ part.1) s.unfailed (same, none_same part.1))

    -- if this feed failed, it is the only one that has
    pub failed_here : (beginning : List ℕ) → BeginsWith (text x) beginning → Rises (faults x) (faults z)
        → OneFailed text faults initial (set now index z) sources beginning
    failed_here beginning begins rises =
        move_one initial (s.done ++ x ∷ part.1) (set now index z) (s.done_now ++ z ∷ part.1) sources beginning
        initial_here new_here
        (one_failed s.done s.done_now sources x z part.1 beginning s.given s.unfailed begins rises)

    module _ (source : List ℕ) (has : HasBytes (text x) source) where
      -- the texts read so far, the text of this feed and those of the feeds after it are the texts of all feeds
      pub given_more : (others : List (List ℕ)) × GiveAll text initial (sources ++ source ∷ others)
      given_more =
          let others = any_sources part.1 in (
            others.0,
            move_given initial (s.done ++ x ∷ part.1) (sources ++ source ∷ others.0) initial_here
                (give_after s.done sources (x ∷ part.1) (source ∷ others.0) s.given (has, others.1)),
          )

      -- if this feed was read and hasn't failed, the loop has read one feed more
      pub read_more : faults z ≡ faults x
          → SoFar text faults initial (set now index z) (index + 1) (sources ++ source ∷ [])
      read_more same = record {
        done = s.done ++ x ∷ [];
        done_now = s.done_now ++ z ∷ [];
        left = part.1;
        initial-is = initial_here ∙ sym (append_assoc s.done (x ∷ []) part.1);
        now-is = new_here ∙ sym (append_assoc s.done_now (z ∷ []) part.1);
        index-is = omega (arith, length-append s.done (x ∷ []), s.index-is);
        index_now = omega (arith, length-append s.done_now (z ∷ []), s.index_now);
        given = give_after s.done sources (x ∷ []) (source ∷ []) s.given (has, tt);
        unfailed = none_after s.done s.done_now (x ∷ []) (z ∷ []) s.unfailed (same, tt);
      }
