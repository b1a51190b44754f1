-- Texts that are written one after another, and the lines of the last steps.
use Rattle.std.proofs.Common.{◌≡◌, ◌∙◌, ℕ, zero, suc, ◌+◌, ◌-◌, ◌<◌, ◌≤◌, cond, List, [], ◌∷◌, ◌++◌, length, map, take, drop, get_or, append-nil, append_assoc, Option, Some, Result, Ok, Err, refl, sym, subst, ap, ap₂, arith}
use Rattle.std.specs.Fmt.{decimal}
use Rattle.std.specs.Prelude.{codes, nat_lt, slice_get}
use Rattle.std.specs.Io.KnownBytes.{Appends}
use Rattle.std.proofs.lemmas.List.{drop_all, drop_more}
use Rattle.std.proofs.lemmas.Option.{get_or_from_slice_get}
use Rattle.m11_base.proofs.Known.{Appends-Appends}
use Rattle.m11_base.specs.Devices.{Rises}
use Rattle.m11_base.specs.Sink.{AppendsPrefix}
use Rattle.m11_cpu.specs.Messages.{PutsMessages, end_line, end_text, register_line}
use Rattle.m11_cpu.specs.declared.fault.SimFault.{SimFault}
use Rattle.m11_cpu.specs.declared.fault.SimFault.TheVariants.{Load, Write, NoMemory}
use Rattle.m11_trace.specs.Lines.{short_line}
use Rattle.m11_trace.specs.Taken.{TracedStep, kept, recent_lines, shots_text}
use Rattle.m11_trace.specs.declared.shots.Shot.{Shot}
use Rattle.m11_trace.specs.Known.{Known}
use Rattle.m11_trace.proofs.Going.{appends_nothing, begins_after, begins_whole}

-- if a first text was written whole, and then a second one whole or in part, both together were written as the second was
pub puts_then : (a b c : Option (List ℕ)) (f g h : ℕ) (first second : List ℕ) (done : Unit {0}) (result : Result (Unit {0}) SimFault)
    → PutsMessages {A = Unit {0}} a b f g first (Ok done) → PutsMessages b c g h second result → PutsMessages a c f h (first ++ second) result
puts_then a b c f g h first second done (Ok all) p q = (Appends-Appends a b c first second p.0 q.0, q.1 ∙ p.1)
puts_then a b c f g h first second done (Err Write) p q =
    let P : ℕ → Type 0 = λ n. Rises n h in (begins_after a b c first second p.0 q.0, subst P p.1 q.1)
puts_then a b c f g h first second done (Err NoMemory) p q = absurd q
puts_then a b c f g h first second done (Err (Load fault)) p q = absurd q

-- if only a prefix of a first text was written, only a prefix of both texts together was
pub puts_part : (a b : Option (List ℕ)) (f g : ℕ) (first second : List ℕ) (fault : SimFault)
    → PutsMessages {A = Unit {0}} a b f g first (Err fault) → PutsMessages {A = Unit {0}} a b f g (first ++ second) (Err fault)
puts_part a b f g first second Write p = (begins_whole a b first second p.0, p.1)
puts_part a b f g first second NoMemory p = absurd p
puts_part a b f g first second (Load fault) p = absurd p

-- a name that is written in two parts
pub named_text : (start name : List ℕ) (steps : ℕ) (registers : List ℕ) (psw : ℕ)
    → start ++ end_text name steps registers psw ≡ end_text (start ++ name) steps registers psw
unfolding end_line
named_text start name steps registers psw =
    let rest : List ℕ = codes " AFTER " ++ (decimal steps ++ codes " STEPS\n") in
    let last : List ℕ = register_line registers psw in
    sym (append_assoc start (name ++ rest) last) ∙ ap (λ (t : List ℕ). t ++ last) (sym (append_assoc start name rest))

-- ---- the last steps

-- the lines of the steps that are recorded are those of the last steps
pub recent_are : (known : Known) (first last count : ℕ) (taken : List TracedStep) (recent : List Shot) → count ≡ length taken
    → recent ≡ take last (map kept taken)
    → cond (nat_lt count first) (shots_text known count recent) [] ≡ recent_lines known first last taken
recent_are known first last count taken recent long is =
    let to : ℕ → List Shot → List ℕ = λ n r. cond (nat_lt n first) (shots_text known n r) [] in ap₂ to long is

-- the lines of the steps before the last ones are the beginning of all lines
lines_begin : (known : Known) (left number : ℕ) (shots : List Shot)
    → (rest : List ℕ) × (shots_text known number shots ≡ shots_text known (number - left) (drop left shots) ++ rest)
lines_begin known zero number shots =
    let whole : number ≡ number - 0 = omega arith in
    ([], ap (λ (n : ℕ). shots_text known n shots) whole ∙ sym (append-nil (shots_text known (number - 0) shots)))
lines_begin known (suc left) number [] = ([], refl)
lines_begin known (suc left) number (shot ∷ earlier) =
    let begin = lines_begin known left (number - 1) earlier in
    let line : List ℕ = short_line known number shot in
    let fewer : number - 1 - left ≡ number - suc left = omega arith in
    let to : ℕ → List ℕ = λ n. shots_text known n (drop left earlier) ++ (begin.0 ++ line) in (
      begin.0 ++ line,
      ap (λ (t : List ℕ). t ++ line) begin.1 ∙ append_assoc (shots_text known (number - 1 - left) (drop left earlier)) begin.0 line
          ∙ ap to fewer,
    )

-- the lines of the recorded steps but the last `left` ones were written; the latest step has this number
pub record Showing (known : Known) (number left : ℕ) (shots : List Shot) (a b : Option (List ℕ)) (f g : ℕ) : Type 0 where
  pub put : Appends a b (shots_text known (number - left) (drop left shots))
  pub sound : g ≡ f
  pub within : left ≤ length shots

pub nothing_yet : (known : Known) (number left : ℕ) (shots : List Shot) (a : Option (List ℕ)) (f : ℕ) → left ≡ length shots
    → Showing known number left shots a a f f
nothing_yet known number left shots a f all =
    let none = drop_all left shots (omega (arith, all)) in
    let P : List Shot → Type 0 = λ xs. Appends a a (shots_text known (number - left) xs) in
    record { put = subst P (sym none) (appends_nothing a); sound = refl; within = omega (arith, all) }

module _ (known : Known) (number left next : ℕ) (shots : List Shot) (a b c : Option (List ℕ)) (f g h : ℕ) (shot : Shot)
    (s : Showing known number left shots a b f g) (one : left ≡ next + 1) (is : slice_get shots next ≡ Some shot) where
  line_is : shots_text known (number - left) (drop left shots) ++ short_line known (number - next) shot
      ≡ shots_text known (number - next) (drop next shots)
  line_is =
      let lt : next < length shots = omega (arith, one, s.within) in
      let there : get_or shots next shot ≡ shot = get_or_from_slice_get shots next shot shot is in
      let fewer : number - left ≡ number - next - 1 = omega (arith, one) in
      let line : List ℕ = short_line known (number - next) shot in
      let to : ℕ → ℕ → List ℕ = λ n k. shots_text known n (drop k shots) ++ line in
      let from : List Shot → List ℕ = λ xs. shots_text known (number - next) xs in
      ap₂ to fewer one ∙ sym (ap from (drop_more shots next shot lt ∙ ap (λ (x : Shot). x ∷ drop (next + 1) shots) there))

  -- the line of one more step was written
  pub one_more_shown : Appends b c (short_line known (number - next) shot) → h ≡ g → Showing known number next shots a c f h
  one_more_shown put sound =
      let P : List ℕ → Type 0 = λ t. Appends a c t in
      record {
        put = subst P line_is (Appends-Appends a b c (shots_text known (number - left) (drop left shots)) _ s.put put);
        sound = sound ∙ s.sound;
        within = omega (arith, one, s.within);
      }

  -- if the line of one more step can't be written, only a prefix of all lines was written
  pub shot_failed : (fault : SimFault) → PutsMessages {A = Unit {0}} b c g h (short_line known (number - next) shot) (Err fault)
      → PutsMessages {A = Unit {0}} a c f h (shots_text known number shots) (Err fault)
  shot_failed Write p =
      let begin = lines_begin known next number shots in
      let P : List ℕ → Type 0 = λ t. AppendsPrefix a c t in
      let Q : ℕ → Type 0 = λ n. Rises n h in
      let part = subst P line_is (begins_after a b c (shots_text known (number - left) (drop left shots)) _ s.put p.0) in
      (subst P (sym begin.1) (begins_whole a c _ begin.0 part), subst Q s.sound p.1)
  shot_failed NoMemory p = absurd p
  shot_failed (Load fault) p = absurd p

-- no step is left: all lines were written
pub all_lines : (known : Known) (number left : ℕ) (shots : List Shot) (a b : Option (List ℕ)) (f g : ℕ)
    → Showing known number left shots a b f g → left ≡ 0 → PutsMessages {A = Unit {0}} a b f g (shots_text known number shots) (Ok tt)
all_lines known number left shots a b f g s none =
    let whole : number - 0 ≡ number = omega arith in
    let P : ℕ → Type 0 = λ k. Appends a b (shots_text known (number - k) (drop k shots)) in
    let Q : ℕ → Type 0 = λ n. Appends a b (shots_text known n shots) in
    (subst Q whole (subst P none s.put), s.sound)

-- if a text can't be written, neither can an equal one
pub puts_same : (a b : Option (List ℕ)) (f g : ℕ) (text other : List ℕ) (fault : SimFault) → text ≡ other
    → PutsMessages {A = Unit {0}} a b f g text (Err fault) → PutsMessages {A = Unit {0}} a b f g other (Err fault)
puts_same a b f g text other fault e p =
    let P : List ℕ → Type 0 = λ t. PutsMessages {A = Unit {0}} a b f g t (Err fault) in subst P e p
