-- The bytes that the devices returned and accepted are those of the exchanges.
use Rattle.std.proofs.Common.{◌≡◌, ℕ, Bool, true, false, List, [], ◌∷◌, ◌++◌, Option, Some, None, refl, sym, ◌∙◌, subst, ap, append_assoc}
use Rattle.std.proofs.KnownBytes.{Appends-nil, Appends-trans}
use Rattle.m11_base.specs.Feed.{Text, GivesByte, GivesEnd, GivesFailure, GivesBytes}
use Rattle.m11_cpu_machine.specs.Dialogue.{Devices, Exchange, Asked, Sent, Reply, Gives, Ends, Fails, Did, Happened, Happens, Input, Output, Replies, DialogueAccepts}
use Rattle.m11_cpu_laws.specs.Laws.{given, taken, GainedJust, GaveJust}

gave_nothing : (t : Option Text) → GivesBytes t t []
gave_nothing None = tt
gave_nothing (Some t) = (t.bytes, refl, refl)

gave_then : (t0 t1 t2 : Option Text) (xs ys : List ℕ) → GivesBytes t0 t1 xs → GivesBytes t1 t2 ys → GivesBytes t0 t2 (xs ++ ys)
gave_then None t1 t2 xs ys g h = tt
gave_then (Some t) t1 t2 xs ys g h =
    let next = rw g.2 at h in
    (next.0, g.1 ∙ ap (λ (zs : List ℕ). xs ++ zs) next.1 ∙ sym (append_assoc xs ys next.0), next.2)

gives_one : (t t' : Option Text) (byte : ℕ) → GivesByte t t' byte → GivesBytes t t' (byte ∷ [])
gives_one None t' byte h = tt
gives_one (Some t) t' byte h = h

ends_none : (t t' : Option Text) → GivesEnd t t' → GivesBytes t t' []
ends_none None t' h = tt
ends_none (Some t) t' h = (t.bytes, refl, h.1)

fails_none : (t t' : Option Text) (count : ℕ) → GivesFailure t t' count → GivesBytes t t' []
fails_none None t' count h = tt
fails_none (Some t) t' count h = (t.bytes, refl, h.1)

same_input : (i i' : Option Input) → i' ≡ i → GaveJust i i' []
same_input None None e = refl
same_input None (Some i') e = cc
same_input (Some i) None e = cc
same_input (Some i) (Some i') e =
    let P : Option Input → Type 0 = λ x. GaveJust (Some i) x [] in subst P (sym e) (gave_nothing i.text)

gave_more : (a b c : Option Input) (xs ys : List ℕ) → GaveJust a b xs → GaveJust b c ys → GaveJust a c (xs ++ ys)
gave_more None None None xs ys g h = cc
gave_more None None (Some c) xs ys g h = absurd h
gave_more None (Some b) c xs ys g h = absurd g
gave_more (Some a) None c xs ys g h = absurd g
gave_more (Some a) (Some b) None xs ys g h = absurd h
gave_more (Some a) (Some b) (Some c) xs ys g h = gave_then a.text b.text c.text xs ys g h

asked_gives : (i i' : Option Input) (reply : Reply) → Did (λ x y. Replies x y reply) i i'
    → GaveJust i i' (given (Asked reply ∷ []))
asked_gives None i' reply h = absurd h
asked_gives (Some i) None reply h = absurd h
asked_gives (Some i) (Some i') (Gives byte) h = gives_one i.text i'.text byte h.0
asked_gives (Some i) (Some i') Ends h = ends_none i.text i'.text h.0
asked_gives (Some i) (Some i') Fails h = fails_none i.text i'.text i.faults h.0

given_one_more : (e : Exchange) (es : List Exchange) → given (e ∷ es) ≡ given (e ∷ []) ++ given es
given_one_more (Asked (Gives byte)) es = refl
given_one_more (Asked Ends) es = refl
given_one_more (Asked Fails) es = refl
given_one_more (Sent byte taken) es = refl

input_of_one : (old new : Devices) (e : Exchange) → Happens old new e → GaveJust old.input new.input (given (e ∷ []))
input_of_one old new (Asked reply) h = asked_gives old.input new.input reply h.0
input_of_one old new (Sent byte taken) h = same_input old.input new.input h.1

pub input_exact : (old new : Devices) (es : List Exchange) → Happened old new es
    → GaveJust old.input new.input (given es)
unfolding Happened
input_exact old new [] h = same_input old.input new.input (ap (λ (d : Devices). d.input) h)
input_exact old new (e ∷ es) h =
    let P : List ℕ → Type 0 = λ bytes. GaveJust old.input new.input bytes in
    subst P (sym (given_one_more e es))
    (gave_more old.input h.0.input new.input (given (e ∷ [])) (given es) (input_of_one old h.0 e h.1)
    (input_exact h.0 new es h.2))

same_output : (o o' : Option Output) → o' ≡ o → GainedJust o o' []
same_output None None e = refl
same_output None (Some o') e = cc
same_output (Some o) None e = cc
same_output (Some o) (Some o') e =
    let P : Option Output → Type 0 = λ x. GainedJust (Some o) x [] in subst P (sym e) (Appends-nil o.text)

gained_more : (a b c : Option Output) (xs ys : List ℕ) → GainedJust a b xs → GainedJust b c ys
    → GainedJust a c (xs ++ ys)
gained_more None None None xs ys g h = cc
gained_more None None (Some c) xs ys g h = absurd h
gained_more None (Some b) c xs ys g h = absurd g
gained_more (Some a) None c xs ys g h = absurd g
gained_more (Some a) (Some b) None xs ys g h = absurd h
gained_more (Some a) (Some b) (Some c) xs ys g h = Appends-trans a.text b.text c.text xs ys g h

sent_gained : (o o' : Option Output) (byte : ℕ) (was_taken : Bool) → Did (λ x y. DialogueAccepts x y byte was_taken) o o'
    → GainedJust o o' (taken (Sent byte was_taken ∷ []))
sent_gained None o' byte was_taken h = absurd h
sent_gained (Some o) None byte was_taken h = absurd h
sent_gained (Some o) (Some o') byte true h = h.0
sent_gained (Some o) (Some o') byte false h = h.0

taken_one_more : (e : Exchange) (es : List Exchange) → taken (e ∷ es) ≡ taken (e ∷ []) ++ taken es
taken_one_more (Asked reply) es = refl
taken_one_more (Sent byte true) es = refl
taken_one_more (Sent byte false) es = refl

output_of_one : (old new : Devices) (e : Exchange) → Happens old new e
    → GainedJust old.output new.output (taken (e ∷ []))
output_of_one old new (Asked reply) h = same_output old.output new.output h.1
output_of_one old new (Sent byte was_taken) h = sent_gained old.output new.output byte was_taken h.0

pub output_exact : (old new : Devices) (es : List Exchange) → Happened old new es
    → GainedJust old.output new.output (taken es)
unfolding Happened
output_exact old new [] h = same_output old.output new.output (ap (λ (d : Devices). d.output) h)
output_exact old new (e ∷ es) h =
    let P : List ℕ → Type 0 = λ bytes. GainedJust old.output new.output bytes in
    subst P (sym (taken_one_more e es))
    (gained_more old.output h.0.output new.output (taken (e ∷ [])) (taken es) (output_of_one old h.0 e h.1)
    (output_exact h.0 new es h.2))
