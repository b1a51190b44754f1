-- Slices of a run.
use Rattle.std.proofs.Common.{◌≡◌, ℕ, ◌+◌, ◌-◌, ◌<◌, Bool, false, List, [], ◌∷◌, Option, Some, None, sym, ap, ◌∙◌, subst, arith}
use Rattle.m11_base.specs.Devices.{Bytes}
use Rattle.m11_base.specs.Feed.{Ending, GivesByte, GivesEnd, GivesFailure, Text}
use Rattle.m11_cpu.specs.Runs.{run_counted}
use Rattle.m11_cpu.specs.declared.runs.Ran.{Ran}
use Rattle.m11_cpu_machine.specs.declared.machine.Machine.{Machine}
use Rattle.m11_cpu_machine.specs.Dialogue.{Devices, Does, Did, both, Exchange, Asked, Sent, Reply, Gives, Ends, Fails, Happened, Happens, Input, Replies}
use Rattle.m11_cpu_machine.specs.declared.stop.Stop.{Stop}
use Rattle.m11_cpu_machine.specs.declared.stop.Stop.TheVariants.{InputFault}
use Rattle.m11_cpu_states.specs.Slices.{Asks, Steps, console}
use Rattle.m11_cpu_states.specs.Typed.{ending_of, typed}

-- steps that end with a failed request, made with input that may go on, ask for a byte beyond those typed
pub asks : (is_over : Bool) (limit steps : ℕ) (stop : Stop) (state typed state' unread printed : Bytes) → is_over ≡ false → stop ≡ InputFault
    → 0 < steps → Steps is_over limit state typed (record { stop = stop; steps = steps }) state' unread printed
    → Asks limit (steps - 1) state typed
asks is_over limit steps stop state typed state' unread printed over fault some made =
    let count : steps ≡ steps - 1 + 1 = omega arith in
    let P : Bool → Type 0 = λ b. Steps b limit state typed (record { stop = stop; steps = steps }) state' unread printed in
    let Q : Stop → Type 0 = λ s. Steps false limit state typed (record { stop = s; steps = steps }) state' unread printed in
    let R : ℕ → Type 0 = λ n. Steps false limit state typed (record { stop = InputFault; steps = n }) state' unread printed in
    (state', unread, printed, subst R count (subst Q fault (subst P over made)))

-- a known text whose end is this
abbrev pub EndsSo : Ending → Option Input → Type 0
EndsSo ending (Some input) = (bytes : Bytes) × (input.text ≡ Some (record { bytes = bytes; ending = ending }))
EndsSo ending _ = ⊥

asked : (ending : Ending) (reply : Reply) (old new : Option Input) → EndsSo ending old → Did (λ i i'. Replies i i' reply) old new
    → EndsSo ending new
asked ending reply None new e h = absurd e
asked ending reply (Some old) None e h = absurd h
asked ending (Gives byte) (Some old) (Some new) e h =
    let g : GivesByte (Some (record { bytes = e.0; ending = ending })) new.text byte =
    subst (λ (t : Option Text). GivesByte t new.text byte) e.1 h.0 in
    (g.0, g.2)
asked ending Ends (Some old) (Some new) e h =
    let g : GivesEnd (Some (record { bytes = e.0; ending = ending })) new.text =
    subst (λ (t : Option Text). GivesEnd t new.text) e.1 h.0 in
    (e.0, g.1)
asked ending Fails (Some old) (Some new) e h =
    let g : GivesFailure (Some (record { bytes = e.0; ending = ending })) new.text old.faults =
    subst (λ (t : Option Text). GivesFailure t new.text old.faults) e.1 h.0 in
    (e.0, g.1)

-- one exchange leaves the end of a known text as it is
once : (ending : Ending) (exchange : Exchange) (old new : Devices) → EndsSo ending old.input → Happens old new exchange
    → EndsSo ending new.input
once ending (Sent byte taken) old new e h = subst (EndsSo ending) (sym h.1) e
once ending (Asked reply) old new e h = asked ending reply old.input new.input e h.0

-- exchanges leave the end of a known text as it is
pub end_stays : (ending : Ending) (exchanges : List Exchange) (old new : Devices) → EndsSo ending old.input
    → Happened old new exchanges → EndsSo ending new.input
unfolding Happened
end_stays ending [] old new e h = subst (λ (d : Devices). EndsSo ending d.input) (sym h) e
end_stays ending (first ∷ more) old new e h = end_stays ending more h.0 new (once ending first old h.0 e h.1) h.2

abbrev text_of : Bytes → Ending → Text
text_of bytes ending = record { bytes = bytes; ending = ending }

same_end : (is_over b : Bool) (unread : Bytes) (t : Option Text) (bytes : Bytes) → t ≡ typed b unread
    → t ≡ Some (record { bytes = bytes; ending = ending_of is_over }) → t ≡ typed is_over unread
same_end is_over b unread t bytes e f =
    let texts : text_of unread (ending_of b) ≡ text_of bytes (ending_of is_over) = cc in
    let same : ending_of b ≡ ending_of is_over = ap (λ (x : Text). x.ending) texts in
    e ∙ ap (λ (end : Ending). Some (record { bytes = unread; ending = end })) same

-- a run that began with these bytes typed, and nothing printed
pub ran_so : (is_over b : Bool) (given unread printed : Bytes) (limit : ℕ) (m m' : Machine) (ran : Ran) (t t' : Option Text) (f f' : ℕ)
    (o o' : Option Bytes) (l l' : ℕ) → t ≡ typed is_over given → f ≡ 0 → o ≡ Some [] → l ≡ 0 → t' ≡ typed b unread
    → o' ≡ Some printed → Does (run_counted limit m) (both t f o l) (both t' f' o' l') (ran, m')
    → Does (run_counted limit m) (console is_over given 0 [] 0) (console is_over unread f' printed l') (ran, m')
ran_so is_over b given unread printed limit m m' ran t t' f f' o o' l l' et ef eo el et' eo' does =
    let stays = end_stays (ending_of is_over) does.exchanges (both t f o l) (both t' f' o' l') (given, et) does.happened in
    let end : t' ≡ typed is_over unread = same_end is_over b unread t' stays.0 et' stays.1 in
    rw (et, ef, eo, el, end, eo') at does
