-- A call returns to the word after it.
use Rattle.std.proofs.Common.{◌≡◌, ◌≢◌, ℕ, ◌+◌, ◌%◌, ◌<◌, false, List, length, None, Ok, refl, sym, ◌∙◌, ap, subst, arith}
use Rattle.m11_base.specs.Operand.{register_number}
use Rattle.m11_base.specs.declared.instruction.Insn.TheVariants as insn
use Rattle.m11_base.specs.declared.instruction.RegisterOp.TheVariants.{Jsr}
use Rattle.m11_base.specs.declared.operand.Operand.{Operand}
use Rattle.m11_base.specs.declared.operand.Register.{Register}
use Rattle.m11_base.specs.declared.operand.Register.TheVariants.{Sp, Pc}
use Rattle.m11_cpu_machine.specs.Dialogue.{Comes, Dialogue, Exchange, Leads}
use Rattle.m11_cpu_machine.specs.Execution.{execute, on_register}
use Rattle.m11_cpu_machine.specs.Jumps.{call, enter, pop, push, return_by, target}
use Rattle.m11_cpu_machine.specs.Machine.{advanced, register_of, with_register}
use Rattle.m11_cpu_machine.specs.Memory.{word_at}
use Rattle.m11_cpu_laws.specs.Returns.{call_length, CallReturns, CallsReturn, IsAt, IsCall, IsWordInside}
use Rattle.m11_cpu_machine.specs.Steps.{step, turned}
use Rattle.m11_cpu_laws.specs.Writes.{push_address}
use Rattle.m11_cpu_machine.specs.declared.execution.Ending.TheVariants as ending
use Rattle.m11_cpu_machine.specs.declared.machine.Machine.{Machine}
use Rattle.m11_cpu_machine.specs.declared.stop.Turn.{Turn}
use Rattle.m11_cpu_machine.specs.declared.stop.Turn.TheVariants.{Next}
use Rattle.m11_cpu_machine.proofs.AtOnce.{bind_at, turned_next}
use Rattle.m11_cpu_laws.proofs.StepsInMemory.{bind_leads, leads_then, pop_inside, push_inside, pushed, step_at, step_by}
use Rattle.m11_cpu_machine.proofs.RegistersPut.{put_same}
use Rattle.m11_cpu_laws.proofs.WordsPut.{length_put, put_length, put_other, word_put}
use Rattle.m11_cpu_laws.proofs.TargetsFormed.{call_counts, call_forms, CounterAt, Formed}

-- ---- RTS

-- the machine after one step of RTS
record Returned (register : Register) (called : Machine) : Type 0 where
  returned : Machine
  in_one_step : step called ≡ Comes (Next, returned)
  counter : register_of Pc returned ≡ register_of register called
  link : register_of register returned ≡ word_at called.memory (register_of Sp called)
  stack : register_of Sp returned ≡ (register_of Sp called + 2) % 0o200000

return_steps : (register : Register) (called : Machine) → length called.registers ≡ 8 → called.stopped ≡ None
    → called.status.trace ≡ false → register_number register < 6 → IsAt (insn.Rts register) called
    → IsWordInside (register_of Sp called) called → Returned register called
unfolding execute return_by
return_steps register called count runs untraced linked is_at inside =
    let n = advanced Pc 2 called in
    let o = with_register Pc (register_of register n) n in
    let p = advanced Sp 2 o in
    let not_counter : register_number register ≢ register_number Pc = λ e. omega arith in
    let not_stack : register_number Sp ≢ register_number register = λ e. omega arith in
    let no_link : register_number Pc ≢ register_number register = λ e. omega arith in
    let apart : register_number Sp ≢ register_number Pc = λ e. omega arith in
    let apart' : register_number Pc ≢ register_number Sp = λ e. omega arith in
    let count_n : length n.registers ≡ 8 = put_length Pc _ called count in
    let count_o : length o.registers ≡ 8 = put_length Pc _ n count_n in
    let count_p : length p.registers ≡ 8 = put_length Sp _ o count_o in
    let same_stack : register_of Sp o ≡ register_of Sp called = put_other Sp Pc _ n apart
    ∙ put_other Sp Pc _ called apart in
    let P : ℕ → Type 0 = λ a. IsWordInside a o in
    let word = word_at o.memory (register_of Sp o) in
    let q = with_register register word p in
    let popped : return_by register n ≡ Comes (Ok tt, q) =
    bind_at pop _ o p word (pop_inside o (subst P (sym same_stack) inside)) in
    record {
      returned = q;
      in_one_step = step_by (insn.Rts register) called q runs is_at
          (bind_at (return_by register) _ n q tt popped) untraced;
      counter = put_other Pc register word p no_link ∙ put_other Pc Sp _ o apart' ∙ put_same Pc _ n count_n
          ∙ put_other register Pc _ called not_counter;
      link = put_same register word p count_p ∙ ap (λ (a : ℕ). word_at called.memory a) same_stack;
      stack = put_other Sp register word p not_stack ∙ put_same Sp _ o count_o
          ∙ ap (λ (a : ℕ). (a + 2) % 0o200000) same_stack;
    }

-- ---- JSR

abbrev pub entered : Register → ℕ → Machine → Machine
entered register address n = with_register Pc address (with_register register (register_of Pc n) n)

pub enters : (register : Register) (address : ℕ) (formed : Machine) → IsWordInside (push_address formed) formed
    → enter register address formed ≡ Comes
    (Ok tt, entered register address (pushed (register_of register formed) formed))
unfolding enter
enters register address formed inside =
    bind_at (push (register_of register formed)) _ formed _ tt (push_inside (register_of register formed) formed inside)

pub call_leads : (register : Register) (operand : Operand) (m formed called : Machine) (es : List Exchange) (address : ℕ)
    → m.stopped ≡ None → IsAt (insn.Register Jsr register operand) m
    → Leads (target operand (advanced Pc 2 m)) es (Ok address, formed)
    → enter register address formed ≡ Comes (Ok tt, called) → called.status.trace ≡ false
    → Leads (step m) es (Next, called)
unfolding execute on_register call
call_leads register operand m formed called es address runs is_at h e untraced =
    let P : Dialogue (Turn × Machine) → Type 0 = λ d. Leads d es (Next, called) in
    subst P (sym (step_at (insn.Register Jsr register operand) m runs is_at))
    (leads_then (execute (insn.Register Jsr register operand) (advanced Pc 2 m)) (λ came. turned came.0 came.1) es
    (Ok ending.Next, called) (Next, called)
    (bind_leads (call register operand) _ (advanced Pc 2 m) called es tt (Ok ending.Next, called)
    (bind_leads (target operand) (enter register) (advanced Pc 2 m) formed es address (Ok tt, called) h e) refl)
    (turned_next called untraced))

-- a call returns if the machine before the push is as `Formed` and `CounterAt` say
called_back : (register : Register) (operand : Operand) (m formed : Machine) (es : List Exchange) (address : ℕ)
    → IsCall register operand m → Formed register m formed
    → CounterAt ((register_of Pc m + call_length operand) % 0o200000) formed
    → Leads (target operand (advanced Pc 2 m)) es (Ok address, formed) → CallReturns register operand m es address
called_back register operand m formed es address c f k h =
    let linked = c.linked in
    let word = register_of register formed in
    let p = pushed word formed in
    let q = with_register register (register_of Pc p) p in
    let called = entered register address p in
    let not_counter : register_number register ≢ register_number Pc = λ e. omega arith in
    let not_stack : register_number Sp ≢ register_number register = λ e. omega arith in
    let apart : register_number Sp ≢ register_number Pc = λ e. omega arith in
    let apart' : register_number Pc ≢ register_number Sp = λ e. omega arith in
    let count_p : length p.registers ≡ 8 = put_length Sp _ formed f.count in
    let count_q : length q.registers ≡ 8 = put_length register _ p count_p in
    let count_c : length called.registers ≡ 8 = put_length Pc address q count_q in
    let top : push_address formed ≡ push_address m = ap (λ (a : ℕ). (a + 0o177776) % 0o200000) f.stack in
    let P : ℕ → Type 0 = λ a. IsWordInside a m in
    let Q : List ℕ → Type 0 = λ bytes. (push_address formed % 2 ≡ 0) × (push_address formed + 1 < length bytes) in
    let inside : IsWordInside (push_address formed) formed = subst Q (sym f.memory) (subst P (sym top) c.pushed) in
    let stack_at : register_of Sp called ≡ push_address formed =
    put_other Sp Pc address q apart ∙ put_other Sp register _ p not_stack ∙ put_same Sp
    (push_address formed) formed f.count in
    let counter_is : register_of register called ≡ register_of Pc formed =
    put_other register Pc address q not_counter ∙ put_same register _ p count_p ∙ put_other Pc Sp _ formed apart' in
    let called_inside : IsWordInside (register_of Sp called) called = (
      let e = ap (λ (a : ℕ). a % 2) stack_at in e ∙ inside.0,
      let l = length_put formed.memory (push_address formed) word in let i = inside.1 in omega (arith, l, i, stack_at),
    ) in
    let word_is : word_at called.memory (register_of Sp called) ≡ word =
    ap (λ (a : ℕ). word_at called.memory a) stack_at ∙ word_put formed.memory (push_address formed) word inside.1 in
    let fits = c.running.words Sp in
    record {
      called = called;
      in_one_step = call_leads register operand m formed called es address c.running.not_stopped c.code h
          (enters register address formed inside) f.untraced;
      counter = put_same Pc address q count_q;
      comes_back = λ is_at.
          let r = return_steps register called count_c f.runs f.untraced linked is_at called_inside in
          record {
            returned = r.returned;
            in_one_step = r.in_one_step;
            counter = r.counter ∙ counter_is ∙ k.counter;
            link = r.link ∙ word_is ∙ f.link;
            stack = let e = r.stack in let t = top in let s = stack_at in omega (arith, e, t, s, fits);
          };
    }

pub calls_back : (register : Register) (operand : Operand) (m : Machine) → CallsReturn register operand m
calls_back register operand m es address formed c h =
    let not_counter : register_number register ≢ register_number Pc = λ e. let l = c.linked in omega arith in
    let f : Formed register m formed =
    (call_forms register operand m c.running not_counter c.link_not_stepped c.stack_not_stepped).each es (Ok address, formed) h in
    let k : CounterAt ((register_of Pc m + call_length operand) % 0o200000) formed =
    (call_counts operand m c.running).each es (Ok address, formed) h in
    called_back register operand m formed es address c f k h
