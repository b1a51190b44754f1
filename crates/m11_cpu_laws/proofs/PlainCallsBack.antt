-- A call that saves no register returns to the word after it.
use Rattle.std.proofs.Common.{◌≡◌, ◌≢◌, ℕ, ◌+◌, ◌%◌, ◌<◌, false, List, length, None, Ok, sym, ◌∙◌, ap, subst, arith}
use Rattle.m11_base.specs.Operand.{register_number}
use Rattle.m11_base.specs.declared.instruction.Insn.TheVariants as insn
use Rattle.m11_base.specs.declared.operand.Operand.{Operand}
use Rattle.m11_base.specs.declared.operand.Register.TheVariants.{Sp, Pc}
use Rattle.m11_cpu_machine.specs.Dialogue.{Comes, Exchange, Leads}
use Rattle.m11_cpu_machine.specs.Execution.{execute}
use Rattle.m11_cpu_machine.specs.Jumps.{pop, return_by, target}
use Rattle.m11_cpu_machine.specs.Machine.{advanced, register_of, with_register}
use Rattle.m11_cpu_machine.specs.Memory.{word_at}
use Rattle.m11_cpu_machine.specs.Steps.{step}
use Rattle.m11_cpu_machine.specs.declared.machine.Machine.{Machine}
use Rattle.m11_cpu_machine.specs.declared.stop.Turn.TheVariants.{Next}
use Rattle.m11_cpu_machine.proofs.AtOnce.{bind_at}
use Rattle.m11_cpu_machine.proofs.RegistersPut.{put_same}
use Rattle.m11_cpu_laws.specs.Returns.{call_length, IsAt, IsPlainCall, IsWordInside, PlainCallReturns, PlainCallsReturn}
use Rattle.m11_cpu_laws.specs.Writes.{push_address}
use Rattle.m11_cpu_laws.proofs.CallsBack.{call_leads, entered, enters}
use Rattle.m11_cpu_laws.proofs.StepsInMemory.{pop_inside, pushed, step_by}
use Rattle.m11_cpu_laws.proofs.TargetsFormed.{call_counts, call_forms, CounterAt, Formed}
use Rattle.m11_cpu_laws.proofs.WordsPut.{length_put, put_length, put_other, word_put}

-- the machine after one step of RTS PC
record Returned (called : Machine) : Type 0 where
  returned : Machine
  in_one_step : step called ≡ Comes (Next, returned)
  counter : register_of Pc returned ≡ word_at called.memory (register_of Sp called)
  stack : register_of Sp returned ≡ (register_of Sp called + 2) % 0o200000

return_steps : (called : Machine) → length called.registers ≡ 8 → called.stopped ≡ None
    → called.status.trace ≡ false → IsAt (insn.Rts Pc) called → IsWordInside (register_of Sp called) called
    → Returned called
unfolding execute return_by
return_steps called count runs untraced is_at inside =
    let n = advanced Pc 2 called in
    let o = with_register Pc (register_of Pc n) n in
    let p = advanced Sp 2 o in
    let apart : register_number Sp ≢ register_number Pc = λ e. omega arith in
    let count_n : length n.registers ≡ 8 = put_length Pc _ called count in
    let count_o : length o.registers ≡ 8 = put_length Pc _ n count_n in
    let count_p : length p.registers ≡ 8 = put_length Sp _ o count_o in
    let same_stack : register_of Sp o ≡ register_of Sp called = put_other Sp Pc _ n apart
    ∙ put_other Sp Pc _ called apart in
    let P : ℕ → Type 0 = λ a. IsWordInside a o in
    let word = word_at o.memory (register_of Sp o) in
    let q = with_register Pc word p in
    let popped : return_by Pc n ≡ Comes (Ok tt, q) =
    bind_at pop _ o p word (pop_inside o (subst P (sym same_stack) inside)) in
    record {
      returned = q;
      in_one_step = step_by (insn.Rts Pc) called q runs is_at (bind_at (return_by Pc) _ n q tt popped) untraced;
      counter = put_same Pc word p count_p ∙ ap (λ (a : ℕ). word_at called.memory a) same_stack;
      stack = put_other Sp Pc word p apart ∙ put_same Sp _ o count_o
          ∙ ap (λ (a : ℕ). (a + 2) % 0o200000) same_stack;
    }

-- a call returns if the machine before the push is as `Formed` and `CounterAt` say
called_back : (operand : Operand) (m formed : Machine) (es : List Exchange) (address : ℕ)
    → IsPlainCall operand m → Formed Sp m formed
    → CounterAt ((register_of Pc m + call_length operand) % 0o200000) formed
    → Leads (target operand (advanced Pc 2 m)) es (Ok address, formed) → PlainCallReturns operand m es address
called_back operand m formed es address c f k h =
    let word = register_of Pc formed in
    let p = pushed word formed in
    let q = with_register Pc (register_of Pc p) p in
    let called = entered Pc address p in
    let apart : register_number Sp ≢ register_number Pc = λ e. omega arith in
    let count_p : length p.registers ≡ 8 = put_length Sp _ formed f.count in
    let count_q : length q.registers ≡ 8 = put_length Pc _ p count_p in
    let count_c : length called.registers ≡ 8 = put_length Pc address q count_q in
    let top : push_address formed ≡ push_address m = ap (λ (a : ℕ). (a + 0o177776) % 0o200000) f.stack in
    let P : ℕ → Type 0 = λ a. IsWordInside a m in
    let Q : List ℕ → Type 0 = λ bytes. (push_address formed % 2 ≡ 0) × (push_address formed + 1 < length bytes) in
    let inside : IsWordInside (push_address formed) formed = subst Q (sym f.memory) (subst P (sym top) c.pushed) in
    let stack_at : register_of Sp called ≡ push_address formed =
    put_other Sp Pc address q apart ∙ put_other Sp Pc _ p apart ∙ put_same Sp (push_address formed) formed f.count in
    let called_inside : IsWordInside (register_of Sp called) called = (
      let e = ap (λ (a : ℕ). a % 2) stack_at in e ∙ inside.0,
      let l = length_put formed.memory (push_address formed) word in let i = inside.1 in omega (arith, l, i, stack_at),
    ) in
    let word_is : word_at called.memory (register_of Sp called) ≡ word =
    ap (λ (a : ℕ). word_at called.memory a) stack_at ∙ word_put formed.memory (push_address formed) word inside.1 in
    let fits = c.running.words Sp in
    record {
      called = called;
      in_one_step = call_leads Pc operand m formed called es address c.running.not_stopped c.code h
          (enters Pc address formed inside) f.untraced;
      counter = put_same Pc address q count_q;
      comes_back = λ is_at.
          let r = return_steps called count_c f.runs f.untraced is_at called_inside in
          record {
            returned = r.returned;
            in_one_step = r.in_one_step;
            counter = r.counter ∙ word_is ∙ k.counter;
            stack = let e = r.stack in let t = top in let s = stack_at in omega (arith, e, t, s, fits);
          };
    }

pub plain_calls_back : (operand : Operand) (m : Machine) → PlainCallsReturn operand m
plain_calls_back operand m es address formed c h =
    let not_counter : register_number Sp ≢ register_number Pc = λ e. omega arith in
    let f : Formed Sp m formed =
    (call_forms Sp operand m c.running not_counter c.stack_not_stepped c.stack_not_stepped).each es (Ok address, formed) h in
    let k : CounterAt ((register_of Pc m + call_length operand) % 0o200000) formed =
    (call_counts operand m c.running).each es (Ok address, formed) h in
    called_back operand m formed es address c f k h
