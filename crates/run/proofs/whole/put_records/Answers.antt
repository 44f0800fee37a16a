use Rattle.std.proofs.Common.{◌≡◌, ◌<◌, [], take, Ok, OnOk, Result, refl, sym, subst, ◌∙◌}
use Rattle.lines.proofs.Appended.{appends_none}
use Rattle.run.specs.State.{State, price_in, state}
use Rattle.run.proofs.Rests.{so_far_more}
use Rattle.run.proofs.Turns.{follows, left, step_taken}
use Rattle.run.proofs.whole.put_records.Goals as goal

pub loop-step-init : goal.loop-step-init
loop-step-init c = (
  record {
    said = [];
    done = [];
    puts = appends_none tt c.args.out.now;
    lines = refl;
    tables = refl;
    fault = refl;
    events = refl;
    law = λ history lawful. lawful;
    same = refl;
  },
  refl,
)

-- a fact of an answer that is Ok
on_ok : {A E : Type 0} {x : A} {answer : Result A E} {P : Type 0} → Ok x ≡ answer → OnOk answer P → P
on_ok {P = P} is fact = subst (λ a. OnOk a P) (sym is) fact

-- what was answered, by what was unwrapped
answered : {A E : Type 0} {unwrapped next : A} {answer told : Result A E} → answer ≡ Ok unwrapped → unwrapped ≡ next → answer ≡ told → Ok next ≡ told
answered was is tells = cc

pub loop-step-smaller : goal.loop-step-smaller
loop-step-smaller c =
    let told = c.step.ensures in
    let price = price_in c.loop-step.run in
    let s = state c.loop-step.run in
    let turn = step_taken price s c.loop-step.buffer c.step.new.buffer c.in-Some.step (state c.step.new.self) c.loop-step.invariant.1
    (answered c.unwrap.ensures c.in-Some.is told.answer) told.after told.line in
    subst (λ (u : State). left u < left s) (sym turn.state_is) (follows price s turn.turn_is turn.is).fewer

pub loop-step-preserved : goal.loop-step-preserved
loop-step-preserved c =
    let told = c.step.ensures in
    let turn = step_taken (price_in c.loop-step.run) (state c.loop-step.run) c.loop-step.buffer c.step.new.buffer c.in-Some.step (state c.step.new.self) c.loop-step.invariant.1
    (answered c.unwrap.ensures c.in-Some.is told.answer) told.after told.line in
    let so_far = c.loop-step.invariant.0 in
    let law = on_ok (answered c.unwrap.ensures c.in-Some.is refl) told.law in (
      so_far_more c.args.out.now c.args.run.now c.loop-step.added c.put-added.result c.loop-step.out c.put-added.new.out c.loop-step.run c.step.new.self (take c.in-Some.step.length c.step.new.buffer) turn.turn_is so_far
          turn.is turn.state_is turn.line_is (c.put-added.ensures c.args.out.now so_far.said so_far.puts) law c.step.ensures.same,
      c.step.auto.buffer ∙ c.loop-step.invariant.1,
    )
