use native.Mathlib.Omega.{arith}
use mathlib.Core.Path.{refl, ap₂, subst}
use Rattle.reaction.specs.declared.Completion.TheVariants.{Ended, Waiting, Leaving, Wrong}
use Rattle.spec_tick.specs.Tick.{outcome}
use Rattle.instants.specs.Written.{WritableCode}
use Rattle.instants.proofs.Arms.{arm}
use Rattle.records.proofs.StateStores.{state_written}
use Rattle.records.proofs.AnswerStores.{answer-written}
use Rattle.instants.proofs.finish.Goals as goal

pub overflow_add-n : goal.overflow_add-n
overflow_add-n c =
    let h = subst WritableCode c.in-Leaving.is c.requires.2 in omega arith

pub returns-in-Ended : goal.returns-in-Ended
returns-in-Ended c =
    arm _ Ended _ _ _ _ c.in-Ended.is
    (ap₂ (outcome 0) (state_written c.args.state.now _ _ c.requires.0 c.write_state.ensures c.empty.ensures) (answer-written c.args.answer.now _ _ _ _ _ c.requires.1 c.write_answer.ensures))

pub returns-in-Waiting : goal.returns-in-Waiting
returns-in-Waiting c =
    arm _ Waiting _ _ _ _ c.in-Waiting.is (ap₂ (outcome 0) (state_written c.args.state.now _ _ c.requires.0 c.write_state-in-Waiting.ensures refl) (answer-written c.args.answer.now _ _ _ _ _ c.requires.1 c.write_answer-in-Waiting.ensures))

pub returns-in-Leaving : goal.returns-in-Leaving
returns-in-Leaving c =
    arm _ (Leaving c.in-Leaving.n) _ _ _ _ c.in-Leaving.is
    (ap₂ (outcome 0) (state_written c.args.state.now _ _ c.requires.0 c.write_state-in-Leaving.ensures c.empty-in-Leaving.ensures) (answer-written c.args.answer.now _ _ _ _ _ c.requires.1 c.write_answer-in-Leaving.ensures))

pub returns-in-Wrong : goal.returns-in-Wrong
returns-in-Wrong c =
    arm _ (Wrong c.in-Wrong.kind c.in-Wrong.place) _ _ _ _ c.in-Wrong.is
    (ap₂ (outcome 0) (state_written c.args.state.now _ _ c.requires.0 c.write_state-in-Wrong.ensures c.empty-in-Wrong.ensures) (answer-written c.args.answer.now _ _ _ _ _ c.requires.1 c.write_answer-in-Wrong.ensures))
