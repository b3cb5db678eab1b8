use Rattle.value_store.proofs.Lessons.States.{learned_have_states, parts_are_grounded, states_stay}
use Rattle.value_store.proofs.laws.what_is_learned_has_states.Goals as goal

pub returns-clause-stay : goal.returns-clause-stay
returns-clause-stay c = states_stay

pub returns-clause-learned : goal.returns-clause-learned
returns-clause-learned c = learned_have_states

pub returns-clause-parts : goal.returns-clause-parts
returns-clause-parts c = parts_are_grounded
