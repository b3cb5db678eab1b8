-- What a value-add has answered of what it was asked from below.
use Rattle.std.specs.Prelude.{◌≡◌, List}
use Rattle.channel_core.specs.Arrivals.{Spoken}
use Rattle.channel_laws.specs.Meeting.{AnswersAll, IsFree}
use Rattle.channel_laws.specs.Numbering.{TakesNumbered}
use Rattle.value_node.specs.Runs.{ValueRun, above, below}
use Rattle.value_node.specs.declared.states.Bind.TheVariants.{Unbound, Bound}

-- unbound, all of it, each redirect with an error
abbrev pub AnswersUnbound : ValueRun → Type 0
AnswersUnbound r = r.value.relay.bind ≡ Unbound → TakesNumbered (below r.past) → (spoken : List Spoken) × AnswersAll (below r.past) spoken

-- bound, all of it where all that it sent above was answered there and it holds nothing; and behind each answer without an error
-- to a redirect it has passed a Hello on
abbrev pub AnswersBound : ValueRun → Type 0
AnswersBound r = r.value.relay.bind ≡ Bound → IsFree (above r.past) → TakesNumbered (below r.past) → (spoken : List Spoken) × AnswersAll (below r.past) spoken
