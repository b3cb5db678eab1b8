-- What a value-add says itself, and when it connects, over any calls and whatever bytes come.
use Rattle.std.specs.Prelude.{◌≡◌, true, false, List, [], ◌∷◌, ◌++◌, filter, map, option_to_list, None}
use Rattle.std.specs.List.{flat_map, list_any}
use Rattle.channel_core.specs.Arrivals.{Spoken}
use Rattle.channel_core.specs.QueueLaws.{is_commanding, is_message}
use Rattle.channel_core.specs.Wire.{is_redirect, said}
use Rattle.tcf_message.specs.Message.{final}
use Rattle.value_node.specs.Asked.{Asked}
use Rattle.value_node.specs.Own.{redirect_done}
use Rattle.value_node.specs.OwnMessages.{IsOwn}
use Rattle.value_node.specs.RelayLaws.{asked_by}
use Rattle.value_node.specs.Runs.{Past, ValueRun, below_until_bound}
use Rattle.value_node.specs.Value.{is_opening}

-- the commands that were taken from below until it was bound
abbrev pub asked_until : Past → List Asked
asked_until p = flat_map asked_by (below_until_bound p).past.taken

-- The last command that it answered itself is a redirect, and the answer, without an error, is the last that it said.
pub record IsBoundBy (own : List Spoken) (commands : List Asked) : Type 0 where
  pub earlier : List Asked
  pub redirect : Asked
  pub commands_are : commands ≡ earlier ++ redirect ∷ []
  pub asks : is_redirect redirect.service redirect.name ≡ true
  pub said_before : List Spoken
  pub said_are : own ≡ said_before ++ (record { message = final redirect.token redirect_done; mark = None }) ∷ []

-- What it said below before it was bound, flow control and the end of the stream aside, are Hellos and answers to the
-- commands that it took until then, in order; a redirect that it does isn't answered yet.
pub record AnswersItself (r : ValueRun) : Type 0 where
  pub own : List Spoken
  pub queue : filter is_message (below_until_bound r.past).past.queued ≡ map (λ s. said s.message s.mark) own
  pub left : List Asked
  pub is_own : IsOwn (asked_until r.past) own left
  pub left_are : map (λ c. c.token) left ≡ option_to_list r.value.relay.redirect
  pub bound_by : r.past.is_bound ≡ true → IsBoundBy own (asked_until r.past)

-- where it took no command it hasn't connected, and doesn't wait for a connection
pub record ConnectsWhenAsked (r : ValueRun) : Type 0 where
  pub unconnected : asked_until r.past ≡ [] → r.past.connection ≡ None
  pub never : asked_until r.past ≡ [] → r.past.earlier ≡ []
  pub unopened : asked_until r.past ≡ [] → is_opening r.value.relay.bind ≡ false

-- it sends no command below
abbrev pub AsksNothingBelow : ValueRun → Type 0
AsksNothingBelow r = list_any is_commanding (r.past.until_bound ++ r.past.since_bound) ≡ false
