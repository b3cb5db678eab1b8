-- An agent has answered each command that it took, on each of its channels.
use Rattle.std.proofs.Common.{◌≡◌, suc, ◌^◌, ◌<◌, ◌≤◌, List, [], ◌∷◌, length, map, Some, refl, sym, ap, ◌∙◌, subst, arith}
use Rattle.std.specs.List.{AllByRecursion, flat_map}
use Rattle.agent_node.specs.AgentLaws.{Asked, FollowsHistory, asked, messages_told, read, tokens}
use Rattle.agent_node.specs.Runs.{Past, after_all, no_calls, run_of}
use Rattle.node_answers.specs.AgentAnswering.{ServesAll, ServesAllAfterAnyCalls}
use Rattle.channel_core.specs.Arrivals.{Spoken}
use Rattle.channel_core.specs.ReceivingLaws.{incoming_of}
use Rattle.channel_core.specs.declared.held.Incoming.{Incoming}
use Rattle.channel_laws.specs.Meeting.{AnswersAll, lacks_hello_behind}
use Rattle.channel_laws.specs.Numbering.{TakesNumbered, tokens_from}
use Rattle.target_contexts.specs.declared.process.Image.{Image}
use Rattle.target_hub.specs.History.{IsLegal}
use Rattle.target_hub.specs.Sent.{Told, agent_services, executed_on, sent}
use Rattle.target_hub.specs.declared.input.Input.{Input}
use Rattle.tcf_message.specs.Message.{IsToken}
use Rattle.agent_node.proofs.TheLaws.{agent_tells_the_truth}
use Rattle.channel_laws.proofs.TheLaws.{takes_as_said}
use Rattle.node_answers.proofs.Agents.Numbered.{all_apart, redirect_of}
use Rattle.node_answers.proofs.Agents.Sending.{ArePlain, all_stay, executed_fits, plain_commands, plain_readable}
use Rattle.node_answers.proofs.Agents.Spoken.{AreAnswered, said_spoken, told_answered, told_does_none, told_formed, told_to}
use Rattle.node_answers.proofs.Agents.Taken.{all_answered, all_named, asked_among, asked_same, redirects_same, tokens_same}
use Rattle.node_answers.proofs.Agents.Telling.{Come, agent_hello, all_come}
use Rattle.list_laws.proofs.AllLists.{all_both}

same_length : (commands : List Asked) → length (tokens commands) ≡ length commands
same_length [] = refl
same_length (c ∷ commands) = ap suc (same_length commands)

read_length : (commands : List Asked) → length (map read commands) ≡ length commands
read_length [] = refl
read_length (c ∷ commands) = ap suc (read_length commands)

module _ (images : List Image) (history : List Input) (few : length history < 2 ^ 64) (legal : IsLegal images history) (past : Past) (follows : FollowsHistory images history past) where
  asked_are : List Asked
  asked_are = asked (run_of past)

  told : List Told
  told = sent images past.number history

  messages : List Incoming
  messages = flat_map incoming_of (run_of past).past.taken

  -- the commands are those that the messages are
  same_asked : asked_among messages ≡ asked_are
  unfolding messages asked_are
  same_asked = asked_same (run_of past).past.taken (takes_as_said agent_services (Some past.position) past.calls)

  come : Come (map read asked_are) told
  unfolding asked_are told
  come = subst (λ cs. Come cs (sent images past.number history)) follows.executed (all_come images history past.number legal)

  few_asked : length asked_are < 2 ^ 64
  unfolding asked_are
  few_asked =
      let same : length (executed_on past.number history) ≡ length (asked (run_of past)) = ap length follows.executed ∙ read_length (asked (run_of past)) in
      let fits : length (executed_on past.number history) ≤ length history = executed_fits past.number history in
      omega arith

  spoken : List Spoken
  spoken = told_to asked_are told

  named : AllByRecursion (λ c. IsToken c.token) asked_are
  named = subst (AllByRecursion (λ c. IsToken c.token)) same_asked (all_named messages)

  numbered : TakesNumbered (run_of past) → tokens asked_are ≡ tokens_from 1 (length asked_are)
  unfolding messages
  numbered counts =
      let same = tokens_same messages ∙ ap tokens same_asked in
      sym same ∙ counts.0 ∙ ap (λ names. tokens_from 1 (length names)) same ∙ ap (tokens_from 1) (same_length asked_are)

  pub answers_all : TakesNumbered (run_of past) → (said : List Spoken) × AnswersAll (run_of past) said
  unfolding spoken messages asked_are told
  answers_all counts = (
    spoken,
    record {
      formed = told_formed asked_are told named come;
      queued = follows.told ∙ said_spoken (messages_told (tokens asked_are) told);
      answered = all_answered spoken messages (subst (AreAnswered spoken) (sym same_asked) (told_answered asked_are told come));
      greeted = ap (λ names. lacks_hello_behind names spoken) (redirects_same messages ∙ ap (flat_map redirect_of) same_asked)
          ∙ told_does_none (flat_map redirect_of asked_are) asked_are told (all_apart asked_are (numbered counts) few_asked) come;
    },
  )

serves : (images : List Image) (history : List Input) → length history < 2 ^ 64 → IsLegal images history → (past : Past) → FollowsHistory images history past → ArePlain past.calls → ServesAll past
serves images history few legal past follows plain = record {
  formed = agent_hello;
  readable = plain_readable past.calls plain;
  asks_nothing = plain_commands past.calls plain;
  answers = answers_all images history few legal past follows;
}

pub serves_all : ServesAllAfterAnyCalls
serves_all images calls =
    let r = after_all calls (no_calls images) in
    let f = agent_tells_the_truth images calls in
    let s = all_stay images calls in
    all_both (FollowsHistory images r.history) (λ past. ArePlain past.calls) ServesAll r.channels (serves images r.history s.few f.legal) f.channels s.plain
