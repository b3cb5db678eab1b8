-- After any calls a value-add has answered itself, it connects where it was asked, and it asks nothing below.
use Rattle.std.proofs.Common.{◌≡◌, ℕ, List, ◌∷◌, ◌++◌, Option, refl, ap, ◌∙◌}
use Rattle.std.specs.Prelude.{map, option_to_list}
use Rattle.channel_core.specs.Wire.{hello, locator}
use Rattle.tcf_message.specs.Message.{event}
use Rattle.value_node.specs.Asked.{Asked}
use Rattle.value_node.specs.OwnLaws.{AnswersItself, AsksNothingBelow, ConnectsWhenAsked}
use Rattle.value_node.specs.OwnMessages.{a_hello}
use Rattle.value_node.specs.RelayLaws.{AfterAllCalls}
use Rattle.value_node.specs.Runs.{ValueRun, after_all, no_calls}
use Rattle.value_node.specs.Value.{value_services}
use Rattle.value_node.specs.declared.states.Bind.{Bind}
use Rattle.value_node.specs.declared.states.Bind.TheVariants.{Unbound, Opening, Bound, Closed}
use Rattle.value_node.proofs.Answering.{IsAnswering, always_answering, asked_of, unopened}
use Rattle.value_node.proofs.HoldsCalled.{always_held}
use Rattle.value_node.proofs.HoldsSaid.{none_commands, until_queued}
use Rattle.value_node.proofs.OwnAnswers.{IsLeft, plain, spelled}

left_tokens : (bind : Bind) (redirect : Option (List ℕ)) (left : List Asked) → IsLeft bind redirect left → map (λ c. c.token) left ≡ option_to_list redirect
left_tokens Unbound redirect left is = rw (is.0, is.1) refl
left_tokens Opening redirect left is = rw (is.1, is.2) refl
left_tokens Bound redirect left is = rw (is.0, is.1) refl
left_tokens Closed redirect left is = rw (is.0, is.1) refl

answers_itself : (r : ValueRun) → IsAnswering r → AnswersItself r
answers_itself r is =
    let s = is.answering.says in
    let greets = plain (event locator hello value_services) in
    record {
      own = greets ∷ s.own;
      queue = until_queued r.value.relay r.past is.holds ∙ ap (λ os. spelled greets ∷ os) s.sent;
      left = s.left;
      is_own = (refl, (asked_of r.past.until_bound, a_hello value_services refl refl, s.is_own));
      left_are = left_tokens r.value.relay.bind r.value.relay.redirect s.left s.is_left;
      bound_by = λ bound.
          let b = s.bound_by bound in
          record { earlier = b.earlier; redirect = b.redirect; commands_are = b.commands_are; asks = b.asks; said_before = greets ∷ b.said_before; said_are = ap (λ said. greets ∷ said) b.said_are };
    }

connects_when_asked : (r : ValueRun) → IsAnswering r → ConnectsWhenAsked r
connects_when_asked r is =
    let a = is.answering in
    record {
      unconnected = a.unconnected;
      never = a.never;
      unopened = unopened r.past.until_bound r.value.relay.bind r.value.relay.redirect r.past.is_bound a.says;
    }

pub always_answers : AfterAllCalls AnswersItself
always_answers peer calls = answers_itself (after_all calls (no_calls peer)) (always_answering peer calls)

pub always_connects : AfterAllCalls ConnectsWhenAsked
always_connects peer calls = connects_when_asked (after_all calls (no_calls peer)) (always_answering peer calls)

pub always_asks_nothing : AfterAllCalls AsksNothingBelow
always_asks_nothing peer calls =
    let r = after_all calls (no_calls peer) in
    none_commands (r.past.until_bound ++ r.past.since_bound) (always_held peer calls).holds.uncommanding
