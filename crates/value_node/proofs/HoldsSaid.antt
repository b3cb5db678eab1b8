-- What is said below, after any calls: since the value-add was bound, what it did. No command is sent there, so what is queued
-- is what is said.
use Rattle.std.proofs.Common.{◌≡◌, false, ◌||◌, List, [], ◌∷◌, ◌++◌, None, refl, ap, sym, ◌∙◌}
use Rattle.std.specs.Prelude.{filter}
use Rattle.std.specs.List.{AllByRecursion, list_any}
use Rattle.channel_core.specs.Beginning.{new_end}
use Rattle.channel_core.specs.QueueLaws.{is_commanding, is_message, sent_in}
use Rattle.channel_core.specs.Wire.{hello, locator, said}
use Rattle.channel_core.specs.declared.held.Outgoing.{Outgoing}
use Rattle.tcf_message.specs.Message.{event}
use Rattle.value_node.specs.Deeds.{Deed, heard_in, hears}
use Rattle.value_node.specs.RelayLaws.{AfterAllDeeds, PassesAllOn, told_from}
use Rattle.value_node.specs.Runs.{LowerCall, Past, ValueRun, below, below_until_bound, lower_after}
use Rattle.value_node.specs.Value.{value_services}
use Rattle.value_node.specs.declared.relay.Relay.{Relay}
use Rattle.channel_core.proofs.TheLaws.{queues_its_messages}
use Rattle.value_node.proofs.Holding.{Holds}
use Rattle.value_node.proofs.DeedLists.{right_at}
use Rattle.value_node.proofs.HoldsCalled.{IsHeld, always_held}
use Rattle.value_node.proofs.NoCommandBelow.{IsOther}
use Rattle.value_node.proofs.Pasts.{sent_both}
use Rattle.value_node.proofs.Steps.{end_ran}
use Rattle.list_laws.proofs.AllLists.{all_left}

pub none_commands : (calls : List LowerCall) → AllByRecursion IsOther calls → list_any is_commanding calls ≡ false
none_commands [] all = refl
none_commands (call ∷ calls) all = ap (λ b. b || list_any is_commanding calls) all.0 ∙ none_commands calls all.1

module _ (v : Relay) (p : Past) (h : Holds v p) where
  abbrev greeting : Outgoing
  greeting = said (event locator hello value_services) None

  pub until_queued : filter is_message (below_until_bound p).past.queued ≡ greeting ∷ sent_in p.until_bound (new_end value_services None)
  until_queued = queues_its_messages value_services None p.until_bound (none_commands p.until_bound (all_left IsOther p.until_bound p.since_bound h.uncommanding))

  -- since it was bound, what it did
  pub does_tell : filter is_message (below p).past.queued ≡ filter is_message (below_until_bound p).past.queued ++ told_from [] h.deeds
  does_tell =
      let first = sent_in p.until_bound (new_end value_services None) in
      queues_its_messages value_services None (p.until_bound ++ p.since_bound) (none_commands (p.until_bound ++ p.since_bound) h.uncommanding)
      ∙ ap (λ os. greeting ∷ os) (sent_both p.until_bound p.since_bound (new_end value_services None)
      ∙ ap (λ e. first ++ sent_in p.since_bound e) (sym (end_ran p.until_bound (lower_after []))) ∙ ap (λ os. first ++ os) h.passed)
      ∙ ap (λ os. os ++ told_from [] h.deeds) (sym until_queued)

passes_all_on : (r : ValueRun) (deeds : List Deed) → IsHeld r deeds → PassesAllOn r deeds
passes_all_on r deeds held =
    let h = held.holds in
    record {
      heard = ap heard_in (sym held.does) ∙ h.messages;
      own = λ before rest incoming whole. right_at h.deeds before rest (hears incoming) h.right (held.does ∙ whole);
      told = does_tell r.value.relay r.past h ∙ ap (λ ds. filter is_message (below_until_bound r.past).past.queued ++ told_from [] ds) held.does;
    }

pub always_passes : AfterAllDeeds PassesAllOn
always_passes peer calls = passes_all_on _ _ (always_held peer calls)
