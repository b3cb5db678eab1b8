-- What holds of an agent after any calls.
use Rattle.std.proofs.Common.{◌≡◌, ℕ, ◌+◌, ◌==◌, Bool, true, false, not, cond, ◌||◌, ◌&&◌, List, [], ◌∷◌, ◌++◌, length, map, refl, sym, ap, ◌∙◌, subst, append-nil, eq-eqb}
use Rattle.std.specs.List.{AllByRecursion, filter}
use Rattle.std.proofs.lemmas.Bool.{or_parts}
use Rattle.channel_core.specs.Closing.{is_closed}
use Rattle.channel_core.specs.Runs.{Call as EndCall}
use Rattle.target_contexts.specs.declared.process.Image.{Image}
use Rattle.target_hub.specs.History.{IsAllowed, IsLegal, closes as input_closes, input_after, inputs_after, is_live, opens as input_opens, was_closed, was_opened}
use Rattle.target_hub.specs.HubValue.{TargetValue, new_target}
use Rattle.target_hub.specs.Ordered.{OpensAt}
use Rattle.target_hub.specs.Sent.{agent_services, executed_by, executed_on, hello_at, sent}
use Rattle.target_hub.specs.declared.input.Input.{Input}
use Rattle.target_hub.specs.declared.input.Input.TheVariants.{Opened}
use Rattle.agent_node.specs.AgentValue.{AgentValue}
use Rattle.agent_node.specs.Channels.{is_kept, new_channel}
use Rattle.channel_list.specs.Numbers.{has_number, with_number}
use Rattle.agent_node.specs.Runs.{Past, on_number, on_open, run_of, unless_over, with_calls}
use Rattle.channel_list.specs.declared.channel.Channel.{Channel}
use Rattle.channel_list.proofs.Differing.{Differ, all_apart, differ_mapped, differ_more, has, has_mapped, has_more}
use Rattle.agent_node.proofs.Following.{Follows, first_said, follows_heard}
use Rattle.agent_node.proofs.Histories.{closed_more, executed_more, inputs_more, legal_more, length_more, live_same, nothing_sent, opened_more, opens_last, sent_more, told_live}
use Rattle.channel_list.proofs.Numbering.{IsOrdered, with_number_has, with_number_ordered}
use Rattle.agent_node.proofs.Standing.{Stands, past_number, stand_kept, stand_more}
use Rattle.agent_node.proofs.Tokens.{Uses, as_messages, hello_messages, uses_hello}
use Rattle.list_laws.proofs.Flags.{or_false, or_true}
use Rattle.list_laws.proofs.AllLists.{all_push as all_more}
use Rattle.list_laws.proofs.Numbers.{other_number as other_way}

-- a channel that wasn't opened wasn't closed, and executes nothing
pub record IsStrange (k : ℕ) (history : List Input) : Type 0 where
  pub shut : was_closed k history ≡ false
  pub silent : executed_on k history ≡ []

pub record Holds (images : List Image) (a : AgentValue) (history : List Input) (pasts : List Past) : Type 0 where
  pub target : a.target ≡ inputs_after history (new_target images)
  pub position : a.position ≡ length history
  pub legal : IsLegal images history
  pub stands : Stands a.channels pasts
  pub differ : Differ past_number pasts
  pub numbers : (k : ℕ) → has_number k a.numbers ≡ was_opened k history
  pub ordered : IsOrdered a.numbers.latest
  pub opened : (k : ℕ) → was_opened k history ≡ has past_number k pasts
  pub strange : (k : ℕ) → was_opened k history ≡ false → IsStrange k history
  pub each : AllByRecursion (Follows images history) pasts

-- ---- Pasts of the same numbers

pub record AreNamesakes (pasts later : List Past) : Type 0 where
  pub have : (k : ℕ) → has past_number k later ≡ has past_number k pasts
  pub differ : Differ past_number pasts → Differ past_number later

pub namesakes : (g : Past → Past) → ((past : Past) → (g past).number ≡ past.number) → (pasts : List Past) → AreNamesakes pasts (map g pasts)
namesakes g keeps pasts = record { have = λ k. has_mapped past_number g keeps k pasts; differ = differ_mapped past_number g keeps pasts }

pub namesakes_then : (pasts later last : List Past) → AreNamesakes pasts later → AreNamesakes later last → AreNamesakes pasts last
namesakes_then pasts later last one two = record { have = λ k. two.have k ∙ one.have k; differ = λ d. two.differ (one.differ d) }

pub on_number_keeps : (k : ℕ) (calls : List (EndCall Unit)) (past : Past) → (on_number k calls past).number ≡ past.number
on_number_keeps k calls past = by_flag (past.number == k)
  where
    by_flag : (flag : Bool) → (cond flag (with_calls calls past) past).number ≡ past.number
    by_flag true = refl
    by_flag false = refl

pub on_open_keeps : (k : ℕ) (calls : List (EndCall Unit)) (past : Past) → (on_open k calls past).number ≡ past.number
on_open_keeps k calls past = by_flag (past.number == k) (is_closed (run_of past).end.state)
  where
    by_flag : (flag over : Bool) → (cond flag (unless_over over calls past) past).number ≡ past.number
    by_flag true true = refl
    by_flag true false = refl
    by_flag false over = refl

-- ---- No input

pub holds_quiet : (images : List Image) (a : AgentValue) (history : List Input) (pasts later : List Past) (channels : List Channel) → Stands channels later → AreNamesakes pasts later → AllByRecursion (Follows images history) later
    → Holds images a history pasts → Holds images (record a { channels = channels }) history later
holds_quiet images a history pasts later channels stands same each h = record {
  target = h.target;
  position = h.position;
  legal = h.legal;
  stands = stands;
  differ = same.differ h.differ;
  numbers = h.numbers;
  ordered = h.ordered;
  opened = λ k. h.opened k ∙ sym (same.have k);
  strange = h.strange;
  each = each;
}

-- ---- An input that opens nothing

still_strange : (k : ℕ) (history : List Input) (input : Input) → input_closes k input ≡ false → executed_by k input ≡ [] → IsStrange k history → IsStrange k (history ++ input ∷ [])
still_strange k history input isnt none s = record {
  shut = closed_more k history input ∙ ap (λ b. was_closed k history || b) isnt ∙ or_false (was_closed k history) ∙ s.shut;
  silent = executed_more k history input ∙ ap (λ cs. cs ++ executed_by k input) s.silent ∙ none;
}

-- what a channel that isn't live can't do
pub record IsForeign (k : ℕ) (input : Input) : Type 0 where
  pub isnt_closed : input_closes k input ≡ false
  pub isnt_caller : executed_by k input ≡ []

pub holds_input : (images : List Image) (a : AgentValue) (history : List Input) (pasts later : List Past) (channels : List Channel) (input : Input) (target : TargetValue)
    → target ≡ input_after input (inputs_after history (new_target images)) → IsAllowed history (inputs_after history (new_target images)) input → ((k : ℕ) → input_opens k input ≡ false)
    → ((k : ℕ) → was_opened k history ≡ false → IsForeign k input)
    → Stands channels later → AreNamesakes pasts later → AllByRecursion (Follows images (history ++ input ∷ [])) later
    → Holds images a history pasts → Holds images (record a { target = target; position = a.position + 1; channels = channels }) (history ++ input ∷ []) later
holds_input images a history pasts later channels input target made allowed opens_none foreign stands same each h = record {
  target = made ∙ sym (inputs_more history input (new_target images));
  position = ap (λ n. n + 1) h.position ∙ sym (length_more history input);
  legal = legal_more images history input h.legal allowed;
  stands = stands;
  differ = same.differ h.differ;
  numbers = λ k. h.numbers k ∙ sym (as_before k);
  ordered = h.ordered;
  opened = λ k. as_before k ∙ h.opened k ∙ sym (same.have k);
  strange = λ k none. let before : was_opened k history ≡ false = sym (as_before k) ∙ none in let f = foreign k before in still_strange k history input f.isnt_closed f.isnt_caller (h.strange k before);
  each = each;
}
  where
    as_before : (k : ℕ) → was_opened k (history ++ input ∷ []) ≡ was_opened k history
    as_before k = opened_more k history input ∙ ap (λ b. was_opened k history || b) (opens_none k) ∙ or_false (was_opened k history)

-- ---- A channel opens

no_calls_more : (past : Past) → with_calls [] past ≡ past
no_calls_more past = ap (λ calls. record past { calls = calls }) (append-nil past.calls)

-- the others hear nothing
follows_opened : (images : List Image) (history : List Input) (k : ℕ) (past : Past) → (past.number == k) ≡ false → Follows images history past → Follows images (history ++ Opened k ∷ []) past
follows_opened images history k past apart f =
    let isnt : (k == past.number) ≡ false = other_way past.number k apart in
    subst (Follows images (history ++ Opened k ∷ [])) (no_calls_more past)
    (follows_heard images history (Opened k) past _ (is_closed (run_of past).end.state) (length history + 1) [] refl refl (live_same past.number history (Opened k) isnt refl ∙ f.told.live)
    (ap (λ b. cond b (hello_at (length history + 1) agent_services ∷ []) []) isnt) refl f.plain f.told)

and_true : (a b : Bool) → a ≡ true → b ≡ false → (a && not b) ≡ true
and_true true true one two = sym two
and_true true false one two = refl
and_true false b one two = one

new_follows : (images : List Image) (history : List Input) (k position : ℕ) → position ≡ length history → was_opened k history ≡ false → IsStrange k history → Follows images (history ++ Opened k ∷ []) (record { number = k; position = position + 1; calls = [] })
unfolding first_said
new_follows images history k position place none strange = record {
  told = record {
    opened = let P : ℕ → Type 0 = λ n. OpensAt (history ++ Opened k ∷ []) n k in subst P (ap (λ n. n + 1) (sym place)) (opens_last history k);
    live = live;
    told = sym (hello_messages (position + 1)) ∙ ap (as_messages []) (sym all);
    uses = subst (Uses []) (sym all) (uses_hello (position + 1));
    executed = executed_more k history (Opened k) ∙ ap (λ cs. cs ++ []) strange.silent;
  };
  plain = refl;
}
  where
    live : is_live k (history ++ Opened k ∷ []) ≡ true
    live = and_true (was_opened k (history ++ Opened k ∷ [])) (was_closed k (history ++ Opened k ∷ []))
        (opened_more k history (Opened k) ∙ ap (λ b. was_opened k history || b) (eq-eqb k k refl) ∙ or_true (was_opened k history))
        (closed_more k history (Opened k) ∙ or_false (was_closed k history) ∙ strange.shut)

    all : sent images k (history ++ Opened k ∷ []) ≡ hello_at (position + 1) agent_services ∷ []
    all = sent_more images k history (Opened k)
        ∙ ap (λ ts. sent images k history ++ ts) (told_live k history (inputs_after history (new_target images)) (Opened k) (hello_at (length history + 1) agent_services ∷ []) true live
        (ap (λ b. cond b (hello_at (length history + 1) agent_services ∷ []) []) (eq-eqb k k refl)))
        ∙ ap (λ ts. ts ++ hello_at (length history + 1) agent_services ∷ []) (nothing_sent images k history none) ∙ ap (λ n. hello_at (n + 1) agent_services ∷ []) (sym place)

pub holds_opened : (images : List Image) (a : AgentValue) (history : List Input) (pasts : List Past) (k : ℕ) → has_number k a.numbers ≡ false → Holds images a history pasts
    → Holds images (record a { position = a.position + 1; numbers = with_number k a.numbers; channels = filter is_kept a.channels ++ new_channel k (a.position + 1) ∷ [] }) (history ++ Opened k ∷ [])
    (pasts ++ record { number = k; position = a.position + 1; calls = [] } ∷ [])
holds_opened images a history pasts k isnew h = record {
  target = h.target ∙ sym (inputs_more history (Opened k) (new_target images));
  position = ap (λ n. n + 1) h.position ∙ sym (length_more history (Opened k));
  legal = legal_more images history (Opened k) h.legal none;
  stands = stand_more (new_channel k (a.position + 1)) fresh (record { number = refl; end = refl }) (stand_kept h.stands);
  differ = differ_more past_number pasts fresh apart h.differ;
  numbers = λ j. with_number_has k j a.numbers h.ordered ∙ ap (λ b. b || (k == j)) (h.numbers j) ∙ sym (opened_more j history (Opened k));
  ordered = with_number_ordered k a.numbers h.ordered;
  opened = λ j. opened_more j history (Opened k) ∙ ap (λ b. b || (k == j)) (h.opened j) ∙ sym (has_more past_number j pasts fresh);
  strange = λ j isnt. let parts = or_parts (was_opened j history) (k == j) (sym (opened_more j history (Opened k)) ∙ isnt) in still_strange j history (Opened k) refl refl (h.strange j parts.0);
  each = all_more (Follows images (history ++ Opened k ∷ [])) pasts fresh
      (all_apart past_number (Follows images history) (Follows images (history ++ Opened k ∷ [])) k (follows_opened images history k) pasts apart h.each)
      (new_follows images history k a.position h.position none (h.strange k none));
}
  where
    fresh : Past
    fresh = record { number = k; position = a.position + 1; calls = [] }

    none : was_opened k history ≡ false
    none = sym (h.numbers k) ∙ isnew

    apart : has past_number k pasts ≡ false
    apart = sym (h.opened k) ∙ none
