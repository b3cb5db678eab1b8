-- The past of one channel among those of an agent, and what each call of the agent adds to it.
use Rattle.std.proofs.Common.{◌≡◌, ℕ, ◌+◌, ◌==◌, Bool, true, false, cond, List, [], ◌∷◌, ◌++◌, map, Option, Some, None, Result, Ok, Err, refl, sym, ap, ◌∙◌, subst, append_assoc, append-nil, eqb-true}
use Rattle.std.specs.Prelude.{option_map}
use Rattle.std.specs.List.{AllByRecursion}
use Rattle.channel_core.specs.Closing.{is_closed}
use Rattle.channel_core.specs.Runs.{Call as EndCall, sending, taking}
use Rattle.channel_core.specs.declared.taking.Taken.{Taken}
use Rattle.channel_core.specs.declared.taking.Taken.TheVariants as taken
use Rattle.target_hub.specs.declared.done.Done.{Done}
use Rattle.tcf_message.specs.Message.{MessageValue, command, event, final, flow, not_known, progress, reading}
use Rattle.tcf_message.specs.declared.message.MessageFault.{MessageFault}
use Rattle.tcf_values.specs.declared.event.EventData.{EventData}
use Rattle.agent_node.specs.Agent.{done_by, going_tells, is_full, read_as}
use Rattle.agent_node.specs.AgentValue.{AgentValue}
use Rattle.agent_node.specs.Runs.{Past, answer_calls, answer_of, answered_by, asked_by, event_call, hearing, next_of, on_number, on_one, on_open, progress_call, run_of, ticked_by, took_by, turned_by, unless_over, with_calls}
use Rattle.chain_world.specs.Standing.{past_at}
use Rattle.chain_route.proofs.EndCalls.{AreIdle}
use Rattle.list_laws.proofs.AllLists.{all_append}

pub apart_flag : (m n : ℕ) → (m ≡ n → ⊥) → (m == n) ≡ false
apart_flag m n apart = by_flag (m == n) refl
  where
    by_flag : (flag : Bool) → (m == n) ≡ flag → (m == n) ≡ false
    by_flag true is = absurd (apart (eqb-true m n is))
    by_flag false is = is

pub at_number : (k : ℕ) (pasts : List Past) (past : Past) → past_at k pasts ≡ Some past → (past.number == k) ≡ true
at_number k [] past is = absurd cc
at_number k (first ∷ pasts) past is = by_flag (first.number == k) refl is (at_number k pasts past)
  where
    by_flag : (flag : Bool) → (first.number == k) ≡ flag → cond flag (Some first) (past_at k pasts) ≡ Some past → (past_at k pasts ≡ Some past → (past.number == k) ≡ true) → (past.number == k) ≡ true
    by_flag true flag found rest = let same : first ≡ past = cc in ap (λ p. p.number == k) (sym same) ∙ flag
    by_flag false flag found rest = rest found

pub at_all : (P : Past → Type 0) (k : ℕ) (pasts : List Past) (past : Past) → AllByRecursion P pasts → past_at k pasts ≡ Some past → P past
at_all P k [] past each is = absurd cc
at_all P k (first ∷ pasts) past each is = by_flag (first.number == k) is (at_all P k pasts past each.1)
  where
    by_flag : (flag : Bool) → cond flag (Some first) (past_at k pasts) ≡ Some past → (past_at k pasts ≡ Some past → P past) → P past
    by_flag true found rest = let same : first ≡ past = cc in subst P same each.0
    by_flag false found rest = rest found

-- ---- Pasts that change each by itself

abbrev pub KeepsNumber : (Past → Past) → Type 0
KeepsNumber g = (past : Past) → (g past).number ≡ past.number

pub at_mapped : (g : Past → Past) → KeepsNumber g → (k : ℕ) (pasts : List Past) → past_at k (map g pasts) ≡ option_map g (past_at k pasts)
at_mapped g keeps k [] = refl
at_mapped g keeps k (past ∷ pasts) =
    ap (λ n. cond (n == k) (Some (g past)) (past_at k (map g pasts))) (keeps past) ∙ by_flag (past.number == k) (at_mapped g keeps k pasts)
  where
    by_flag : (flag : Bool) → past_at k (map g pasts) ≡ option_map g (past_at k pasts)
        → cond flag (Some (g past)) (past_at k (map g pasts)) ≡ option_map g (cond flag (Some past) (past_at k pasts))
    by_flag true rest = refl
    by_flag false rest = rest

pub numbers_mapped : (g : Past → Past) → KeepsNumber g → (pasts : List Past) → map (λ p. p.number) (map g pasts) ≡ map (λ p. p.number) pasts
numbers_mapped g keeps [] = refl
numbers_mapped g keeps (past ∷ pasts) = ap (λ n. n ∷ map (λ p. p.number) (map g pasts)) (keeps past) ∙ ap (λ ns. past.number ∷ ns) (numbers_mapped g keeps pasts)

pub on_number_keeps : (k : ℕ) (calls : List (EndCall Unit)) → KeepsNumber (on_number k calls)
on_number_keeps k calls past = by_flag (past.number == k)
  where
    by_flag : (flag : Bool) → (cond flag (with_calls calls past) past).number ≡ past.number
    by_flag true = refl
    by_flag false = refl

pub on_open_keeps : (k : ℕ) (calls : List (EndCall Unit)) → KeepsNumber (on_open k calls)
on_open_keeps k calls past = by_flag (past.number == k) (is_closed (run_of past).end.state)
  where
    by_flag : (flag over : Bool) → (cond flag (unless_over over calls past) past).number ≡ past.number
    by_flag true true = refl
    by_flag true false = refl
    by_flag false over = refl

-- ---- Idle calls

-- only idle calls were added
abbrev pub Grows : Option Past → Option Past → Type 0
Grows before later = (calls : List (EndCall Unit)) × AreIdle calls × (later ≡ option_map (with_calls calls) before)

abbrev pub Keeps : ℕ → List Past → List Past → Type 0
Keeps j pasts later = Grows (past_at j pasts) (past_at j later)

no_calls_more : (before : Option Past) → before ≡ option_map (with_calls []) before
no_calls_more None = refl
no_calls_more (Some past) = ap (λ calls. Some (record past { calls = calls })) (sym (append-nil past.calls))

pub grows_none : (before : Option Past) → Grows before before
grows_none before = ([], tt, no_calls_more before)

-- calls, and then more
pub with_twice : (calls more : List (EndCall Unit)) (before : Option Past) → option_map (with_calls more) (option_map (with_calls calls) before) ≡ option_map (with_calls (calls ++ more)) before
with_twice calls more None = refl
with_twice calls more (Some past) = ap (λ cs. Some (record past { calls = cs })) (append_assoc past.calls calls more)

pub grows_then : (one two three : Option Past) → Grows one two → Grows two three → Grows one three
grows_then one two three first second =
    (first.0 ++ second.0, all_append _ first.0 second.0 first.1 second.1, second.2 ∙ ap (option_map (with_calls second.0)) first.2 ∙ with_twice first.0 second.0 one)

-- each past grows so
grows_by : (g : Past → Past) → ((past : Past) → Grows (Some past) (Some (g past))) → (before : Option Past) → Grows before (option_map g before)
grows_by g each None = ([], tt, refl)
grows_by g each (Some past) = each past

keeps_mapped : (g : Past → Past) → KeepsNumber g → ((past : Past) → Grows (Some past) (Some (g past))) → (j : ℕ) (pasts : List Past) → Keeps j pasts (map g pasts)
keeps_mapped g keeps each j pasts = subst (Grows (past_at j pasts)) (sym (at_mapped g keeps j pasts)) (grows_by g each (past_at j pasts))

pub keeps_one : (k : ℕ) (calls : List (EndCall Unit)) → AreIdle calls → (j : ℕ) (pasts : List Past) → Keeps j pasts (on_one k calls pasts)
keeps_one k calls idle j pasts = keeps_mapped (on_number k calls) (on_number_keeps k calls) each j pasts
  where
    each : (past : Past) → Grows (Some past) (Some (on_number k calls past))
    each past = by_flag (past.number == k)
      where
        by_flag : (flag : Bool) → Grows (Some past) (Some (cond flag (with_calls calls past) past))
        by_flag true = (calls, idle, refl)
        by_flag false = grows_none (Some past)

events_idle : (position : ℕ) (events : List EventData) → AreIdle (map (event_call position) events)
events_idle position [] = tt
events_idle position (told ∷ events) = (tt, events_idle position events)

pub keeps_heard : (events : List EventData) (position j : ℕ) (pasts : List Past) → Keeps j pasts (hearing events position pasts)
keeps_heard events position j pasts =
    keeps_mapped (with_calls (map (event_call position) events)) (λ past. refl) (λ past. (map (event_call position) events, events_idle position events, refl)) j pasts

answers_idle : (token : List ℕ) (position : ℕ) (addresses : List ℕ) (done : Done) → AreIdle (map (progress_call token position) addresses ++ sending (answer_of token done.answer) (Some position) ∷ [])
answers_idle token position [] done = (tt, tt)
answers_idle token position (address ∷ addresses) done = (tt, answers_idle token position addresses done)

-- ---- The calls of an agent that bring nothing and give nothing out

keeps_answered : (k : ℕ) (token : List ℕ) (position : ℕ) (done : Done) (j : ℕ) (pasts : List Past) → Keeps j pasts (answered_by k token position done pasts)
keeps_answered k token position done j pasts =
    let heard = hearing done.events position pasts in
    grows_then (past_at j pasts) (past_at j heard) (past_at j (answered_by k token position done pasts)) (keeps_heard done.events position j pasts)
    (keeps_one k (answer_calls token position done) (answers_idle token position done.progress done) j heard)

keeps_asked : (k : ℕ) (what : Result MessageValue MessageFault) (a : AgentValue) (j : ℕ) (pasts : List Past) → Keeps j pasts (asked_by k what a pasts)
keeps_asked k (Ok (command token service name body)) a j pasts =
    keeps_answered k token (a.position + 1) (done_by k service name (read_as service name body) a.target) j pasts
keeps_asked k (Ok (final token body)) a j pasts = grows_none (past_at j pasts)
keeps_asked k (Ok (progress token body)) a j pasts = grows_none (past_at j pasts)
keeps_asked k (Ok (not_known token)) a j pasts = grows_none (past_at j pasts)
keeps_asked k (Ok (event service name body)) a j pasts = grows_none (past_at j pasts)
keeps_asked k (Ok (flow level)) a j pasts = grows_none (past_at j pasts)
keeps_asked k (Err fault) a j pasts = grows_none (past_at j pasts)

keeps_took : (k : ℕ) (what : Option (Taken Unit)) (a : AgentValue) (j : ℕ) (pasts : List Past) → Keeps j pasts (took_by k what a pasts)
keeps_took k None a j pasts = grows_none (past_at j pasts)
keeps_took k (Some (taken.Command incoming)) a j pasts = keeps_asked k (reading incoming.raw) a j pasts
keeps_took k (Some (taken.Closed cause)) a j pasts = keeps_heard (going_tells k a.target) (a.position + 1) j pasts
keeps_took k (Some (taken.Hello incoming)) a j pasts = grows_none (past_at j pasts)
keeps_took k (Some (taken.Event incoming)) a j pasts = grows_none (past_at j pasts)
keeps_took k (Some (taken.Progress token incoming)) a j pasts = grows_none (past_at j pasts)
keeps_took k (Some (taken.Final tag incoming)) a j pasts = grows_none (past_at j pasts)

keeps_unless : (flag : Bool) (j : ℕ) (pasts later : List Past) → Keeps j pasts later → Keeps j pasts (cond flag pasts later)
keeps_unless true j pasts later keeps = grows_none (past_at j pasts)
keeps_unless false j pasts later keeps = keeps

pub keeps_turned : (k : ℕ) (a : AgentValue) (j : ℕ) (pasts : List Past) → Keeps j pasts (turned_by k a pasts)
keeps_turned k a j pasts =
    let took = on_one k (taking ∷ []) pasts in
    let all = took_by k (next_of pasts k) a took in
    keeps_unless (is_full a) j pasts all
    (grows_then (past_at j pasts) (past_at j took) (past_at j all) (keeps_one k (taking ∷ []) (tt, tt) j pasts) (keeps_took k (next_of pasts k) a j took))

keeps_told : (told : Option (List EventData)) (a : AgentValue) (j : ℕ) (pasts : List Past) → Keeps j pasts (ticked_by told a pasts)
keeps_told None a j pasts = grows_none (past_at j pasts)
keeps_told (Some events) a j pasts = keeps_heard events (a.position + 1) j pasts

pub keeps_ticked : (told : Option (List EventData)) (a : AgentValue) (j : ℕ) (pasts : List Past) → Keeps j pasts (cond (is_full a) pasts (ticked_by told a pasts))
keeps_ticked told a j pasts = keeps_unless (is_full a) j pasts (ticked_by told a pasts) (keeps_told told a j pasts)

-- ---- Calls of another channel

pub same_elsewhere : (g : Past → Past) (k j : ℕ) → ((past : Past) → (past.number == k) ≡ false → g past ≡ past) → KeepsNumber g → (j ≡ k → ⊥) → (pasts : List Past) → past_at j (map g pasts) ≡ past_at j pasts
same_elsewhere g k j leaves keeps apart [] = refl
same_elsewhere g k j leaves keeps apart (past ∷ pasts) =
    ap (λ n. cond (n == j) (Some (g past)) (past_at j (map g pasts))) (keeps past) ∙ by_flag (past.number == j) refl (same_elsewhere g k j leaves keeps apart pasts)
  where
    by_flag : (flag : Bool) → (past.number == j) ≡ flag → past_at j (map g pasts) ≡ past_at j pasts → cond flag (Some (g past)) (past_at j (map g pasts)) ≡ cond flag (Some past) (past_at j pasts)
    by_flag true is rest =
        let same : past.number ≡ j = eqb-true past.number j is in
        ap Some (leaves past (apart_flag past.number k (λ other. apart (sym same ∙ other))))
    by_flag false is rest = rest

pub number_leaves : (k : ℕ) (calls : List (EndCall Unit)) (past : Past) → (past.number == k) ≡ false → on_number k calls past ≡ past
number_leaves k calls past isnt = ap (λ b. cond b (with_calls calls past) past) isnt

pub open_leaves : (k : ℕ) (calls : List (EndCall Unit)) (past : Past) → (past.number == k) ≡ false → on_open k calls past ≡ past
open_leaves k calls past isnt = ap (λ b. cond b (unless_over (is_closed (run_of past).end.state) calls past) past) isnt

pub keeps_same : (j : ℕ) (pasts later : List Past) → past_at j later ≡ past_at j pasts → Keeps j pasts later
keeps_same j pasts later same = subst (Grows (past_at j pasts)) (sym same) (grows_none (past_at j pasts))

-- ---- Calls of this channel

pub at_one : (k : ℕ) (calls : List (EndCall Unit)) (pasts : List Past) → past_at k (on_one k calls pasts) ≡ option_map (with_calls calls) (past_at k pasts)
at_one k calls [] = refl
at_one k calls (past ∷ pasts) = by_flag (past.number == k) refl (at_one k calls pasts)
  where
    by_flag : (flag : Bool) → (past.number == k) ≡ flag → past_at k (on_one k calls pasts) ≡ option_map (with_calls calls) (past_at k pasts)
        → cond ((cond flag (with_calls calls past) past).number == k) (Some (cond flag (with_calls calls past) past)) (past_at k (on_one k calls pasts))
        ≡ option_map (with_calls calls) (cond flag (Some past) (past_at k pasts))
    by_flag true is rest = ap (λ b. cond b (Some (with_calls calls past)) (past_at k (on_one k calls pasts))) is
    by_flag false is rest = ap (λ b. cond b (Some past) (past_at k (on_one k calls pasts))) is ∙ rest

abbrev pub over_by : List (EndCall Unit) → Past → Past
over_by calls past = unless_over (is_closed (run_of past).end.state) calls past

pub at_open : (k : ℕ) (calls : List (EndCall Unit)) (pasts : List Past) → past_at k (map (on_open k calls) pasts) ≡ option_map (over_by calls) (past_at k pasts)
at_open k calls [] = refl
at_open k calls (past ∷ pasts) =
    ap (λ n. cond (n == k) (Some (on_open k calls past)) (past_at k (map (on_open k calls) pasts))) (on_open_keeps k calls past) ∙ by_flag (past.number == k) refl (at_open k calls pasts)
  where
    by_flag : (flag : Bool) → (past.number == k) ≡ flag → past_at k (map (on_open k calls) pasts) ≡ option_map (over_by calls) (past_at k pasts)
        → cond flag (Some (cond flag (over_by calls past) past)) (past_at k (map (on_open k calls) pasts)) ≡ option_map (over_by calls) (cond flag (Some past) (past_at k pasts))
    by_flag true is rest = refl
    by_flag false is rest = rest

-- ---- A channel opens

pub at_more : (k : ℕ) (pasts : List Past) (past : Past) → (past.number == k) ≡ false → past_at k (pasts ++ past ∷ []) ≡ past_at k pasts
at_more k [] past isnt = ap (λ b. cond b (Some past) None) isnt
at_more k (first ∷ pasts) past isnt = ap (λ o. cond (first.number == k) (Some first) o) (at_more k pasts past isnt)

pub at_new : (k : ℕ) (pasts : List Past) (past : Past) → past_at k pasts ≡ None → (past.number == k) ≡ true → past_at k (pasts ++ past ∷ []) ≡ Some past
at_new k [] past none is = ap (λ b. cond b (Some past) None) is
at_new k (first ∷ pasts) past none is = by_flag (first.number == k) none (λ rest. at_new k pasts past rest is)
  where
    by_flag : (flag : Bool) → cond flag (Some first) (past_at k pasts) ≡ None → (past_at k pasts ≡ None → past_at k (pasts ++ past ∷ []) ≡ Some past) → cond flag (Some first) (past_at k (pasts ++ past ∷ [])) ≡ Some past
    by_flag true not rest = absurd cc
    by_flag false not rest = rest not

-- ---- Numbers stay

one_numbers : (k : ℕ) (calls : List (EndCall Unit)) (pasts : List Past) → map (λ p. p.number) (on_one k calls pasts) ≡ map (λ p. p.number) pasts
one_numbers k calls pasts = numbers_mapped (on_number k calls) (on_number_keeps k calls) pasts

heard_numbers : (events : List EventData) (position : ℕ) (pasts : List Past) → map (λ p. p.number) (hearing events position pasts) ≡ map (λ p. p.number) pasts
heard_numbers events position pasts = numbers_mapped (with_calls (map (event_call position) events)) (λ past. refl) pasts

asked_numbers : (k : ℕ) (what : Result MessageValue MessageFault) (a : AgentValue) (pasts : List Past) → map (λ p. p.number) (asked_by k what a pasts) ≡ map (λ p. p.number) pasts
asked_numbers k (Ok (command token service name body)) a pasts =
    let done = done_by k service name (read_as service name body) a.target in
    one_numbers k (answer_calls token (a.position + 1) done) (hearing done.events (a.position + 1) pasts) ∙ heard_numbers done.events (a.position + 1) pasts
asked_numbers k (Ok (final token body)) a pasts = refl
asked_numbers k (Ok (progress token body)) a pasts = refl
asked_numbers k (Ok (not_known token)) a pasts = refl
asked_numbers k (Ok (event service name body)) a pasts = refl
asked_numbers k (Ok (flow level)) a pasts = refl
asked_numbers k (Err fault) a pasts = refl

took_numbers : (k : ℕ) (what : Option (Taken Unit)) (a : AgentValue) (pasts : List Past) → map (λ p. p.number) (took_by k what a pasts) ≡ map (λ p. p.number) pasts
took_numbers k None a pasts = refl
took_numbers k (Some (taken.Command incoming)) a pasts = asked_numbers k (reading incoming.raw) a pasts
took_numbers k (Some (taken.Closed cause)) a pasts = heard_numbers (going_tells k a.target) (a.position + 1) pasts
took_numbers k (Some (taken.Hello incoming)) a pasts = refl
took_numbers k (Some (taken.Event incoming)) a pasts = refl
took_numbers k (Some (taken.Progress token incoming)) a pasts = refl
took_numbers k (Some (taken.Final tag incoming)) a pasts = refl

unless_numbers : (flag : Bool) (pasts later : List Past) → map (λ p. p.number) later ≡ map (λ p. p.number) pasts → map (λ p. p.number) (cond flag pasts later) ≡ map (λ p. p.number) pasts
unless_numbers true pasts later same = refl
unless_numbers false pasts later same = same

pub turned_numbers : (k : ℕ) (a : AgentValue) (pasts : List Past) → map (λ p. p.number) (turned_by k a pasts) ≡ map (λ p. p.number) pasts
turned_numbers k a pasts =
    let took = on_one k (taking ∷ []) pasts in
    unless_numbers (is_full a) pasts (took_by k (next_of pasts k) a took) (took_numbers k (next_of pasts k) a took ∙ one_numbers k (taking ∷ []) pasts)

told_numbers : (told : Option (List EventData)) (a : AgentValue) (pasts : List Past) → map (λ p. p.number) (ticked_by told a pasts) ≡ map (λ p. p.number) pasts
told_numbers None a pasts = refl
told_numbers (Some events) a pasts = heard_numbers events (a.position + 1) pasts

pub ticked_numbers : (told : Option (List EventData)) (a : AgentValue) (pasts : List Past) → map (λ p. p.number) (cond (is_full a) pasts (ticked_by told a pasts)) ≡ map (λ p. p.number) pasts
ticked_numbers told a pasts = unless_numbers (is_full a) pasts (ticked_by told a pasts) (told_numbers told a pasts)
