-- How many channels of an agent are live at once, and under which numbers none is opened.
use Rattle.std.proofs.Common.{◌≡◌, ℕ, ◌+◌, ◌-◌, ◌^◌, ◌<◌, ◌≤◌, ◌==◌, ◌⊎◌, Bool, true, false, not, cond, ◌&&◌, ◌||◌, nat_le, List, [], ◌∷◌, ◌++◌, length, map, refl, sym, ap, ◌∙◌, subst, inl, inr, arith, append-nil, eqb-true, eq-eqb, leb-false, leb-true, le-leb}
use Rattle.std.specs.Prelude.{Option, Some, None, Result, Ok, Err, count_by}
use Rattle.std.specs.List.{AllByRecursion}
use Rattle.std.proofs.lemmas.Bool.{or_parts, or_cases, or_left, or_right}
use Rattle.std.proofs.lemmas.List.Folds.{list_any-append}
use Rattle.std.proofs.lemmas.List.{map-append}
use Rattle.std.proofs.lemmas.List.Recursion.{is_count_by}
use Rattle.channel_core.specs.Closing.{is_closed}
use Rattle.channel_core.specs.Runs.{delivering, ending, putting_out, taking}
use Rattle.channel_core.specs.declared.taking.Taken.{Taken}
use Rattle.channel_core.specs.declared.taking.Taken.TheVariants as taken
use Rattle.target_contexts.specs.declared.process.Image.{Image}
use Rattle.target_hub.specs.History.{closes as input_closes, is_live, was_closed, was_opened}
use Rattle.target_hub.specs.declared.input.Input.{Input}
use Rattle.tcf_message.specs.Message.{MessageValue, command, final, progress, not_known, event, flow, reading}
use Rattle.tcf_message.specs.declared.message.MessageFault.{MessageFault}
use Rattle.tcf_values.specs.declared.event.EventData.{EventData}
use Rattle.agent_node.specs.Agent.{begun, done_by, going_tells, instruction_tells, is_full, is_refused, opened, read_as}
use Rattle.agent_node.specs.AgentValue.{AgentValue}
use Rattle.agent_node.specs.Channels.{is_open, live_count}
use Rattle.channel_list.specs.Numbers.{has_number}
use Rattle.agent_node.specs.Openings.{AtMost64AreLive, EachOpensWhereItMay, MayNotOpen, live_now, lives}
use Rattle.agent_node.specs.Runs.{AgentRun, Call, Past, after_all, after_call, answer_calls, asked_by, bytes_end, comes, event_call, gives, hearing, input_by, next_of, no_calls, on_number, on_open, on_one, opened_by, opens, pasts_by, ticked_by, ticks, took_by, turns, with_calls}
use Rattle.channel_list.specs.declared.channel.Channel.{Channel}
use Rattle.channel_list.proofs.Differing.{has}
use Rattle.agent_node.proofs.Following.{Follows}
use Rattle.agent_node.proofs.Holding.{on_number_keeps, on_open_keeps}
use Rattle.agent_node.proofs.Standing.{Stands, forgotten, no_more, past_number, shown}
use Rattle.agent_node.proofs.Truth.{HoldsRun, holds_all, holds_first}
use Rattle.list_laws.proofs.Flags.{not_false, not_true}

abbrev numbers : List Past → List ℕ
numbers pasts = map past_number pasts

abbrev live_in : List Input → ℕ → Bool
live_in history n = is_live n history

-- ---- A count, from the left

abbrev count : {A : Type 0} → (A → Bool) → List A → ℕ
count p [] = 0
count p (x ∷ xs) = cond (p x) (1 + count p xs) (count p xs)

counted : {A : Type 0} → (p : A → Bool) (xs : List A) → count p xs ≡ count_by p xs
counted p xs = is_count_by (count p) p refl (λ x xs. refl) xs

-- ---- The live ones are told by the history

live_counted : (images : List Image) (history : List Input) (pasts : List Past)
    → AllByRecursion (Follows images history) pasts
    → count lives pasts ≡ count (live_in history) (numbers pasts)
live_counted images history [] each = refl
live_counted images history (past ∷ pasts) each =
    ap (λ b. cond b (1 + count lives pasts) (count lives pasts)) (sym each.0.told.live)
    ∙ ap (λ n. cond (is_live past.number history) (1 + n) n) (live_counted images history pasts each.1)

-- and are those of the agent
stand_counted : {cs : List Channel} {pasts : List Past} → Stands cs pasts
    → count is_open cs ≡ count lives pasts
unfolding is_open
stand_counted no_more = refl
stand_counted (shown c past cs pasts number end rest) =
    ap (λ e. cond (not (is_closed e.state)) (1 + count is_open cs) (count is_open cs)) end
    ∙ ap (λ n. cond (lives past) (1 + n) n) (stand_counted rest)
stand_counted (forgotten past cs pasts gone rest) =
    stand_counted rest ∙ ap (λ b. cond (not b) (1 + count lives pasts) (count lives pasts)) (sym gone.closed)

live_counts : {cs : List Channel} {pasts : List Past} → Stands cs pasts → live_count cs ≡ count_by lives pasts
live_counts {cs} {pasts} stands = sym (counted is_open cs) ∙ stand_counted stands ∙ counted lives pasts

-- ---- An opened channel that lives later lives before

one_fewer : (now shut later : Bool) (m n : ℕ) → m ≤ n
    → cond (now && not (shut || later)) (1 + m) m ≤ cond (not shut) (1 + n) n
one_fewer true true later m n few = few
one_fewer false true later m n few = few
one_fewer true false true m n few = omega (arith, few)
one_fewer true false false m n few = omega (arith, few)
one_fewer false false later m n few = omega (arith, few)

live_fewer : (k : ℕ) (history more : List Input) (m n : ℕ) → was_opened k history ≡ true → m ≤ n
    → cond (is_live k (history ++ more)) (1 + m) m ≤ cond (is_live k history) (1 + n) n
live_fewer k history more m n was few =
    subst
    (λ o. cond (is_live k (history ++ more)) (1 + m) m ≤ cond (o && not (was_closed k history)) (1 + n) n)
    (sym was)
    (subst
    (λ c. cond (was_opened k (history ++ more) && not c) (1 + m) m
    ≤ cond (not (was_closed k history)) (1 + n) n)
    (sym (list_any-append (input_closes k) history more))
    (one_fewer (was_opened k (history ++ more)) (was_closed k history) (was_closed k more) m n few))

count_fewer : (history more : List Input) (ns : List ℕ)
    → AllByRecursion (λ n. was_opened n history ≡ true) ns
    → count (live_in (history ++ more)) ns ≤ count (live_in history) ns
count_fewer history more [] were = omega arith
count_fewer history more (n ∷ ns) were =
    live_fewer n history more (count (live_in (history ++ more)) ns) (count (live_in history) ns) were.0
    (count_fewer history more ns were.1)

were_opened : (history : List Input) (pasts : List Past)
    → ((k : ℕ) → has past_number k pasts ≡ true → was_opened k history ≡ true)
    → AllByRecursion (λ n. was_opened n history ≡ true) (numbers pasts)
were_opened history [] known = tt
were_opened history (past ∷ pasts) known = (
  known past.number
      (or_left (past.number == past.number) (has past_number past.number pasts)
      (eq-eqb past.number past.number refl)),
  were_opened history pasts (λ k is. known k (or_right (past.number == k) (has past_number k pasts) is)),
)

-- ---- The numbers stay

kept_by : (g : Past → Past) → ((past : Past) → (g past).number ≡ past.number) → (pasts : List Past)
    → numbers (map g pasts) ≡ numbers pasts
kept_by g keeps [] = refl
kept_by g keeps (past ∷ pasts) =
    ap (λ n. n ∷ numbers (map g pasts)) (keeps past) ∙ ap (λ ns. past.number ∷ ns) (kept_by g keeps pasts)

heard_kept : (events : List EventData) (position : ℕ) (pasts : List Past)
    → numbers (hearing events position pasts) ≡ numbers pasts
heard_kept events position pasts =
    kept_by (with_calls (map (event_call position) events)) (λ past. refl) pasts

asked_kept : (k : ℕ) (said : Result MessageValue MessageFault) (a : AgentValue) (pasts : List Past)
    → numbers (asked_by k said a pasts) ≡ numbers pasts
asked_kept k (Err fault) a pasts = refl
asked_kept k (Ok (command token service name body)) a pasts =
    let done = done_by k service name (read_as service name body) a.target in
    let calls = answer_calls token (a.position + 1) done in
    kept_by (on_number k calls) (on_number_keeps k calls) (hearing done.events (a.position + 1) pasts)
    ∙ heard_kept done.events (a.position + 1) pasts
asked_kept k (Ok (final token body)) a pasts = refl
asked_kept k (Ok (progress token body)) a pasts = refl
asked_kept k (Ok (not_known token)) a pasts = refl
asked_kept k (Ok (event service name body)) a pasts = refl
asked_kept k (Ok (flow level)) a pasts = refl

took_kept : (k : ℕ) (next : Option (Taken Unit)) (a : AgentValue) (pasts : List Past)
    → numbers (took_by k next a pasts) ≡ numbers pasts
took_kept k None a pasts = refl
took_kept k (Some (taken.Command incoming)) a pasts = asked_kept k (reading incoming.raw) a pasts
took_kept k (Some (taken.Closed cause)) a pasts = heard_kept (going_tells k a.target) (a.position + 1) pasts
took_kept k (Some (taken.Hello incoming)) a pasts = refl
took_kept k (Some (taken.Event incoming)) a pasts = refl
took_kept k (Some (taken.Progress token incoming)) a pasts = refl
took_kept k (Some (taken.Final tag incoming)) a pasts = refl

unless_full : (full : Bool) (pasts later : List Past) → numbers later ≡ numbers pasts
    → numbers (cond full pasts later) ≡ numbers pasts
unless_full true pasts later same = refl
unless_full false pasts later same = same

ticked_kept : (told : Option (List EventData)) (a : AgentValue) (pasts : List Past)
    → numbers (ticked_by told a pasts) ≡ numbers pasts
ticked_kept None a pasts = refl
ticked_kept (Some events) a pasts = heard_kept events (a.position + 1) pasts

-- the number of the channel that a call opens
abbrev new_number : Bool → ℕ → List ℕ
new_number true k = k ∷ []
new_number false k = []

abbrev new_by : Call → AgentValue → List ℕ
new_by (opens k) a = new_number (opened k a).0 k
new_by _ a = []

opened_kept : (did : Bool) (k : ℕ) (a : AgentValue) (pasts : List Past)
    → numbers (opened_by did k a pasts) ≡ numbers pasts ++ new_number did k
opened_kept true k a pasts =
    map-append past_number pasts (record { number = k; position = a.position + 1; calls = [] } ∷ [])
opened_kept false k a pasts = sym (append-nil (numbers pasts))

called_kept : (call : Call) (a : AgentValue) (pasts : List Past)
    → numbers (pasts_by call a pasts) ≡ numbers pasts ++ new_by call a
called_kept (opens k) a pasts = opened_kept (opened k a).0 k a pasts
called_kept (comes k piece) a pasts =
    let calls = delivering piece None ∷ [] in
    kept_by (on_open k calls) (on_open_keeps k calls) pasts ∙ sym (append-nil (numbers pasts))
called_kept (bytes_end k) a pasts =
    let calls = ending ∷ [] in
    kept_by (on_number k calls) (on_number_keeps k calls) pasts ∙ sym (append-nil (numbers pasts))
called_kept (turns k) a pasts =
    let later = on_one k (taking ∷ []) pasts in
    unless_full (is_full a) pasts (took_by k (next_of pasts k) a later)
    (took_kept k (next_of pasts k) a later
    ∙ kept_by (on_number k (taking ∷ [])) (on_number_keeps k (taking ∷ [])) pasts)
    ∙ sym (append-nil (numbers pasts))
called_kept (ticks thread) a pasts =
    let told = instruction_tells thread a.target in
    unless_full (is_full a) pasts (ticked_by told a pasts) (ticked_kept told a pasts)
    ∙ sym (append-nil (numbers pasts))
called_kept (gives k) a pasts =
    let calls = putting_out ∷ [] in
    kept_by (on_number k calls) (on_number_keeps k calls) pasts ∙ sym (append-nil (numbers pasts))

-- ---- An opening

abbrev DidAs : Bool → AgentValue → AgentValue → Bool × AgentValue
DidAs refused a b = cond refused (false, a) (true, b)

did_by : (refused : Bool) (a b : AgentValue) → (DidAs refused a b).0 ≡ not refused
did_by true a b = refl
did_by false a b = refl

opened_is : (k : ℕ) (a : AgentValue) → (opened k a).0 ≡ not (is_refused k a)
unfolding opened
opened_is k a = did_by (is_refused k a) a (begun k a)

-- one opens only where fewer than 64 are live
opens_below : (k : ℕ) (a : AgentValue) → (opened k a).0 ≡ true → live_count a.channels < 64
opens_below k a did =
    let isnt = not_true (is_refused k a) (sym (opened_is k a) ∙ did) in
    let parts = or_parts (has_number k a.numbers) (nat_le 64 (live_count a.channels) || is_full a) isnt in
    leb-false 64 (live_count a.channels) (or_parts (nat_le 64 (live_count a.channels)) (is_full a) parts.1).0

-- ---- At most 64 are live

one_counted : (b : Bool) (m n : ℕ) → m ≤ n → cond b (1 + m) m ≤ 1 + n
one_counted true m n few = omega (arith, few)
one_counted false m n few = omega (arith, few)

count_all : (p : ℕ → Bool) (xs : List ℕ) → count p xs ≤ length xs
count_all p [] = omega arith
count_all p (x ∷ xs) =
    let one : cond (p x) (1 + count p xs) (count p xs) ≤ 1 + length xs =
    one_counted (p x) (count p xs) (length xs) (count_all p xs) in
    omega (arith, one)

one_behind : (b : Bool) (m n rest : ℕ) → m ≤ n + rest → cond b (1 + m) m ≤ cond b (1 + n) n + rest
one_behind true m n rest few = omega (arith, few)
one_behind false m n rest few = few

count_append : (p : ℕ → Bool) (xs ys : List ℕ) → count p (xs ++ ys) ≤ count p xs + length ys
count_append p [] ys = let all : count p ys ≤ length ys = count_all p ys in omega (arith, all)
count_append p (x ∷ xs) ys =
    one_behind (p x) (count p (xs ++ ys)) (count p xs) (length ys) (count_append p xs ys)

few_more : (images : List Image) (call : Call) (r : AgentRun) → HoldsRun images r
    → live_now (after_call call r) ≤ live_now r + length (new_by call r.agent)
few_more images call r h =
    let later = holds_all images (call ∷ []) r h in
    let history = r.history ++ input_by call r.agent in
    let channels = (after_call call r).channels in
    let new = new_by call r.agent in
    let after : count (live_in history) (numbers r.channels ++ new) ≡ live_now (after_call call r) =
    sym (ap (count (live_in history)) (called_kept call r.agent r.channels))
    ∙ sym (live_counted images history channels later.each)
    ∙ counted lives channels in
    let before : count (live_in r.history) (numbers r.channels) ≡ live_now r =
    sym (live_counted images r.history r.channels h.each) ∙ counted lives r.channels in
    let ns = numbers r.channels in
    let more : count (live_in history) (ns ++ new) ≤ count (live_in history) ns + length new =
    count_append (live_in history) ns new in
    let fewer : count (live_in history) ns ≤ count (live_in r.history) ns =
    count_fewer r.history (input_by call r.agent) ns
    (were_opened r.history r.channels (λ k is. h.opened k ∙ is)) in
    omega (arith, after, before, more, fewer)

few_opened : (images : List Image) (k : ℕ) (r : AgentRun) → HoldsRun images r → live_now r ≤ 64
    → live_now r + length (new_number (opened k r.agent).0 k) ≤ 64
few_opened images k r h few = by_flag (opened k r.agent).0 refl
  where
    by_flag : (did : Bool) → (opened k r.agent).0 ≡ did → live_now r + length (new_number did k) ≤ 64
    by_flag true did =
        let below : live_count r.agent.channels < 64 = opens_below k r.agent did in
        let same : live_count r.agent.channels ≡ live_now r = live_counts h.stands in
        omega (arith, below, same)
    by_flag false did = omega (arith, few)

few_new : (images : List Image) (call : Call) (r : AgentRun) → HoldsRun images r → live_now r ≤ 64
    → live_now r + length (new_by call r.agent) ≤ 64
few_new images (opens k) r h few = few_opened images k r h few
few_new images (comes k piece) r h few = omega (arith, few)
few_new images (bytes_end k) r h few = omega (arith, few)
few_new images (turns k) r h few = omega (arith, few)
few_new images (ticks thread) r h few = omega (arith, few)
few_new images (gives k) r h few = omega (arith, few)

few_all : (images : List Image) (calls : List Call) (r : AgentRun) → HoldsRun images r → live_now r ≤ 64
    → live_now (after_all calls r) ≤ 64
few_all images [] r h few = few
few_all images (call ∷ calls) r h few =
    let more : live_now (after_call call r) ≤ live_now r + length (new_by call r.agent) =
    few_more images call r h in
    let room : live_now r + length (new_by call r.agent) ≤ 64 = few_new images call r h few in
    few_all images calls (after_call call r) (holds_all images (call ∷ []) r h) (omega (arith, more, room))

pub at_most_64 : AtMost64AreLive
at_most_64 images calls = few_all images calls (no_calls images) (holds_first images) (omega arith)

-- ---- Where none is opened

refused_so : (k : ℕ) (r : AgentRun) (images : List Image) → HoldsRun images r → live_now r ≤ 64
    → is_refused k r.agent ≡ true → MayNotOpen k r
refused_so k r images h few is =
    by_first
    (or_cases (has_number k r.agent.numbers) (nat_le 64 (live_count r.agent.channels) || is_full r.agent) is)
  where
    by_second : (nat_le 64 (live_count r.agent.channels) ≡ true) ⊎ (is_full r.agent ≡ true) → MayNotOpen k r
    by_second (inl many) =
        let above : 64 ≤ live_count r.agent.channels = leb-true 64 (live_count r.agent.channels) many in
        let same : live_count r.agent.channels ≡ live_now r = live_counts h.stands in
        inr (inl (omega (arith, above, same, few)))
    by_second (inr full) = inr (inr (sym h.position ∙ eqb-true r.agent.position (2 ^ 64 - 1) full))

    by_first : (has_number k r.agent.numbers ≡ true)
        ⊎ ((nat_le 64 (live_count r.agent.channels) || is_full r.agent) ≡ true)
        → MayNotOpen k r
    by_first (inl had) = inl (sym (h.numbers k) ∙ had)
    by_first (inr other) =
        by_second (or_cases (nat_le 64 (live_count r.agent.channels)) (is_full r.agent) other)

is_refused_so : (k : ℕ) (r : AgentRun) (images : List Image) → HoldsRun images r → MayNotOpen k r
    → is_refused k r.agent ≡ true
is_refused_so k r images h (inl was) =
    or_left (has_number k r.agent.numbers) (nat_le 64 (live_count r.agent.channels) || is_full r.agent)
    (h.numbers k ∙ was)
is_refused_so k r images h (inr (inl many)) =
    let same : live_count r.agent.channels ≡ live_now r = live_counts h.stands in
    or_right (has_number k r.agent.numbers) (nat_le 64 (live_count r.agent.channels) || is_full r.agent)
    (or_left (nat_le 64 (live_count r.agent.channels)) (is_full r.agent)
    (le-leb 64 (live_count r.agent.channels) (omega (arith, same, many))))
is_refused_so k r images h (inr (inr full)) =
    or_right (has_number k r.agent.numbers) (nat_le 64 (live_count r.agent.channels) || is_full r.agent)
    (or_right (nat_le 64 (live_count r.agent.channels)) (is_full r.agent)
    (eq-eqb r.agent.position (2 ^ 64 - 1) (h.position ∙ full)))

pub opens_where_it_may : EachOpensWhereItMay
opens_where_it_may images calls k =
    let r = after_all calls (no_calls images) in
    let h = holds_all images calls (no_calls images) (holds_first images) in
    let few = at_most_64 images calls in (
      λ isnt.
          refused_so k r images h few (not_false (is_refused k r.agent) (sym (opened_is k r.agent) ∙ isnt)),
      λ may. opened_is k r.agent ∙ ap not (is_refused_so k r images h may),
    )
