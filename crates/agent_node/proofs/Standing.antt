-- The channels of an agent, and the pasts that they have: the agent has the end of each past but of those that are closed
-- and have nothing to send.
use Rattle.std.proofs.Common.{◌≡◌, ℕ, ◌≤◌, ◌==◌, Bool, true, false, cond, ◌||◌, nat_lt, List, [], ◌∷◌, ◌++◌, length, map, Option, Some, None, refl, sym, ap, ◌∙◌, subst, arith, ltb-false, eqb-true, eq-eqb}
use Rattle.std.specs.List.{AllByRecursion, filter}
use Rattle.std.proofs.lemmas.Bool.{or_parts}
use Rattle.channel_core.specs.Closing.{has_queued, is_closed}
use Rattle.channel_core.specs.QueueLaws.{ClosesOnlySo}
use Rattle.channel_core.specs.Taking.{next_taken}
use Rattle.channel_core.specs.declared.held.Outgoing.{Outgoing}
use Rattle.target_hub.specs.Sent.{agent_services}
use Rattle.agent_node.specs.AgentLaws.{IsEndOf}
use Rattle.agent_node.specs.Channels.{channel_end, end_in, is_kept, is_open}
use Rattle.agent_node.specs.Runs.{Past, next_of, run_of}
use Rattle.channel_list.specs.declared.channel.Channel.{Channel}
use Rattle.channel_core.proofs.TheLaws.{closes_only_so, spends_nothing, takes_nothing_closed}
use Rattle.channel_list.proofs.Differing.{Differ, all_apart, has}
use Rattle.agent_node.proofs.Places.{channel_number, found, none_found, place_found, taken_of}
use Rattle.list_laws.proofs.Flags.{not_false}
use Rattle.list_laws.proofs.AllLists.{all_then}
use Rattle.list_laws.proofs.Numbers.{other_number as other_way}

abbrev pub past_number : Past → ℕ
past_number past = past.number

-- a past that the agent may have forgotten
pub record IsGone (past : Past) : Type 0 where
  pub closed : is_closed (run_of past).end.state ≡ true
  pub empty : (run_of past).end.queued ≡ []

pub data Stands : List Channel → List Past → Type 0 where
  no_more : Stands [] []
  shown : (c : Channel) (past : Past) (cs : List Channel) (pasts : List Past) (number : c.number ≡ past.number) (end : c.end ≡ (run_of past).end) (rest : Stands cs pasts) → Stands (c ∷ cs) (past ∷ pasts)
  forgotten : (past : Past) (cs : List Channel) (pasts : List Past) (gone : IsGone past) (rest : Stands cs pasts) → Stands cs (past ∷ pasts)

-- ---- Each channel changes with its past

pub record Match (c : Channel) (past : Past) : Type 0 where
  pub number : c.number ≡ past.number
  pub end : c.end ≡ (run_of past).end

pub stand_mapped : (f : Channel → Channel) (g : Past → Past) → ((c : Channel) (past : Past) → Match c past → Match (f c) (g past)) → ((past : Past) → IsGone past → IsGone (g past))
    → {cs : List Channel} {pasts : List Past} → Stands cs pasts → Stands (map f cs) (map g pasts)
stand_mapped f g each goes no_more = no_more
stand_mapped f g each goes (shown c past cs pasts number end rest) =
    let m = each c past (record { number = number; end = end }) in
    shown (f c) (g past) (map f cs) (map g pasts) m.number m.end (stand_mapped f g each goes rest)
stand_mapped f g each goes (forgotten past cs pasts gone rest) = forgotten (g past) (map f cs) (map g pasts) (goes past gone) (stand_mapped f g each goes rest)

-- ---- Those that are closed and have nothing to send are forgotten

nothing_queued : (os : List Outgoing) → nat_lt 0 (length os) ≡ false → os ≡ []
nothing_queued [] none = refl
nothing_queued (o ∷ os) none = let few : length (o ∷ os) ≤ 0 = ltb-false 0 (length (o ∷ os)) none in absurd (omega arith)

pub stand_kept : {cs : List Channel} {pasts : List Past} → Stands cs pasts → Stands (filter is_kept cs) pasts
unfolding is_open is_kept
stand_kept no_more = no_more
stand_kept (shown c past cs pasts number end rest) = by_flag (is_kept c) refl (stand_kept rest)
  where
    by_flag : (flag : Bool) → is_kept c ≡ flag → Stands (filter is_kept cs) pasts → Stands (cond flag (c ∷ filter is_kept cs) (filter is_kept cs)) (past ∷ pasts)
    by_flag true is later = shown c past (filter is_kept cs) pasts number end later
    by_flag false is later =
        let parts = or_parts (is_open c) (has_queued c.end) is in
        let closed : is_closed c.end.state ≡ true = not_false (is_closed c.end.state) parts.0 in
        let empty : c.end.queued ≡ [] = nothing_queued c.end.queued parts.1 in
        forgotten past (filter is_kept cs) pasts (record { closed = ap (λ e. is_closed e.state) (sym end) ∙ closed; empty = ap (λ e. e.queued) (sym end) ∙ empty }) later
stand_kept (forgotten past cs pasts gone rest) = forgotten past (filter is_kept cs) pasts gone (stand_kept rest)

-- a new one
pub stand_more : (c : Channel) (past : Past) → Match c past → {cs : List Channel} {pasts : List Past} → Stands cs pasts → Stands (cs ++ c ∷ []) (pasts ++ past ∷ [])
stand_more c past m no_more = shown c past [] [] m.number m.end no_more
stand_more c past m (shown d other cs pasts number end rest) = shown d other (cs ++ c ∷ []) (pasts ++ past ∷ []) number end (stand_more c past m rest)
stand_more c past m (forgotten other cs pasts gone rest) = forgotten other (cs ++ c ∷ []) (pasts ++ past ∷ []) gone (stand_more c past m rest)

-- ---- Numbers

pub none_stands : (k : ℕ) → {cs : List Channel} {pasts : List Past} → Stands cs pasts → has past_number k pasts ≡ false → has channel_number k cs ≡ false
none_stands k no_more none = refl
none_stands k (shown c past cs pasts number end rest) none =
    let parts = or_parts (past.number == k) (has past_number k pasts) none in
    ap (λ n. (n == k) || has channel_number k cs) number ∙ ap (λ b. b || has channel_number k cs) parts.0 ∙ none_stands k rest parts.1
none_stands k (forgotten past cs pasts gone rest) none = none_stands k rest (or_parts (past.number == k) (has past_number k pasts) none).1

pub channels_differ : {cs : List Channel} {pasts : List Past} → Stands cs pasts → Differ past_number pasts → Differ channel_number cs
channels_differ no_more d = tt
channels_differ (shown c past cs pasts number end rest) d =
    let P : ℕ → Type 0 = λ n. has channel_number n cs ≡ false in
    (subst P (sym number) (none_stands past.number rest d.0), channels_differ rest d.1)
channels_differ (forgotten past cs pasts gone rest) d = channels_differ rest d.1

-- ---- What is taken next

-- what is always so of an end of an agent
pub run_unspent : (past : Past) → (run_of past).end.is_spent ≡ false
run_unspent past = spends_nothing agent_services (Some past.position) past.calls

pub run_closes : (past : Past) → ClosesOnlySo (run_of past)
run_closes past = closes_only_so agent_services (Some past.position) past.calls

pub closed_takes_none : (past : Past) → is_closed (run_of past).end.state ≡ true → next_taken (run_of past).end ≡ (None, (run_of past).end)
closed_takes_none past = takes_nothing_closed agent_services (Some past.position) past.calls

pub next_found : (k : ℕ) → {cs : List Channel} {pasts : List Past} → Stands cs pasts → Differ past_number pasts → taken_of (found k cs) ≡ next_of pasts k
next_found k no_more d = refl
next_found k (shown c past cs pasts number end rest) d =
    ap (λ n. taken_of (cond (n == k) (Some c) (found k cs))) number ∙ by_flag (past.number == k) (next_found k rest d.1)
  where
    by_flag : (flag : Bool) → taken_of (found k cs) ≡ next_of pasts k → taken_of (cond flag (Some c) (found k cs)) ≡ cond flag (next_taken (run_of past).end).0 (next_of pasts k)
    by_flag true later = ap (λ e. (next_taken e).0) end
    by_flag false later = later
next_found k (forgotten past cs pasts gone rest) d = by_flag (past.number == k) refl (next_found k rest d.1)
  where
    by_flag : (flag : Bool) → (past.number == k) ≡ flag → taken_of (found k cs) ≡ next_of pasts k → taken_of (found k cs) ≡ cond flag (next_taken (run_of past).end).0 (next_of pasts k)
    by_flag true is later =
        let same : past.number ≡ k = eqb-true past.number k is in
        let P : ℕ → Type 0 = λ n. has past_number n pasts ≡ false in
        ap taken_of (none_found k cs (none_stands k rest (subst P same d.0))) ∙ sym (ap (λ p. p.0) (closed_takes_none past gone.closed))
    by_flag false is later = later

-- each past of the number takes it
pub each_next : (k : ℕ) (pasts : List Past) → Differ past_number pasts → AllByRecursion (λ past. (past.number == k) ≡ true → next_of pasts k ≡ (next_taken (run_of past).end).0) pasts
each_next k [] d = tt
each_next k (past ∷ pasts) d = (
  λ is. ap (λ b. cond b (next_taken (run_of past).end).0 (next_of pasts k)) is,
  all_apart past_number (λ other. (other.number == k) ≡ true → next_of pasts k ≡ (next_taken (run_of other).end).0) (λ other. (other.number == k) ≡ true → next_of (past ∷ pasts) k ≡ (next_taken (run_of other).end).0) past.number
      (λ other apart takes is.
      let same : other.number ≡ k = eqb-true other.number k is in
      let P : ℕ → Type 0 = λ n. (n == past.number) ≡ false in
      let isnt : (past.number == k) ≡ false = other_way k past.number (subst P same apart) in
      ap (λ b. cond b (next_taken (run_of past).end).0 (next_of pasts k)) isnt ∙ takes is)
      pasts d.0 (each_next k pasts d.1),
)

-- ---- The end that the agent has

end_of_found : {cs : List Channel} {pasts : List Past} → Stands cs pasts → Differ past_number pasts → AllByRecursion (λ past. IsEndOf (end_in (found past.number cs)) past) pasts
end_of_found no_more d = tt
end_of_found (shown c past cs pasts number end rest) d =
    let here : found past.number (c ∷ cs) ≡ Some c = ap (λ n. cond (n == past.number) (Some c) (found past.number cs)) number ∙ ap (λ b. cond b (Some c) (found past.number cs)) (same past.number) in
    let P : Option Channel → Type 0 = λ o. IsEndOf (end_in o) past in (
      subst P (sym here) end,
      all_apart past_number (λ other. IsEndOf (end_in (found other.number cs)) other) (λ other. IsEndOf (end_in (found other.number (c ∷ cs))) other) past.number
          (λ other apart is.
          let Q : Option Channel → Type 0 = λ o. IsEndOf (end_in o) other in
          let isnt : (c.number == other.number) ≡ false = ap (λ n. n == other.number) number ∙ other_way other.number past.number apart in
          subst Q (sym (ap (λ b. cond b (Some c) (found other.number cs)) isnt)) is)
          pasts d.0 (end_of_found rest d.1),
    )
  where
    same : (n : ℕ) → (n == n) ≡ true
    same n = eq-eqb n n refl
end_of_found (forgotten past cs pasts gone rest) d =
    let P : Option Channel → Type 0 = λ o. IsEndOf (end_in o) past in
    (subst P (sym (none_found past.number cs (none_stands past.number rest d.0))) (gone.closed, gone.empty), end_of_found rest d.1)

pub ends_stand : {cs : List Channel} {pasts : List Past} → Stands cs pasts → Differ past_number pasts → AllByRecursion (λ past. IsEndOf (channel_end past.number cs) past) pasts
ends_stand {cs} {pasts} stands d =
    all_then (λ past. IsEndOf (end_in (found past.number cs)) past) (λ past. IsEndOf (channel_end past.number cs) past)
    (λ past is. let P : Option Channel → Type 0 = λ o. IsEndOf (end_in o) past in subst P (sym (place_found past.number cs)) is) pasts (end_of_found stands d)
