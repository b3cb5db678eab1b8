-- The commands that are pending above: they were sent, have no final answer, and what a call of a hub makes of them.
use Rattle.std.proofs.Common.{◌≡◌, ◌≤◌, ◌<◌, ◌^◌, ◌-◌, ℕ, ◌+◌, Bool, true, false, not, cond, List, [], ◌∷◌, ◌++◌, length, map, filter, None, refl, sym, ap, subst, ◌∙◌, ⊎_elim, arith}
use Rattle.std.specs.List.{AllByRecursion, Contains, list_any, range_with_len}
use Rattle.std.proofs.lemmas.Bool.{or_parts}
use Rattle.std.proofs.lemmas.List.{map-append}
use Rattle.std.proofs.lemmas.List.Elements.{Contains-append_cases, Contains-append_left, Contains-append_right}
use Rattle.std.proofs.lemmas.List.Folds.{list_any-append}
use Rattle.std.specs.Prelude.{bytes_eq, decimal}
use Rattle.channel_core.specs.Beginning.{new_end}
use Rattle.channel_core.specs.Closing.{is_closed}
use Rattle.channel_core.specs.EndValue.{EndValue}
use Rattle.channel_core.specs.RunLaws.{answered_in, is_answered, row_of}
use Rattle.channel_core.specs.Runs.{Issued, begun}
use Rattle.channel_core.specs.declared.taking.Taken.{Taken}
use Rattle.channel_core.proofs.Finals.{IsCountedRun}
use Rattle.channel_core.proofs.Running.{always}
use Rattle.list_laws.proofs.AllLists.{all_contains, all_weaker}
use Rattle.list_laws.proofs.Contained.{contains_cases, contains_first, none_in}
use Rattle.list_laws.proofs.Flags.{not_both, not_true}
use Rattle.hub_node.specs.Calls.{Call}
use Rattle.hub_node.specs.Deeds.{sent_in}
use Rattle.hub_node.specs.Relay.{upper_services}
use Rattle.hub_node.specs.RelayValue.{RelayValue}
use Rattle.hub_node.specs.Runs.{HubRun, above_by, above_run, after_call}
use Rattle.hub_node.specs.declared.waiting.Tag.{Tag}
use Rattle.hub_node.proofs.Holding.{Holds}
use Rattle.hub_node.proofs.Issuing.{AreIssued, accepted_more, issued_in, length_map, sent_length}
use Rattle.hub_node.proofs.Untaken.{taken_in, taken_more}

-- ---- what stands in a list that is filtered

module _ {A : Type 0} (keep : A → Bool) where
  contains_later : (x : A) (xs : List A) (y : A) → Contains xs y → Contains (x ∷ xs) y
  contains_later x xs y there = Contains-append_right (x ∷ []) xs y there

  filter_each : (P : A → Type 0) (xs : List A) → ((x : A) → Contains xs x → keep x ≡ true → P x) → AllByRecursion P (filter keep xs)
  filter_each P [] each = tt
  filter_each P (x ∷ xs) each = by_flag (keep x) refl (filter_each P xs (λ y there passes. each y (contains_later x xs y there) passes))
    where
      by_flag : (flag : Bool) → keep x ≡ flag → AllByRecursion P (filter keep xs) → AllByRecursion P (cond flag (x ∷ filter keep xs) (filter keep xs))
      by_flag true is rest = (each x (contains_first x xs) is, rest)
      by_flag false is rest = rest

  pub of_filter : (xs : List A) (y : A) → Contains (filter keep xs) y → Contains xs y × (keep y ≡ true)
  of_filter xs y there = all_contains (λ x. Contains xs x × (keep x ≡ true)) (filter keep xs) y (filter_each (λ x. Contains xs x × (keep x ≡ true)) xs (λ x among is. (among, is))) there

  pub to_filter : (xs : List A) (y : A) → Contains xs y → keep y ≡ true → Contains (filter keep xs) y
  to_filter [] y there passes = absurd (none_in y there)
  to_filter (x ∷ xs) y there passes = by_flag (keep x) refl (λ rest. to_filter xs y rest passes)
    where
      by_flag : (flag : Bool) → keep x ≡ flag → (Contains xs y → Contains (filter keep xs) y) → Contains (cond flag (x ∷ filter keep xs) (filter keep xs)) y
      by_flag true is further =
          ⊎_elim (λ same. subst (λ z. Contains (x ∷ filter keep xs) z) same (contains_first x (filter keep xs)))
          (λ rest. contains_later x (filter keep xs) y (further rest)) (contains_cases x xs y there)
      by_flag false is further = ⊎_elim (λ same. absurd (not_both (ap keep same ∙ passes) is)) (λ rest. further rest) (contains_cases x xs y there)

-- ---- what waits for its answer

abbrev pub waiting : List (Taken Tag) → List (Issued Tag) → List (ℕ × Tag)
waiting taken accepted = filter (λ row. not (is_answered taken row.0)) (map row_of accepted)

abbrev pub IsOpenUpper : HubRun → Type 0
IsOpenUpper r = is_closed (above_run r).end.state ≡ false

counted : (r : HubRun) → IsCountedRun (above_run r)
counted r = (always upper_services None r.above).counted

pending_is : (r : HubRun) → IsOpenUpper r → (above_run r).end.pending ≡ waiting (above_run r).past.taken (above_run r).past.accepted
pending_is r opened = let c = counted r in sym (c.pending ∙ ap (λ rows. rows ++ (above_run r).end.pending) (c.still opened))

-- ---- their numbers

sent_count : (r : HubRun) → AreIssued r → length (above_run r).past.accepted ≡ length (sent_in r.deeds)
sent_count r are =
    let acc = (above_run r).past.accepted in sym (length_map (λ (i : Issued Tag). i.command.outgoing) acc) ∙ ap length are ∙ sent_length 1 (sent_in r.deeds)

pub last_is : (r : HubRun) → AreIssued r → (above_run r).end.last ≡ length (sent_in r.deeds)
last_is r are = (counted r).last ∙ sent_count r are

pub few_sent : (r : HubRun) → AreIssued r → 1 + length (sent_in r.deeds) ≤ 2 ^ 64
few_sent r are =
    let last = last_is r are in
    let most : (above_run r).end.last ≤ 2 ^ 64 - 1 = (counted r).most in omega (arith, last, most)

numbers_in : (low : ℕ) (acc : List (Issued Tag)) → map (λ i. i.command.token) acc ≡ range_with_len low (length acc) → AllByRecursion (λ row. (low ≤ row.0) × (row.0 < low + length acc)) (map row_of acc)
numbers_in low [] are = tt
numbers_in low (i ∷ acc) are =
    let first : i.command.token ≡ low = cc in
    let rest : map (λ i. i.command.token) acc ≡ range_with_len (low + 1) (length acc) = cc in (
      (omega arith, omega arith),
      all_weaker (λ row. (low + 1 ≤ row.0) × (row.0 < (low + 1) + length acc)) (λ row. (low ≤ row.0) × (row.0 < low + length (i ∷ acc))) (map row_of acc)
          (λ row within. let least = within.0 in let most = within.1 in (omega arith, omega arith)) (numbers_in (low + 1) acc rest),
    )

-- a pending command was sent, and has no answer
pub record IsWaiting (r : HubRun) (row : ℕ × Tag) : Type 0 where
  pub counted : 1 ≤ row.0
  pub sent : row.0 ≤ length (sent_in r.deeds)
  pub unanswered : is_answered (above_run r).past.taken row.0 ≡ false

pub is_waiting : (r : HubRun) → AreIssued r → IsOpenUpper r → (row : ℕ × Tag) → Contains (above_run r).end.pending row → IsWaiting r row
is_waiting r are opened row there =
    let taken = (above_run r).past.taken in
    let acc = (above_run r).past.accepted in
    let among : Contains (waiting taken acc) row = subst (λ rows. Contains rows row) (pending_is r opened) there in
    let f = of_filter (λ (row : ℕ × Tag). not (is_answered taken row.0)) (map row_of acc) row among in
    let within = all_contains (λ row. (1 ≤ row.0) × (row.0 < 1 + length acc)) (map row_of acc) row (numbers_in 1 acc (counted r).tokens) f.0 in
    let least = within.0 in
    let most = within.1 in
    let count = sent_count r are in
    record { counted = least; sent = omega (arith, most, count); unanswered = not_true (is_answered taken row.0) f.1 }

-- ---- what a call makes of them: those that were pending and weren't answered, and one that was sent

pub record IsLeft (call : Call) (r : HubRun) (row : ℕ × Tag) : Type 0 where
  pub among : Contains ((above_run r).end.pending ++ map row_of (issued_in (above_by call r.hub.relay) r.hub.relay.upper)) row
  pub unanswered : is_answered ((above_run r).past.taken ++ taken_in (above_by call r.hub.relay) r.hub.relay.upper) row.0 ≡ false

pub is_left : (j : ℕ) (call : Call) (r : HubRun) → Holds j r → IsOpenUpper r → IsOpenUpper (after_call j call r) → (row : ℕ × Tag) → Contains (above_run (after_call j call r)).end.pending row → IsLeft call r row
is_left j call r h opened still row there = record {
  among = ⊎_elim
      (λ first. Contains-append_left (above_run r).end.pending (map row_of new) row (subst (λ rows. Contains rows row) (sym (pending_is r opened)) (to_filter waits (map row_of acc) row first (ap not earlier))))
      (λ last. Contains-append_right (above_run r).end.pending (map row_of new) row last)
      (Contains-append_cases (map row_of acc) (map row_of new) row (subst (λ rows. Contains rows row) (map-append row_of acc new) f.0));
  unanswered = none;
}
  where
    q : RelayValue
    q = r.hub.relay

    acc : List (Issued Tag)
    acc = (above_run r).past.accepted

    new : List (Issued Tag)
    new = issued_in (above_by call q) q.upper

    taken : List (Taken Tag)
    taken = (above_run r).past.taken

    more : List (Taken Tag)
    more = taken_in (above_by call q) q.upper

    waits : ℕ × Tag → Bool
    waits row = not (is_answered taken row.0)

    accepted_so : (above_run (after_call j call r)).past.accepted ≡ acc ++ new
    accepted_so = accepted_more r.above (above_by call q) (begun (new_end upper_services None)) ∙ ap (λ (e : EndValue Tag). acc ++ issued_in (above_by call q) e) (sym h.above)

    taken_so : (above_run (after_call j call r)).past.taken ≡ taken ++ more
    taken_so = taken_more r.above (above_by call q) (begun (new_end upper_services None)) ∙ ap (λ (e : EndValue Tag). taken ++ taken_in (above_by call q) e) (sym h.above)

    so : (above_run (after_call j call r)).end.pending ≡ waiting (taken ++ more) (acc ++ new)
    so = pending_is (after_call j call r) still ∙ ap (λ ts. waiting ts (above_run (after_call j call r)).past.accepted) taken_so ∙ ap (waiting (taken ++ more)) accepted_so

    f : Contains (map row_of (acc ++ new)) row × (not (is_answered (taken ++ more) row.0) ≡ true)
    f = of_filter (λ (row : ℕ × Tag). not (is_answered (taken ++ more) row.0)) (map row_of (acc ++ new)) row (subst (λ rows. Contains rows row) so there)

    none : is_answered (taken ++ more) row.0 ≡ false
    none = not_true (is_answered (taken ++ more) row.0) f.1

    earlier : is_answered taken row.0 ≡ false
    earlier =
        let answers : Taken Tag → Bool = λ t. list_any (λ text. bytes_eq text (decimal row.0)) (answered_in t) in
        (or_parts (is_answered taken row.0) (is_answered more row.0) (sym (list_any-append answers taken more) ∙ none)).0
