-- Each answer and all progress that a hub hears is that of a command that it sent, and that has no answer yet.
use Rattle.std.proofs.Common.{◌≡◌, ◌⊎◌, inl, inr, ◌≤◌, ℕ, Bool, true, false, cond, ◌||◌, List, [], ◌∷◌, ◌++◌, length, Option, Some, None, refl, sym, ap, ap₂, subst, ◌∙◌, arith, append-nil, append_assoc}
use Rattle.std.specs.Prelude.{Result, Ok, Err, bytes_eq, decimal}
use Rattle.std.specs.List.{AllByRecursion, Contains, filter, list_any}
use Rattle.std.proofs.lemmas.Bool.{or_parts}
use Rattle.std.proofs.lemmas.List.Concat.{flat_map-append}
use Rattle.std.proofs.lemmas.List.Elements.{filter-append}
use Rattle.std.proofs.lemmas.List.Folds.{list_any-append}
use Rattle.channel_core.specs.Beginning.{new_end}
use Rattle.channel_core.specs.Closing.{is_closed}
use Rattle.channel_core.specs.EndValue.{EndValue}
use Rattle.channel_core.specs.Laws.{listed}
use Rattle.channel_core.specs.RunLaws.{answered_in, is_answered, token_in}
use Rattle.channel_core.specs.Runs.{Call as EndCall, begun, called, closing, commanding, delivering, draining, ending, putting_out, sending, taking, unless_refused}
use Rattle.channel_core.specs.Sending.{refusal_to}
use Rattle.channel_core.specs.Taking.{next_taken}
use Rattle.channel_core.specs.Wire.{is_redirect, said_of}
use Rattle.channel_core.specs.declared.held.Incoming.{Incoming}
use Rattle.channel_core.specs.declared.sending.SendRefusal.{SendRefusal}
use Rattle.channel_core.specs.declared.taking.Taken.{Taken}
use Rattle.channel_core.specs.declared.taking.Taken.TheVariants as taken
use Rattle.channel_core.proofs.TheLaws.{takes_nothing_closed}
use Rattle.list_laws.proofs.AllLists.{all_append}
use Rattle.list_laws.proofs.Lists.{equal_by}
use Rattle.tcf_message.specs.Message.{MessageValue, command, event, final, flow, not_known, progress, reading}
use Rattle.tcf_message.specs.declared.message.MessageFault.{MessageFault}
use Rattle.hub_node.specs.Calls.{Call, opens, comes, bytes_end, turns, gives}
use Rattle.hub_node.specs.Deeds.{Asked, Deed, above_deeds, answers, asked_deeds, below_deeds, deeds_by, ends as all_ends, forwards, heard_by, heard_in, hears, joins, leaves, sent_in}
use Rattle.hub_node.specs.HubLaws.{IsOfItsCommand, IsOpen, answers_to, bound_by, ends_with, heard_from, heard_of}
use Rattle.hub_node.specs.Relay.{next_below, opened_at, upper_services}
use Rattle.hub_node.specs.RelayValue.{RelayValue}
use Rattle.hub_node.specs.Runs.{HubRun, above_run, after_call}
use Rattle.hub_node.specs.declared.side.HubSide.TheVariants.{Above, Below}
use Rattle.hub_node.specs.declared.waiting.Tag.{Tag}
use Rattle.hub_node.proofs.Hearing.{HasHeard}
use Rattle.hub_node.proofs.Holding.{Holds}
use Rattle.hub_node.proofs.Issuing.{AreIssued}
use Rattle.hub_node.proofs.MessageKinds.{Gives, GivesAny, IsAnswerTo, IsCommand, IsEvent, IsProgressOf, IsTold, next_gives}
use Rattle.hub_node.proofs.Untaken.{taken_by, taken_in, taken_more}
use Rattle.hub_node.proofs.Waits.{IsOpenUpper, is_waiting}

-- ---- what was taken is what its message says

abbrev IsKind : Taken Tag → Type 0
IsKind (taken.Hello incoming) = IsEvent (reading incoming.raw)
IsKind (taken.Command incoming) = IsCommand (reading incoming.raw)
IsKind (taken.Event incoming) = IsTold (reading incoming.raw)
IsKind (taken.Progress number incoming) = IsProgressOf number (reading incoming.raw)
IsKind (taken.Final tag incoming) = (number : ℕ) × IsAnswerTo number (reading incoming.raw)
IsKind (taken.Closed cause) = Unit {0}

kind_of : (rows : List (ℕ × Tag)) (what : Taken Tag) (e : EndValue Tag) → Gives rows what e → IsKind what
kind_of rows (taken.Hello incoming) e gave = gave
kind_of rows (taken.Command incoming) e gave = gave
kind_of rows (taken.Event incoming) e gave = gave
kind_of rows (taken.Progress number incoming) e gave = gave.message
kind_of rows (taken.Final tag incoming) e gave = (gave.number, gave.message)
kind_of rows (taken.Closed cause) e gave = tt

listed_kinds : (rows : List (ℕ × Tag)) (next : Option (Taken Tag) × EndValue Tag) → GivesAny rows next → AllByRecursion IsKind (listed next.0)
listed_kinds rows (None, e) gave = tt
listed_kinds rows (Some what, e) gave = (kind_of rows what e gave, tt)

by_call : (call : EndCall Tag) (e : EndValue Tag) → AllByRecursion IsKind (taken_by call e)
by_call taking e = listed_kinds e.pending (next_taken e) (next_gives e)
by_call (commanding service name body tag mark) e = tt
by_call (delivering piece mark) e = tt
by_call ending e = tt
by_call (sending message mark) e = tt
by_call putting_out e = tt
by_call closing e = tt
by_call draining e = tt

all_kinds : (calls : List (EndCall Tag)) (e : EndValue Tag) → AllByRecursion IsKind (taken_in calls e)
all_kinds [] e = tt
all_kinds (call ∷ calls) e = all_append IsKind (taken_by call e) (taken_in calls (called call e)) (by_call call e) (all_kinds calls (called call e))

kinds : (r : HubRun) → AllByRecursion IsKind (above_run r).past.taken
kinds r = subst (AllByRecursion IsKind) (sym (taken_more [] r.above (begun (new_end upper_services None)))) (all_kinds r.above (new_end upper_services None))

-- ---- the answers that were heard are those that were taken

abbrev ends_number : ℕ → Incoming → Bool
ends_number n incoming = ends_with (decimal n) (reading incoming.raw)

event_ends : (n : ℕ) (m : Result MessageValue MessageFault) → IsEvent m → ends_with (decimal n) m ≡ false
event_ends n (Ok (event service name body)) is = refl
event_ends n (Ok (command token service name body)) is = absurd is
event_ends n (Ok (final token body)) is = absurd is
event_ends n (Ok (progress token body)) is = absurd is
event_ends n (Ok (not_known token)) is = absurd is
event_ends n (Ok (flow level)) is = absurd is
event_ends n (Err fault) is = absurd is

told_ends : (n : ℕ) (m : Result MessageValue MessageFault) → IsTold m → ends_with (decimal n) m ≡ false
told_ends n (Ok (event service name body)) is = refl
told_ends n (Ok (flow level)) is = refl
told_ends n (Err fault) is = refl
told_ends n (Ok (command token service name body)) is = absurd is
told_ends n (Ok (final token body)) is = absurd is
told_ends n (Ok (progress token body)) is = absurd is
told_ends n (Ok (not_known token)) is = absurd is

progress_ends : (number n : ℕ) (m : Result MessageValue MessageFault) → IsProgressOf number m → ends_with (decimal n) m ≡ false
progress_ends number n (Ok (progress token body)) is = refl
progress_ends number n (Ok (event service name body)) is = absurd is
progress_ends number n (Ok (command token service name body)) is = absurd is
progress_ends number n (Ok (final token body)) is = absurd is
progress_ends number n (Ok (not_known token)) is = absurd is
progress_ends number n (Ok (flow level)) is = absurd is
progress_ends number n (Err fault) is = absurd is

final_ends : (number n : ℕ) (m : Result MessageValue MessageFault) → IsAnswerTo number m → list_any (λ text. bytes_eq text (decimal n)) (token_in (said_of m)) ≡ (ends_with (decimal n) m || false)
final_ends number n (Ok (final token body)) is = refl
final_ends number n (Ok (not_known token)) is = refl
final_ends number n (Ok (progress token body)) is = absurd is
final_ends number n (Ok (event service name body)) is = absurd is
final_ends number n (Ok (command token service name body)) is = absurd is
final_ends number n (Ok (flow level)) is = absurd is
final_ends number n (Err fault) is = absurd is

hello_heard : (n : ℕ) (bound : Bool) (incoming : Incoming) → ends_number n incoming ≡ false → false ≡ list_any (ends_number n) (cond bound (incoming ∷ []) [])
hello_heard n true incoming isnt = sym (ap (λ b. b || false) isnt)
hello_heard n false incoming isnt = refl

entry_ends : (n : ℕ) (bound : Bool) (what : Taken Tag) → IsKind what → list_any (λ text. bytes_eq text (decimal n)) (answered_in what) ≡ list_any (ends_number n) (heard_of bound what)
entry_ends n bound (taken.Hello incoming) kind = hello_heard n bound incoming (event_ends n (reading incoming.raw) kind)
entry_ends n bound (taken.Command incoming) kind = refl
entry_ends n bound (taken.Event incoming) kind = sym (ap (λ b. b || false) (told_ends n (reading incoming.raw) kind))
entry_ends n bound (taken.Progress number incoming) kind = sym (ap (λ b. b || false) (progress_ends number n (reading incoming.raw) kind))
entry_ends n bound (taken.Final tag incoming) kind = final_ends kind.0 n (reading incoming.raw) kind.1
entry_ends n bound (taken.Closed cause) kind = refl

entries_end : (n : ℕ) (bound : Bool) (entries : List (Taken Tag)) → AllByRecursion IsKind entries → is_answered entries n ≡ list_any (ends_number n) (heard_from bound entries)
entries_end n bound [] all = refl
entries_end n bound (what ∷ entries) all =
    ap₂ (λ a b. a || b) (entry_ends n bound what all.0) (entries_end n (bound_by bound what) entries all.1) ∙ sym (list_any-append (ends_number n) (heard_of bound what) (heard_from (bound_by bound what) entries))

none_kept : (test : Incoming → Bool) (xs : List Incoming) → list_any test xs ≡ false → filter test xs ≡ []
none_kept test [] none = refl
none_kept test (x ∷ xs) none = let parts = or_parts (test x) (list_any test xs) none in ap (λ b. cond b (x ∷ filter test xs) (filter test xs)) parts.0 ∙ none_kept test xs parts.1

unanswered : (r : HubRun) → HasHeard r → (n : ℕ) → is_answered (above_run r).past.taken n ≡ false → answers_to n r.deeds ≡ []
unanswered r heard n none =
    none_kept (ends_number n) (heard_in r.deeds) (ap (list_any (ends_number n)) heard.heard ∙ sym (entries_end n false (above_run r).past.taken (kinds r)) ∙ none)

-- ---- each deed is right, behind those before it

abbrev IsRight : List Deed → Deed → Type 0
IsRight before (joins i) = Unit {0}
IsRight before (leaves i) = Unit {0}
IsRight before (forwards c) = Unit {0}
IsRight before (answers c) = Unit {0}
IsRight before (hears incoming) = IsOfItsCommand before (reading incoming.raw)
IsRight before all_ends = Unit {0}

abbrev pub AreRight : List Deed → List Deed → Type 0
AreRight before [] = Unit {0}
AreRight before (deed ∷ deeds) = IsRight before deed × AreRight (before ++ deed ∷ []) deeds

right_after : (before xs ys : List Deed) → AreRight before xs → AreRight (before ++ xs) ys → AreRight before (xs ++ ys)
right_after before [] ys first second = subst (λ deeds. AreRight deeds ys) (append-nil before) second
right_after before (deed ∷ xs) ys first second =
    (first.0, right_after (before ++ deed ∷ []) xs ys first.1 (subst (λ deeds. AreRight deeds ys) (sym (append_assoc before (deed ∷ []) xs)) second))

right_within : (front before rest : List Deed) (deed : Deed) → AreRight front (before ++ deed ∷ rest) → IsRight (front ++ before) deed
right_within front [] rest deed all = subst (λ deeds. IsRight deeds deed) (sym (append-nil front)) all.0
right_within front (first ∷ before) rest deed all =
    subst (λ deeds. IsRight deeds deed) (append_assoc front (first ∷ []) before) (right_within (front ++ first ∷ []) before rest deed all.1)

pub right_at : (deeds before rest : List Deed) (deed : Deed) → AreRight [] deeds → deeds ≡ before ++ deed ∷ rest → IsRight before deed
right_at deeds before rest deed all whole = right_within [] before rest deed (subst (AreRight []) whole all)

-- ---- what a call does is

opened : (before : List Deed) (number : ℕ) (token : List ℕ) → token ≡ decimal number → 1 ≤ number → number ≤ length (sent_in before) → answers_to number before ≡ [] → IsOpen before token
opened before number token named counted sent none = record { number = number; numbered = named; counted = counted; sent = sent; unanswered = none }

event_own : (before : List Deed) (m : Result MessageValue MessageFault) → IsEvent m → IsOfItsCommand before m
event_own before (Ok (event service name body)) is = tt
event_own before (Ok (command token service name body)) is = absurd is
event_own before (Ok (final token body)) is = absurd is
event_own before (Ok (progress token body)) is = absurd is
event_own before (Ok (not_known token)) is = absurd is
event_own before (Ok (flow level)) is = absurd is
event_own before (Err fault) is = absurd is

told_own : (before : List Deed) (m : Result MessageValue MessageFault) → IsTold m → IsOfItsCommand before m
told_own before (Ok (event service name body)) is = tt
told_own before (Ok (flow level)) is = tt
told_own before (Err fault) is = tt
told_own before (Ok (command token service name body)) is = absurd is
told_own before (Ok (final token body)) is = absurd is
told_own before (Ok (progress token body)) is = absurd is
told_own before (Ok (not_known token)) is = absurd is

module _ (j : ℕ) (r : HubRun) (h : Holds j r) (are : AreIssued r) (heard : HasHeard r) where
  abbrev q : RelayValue
  q = r.hub.relay

  -- of a pending command
  row_open : IsOpenUpper r → (row : ℕ × Tag) (token : List ℕ) → token ≡ decimal row.0 → Contains q.upper.pending row → IsOpen r.deeds token
  row_open upper_open row token named there =
      let w = is_waiting r are upper_open row (subst (λ (e : EndValue Tag). Contains e.pending row) h.above there) in
      opened r.deeds row.0 token named w.counted w.sent (unanswered r heard row.0 w.unanswered)

  progress_own : IsOpenUpper r → (number : ℕ) (tag : Tag) (m : Result MessageValue MessageFault) → IsProgressOf number m → Contains q.upper.pending (number, tag) → IsOfItsCommand r.deeds m
  progress_own upper_open number tag (Ok (progress token body)) is there = row_open upper_open (number, tag) token is there
  progress_own upper_open number tag (Ok (event service name body)) is there = absurd is
  progress_own upper_open number tag (Ok (command token service name body)) is there = absurd is
  progress_own upper_open number tag (Ok (final token body)) is there = absurd is
  progress_own upper_open number tag (Ok (not_known token)) is there = absurd is
  progress_own upper_open number tag (Ok (flow level)) is there = absurd is
  progress_own upper_open number tag (Err fault) is there = absurd is

  final_own : IsOpenUpper r → (number : ℕ) (tag : Tag) (m : Result MessageValue MessageFault) → IsAnswerTo number m → Contains q.upper.pending (number, tag) → IsOfItsCommand r.deeds m
  final_own upper_open number tag (Ok (final token body)) is there = row_open upper_open (number, tag) token is there
  final_own upper_open number tag (Ok (not_known token)) is there = row_open upper_open (number, tag) token is there
  final_own upper_open number tag (Ok (progress token body)) is there = absurd is
  final_own upper_open number tag (Ok (event service name body)) is there = absurd is
  final_own upper_open number tag (Ok (command token service name body)) is there = absurd is
  final_own upper_open number tag (Ok (flow level)) is there = absurd is
  final_own upper_open number tag (Err fault) is there = absurd is

  sure : (what : Taken Tag) → (◌≡◌ {A = Option (Taken Tag)} (Some what) None) ⊎ IsOpenUpper r → IsOpenUpper r
  sure what (inl none) = absurd cc
  sure what (inr upper_open) = upper_open

  above_right : (next : Option (Taken Tag) × EndValue Tag) → (next.0 ≡ None) ⊎ IsOpenUpper r → GivesAny q.upper.pending next → AreRight r.deeds (above_deeds q.is_bound next.0)
  above_right (None, e) some gave = tt
  above_right (Some (taken.Hello incoming), e) some gave = by_flag q.is_bound
    where
      by_flag : (bound : Bool) → AreRight r.deeds (cond bound (hears incoming ∷ []) [])
      by_flag true = (event_own r.deeds (reading incoming.raw) gave, tt)
      by_flag false = tt
  above_right (Some (taken.Command incoming), e) some gave = tt
  above_right (Some (taken.Event incoming), e) some gave = (told_own r.deeds (reading incoming.raw) gave, tt)
  above_right (Some (taken.Progress number incoming), e) some gave = (progress_own (sure (taken.Progress number incoming) some) number gave.tag (reading incoming.raw) gave.message gave.there, tt)
  above_right (Some (taken.Final tag incoming), e) some gave = (final_own (sure (taken.Final tag incoming) some) gave.number tag (reading incoming.raw) gave.message gave.there, tt)
  above_right (Some (taken.Closed cause), e) some gave = (tt, tt)

  asked_right : (i : ℕ) (mark : Option ℕ) (m : Result MessageValue MessageFault) → AreRight r.deeds (asked_deeds i mark m q.upper)
  asked_right i mark (Ok (command token service name body)) = by_flag (is_redirect service name) (refusal_to service name body q.upper)
    where
      c : Asked
      c = record { channel = i; token = token; service = service; name = name; body = body; mark = mark }

      by_flag : (redirects : Bool) (o : Option SendRefusal) → AreRight r.deeds (cond redirects (answers c ∷ []) (unless_refused o all_ends (forwards c) ∷ []))
      by_flag true o = (tt, tt)
      by_flag false None = (tt, tt)
      by_flag false (Some why) = (tt, tt)
  asked_right i mark (Ok (final token body)) = tt
  asked_right i mark (Ok (progress token body)) = tt
  asked_right i mark (Ok (event service name body)) = tt
  asked_right i mark (Ok (not_known token)) = tt
  asked_right i mark (Ok (flow level)) = tt
  asked_right i mark (Err fault) = tt

  below_right : (i : ℕ) (what : Option (Taken Unit)) → AreRight r.deeds (below_deeds i what q.upper)
  below_right i None = tt
  below_right i (Some (taken.Hello incoming)) = tt
  below_right i (Some (taken.Command incoming)) = asked_right i incoming.mark (reading incoming.raw)
  below_right i (Some (taken.Event incoming)) = tt
  below_right i (Some (taken.Progress token incoming)) = tt
  below_right i (Some (taken.Final tag incoming)) = tt
  below_right i (Some (taken.Closed cause)) = (tt, tt)

  joined_right : (did : Bool) (i : ℕ) → AreRight r.deeds (cond did (joins i ∷ []) [])
  joined_right true i = (tt, tt)
  joined_right false i = tt

  -- a closed end gave nothing
  something : (next_taken q.upper).0 ≡ None ⊎ IsOpenUpper r
  something = by_flag (is_closed (above_run r).end.state) refl
    where
      by_flag : (flag : Bool) → is_closed (above_run r).end.state ≡ flag → ((next_taken q.upper).0 ≡ None) ⊎ IsOpenUpper r
      by_flag true over = inl (ap (λ (e : EndValue Tag). (next_taken e).0) h.above ∙ ap (λ p. p.0) (takes_nothing_closed upper_services None r.above over))
      by_flag false is = inr is

  call_right : (call : Call) → AreRight r.deeds (deeds_by call q)
  call_right (opens i) = joined_right (opened_at i q).0 i
  call_right (comes side piece mark) = tt
  call_right (bytes_end side) = tt
  call_right (turns key Above) = above_right (next_taken q.upper) something (next_gives q.upper)
  call_right (turns key (Below i)) = below_right i (next_below i q).0
  call_right (gives side) = tt

pub right_step : (j : ℕ) (call : Call) (r : HubRun) → Holds j r → AreIssued r → HasHeard r → AreRight [] r.deeds → AreRight [] (after_call j call r).deeds
right_step j call r h are heard all = right_after [] r.deeds (deeds_by call r.hub.relay) all (call_right j r h are heard call)

-- ---- so each command has one final answer at most

abbrev pub HasOneAtMost : List Deed → Type 0
HasOneAtMost deeds = (number : ℕ) → length (answers_to number deeds) ≤ 1

module _ (number : ℕ) where
  heard_more : (xs : List Deed) (deed : Deed) → answers_to number (xs ++ deed ∷ []) ≡ answers_to number xs ++ filter (ends_number number) (heard_by deed ++ [])
  heard_more xs deed = ap (filter (ends_number number)) (flat_map-append heard_by xs (deed ∷ [])) ∙ filter-append (ends_number number) (heard_in xs) (heard_by deed ++ [])

  silent_more : (xs : List Deed) (deed : Deed) → heard_by deed ≡ [] → length (answers_to number xs) ≤ 1 → length (answers_to number (xs ++ deed ∷ [])) ≤ 1
  silent_more xs deed none few =
      subst (λ is. length is ≤ 1) (sym (heard_more xs deed ∙ ap (λ is. answers_to number xs ++ filter (ends_number number) (is ++ [])) none ∙ append-nil (answers_to number xs))) few

  same_answers : (before : List Deed) (token : List ℕ) → IsOpen before token → token ≡ decimal number → answers_to number before ≡ []
  same_answers before token own same =
      ap (λ text. filter (λ incoming. ends_with text (reading incoming.raw)) (heard_in before)) (sym same ∙ own.numbered) ∙ own.unanswered

  -- it is the first one
  first_is : (before : List Deed) (m : Result MessageValue MessageFault) → IsOfItsCommand before m → ends_with (decimal number) m ≡ true → answers_to number before ≡ []
  first_is before (Ok (final token body)) own is = same_answers before token own (equal_by token (decimal number) is)
  first_is before (Ok (not_known token)) own is = same_answers before token own (equal_by token (decimal number) is)
  first_is before (Ok (progress token body)) own is = let no : false ≡ true = is in absurd cc
  first_is before (Ok (event service name body)) own is = let no : false ≡ true = is in absurd cc
  first_is before (Ok (command token service name body)) own is = let no : false ≡ true = is in absurd cc
  first_is before (Ok (flow level)) own is = let no : false ≡ true = is in absurd cc
  first_is before (Err fault) own is = let no : false ≡ true = is in absurd cc

  heard_one : (xs : List Deed) (incoming : Incoming) → IsOfItsCommand xs (reading incoming.raw) → length (answers_to number xs) ≤ 1 → length (answers_to number (xs ++ hears incoming ∷ [])) ≤ 1
  heard_one xs incoming own few = by_flag (ends_number number incoming) refl
    where
      so : answers_to number (xs ++ hears incoming ∷ []) ≡ answers_to number xs ++ cond (ends_number number incoming) (incoming ∷ []) []
      so = heard_more xs (hears incoming)

      by_flag : (flag : Bool) → ends_number number incoming ≡ flag → length (answers_to number (xs ++ hears incoming ∷ [])) ≤ 1
      by_flag true is =
          subst (λ is. length is ≤ 1) (sym (so ∙ ap (λ b. answers_to number xs ++ cond b (incoming ∷ []) []) is ∙ ap (λ is. is ++ incoming ∷ []) (first_is xs (reading incoming.raw) own is))) (omega arith)
      by_flag false is = subst (λ is. length is ≤ 1) (sym (so ∙ ap (λ b. answers_to number xs ++ cond b (incoming ∷ []) []) is ∙ append-nil (answers_to number xs))) few

  one_more : (xs : List Deed) (deed : Deed) → IsRight xs deed → length (answers_to number xs) ≤ 1 → length (answers_to number (xs ++ deed ∷ [])) ≤ 1
  one_more xs (joins i) own few = silent_more xs (joins i) refl few
  one_more xs (leaves i) own few = silent_more xs (leaves i) refl few
  one_more xs (forwards c) own few = silent_more xs (forwards c) refl few
  one_more xs (answers c) own few = silent_more xs (answers c) refl few
  one_more xs (hears incoming) own few = heard_one xs incoming own few
  one_more xs all_ends own few = silent_more xs all_ends refl few

  once_from : (before deeds : List Deed) → AreRight before deeds → length (answers_to number before) ≤ 1 → length (answers_to number (before ++ deeds)) ≤ 1
  once_from before [] all few = subst (λ ds. length (answers_to number ds) ≤ 1) (sym (append-nil before)) few
  once_from before (deed ∷ deeds) all few =
      subst (λ ds. length (answers_to number ds) ≤ 1) (append_assoc before (deed ∷ []) deeds) (once_from (before ++ deed ∷ []) deeds all.1 (one_more before deed all.0 few))

pub once : (deeds : List Deed) → AreRight [] deeds → HasOneAtMost deeds
once deeds all number = once_from number [] deeds all (omega arith)
