-- Each deed is right: progress and an answer are those of a command that was sent before and not yet answered, and what is
-- answered from the store is known, and no barrier is open then.
use Rattle.std.proofs.Common.{◌≡◌, ◌≤◌, ◌<◌, ℕ, zero, suc, ◌+◌, Bool, true, false, not, ◌||◌, cond, List, [], ◌∷◌, ◌++◌, length, map, filter, length-append, Option, Some, None, Result, Ok, Err, refl, ap, ap₂, sym, ◌∙◌, subst, arith}
use Rattle.std.specs.Prelude.{IfSome, bytes_eq, decimal, if◌then◌else◌, slice_get, unwrap_or}
use Rattle.std.specs.List.{AllByRecursion, flat_map, list_any}
use Rattle.std.proofs.lemmas.List.{append-nil}
use Rattle.std.proofs.lemmas.List.Folds.{list_any-append}
use Rattle.channel_core.specs.ReceivingLaws.{incoming_of}
use Rattle.channel_core.specs.RunLaws.{CountsAnswers, answered_in, is_answered, row_of, token_in}
use Rattle.channel_core.specs.Taking.{next_taken}
use Rattle.channel_core.specs.Wire.{said_of}
use Rattle.channel_core.specs.declared.held.Incoming.{Incoming}
use Rattle.channel_core.specs.declared.taking.Taken.{Taken}
use Rattle.channel_core.specs.declared.taking.Taken.TheVariants as taken
use Rattle.tcf_message.specs.Message.{MessageValue, command, event, final, flow, not_known, progress, reading}
use Rattle.tcf_message.specs.declared.message.MessageFault.{MessageFault}
use Rattle.tcf_values.specs.Storable.{stores}
use Rattle.tcf_values.specs.declared.command.Command.{Command}
use Rattle.value_store.specs.Learning.{data_of}
use Rattle.value_store.specs.Rows.{facts_in}
use Rattle.value_node.specs.Asked.{Asked}
use Rattle.value_node.specs.Barriers.{bars, is_barred, is_barrier}
use Rattle.value_node.specs.Deeds.{above_deeds, asked_deeds, below_deeds, command_asked, deed_for, deeds_by, ends_with, is_ended_in, sent_in as forwarded_in, turn_below_deeds}
use Rattle.value_node.specs.ForwardedValue.{ForwardedValue, tagged}
use Rattle.value_node.specs.Passing.{Upper}
use Rattle.value_node.specs.RelayLaws.{IsAnsweredRightly, IsOfItsCommand, IsOpen}
use Rattle.value_node.specs.Runs.{Call, Past, above, bytes_end, comes, connects, fails, gives, next_above, stored_for, turns}
use Rattle.value_node.specs.Store.{answer_to, stored_answer}
use Rattle.value_node.specs.Value.{is_free_to_answer, takes_below, value_services}
use Rattle.value_node.specs.declared.relay.Relay.{Relay}
use Rattle.value_node.specs.declared.states.Bind.{Bind}
use Rattle.value_node.specs.declared.states.Bind.TheVariants.{Unbound, Opening, Bound, Closed}
use Rattle.value_node.specs.declared.states.Side.TheVariants.{Below, Above}
use Rattle.channel_core.proofs.TheLaws.{counts_answers}
use Rattle.knowledge.proofs.TheLaws.{others_stay_unanswered}
use Rattle.value_node.proofs.CallAdds.{asked_as}
use Rattle.value_node.proofs.DeedLists.{AreRight, IsRight, all_heard, right_both}
use Rattle.value_node.proofs.Holding.{Holds, IsNamed, issued_from, issued_length}
use Rattle.value_node.proofs.HoldsEnds.{upper_is}
use Rattle.value_node.proofs.HoldsPassed.{end_rows}
use Rattle.value_node.proofs.Lists.{all_stands}
use Rattle.value_node.proofs.Taken.{Gives, GivesAny, IsAnswerTo, IsCommand, IsEvent, IsProgressOf, IsTold, Stands, next_gives}
use Rattle.value_node.proofs.TokensBelow.{IsIssued}
use Rattle.list_laws.proofs.Flags.{not_false, not_true}
use Rattle.list_laws.proofs.Lists.{none_mapped}
use Rattle.list_laws.proofs.AllLists.{all_right}

-- ---- the answers that were heard are those that were taken

abbrev ends : ℕ → Incoming → Bool
ends n incoming = ends_with (decimal n) (reading incoming.raw)

event_ends : (n : ℕ) (m : Result MessageValue MessageFault) → IsEvent m → false ≡ (ends_with (decimal n) m || false)
event_ends n (Ok (event service name body)) is = refl
event_ends n m is = absurd is

told_ends : (n : ℕ) (m : Result MessageValue MessageFault) → IsTold m → false ≡ (ends_with (decimal n) m || false)
told_ends n (Ok (event service name body)) is = refl
told_ends n (Ok (flow level)) is = refl
told_ends n (Err fault) is = refl
told_ends n m is = absurd is

command_ends : (n : ℕ) (m : Result MessageValue MessageFault) → IsCommand m → false ≡ (ends_with (decimal n) m || false)
command_ends n (Ok (command token service name body)) is = refl
command_ends n m is = absurd is

progress_ends : (number n : ℕ) (m : Result MessageValue MessageFault) → IsProgressOf number m → false ≡ (ends_with (decimal n) m || false)
progress_ends number n (Ok (progress token body)) is = refl
progress_ends number n m is = absurd is

final_ends : (number n : ℕ) (m : Result MessageValue MessageFault) → IsAnswerTo number m → list_any (λ text. bytes_eq text (decimal n)) (token_in (said_of m)) ≡ (ends_with (decimal n) m || false)
final_ends number n (Ok (final token body)) is = refl
final_ends number n (Ok (not_known token)) is = refl
final_ends number n m is = absurd is

entry_ends : (n most : ℕ) (what : Taken ForwardedValue) → IsNamed most what → list_any (λ text. bytes_eq text (decimal n)) (answered_in what) ≡ list_any (ends n) (incoming_of what)
entry_ends n most (taken.Hello incoming) named = event_ends n (reading incoming.raw) named
entry_ends n most (taken.Command incoming) named = command_ends n (reading incoming.raw) named
entry_ends n most (taken.Event incoming) named = told_ends n (reading incoming.raw) named
entry_ends n most (taken.Progress token incoming) named = progress_ends token n (reading incoming.raw) named.2
entry_ends n most (taken.Final tag incoming) named = final_ends named.0 n (reading incoming.raw) named.3
entry_ends n most (taken.Closed cause) named = refl

entries_end : (n most : ℕ) (entries : List (Taken ForwardedValue)) → AllByRecursion (IsNamed most) entries → is_answered entries n ≡ list_any (ends n) (flat_map incoming_of entries)
entries_end n most [] all = refl
entries_end n most (what ∷ entries) all =
    ap₂ (λ a b. a || b) (entry_ends n most what all.0) (entries_end n most entries all.1) ∙ sym (list_any-append (ends n) (incoming_of what) (flat_map incoming_of entries))

-- ---- lists that are filtered

module _ {A : Type 0} (keep : A → Bool) where
  kept_all : (P : A → Type 0) → ((x : A) → keep x ≡ true → P x) → (xs : List A) → AllByRecursion P (filter keep xs)
  kept_all P each [] = tt
  kept_all P each (x ∷ xs) = by_flag (keep x) refl (kept_all P each xs)
    where
      by_flag : (flag : Bool) → keep x ≡ flag → AllByRecursion P (filter keep xs) → AllByRecursion P (cond flag (x ∷ filter keep xs) (filter keep xs))
      by_flag true is rest = (each x is, rest)
      by_flag false is rest = rest

  first_off : (test : A → Bool) (x : A) (xs : List A) (flag : Bool) → keep x ≡ flag → list_any test (cond flag (x ∷ filter keep xs) (filter keep xs)) ≡ false → test x ≡ true → keep x ≡ false
  first_off test x xs true is none on = let clash : (true || list_any test (filter keep xs)) ≡ false = sym (ap (λ b. b || list_any test (filter keep xs)) on) ∙ none in absurd cc
  first_off test x xs false is none on = is

  rest_off : (test : A → Bool) (x : A) (xs : List A) (flag : Bool) → list_any test (cond flag (x ∷ filter keep xs) (filter keep xs)) ≡ false → list_any test (filter keep xs) ≡ false
  rest_off test x xs true none = by_test (test x) none
    where
      by_test : (one : Bool) → (one || list_any test (filter keep xs)) ≡ false → list_any test (filter keep xs) ≡ false
      by_test true off = absurd cc
      by_test false off = off
  rest_off test x xs false none = none

  kept_off : (test : A → Bool) (xs : List A) (place : ℕ) (x : A) → list_any test (filter keep xs) ≡ false → slice_get xs place ≡ Some x → test x ≡ true → keep x ≡ false
  kept_off test [] place x none there on = absurd cc
  kept_off test (y ∷ xs) zero x none there on =
      let same : y ≡ x = cc in subst (λ z. keep z ≡ false) same (first_off test y xs (keep y) refl none (ap test same ∙ on))
  kept_off test (y ∷ xs) (suc place) x none there on = kept_off test xs place x (rest_off test y xs (keep y) none) there on

-- the row of a command that was accepted
abbrev row_under : ℕ → Asked → Option (ℕ × ForwardedValue)
row_under number c = Some (number, tagged c.token (command_asked c))

row_at : (low : ℕ) (sent : List Asked) (place : ℕ) (c : Asked) → slice_get sent place ≡ Some c
    → slice_get (map row_of (issued_from low sent)) place ≡ Some (low + place, tagged c.token (command_asked c))
row_at low [] place c is = absurd cc
row_at low (d ∷ sent) zero c is =
    let same : d ≡ c = cc in
    let number : low ≡ low + 0 = omega arith in
    ap (λ (x : Asked). row_under low x) same ∙ ap (λ n. row_under n c) number
row_at low (d ∷ sent) (suc place) c is =
    let number : (low + 1) + place ≡ low + suc place = omega arith in row_at (low + 1) sent place c is ∙ ap (λ n. row_under n c) number

-- ---- what holds before a call

module _ (v : Relay) (p : Past) (h : Holds v p) where
  answered_ended : (n : ℕ) → is_answered (above p).past.taken n ≡ is_ended_in n h.deeds
  answered_ended n = entries_end n (length (above p).past.accepted) (above p).past.taken h.named ∙ ap (list_any (ends n)) (sym h.messages)

  counts : CountsAnswers (above p)
  counts = counts_answers value_services None (unwrap_or p.connection [])

  abbrev is_open : ℕ × ForwardedValue → Bool
  is_open row = not (is_answered (above p).past.taken row.0)

  abbrev IsUnanswered : ℕ × ForwardedValue → Type 0
  IsUnanswered row = is_answered (above p).past.taken row.0 ≡ false

  pending_open : AllByRecursion IsUnanswered (above p).end.pending
  pending_open =
      all_right IsUnanswered counts.drained (above p).end.pending
      (subst (AllByRecursion IsUnanswered) counts.pending
      (kept_all is_open IsUnanswered (λ row is. not_true (is_answered (above p).past.taken row.0) is) (map row_of (above p).past.accepted)))

  within : length (above p).past.accepted ≤ length (forwarded_in h.deeds)
  within =
      let a = h.accepted in
      let size : length (above p).past.accepted ≡ length a.sent = ap length a.issued ∙ issued_length 1 a.sent in
      let whole : length (forwarded_in h.deeds) ≡ length a.sent + length a.refused = ap length a.whole ∙ length-append a.sent a.refused in omega arith

  abbrev IsOpenUnder : ℕ → Type 0
  IsOpenUnder number = (1 ≤ number) × (number ≤ length (forwarded_in h.deeds)) × (is_ended_in number h.deeds ≡ false)

  row_open : (row : ℕ × ForwardedValue) → Stands (above p).end.pending row → IsOpenUnder row.0
  row_open row there =
      let count : ℕ = length (above p).past.accepted in
      let mine = all_stands (IsIssued 1 count (forwarded_in h.deeds)) (above p).end.pending row there (end_rows (turns Above) v p h) in
      let high : row.0 < 1 + count = mine.high in
      let most : count ≤ length (forwarded_in h.deeds) = within in
      let few : row.0 ≤ length (forwarded_in h.deeds) = omega arith in
      (mine.low, few, sym (answered_ended row.0) ∙ all_stands IsUnanswered (above p).end.pending row there pending_open)

  -- ---- a message that is heard

  event_own : (m : Result MessageValue MessageFault) → IsEvent m → IsOfItsCommand h.deeds m
  event_own (Ok (event service name body)) is = tt
  event_own m is = absurd is

  told_own : (m : Result MessageValue MessageFault) → IsTold m → IsOfItsCommand h.deeds m
  told_own (Ok (event service name body)) is = tt
  told_own (Ok (flow level)) is = tt
  told_own (Err fault) is = tt
  told_own m is = absurd is

  command_own : (m : Result MessageValue MessageFault) → IsCommand m → IsOfItsCommand h.deeds m
  command_own (Ok (command token service name body)) is = tt
  command_own m is = absurd is

  opened : (number : ℕ) (token : List ℕ) → token ≡ decimal number → IsOpenUnder number → IsOpen h.deeds token
  opened number token is o = record { number = number; numbered = is; counted = o.0; sent = o.1; unanswered = o.2 }

  progress_own : (number : ℕ) (m : Result MessageValue MessageFault) → IsProgressOf number m → IsOpenUnder number → IsOfItsCommand h.deeds m
  progress_own number (Ok (progress token body)) is o = opened number token is o
  progress_own number m is o = absurd is

  final_own : (number : ℕ) (m : Result MessageValue MessageFault) → IsAnswerTo number m → IsOpenUnder number → IsOfItsCommand h.deeds m
  final_own number (Ok (final token body)) is o = opened number token is o
  final_own number (Ok (not_known token)) is o = opened number token is o
  final_own number m is o = absurd is

  abbrev AreOpen : List (ℕ × ForwardedValue) → Type 0
  AreOpen rows = (row : ℕ × ForwardedValue) → Stands rows row → IsOpenUnder row.0

  heard_right : (rows : List (ℕ × ForwardedValue)) (what : Taken ForwardedValue) (e : Upper) → AreOpen rows → Gives rows what e → AreRight h.deeds (all_heard (incoming_of what))
  heard_right rows (taken.Hello incoming) e are given = (event_own (reading incoming.raw) given, tt)
  heard_right rows (taken.Command incoming) e are given = (command_own (reading incoming.raw) given, tt)
  heard_right rows (taken.Event incoming) e are given = (told_own (reading incoming.raw) given, tt)
  heard_right rows (taken.Progress token incoming) e are given = (progress_own token (reading incoming.raw) given.message (are (token, given.tag) given.there), tt)
  heard_right rows (taken.Final tag incoming) e are given = (final_own given.number (reading incoming.raw) given.message (are (given.number, tag) given.there), tt)
  heard_right rows (taken.Closed cause) e are given = tt

  opening_right : (rows : List (ℕ × ForwardedValue)) (next : Option (Taken ForwardedValue) × Upper) → GivesAny rows next → AreRight h.deeds (above_deeds Opening next.0)
  opening_right rows (None, e) given = tt
  opening_right rows (Some (taken.Hello incoming), e) given = (event_own (reading incoming.raw) given, tt)
  opening_right rows (Some (taken.Command incoming), e) given = tt
  opening_right rows (Some (taken.Event incoming), e) given = tt
  opening_right rows (Some (taken.Progress token incoming), e) given = tt
  opening_right rows (Some (taken.Final tag incoming), e) given = tt
  opening_right rows (Some (taken.Closed cause), e) given = tt

  bound_right : (rows : List (ℕ × ForwardedValue)) (next : Option (Taken ForwardedValue) × Upper) → AreOpen rows → GivesAny rows next → AreRight h.deeds (above_deeds Bound next.0)
  bound_right rows (None, e) are given = tt
  bound_right rows (Some what, e) are given = heard_right rows what e are given

  above_right : (bind : Bind) (upper : Option Upper) → IfSome upper (λ e. AreOpen e.pending) → AreRight h.deeds (above_deeds bind (next_above upper))
  above_right Unbound upper are = tt
  above_right Opening None are = tt
  above_right Opening (Some e) are = opening_right e.pending (next_taken e) (next_gives e)
  above_right Bound None are = tt
  above_right Bound (Some e) are = bound_right e.pending (next_taken e) are (next_gives e)
  above_right Closed upper are = tt

  upper_open : (upper : Option Upper) → IfSome upper (λ e. e ≡ (above p).end) → IfSome upper (λ e. AreOpen e.pending)
  upper_open None same = tt
  upper_open (Some e) same = subst (λ (x : Upper). AreOpen x.pending) (sym same) row_open

  -- ---- a command that is answered from the store

  free_rows : (upper : Option Upper) → IfSome upper (λ e. e ≡ (above p).end) → is_free_to_answer upper ≡ true → is_barred (above p).end.pending ≡ false
  free_rows None same free = absurd cc
  free_rows (Some e) same free = sym (ap (λ (x : Upper). is_barred x.pending) same) ∙ not_true (is_barred e.pending) free

  open_barred : is_free_to_answer v.upper ≡ true → list_any bars (filter is_open (map row_of (above p).past.accepted)) ≡ false
  open_barred free =
      let c = counts in
      let none : c.drained ≡ [] = none_mapped (λ (row : ℕ × ForwardedValue). row.1) c.drained (sym c.tags ∙ h.undrained) in
      ap (list_any bars) (c.pending ∙ ap (λ rows. rows ++ (above p).end.pending) none) ∙ free_rows v.upper (upper_is v.upper p.connection h.upper) free

  settled : v.bind ≡ Bound → is_free_to_answer v.upper ≡ true → (number : ℕ) (barrier : Asked) → slice_get (forwarded_in h.deeds) number ≡ Some barrier → is_barrier (command_asked barrier) ≡ true
      → is_ended_in (number + 1) h.deeds ≡ true
  settled bound free number barrier there on =
      let a = h.accepted in
      let all : forwarded_in h.deeds ≡ a.sent = a.whole ∙ ap (λ cs. a.sent ++ cs) (a.all bound) ∙ append-nil a.sent in
      let at : slice_get a.sent number ≡ Some barrier = sym (ap (λ cs. slice_get cs number) all) ∙ there in
      let row : slice_get (map row_of (above p).past.accepted) number ≡ Some (1 + number, tagged barrier.token (command_asked barrier)) =
      ap (λ is. slice_get (map row_of is) number) a.issued ∙ row_at 1 a.sent number barrier at in
      let off : not (is_answered (above p).past.taken (1 + number)) ≡ false =
      kept_off is_open bars (map row_of (above p).past.accepted) number (1 + number, tagged barrier.token (command_asked barrier)) (open_barred free) row on in
      let same : number + 1 ≡ 1 + number = omega arith in
      ap (λ n. is_ended_in n h.deeds) same ∙ sym (answered_ended (1 + number)) ∙ not_false (is_answered (above p).past.taken (1 + number)) off

  -- what is answered is that to a storable command
  answer_storable : (asked : Command) (reply : List ℕ) (flag : Bool) → stores asked ≡ flag → stored_answer asked v.store ≡ Some reply → stores asked ≡ true
  answer_storable asked reply true is found = is
  answer_storable asked reply false is found =
      let none : None ≡ Some reply = sym (ap (data_of asked) (others_stay_unanswered asked (facts_in v.store.known) v.store.blocks is)) ∙ found in absurd cc

  stored_right : v.bind ≡ Bound → (c : Asked) (reply : List ℕ) (free : Bool) (asked : Option Command) → is_free_to_answer v.upper ≡ free → command_asked c ≡ asked
      → (if free then answer_to asked v.store else None) ≡ Some reply → IsAnsweredRightly h.deeds c reply v.store.mark
  stored_right bound c reply true (Some asked) free read found = record {
    command = asked;
    read = read;
    storable = answer_storable asked reply (stores asked) refl found;
    store = v.store;
    store_of = (h.knows bound).known;
    answer = found;
    marked = (h.knows bound).marked;
    settled = settled bound free;
  }
  stored_right bound c reply true None free read found = absurd cc
  stored_right bound c reply false asked free read found = absurd cc

  deed_right : v.bind ≡ Bound → (c : Asked) (reply : Option (List ℕ)) → stored_for c.service c.name c.body v ≡ reply → IsRight h.deeds (deed_for reply c v.store.mark)
  deed_right bound c None is = tt
  deed_right bound c (Some reply) is = stored_right bound c reply (is_free_to_answer v.upper) (command_asked c) refl refl is

  read_right : v.bind ≡ Bound → (m : Result MessageValue MessageFault) (mark : Option ℕ) → AreRight h.deeds (asked_deeds mark m v)
  read_right bound (Ok (command token service name body)) mark = (deed_right bound (asked_as token service name body mark) (stored_for service name body v) refl, tt)
  read_right bound m mark = tt

  took_right : v.bind ≡ Bound → (what : Option (Taken Unit)) → AreRight h.deeds (below_deeds what v)
  took_right bound None = tt
  took_right bound (Some (taken.Hello incoming)) = tt
  took_right bound (Some (taken.Command incoming)) = read_right bound (reading incoming.raw) incoming.mark
  took_right bound (Some (taken.Event incoming)) = tt
  took_right bound (Some (taken.Progress token incoming)) = tt
  took_right bound (Some (taken.Final tag incoming)) = tt
  took_right bound (Some (taken.Closed cause)) = tt

  room_right : v.bind ≡ Bound → (room : Bool) → AreRight h.deeds (if room then below_deeds (next_taken v.lower).0 v else [])
  room_right bound true = took_right bound (next_taken v.lower).0
  room_right bound false = tt

  below_right : (bind : Bind) → v.bind ≡ bind → AreRight h.deeds (turn_below_deeds bind v)
  below_right Unbound is = tt
  below_right Opening is = tt
  below_right Bound is = room_right is (takes_below v.bind v.upper)
  below_right Closed is = tt

  -- ---- each call

  call_right : (call : Call) → AreRight h.deeds (deeds_by call v)
  call_right (comes side piece mark) = tt
  call_right (bytes_end side) = tt
  call_right (turns Below) = below_right v.bind refl
  call_right (turns Above) = above_right v.bind v.upper (upper_open v.upper (upper_is v.upper p.connection h.upper))
  call_right connects = tt
  call_right fails = tt
  call_right (gives side) = tt

  pub right_kept : (call : Call) → AreRight [] (h.deeds ++ deeds_by call v)
  right_kept call = right_both h.deeds (deeds_by call v) h.right (call_right call)
