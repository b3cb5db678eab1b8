-- What is said on an open lower channel is what it is told of what the hub does, and it closes where that says so.
use Rattle.std.proofs.Common.{◌≡◌, ◌≤◌, ◌<◌, ◌^◌, ℕ, zero, suc, ◌+◌, ◌==◌, Bool, true, false, not, cond, ◌||◌, ◌&&◌, List, [], ◌∷◌, ◌++◌, length, map, Option, Some, None, slice_get, refl, sym, ap, subst, ◌∙◌, arith, append-nil, append_assoc}
use Rattle.std.specs.Prelude.{Result, Ok, Err, bytes_eq, decimal}
use Rattle.channel_core.specs.Beginning.{new_end}
use Rattle.channel_core.specs.Closing.{is_closed}
use Rattle.channel_core.specs.EndValue.{EndValue}
use Rattle.channel_core.specs.QueueLaws.{sent_by, sent_in as said_in_calls}
use Rattle.channel_core.specs.Runs.{Call as EndCall, Run, Unheld, after_calls, an_answer, an_event, an_unknown, begun, called, closing, message_of, sending, some_progress, unless_refused}
use Rattle.channel_core.specs.Sending.{refusal_to}
use Rattle.channel_core.specs.Wire.{is_redirect, said}
use Rattle.channel_core.specs.declared.held.Incoming.{Incoming}
use Rattle.channel_core.specs.declared.sending.SendRefusal.{SendRefusal}
use Rattle.channel_core.proofs.TheLaws.{closes_only_so, stays_closed}
use Rattle.channel_list.specs.Channels.{End}
use Rattle.list_laws.proofs.Lists.{get_within}
use Rattle.list_laws.proofs.Numbers.{decimal_itself, other_decimals}
use Rattle.tcf_message.specs.Message.{MessageValue, command, event, final, flow, not_known, progress, reading}
use Rattle.tcf_message.specs.declared.message.MessageFault.{MessageFault}
use Rattle.hub_node.specs.Deeds.{Asked, Deed, answers, asked_deeds, ends as all_ends, forwards, hears, joins, leaves, sent_in}
use Rattle.hub_node.specs.HubLaws.{if_of, passed_to, told_from, under}
use Rattle.hub_node.specs.Redirects.{redirect_reply}
use Rattle.hub_node.specs.Relay.{hub_services}
use Rattle.hub_node.specs.Runs.{answering, asked_calls, going_on, hearing, only_if}
use Rattle.hub_node.specs.WaitingValue.{WaitingValue}
use Rattle.hub_node.specs.declared.waiting.Tag.{Tag}
use Rattle.hub_node.proofs.EndRuns.{end_more, ends}
use Rattle.hub_node.proofs.MessageKinds.{IsAnswerTo, IsProgressOf, IsTold}

-- ---- what deeds leave open

abbrev pub open_after : ℕ → Bool → List Deed → Bool
open_after j is_open [] = is_open
open_after j is_open (joins i ∷ deeds) = open_after j (is_open || (i == j)) deeds
open_after j is_open (leaves i ∷ deeds) = open_after j (is_open && not (i == j)) deeds
open_after j is_open (forwards c ∷ deeds) = open_after j is_open deeds
open_after j is_open (answers c ∷ deeds) = open_after j is_open deeds
open_after j is_open (hears incoming ∷ deeds) = open_after j is_open deeds
open_after j is_open (all_ends ∷ deeds) = open_after j false deeds

pub open_more : (j : ℕ) (is_open : Bool) (xs ys : List Deed) → open_after j is_open (xs ++ ys) ≡ open_after j (open_after j is_open xs) ys
open_more j is_open [] ys = refl
open_more j is_open (joins i ∷ xs) ys = open_more j (is_open || (i == j)) xs ys
open_more j is_open (leaves i ∷ xs) ys = open_more j (is_open && not (i == j)) xs ys
open_more j is_open (forwards c ∷ xs) ys = open_more j is_open xs ys
open_more j is_open (answers c ∷ xs) ys = open_more j is_open xs ys
open_more j is_open (hears incoming ∷ xs) ys = open_more j is_open xs ys
open_more j is_open (all_ends ∷ xs) ys = open_more j false xs ys

pub told_more : (j : ℕ) (is_open : Bool) (commands : List Asked) (xs ys : List Deed)
    → told_from j is_open commands (xs ++ ys) ≡ told_from j is_open commands xs ++ told_from j (open_after j is_open xs) (commands ++ sent_in xs) ys
told_more j is_open commands [] ys = ap (λ cs. told_from j is_open cs ys) (sym (append-nil commands))
told_more j is_open commands (joins i ∷ xs) ys = told_more j (is_open || (i == j)) commands xs ys
told_more j is_open commands (leaves i ∷ xs) ys = told_more j (is_open && not (i == j)) commands xs ys
told_more j is_open commands (forwards c ∷ xs) ys =
    told_more j is_open (commands ++ c ∷ []) xs ys
    ∙ ap (λ cs. told_from j is_open (commands ++ c ∷ []) xs ++ told_from j (open_after j is_open xs) cs ys) (append_assoc commands (c ∷ []) (sent_in xs))
told_more j is_open commands (answers c ∷ xs) ys =
    let first = only_if (is_open && (c.channel == j)) (said (final c.token (redirect_reply c.service c.name c.body)) None ∷ []) in
    ap (λ os. first ++ os) (told_more j is_open commands xs ys) ∙ sym (append_assoc first (told_from j is_open commands xs) (told_from j (open_after j is_open xs) (commands ++ sent_in xs) ys))
told_more j is_open commands (hears incoming ∷ xs) ys =
    let first = only_if is_open (map (λ m. said m incoming.mark) (passed_to j commands (reading incoming.raw))) in
    ap (λ os. first ++ os) (told_more j is_open commands xs ys) ∙ sym (append_assoc first (told_from j is_open commands xs) (told_from j (open_after j is_open xs) (commands ++ sent_in xs) ys))
told_more j is_open commands (all_ends ∷ xs) ys = told_more j false commands xs ys

-- ---- what calls say

pub said_append : (calls more : List (EndCall Unit)) (e : End) → said_in_calls (calls ++ more) e ≡ said_in_calls calls e ++ said_in_calls more (ends calls e)
said_append [] more e = refl
said_append (call ∷ calls) more e =
    ap (λ os. sent_by call e ++ os) (said_append calls more (called call e)) ∙ sym (append_assoc (sent_by call e) (said_in_calls calls (called call e)) (said_in_calls more (ends calls (called call e))))

abbrev pub end_of : List (EndCall Unit) → End
end_of cs = (after_calls cs (begun (new_end hub_services None))).end

abbrev pub IsOpenAt : List (EndCall Unit) → Type 0
IsOpenAt cs = is_closed (end_of cs).state ≡ false

-- nothing on a closed end
closed_says : (call : EndCall Unit) (e : End) → is_closed e.state ≡ true → sent_by call e ≡ []
closed_says (sending message mark) e over = ap (λ b. cond b [] (said (message_of message) mark ∷ [])) over
closed_says call e over = refl

pub silent_closed : (cs calls : List (EndCall Unit)) → is_closed (end_of cs).state ≡ true → said_in_calls calls (end_of cs) ≡ []
silent_closed cs [] over = refl
silent_closed cs (call ∷ calls) over =
    let new : Run Unit = begun (new_end hub_services None) in
    let next : end_of (cs ++ call ∷ []) ≡ called call (end_of cs) = end_more cs (call ∷ []) new in
    let stays = stays_closed hub_services None cs (call ∷ []) over in
    let still : is_closed (end_of (cs ++ call ∷ [])).state ≡ true = ap (λ (e : End). is_closed e.state) next ∙ ap is_closed stays.state ∙ over in
    ap (λ os. os ++ said_in_calls calls (called call (end_of cs))) (closed_says call (end_of cs) over)
    ∙ ap (λ (e : End). said_in_calls calls e) (sym next) ∙ silent_closed (cs ++ call ∷ []) calls still

-- ---- what a call does to an open channel

pub record Acts (j : ℕ) (commands : List Asked) (deeds : List Deed) (calls : List (EndCall Unit)) (e : End) : Type 0 where
  pub told : said_in_calls calls e ≡ told_from j true commands deeds
  pub opens : not (is_closed (ends calls e).state) ≡ open_after j true deeds

-- the command that is answered, and what is kept of it
pub data Finds (j : ℕ) (c : Asked) (o : Option WaitingValue) : Type 0 where
  finds_own : (w : WaitingValue) (is : o ≡ Some w) (own : (w.channel == j) ≡ true) (token : w.token ≡ c.token) (its : (c.channel == j) ≡ true) → Finds j c o
  finds_other : (w : WaitingValue) (is : o ≡ Some w) (other : (w.channel == j) ≡ false) (its : (c.channel == j) ≡ false) → Finds j c o
  finds_none : (is : o ≡ None) (its : (c.channel == j) ≡ false) → Finds j c o

module _ (j : ℕ) (commands : List Asked) (cs : List (EndCall Unit)) (opened : IsOpenAt cs) where
  abbrev e : End
  e = end_of cs

  pub nothing_done : (deeds : List Deed) → told_from j true commands deeds ≡ [] → open_after j true deeds ≡ true → Acts j commands deeds [] e
  nothing_done deeds told opens = record { told = sym told; opens = ap not opened ∙ sym opens }

  pub said_one : (message : Unheld) (mark : Option ℕ) (deeds : List Deed) → told_from j true commands deeds ≡ said (message_of message) mark ∷ [] → open_after j true deeds ≡ true
      → Acts j commands deeds (sending message mark ∷ []) e
  said_one message mark deeds told opens = record {
    told = ap (λ b. cond b [] (said (message_of message) mark ∷ []) ++ []) opened ∙ sym told;
    opens = ap not ((closes_only_so hub_services None cs).by_others (sending message mark) refl ∙ opened) ∙ sym opens;
  }

  pub closed_down : (deeds : List Deed) → told_from j true commands deeds ≡ [] → open_after j true deeds ≡ false → Acts j commands deeds (closing ∷ []) e
  closed_down deeds told opens = record { told = sym told; opens = ap not (closes_only_so hub_services None cs).by_own ∙ sym opens }

  -- a call that neither says anything nor closes
  pub passed_by : (call : EndCall Unit) (deeds : List Deed) → sent_by call e ≡ [] → is_closed (called call e).state ≡ false → told_from j true commands deeds ≡ [] → open_after j true deeds ≡ true
      → Acts j commands deeds (call ∷ []) e
  passed_by call deeds silent still told opens = record { told = ap (λ os. os ++ []) silent ∙ sym told; opens = ap not still ∙ sym opens }

  -- ---- what is heard

  heard_as : (incoming : Incoming) (m : Result MessageValue MessageFault) → reading incoming.raw ≡ m
      → told_from j true commands (hears incoming ∷ []) ≡ map (λ x. said x incoming.mark) (passed_to j commands m) ++ []
  heard_as incoming m is = ap (λ m. map (λ x. said x incoming.mark) (passed_to j commands m) ++ []) is

  pub told_acts : (incoming : Incoming) (m : Result MessageValue MessageFault) → reading incoming.raw ≡ m → IsTold m → Acts j commands (hears incoming ∷ []) (hearing incoming.mark m) e
  told_acts incoming (Ok (event service name body)) is kind = said_one (an_event service name body) incoming.mark (hears incoming ∷ []) (heard_as incoming (Ok (event service name body)) is) refl
  told_acts incoming (Ok (flow level)) is kind = nothing_done (hears incoming ∷ []) (heard_as incoming (Ok (flow level)) is) refl
  told_acts incoming (Err fault) is kind = nothing_done (hears incoming ∷ []) (heard_as incoming (Err fault) is) refl
  told_acts incoming (Ok (command token service name body)) is kind = absurd kind
  told_acts incoming (Ok (final token body)) is kind = absurd kind
  told_acts incoming (Ok (progress token body)) is kind = absurd kind
  told_acts incoming (Ok (not_known token)) is kind = absurd kind

  -- of a command
  spoken : (mark : Option ℕ) (number : ℕ) (token : List ℕ) (c : Asked) (tells : Asked → MessageValue) (flag : Bool) → token ≡ decimal number → under 1 (decimal number) commands ≡ Some c → (c.channel == j) ≡ flag
      → map (λ x. said x mark) (if_of j (under 1 token commands) tells) ++ [] ≡ cond flag (said (tells c) mark ∷ []) []
  spoken mark number token c tells flag named there its =
      ap (λ t. map (λ x. said x mark) (if_of j (under 1 t commands) tells) ++ []) named ∙ ap (λ o. map (λ x. said x mark) (if_of j o tells) ++ []) there
      ∙ ap (λ b. map (λ x. said x mark) (cond b (tells c ∷ []) []) ++ []) its ∙ by_flag flag
    where
      by_flag : (flag : Bool) → map (λ x. said x mark) (cond flag (tells c ∷ []) []) ++ [] ≡ cond flag (said (tells c) mark ∷ []) []
      by_flag true = refl
      by_flag false = refl

  -- what is passed on of it
  passes : (incoming : Incoming) (message : List ℕ → Unheld) (c : Asked) (o : Option WaitingValue) (calls : Option WaitingValue → List (EndCall Unit)) → Finds j c o
      → ((w : WaitingValue) → calls (Some w) ≡ only_if (w.channel == j) (sending (message w.token) incoming.mark ∷ [])) → calls None ≡ []
      → ((flag : Bool) → (c.channel == j) ≡ flag → told_from j true commands (hears incoming ∷ []) ≡ cond flag (said (message_of (message c.token)) incoming.mark ∷ []) [])
      → Acts j commands (hears incoming ∷ []) (calls o) e
  passes incoming message c o calls (finds_own w is own token its) some none told =
      subst (λ calls. Acts j commands (hears incoming ∷ []) calls e)
      (sym (ap calls is ∙ some w ∙ ap (λ b. only_if b (sending (message w.token) incoming.mark ∷ [])) own ∙ ap (λ t. sending (message t) incoming.mark ∷ []) token))
      (said_one (message c.token) incoming.mark (hears incoming ∷ []) (told true its) refl)
  passes incoming message c o calls (finds_other w is other its) some none told =
      subst (λ calls. Acts j commands (hears incoming ∷ []) calls e) (sym (ap calls is ∙ some w ∙ ap (λ b. only_if b (sending (message w.token) incoming.mark ∷ [])) other))
      (nothing_done (hears incoming ∷ []) (told false its) refl)
  passes incoming message c o calls (finds_none is its) some none told =
      subst (λ calls. Acts j commands (hears incoming ∷ []) calls e) (sym (ap calls is ∙ none)) (nothing_done (hears incoming ∷ []) (told false its) refl)

  pub progress_acts : (incoming : Incoming) (m : Result MessageValue MessageFault) (number : ℕ) (c : Asked) (o : Option WaitingValue) → reading incoming.raw ≡ m → IsProgressOf number m
      → under 1 (decimal number) commands ≡ Some c → Finds j c o → Acts j commands (hears incoming ∷ []) (going_on j o incoming.mark m) e
  progress_acts incoming (Ok (progress token body)) number c o is kind there finds =
      passes incoming (λ t. some_progress t body) c o (λ o. going_on j o incoming.mark (Ok (progress token body))) finds (λ w. refl) refl
      (λ flag its. heard_as incoming (Ok (progress token body)) is ∙ spoken incoming.mark number token c (λ c. progress c.token body) flag kind there its)
  progress_acts incoming (Ok (event service name body)) number c o is kind there finds = absurd kind
  progress_acts incoming (Ok (flow level)) number c o is kind there finds = absurd kind
  progress_acts incoming (Err fault) number c o is kind there finds = absurd kind
  progress_acts incoming (Ok (command token service name body)) number c o is kind there finds = absurd kind
  progress_acts incoming (Ok (final token body)) number c o is kind there finds = absurd kind
  progress_acts incoming (Ok (not_known token)) number c o is kind there finds = absurd kind

  pub final_acts : (incoming : Incoming) (m : Result MessageValue MessageFault) (number : ℕ) (c : Asked) (o : Option WaitingValue) → reading incoming.raw ≡ m → IsAnswerTo number m
      → under 1 (decimal number) commands ≡ Some c → Finds j c o → Acts j commands (hears incoming ∷ []) (answering j o incoming.mark m) e
  final_acts incoming (Ok (final token body)) number c o is kind there finds =
      passes incoming (λ t. an_answer t body) c o (λ o. answering j o incoming.mark (Ok (final token body))) finds (λ w. refl) refl
      (λ flag its. heard_as incoming (Ok (final token body)) is ∙ spoken incoming.mark number token c (λ c. final c.token body) flag kind there its)
  final_acts incoming (Ok (not_known token)) number c o is kind there finds =
      passes incoming (λ t. an_unknown t) c o (λ o. answering j o incoming.mark (Ok (not_known token))) finds (λ w. refl) refl
      (λ flag its. heard_as incoming (Ok (not_known token)) is ∙ spoken incoming.mark number token c (λ c. not_known c.token) flag kind there its)
  final_acts incoming (Ok (event service name body)) number c o is kind there finds = absurd kind
  final_acts incoming (Ok (flow level)) number c o is kind there finds = absurd kind
  final_acts incoming (Err fault) number c o is kind there finds = absurd kind
  final_acts incoming (Ok (command token service name body)) number c o is kind there finds = absurd kind
  final_acts incoming (Ok (progress token body)) number c o is kind there finds = absurd kind

  -- ---- what comes from below

  pub asked_acts : (i : ℕ) (mark : Option ℕ) (m : Result MessageValue MessageFault) (upper : EndValue Tag) (own : Bool) → (i == j) ≡ own → Acts j commands (asked_deeds i mark m upper) (asked_calls own m upper) e
  asked_acts i mark (Ok (command token service name body)) upper own is = by_flag (is_redirect service name)
    where
      c : Asked
      c = record { channel = i; token = token; service = service; name = name; body = body; mark = mark }

      answer : EndCall Unit
      answer = sending (an_answer token (redirect_reply service name body)) None

      by_own : (own : Bool) → (i == j) ≡ own → Acts j commands (answers c ∷ []) (only_if own (answer ∷ [])) e
      by_own true is = said_one (an_answer token (redirect_reply service name body)) None (answers c ∷ []) (ap (λ b. only_if b (said (final token (redirect_reply service name body)) None ∷ []) ++ []) is) refl
      by_own false is = nothing_done (answers c ∷ []) (ap (λ b. only_if b (said (final token (redirect_reply service name body)) None ∷ []) ++ []) is) refl

      by_why : (o : Option SendRefusal) → Acts j commands (unless_refused o all_ends (forwards c) ∷ []) (unless_refused {A = List (EndCall Unit)} o (closing ∷ []) []) e
      by_why None = nothing_done (forwards c ∷ []) refl refl
      by_why (Some why) = closed_down (all_ends ∷ []) refl refl

      by_flag : (redirects : Bool) → Acts j commands (cond redirects (answers c ∷ []) (unless_refused (refusal_to service name body upper) all_ends (forwards c) ∷ []))
          (cond redirects (only_if own (answer ∷ [])) (unless_refused (refusal_to service name body upper) (closing ∷ []) [])) e
      by_flag true = by_own own is
      by_flag false = by_why (refusal_to service name body upper)
  asked_acts i mark (Ok (final token body)) upper own is = nothing_done [] refl refl
  asked_acts i mark (Ok (progress token body)) upper own is = nothing_done [] refl refl
  asked_acts i mark (Ok (event service name body)) upper own is = nothing_done [] refl refl
  asked_acts i mark (Ok (not_known token)) upper own is = nothing_done [] refl refl
  asked_acts i mark (Ok (flow level)) upper own is = nothing_done [] refl refl
  asked_acts i mark (Err fault) upper own is = nothing_done [] refl refl

-- ---- the command under a token

pub under_place : (number place : ℕ) (commands : List Asked) (c : Asked) → slice_get commands place ≡ Some c → number + length commands ≤ 2 ^ 64 → under number (decimal (number + place)) commands ≡ Some c
under_place number place [] c there few = absurd cc
under_place number zero (d ∷ commands) c there few =
    let same : d ≡ c = cc in
    let here : number + 0 ≡ number = omega arith in
    ap (λ n. cond (bytes_eq (decimal n) (decimal number)) (Some d) (under (number + 1) (decimal n) commands)) here
    ∙ ap (λ b. cond b (Some d) (under (number + 1) (decimal number) commands)) (decimal_itself number) ∙ ap Some same
under_place number (suc place) (d ∷ commands) c there few =
    let further : number + suc place ≡ (number + 1) + place = omega arith in
    let within : place < length commands = get_within place commands c there in
    let apart : bytes_eq (decimal (number + suc place)) (decimal number) ≡ false = other_decimals (number + suc place) number (omega (arith, few, within)) (omega (arith, few)) (λ same. omega (arith, same)) in
    ap (λ b. cond b (Some d) (under (number + 1) (decimal (number + suc place)) commands)) apart ∙ ap (λ n. under (number + 1) (decimal n) commands) further
    ∙ under_place (number + 1) place commands c there (omega (arith, few))
