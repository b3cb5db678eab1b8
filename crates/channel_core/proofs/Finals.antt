-- What is taken from the inbox, and the commands that wait for their answer.
use Rattle.std.proofs.Common.{◌≡◌, ◌≢◌, ℕ, zero, suc, ◌+◌, ◌<◌, ◌≤◌, ◌==◌, Bool, true, false, not, cond, ◌||◌, List, [], ◌∷◌, ◌++◌, length, map, Option, Some, None, refl, sym, ap, ◌∙◌, subst, arith, append_assoc, append-nil, length-append, nat_lt, nat_le, add-zero}
use Rattle.std.specs.Prelude.{bytes_eq, decimal, remove, slice_get}
use Rattle.std.specs.List.{filter, list_any, position_or_len, range_with_len}
use Rattle.std.proofs.lemmas.Bool.{eqb-false}
use Rattle.std.proofs.lemmas.List.{map-append}
use Rattle.std.proofs.lemmas.List.Elements.{filter-append, filter_agree}
use Rattle.std.proofs.lemmas.List.Folds.{list_any-append}
use Rattle.tcf_message.specs.Message.{most_body}
use Rattle.channel_core.specs.Closing.{first_pending, is_closed, without_first}
use Rattle.channel_core.specs.EndValue.{EndValue}
use Rattle.channel_core.specs.Holding.{is_free, sent_out}
use Rattle.channel_core.specs.Laws.{listed}
use Rattle.channel_core.specs.Level.{is_due, leveled, level_of}
use Rattle.channel_core.specs.Runs.{message_of, Call, delivering, ending, taking, commanding, sending, putting_out, closing, draining, called, unless_refused, Issued, issued, Run, after_call}
use Rattle.channel_core.specs.RunLaws.{row_of, token_in, answered_in, is_answered, CountsAnswers}
use Rattle.channel_core.specs.Sending.{accepted, commanded, last_token, most_pending, refusal_of, sent_or_held, refusal_to}
use Rattle.channel_core.specs.Taking.{answer_judged, finished, is_early, is_held, judged, judged_by, next_taken, number_at, place_of, progress_judged, progressed, redirected, sent_at, sent_place, state_greeted, stop_taken, taken_as, taken_from, unless_held}
use Rattle.channel_core.specs.Wire.{Said, greets, tells, asks, goes_on, answers, said, said_in}
use Rattle.channel_core.specs.declared.held.Arrived.{Arrived}
use Rattle.channel_core.specs.declared.held.Held.{Held}
use Rattle.channel_core.specs.declared.held.Incoming.{Incoming}
use Rattle.channel_core.specs.declared.sending.SendRefusal.{SendRefusal}
use Rattle.channel_core.specs.declared.sending.SendRefusal.TheVariants.{Full, NotOpen, TooLong, Spent}
use Rattle.channel_core.specs.declared.states.Cause.{Cause}
use Rattle.channel_core.specs.declared.states.EndState.TheVariants.{Live}
use Rattle.channel_core.specs.Judged.{Judged, TooEarly, Stray, Greets, Tells, Asks, GoesOn, Answers}
use Rattle.channel_core.specs.declared.taking.Taken.{Taken}
use Rattle.channel_core.specs.declared.taking.Taken.TheVariants.{Hello, Command, Event, Progress, Final, Closed}
use Rattle.channel_core.proofs.Keeping.{Keeps, KeepsAny, KeepsOut, IsTidy, delivered_keeps, ended_keeps, closed_keeps, taken_keeps, released_keeps, either_keeps, greeted_open, open_by_inbox, answered_keeps}
use Rattle.channel_core.proofs.Tidy.{accepted_open, leveled_open}
use Rattle.channel_core.proofs.Rows.{names, unnamed, named_is, not_named, IsRising, rising_of, rising_filter, removed, found_named, placed, filter_two}
use Rattle.list_laws.proofs.Flags.{or_false}

-- ---- What is pending stays

pub record IsPending {T : Type 0} (pending : List (ℕ × T)) (last : ℕ) (e : EndValue T) : Type 0 where
  pub pending_is : e.pending ≡ pending
  pub last_is : e.last ≡ last

pending_level : {T : Type 0} → (pending : List (ℕ × T)) (last : ℕ) (e : EndValue T) → IsPending pending last e → IsPending pending last (leveled e)
pending_level pending last e i =
    either_keeps (IsPending pending last) (is_due e.is_loud (level_of (length e.inbox))) _ e (record { pending_is = i.pending_is; last_is = i.last_is }) i

pending_out : {T : Type 0} → (pending : List (ℕ × T)) (last : ℕ) → KeepsOut {T = T} (IsPending pending last)
pending_out pending last e h held is opened i =
    either_keeps (IsPending pending last) h.is_redirect _ _ (record { pending_is = i.pending_is; last_is = i.last_is }) (record { pending_is = i.pending_is; last_is = i.last_is })

pending_redirects : {T : Type 0} → (pending : List (ℕ × T)) (last : ℕ) (e : EndValue T) (done : Bool) → IsPending pending last e → IsPending pending last (redirected done e)
pending_redirects pending last e true i = record { pending_is = i.pending_is; last_is = i.last_is }
pending_redirects pending last e false i =
    released_keeps (pending_out pending last) (record e { redirect = None; state = Live }) refl (record { pending_is = i.pending_is; last_is = i.last_is })

pendings : {T : Type 0} → (pending : List (ℕ × T)) (last : ℕ) → Keeps {T = T} (IsPending pending last)
pendings pending last = record {
  feeds = λ e stream came i. record { pending_is = i.pending_is; last_is = i.last_is };
  stops = λ e cause opened i. record { pending_is = i.pending_is; last_is = i.last_is };
  hears = λ e level opened i. released_keeps (pending_out pending last) (record e { told = level }) opened (record { pending_is = i.pending_is; last_is = i.last_is });
  enters = λ e arrived opened i. pending_level pending last (record e { inbox = e.inbox ++ arrived ∷ [] }) (record { pending_is = i.pending_is; last_is = i.last_is });
  leaves = λ e arrived inbox is opened i. pending_level pending last (record e { inbox = inbox }) (record { pending_is = i.pending_is; last_is = i.last_is });
  greets = λ e opened i. released_keeps (pending_out pending last) (record e { state = state_greeted e.state e.redirect }) (greeted_open e.state e.redirect opened)
      (record { pending_is = i.pending_is; last_is = i.last_is });
  redirects = λ e done opened i. pending_redirects pending last e done i;
  closes = λ e cause opened i. record { pending_is = i.pending_is; last_is = i.last_is };
}

-- ---- A closed end stays closed

abbrev IsShut : {T : Type 0} → EndValue T → Type 0
IsShut e = is_closed e.state ≡ true

shut : {T : Type 0} → Keeps {T = T} IsShut
shut = record {
  feeds = λ e stream came i. i;
  stops = λ e cause opened i. absurd cc;
  hears = λ e level opened i. absurd cc;
  enters = λ e arrived opened i. absurd cc;
  leaves = λ e arrived inbox is opened i. absurd cc;
  greets = λ e opened i. absurd cc;
  redirects = λ e done opened i. absurd cc;
  closes = λ e cause opened i. absurd cc;
}

any_shut : {T : Type 0} → KeepsAny {T = T} IsShut
any_shut e pending i = i

-- so one that is open was open
was_open : {T : Type 0} → (e next : EndValue T) → (IsShut e → IsShut next) → is_closed next.state ≡ false → is_closed e.state ≡ false
was_open e next stays opened = by_flag (is_closed e.state) refl
  where
    by_flag : (flag : Bool) → is_closed e.state ≡ flag → is_closed e.state ≡ false
    by_flag true is = let closed = stays is in absurd cc
    by_flag false is = is

-- ---- What is taken

-- a final answer: the pending command that it names, which was sent, isn't pending any more
pub record IsFinished {T : Type 0} (e : EndValue T) (tag : T) (incoming : Incoming) (next : EndValue T) : Type 0 where
  pub number : ℕ
  pub token : List ℕ
  pub done : Bool
  pub place : ℕ
  pub said_is : said_in incoming.raw ≡ answers token done
  pub place_is : place_of token e.pending ≡ Some place
  pub row_is : slice_get e.pending place ≡ Some (number, tag)
  pub unheld : is_held number e.held ≡ false
  pub pending_is : next.pending ≡ remove e.pending place
  pub last_is : next.last ≡ e.last
  pub opened : is_closed e.state ≡ false

-- and nothing else changes what is pending
abbrev pub TookAs : {T : Type 0} → EndValue T → Option (Taken T) → EndValue T → Type 0
TookAs e None next = IsPending e.pending e.last next
TookAs e (Some (Hello incoming)) next = IsPending e.pending e.last next
TookAs e (Some (Command incoming)) next = IsPending e.pending e.last next
TookAs e (Some (Event incoming)) next = IsPending e.pending e.last next
TookAs e (Some (Progress token incoming)) next = IsPending e.pending e.last next
TookAs e (Some (Final tag incoming)) next = IsFinished e tag incoming next
TookAs e (Some (Closed cause)) next = IsPending e.pending e.last next

-- the answer that a message is judged to be
record IsAsked {T : Type 0} (said : Said) (e : EndValue T) (place : ℕ) (done : Bool) : Type 0 where
  token : List ℕ
  said_is : said ≡ answers token done
  sent_is : sent_place token e ≡ Some place

pub no_progress : (sent : Option ℕ) (place : ℕ) (done : Bool) → progress_judged sent ≡ Answers place done → ⊥
no_progress None place done is = cc
no_progress (Some other) place done is = cc

pub is_answer : (sent : Option ℕ) (other done : Bool) (place : ℕ) → answer_judged other sent ≡ Answers place done → (sent ≡ Some place) × (other ≡ done)
is_answer None other done place is = absurd cc
is_answer (Some here) other done place is = (let same : here ≡ place = cc in ap Some same, cc)

asked_by : {T : Type 0} → (message : Said) (e : EndValue T) (place : ℕ) (done : Bool) → judged_by message e ≡ Answers place done → IsAsked message e place done
asked_by greets e place done is = absurd cc
asked_by tells e place done is = absurd cc
asked_by asks e place done is = absurd cc
asked_by (goes_on token) e place done is = absurd (no_progress (sent_place token e) place done is)
asked_by (answers token other) e place done is =
    let a = is_answer (sent_place token e) other done place is in record { token = token; said_is = ap (answers token) a.1; sent_is = a.0 }

asked : {T : Type 0} → (message : Said) (e : EndValue T) (place : ℕ) (done : Bool) → judged message e ≡ Answers place done → IsAsked message e place done
asked message e place done is = by_flag (is_early e.state message) is
  where
    by_flag : (flag : Bool) → cond flag TooEarly (judged_by message e) ≡ Answers place done → IsAsked message e place done
    by_flag true is = absurd cc
    by_flag false is = asked_by message e place done is

-- the place of a command that was sent
record WasSent {T : Type 0} (pending : List (ℕ × T)) (held : List Held) (found : Option ℕ) (place : ℕ) : Type 0 where
  found_is : found ≡ Some place
  unheld : (row : ℕ × T) → slice_get pending place ≡ Some row → is_held row.0 held ≡ false

sent_by : {T : Type 0} → (here place : ℕ) (pending : List (ℕ × T)) (held : List Held) (row : Option (ℕ × T)) → slice_get pending here ≡ row → unless_held here row held ≡ Some place
    → WasSent pending held (Some here) place
sent_by here place pending held None at is = absurd cc
sent_by here place pending held (Some row) at is = by_flag (is_held row.0 held) refl is
  where
    by_flag : (flag : Bool) → is_held row.0 held ≡ flag → cond flag None (Some here) ≡ Some place → WasSent pending held (Some here) place
    by_flag true holds is = absurd cc
    by_flag false holds is =
        let same : here ≡ place = cc in
        record {
          found_is = ap Some same;
          unheld = λ other there. let one : row ≡ other = cc in ap (λ r. is_held r.0 held) (sym one) ∙ holds;
        }

was_sent : {T : Type 0} → (found : Option ℕ) (place : ℕ) (pending : List (ℕ × T)) (held : List Held) → sent_at found pending held ≡ Some place → WasSent pending held found place
was_sent None place pending held is = absurd cc
was_sent (Some here) place pending held is = sent_by here place pending held (slice_get pending here) refl is

progressed_took : {T : Type 0} → (number : ℕ) (incoming : Incoming) (token : Option ℕ) (e left : EndValue T) → IsPending e.pending e.last left → TookAs e (progressed number incoming token left).0 (progressed number incoming token left).1
progressed_took number incoming None e left i = record { pending_is = i.pending_is; last_is = i.last_is }
progressed_took number incoming (Some token) e left i = pending_level e.pending e.last left i

finished_took : {T : Type 0} → (number : ℕ) (incoming : Incoming) (place : ℕ) (done : Bool) (row : Option (ℕ × T)) (arrived : Arrived) (inbox : List Arrived) (e : EndValue T)
    → slice_get e.pending place ≡ row → is_closed e.state ≡ false → IsAsked (said_in incoming.raw) (record e { inbox = inbox }) place done
    → TookAs e (finished number incoming place done row (record e { inbox = inbox })).0 (finished number incoming place done row (record e { inbox = inbox })).1
finished_took number incoming place done None arrived inbox e at opened a = record { pending_is = refl; last_is = refl }
finished_took number incoming place done (Some row) arrived inbox e at opened a =
    let left = record e { inbox = inbox; pending = remove e.pending place } in
    let k = pendings (remove e.pending place) e.last in
    let i = answered_keeps k row.0 done (leveled left) (leveled_open left opened) (pending_level (remove e.pending place) e.last left (record { pending_is = refl; last_is = refl })) in
    let w = was_sent (place_of a.token e.pending) place e.pending e.held a.sent_is in
    record {
      number = row.0;
      token = a.token;
      done = done;
      place = place;
      said_is = a.said_is;
      place_is = w.found_is;
      row_is = at;
      unheld = w.unheld row at;
      pending_is = i.pending_is;
      last_is = i.last_is;
      opened = opened;
    }

judged_took : {T : Type 0} → (number : ℕ) (incoming : Incoming) (judgement : Judged) (arrived : Arrived) (inbox : List Arrived) (e : EndValue T)
    → judged (said_in incoming.raw) (record e { inbox = inbox }) ≡ judgement → is_closed e.state ≡ false
    → TookAs e (taken_as number incoming judgement (record e { inbox = inbox })).0 (taken_as number incoming judgement (record e { inbox = inbox })).1
judged_took number incoming TooEarly arrived inbox e is opened = record { pending_is = refl; last_is = refl }
judged_took number incoming Stray arrived inbox e is opened = record { pending_is = refl; last_is = refl }
judged_took number incoming Greets arrived inbox e is opened =
    let left = record e { inbox = inbox } in
    let k = pendings e.pending e.last in
    k.greets (leveled left) (leveled_open left opened) (pending_level e.pending e.last left (record { pending_is = refl; last_is = refl }))
judged_took number incoming Tells arrived inbox e is opened = pending_level e.pending e.last (record e { inbox = inbox }) (record { pending_is = refl; last_is = refl })
judged_took number incoming Asks arrived inbox e is opened = pending_level e.pending e.last (record e { inbox = inbox }) (record { pending_is = refl; last_is = refl })
judged_took number incoming (GoesOn place) arrived inbox e is opened =
    progressed_took number incoming (number_at place e.pending) e (record e { inbox = inbox }) (record { pending_is = refl; last_is = refl })
judged_took number incoming (Answers place done) arrived inbox e is opened =
    finished_took number incoming place done (slice_get e.pending place) arrived inbox e refl opened (asked (said_in incoming.raw) (record e { inbox = inbox }) place done is)

stop_took : {T : Type 0} → (stop : Option Cause) (e : EndValue T) → TookAs e (stop_taken stop e).0 (stop_taken stop e).1
stop_took None e = record { pending_is = refl; last_is = refl }
stop_took (Some cause) e = record { pending_is = refl; last_is = refl }

from_took : {T : Type 0} → (inbox : List Arrived) (e : EndValue T) → e.inbox ≡ inbox → IsTidy e → TookAs e (taken_from inbox e).0 (taken_from inbox e).1
from_took [] e is tidy = stop_took e.stop e
from_took (arrived ∷ inbox) e is tidy =
    let left = record e { inbox = inbox } in
    judged_took arrived.number arrived.incoming (judged (said_in arrived.incoming.raw) left) arrived inbox e refl (open_by_inbox e arrived inbox tidy is)

pub took : {T : Type 0} → (e : EndValue T) → IsTidy e → TookAs e (next_taken e).0 (next_taken e).1
took e tidy = from_took e.inbox e refl tidy

-- ---- The rows that wait

abbrev rows_of : {T : Type 0} → List (Issued T) → List (ℕ × T)
rows_of all = map row_of all

-- the rows without an answer among these
abbrev waiting : {T : Type 0} → List (Taken T) → List (Issued T) → List (ℕ × T)
waiting taken all = filter (λ row. not (is_answered taken row.0)) (rows_of all)

pub record IsCounted {T : Type 0} (taken : List (Taken T)) (all : List (Issued T)) (gone : List T) (e : EndValue T) : Type 0 where
  pub tokens : map (λ i. i.command.token) all ≡ range_with_len 1 (length all)
  pub last : e.last ≡ length all
  pub most : e.last ≤ last_token
  -- no command to come has an answer
  pub unborn : (n : ℕ) → e.last < n → n ≤ last_token → is_answered taken n ≡ false
  pub left : List (ℕ × T)
  pub pending : waiting taken all ≡ left ++ e.pending
  pub drained : gone ≡ map (λ row. row.1) left
  pub still : is_closed e.state ≡ false → left ≡ []

-- what is pending stays
counted_same : {T : Type 0} → (taken : List (Taken T)) (all : List (Issued T)) (gone : List T) (e next : EndValue T) → IsPending e.pending e.last next → (IsShut e → IsShut next)
    → IsCounted taken all gone e → IsCounted taken all gone next
counted_same taken all gone e next i stays c = record {
  tokens = c.tokens;
  last = i.last_is ∙ c.last;
  most = let same = i.last_is in let most = c.most in omega arith;
  unborn = λ n above within. c.unborn n (let same = i.last_is in omega arith) within;
  left = c.left;
  pending = c.pending ∙ ap (λ rows. c.left ++ rows) (sym i.pending_is);
  drained = c.drained;
  still = λ opened. c.still (was_open e next stays opened);
}

-- ---- An entry without an answer

-- one more entry
answered_more : {T : Type 0} → (taken : List (Taken T)) (t : Taken T) (n : ℕ) → is_answered (taken ++ t ∷ []) n ≡ (is_answered taken n || list_any (λ text. bytes_eq text (decimal n)) (answered_in t))
answered_more taken t n =
    list_any-append (λ x. list_any (λ text. bytes_eq text (decimal n)) (answered_in x)) taken (t ∷ [])
    ∙ ap (λ b. is_answered taken n || b) (or_false (list_any (λ text. bytes_eq text (decimal n)) (answered_in t)))

same_answered : {T : Type 0} → (taken : List (Taken T)) (t : Taken T) (n : ℕ) → answered_in t ≡ [] → is_answered (taken ++ t ∷ []) n ≡ is_answered taken n
same_answered taken t n none =
    answered_more taken t n ∙ ap (λ texts. is_answered taken n || list_any (λ text. bytes_eq text (decimal n)) texts) none ∙ or_false (is_answered taken n)

counted_other : {T : Type 0} → (taken : List (Taken T)) (t : Taken T) (all : List (Issued T)) (gone : List T) (e : EndValue T) → answered_in t ≡ [] → IsCounted taken all gone e → IsCounted (taken ++ t ∷ []) all gone e
counted_other taken t all gone e none c = record {
  tokens = c.tokens;
  last = c.last;
  most = c.most;
  unborn = λ n above within. same_answered taken t n none ∙ c.unborn n above within;
  left = c.left;
  pending = filter_agree (λ row. not (is_answered (taken ++ t ∷ []) row.0)) (λ row. not (is_answered taken row.0)) (λ row. ap not (same_answered taken t row.0 none)) (rows_of all) ∙ c.pending;
  drained = c.drained;
  still = c.still;
}

-- ---- A final answer

tokens_of : {T : Type 0} → (all : List (Issued T)) → map (λ row. row.0) (rows_of all) ≡ map (λ i. i.command.token) all
tokens_of [] = refl
tokens_of (i ∷ all) = ap (λ ns. i.command.token ∷ ns) (tokens_of all)

waiting_rising : {T : Type 0} → (taken : List (Taken T)) (all : List (Issued T)) (gone : List T) (e : EndValue T) → IsCounted taken all gone e → IsRising 0 e.last (waiting taken all)
waiting_rising taken all gone e c =
    let last = c.last in
    rising_filter (λ row. not (is_answered taken row.0)) 0 e.last (rows_of all) (rising_of 0 (length all) e.last (rows_of all) (tokens_of all ∙ c.tokens) (omega arith))

-- the row of a place stands within the limit
row_within : {T : Type 0} → (low high : ℕ) (rows : List (ℕ × T)) (place : ℕ) (row : ℕ × T) → IsRising low high rows → slice_get rows place ≡ Some row → row.0 ≤ high
row_within low high [] place row r at = absurd cc
row_within {T = T} low high (first ∷ rows) zero row r at = let same : first ≡ row = cc in let P : ℕ × T → Type 0 = λ x. x.0 ≤ high in subst P same r.1
row_within low high (first ∷ rows) (suc place) row r at = row_within first.0 high rows place row r.2 at

-- the rows that wait but for the one that is answered
counted_final : {T : Type 0} → (taken : List (Taken T)) (all : List (Issued T)) (gone : List T) (tag : T) (incoming : Incoming) (e next : EndValue T) → IsFinished e tag incoming next
    → IsCounted taken all gone e → IsCounted (taken ++ Final tag incoming ∷ []) all gone next
counted_final {T = T} taken all gone tag incoming e next f c =
    let none : c.left ≡ [] = c.still f.opened in
    let waits : waiting taken all ≡ e.pending = c.pending ∙ ap (λ rows. rows ++ e.pending) none in
    let rising : IsRising 0 e.last e.pending = subst (λ (rows : List (ℕ × T)). IsRising 0 e.last rows) waits (waiting_rising taken all gone e c) in
    let here = placed f.token e.pending f.place f.place_is in
    let row_at : slice_get e.pending (position_or_len (names f.token) e.pending) ≡ Some (f.number, tag) = ap (slice_get e.pending) here.place_is ∙ f.row_is in
    let token_is : f.token ≡ decimal f.number = named_is f.token f.number (found_named f.token e.pending (f.number, tag) row_at) in
    let within : f.number ≤ e.last = row_within 0 e.last e.pending f.place (f.number, tag) rising f.row_is in
    let texts : answered_in (Final tag incoming) ≡ f.token ∷ [] = ap token_in f.said_is in
    let more : (n : ℕ) → is_answered (taken ++ Final tag incoming ∷ []) n ≡ (is_answered taken n || bytes_eq f.token (decimal n)) = λ n.
    answered_more taken (Final tag incoming) n ∙ ap (λ ts. is_answered taken n || list_any (λ text. bytes_eq text (decimal n)) ts) texts
    ∙ ap (λ b. is_answered taken n || b) (or_false (bytes_eq f.token (decimal n))) in
    let most = c.most in
    let last = f.last_is in
    record {
      tokens = c.tokens;
      last = f.last_is ∙ c.last;
      most = omega arith;
      unborn = λ n above fits.
          let over : e.last < n = omega arith in
          let other : bytes_eq f.token (decimal n) ≡ false = ap (λ text. bytes_eq text (decimal n)) token_is ∙ not_named f.number n (omega arith) fits (λ is. omega arith) in
          more n ∙ ap (λ b. b || bytes_eq f.token (decimal n)) (c.unborn n over fits) ∙ other;
      left = [];
      pending = filter_two (λ row. is_answered taken row.0) (names f.token) (λ row. is_answered (taken ++ Final tag incoming ∷ []) row.0) (λ row. more row.0) (rows_of all)
          ∙ ap (filter (unnamed f.token)) waits
          ∙ sym (removed f.token 0 e.last e.pending most rising here.within)
          ∙ ap (remove e.pending) here.place_is
          ∙ sym f.pending_is;
      drained = c.drained ∙ ap (map (λ row. row.1)) none;
      still = λ _. refl;
    }

-- what was taken, if anything was
counted_took : {T : Type 0} → (t : Option (Taken T)) (taken : List (Taken T)) (all : List (Issued T)) (gone : List T) (e next : EndValue T) → TookAs e t next → (IsShut e → IsShut next)
    → IsCounted taken all gone e → IsCounted (taken ++ listed t) all gone next
counted_took {T = T} None taken all gone e next i stays c =
    let P : List (Taken T) → Type 0 = λ ts. IsCounted ts all gone next in subst P (sym (append-nil taken)) (counted_same taken all gone e next i stays c)
counted_took (Some (Hello incoming)) taken all gone e next i stays c = counted_other taken (Hello incoming) all gone next refl (counted_same taken all gone e next i stays c)
counted_took (Some (Command incoming)) taken all gone e next i stays c = counted_other taken (Command incoming) all gone next refl (counted_same taken all gone e next i stays c)
counted_took (Some (Event incoming)) taken all gone e next i stays c = counted_other taken (Event incoming) all gone next refl (counted_same taken all gone e next i stays c)
counted_took (Some (Progress token incoming)) taken all gone e next i stays c = counted_other taken (Progress token incoming) all gone next refl (counted_same taken all gone e next i stays c)
counted_took (Some (Final tag incoming)) taken all gone e next f stays c = counted_final taken all gone tag incoming e next f c
counted_took (Some (Closed cause)) taken all gone e next i stays c = counted_other taken (Closed cause) all gone next refl (counted_same taken all gone e next i stays c)

-- ---- A new command

range_more : (a n : ℕ) → range_with_len a (suc n) ≡ range_with_len a n ++ (a + n) ∷ []
range_more a zero = ap (λ m. m ∷ []) (sym (add-zero a))
range_more a (suc n) = let same : (a + 1) + n ≡ a + suc n = omega arith in ap (λ ns. a ∷ ns) (range_more (a + 1) n ∙ ap (λ m. range_with_len (a + 1) n ++ m ∷ []) same)

pub unspent : {T : Type 0} → (size : ℕ) (e : EndValue T) → refusal_of size e ≡ None → (e.last == last_token) ≡ false
unspent size e none = by_flags (is_closed e.state) (nat_lt most_body size) (nat_le most_pending (length e.pending)) (e.last == last_token) none
  where
    by_flags : (a b c d : Bool) → cond a (Some NotOpen) (cond b (Some TooLong) (cond c (Some Full) (cond d (Some Spent) None))) ≡ None → d ≡ false
    by_flags true b c d is = absurd cc
    by_flags false true c d is = absurd cc
    by_flags false false true d is = absurd cc
    by_flags false false false true is = absurd cc
    by_flags false false false false is = refl

counted_new : {T : Type 0} → (taken : List (Taken T)) (all : List (Issued T)) (gone : List T) (i : Issued T) (e next : EndValue T) → is_closed e.state ≡ false → (e.last == last_token) ≡ false
    → i.command.token ≡ e.last + 1 → next.last ≡ i.command.token → next.pending ≡ e.pending ++ row_of i ∷ [] → IsCounted taken all gone e → IsCounted taken (all ++ i ∷ []) gone next
counted_new taken all gone i e next opened unspent token last pending c =
    let before = c.last in
    let most = c.most in
    let isnt : e.last ≢ last_token = eqb-false e.last last_token unspent in
    let within : i.command.token ≤ last_token = omega arith in
    let many : length (all ++ i ∷ []) ≡ suc (length all) = omega (arith, length-append all (i ∷ [])) in
    let first : is_answered taken i.command.token ≡ false = c.unborn i.command.token (omega arith) within in
    let next_token : 1 + length all ≡ i.command.token = omega arith in
    record {
      tokens = map-append (λ x. x.command.token) all (i ∷ []) ∙ ap (λ ns. ns ++ i.command.token ∷ []) c.tokens
          ∙ ap (λ n. range_with_len 1 (length all) ++ n ∷ []) (sym next_token) ∙ sym (range_more 1 (length all)) ∙ ap (range_with_len 1) (sym many);
      last = omega arith;
      most = omega arith;
      unborn = λ n above fits. c.unborn n (omega arith) fits;
      left = c.left;
      pending =
          let one : filter (λ row. not (is_answered taken row.0)) (row_of i ∷ []) ≡ row_of i ∷ [] = rw first refl in
          ap (filter (λ row. not (is_answered taken row.0))) (map-append row_of all (i ∷ []))
          ∙ filter-append (λ row. not (is_answered taken row.0)) (rows_of all) (row_of i ∷ [])
          ∙ ap (λ rows. waiting taken all ++ rows) one
          ∙ ap (λ rows. rows ++ row_of i ∷ []) c.pending
          ∙ append_assoc c.left e.pending (row_of i ∷ [])
          ∙ ap (λ rows. c.left ++ rows) (sym pending);
      drained = c.drained;
      still = λ _. c.still opened;
    }

counted_commanded : {T : Type 0} → (refusal : Option SendRefusal) (taken : List (Taken T)) (all : List (Issued T)) (gone : List T) (service name body : List ℕ) (tag : T) (mark : Option ℕ) (e : EndValue T)
    → refusal_to service name body e ≡ refusal → IsCounted taken all gone e
    → IsCounted taken (all ++ unless_refused refusal [] (issued service name body tag mark e ∷ [])) gone (unless_refused refusal e (commanded service name body tag mark e))
counted_commanded {T = T} (Some why) taken all gone service name body tag mark e is c =
    let P : List (Issued T) → Type 0 = λ xs. IsCounted taken xs gone e in subst P (sym (append-nil all)) c
counted_commanded None taken all gone service name body tag mark e is c =
    let i = issued service name body tag mark e in
    let size = length service + length name + length body in
    let put = either_keeps (IsPending e.pending e.last) (is_free e) (sent_out i.command e) (record e { held = e.held ++ i.command ∷ [] })
    (either_keeps (IsPending e.pending e.last) i.command.is_redirect _ _ (record { pending_is = refl; last_is = refl }) (record { pending_is = refl; last_is = refl })) (record { pending_is = refl; last_is = refl }) in
    counted_new taken all gone i e (accepted i.command i.tag (sent_or_held i.command e)) (accepted_open size e is) (unspent size e is) refl refl (ap (λ rows. rows ++ row_of i ∷ []) put.pending_is) c

-- ---- Draining

counted_drained : {T : Type 0} → (flag : Bool) (rows : List (ℕ × T)) (taken : List (Taken T)) (all : List (Issued T)) (gone : List T) (e : EndValue T) → is_closed e.state ≡ flag → e.pending ≡ rows → IsCounted taken all gone e
    → IsCounted taken all (gone ++ listed (cond flag (first_pending rows) None)) (cond flag (record e { pending = without_first rows }) e)
counted_drained {T = T} false rows taken all gone e opened is c =
    let P : List T → Type 0 = λ xs. IsCounted taken all xs e in subst P (sym (append-nil gone)) c
counted_drained {T = T} true [] taken all gone e closed is c =
    let P : List T → Type 0 = λ xs. IsCounted taken all xs (record e { pending = [] }) in
    subst P (sym (append-nil gone)) (record {
      tokens = c.tokens;
      last = c.last;
      most = c.most;
      unborn = c.unborn;
      left = c.left;
      pending = c.pending ∙ ap (λ rows. c.left ++ rows) is;
      drained = c.drained;
      still = c.still;
    })
counted_drained true (row ∷ rows) taken all gone e closed is c = record {
  tokens = c.tokens;
  last = c.last;
  most = c.most;
  unborn = c.unborn;
  left = c.left ++ row ∷ [];
  pending = c.pending ∙ ap (λ xs. c.left ++ xs) is ∙ sym (append_assoc c.left (row ∷ []) rows);
  drained = ap (λ xs. xs ++ row.1 ∷ []) c.drained ∙ sym (map-append (λ x. x.1) c.left (row ∷ []));
  still = λ opened. absurd cc;
}

-- ---- Every call

abbrev pub IsCountedRun : {T : Type 0} → Run T → Type 0
IsCountedRun r = IsCounted r.past.taken r.past.accepted r.past.drained r.end

counted_step : {T : Type 0} → (r : Run T) (next : EndValue T) → IsPending r.end.pending r.end.last next → (IsShut r.end → IsShut next) → IsCountedRun r → IsCounted r.past.taken r.past.accepted r.past.drained next
counted_step r next i stays c = counted_same r.past.taken r.past.accepted r.past.drained r.end next i stays c

pub counted_called : {T : Type 0} → (call : Call T) (r : Run T) → IsTidy r.end → IsCountedRun r → IsCountedRun (after_call call r)
counted_called (delivering piece mark) r tidy c =
    let e = r.end in
    counted_step r (called (delivering piece mark) e) (delivered_keeps (pendings e.pending e.last) piece mark e (record { pending_is = refl; last_is = refl })) (delivered_keeps shut piece mark e) c
counted_called ending r tidy c =
    let e = r.end in counted_step r (called ending e) (ended_keeps (pendings e.pending e.last) e (record { pending_is = refl; last_is = refl })) (ended_keeps shut e) c
counted_called taking r tidy c =
    let e = r.end in counted_took (next_taken e).0 r.past.taken r.past.accepted r.past.drained e (next_taken e).1 (took e tidy) (taken_keeps shut any_shut e tidy) c
counted_called (commanding service name body tag mark) r tidy c =
    counted_commanded (refusal_to service name body r.end) r.past.taken r.past.accepted r.past.drained service name body tag mark r.end refl c
counted_called (sending message mark) r tidy c =
    let e = r.end in
    let queue = record e { queued = e.queued ++ said (message_of message) mark ∷ [] } in
    counted_step r (called (sending message mark) e)
    (either_keeps (IsPending e.pending e.last) (is_closed e.state) e queue (record { pending_is = refl; last_is = refl }) (record { pending_is = refl; last_is = refl }))
    (λ closed. either_keeps IsShut (is_closed e.state) e queue closed closed) c
counted_called putting_out r tidy c = counted_step r (called putting_out r.end) (record { pending_is = refl; last_is = refl }) (λ closed. closed) c
counted_called closing r tidy c =
    let e = r.end in counted_step r (called closing e) (closed_keeps (pendings e.pending e.last) e (record { pending_is = refl; last_is = refl })) (closed_keeps shut e) c
counted_called draining r tidy c =
    counted_drained (is_closed r.end.state) r.end.pending r.past.taken r.past.accepted r.past.drained r.end refl refl c

pub counts_answers : {T : Type 0} → (r : Run T) → IsCountedRun r → CountsAnswers r
counts_answers r c = record { drained = c.left; tokens = c.tokens; pending = c.pending; tags = c.drained }
