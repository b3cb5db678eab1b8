-- While the upper end is open, the board has what is kept of each pending command of a channel, as long as that is open.
use Rattle.std.proofs.Common.{◌≡◌, ◌≢◌, ◌⊎◌, ◌<◌, ℕ, zero, suc, ◌+◌, ◌==◌, Bool, true, false, not, cond, ◌||◌, ◌&&◌, nat_le, List, [], ◌∷◌, ◌++◌, length, map, Option, Some, None, slice_get, refl, sym, ap, subst, ◌∙◌, inl, inr, arith, eqb-true, append-nil}
use Rattle.std.specs.Prelude.{Result, Ok, Err, bytes_eq, decimal, replicate}
use Rattle.std.specs.List.{Contains, filter, flat_map, list_any}
use Rattle.std.proofs.lemmas.Bool.{eq-eqb, or_parts}
use Rattle.std.proofs.lemmas.List.{map-append}
use Rattle.std.proofs.lemmas.List.Concat.{flat_map-append}
use Rattle.std.proofs.lemmas.List.Folds.{list_any-append}
use Rattle.channel_core.specs.Beginning.{new_end, tag_of}
use Rattle.channel_core.specs.Closing.{is_closed}
use Rattle.channel_core.specs.EndValue.{EndValue}
use Rattle.channel_core.specs.Laws.{listed}
use Rattle.channel_core.specs.RunLaws.{answered_in, is_answered, row_of, token_in}
use Rattle.channel_core.specs.Runs.{Call as EndCall, Issued, Run, after_calls, begun, called as end_called, closing, commanding, issued, taking, unless_refused}
use Rattle.channel_core.specs.Sending.{last_token, refusal_to}
use Rattle.channel_core.specs.Taking.{closes, next_taken, stop_taken, taken_from}
use Rattle.channel_core.specs.Wire.{is_redirect, said_of}
use Rattle.channel_core.specs.declared.held.Incoming.{Incoming}
use Rattle.channel_core.specs.declared.sending.SendRefusal.{SendRefusal}
use Rattle.channel_core.specs.declared.states.Cause.{Cause}
use Rattle.channel_core.specs.declared.taking.Taken.{Taken}
use Rattle.channel_core.specs.declared.taking.Taken.TheVariants as taken
use Rattle.channel_core.proofs.ClosingSo.{from_so}
use Rattle.channel_core.proofs.Finals.{unspent}
use Rattle.channel_core.proofs.Keeping.{IsTidy}
use Rattle.channel_core.proofs.TheLaws.{closes_only_so}
use Rattle.channel_core.proofs.Tidy.{tidy_called, tidy_open}
use Rattle.channel_list.specs.Channels.{End, changed, channel_end, end_in, is_kept, live_count, new_channel}
use Rattle.channel_list.specs.Numbers.{has_number}
use Rattle.channel_list.specs.declared.channel.Channel.{Channel}
use Rattle.channel_list.proofs.Differing.{Differ}
use Rattle.channel_list.proofs.Places.{channel_number, found, next_end}
use Rattle.link_pool.specs.Lists.{item_of, rows_of}
use Rattle.link_pool.specs.Rows.{item_at, without}
use Rattle.list_laws.proofs.Contained.{none_in}
use Rattle.list_laws.proofs.Flags.{and_first, not_both, not_true, or_false}
use Rattle.list_laws.proofs.Lists.{set_length}
use Rattle.list_laws.proofs.Numbers.{decimal_itself}
use Rattle.list_laws.proofs.Fronts.{front_none, front_same}
use Rattle.tcf_message.specs.Message.{MessageValue, command, event, final, flow, not_known, progress, reading}
use Rattle.tcf_message.specs.declared.message.MessageFault.{MessageFault}
use Rattle.hub_node.specs.Board.{dropped, found as found_on, free_list, joined, kept, left, list_of, new_board, without_key}
use Rattle.hub_node.specs.BoardValue.{BoardValue}
use Rattle.hub_node.specs.Calls.{Call, IsNew, opens, comes, bytes_end, turns, gives}
use Rattle.hub_node.specs.Deeds.{Asked, above_deeds, answers, asked_deeds, below_deeds, deeds_by, ends as all_ends, forwards, joins, leaves, sent_by, sent_in}
use Rattle.hub_node.specs.HubLaws.{asked_by, is_of}
use Rattle.hub_node.specs.HubValue.{HubValue}
use Rattle.hub_node.specs.Relay.{all_closed, answered, asked, begun as relay_begun, event_told, finished, forwarded, forwarded_as, found_by, gone, greeted, hub_services, is_refused, next_below, opened_at, takes_below, took_above, took_any_above, took_any_below, took_below, turned_above, upper_services, waits_as}
use Rattle.hub_node.specs.RelayValue.{RelayValue}
use Rattle.hub_node.specs.Runs.{HubRun, above_by, above_run, after_call, asked_above, below_by, below_run, forwarding, is_opening, no_calls, took_above as above_calls}
use Rattle.hub_node.specs.WaitingValue.{WaitingValue}
use Rattle.hub_node.specs.declared.side.HubSide.TheVariants.{Above, Below}
use Rattle.hub_node.specs.declared.waiting.Tag.{Tag}
use Rattle.hub_node.proofs.Boards.{Asker, IsBoard, keeps_dropped, keeps_fewer, keeps_joined, keeps_left, keeps_pushed}
use Rattle.hub_node.proofs.EndRuns.{end_more, ends}
use Rattle.hub_node.proofs.Holding.{Holds, hub_called, no_calls_of, open_first, relay_called}
use Rattle.hub_node.proofs.Issuing.{AreIssued, issued_in, length_map, refused_none}
use Rattle.hub_node.proofs.MessageKinds.{Finishes, Gives, GivesAny, IsAnswerTo, next_gives}
use Rattle.hub_node.proofs.Lowers.{end_found}
use Rattle.hub_node.proofs.Owned.{Owns, free_there, own_inside, own_list, owns_joined, owns_kept, owns_left}
use Rattle.hub_node.proofs.Owning.{SendsOwn, closes_over, own_front, taken_end, what_is}
use Rattle.hub_node.proofs.Shutting.{stays_shut}
use Rattle.hub_node.proofs.Steady.{AllTidy, Face, Steady, answered_steady, as_it_was, came_below_steady, came_steady, ended_below_steady, ended_steady, event_steady, faces, faces_same, faces_shut, final_steady, gave_below_steady, gave_steady, progress_steady, refused_steady, shut_at, tidy_changed}
use Rattle.hub_node.proofs.Stepping.{differ_next, lowers_next, next_is}
use Rattle.hub_node.proofs.Untaken.{taken_in}
use Rattle.hub_node.proofs.Waits.{IsOpenUpper, is_left, is_waiting, last_is}

-- whose the commands are, with their tokens there
abbrev pub asker : Asked → Asker
asker c = record { channel = c.channel; token = c.token }

abbrev pub askers : List Asked → List Asker
askers cs = map asker cs

-- the channel is open
abbrev pub lives : HubRun → Bool
lives r = r.is_begun && not (is_closed (below_run r).end.state)

abbrev pub only : ℕ → Bool → ℕ → Bool
only j flag c = (c == j) && flag

pub record Boarded (j : ℕ) (r : HubRun) : Type 0 where
  pub board : IsBoard (only j (lives r)) (askers (sent_in r.deeds)) (above_run r).end.pending r.hub.relay.board
  pub owns : Owns (faces r.hub.relay.lowers) r.hub.relay.board
  pub tidy : AllTidy r.hub.relay.lowers

-- ---- flags

and_second : (a b : Bool) → (a && b) ≡ true → b ≡ true
and_second true b both = both
and_second false b both = let no : false ≡ true = both in absurd cc

both_true : (a b : Bool) → a ≡ true → b ≡ true → (a && b) ≡ true
both_true true b one two = two
both_true false b one two = one

only_fewer : (j : ℕ) (before after : Bool) → (after ≡ true → before ≡ true) → (c : ℕ) → only j after c ≡ true → only j before c ≡ true
only_fewer j before after fewer c is = both_true (c == j) before (and_first (c == j) after is) (fewer (and_second (c == j) after is))

-- a channel that wasn't open doesn't open but by its opening
pub lives_fewer : (j : ℕ) (call : Call) (r : HubRun) → is_opening j call r.hub.relay ≡ false → lives (after_call j call r) ≡ true → lives r ≡ true
lives_fewer j call r isnt lives_now =
    let q = r.hub.relay in
    let begins : (r.is_begun || is_opening j call q) ≡ r.is_begun = ap (λ b. r.is_begun || b) isnt ∙ or_false r.is_begun in
    both_true r.is_begun (not (is_closed (below_run r).end.state))
    (sym begins ∙ and_first (r.is_begun || is_opening j call q) (not (is_closed (below_run (after_call j call r)).end.state)) lives_now)
    (by_flag (is_closed (below_run r).end.state) refl)
  where
    by_flag : (flag : Bool) → is_closed (below_run r).end.state ≡ flag → not flag ≡ true
    by_flag true over =
        let shut = stays_shut r (below_by (channel_end j r.hub.relay.lowers) j call r.hub.relay) over in
        let open_now = not_true (is_closed (below_run (after_call j call r)).end.state)
        (and_second (r.is_begun || is_opening j call r.hub.relay) (not (is_closed (below_run (after_call j call r)).end.state)) lives_now) in absurd (not_both shut open_now)
    by_flag false opened = refl

-- ---- from what a call makes of the relay

relay_so : (j : ℕ) (call : Call) (r : HubRun) → Holds j r → (after_call j call r).hub.relay ≡ relay_called call r.hub.relay
relay_so j call r h = ap (λ (x : HubValue). x.relay) (hub_called call r.hub h.unspent)

boarded_by : (j : ℕ) (call : Call) (r : HubRun) → Holds j r → (b : BoardValue) (xs : List Face) → (relay_called call r.hub.relay).board ≡ b → faces (relay_called call r.hub.relay).lowers ≡ xs
    → IsBoard (only j (lives (after_call j call r))) (askers (sent_in (after_call j call r).deeds)) (above_run (after_call j call r)).end.pending b → Owns xs b → AllTidy (relay_called call r.hub.relay).lowers
    → Boarded j (after_call j call r)
boarded_by j call r h b xs board_is faces_are board owns tidy = record {
  board = subst (λ (b : BoardValue). IsBoard (only j (lives (after_call j call r))) (askers (sent_in (after_call j call r).deeds)) (above_run (after_call j call r)).end.pending b)
      (sym (ap (λ (x : RelayValue). x.board) (relay_so j call r h) ∙ board_is)) board;
  owns = subst (λ (x : RelayValue). Owns (faces x.lowers) x.board) (sym (relay_so j call r h))
      (subst (λ (b : BoardValue). Owns (faces (relay_called call r.hub.relay).lowers) b) (sym board_is) (subst (λ (xs : List Face). Owns xs b) (sym faces_are) owns));
  tidy = subst (λ (x : RelayValue). AllTidy x.lowers) (sym (relay_so j call r h)) tidy;
}

sent_same : (r : HubRun) (call : Call) → sent_in (deeds_by call r.hub.relay) ≡ [] → sent_in (r.deeds ++ deeds_by call r.hub.relay) ≡ sent_in r.deeds
sent_same r call none =
    flat_map-append sent_by r.deeds (deeds_by call r.hub.relay) ∙ ap (λ cs. sent_in r.deeds ++ cs) none ∙ append-nil (sent_in r.deeds)

-- what was pending, where no command is sent
left_of : (j : ℕ) (call : Call) (r : HubRun) → Holds j r → IsOpenUpper r → IsOpenUpper (after_call j call r) → issued_in (above_by call r.hub.relay) r.hub.relay.upper ≡ []
    → (row : ℕ × Tag) → Contains (above_run (after_call j call r)).end.pending row → Contains (above_run r).end.pending row
left_of j call r h opened still none row there =
    let l = is_left j call r h opened still row there in
    let same : (above_run r).end.pending ++ map row_of (issued_in (above_by call r.hub.relay) r.hub.relay.upper) ≡ (above_run r).end.pending =
    ap (λ (is : List (Issued Tag)). (above_run r).end.pending ++ map row_of is) none ∙ append-nil (above_run r).end.pending in
    subst (λ rows. Contains rows row) same l.among

-- where no command is sent and no channel opens, what the board has of the others stays
board_stays : (j : ℕ) (call : Call) (r : HubRun) → Holds j r → IsOpenUpper r → IsOpenUpper (after_call j call r) → issued_in (above_by call r.hub.relay) r.hub.relay.upper ≡ []
    → sent_in (deeds_by call r.hub.relay) ≡ [] → is_opening j call r.hub.relay ≡ false → Boarded j r
    → IsBoard (only j (lives (after_call j call r))) (askers (sent_in (after_call j call r).deeds)) (above_run (after_call j call r)).end.pending r.hub.relay.board
board_stays j call r h opened still none silent isnt b =
    subst (λ cs. IsBoard (only j (lives (after_call j call r))) (askers cs) (above_run (after_call j call r)).end.pending r.hub.relay.board) (sym (sent_same r call silent))
    (keeps_fewer (only j (lives r)) (askers (sent_in r.deeds)) (above_run r).end.pending r.hub.relay.board b.board (only j (lives (after_call j call r))) (above_run (after_call j call r)).end.pending
    (only_fewer j (lives r) (lives (after_call j call r)) (lives_fewer j call r isnt)) (left_of j call r h opened still none))

boarded_steady : (j : ℕ) (call : Call) (r : HubRun) → Holds j r → IsOpenUpper r → IsOpenUpper (after_call j call r) → issued_in (above_by call r.hub.relay) r.hub.relay.upper ≡ []
    → sent_in (deeds_by call r.hub.relay) ≡ [] → is_opening j call r.hub.relay ≡ false → Boarded j r → Steady r.hub.relay (relay_called call r.hub.relay) → Boarded j (after_call j call r)
boarded_steady j call r h opened still none silent isnt b s =
    boarded_by j call r h r.hub.relay.board (faces r.hub.relay.lowers) s.board s.faces_are (board_stays j call r h opened still none silent isnt b) b.owns (s.tidy b.tidy)

-- ---- a channel opens

-- none of its commands was sent before
no_command : (c : ℕ) (cs : List Asked) → filter (is_of c) cs ≡ [] → (place : ℕ) (a : Asker) → slice_get (askers cs) place ≡ Some a → a.channel ≢ c
no_command c [] none place a asks its = absurd cc
no_command c (d ∷ cs) none place a asks its = by_flag (d.channel == c) refl place asks none (λ none place asks. no_command c cs none place a asks its)
  where
    by_flag : (flag : Bool) → (d.channel == c) ≡ flag → (place : ℕ) → slice_get (askers (d ∷ cs)) place ≡ Some a → cond flag (d ∷ filter (is_of c) cs) (filter (is_of c) cs) ≡ []
        → (filter (is_of c) cs ≡ [] → (place : ℕ) → slice_get (askers cs) place ≡ Some a → ⊥) → ⊥
    by_flag true is place asks none rest = absurd cc
    by_flag false isnt zero asks none rest = let same : asker d ≡ a = cc in absurd (not_both (eq-eqb d.channel c (ap (λ (x : Asker). x.channel) same ∙ its)) isnt)
    by_flag false isnt (suc place) asks none rest = rest none place asks

boarded_refused : (j i : ℕ) (r : HubRun) → Holds j r → IsOpenUpper r → IsOpenUpper (after_call j (opens i) r) → opened_at i r.hub.relay ≡ (false, r.hub.relay) → Boarded j r → Boarded j (after_call j (opens i) r)
boarded_refused j i r h opened still is b =
    boarded_steady j (opens i) r h opened still refl (ap (λ (p : Bool × RelayValue). sent_in (cond p.0 (joins i ∷ []) [])) is)
    (ap (λ (p : Bool × RelayValue). i == j && p.0) is ∙ and_false (i == j)) b (subst (Steady r.hub.relay) (sym (ap (λ p. p.1) is)) (as_it_was r.hub.relay))
  where
    and_false : (a : Bool) → (a && false) ≡ false
    and_false true = refl
    and_false false = refl

tidy_kept : (cs : List Channel) → AllTidy cs → AllTidy (filter is_kept cs)
tidy_kept [] all = tt
tidy_kept (c ∷ cs) all = by_flag (is_kept c) (tidy_kept cs all.1)
  where
    by_flag : (flag : Bool) → AllTidy (filter is_kept cs) → AllTidy (cond flag (c ∷ filter is_kept cs) (filter is_kept cs))
    by_flag true rest = (all.0, rest)
    by_flag false rest = rest

tidy_more : (i : ℕ) (cs : List Channel) → AllTidy cs → AllTidy (cs ++ new_channel i hub_services None ∷ [])
tidy_more i [] all = (tidy_open (new_end hub_services None) refl, tt)
tidy_more i (c ∷ cs) all = (all.0, tidy_more i cs all.1)

boarded_begun : (j i : ℕ) (r : HubRun) → Holds j r → SendsOwn j r → IsOpenUpper r → IsOpenUpper (after_call j (opens i) r) → is_refused i r.hub.relay ≡ false
    → opened_at i r.hub.relay ≡ (true, relay_begun i r.hub.relay) → Boarded j r → Boarded j (after_call j (opens i) r)
unfolding relay_begun
boarded_begun j i r h s opened still allowed is b =
    boarded_by j (opens i) r h (joined i q.board) (faces (filter is_kept q.lowers ++ new_channel i hub_services None ∷ [])) (ap (λ (x : RelayValue). x.board) relay_is) (ap (λ (x : RelayValue). faces x.lowers) relay_is)
    (subst (λ cs. IsBoard (only j (lives later)) (askers cs) (above_run later).end.pending (joined i q.board)) (sym (sent_same r (opens i) silent))
    (keeps_fewer (only j (lives later)) (askers (sent_in r.deeds)) (above_run r).end.pending (joined i q.board)
    (keeps_joined (only j (lives r)) (askers (sent_in r.deeds)) (above_run r).end.pending q.board b.board i free (only j (lives later)) more)
    (only j (lives later)) (above_run later).end.pending (λ c lives_so. lives_so) (left_of j (opens i) r h opened still refl)))
    (owns_joined i q.board q.lowers (new_channel i hub_services None) refl free b.owns)
    (subst (λ (x : RelayValue). AllTidy x.lowers) (sym relay_is) (tidy_more i (filter is_kept q.lowers) (tidy_kept q.lowers b.tidy)))
  where
    q : RelayValue
    q = r.hub.relay

    later : HubRun
    later = after_call j (opens i) r

    relay_is : (opened_at i q).1 ≡ relay_begun i q
    relay_is = ap (λ p. p.1) is

    silent : sent_in (cond (opened_at i q).0 (joins i ∷ []) []) ≡ []
    silent = ap (λ (p : Bool × RelayValue). sent_in (cond p.0 (joins i ∷ []) [])) is

    parts : (has_number i q.numbers ≡ false) × ((nat_le 64 (live_count q.lowers) || is_closed q.upper.state) ≡ false)
    parts = or_parts (has_number i q.numbers) (nat_le 64 (live_count q.lowers) || is_closed q.upper.state) allowed

    free : slice_get q.board.owners (free_list q.board) ≡ Some None
    free = free_there q.board q.lowers b.owns (or_parts (nat_le 64 (live_count q.lowers)) (is_closed q.upper.state) parts.1).0

    begins : (r.is_begun || (i == j && (opened_at i q).0)) ≡ (r.is_begun || (i == j))
    begins = ap (λ b. r.is_begun || b) (ap (λ (p : Bool × RelayValue). i == j && p.0) is ∙ and_true (i == j))
      where
        and_true : (a : Bool) → (a && true) ≡ a
        and_true true = refl
        and_true false = refl

    calls_are : r.below ++ below_by (channel_end j q.lowers) j (opens i) q ≡ r.below
    calls_are = ap (λ calls. r.below ++ calls) (no_calls_of (channel_end j q.lowers) j i q) ∙ append-nil r.below

    lives_are : lives later ≡ ((r.is_begun || (i == j)) && not (is_closed (below_run r).end.state))
    lives_are =
        ap (λ b. b && not (is_closed (below_run later).end.state)) begins
        ∙ ap (λ calls. (r.is_begun || (i == j)) && not (is_closed (after_calls calls (begun (new_end hub_services None))).end.state)) calls_are

    more : (c : ℕ) → only j (lives later) c ≡ true → (only j (lives r) c ≡ true) ⊎ ((place : ℕ) (a : Asker) → slice_get (askers (sent_in r.deeds)) place ≡ Some a → a.channel ≢ c)
    more c lives_so = by_own (i == j) refl
      where
        its : c ≡ j
        its = eqb-true c j (and_first (c == j) (lives later) lives_so)

        alive : ((r.is_begun || (i == j)) && not (is_closed (below_run r).end.state)) ≡ true
        alive = sym lives_are ∙ and_second (c == j) (lives later) lives_so

        by_own : (flag : Bool) → (i == j) ≡ flag → (only j (lives r) c ≡ true) ⊎ ((place : ℕ) (a : Asker) → slice_get (askers (sent_in r.deeds)) place ≡ Some a → a.channel ≢ c)
        by_own true own =
            let not_begun : r.is_begun ≡ false = h.is_begun ∙ ap (λ n. has_number n q.numbers) (sym (eqb-true i j own)) ∙ parts.0 in
            let front = own_front j r s in
            let taken_none : (below_run r).past.taken ≡ [] = ap (λ calls. (after_calls calls (begun (new_end hub_services None))).past.taken) (h.quiet not_begun) in
            let none : filter (is_of j) (sent_in r.deeds) ≡ [] = front_none (filter (is_of j) (sent_in r.deeds))
            (front_same (filter (is_of j) (sent_in r.deeds)) (flat_map (asked_by j) (below_run r).past.taken) [] (ap (flat_map (asked_by j)) taken_none) front) in
            inr (no_command c (sent_in r.deeds) (ap (λ n. filter (is_of n) (sent_in r.deeds)) its ∙ none))
        by_own false isnt =
            let was : r.is_begun ≡ true = sym (or_false r.is_begun) ∙ ap (λ b. r.is_begun || b) (sym isnt) ∙ and_first (r.is_begun || (i == j)) (not (is_closed (below_run r).end.state)) alive in
            inl (both_true (c == j) (lives r) (and_first (c == j) (lives later) lives_so)
            (both_true r.is_begun (not (is_closed (below_run r).end.state)) was (and_second (r.is_begun || (i == j)) (not (is_closed (below_run r).end.state)) alive)))

boarded_opens : (j i : ℕ) (r : HubRun) → Holds j r → SendsOwn j r → IsOpenUpper r → IsOpenUpper (after_call j (opens i) r) → Boarded j r → Boarded j (after_call j (opens i) r)
boarded_opens j i r h s opened still b = by_flag (is_refused i r.hub.relay) refl
  where
    by_flag : (flag : Bool) → is_refused i r.hub.relay ≡ flag → Boarded j (after_call j (opens i) r)
    by_flag true is = boarded_refused j i r h opened still (open_first i r.hub.relay true is) b
    by_flag false is = boarded_begun j i r h s opened still is (open_first i r.hub.relay false is) b

-- ---- an entry is taken above

above_issued : (what : Option (Taken Tag)) (e : EndValue Tag) → issued_in (above_calls what) e ≡ []
above_issued None e = refl
above_issued (Some (taken.Hello incoming)) e = refl
above_issued (Some (taken.Command incoming)) e = refused_none (reading incoming.raw) e
above_issued (Some (taken.Event incoming)) e = refl
above_issued (Some (taken.Progress token incoming)) e = refl
above_issued (Some (taken.Final tag incoming)) e = refl
above_issued (Some (taken.Closed cause)) e = refl

above_silent : (bound : Bool) (what : Option (Taken Tag)) → sent_in (above_deeds bound what) ≡ []
above_silent bound None = refl
above_silent true (Some (taken.Hello incoming)) = refl
above_silent false (Some (taken.Hello incoming)) = refl
above_silent bound (Some (taken.Command incoming)) = refl
above_silent bound (Some (taken.Event incoming)) = refl
above_silent bound (Some (taken.Progress token incoming)) = refl
above_silent bound (Some (taken.Final tag incoming)) = refl
above_silent bound (Some (taken.Closed cause)) = refl

-- the answer to a command, after which it isn't pending
abbrev is_final : Option (Taken Tag) → Bool
is_final (Some (taken.Final tag incoming)) = true
is_final _ = false

abbrev is_last : Option (Taken Tag) → Bool
is_last (Some (taken.Closed cause)) = true
is_last _ = false

above_steady : (what : Option (Taken Tag)) (r : RelayValue) → Differ channel_number r.lowers → is_final what ≡ false → is_last what ≡ false → Steady r (took_any_above what r).1
unfolding took_above greeted
above_steady None r d answers_not ends_not = as_it_was r
above_steady (Some (taken.Hello incoming)) r d answers_not ends_not = by_flag r.is_bound
  where
    by_flag : (bound : Bool) → Steady r (cond bound (event_told incoming.mark (reading incoming.raw) r) (record r { is_bound = true }))
    by_flag true = event_steady incoming.mark (reading incoming.raw) r
    by_flag false = record { faces_are = refl; tidy = λ all. all; board = refl }
above_steady (Some (taken.Command incoming)) r d answers_not ends_not = refused_steady (reading incoming.raw) r
above_steady (Some (taken.Event incoming)) r d answers_not ends_not = event_steady incoming.mark (reading incoming.raw) r
above_steady (Some (taken.Progress token incoming)) r d answers_not ends_not = progress_steady (found_by (tag_of token r.upper.pending) r) incoming.mark (reading incoming.raw) r d
above_steady (Some (taken.Final tag incoming)) r d answers_not ends_not = let no : true ≡ false = answers_not in absurd cc
above_steady (Some (taken.Closed cause)) r d answers_not ends_not = let no : true ≡ false = ends_not in absurd cc

final_moves : (tag : Tag) (incoming : Incoming) (r : RelayValue) → Differ channel_number r.lowers → Steady (record r { board = dropped tag r.board }) (took_any_above (Some (taken.Final tag incoming)) r).1
unfolding took_above finished
final_moves tag incoming r d = final_steady (found_on tag r.board) incoming.mark (reading incoming.raw) (record r { board = dropped tag r.board }) d

-- it is of the number that the answer has
answer_number : (number : ℕ) (tag : Tag) (m : Result MessageValue MessageFault) → IsAnswerTo number m → list_any (λ text. bytes_eq text (decimal number)) (token_in (said_of m)) ≡ true
answer_number number tag (Ok (final token body)) is = ap (λ b. b || false) (ap (λ t. bytes_eq t (decimal number)) is ∙ decimal_itself number)
answer_number number tag (Ok (not_known token)) is = ap (λ b. b || false) (ap (λ t. bytes_eq t (decimal number)) is ∙ decimal_itself number)
answer_number number tag (Ok (command token service name body)) is = absurd is
answer_number number tag (Ok (progress token body)) is = absurd is
answer_number number tag (Ok (event service name body)) is = absurd is
answer_number number tag (Ok (flow level)) is = absurd is
answer_number number tag (Err fault) is = absurd is

or_last : (a b : Bool) → b ≡ true → (a || b) ≡ true
or_last true b is = refl
or_last false b is = is

-- the board has the same owners and as many lists

without_owners : (key : ℕ) (o : Option WaitingValue) (b : BoardValue) → (without_key key o b).owners ≡ b.owners
without_owners key None b = refl
without_owners key (Some w) b = refl

without_length : (key : ℕ) (o : Option WaitingValue) (b : BoardValue) → length (without_key key o b).lists ≡ length b.lists
without_length key None b = refl
without_length key (Some w) b = length_map (without key) b.lists

-- the end is taken, and all is closed
closes_with_the_end : (j key : ℕ) (r : HubRun) (cause : Cause) → (next_taken r.hub.relay.upper).0 ≡ Some (taken.Closed cause) → is_closed (above_run (after_call j (turns key Above) r)).end.state ≡ true
closes_with_the_end j key r cause is =
    let new : Run Tag = begun (new_end upper_services None) in
    ap (λ (e : EndValue Tag). is_closed e.state) (end_more r.above (above_by (turns key Above) r.hub.relay) new)
    ∙ ap (λ (w : Option (Taken Tag)). is_closed (ends (above_calls w) (end_called taking (above_run r).end)).state) is
    ∙ ap (λ (e : EndValue Tag). is_closed (end_called closing e).state) (sym (end_more r.above (taking ∷ []) new))
    ∙ (closes_only_so upper_services None (r.above ++ taking ∷ [])).by_own

boarded_above : (j key : ℕ) (r : HubRun) → Holds j r → IsOpenUpper r → IsOpenUpper (after_call j (turns key Above) r) → Boarded j r → (what : Option (Taken Tag)) → (next_taken r.hub.relay.upper).0 ≡ what
    → Boarded j (after_call j (turns key Above) r)
unfolding turned_above
boarded_above j key r h opened still b what is = by_kind what is
  where
    q : RelayValue
    q = r.hub.relay

    taken_so : RelayValue
    taken_so = record q { upper = (next_taken q.upper).1 }

    later : HubRun
    later = after_call j (turns key Above) r

    none : issued_in (above_by (turns key Above) q) q.upper ≡ []
    none = above_issued (next_taken q.upper).0 (next_taken q.upper).1

    silent : sent_in (deeds_by (turns key Above) q) ≡ []
    silent = above_silent q.is_bound (next_taken q.upper).0

    plain : (what : Option (Taken Tag)) → (next_taken q.upper).0 ≡ what → is_final what ≡ false → is_last what ≡ false → Boarded j later
    plain what is answers_not ends_not =
        boarded_steady j (turns key Above) r h opened still none silent refl b
        (let s = above_steady what taken_so h.differ answers_not ends_not in
        subst (λ (w : Option (Taken Tag)). Steady q (took_any_above w taken_so).1) (sym is) (record { faces_are = s.faces_are; tidy = s.tidy; board = s.board }))

    by_kind : (what : Option (Taken Tag)) → (next_taken q.upper).0 ≡ what → Boarded j later
    by_kind None is = plain None is refl refl
    by_kind (Some (taken.Hello incoming)) is = plain (Some (taken.Hello incoming)) is refl refl
    by_kind (Some (taken.Command incoming)) is = plain (Some (taken.Command incoming)) is refl refl
    by_kind (Some (taken.Event incoming)) is = plain (Some (taken.Event incoming)) is refl refl
    by_kind (Some (taken.Progress token incoming)) is = plain (Some (taken.Progress token incoming)) is refl refl
    by_kind (Some (taken.Final tag incoming)) is =
        let s : Steady (record taken_so { board = dropped tag q.board }) (took_any_above (next_taken q.upper).0 taken_so).1 =
        subst (λ (w : Option (Taken Tag)). Steady (record taken_so { board = dropped tag q.board }) (took_any_above w taken_so).1) (sym is) (final_moves tag incoming taken_so h.differ) in
        boarded_by j (turns key Above) r h (dropped tag q.board) (faces q.lowers) s.board s.faces_are
        (subst (λ cs. IsBoard (only j (lives later)) (askers cs) (above_run later).end.pending (dropped tag q.board)) (sym (sent_same r (turns key Above) silent))
        (keeps_fewer (only j (lives r)) (askers (sent_in r.deeds)) (above_run later).end.pending (dropped tag q.board)
        (keeps_dropped (only j (lives r)) (askers (sent_in r.deeds)) (above_run r).end.pending q.board b.board tag (above_run later).end.pending (λ row there. (left_of j (turns key Above) r h opened still none row there, other tag incoming is row there)))
        (only j (lives later)) (above_run later).end.pending (only_fewer j (lives r) (lives later) (lives_fewer j (turns key Above) r refl)) (λ row there. there)))
        (owns_kept (faces q.lowers) q.board (dropped tag q.board) (without_owners tag.key (found_on tag q.board) q.board) (without_length tag.key (found_on tag q.board) q.board) b.owns) (s.tidy b.tidy)
      where
        -- it isn't pending any more
        other : (tag : Tag) (incoming : Incoming) → (next_taken q.upper).0 ≡ Some (taken.Final tag incoming) → (row : ℕ × Tag) → Contains (above_run later).end.pending row → row.0 ≢ tag.serial
        other tag incoming is row there same =
            let f : Finishes q.upper.pending tag incoming = finishes (next_taken q.upper) is (next_gives q.upper) in
            let among : Contains (above_run r).end.pending (f.number, tag) = subst (λ (e : EndValue Tag). Contains e.pending (f.number, tag)) h.above f.there in
            let number : tag.serial ≡ f.number = b.board.numbered (f.number, tag) among in
            let l = is_left j (turns key Above) r h opened still row there in
            let answered_now : is_answered ((above_run r).past.taken ++ taken_in (above_by (turns key Above) q) q.upper) row.0 ≡ true =
            list_any-append (λ t. list_any (λ text. bytes_eq text (decimal row.0)) (answered_in t)) (above_run r).past.taken (taken_in (above_by (turns key Above) q) q.upper)
            ∙ or_last (is_answered (above_run r).past.taken row.0) (is_answered (taken_in (above_by (turns key Above) q) q.upper) row.0)
            (ap (λ (w : Option (Taken Tag)). is_answered (listed w ++ taken_in (above_calls w) (next_taken q.upper).1) row.0) is
            ∙ ap (λ a. a || false) (ap (λ n. list_any (λ text. bytes_eq text (decimal n)) (token_in (said_of (reading incoming.raw)))) (same ∙ number) ∙ answer_number f.number tag (reading incoming.raw) f.message)) in
            not_both answered_now l.unanswered
          where
            finishes : (next : Option (Taken Tag) × EndValue Tag) → next.0 ≡ Some (taken.Final tag incoming) → GivesAny q.upper.pending next → Finishes q.upper.pending tag incoming
            finishes (None, e) is gave = absurd (let both : None ≡ Some (taken.Final tag incoming) = is in cc)
            finishes (Some what, e) is gave =
                let same : what ≡ taken.Final tag incoming = let both : Some what ≡ Some (taken.Final tag incoming) = is in cc in subst (λ (w : Taken Tag). Gives q.upper.pending w e) same gave
    by_kind (Some (taken.Closed cause)) is =
        absurd (not_both (closes_with_the_end j key r cause is) still)

-- ---- an entry is taken below

-- of a channel that is open
record Took (i : ℕ) (q : RelayValue) (what : Taken Unit) : Type 0 where
  channel : Channel
  there : found i q.lowers ≡ Some channel
  gave : (next_taken channel.end).0 ≡ Some what
  opened : is_closed channel.end.state ≡ false

tidy_found : (i : ℕ) (cs : List Channel) (c : Channel) → AllTidy cs → found i cs ≡ Some c → IsTidy c.end
tidy_found i [] c all there = absurd cc
tidy_found i (x ∷ cs) c all there = by_flag (x.number == i) there (tidy_found i cs c all.1)
  where
    by_flag : (flag : Bool) → cond flag (Some x) (found i cs) ≡ Some c → (found i cs ≡ Some c → IsTidy c.end) → IsTidy c.end
    by_flag true there rest = let same : x ≡ c = cc in subst (λ (y : Channel). IsTidy y.end) same all.0
    by_flag false there rest = rest there

closed_takes : (e : End) → IsTidy e → is_closed e.state ≡ true → next_taken e ≡ (None, e)
closed_takes e tidy over = ap (λ inbox. taken_from inbox e) (tidy.emptied over) ∙ ap (λ stop. stop_taken stop e) (tidy.stopped over)

took : (i : ℕ) (q : RelayValue) → AllTidy q.lowers → (what : Taken Unit) → (next_below i q).0 ≡ Some what → Took i q what
took i q tidy what is = by_flag (takes_below q) (found i q.lowers) refl (sym (what_is i q ∙ ap (λ o. cond (takes_below q) (taken_end o) None) (end_found i q.lowers)) ∙ is)
  where
    by_state : (c : Channel) (flag : Bool) → found i q.lowers ≡ Some c → is_closed c.end.state ≡ flag → (next_taken c.end).0 ≡ Some what → Took i q what
    by_state c true there over gave =
        absurd (let none : (next_taken c.end).0 ≡ None = ap (λ p. p.0) (closed_takes c.end (tidy_found i q.lowers c tidy there) over) in let both : None ≡ Some what = sym none ∙ gave in cc)
    by_state c false there opened gave = record { channel = c; there = there; gave = gave; opened = opened }

    by_flag : (takes : Bool) (o : Option Channel) → found i q.lowers ≡ o → cond takes (taken_end (end_in o)) None ≡ Some what → Took i q what
    by_flag false o there gave = absurd (let both : None ≡ Some what = gave in cc)
    by_flag true None there gave = absurd (let both : None ≡ Some what = gave in cc)
    by_flag true (Some c) there gave = by_state c (is_closed c.end.state) there refl gave

-- the others stay as open as they are, and this one too where no last entry is taken
tidy_end : (i : ℕ) (cs : List Channel) (e : End) → AllTidy cs → channel_end i cs ≡ Some e → IsTidy e
tidy_end i cs e tidy there = by_found (found i cs) refl (sym (end_found i cs) ∙ there)
  where
    by_found : (o : Option Channel) → found i cs ≡ o → end_in o ≡ Some e → IsTidy e
    by_found None there is = absurd (let both : None ≡ Some e = is in cc)
    by_found (Some c) there is = let same : c.end ≡ e = let both : Some c.end ≡ Some e = is in cc in subst IsTidy same (tidy_found i cs c tidy there)

next_faces : (i : ℕ) (q : RelayValue) → Differ channel_number q.lowers → AllTidy q.lowers → closes (next_below i q).0 ≡ false → faces (lowers_next i q) ≡ faces q.lowers
next_faces i q d tidy keeps = by_flag (takes_below q) (ap closes (sym (what_is i q)) ∙ keeps)
  where
    by_state : (e : End) (flag : Bool) → channel_end i q.lowers ≡ Some e → is_closed e.state ≡ flag → closes (next_taken e).0 ≡ false → is_closed (next_end e).state ≡ is_closed e.state
    by_state e true there over keeps = ap (λ (p : Option (Taken Unit) × End). is_closed p.1.state) (closed_takes e (tidy_end i q.lowers e tidy there) over)
    by_state e false there opened keeps = from_so e.inbox e opened ∙ keeps ∙ sym opened

    by_flag : (takes : Bool) → closes (cond takes (taken_end (channel_end i q.lowers)) None) ≡ false → faces (cond takes (changed i next_end q.lowers) q.lowers) ≡ faces q.lowers
    by_flag true keeps = faces_same i next_end q.lowers d (λ e there. by_state e (is_closed e.state) there refl (ap (λ o. closes (taken_end o)) (sym there) ∙ keeps))
    by_flag false keeps = refl

next_tidy : (i : ℕ) (q : RelayValue) → Differ channel_number q.lowers → AllTidy q.lowers → AllTidy (lowers_next i q)
next_tidy i q d tidy = by_flag (takes_below q)
  where
    by_flag : (takes : Bool) → AllTidy (cond takes (changed i next_end q.lowers) q.lowers)
    by_flag true = tidy_changed i next_end q.lowers d (λ e t. tidy_called taking e t) tidy
    by_flag false = tidy

-- the relay behind it
abbrev next_relay : ℕ → RelayValue → RelayValue
next_relay i q = record q { lowers = lowers_next i q }

below_so : (key i : ℕ) (q : RelayValue) (what : Option (Taken Unit)) → (next_below i q).0 ≡ what → relay_called (turns key (Below i)) q ≡ (took_any_below key i what (next_relay i q)).1
below_so key i q what is =
    ap (λ (x : RelayValue). (took_any_below key i (next_below i q).0 x).1) (next_is i q) ∙ ap (λ (w : Option (Taken Unit)). (took_any_below key i w (next_relay i q)).1) is

-- a command that is accepted above
accepted_forward : (key i : ℕ) (token service name body : List ℕ) (mark : Option ℕ) (x : RelayValue) → (x.upper.last == last_token) ≡ false → refusal_to service name body x.upper ≡ None
    → forwarded key i token service name body mark x ≡ forwarded_as key i token service name body mark x
unfolding forwarded
accepted_forward key i token service name body mark x unspent_so accepted =
    let kept_so : RelayValue = record x { board = kept key (waits_as i token x) x.board } in
    ap (λ b. cond b (all_closed x) (unless_refused (refusal_to service name body x.upper) (all_closed kept_so) (forwarded_as key i token service name body mark x))) unspent_so
    ∙ ap (λ (o : Option SendRefusal). unless_refused o (all_closed kept_so) (forwarded_as key i token service name body mark x)) accepted

command_taken : (key i : ℕ) (incoming : Incoming) (token service name body : List ℕ) (x : RelayValue) → reading incoming.raw ≡ Ok (command token service name body) → is_redirect service name ≡ false
    → (took_any_below key i (Some (taken.Command incoming)) x).1 ≡ forwarded key i token service name body incoming.mark x
unfolding took_below asked
command_taken key i incoming token service name body x read redirects_not =
    ap (λ (m : Result MessageValue MessageFault). asked key i incoming.mark m x) read
    ∙ ap (λ b. cond b (answered i token service name body x) (forwarded key i token service name body incoming.mark x)) redirects_not

redirect_taken : (key i : ℕ) (incoming : Incoming) (token service name body : List ℕ) (x : RelayValue) → reading incoming.raw ≡ Ok (command token service name body) → is_redirect service name ≡ true
    → (took_any_below key i (Some (taken.Command incoming)) x).1 ≡ answered i token service name body x
unfolding took_below asked
redirect_taken key i incoming token service name body x read redirects =
    ap (λ (m : Result MessageValue MessageFault). asked key i incoming.mark m x) read
    ∙ ap (λ b. cond b (answered i token service name body x) (forwarded key i token service name body incoming.mark x)) redirects

-- a message that isn't one does nothing
pub data AsksNothing (key i : ℕ) (mark : Option ℕ) (m : Result MessageValue MessageFault) (upper : EndValue Tag) (x : RelayValue) : Type 0 where
  asks_nothing : (none : forwarding key mark m upper ≡ []) (silent : asked_deeds i mark m upper ≡ []) (same : asked key i mark m x ≡ x) → AsksNothing key i mark m upper x
  asks : (token service name body : List ℕ) (is : m ≡ Ok (command token service name body)) → AsksNothing key i mark m upper x

what_asked : (key i : ℕ) (mark : Option ℕ) (m : Result MessageValue MessageFault) (upper : EndValue Tag) (x : RelayValue) → AsksNothing key i mark m upper x
unfolding asked
what_asked key i mark (Ok (command token service name body)) upper x = asks token service name body refl
what_asked key i mark (Ok (final token body)) upper x = asks_nothing refl refl refl
what_asked key i mark (Ok (progress token body)) upper x = asks_nothing refl refl refl
what_asked key i mark (Ok (event service name body)) upper x = asks_nothing refl refl refl
what_asked key i mark (Ok (not_known token)) upper x = asks_nothing refl refl refl
what_asked key i mark (Ok (flow level)) upper x = asks_nothing refl refl refl
what_asked key i mark (Err fault) upper x = asks_nothing refl refl refl

hello_taken : (key i : ℕ) (incoming : Incoming) (x : RelayValue) → (took_any_below key i (Some (taken.Hello incoming)) x).1 ≡ x
unfolding took_below
hello_taken key i incoming x = refl

event_taken : (key i : ℕ) (incoming : Incoming) (x : RelayValue) → (took_any_below key i (Some (taken.Event incoming)) x).1 ≡ x
unfolding took_below
event_taken key i incoming x = refl

progress_taken : (key i number : ℕ) (incoming : Incoming) (x : RelayValue) → (took_any_below key i (Some (taken.Progress number incoming)) x).1 ≡ x
unfolding took_below
progress_taken key i number incoming x = refl

final_taken : (key i : ℕ) (incoming : Incoming) (x : RelayValue) → (took_any_below key i (Some (taken.Final tt incoming)) x).1 ≡ x
unfolding took_below
final_taken key i incoming x = refl

asked_taken : (key i : ℕ) (incoming : Incoming) (x : RelayValue) → asked key i incoming.mark (reading incoming.raw) x ≡ x → (took_any_below key i (Some (taken.Command incoming)) x).1 ≡ x
unfolding took_below
asked_taken key i incoming x same = same

closed_taken : (key i : ℕ) (cause : Cause) (x : RelayValue) → (took_any_below key i (Some (taken.Closed cause)) x).1 ≡ record x { board = left i x.board }
unfolding took_below gone
closed_taken key i cause x = refl

-- where something is taken, that is taken now
takes_now : (i : ℕ) (q : RelayValue) (what : Taken Unit) → (next_below i q).0 ≡ Some what → takes_below q ≡ true
takes_now i q what is = by_flag (takes_below q) refl (sym (what_is i q) ∙ is)
  where
    by_flag : (flag : Bool) → takes_below q ≡ flag → cond flag (taken_end (channel_end i q.lowers)) None ≡ Some what → flag ≡ true
    by_flag true takes gave = refl
    by_flag false takes gave = absurd (let both : None ≡ Some what = gave in cc)

module _ (j key i : ℕ) (r : HubRun) (h : Holds j r) (are : AreIssued r) (opened : IsOpenUpper r) (still : IsOpenUpper (after_call j (turns key (Below i)) r)) (b : Boarded j r) where
  abbrev was : RelayValue
  was = r.hub.relay

  abbrev later : HubRun
  later = after_call j (turns key (Below i)) r

  -- nothing is sent above
  quiet_below : (what : Option (Taken Unit)) → (next_below i was).0 ≡ what → issued_in (asked_above key what was.upper) was.upper ≡ [] → sent_in (below_deeds i what was.upper) ≡ [] → closes what ≡ false
      → (next : RelayValue) → (took_any_below key i what (next_relay i was)).1 ≡ next → Steady (next_relay i was) next → Boarded j later
  quiet_below what is none silent keeps next next_so s =
      boarded_steady j (turns key (Below i)) r h opened still (ap (λ w. issued_in (asked_above key w was.upper) was.upper) is ∙ none) (ap (λ w. sent_in (below_deeds i w was.upper)) is ∙ silent) refl b
      (subst (Steady was) (sym (below_so key i was what is ∙ next_so)) (record {
        faces_are = s.faces_are ∙ next_faces i was h.differ b.tidy (ap closes is ∙ keeps);
        tidy = λ tidy. s.tidy (next_tidy i was h.differ tidy);
        board = s.board;
      }))

  -- a command is sent above
  boarded_forwarded : (incoming : Incoming) (token service name body : List ℕ) → (next_below i was).0 ≡ Some (taken.Command incoming) → reading incoming.raw ≡ Ok (command token service name body)
      → is_redirect service name ≡ false → refusal_to service name body was.upper ≡ None → item_of key was.board.lists ≡ None → Boarded j later
  boarded_forwarded incoming token service name body is read redirects_not accepted fresh =
      boarded_by j (turns key (Below i)) r h (kept key waits was.board) (faces was.lowers) (ap (λ (x : RelayValue). x.board) relay_is)
      (ap (λ (x : RelayValue). faces x.lowers) relay_is ∙ next_faces i was h.differ b.tidy (ap closes is))
      (subst (λ cs. IsBoard (only j (lives later)) (askers cs) (above_run later).end.pending (kept key waits was.board)) (sym sent_so)
      (subst (λ wanting. IsBoard (only j (lives later)) wanting (above_run later).end.pending (kept key waits was.board)) (sym (map-append asker (sent_in r.deeds) (c ∷ [])))
      (keeps_fewer (only j (lives r)) (askers (sent_in r.deeds) ++ asker c ∷ []) ((above_run r).end.pending ++ (was.upper.last + 1, record { key = key; serial = was.upper.last + 1 }) ∷ []) (kept key waits was.board)
      (subst (λ n. IsBoard (only j (lives r)) (askers (sent_in r.deeds) ++ asker c ∷ []) ((above_run r).end.pending ++ (n, record { key = key; serial = n }) ∷ []) (kept key (record { serial = n; channel = i; token = token }) was.board))
      number
      (keeps_pushed (only j (lives r)) (askers (sent_in r.deeds)) (above_run r).end.pending was.board b.board i token key fresh (own_inside i was.board (faces was.lowers) b.owns mine) mine few))
      (only j (lives later)) (above_run later).end.pending (only_fewer j (lives r) (lives later) (lives_fewer j (turns key (Below i)) r refl))
      (λ row there. let l = is_left j (turns key (Below i)) r h opened still row there in subst (λ (is : List (Issued Tag)). Contains ((above_run r).end.pending ++ map row_of is) row) issued_so l.among))))
      (owns_kept (faces was.lowers) was.board (kept key waits was.board) refl (set_length (list_of i was.board) was.board.lists _) b.owns)
      (subst (λ (x : RelayValue). AllTidy x.lowers) (sym relay_is) (next_tidy i was h.differ b.tidy))
    where
      c : Asked
      c = record { channel = i; token = token; service = service; name = name; body = body; mark = incoming.mark }

      tag : Tag
      tag = record { key = key; serial = was.upper.last + 1 }

      waits : WaitingValue
      waits = record { serial = was.upper.last + 1; channel = i; token = token }

      number : suc (length (askers (sent_in r.deeds))) ≡ was.upper.last + 1
      number =
          let last = ap (λ (e : EndValue Tag). e.last) h.above ∙ last_is r are in
          let many : length (askers (sent_in r.deeds)) ≡ length (sent_in r.deeds) = length_map asker (sent_in r.deeds) in
          omega (arith, last, many)

      t : Took i was (taken.Command incoming)
      t = took i was b.tidy (taken.Command incoming) is

      mine : slice_get was.board.owners (list_of i was.board) ≡ Some (Some i)
      mine = own_list i was.board was.lowers t.channel b.owns t.there t.opened

      few : (row : ℕ × Tag) (place : ℕ) → Contains (above_run r).end.pending row → row.0 ≡ suc place → place < length (askers (sent_in r.deeds))
      few row place there at =
          let w = is_waiting r are opened row there in
          let sent = w.sent in
          let many : length (askers (sent_in r.deeds)) ≡ length (sent_in r.deeds) = length_map asker (sent_in r.deeds) in
          omega (arith, sent, many, at)

      calls_are : asked_above key (next_below i was).0 was.upper ≡ commanding service name body tag incoming.mark ∷ []
      calls_are =
          ap (λ (w : Option (Taken Unit)). asked_above key w was.upper) is ∙ ap (λ (m : Result MessageValue MessageFault). forwarding key incoming.mark m was.upper) read
          ∙ ap (λ b. cond b [] (unless_refused (refusal_to service name body was.upper) (closing ∷ []) (commanding service name body tag incoming.mark ∷ []))) redirects_not
          ∙ ap (λ (o : Option SendRefusal). unless_refused {A = List (EndCall Tag)} o (closing ∷ []) (commanding service name body tag incoming.mark ∷ [])) accepted

      issued_so : issued_in (above_by (turns key (Below i)) was) was.upper ≡ issued service name body tag incoming.mark was.upper ∷ []
      issued_so =
          ap (λ (calls : List (EndCall Tag)). issued_in calls was.upper) calls_are
          ∙ ap (λ (o : Option SendRefusal). unless_refused {A = List (Issued Tag)} o [] (issued service name body tag incoming.mark was.upper ∷ []) ++ []) accepted

      deeds_are : below_deeds i (next_below i was).0 was.upper ≡ forwards c ∷ []
      deeds_are =
          ap (λ (w : Option (Taken Unit)). below_deeds i w was.upper) is ∙ ap (λ (m : Result MessageValue MessageFault). asked_deeds i incoming.mark m was.upper) read
          ∙ ap (λ b. cond b (answers c ∷ []) (unless_refused (refusal_to service name body was.upper) all_ends (forwards c) ∷ [])) redirects_not
          ∙ ap (λ (o : Option SendRefusal). unless_refused o all_ends (forwards c) ∷ []) accepted

      sent_so : sent_in later.deeds ≡ sent_in r.deeds ++ c ∷ []
      sent_so = flat_map-append sent_by r.deeds (deeds_by (turns key (Below i)) was) ∙ ap (λ ds. sent_in r.deeds ++ sent_in ds) deeds_are

      unspent_last : (was.upper.last == last_token) ≡ false
      unspent_last = unspent (length service + length name + length body) was.upper accepted

      forwarded_so : forwarded key i token service name body incoming.mark (next_relay i was) ≡ forwarded_as key i token service name body incoming.mark (next_relay i was)
      forwarded_so = accepted_forward key i token service name body incoming.mark (next_relay i was) unspent_last accepted

      relay_is : relay_called (turns key (Below i)) was ≡ forwarded_as key i token service name body incoming.mark (next_relay i was)
      relay_is =
          below_so key i was (Some (taken.Command incoming)) is ∙ command_taken key i incoming token service name body (next_relay i was) read redirects_not ∙ forwarded_so

  -- it is refused, and all is closed
  refused_closes : (incoming : Incoming) (token service name body : List ℕ) (why : SendRefusal) → (next_below i was).0 ≡ Some (taken.Command incoming) → reading incoming.raw ≡ Ok (command token service name body)
      → is_redirect service name ≡ false → refusal_to service name body was.upper ≡ Some why → Boarded j later
  refused_closes incoming token service name body why is read redirects_not refused =
      absurd (not_both (closes_over j (turns key (Below i)) r (
      ap (λ (w : Option (Taken Unit)). asked_above key w was.upper) is ∙ ap (λ (m : Result MessageValue MessageFault). forwarding key incoming.mark m was.upper) read
      ∙ ap (λ b. cond b [] (unless_refused (refusal_to service name body was.upper) (closing ∷ []) (commanding service name body (record { key = key; serial = was.upper.last + 1 }) incoming.mark ∷ []))) redirects_not
      ∙ ap (λ (o : Option SendRefusal). unless_refused {A = List (EndCall Tag)} o (closing ∷ []) (commanding service name body (record { key = key; serial = was.upper.last + 1 }) incoming.mark ∷ [])) refused)) still)

  -- a redirect is answered, or nothing is asked
  boarded_asked : (incoming : Incoming) → (next_below i was).0 ≡ Some (taken.Command incoming) → item_of key was.board.lists ≡ None → Boarded j later
  boarded_asked incoming is fresh = by_message (what_asked key i incoming.mark (reading incoming.raw) was.upper (next_relay i was))
    where
      by_why : (token service name body : List ℕ) (o : Option SendRefusal) → reading incoming.raw ≡ Ok (command token service name body) → is_redirect service name ≡ false → refusal_to service name body was.upper ≡ o → Boarded j later
      by_why token service name body None read redirects_not why = boarded_forwarded incoming token service name body is read redirects_not why fresh
      by_why token service name body (Some refusal) read redirects_not why = refused_closes incoming token service name body refusal is read redirects_not why

      by_flag : (token service name body : List ℕ) (flag : Bool) → reading incoming.raw ≡ Ok (command token service name body) → is_redirect service name ≡ flag → Boarded j later
      by_flag token service name body true read redirects =
          let own : Asked = record { channel = i; token = token; service = service; name = name; body = body; mark = incoming.mark } in
          quiet_below (Some (taken.Command incoming)) is
          (ap (λ (m : Result MessageValue MessageFault). issued_in (forwarding key incoming.mark m was.upper) was.upper) read
          ∙ ap (λ b. issued_in (cond b [] (unless_refused (refusal_to service name body was.upper) (closing ∷ []) (commanding service name body (record { key = key; serial = was.upper.last + 1 }) incoming.mark ∷ []))) was.upper) redirects)
          (ap (λ (m : Result MessageValue MessageFault). sent_in (asked_deeds i incoming.mark m was.upper)) read
          ∙ ap (λ b. sent_in (cond b (answers own ∷ []) (unless_refused (refusal_to service name body was.upper) all_ends (forwards own) ∷ []))) redirects)
          refl (answered i token service name body (next_relay i was)) (redirect_taken key i incoming token service name body (next_relay i was) read redirects)
          (answered_steady i token service name body (next_relay i was) (differ_next i was h.differ))
      by_flag token service name body false read redirects_not = by_why token service name body (refusal_to service name body was.upper) read redirects_not refl

      by_message : AsksNothing key i incoming.mark (reading incoming.raw) was.upper (next_relay i was) → Boarded j later
      by_message (asks_nothing none silent same) =
          quiet_below (Some (taken.Command incoming)) is (ap (λ (calls : List (EndCall Tag)). issued_in calls was.upper) none) (ap sent_in silent) refl (next_relay i was)
          (asked_taken key i incoming (next_relay i was) same) (as_it_was (next_relay i was))
      by_message (asks token service name body read) = by_flag token service name body (is_redirect service name) read refl

  -- a channel closes
  boarded_gone : (cause : Cause) → (next_below i was).0 ≡ Some (taken.Closed cause) → (i ≡ j → lives later ≡ false) → Boarded j later
  boarded_gone cause is leaves_so =
      boarded_by j (turns key (Below i)) r h (left i was.board) (map (shut_at i) (faces was.lowers)) (ap (λ (x : RelayValue). x.board) relay_is) (ap (λ (x : RelayValue). faces x.lowers) relay_is ∙ faces_so)
      (subst (λ cs. IsBoard (only j (lives later)) (askers cs) (above_run later).end.pending (left i was.board)) (sym (sent_same r (turns key (Below i)) silent))
      (keeps_fewer (only j (lives later)) (askers (sent_in r.deeds)) (above_run r).end.pending (left i was.board)
      (keeps_left (only j (lives r)) (askers (sent_in r.deeds)) (above_run r).end.pending was.board b.board i (own_list i was.board was.lowers t.channel b.owns t.there t.opened) (only j (lives later)) fewer)
      (only j (lives later)) (above_run later).end.pending (λ c lives_so. lives_so) (left_of j (turns key (Below i)) r h opened still none)))
      (owns_left i was.board was.lowers t.channel h.differ t.there t.opened b.owns) (subst (λ (x : RelayValue). AllTidy x.lowers) (sym relay_is) (next_tidy i was h.differ b.tidy))
    where
      t : Took i was (taken.Closed cause)
      t = took i was b.tidy (taken.Closed cause) is

      relay_is : relay_called (turns key (Below i)) was ≡ record (next_relay i was) { board = left i was.board }
      relay_is = below_so key i was (Some (taken.Closed cause)) is ∙ closed_taken key i cause (next_relay i was)

      none : issued_in (above_by (turns key (Below i)) was) was.upper ≡ []
      none = ap (λ (w : Option (Taken Unit)). issued_in (asked_above key w was.upper) was.upper) is

      silent : sent_in (deeds_by (turns key (Below i)) was) ≡ []
      silent = ap (λ (w : Option (Taken Unit)). sent_in (below_deeds i w was.upper)) is

      closes_so : (e : End) → channel_end i was.lowers ≡ Some e → is_closed (next_end e).state ≡ true
      closes_so e there =
          let same : t.channel.end ≡ e = let both : Some t.channel.end ≡ Some e = sym (end_found i was.lowers ∙ ap end_in t.there) ∙ there in cc in
          subst (λ (e : End). is_closed (next_end e).state ≡ true) same (from_so t.channel.end.inbox t.channel.end t.opened ∙ ap closes t.gave)

      faces_so : faces (lowers_next i was) ≡ map (shut_at i) (faces was.lowers)
      faces_so = ap (λ takes. faces (cond takes (changed i next_end was.lowers) was.lowers)) (takes_now i was (taken.Closed cause) is) ∙ faces_shut i next_end was.lowers h.differ closes_so

      fewer : (c : ℕ) → only j (lives later) c ≡ true → (only j (lives r) c ≡ true) × (c ≢ i)
      fewer c lives_so = (
        only_fewer j (lives r) (lives later) (lives_fewer j (turns key (Below i)) r refl) c lives_so,
        λ its. absurd (not_both (and_second (c == j) (lives later) lives_so) (leaves_so (sym its ∙ eqb-true c j (and_first (c == j) (lives later) lives_so)))),
      )

  boarded_below : (what : Option (Taken Unit)) → (next_below i was).0 ≡ what → item_of key was.board.lists ≡ None → ((cause : Cause) → what ≡ Some (taken.Closed cause) → i ≡ j → lives later ≡ false) → Boarded j later
  boarded_below None is fresh leaves_so = quiet_below None is refl refl refl (next_relay i was) refl (as_it_was (next_relay i was))
  boarded_below (Some (taken.Hello incoming)) is fresh leaves_so =
      quiet_below (Some (taken.Hello incoming)) is refl refl refl (next_relay i was) (hello_taken key i incoming (next_relay i was)) (as_it_was (next_relay i was))
  boarded_below (Some (taken.Command incoming)) is fresh leaves_so = boarded_asked incoming is fresh
  boarded_below (Some (taken.Event incoming)) is fresh leaves_so =
      quiet_below (Some (taken.Event incoming)) is refl refl refl (next_relay i was) (event_taken key i incoming (next_relay i was)) (as_it_was (next_relay i was))
  boarded_below (Some (taken.Progress token incoming)) is fresh leaves_so =
      quiet_below (Some (taken.Progress token incoming)) is refl refl refl (next_relay i was) (progress_taken key i token incoming (next_relay i was)) (as_it_was (next_relay i was))
  boarded_below (Some (taken.Final tag incoming)) is fresh leaves_so =
      quiet_below (Some (taken.Final tag incoming)) is refl refl refl (next_relay i was) (final_taken key i incoming (next_relay i was)) (as_it_was (next_relay i was))
  boarded_below (Some (taken.Closed cause)) is fresh leaves_so = boarded_gone cause is (leaves_so cause refl)

-- ---- each call

-- a channel that leaves isn't open any more
abbrev pub LeavesClosed : ℕ → Call → HubRun → Type 0
LeavesClosed j call r = deeds_by call r.hub.relay ≡ leaves j ∷ [] → lives (after_call j call r) ≡ false

pub boarded_step : (j : ℕ) (call : Call) (r : HubRun) → Holds j r → AreIssued r → SendsOwn j r → IsNew call r.hub → LeavesClosed j call r → IsOpenUpper r → IsOpenUpper (after_call j call r) → Boarded j r → Boarded j (after_call j call r)
boarded_step j (opens i) r h are s new leaves_so opened still b = boarded_opens j i r h s opened still b
boarded_step j (comes Above piece mark) r h are s new leaves_so opened still b = boarded_steady j (comes Above piece mark) r h opened still refl refl refl b (came_steady piece mark r.hub.relay)
boarded_step j (comes (Below i) piece mark) r h are s new leaves_so opened still b = boarded_steady j (comes (Below i) piece mark) r h opened still refl refl refl b (came_below_steady i piece mark r.hub.relay h.differ)
boarded_step j (bytes_end Above) r h are s new leaves_so opened still b = boarded_steady j (bytes_end Above) r h opened still refl refl refl b (ended_steady r.hub.relay)
boarded_step j (bytes_end (Below i)) r h are s new leaves_so opened still b = boarded_steady j (bytes_end (Below i)) r h opened still refl refl refl b (ended_below_steady i r.hub.relay h.differ)
boarded_step j (turns key Above) r h are s new leaves_so opened still b = boarded_above j key r h opened still b (next_taken r.hub.relay.upper).0 refl
boarded_step j (turns key (Below i)) r h are s new leaves_so opened still b =
    boarded_below j key i r h are opened still b (next_below i r.hub.relay).0 refl new
    (λ cause is its. leaves_so (ap (λ (w : Option (Taken Unit)). below_deeds i w r.hub.relay.upper) is ∙ ap (λ n. leaves n ∷ []) its))
boarded_step j (gives Above) r h are s new leaves_so opened still b = boarded_steady j (gives Above) r h opened still refl refl refl b (gave_steady r.hub.relay)
boarded_step j (gives (Below i)) r h are s new leaves_so opened still b = boarded_steady j (gives (Below i)) r h opened still refl refl refl b (gave_below_steady i r.hub.relay h.differ)

-- ---- a new hub

abbrev no_list : List (ℕ × WaitingValue)
no_list = []

empty_in : (n list : ℕ) → rows_of list (replicate n no_list) ≡ []
empty_in zero list = refl
empty_in (suc n) zero = refl
empty_in (suc n) (suc list) = empty_in n list

no_rows : (list : ℕ) → rows_of list (replicate 64 no_list) ≡ []
no_rows list = empty_in 64 list

nothing_stands : (list key : ℕ) (w : WaitingValue) → item_at key (rows_of list new_board.lists) ≡ Some w → ⊥
nothing_stands list key w stands = let none : item_at key (rows_of list new_board.lists) ≡ None = ap (item_at key) (no_rows list) in let both : None ≡ Some w = sym none ∙ stands in cc

pub boarded_first : (j : ℕ) → Boarded j no_calls
boarded_first j = record {
  board = record {
    own = λ list key w stands. absurd (nothing_stands list key w stands);
    owner = λ list key w stands. absurd (nothing_stands list key w stands);
    one = λ list other key w x stands too. absurd (nothing_stands list key w stands);
    numbered = λ row there. absurd (none_in row there);
    leads = λ row place a there at asks alive. absurd (none_in row there);
  };
  owns = record { each = tt; count = refl; owners = refl; lists = refl };
  tidy = tt;
}
