-- What each call of a hub does to an open lower channel.
use Rattle.std.proofs.Common.{◌≡◌, ◌<◌, ℕ, zero, suc, ◌+◌, ◌-◌, ◌==◌, Bool, true, false, not, cond, ◌&&◌, List, [], ◌∷◌, ◌++◌, length, Option, Some, None, slice_get, refl, sym, ap, subst, ◌∙◌, ⊎_elim, arith, eqb-true}
use Rattle.std.specs.Prelude.{decimal, option_map}
use Rattle.std.specs.List.{Contains, find}
use Rattle.std.proofs.lemmas.Bool.{eq-eqb}
use Rattle.channel_core.specs.Beginning.{new_end, tag_of}
use Rattle.channel_core.specs.Closing.{is_closed}
use Rattle.channel_core.specs.EndValue.{EndValue}
use Rattle.channel_core.specs.Runs.{Call as EndCall, begun, called, delivering, ending, putting_out, taking}
use Rattle.channel_core.specs.Taking.{closes, next_taken}
use Rattle.channel_core.specs.declared.taking.Taken.{Taken}
use Rattle.channel_core.specs.declared.taking.Taken.TheVariants as taken
use Rattle.channel_core.proofs.TheLaws.{closes_only_so}
use Rattle.channel_list.specs.Channels.{End, channel_end}
use Rattle.list_laws.proofs.Contained.{contains_cases, contains_first, none_in}
use Rattle.list_laws.proofs.Flags.{not_both}
use Rattle.std.proofs.lemmas.List.Elements.{Contains-append_right}
use Rattle.tcf_message.specs.Message.{reading}
use Rattle.hub_node.specs.Board.{found}
use Rattle.hub_node.specs.BoardValue.{BoardValue}
use Rattle.hub_node.specs.Calls.{Call, opens, comes, bytes_end, turns, gives}
use Rattle.hub_node.specs.Deeds.{Asked, Deed, above_deeds, below_deeds, deeds_by, ends as all_ends, hears, joins, leaves, sent_in}
use Rattle.hub_node.specs.HubLaws.{told_from, under}
use Rattle.hub_node.specs.Relay.{found_by, hub_services, next_below, opened_at, takes_below}
use Rattle.hub_node.specs.RelayValue.{RelayValue}
use Rattle.hub_node.specs.Runs.{HubRun, above_run, asked_calls, below_run, calls_of, delivering_to, going_on, hearing, only_if, took_for, took_of}
use Rattle.hub_node.specs.WaitingValue.{WaitingValue}
use Rattle.hub_node.specs.declared.side.HubSide.TheVariants.{Above, Below}
use Rattle.hub_node.specs.declared.waiting.Tag.{Tag}
use Rattle.hub_node.proofs.Boarding.{Boarded, asker, askers, lives, only}
use Rattle.hub_node.proofs.Boards.{Asker, asker_of, found_is_own, is_found, row_of}
use Rattle.hub_node.proofs.EndRuns.{end_more}
use Rattle.hub_node.proofs.Holding.{Holds}
use Rattle.hub_node.proofs.Issuing.{AreIssued}
use Rattle.hub_node.proofs.MessageKinds.{GivesAny, told_of, next_gives}
use Rattle.hub_node.proofs.Owning.{taken_end, what_is}
use Rattle.hub_node.proofs.Telling.{Acts, Finds, IsOpenAt, asked_acts, closed_down, end_of, final_acts, finds_none, finds_other, finds_own, nothing_done, open_after, passed_by, progress_acts, told_acts, under_place}
use Rattle.hub_node.proofs.Waits.{IsOpenUpper, few_sent, is_waiting}

-- ---- lists

get_some : {A : Type 0} → (xs : List A) (place : ℕ) → place < length xs → (x : A) × (slice_get xs place ≡ Some x)
get_some [] place within = absurd (omega arith)
get_some (x ∷ xs) zero within = (x, refl)
get_some (x ∷ xs) (suc place) within = get_some xs place (omega arith)

get_asker : (cs : List Asked) (place : ℕ) (c : Asked) → slice_get cs place ≡ Some c → slice_get (askers cs) place ≡ Some (asker c)
get_asker [] place c there = absurd cc
get_asker (d ∷ cs) zero c there = let same : d ≡ c = cc in ap (λ d. Some (asker d)) same
get_asker (d ∷ cs) (suc place) c there = get_asker cs place c there

-- the tag that a token finds
record IsTagged (rows : List (ℕ × Tag)) (number : ℕ) : Type 0 where
  row : ℕ × Tag
  among : Contains rows row
  same : row.0 ≡ number
  tag_is : tag_of number rows ≡ Some row.1

tagged : (rows : List (ℕ × Tag)) (row : ℕ × Tag) → Contains rows row → IsTagged rows row.0
tagged [] row there = absurd (none_in row there)
tagged (x ∷ rows) row there = by_flag (x.0 == row.0) refl (tagged rows row)
  where
    by_flag : (flag : Bool) → (x.0 == row.0) ≡ flag → (Contains rows row → IsTagged rows row.0) → IsTagged (x ∷ rows) row.0
    by_flag true is further = record {
      row = x;
      among = contains_first x rows;
      same = eqb-true x.0 row.0 is;
      tag_is = ap (λ b. option_map (λ (r : ℕ × Tag). r.1) (cond b (Some x) (find (λ r. r.0 == row.0) rows))) is;
    }
    by_flag false isnt further =
        let t : IsTagged rows row.0 =
        ⊎_elim (λ (same : x ≡ row). absurd (not_both (eq-eqb x.0 row.0 (ap (λ (r : ℕ × Tag). r.0) same)) isnt)) (λ (rest : Contains rows row). further rest) (contains_cases x rows row there) in
        record {
          row = t.row;
          among = Contains-append_right (x ∷ []) rows t.row t.among;
          same = t.same;
          tag_is = ap (λ b. option_map (λ (r : ℕ × Tag). r.1) (cond b (Some x) (find (λ r. r.0 == row.0) rows))) isnt ∙ t.tag_is;
        }

-- ---- the command of a pending row

record IsCommandOf (j : ℕ) (commands : List Asked) (b : BoardValue) (row : ℕ × Tag) : Type 0 where
  command : Asked
  there : under 1 (decimal row.0) commands ≡ Some command
  finds : Finds j command (found row.1 b)

command_of : (j : ℕ) (r : HubRun) → AreIssued r → Boarded j r → IsOpenUpper r → lives r ≡ true → (row : ℕ × Tag) → Contains (above_run r).end.pending row → IsCommandOf j (sent_in r.deeds) r.hub.relay.board row
command_of j r are b opened alive row among =
    record { command = c; there = ap (λ n. under 1 (decimal n) cs) number ∙ under_place 1 place cs c at.1 (few_sent r are); finds = by_flag (c.channel == j) refl }
  where
    cs : List Asked
    cs = sent_in r.deeds

    place : ℕ
    place = row.0 - 1

    number : row.0 ≡ 1 + place
    number = let w = is_waiting r are opened row among in let least = w.counted in omega (arith, least)

    at : (c : Asked) × (slice_get cs place ≡ Some c)
    at = let w = is_waiting r are opened row among in let most = w.sent in let least = w.counted in get_some cs place (omega (arith, most, least))

    c : Asked
    c = at.0

    suc_number : row.0 ≡ suc place
    suc_number = let n = number in omega (arith, n)

    is_live : ℕ → Bool
    is_live = only j (lives r)

    other : (w : WaitingValue) → found row.1 r.hub.relay.board ≡ Some w → (c.channel == j) ≡ false → (w.channel == j) ≡ false
    other w is isnt =
        let own = found_is_own is_live (askers cs) (above_run r).end.pending r.hub.relay.board b.board row.1 w is in
        let numbered = b.board.numbered row among in
        let mine = own.0 in
        let serial = mine.serial in
        let same_serial = own.1 in
        let same_place : mine.place ≡ place = let n = suc_number in omega (arith, serial, same_serial, numbered, n) in
        let same : asker_of w ≡ asker c = let both : Some (asker_of w) ≡ Some (asker c) = sym mine.asker ∙ ap (slice_get (askers cs)) same_place ∙ get_asker cs place c at.1 in cc in
        ap (λ (a : Asker). a.channel == j) same ∙ isnt

    by_found : (o : Option WaitingValue) → found row.1 r.hub.relay.board ≡ o → (c.channel == j) ≡ false → Finds j c (found row.1 r.hub.relay.board)
    by_found None is isnt = finds_none is isnt
    by_found (Some w) is isnt = finds_other w is (other w is isnt) isnt

    by_flag : (flag : Bool) → (c.channel == j) ≡ flag → Finds j c (found row.1 r.hub.relay.board)
    by_flag true its =
        finds_own (row_of row.0 (asker c))
        (is_found is_live (askers cs) (above_run r).end.pending r.hub.relay.board b.board row place (asker c) among suc_number (get_asker cs place c at.1) (ap (λ b. b && lives r) its ∙ alive))
        its refl its
    by_flag false isnt = by_found (found row.1 r.hub.relay.board) refl isnt

-- ---- each call

module _ (j : ℕ) (r : HubRun) (h : Holds j r) (are : AreIssued r) (b : Boarded j r) (upper_open : IsOpenUpper r) (alive : lives r ≡ true) (opened : IsOpenAt r.below)
    (there : channel_end j r.hub.relay.lowers ≡ Some (below_run r).end) where
  abbrev q : RelayValue
  q = r.hub.relay

  abbrev cs : List Asked
  cs = sent_in r.deeds

  abbrev E : End
  E = end_of r.below

  pends : (number : ℕ) (tag : Tag) → Contains q.upper.pending (number, tag) → Contains (above_run r).end.pending (number, tag)
  pends number tag among = subst (λ (e : EndValue Tag). Contains e.pending (number, tag)) h.above among

  quiet : (deeds : List Deed) → told_from j true cs deeds ≡ [] → open_after j true deeds ≡ true → Acts j cs deeds [] E
  quiet deeds told still = nothing_done j cs r.below opened deeds told still

  -- a call that changes nothing of this
  plain : (own : Bool) (call : EndCall Unit) → ((deeds : List Deed) → told_from j true cs deeds ≡ [] → open_after j true deeds ≡ true → Acts j cs deeds (call ∷ []) E) → Acts j cs [] (only_if own (call ∷ [])) E
  plain true call acts = acts [] refl refl
  plain false call acts = quiet [] refl refl

  joins_acts : (did : Bool) (i : ℕ) → Acts j cs (cond did (joins i ∷ []) []) [] E
  joins_acts true i = quiet (joins i ∷ []) refl refl
  joins_acts false i = quiet [] refl refl

  comes_acts : (own : Bool) (piece : List ℕ) (mark : Option ℕ) → Acts j cs [] (only_if own (delivering_to E piece mark)) E
  comes_acts true piece mark =
      subst (λ calls. Acts j cs [] calls E) (sym (ap (λ b. cond b [] (delivering piece mark ∷ [])) opened))
      (passed_by j cs r.below opened (delivering piece mark) [] refl ((closes_only_so hub_services None r.below).by_others (delivering piece mark) refl ∙ opened) refl refl)
  comes_acts false piece mark = quiet [] refl refl

  ending_acts : (own : Bool) → Acts j cs [] (only_if own (ending ∷ [])) E
  ending_acts own = plain own ending (λ deeds told still. passed_by j cs r.below opened ending deeds refl ((closes_only_so hub_services None r.below).by_others ending refl ∙ opened) told still)

  putting_acts : (own : Bool) → Acts j cs [] (only_if own (putting_out ∷ [])) E
  putting_acts own = plain own putting_out (λ deeds told still. passed_by j cs r.below opened putting_out deeds refl opened told still)

  -- what was taken above
  above_acts : (next : Option (Taken Tag) × EndValue Tag) → GivesAny q.upper.pending next → Acts j cs (above_deeds q.is_bound next.0) (took_for j next.0 (record q { upper = next.1 })) E
  above_acts (None, e) gave = quiet [] refl refl
  above_acts (Some (taken.Hello incoming), e) gave = by_flag q.is_bound
    where
      by_flag : (bound : Bool) → Acts j cs (cond bound (hears incoming ∷ []) []) (cond bound (hearing incoming.mark (reading incoming.raw)) []) E
      by_flag true = told_acts j cs r.below opened incoming (reading incoming.raw) refl (told_of (reading incoming.raw) gave)
      by_flag false = quiet [] refl refl
  above_acts (Some (taken.Command incoming), e) gave = quiet [] refl refl
  above_acts (Some (taken.Event incoming), e) gave = told_acts j cs r.below opened incoming (reading incoming.raw) refl gave
  above_acts (Some (taken.Progress number incoming), e) gave =
      let t = tagged q.upper.pending (number, gave.tag) gave.there in
      let c = command_of j r are b upper_open alive t.row (subst (λ (e : EndValue Tag). Contains e.pending t.row) h.above t.among) in
      let tag_so : found_by (tag_of number e.pending) (record q { upper = e }) ≡ found t.row.1 q.board =
      ap (λ (rows : List (ℕ × Tag)). found_by (tag_of number rows) (record q { upper = e })) gave.kept ∙ ap (λ (o : Option Tag). found_by o (record q { upper = e })) t.tag_is in
      subst (λ (o : Option WaitingValue). Acts j cs (hears incoming ∷ []) (going_on j o incoming.mark (reading incoming.raw)) E) (sym tag_so)
      (progress_acts j cs r.below opened incoming (reading incoming.raw) number c.command (found t.row.1 q.board) refl gave.message (ap (λ n. under 1 (decimal n) cs) (sym t.same) ∙ c.there) c.finds)
  above_acts (Some (taken.Final tag incoming), e) gave =
      let c = command_of j r are b upper_open alive (gave.number, tag) (pends gave.number tag gave.there) in
      final_acts j cs r.below opened incoming (reading incoming.raw) gave.number c.command (found tag q.board) refl gave.message c.there c.finds
  above_acts (Some (taken.Closed cause), e) gave = closed_down j cs r.below opened (all_ends ∷ []) refl refl

  -- ---- what was taken below

  taken_next : end_of (r.below ++ taking ∷ []) ≡ called taking E
  taken_next = end_more r.below (taking ∷ []) (begun (new_end hub_services None))

  after_taking : (deeds : List Deed) (calls : List (EndCall Unit)) → Acts j cs deeds calls (end_of (r.below ++ taking ∷ [])) → Acts j cs deeds (taking ∷ calls) E
  after_taking deeds calls acts = let a = subst (λ (e : End). Acts j cs deeds calls e) taken_next acts in record { told = a.told; opens = a.opens }

  taken_state : (what : Option (Taken Unit)) → (next_taken E).0 ≡ what → is_closed (called taking E).state ≡ closes what
  taken_state what is = (closes_only_so hub_services None r.below).by_taking opened ∙ ap closes is

  taken_only : (what : Option (Taken Unit)) → (next_taken E).0 ≡ what → closes what ≡ false → Acts j cs [] (taking ∷ []) E
  taken_only what is keeps = passed_by j cs r.below opened taking [] refl (taken_state what is ∙ keeps) refl refl

  own_acts : (i : ℕ) (what : Option (Taken Unit)) → (i == j) ≡ true → (next_taken E).0 ≡ what → Acts j cs (below_deeds i what q.upper) (taking ∷ took_of true what q.upper) E
  own_acts i None own is = taken_only None is refl
  own_acts i (Some (taken.Hello incoming)) own is = taken_only (Some (taken.Hello incoming)) is refl
  own_acts i (Some (taken.Command incoming)) own is =
      after_taking (below_deeds i (Some (taken.Command incoming)) q.upper) (asked_calls true (reading incoming.raw) q.upper)
      (asked_acts j cs (r.below ++ taking ∷ []) (ap (λ (e : End). is_closed e.state) taken_next ∙ taken_state (Some (taken.Command incoming)) is) i incoming.mark (reading incoming.raw) q.upper true own)
  own_acts i (Some (taken.Event incoming)) own is = taken_only (Some (taken.Event incoming)) is refl
  own_acts i (Some (taken.Progress token incoming)) own is = taken_only (Some (taken.Progress token incoming)) is refl
  own_acts i (Some (taken.Final tag incoming)) own is = taken_only (Some (taken.Final tag incoming)) is refl
  own_acts i (Some (taken.Closed cause)) own is = record { told = refl; opens = ap not (taken_state (Some (taken.Closed cause)) is) ∙ sym (ap not own) }

  others_acts : (i : ℕ) (what : Option (Taken Unit)) → (i == j) ≡ false → Acts j cs (below_deeds i what q.upper) (took_of false what q.upper) E
  others_acts i None isnt = quiet [] refl refl
  others_acts i (Some (taken.Hello incoming)) isnt = quiet [] refl refl
  others_acts i (Some (taken.Command incoming)) isnt = asked_acts j cs r.below opened i incoming.mark (reading incoming.raw) q.upper false isnt
  others_acts i (Some (taken.Event incoming)) isnt = quiet [] refl refl
  others_acts i (Some (taken.Progress token incoming)) isnt = quiet [] refl refl
  others_acts i (Some (taken.Final tag incoming)) isnt = quiet [] refl refl
  others_acts i (Some (taken.Closed cause)) isnt = quiet (leaves i ∷ []) refl (ap not isnt)

  below_acts : (i : ℕ) (own : Bool) → (i == j) ≡ own → Acts j cs (below_deeds i (next_below i q).0 q.upper) (only_if (own && takes_below q) (taking ∷ []) ++ took_of own (next_below i q).0 q.upper) E
  below_acts i true its = by_takes (takes_below q) refl
    where
      so : (next_below i q).0 ≡ cond (takes_below q) (next_taken E).0 None
      so = what_is i q ∙ ap (λ n. cond (takes_below q) (taken_end (channel_end n q.lowers)) None) (eqb-true i j its) ∙ ap (λ o. cond (takes_below q) (taken_end o) None) there

      by_takes : (takes : Bool) → takes_below q ≡ takes → Acts j cs (below_deeds i (next_below i q).0 q.upper) (only_if (true && takes) (taking ∷ []) ++ took_of true (next_below i q).0 q.upper) E
      by_takes true takes =
          let is : (next_below i q).0 ≡ (next_taken E).0 = so ∙ ap (λ b. cond b (next_taken E).0 None) takes in
          subst (λ (w : Option (Taken Unit)). Acts j cs (below_deeds i w q.upper) (taking ∷ took_of true w q.upper) E) (sym is) (own_acts i (next_taken E).0 its refl)
      by_takes false takes =
          let is : (next_below i q).0 ≡ None = so ∙ ap (λ b. cond b (next_taken E).0 None) takes in
          subst (λ (w : Option (Taken Unit)). Acts j cs (below_deeds i w q.upper) (took_of true w q.upper) E) (sym is) (quiet [] refl refl)
  below_acts i false isnt = others_acts i (next_below i q).0 isnt

  pub call_acts : (call : Call) → Acts j cs (deeds_by call q) (calls_of E j call q) E
  call_acts (opens i) = joins_acts (opened_at i q).0 i
  call_acts (comes Above piece mark) = quiet [] refl refl
  call_acts (comes (Below i) piece mark) = comes_acts (i == j) piece mark
  call_acts (bytes_end Above) = quiet [] refl refl
  call_acts (bytes_end (Below i)) = ending_acts (i == j)
  call_acts (turns key Above) = above_acts (next_taken q.upper) (next_gives q.upper)
  call_acts (turns key (Below i)) = below_acts i (i == j) refl
  call_acts (gives Above) = quiet [] refl refl
  call_acts (gives (Below i)) = putting_acts (i == j)
