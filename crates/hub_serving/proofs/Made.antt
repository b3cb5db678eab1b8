-- Some calls of a new hub make it.
use Rattle.std.proofs.Common.{◌≡◌, ◌≢◌, ◌⊎◌, inl, inr, ℕ, suc, ◌+◌, ◌≤◌, ◌==◌, Bool, true, false, cond, List, [], ◌∷◌, ◌++◌, map, Option, Some, None, refl, sym, ap, ◌∙◌, subst, arith}
use Rattle.std.specs.Prelude.{find, fold, option_map, option_to_list}
use Rattle.std.specs.List.{AllByRecursion}
use Rattle.std.specs.Option.{option_or}
use Rattle.std.proofs.lemmas.Bool.{eq-eqb, ne_eqb}
use Rattle.channel_core.specs.declared.held.Outgoing.{Outgoing}
use Rattle.link_pool.specs.Lists.{item_of}
use Rattle.link_pool.specs.Rows.{item_at}
use Rattle.hub_node.specs.Calls.{AreNew, Call, IsNew, bytes_end, called, comes, gives, opens, turns}
use Rattle.hub_node.specs.Hub.{after_giving, came, ended, given, new_hub, opened, turned as turned_under, with_relay}
use Rattle.hub_node.specs.HubValue.{HubValue}
use Rattle.hub_node.specs.Relay.{after_giving_at, came_at, ended_at, opened_at, turned_at, turned_above, turned_below}
use Rattle.hub_node.specs.RelayValue.{RelayValue}
use Rattle.hub_node.specs.WaitingValue.{WaitingValue}
use Rattle.hub_node.specs.declared.side.HubSide.{HubSide}
use Rattle.hub_node.specs.declared.side.HubSide.TheVariants.{Above, Below}
use Rattle.hub_node.proofs.Keys.{free_key, is_free}
use Rattle.hub_serving.specs.Numbered.{AreKept, GoTogether, IsKept, IsOver, RowIsKept, number_next, numbered_relay, numbered_row, turned}
use Rattle.hub_serving.specs.Served.{Passage, Passed, after_call, after_calls, new_passage, passed_by, passed_on, same_side, with_given, with_got}
use Rattle.hub_serving.proofs.Boards.{Lists, all_renamed, renamed}
use Rattle.hub_serving.proofs.Numbering.{came_same, came_together, ended_same, ended_together, gave_same, gave_together, kept_of, new_numbered, new_together, numbered_result, opened_same, opened_together, over_below, over_takes, over_turned, turn_so, turn_together}

-- ---- more calls

abbrev pub hub_after : List Call → HubValue → HubValue
hub_after [] h = h
hub_after (call ∷ calls) h = hub_after calls (called call h)

passage_hub : (side : HubSide) (calls : List Call) (p : Passage) → (fold (after_call side) p calls).hub ≡ hub_after calls p.hub
passage_hub side [] p = refl
passage_hub side (call ∷ calls) p = passage_hub side calls (after_call side p call)

fits_more : (calls : List Call) (call : Call) (h : HubValue) → AreNew calls h → IsNew call (hub_after calls h) → AreNew (calls ++ call ∷ []) h
fits_more [] call h fits new = (new, tt)
fits_more (first ∷ calls) call h fits new = (fits.0, fits_more calls call (called first h) fits.1 new)

passage_more : (side : HubSide) (calls : List Call) (call : Call) (p : Passage) → fold (after_call side) p (calls ++ call ∷ []) ≡ after_call side (fold (after_call side) p calls) call
passage_more side [] call p = refl
passage_more side (first ∷ calls) call p = passage_more side calls call (after_call side p first)

pub record Made (calls : List Call) (h : HubValue) : Type 0 where
  pub fits : AreNew calls new_hub
  pub node : (side : HubSide) → h ≡ (after_calls side calls).hub
  pub unspent : h.is_spent ≡ false
  pub together : GoTogether h.relay
  pub numbered : numbered_relay h.relay ≡ h.relay

pub made_first : Made [] new_hub
made_first = record { fits = tt; node = λ side. refl; unspent = refl; together = new_together; numbered = new_numbered }

made_more : (calls : List Call) (call : Call) (h next : HubValue) → Made calls h → IsNew call h → next ≡ called call h → next.is_spent ≡ false → GoTogether next.relay → numbered_relay next.relay ≡ next.relay
    → Made (calls ++ call ∷ []) next
made_more calls call h next m new is unspent together numbered =
    record {
      fits = fits_more calls call new_hub m.fits (subst (IsNew call) (m.node Above ∙ passage_hub Above calls new_passage) new);
      node = λ side. is ∙ ap (called call) (m.node side) ∙ sym (ap (λ (p : Passage). p.hub) (passage_more side calls call new_passage));
      unspent = unspent;
      together = together;
      numbered = numbered;
    }

-- what passed on a side by one call more
pub passes_more : (side : HubSide) (calls : List Call) (call : Call) (h : HubValue) → Made calls h → passed_on side (calls ++ call ∷ []) ≡ passed_by side call h (passed_on side calls)
passes_more side calls call h m =
    ap (λ (p : Passage). p.passed) (passage_more side calls call new_passage) ∙ ap (λ (x : HubValue). passed_by side call x (passed_on side calls)) (sym (m.node side))

-- ---- a turn, under a key that nothing has

no_number : (key_of number_of : ℕ → ℕ) (last : ℕ) (rows : List (ℕ × WaitingValue)) → AllByRecursion (RowIsKept key_of number_of last) rows → item_at (last + 1) (renamed rows) ≡ None
no_number key_of number_of last [] k = refl
no_number key_of number_of last (row ∷ rows) k =
    let within = k.0.within in
    let other : (row.1.serial == last + 1) ≡ false = ne_eqb row.1.serial (last + 1) (λ same. omega (arith, within, same)) in
    ap (λ (b : Bool). option_map (λ (r : ℕ × WaitingValue). r.1) (cond b (Some (numbered_row row)) (find (λ r. r.0 == last + 1) (renamed rows)))) other
    ∙ no_number key_of number_of last rows k.1

no_numbers : (key_of number_of : ℕ → ℕ) (last : ℕ) (lists : Lists) → AreKept key_of number_of last lists → item_of (last + 1) (all_renamed lists) ≡ None
no_numbers key_of number_of last [] k = refl
no_numbers key_of number_of last (rows ∷ lists) k =
    ap (λ (o : Option WaitingValue). option_or o (item_of (last + 1) (all_renamed lists))) (no_number key_of number_of last rows k.0) ∙ no_numbers key_of number_of last lists k.1

number_is_new : (h : HubValue) → numbered_relay h.relay ≡ h.relay → IsKept h.relay → item_of (number_next h) h.relay.board.lists ≡ None
number_is_new h numbered k =
    ap (λ (r : RelayValue). item_of (number_next h) r.board.lists) (sym numbered) ∙ no_numbers k.key_of k.number_of h.relay.upper.last h.relay.board.lists k.rows

over_stays : (key : ℕ) (side : HubSide) (r : RelayValue) → IsOver r → turned_at key side r ≡ (false, r)
over_stays key Above r over = over_turned r over
over_stays key (Below j) r over = over_below key j r (over_takes r over)

pub record Turned (calls : List Call) (side : HubSide) (h : HubValue) : Type 0 where
  pub key : ℕ
  pub made : Made (calls ++ turns key side ∷ []) (turned side h).1

turned_over : (calls : List Call) (side : HubSide) (h : HubValue) → Made calls h → IsOver h.relay → Turned calls side h
turned_over calls side h m over =
    let key = free_key h.relay.board.lists in
    let stays : (turned side h).1 ≡ h = ap (λ (t : Bool × RelayValue). with_relay t.1 h) (over_stays (number_next h) side h.relay over) in
    let also : called (turns key side) h ≡ h = ap (λ (t : Bool × RelayValue). with_relay t.1 h) (over_stays key side h.relay over) in
    record {
      key = key;
      made = subst (λ (x : HubValue). Made (calls ++ turns key side ∷ []) x) (sym stays)
          (made_more calls (turns key side) h h m (is_free h.relay.board.lists) (sym also) m.unspent m.together m.numbered);
    }

turned_kept : (calls : List Call) (side : HubSide) (h : HubValue) → Made calls h → IsKept h.relay → Turned calls side h
turned_kept calls side h m k =
    let key = number_next h in
    let new = number_is_new h m.numbered k in
    let numbered : (turned_at key side h.relay).1 ≡ numbered_relay (turned_at key side h.relay).1 =
    ap (λ (t : Bool × RelayValue). t.1) (ap (turned_at key side) (sym m.numbered) ∙ turn_so key side h.relay m.together) in
    record {
      key = key;
      made = made_more calls (turns key side) h (turned side h).1 m new refl m.unspent (turn_together key side h.relay m.together new) (sym numbered);
    }

pub made_turn : (calls : List Call) (side : HubSide) (h : HubValue) → Made calls h → Turned calls side h
made_turn calls side h m = kept_of h.relay m.together (Turned calls side h) (λ over. turned_over calls side h m over) (λ k. turned_kept calls side h m k)

pub turn_passes : (on : HubSide) (key : ℕ) (side : HubSide) (calls : List Call) (h : HubValue) → Made calls h → passed_on on (calls ++ turns key side ∷ []) ≡ passed_on on calls
turn_passes on key side calls h m = passes_more on calls (turns key side) h m

-- ---- the other calls

pub made_came : (calls : List Call) (side : HubSide) (piece : List ℕ) (h : HubValue) → Made calls h → Made (calls ++ comes side piece None ∷ []) (came side piece None h)
made_came calls side piece h m =
    made_more calls (comes side piece None) h (came side piece None h) m tt refl m.unspent (came_together side piece None h.relay m.together)
    (sym (came_same side piece None h.relay m.together.fresh) ∙ ap (came_at side piece None) m.numbered)

pub made_ended : (calls : List Call) (side : HubSide) (h : HubValue) → Made calls h → Made (calls ++ bytes_end side ∷ []) (ended side h)
made_ended calls side h m =
    let next : HubValue = with_relay (ended_at side h.relay) h in
    let is : ended side h ≡ next = ap (λ (b : Bool). cond b h next) m.unspent in
    subst (λ (x : HubValue). Made (calls ++ bytes_end side ∷ []) x) (sym is)
    (made_more calls (bytes_end side) h next m tt (sym is) m.unspent (ended_together side h.relay m.together)
    (sym (ended_same side h.relay m.together.fresh) ∙ ap (ended_at side) m.numbered))

pub made_gave : (calls : List Call) (side : HubSide) (h : HubValue) → Made calls h → Made (calls ++ gives side ∷ []) (after_giving side h)
made_gave calls side h m =
    let next : HubValue = with_relay (after_giving_at side h.relay) h in
    let is : after_giving side h ≡ next = ap (λ (b : Bool). cond b h next) m.unspent in
    subst (λ (x : HubValue). Made (calls ++ gives side ∷ []) x) (sym is)
    (made_more calls (gives side) h next m tt (sym is) m.unspent (gave_together side h.relay m.together)
    (sym (gave_same side h.relay) ∙ ap (after_giving_at side) m.numbered))

pub made_opened : (calls : List Call) (j : ℕ) (h : HubValue) → Made calls h → Made (calls ++ opens j ∷ []) (opened j h).1
made_opened calls j h m =
    made_more calls (opens j) h (opened j h).1 m tt refl m.unspent (opened_together j h.relay m.together)
    (sym (ap (λ (t : Bool × RelayValue). t.1) (opened_same j h.relay)) ∙ ap (λ (r : RelayValue). (opened_at j r).1) m.numbered)

-- ---- sides

pub itself : (side : HubSide) → same_side side side ≡ true
itself Above = refl
itself (Below j) = eq-eqb j j refl

pub came_here : (side : HubSide) (piece : List ℕ) (calls : List Call) (h : HubValue) → Made calls h → passed_on side (calls ++ comes side piece None ∷ []) ≡ with_got piece (passed_on side calls)
came_here side piece calls h m =
    passes_more side calls (comes side piece None) h m ∙ ap (λ (b : Bool). cond b (with_got piece (passed_on side calls)) (passed_on side calls)) (itself side)

pub came_elsewhere : (on side : HubSide) (piece : List ℕ) (calls : List Call) (h : HubValue) → Made calls h → same_side side on ≡ false
    → passed_on side (calls ++ comes on piece None ∷ []) ≡ passed_on side calls
came_elsewhere on side piece calls h m other =
    passes_more side calls (comes on piece None) h m ∙ ap (λ (b : Bool). cond b (with_got piece (passed_on side calls)) (passed_on side calls)) other

pub gave_here : (side : HubSide) (calls : List Call) (h : HubValue) → Made calls h → passed_on side (calls ++ gives side ∷ []) ≡ with_given (given side h) (passed_on side calls)
gave_here side calls h m =
    passes_more side calls (gives side) h m ∙ ap (λ (b : Bool). cond b (with_given (given side h) (passed_on side calls)) (passed_on side calls)) (itself side)

pub gave_elsewhere : (on side : HubSide) (calls : List Call) (h : HubValue) → Made calls h → same_side side on ≡ false → passed_on side (calls ++ gives on ∷ []) ≡ passed_on side calls
gave_elsewhere on side calls h m other =
    passes_more side calls (gives on) h m ∙ ap (λ (b : Bool). cond b (with_given (given on h) (passed_on side calls)) (passed_on side calls)) other
