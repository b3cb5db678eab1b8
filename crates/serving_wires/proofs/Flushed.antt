-- Wire by wire what is queued is put, and what is called is in its place, also where memory was wanting.
use Rattle.std.proofs.Common.{◌≡◌, ◌≢◌, ℕ, ◌+◌, ◌==◌, ◌⊎◌, Bool, true, false, cond, List, [], ◌∷◌, ◌++◌, Some, None, refl, sym, ◌∙◌, subst, arith, append-nil, append_assoc, eqb-true, eq-eqb}
use Rattle.std.specs.Prelude.{filter, fold}
use Rattle.std.specs.List.{AllByRecursion, list_any}
use Rattle.std.proofs.lemmas.Option.{none-some, same_Some}
use Rattle.tcf_wires.specs.declared.call.WireCall.{WireCall}
use Rattle.tcf_wires.specs.declared.event.WireEvent.{WireEvent}
use Rattle.serving_wires.specs.Calls.{events_in, put_on}
use Rattle.serving_wires.specs.Flushing.{FlushesAll, GivesUpAll, HasOutbox, is_kept, no_rows, one_more}
use Rattle.serving_wires.specs.Following.{IsFlushed, Spares, is_on}
use Rattle.serving_wires.specs.Outbox.{Flushes, IsGivenUp}
use Rattle.serving_wires.specs.OutboxValue.{OutboxValue}
use Rattle.serving_wires.specs.Row.{Row}
use Rattle.serving_wires.specs.Rows.{with_item}
use Rattle.serving_wires.specs.Serving.{EachBehind, IsInPlace, Nodes, fails, reaches_out}
use Rattle.serving_wires.specs.WireLaws.{WireLaws}
use Rattle.serving_wires.proofs.Placing.{each_both, each_none}
use Rattle.serving_wires.proofs.RisingPuts.{PutsRising, rises_lower, rising_behind}
use Rattle.serving_wires.proofs.Rows.{found, found_here, found_later}
use Rattle.serving_wires.proofs.Spared.{none_of_both, same_events}
use Rattle.serving_wires.proofs.Standing.{IsGone, IsKept, KeepsOn, NextStand, Relation, Stand, gone, kept, missing_below, next_gone, next_kept, next_stand, no_stand, none, stand_more}

-- ---- what is flushed

abbrev pub AllFlushed : {T : Type 0} → HasOutbox T → List WireCall → List (Row T) → Type 0
AllFlushed {T = T} has calls rows = AllByRecursion (λ (row : Row T). IsFlushed (has.outbox row.item) calls) rows

pub filter_flushed : {T : Type 0} → (has : HasOutbox T) (calls : List WireCall) (rows : List (Row T)) → AllFlushed has calls rows → AllFlushed has calls (filter (is_kept has) rows)
filter_flushed has calls [] all = tt
filter_flushed {T = T} has calls (row ∷ rows) (first, rest) = by_flag (is_kept has row) (filter_flushed has calls rows rest)
  where
    by_flag : (flag : Bool) → AllFlushed has calls (filter (is_kept has) rows) → AllFlushed has calls (cond flag (row ∷ filter (is_kept has) rows) (filter (is_kept has) rows))
    by_flag true later = (first, later)
    by_flag false later = later

pub flushed_there : {T : Type 0} → (has : HasOutbox T) (calls : List WireCall) (channel : ℕ) (item : T) (rows : List (Row T)) → AllFlushed has calls rows → found channel rows ≡ Some item
    → IsFlushed (has.outbox item) calls
flushed_there has calls channel item [] all is = absurd (none-some item is)
flushed_there {T = T} has calls channel item (row ∷ rows) (first, rest) is = by_flag (row.channel == channel) is (flushed_there has calls channel item rows rest)
  where
    by_flag : (flag : Bool) → cond flag (Some row.item) (found channel rows) ≡ Some item → (found channel rows ≡ Some item → IsFlushed (has.outbox item) calls)
        → IsFlushed (has.outbox item) calls
    by_flag true here later = subst (λ (t : T). IsFlushed (has.outbox t) calls) (same_Some row.item item here) first
    by_flag false there later = later there

pub flushed_more : {T : Type 0} → (has : HasOutbox T) → WireLaws → (calls more : List WireCall) (rows : List (Row T)) → ((channel : ℕ) → Spares channel more) → events_in more ≡ []
    → AllFlushed has calls rows → AllFlushed has (calls ++ more) rows
flushed_more has laws calls more [] spares quiet all = tt
flushed_more has laws calls more (row ∷ rows) spares quiet (first, rest) =
    (laws.stays (has.outbox row.item) calls more (spares (has.outbox row.item).channel) quiet first, flushed_more has laws calls more rows spares quiet rest)

-- ---- what the flushing of all wires comes to

-- what was queued for the wires
abbrev pub AreServed : {I T : Type 0} → Relation I T → Nodes → List WireEvent → List (Row I) → Type 0
AreServed {I = I} r nodes events rows = (channel : ℕ) (i : I) → found channel rows ≡ Some i → nodes.served events channel ≡ r.all i

-- calls that are puts and shuttings
pub record GivesUpSo (nodes : Nodes) (calls more : List WireCall) : Type 0 where
  pub in_place : EachBehind (IsInPlace nodes) calls more
  pub no_event : events_in more ≡ []
  pub sound : list_any fails more ≡ false
  pub inside : list_any reaches_out more ≡ false

-- calls on the channels of these wires alone
pub record AreAmong {I : Type 0} (ideals : List (Row I)) (calls : List WireCall) : Type 0 where
  pub spares : (channel : ℕ) → found channel ideals ≡ None → Spares channel calls
  pub no_event : events_in calls ≡ []
  pub sound : list_any fails calls ≡ false
  pub inside : list_any reaches_out calls ≡ false

pub record AreFlushed {I T : Type 0} (r : Relation I T) (nodes : Nodes) (low : ℕ) (ideals : List (Row I)) (news : List (Row T)) (calls more : List WireCall) : Type 0 where
  pub lines : Stand r (calls ++ more) low ideals news
  pub flushed : AllFlushed r.has (calls ++ more) news
  pub in_place : EachBehind (IsInPlace nodes) calls more
  pub among : AreAmong ideals more
  pub rising : (before : List ℕ) → PutsRising low before more

-- a wire behind another is found among all
served_later : {I T : Type 0} → (r : Relation I T) (nodes : Nodes) (events : List WireEvent) (calls : List WireCall) (ideal : Row I) (ideals : List (Row I)) (reals : List (Row T))
    → Stand r calls (ideal.channel + 1) ideals reals → AreServed r nodes events (ideal ∷ ideals) → AreServed r nodes events ideals
served_later r nodes events calls ideal ideals reals rest served channel i there = by_flag (ideal.channel == channel) refl
  where
    by_flag : (flag : Bool) → (ideal.channel == channel) ≡ flag → nodes.served events channel ≡ r.all i
    by_flag true here =
        let at : ideal.channel ≡ channel = eqb-true ideal.channel channel here in
        let missing = missing_below r calls (ideal.channel + 1) ideals reals rest channel (omega (arith, at)) in
        absurd (none-some i (sym missing.ideal ∙ there))
    by_flag false away = served channel i (found_later channel ideal ideals away ∙ there)

among_later : {I : Type 0} → (ideal : Row I) (ideals : List (Row I)) (calls : List WireCall) → AreAmong ideals calls → (channel : ℕ) → found channel (ideal ∷ ideals) ≡ None → Spares channel calls
among_later ideal ideals calls among channel missing = by_flag (ideal.channel == channel) refl
  where
    by_flag : (flag : Bool) → (ideal.channel == channel) ≡ flag → Spares channel calls
    by_flag true here = absurd (none-some ideal.item (sym missing ∙ found_here channel ideal ideals here))
    by_flag false away = among.spares channel (sym (found_later channel ideal ideals away) ∙ missing)

not_this : {I : Type 0} → (ideal : Row I) (ideals : List (Row I)) (channel : ℕ) → found channel (ideal ∷ ideals) ≡ None → channel ≢ ideal.channel
not_this ideal ideals channel missing same = none-some ideal.item (sym missing ∙ found_here channel ideal ideals (eq-eqb ideal.channel channel (sym same)))

-- what a flush of one wire calls
first_served : {I T : Type 0} → (r : Relation I T) (nodes : Nodes) (events : List WireEvent) (ideal : Row I) (ideals : List (Row I)) → AreServed r nodes events (ideal ∷ ideals)
    → nodes.served events ideal.channel ≡ r.all ideal.item
first_served r nodes events ideal ideals served = served ideal.channel ideal.item (found_here ideal.channel ideal ideals (eq-eqb ideal.channel ideal.channel refl))

apart : {I T : Type 0} → (r : Relation I T) → KeepsOn r → (low : ℕ) (calls first : List WireCall) (ideal : Row I) (real : Row T) (outbox : OutboxValue) → IsKept r calls low ideal real
    → Flushes (r.has.outbox real.item) outbox first → (channel : ℕ) → channel ≢ ideal.channel → Spares channel first
apart r on low calls first ideal real outbox k flush channel differs =
    (on.laws.alone (r.has.outbox real.item).channel first (on.laws.on_one (r.has.outbox real.item) outbox first flush)).spares channel
    (λ same. differs (same ∙ on.at ideal.channel ideal.item real.item calls k.keeps))

-- all that stands behind a wire, after it was flushed
behind : {I T : Type 0} → (r : Relation I T) → KeepsOn r → (low : ℕ) (calls first : List WireCall) (ideal : Row I) (real : Row T) (outbox : OutboxValue) (is : List (Row I)) (rs : List (Row T))
    → IsKept r calls low ideal real → Flushes (r.has.outbox real.item) outbox first → Stand r calls (ideal.channel + 1) is rs → Stand r (calls ++ first) (ideal.channel + 1) is rs
behind r on low calls first ideal real outbox is rs k flush rest =
    stand_more r on calls first (ideal.channel + 1) is rs (λ channel above. apart r on low calls first ideal real outbox k flush channel (λ same. absurd (omega (arith, above, same)))) rest

served_then : {I T : Type 0} → (r : Relation I T) → WireLaws → (nodes : Nodes) (calls first : List WireCall) (real : Row T) (outbox : OutboxValue) (rows : List (Row I))
    → Flushes (r.has.outbox real.item) outbox first → AreServed r nodes (events_in calls) rows → AreServed r nodes (events_in (calls ++ first)) rows
served_then r laws nodes calls first real outbox rows flush served =
    subst (λ (es : List WireEvent). AreServed r nodes es rows)
    (sym (same_events calls first (laws.alone (r.has.outbox real.item).channel first (laws.on_one (r.has.outbox real.item) outbox first flush)).no_event)) served

-- one wire, and then the others
flushed_kept : {I T : Type 0} → (r : Relation I T) → KeepsOn r → (nodes : Nodes) (calls first rest : List WireCall) (low : ℕ) (ideal : Row I) (real : Row T) (outbox : OutboxValue)
    (is : List (Row I)) (news : List (Row T)) → nodes.served (events_in calls) ideal.channel ≡ r.all ideal.item → IsKept r calls low ideal real → Flushes (r.has.outbox real.item) outbox first
    → Spares ideal.channel rest → AreFlushed r nodes (ideal.channel + 1) is news (calls ++ first) rest
    → AreFlushed r nodes low (ideal ∷ is) (with_item (r.has.with_outbox outbox real.item) real ∷ news) calls (first ++ rest)
flushed_kept {I = I} {T = T} r on nodes calls first rest low ideal real outbox is news served k flush spared later =
    let old : OutboxValue = r.has.outbox real.item in
    let new : T = r.has.with_outbox outbox real.item in
    let row : Row T = with_item new real in
    let alone = on.laws.alone old.channel first (on.laws.on_one old outbox first flush) in
    let put_so : r.Keeps ideal.channel ideal.item new (calls ++ first) = on.flushing ideal.channel ideal.item real.item outbox calls first flush k.keeps in
    let at : (r.has.outbox new).channel ≡ ideal.channel = on.at ideal.channel ideal.item new (calls ++ first) put_so in
    let joined : (calls ++ first) ++ rest ≡ calls ++ (first ++ rest) = append_assoc calls first rest in
    let after : r.Keeps ideal.channel ideal.item new ((calls ++ first) ++ rest) = on.others ideal.channel ideal.item new (calls ++ first) rest spared put_so in
    let done : IsFlushed (r.has.outbox new) ((calls ++ first) ++ rest) =
    on.laws.stays (r.has.outbox new) (calls ++ first) rest (subst (λ (k : ℕ). Spares k rest) (sym at) spared) later.among.no_event
    (on.flushed ideal.channel ideal.item real.item outbox calls first flush k.keeps) in
    record {
      lines = subst (λ (cs : List WireCall). Stand r cs low (ideal ∷ is) (row ∷ news)) joined
          (kept low ideal row is news (record { above = k.above; same = k.same; keeps = after }) later.lines);
      flushed = subst (λ (cs : List WireCall). AllFlushed r.has cs (row ∷ news)) joined (done, later.flushed);
      in_place = each_both (IsInPlace nodes) calls first rest
          (on.in_place nodes ideal.channel ideal.item real.item outbox calls first served flush k.keeps) later.in_place;
      among = record {
        spares = λ channel missing. none_of_both (is_on channel) first rest (apart r on low calls first ideal real outbox k flush channel (not_this ideal is channel missing))
            (among_later ideal is rest later.among channel missing);
        no_event = same_events first rest later.among.no_event ∙ alone.no_event;
        sound = none_of_both fails first rest alone.sound later.among.sound;
        inside = none_of_both reaches_out first rest alone.inside later.among.inside;
      };
      rising = λ before. rising_behind low ideal.channel before first rest k.above
          (subst (λ (k : ℕ). (fold put_on before first ≡ before) ⊎ (fold put_on before first ≡ before ++ k ∷ [])) (on.at ideal.channel ideal.item real.item calls k.keeps)
          (on.laws.once old outbox first before flush))
          (later.rising (fold put_on before first));
    }

flushed_gone : {I T : Type 0} → (r : Relation I T) → KeepsOn r → (nodes : Nodes) (calls more : List WireCall) (low : ℕ) (ideal : Row I) (is : List (Row I)) (news : List (Row T))
    → IsGone r calls low ideal → Spares ideal.channel more → AreFlushed r nodes (ideal.channel + 1) is news calls more → AreFlushed r nodes low (ideal ∷ is) news calls more
flushed_gone r on nodes calls more low ideal is news lost spared later =
    record {
      lines = gone low ideal is news
          (record { above = lost.above; last = lost.last; shut = lost.shut; keeps = on.others ideal.channel ideal.item lost.last calls more spared lost.keeps }) later.lines;
      flushed = later.flushed;
      in_place = later.in_place;
      among = record {
        spares = λ channel missing. among_later ideal is more later.among channel missing;
        no_event = later.among.no_event;
        sound = later.among.sound;
        inside = later.among.inside;
      };
      rising = λ before. let p = later.rising before in
          record { channels = p.channels; puts = p.puts; rises = rises_lower (ideal.channel + 1) low p.channels (omega (arith, lost.above)) p.rises };
    }

-- what the others come to, whatever was called before them
abbrev FlushesBehind : {I T : Type 0} → Relation I T → Nodes → ℕ → List (Row I) → Type 0
FlushesBehind {T = T} r nodes low ideals = (calls more : List WireCall) (olds news : List (Row T)) → AreServed r nodes (events_in calls) ideals → Stand r calls low ideals olds
    → FlushesAll r.has olds news more → AreFlushed r nodes low ideals news calls more

flush_last : {I T : Type 0} → (r : Relation I T) (nodes : Nodes) (calls more : List WireCall) (low : ℕ) (olds news : List (Row T)) → olds ≡ [] → FlushesAll r.has olds news more
    → AreFlushed r nodes low [] news calls more
flush_last r nodes calls more low olds news nothing no_rows =
    record {
      lines = none low;
      flushed = tt;
      in_place = each_none (IsInPlace nodes) calls;
      among = record { spares = λ channel missing. refl; no_event = refl; sound = refl; inside = refl };
      rising = λ before. record { channels = []; puts = sym (append-nil before); rises = tt };
    }
flush_last r nodes calls more low olds news nothing (one_more row outbox olds2 news2 first later flush flushes) = absurd cc

flush_kept : {I T : Type 0} → (r : Relation I T) → KeepsOn r → (nodes : Nodes) (calls more : List WireCall) (low : ℕ) (ideal : Row I) (real : Row T) (is : List (Row I)) (rs olds news : List (Row T))
    → AreServed r nodes (events_in calls) (ideal ∷ is) → olds ≡ real ∷ rs → IsKept r calls low ideal real → Stand r calls (ideal.channel + 1) is rs → FlushesAll r.has olds news more
    → FlushesBehind r nodes (ideal.channel + 1) is → AreFlushed r nodes low (ideal ∷ is) news calls more
flush_kept r on nodes calls more low ideal real is rs olds news served same k rest no_rows others = absurd cc
flush_kept {T = T} r on nodes calls more low ideal real is rs olds news served same k rest (one_more row outbox olds2 news2 first later flush flushes) others =
    let here : row ≡ real = cc in
    let there : olds2 ≡ rs = cc in
    let flush_so = subst (λ (x : Row T). Flushes (r.has.outbox x.item) outbox first) here flush in
    let behind_it = others (calls ++ first) later rs news2
    (served_then r on.laws nodes calls first real outbox is flush_so (served_later r nodes (events_in calls) calls ideal is rs rest served))
    (behind r on low calls first ideal real outbox is rs k flush_so rest) (subst (λ (rows : List (Row T)). FlushesAll r.has rows news2 later) there flushes) in
    let missing = missing_below r calls (ideal.channel + 1) is rs rest ideal.channel (omega arith) in
    subst (λ (x : Row T). AreFlushed r nodes low (ideal ∷ is) (with_item (r.has.with_outbox outbox x.item) x ∷ news2) calls (first ++ later)) (sym here)
    (flushed_kept r on nodes calls first later low ideal real outbox is news2 (first_served r nodes (events_in calls) ideal is served) k flush_so
    (behind_it.among.spares ideal.channel missing.ideal) behind_it)

flush_next : {I T : Type 0} → (r : Relation I T) → KeepsOn r → (nodes : Nodes) (calls more : List WireCall) (low : ℕ) (ideal : Row I) (is : List (Row I)) (olds news : List (Row T))
    → AreServed r nodes (events_in calls) (ideal ∷ is) → NextStand r calls low ideal is olds → FlushesAll r.has olds news more → FlushesBehind r nodes (ideal.channel + 1) is
    → AreFlushed r nodes low (ideal ∷ is) news calls more
flush_next r on nodes calls more low ideal is olds news served (next_kept real rs same k rest) flushes others =
    flush_kept r on nodes calls more low ideal real is rs olds news served same k rest flushes others
flush_next r on nodes calls more low ideal is olds news served (next_gone lost rest) flushes others =
    let behind_it = others calls more olds news (served_later r nodes (events_in calls) calls ideal is olds rest served) rest flushes in
    let missing = missing_below r calls (ideal.channel + 1) is olds rest ideal.channel (omega arith) in
    flushed_gone r on nodes calls more low ideal is news lost (behind_it.among.spares ideal.channel missing.ideal) behind_it

pub flush_keeps : {I T : Type 0} → (r : Relation I T) → KeepsOn r → (nodes : Nodes) (calls more : List WireCall) (low : ℕ) (ideals : List (Row I)) (olds news : List (Row T))
    → AreServed r nodes (events_in calls) ideals → Stand r calls low ideals olds → FlushesAll r.has olds news more → AreFlushed r nodes low ideals news calls more
flush_keeps r on nodes calls more low [] olds news served stand flushes = flush_last r nodes calls more low olds news (no_stand r calls low olds stand) flushes
flush_keeps r on nodes calls more low (ideal ∷ is) olds news served stand flushes =
    flush_next r on nodes calls more low ideal is olds news served (next_stand r calls low ideal is olds stand) flushes
    (λ calls2 more2 olds2 news2 served2 stand2 flushes2. flush_keeps r on nodes calls2 more2 (ideal.channel + 1) is olds2 news2 served2 stand2 flushes2)

-- ---- memory was wanting while the wires were flushed

give_up_one : {I T : Type 0} → (r : Relation I T) → KeepsOn r → (nodes : Nodes) (calls rest : List WireCall) (low : ℕ) (ideal : Row I) (real : Row T)
    → nodes.served (events_in calls) ideal.channel ≡ r.all ideal.item → IsKept r calls low ideal real → IsGivenUp (r.has.outbox real.item) rest → GivesUpSo nodes calls rest
give_up_one r on nodes calls rest low ideal real served k up =
    let old : OutboxValue = r.has.outbox real.item in
    let alone = on.laws.alone old.channel rest (on.laws.given_up_on old rest up) in
    record {
      in_place = on.gives_up nodes ideal.channel ideal.item real.item calls rest served up k.keeps;
      no_event = alone.no_event;
      sound = alone.sound;
      inside = alone.inside;
    }

give_up_behind : (nodes : Nodes) (calls first rest : List WireCall)
    → EachBehind (IsInPlace nodes) calls first → events_in first ≡ [] → list_any fails first ≡ false → list_any reaches_out first ≡ false
    → GivesUpSo nodes (calls ++ first) rest → GivesUpSo nodes calls (first ++ rest)
give_up_behind nodes calls first rest here no_event sound inside later =
    record {
      in_place = each_both (IsInPlace nodes) calls first rest here later.in_place;
      no_event = same_events first rest later.no_event ∙ no_event;
      sound = none_of_both fails first rest sound later.sound;
      inside = none_of_both reaches_out first rest inside later.inside;
    }

abbrev GivesUpBehind : {I T : Type 0} → Relation I T → Nodes → ℕ → List (Row I) → Type 0
GivesUpBehind {T = T} r nodes low ideals = (calls first rest : List WireCall) (before news : List (Row T)) (row : Row T) (after olds : List (Row T)) → AreServed r nodes (events_in calls) ideals
    → olds ≡ before ++ row ∷ after → Stand r calls low ideals olds → FlushesAll r.has before news first → IsGivenUp (r.has.outbox row.item) rest → GivesUpSo nodes calls (first ++ rest)

gives_up_kept : {I T : Type 0} → (r : Relation I T) → KeepsOn r → (nodes : Nodes) (calls first rest : List WireCall) (low : ℕ) (ideal : Row I) (real : Row T) (is : List (Row I))
    (rs before news : List (Row T)) (row : Row T) (after : List (Row T))
    → AreServed r nodes (events_in calls) (ideal ∷ is) → real ∷ rs ≡ before ++ row ∷ after → IsKept r calls low ideal real → Stand r calls (ideal.channel + 1) is rs
    → FlushesAll r.has before news first → IsGivenUp (r.has.outbox row.item) rest → GivesUpBehind r nodes (ideal.channel + 1) is → GivesUpSo nodes calls (first ++ rest)
gives_up_kept {T = T} r on nodes calls first rest low ideal real is rs before news row after served same k stand no_rows up others =
    let here : row ≡ real = cc in
    give_up_one r on nodes calls rest low ideal real (first_served r nodes (events_in calls) ideal is served) k (subst (λ (x : Row T). IsGivenUp (r.has.outbox x.item) rest) here up)
gives_up_kept {T = T} r on nodes calls first rest low ideal real is rs before news row after served same k stand (one_more x outbox olds2 news2 first2 later flush flushes) up others =
    let here : x ≡ real = cc in
    let tail : rs ≡ olds2 ++ row ∷ after = cc in
    let old : OutboxValue = r.has.outbox real.item in
    let flush_so = subst (λ (y : Row T). Flushes (r.has.outbox y.item) outbox first2) here flush in
    let alone = on.laws.alone old.channel first2 (on.laws.on_one old outbox first2 flush_so) in
    let first_one = first_served r nodes (events_in calls) ideal is served in
    let up_later = others (calls ++ first2) later rest olds2 news2 row after rs
    (served_then r on.laws nodes calls first2 real outbox is flush_so (served_later r nodes (events_in calls) calls ideal is rs stand served)) tail
    (behind r on low calls first2 ideal real outbox is rs k flush_so stand) flushes up in
    subst (λ (cs : List WireCall). GivesUpSo nodes calls cs) (sym (append_assoc first2 later rest))
    (give_up_behind nodes calls first2 (later ++ rest)
    (on.in_place nodes ideal.channel ideal.item real.item outbox calls first2 first_one flush_so k.keeps) alone.no_event alone.sound alone.inside up_later)

gives_up_next : {I T : Type 0} → (r : Relation I T) → KeepsOn r → (nodes : Nodes) (calls first rest : List WireCall) (low : ℕ) (ideal : Row I) (is : List (Row I))
    (before news : List (Row T)) (row : Row T) (after olds : List (Row T))
    → AreServed r nodes (events_in calls) (ideal ∷ is) → olds ≡ before ++ row ∷ after → NextStand r calls low ideal is olds
    → FlushesAll r.has before news first → IsGivenUp (r.has.outbox row.item) rest → GivesUpBehind r nodes (ideal.channel + 1) is → GivesUpSo nodes calls (first ++ rest)
gives_up_next r on nodes calls first rest low ideal is before news row after olds served same (next_kept real rs first_is k stand) flushes up others =
    gives_up_kept r on nodes calls first rest low ideal real is rs before news row after served (sym first_is ∙ same) k stand flushes up others
gives_up_next r on nodes calls first rest low ideal is before news row after olds served same (next_gone lost stand) flushes up others =
    others calls first rest before news row after olds (served_later r nodes (events_in calls) calls ideal is olds stand served) same stand flushes up

never_none : {T : Type 0} → (before : List (Row T)) (row : Row T) (after olds : List (Row T)) → olds ≡ [] → olds ≡ before ++ row ∷ after → ⊥
never_none [] row after olds nothing same = absurd cc
never_none (first ∷ before) row after olds nothing same = absurd cc

gives_up_by : {I T : Type 0} → (r : Relation I T) → KeepsOn r → (nodes : Nodes) (calls first rest : List WireCall) (low : ℕ) (ideals : List (Row I))
    (before news : List (Row T)) (row : Row T) (after olds : List (Row T)) → AreServed r nodes (events_in calls) ideals → olds ≡ before ++ row ∷ after → Stand r calls low ideals olds
    → FlushesAll r.has before news first → IsGivenUp (r.has.outbox row.item) rest → GivesUpSo nodes calls (first ++ rest)
gives_up_by r on nodes calls first rest low [] before news row after olds served same stand flushes up = absurd (never_none before row after olds (no_stand r calls low olds stand) same)
gives_up_by r on nodes calls first rest low (ideal ∷ is) before news row after olds served same stand flushes up =
    gives_up_next r on nodes calls first rest low ideal is before news row after olds served same (next_stand r calls low ideal is olds stand) flushes up
    (λ calls2 first2 rest2 before2 news2 row2 after2 olds2 served2 same2 stand2 flushes2 up2.
    gives_up_by r on nodes calls2 first2 rest2 (ideal.channel + 1) is before2 news2 row2 after2 olds2 served2 same2 stand2 flushes2 up2)

pub gives_up : {I T : Type 0} → (r : Relation I T) → KeepsOn r → (nodes : Nodes) (calls more : List WireCall) (low : ℕ) (ideals : List (Row I)) (olds : List (Row T))
    → AreServed r nodes (events_in calls) ideals → Stand r calls low ideals olds → GivesUpAll r.has olds more → GivesUpSo nodes calls more
gives_up r on nodes calls more low ideals olds served stand u =
    subst (λ (cs : List WireCall). GivesUpSo nodes calls cs) (sym u.called)
    (gives_up_by r on nodes calls u.first u.rest low ideals u.before u.news u.row u.behind olds served u.split stand u.flushes u.given_up)
