-- No call of a turn listens, and behind the event and its connects there are puts.
use Rattle.std.proofs.Common.{◌≡◌, ℕ, Bool, false, List, [], ◌∷◌, ◌++◌, refl, sym, ap, ◌∙◌, subst}
use Rattle.std.specs.List.{list_any}
use Rattle.std.proofs.lemmas.Bool.{false≢true}
use Rattle.tcf_wires.specs.declared.call.WireCall.{WireCall}
use Rattle.tcf_wires.specs.declared.call.WireCall.TheVariants.{Listened, Connected, Gave, Offered, Shut}
use Rattle.serving_wires.specs.Flushing.{FlushesAll, GivesUpAll, HasOutbox, its_own, no_rows, one_more}
use Rattle.serving_wires.specs.Going.{Goes, answered, here, told}
use Rattle.serving_wires.specs.Process.{Process}
use Rattle.serving_wires.specs.Program.{Behaviour}
use Rattle.serving_wires.specs.Row.{Row}
use Rattle.serving_wires.specs.Following.{AreOn}
use Rattle.serving_wires.specs.Serving.{fails, listens, reaches_out}
use Rattle.serving_wires.specs.Turn.{IsCutShort, IsTurn, Now, at_event, at_puts, before_event}
use Rattle.serving_wires.specs.WireLaws.{WireLaws}
use Rattle.serving_wires.proofs.Leading.{Rows}
use Rattle.serving_wires.proofs.Placed.{ArePuts}
use Rattle.serving_wires.proofs.Spared.{none_of_both, same_events}
use Rattle.serving_wires.proofs.Turns.{gave}

no_listening_in : (calls : List WireCall) → list_any reaches_out calls ≡ false → list_any listens calls ≡ false
no_listening_in [] inside = refl
no_listening_in (Listened address answer ∷ calls) inside = absurd (false≢true (sym inside))
no_listening_in (Connected peer answer ∷ calls) inside = absurd (false≢true (sym inside))
no_listening_in (Gave answer ∷ calls) inside = no_listening_in calls inside
no_listening_in (Offered channel piece answer ∷ calls) inside = no_listening_in calls inside
no_listening_in (Shut channel ∷ calls) inside = no_listening_in calls inside

pub goes_inside : {A : Type 0} → (peer : List ℕ) (n m : ℕ) (p q : Process A) (olds news : Rows) (calls : List WireCall) → Goes peer n m p q olds news calls → list_any listens calls ≡ false
goes_inside peer n m p q olds news calls (here u p2 rows) = refl
goes_inside peer n m p q olds news calls (told u l order p2 q2 os ns cs goes) = goes_inside peer n m p2 q _ news cs goes
goes_inside peer n m p q olds news calls (answered u l answer next q2 os ns cs fits goes) = goes_inside peer _ m (next answer) q _ news cs goes

pub both_are_puts : (first rest : List WireCall) → ArePuts first → ArePuts rest → ArePuts (first ++ rest)
both_are_puts first rest one more = record {
  no_event = same_events first rest more.no_event ∙ one.no_event;
  sound = none_of_both fails first rest one.sound more.sound;
  inside = none_of_both reaches_out first rest one.inside more.inside;
}

on_one_are : WireLaws → (channel : ℕ) (calls : List WireCall) → AreOn channel calls → ArePuts calls
on_one_are laws channel calls on = let a = laws.alone channel calls on in record { no_event = a.no_event; sound = a.sound; inside = a.inside }

pub flushes_are : {T : Type 0} → WireLaws → (has : HasOutbox T) (olds news : List (Row T)) (calls : List WireCall) → FlushesAll has olds news calls → ArePuts calls
flushes_are laws has olds news calls no_rows = record { no_event = refl; sound = refl; inside = refl }
flushes_are laws has olds news calls (one_more row outbox olds2 news2 first rest flush more) =
    both_are_puts first rest (on_one_are laws (has.outbox row.item).channel first (laws.on_one (has.outbox row.item) outbox first flush)) (flushes_are laws has olds2 news2 rest more)

pub given_up_are : {T : Type 0} → WireLaws → (has : HasOutbox T) (olds : List (Row T)) (calls : List WireCall) → GivesUpAll has olds calls → ArePuts calls
given_up_are laws has olds calls up =
    subst ArePuts (sym up.called)
    (both_are_puts up.first up.rest (flushes_are laws has up.before up.news up.first up.flushes)
    (on_one_are laws (has.outbox up.row.item).channel up.rest (laws.given_up_on (has.outbox up.row.item) up.rest up.given_up)))

-- an event, connects and puts
parts_inside : (connects puts calls : List WireCall) → list_any listens connects ≡ false → list_any reaches_out puts ≡ false → calls ≡ connects ++ puts → list_any listens calls ≡ false
parts_inside connects puts calls first second called =
    subst (λ (cs : List WireCall). list_any listens cs ≡ false) (sym called) (none_of_both listens connects puts first (no_listening_in puts second))

pub turn_inside : {A : Type 0} → WireLaws → (b : Behaviour A) (old new : Now A) (unused later : ℕ) (is_last : Bool) (calls : List WireCall) → IsTurn b old new unused later is_last calls
    → list_any listens calls ≡ false
turn_inside laws b old new unused later is_last calls t =
    parts_inside (gave t.event ∷ t.connects) t.puts calls (goes_inside _ _ _ _ _ _ _ t.connects t.goes) (flushes_are laws its_own t.sending t.flushes.flushed t.puts t.flushes.flushes).inside t.called

pub cut_inside : {A : Type 0} → WireLaws → (b : Behaviour A) (old : Now A) (unused : ℕ) (calls : List WireCall) → IsCutShort b old unused calls → list_any listens calls ≡ false
cut_inside laws b old unused calls (before_event nothing) = ap (list_any listens) nothing
cut_inside laws b old unused calls (at_event event connects can breaks called) =
    ap (list_any listens) called ∙ goes_inside _ _ _ _ _ _ _ connects breaks.goes
cut_inside laws b old unused calls (at_puts event later new sending connects puts can goes up called) =
    parts_inside (gave event ∷ connects) puts calls (goes_inside _ _ _ _ _ _ _ connects goes) (given_up_are laws its_own sending puts up).inside called
