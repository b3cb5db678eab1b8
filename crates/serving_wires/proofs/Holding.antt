-- What a program keeps with its wires, whatever is heard, where each wire has a channel of its own; and one that never asks.
use Rattle.std.proofs.Common.{◌≡◌, ℕ, ◌==◌, Bool, true, false, ◌||◌, ◌⊎◌, List, [], ◌∷◌, ◌++◌, None, refl, sym, ap, ◌∙◌, inl, inr, subst, append-nil, append_assoc}
use Rattle.std.specs.Prelude.{Ok, Err, fold}
use Rattle.std.specs.List.{IsDistinct, list_any}
use Rattle.std.proofs.lemmas.Bool.{false≢true, or_parts}
use Rattle.std.proofs.lemmas.List.{map-append}
use Rattle.list_laws.proofs.AllLists.{all_at, all_left}
use Rattle.list_laws.proofs.Flags.{not_both}
use Rattle.tcf_wires.specs.declared.call.WireCall.{WireCall}
use Rattle.tcf_wires.specs.declared.call.WireCall.TheVariants.{Listened, Connected, Gave, Offered, Shut}
use Rattle.tcf_wires.specs.declared.event.WireEvent.{WireEvent}
use Rattle.tcf_wires.specs.declared.event.WireEvent.TheVariants as events
use Rattle.serving_wires.specs.Process.{Answer, Process, and_then, asks, done, tells}
use Rattle.serving_wires.specs.Flushing.{its_own}
use Rattle.serving_wires.specs.Going.{Goes, answered as has_answered, here, told}
use Rattle.serving_wires.specs.Program.{Behaviour, Program}
use Rattle.serving_wires.specs.Turn.{IsCutShort, IsTurn, Now, at_event, at_puts, before_event}
use Rattle.serving_wires.specs.WireLaws.{WireLaws}
use Rattle.serving_wires.proofs.Inside.{flushes_are, given_up_are}
use Rattle.serving_wires.proofs.Leading.{Rows}
use Rattle.serving_wires.specs.Row.{Row}
use Rattle.serving_wires.specs.Serve.{IsInPlace, Serves}
use Rattle.serving_wires.specs.Serving.{breaks, fails, listens, reaches_out}
use Rattle.serving_wires.specs.Standing.{Heard, State, Wire, after, after_one, answered, at_first, came, heard_in, is_resting, landed, rests, sent_in, sent_with, standing_in, waits, wires_after, wires_with, with_wire}
use Rattle.serving_wires.proofs.Apart.{landed_numbers, same_channel}
use Rattle.serving_wires.proofs.Coming.{ComesTo}
use Rattle.serving_wires.proofs.Placed.{ArePuts}
use Rattle.serving_wires.proofs.Rows.{found, is_among, missing_if, numbers}
use Rattle.serving_wires.proofs.Turns.{gave}
use Rattle.serving_wires.proofs.Wires.{Wires, piece_numbers}

-- ---- what a process leads to, with the wires

abbrev pub IsNew : Answer → Wires → Type 0
IsNew (Ok channel) sent = found channel sent ≡ None
IsNew (Err refusal) sent = Unit {0}

abbrev pub IsFresh : WireEvent → Wires → Type 0
IsFresh (events.Opened channel) sent = found channel sent ≡ None
IsFresh (events.Piece channel bytes) sent = Unit {0}
IsFresh (events.Ended channel) sent = Unit {0}
IsFresh (events.Lost channel) sent = Unit {0}
IsFresh events.Idle sent = Unit {0}
IsFresh events.Stop sent = Unit {0}

abbrev pub LeadsTo : {A : Type 0} → (A → Wires → Type 0) → Process A → Wires → Type 0
LeadsTo Q (done a) sent = Q a sent
LeadsTo Q (tells order p) sent = LeadsTo Q p (sent_with order sent)
LeadsTo Q (asks next) sent = (answer : Answer) → IsNew answer sent → LeadsTo Q (next answer) (wires_after answer sent)

pub leads_on : {A B : Type 0} → (Q : A → Wires → Type 0) (R : B → Wires → Type 0) (p : Process A) (later : A → Process B) (sent : Wires) → LeadsTo Q p sent
    → ((a : A) (now : Wires) → Q a now → LeadsTo R (later a) now) → LeadsTo R (and_then p later) sent
leads_on Q R (done a) later sent leads so = so a sent leads
leads_on Q R (tells order p) later sent leads so = leads_on Q R p later (sent_with order sent) leads so
leads_on Q R (asks next) later sent leads so = λ answer new. leads_on Q R (next answer) later (wires_after answer sent) (leads answer new) so

-- ---- the channels of the wires

distinct_front : (xs ys : List ℕ) → IsDistinct same_channel (xs ++ ys) → IsDistinct same_channel xs
unfolding IsDistinct
distinct_front [] ys all = tt
distinct_front (x ∷ xs) ys all = (all_left (λ y. (x == y) ≡ false) xs ys all.0, distinct_front xs ys all.1)

distinct_last : (xs : List ℕ) (y : ℕ) → IsDistinct same_channel (xs ++ y ∷ []) → is_among y xs ≡ false
unfolding IsDistinct
distinct_last [] y all = refl
distinct_last (x ∷ xs) y all = ap (λ (b : Bool). b || is_among y xs) (all_at (λ z. (x == z) ≡ false) xs [] y all.0) ∙ distinct_last xs y all.1

with_numbers : (channel : ℕ) (sent : Wires) → numbers (with_wire channel sent) ≡ numbers sent ++ channel ∷ []
with_numbers channel sent = map-append (λ (r : Row Wire). r.channel) sent _

abbrev AreMore : Wires → Wires → Type 0
AreMore sent later = (more : List ℕ) × (numbers later ≡ numbers sent ++ more)

no_more : (sent : Wires) → AreMore sent sent
no_more sent = ([], sym (append-nil (numbers sent)))

one_more : (channel : ℕ) (sent : Wires) → AreMore sent (with_wire channel sent)
one_more channel sent = (channel ∷ [], with_numbers channel sent)

event_more : (event : WireEvent) (sent : Wires) → AreMore sent (wires_with event sent)
event_more (events.Opened channel) sent = one_more channel sent
event_more (events.Piece channel bytes) sent = ([], piece_numbers channel bytes sent ∙ sym (append-nil (numbers sent)))
event_more (events.Ended channel) sent = no_more sent
event_more (events.Lost channel) sent = no_more sent
event_more events.Idle sent = no_more sent
event_more events.Stop sent = no_more sent

answer_more : (answer : Answer) (sent : Wires) → AreMore sent (wires_after answer sent)
answer_more (Ok channel) sent = one_more channel sent
answer_more (Err refusal) sent = no_more sent

state_more : {A : Type 0} → (program : Program A) (state : State A) (heard : Heard) → AreMore (sent_in state) (sent_in (after_one program state heard))
state_more program (rests s) (came event) =
    let m = event_more event s.sent in (m.0, landed_numbers s.served (wires_with event s.sent) (program.behaviour.handled event s.served) ∙ m.1)
state_more program (rests s) (answered answer) = no_more s.sent
state_more program (waits s next) (came event) = no_more s.sent
state_more program (waits s next) (answered answer) =
    let m = answer_more answer s.sent in (m.0, landed_numbers s.served (wires_after answer s.sent) (next answer) ∙ m.1)

abbrev AreOwn : Wires → Type 0
AreOwn sent = IsDistinct same_channel (numbers sent)

before_more : (sent later : Wires) → AreMore sent later → AreOwn later → AreOwn sent
before_more sent later more all = distinct_front (numbers sent) more.0 (subst (IsDistinct same_channel) more.1 all)

new_wire : (channel : ℕ) (sent : Wires) → AreOwn (with_wire channel sent) → found channel sent ≡ None
new_wire channel sent all = missing_if channel sent (distinct_last (numbers sent) channel (subst (IsDistinct same_channel) (with_numbers channel sent) all))

event_fresh : (event : WireEvent) (sent : Wires) → AreOwn (wires_with event sent) → IsFresh event sent
event_fresh (events.Opened channel) sent all = new_wire channel sent all
event_fresh (events.Piece channel bytes) sent all = tt
event_fresh (events.Ended channel) sent all = tt
event_fresh (events.Lost channel) sent all = tt
event_fresh events.Idle sent all = tt
event_fresh events.Stop sent all = tt

answer_new : (answer : Answer) (sent : Wires) → AreOwn (wires_after answer sent) → IsNew answer sent
answer_new (Ok channel) sent all = new_wire channel sent all
answer_new (Err refusal) sent all = tt

-- what is heard next opens no wire on a channel that has one
abbrev pub IsNewIn : {A : Type 0} → State A → Heard → Type 0
IsNewIn (rests s) (came event) = IsFresh event s.sent
IsNewIn (rests s) (answered answer) = Unit {0}
IsNewIn (waits s next) (came event) = Unit {0}
IsNewIn (waits s next) (answered answer) = IsNew answer s.sent

state_new : {A : Type 0} → (program : Program A) (state : State A) (heard : Heard) → AreOwn (sent_in (after_one program state heard)) → IsNewIn state heard
state_new program (rests s) (came event) all =
    event_fresh event s.sent (subst (IsDistinct same_channel) (landed_numbers s.served (wires_with event s.sent) (program.behaviour.handled event s.served)) all)
state_new program (rests s) (answered answer) all = tt
state_new program (waits s next) (came event) all = tt
state_new program (waits s next) (answered answer) all =
    answer_new answer s.sent (subst (IsDistinct same_channel) (landed_numbers s.served (wires_after answer s.sent) (next answer)) all)

own_before : {A : Type 0} → (program : Program A) (heard : List Heard) (state : State A) → AreOwn (sent_in (fold (after_one program) state heard)) → AreOwn (sent_in state)
own_before program [] state all = all
own_before program (h ∷ heard) state all =
    let next = after_one program state h in before_more (sent_in state) (sent_in next) (state_more program state h) (own_before program heard next all)

-- what each thing that is heard keeps of a state is kept, whatever is heard
pub keeps_all : {A : Type 0} → (program : Program A) (Keeps : State A → Type 0) → ((state : State A) (heard : Heard) → IsNewIn state heard → Keeps state → Keeps (after_one program state heard))
    → (heard : List Heard) (state : State A) → AreOwn (sent_in (fold (after_one program) state heard)) → Keeps state → Keeps (fold (after_one program) state heard)
keeps_all program Keeps each [] state all keeps = keeps
keeps_all program Keeps each (h ∷ heard) state all keeps =
    let next = after_one program state h in keeps_all program Keeps each heard next all (each state h (state_new program state h (own_before program heard next all)) keeps)

-- ---- a program keeps what it leads to again with each event

abbrev pub Holds : {A : Type 0} → (A → Wires → Type 0) → State A → Type 0
Holds Q (rests s) = Q s.served s.sent
Holds Q (waits s next) = (answer : Answer) → IsNew answer s.sent → LeadsTo Q (next answer) (wires_after answer s.sent)

pub landed_holds : {A : Type 0} → (Q : A → Wires → Type 0) (a : A) (sent : Wires) (p : Process A) → LeadsTo Q p sent → Holds Q (landed a sent p)
landed_holds Q a sent (done new) leads = leads
landed_holds Q a sent (tells order p) leads = landed_holds Q a (sent_with order sent) p leads
landed_holds Q a sent (asks next) leads = leads

abbrev pub HoldsEach : {A : Type 0} → Program A → (A → Wires → Type 0) → Type 0
HoldsEach {A} program Q = (event : WireEvent) (a : A) (sent : Wires) → IsFresh event sent → Q a sent → LeadsTo Q (program.behaviour.handled event a) (wires_with event sent)

one_holds : {A : Type 0} → (program : Program A) (Q : A → Wires → Type 0) → HoldsEach program Q → (state : State A) (heard : Heard) → IsNewIn state heard → Holds Q state
    → Holds Q (after_one program state heard)
one_holds program Q each (rests s) (came event) new holds =
    landed_holds Q s.served (wires_with event s.sent) (program.behaviour.handled event s.served) (each event s.served s.sent new holds)
one_holds program Q each (rests s) (answered answer) new holds = holds
one_holds program Q each (waits s next) (came event) new holds = holds
one_holds program Q each (waits s next) (answered answer) new holds = landed_holds Q s.served (wires_after answer s.sent) (next answer) (holds answer new)

pub all_hold : {A : Type 0} → (program : Program A) (Q : A → Wires → Type 0) → HoldsEach program Q → (heard : List Heard) (state : State A)
    → AreOwn (sent_in (fold (after_one program) state heard)) → Holds Q state → Holds Q (fold (after_one program) state heard)
all_hold program Q each = keeps_all program (Holds Q) (one_holds program Q each)

pub holds_so : {A : Type 0} → (program : Program A) (Q : A → Wires → Type 0) → HoldsEach program Q → LeadsTo Q program.begins [] → (heard : List Heard)
    → AreOwn (sent_in (after program heard)) → Holds Q (after program heard)
holds_so program Q each begins heard all = all_hold program Q each heard (at_first program) all (landed_holds Q program.first [] program.begins begins)

-- ---- one that never asks rests, and never reaches out

abbrev pub NeverAsks : {A : Type 0} → Process A → Type 0
NeverAsks (done a) = Unit {0}
NeverAsks (tells order p) = NeverAsks p
NeverAsks (asks next) = ⊥

pub never_then : {A B : Type 0} → (p : Process A) (later : A → Process B) → NeverAsks p → ((a : A) → NeverAsks (later a)) → NeverAsks (and_then p later)
never_then (done a) later never each = each a
never_then (tells order p) later never each = never_then p later never each
never_then (asks next) later never each = absurd never

pub landed_rests : {A : Type 0} → (a : A) (sent : Wires) (p : Process A) → NeverAsks p → is_resting (landed a sent p) ≡ true
landed_rests a sent (done new) never = refl
landed_rests a sent (tells order p) never = landed_rests a (sent_with order sent) p never
landed_rests a sent (asks next) never = absurd never

abbrev pub NeverAsksEach : {A : Type 0} → Program A → Type 0
NeverAsksEach {A} program = (event : WireEvent) (a : A) → NeverAsks (program.behaviour.handled event a)

one_rests : {A : Type 0} → (program : Program A) → NeverAsksEach program → (state : State A) (heard : Heard) → is_resting state ≡ true → is_resting (after_one program state heard) ≡ true
one_rests program each (rests s) (came event) is = landed_rests s.served (wires_with event s.sent) (program.behaviour.handled event s.served) (each event s.served)
one_rests program each (rests s) (answered answer) is = refl
one_rests program each (waits s next) heard is = absurd (false≢true is)

pub all_rest : {A : Type 0} → (program : Program A) → NeverAsksEach program → (heard : List Heard) (state : State A) → is_resting state ≡ true → is_resting (fold (after_one program) state heard) ≡ true
all_rest program each [] state is = is
all_rest program each (h ∷ heard) state is = all_rest program each heard (after_one program state h) (one_rests program each state h is)

pub rests_always : {A : Type 0} → (program : Program A) → NeverAsksEach program → NeverAsks program.begins → (heard : List Heard) → is_resting (after program heard) ≡ true
rests_always program each begins heard = all_rest program each heard (at_first program) (landed_rests program.first [] program.begins begins)

reached : {A : Type 0} → (program : Program A) → ((heard : List Heard) → is_resting (after program heard) ≡ true) → (before : List WireCall) (call : WireCall) → IsInPlace program before call
    → listens call ≡ false → reaches_out call ≡ false
reached program always before (Listened address answer) place is = absurd (false≢true (sym is))
reached program always before (Connected peer answer) place is = absurd (not_both (always (heard_in before)) place.waited_for)
reached program always before (Gave answer) place is = refl
reached program always before (Offered channel piece answer) place is = refl
reached program always before (Shut channel) place is = refl

pub never_reaches : {A : Type 0} → (program : Program A) → ((heard : List Heard) → is_resting (after program heard) ≡ true) → (calls more : List WireCall) → Serves program (calls ++ more)
    → list_any listens more ≡ false → list_any reaches_out more ≡ false
never_reaches program always calls [] serves none = refl
never_reaches program always calls (call ∷ more) serves none =
    let parts = or_parts (listens call) (list_any listens more) none in
    ap (λ (b : Bool). b || list_any reaches_out more) (reached program always calls call (serves calls more call refl) parts.0)
    ∙ never_reaches program always (calls ++ call ∷ []) more (subst (Serves program) (sym (append_assoc calls (call ∷ []) more)) serves) parts.1

-- where none reaches out, what fails breaks
pub fails_so : (calls : List WireCall) → list_any reaches_out calls ≡ false → list_any fails calls ≡ list_any breaks calls
fails_so [] inside = refl
fails_so (call ∷ calls) inside =
    let parts = or_parts (reaches_out call) (list_any reaches_out calls) inside in
    ap (λ (b : Bool). b || list_any fails calls) (one_so call parts.0) ∙ ap (λ (b : Bool). breaks call || b) (fails_so calls parts.1)
  where
    one_so : (call : WireCall) → reaches_out call ≡ false → fails call ≡ breaks call
    one_so (Listened address answer) is = refl
    one_so (Connected peer answer) is = absurd (false≢true (sym is))
    one_so (Gave answer) is = refl
    one_so (Offered channel piece answer) is = refl
    one_so (Shut channel) is = refl

pub landed_so : {A : Type 0} → (Q : A → Type 0) (a : A) (sent : Wires) (p : Process A) → NeverAsks p → ComesTo Q p → Q (standing_in (landed a sent p)).served
landed_so Q a sent (done new) never comes = comes
landed_so Q a sent (tells order p) never comes = landed_so Q a (sent_with order sent) p never comes
landed_so Q a sent (asks next) never comes = absurd never

-- ---- the calls of its turn are an event, and puts

goes_never : {A : Type 0} → (peer : List ℕ) (n m : ℕ) (p q : Process A) (olds news : Rows) (calls : List WireCall) → Goes peer n m p q olds news calls → NeverAsks p → calls ≡ []
goes_never peer n m p q olds news calls (here u p2 rows) never = refl
goes_never peer n m p q olds news calls (told u l order p2 q2 os ns cs goes) never = goes_never peer n m p2 q _ news cs goes never
goes_never peer n m p q olds news calls (has_answered u l answer next q2 os ns cs fits goes) never = absurd never

pub record IsEventAndPuts (event : WireEvent) (calls : List WireCall) : Type 0 where
  pub puts : List WireCall
  pub called : calls ≡ gave event ∷ puts
  pub are : ArePuts puts

event_and_puts : (event : WireEvent) (connects puts calls : List WireCall) → connects ≡ [] → calls ≡ gave event ∷ (connects ++ puts) → ArePuts puts → IsEventAndPuts event calls
event_and_puts event connects puts calls none called are =
    record { puts = puts; called = called ∙ ap (λ (cs : List WireCall). gave event ∷ (cs ++ puts)) none; are = are }

pub turn_puts : {A : Type 0} → WireLaws → (b : Behaviour A) → ((event : WireEvent) (a : A) → NeverAsks (b.handled event a)) → (old new : Now A) (n m : ℕ) (is_last : Bool) (calls : List WireCall)
    → (t : IsTurn b old new n m is_last calls) → IsEventAndPuts t.event calls
turn_puts laws b never old new n m is_last calls t =
    event_and_puts t.event t.connects t.puts calls (goes_never _ _ _ _ _ _ _ t.connects t.goes (never t.event old.served)) t.called
    (flushes_are laws its_own t.sending t.flushes.flushed t.puts t.flushes.flushes)

-- where memory was wanting: nothing at all, or these
pub cut_puts : {A : Type 0} → WireLaws → (b : Behaviour A) → ((event : WireEvent) (a : A) → NeverAsks (b.handled event a)) → (old : Now A) (n : ℕ) (calls : List WireCall) → IsCutShort b old n calls
    → (calls ≡ []) ⊎ ((event : WireEvent) × IsEventAndPuts event calls)
cut_puts laws b never old n calls (before_event nothing) = inl nothing
cut_puts laws b never old n calls (at_event event connects can breaks_off called) =
    inr (
      event,
      event_and_puts event connects [] calls (goes_never _ _ _ _ _ _ _ connects breaks_off.goes (never event old.served)) (called ∙ ap (λ (cs : List WireCall). gave event ∷ cs) (sym (append-nil connects)))
          (record { no_event = refl; sound = refl; inside = refl }),
    )
cut_puts laws b never old n calls (at_puts event later new sending connects puts can goes up called) =
    inr (event, event_and_puts event connects puts calls (goes_never _ _ _ _ _ _ _ connects goes (never event old.served)) called (given_up_are laws its_own sending puts up))

-- ---- what a process comes to is what it is done with

pub goes_comes : {A : Type 0} → (Q : A → Type 0) (peer : List ℕ) (n m : ℕ) (p : Process A) (a : A) (olds news : Rows) (calls : List WireCall) → Goes peer n m p (done a) olds news calls → ComesTo Q p → Q a
goes_comes Q peer n m p a olds news calls (here u p2 rows) comes = comes
goes_comes Q peer n m p a olds news calls (told u l order p2 q2 os ns cs goes) comes = goes_comes Q peer n m p2 a _ news cs goes comes
goes_comes Q peer n m p a olds news calls (has_answered u l answer next q2 os ns cs fits goes) comes = goes_comes Q peer _ m (next answer) a _ news cs goes (comes answer)
