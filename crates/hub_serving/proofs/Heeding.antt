-- An event is heeded: it goes to the hub, what came passes on, and what the hub has to send is queued.
use Rattle.std.proofs.Common.{◌≡◌, ◌⊎◌, inl, inr, ℕ, Bool, true, false, List, [], ◌∷◌, ◌++◌, Option, Some, None, Result, Ok, Err, refl, sym, ap, ◌∙◌, subst}
use Rattle.std.specs.Prelude.{OnOk, filter}
use Rattle.std.specs.declared.alloc.AllocError.{AllocError}
use Rattle.hub_node.specs.Hub.{opened}
use Rattle.hub_node.specs.HubValue.{HubValue}
use Rattle.hub_node.specs.declared.side.HubSide.TheVariants.{Above, Below}
use Rattle.serving_wires.proofs.Leading.{Rows, goes_both}
use Rattle.serving_wires.specs.Going.{DoesAlone, Goes, here, told}
use Rattle.serving_wires.specs.Order.{closes, queues}
use Rattle.serving_wires.specs.Process.{Process, and_then, done, tells}
use Rattle.serving_wires.specs.Sending.{begun, opened_by as opened_by_event, ordered}
use Rattle.serving_wires.specs.declared.intake.Came.{Came}
use Rattle.serving_wires.specs.declared.intake.Came.TheVariants.{Piece, End}
use Rattle.tcf_wires.specs.declared.event.WireEvent.{WireEvent}
use Rattle.tcf_wires.specs.declared.event.WireEvent.TheVariants as events
use Rattle.hub_serving.specs.Gathering.{gathered_rows, is_live_line}
use Rattle.hub_serving.specs.Lines.{new_line}
use Rattle.hub_serving.specs.Passing.{Lines, passed_on}
use Rattle.hub_serving.specs.Serving.{acted, gathered, handled, heard_on, live_alone, opened_by, opened_on, passed, with_passed}
use Rattle.hub_serving.specs.ServingValue.{ServingValue}
use Rattle.hub_serving.specs.declared.line.Line.{Line}

-- nothing is ordered
pub stays : (s next : ServingValue) (rows : Rows) → next ≡ s → (peer : List ℕ) → DoesAlone peer (done s) next rows rows
stays s next rows is = λ peer n. subst (λ (x : ServingValue). Goes peer n n (done s) (done x) rows rows []) (sym is) (here n (done s) rows)

-- ---- a connection came

pub opens_line : (channel : ℕ) (did : Bool) (h : HubValue) (s next : ServingValue) (first olds : Rows) → olds ≡ begun channel first → (did, h) ≡ opened channel s.hub → did ≡ true
    → next ≡ record s { hub = h; lines = s.lines ++ (record { channel = channel; item = new_line (Below channel) channel }) ∷ [] }
    → (peer : List ℕ) → DoesAlone peer (opened_on channel s) next (begun channel first) olds
opens_line channel did h s next first olds begins is opens so = λ peer n.
    let whole : opened_on channel s ≡ done next =
    ap (λ (t : Bool × HubValue). opened_by channel t s) (sym is) ∙ ap (λ (b : Bool). opened_by channel (b, h) s) opens ∙ ap done (sym so) in
    subst (λ (p : Process ServingValue). Goes peer n n p (done next) (begun channel first) olds []) (sym whole)
    (subst (λ (rows : Rows). Goes peer n n (done next) (done next) (begun channel first) rows []) (sym begins) (here n (done next) (begun channel first)))

pub turns_away : (channel : ℕ) (did : Bool) (h : HubValue) (s next : ServingValue) (first olds mids news : Rows) → olds ≡ begun channel first → (did, h) ≡ opened channel s.hub → did ≡ false
    → mids ≡ ordered (queues channel (3 ∷ 2 ∷ [])) olds → news ≡ ordered (closes channel) mids → next ≡ record s { hub = h }
    → (peer : List ℕ) → DoesAlone peer (opened_on channel s) next (begun channel first) news
turns_away channel did h s next first olds mids news begins is refuses queued closed so = λ peer n.
    let whole : opened_on channel s ≡ tells (queues channel (3 ∷ 2 ∷ [])) (tells (closes channel) (done next)) =
    ap (λ (t : Bool × HubValue). opened_by channel t s) (sym is) ∙ ap (λ (b : Bool). opened_by channel (b, h) s) refuses
    ∙ ap (λ (x : ServingValue). tells (queues channel (3 ∷ 2 ∷ [])) (tells (closes channel) (done x))) (sym so) in
    let rows1 : Rows = ordered (queues channel (3 ∷ 2 ∷ [])) (begun channel first) in
    let rows2 : Rows = ordered (closes channel) rows1 in
    let all : news ≡ rows2 = closed ∙ ap (ordered (closes channel)) (queued ∙ ap (ordered (queues channel (3 ∷ 2 ∷ []))) begins) in
    subst (λ (p : Process ServingValue). Goes peer n n p (done next) (begun channel first) news []) (sym whole)
    (subst (λ (rows : Rows). Goes peer n n (tells (queues channel (3 ∷ 2 ∷ [])) (tells (closes channel) (done next))) (done next) (begun channel first) rows []) (sym all)
    (told n n (queues channel (3 ∷ 2 ∷ [])) (tells (closes channel) (done next)) (done next) (begun channel first) rows2 []
    (told n n (closes channel) (done next) (done next) rows1 rows2 [] (here n (done next) rows2))))

-- ---- the same, as the code has it

pub on_ok_so : {A E : Type 0} (result : Result A E) (P Q : Type 0) → (P → Q) → OnOk result P → OnOk result Q
on_ok_so (Ok value) P Q f p = f p
on_ok_so (Err error) P Q f p = tt

pub on_ok_both : {A E : Type 0} (result : Result A E) (P Q R : Type 0) → (P → Q → R) → OnOk result P → OnOk result Q → OnOk result R
on_ok_both (Ok value) P Q R f p q = f p q
on_ok_both (Err error) P Q R f p q = tt

pub opens_ok : (result : Result (Unit {0}) AllocError) (channel : ℕ) (did : Bool) (h : HubValue) (s : ServingValue) (lines : Lines) (line : Line) (first olds : Rows) → olds ≡ begun channel first
    → (did, h) ≡ opened channel s.hub → did ≡ true → line ≡ new_line (Below channel) channel → OnOk result (lines ≡ s.lines ++ (record { channel = channel; item = line }) ∷ [])
    → OnOk result ((peer : List ℕ) → DoesAlone peer (opened_on channel s) (record s { hub = h; lines = lines }) (begun channel first) olds)
opens_ok result channel did h s lines line first olds begins is opens fresh pushed =
    on_ok_so result (lines ≡ s.lines ++ (record { channel = channel; item = line }) ∷ [])
    ((peer : List ℕ) → DoesAlone peer (opened_on channel s) (record s { hub = h; lines = lines }) (begun channel first) olds)
    (λ so. opens_line channel did h s (record s { hub = h; lines = lines }) first olds begins is opens
    (ap (λ (ls : Lines). record s { hub = h; lines = ls }) so ∙ ap (λ (l : Line). record s { hub = h; lines = s.lines ++ (record { channel = channel; item = l }) ∷ [] }) fresh))
    pushed

-- something came on a channel

pub hears_peer : (result : Result (Unit {0}) AllocError) (channel : ℕ) (what : Came) (s next : ServingValue) → OnOk result (next ≡ heard_on channel what s) → OnOk result (next.peer ≡ s.peer)
unfolding heard_on
hears_peer result channel what s next heard =
    on_ok_so result (next ≡ heard_on channel what s) (next.peer ≡ s.peer) (λ is. ap (λ (x : ServingValue). x.peer) is) heard

abbrev Acts : WireEvent → ServingValue → ServingValue → Rows → Type 0
Acts event s next rows = (peer : List ℕ) → DoesAlone peer (acted event s) next (opened_by_event event rows) rows

pub hears_piece : (result : Result (Unit {0}) AllocError) (event : WireEvent) (channel : ℕ) (bytes : List ℕ) (s next : ServingValue) (rows : Rows) → event ≡ events.Piece channel bytes
    → OnOk result (next ≡ heard_on channel (Piece bytes) s) → OnOk result ((peer : List ℕ) → DoesAlone peer (acted event s) next (opened_by_event event rows) rows)
unfolding acted
hears_piece result event channel bytes s next rows is heard =
    on_ok_so result (next ≡ heard_on channel (Piece bytes) s) (Acts event s next rows)
    (λ so. subst (λ (e : WireEvent). Acts e s next rows) (sym is) (stays (heard_on channel (Piece bytes) s) next rows so)) heard

pub hears_end : (result : Result (Unit {0}) AllocError) (event : WireEvent) (channel : ℕ) (s next : ServingValue) (rows : Rows) → (event ≡ events.Ended channel) ⊎ (event ≡ events.Lost channel)
    → OnOk result (next ≡ heard_on channel End s) → OnOk result ((peer : List ℕ) → DoesAlone peer (acted event s) next (opened_by_event event rows) rows)
unfolding acted
hears_end result event channel s next rows (inl is) heard =
    on_ok_so result (next ≡ heard_on channel End s) (Acts event s next rows)
    (λ so. subst (λ (e : WireEvent). Acts e s next rows) (sym is) (stays (heard_on channel End s) next rows so)) heard
hears_end result event channel s next rows (inr is) heard =
    on_ok_so result (next ≡ heard_on channel End s) (Acts event s next rows)
    (λ so. subst (λ (e : WireEvent). Acts e s next rows) (sym is) (stays (heard_on channel End s) next rows so)) heard

pub idles : (event : WireEvent) (s : ServingValue) (rows : Rows) → (event ≡ events.Idle) ⊎ (event ≡ events.Stop)
    → (peer : List ℕ) → DoesAlone peer (acted event s) s (opened_by_event event rows) rows
unfolding acted
idles event s rows (inl is) = subst (λ (e : WireEvent). Acts e s s rows) (sym is) (stays s s rows refl)
idles event s rows (inr is) = subst (λ (e : WireEvent). Acts e s s rows) (sym is) (stays s s rows refl)

-- ---- any event

pub heeds : (event : WireEvent) (s mid new : ServingValue) (hub1 hub2 : HubValue) (lines1 lines2 : Lines) (olds mids news : Rows)
    → ((peer : List ℕ) → DoesAlone peer (acted event s) mid olds mids) → (hub1, lines1) ≡ passed_on mid.lines mid.hub → lines2 ≡ filter (is_live_line hub2) lines1
    → ((peer : List ℕ) → DoesAlone peer (gathered_rows lines1 hub1) hub2 mids news) → new ≡ record mid { hub = hub2; lines = lines2 }
    → (peer : List ℕ) → DoesAlone peer (handled event s) new olds news
unfolding handled
heeds event s mid new hub1 hub2 lines1 lines2 olds mids news acts passes forgets sends is = λ peer n.
    let p : ServingValue = record mid { hub = hub1; lines = lines1 } in
    let last : ServingValue = live_alone p hub2 in
    let so : passed mid ≡ p = ap (λ (t : HubValue × Lines). with_passed t mid) (sym passes) in
    let ends : last ≡ new = ap (λ (ls : Lines). record mid { hub = hub2; lines = ls }) (sym forgets) ∙ sym is in
    let gathers : Goes peer n n (gathered p) (done last) mids news [] =
    goes_both peer n n n (gathered_rows lines1 hub1) hub2 (λ h. done (live_alone p h)) (done last) mids news news [] [] (sends peer n) (here n (done last) news) in
    subst (λ (x : ServingValue). Goes peer n n (and_then (acted event s) (λ next. gathered (passed next))) (done x) olds news []) ends
    (goes_both peer n n n (acted event s) mid (λ next. gathered (passed next)) (done last) olds mids news [] [] (acts peer n)
    (subst (λ (x : ServingValue). Goes peer n n (gathered x) (done last) mids news []) (sym so) gathers))
