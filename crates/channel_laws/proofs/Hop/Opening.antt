-- To an end that is opening a Hello is under way.
use Rattle.std.proofs.Common.{◌≡◌, ℕ, Bool, true, false, ◌||◌, List, [], ◌∷◌, ◌++◌, Option, refl, sym, ap, ◌∙◌, subst}
use Rattle.std.specs.Prelude.{bytes_eq}
use Rattle.std.specs.List.{filter, flat_map}
use Rattle.std.proofs.lemmas.Bool.{or_left, and_from}
use Rattle.std.proofs.lemmas.Slice.Eq.{bytes_eq-Decides}
use Rattle.tcf_message.specs.Message.{MessageValue, command, event, final, flow, not_known, progress, spelling, IsWellFormed}
use Rattle.channel_core.specs.Arrivals.{AreSpoken, Spoken, queue_of, all_heard}
use Rattle.channel_core.specs.Beginning.{new_end}
use Rattle.channel_core.specs.QueueLaws.{is_plain, sent_in}
use Rattle.channel_core.specs.ReceivingLaws.{CanBeRead, incoming_of}
use Rattle.channel_core.specs.Runs.{Run}
use Rattle.channel_core.specs.Wire.{event_said, hello as hello_word, locator, said, said_by}
use Rattle.channel_core.specs.declared.held.Outgoing.{Outgoing}
use Rattle.channel_core.specs.declared.states.EndState.{EndState}
use Rattle.channel_core.specs.declared.states.EndState.TheVariants.{Opening}
use Rattle.channel_core.specs.declared.taking.Taken.{Taken}
use Rattle.channel_core.proofs.Sent.{all_what_is_sent}
use Rattle.channel_laws.specs.Meeting.{IsLasting, Side, hello_behind, run_of}
use Rattle.channel_laws.specs.Rest.{StandsAs, hello_among, is_hello}
use Rattle.tcf_message.proofs.TheLaws.{read_back}
use Rattle.channel_laws.proofs.Rest.AllCalls.{all_stand}
use Rattle.channel_laws.proofs.Rest.Answering.{hello_heard}
use Rattle.channel_laws.proofs.Rest.Meeting.{entering, entering_formed, readable, said_as}
use Rattle.channel_laws.proofs.Rest.Spelling.{framed_one}
use Rattle.channel_laws.proofs.Hop.Coming.{Way}

-- ---- The Hello

hello_greets : (m : MessageValue) (body : List ℕ) → m ≡ event locator hello_word body → is_hello (said_by m) ≡ true
hello_greets m body is =
    ap (λ x. is_hello (said_by x)) is
    ∙ ap (λ b. is_hello (event_said b)) (and_from (bytes_eq locator locator) (bytes_eq hello_word hello_word) ((bytes_eq-Decides locator locator).1 refl) ((bytes_eq-Decides hello_word hello_word).1 refl))

-- a message that is said as a Hello is one
says_hello : (m : MessageValue) (mark other : Option ℕ) (body : List ℕ) → IsWellFormed m → IsWellFormed (event locator hello_word body) → said m mark ≡ said (event locator hello_word body) other
    → is_hello (said_by m) ≡ true
says_hello m mark other body formed greeting is =
    let spelled : spelling m ≡ spelling (event locator hello_word body) = framed_one (spelling m) (spelling (event locator hello_word body)) (ap (λ (o : Outgoing). o.bytes) is) in
    let first = read_back.1 m formed in
    let second = read_back.1 (event locator hello_word body) greeting in
    let same : m ≡ event locator hello_word body = cc in
    hello_greets m body same

-- the first plain message of a queue
first_plain : (spoken : List Spoken) (is_ended : Bool) → AreSpoken spoken → (body : List ℕ) (mark : Option ℕ) (rest : List Outgoing) → IsWellFormed (event locator hello_word body)
    → filter is_plain (queue_of spoken is_ended) ≡ said (event locator hello_word body) mark ∷ rest → hello_behind spoken ≡ true
first_plain [] true all body mark rest greeting is = absurd cc
first_plain [] false all body mark rest greeting is = absurd cc
first_plain (s ∷ spoken) is_ended all body mark rest greeting is = by_message s.message s.mark all.0 is (λ later. first_plain spoken is_ended all.1 body mark rest greeting later)
  where
    hello : Outgoing
    hello = said (event locator hello_word body) mark

    here : (m : MessageValue) (own : Option ℕ) → IsWellFormed m → said m own ∷ filter is_plain (queue_of spoken is_ended) ≡ hello ∷ rest → (is_hello (said_by m) || hello_behind spoken) ≡ true
    here m own formed same = let one : said m own ≡ hello = cc in or_left (is_hello (said_by m)) (hello_behind spoken) (says_hello m own mark body formed greeting one)

    by_message : (m : MessageValue) (own : Option ℕ) → IsWellFormed m → filter is_plain (queue_of (record { message = m; mark = own } ∷ spoken) is_ended) ≡ hello ∷ rest
        → (filter is_plain (queue_of spoken is_ended) ≡ hello ∷ rest → hello_behind spoken ≡ true) → hello_behind (record { message = m; mark = own } ∷ spoken) ≡ true
    by_message (command token service name content) own formed same later = later same
    by_message (final token content) own formed same later = here (final token content) own formed same
    by_message (progress token content) own formed same later = here (progress token content) own formed same
    by_message (not_known token) own formed same later = here (not_known token) own formed same
    by_message (event service name content) own formed same later = here (event service name content) own formed same
    by_message (flow level) own formed same later = later same

-- ---- With its marks or without, flow control aside

hello_as : (is_marked : Bool) (spoken : List Spoken) → hello_behind (said_as is_marked spoken) ≡ hello_behind spoken
hello_as true spoken = refl
hello_as false [] = refl
hello_as false (s ∷ spoken) = ap (λ b. is_hello (said_by s.message) || b) (hello_as false spoken)

hello_entering : (spoken : List Spoken) → hello_behind (entering spoken) ≡ hello_behind spoken
hello_entering [] = refl
hello_entering (s ∷ spoken) = by_message s.message s.mark (hello_entering spoken)
  where
    by_message : (m : MessageValue) (mark : Option ℕ) → hello_behind (entering spoken) ≡ hello_behind spoken
        → hello_behind (entering (record { message = m; mark = mark } ∷ spoken)) ≡ hello_behind (record { message = m; mark = mark } ∷ spoken)
    by_message (command token service name body) mark rest = ap (λ b. is_hello (said_by (command token service name body)) || b) rest
    by_message (final token body) mark rest = ap (λ b. is_hello (said_by (final token body)) || b) rest
    by_message (progress token body) mark rest = ap (λ b. is_hello (said_by (progress token body)) || b) rest
    by_message (not_known token) mark rest = ap (λ b. is_hello (said_by (not_known token)) || b) rest
    by_message (event service name body) mark rest = ap (λ b. is_hello (said_by (event service name body)) || b) rest
    by_message (flow level) mark rest = rest

-- ---- It is under way

pub hello_comes : {T U : Type 0} → (is_marked : Bool) (s : Side T) (other : Side U) (m : IsLasting other) → (down : Way is_marked s other (said_as is_marked (readable other m).spoken))
    → (run_of s).end.state ≡ Opening → hello_behind down.hears.under_way ≡ true
hello_comes {T = T} {U = U} is_marked s other m down opening =
    sym (hello_heard down.hears.under_way down.left_formed) ∙ ap hello_among (sym left) ∙ hello_heard (entering down.hears.spoken) (entering_formed down.hears.spoken down.hears.formed)
    ∙ hello_entering down.hears.spoken ∙ ap hello_behind down.spoken_is ∙ hello_as is_marked q.spoken
    ∙ first_plain q.spoken q.is_ended q.well_formed other.hello other.mark (sent_in other.calls (new_end {T = U} other.hello other.mark)) m.formed
    (ap (filter is_plain) (sym q.queue) ∙ all_what_is_sent {T = U} other.hello other.mark other.calls)
  where
    r : Run T
    r = run_of s

    q : CanBeRead (run_of other)
    q = readable other m

    none : r.past.taken ≡ []
    none = let P : EndState → Type 0 = λ state. StandsAs state r in subst P opening (all_stand s.hello s.mark s.calls)

    left : all_heard (entering down.hears.spoken) ≡ all_heard down.hears.under_way
    left = down.hears.order ∙ ap (λ (ts : List (Taken T)). flat_map incoming_of ts ++ all_heard down.hears.under_way) none
