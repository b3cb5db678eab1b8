-- What an end received of a queue, after every list of calls.
use Rattle.std.proofs.Common.{◌≡◌, ◌≢◌, ℕ, ◌+◌, ◌-◌, ◌<◌, Bool, true, false, cond, ◌||◌, nat_le, List, [], ◌∷◌, ◌++◌, length, Option, Some, None, is_some, ⊎_elim, refl, sym, ap, ◌∙◌, subst, arith, append_assoc, append-nil, length-append}
use Rattle.std.specs.Prelude.{pos, Contains}
use Rattle.std.specs.List.{flat_map}
use Rattle.std.proofs.lemmas.Bool.{le-leb}
use Rattle.std.proofs.lemmas.Bool.Decides.{leb_tells}
use Rattle.std.proofs.lemmas.Grind.{flat_map-append}
use Rattle.std.proofs.lemmas.List.{append_cancel_left, length-map}
use Rattle.std.proofs.lemmas.List.Elements.{Contains-push_cases}
use Rattle.stream_escape.specs.Fed.{fed}
use Rattle.stream_escape.specs.Laws.{HasRead, fresh}
use Rattle.channel_core.specs.Arrivals.{Marked, marked, bytes_of, arrived_in, arrived, Spoken, AreSpoken, queue_of, whole_in, messages_in, level_after}
use Rattle.channel_core.specs.Beginning.{new_end}
use Rattle.channel_core.specs.EndValue.{EndValue}
use Rattle.channel_core.specs.Receiving.{delivered, is_over}
use Rattle.channel_core.specs.ReceivingLaws.{incoming_of, WhereAQueueComes, ReceivesInOrder, IsFairCause, EndsFairly}
use Rattle.channel_core.specs.Runs.{Call, delivering, ending, taking, commanding, sending, putting_out, closing, draining, Run, begun, after_call, after_calls}
use Rattle.channel_core.specs.Wire.{said}
use Rattle.channel_core.specs.declared.held.Incoming.{Incoming}
use Rattle.channel_core.specs.declared.states.Cause.{Cause}
use Rattle.channel_core.specs.declared.states.Cause.TheVariants.{Own, Eos, Ended, Protocol, Stream}
use Rattle.channel_core.specs.declared.states.Reason.TheVariants.{Grammar, Early, Token}
use Rattle.channel_core.specs.declared.taking.Taken.{Taken}
use Rattle.channel_core.specs.declared.taking.Taken.TheVariants.{Closed}
use Rattle.channel_core.specs.Closing.{is_closed}
use Rattle.stream_escape.proofs.TheLaws.{begins_between}
use Rattle.channel_core.proofs.Arriving.{delivered_end, delivered_over, delivered_whole, level_append, messages_append}
use Rattle.channel_core.proofs.Faces.{Change, stays, ends, takes, closes, breaks, finishes, Face, IsOfItself, cause_of, closed_change, closed_face, ended_change, face, face_commanded, face_either, is_finished, over_is, taken_change}
use Rattle.channel_core.proofs.Feeding.{FedTo, within, to_end, IsAt, at_first, fed_queue, total}
use Rattle.channel_core.proofs.Keeping.{IsTidy}
use Rattle.channel_core.proofs.Tidy.{tidy_called, tidy_open}
use Rattle.list_laws.specs.Fronts.{IsFront}
use Rattle.channel_core.specs.Sending.{refusal_to}

-- the messages that were taken, and those that wait
abbrev pub got : {T : Type 0} → List (Taken T) → Face → List Incoming
got taken f = flat_map incoming_of taken ++ f.waiting

-- the messages that have come wholly were received, and the stream stands in the next one
record IsGoing {T : Type 0} (spoken : List Spoken) (is_ended : Bool) (count : ℕ) (more : List Marked) (taken : List (Taken T)) (f : Face) : Type 0 where
  whole : List Spoken
  later : List Spoken
  front : List ℕ
  split : spoken ≡ whole ++ later
  formed : AreSpoken later
  at : IsAt front (queue_of later is_ended) more
  read : HasRead front f.stream
  size : count ≡ total whole + length front
  messages : got taken f ≡ messages_in whole
  level : f.told ≡ level_after (pos 0) whole
  none : f.stop ≡ None
  opened : f.closed ≡ None

-- nothing is received any more
record IsDone {T : Type 0} (spoken : List Spoken) (is_ended : Bool) (taken : List (Taken T)) (f : Face) : Type 0 where
  finished : is_finished f ≡ true
  front : IsFront (got taken f) (messages_in spoken)
  stop : (cause : Cause) → f.stop ≡ Some cause → IsFairCause spoken is_ended (got taken f) cause
  closed : (cause : Cause) → f.closed ≡ Some cause → IsFairCause spoken is_ended (got taken f) cause

data Standing {T : Type 0} (spoken : List Spoken) (is_ended : Bool) (count : ℕ) (more : List Marked) (taken : List (Taken T)) (f : Face) : Type 0 where
  going : IsGoing spoken is_ended count more taken f → Standing spoken is_ended count more taken f
  done : IsDone spoken is_ended taken f → Standing spoken is_ended count more taken f

record Receives {T : Type 0} (spoken : List Spoken) (is_ended : Bool) (count : ℕ) (more : List Marked) (taken : List (Taken T)) (f : Face) : Type 0 where
  standing : Standing spoken is_ended count more taken f
  taken_is : (cause : Cause) → Contains taken (Closed cause) → f.closed ≡ Some cause

going_front : {T : Type 0} {spoken : List Spoken} {is_ended : Bool} {count : ℕ} {more : List Marked} {taken : List (Taken T)} {f : Face} → IsGoing spoken is_ended count more taken f → IsFront (got taken f) (messages_in spoken)
going_front g = (messages_in g.later, ap messages_in g.split ∙ messages_append g.whole g.later ∙ ap (λ ms. ms ++ messages_in g.later) (sym g.messages))

standing_front : {T : Type 0} {spoken : List Spoken} {is_ended : Bool} {count : ℕ} {more : List Marked} {taken : List (Taken T)} {f : Face} → Standing spoken is_ended count more taken f → IsFront (got taken f) (messages_in spoken)
standing_front (going g) = going_front g
standing_front (done d) = d.front

own_fair : (spoken : List Spoken) (is_ended : Bool) (messages : List Incoming) (cause : Cause) → IsOfItself cause → IsFairCause spoken is_ended messages cause
own_fair spoken is_ended messages Own is = tt
own_fair spoken is_ended messages Eos is = absurd is
own_fair spoken is_ended messages Ended is = tt
own_fair spoken is_ended messages (Protocol message (Grammar fault)) is = absurd is
own_fair spoken is_ended messages (Protocol message Early) is = tt
own_fair spoken is_ended messages (Protocol message Token) is = tt
own_fair spoken is_ended messages (Stream fault) is = absurd is

some_same : {A : Type 0} (x y : A) → Some x ≡ Some y → x ≡ y
some_same x y is = cc

-- an end that is going isn't finished
unfinished : (f : Face) → f.stop ≡ None → f.closed ≡ None → is_finished f ≡ true → ⊥
unfinished f none opened finished =
    let isnt : is_finished f ≡ false = ap (λ c. is_some c || is_some f.stop) opened ∙ ap is_some none in absurd cc

-- ---- A call without bytes

ends_keeps : {T : Type 0} (spoken : List Spoken) (is_ended : Bool) (count : ℕ) (more : List Marked) (taken : List (Taken T)) (f : Face) → f.stop ≡ None → f.closed ≡ None
    → Standing spoken is_ended count more taken f → Standing spoken is_ended count more taken (record f { stop = Some Ended })
ends_keeps spoken is_ended count more taken f none opened (going g) = done (record {
  finished = ap (λ c. is_some c || true) opened;
  front = going_front g;
  stop = λ cause is. subst (IsFairCause spoken is_ended (got taken f)) (some_same Ended cause is) tt;
  closed = λ cause is. absurd cc;
})
ends_keeps spoken is_ended count more taken f none opened (done d) = absurd (unfinished f none opened d.finished)

got_taken : {T : Type 0} (taken : List (Taken T)) (t : Taken T) (incoming : Incoming) (waiting : List Incoming) (f : Face) → f.waiting ≡ incoming ∷ waiting → incoming_of t ≡ incoming ∷ []
    → got (taken ++ t ∷ []) (record f { waiting = waiting }) ≡ got taken f
got_taken taken t incoming waiting f is one =
    ap (λ ms. ms ++ waiting) (flat_map-append incoming_of taken (t ∷ []) ∙ ap (λ ms. flat_map incoming_of taken ++ (ms ++ [])) one)
    ∙ append_assoc (flat_map incoming_of taken) (incoming ∷ []) waiting ∙ ap (λ ms. flat_map incoming_of taken ++ ms) (sym is)

takes_keeps : {T : Type 0} (spoken : List Spoken) (is_ended : Bool) (count : ℕ) (more : List Marked) (taken : List (Taken T)) (t : Taken T) (waiting : List Incoming) (f : Face)
    → got (taken ++ t ∷ []) (record f { waiting = waiting }) ≡ got taken f
    → Standing spoken is_ended count more taken f → Standing spoken is_ended count more (taken ++ t ∷ []) (record f { waiting = waiting })
takes_keeps spoken is_ended count more taken t waiting f same (going g) = going (record {
  whole = g.whole;
  later = g.later;
  front = g.front;
  split = g.split;
  formed = g.formed;
  at = g.at;
  read = g.read;
  size = g.size;
  messages = same ∙ g.messages;
  level = g.level;
  none = g.none;
  opened = g.opened;
})
takes_keeps spoken is_ended count more taken t waiting f same (done d) = done (record {
  finished = d.finished;
  front = (d.front.0, d.front.1 ∙ ap (λ ms. ms ++ d.front.0) (sym same));
  stop = λ cause is. subst (λ (ms : List Incoming). IsFairCause spoken is_ended ms cause) (sym same) (d.stop cause is);
  closed = λ cause is. subst (λ (ms : List Incoming). IsFairCause spoken is_ended ms cause) (sym same) (d.closed cause is);
})

-- what waits is dropped
closed_front : {T : Type 0} (spoken : List Spoken) (taken after : List (Taken T)) (cause : Cause) (f : Face) → flat_map incoming_of after ≡ flat_map incoming_of taken
    → IsFront (got taken f) (messages_in spoken) → IsFront (got after (closed_face cause f)) (messages_in spoken)
closed_front spoken taken after cause f same front = (
  f.waiting ++ front.0,
  front.1 ∙ append_assoc (flat_map incoming_of taken) f.waiting front.0 ∙ ap (λ ms. ms ++ (f.waiting ++ front.0)) (sym same ∙ sym (append-nil (flat_map incoming_of after))),
)

closed_done : {T : Type 0} (spoken : List Spoken) (is_ended : Bool) (count : ℕ) (more : List Marked) (taken after : List (Taken T)) (cause : Cause) (f : Face) → flat_map incoming_of after ≡ flat_map incoming_of taken
    → IsFairCause spoken is_ended (got after (closed_face cause f)) cause → Standing spoken is_ended count more taken f → Standing spoken is_ended count more after (closed_face cause f)
closed_done spoken is_ended count more taken after cause f same fair s = done (record {
  finished = refl;
  front = closed_front spoken taken after cause f same (standing_front s);
  stop = λ other is. absurd cc;
  closed = λ other is. subst (IsFairCause spoken is_ended (got after (closed_face cause f))) (some_same cause other is) fair;
})

flat_closed : {T : Type 0} (taken : List (Taken T)) (cause : Cause) → flat_map incoming_of (taken ++ Closed cause ∷ []) ≡ flat_map incoming_of taken
flat_closed taken cause = flat_map-append incoming_of taken (Closed cause ∷ []) ∙ append-nil (flat_map incoming_of taken)

finish_fair : {T : Type 0} (spoken : List Spoken) (is_ended : Bool) (count : ℕ) (more : List Marked) (taken : List (Taken T)) (cause : Cause) (f : Face) → f.waiting ≡ [] → f.stop ≡ Some cause
    → Standing spoken is_ended count more taken f → IsFairCause spoken is_ended (got (taken ++ Closed cause ∷ []) (closed_face cause f)) cause
finish_fair spoken is_ended count more taken cause f empty is (going g) = let none = g.none in absurd cc
finish_fair spoken is_ended count more taken cause f empty is (done d) =
    let same : got taken f ≡ got (taken ++ Closed cause ∷ []) (closed_face cause f) = ap (λ ms. flat_map incoming_of taken ++ ms) empty ∙ ap (λ ms. ms ++ []) (sym (flat_closed taken cause)) in
    subst (λ (ms : List Incoming). IsFairCause spoken is_ended ms cause) same (d.stop cause is)

-- with which cause an end is closed
taken_more : {T : Type 0} (taken : List (Taken T)) (cause : Cause) (f : Face) → f.closed ≡ None → ((other : Cause) → Contains taken (Closed other) → f.closed ≡ Some other)
    → (other : Cause) → Contains (taken ++ Closed cause ∷ []) (Closed other) → (closed_face cause f).closed ≡ Some other
taken_more taken cause f opened before other among = ⊎_elim
    (λ (old : Contains taken (Closed other)). let was = before other old in absurd cc)
    (λ (last : Closed cause ≡ Closed other). let same : cause ≡ other = cc in ap (λ c. Some c) same)
    (Contains-push_cases taken (Closed cause) (Closed other) among)

taken_message : {T : Type 0} (taken : List (Taken T)) (t : Taken T) (incoming : Incoming) (f : Face) → incoming_of t ≡ incoming ∷ [] → ((other : Cause) → Contains taken (Closed other) → f.closed ≡ Some other)
    → (other : Cause) → Contains (taken ++ t ∷ []) (Closed other) → f.closed ≡ Some other
taken_message {T = T} taken t incoming f one before other among = ⊎_elim
    (λ (old : Contains taken (Closed other)). before other old)
    (λ (last : t ≡ Closed other). let nothing : incoming_of t ≡ [] = ap (λ (x : Taken T). incoming_of x) last in absurd cc)
    (Contains-push_cases taken t (Closed other) among)

moved : {T : Type 0} (spoken : List Spoken) (is_ended : Bool) (count : ℕ) (more : List Marked) (taken after : List (Taken T)) (f g : Face) → after ≡ taken → g ≡ f
    → Receives spoken is_ended count more taken f → Receives spoken is_ended count more after g
moved {T = T} spoken is_ended count more taken after f g taken_is face_is r =
    let P : List (Taken T) → Type 0 = λ x. Receives spoken is_ended count more x g in
    let Q : Face → Type 0 = λ x. Receives spoken is_ended count more taken x in
    subst P (sym taken_is) (subst Q (sym face_is) r)

change_keeps : {T : Type 0} (spoken : List Spoken) (is_ended : Bool) (count : ℕ) (more : List Marked) (taken after : List (Taken T)) (f g : Face) → Change taken f after g
    → Receives spoken is_ended count more taken f → Receives spoken is_ended count more after g
change_keeps spoken is_ended count more taken after f g (stays taken_is face_is) r = moved spoken is_ended count more taken after f g taken_is face_is r
change_keeps spoken is_ended count more taken after f g (ends none opened taken_is face_is) r =
    moved spoken is_ended count more taken after (record f { stop = Some Ended }) g taken_is face_is (record {
      standing = ends_keeps spoken is_ended count more taken f none opened r.standing;
      taken_is = r.taken_is;
    })
change_keeps spoken is_ended count more taken after f g (takes t incoming waiting is one taken_is face_is) r =
    moved spoken is_ended count more (taken ++ t ∷ []) after (record f { waiting = waiting }) g taken_is face_is (record {
      standing = takes_keeps spoken is_ended count more taken t waiting f (got_taken taken t incoming waiting f is one) r.standing;
      taken_is = taken_message taken t incoming f one r.taken_is;
    })
change_keeps spoken is_ended count more taken after f g (closes cause opened itself taken_is face_is) r =
    moved spoken is_ended count more taken after (closed_face cause f) g taken_is face_is (record {
      standing = closed_done spoken is_ended count more taken taken cause f refl (own_fair spoken is_ended _ cause itself) r.standing;
      taken_is = λ other among. let was = r.taken_is other among in absurd cc;
    })
change_keeps spoken is_ended count more taken after f g (breaks cause opened itself taken_is face_is) r =
    moved spoken is_ended count more (taken ++ Closed cause ∷ []) after (closed_face cause f) g taken_is face_is (record {
      standing = closed_done spoken is_ended count more taken (taken ++ Closed cause ∷ []) cause f (flat_closed taken cause) (own_fair spoken is_ended _ cause itself) r.standing;
      taken_is = taken_more taken cause f opened r.taken_is;
    })
change_keeps spoken is_ended count more taken after f g (finishes cause opened empty is taken_is face_is) r =
    moved spoken is_ended count more (taken ++ Closed cause ∷ []) after (closed_face cause f) g taken_is face_is (record {
      standing = closed_done spoken is_ended count more taken (taken ++ Closed cause ∷ []) cause f (flat_closed taken cause) (finish_fair spoken is_ended count more taken cause f empty is r.standing) r.standing;
      taken_is = taken_more taken cause f opened r.taken_is;
    })

-- ---- A piece

total_append : (xs ys : List Spoken) → total (xs ++ ys) ≡ total xs + total ys
total_append [] ys = omega arith
total_append (s ∷ xs) ys = let rest = total_append xs ys in omega arith

got_more : {T : Type 0} (taken : List (Taken T)) (f : Face) (whole next : List Spoken) → got taken f ≡ messages_in whole → flat_map incoming_of taken ++ (f.waiting ++ messages_in next) ≡ messages_in (whole ++ next)
got_more taken f whole next is =
    sym (append_assoc (flat_map incoming_of taken) f.waiting (messages_in next)) ∙ ap (λ ms. ms ++ messages_in next) is ∙ sym (messages_append whole next)

fed_keeps : {T : Type 0} (spoken : List Spoken) (is_ended : Bool) (count : ℕ) (mark : Option ℕ) (piece : List ℕ) (more : List Marked) (taken : List (Taken T)) (e : EndValue T)
    → (g : IsGoing spoken is_ended count (marked piece mark ++ more) taken (face e)) → FedTo g.later is_ended (length g.front + length piece) mark more (fed piece e.stream)
    → Standing spoken is_ended (count + length piece) more taken (face (delivered piece mark e))
fed_keeps {T = T} spoken is_ended count mark piece more taken e g (within whole later front split formed formed_later each items answer read at size) =
    let now = delivered_whole piece mark whole formed each e g.opened g.none items answer in
    let P : Face → Type 0 = λ x. Standing spoken is_ended (count + length piece) more taken x in
    let before = g.size in
    let sizes = total_append g.whole whole in
    subst P (sym now) (going (record {
      whole = g.whole ++ whole;
      later = later;
      front = front;
      split = g.split ∙ ap (λ xs. g.whole ++ xs) split ∙ sym (append_assoc g.whole whole later);
      formed = formed_later;
      at = at;
      read = read;
      size = omega arith;
      messages = got_more taken (face e) g.whole whole g.messages;
      level = ap (λ n. level_after n whole) g.level ∙ sym (level_append (pos 0) g.whole whole);
      none = g.none;
      opened = g.opened;
    }))
fed_keeps {T = T} spoken is_ended count mark piece more taken e g (to_end is each items answer) =
    let now = delivered_end piece mark g.later g.formed each e g.opened g.none items answer in
    let P : Face → Type 0 = λ x. Standing spoken is_ended (count + length piece) more taken x in
    let all : flat_map incoming_of taken ++ ((face e).waiting ++ messages_in g.later) ≡ messages_in spoken = got_more taken (face e) g.whole g.later g.messages ∙ ap messages_in (sym g.split) in
    subst P (sym now) (done (record {
      finished = ap (λ c. is_some c || true) g.opened;
      front = ([], sym all ∙ sym (append-nil (flat_map incoming_of taken ++ ((face e).waiting ++ messages_in g.later))));
      stop = λ cause because. subst (IsFairCause spoken is_ended (flat_map incoming_of taken ++ ((face e).waiting ++ messages_in g.later))) (some_same Eos cause because) (is, all);
      closed = λ cause is. let never = g.opened in absurd cc;
    }))

piece_standing : {T : Type 0} (spoken : List Spoken) (is_ended : Bool) (count : ℕ) (mark : Option ℕ) (piece : List ℕ) (more : List Marked) (taken : List (Taken T)) (e : EndValue T)
    → Standing spoken is_ended count (marked piece mark ++ more) taken (face e) → Standing spoken is_ended (count + length piece) more taken (face (delivered piece mark e))
piece_standing spoken is_ended count mark piece more taken e (going g) =
    fed_keeps spoken is_ended count mark piece more taken e g (fed_queue g.later is_ended mark more g.front piece e.stream g.formed g.read g.at)
piece_standing {T = T} spoken is_ended count mark piece more taken e (done d) =
    let P : Face → Type 0 = λ x. Standing spoken is_ended (count + length piece) more taken x in
    subst P (sym (delivered_over piece mark e (over_is e ∙ d.finished))) (done (record { finished = d.finished; front = d.front; stop = d.stop; closed = d.closed }))

-- a piece closes nothing
piece_closed : {T : Type 0} (spoken : List Spoken) (is_ended : Bool) (count : ℕ) (mark : Option ℕ) (piece : List ℕ) (more : List Marked) (taken : List (Taken T)) (e : EndValue T)
    → Standing spoken is_ended count (marked piece mark ++ more) taken (face e) → (face (delivered piece mark e)).closed ≡ (face e).closed
piece_closed spoken is_ended count mark piece more taken e (going g) =
    by_fed (fed_queue g.later is_ended mark more g.front piece e.stream g.formed g.read g.at)
  where
    by_fed : FedTo g.later is_ended (length g.front + length piece) mark more (fed piece e.stream) → (face (delivered piece mark e)).closed ≡ (face e).closed
    by_fed (within whole later front split formed formed_later each items answer read at size) =
        ap (λ (f : Face). f.closed) (delivered_whole piece mark whole formed each e g.opened g.none items answer)
    by_fed (to_end is each items answer) = ap (λ (f : Face). f.closed) (delivered_end piece mark g.later g.formed each e g.opened g.none items answer)
piece_closed spoken is_ended count mark piece more taken e (done d) = ap (λ (f : Face). f.closed) (delivered_over piece mark e (over_is e ∙ d.finished))

-- ---- Every call

abbrev ReceivesRun : {T : Type 0} → List Spoken → Bool → ℕ → List Marked → Run T → Type 0
ReceivesRun spoken is_ended count more r = Receives spoken is_ended count more r.past.taken (face r.end)

-- no byte comes
none_came : {T : Type 0} (spoken : List Spoken) (is_ended : Bool) (count : ℕ) (more : List Marked) (r after : Run T) → Change r.past.taken (face r.end) after.past.taken (face after.end)
    → ReceivesRun spoken is_ended count more r → ReceivesRun spoken is_ended (count + 0) more after
none_came {T = T} spoken is_ended count more r after change i =
    let P : ℕ → Type 0 = λ n. ReceivesRun spoken is_ended n more after in
    let same : count ≡ count + 0 = omega arith in
    subst P same (change_keeps spoken is_ended count more r.past.taken after.past.taken (face r.end) (face after.end) change i)

receives_called : {T : Type 0} (spoken : List Spoken) (is_ended : Bool) (call : Call T) (count : ℕ) (more : List Marked) (r : Run T) → IsTidy r.end
    → ReceivesRun spoken is_ended count (arrived_in call ++ more) r → ReceivesRun spoken is_ended (count + length (arrived_in call)) more (after_call call r)
receives_called {T = T} spoken is_ended (delivering piece mark) count more r tidy i =
    let P : ℕ → Type 0 = λ n. ReceivesRun spoken is_ended (count + n) more (after_call (delivering piece mark) r) in
    subst P (sym (length-map piece (λ byte. record { byte = byte; mark = mark }))) (record {
      standing = piece_standing spoken is_ended count mark piece more r.past.taken r.end i.standing;
      taken_is = λ cause among. piece_closed spoken is_ended count mark piece more r.past.taken r.end i.standing ∙ i.taken_is cause among;
    })
receives_called spoken is_ended ending count more r tidy i = none_came spoken is_ended count more r (after_call ending r) (ended_change r.past.taken r.end) i
receives_called spoken is_ended taking count more r tidy i = none_came spoken is_ended count more r (after_call taking r) (taken_change r.past.taken r.end tidy) i
receives_called spoken is_ended (commanding service name body tag mark) count more r tidy i =
    none_came spoken is_ended count more r (after_call (commanding service name body tag mark) r) (stays refl (face_commanded (refusal_to service name body r.end) service name body tag mark r.end refl)) i
receives_called spoken is_ended (sending message mark) count more r tidy i =
    none_came spoken is_ended count more r (after_call (sending message mark) r) (stays refl (face_either (is_closed r.end.state) r.end _ (face r.end) refl refl)) i
receives_called spoken is_ended putting_out count more r tidy i = none_came spoken is_ended count more r (after_call putting_out r) (stays refl refl) i
receives_called spoken is_ended closing count more r tidy i = none_came spoken is_ended count more r (after_call closing r) (closed_change r.past.taken r.end) i
receives_called spoken is_ended draining count more r tidy i =
    none_came spoken is_ended count more r (after_call draining r) (stays refl (face_either (is_closed r.end.state) _ r.end (face r.end) refl refl)) i

receives_calls : {T : Type 0} (spoken : List Spoken) (is_ended : Bool) (calls : List (Call T)) (count : ℕ) (more : List Marked) (r : Run T) → IsTidy r.end
    → ReceivesRun spoken is_ended count (arrived calls ++ more) r → ReceivesRun spoken is_ended (count + length (arrived calls)) more (after_calls calls r)
receives_calls {T = T} spoken is_ended [] count more r tidy i =
    let P : ℕ → Type 0 = λ n. ReceivesRun spoken is_ended n more r in let same : count ≡ count + 0 = omega arith in subst P same i
receives_calls {T = T} spoken is_ended (call ∷ calls) count more r tidy i =
    let Q : List Marked → Type 0 = λ bytes. ReceivesRun spoken is_ended count bytes r in
    let first = receives_called spoken is_ended call count (arrived calls ++ more) r tidy (subst Q (append_assoc (arrived_in call) (arrived calls) more) i) in
    let rest = receives_calls spoken is_ended calls (count + length (arrived_in call)) more (after_call call r) (tidy_called call r.end tidy) first in
    let P : ℕ → Type 0 = λ n. ReceivesRun spoken is_ended n more (after_calls calls (after_call call r)) in
    let size : length (arrived_in call ++ arrived calls) ≡ length (arrived_in call) + length (arrived calls) = length-append (arrived_in call) (arrived calls) in
    let same : (count + length (arrived_in call)) + length (arrived calls) ≡ count + length (arrived_in call ++ arrived calls) = omega arith in
    subst P same rest

-- ---- What was received

pub none_left : (left : List ℕ) (mark : Option ℕ) (behind : List Marked) → left ≢ [] → [] ≡ marked left mark ++ behind → ⊥
none_left [] mark behind some is = some refl
none_left (x ∷ left) mark behind some is = absurd cc

-- nothing more is to come
later_none : (front : List ℕ) (later : List Spoken) (is_ended : Bool) → IsAt front (queue_of later is_ended) [] → later ≡ []
later_none front [] is_ended at = refl
later_none front (s ∷ later) is_ended at = absurd (none_left at.0 s.mark (bytes_of (queue_of later is_ended)) at.2 at.3)

-- the entry that has begun hasn't come wholly
begun_size : (front : List ℕ) (bytes left : List ℕ) → bytes ≡ front ++ left → left ≢ [] → length front < length bytes
begun_size front bytes [] is some = absurd (some refl)
begun_size front bytes (x ∷ left) is some = let size : length bytes ≡ length front + length (x ∷ left) = ap length is ∙ length-append front (x ∷ left) in omega arith

whole_none : (front : List ℕ) (later : List Spoken) (is_ended : Bool) (more : List Marked) → IsAt front (queue_of later is_ended) more → whole_in (length front) later ≡ []
whole_none front [] is_ended more at = refl
whole_none front (s ∷ later) is_ended more at = by_flag (nat_le (length (said s.message s.mark).bytes) (length front)) refl
  where
    by_flag : (flag : Bool) → nat_le (length (said s.message s.mark).bytes) (length front) ≡ flag
        → cond flag (s ∷ whole_in (length front - length (said s.message s.mark).bytes) later) [] ≡ []
    by_flag true is = let few = begun_size front (said s.message s.mark).bytes at.0 at.1 at.2 in absurd (le_contra (length (said s.message s.mark).bytes) (length front) is few)
      where
        le_contra : (a b : ℕ) → nat_le a b ≡ true → b < a → ⊥
        le_contra a b is less = grind (arith, leb_tells a b)
    by_flag false is = refl

whole_is : (whole later : List Spoken) (front : List ℕ) (is_ended : Bool) (more : List Marked) (count : ℕ) → IsAt front (queue_of later is_ended) more → count ≡ total whole + length front → whole_in count (whole ++ later) ≡ whole
whole_is [] later front is_ended more count at is =
    let same : count ≡ length front = omega arith in ap (λ n. whole_in n later) same ∙ whole_none front later is_ended more at
whole_is (s ∷ whole) later front is_ended more count at is =
    let size = length (said s.message s.mark).bytes in
    let fits : nat_le size count ≡ true = le-leb size count (omega arith) in
    let rest : count - size ≡ total whole + length front = omega arith in
    ap (λ b. cond b (s ∷ whole_in (count - size) (whole ++ later)) []) fits ∙ ap (λ xs. s ∷ xs) (whole_is whole later front is_ended more (count - size) at rest)

-- ---- The laws

begins : {T : Type 0} (spoken : List Spoken) (is_ended : Bool) (body : List ℕ) (mark : Option ℕ) → AreSpoken spoken
    → ReceivesRun {T = T} spoken is_ended 0 (bytes_of (queue_of spoken is_ended)) (begun (new_end body mark))
begins spoken is_ended body mark all = record {
  standing = going (record {
    whole = [];
    later = spoken;
    front = [];
    split = refl;
    formed = all;
    at = at_first spoken is_ended;
    read = (begins_between fresh).0 (record { ending = refl; fault = refl });
    size = refl;
    messages = refl;
    level = refl;
    none = refl;
    opened = refl;
  });
  taken_is = λ cause among. let few = among.1 in absurd (omega arith);
}

receives : {T : Type 0} (spoken : List Spoken) (is_ended : Bool) (body : List ℕ) (mark : Option ℕ) (calls : List (Call T)) (more : List Marked) → AreSpoken spoken
    → bytes_of (queue_of spoken is_ended) ≡ arrived calls ++ more → ReceivesRun spoken is_ended (length (arrived calls)) more (after_calls calls (begun (new_end body mark)))
receives {T = T} spoken is_ended body mark calls more all is =
    let e : EndValue T = new_end body mark in
    let Q : List Marked → Type 0 = λ bytes. ReceivesRun spoken is_ended 0 bytes (begun e) in
    let P : ℕ → Type 0 = λ n. ReceivesRun spoken is_ended n more (after_calls calls (begun e)) in
    let same : 0 + length (arrived calls) ≡ length (arrived calls) = omega arith in
    subst P same (receives_calls spoken is_ended calls 0 more (begun e) (tidy_open e refl) (subst Q is (begins spoken is_ended body mark all)))

going_of : {T : Type 0} {spoken : List Spoken} {is_ended : Bool} {count : ℕ} {more : List Marked} (r : Run T) → Standing spoken is_ended count more r.past.taken (face r.end) → is_over r.end ≡ false
    → IsGoing spoken is_ended count more r.past.taken (face r.end)
going_of r (going g) over = g
going_of r (done d) over = let finished : is_over r.end ≡ true = over_is r.end ∙ d.finished in absurd cc

whole_of_all : {T : Type 0} {spoken : List Spoken} {is_ended : Bool} {count : ℕ} {more : List Marked} {taken : List (Taken T)} {f : Face} (g : IsGoing spoken is_ended count more taken f) → more ≡ [] → g.whole ≡ spoken
whole_of_all {is_ended = is_ended} g none =
    let last = later_none g.front g.later is_ended (subst (IsAt g.front (queue_of g.later is_ended)) none g.at) in
    sym (g.split ∙ ap (λ xs. g.whole ++ xs) last ∙ append-nil g.whole)

in_order : {T : Type 0} (spoken : List Spoken) (is_ended : Bool) (bytes more : List Marked) (r : Run T) → bytes_of (queue_of spoken is_ended) ≡ bytes ++ more → ReceivesRun spoken is_ended (length bytes) more r
    → ReceivesInOrder spoken is_ended bytes r
in_order spoken is_ended bytes more r is i = record {
  front = standing_front i.standing;
  whole = λ over. let g = going_of r i.standing over in g.messages ∙ ap messages_in (sym (whole_then g));
  told = λ over. let g = going_of r i.standing over in g.level ∙ ap (level_after (pos 0)) (sym (whole_then g));
  all = λ over complete. let g = going_of r i.standing over in g.messages ∙ ap messages_in (whole_of_all g (no_more complete));
  all_told = λ over complete. let g = going_of r i.standing over in g.level ∙ ap (level_after (pos 0)) (whole_of_all g (no_more complete));
}
  where
    whole_then : (g : IsGoing spoken is_ended (length bytes) more r.past.taken (face r.end)) → whole_in (length bytes) spoken ≡ g.whole
    whole_then g = ap (whole_in (length bytes)) g.split ∙ whole_is g.whole g.later g.front is_ended more (length bytes) g.at g.size

    no_more : bytes ≡ bytes_of (queue_of spoken is_ended) → more ≡ []
    no_more complete = append_cancel_left bytes more [] (sym is ∙ sym complete ∙ sym (append-nil bytes))

fair_closed : {T : Type 0} {spoken : List Spoken} {is_ended : Bool} {count : ℕ} {more : List Marked} {taken : List (Taken T)} {f : Face} → Standing spoken is_ended count more taken f → (cause : Cause)
    → f.closed ≡ Some cause → IsFairCause spoken is_ended (got taken f) cause
fair_closed (going g) cause is = let never = g.opened in absurd cc
fair_closed (done d) cause is = d.closed cause is

fair_stop : {T : Type 0} {spoken : List Spoken} {is_ended : Bool} {count : ℕ} {more : List Marked} {taken : List (Taken T)} {f : Face} → Standing spoken is_ended count more taken f → (cause : Cause)
    → f.stop ≡ Some cause → IsFairCause spoken is_ended (got taken f) cause
fair_stop (going g) cause is = let none = g.none in absurd cc
fair_stop (done d) cause is = d.stop cause is

fairly : {T : Type 0} (spoken : List Spoken) (is_ended : Bool) (bytes more : List Marked) (r : Run T) → ReceivesRun spoken is_ended (length bytes) more r → EndsFairly spoken is_ended bytes r
fairly spoken is_ended bytes more r i cause ends_for = ⊎_elim
    (λ is. fair_stop i.standing cause is)
    (λ other. ⊎_elim (λ is. fair_closed i.standing cause (ap cause_of is)) (λ among. fair_closed i.standing cause (i.taken_is cause among)) other)
    ends_for

pub all_in_order : {T : Type 0} → WhereAQueueComes {T = T} ReceivesInOrder
all_in_order body mark calls spoken is_ended all front =
    in_order spoken is_ended (arrived calls) front.0 (after_calls calls (begun (new_end body mark))) front.1 (receives spoken is_ended body mark calls front.0 all front.1)

pub all_fair : {T : Type 0} → WhereAQueueComes {T = T} EndsFairly
all_fair body mark calls spoken is_ended all front =
    fairly spoken is_ended (arrived calls) front.0 (after_calls calls (begun (new_end body mark))) (receives spoken is_ended body mark calls front.0 all front.1)
