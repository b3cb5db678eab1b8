-- What an open end of a live hop took and what is under way to it.
use Rattle.std.proofs.Common.{◌≡◌, ℕ, ◌+◌, ◌-◌, ◌≤◌, Bool, true, false, cond, ◌||◌, nat_le, List, [], ◌∷◌, ◌++◌, length, Option, Some, None, is_some, ◌⊎◌, inl, inr, ⊎_elim, refl, sym, ap, ◌∙◌, subst, arith, append_assoc, append-nil, length-append}
use Rattle.std.specs.List.{flat_map, list_any}
use Rattle.std.proofs.lemmas.Bool.{le-leb}
use Rattle.std.proofs.lemmas.List.{length-map}
use Rattle.channel_core.specs.Arrivals.{AreSpoken, Marked, Spoken, arrived, bytes_of, marked, messages_in, queue_of, whole_in, all_heard}
use Rattle.channel_core.specs.Closing.{is_closed}
use Rattle.channel_core.specs.ReceivingLaws.{CanBeRead, IsFairCause, ReceivesInOrder, incoming_of, received}
use Rattle.channel_core.specs.Runs.{Run}
use Rattle.channel_core.specs.Wire.{end_of_stream, said}
use Rattle.channel_core.specs.declared.held.Incoming.{Incoming}
use Rattle.channel_core.specs.declared.states.Cause.{Cause}
use Rattle.channel_core.specs.declared.states.Cause.TheVariants.{Ended, Eos, Own, Protocol, Stream}
use Rattle.channel_core.specs.declared.states.Reason.TheVariants.{Early, Grammar, Token}
use Rattle.channel_core.proofs.Feeding.{total}
use Rattle.channel_core.proofs.Received as receiving
use Rattle.channel_core.proofs.Running.{all_in_order}
use Rattle.channel_laws.specs.Faults.{is_ending}
use Rattle.channel_laws.proofs.Faults.Calling.{all_by_calls}
use Rattle.channel_laws.proofs.Faults.Following.{StopIs}
use Rattle.channel_laws.specs.Meeting.{IsLasting, Side, as_comes, run_of}
use Rattle.channel_laws.proofs.Rest.Meeting.{entering, entering_formed, formed_as, queue_as, readable, said_as}
use Rattle.channel_laws.proofs.Rest.Numbering.{taken_front}
use Rattle.channel_laws.specs.Hop.{Carries, Hears}
use Rattle.channel_laws.proofs.Hop.Stopping.{IsLast, all_stop_so}
use Rattle.list_laws.specs.Fronts.{IsFront}

-- ---- What is in flight comes behind what came

-- all that the other one queued was given
given_bytes : {T U : Type 0} → (is_marked : Bool) (s : Side T) (other : Side U) (flight : List Marked) (spoken : List Spoken) (is_ended : Bool) → Carries is_marked s other flight
    → (run_of other).past.queued ≡ queue_of spoken is_ended → bytes_of (as_comes is_marked (run_of other).past.given) ≡ bytes_of (queue_of (said_as is_marked spoken) is_ended)
given_bytes is_marked s other flight spoken is_ended h is =
    let given : (run_of other).past.given ≡ queue_of spoken is_ended =
    sym (append-nil (run_of other).past.given) ∙ ap (λ os. (run_of other).past.given ++ os) (sym h.given) ∙ all_in_order other.hello other.mark other.calls ∙ is in
    ap (λ os. bytes_of (as_comes is_marked os)) given ∙ ap bytes_of (queue_as is_marked spoken is_ended)

pub came_front : {T U : Type 0} → (is_marked : Bool) (s : Side T) (other : Side U) (flight : List Marked) (spoken : List Spoken) (is_ended : Bool) → Carries is_marked s other flight
    → (run_of other).past.queued ≡ queue_of spoken is_ended → IsFront (arrived s.calls) (bytes_of (queue_of (said_as is_marked spoken) is_ended))
came_front is_marked s other flight spoken is_ended h is = (h.front.0, sym (given_bytes is_marked s other flight spoken is_ended h is) ∙ h.front.1)

pub comes_behind : {T U : Type 0} → (is_marked : Bool) (s : Side T) (other : Side U) (flight : List Marked) (spoken : List Spoken) (is_ended : Bool) → Carries is_marked s other flight
    → (run_of other).past.queued ≡ queue_of spoken is_ended → is_closed (run_of s).end.state ≡ false → bytes_of (queue_of (said_as is_marked spoken) is_ended) ≡ arrived s.calls ++ flight
comes_behind is_marked s other flight spoken is_ended h is opened = sym (given_bytes is_marked s other flight spoken is_ended h is) ∙ h.gave opened

-- ---- Where the end of the stream came, all messages did

whole_all : (count : ℕ) (spoken : List Spoken) → total spoken ≤ count → whole_in count spoken ≡ spoken
whole_all count [] fits = refl
whole_all count (s ∷ spoken) fits =
    let size = length (said s.message s.mark).bytes in
    let first : nat_le size count ≡ true = le-leb size count (omega arith) in
    ap (λ b. cond b (s ∷ whole_in (count - size) spoken) []) first ∙ ap (λ xs. s ∷ xs) (whole_all (count - size) spoken (omega arith))

bytes_total : (spoken : List Spoken) → length (bytes_of (queue_of spoken false)) ≡ total spoken
bytes_total [] = refl
bytes_total (s ∷ spoken) =
    let bytes = (said s.message s.mark).bytes in
    length-append (marked bytes s.mark) (bytes_of (queue_of spoken false))
    ∙ ap (λ n. n + length (bytes_of (queue_of spoken false))) (length-map bytes (λ byte. record { byte = byte; mark = s.mark }))
    ∙ ap (λ n. length bytes + n) (bytes_total spoken)

end_behind : (spoken : List Spoken) → bytes_of (queue_of spoken true) ≡ bytes_of (queue_of spoken false) ++ bytes_of (end_of_stream ∷ [])
end_behind [] = refl
end_behind (s ∷ spoken) =
    ap (λ bytes. marked (said s.message s.mark).bytes s.mark ++ bytes) (end_behind spoken)
    ∙ sym (append_assoc (marked (said s.message s.mark).bytes s.mark) (bytes_of (queue_of spoken false)) (bytes_of (end_of_stream ∷ [])))

-- of two fronts of one list the first is a front of the second one, or no shorter
front_or_longer : {A : Type 0} → (first second more behind : List A) → second ++ behind ≡ first ++ more → IsFront first second ⊎ (length second ≤ length first)
front_or_longer [] second more behind is = inl (second, refl)
front_or_longer (x ∷ first) [] more behind is = inr (omega arith)
front_or_longer {A = A} (x ∷ first) (y ∷ second) more behind is =
    let same : y ≡ x = cc in
    let later : second ++ behind ≡ first ++ more = cc in
    by_rest same (front_or_longer first second more behind later)
  where
    by_rest : y ≡ x → IsFront first second ⊎ (length second ≤ length first) → IsFront (x ∷ first) (y ∷ second) ⊎ (length (y ∷ second) ≤ length (x ∷ first))
    by_rest same rest = ⊎_elim
        (λ (front : IsFront first second). inl (front.0, ap (λ z. z ∷ second) same ∙ ap (λ zs. x ∷ zs) front.1))
        (λ (longer : length second ≤ length first). inr (omega arith))
        rest

end_came : {T : Type 0} → (s : Side T) (spoken : List Spoken) (is_ended : Bool) (flight : List Marked) → AreSpoken spoken → bytes_of (queue_of spoken is_ended) ≡ arrived s.calls ++ flight
    → (run_of s).end.stop ≡ Some Eos → is_ended ≡ true → total spoken ≤ length (arrived s.calls)
end_came s spoken false flight all comes stop told = absurd cc
end_came s spoken true flight all comes stop told = ⊎_elim
    (λ (front : IsFront (arrived s.calls) (bytes_of (queue_of spoken false))).
    let fair : IsFairCause spoken false (received (run_of s)) Eos = receiving.all_fair s.hello s.mark s.calls spoken false all front Eos (inl stop) in
    let never : false ≡ true = fair.0 in
    absurd cc)
    (λ (longer : length (bytes_of (queue_of spoken false)) ≤ length (arrived s.calls)). let size = bytes_total spoken in omega arith)
    (front_or_longer (arrived s.calls) (bytes_of (queue_of spoken false)) flight (bytes_of (end_of_stream ∷ [])) (sym (end_behind spoken) ∙ comes))

-- ---- All that came wholly was received

received_whole : {T : Type 0} → (s : Side T) (spoken : List Spoken) (is_ended : Bool) (flight : List Marked) → IsLasting s → AreSpoken spoken → bytes_of (queue_of spoken is_ended) ≡ arrived s.calls ++ flight
    → is_closed (run_of s).end.state ≡ false → received (run_of s) ≡ messages_in (whole_in (length (arrived s.calls)) spoken)
received_whole {T = T} s spoken is_ended flight l all comes opened = by_stop (run_of s).end.stop refl
  where
    r : Run T
    r = run_of s

    fair : (cause : Cause) → r.end.stop ≡ Some cause → IsFairCause spoken is_ended (received r) cause
    fair cause is = receiving.all_fair s.hello s.mark s.calls spoken is_ended all (flight, comes) cause (inl is)

    last : (cause : Cause) → r.end.stop ≡ Some cause → IsLast cause
    last cause is = subst (StopIs IsLast) is (all_stop_so s.hello s.mark s.calls)

    by_cause : (cause : Cause) → r.end.stop ≡ Some cause → received r ≡ messages_in (whole_in (length (arrived s.calls)) spoken)
    by_cause Own is = absurd (last Own is)
    by_cause Eos is =
        let told = fair Eos is in
        told.1 ∙ ap messages_in (sym (whole_all (length (arrived s.calls)) spoken (end_came s spoken is_ended flight all comes is told.0)))
    by_cause Ended is =
        let ends : list_any is_ending s.calls ≡ true = (all_by_calls s.hello s.mark s.calls).ended (inl is) in
        let lasting = l.lasting in
        absurd cc
    by_cause (Protocol number (Grammar fault)) is = absurd (fair (Protocol number (Grammar fault)) is)
    by_cause (Protocol number Early) is = absurd (last (Protocol number Early) is)
    by_cause (Protocol number Token) is = absurd (last (Protocol number Token) is)
    by_cause (Stream fault) is = absurd (fair (Stream fault) is)

    by_stop : (stop : Option Cause) → r.end.stop ≡ stop → received r ≡ messages_in (whole_in (length (arrived s.calls)) spoken)
    by_stop None is = (receiving.all_in_order s.hello s.mark s.calls spoken is_ended all (flight, comes)).whole (ap (λ flag. flag || is_some r.end.stop) opened ∙ ap is_some is)
    by_stop (Some cause) is = by_cause cause is

-- ---- What is under way

-- what is left of the messages behind those that were taken
record Left (taken : List Incoming) (spoken : List Spoken) : Type 0 where
  under_way : List Spoken
  formed : AreSpoken under_way
  order : all_heard spoken ≡ taken ++ all_heard under_way

left : (taken : List Incoming) (spoken : List Spoken) → AreSpoken spoken → IsFront taken (all_heard spoken) → Left taken spoken
left [] spoken all front = record { under_way = spoken; formed = all; order = refl }
left (m ∷ taken) [] all front = let is = front.1 in absurd cc
left (m ∷ taken) (s ∷ spoken) all front =
    let is = front.1 in
    let rest : all_heard spoken ≡ taken ++ front.0 = cc in
    let next = left taken spoken all.1 (front.0, rest) in
    record { under_way = next.under_way; formed = next.formed; order = is ∙ ap (λ ms. m ∷ ms) (sym rest ∙ next.order) }

-- ---- The messages of a hop

-- the messages that the other one queued are these
pub record Way {T U : Type 0} (is_marked : Bool) (s : Side T) (other : Side U) (spoken : List Spoken) : Type 0 where
  pub hears : Hears is_marked s other
  pub spoken_is : hears.spoken ≡ spoken
  pub left_formed : AreSpoken hears.under_way

pub way : {T U : Type 0} → (is_marked : Bool) (s : Side T) (other : Side U) (flight : List Marked) → IsLasting s → (m : IsLasting other) → Carries is_marked s other flight
    → is_closed (run_of s).end.state ≡ false → Way is_marked s other (said_as is_marked (readable other m).spoken)
way {T = T} {U = U} is_marked s other flight l m h opened = record {
  hears = record {
    spoken = comes;
    is_ended = q.is_ended;
    formed = all_formed;
    queued = ap (as_comes is_marked) q.queue ∙ queue_as is_marked q.spoken q.is_ended;
    under_way = rest.under_way;
    order = rest.order;
    came = received_whole s comes q.is_ended flight l all_formed behind opened;
    told = in_order.told;
  };
  spoken_is = refl;
  left_formed = rest.formed;
}
  where
    r : Run T
    r = run_of s

    q : CanBeRead (run_of other)
    q = readable other m

    comes : List Spoken
    comes = said_as is_marked q.spoken

    all_formed : AreSpoken comes
    all_formed = formed_as is_marked q.spoken q.well_formed

    behind : bytes_of (queue_of comes q.is_ended) ≡ arrived s.calls ++ flight
    behind = comes_behind is_marked s other flight q.spoken q.is_ended h q.queue opened

    in_order : ReceivesInOrder comes q.is_ended (arrived s.calls) r
    in_order = receiving.all_in_order s.hello s.mark s.calls comes q.is_ended all_formed (flight, behind)

    rest : Left (flat_map incoming_of r.past.taken) (entering comes)
    rest = left (flat_map incoming_of r.past.taken) (entering comes) (entering_formed comes all_formed) (taken_front s comes q.is_ended all_formed (flight, behind))
