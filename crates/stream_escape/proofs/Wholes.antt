-- A piece that can be read is not refused, and a piece that is a whole message gives that message.
use Rattle.std.proofs.Common.{◌≡◌, ℕ, ◌+◌, ◌≤◌, List, [], ◌∷◌, ◌++◌, length, false, None, Result, Ok, Err, IfErr, MatchResult, refl, sym, ap, ◌∙◌, subst, append-nil, zero-le}
use Rattle.std.specs.Result.{result_err}
use Rattle.stream_escape.specs.declared.stream.Item.{Item}
use Rattle.stream_escape.specs.declared.stream.Item.TheVariants.{Message}
use Rattle.stream_escape.specs.declared.stream.StreamFault.{StreamFault}
use Rattle.stream_escape.specs.declared.stream.StreamFault.TheVariants.{BadEscape, TooLong, AfterEnd, NoMemory}
use Rattle.stream_escape.specs.Stream.{most_message, Ending, partly, framed, Reads, begun, message}
use Rattle.stream_escape.specs.Value.{UnescapeValue, IsBetween}
use Rattle.stream_escape.specs.Feeding.{Stops, Tells, Takes, Feeds}
use Rattle.stream_escape.proofs.Readings.{one, not_both}

-- what is refused isn't read
not_stopped : (start : ℕ) (old new ending : Ending) (piece before : List ℕ) (items its all : List Item) (fault : StreamFault)
    → Stops start old piece items new fault → Reads before its old → Reads (before ++ piece) all ending → ⊥
not_stopped start old new ending piece before items its all fault s h reads =
    not_both (before ++ piece) all (its ++ items) ending new (length before + s.index) s.cause reads (s.refuses before its h)

pub only_memory : (start : ℕ) (old new ending : Ending) (piece before : List ℕ) (items its all : List Item) (answer : Result Unit StreamFault)
    → Tells start old piece items answer new → Reads before its old → Reads (before ++ piece) all ending
    → IfErr answer (λ fault. fault ≡ NoMemory)
only_memory start old new ending piece before items its all (Ok done) t h reads = tt
only_memory start old new ending piece before items its all (Err NoMemory) t h reads = refl
only_memory start old new ending piece before items its all (Err (BadEscape offset byte)) t h reads = absurd (not_stopped start old new ending piece before items its all (BadEscape offset byte) t h reads)
only_memory start old new ending piece before items its all (Err (TooLong offset)) t h reads = absurd (not_stopped start old new ending piece before items its all (TooLong offset) t h reads)
only_memory start old new ending piece before items its all (Err (AfterEnd offset)) t h reads = absurd (not_stopped start old new ending piece before items its all (AfterEnd offset) t h reads)

-- nothing but a whole message
pub whole_reading : (m : List ℕ) → length m ≤ most_message → Reads (framed m) (Message m ∷ []) (partly [] false)
whole_reading m h = message m [] h (sym (append-nil (framed m))) (begun zero-le refl)

whole_at : (start : ℕ) (new : Ending) (m : List ℕ) (before after : List Item) (answer : Result Unit StreamFault) (later : UnescapeValue)
    → length m ≤ most_message → Takes start (partly [] false) (framed m) before after answer new
    → later.ending ≡ new → later.fault ≡ result_err answer
    → MatchResult answer (λ done. (after ≡ before ++ Message m ∷ []) × IsBetween later) (λ fault. fault ≡ NoMemory)
whole_at start new m before after (Ok done) later h t is fault =
    let same = one (framed m) t.items (Message m ∷ []) new (partly [] false) (t.tells.reads [] [] (begun zero-le refl)) (whole_reading m h) in
    (t.appended ∙ ap (λ its. before ++ its) same.items_same, record { ending = is ∙ same.ending_same; fault = fault })
whole_at start new m before after (Err e) later h t is fault =
    only_memory start (partly [] false) new (partly [] false) (framed m) [] t.items [] (Message m ∷ []) (Err e) t.tells (begun zero-le refl) (whole_reading m h)

pub whole_message : (start : ℕ) (old new : Ending) (piece m : List ℕ) (before after : List Item) (answer : Result Unit StreamFault) (later : UnescapeValue)
    → Takes start old piece before after answer new → old ≡ partly [] false → length m ≤ most_message → piece ≡ framed m
    → later.ending ≡ new → later.fault ≡ result_err answer
    → MatchResult answer (λ done. (after ≡ before ++ Message m ∷ []) × IsBetween later) (λ fault. fault ≡ NoMemory)
whole_message start old new piece m before after answer later t was h is ends fault =
    let P : Ending → Type 0 = λ e. Takes start e (framed m) before after answer new in
    let Q : List ℕ → Type 0 = λ bytes. Takes start old bytes before after answer new in
    whole_at start new m before after answer later h (subst P was (subst Q is t)) ends fault

-- ---- of one call

pub feeds_only_memory : (old new : UnescapeValue) (piece before : List ℕ) (given after its all : List Item) (answer : Result Unit StreamFault) (ending : Ending)
    → Feeds old piece given after answer new → old.fault ≡ None → Reads before its old.ending → Reads (before ++ piece) all ending → IfErr answer (λ fault. fault ≡ NoMemory)
feeds_only_memory old new piece before given after its all answer ending f none was reads =
    let first : Takes old.offset old.ending piece given after answer new.ending = rw none at f.first in
    only_memory old.offset old.ending new.ending ending piece before first.items its all answer first.tells was reads

pub feeds_whole : (old new : UnescapeValue) (piece m : List ℕ) (given after : List Item) (answer : Result Unit StreamFault)
    → Feeds old piece given after answer new → IsBetween old → length m ≤ most_message → piece ≡ framed m
    → MatchResult answer (λ done. (after ≡ given ++ Message m ∷ []) × IsBetween new) (λ fault. fault ≡ NoMemory)
feeds_whole old new piece m given after answer f between within is =
    let none = between.fault in
    let first : Takes old.offset old.ending piece given after answer new.ending = rw none at f.first in
    whole_message old.offset old.ending new.ending piece m given after answer new first between.ending within is refl f.fault
