-- How the bytes of a queue are fed, whatever pieces they come in.
use Rattle.std.proofs.Common.{◌≡◌, ◌≢◌, ℕ, ◌+◌, Bool, true, false, List, [], ◌∷◌, ◌++◌, length, map, Option, None, Ok, refl, sym, ap, ◌∙◌, subst, arith, append_assoc, append-nil, length-append, zero-le}
use Rattle.std.specs.List.{AllByRecursion}
use Rattle.stream_escape.specs.Value.{UnescapeValue}
use Rattle.stream_escape.specs.Fed.{Given, fed}
use Rattle.stream_escape.specs.Laws.{HasRead, IsPartRead, and_fed}
use Rattle.stream_escape.specs.Stream.{escaped, framed}
use Rattle.stream_escape.specs.declared.stream.Item.{Item}
use Rattle.stream_escape.specs.declared.stream.Item.TheVariants.{Message, End}
use Rattle.tcf_message.specs.Message.{spelling, IsWellFormed}
use Rattle.channel_core.specs.Arrivals.{Marked, marked, bytes_of, Spoken, AreSpoken, queue_of}
use Rattle.channel_core.specs.Wire.{said}
use Rattle.channel_core.specs.declared.held.Outgoing.{Outgoing}
use Rattle.stream_escape.proofs.TheLaws.{begins_between, escapes_bring_nothing, last_bytes_bring_the_end, last_parts_bring_messages, parts_bring_nothing, pieces_are_one}
use Rattle.channel_core.proofs.Sizes.{spelled_size}

-- ---- A piece against the bytes that are to come

-- what is left of an entry, and then the others, are a piece and more: the piece ends within that entry, or it has all of it
data IsCut (left : List ℕ) (n : Option ℕ) (behind : List Marked) (piece : List ℕ) (m : Option ℕ) (more : List Marked) : Type 0 where
  shorter : (rest : List ℕ) → left ≡ piece ++ rest → rest ≢ [] → more ≡ marked rest n ++ behind → IsCut left n behind piece m more
  longer : (rest : List ℕ) → piece ≡ left ++ rest → (left ≢ [] → n ≡ m) → behind ≡ marked rest m ++ more → IsCut left n behind piece m more

first_same : {A : Type 0} (x y : A) (xs ys : List A) → x ∷ xs ≡ y ∷ ys → x ≡ y
first_same x y xs ys is = cc

rest_same : {A : Type 0} (x y : A) (xs ys : List A) → x ∷ xs ≡ y ∷ ys → xs ≡ ys
rest_same x y xs ys is = cc

cut_more : (x y : ℕ) (left : List ℕ) (n : Option ℕ) (behind : List Marked) (piece : List ℕ) (m : Option ℕ) (more : List Marked) → x ≡ y → n ≡ m
    → IsCut left n behind piece m more → IsCut (x ∷ left) n behind (y ∷ piece) m more
cut_more x y left n behind piece m more same marks (shorter rest is some more_is) =
    shorter rest (ap (λ z. z ∷ left) same ∙ ap (λ bytes. y ∷ bytes) is) some more_is
cut_more x y left n behind piece m more same marks (longer rest is each behind_is) =
    longer rest (ap (λ z. z ∷ piece) (sym same) ∙ ap (λ bytes. x ∷ bytes) is) (λ some. marks) behind_is

cut : (left : List ℕ) (n : Option ℕ) (behind : List Marked) (piece : List ℕ) (m : Option ℕ) (more : List Marked) → marked left n ++ behind ≡ marked piece m ++ more
    → IsCut left n behind piece m more
cut [] n behind piece m more is = longer piece refl (λ some. absurd (some refl)) is
cut (x ∷ left) n behind [] m more is = shorter (x ∷ left) refl (λ none. absurd cc) (sym is)
cut (x ∷ left) n behind (y ∷ piece) m more is =
    let first = first_same _ _ _ _ is in
    cut_more x y left n behind piece m more (ap (λ (b : Marked). b.byte) first) (ap (λ (b : Marked). b.mark) first) (cut left n behind piece m more (rest_same _ _ _ _ is))

none_marked : (piece : List ℕ) (m : Option ℕ) (more : List Marked) → marked piece m ++ more ≡ [] → (piece ≡ []) × (more ≡ [])
none_marked [] m more is = (refl, is)
none_marked (x ∷ piece) m more is = absurd cc

-- ---- Where the bytes stand in a queue

-- so many bytes of the queue's first entry have come, not all of them, and more is to come
abbrev pub IsAt : List ℕ → List Outgoing → List Marked → Type 0
IsAt front [] more = (front ≡ []) × (more ≡ [])
IsAt front (o ∷ queue) more = (left : List ℕ) × (o.bytes ≡ front ++ left) × (left ≢ []) × (more ≡ marked left o.mark ++ bytes_of queue)

framed_some : (bytes : List ℕ) → framed bytes ≢ []
framed_some bytes none =
    let size : length (framed bytes) ≡ 0 = ap length none in
    absurd (omega (arith, length-append (escaped bytes) (3 ∷ 1 ∷ [])))

pub at_first : (spoken : List Spoken) (is_ended : Bool) → IsAt [] (queue_of spoken is_ended) (bytes_of (queue_of spoken is_ended))
at_first [] false = (refl, refl)
at_first [] true = (3 ∷ 2 ∷ [], refl, λ none. absurd cc, refl)
at_first (s ∷ spoken) is_ended = (framed (spelling s.message), refl, framed_some (spelling s.message), refl)

-- ---- What a piece of a queue is fed as

abbrev pub items_of : List Spoken → List Item
items_of spoken = map (λ s. Message (spelling s.message)) spoken

abbrev pub HaveMark : Option ℕ → List Spoken → Type 0
HaveMark mark spoken = AllByRecursion (λ s. s.mark ≡ mark) spoken

-- the bytes of the messages
abbrev pub total : List Spoken → ℕ
total [] = 0
total (s ∷ spoken) = length (said s.message s.mark).bytes + total spoken

-- the messages that end in the piece are given, or all and the end of the stream
pub data FedTo (spoken : List Spoken) (is_ended : Bool) (count : ℕ) (mark : Option ℕ) (more : List Marked) (given : Given) : Type 0 where
  within : (whole later : List Spoken) (front : List ℕ) → spoken ≡ whole ++ later → AreSpoken whole → AreSpoken later → HaveMark mark whole
      → given.items ≡ items_of whole → given.answer ≡ Ok tt → HasRead front given.reader
      → IsAt front (queue_of later is_ended) more → count ≡ total whole + length front → FedTo spoken is_ended count mark more given
  to_end : is_ended ≡ true → HaveMark mark spoken → given.items ≡ items_of spoken ++ End ∷ [] → given.answer ≡ Ok tt → FedTo spoken is_ended count mark more given

-- a message ended before
fed_first : (s : Spoken) (spoken : List Spoken) (is_ended : Bool) (count all : ℕ) (mark : Option ℕ) (more : List Marked) (given next : Given) → IsWellFormed s.message → s.mark ≡ mark
    → all ≡ length (said s.message s.mark).bytes + count → given.items ≡ Message (spelling s.message) ∷ next.items → given.answer ≡ next.answer → given.reader ≡ next.reader
    → FedTo spoken is_ended count mark more next → FedTo (s ∷ spoken) is_ended all mark more given
fed_first s spoken is_ended count all mark more given next formed marks sizes items_is answer_is reader_is (within whole later front split whole_spoken later_spoken each items answer read at size) =
    within (s ∷ whole) later front (ap (λ xs. s ∷ xs) split) (formed, whole_spoken) later_spoken (marks, each)
    (items_is ∙ ap (λ its. Message (spelling s.message) ∷ its) items) (answer_is ∙ answer) (subst (HasRead front) (sym reader_is) read) at (omega arith)
fed_first s spoken is_ended count all mark more given next formed marks sizes items_is answer_is reader_is (to_end ends each items answer) =
    to_end ends (marks, each) (items_is ∙ ap (λ its. Message (spelling s.message) ∷ its) items) (answer_is ∙ answer)

-- the piece ends within the first entry
fed_part : (spoken : List Spoken) (is_ended : Bool) (mark : Option ℕ) (more : List Marked) (front piece : List ℕ) (given : Given) → AreSpoken spoken → IsPartRead front piece given
    → IsAt (front ++ piece) (queue_of spoken is_ended) more → FedTo spoken is_ended (length front + length piece) mark more given
fed_part spoken is_ended mark more front piece given all part at =
    within [] spoken (front ++ piece) refl tt all tt part.items_are part.answer_is part.reader_at at (omega (arith, length-append front piece))

pub fed_queue : (spoken : List Spoken) (is_ended : Bool) (mark : Option ℕ) (more : List Marked) (front piece : List ℕ) (reader : UnescapeValue) → AreSpoken spoken → HasRead front reader
    → IsAt front (queue_of spoken is_ended) (marked piece mark ++ more) → FedTo spoken is_ended (length front + length piece) mark more (fed piece reader)
fed_queue [] false mark more front piece reader all read at =
    let none = none_marked piece mark more at.1 in
    let begins : framed [] ≡ front ++ piece ++ framed [] = ap (λ bytes. bytes ++ framed []) (sym (ap (λ bytes. front ++ bytes) none.0 ∙ append-nil front ∙ at.0)) in
    fed_part [] false mark more front piece (fed piece reader) tt (parts_bring_nothing reader [] front piece (framed []) zero-le read begins (framed_some []))
    (ap (λ bytes. front ++ bytes) none.0 ∙ append-nil front ∙ at.0, none.1)
fed_queue [] true mark more front piece reader all read at = by_cut (cut at.0 None [] piece mark more (sym at.3))
  where
    by_cut : IsCut at.0 None [] piece mark more → FedTo [] true (length front + length piece) mark more (fed piece reader)
    by_cut (shorter rest is some more_is) =
        let parts : 3 ∷ 2 ∷ [] ≡ front ++ piece ++ rest = at.1 ∙ ap (λ bytes. front ++ bytes) is ∙ sym (append_assoc front piece rest) in
        fed_part [] true mark more front piece (fed piece reader) tt (escapes_bring_nothing reader front piece rest read parts some)
        (rest, parts, some, more_is)
    by_cut (longer rest is each behind) =
        let none = none_marked rest mark more (sym behind) in
        let whole : piece ≡ at.0 = is ∙ ap (λ bytes. at.0 ++ bytes) none.0 ∙ append-nil at.0 in
        let r = last_bytes_bring_the_end reader front piece read (at.1 ∙ ap (λ bytes. front ++ bytes) (sym whole)) in
        to_end refl tt r.items_are r.answer_is
fed_queue (s ∷ spoken) is_ended mark more front piece reader all read at =
    by_cut (cut at.0 s.mark (bytes_of (queue_of spoken is_ended)) piece mark more (sym at.3)) (λ given_front rest later. fed_queue spoken is_ended mark more given_front rest later all.1)
  where
    by_cut : IsCut at.0 s.mark (bytes_of (queue_of spoken is_ended)) piece mark more
        → ((begun rest : List ℕ) (later : UnescapeValue) → HasRead begun later → IsAt begun (queue_of spoken is_ended) (marked rest mark ++ more) → FedTo spoken is_ended (length begun + length rest) mark more (fed rest later))
        → FedTo (s ∷ spoken) is_ended (length front + length piece) mark more (fed piece reader)
    by_cut (shorter rest is some more_is) next =
        let parts : framed (spelling s.message) ≡ front ++ piece ++ rest = at.1 ∙ ap (λ bytes. front ++ bytes) is ∙ sym (append_assoc front piece rest) in
        fed_part (s ∷ spoken) is_ended mark more front piece (fed piece reader) all (parts_bring_nothing reader (spelling s.message) front piece rest (spelled_size s.message all.0) read parts some)
        (rest, parts, some, more_is)
    by_cut (longer rest is each behind) next =
        let first = last_parts_bring_messages reader (spelling s.message) front at.0 (spelled_size s.message all.0) read at.1 in
        let reader_next = (fed at.0 reader).reader in
        let begins : IsAt [] (queue_of spoken is_ended) (marked rest mark ++ more) = subst (IsAt [] (queue_of spoken is_ended)) behind (at_first spoken is_ended) in
        let after = next [] rest reader_next ((begins_between reader_next).0 first.reader_at) begins in
        let both : fed piece reader ≡ and_fed rest (fed at.0 reader) = ap (λ bytes. fed bytes reader) is ∙ pieces_are_one reader at.0 rest in
        let size : length piece ≡ length at.0 + length rest = ap length is ∙ length-append at.0 rest in
        let entry : length (framed (spelling s.message)) ≡ length front + length at.0 = ap length at.1 ∙ length-append front at.0 in
        fed_first s spoken is_ended (length rest) (length front + length piece) mark more (fed piece reader) (fed rest reader_next) all.0 (each at.2)
        (omega arith)
        (ap (λ (g : Given). g.items) both ∙ ap (λ its. its ++ (fed rest reader_next).items) first.items_are)
        (ap (λ (g : Given). g.answer) both) (ap (λ (g : Given). g.reader) both)
        (subst (λ (n : ℕ). FedTo spoken is_ended n mark more (fed rest reader_next)) (omega arith) after)
