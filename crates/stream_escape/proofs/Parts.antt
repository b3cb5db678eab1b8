-- Two pieces are one, and a frame or the end of the stream comes in any parts.
use Rattle.std.proofs.Common.{◌≡◌, ◌≢◌, ℕ, ◌+◌, List, [], ◌∷◌, ◌++◌, length, true, false, Option, None, Some, refl, sym, ap, ◌∙◌, subst, arith, append_assoc, append-nil, length-append, add-zero, zero-le}
use Rattle.stream_escape.specs.declared.stream.Item.{Item}
use Rattle.stream_escape.specs.declared.stream.Item.TheVariants.{Message, End}
use Rattle.stream_escape.specs.declared.stream.StreamFault.{StreamFault}
use Rattle.stream_escape.specs.Stream.{Ending, partly, ended, Reads, begun, end}
use Rattle.stream_escape.specs.Value.{UnescapeValue, capped}
use Rattle.stream_escape.specs.Fed.{ByteRead, taken, refused, byte_read, Course, followed, course, given, fed}
use Rattle.stream_escape.specs.Laws.{and_fed, ArePiecesOne, HasRead, BeginsBetween, IsPartRead, IsBegun, PartsBringNothing, LastPartsBringMessages, EscapesBringNothing, LastBytesBringTheEnd}
use Rattle.stream_escape.proofs.Readings.{one}
use Rattle.stream_escape.proofs.Wholes.{whole_reading}
use Rattle.stream_escape.proofs.Fronts.{front_of_frame}
use Rattle.stream_escape.proofs.Feds.{reads_are_fed}

-- ---- Two pieces

-- only the offset as far as it counts tells
same_followed : (old : Ending) (first : ByteRead) (rest other : Ending → Course) → ((next : Ending) → rest next ≡ other next) → followed old first rest ≡ followed old first other
same_followed old (refused fault) rest other same = refl
same_followed old (taken items next) rest other same = rw (same next) refl

same_course : (m n : ℕ) (bytes : List ℕ) (old : Ending) → capped m ≡ capped n → course m bytes old ≡ course n bytes old
same_course m n [] old is = refl
same_course m n (byte ∷ bytes) old is =
    let more : capped (m + 1) ≡ capped (n + 1) = omega arith in
    ap (λ k. followed old (byte_read k byte old) (course (m + 1) bytes)) is
    ∙ same_followed old (byte_read (capped n) byte old) (course (m + 1) bytes) (course (n + 1) bytes) (λ next. same_course (m + 1) (n + 1) bytes next more)

-- a course with more items before it
abbrev with_front : List Item → Course → Course
with_front items c = record { items = items ++ c.items; ending = c.ending; fault = c.fault }

-- a course, and more bytes behind it
abbrev onward_by : Option StreamFault → ℕ → List ℕ → List Item → Ending → Course
onward_by None offset bytes items ending = with_front items (course offset bytes ending)
onward_by (Some fault) offset bytes items ending = record { items = items; ending = ending; fault = Some fault }

front_onward : (fault : Option StreamFault) (offset : ℕ) (bytes : List ℕ) (front items : List Item) (ending : Ending)
    → with_front front (onward_by fault offset bytes items ending) ≡ onward_by fault offset bytes (front ++ items) ending
front_onward None offset bytes front items ending = let c = course offset bytes ending in ap (λ its. record { items = its; ending = c.ending; fault = c.fault }) (sym (append_assoc front items c.items))
front_onward (Some fault) offset bytes front items ending = refl

abbrev onward : ℕ → List ℕ → Course → Course
onward offset bytes c = onward_by c.fault offset bytes c.items c.ending

followed_onward : (old : Ending) (first : ByteRead) (offset : ℕ) (bytes : List ℕ) (all front : Ending → Course)
    → ((next : Ending) → all next ≡ onward offset bytes (front next)) → followed old first all ≡ onward offset bytes (followed old first front)
followed_onward old (refused fault) offset bytes all front each = refl
followed_onward old (taken items next) offset bytes all front each =
    ap (with_front items) (each next) ∙ front_onward (front next).fault offset bytes items (front next).items (front next).ending

course_append : (offset : ℕ) (xs ys : List ℕ) (old : Ending) → course offset (xs ++ ys) old ≡ onward (offset + length xs) ys (course offset xs old)
course_append offset [] ys old = let none : offset + 0 ≡ offset = add-zero offset in ap (λ n. course n ys old) (sym none)
course_append offset (x ∷ xs) ys old =
    let more : (offset + 1) + length xs ≡ offset + length (x ∷ xs) = omega arith in
    followed_onward old (byte_read (capped offset) x old) (offset + length (x ∷ xs)) ys (course (offset + 1) (xs ++ ys)) (course (offset + 1) xs)
    (λ next. course_append (offset + 1) xs ys next ∙ ap (λ n. onward n ys (course (offset + 1) xs next)) more)

and_given : (start : ℕ) (fault : Option StreamFault) (items : List Item) (ending : Ending) (ys : List ℕ) (finish : ℕ) → finish ≡ capped (capped start + length ys)
    → given finish (onward_by fault start ys items ending) ≡ and_fed ys (given (capped start) (record { items = items; ending = ending; fault = fault }))
unfolding fed
and_given start None items ending ys finish is =
    let same : course start ys ending ≡ course (capped start) ys ending = same_course start (capped start) ys ending (omega arith) in
    ap (λ n. given n (with_front items (course start ys ending))) is ∙ ap (λ c. given (capped (capped start + length ys)) (with_front items c)) same
and_given start (Some fault) items ending ys finish is =
    ap (λ n. given n (record { items = items; ending = ending; fault = Some fault })) is
    ∙ ap (λ its. given (capped (capped start + length ys)) (record { items = its; ending = ending; fault = Some fault })) (sym (append-nil items))

pieces_by : (fault : Option StreamFault) (offset : ℕ) (ending : Ending) (xs ys : List ℕ)
    → fed (xs ++ ys) (record { ending = ending; fault = fault; offset = offset }) ≡ and_fed ys (fed xs (record { ending = ending; fault = fault; offset = offset }))
unfolding fed
pieces_by None offset ending xs ys =
    let c = course offset xs ending in
    let counted : capped (offset + length (xs ++ ys)) ≡ capped (capped (offset + length xs) + length ys) = omega (arith, length-append xs ys) in
    ap (given (capped (offset + length (xs ++ ys)))) (course_append offset xs ys ending)
    ∙ and_given (offset + length xs) c.fault c.items c.ending ys (capped (offset + length (xs ++ ys))) counted
pieces_by (Some fault) offset ending xs ys =
    let counted : capped (offset + length (xs ++ ys)) ≡ capped (capped (offset + length xs) + length ys) = omega (arith, length-append xs ys) in
    ap (λ n. given n (record { items = []; ending = ending; fault = Some fault })) counted

pub are_pieces_one : ArePiecesOne
are_pieces_one reader first second = pieces_by reader.fault reader.offset reader.ending first second

-- ---- A frame, and the end of the stream

pub begins_between : BeginsBetween
begins_between reader = (
  (λ between. record { fault = between.fault; reads = rw between.ending (begun zero-le refl) }),
  (λ read. record { fault = read.fault; ending = (one [] [] [] reader.ending (partly [] false) read.reads (begun zero-le refl)).ending_same }),
)

-- what has begun is read as a part
part_read : (reader : UnescapeValue) (front part : List ℕ) → HasRead front reader → IsBegun (front ++ part) → IsPartRead front part (fed part reader)
part_read reader front part has b =
    let r = reads_are_fed reader front part [] [] (partly b.part b.escape) has.fault has.reads b.reads in
    record { items_are = r.items_are; answer_is = r.answer_is; reader_at = record { fault = r.fault_is; reads = rw r.ending_is b.reads } }

pub parts_bring_nothing : PartsBringNothing
parts_bring_nothing reader message front part more within has is some = part_read reader front part has (front_of_frame message (front ++ part) more within is some)

pub last_parts_bring_messages : LastPartsBringMessages
last_parts_bring_messages reader message front part within has is =
    let whole : Reads (front ++ part) (Message message ∷ []) (partly [] false) = subst (λ (bytes : List ℕ). Reads bytes (Message message ∷ []) (partly [] false)) is (whole_reading message within) in
    let r = reads_are_fed reader front part [] (Message message ∷ []) (partly [] false) has.fault has.reads whole in
    record { items_are = r.items_are; answer_is = r.answer_is; reader_at = record { ending = r.ending_is; fault = r.fault_is } }

front_of_end : (front more : List ℕ) → 3 ∷ 2 ∷ [] ≡ front ++ more → more ≢ [] → IsBegun front
front_of_end [] more is some = record { part = []; escape = false; reads = begun zero-le refl }
front_of_end (x ∷ []) more is some =
    let first : 3 ∷ [] ≡ x ∷ [] = cc in subst IsBegun first (record { part = []; escape = true; reads = begun zero-le refl })
front_of_end (x ∷ y ∷ []) more is some = let none : more ≡ [] = cc in absurd (some none)
front_of_end (x ∷ y ∷ z ∷ front) more is some = absurd (cc)

pub escapes_bring_nothing : EscapesBringNothing
escapes_bring_nothing reader front part more has is some = part_read reader front part has (front_of_end (front ++ part) more is some)

pub last_bytes_bring_the_end : LastBytesBringTheEnd
last_bytes_bring_the_end reader front part has is =
    let whole : Reads (front ++ part) (End ∷ []) ended = subst (λ (bytes : List ℕ). Reads bytes (End ∷ []) ended) is (end [] zero-le refl) in
    reads_are_fed reader front part [] (End ∷ []) ended has.fault has.reads whole
