-- What a piece of a queue makes of what an end received.
use Rattle.std.proofs.Common.{◌≡◌, ℕ, ℤ, Bool, true, false, cond, ◌||◌, List, [], ◌∷◌, ◌++◌, map, Option, Some, None, is_some, Result, Ok, Err, refl, sym, ap, ◌∙◌, append_assoc, append-nil}
use Rattle.std.specs.List.{filter}
use Rattle.std.proofs.lemmas.List.{map-append}
use Rattle.std.proofs.lemmas.List.Elements.{filter-append}
use Rattle.stream_escape.specs.Fed.{fed}
use Rattle.stream_escape.specs.declared.stream.Item.{Item}
use Rattle.stream_escape.specs.declared.stream.Item.TheVariants.{Message, End}
use Rattle.stream_escape.specs.declared.stream.StreamFault.{StreamFault}
use Rattle.tcf_message.specs.Message.{MessageValue, command, final, progress, not_known, event, flow, spelling}
use Rattle.channel_core.specs.Arrivals.{Spoken, AreSpoken, enters, level_by, level_after, messages_in}
use Rattle.channel_core.specs.EndValue.{EndValue}
use Rattle.channel_core.specs.Receiving.{came_by, counted, delivered, entered, heard, is_over, item_came, stopped_by, with_last}
use Rattle.channel_core.specs.declared.held.Arrived.{Arrived}
use Rattle.channel_core.specs.declared.held.Incoming.{Incoming}
use Rattle.channel_core.specs.declared.states.Cause.TheVariants.{Eos, Stream}
use Rattle.tcf_message.proofs.TheLaws.{read_back}
use Rattle.channel_core.proofs.Faces.{Face, cause_of, face, face_level, face_released, over_is}
use Rattle.channel_core.proofs.Feeding.{HaveMark, items_of}

-- ---- Messages, in parts

pub messages_append : (xs ys : List Spoken) → messages_in (xs ++ ys) ≡ messages_in xs ++ messages_in ys
messages_append xs ys =
    ap (map (λ (s : Spoken). record { raw = spelling s.message; mark = s.mark })) (filter-append (λ (s : Spoken). enters s.message) xs ys)
    ∙ map-append (λ (s : Spoken). record { raw = spelling s.message; mark = s.mark }) (filter (λ (s : Spoken). enters s.message) xs) (filter (λ (s : Spoken). enters s.message) ys)

pub level_append : (level : ℤ) (xs ys : List Spoken) → level_after level (xs ++ ys) ≡ level_after (level_after level xs) ys
level_append level [] ys = refl
level_append level (s ∷ xs) ys = level_append (level_by level s.message) xs ys

-- what a message leaves in the inbox
abbrev entry : Bool → Incoming → List Incoming
entry flag incoming = cond flag (incoming ∷ []) []

entry_is : (flag : Bool) (s : Spoken) → map (λ (x : Spoken). record { raw = spelling x.message; mark = x.mark }) (cond flag (s ∷ []) []) ≡ entry flag (record { raw = spelling s.message; mark = s.mark })
entry_is true s = refl
entry_is false s = refl

messages_first : (s : Spoken) (spoken : List Spoken) → messages_in (s ∷ spoken) ≡ entry (enters s.message) (record { raw = spelling s.message; mark = s.mark }) ++ messages_in spoken
messages_first s spoken = messages_append (s ∷ []) spoken ∙ ap (λ ms. ms ++ messages_in spoken) (entry_is (enters s.message) s)

-- ---- A message that comes

-- with these further messages and this level
abbrev pub heard_face : List Incoming → ℤ → Face → Face
heard_face messages level f = record f { waiting = f.waiting ++ messages; told = level }

face_entered : {T : Type 0} → (raw : List ℕ) (mark : Option ℕ) (e : EndValue T) → face (entered raw mark e) ≡ heard_face (record { raw = raw; mark = mark } ∷ []) e.told (face e)
face_entered raw mark e =
    let a : Arrived = record { number = e.came; incoming = record { raw = raw; mark = mark } } in
    face_level (record e { inbox = e.inbox ++ a ∷ [] })
    ∙ ap (λ ms. record (face e) { waiting = ms }) (map-append (λ (x : Arrived). x.incoming) e.inbox (a ∷ []))

face_heard : {T : Type 0} → (raw : List ℕ) (mark : Option ℕ) (m : MessageValue) (e : EndValue T) → cause_of e.state ≡ None
    → face (heard raw mark (Ok m) e) ≡ heard_face (entry (enters m) (record { raw = raw; mark = mark })) (level_by e.told m) (face e)
face_heard raw mark (command token service name body) e opened = face_entered raw mark e
face_heard raw mark (final token body) e opened = face_entered raw mark e
face_heard raw mark (progress token body) e opened = face_entered raw mark e
face_heard raw mark (not_known token) e opened = face_entered raw mark e
face_heard raw mark (event service name body) e opened = face_entered raw mark e
face_heard raw mark (flow level) e opened =
    face_released (record e { told = level }) opened ∙ ap (λ ms. record (face e) { waiting = ms; told = level }) (sym (append-nil (face e).waiting))

face_said : {T : Type 0} → (s : Spoken) (spoken : List Spoken) → AreSpoken (s ∷ spoken) → (mark : Option ℕ) → s.mark ≡ mark → (e : EndValue T) → cause_of e.state ≡ None
    → face (item_came mark (Message (spelling s.message)) e) ≡ heard_face (entry (enters s.message) (record { raw = spelling s.message; mark = s.mark })) (level_by e.told s.message) (face e)
face_said s spoken all mark marks e opened =
    let raw = spelling s.message in
    let next = record e { came = counted e.came } in
    ap (λ m. face (heard raw mark m next)) (read_back.1 s.message all.0)
    ∙ face_heard raw mark s.message next opened
    ∙ ap (λ n. heard_face (entry (enters s.message) (record { raw = raw; mark = n })) (level_by e.told s.message) (face e)) (sym marks)

-- ---- Many messages

-- neither closed nor with a last entry
pub open_over : {T : Type 0} → (e : EndValue T) → cause_of e.state ≡ None → e.stop ≡ None → is_over e ≡ false
open_over e opened none = over_is e ∙ ap (λ c. is_some c || is_some e.stop) opened ∙ ap is_some none

came_first : {T : Type 0} → (mark : Option ℕ) (item : Item) (list : List Item) (e : EndValue T) → is_over e ≡ false → came_by mark (item ∷ list) e ≡ came_by mark list (item_came mark item e)
came_first mark item list e over = ap (λ b. came_by mark list (cond b e (item_came mark item e))) over

pub came_whole : {T : Type 0} → (mark : Option ℕ) (whole : List Spoken) (list : List Item) → AreSpoken whole → HaveMark mark whole → (e : EndValue T) → cause_of e.state ≡ None → e.stop ≡ None
    → (next : EndValue T) × (came_by mark (items_of whole ++ list) e ≡ came_by mark list next) × (face next ≡ heard_face (messages_in whole) (level_after e.told whole) (face e))
came_whole mark [] list all each e opened none = (e, refl, ap (λ ms. record (face e) { waiting = ms }) (sym (append-nil (face e).waiting)))
came_whole mark (s ∷ whole) list all each e opened none =
    let next = item_came mark (Message (spelling s.message)) e in
    let first = face_said s whole all mark each.0 e opened in
    let rest = came_whole mark whole list all.1 each.1 next (ap (λ (f : Face). f.closed) first ∙ opened) (ap (λ (f : Face). f.stop) first ∙ none) in
    let incoming = entry (enters s.message) (record { raw = spelling s.message; mark = s.mark }) in (
      rest.0,
      came_first mark (Message (spelling s.message)) (items_of whole ++ list) e (open_over e opened none) ∙ rest.1,
      rest.2 ∙ ap (λ (f : Face). heard_face (messages_in whole) (level_after f.told whole) f) first
          ∙ ap (λ ms. record (face e) { waiting = ms; told = level_after (level_by e.told s.message) whole })
          (append_assoc (face e).waiting incoming (messages_in whole) ∙ ap (λ ms. (face e).waiting ++ ms) (sym (messages_first s whole))),
    )

-- ---- A piece

came_over : {T : Type 0} → (mark : Option ℕ) (list : List Item) (e : EndValue T) → is_over e ≡ true → came_by mark list e ≡ e
came_over mark [] e over = refl
came_over mark (item ∷ list) e over = ap (λ b. came_by mark list (cond b e (item_came mark item e))) over ∙ came_over mark list e over

stopped_over : {T : Type 0} → (answer : Result Unit StreamFault) (e : EndValue T) → is_over e ≡ true → stopped_by answer e ≡ e
stopped_over (Ok done) e over = refl
stopped_over (Err fault) e over = ap (λ b. cond b e (with_last (Stream fault) e)) over

-- all of it is ignored
pub delivered_over : {T : Type 0} → (piece : List ℕ) (mark : Option ℕ) (e : EndValue T) → is_over e ≡ true → face (delivered piece mark e) ≡ record (face e) { stream = (fed piece e.stream).reader }
delivered_over piece mark e over =
    let given = fed piece e.stream in
    let next = record e { stream = given.reader } in
    ap (λ x. face (stopped_by given.answer x)) (came_over mark given.items next over) ∙ ap face (stopped_over given.answer next over)

-- the messages that end in it are heard
pub delivered_whole : {T : Type 0} → (piece : List ℕ) (mark : Option ℕ) (whole : List Spoken) → AreSpoken whole → HaveMark mark whole → (e : EndValue T) → cause_of e.state ≡ None → e.stop ≡ None
    → (fed piece e.stream).items ≡ items_of whole → (fed piece e.stream).answer ≡ Ok tt
    → face (delivered piece mark e) ≡ record (heard_face (messages_in whole) (level_after e.told whole) (face e)) { stream = (fed piece e.stream).reader }
delivered_whole piece mark whole all each e opened none items answer =
    let given = fed piece e.stream in
    let next = record e { stream = given.reader } in
    let came = came_whole mark whole [] all each next opened none in
    ap (λ a. face (stopped_by a (came_by mark given.items next))) answer
    ∙ ap (λ its. face (came_by mark its next)) (items ∙ sym (append-nil (items_of whole))) ∙ ap face came.1 ∙ came.2

-- and the end of the stream is the last entry
pub delivered_end : {T : Type 0} → (piece : List ℕ) (mark : Option ℕ) (whole : List Spoken) → AreSpoken whole → HaveMark mark whole → (e : EndValue T) → cause_of e.state ≡ None → e.stop ≡ None
    → (fed piece e.stream).items ≡ items_of whole ++ End ∷ [] → (fed piece e.stream).answer ≡ Ok tt
    → face (delivered piece mark e) ≡ record (heard_face (messages_in whole) (level_after e.told whole) (face e)) { stream = (fed piece e.stream).reader; stop = Some Eos }
delivered_end piece mark whole all each e opened none items answer =
    let given = fed piece e.stream in
    let next = record e { stream = given.reader } in
    let came = came_whole mark whole (End ∷ []) all each next opened none in
    let over = open_over came.0 (ap (λ (f : Face). f.closed) came.2 ∙ opened) (ap (λ (f : Face). f.stop) came.2 ∙ none) in
    ap (λ a. face (stopped_by a (came_by mark given.items next))) answer
    ∙ ap (λ its. face (came_by mark its next)) items ∙ ap face came.1 ∙ ap face (came_first mark End [] came.0 over) ∙ ap (λ (f : Face). record f { stop = Some Eos }) came.2
