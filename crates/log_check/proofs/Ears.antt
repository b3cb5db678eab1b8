-- What a log says next.
use Rattle.std.proofs.Common.{◌≡◌, ℕ, Bool, true, false, List, [], ◌∷◌, ◌++◌, map, refl, sym, ◌∙◌, ap, subst, append_assoc, append-nil}
use Rattle.std.specs.Prelude.{◌↔◌, filter, flat_map, Option, Some, None}
use Rattle.std.proofs.lemmas.Bool.{cond-false, false≢true}
use Rattle.std.proofs.lemmas.List.{map-append}
use Rattle.std.proofs.lemmas.List.Elements.{filter-append}
use Rattle.list_laws.specs.Fronts.{IsFront}
use Rattle.list_laws.proofs.Fronts.{front_cons, front_first, front_rest}
use Rattle.tcf_text.specs.Lines.{Accepted}
use Rattle.tcf_text.specs.declared.log.LogLine.{LogLine}
use Rattle.target_hub.specs.Received.{is_owed, told_of}
use Rattle.reply_tables.specs.Events.{IsEvent}
use Rattle.target_hub.specs.Limits.{AreEvents}
use Rattle.target_hub.specs.declared.done.Answered.{Answered}
use Rattle.target_hub.specs.declared.done.Answered.TheVariants as answers
use Rattle.target_hub.specs.Sent.{Told, answer_told, event_told, events_told, final_at, progress_at, progress_data, unknown_at}
use Rattle.tcf_values.specs.declared.event.EventData.{EventData}
use Rattle.log_check.specs.Heard.{Heard, Hears, Mishears, owed_by, owed_in, told_if, told_said}
use Rattle.log_check.specs.declared.messages.Message.{Message}
use Rattle.log_check.specs.declared.messages.Message.TheVariants as messages

-- ---- one line

pub final_owed : (position : ℕ) (through : Bool) (body : List ℕ) → through ≡ true → filter is_owed (final_at position through body ∷ []) ≡ final_at position true body ∷ []
final_owed position true body is = refl
final_owed position false body is = absurd (false≢true is)

pub final_not_owed : (position : ℕ) (through : Bool) (body : List ℕ) → through ≡ false → filter is_owed (final_at position through body ∷ []) ≡ []
final_not_owed position true body is = absurd (false≢true (sym is))
final_not_owed position false body is = refl

pub unknown_owed : (position : ℕ) (through : Bool) → through ≡ true → filter is_owed (unknown_at position through ∷ []) ≡ unknown_at position true ∷ []
unknown_owed position true is = refl
unknown_owed position false is = absurd (false≢true is)

pub unknown_not_owed : (position : ℕ) (through : Bool) → through ≡ false → filter is_owed (unknown_at position through ∷ []) ≡ []
unknown_not_owed position true is = absurd (false≢true (sym is))
unknown_not_owed position false is = refl

owed_cons : (commands : List Accepted) (line : LogLine) (lines : List LogLine) → owed_in commands (line ∷ lines) ≡ owed_by commands line ++ owed_in commands lines
owed_cons commands line lines = filter-append is_owed (told_of commands line) (flat_map (told_of commands) lines)

-- a line that tells nothing that is owed is passed over
pub owed_over : (commands : List Accepted) (lines rest after : List LogLine) (line : LogLine) → owed_in commands lines ≡ owed_in commands rest → rest ≡ line ∷ after → owed_by commands line ≡ []
    → owed_in commands lines ≡ owed_in commands after
owed_over commands lines rest after line so is none =
    so ∙ (ap (owed_in commands) is ∙ (owed_cons commands line after ∙ ap (λ t. t ++ owed_in commands after) none))

pub owed_here : (commands : List Accepted) (lines rest after : List LogLine) (line : LogLine) (message : Message) → owed_in commands lines ≡ owed_in commands rest → rest ≡ line ∷ after
    → owed_by commands line ≡ told_said message ∷ [] → owed_in commands lines ≡ told_said message ∷ owed_in commands after
owed_here commands lines rest after line message so is one =
    so ∙ (ap (owed_in commands) is ∙ (owed_cons commands line after ∙ ap (λ t. t ++ owed_in commands after) one))

pub owed_nowhere : (commands : List Accepted) (lines rest : List LogLine) → owed_in commands lines ≡ owed_in commands rest → rest ≡ [] → owed_in commands lines ≡ []
owed_nowhere commands lines rest so is = so ∙ ap (owed_in commands) is

-- ---- one message

owed_said : (message : Message) → filter is_owed (told_said message ∷ []) ≡ told_said message ∷ []
owed_said (messages.Hello position body) = refl
owed_said (messages.Event position service name body) = refl
owed_said (messages.Progress position body) = refl
owed_said (messages.Final position body) = refl
owed_said (messages.Unknown position) = refl

front_of_none : (later : List Told) → IsFront [] later
front_of_none later = (later, refl)

pub hears_end : (commands : List Accepted) (told : List Told) (lines : List LogLine) → owed_in commands lines ≡ [] → Hears commands told lines []
hears_end commands told lines none =
    record { before = λ later. ((λ front. front_of_none later), (λ front. subst (λ r. IsFront r (filter is_owed told ++ later)) (sym none) (front_of_none (filter is_owed told ++ later)))) }

with_said : (heard : List Told) (message : Message) (later : List Told) → IsFront heard (filter is_owed (told_said message ∷ []) ++ later) ↔ IsFront heard (told_said message ∷ later)
with_said heard message later =
    ((λ front. subst (λ t. IsFront heard (t ++ later)) (owed_said message) front), (λ front. subst (λ t. IsFront heard (t ++ later)) (sym (owed_said message)) front))

pub hears_same : (commands : List Accepted) (told message : Message) (lines rest : List LogLine) → owed_in commands lines ≡ told_said told ∷ owed_in commands rest → told_said told ≡ told_said message
    → Hears commands (told_said message ∷ []) lines rest
hears_same commands told message lines rest is same =
    record {
      before = λ later. (
        (λ front. front_rest (told_said told) (told_said message) (owed_in commands rest) later (subst (λ r. IsFront r (told_said message ∷ later)) is ((with_said (owed_in commands lines) message later).0 front))),
        (λ front. (with_said (owed_in commands lines) message later).1 (subst (λ r. IsFront r (told_said message ∷ later)) (sym is) (front_cons (told_said told) (told_said message) (owed_in commands rest) later same front))),
      );
    }

pub hears_not : (commands : List Accepted) (told message : Message) (lines rest : List LogLine) → owed_in commands lines ≡ told_said told ∷ owed_in commands rest → (told_said told ≡ told_said message → ⊥)
    → Mishears commands (told_said message ∷ []) lines
hears_not commands told message lines rest is other =
    record {
      never = λ later front.
          other (front_first (told_said told) (told_said message) (owed_in commands rest) later (subst (λ r. IsFront r (told_said message ∷ later)) is ((with_said (owed_in commands lines) message later).0 front)));
    }

-- ---- several messages, one by one

pub hears_none : (commands : List Accepted) (lines : List LogLine) → Hears commands [] lines lines
hears_none commands lines = record { before = λ later. ((λ front. front), (λ front. front)) }

both_owed : (one more later : List Told) → filter is_owed (one ++ more) ++ later ≡ filter is_owed one ++ (filter is_owed more ++ later)
both_owed one more later = ap (λ t. t ++ later) (filter-append is_owed one more) ∙ append_assoc (filter is_owed one) (filter is_owed more) later

pub hears_more : (commands : List Accepted) (one more : List Told) (lines next rest : List LogLine) → Hears commands one lines next → Hears commands more next rest → Hears commands (one ++ more) lines rest
hears_more commands one more lines next rest first second =
    record {
      before = λ later.
          let same = both_owed one more later in (
            (λ front. (second.before later).0 ((first.before (filter is_owed more ++ later)).0 (subst (IsFront (owed_in commands lines)) same front))),
            (λ front. subst (IsFront (owed_in commands lines)) (sym same) ((first.before (filter is_owed more ++ later)).1 ((second.before later).1 front))),
          );
    }

-- the first of them were heard, and the next one wasn't
pub mishears_more : (commands : List Accepted) (one more : List Told) (lines next : List LogLine) → Hears commands one lines next → Mishears commands more next → Mishears commands (one ++ more) lines
mishears_more commands one more lines next first second =
    record { never = λ later front. second.never later ((first.before (filter is_owed more ++ later)).0 (subst (IsFront (owed_in commands lines)) (both_owed one more later) front)) }

-- the first of them wasn't heard
pub mishears_first : (commands : List Accepted) (one more : List Told) (lines : List LogLine) → Mishears commands one lines → Mishears commands (one ++ more) lines
mishears_first commands one more lines not =
    record { never = λ later front. not.never (filter is_owed more ++ later) (subst (IsFront (owed_in commands lines)) (both_owed one more later) front) }

pub heard_next : (commands : List Accepted) (one more : List Told) (lines next : List LogLine) (out : Option (List LogLine)) → Hears commands one lines next → Heard commands more next out
    → Heard commands (one ++ more) lines out
heard_next commands one more lines next None first second = mishears_more commands one more lines next first second
heard_next commands one more lines next (Some rest) first second = hears_more commands one more lines next rest first second

pub misheard_next : (commands : List Accepted) (one more : List Told) (lines : List LogLine) → Mishears commands one lines → Mishears commands (one ++ more) lines
misheard_next commands one more lines not = mishears_first commands one more lines not

-- what isn't owed needn't be heard
pub hears_unowed : (commands : List Accepted) (told : Told) (lines : List LogLine) → is_owed told ≡ false → Hears commands (told ∷ []) lines lines
hears_unowed commands told lines isnt =
    let none : filter is_owed (told ∷ []) ≡ [] = cond-false (is_owed told) (told ∷ []) [] isnt in
    record {
      before = λ later.
          ((λ front. subst (λ t. IsFront (owed_in commands lines) (t ++ later)) none front), (λ front. subst (λ t. IsFront (owed_in commands lines) (t ++ later)) (sym none) front));
    }

-- ---- only where a flag is set

pub heard_then : (commands : List Accepted) (flag : Bool) (told : List Told) (lines : List LogLine) (out : Option (List LogLine)) → flag ≡ true → Heard commands told lines out
    → Heard commands (told_if flag told) lines out
heard_then commands flag told lines out is heard = subst (λ f. Heard commands (told_if f told) lines out) (sym is) heard

pub heard_else : (commands : List Accepted) (flag : Bool) (told : List Told) (lines : List LogLine) → flag ≡ false → Hears commands (told_if flag told) lines lines
heard_else commands flag told lines is = subst (λ f. Hears commands (told_if f told) lines lines) (sym is) (hears_none commands lines)

-- ---- events one by one

pub record EventsSo (commands : List Accepted) (position : ℕ) (events left : List EventData) (lines rest : List LogLine) : Type 0 where
  pub before : List EventData
  pub whole : events ≡ before ++ left
  pub heard : Hears commands (events_told position before) lines rest
  pub fine : AreEvents left

pub events_first : (commands : List Accepted) (position : ℕ) (events : List EventData) (lines : List LogLine) → AreEvents events → EventsSo commands position events events lines lines
events_first commands position events lines fine = record { before = []; whole = refl; heard = hears_none commands lines; fine = fine }

pub events_next : (commands : List Accepted) (position : ℕ) (events left after : List EventData) (lines rest next : List LogLine) (event : EventData) → EventsSo commands position events left lines rest
    → left ≡ event ∷ after → Hears commands (event_told position event ∷ []) rest next → EventsSo commands position events after lines next
events_next commands position events left after lines rest next event s is hears =
    record {
      before = s.before ++ event ∷ [];
      whole = s.whole ∙ (ap (λ l. s.before ++ l) is ∙ sym (append_assoc s.before (event ∷ []) after));
      heard = subst (λ t. Hears commands t lines next) (sym (map-append (event_told position) s.before (event ∷ [])))
          (hears_more commands (events_told position s.before) (event_told position event ∷ []) lines rest next s.heard hears);
      fine = (subst AreEvents is s.fine).1;
    }

pub event_fine : (left after : List EventData) (event : EventData) → AreEvents left → left ≡ event ∷ after → IsEvent event
event_fine left after event fine is = (subst AreEvents is fine).0

pub events_not : (commands : List Accepted) (position : ℕ) (events left after : List EventData) (lines rest : List LogLine) (event : EventData) → EventsSo commands position events left lines rest
    → left ≡ event ∷ after → Mishears commands (event_told position event ∷ []) rest → Mishears commands (events_told position events) lines
events_not commands position events left after lines rest event s is not =
    subst (λ t. Mishears commands t lines) (sym (ap (events_told position) (s.whole ∙ ap (λ l. s.before ++ l) is) ∙ map-append (event_told position) s.before (event ∷ after)))
    (mishears_more commands (events_told position s.before) (events_told position (event ∷ after)) lines rest s.heard
    (mishears_first commands (event_told position event ∷ []) (events_told position after) rest not))

pub events_last : (commands : List Accepted) (position : ℕ) (events left : List EventData) (lines rest : List LogLine) → EventsSo commands position events left lines rest → left ≡ []
    → Hears commands (events_told position events) lines rest
events_last commands position events left lines rest s is =
    subst (λ (e : List EventData). Hears commands (events_told position e) lines rest) (sym (s.whole ∙ (ap (λ l. s.before ++ l) is ∙ append-nil s.before))) s.heard

-- ---- addresses one by one

abbrev address_told : ℕ → ℕ → Told
address_told position address = progress_at position (progress_data address)

pub record AddressesSo (commands : List Accepted) (position : ℕ) (addresses left : List ℕ) (lines rest : List LogLine) : Type 0 where
  pub before : List ℕ
  pub whole : addresses ≡ before ++ left
  pub heard : Hears commands (map (address_told position) before) lines rest

pub addresses_first : (commands : List Accepted) (position : ℕ) (addresses : List ℕ) (lines : List LogLine) → AddressesSo commands position addresses addresses lines lines
addresses_first commands position addresses lines = record { before = []; whole = refl; heard = hears_none commands lines }

pub addresses_next : (commands : List Accepted) (position : ℕ) (addresses left after : List ℕ) (lines rest next : List LogLine) (address : ℕ) → AddressesSo commands position addresses left lines rest
    → left ≡ address ∷ after → Hears commands (progress_at position (progress_data address) ∷ []) rest next → AddressesSo commands position addresses after lines next
addresses_next commands position addresses left after lines rest next address s is hears =
    record {
      before = s.before ++ address ∷ [];
      whole = s.whole ∙ (ap (λ l. s.before ++ l) is ∙ sym (append_assoc s.before (address ∷ []) after));
      heard = subst (λ t. Hears commands t lines next) (sym (map-append (address_told position) s.before (address ∷ [])))
          (hears_more commands (map (address_told position) s.before) (address_told position address ∷ []) lines rest next s.heard hears);
    }

pub addresses_not : (commands : List Accepted) (position : ℕ) (addresses left after : List ℕ) (lines rest : List LogLine) (address : ℕ) → AddressesSo commands position addresses left lines rest
    → left ≡ address ∷ after → Mishears commands (progress_at position (progress_data address) ∷ []) rest
    → Mishears commands (map (λ address. progress_at position (progress_data address)) addresses) lines
addresses_not commands position addresses left after lines rest address s is not =
    subst (λ t. Mishears commands t lines) (sym (ap (map (address_told position)) (s.whole ∙ ap (λ l. s.before ++ l) is) ∙ map-append (address_told position) s.before (address ∷ after)))
    (mishears_more commands (map (address_told position) s.before) (map (address_told position) (address ∷ after)) lines rest s.heard
    (mishears_first commands (address_told position address ∷ []) (map (address_told position) after) rest not))

pub addresses_last : (commands : List Accepted) (position : ℕ) (addresses left : List ℕ) (lines rest : List LogLine) → AddressesSo commands position addresses left lines rest → left ≡ []
    → Hears commands (map (λ address. progress_at position (progress_data address)) addresses) lines rest
addresses_last commands position addresses left lines rest s is =
    subst (λ (e : List ℕ). Hears commands (map (address_told position) e) lines rest) (sym (s.whole ∙ (ap (λ l. s.before ++ l) is ∙ append-nil s.before))) s.heard

-- ---- an answer

pub answer_owed : (commands : List Accepted) (position : ℕ) (through : Bool) (answer : Answered) (lines : List LogLine) (out : Option (List LogLine)) → through ≡ true
    → Heard commands (answer_told position true answer ∷ []) lines out → Heard commands (answer_told position through answer ∷ []) lines out
answer_owed commands position through answer lines out is heard = subst (λ t. Heard commands (answer_told position t answer ∷ []) lines out) (sym is) heard

pub answer_not_owed : (commands : List Accepted) (position : ℕ) (through : Bool) (answer : Answered) (lines : List LogLine) → through ≡ false
    → Hears commands (answer_told position through answer ∷ []) lines lines
answer_not_owed commands position through answer lines isnt = hears_unowed commands (answer_told position through answer) lines (unowed answer ∙ isnt)
  where
    unowed : (answer : Answered) → is_owed (answer_told position through answer) ≡ through
    unowed answers.Unknown = refl
    unowed (answers.Result body) = refl
