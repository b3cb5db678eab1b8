-- What a lower channel of a hub is told teaches what is taught there of a front of what the hub heard behind its opening.
use Rattle.std.proofs.Common.{◌≡◌, ◌≤◌, ◌^◌, ℕ, zero, suc, ◌+◌, ◌-◌, ◌==◌, Bool, true, false, not, cond, ◌||◌, ◌&&◌, List, [], ◌∷◌, ◌++◌, length, map, filter, Option, Some, None, refl, sym, ap, ap₂, subst, ◌∙◌, arith, append-nil, append_assoc, length-append}
use Rattle.std.specs.Prelude.{IsSome, Result, Ok, Err, bytes_eq, decimal, slice_get}
use Rattle.std.specs.Option.{option_or}
use Rattle.std.specs.List.{AllByRecursion, flat_map}
use Rattle.std.proofs.lemmas.List.{map-append}
use Rattle.std.proofs.lemmas.List.Concat.{flat_map-append}
use Rattle.channel_core.specs.Wire.{said}
use Rattle.channel_core.specs.declared.held.Incoming.{Incoming}
use Rattle.channel_core.specs.declared.held.Outgoing.{Outgoing}
use Rattle.command_tables.specs.Reading.{reading_of}
use Rattle.knowledge.specs.Facts.{Facts}
use Rattle.knowledge.specs.Learning.{Message, learn_all, other_taken}
use Rattle.list_laws.proofs.AllLists.{all_append}
use Rattle.target_truth.specs.Taught.{event_message, final_message}
use Rattle.tcf_message.specs.Message.{MessageValue, command, event, final, flow, not_known, progress, reading}
use Rattle.tcf_message.specs.declared.message.MessageFault.{MessageFault}
use Rattle.hub_node.specs.Deeds.{Asked, Deed, answers, ends as all_ends, forwards, heard_in, hears, joins, leaves, sent_by, sent_in}
use Rattle.hub_node.specs.HubLaws.{IsOfItsCommand, IsOpen, if_of, is_joining, passed_to, told_from, under}
use Rattle.hub_node.specs.Redirects.{redirect_reply}
use Rattle.hub_node.specs.Runs.{only_if}
use Rattle.hub_node.proofs.Telling.{under_place}
use Rattle.hub_truth.specs.HubTruth.{ReadMessage, as_read, as_told}
use Rattle.hub_truth.specs.Lessons.{Lesson, last_mark, lesson, lessons_from, lessons_in}
use Rattle.hub_truth.proofs.Listened.{At, at, taught_to}

-- ---- the lessons are what is told

if_of_said : (j : ℕ) (o : Option Asked) (mark : Option ℕ) (tells : Asked → MessageValue) (teaches : Asked → Message)
    → map (λ l. l.said) (if_of j o (λ c. lesson (tells c) mark (teaches c))) ≡ map (λ m. said m mark) (if_of j o tells)
if_of_said j None mark tells teaches = refl
if_of_said j (Some c) mark tells teaches = by_flag (c.channel == j)
  where
    by_flag : (own : Bool) → map (λ l. l.said) (cond own (lesson (tells c) mark (teaches c) ∷ []) []) ≡ map (λ m. said m mark) (cond own (tells c ∷ []) [])
    by_flag true = refl
    by_flag false = refl

lessons_said : (j : ℕ) (commands : List Asked) (mark : Option ℕ) (m : Result MessageValue MessageFault) → map (λ l. l.said) (lessons_in j commands mark m) ≡ map (λ m. said m mark) (passed_to j commands m)
lessons_said j commands mark (Ok (event service name body)) = refl
lessons_said j commands mark (Ok (final token body)) = if_of_said j (under 1 token commands) mark (λ c. final c.token body) (λ c. final_message (Some (reading_of c.service c.name c.body)) body)
lessons_said j commands mark (Ok (progress token body)) = if_of_said j (under 1 token commands) mark (λ c. progress c.token body) (λ c. other_taken)
lessons_said j commands mark (Ok (not_known token)) = if_of_said j (under 1 token commands) mark (λ c. not_known c.token) (λ c. other_taken)
lessons_said j commands mark (Ok (command token service name body)) = refl
lessons_said j commands mark (Ok (flow level)) = refl
lessons_said j commands mark (Err fault) = refl

only_said : (flag : Bool) (ls : List Lesson) (os : List Outgoing) → map (λ l. l.said) ls ≡ os → map (λ l. l.said) (only_if flag ls) ≡ only_if flag os
only_said true ls os same = same
only_said false ls os same = refl

pub are_told : (j : ℕ) (is_open : Bool) (commands : List Asked) (deeds : List Deed) → map (λ l. l.said) (lessons_from j is_open commands deeds) ≡ told_from j is_open commands deeds
are_told j is_open commands [] = refl
are_told j is_open commands (joins i ∷ deeds) = are_told j (is_open || (i == j)) commands deeds
are_told j is_open commands (leaves i ∷ deeds) = are_told j (is_open && not (i == j)) commands deeds
are_told j is_open commands (forwards c ∷ deeds) = are_told j is_open (commands ++ c ∷ []) deeds
are_told j is_open commands (answers c ∷ deeds) =
    let sent : MessageValue = final c.token (redirect_reply c.service c.name c.body) in
    map-append (λ (l : Lesson). l.said) (only_if (is_open && (c.channel == j)) (lesson sent None other_taken ∷ [])) (lessons_from j is_open commands deeds)
    ∙ ap₂ (λ a b. a ++ b) (only_said (is_open && (c.channel == j)) (lesson sent None other_taken ∷ []) (said sent None ∷ []) refl) (are_told j is_open commands deeds)
are_told j is_open commands (hears incoming ∷ deeds) =
    map-append (λ (l : Lesson). l.said) (only_if is_open (lessons_in j commands incoming.mark (reading incoming.raw))) (lessons_from j is_open commands deeds)
    ∙ ap₂ (λ a b. a ++ b)
    (only_said is_open (lessons_in j commands incoming.mark (reading incoming.raw)) (map (λ m. said m incoming.mark) (passed_to j commands (reading incoming.raw))) (lessons_said j commands incoming.mark (reading incoming.raw)))
    (are_told j is_open commands deeds)
are_told j is_open commands (all_ends ∷ deeds) = are_told j false commands deeds

-- ---- what they teach, with their marks

abbrev pub at_of : Lesson → List At
at_of l = at l.said.mark l.message

abbrev pub ats : List Lesson → List At
ats lessons = flat_map at_of lessons

-- without a mark nothing is taught
abbrev pub IsMute : Lesson → Type 0
IsMute l = l.said.mark ≡ None → l.message ≡ other_taken

abbrev pub last_at : Option ℕ → List At → Option ℕ
last_at mark [] = mark
last_at mark (a ∷ as_taught) = last_at (Some a.position) as_taught

one_marked : (mark own : Option ℕ) (m : Message) (more : List At) → last_at mark (at own m ++ more) ≡ last_at (option_or own mark) more
one_marked mark None m more = refl
one_marked mark (Some p) m more = refl

pub marks_are : (mark : Option ℕ) (lessons : List Lesson) → last_mark mark lessons ≡ last_at mark (ats lessons)
marks_are mark [] = refl
marks_are mark (l ∷ lessons) = marks_are (option_or l.said.mark mark) lessons ∙ sym (one_marked mark l.said.mark l.message (ats lessons))

one_learned : (own : Option ℕ) (m : Message) (known : Facts) (messages : List Message) (more : List At) → (own ≡ None → m ≡ other_taken)
    → ((known : Facts) → learn_all messages known ≡ learn_all (map (λ a. a.message) more) known) → learn_all (m ∷ messages) known ≡ learn_all (map (λ a. a.message) (at own m ++ more)) known
one_learned None m known messages more mute rest = ap (λ (m : Message). learn_all (m ∷ messages) known) (mute refl) ∙ rest known
one_learned (Some p) m known messages more mute rest = rest _

pub learned_are : (lessons : List Lesson) (known : Facts) → AllByRecursion IsMute lessons → learn_all (map (λ l. l.message) lessons) known ≡ learn_all (map (λ a. a.message) (ats lessons)) known
learned_are [] known mute = refl
learned_are (l ∷ lessons) known mute = one_learned l.said.mark l.message known (map (λ l. l.message) lessons) (ats lessons) mute.0 (λ known. learned_are lessons known mute.1)

-- ---- the command under a token, among more of them

under_more : (number : ℕ) (token : List ℕ) (xs ys : List Asked) (c : Asked) → under number token xs ≡ Some c → under number token (xs ++ ys) ≡ Some c
under_more number token [] ys c is = absurd cc
under_more number token (x ∷ xs) ys c is = by_flag (bytes_eq token (decimal number)) is (under_more (number + 1) token xs ys c)
  where
    by_flag : (flag : Bool) → cond flag (Some x) (under (number + 1) token xs) ≡ Some c → (under (number + 1) token xs ≡ Some c → under (number + 1) token (xs ++ ys) ≡ Some c)
        → cond flag (Some x) (under (number + 1) token (xs ++ ys)) ≡ Some c
    by_flag true is rest = is
    by_flag false is rest = rest is

get_some : (xs : List Asked) (place : ℕ) → suc place ≤ length xs → (x : Asked) × (slice_get xs place ≡ Some x)
get_some [] place within = absurd (omega (arith, within))
get_some (x ∷ xs) zero within = (x, refl)
get_some (x ∷ xs) (suc place) within = get_some xs place (omega (arith, within))

-- that of an answer is found among those that were sent by then, and among all
same_under : (before : List Deed) (token : List ℕ) (later : List Asked) → IsOpen before token → 1 + length (sent_in before) ≤ 2 ^ 64 → under 1 token (sent_in before) ≡ under 1 token (sent_in before ++ later)
same_under before token later own few =
    let place : ℕ = own.number - 1 in
    let least = own.counted in
    let most = own.sent in
    let number : 1 + place ≡ own.number = omega (arith, least) in
    let c = get_some (sent_in before) place (omega (arith, least, most)) in
    let found : under 1 token (sent_in before) ≡ Some c.0 = ap (λ t. under 1 t (sent_in before)) (own.numbered ∙ ap decimal (sym number)) ∙ under_place 1 place (sent_in before) c.0 c.1 few in
    found ∙ sym (under_more 1 token (sent_in before) later c.0 found)

-- ---- one message

if_of_taught : (j : ℕ) (o : Option Asked) (mark : Option ℕ) (tells : Asked → MessageValue) (teaches : Asked → Message)
    → ats (if_of j o (λ c. lesson (tells c) mark (teaches c))) ≡ flat_map (λ m. at mark m) (if_of j o teaches)
if_of_taught j None mark tells teaches = refl
if_of_taught j (Some c) mark tells teaches = by_flag (c.channel == j)
  where
    by_flag : (own : Bool) → ats (cond own (lesson (tells c) mark (teaches c) ∷ []) []) ≡ flat_map (λ m. at mark m) (cond own (teaches c ∷ []) [])
    by_flag true = refl
    by_flag false = refl

one_taught : (j : ℕ) (before : List Deed) (later : List Asked) (mark : Option ℕ) (m : MessageValue) → IsOfItsCommand before (Ok m) → 1 + length (sent_in before) ≤ 2 ^ 64
    → ats (lessons_in j (sent_in before) mark (Ok m)) ≡ taught_to j (sent_in before ++ later) (m, mark)
one_taught j before later mark (event service name body) own few = append-nil (at mark (event_message service name body))
one_taught j before later mark (final token body) own few =
    if_of_taught j (under 1 token (sent_in before)) mark (λ c. final c.token body) (λ c. final_message (Some (reading_of c.service c.name c.body)) body)
    ∙ ap (λ o. flat_map (λ m. at mark m) (if_of j o (λ c. final_message (Some (reading_of c.service c.name c.body)) body))) (same_under before token later own few)
one_taught j before later mark (progress token body) own few =
    if_of_taught j (under 1 token (sent_in before)) mark (λ c. progress c.token body) (λ c. other_taken)
    ∙ ap (λ o. flat_map (λ m. at mark m) (if_of j o (λ c. other_taken))) (same_under before token later own few)
one_taught j before later mark (not_known token) own few =
    if_of_taught j (under 1 token (sent_in before)) mark (λ c. not_known c.token) (λ c. other_taken)
    ∙ ap (λ o. flat_map (λ m. at mark m) (if_of j o (λ c. other_taken))) (same_under before token later own few)
one_taught j before later mark (command token service name body) own few = refl
one_taught j before later mark (flow level) own few = refl

-- with a mark
is_mute : (mark : Option ℕ) (m : Message) → IsSome mark → mark ≡ None → m ≡ other_taken
is_mute None m marked none = absurd cc
is_mute (Some p) m marked none = absurd (let both : Some p ≡ None = none in cc)

if_of_mute : (j : ℕ) (o : Option Asked) (mark : Option ℕ) (tells : Asked → MessageValue) (teaches : Asked → Message) → IsSome mark → AllByRecursion IsMute (if_of j o (λ c. lesson (tells c) mark (teaches c)))
if_of_mute j None mark tells teaches marked = tt
if_of_mute j (Some c) mark tells teaches marked = by_flag (c.channel == j)
  where
    by_flag : (own : Bool) → AllByRecursion IsMute (cond own (lesson (tells c) mark (teaches c) ∷ []) [])
    by_flag true = (is_mute mark (teaches c) marked, tt)
    by_flag false = tt

lessons_mute : (j : ℕ) (commands : List Asked) (mark : Option ℕ) (m : Result MessageValue MessageFault) → IsSome mark → AllByRecursion IsMute (lessons_in j commands mark m)
lessons_mute j commands mark (Ok (event service name body)) marked = (is_mute mark (event_message service name body) marked, tt)
lessons_mute j commands mark (Ok (final token body)) marked = if_of_mute j (under 1 token commands) mark (λ c. final c.token body) (λ c. final_message (Some (reading_of c.service c.name c.body)) body) marked
lessons_mute j commands mark (Ok (progress token body)) marked = if_of_mute j (under 1 token commands) mark (λ c. progress c.token body) (λ c. other_taken) marked
lessons_mute j commands mark (Ok (not_known token)) marked = if_of_mute j (under 1 token commands) mark (λ c. not_known c.token) (λ c. other_taken) marked
lessons_mute j commands mark (Ok (command token service name body)) marked = tt
lessons_mute j commands mark (Ok (flow level)) marked = tt
lessons_mute j commands mark (Err fault) marked = tt

-- ---- a channel that isn't open, and doesn't join, is told nothing

pub none_closed : (j : ℕ) (commands : List Asked) (deeds : List Deed) → filter (is_joining j) deeds ≡ [] → lessons_from j false commands deeds ≡ []
none_closed j commands [] none = refl
none_closed j commands (joins i ∷ deeds) none = by_flag (i == j) none (none_closed j commands deeds)
  where
    by_flag : (own : Bool) → cond own (joins i ∷ filter (is_joining j) deeds) (filter (is_joining j) deeds) ≡ [] → (filter (is_joining j) deeds ≡ [] → lessons_from j false commands deeds ≡ [])
        → lessons_from j own commands deeds ≡ []
    by_flag true none rest = absurd cc
    by_flag false none rest = rest none
none_closed j commands (leaves i ∷ deeds) none = none_closed j commands deeds none
none_closed j commands (forwards c ∷ deeds) none = none_closed j (commands ++ c ∷ []) deeds none
none_closed j commands (answers c ∷ deeds) none = none_closed j commands deeds none
none_closed j commands (hears incoming ∷ deeds) none = none_closed j commands deeds none
none_closed j commands (all_ends ∷ deeds) none = none_closed j commands deeds none

-- ---- what an open one is told

abbrev pub IsMarked : MessageValue × Option ℕ → Type 0
IsMarked told = IsSome told.1

-- it is taught a front of what is heard from here on
pub record IsTaught (j : ℕ) (all : List Asked) (lessons : List Lesson) (heard : List (MessageValue × Option ℕ)) : Type 0 where
  pub taken : List (MessageValue × Option ℕ)
  pub unheard : List (MessageValue × Option ℕ)
  pub parts : heard ≡ taken ++ unheard
  pub taught : ats lessons ≡ flat_map (taught_to j all) taken
  pub mute : AllByRecursion IsMute lessons

-- what a front of the deeds hears is right
abbrev pub AreOfTheirCommands : List Deed → Type 0
AreOfTheirCommands deeds = (before rest : List Deed) (incoming : Incoming) → deeds ≡ before ++ hears incoming ∷ rest → IsOfItsCommand before (reading incoming.raw)

nothing_more : (j : ℕ) (all : List Asked) (lessons : List Lesson) (heard : List (MessageValue × Option ℕ)) → lessons ≡ [] → IsTaught j all lessons heard
nothing_more j all lessons heard none = record {
  taken = [];
  unheard = heard;
  parts = refl;
  taught = ap ats none;
  mute = subst (AllByRecursion IsMute) (sym none) tt;
}

no_joining : (j : ℕ) (deed : Deed) (deeds : List Deed) → filter (is_joining j) (deed ∷ deeds) ≡ [] → filter (is_joining j) deeds ≡ []
no_joining j deed deeds none = by_flag (is_joining j deed) none
  where
    by_flag : (own : Bool) → cond own (deed ∷ filter (is_joining j) deeds) (filter (is_joining j) deeds) ≡ [] → filter (is_joining j) deeds ≡ []
    by_flag true none = absurd cc
    by_flag false none = none

heard_next : (incoming : Incoming) (h : MessageValue × Option ℕ) (is : List Incoming) (heard : List (MessageValue × Option ℕ)) → map as_read (incoming ∷ is) ≡ map as_told (h ∷ heard)
    → (reading incoming.raw ≡ Ok h.0) × (incoming.mark ≡ h.1) × (map as_read is ≡ map as_told heard)
heard_next incoming h is heard same =
    let first : as_read incoming ≡ as_told h = cc in
    let rest : map as_read is ≡ map as_told heard = cc in
    (ap (λ (m : ReadMessage). m.0) first, ap (λ (m : ReadMessage). m.1) first, rest)

module _ (j : ℕ) (deeds : List Deed) (right : AreOfTheirCommands deeds) (few : 1 + length (sent_in deeds) ≤ 2 ^ 64) where
  abbrev all : List Asked
  all = sent_in deeds

  few_before : (before rest : List Deed) → deeds ≡ before ++ rest → 1 + length (sent_in before) ≤ 2 ^ 64
  few_before before rest parts =
      let longer : length (sent_in deeds) ≡ length (sent_in before) + length (sent_in rest) = ap (λ ds. length (sent_in ds)) parts ∙ ap length (flat_map-append sent_by before rest) ∙ length-append (sent_in before) (sent_in rest) in
      omega (arith, few, longer)

  pub taught_open : (before rest : List Deed) (commands : List Asked) (heard : List (MessageValue × Option ℕ)) → deeds ≡ before ++ rest → commands ≡ sent_in before → map as_read (heard_in rest) ≡ map as_told heard
      → AllByRecursion IsMarked heard → filter (is_joining j) rest ≡ [] → IsTaught j all (lessons_from j true commands rest) heard
  taught_open before [] commands heard parts sent same marked none = nothing_more j all [] heard refl
  taught_open before (joins i ∷ rest) commands heard parts sent same marked none =
      taught_open (before ++ joins i ∷ []) rest commands heard (parts ∙ sym (append_assoc before (joins i ∷ []) rest)) (sent ∙ sym (flat_map-append sent_by before (joins i ∷ []) ∙ append-nil (sent_in before))) same marked (no_joining j (joins i) rest none)
  taught_open before (leaves i ∷ rest) commands heard parts sent same marked none =
      by_flag (i == j) (taught_open (before ++ leaves i ∷ []) rest commands heard (parts ∙ sym (append_assoc before (leaves i ∷ []) rest)) (sent ∙ sym (flat_map-append sent_by before (leaves i ∷ []) ∙ append-nil (sent_in before))) same marked none)
    where
      by_flag : (own : Bool) → IsTaught j all (lessons_from j true commands rest) heard → IsTaught j all (lessons_from j (not own) commands rest) heard
      by_flag true further = nothing_more j all (lessons_from j false commands rest) heard (none_closed j commands rest none)
      by_flag false further = further
  taught_open before (forwards c ∷ rest) commands heard parts sent same marked none =
      taught_open (before ++ forwards c ∷ []) rest (commands ++ c ∷ []) heard (parts ∙ sym (append_assoc before (forwards c ∷ []) rest)) (ap (λ cs. cs ++ c ∷ []) sent ∙ sym (flat_map-append sent_by before (forwards c ∷ []))) same marked none
  taught_open before (answers c ∷ rest) commands heard parts sent same marked none =
      let t = taught_open (before ++ answers c ∷ []) rest commands heard (parts ∙ sym (append_assoc before (answers c ∷ []) rest)) (sent ∙ sym (flat_map-append sent_by before (answers c ∷ []) ∙ append-nil (sent_in before))) same marked none in
      by_flag (c.channel == j) t
    where
      by_flag : (own : Bool) → IsTaught j all (lessons_from j true commands rest) heard
          → IsTaught j all (only_if own (lesson (final c.token (redirect_reply c.service c.name c.body)) None other_taken ∷ []) ++ lessons_from j true commands rest) heard
      by_flag true t = record { taken = t.taken; unheard = t.unheard; parts = t.parts; taught = t.taught; mute = ((λ no_mark. refl), t.mute) }
      by_flag false t = t
  taught_open before (hears incoming ∷ rest) commands [] parts sent same marked none = absurd cc
  taught_open before (hears incoming ∷ rest) commands (h ∷ heard) parts sent same marked none =
      let s = heard_next incoming h (heard_in rest) heard same in
      let t = taught_open (before ++ hears incoming ∷ []) rest commands heard (parts ∙ sym (append_assoc before (hears incoming ∷ []) rest)) (sent ∙ sym (flat_map-append sent_by before (hears incoming ∷ []) ∙ append-nil (sent_in before))) s.2 marked.1 none in
      let own : IsOfItsCommand before (Ok h.0) = subst (IsOfItsCommand before) s.0 (right before rest incoming parts) in
      let later : all ≡ sent_in before ++ sent_in (hears incoming ∷ rest) = ap sent_in parts ∙ flat_map-append sent_by before (hears incoming ∷ rest) in
      let first : ats (lessons_in j commands incoming.mark (reading incoming.raw)) ≡ taught_to j all h =
      ap (λ cs. ats (lessons_in j cs incoming.mark (reading incoming.raw))) sent ∙ ap₂ (λ mark m. ats (lessons_in j (sent_in before) mark m)) s.1 s.0
      ∙ one_taught j before (sent_in (hears incoming ∷ rest)) h.1 h.0 own (few_before before (hears incoming ∷ rest) parts) ∙ ap (λ cs. taught_to j cs h) (sym later) in
      record {
        taken = h ∷ t.taken;
        unheard = t.unheard;
        parts = ap (λ hs. h ∷ hs) t.parts;
        taught = flat_map-append at_of (lessons_in j commands incoming.mark (reading incoming.raw)) (lessons_from j true commands rest) ∙ ap₂ (λ a b. a ++ b) first t.taught;
        mute = all_append IsMute (lessons_in j commands incoming.mark (reading incoming.raw)) (lessons_from j true commands rest)
            (subst (λ mark. AllByRecursion IsMute (lessons_in j commands mark (reading incoming.raw))) (sym s.1) (lessons_mute j commands h.1 (reading incoming.raw) marked.0)) t.mute;
      }
  taught_open before (all_ends ∷ rest) commands heard parts sent same marked none = nothing_more j all (lessons_from j false commands rest) heard (none_closed j commands rest none)
