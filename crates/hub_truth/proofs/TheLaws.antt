-- The theorem of the hub, as a term.
use Rattle.std.proofs.Common.{◌≡◌, ◌≤◌, ◌<◌, ◌^◌, ℕ, ◌+◌, ◌==◌, Bool, true, false, cond, ◌&&◌, List, [], ◌∷◌, ◌++◌, length, map, filter, Option, Some, None, refl, sym, ap, ap₂, subst, ◌∙◌, arith, append-nil, append_assoc}
use Rattle.std.specs.List.{AllByRecursion, flat_map}
use Rattle.std.proofs.lemmas.List.{map-append}
use Rattle.std.proofs.lemmas.List.Concat.{flat_map-append}
use Rattle.agent_node.specs.AgentLaws.{later_tokens, messages_told}
use Rattle.channel_core.specs.ReceivingLaws.{incoming_of}
use Rattle.channel_core.specs.Wire.{greets, hello, locator, said, said_by, event_said}
use Rattle.knowledge.specs.Facts.{nothing}
use Rattle.knowledge.specs.Learning.{learn_all, learned}
use Rattle.list_laws.specs.Fronts.{IsFront}
use Rattle.list_laws.proofs.AllLists.{all_left, all_right}
use Rattle.list_laws.proofs.Fronts.{IsMapped, front_mapped}
use Rattle.list_laws.proofs.Lists.{equal_itself, none_before, none_behind}
use Rattle.target_contexts.specs.declared.process.Image.{Image}
use Rattle.target_hub.specs.Fresh.{target_at}
use Rattle.target_hub.specs.Sent.{Told, event_at, final_at, hello_at, progress_at, sent, unknown_at}
use Rattle.target_hub.specs.declared.input.Input.{Input}
use Rattle.target_truth.specs.Holds.{Holds}
use Rattle.tcf_message.specs.Message.{MessageValue, event}
use Rattle.hub_node.specs.Deeds.{Asked, Deed, answers, ends as all_ends, forwards, heard_by, heard_in, hears, joins, leaves, sent_by, sent_in}
use Rattle.hub_node.specs.HubLaws.{TellsEachItsOwn, heard_from, is_joining}
use Rattle.hub_node.specs.Relay.{hub_services}
use Rattle.hub_node.specs.Runs.{HubRun, above_run, after_all, no_calls}
use Rattle.hub_node.proofs.TheLaws.{hears_what_comes, sends_its_commands, tells_each_its_own}
use Rattle.hub_truth.specs.HubTruth.{IsTrueAt, PeersBehindAHubKnowTruth, TakesWhatIsTold, as_read, as_told, tokens_from}
use Rattle.hub_truth.specs.Lessons.{Lesson, last_mark, lessons_from}
use Rattle.hub_truth.proofs.Begins.{Begins, begins, hello_told, nothing_told}
use Rattle.hub_truth.proofs.Entries.{IsPlain, entries_say, heard_first, heard_none, told_plain}
use Rattle.hub_truth.proofs.Listened.{At, taught_to}
use Rattle.hub_truth.proofs.Tied.{IsMarked, IsMute, IsTaught, are_told, at_of, ats, last_at, learned_are, marks_are, none_closed, taught_open}
use Rattle.hub_truth.proofs.Truth.{listeners_behind_a_hub_know_truth}

-- ---- where a channel joins

data Joining (j : ℕ) (deeds : List Deed) : Type 0 where
  never : (none : filter (is_joining j) deeds ≡ []) → Joining j deeds
  joined_at : (before rest : List Deed) (i : ℕ) (own : (i == j) ≡ true) (parts : deeds ≡ before ++ joins i ∷ rest) (unjoined : filter (is_joining j) before ≡ []) (once : filter (is_joining j) rest ≡ []) → Joining j deeds

few_none : {A : Type 0} → (x : A) (xs : List A) → length (x ∷ xs) ≤ 1 → xs ≡ []
few_none x [] few = refl
few_none x (y ∷ xs) few = absurd (omega (arith, few))

further : (j : ℕ) (deed : Deed) (deeds : List Deed) → is_joining j deed ≡ false → Joining j deeds → Joining j (deed ∷ deeds)
further j deed deeds isnt (never none) = never (ap (λ b. cond b (deed ∷ filter (is_joining j) deeds) (filter (is_joining j) deeds)) isnt ∙ none)
further j deed deeds isnt (joined_at before rest i own parts unjoined once) =
    joined_at (deed ∷ before) rest i own (ap (λ ds. deed ∷ ds) parts) (ap (λ b. cond b (deed ∷ filter (is_joining j) before) (filter (is_joining j) before)) isnt ∙ unjoined) once

fewer : (j : ℕ) (deed : Deed) (deeds : List Deed) → is_joining j deed ≡ false → length (filter (is_joining j) (deed ∷ deeds)) ≤ 1 → length (filter (is_joining j) deeds) ≤ 1
fewer j deed deeds isnt few = subst (λ b. length (cond b (deed ∷ filter (is_joining j) deeds) (filter (is_joining j) deeds)) ≤ 1) isnt few

joining : (j : ℕ) (deeds : List Deed) → length (filter (is_joining j) deeds) ≤ 1 → Joining j deeds
joining j [] few = never refl
joining j (joins i ∷ deeds) few = by_flag (i == j) refl few (joining j deeds)
  where
    by_flag : (own : Bool) → (i == j) ≡ own → length (cond own (joins i ∷ filter (is_joining j) deeds) (filter (is_joining j) deeds)) ≤ 1
        → (length (filter (is_joining j) deeds) ≤ 1 → Joining j deeds) → Joining j (joins i ∷ deeds)
    by_flag true own few rest = joined_at [] deeds i own refl refl (few_none (joins i) (filter (is_joining j) deeds) few)
    by_flag false isnt few rest = further j (joins i) deeds isnt (rest few)
joining j (leaves i ∷ deeds) few = further j (leaves i) deeds refl (joining j deeds few)
joining j (forwards c ∷ deeds) few = further j (forwards c) deeds refl (joining j deeds few)
joining j (answers c ∷ deeds) few = further j (answers c) deeds refl (joining j deeds few)
joining j (hears incoming ∷ deeds) few = further j (hears incoming) deeds refl (joining j deeds few)
joining j (all_ends ∷ deeds) few = further j all_ends deeds refl (joining j deeds few)

-- nothing is told before
from_joining : (j i : ℕ) (commands : List Asked) (before rest : List Deed) → (i == j) ≡ true → filter (is_joining j) before ≡ []
    → lessons_from j false commands (before ++ joins i ∷ rest) ≡ lessons_from j true (commands ++ sent_in before) rest
from_joining j i commands [] rest own none = ap (λ b. lessons_from j b commands rest) own ∙ ap (λ cs. lessons_from j true cs rest) (sym (append-nil commands))
from_joining j i commands (joins n ∷ before) rest own none = by_flag (n == j) none (from_joining j i commands before rest own)
  where
    by_flag : (flag : Bool) → cond flag (joins n ∷ filter (is_joining j) before) (filter (is_joining j) before) ≡ []
        → (filter (is_joining j) before ≡ [] → lessons_from j false commands (before ++ joins i ∷ rest) ≡ lessons_from j true (commands ++ sent_in before) rest)
        → lessons_from j flag commands (before ++ joins i ∷ rest) ≡ lessons_from j true (commands ++ sent_in before) rest
    by_flag true none later = absurd cc
    by_flag false none later = later none
from_joining j i commands (leaves n ∷ before) rest own none = from_joining j i commands before rest own none
from_joining j i commands (forwards c ∷ before) rest own none =
    from_joining j i (commands ++ c ∷ []) before rest own none ∙ ap (λ cs. lessons_from j true cs rest) (append_assoc commands (c ∷ []) (sent_in before))
from_joining j i commands (answers c ∷ before) rest own none = from_joining j i commands before rest own none
from_joining j i commands (hears incoming ∷ before) rest own none = from_joining j i commands before rest own none
from_joining j i commands (all_ends ∷ before) rest own none = from_joining j i commands before rest own none

-- ---- lists that are cut

record IsCut {A B : Type 0} (f : A → B) (xs ys : List B) (zs : List A) : Type 0 where
  front : List A
  back : List A
  whole : zs ≡ front ++ back
  first : xs ≡ map f front
  second : ys ≡ map f back

cut_mapped : {A B : Type 0} → (f : A → B) (xs ys : List B) (zs : List A) → xs ++ ys ≡ map f zs → IsCut f xs ys zs
cut_mapped f [] ys zs is = record { front = []; back = zs; whole = refl; first = refl; second = is }
cut_mapped f (x ∷ xs) ys [] is = absurd cc
cut_mapped f (x ∷ xs) ys (z ∷ zs) is =
    let head : x ≡ f z = cc in
    let tail : xs ++ ys ≡ map f zs = cc in
    let c = cut_mapped f xs ys zs tail in
    record { front = z ∷ c.front; back = c.back; whole = ap (λ l. z ∷ l) c.whole; first = ap (λ y. y ∷ xs) head ∙ ap (λ l. f z ∷ l) c.first; second = c.second }

data EndsWith {A : Type 0} (xs : List A) : Type 0 where
  is_empty : (none : xs ≡ []) → EndsWith xs
  has_last : (first : List A) (last : A) (is : xs ≡ first ++ last ∷ []) → EndsWith xs

behind : {A : Type 0} → (x : A) (xs : List A) → EndsWith xs → EndsWith (x ∷ xs)
behind x xs (is_empty none) = has_last [] x (ap (λ l. x ∷ l) none)
behind x xs (has_last first last is) = has_last (x ∷ first) last (ap (λ l. x ∷ l) is)

ends_with : {A : Type 0} → (xs : List A) → EndsWith xs
ends_with [] = is_empty refl
ends_with (x ∷ xs) = behind x xs (ends_with xs)

last_of : (mark : Option ℕ) (first : List At) (last : At) → last_at mark (first ++ last ∷ []) ≡ Some last.position
last_of mark [] last = refl
last_of mark (a ∷ first) last = last_of (Some a.position) first last

-- ---- what is told has marks, and begins with a Hello

told_marked : (names : List (List ℕ)) (told : List Told) → AllByRecursion IsMarked (messages_told names told)
told_marked names [] = tt
told_marked names (hello_at position body ∷ told) = (refl, told_marked names told)
told_marked names (event_at position service name body ∷ told) = (refl, told_marked names told)
told_marked names (progress_at position body ∷ told) = (refl, told_marked names told)
told_marked names (final_at position through body ∷ told) = (refl, told_marked (later_tokens names) told)
told_marked names (unknown_at position through ∷ told) = (refl, told_marked (later_tokens names) told)

hello_greets : (body : List ℕ) → said_by (event locator hello body) ≡ greets
hello_greets body = ap event_said (ap₂ (λ a b. a && b) (equal_itself locator) (equal_itself hello))

first_greets : (names : List (List ℕ)) (told : List Told) (one : MessageValue × Option ℕ) (more : List (MessageValue × Option ℕ)) → Begins told → messages_told names told ≡ one ∷ more → said_by one.0 ≡ greets
first_greets names told one more (nothing_told none) is = absurd (let both : [] ≡ one ∷ more = sym (ap (messages_told names) none) ∙ is in cc)
first_greets names told one more (hello_told position body rest so) is =
    let both : (event locator hello body, Some position) ∷ messages_told names rest ≡ one ∷ more = sym (ap (messages_told names) so) ∙ is in
    let same : (event locator hello body, Some position) ≡ one = cc in ap (λ (m : MessageValue × Option ℕ). said_by m.0) (sym same) ∙ hello_greets body

-- ---- what is learned of a front

module _ (images : List Image) (history : List Input) (k j : ℕ) (r : HubRun) (t : TakesWhatIsTold images history k r) (own : TellsEachItsOwn j r) (few : 1 + length (sent_in r.deeds) ≤ 2 ^ 64)
    (heard : heard_in r.deeds ≡ heard_from false (above_run r).past.taken) where
  abbrev all : List Asked
  all = sent_in r.deeds

  abbrev lessons : List Lesson
  lessons = lessons_from j false [] r.deeds

  abbrev messages : List (MessageValue × Option ℕ)
  messages = messages_told (tokens_from 1 all) (sent images k history)

  -- where nothing is taught nothing is known
  untaught : (front : List Lesson) → AllByRecursion IsMute front → ats front ≡ [] → IsTrueAt images history (last_mark None front) (learned (map (λ l. l.message) front))
  untaught front mute none =
      subst (λ mark. IsTrueAt images history mark (learned (map (λ l. l.message) front))) (sym (marks_are None front ∙ ap (last_at None) none))
      (learned_are front nothing mute ∙ ap (λ as_taught. learn_all (map (λ a. a.message) as_taught) nothing) none)

  no_lesson : lessons ≡ [] → (front : List Lesson) → IsFront front lessons → IsTrueAt images history (last_mark None front) (learned (map (λ l. l.message) front))
  no_lesson none front f =
      let empty : front ≡ [] = none_before front f.0 (sym f.1 ∙ none) in
      subst (λ ls. IsTrueAt images history (last_mark None ls) (learned (map (λ l. l.message) ls))) (sym empty) refl

  -- what was heard behind the opening teaches it
  taught_true : (one : MessageValue × Option ℕ) (earlier heard_then unheard : List (MessageValue × Option ℕ)) → messages ≡ (one ∷ earlier) ++ (heard_then ++ unheard) → IsTaught j all lessons heard_then
      → (front : List Lesson) → IsFront front lessons → IsTrueAt images history (last_mark None front) (learned (map (λ l. l.message) front))
  taught_true one earlier heard_then unheard whole taught front f = by_last (ends_with (ats front)) (ends_with (one ∷ earlier))
    where
      mute : AllByRecursion IsMute front
      mute = all_left IsMute front f.0 (subst (AllByRecursion IsMute) f.1 taught.mute)

      all_taught : ats front ++ ats f.0 ≡ flat_map (taught_to j all) taught.taken
      all_taught = sym (flat_map-append at_of front f.0) ∙ ap ats (sym f.1) ∙ taught.taught

      by_last : EndsWith (ats front) → EndsWith (one ∷ earlier) → IsTrueAt images history (last_mark None front) (learned (map (λ l. l.message) front))
      by_last (is_empty none) begun = untaught front mute none
      by_last (has_last first last is) (is_empty none) = absurd cc
      by_last (has_last first last is) (has_last before begin so) =
          let parts : messages ≡ (before ++ begin ∷ []) ++ (taught.taken ++ (taught.unheard ++ unheard)) =
          whole ∙ ap (λ b. b ++ (heard_then ++ unheard)) so ∙ ap (λ h. (before ++ begin ∷ []) ++ (h ++ unheard)) taught.parts ∙ ap (λ l. (before ++ begin ∷ []) ++ l) (append_assoc taught.taken taught.unheard unheard) in
          let so_taught : flat_map (taught_to j all) taught.taken ≡ first ++ last ∷ ats f.0 =
          sym all_taught ∙ ap (λ a. a ++ ats f.0) is ∙ append_assoc first (last ∷ []) (ats f.0) in
          let small : length all < 10 ^ 64 = omega (arith, few) in
          let truth : Holds (learned (map (λ a. a.message) (first ++ last ∷ []))) (target_at images history last.position) =
          listeners_behind_a_hub_know_truth images history t.legal t.typed k all small t.executed begin before taught.taken (taught.unheard ++ unheard) parts j first (ats f.0) last so_taught in
          subst (λ mark. IsTrueAt images history mark (learned (map (λ l. l.message) front))) (sym (marks_are None front ∙ ap (last_at None) is ∙ last_of None first last))
          (subst (λ known. Holds known (target_at images history last.position)) (sym (learned_are front nothing mute ∙ ap (λ as_taught. learn_all (map (λ a. a.message) as_taught) nothing) is)) truth)

  -- it joined, where so much was heard
  joined_true : (before rest : List Deed) (i : ℕ) → (i == j) ≡ true → r.deeds ≡ before ++ joins i ∷ rest → filter (is_joining j) before ≡ [] → filter (is_joining j) rest ≡ []
      → (one : MessageValue × Option ℕ) (heard_all unheard : List (MessageValue × Option ℕ)) → messages ≡ (one ∷ heard_all) ++ unheard → map as_read (heard_in r.deeds) ≡ map as_told heard_all
      → (front : List Lesson) → IsFront front lessons → IsTrueAt images history (last_mark None front) (learned (map (λ l. l.message) front))
  joined_true before rest i its parts unjoined once one heard_all unheard whole same =
      taught_true one c.front c.back unheard (whole ∙ ap (λ h. (one ∷ h) ++ unheard) c.whole ∙ append_assoc (one ∷ c.front) c.back unheard) (subst (λ ls. IsTaught j all ls c.back) (sym lessons_so) taught)
    where
      cut : map as_read (heard_in before) ++ map as_read (heard_in rest) ≡ map as_told heard_all
      cut = sym (map-append as_read (heard_in before) (heard_in rest)) ∙ ap (map as_read) (sym (flat_map-append heard_by before (joins i ∷ rest))) ∙ ap (λ ds. map as_read (heard_in ds)) (sym parts) ∙ same

      c : IsCut as_told (map as_read (heard_in before)) (map as_read (heard_in rest)) heard_all
      c = cut_mapped as_told (map as_read (heard_in before)) (map as_read (heard_in rest)) heard_all cut

      lessons_so : lessons ≡ lessons_from j true (sent_in before) rest
      lessons_so = ap (lessons_from j false []) parts ∙ from_joining j i [] before rest its unjoined

      marked : AllByRecursion IsMarked c.back
      marked =
          let of_all : AllByRecursion IsMarked ((one ∷ heard_all) ++ unheard) = subst (AllByRecursion IsMarked) whole (told_marked (tokens_from 1 all) (sent images k history)) in
          let of_heard : AllByRecursion IsMarked heard_all = (all_left IsMarked (one ∷ heard_all) unheard of_all).1 in all_right IsMarked c.front c.back (subst (AllByRecursion IsMarked) c.whole of_heard)

      taught : IsTaught j all (lessons_from j true (sent_in before) rest) c.back
      taught =
          taught_open j r.deeds own.each few (before ++ joins i ∷ []) rest (sent_in before) c.back (parts ∙ sym (append_assoc before (joins i ∷ []) rest))
          (sym (flat_map-append sent_by before (joins i ∷ []) ∙ append-nil (sent_in before))) c.second marked once

  known_true : (front : List Lesson) → IsFront front lessons → IsTrueAt images history (last_mark None front) (learned (map (λ l. l.message) front))
  known_true = by_told told.origin told.front told.are
    where
      told : IsMapped as_told messages (map as_read (flat_map incoming_of (above_run r).past.taken))
      told = front_mapped as_told messages (map as_read (flat_map incoming_of (above_run r).past.taken)) t.told

      by_joining : Joining j r.deeds → (one : MessageValue × Option ℕ) (heard_all unheard : List (MessageValue × Option ℕ)) → messages ≡ (one ∷ heard_all) ++ unheard → map as_read (heard_in r.deeds) ≡ map as_told heard_all
          → (front : List Lesson) → IsFront front lessons → IsTrueAt images history (last_mark None front) (learned (map (λ l. l.message) front))
      by_joining (never none) one heard_all unheard whole same = no_lesson (none_closed j [] r.deeds none)
      by_joining (joined_at before rest i its parts unjoined once) one heard_all unheard whole same = joined_true before rest i its parts unjoined once one heard_all unheard whole same

      -- nothing was heard
      nothing_heard : Joining j r.deeds → heard_in r.deeds ≡ [] → (front : List Lesson) → IsFront front lessons → IsTrueAt images history (last_mark None front) (learned (map (λ l. l.message) front))
      nothing_heard (never none_joins) none front ff = no_lesson (none_closed j [] r.deeds none_joins) front ff
      nothing_heard (joined_at before rest i its parts unjoined once) none front ff =
          untaught front (all_left IsMute front ff.0 (subst (AllByRecursion IsMute) (sym lessons_so ∙ ff.1) taught.mute)) (none_before (ats front) (ats ff.0) (sym (flat_map-append at_of front ff.0) ∙ ap ats (sym ff.1 ∙ lessons_so) ∙ taught.taught ∙ ap (flat_map (taught_to j all)) nothing_taken))
        where
          lessons_so : lessons ≡ lessons_from j true (sent_in before) rest
          lessons_so = ap (lessons_from j false []) parts ∙ from_joining j i [] before rest its unjoined

          rest_none : heard_in rest ≡ []
          rest_none = none_behind (heard_in before) (heard_in rest) (sym (flat_map-append heard_by before (joins i ∷ rest)) ∙ ap heard_in (sym parts) ∙ none)

          taught : IsTaught j all (lessons_from j true (sent_in before) rest) []
          taught =
              taught_open j r.deeds own.each few (before ++ joins i ∷ []) rest (sent_in before) [] (parts ∙ sym (append_assoc before (joins i ∷ []) rest))
              (sym (flat_map-append sent_by before (joins i ∷ []) ∙ append-nil (sent_in before))) (ap (map as_read) rest_none) tt once

          nothing_taken : taught.taken ≡ []
          nothing_taken = none_before taught.taken taught.unheard (sym taught.parts)

      by_told : (origin : List (MessageValue × Option ℕ)) → IsFront origin messages → map as_read (flat_map incoming_of (above_run r).past.taken) ≡ map as_told origin
          → (front : List Lesson) → IsFront front lessons → IsTrueAt images history (last_mark None front) (learned (map (λ l. l.message) front))
      by_told [] f are = nothing_heard (joining j r.deeds own.joined) (heard ∙ heard_none (above_run r).past.taken are)
      by_told (one ∷ heard_all) f are =
          by_joining (joining j r.deeds own.joined) one heard_all f.0 f.1
          (ap (map as_read) heard
          ∙ heard_first (above_run r).past.taken one heard_all (entries_say r) (all_left IsPlain (one ∷ heard_all) f.0 (subst (AllByRecursion IsPlain) f.1 (told_plain (tokens_from 1 all) (sent images k history)))).1
          (first_greets (tokens_from 1 all) (sent images k history) one (heard_all ++ f.0) (begins images history k t.legal) f.1) are)

pub peers_know_truth : PeersBehindAHubKnowTruth
peers_know_truth calls new j images history k t =
    let r = after_all j calls no_calls in
    let own = tells_each_its_own calls new j in
    record {
      own = own;
      told = own.told ∙ ap (λ os. said (event locator hello hub_services) None ∷ os) (sym (are_told j false [] r.deeds));
      learned_so = known_true images history k j r t own (sends_its_commands calls new j).few (hears_what_comes calls new j).heard;
    }
