-- Answers that a peer may give, line by line.
use Rattle.std.proofs.Common.{◌≡◌, ℕ, zero, suc, ◌+◌, ◌-◌, ◌<◌, ◌≤◌, ◌||◌, Bool, true, false, cond, List, [], ◌∷◌, ◌++◌, length, map, drop, take, refl, sym, ◌∙◌, ap, subst, append_assoc, append-nil, arith, inl, inr, ◌⊎◌, ⊎_elim}
use Rattle.std.specs.Prelude.{◌↔◌, Option, Some, None, slice_get}
use Rattle.std.specs.List.{AllByRecursion, Contains, filter, list_any}
use Rattle.std.proofs.lemmas.Bool.{cases_Bool, cases_lt, cond-false, cond-true, false≢true, or_parts}
use Rattle.std.proofs.lemmas.List.Elements.{All-from_recursion, Contains-append_right, recursion_from_All}
use Rattle.std.proofs.lemmas.List.Folds.{list_any-append}
use Rattle.list_laws.proofs.AllLists.{all_append, all_at, all_contains, all_drop, all_push, all_take, all_then}
use Rattle.list_laws.proofs.Contained.{contains_cases, contains_first, none_in}
use Rattle.list_laws.proofs.Flags.{or_or_false}
use Rattle.command_tables.specs.declared.reading.Reading.{Reading}
use Rattle.command_tables.specs.declared.reading.Reading.TheVariants as readings
use Rattle.target_contexts.specs.declared.process.Image.{Image}
use Rattle.tcf_values.specs.Changing.{changes}
use Rattle.tcf_values.specs.Storable.{stores}
use Rattle.tcf_values.specs.declared.command.Command as values
use Rattle.tcf_values.specs.declared.command.Command.TheVariants.{GetContext, GetState, BpProperties, BpGetStatus, MemGet, RegGet, RegGetm}
use Rattle.tcf_text.specs.Each.{Each}
use Rattle.tcf_text.specs.Lines.{Accepted, from_hello, is_placed_hello, last_mark, later_or, mark_of}
use Rattle.tcf_text.specs.declared.log.LogLine.{LogLine}
use Rattle.tcf_text.specs.declared.log.LogLine.TheVariants.{Sent, Refused, Hello, Event, Progress, Final, Unknown, Closed, Ended, Cached}
use Rattle.target_hub.specs.Fresh.{AreBehind, Fresh, FreshLine, IsStorable, answer_at, target_at}
use Rattle.target_hub.specs.History.{input_after, inputs_after}
use Rattle.target_hub.specs.HubValue.{HubValue, TargetValue, new_target, usable}
use Rattle.command_tables.specs.Reading.{reading_of}
use Rattle.journal_text.specs.Inputs.{InputIsRead}
use Rattle.reply_tables.specs.Written.{answer_data}
use Rattle.target_hub.specs.Answering.{after_reading, executed}
use Rattle.target_hub.specs.Execution.{exec_effect}
use Rattle.target_hub.specs.Laws.{AskingChangesNothing}
use Rattle.target_hub.specs.declared.done.Answered.TheVariants as answered
use Rattle.target_hub.specs.declared.done.Done.{Done}
use Rattle.target_hub.specs.Ordered.{ComesAfter, ExecutesItsCommands, IsChannelOf, IsPlaced, hello_position, through}
use Rattle.target_hub.specs.Received.{read}
use Rattle.target_hub.specs.declared.input.Input.{Input}
use Rattle.log_check.specs.Barriers.{AreBarriers, AreLater, AreReached, AreWithin, BeginsBehind, BeginsFrom, IsAnswer, IsAtStart, IsBarrierOf, IsFreshAnswer, IsFreshHere, IsLookedAt, IsStorableNumber, IsUnstorable, Rise}
use Rattle.log_check.specs.Sorts.{AreOfLog, AreSorted, HasItsSort, IsCommandOf, IsOfNone, accepted_as, as_accepted, is_sent_on, passes, sort_by}
use Rattle.log_check.specs.declared.fresh.Barrier.{Barrier}
use Rattle.log_check.specs.declared.sorts.Command.{Command}
use Rattle.log_check.specs.declared.sorts.Sort.{Sort}
use Rattle.log_check.specs.declared.sorts.Sort.TheVariants as sorts
use Rattle.log_check.proofs.Opening.{one_channel}
use Rattle.log_check.proofs.Placing.{last_push}
use Rattle.log_check.specs.Matching.{AreFront, passing, through_on}
use Rattle.log_check.specs.Rules.{OnItsChannel}
use Rattle.log_check.proofs.Sorting.{command_there, passing_of, place_of}

no_flag : {A : Type 0} → (A → ⊥) → (false ≡ true) ↔ A
no_flag not = ((λ is. absurd (false≢true is)), (λ a. absurd (not a)))

-- ---- barriers behind a position

pub record WithinSo (bs rest : List Barrier) (position count : ℕ) : Type 0 where
  pub skipped : List Barrier
  pub split : bs ≡ skipped ++ rest
  pub counted : count ≡ length skipped
  pub within : AllByRecursion (λ (b : Barrier). b.place ≤ position) skipped

pub within_first : (bs : List Barrier) (position : ℕ) → WithinSo bs bs position 0
within_first bs position = record { skipped = []; split = refl; counted = refl; within = tt }

length_push : {A : Type 0} (xs : List A) (x : A) → length (xs ++ x ∷ []) ≡ length xs + 1
length_push [] x = refl
length_push (y ∷ xs) x = let rest = length_push xs x in omega (arith, rest)

pub within_next : (bs rest after : List Barrier) (position count count' : ℕ) (b : Barrier) → WithinSo bs rest position count → rest ≡ b ∷ after → b.place ≤ position → count' ≡ count + 1
    → WithinSo bs after position count'
within_next bs rest after position count count' b s is small one =
    record {
      skipped = s.skipped ++ b ∷ [];
      split = s.split ∙ (ap (λ l. s.skipped ++ l) is ∙ sym (append_assoc s.skipped (b ∷ []) after));
      counted = omega (arith, one, s.counted, length_push s.skipped b);
      within = all_push (λ (d : Barrier). d.place ≤ position) s.skipped b s.within small;
    }

pub within_here : (bs rest after : List Barrier) (position count : ℕ) (b : Barrier) → WithinSo bs rest position count → rest ≡ b ∷ after → position < b.place → AreWithin bs position count
within_here bs rest after position count b s is large =
    record { skipped = s.skipped; later = b ∷ after; split = s.split ∙ ap (λ l. s.skipped ++ l) is; counted = s.counted; within = s.within; begins = large }

pub within_all : (bs rest : List Barrier) (position count : ℕ) → WithinSo bs rest position count → rest ≡ [] → AreWithin bs position count
within_all bs rest position count s is =
    record { skipped = s.skipped; later = []; split = s.split ∙ ap (λ l. s.skipped ++ l) is; counted = s.counted; within = s.within; begins = tt }

pub count_most : (bs : List Barrier) (position count : ℕ) → AreWithin bs position count → count ≤ length bs
count_most bs position count w = omega (arith, w.counted, shorter w.skipped w.later, ap length w.split)
  where
    shorter : (xs ys : List Barrier) → length xs ≤ length (xs ++ ys)
    shorter [] ys = omega arith
    shorter (x ∷ xs) ys = let rest = shorter xs ys in omega (arith, rest)

drop_front : {A : Type 0} (n : ℕ) (xs ys : List A) → n ≡ length xs → drop n (xs ++ ys) ≡ ys
drop_front n [] ys is = ap (λ m. drop m ys) {x = n} {y = 0} is
drop_front zero (x ∷ xs) ys is = absurd (omega (arith, is))
drop_front (suc n) (x ∷ xs) ys is = drop_front n xs ys (omega (arith, is))

pub are_later : (bs left : List Barrier) (position count : ℕ) → AreWithin bs position count → left ≡ drop count bs → AreLater bs position left
are_later bs left position count w is =
    let same : left ≡ w.later = is ∙ (ap (drop count) w.split ∙ drop_front count w.skipped w.later w.counted) in
    record { skipped = w.skipped; split = w.split ∙ ap (λ l. w.skipped ++ l) (sym same); within = w.within; begins = subst (BeginsBehind position) (sym same) w.begins }

-- ---- whether the barriers before a command are behind it

above_first : (b d : Barrier) (bs : List Barrier) → Rise (b ∷ bs) → Contains (b ∷ bs) d → b.number ≤ d.number
above_first b d bs rise there =
    elim (contains_cases b bs d there) [
      | inl here ↦ omega (arith, ap (λ (x : Barrier). x.number) here)
      | inr later ↦ let more = all_contains (λ (x : Barrier). b.number < x.number) bs d rise.0 later in omega (arith, more)
    ]

rise_behind : (skipped later : List Barrier) → Rise (skipped ++ later) → Rise later
rise_behind [] later rise = rise
rise_behind (b ∷ skipped) later rise = rise_behind skipped later rise.1

there_cases : (skipped later : List Barrier) (d : Barrier) → Contains (skipped ++ later) d → Contains skipped d ⊎ Contains later d
there_cases [] later d there = inr there
there_cases (b ∷ skipped) later d there =
    elim (contains_cases b (skipped ++ later) d there) [
      | inl here ↦ inl (subst (Contains (b ∷ skipped)) here (contains_first b skipped))
      | inr more ↦ ⊎_elim (λ early. inl (Contains-append_right (b ∷ []) skipped d early)) (λ late. inr late) (there_cases skipped later d more)
    ]

begins_late : (later : List Barrier) (position number : ℕ) (d : Barrier) → BeginsFrom number later → Rise later → Contains later d → d.number < number → ⊥
begins_late [] position number d begins rise there less = none_in d there
begins_late (b ∷ later) position number d begins rise there less = let more = above_first b d later rise there in omega (arith, more, begins, less)

barriers_behind : (log : List LogLine) (inputs : List Input) (k : ℕ) (bs skipped later : List Barrier) (position number : ℕ) → AreBarriers log inputs k bs → bs ≡ skipped ++ later
    → AllByRecursion (λ (b : Barrier). b.place ≤ position) skipped → BeginsFrom number later → AreBehind log inputs number position k
barriers_behind log inputs k bs skipped later position number are split within begins c place ex barrier less =
    elim (there_cases skipped later (record { number = c.number; place = place }) (subst (λ l. Contains l (record { number = c.number; place = place })) split (are.all c place ex barrier))) [
      | inl early ↦ all_contains (λ (b : Barrier). b.place ≤ position) skipped (record { number = c.number; place = place }) within early
      | inr late ↦ absurd (begins_late later position number (record { number = c.number; place = place }) begins (rise_behind skipped later (subst Rise split are.rise)) late less)
    ]

each_later : (log : List LogLine) (inputs : List Input) (k : ℕ) (skipped later : List Barrier) (b : Barrier) → AllByRecursion (IsBarrierOf log inputs k) (skipped ++ b ∷ later) → IsBarrierOf log inputs k b
each_later log inputs k skipped later b all = all_at (IsBarrierOf log inputs k) skipped later b all

behind_barriers : (log : List LogLine) (inputs : List Input) (k : ℕ) (bs skipped later : List Barrier) (position number : ℕ) → AreBarriers log inputs k bs → bs ≡ skipped ++ later
    → BeginsBehind position later → AreBehind log inputs number position k → BeginsFrom number later
behind_barriers log inputs k bs skipped [] position number are split begins behind = tt
behind_barriers log inputs k bs skipped (b ∷ later) position number are split begins behind =
    let of = each_later log inputs k skipped later b (subst (AllByRecursion (IsBarrierOf log inputs k)) split are.each) in
    elim (cases_lt b.number number) [
      | inl less ↦ let small = behind of.c b.place of.executed of.barrier (omega (arith, of.numbered, less)) in absurd (omega (arith, small, begins))
      | inr more ↦ more
    ]

-- ---- storable commands

-- a peer answers only what asks
stores_unchanging : (c : values.Command) → stores c ≡ true → changes c ≡ false
stores_unchanging (GetContext id) is = refl
stores_unchanging (GetState id) is = refl
stores_unchanging (BpProperties id) is = refl
stores_unchanging (BpGetStatus id) is = refl
stores_unchanging (MemGet id addr word size mode) is = refl
stores_unchanging (RegGet id) is = refl
stores_unchanging (RegGetm list) is = refl
stores_unchanging _ is = cc

record IsKnownStorable (reading : Reading) : Type 0 where
  pub command : values.Command
  pub known : reading ≡ readings.Known command
  pub storable : stores command ≡ true

storable_sort : (reading : Reading) → sort_by reading ≡ sorts.Storable → IsKnownStorable reading
storable_sort (readings.Known command) is = by_flags (stores command) (changes command) refl is
  where
    by_flags : (s c : Bool) → stores command ≡ s → cond s sorts.Storable (cond c sorts.Barrier sorts.Through) ≡ sorts.Storable → IsKnownStorable (readings.Known command)
    by_flags true c s_is e = record { command = command; known = refl; storable = s_is }
    by_flags false true s_is e = absurd cc
    by_flags false false s_is e = absurd cc
storable_sort readings.Unknown is = absurd cc
storable_sort (readings.Bad index code) is = absurd cc

record IsGot {A B : Type 0} (f : A → B) (xs : List A) (i : ℕ) (y : B) : Type 0 where
  pub x : A
  pub there : slice_get xs i ≡ Some x
  pub same : f x ≡ y

map_got : {A B : Type 0} (f : A → B) (i : ℕ) (xs : List A) (y : B) → slice_get (map f xs) i ≡ Some y → IsGot f xs i y
map_got f i [] y is = absurd cc
map_got f zero (x ∷ xs) y is = let same : f x ≡ y = cc in record { x = x; there = refl; same = same }
map_got f (suc i) (x ∷ xs) y is = let rest = map_got f i xs y is in record { x = rest.x; there = rest.there; same = rest.same }

record IsFound (commands : List Command) (number : ℕ) (a : Accepted) : Type 0 where
  pub c : Command
  pub of : IsCommandOf commands number c
  pub same : accepted_as c ≡ a

found_there : (commands : List Command) (number : ℕ) (a : Accepted) → AreSorted commands → Contains (as_accepted commands) a → a.number ≡ number → IsFound commands number a
found_there commands number a sorted there numbered =
    let place = place_of (as_accepted commands) a number sorted.counted there numbered in
    let got = map_got accepted_as (number - 1) commands a place.1 in
    record { c = got.x; of = command_there commands number got.x sorted place.0 got.there; same = got.same }

known_sort : (c : Command) (command : values.Command) → HasItsSort c → (read (accepted_as c)).reading ≡ readings.Known command → stores command ≡ true → c.sort ≡ sorts.Storable
known_sort c command sort known storable = sort ∙ (ap sort_by known ∙ cond-true (stores command) sorts.Storable (cond (changes command) sorts.Barrier sorts.Through) storable)

-- what the log says is storable, and what the commands say
record IsBoth (commands : List Command) (number : ℕ) (command : values.Command) : Type 0 where
  pub c : Command
  pub of : IsCommandOf commands number c
  pub storable : c.sort ≡ sorts.Storable
  pub known : (read (accepted_as c)).reading ≡ readings.Known command

storable_there : (log : List LogLine) (commands : List Command) (number : ℕ) (command : values.Command) → AreOfLog log commands → AreSorted commands → IsStorable log number command → IsBoth commands number command
storable_there log commands number command of sorted s =
    let found = found_there commands number s.accepted_as sorted (subst (λ l. Contains l s.accepted_as) (sym of.accepted_are) s.there) s.numbered in
    let known : (read (accepted_as found.c)).reading ≡ readings.Known command = ap (λ (a : Accepted). (read a).reading) found.same ∙ s.known in
    record { c = found.c; of = found.of; storable = known_sort found.c command found.of.sort known s.storable; known = known }

record IsStored (log : List LogLine) (number : ℕ) (c : Command) : Type 0 where
  pub command : values.Command
  pub known : (read (accepted_as c)).reading ≡ readings.Known command
  pub is : IsStorable log number command

storable_back : (log : List LogLine) (commands : List Command) (number : ℕ) (c : Command) → AreOfLog log commands → IsCommandOf commands number c → c.sort ≡ sorts.Storable → IsStored log number c
storable_back log commands number c of command storable =
    let k = storable_sort (read (accepted_as c)).reading (sym command.sort ∙ storable) in
    record {
      command = k.command;
      known = k.known;
      is = record { accepted_as = accepted_as c; there = subst (λ l. Contains l (accepted_as c)) of.accepted_are command.there; numbered = command.numbered; known = k.known; storable = k.storable };
    }

pub storable_here : (commands : List Command) (number : ℕ) (c : Command) → IsCommandOf commands number c → c.sort ≡ sorts.Storable → IsStorableNumber commands number
storable_here commands number c command storable = record { c = c; of = command; storable = storable }

pub other_sort : (commands : List Command) (number : ℕ) (c : Command) (flag : Bool) → IsCommandOf commands number c → flag ≡ is_sent_on c.sort → flag ≡ true → IsUnstorable commands number
other_sort commands number c flag command is on =
    record {
      never = λ (s : IsStorableNumber commands number).
          let same : c.sort ≡ sorts.Storable = command.sort ∙ (ap (λ (a : Accepted). sort_by (read a).reading) (sym (command.alone (accepted_as s.c) s.of.there s.of.numbered)) ∙ (sym s.of.sort ∙ s.storable)) in
          false≢true (sym (is ∙ ap is_sent_on same) ∙ on);
    }

pub unsent : (sort : Sort) (flag : Bool) → flag ≡ is_sent_on sort → flag ≡ false → sort ≡ sorts.Storable
unsent sorts.Storable flag is off = refl
unsent sorts.Through flag is off = absurd (false≢true (sym off ∙ is))
unsent sorts.Barrier flag is off = absurd (false≢true (sym off ∙ is))

pub none_storable : (commands : List Command) (number : ℕ) → IsOfNone commands number → IsUnstorable commands number
none_storable commands number none = record { never = λ (s : IsStorableNumber commands number). none.none (accepted_as s.c) s.of.there s.of.numbered }

pub looked_there : (commands : List Command) (number position reached : ℕ) (body : List ℕ) → IsStorableNumber commands number → IsLookedAt commands (Final number (Some position) body) reached position
looked_there commands number position reached body there = inl (there, refl)

pub looked_past : (commands : List Command) (number position reached : ℕ) (body : List ℕ) → IsUnstorable commands number → IsLookedAt commands (Final number (Some position) body) reached reached
looked_past commands number position reached body missing = inr (missing, refl)

-- ---- an answer

same_result : (x y : List ℕ) → answered.Result x ≡ answered.Result y → x ≡ y
same_result x y e = cc

pub answer_is : (c : Command) (reading : Reading) (target : TargetValue) (done : Done) (body : List ℕ) (flag : Bool) → HasItsSort c → c.sort ≡ sorts.Storable
    → reading ≡ reading_of c.service.now c.name.now c.body.now → done ≡ executed 0 c.service.now c.name.now reading target → (flag ≡ true) ↔ (done.answer ≡ answered.Result body)
    → (flag ≡ true) ↔ IsAnswer (read (accepted_as c)).reading target body
answer_is c reading target done body flag sort storable is did same =
    subst (λ r. (flag ≡ true) ↔ IsAnswer r target body) (sym k.known)
    ((λ e. sym (same_result (answer_data k.command (exec_effect 0 k.command target).answer) body (sym answer ∙ same.0 e))), (λ e. same.1 (answer ∙ ap (λ b. answered.Result b) (sym e))))
  where
    k : IsKnownStorable (read (accepted_as c)).reading
    k = storable_sort (read (accepted_as c)).reading (sym sort ∙ storable)

    answer : done.answer ≡ answered.Result (answer_data k.command (exec_effect 0 k.command target).answer)
    answer = ap (λ (d : Done). d.answer) (did ∙ ap (λ r. executed 0 c.service.now c.name.now r target) (is ∙ k.known))

abbrev hub_of : TargetValue → Bool → HubValue
hub_of target spent = record { target = target; is_spent = spent }

same_hub : (hub : HubValue) → hub.is_spent ≡ false → usable hub.target ≡ hub
same_hub hub is = sym (ap (hub_of hub.target) is)

pub asked_stays : (c : Command) (reading : Reading) (old new : HubValue) → AskingChangesNothing → HasItsSort c → c.sort ≡ sorts.Storable → reading ≡ reading_of c.service.now c.name.now c.body.now
    → old.is_spent ≡ false → new ≡ usable (after_reading 0 reading old.target) → new ≡ old
asked_stays c reading old new law sort storable is fresh after =
    let k = storable_sort (read (accepted_as c)).reading (sym sort ∙ storable) in
    after
    ∙ (ap (λ r. usable (after_reading 0 r old.target)) (is ∙ k.known)
    ∙ (ap usable (law 0 k.command old.target (stores_unchanging k.command k.storable)).0 ∙ same_hub old fresh))

-- ---- the answer to a command

pub fresh_answer_is : (commands : List Command) (later : List Barrier) (number : ℕ) (target : TargetValue) (body : List ℕ) (c : Command) (begins flag : Bool) → IsCommandOf commands number c → c.sort ≡ sorts.Storable
    → begins ≡ true → (begins ≡ true) ↔ BeginsFrom number later → (flag ≡ true) ↔ IsAnswer (read (accepted_as c)).reading target body → (flag ≡ true) ↔ IsFreshAnswer commands later number target body
fresh_answer_is commands later number target body c begins flag command storable on from tells = (
  (λ e d other stored. (from.0 on, subst (λ (a : Accepted). IsAnswer (read a).reading target body) (sym (command.alone (accepted_as d) other.there other.numbered)) (tells.0 e))),
  (λ all. tells.1 (all c command storable).1),
)

pub not_begun : (commands : List Command) (later : List Barrier) (number : ℕ) (target : TargetValue) (body : List ℕ) (c : Command) (begins : Bool) → IsCommandOf commands number c → c.sort ≡ sorts.Storable
    → begins ≡ false → (begins ≡ true) ↔ BeginsFrom number later → (false ≡ true) ↔ IsFreshAnswer commands later number target body
not_begun commands later number target body c begins command storable off from = no_flag (λ all. false≢true (sym off ∙ from.1 (all c command storable).0))

pub none_asked : (commands : List Command) (later : List Barrier) (number : ℕ) (target : TargetValue) (body : List ℕ) → IsUnstorable commands number
    → (true ≡ true) ↔ IsFreshAnswer commands later number target body
none_asked commands later number target body none = ((λ e c command storable. absurd (none.never (record { c = c; of = command; storable = storable }))), (λ all. refl))

-- ---- one line

final_is : (images : List Image) (log : List LogLine) (inputs : List Input) (k : ℕ) (commands : List Command) (bs later : List Barrier) (number position next reached : ℕ) (body : List ℕ) (target : TargetValue)
    → AreOfLog log commands → IsChannelOf log inputs k → AreBarriers log inputs k bs → AreSorted commands → AreLater bs next later → next ≤ length inputs
    → (IsStorableNumber commands number × (next ≡ position)) ⊎ (IsUnstorable commands number × (next ≡ reached)) → target ≡ target_at images inputs next
    → IsFreshAnswer commands later number target body ↔ FreshLine log images inputs (Final number (Some position) body)
final_is images log inputs k commands bs later number position next reached body target of channel barriers sorted are within looked target_is = (there, back)
  where
    here : (c : Command) → IsCommandOf commands number c → c.sort ≡ sorts.Storable → next ≡ position
    here c command storable = ⊎_elim (λ yes_it. yes_it.1) (λ (not_it : IsUnstorable commands number × (next ≡ reached)). absurd (not_it.0.never (record { c = c; of = command; storable = storable }))) looked

    answer_same : (command : values.Command) → next ≡ position → IsAnswer (readings.Known command) target body ↔ (body ≡ answer_at images inputs position command)
    answer_same command same =
        let now : target ≡ target_at images inputs position = target_is ∙ ap (target_at images inputs) same in
        ((λ a. subst (λ t. IsAnswer (readings.Known command) t body) now a), (λ a. subst (λ t. IsAnswer (readings.Known command) t body) (sym now) a))

    there : IsFreshAnswer commands later number target body → FreshLine log images inputs (Final number (Some position) body)
    there fresh command storable =
        let both = storable_there log commands number command of sorted storable in
        let same = here both.c both.of both.storable in
        let f = fresh both.c both.of both.storable in
        record {
          within = subst (λ n. n ≤ length inputs) same within;
          same = (answer_same command same).0 (subst (λ r. IsAnswer r target body) both.known f.1);
          behind = λ j on. subst (λ n. AreBehind log inputs number position n) (one_channel log inputs k j channel on) (subst (λ n. AreBehind log inputs number n k) same (barriers_behind log inputs k bs are.skipped later next number barriers are.split are.within f.0));
        }

    back : FreshLine log images inputs (Final number (Some position) body) → IsFreshAnswer commands later number target body
    back line c command storable =
        let stored = storable_back log commands number c of command storable in
        let same = here c command storable in
        let fresh = line stored.command stored.is in (
          behind_barriers log inputs k bs are.skipped later next number barriers are.split are.begins (subst (λ n. AreBehind log inputs number n k) (sym same) (fresh.behind k channel)),
          subst (λ r. IsAnswer r target body) (sym stored.known) ((answer_same stored.command same).1 fresh.same),
        )

unknown_is : (images : List Image) (log : List LogLine) (inputs : List Input) (commands : List Command) (number position : ℕ) → AreOfLog log commands → AreSorted commands
    → IsUnstorable commands number ↔ FreshLine log images inputs (Unknown number (Some position))
unknown_is images log inputs commands number position of sorted = (
  (λ (none : IsUnstorable commands number) command storable.
      let both = storable_there log commands number command of sorted storable in none.never (record { c = both.c; of = both.of; storable = both.storable })),
  (λ line. record { never = λ (s : IsStorableNumber commands number). let stored = storable_back log commands number s.c of s.of s.storable in line stored.command stored.is }),
)

line_is : (images : List Image) (log : List LogLine) (inputs : List Input) (k : ℕ) (commands : List Command) (bs later : List Barrier) (next reached : ℕ) (target : TargetValue) (line : LogLine)
    → AreOfLog log commands → IsChannelOf log inputs k → AreBarriers log inputs k bs → AreSorted commands → AreLater bs next later → next ≤ length inputs
    → IsLookedAt commands line reached next → target ≡ target_at images inputs next → IsFreshHere commands later target line ↔ FreshLine log images inputs line
line_is images log inputs k commands bs later next reached target (Sent number service name body) of channel barriers sorted are within looked target_is = ((λ f. tt), (λ f. tt))
line_is images log inputs k commands bs later next reached target (Refused why) of channel barriers sorted are within looked target_is = ((λ f. tt), (λ f. tt))
line_is images log inputs k commands bs later next reached target (Hello mark body) of channel barriers sorted are within looked target_is = ((λ f. tt), (λ f. tt))
line_is images log inputs k commands bs later next reached target (Event mark service name body) of channel barriers sorted are within looked target_is = ((λ f. tt), (λ f. tt))
line_is images log inputs k commands bs later next reached target (Progress number mark body) of channel barriers sorted are within looked target_is = ((λ f. tt), (λ f. tt))
line_is images log inputs k commands bs later next reached target (Final number None body) of channel barriers sorted are within looked target_is = ((λ f. tt), (λ f. tt))
line_is images log inputs k commands bs later next reached target (Final number (Some position) body) of channel barriers sorted are within looked target_is =
    final_is images log inputs k commands bs later number position next reached body target of channel barriers sorted are within looked target_is
line_is images log inputs k commands bs later next reached target (Unknown number None) of channel barriers sorted are within looked target_is = ((λ f. tt), (λ f. tt))
line_is images log inputs k commands bs later next reached target (Unknown number (Some position)) of channel barriers sorted are within looked target_is = unknown_is images log inputs commands number position of sorted
line_is images log inputs k commands bs later next reached target (Closed number) of channel barriers sorted are within looked target_is = ((λ f. tt), (λ f. tt))
line_is images log inputs k commands bs later next reached target (Ended why) of channel barriers sorted are within looked target_is = ((λ f. tt), (λ f. tt))
line_is images log inputs k commands bs later next reached target (Cached what value) of channel barriers sorted are within looked target_is = ((λ f. tt), (λ f. tt))

-- ---- positions

abbrev mark_or_zero : Option (Option ℕ) → ℕ
mark_or_zero (Some (Some position)) = position
mark_or_zero (Some None) = 0
mark_or_zero None = 0

abbrev IsUnmarked : Option (Option ℕ) → Type 0
IsUnmarked (Some (Some position)) = ⊥
IsUnmarked (Some None) = Unit {0}
IsUnmarked None = Unit {0}

unmarked_zero : (last : Option (Option ℕ)) (n : ℕ) → IsUnmarked last → n ≤ mark_or_zero last → n ≡ 0
unmarked_zero None n none few = omega (arith, few)
unmarked_zero (Some None) n none few = omega (arith, few)
unmarked_zero (Some (Some position)) n none few = absurd none

-- a message behind the last one
after_marks : (last : Option (Option ℕ)) (mark : Option ℕ) → ComesAfter last mark → (mark_or_zero last ≤ mark_or_zero (Some mark)) × (IsUnmarked last → IsUnmarked (Some mark))
after_marks None mark after = absurd after
after_marks (Some None) None after = (omega arith, (λ u. tt))
after_marks (Some None) (Some position) after = absurd cc
after_marks (Some (Some before)) None after = absurd after
after_marks (Some (Some before)) (Some position) after = (after, (λ u. absurd u))

none_before : (inputs : List Input) (before : List LogLine) (mark : Option ℕ) (body : List ℕ) → IsPlaced inputs before (Hello mark body) → list_any is_placed_hello before ≡ false
none_before inputs before None body placed = placed
none_before inputs before (Some position) body placed = placed.0

from_zero : (reached next n : ℕ) → reached ≡ 0 → next ≡ reached → next ≤ n
from_zero reached next n zero_is same = omega (arith, zero_is, same)

on_from : (reached next a b : ℕ) → reached ≤ a → a ≤ b → next ≡ reached → next ≤ b
on_from reached next a b few more same = omega (arith, few, more, same)

looked_on : (commands : List Command) (number position reached next a : ℕ) → reached ≤ a → a ≤ position
    → (IsStorableNumber commands number × (next ≡ position)) ⊎ (IsUnstorable commands number × (next ≡ reached)) → next ≤ position
looked_on commands number position reached next a few more looked = ⊎_elim (λ to. omega (arith, to.1)) (λ stays. omega (arith, few, more, stays.1)) looked

marked : (inputs : List Input) (before : List LogLine) (line : LogLine) (commands : List Command) (reached next : ℕ) → IsPlaced inputs before line
    → (list_any is_placed_hello before ≡ false → IsUnmarked (last_mark before)) → reached ≤ mark_or_zero (last_mark before) → IsLookedAt commands line reached next
    → next ≤ mark_or_zero (later_or (mark_of line) (last_mark before))
marked inputs before (Sent number service name body) commands reached next placed unmarked few looked = omega (arith, few, looked)
marked inputs before (Refused why) commands reached next placed unmarked few looked = omega (arith, few, looked)
marked inputs before (Hello mark body) commands reached next placed unmarked few looked =
    from_zero reached next (mark_or_zero (Some mark)) (unmarked_zero (last_mark before) reached (unmarked (none_before inputs before mark body placed)) few) looked
marked inputs before (Event mark service name body) commands reached next placed unmarked few looked =
    on_from reached next (mark_or_zero (last_mark before)) (mark_or_zero (Some mark)) few (after_marks (last_mark before) mark placed).0 looked
marked inputs before (Progress number mark body) commands reached next placed unmarked few looked =
    on_from reached next (mark_or_zero (last_mark before)) (mark_or_zero (Some mark)) few (after_marks (last_mark before) mark placed).0 looked
marked inputs before (Final number None body) commands reached next placed unmarked few looked =
    on_from reached next (mark_or_zero (last_mark before)) 0 few (after_marks (last_mark before) None placed).0 looked
marked inputs before (Final number (Some position) body) commands reached next placed unmarked few looked =
    looked_on commands number position reached next (mark_or_zero (last_mark before)) few (after_marks (last_mark before) (Some position) placed).0 looked
marked inputs before (Unknown number mark) commands reached next placed unmarked few looked =
    on_from reached next (mark_or_zero (last_mark before)) (mark_or_zero (Some mark)) few (after_marks (last_mark before) mark placed).0 looked
marked inputs before (Closed number) commands reached next placed unmarked few looked = omega (arith, few, looked)
marked inputs before (Ended why) commands reached next placed unmarked few looked = omega (arith, few, looked)
marked inputs before (Cached what value) commands reached next placed unmarked few looked = omega (arith, few, looked)

unmarked_more : (inputs : List Input) (before : List LogLine) (line : LogLine) → IsPlaced inputs before line → is_placed_hello line ≡ false → IsUnmarked (last_mark before)
    → IsUnmarked (later_or (mark_of line) (last_mark before))
unmarked_more inputs before (Sent number service name body) placed other none = none
unmarked_more inputs before (Refused why) placed other none = none
unmarked_more inputs before (Hello None body) placed other none = tt
unmarked_more inputs before (Hello (Some position) body) placed other none = absurd (false≢true (sym other))
unmarked_more inputs before (Event mark service name body) placed other none = (after_marks (last_mark before) mark placed).1 none
unmarked_more inputs before (Progress number mark body) placed other none = (after_marks (last_mark before) mark placed).1 none
unmarked_more inputs before (Final number mark body) placed other none = (after_marks (last_mark before) mark placed).1 none
unmarked_more inputs before (Unknown number mark) placed other none = (after_marks (last_mark before) mark placed).1 none
unmarked_more inputs before (Closed number) placed other none = none
unmarked_more inputs before (Ended why) placed other none = none
unmarked_more inputs before (Cached what value) placed other none = none

stays_there : (reached next : ℕ) (inputs : List Input) → reached ≤ length inputs → next ≡ reached → AreReached inputs reached next
stays_there reached next inputs within same = record { on = omega (arith, same); within = omega (arith, within, same) }

-- a fresh line has a position that the inputs reach
reaches : (images : List Image) (log : List LogLine) (inputs : List Input) (commands : List Command) (before : List LogLine) (line : LogLine) (reached next : ℕ) → AreOfLog log commands
    → IsPlaced inputs before line → reached ≤ mark_or_zero (last_mark before) → reached ≤ length inputs → IsLookedAt commands line reached next → FreshLine log images inputs line → AreReached inputs reached next
reaches images log inputs commands before (Sent number service name body) reached next of placed few within looked fresh = stays_there reached next inputs within looked
reaches images log inputs commands before (Refused why) reached next of placed few within looked fresh = stays_there reached next inputs within looked
reaches images log inputs commands before (Hello mark body) reached next of placed few within looked fresh = stays_there reached next inputs within looked
reaches images log inputs commands before (Event mark service name body) reached next of placed few within looked fresh = stays_there reached next inputs within looked
reaches images log inputs commands before (Progress number mark body) reached next of placed few within looked fresh = stays_there reached next inputs within looked
reaches images log inputs commands before (Final number None body) reached next of placed few within looked fresh = stays_there reached next inputs within looked
reaches images log inputs commands before (Final number (Some position) body) reached next of placed few within looked fresh =
    ⊎_elim (λ to. goes to.0 to.1) (λ stays. stays_there reached next inputs within stays.1) looked
  where
    goes : IsStorableNumber commands number → next ≡ position → AreReached inputs reached next
    goes s same =
        let stored = storable_back log commands number s.c of s.of s.storable in
        let more = (after_marks (last_mark before) (Some position) placed).0 in
        let most = (fresh stored.command stored.is).within in record { on = omega (arith, few, more, same); within = omega (arith, most, same) }
reaches images log inputs commands before (Unknown number mark) reached next of placed few within looked fresh = stays_there reached next inputs within looked
reaches images log inputs commands before (Closed number) reached next of placed few within looked fresh = stays_there reached next inputs within looked
reaches images log inputs commands before (Ended why) reached next of placed few within looked fresh = stays_there reached next inputs within looked
reaches images log inputs commands before (Cached what value) reached next of placed few within looked fresh = stays_there reached next inputs within looked

-- ---- the target at a position

inputs_append : (xs ys : List Input) (target : TargetValue) → inputs_after (xs ++ ys) target ≡ inputs_after ys (inputs_after xs target)
inputs_append [] ys target = refl
inputs_append (x ∷ xs) ys target = inputs_append xs ys (input_after x target)

take_none : {A : Type 0} (xs : List A) (n : ℕ) → xs ≡ [] → xs ≡ take n xs
take_none [] zero is = refl
take_none [] (suc n) is = refl
take_none (x ∷ xs) n is = absurd cc

take_on : {A : Type 0} (from to : ℕ) (xs : List A) → from ≤ to → take to xs ≡ take from xs ++ take (to - from) (drop from xs)
take_on zero to xs on = ap (λ n. take n xs) {x = to} {y = to - 0} (omega arith)
take_on (suc from) zero xs on = absurd (omega (arith, on))
take_on (suc from) (suc to) [] on = take_none [] (suc to - suc from) refl
take_on (suc from) (suc to) (x ∷ xs) on =
    ap (λ l. x ∷ l) (take_on from to xs (omega (arith, on)) ∙ ap (λ n. take from xs ++ take n (drop from xs)) {x = to - from} {y = suc to - suc from} (omega arith))

goes_to : (images : List Image) (inputs : List Input) (from to : ℕ) (hub hub' : HubValue) → from ≤ to → hub ≡ usable (target_at images inputs from)
    → hub' ≡ usable (inputs_after (take (to - from) (drop from inputs)) hub.target) → hub' ≡ usable (target_at images inputs to)
goes_to images inputs from to hub hub' on is next =
    next
    ∙ (ap (λ (h : HubValue). usable (inputs_after (take (to - from) (drop from inputs)) h.target)) is
    ∙ (ap usable (sym (inputs_append (take from inputs) (take (to - from) (drop from inputs)) (new_target images))) ∙ ap (λ l. usable (inputs_after l (new_target images))) (sym (take_on from to inputs on))))

pub usable_fresh : (hub : HubValue) (target : TargetValue) → hub ≡ usable target → hub.is_spent ≡ false
usable_fresh hub target is = ap (λ (h : HubValue). h.is_spent) is

pub after_next : (whole : TargetValue) (left after : List Input) (input : Input) (hub hub' : HubValue) → whole ≡ inputs_after left hub.target → left ≡ input ∷ after
    → hub' ≡ usable (input_after input hub.target) → whole ≡ inputs_after after hub'.target
after_next whole left after input hub hub' so is next = so ∙ (ap (λ l. inputs_after l hub.target) is ∙ ap (λ (h : HubValue). inputs_after after h.target) (sym next))

pub after_last : (whole : TargetValue) (left : List Input) (hub : HubValue) → whole ≡ inputs_after left hub.target → left ≡ [] → hub.is_spent ≡ false → hub ≡ usable whole
after_last whole left hub so is fresh = sym (same_hub hub fresh) ∙ ap usable (sym (so ∙ ap (λ l. inputs_after l hub.target) is))

pub part_read : (inputs rest next : List Input) (from count : ℕ) → AllByRecursion InputIsRead inputs → rest ≡ drop from inputs → next ≡ take count rest → AllByRecursion InputIsRead next
part_read inputs rest next from count all behind front =
    subst (AllByRecursion InputIsRead) (sym front) (all_take InputIsRead count rest (subst (AllByRecursion InputIsRead) (sym behind) (all_drop InputIsRead from inputs all)))

pub reached_is : (inputs : List Input) (from to : ℕ) → from ≤ to → to ≤ length inputs → (true ≡ true) ↔ AreReached inputs from to
reached_is inputs from to on within = ((λ e. record { on = on; within = within }), (λ r. refl))

pub not_on : (inputs : List Input) (from to : ℕ) → to < from → (false ≡ true) ↔ AreReached inputs from to
not_on inputs from to less = no_flag (λ (r : AreReached inputs from to). omega (arith, less, r.on))

pub not_within : (inputs : List Input) (from to : ℕ) → length inputs < to → (false ≡ true) ↔ AreReached inputs from to
not_within inputs from to less = no_flag (λ (r : AreReached inputs from to). omega (arith, less, r.within))

-- ---- line by line

pub record FreshSo (images : List Image) (log : List LogLine) (inputs : List Input) (commands : List Command) (bs : List Barrier) (left : List LogLine) (later : List Barrier) (position : ℕ) (hub : HubValue) : Type 0 where
  pub before : List LogLine
  pub whole : log ≡ before ++ left
  pub fresh : AllByRecursion (FreshLine log images inputs) before
  pub reached : position ≤ mark_or_zero (last_mark before)
  pub unmarked : list_any is_placed_hello before ≡ false → IsUnmarked (last_mark before)
  pub within : position ≤ length inputs
  pub target : hub ≡ usable (target_at images inputs position)
  pub skipped : List Barrier
  pub split : bs ≡ skipped ++ later
  pub past : AllByRecursion (λ (b : Barrier). b.place ≤ position) skipped

pub fresh_first : (images : List Image) (log : List LogLine) (inputs : List Input) (k : ℕ) (commands : List Command) (bs : List Barrier) (hub : HubValue) → IsAtStart images log inputs k commands bs hub
    → FreshSo images log inputs commands bs log bs 0 hub
fresh_first images log inputs k commands bs hub start =
    record {
      before = [];
      whole = refl;
      fresh = tt;
      reached = omega arith;
      unmarked = λ none. tt;
      within = omega arith;
      target = start.target;
      skipped = [];
      split = refl;
      past = tt;
    }

past_on : (from to : ℕ) (bs : List Barrier) → from ≤ to → AllByRecursion (λ (b : Barrier). b.place ≤ from) bs → AllByRecursion (λ (b : Barrier). b.place ≤ to) bs
past_on from to bs on all = all_then (λ (b : Barrier). b.place ≤ from) (λ (b : Barrier). b.place ≤ to) (λ b few. omega (arith, few, on)) bs all

all_later : (bs skipped later later' : List Barrier) (from to : ℕ) → from ≤ to → bs ≡ skipped ++ later → AllByRecursion (λ (b : Barrier). b.place ≤ from) skipped → AreLater later to later' → AreLater bs to later'
all_later bs skipped later later' from to on split past are =
    record {
      skipped = skipped ++ are.skipped;
      split = split ∙ (ap (λ l. skipped ++ l) are.split ∙ sym (append_assoc skipped are.skipped later'));
      within = all_append (λ (b : Barrier). b.place ≤ to) skipped are.skipped (past_on from to skipped on past) are.within;
      begins = are.begins;
    }

any_push : (before : List LogLine) (line : LogLine) → list_any is_placed_hello (before ++ line ∷ []) ≡ (list_any is_placed_hello before || is_placed_hello line)
any_push before line = list_any-append is_placed_hello before (line ∷ []) ∙ or_or_false (list_any is_placed_hello before) (is_placed_hello line)

-- the line is fresh
pub fresh_next : (images : List Image) (log : List LogLine) (inputs : List Input) (k : ℕ) (commands : List Command) (bs : List Barrier) (left after : List LogLine) (later later' : List Barrier)
    (position next : ℕ) (start hub hub' hub'' : HubValue) (line : LogLine) (there flag : Bool) → IsAtStart images log inputs k commands bs start → AreSorted commands
    → FreshSo images log inputs commands bs left later position hub → left ≡ line ∷ after → IsLookedAt commands line position next
    → there ≡ true → (there ≡ true) ↔ AreReached inputs position next → (there ≡ true → hub' ≡ usable (inputs_after (take (next - position) (drop position inputs)) hub.target))
    → AreLater later next later' → flag ≡ true → (flag ≡ true) ↔ IsFreshHere commands later' hub'.target line → hub'' ≡ hub' → FreshSo images log inputs commands bs after later' next hub''
fresh_next images log inputs k commands bs left after later later' position next start hub hub' hub'' line there flag at sorted s is looked there_is goes moved are flag_is tells stays =
    let r = goes.0 there_is in
    let target_is : hub' ≡ usable (target_at images inputs next) = goes_to images inputs position next hub hub' r.on s.target (moved there_is) in
    let all = all_later bs s.skipped later later' position next r.on s.split s.past are in
    let placed : IsPlaced inputs s.before line = at.placed s.before after line (s.whole ∙ ap (λ l. s.before ++ l) is) in
    let here = line_is images log inputs k commands bs later' next position hub'.target line at.of at.channel at.barriers sorted all r.within looked (ap (λ (h : HubValue). h.target) target_is) in
    record {
      before = s.before ++ line ∷ [];
      whole = s.whole ∙ (ap (λ l. s.before ++ l) is ∙ sym (append_assoc s.before (line ∷ []) after));
      fresh = all_push (FreshLine log images inputs) s.before line s.fresh (here.0 (tells.0 flag_is));
      reached = subst (λ m. next ≤ mark_or_zero m) (sym (last_push s.before line)) (marked inputs s.before line commands position next placed s.unmarked s.reached looked);
      unmarked = λ none.
          let parts = or_parts (list_any is_placed_hello s.before) (is_placed_hello line) (sym (any_push s.before line) ∙ none) in
          subst IsUnmarked (sym (last_push s.before line)) (unmarked_more inputs s.before line placed parts.1 (s.unmarked parts.0));
      within = r.within;
      target = stays ∙ target_is;
      skipped = all.skipped;
      split = all.split;
      past = all.within;
    }

fresh_at : (images : List Image) (log before after : List LogLine) (inputs : List Input) (line : LogLine) → log ≡ before ++ line ∷ after → Fresh log images inputs → FreshLine log images inputs line
fresh_at images log before after inputs line whole fresh =
    all_at (FreshLine log images inputs) before after line (subst (AllByRecursion (FreshLine log images inputs)) whole (recursion_from_All (FreshLine log images inputs) log fresh))

-- the inputs don't reach its position
pub not_reached : (images : List Image) (log : List LogLine) (inputs : List Input) (k : ℕ) (commands : List Command) (bs : List Barrier) (left after : List LogLine) (later : List Barrier)
    (position next : ℕ) (start hub : HubValue) (line : LogLine) (there : Bool) → IsAtStart images log inputs k commands bs start
    → FreshSo images log inputs commands bs left later position hub → left ≡ line ∷ after → IsLookedAt commands line position next
    → there ≡ false → (there ≡ true) ↔ AreReached inputs position next → (false ≡ true) ↔ Fresh log images inputs
not_reached images log inputs k commands bs left after later position next start hub line there at s is looked isnt goes =
    let whole : log ≡ s.before ++ line ∷ after = s.whole ∙ ap (λ l. s.before ++ l) is in
    no_flag (λ fresh. false≢true (sym isnt ∙ goes.1 (reaches images log inputs commands s.before line position next at.of (at.placed s.before after line whole) s.reached s.within looked (fresh_at images log s.before after inputs line whole fresh))))

-- it isn't fresh
pub fresh_not : (images : List Image) (log : List LogLine) (inputs : List Input) (k : ℕ) (commands : List Command) (bs : List Barrier) (left after : List LogLine) (later later' : List Barrier)
    (position next : ℕ) (start hub hub' : HubValue) (line : LogLine) (there flag : Bool) → IsAtStart images log inputs k commands bs start → AreSorted commands
    → FreshSo images log inputs commands bs left later position hub → left ≡ line ∷ after → IsLookedAt commands line position next
    → there ≡ true → (there ≡ true) ↔ AreReached inputs position next → (there ≡ true → hub' ≡ usable (inputs_after (take (next - position) (drop position inputs)) hub.target))
    → AreLater later next later' → flag ≡ false → (flag ≡ true) ↔ IsFreshHere commands later' hub'.target line → (false ≡ true) ↔ Fresh log images inputs
fresh_not images log inputs k commands bs left after later later' position next start hub hub' line there flag at sorted s is looked there_is goes moved are isnt tells =
    let r = goes.0 there_is in
    let target_is : hub' ≡ usable (target_at images inputs next) = goes_to images inputs position next hub hub' r.on s.target (moved there_is) in
    let all = all_later bs s.skipped later later' position next r.on s.split s.past are in
    let here = line_is images log inputs k commands bs later' next position hub'.target line at.of at.channel at.barriers sorted all r.within looked (ap (λ (h : HubValue). h.target) target_is) in
    no_flag (λ fresh. false≢true (sym isnt ∙ tells.1 (here.1 (fresh_at images log s.before after inputs line (s.whole ∙ ap (λ l. s.before ++ l) is) fresh))))

pub fresh_last : (images : List Image) (log : List LogLine) (inputs : List Input) (commands : List Command) (bs : List Barrier) (left : List LogLine) (later : List Barrier) (position : ℕ) (hub : HubValue)
    → FreshSo images log inputs commands bs left later position hub → left ≡ [] → (true ≡ true) ↔ Fresh log images inputs
fresh_last images log inputs commands bs left later position hub s is =
    let all : s.before ≡ log = sym (s.whole ∙ (ap (λ l. s.before ++ l) is ∙ append-nil s.before)) in
    ((λ e. All-from_recursion (FreshLine log images inputs) log (subst (AllByRecursion (FreshLine log images inputs)) all s.fresh)), (λ fresh. refl))

-- ---- a log that is made on no channel

all_from_each : {A : Type 0} (P : A → Type 0) (xs : List A) → ((before after : List A) (x : A) → xs ≡ before ++ x ∷ after → P x) → AllByRecursion P xs
all_from_each P [] each = tt
all_from_each P (x ∷ xs) each = (each [] xs x refl, all_from_each P xs (λ before after y is. each (x ∷ before) after y (ap (λ l. x ∷ l) is)))

unmarked_by : (inputs : List Input) (before rest others log : List LogLine) → log ≡ before ++ (rest ++ others) → Each (IsPlaced inputs) log → IsUnmarked (last_mark before)
    → list_any is_placed_hello rest ≡ false → IsUnmarked (last_mark (before ++ rest))
unmarked_by inputs before [] others log is placed none other = subst (λ l. IsUnmarked (last_mark l)) (sym (append-nil before)) none
unmarked_by inputs before (line ∷ rest) others log is placed none other =
    let parts = or_parts (is_placed_hello line) (list_any is_placed_hello rest) other in
    let now : IsUnmarked (last_mark (before ++ line ∷ [])) = subst IsUnmarked (sym (last_push before line)) (unmarked_more inputs before line (placed before (rest ++ others) line is) parts.0 none) in
    subst (λ l. IsUnmarked (last_mark l)) (append_assoc before (line ∷ []) rest)
    (unmarked_by inputs (before ++ line ∷ []) rest others log (is ∙ sym (append_assoc before (line ∷ []) (rest ++ others))) placed now parts.1)

-- the last Hello with a position
record IsLastHello (lines : List LogLine) : Type 0 where
  pub before : List LogLine
  pub after : List LogLine
  pub position : ℕ
  pub body : List ℕ
  pub split : lines ≡ before ++ Hello (Some position) body ∷ after
  pub from : from_hello lines ≡ Hello (Some position) body ∷ after

hello_here : (line : LogLine) (lines : List LogLine) → is_placed_hello line ≡ true → list_any is_placed_hello lines ≡ false → IsLastHello (line ∷ lines)
hello_here (Sent number service name body) lines is other = absurd (false≢true is)
hello_here (Refused why) lines is other = absurd (false≢true is)
hello_here (Hello None body) lines is other = absurd (false≢true is)
hello_here (Hello (Some position) body) lines is other =
    record { before = []; after = lines; position = position; body = body; split = refl; from = cond-false (list_any is_placed_hello lines) (from_hello lines) (Hello (Some position) body ∷ lines) other }
hello_here (Event mark service name body) lines is other = absurd (false≢true is)
hello_here (Progress number mark body) lines is other = absurd (false≢true is)
hello_here (Final number mark body) lines is other = absurd (false≢true is)
hello_here (Unknown number mark) lines is other = absurd (false≢true is)
hello_here (Closed number) lines is other = absurd (false≢true is)
hello_here (Ended why) lines is other = absurd (false≢true is)
hello_here (Cached what value) lines is other = absurd (false≢true is)

last_hello : (lines : List LogLine) → list_any is_placed_hello lines ≡ true → IsLastHello lines
last_hello [] is = absurd (false≢true is)
last_hello (line ∷ lines) is =
    elim (cases_Bool (list_any is_placed_hello lines)) [
      | inl later ↦
          let r = last_hello lines later in
          record {
            before = line ∷ r.before;
            after = r.after;
            position = r.position;
            body = r.body;
            split = ap (λ l. line ∷ l) r.split;
            from = cond-true (list_any is_placed_hello lines) (from_hello lines) (cond (is_placed_hello line) (line ∷ lines) []) later ∙ r.from;
          }
      | inr none ↦ hello_here line lines (only_here (is_placed_hello line) (list_any is_placed_hello lines) is none) none
    ]
  where
    only_here : (here later : Bool) → (here || later) ≡ true → later ≡ false → here ≡ true
    only_here true later e off = refl
    only_here false later e off = absurd (false≢true (sym off ∙ e))

channel_there : (inputs : List Input) (lines : List LogLine) → Each (IsPlaced inputs) lines → list_any is_placed_hello lines ≡ true → ((k : ℕ) → IsChannelOf lines inputs k → ⊥) → ⊥
channel_there inputs lines placed is none =
    let hello = last_hello lines is in
    let opens = (placed hello.before hello.after (Hello (Some hello.position) hello.body) hello.split).1 in
    none opens.0 (record { position = hello.position; hello = ap hello_position hello.from; opened = opens.1 })

marked_before : (inputs : List Input) (log before after : List LogLine) (line : LogLine) → log ≡ before ++ line ∷ after → Each (IsPlaced inputs) log → ((k : ℕ) → IsChannelOf log inputs k → ⊥)
    → IsUnmarked (last_mark before)
marked_before inputs log before after line is placed none =
    elim (cases_Bool (list_any is_placed_hello before)) [
      | inl there ↦
          absurd (channel_there inputs log placed
          (ap (list_any is_placed_hello) is ∙ (list_any-append is_placed_hello before (line ∷ after) ∙ ap (λ b. b || list_any is_placed_hello (line ∷ after)) there)) none)
      | inr missing ↦ unmarked_by inputs [] before (line ∷ after) log is placed tt missing
    ]

no_mark : (last : Option (Option ℕ)) (position : ℕ) → ComesAfter last (Some position) → IsUnmarked last → ⊥
no_mark None position after none = after
no_mark (Some None) position after none = absurd cc
no_mark (Some (Some before)) position after none = none

fresh_unmarked : (images : List Image) (inputs : List Input) (log before : List LogLine) (line : LogLine) → IsPlaced inputs before line → IsUnmarked (last_mark before) → FreshLine log images inputs line
fresh_unmarked images inputs log before (Sent number service name body) placed none = tt
fresh_unmarked images inputs log before (Refused why) placed none = tt
fresh_unmarked images inputs log before (Hello mark body) placed none = tt
fresh_unmarked images inputs log before (Event mark service name body) placed none = tt
fresh_unmarked images inputs log before (Progress number mark body) placed none = tt
fresh_unmarked images inputs log before (Final number None body) placed none = tt
fresh_unmarked images inputs log before (Final number (Some position) body) placed none = absurd (no_mark (last_mark before) position placed none)
fresh_unmarked images inputs log before (Unknown number None) placed none = tt
fresh_unmarked images inputs log before (Unknown number (Some position)) placed none = absurd (no_mark (last_mark before) position placed none)
fresh_unmarked images inputs log before (Closed number) placed none = tt
fresh_unmarked images inputs log before (Ended why) placed none = tt
fresh_unmarked images inputs log before (Cached what value) placed none = tt

pub fresh_nowhere : (images : List Image) (inputs : List Input) (log : List LogLine) → Each (IsPlaced inputs) log → ((k : ℕ) → IsChannelOf log inputs k → ⊥) → (true ≡ true) ↔ Fresh log images inputs
fresh_nowhere images inputs log placed none = (
  (λ e. All-from_recursion (FreshLine log images inputs) log
      (all_from_each (FreshLine log images inputs) log (λ before after line is. fresh_unmarked images inputs log before line (placed before after line is) (marked_before inputs log before after line is placed none)))),
  (λ fresh. refl),
)

-- ---- a log that is made on a channel

pub executed_front : (inputs : List Input) (log : List LogLine) (commands : List Command) (k : ℕ) → AreOfLog log commands → IsChannelOf log inputs k → OnItsChannel log inputs (ExecutesItsCommands inputs log)
    → AreFront (through_on k inputs) (passing commands)
executed_front inputs log commands k of on executes = subst (λ cs. AreFront (through_on k inputs) (map read cs)) (sym (passing_of log commands of)) (executes k on).executed

pub fresh_whole : (images : List Image) (inputs : List Input) (log : List LogLine) (commands : List Command) (bs : List Barrier) (k : ℕ) (hub : HubValue) (flag : Bool) → hub ≡ usable (new_target images)
    → AreOfLog log commands → IsChannelOf log inputs k → ((l : List LogLine) → as_accepted (filter passes commands) ≡ through l → AreBarriers l inputs k bs) → Each (IsPlaced inputs) log
    → ((is : List Image) (j : ℕ) → IsAtStart is log inputs j commands bs hub → (flag ≡ true) ↔ Fresh log is inputs) → (flag ≡ true) ↔ Fresh log images inputs
fresh_whole images inputs log commands bs k hub flag is of on barriers placed tells =
    tells images k (record { target = is; of = of; channel = on; barriers = barriers log (passing_of log commands of); placed = placed })
