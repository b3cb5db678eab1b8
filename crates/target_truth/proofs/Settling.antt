-- What becomes of a process by the instructions of a thread, as its events tell it: threads have begun, the thread is
-- suspended or runs on, breakpoints are hit, or the process ends.
use Rattle.std.proofs.Common.{◌≡◌, ℕ, zero, suc, ◌+◌, ◌-◌, Bool, true, false, true≢false, cond, List, [], ◌∷◌, ◌++◌, map, Option, Some, None, IfSome, option_map, refl, sym, ◌∙◌, ap, subst, arith}
use Rattle.std.specs.Prelude.{ℤ, is_some, option_and_then}
use Rattle.std.specs.List.{AllByRecursion, range_with_len}
use Rattle.std.specs.Option.{option_map_or}
use Rattle.std.proofs.lemmas.Option.{same_Some}
use Rattle.list_laws.proofs.AllLists.{all_append}
use Rattle.json_args.specs.Kinds.{IsWhole}
use Rattle.json_values.specs.Props.{is_bp}
use Rattle.breakpoints.specs.Counting.{listed}
use Rattle.breakpoints.specs.Laws.{forgetting}
use Rattle.breakpoints.specs.Rows.{IsOrderly as AreListed, row_of}
use Rattle.breakpoints.specs.Status.{instances_of}
use Rattle.breakpoints.specs.Statuses.{statuses_of}
use Rattle.breakpoints.specs.declared.rows.Placed.{Placed}
use Rattle.breakpoints.proofs.TheLaws.{steps_keep_order}
use Rattle.run_control.specs.Ending.{end_after, end_events}
use Rattle.run_control.specs.Executing.{settled, settled_events}
use Rattle.run_control.specs.Laws.{uncounted}
use Rattle.run_control.specs.Steering.{with_state}
use Rattle.run_control.specs.TargetValue.{TargetValue, target_of}
use Rattle.run_control.specs.Telling.{contexts_events, hit_events, made_events, several_events, statuses_among, stop_events, suspended_events}
use Rattle.run_control.proofs.Counted.{forgotten_alone}
use Rattle.target_contexts.specs.Changes.{with_change}
use Rattle.target_contexts.specs.Contexts.{thread_data}
use Rattle.target_contexts.specs.Live.{process_of}
use Rattle.target_contexts.specs.Named.{attached_in, runs}
use Rattle.target_contexts.specs.TargetsValue.{TargetsValue}
use Rattle.target_contexts.specs.ProcessValue.{ProcessValue}
use Rattle.target_contexts.specs.Threads.{in_thread, thread_at, thread_count, thread_of}
use Rattle.target_contexts.specs.declared.process.ThreadState.{ThreadState}
use Rattle.target_contexts.specs.declared.process.ThreadState.TheVariants.{Running, Suspended}
use Rattle.target_contexts.specs.declared.threads.Thread.{Thread}
use Rattle.target_truth.specs.Holds.{process_in}
use Rattle.target_truth.proofs.Becoming.{Becomes, changed, changed_at, orderly, others_stand, stays_attached, twice}
use Rattle.target_truth.proofs.ContextLimits.{threads_fit}
use Rattle.target_hub.proofs.Fates.{Covers, Fate, TraceCovers}
use Rattle.target_hub.proofs.Points.{found_is, listed_are, readable_like}
use Rattle.target_hub.proofs.Lists.{all_mapped}
use Rattle.target_hub.specs.Limits.{AreReadable}
use Rattle.target_truth.proofs.First.{AreThere, IsRunningAt, Leads, OthersStand, StaysAttached, changed as leads_changed, joined_them, passed_one, passed_several}
use Rattle.target_truth.proofs.Differs.{status_by}
use Rattle.target_truth.proofs.Hits.{AreFound, Counted, IfFound, uncounted_same}
use Rattle.target_truth.proofs.FitRun.{cpu_found, thread_whole}
use Rattle.target_truth.proofs.Following.{Follows, none_begun}
use Rattle.target_truth.proofs.Live.{few_found, number_found}
use Rattle.target_truth.proofs.Silent.{ran_on}
use Rattle.target_truth.proofs.Telling.{Ended, end_told, ended, stopped_told, suspended_so}
use Rattle.target_truth.proofs.Statuses.{IsOwn, all_own, among_told, listed_own}
use Rattle.target_truth.proofs.StatusLimits.{instances_fit}
use Rattle.target_truth.proofs.Tells.{IsTold, Tell}
use Rattle.target_truth.proofs.Threads.{has_more, some_there}
use Rattle.target_truth.proofs.Whole.{IsGood}
use Rattle.tcf_values.specs.Spelling.{IsNumber}
use Rattle.tcf_values.specs.declared.event.EventData.{EventData}
use Rattle.tcf_values.specs.declared.event.EventData.TheVariants as events
use Rattle.tcf_values.specs.declared.values.BpProps.{BpProps}
use Rattle.tcf_values.specs.declared.values.BpStatus.{BpStatus}

-- ---- a process that executed: it is still the one that was started, and its thread is there

pub record Executes (number n : ℕ) (target : TargetValue) (contexts : TargetsValue) (old new : ProcessValue) : Type 0 where
  pub there : process_in number target ≡ Some old
  pub becomes : Becomes number target.contexts contexts new
  pub follows : Follows n old new
  pub thread : Thread
  pub at : thread_at n old ≡ Some thread

-- ---- what its thread hits

-- a thread that is suspended names what it hits
abbrev pub names_hits : ThreadState → List (List ℕ) → Type 0
names_hits (Running left) hits = Unit {0}
names_hits (Suspended reason others) hits = hits ≡ others

-- and nothing where it hits nothing
abbrev pub names_none : ThreadState → Type 0
names_none state = names_hits state []

running_names : (state : ThreadState) (hits : List (List ℕ)) → runs state ≡ true → names_hits state hits
running_names (Running left) hits on = tt
running_names (Suspended reason others) hits on = absurd (true≢false (sym on))

-- ---- it lives on, and its thread has a state

record Lasts (hits : List (List ℕ)) (number n : ℕ) (target now : TargetValue) (old last : ProcessValue) (state : ThreadState) : Type 0 where
  is : IsNumber number
  stays : StaysAttached hits number target now old last
  follows : Follows n old last
  was : Thread
  was_at : thread_at n old ≡ Some was
  at : Thread
  now_at : thread_at n last ≡ Some at
  now_is : at.state ≡ state
  ran : runs state ≡ true → runs was.state ≡ true
  readable : AreReadable now.breakpoints
  orderly : AreListed now.breakpoints

-- what is told of the breakpoints that are hit is so
props_there : (bps part : List Placed) → AllByRecursion (IsOwn bps) part → AreThere (map (λ (row : Placed). row.props) part) bps
props_there bps [] own = tt
props_there bps (row ∷ part) own = (ap (option_map (λ (r : Placed). r.props)) own.0.there, props_there bps part own.1)

props_fit : (bps : List Placed) (ids : List (List ℕ)) → AreReadable bps → AllByRecursion (λ (props : BpProps). is_bp props ≡ true) (map (λ (row : Placed). row.props) (listed ids bps))
props_fit bps ids readable =
    all_mapped (λ (row : Placed). is_bp row.props ≡ true) (λ (props : BpProps). is_bp props ≡ true) (λ (row : Placed). row.props) (listed ids bps) (λ row is. is)
    (listed_are (λ (row : Placed). is_bp row.props ≡ true) ids bps readable)

several_so : (ids : List (List ℕ)) (now : TargetValue) → AreReadable now.breakpoints → AreListed now.breakpoints → AllByRecursion (IsTold now now) (several_events ids now.breakpoints)
several_so [] now readable orderly = tt
several_so (id ∷ []) now readable orderly = tt
several_so (id ∷ other ∷ ids) now readable orderly =
    let all : List (List ℕ) = id ∷ other ∷ ids in
    let list : List BpProps = map (λ (row : Placed). row.props) (listed all now.breakpoints) in (
      record {
        limits = props_fit now.breakpoints all readable;
        typed = tt;
        leads = leads_changed now now list refl (props_there now.breakpoints (listed all now.breakpoints) (listed_own all now.breakpoints orderly)) (λ one row none found. found);
      },
      tt,
    )

if_so : (P : EventData → Type 0) (runs : Bool) (told : List EventData) → AllByRecursion P told → AllByRecursion P (cond runs told [])
if_so P true told all = all
if_so P false told all = tt

hits_so : (runs : Bool) (ids : List (List ℕ)) (now : TargetValue) → AreReadable now.breakpoints → AreListed now.breakpoints → AllByRecursion (IsTold now now) (hit_events runs ids now)
hits_so runs ids now readable orderly =
    all_append (IsTold now now) (cond runs (several_events ids now.breakpoints) []) (statuses_among ids now)
    (if_so (IsTold now now) runs (several_events ids now.breakpoints) (several_so ids now readable orderly)) (among_told ids now orderly)

-- ---- no thread has begun

-- the breakpoints of these IDs have these IDs
id_listed : (id : List ℕ) (row : Option Placed) (rest : List Placed) (ids : List (List ℕ)) → IfFound id row → map (λ (props : BpProps). props.id) (map (λ (r : Placed). r.props) rest) ≡ ids
    → map (λ (props : BpProps). props.id) (map (λ (r : Placed). r.props) (option_map_or (λ r. r ∷ rest) row rest)) ≡ id ∷ ids
id_listed id None rest ids is more = absurd is
id_listed id (Some row) rest ids is more =
    ap (λ (one : List ℕ). one ∷ map (λ (props : BpProps). props.id) (map (λ (r : Placed). r.props) rest)) is ∙ ap (λ (others : List (List ℕ)). id ∷ others) more

hits_of_listed : (bps : List Placed) (ids : List (List ℕ)) → AreFound bps ids → map (λ (props : BpProps). props.id) (map (λ (row : Placed). row.props) (listed ids bps)) ≡ ids
hits_of_listed bps [] found = refl
hits_of_listed bps (id ∷ ids) found = id_listed id (row_of id bps) (listed ids bps) ids found.0 (hits_of_listed bps ids found.1)

-- it runs on: the first message tells what is hit
one_told : (number n : ℕ) (target now : TargetValue) (old last : ProcessValue) (hit : List ℕ) → StaysAttached (hit ∷ []) number target now old last → OthersStand n old last → IsRunningAt n old → IsRunningAt n last
    → AreListed now.breakpoints → (found : Option Placed) → row_of hit now.breakpoints ≡ found → IfFound hit found → IfSome found (IsOwn now.breakpoints)
    → Tell target now (statuses_of (attached_in now.contexts.processes) (option_map_or (λ (row : Placed). row ∷ []) found []))
one_told number n target now old last hit stays stand ran run orderly None there is own = absurd is
one_told number n target now old last hit stays stand ran run orderly (Some row) there is own =
    let attached : List ℕ = attached_in now.contexts.processes in
    let status : BpStatus = record { instances = instances_of row.props row.counts attached } in (
      record {
        limits = instances_fit row.props row.counts attached own.counted;
        typed = tt;
        leads = subst (λ (id : List ℕ). Leads target now (events.BpStatusIs id status)) (sym is) (passed_one number n target now old last hit status stays stand ran run (ap (status_by attached) there));
      },
      tt,
    )

passed_told : (number n : ℕ) (target now : TargetValue) (old last : ProcessValue) (hits : List (List ℕ)) → StaysAttached hits number target now old last → OthersStand n old last → IsRunningAt n old → IsRunningAt n last
    → AreReadable now.breakpoints → AreListed now.breakpoints → AreFound now.breakpoints hits → Tell target now (several_events hits now.breakpoints ++ statuses_among hits now)
passed_told number n target now old last [] stays stand ran run readable orderly found = ran_on number n target now old last stays stand ran run
passed_told number n target now old last (hit ∷ []) stays stand ran run readable orderly found =
    one_told number n target now old last hit stays stand ran run orderly (row_of hit now.breakpoints) refl found.0
    (found_is (IsOwn now.breakpoints) hit now.breakpoints (all_own now.breakpoints orderly))
passed_told number n target now old last (hit ∷ other ∷ hits) stays stand ran run readable orderly found =
    let all : List (List ℕ) = hit ∷ other ∷ hits in
    let list : List BpProps = map (λ (row : Placed). row.props) (listed all now.breakpoints) in (
      record {
        limits = props_fit now.breakpoints all readable;
        typed = tt;
        leads = passed_several number n target now old last list
            (subst (λ (ids : List (List ℕ)). StaysAttached ids number target now old last) (sym (hits_of_listed now.breakpoints all found)) stays) stand ran run
            (props_there now.breakpoints (listed all now.breakpoints) (listed_own all now.breakpoints orderly));
      },
      among_told all now orderly,
    )

-- what is told of a thread in a state that hits these
alone_told : (number n : ℕ) (target now : TargetValue) (old last : ProcessValue) (state : ThreadState) (hits : List (List ℕ)) (lasts : Lasts hits number n target now old last state)
    → thread_count last ≡ thread_count old → (runs state ≡ true → AreFound now.breakpoints hits) → names_hits state hits → Tell target now (stop_events number n lasts.at.cpu.pc state ++ hit_events (runs state) hits now)
alone_told number n target now old last (Running left) hits lasts same found names =
    let ran : IsRunningAt n old = record { thread = lasts.was; there = lasts.was_at; on = lasts.ran refl } in
    let run : IsRunningAt n last = record { thread = lasts.at; there = lasts.now_at; on = ap runs lasts.now_is } in
    passed_told number n target now old last hits lasts.stays (none_begun n old last lasts.follows same) ran run lasts.readable lasts.orderly (found refl)
alone_told number n target now old last (Suspended reason others) hits lasts same found names = (
  stopped_told number n target now old last lasts.at reason others lasts.is lasts.follows.few (cpu_found n last lasts.at lasts.now_at lasts.follows.whole).pc
      (subst (λ (ids : List (List ℕ)). StaysAttached ids number target now old last) names lasts.stays) (none_begun n old last lasts.follows same) lasts.now_at lasts.now_is,
  hits_so false hits now lasts.readable lasts.orderly,
)

-- so many have
made_told : (number n : ℕ) (target now : TargetValue) (old last : ProcessValue) (state : ThreadState) (hits : List (List ℕ)) (lasts : Lasts hits number n target now old last state) (count : ℕ)
    → thread_count last ≡ thread_count old + count → (runs state ≡ true → AreFound now.breakpoints hits) → names_hits state hits
    → Tell target now
    ((contexts_events (map (λ m. thread_data number m last) (range_with_len (thread_count old + 1) count)) ++ suspended_events number n (thread_at n last)) ++ hit_events (runs state) hits now)
made_told number n target now old last state hits lasts zero same found names =
    subst (λ (o : Option Thread). Tell target now (suspended_events number n o ++ hit_events (runs state) hits now)) (sym lasts.now_at)
    (subst (λ (s : ThreadState). Tell target now (stop_events number n lasts.at.cpu.pc s ++ hit_events (runs state) hits now)) (sym lasts.now_is)
    (alone_told number n target now old last state hits lasts (omega (arith, same)) found names))
made_told number n target now old last state hits lasts (suc count) same found names = (
  record {
    limits = threads_fit number (thread_count old + 1) (suc count) last;
    typed = tt;
    leads = joined_them hits number target now old last (suc count) lasts.is same (omega arith) lasts.follows.few lasts.stays;
  },
  all_append (IsTold now now) (suspended_events number n (thread_at n last)) (hit_events (runs state) hits now)
      (suspended_so number n now last lasts.is lasts.follows.few lasts.follows.whole lasts.stays.stays.is) (hits_so (runs state) hits now lasts.readable lasts.orderly),
)

-- the target with a thread in a state
abbrev with_thread_in : ℕ → ℕ → TargetsValue → List Placed → ThreadState → TargetValue
with_thread_in number n contexts bps state = target_of (with_change (in_thread (with_state state) n) number contexts) bps

abbrev LivesOn : ℕ → ℕ → TargetValue → TargetsValue → List Placed → ℕ → ThreadState → List (List ℕ) → Type 0
LivesOn number n target contexts bps before state hits =
    let now = with_thread_in number n contexts bps state in
    Tell target now
    ((made_events number before (process_of number now.contexts.processes) ++ suspended_events number n (thread_of number n now.contexts.processes)) ++ hit_events (runs state) hits now)

lives_on : (number n : ℕ) (target : TargetValue) (contexts : TargetsValue) (bps : List Placed) (old new : ProcessValue) (state : ThreadState) (hits : List (List ℕ)) → IsGood target
    → (executes : Executes number n target contexts old new) → Counted hits target.breakpoints bps → (runs state ≡ true → runs executes.thread.state ≡ true)
    → (runs state ≡ true → AreFound bps hits) → names_hits state hits → LivesOn number n target contexts bps (thread_count old) state hits
lives_on number n target contexts bps old new state hits good executes counted ran found names =
    let change = with_state state in
    let last = in_thread change n new in
    let now = with_thread_in number n contexts bps state in
    let follows = executes.follows in
    let stand = others_stand change n new in
    let count : thread_count last ≡ thread_count new = stand.count in
    let both = twice number target.contexts contexts now.contexts new last executes.becomes (changed (in_thread change n) number contexts new executes.becomes.found) in
    let there = some_there (thread_at n new) (has_more n old new follows.grown (ap is_some executes.at)) in
    let lasts : Lasts hits number n target now old last state = record {
      is = number_found target number old good executes.there;
      stays = stays_attached hits number target now old last executes.there both follows.name follows.attached counted.same counted.stay;
      follows = record {
        name = follows.name;
        attached = follows.attached;
        others = λ m differ within. stand.others m differ ∙ follows.others m differ within;
        grown = omega (arith, count, follows.grown);
        few = omega (arith, count, follows.few);
        whole = thread_whole change n new (λ thread whole. whole) follows.whole;
      };
      was = executes.thread;
      was_at = executes.at;
      at = change there.0;
      now_at = changed_at change n new there.0 there.1;
      now_is = refl;
      ran = ran;
      readable = readable_like bps target.breakpoints counted.same good.consistent.properties;
      orderly = counted.orderly;
    } in
    subst (λ (o : Option ProcessValue). Tell target now ((made_events number (thread_count old) o ++ suspended_events number n (option_and_then (thread_at n) o)) ++ hit_events (runs state) hits now)) (sym both.found)
    (made_told number n target now old last state hits lasts (thread_count last - thread_count old) (omega (arith, count, follows.grown)) found names)

-- ---- it ends with a code

ends_so : (number n : ℕ) (target : TargetValue) (contexts : TargetsValue) (bps : List Placed) (old new : ProcessValue) (code : ℤ) → IsGood target → Executes number n target contexts old new
    → uncounted bps ≡ uncounted target.breakpoints → AreListed bps → IsWhole code
    → (let now : TargetValue = end_after number (target_of contexts bps) in Tell target now (end_events number (thread_count old) code now))
ends_so number n target contexts bps old new code good executes same orderly_bps whole =
    let now : TargetValue = end_after number (target_of contexts bps) in
    let is = number_found target number old good executes.there in
    let gone = ended number contexts (orderly number target.contexts contexts new executes.becomes good.consistent.processes) in
    let all : Ended number target.contexts now.contexts = record { gone = gone.gone; others = λ other differ. gone.others other differ ∙ executes.becomes.others other differ } in
    end_told number (thread_count old) target now code is (few_found target number old good executes.there)
    (λ process at. let one : process ≡ old = same_Some process old (sym at ∙ executes.there) in omega (arith, ap thread_count one))
    (forgotten_alone number bps ∙ same) (steps_keep_order (forgetting number) bps orderly_bps) all whole

-- ---- both, whatever becomes of it

abbrev pub Settles : ℕ → ℕ → TargetValue → TargetsValue → ProcessValue → Fate → List Placed → Type 0
Settles number n target contexts old fate bps =
    let now = settled number n fate (target_of contexts bps) in
    Tell target now (settled_events number n (thread_count old) fate now)

-- by a tick, whose hits raise counts
pub tick_settles : (number n : ℕ) (target : TargetValue) (contexts : TargetsValue) (old new : ProcessValue) (plain : ThreadState) (hits : List (List ℕ)) (raised : List Placed) → IsGood target
    → (executes : Executes number n target contexts old new) → Counted hits target.breakpoints raised → AreFound raised hits → (runs plain ≡ true → runs executes.thread.state ≡ true) → names_none plain
    → Covers (Settles number n target contexts old) plain hits raised target.breakpoints
tick_settles number n target contexts old new plain hits raised good executes counted found ran none = record {
  plainly = λ nothing. lives_on number n target contexts raised old new plain [] good executes (subst (λ (ids : List (List ℕ)). Counted ids target.breakpoints raised) nothing counted) ran (λ on. tt) none;
  passing = λ on. lives_on number n target contexts raised old new plain hits good executes counted ran (λ now. found) (running_names plain hits on);
  suspended = λ reason. lives_on number n target contexts raised old new (Suspended reason hits) hits good executes counted (λ on. absurd (true≢false (sym on))) (λ on. absurd (true≢false (sym on))) refl;
  excepted = λ reason. lives_on number n target contexts target.breakpoints old new (Suspended reason []) [] good executes (uncounted_same [] target.breakpoints good.consistent.breakpoints)
      (λ on. absurd (true≢false (sym on))) (λ on. tt) refl;
  ended = λ code whole. ends_so number n target contexts target.breakpoints old new code good executes refl good.consistent.breakpoints whole;
}

-- by a trace, which raises none
pub trace_settles : (number n : ℕ) (target : TargetValue) (contexts : TargetsValue) (old new : ProcessValue) → IsGood target → Executes number n target contexts old new
    → TraceCovers (λ fate. Settles number n target contexts old fate target.breakpoints)
trace_settles number n target contexts old new good executes = record {
  suspended = λ reason others. lives_on number n target contexts target.breakpoints old new (Suspended reason others) others good executes
      (uncounted_same others target.breakpoints good.consistent.breakpoints) (λ on. absurd (true≢false (sym on))) (λ on. absurd (true≢false (sym on))) refl;
  ended = λ code whole. ends_so number n target contexts target.breakpoints old new code good executes refl good.consistent.breakpoints whole;
}
