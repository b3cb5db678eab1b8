-- What the target tells of its processes and breakpoints is small.
use Rattle.std.proofs.Common.{◌≡◌, ◌≤◌, ◌+◌, ◌-◌, ℕ, ℤ, Bool, true, false, cond, ◌&&◌, nat_le, List, [], ◌∷◌, ◌++◌, filter, length, map, Option, Some, None, option_and_then, IfSome, refl, ◌∙◌, ap, arith, lit≤, leb-true, length-append}
use Rattle.std.specs.List.{AllByRecursion, flat_map, list_all, range_with_len}
use Rattle.std.specs.Prelude.{codes, decimal}
use Rattle.std.proofs.lemmas.Bool.{and_parts}
use Rattle.std.proofs.lemmas.List.{length-map}
use Rattle.std.proofs.lemmas.List.FromFn.{length-range_with_len}
use Rattle.json_values.specs.Props.{are_contexts, is_bp, is_ignore_count, is_location, is_short}
use Rattle.json_values.specs.Sizes.{AreWords, has_name, IsSmallContext, IsSmallInstance, IsSmallPlace, IsSmallStatus, IsWord}
use Rattle.json_values.specs.SizeLaws.{decimal_size}
use Rattle.reply_tables.specs.Sizes.{IsSmallEvent}
use Rattle.tcf_values.specs.declared.event.EventData.{EventData}
use Rattle.tcf_values.specs.declared.values.BpProps.{BpProps}
use Rattle.breakpoints.specs.Rows.{ids_of}
use Rattle.breakpoints.specs.Status.{bad_location, instance_of, instances_of, is_for, place_at, place_of}
use Rattle.breakpoints.specs.Counting.{listed}
use Rattle.breakpoints.specs.Statuses.{counted_status, status_event, statuses_of}
use Rattle.run_control.specs.Ending.{end_events}
use Rattle.run_control.specs.Executing.{settled_events}
use Rattle.run_control.specs.Naming.{process_id, thread_id, thread_ids}
use Rattle.run_control.specs.Telling.{added_events, all_resumed_events, all_suspended_events, changed_events, contexts_events, hit_events, made_events, resumed_event, resumed_events, several_events, statuses_among, statuses_in, stop_events, suspended_events}
use Rattle.target_contexts.specs.Contexts.{process_data, thread_data, threads_data}
use Rattle.target_contexts.specs.Live.{numbers_of, process_of}
use Rattle.target_contexts.specs.Named.{attached_in, is_attached, runs as is_run}
use Rattle.target_contexts.specs.Short.{AllShort, IsShort, IsShortState}
use Rattle.run_control.specs.TargetValue.{TargetValue}
use Rattle.target_contexts.specs.Threads.{count_in, numbers_to, thread_at, thread_count, thread_numbers, thread_of}
use Rattle.target_contexts.specs.declared.threads.Thread.{Thread}
use Rattle.tcf_values.specs.declared.values.ContextData.{ContextData}
use Rattle.target_contexts.specs.ProcessValue.{ProcessValue}
use Rattle.target_contexts.specs.declared.process.ThreadState.{ThreadState}
use Rattle.target_contexts.specs.declared.process.ThreadState.TheVariants.{Running, Suspended}
use Rattle.target_hub.specs.Limits.{AreReadable}
use Rattle.target_contexts.proofs.TheLaws.{found_is_short}
use Rattle.target_contexts.proofs.ThreadLists.{found_thread_is}
use Rattle.target_hub.proofs.Fates.{CoversAlone}
use Rattle.target_hub.proofs.Lists.{all_mapped}
use Rattle.target_hub.proofs.Points.{listed_are, listed_few}
use Rattle.run_control.proofs.Short.{filter_fewer}
use Rattle.list_laws.proofs.AllLists.{all_append, all_map}
use Rattle.breakpoints.specs.declared.rows.Placed.{Placed}

abbrev pub AreSmall : List EventData → Type 0
AreSmall told = AllByRecursion IsSmallEvent told

-- breakpoints and processes, before a command or after it
pub record AreBounded (target : TargetValue) : Type 0 where
  pub short : AllShort target.contexts.processes
  pub few : length target.contexts.processes ≤ 64
  pub properties : AreReadable target.breakpoints
  pub listed : length target.breakpoints ≤ 256

-- ---- lists

pub test_small : (test : Bool) (one other : List EventData) → AreSmall one → AreSmall other → AreSmall (cond test one other)
test_small true one other small also = small
test_small false one other small also = also

pub three_small : (xs ys zs : List EventData) → AreSmall xs → AreSmall ys → AreSmall zs → AreSmall (xs ++ (ys ++ zs))
three_small xs ys zs first second third = all_append IsSmallEvent xs (ys ++ zs) first (all_append IsSmallEvent ys zs second third)

-- ---- IDs

pub process_word : (number : ℕ) → IsWord (process_id number)
process_word number = omega (arith, decimal_size number)

pub thread_word : (number n : ℕ) → IsWord (thread_id number n)
thread_word number n = omega (arith, length-append (decimal number) (codes "." ++ decimal n), length-append (codes ".") (decimal n), decimal_size number, decimal_size n)

threads_words : (number count : ℕ) → AllByRecursion IsWord (thread_ids number count)
threads_words number count = all_map IsWord (thread_id number) (numbers_to count) (thread_word number)

threads_long : (number count : ℕ) → length (thread_ids number count) ≡ count
threads_long number count = length-map (numbers_to count) (thread_id number) ∙ length-range_with_len 1 count

pub ids_of_threads : (number count : ℕ) → count ≤ 8 → AreWords (thread_ids number count)
ids_of_threads number count few = (omega (arith, few, threads_long number count), threads_words number count)

ids_of_all : (number count : ℕ) → count ≤ 8 → AreWords (thread_ids number count ++ process_id number ∷ [])
ids_of_all number count few = (
  omega (arith, few, threads_long number count, length-append (thread_ids number count) (process_id number ∷ [])),
  all_append IsWord (thread_ids number count) (process_id number ∷ []) (threads_words number count) (process_word number, tt),
)

pub id_word : (props : BpProps) → is_bp props ≡ true → IsWord props.id
id_word props within =
    let named = nat_le 1 (length props.id) && is_short 255 props.id in
    let ignored = and_parts (named && is_location props.location && are_contexts props.contexts) (is_ignore_count props.ignore) within in
    let last = and_parts (named && is_location props.location) (are_contexts props.contexts) ignored.0 in
    let front = and_parts named (is_location props.location) last.0 in
    let id = and_parts (nat_le 1 (length props.id)) (is_short 255 props.id) front.0 in
    leb-true (length props.id) 255 (and_parts (nat_le (length props.id) 255) (list_all (λ b. nat_le 32 b) props.id) id.1).0

pub ids_words : (rows : List Placed) → length rows ≤ 256 → AreReadable rows → AreWords (ids_of rows)
ids_words rows few readable = (
  omega (arith, few, length-map rows (λ (row : Placed). row.props.id)),
  all_mapped (λ (row : Placed). is_bp row.props ≡ true) IsWord (λ (row : Placed). row.props.id) rows (λ row is. id_word row.props is) readable,
)

-- ---- statuses

place_at_small : (address : Option ℕ) → IsSmallPlace (place_at address)
unfolding bad_location
place_at_small None = lit≤ tt
place_at_small (Some address) = tt

place_of_small : (location : Option (List ℕ)) → IsSmallPlace (place_of location)
place_of_small location = place_at_small _

if_instances : (enabled : Bool) (props : BpProps) (counts : List (ℕ × ℕ)) (numbers : List ℕ) → length numbers ≤ 64
    → (length (cond enabled (map (instance_of props counts) numbers) []) ≤ 64) × AllByRecursion IsSmallInstance (cond enabled (map (instance_of props counts) numbers) [])
if_instances true props counts numbers few = (
  omega (arith, few, length-map numbers (instance_of props counts)),
  all_map IsSmallInstance (instance_of props counts) numbers (λ number. (process_word number, place_of_small props.location)),
)
if_instances false props counts numbers few = (lit≤ tt, tt)

pub instances_small : (props : BpProps) (counts : List (ℕ × ℕ)) (attached : List ℕ) → length attached ≤ 64 → IsSmallStatus (record { instances = instances_of props counts attached })
instances_small props counts attached few =
    if_instances props.enabled props counts (filter (is_for props.contexts) attached) (omega (arith, few, filter_fewer (is_for props.contexts) attached))

counted_small : (attached : List ℕ) (props : BpProps) (counts : List (ℕ × ℕ)) → length attached ≤ 64 → is_bp props ≡ true → IsSmallEvent (counted_status attached props counts)
counted_small attached props counts few within = (id_word props within, instances_small props counts attached few)

pub status_small : (attached : List ℕ) (props : BpProps) → length attached ≤ 64 → is_bp props ≡ true → IsSmallEvent (status_event attached props)
status_small attached props few within = counted_small attached props [] few within

pub attached_few : (rows : List (ℕ × ProcessValue)) → length rows ≤ 64 → length (attached_in rows) ≤ 64
attached_few rows few =
    omega (arith, few, filter_fewer (λ number. is_attached (process_of number rows)) (numbers_of rows), length-map rows (λ (row : ℕ × ProcessValue). row.0))

all_statuses_small : (attached : List ℕ) (bps : List Placed) → length attached ≤ 64 → AreReadable bps → AreSmall (statuses_of attached bps)
all_statuses_small attached bps few readable =
    all_mapped (λ (row : Placed). is_bp row.props ≡ true) IsSmallEvent (λ (row : Placed). counted_status attached row.props row.counts) bps
    (λ row is. counted_small attached row.props row.counts few is) readable

pub statuses_small : (target : TargetValue) → AreBounded target → AreSmall (statuses_in target)
statuses_small target bounded =
    all_statuses_small (attached_in target.contexts.processes) target.breakpoints (attached_few target.contexts.processes bounded.few) bounded.properties

-- ---- breakpoints that are hit, which are some of the list

several_small : (hits : List (List ℕ)) (bps : List Placed) → length hits ≤ 256 → AreReadable bps → AreSmall (several_events hits bps)
several_small [] bps few readable = tt
several_small (hit ∷ []) bps few readable = tt
several_small (hit ∷ other ∷ hits) bps few readable =
    let ids : List (List ℕ) = hit ∷ other ∷ hits in (
      (
        omega (arith, few, listed_few ids bps, length-map (listed ids bps) (λ (row : Placed). row.props)),
        all_mapped (λ (row : Placed). is_bp row.props ≡ true) (λ (props : BpProps). is_bp props ≡ true) (λ (row : Placed). row.props) (listed ids bps) (λ row is. is)
            (listed_are (λ (row : Placed). is_bp row.props ≡ true) ids bps readable),
      ),
      tt,
    )

among_small : (hits : List (List ℕ)) (target : TargetValue) → AreBounded target → AreSmall (statuses_among hits target)
among_small hits target bounded =
    all_statuses_small (attached_in target.contexts.processes) (listed hits target.breakpoints) (attached_few target.contexts.processes bounded.few)
    (listed_are (λ (row : Placed). is_bp row.props ≡ true) hits target.breakpoints bounded.properties)

-- at most 256 where the thread runs on
hits_small : (runs : Bool) (hits : List (List ℕ)) (target : TargetValue) → (runs ≡ true → length hits ≤ 256) → AreBounded target → AreSmall (hit_events runs hits target)
hits_small true hits target few bounded =
    all_append IsSmallEvent (several_events hits target.breakpoints) (statuses_among hits target)
    (several_small hits target.breakpoints (few refl) bounded.properties) (among_small hits target bounded)
hits_small false hits target few bounded = among_small hits target bounded

-- ---- contexts

pub process_small : (number : ℕ) (process : ProcessValue) → IsShort process → IsSmallContext (process_data number process)
process_small number process is = record { id = process_word number; parent = tt; process = process_word number; name = is.name }

pub thread_small : (number n : ℕ) (process : ProcessValue) → IsSmallContext (thread_data number n process)
thread_small number n process = record { id = thread_word number n; parent = process_word number; process = process_word number; name = tt }

threads_small : (behind number : ℕ) (process : ProcessValue) → AllByRecursion IsSmallContext (threads_data behind number process)
threads_small behind number process = all_map IsSmallContext (λ n. thread_data number n process) _ (λ n. thread_small number n process)

-- no thread has a name
nameless : (number : ℕ) (process : ProcessValue) (numbers : List ℕ) → filter has_name (map (λ n. thread_data number n process) numbers) ≡ []
nameless number process [] = refl
nameless number process (n ∷ numbers) = nameless number process numbers

threads_named : (behind number : ℕ) (process : ProcessValue) → length (filter has_name (threads_data behind number process)) ≡ 0
threads_named behind number process = ap (λ (xs : List ContextData). length xs) (nameless number process (range_with_len (behind + 1) (thread_count process - behind)))

threads_few : (behind number : ℕ) (process : ProcessValue) → IsShort process → length (threads_data behind number process) ≤ 8
threads_few behind number process is =
    let count : ℕ = thread_count process - behind in
    let long : length (threads_data behind number process) ≡ count =
    length-map (range_with_len (behind + 1) count) (λ n. thread_data number n process) ∙ length-range_with_len (behind + 1) count in
    omega (arith, long, is.count.few)

found_by : (rows : List (ℕ × ProcessValue)) (number : ℕ) (found : Option ProcessValue) → process_of number rows ≡ found → AllShort rows → IfSome found IsShort
found_by rows number None there all = tt
found_by rows number (Some process) there all = found_is_short rows number process all there

pub found_short : (rows : List (ℕ × ProcessValue)) (number : ℕ) → AllShort rows → IfSome (process_of number rows) IsShort
found_short rows number all = found_by rows number (process_of number rows) refl all

pub added_small : (number : ℕ) (process : Option ProcessValue) → IfSome process IsShort → AreSmall (added_events number process)
added_small number None is = tt
added_small number (Some process) is = (
  record {
    few = omega (arith, threads_few 0 number process is);
    named = omega (arith, threads_named 0 number process);
    small = (process_small number process is, threads_small 0 number process);
  },
  tt,
)

contexts_small : (contexts : List ContextData) → length contexts ≤ 9 → length (filter has_name contexts) ≤ 2 → AllByRecursion IsSmallContext contexts → AreSmall (contexts_events contexts)
contexts_small [] few named small = tt
contexts_small (context ∷ contexts) few named small = (record { few = few; named = named; small = small }, tt)

made_small : (number before : ℕ) (process : Option ProcessValue) → IfSome process IsShort → AreSmall (made_events number before process)
made_small number before None is = tt
made_small number before (Some process) is =
    contexts_small (threads_data before number process) (omega (arith, threads_few before number process is)) (omega (arith, threads_named before number process))
    (threads_small before number process)

pub changed_small : (number : ℕ) (process : Option ProcessValue) → IfSome process IsShort → AreSmall (changed_events number process)
changed_small number None is = tt
changed_small number (Some process) is = (
  record {
    few = omega (arith, threads_few 0 number process is);
    named = omega (arith, threads_named 0 number process);
    small = threads_small 0 number process;
  },
  tt,
)

stop_small : (number n pc : ℕ) (state : ThreadState) → IsShortState state → AreSmall (stop_events number n pc state)
stop_small number n pc (Running left) short = tt
stop_small number n pc (Suspended reason hits) short = ((thread_word number n, short.0, short.1), tt)

abbrev pub IsShortThread : Thread → Type 0
IsShortThread thread = IsShortState thread.state

pub suspended_small : (number n : ℕ) (thread : Option Thread) → IfSome thread IsShortThread → AreSmall (suspended_events number n thread)
suspended_small number n None is = tt
suspended_small number n (Some thread) is = stop_small number n thread.cpu.pc thread.state is

-- the threads that are found are short

at_by : (n : ℕ) (process : ProcessValue) (found : Option Thread) → thread_at n process ≡ found → IsShort process → IfSome found IsShortThread
at_by n process None there is = tt
at_by n process (Some thread) there is = found_thread_is IsShortThread n thread process there is.threads

thread_short : (n : ℕ) (process : ProcessValue) → IsShort process → IfSome (thread_at n process) IsShortThread
thread_short n process is = at_by n process (thread_at n process) refl is

of_by : (n : ℕ) (found : Option ProcessValue) → IfSome found IsShort → IfSome (option_and_then (thread_at n) found) IsShortThread
of_by n None is = tt
of_by n (Some process) is = thread_short n process is

pub thread_found_short : (rows : List (ℕ × ProcessValue)) (number n : ℕ) → AllShort rows → IfSome (thread_of number n rows) IsShortThread
thread_found_short rows number n all = of_by n (process_of number rows) (found_short rows number all)

pub count_few : (rows : List (ℕ × ProcessValue)) (number : ℕ) → AllShort rows → count_in (process_of number rows) ≤ 8
count_few rows number all = counted (process_of number rows) (found_short rows number all)
  where
    counted : (found : Option ProcessValue) → IfSome found IsShort → count_in found ≤ 8
    counted None is = lit≤ tt
    counted (Some process) is = is.count.few

flat_small : (told : ℕ → List EventData) (numbers : List ℕ) → ((n : ℕ) → AreSmall (told n)) → AreSmall (flat_map told numbers)
flat_small told [] each = tt
flat_small told (n ∷ numbers) each = all_append IsSmallEvent (told n) (flat_map told numbers) (each n) (flat_small told numbers each)

pub all_suspended_small : (number : ℕ) (process : Option ProcessValue) → IfSome process IsShort → AreSmall (all_suspended_events number process)
all_suspended_small number None is = tt
all_suspended_small number (Some process) is =
    flat_small (λ n. suspended_events number n (thread_at n process)) (thread_numbers process) (λ n. suspended_small number n (thread_at n process) (thread_short n process is))

pub all_resumed_small : (number : ℕ) (was : Option ProcessValue) → AreSmall (all_resumed_events number was)
all_resumed_small number was = all_map IsSmallEvent (resumed_event number) _ (λ n. thread_word number n)

pub resumed_small : (number n : ℕ) → AreSmall (resumed_events number n)
resumed_small number n = (thread_word number n, tt)

-- ---- the end of a process, and what becomes of one

pub end_small : (number count : ℕ) (code : ℤ) (target : TargetValue) → count ≤ 8 → AreBounded target → AreSmall (end_events number count code target)
end_small number count code target few bounded =
    (ids_of_all number count few, (process_word number, statuses_small target bounded))

pub fate_small : (number n before : ℕ) (plain : ThreadState) (hits : List (List ℕ)) (after : TargetValue) → before ≤ 8 → length hits ≤ 256 → AreBounded after
    → CoversAlone (λ fate. AreSmall (settled_events number n before fate after)) plain hits
fate_small number n before plain hits after few hit bounded =
    let rows = after.contexts.processes in
    let made : List EventData = made_events number before (process_of number rows) in
    let stopped : List EventData = suspended_events number n (thread_of number n rows) in
    let lived = λ (runs : Bool) (others : List (List ℕ)) (short : runs ≡ true → length others ≤ 256).
    all_append IsSmallEvent (made ++ stopped) (hit_events runs others after)
    (all_append IsSmallEvent made stopped (made_small number before (process_of number rows) (found_short rows number bounded.short))
    (suspended_small number n (thread_of number n rows) (thread_found_short rows number n bounded.short)))
    (hits_small runs others after short bounded) in
    record {
      plainly = lived (is_run plain) [] (λ now. lit≤ tt);
      passing = λ now. lived (is_run plain) hits (λ now. hit);
      suspended = λ reason others. lived false others (λ now. absurd cc);
      ended = λ code whole. end_small number before code after few bounded;
    }
