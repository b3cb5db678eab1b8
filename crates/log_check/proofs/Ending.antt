-- The barriers that a history executes, one by one.
use Rattle.std.proofs.Common.{◌≡◌, ℕ, ◌+◌, ◌<◌, ◌≤◌, ◌==◌, ◌&&◌, Bool, true, false, not, cond, List, [], ◌∷◌, ◌++◌, length, map, refl, sym, ◌∙◌, ap, ap₂, subst, append_assoc, append-nil, arith, length-append, inl, inr, ◌⊎◌}
use Rattle.std.specs.Prelude.{Option, Some, None}
use Rattle.std.specs.List.{AllByRecursion, Contains, filter, range_with_len}
use Rattle.std.proofs.lemmas.Bool.{cases_lt, cond-false, cond-true, eqb-true, eq-eqb, false≢true}
use Rattle.list_laws.proofs.Flags.{and_first}
use Rattle.std.proofs.lemmas.List.{length-map, map-append}
use Rattle.std.proofs.lemmas.List.Elements.{Contains-append_left, Contains-append_right, filter-append}
use Rattle.list_laws.proofs.AllLists.{all_append, all_at, all_filter, all_push}
use Rattle.list_laws.proofs.Contained.{contains_at}
use Rattle.list_laws.proofs.Fronts.{front_first, front_rest, no_front}
use Rattle.command_tables.specs.declared.reading.Reading.{Reading}
use Rattle.command_tables.specs.declared.reading.Reading.TheVariants as readings
use Rattle.tcf_values.specs.Changing.{changes}
use Rattle.tcf_values.specs.Storable.{stores}
use Rattle.tcf_text.specs.Lines.{Accepted, accepted}
use Rattle.tcf_text.specs.Once.{numbers}
use Rattle.tcf_text.specs.declared.log.LogLine.{LogLine}
use Rattle.target_hub.specs.Fresh.{IsExecutedAt, is_barrier}
use Rattle.target_hub.specs.Ordered.{through}
use Rattle.target_hub.specs.Received.{goes_through, read}
use Rattle.target_hub.specs.Sent.{ReadCommand, executed_by, executed_on, is_through}
use Rattle.target_hub.specs.declared.input.Input.{Input}
use Rattle.target_hub.specs.declared.input.Input.TheVariants.{Opened, Executed, Ticked, Closed}
use Rattle.log_check.specs.Barriers.{AreBarriers, GoesBy, IsBarrierOf, Rise, barrier_at, ends_stores}
use Rattle.log_check.specs.Matching.{AreFront, as_read, passing, through_by, through_on}
use Rattle.log_check.specs.Sorts.{AreSorted, HasItsSort, accepted_as, as_accepted, is_bare, is_sent_on, passes, sort_by}
use Rattle.log_check.proofs.Sorting.{goes_in}
use Rattle.log_check.specs.declared.fresh.Barrier.{Barrier}
use Rattle.log_check.specs.declared.sorts.Command.{Command}
use Rattle.log_check.specs.declared.sorts.Sort.TheVariants as sorts

-- ---- one input

pub one_of : (k : ℕ) (input : Input) (e : ReadCommand) (flag : Bool) → executed_by k input ≡ e ∷ [] → flag ≡ is_through e.reading → flag ≡ true → (t : ReadCommand) × (through_by k input ≡ t ∷ [])
one_of k input e flag is goes on = (e, ap (filter (λ c. is_through c.reading)) is ∙ cond-true (is_through e.reading) (e ∷ []) [] (sym goes ∙ on))

pub none_of : (k : ℕ) (input : Input) (e : ReadCommand) (flag : Bool) → executed_by k input ≡ e ∷ [] → flag ≡ is_through e.reading → flag ≡ false → through_by k input ≡ []
none_of k input e flag is goes off = ap (filter (λ c. is_through c.reading)) is ∙ cond-false (is_through e.reading) (e ∷ []) [] (sym goes ∙ off)

pub nothing_of : (k : ℕ) (input : Input) → executed_by k input ≡ [] → through_by k input ≡ []
nothing_of k input is = ap (filter (λ c. is_through c.reading)) is

pub goes_one : (ts : List ReadCommand) (t : ReadCommand) (commands after : List Command) (sent : Command) → ts ≡ t ∷ [] → filter passes commands ≡ sent ∷ filter passes after
    → GoesBy ts (filter passes commands) (Some sent) (filter passes after)
goes_one ts t commands after sent is passing_is =
    subst (λ l. GoesBy l (filter passes commands) (Some sent) (filter passes after)) (sym is)
    (subst (λ l. GoesBy (t ∷ []) l (Some sent) (filter passes after)) (sym passing_is) (refl, refl))

pub goes_past : (ts : List ReadCommand) (t : ReadCommand) (commands : List Command) → ts ≡ t ∷ [] → filter passes commands ≡ [] → GoesBy ts (filter passes commands) None (filter passes commands)
goes_past ts t commands is none =
    subst (λ l. GoesBy l (filter passes commands) None (filter passes commands)) (sym is) (subst (λ l. GoesBy (t ∷ []) l None l) (sym none) (refl, refl))

pub goes_none : (ts : List ReadCommand) (commands : List Command) → ts ≡ [] → GoesBy ts (filter passes commands) None (filter passes commands)
goes_none ts commands is = subst (λ l. GoesBy l (filter passes commands) None (filter passes commands)) (sym is) (refl, refl)

-- ---- commands in the order of their numbers

abbrev RiseIn : List Command → Type 0
RiseIn [] = Unit {0}
RiseIn (c ∷ cs) = AllByRecursion (λ (d : Command). c.number < d.number) cs × RiseIn cs

above_all : (from : ℕ) (n : ℕ) (cs : List Command) → numbers (as_accepted cs) ≡ range_with_len from (length (as_accepted cs)) → n < from → AllByRecursion (λ (d : Command). n < d.number) cs
above_all from n [] counted below = tt
above_all from n (c ∷ cs) counted below =
    let here : c.number ≡ from = cc in
    let others : numbers (as_accepted cs) ≡ range_with_len (from + 1) (length (as_accepted cs)) = cc in (omega (arith, here, below), above_all (from + 1) n cs others (omega (arith, below)))

rise_from : (from : ℕ) (cs : List Command) → numbers (as_accepted cs) ≡ range_with_len from (length (as_accepted cs)) → RiseIn cs
rise_from from [] counted = tt
rise_from from (c ∷ cs) counted =
    let here : c.number ≡ from = cc in
    let others : numbers (as_accepted cs) ≡ range_with_len (from + 1) (length (as_accepted cs)) = cc in (above_all (from + 1) c.number cs others (omega (arith, here)), rise_from (from + 1) cs others)

rise_filter : (cs : List Command) → RiseIn cs → RiseIn (filter passes cs)
rise_filter [] rise = tt
rise_filter (c ∷ cs) rise = by_flag (passes c) (rise_filter cs rise.1)
  where
    by_flag : (flag : Bool) → RiseIn (filter passes cs) → RiseIn (cond flag (c ∷ filter passes cs) (filter passes cs))
    by_flag true rest = (all_filter (λ (d : Command). c.number < d.number) passes cs rise.0, rest)
    by_flag false rest = rest

-- ---- barriers

ends_as : (reading : Reading) → is_sent_on (sort_by reading) ≡ true → ends_stores (sort_by reading) ≡ is_barrier reading
ends_as (readings.Known command) sent = by_flags (stores command) (changes command) sent
  where
    by_flags : (s c : Bool) → is_sent_on (cond s sorts.Storable (cond c sorts.Barrier sorts.Through)) ≡ true → ends_stores (cond s sorts.Storable (cond c sorts.Barrier sorts.Through)) ≡ c
    by_flags true c e = absurd (false≢true e)
    by_flags false true e = refl
    by_flags false false e = refl
ends_as readings.Unknown sent = refl
ends_as (readings.Bad index code) sent = refl

-- one that goes through is a barrier by its sort
ends_is : (c : Command) → HasItsSort c → is_sent_on c.sort ≡ true → ends_stores c.sort ≡ is_barrier (read (accepted_as c)).reading
ends_is c sort sent =
    ap ends_stores sort ∙ ends_as (read (accepted_as c)).reading (sym (ap is_sent_on sort) ∙ sent)

-- each that goes through is sent on
abbrev IsSentOn : Command → Type 0
IsSentOn c = is_sent_on c.sort ≡ true

sent_on_all : (cs : List Command) → AllByRecursion IsSentOn (filter passes cs)
sent_on_all [] = tt
sent_on_all (c ∷ cs) = by_flags (is_sent_on c.sort) c.is_bare refl (sent_on_all cs)
  where
    by_flags : (s b : Bool) → is_sent_on c.sort ≡ s → AllByRecursion IsSentOn (filter passes cs) → AllByRecursion IsSentOn (cond (s && not b) (c ∷ filter passes cs) (filter passes cs))
    by_flags true true is rest = rest
    by_flags true false is rest = (is, rest)
    by_flags false b is rest = rest

-- ---- what goes through

abbrev one_read : Reading → List ℕ → List ℕ → ReadCommand
one_read reading service name = record { reading = reading; service = service; name = name }

one_here : (k channel : ℕ) (reading : Reading) (service name : List ℕ) (t : ReadCommand) (ts : List ReadCommand) → one_read reading service name ∷ [] ≡ t ∷ ts → channel ≡ k
    → (Executed channel reading service name ≡ Executed k t.reading t.service t.name) × (ts ≡ [])
one_here k channel reading service name t ts e same =
    let first : one_read reading service name ≡ t = cc in
    let none : ts ≡ [] = cc in
    (ap (λ c. Executed c reading service name) same ∙ ap (λ (r : ReadCommand). Executed k r.reading r.service r.name) first, none)

no_cons : {A B : Type 0} (x : A) (xs : List A) → [] ≡ x ∷ xs → B
no_cons x xs e = absurd cc

one_by_flags : (k channel : ℕ) (reading : Reading) (service name : List ℕ) (t : ReadCommand) (ts : List ReadCommand) (mine goes : Bool) → (channel == k) ≡ mine → is_through reading ≡ goes
    → through_by k (Executed channel reading service name) ≡ t ∷ ts → (Executed channel reading service name ≡ Executed k t.reading t.service t.name) × (ts ≡ [])
one_by_flags k channel reading service name t ts true true mine goes is =
    one_here k channel reading service name t ts
    (sym (ap (filter (λ c. is_through c.reading)) (cond-true (channel == k) (one_read reading service name ∷ []) [] mine) ∙ cond-true (is_through reading) (one_read reading service name ∷ []) [] goes) ∙ is)
    (eqb-true channel k mine)
one_by_flags k channel reading service name t ts true false mine goes is =
    no_cons t ts
    (sym (ap (filter (λ c. is_through c.reading)) (cond-true (channel == k) (one_read reading service name ∷ []) [] mine) ∙ cond-false (is_through reading) (one_read reading service name ∷ []) [] goes) ∙ is)
one_by_flags k channel reading service name t ts false goes_is mine goes is =
    no_cons t ts (sym (ap (filter (λ c. is_through c.reading)) (cond-false (channel == k) (one_read reading service name ∷ []) [] mine)) ∙ is)

through_one : (k : ℕ) (input : Input) (t : ReadCommand) (ts : List ReadCommand) → through_by k input ≡ t ∷ ts → (input ≡ Executed k t.reading t.service t.name) × (ts ≡ [])
through_one k (Opened channel) t ts is = no_cons t ts is
through_one k (Executed channel reading service name) t ts is = one_by_flags k channel reading service name t ts (channel == k) (is_through reading) refl refl is
through_one k (Ticked thread) t ts is = no_cons t ts is
through_one k (Closed channel) t ts is = no_cons t ts is

one_through : (k : ℕ) (reading : Reading) (service name : List ℕ) → is_through reading ≡ true → through_by k (Executed k reading service name) ≡ one_read reading service name ∷ []
one_through k reading service name goes =
    ap (filter (λ c. is_through c.reading)) (cond-true (k == k) (one_read reading service name ∷ []) [] (eq-eqb k k refl)) ∙ cond-true (is_through reading) (one_read reading service name ∷ []) [] goes

executed_append : (k : ℕ) (xs ys : List Input) → executed_on k (xs ++ ys) ≡ executed_on k xs ++ executed_on k ys
executed_append k [] ys = refl
executed_append k (x ∷ xs) ys = ap (λ l. executed_by k x ++ l) (executed_append k xs ys) ∙ sym (append_assoc (executed_by k x) (executed_on k xs) (executed_on k ys))

through_push : (k : ℕ) (before : List Input) (input : Input) → through_on k (before ++ input ∷ []) ≡ through_on k before ++ through_by k input
through_push k before input =
    ap (filter (λ c. is_through c.reading)) (executed_append k before (input ∷ []) ∙ ap (λ l. executed_on k before ++ l) (append-nil (executed_by k input)))
    ∙ filter-append (λ c. is_through c.reading) (executed_on k before) (executed_by k input)

through_cons : (k : ℕ) (left after : List Input) (input : Input) → left ≡ input ∷ after → through_on k left ≡ through_by k input ++ through_on k after
through_cons k left after input is = ap (through_on k) is ∙ filter-append (λ c. is_through c.reading) (executed_by k input) (executed_on k after)

-- lists that are split at the same place
record SplitSame {A : Type 0} (xs ys : List A) (x y : A) : Type 0 where
  pub fronts : xs ≡ ys
  pub heres : x ≡ y

split_same : {A : Type 0} (xs ys qs rs : List A) (x y : A) → length xs ≡ length ys → xs ++ x ∷ qs ≡ ys ++ y ∷ rs → SplitSame xs ys x y
split_same [] [] qs rs x y long is = record { fronts = refl; heres = cc }
split_same [] (z ∷ ys) qs rs x y long is = absurd (omega (arith, long))
split_same (z ∷ xs) [] qs rs x y long is = absurd (omega (arith, long))
split_same (z ∷ xs) (w ∷ ys) qs rs x y long is =
    let first : z ≡ w = cc in
    let others : xs ++ x ∷ qs ≡ ys ++ y ∷ rs = cc in
    let shorter : length xs ≡ length ys = omega (arith, long) in
    let rest = split_same xs ys qs rs x y shorter others in record { fronts = ap₂ (λ a l. a ∷ l) first rest.fronts; heres = rest.heres }

all_pass : {A : Type 0} (p : A → Bool) (xs : List A) → AllByRecursion (λ x. p x ≡ true) (filter p xs)
all_pass p [] = tt
all_pass p (x ∷ xs) = by_flag (p x) refl (all_pass p xs)
  where
    by_flag : (flag : Bool) → p x ≡ flag → AllByRecursion (λ y. p y ≡ true) (filter p xs) → AllByRecursion (λ y. p y ≡ true) (cond flag (x ∷ filter p xs) (filter p xs))
    by_flag true is rest = (is, rest)
    by_flag false is rest = rest

-- what is executed there goes through
executed_goes : (log : List LogLine) (history : List Input) (k : ℕ) (c : Accepted) (place : ℕ) → IsExecutedAt log history k c place → is_through (read c).reading ≡ true
executed_goes log history k c place ex =
    and_first (goes_through c) (not (is_bare log c.number))
    (all_at (λ d. goes_in log d ≡ true) ex.first ex.later c (subst (AllByRecursion (λ d. goes_in log d ≡ true)) ex.among (all_pass (goes_in log) (accepted log))))

-- ---- input by input

pub record BarriersSo (log : List LogLine) (inputs left : List Input) (k : ℕ) (commands rest : List Command) (place : ℕ) (found : List Barrier) : Type 0 where
  pub before : List Input
  pub first : List Command
  pub whole : inputs ≡ before ++ left
  pub placed : place ≡ length before
  pub taken : filter passes commands ≡ first ++ filter passes rest
  pub same : through_on k before ≡ as_read first
  pub front : AreFront (through_on k left) (passing rest)
  pub sorts : AllByRecursion HasItsSort (filter passes rest)
  pub sent_on : AllByRecursion IsSentOn (filter passes rest)
  pub rising : RiseIn (filter passes rest)
  pub each : AllByRecursion (IsBarrierOf log inputs k) found
  pub all : (c : Accepted) (at : ℕ) → IsExecutedAt log inputs k c at → is_barrier (read c).reading ≡ true → at ≤ length before → Contains found (record { number = c.number; place = at })
  pub below : AllByRecursion (λ (b : Barrier). AllByRecursion (λ (c : Command). b.number < c.number) (filter passes rest)) found
  pub rise : Rise found

pub barriers_first : (log : List LogLine) (inputs : List Input) (k : ℕ) (commands : List Command) (found : List Barrier) → AreSorted commands → AreFront (through_on k inputs) (passing commands) → found ≡ []
    → BarriersSo log inputs inputs k commands commands 0 found
barriers_first log inputs k commands found sorted front none =
    record {
      before = [];
      first = [];
      whole = refl;
      placed = refl;
      taken = refl;
      same = refl;
      front = front;
      sorts = all_filter HasItsSort passes commands sorted.sorts;
      sent_on = sent_on_all commands;
      rising = rise_filter commands (rise_from 1 commands sorted.counted);
      each = subst (AllByRecursion (IsBarrierOf log inputs k)) (sym none) tt;
      all = λ c at ex barrier within. absurd (omega (arith, within, ex.place));
      below = subst (AllByRecursion (λ (b : Barrier). AllByRecursion (λ (c : Command). b.number < c.number) (filter passes commands))) (sym none) tt;
      rise = subst Rise (sym none) tt;
    }

rise_push : (bs : List Barrier) (b : Barrier) → Rise bs → AllByRecursion (λ (d : Barrier). d.number < b.number) bs → Rise (bs ++ b ∷ [])
rise_push [] b rise less = (tt, tt)
rise_push (d ∷ bs) b rise less = (all_push (λ (e : Barrier). d.number < e.number) bs b rise.0 less.0, rise_push bs b rise.1 less.1)

-- a command that is executed at the next place
record IsHere (before : List Input) (input : Input) (c : Accepted) (k : ℕ) (ex_first : List Accepted) : Type 0 where
  pub is : input ≡ Executed k (read c).reading c.service c.name
  pub same : through_on k before ≡ map read ex_first

executed_here : (log : List LogLine) (inputs before after : List Input) (input : Input) (k : ℕ) (c : Accepted) (at : ℕ) (ex : IsExecutedAt log inputs k c at) → inputs ≡ before ++ input ∷ after
    → at ≡ length before + 1 → IsHere before input c k ex.first
executed_here log inputs before after input k c at ex whole here =
    let s = split_same before ex.before after ex.after input (Executed k (read c).reading c.service c.name) (omega (arith, here, ex.place)) (sym whole ∙ ex.split) in
    record { is = s.heres; same = ap (through_on k) s.fronts ∙ ex.same }

not_here : (log : List LogLine) (inputs before after : List Input) (input : Input) (k : ℕ) (c : Accepted) (at : ℕ) → IsExecutedAt log inputs k c at → inputs ≡ before ++ input ∷ after
    → at ≡ length before + 1 → through_by k input ≡ [] → ⊥
not_here log inputs before after input k c at ex whole here none =
    let h = executed_here log inputs before after input k c at ex whole here in
    no_cons (one_read (read c).reading c.service c.name) []
    (sym none ∙ (ap (through_by k) h.is ∙ one_through k (read c).reading c.service c.name (executed_goes log inputs k c at ex)))

one_more : (at n : ℕ) → at ≤ n + 1 → (at ≤ n) ⊎ (at ≡ n + 1)
one_more at n within = elim (cases_lt n at) [ inl more ↦ inr (omega (arith, within, more)) | inr fewer ↦ inl fewer ]

-- nothing that the target alone answers is executed
past_next : (log : List LogLine) (inputs left after : List Input) (k : ℕ) (commands rest next : List Command) (place : ℕ) (found : List Barrier) (input : Input)
    → BarriersSo log inputs left k commands rest place found → left ≡ input ∷ after → through_by k input ≡ [] → filter passes next ≡ filter passes rest
    → BarriersSo log inputs after k commands next (place + 1) found
past_next log inputs left after k commands rest next place found input s is none kept =
    record {
      before = s.before ++ input ∷ [];
      first = s.first;
      whole = whole_is ∙ sym (append_assoc s.before (input ∷ []) after);
      placed = omega (arith, s.placed, long);
      taken = s.taken ∙ ap (λ l. s.first ++ l) (sym kept);
      same = through_push k s.before input ∙ (ap (λ l. through_on k s.before ++ l) none ∙ (append-nil (through_on k s.before) ∙ s.same));
      front = subst (λ l. AreFront (through_on k after) (as_read l)) (sym kept) (subst (λ l. AreFront l (passing rest)) (through_cons k left after input is ∙ ap (λ l. l ++ through_on k after) none) s.front);
      sorts = subst (AllByRecursion HasItsSort) (sym kept) s.sorts;
      sent_on = subst (AllByRecursion IsSentOn) (sym kept) s.sent_on;
      rising = subst RiseIn (sym kept) s.rising;
      each = s.each;
      all = λ c at ex barrier within. elim (one_more at (length s.before) (omega (arith, within, long))) [
        | inl earlier ↦ s.all c at ex barrier earlier
        | inr here ↦ absurd (not_here log inputs s.before after input k c at ex whole_is here none)
      ];
      below = subst (λ l. AllByRecursion (λ (b : Barrier). AllByRecursion (λ (c : Command). b.number < c.number) l) found) (sym kept) s.below;
      rise = s.rise;
    }
  where
    whole_is : inputs ≡ s.before ++ input ∷ after
    whole_is = s.whole ∙ ap (λ l. s.before ++ l) is

    long : length (s.before ++ input ∷ []) ≡ length s.before + 1
    long = length-append s.before (input ∷ [])

-- one is executed: what it adds
record IsAdded (log : List LogLine) (inputs : List Input) (k : ℕ) (c : Command) (later : List Command) (at : ℕ) (found new : List Barrier) : Type 0 where
  pub each : AllByRecursion (IsBarrierOf log inputs k) new
  pub all : is_barrier (read (accepted_as c)).reading ≡ true → Contains new (record { number = c.number; place = at })
  pub below : AllByRecursion (λ (b : Barrier). AllByRecursion (λ (d : Command). b.number < d.number) later) new
  pub rise : Rise (found ++ new)

added_one : (log : List LogLine) (inputs : List Input) (k : ℕ) (c : Command) (later : List Command) (at : ℕ) (found : List Barrier) → HasItsSort c → is_sent_on c.sort ≡ true
    → IsExecutedAt log inputs k (accepted_as c) at → AllByRecursion (λ (d : Command). c.number < d.number) later → Rise found → AllByRecursion (λ (b : Barrier). b.number < c.number) found
    → IsAdded log inputs k c later at found (barrier_at (Some c) at)
added_one log inputs k c later at found sort sent executed above rise less = by_flag (ends_stores c.sort) refl
  where
    by_flag : (flag : Bool) → ends_stores c.sort ≡ flag → IsAdded log inputs k c later at found (cond flag (record { number = c.number; place = at } ∷ []) [])
    by_flag true is =
        record {
          each = (record { c = accepted_as c; executed = executed; barrier = sym (ends_is c sort sent) ∙ is; numbered = refl }, tt);
          all = λ barrier. contains_at [] [] (record { number = c.number; place = at });
          below = (above, tt);
          rise = rise_push found (record { number = c.number; place = at }) rise less;
        }
    by_flag false is =
        record {
          each = tt;
          all = λ barrier. absurd (false≢true (sym is ∙ (ends_is c sort sent ∙ barrier)));
          below = tt;
          rise = subst Rise (sym (append-nil found)) rise;
        }

heads : (c : Command) (cs : List Command) (found : List Barrier) → AllByRecursion (λ (b : Barrier). AllByRecursion (λ (d : Command). b.number < d.number) (c ∷ cs)) found
    → AllByRecursion (λ (b : Barrier). b.number < c.number) found
heads c cs [] all = tt
heads c cs (b ∷ found) all = (all.0.0, heads c cs found all.1)

tails : (c : Command) (cs : List Command) (found : List Barrier) → AllByRecursion (λ (b : Barrier). AllByRecursion (λ (d : Command). b.number < d.number) (c ∷ cs)) found
    → AllByRecursion (λ (b : Barrier). AllByRecursion (λ (d : Command). b.number < d.number) cs) found
tails c cs [] all = tt
tails c cs (b ∷ found) all = (all.0.1, tails c cs found all.1)

length_read : (cs : List Command) → length (as_read cs) ≡ length (as_accepted cs)
length_read cs = length-map (as_accepted cs) read

through_next : (log : List LogLine) (inputs left after : List Input) (k : ℕ) (commands rest next : List Command) (place : ℕ) (found : List Barrier) (input : Input) (t : ReadCommand) (ts : List ReadCommand) (c : Command) (cs : List Command)
    → BarriersSo log inputs left k commands rest place found → as_accepted (filter passes commands) ≡ through log → left ≡ input ∷ after → through_by k input ≡ t ∷ ts → filter passes rest ≡ c ∷ cs
    → filter passes next ≡ cs → BarriersSo log inputs after k commands next (place + 1) (found ++ barrier_at (Some c) (place + 1))
through_next log inputs left after k commands rest next place found input t ts c cs s through_is is by passing_is kept =
    record {
      before = s.before ++ input ∷ [];
      first = s.first ++ c ∷ [];
      whole = whole_is ∙ sym (append_assoc s.before (input ∷ []) after);
      placed = omega (arith, s.placed, long);
      taken = s.taken ∙ (ap (λ l. s.first ++ l) (passing_is ∙ ap (λ l. c ∷ l) (sym kept)) ∙ sym (append_assoc s.first (c ∷ []) (filter passes next)));
      same = through_push k s.before input
          ∙ (ap₂ (λ x y. x ++ y) s.same (by ∙ (ap₂ (λ a l. a ∷ l) t_is none)) ∙ sym (ap (map read) (map-append accepted_as s.first (c ∷ [])) ∙ map-append read (as_accepted s.first) (as_accepted (c ∷ []))));
      front = subst (λ l. AreFront (through_on k after) (as_read l)) (sym kept)
          (subst (λ l. AreFront (l ++ through_on k after) (as_read cs)) none (front_rest t (read (accepted_as c)) (ts ++ through_on k after) (as_read cs) front_is));
      sorts = subst (AllByRecursion HasItsSort) (sym kept) sorts_are.1;
      sent_on = subst (AllByRecursion IsSentOn) (sym kept) sent_are.1;
      rising = subst RiseIn (sym kept) rising_is.1;
      each = all_append (IsBarrierOf log inputs k) found (barrier_at (Some c) (place + 1)) s.each added.each;
      all = λ d at ex barrier within. elim (one_more at (length s.before) (omega (arith, within, long))) [
        | inl earlier ↦ Contains-append_left found (barrier_at (Some c) (place + 1)) (record { number = d.number; place = at }) (s.all d at ex barrier earlier)
        | inr here ↦ Contains-append_right found (barrier_at (Some c) (place + 1)) (record { number = d.number; place = at }) (here_is d at ex barrier here)
      ];
      below = subst (λ l. AllByRecursion (λ (b : Barrier). AllByRecursion (λ (d : Command). b.number < d.number) l) (found ++ barrier_at (Some c) (place + 1))) (sym kept)
          (all_append (λ (b : Barrier). AllByRecursion (λ (d : Command). b.number < d.number) cs) found (barrier_at (Some c) (place + 1)) (tails c cs found below_is) added.below);
      rise = added.rise;
    }
  where
    whole_is : inputs ≡ s.before ++ input ∷ after
    whole_is = s.whole ∙ ap (λ l. s.before ++ l) is

    long : length (s.before ++ input ∷ []) ≡ length s.before + 1
    long = length-append s.before (input ∷ [])

    none : ts ≡ []
    none = (through_one k input t ts by).1

    input_is : input ≡ Executed k t.reading t.service t.name
    input_is = (through_one k input t ts by).0

    front_is : AreFront (t ∷ (ts ++ through_on k after)) (read (accepted_as c) ∷ as_read cs)
    front_is = subst (λ l. AreFront (t ∷ (ts ++ through_on k after)) (as_read l)) passing_is (subst (λ l. AreFront l (passing rest)) (through_cons k left after input is ∙ ap (λ l. l ++ through_on k after) by) s.front)

    t_is : t ≡ read (accepted_as c)
    t_is = front_first t (read (accepted_as c)) (ts ++ through_on k after) (as_read cs) front_is

    sorts_are : AllByRecursion HasItsSort (c ∷ cs)
    sorts_are = subst (AllByRecursion HasItsSort) passing_is s.sorts

    sent_are : AllByRecursion IsSentOn (c ∷ cs)
    sent_are = subst (AllByRecursion IsSentOn) passing_is s.sent_on

    rising_is : RiseIn (c ∷ cs)
    rising_is = subst RiseIn passing_is s.rising

    below_is : AllByRecursion (λ (b : Barrier). AllByRecursion (λ (d : Command). b.number < d.number) (c ∷ cs)) found
    below_is = subst (λ l. AllByRecursion (λ (b : Barrier). AllByRecursion (λ (d : Command). b.number < d.number) l) found) passing_is s.below

    among_is : through log ≡ as_accepted s.first ++ accepted_as c ∷ as_accepted cs
    among_is = sym through_is ∙ (ap as_accepted (s.taken ∙ ap (λ l. s.first ++ l) passing_is) ∙ map-append accepted_as s.first (c ∷ cs))

    executed : IsExecutedAt log inputs k (accepted_as c) (place + 1)
    executed =
        record {
          first = as_accepted s.first;
          later = as_accepted cs;
          among = among_is;
          before = s.before;
          after = after;
          split = whole_is ∙ ap (λ i. s.before ++ i ∷ after) (input_is ∙ ap (λ (r : ReadCommand). Executed k r.reading r.service r.name) t_is);
          place = omega (arith, s.placed);
          same = s.same;
        }

    added : IsAdded log inputs k c cs (place + 1) found (barrier_at (Some c) (place + 1))
    added = added_one log inputs k c cs (place + 1) found sorts_are.0 sent_are.0 executed rising_is.0 s.rise (heads c cs found below_is)

    same_command : (d : Accepted) (at : ℕ) → IsExecutedAt log inputs k d at → at ≡ length s.before + 1 → accepted_as c ≡ d
    same_command d at ex here =
        let h = executed_here log inputs s.before after input k d at ex whole_is here in
        let lengths : length (as_accepted s.first) ≡ length ex.first = sym (length_read s.first) ∙ (ap length (sym s.same ∙ h.same) ∙ length-map ex.first read) in
        (split_same (as_accepted s.first) ex.first (as_accepted cs) ex.later (accepted_as c) d lengths (sym among_is ∙ ex.among)).heres

    here_is : (d : Accepted) (at : ℕ) → IsExecutedAt log inputs k d at → is_barrier (read d).reading ≡ true → at ≡ length s.before + 1
        → Contains (barrier_at (Some c) (place + 1)) (record { number = d.number; place = at })
    here_is d at ex barrier here =
        let same = same_command d at ex here in
        subst (Contains (barrier_at (Some c) (place + 1))) (ap₂ (λ (a : Accepted) n. record { number = a.number; place = n }) same (omega (arith, here, s.placed)))
        (added.all (ap (λ (a : Accepted). is_barrier (read a).reading) same ∙ barrier))

-- one input more
pub barriers_next : (log : List LogLine) (inputs left after : List Input) (k : ℕ) (commands rest next : List Command) (place place' : ℕ) (found found' : List Barrier) (input : Input) (sent : Option Command)
    → as_accepted (filter passes commands) ≡ through log → BarriersSo log inputs left k commands rest place found → left ≡ input ∷ after
    → GoesBy (through_by k input) (filter passes rest) sent (filter passes next) → place' ≡ place + 1 → found' ≡ found ++ barrier_at sent place' → BarriersSo log inputs after k commands next place' found'
barriers_next log inputs left after k commands rest next place place' found found' input sent through_is s is goes one new =
    by_lists (through_by k input) (filter passes rest) refl refl goes
  where
    as_found : (more : List Barrier) → barrier_at sent place' ≡ more → BarriersSo log inputs after k commands next (place + 1) (found ++ more) → BarriersSo log inputs after k commands next place' found'
    as_found more same so =
        subst (λ n. BarriersSo log inputs after k commands next n found') (sym one) (subst (BarriersSo log inputs after k commands next (place + 1)) (sym (new ∙ ap (λ l. found ++ l) same)) so)

    by_lists : (ts : List ReadCommand) (cs : List Command) → through_by k input ≡ ts → filter passes rest ≡ cs → GoesBy ts cs sent (filter passes next) → BarriersSo log inputs after k commands next place' found'
    by_lists [] cs by passing_is g =
        as_found [] (ap (λ o. barrier_at o place') g.0)
        (subst (BarriersSo log inputs after k commands next (place + 1)) (sym (append-nil found)) (past_next log inputs left after k commands rest next place found input s is by (g.1 ∙ sym passing_is)))
    by_lists (t ∷ ts) [] by passing_is g =
        absurd (no_front t (ts ++ through_on k after) (subst (λ l. AreFront (t ∷ (ts ++ through_on k after)) (as_read l)) passing_is
        (subst (λ l. AreFront l (passing rest)) (through_cons k left after input is ∙ ap (λ l. l ++ through_on k after) by) s.front)))
    by_lists (t ∷ ts) (c ∷ cs) by passing_is g =
        as_found (barrier_at (Some c) (place + 1)) (ap₂ (λ o n. barrier_at o n) g.0 one)
        (through_next log inputs left after k commands rest next place found input t ts c cs s through_is is by passing_is g.1)

pub barriers_last : (log : List LogLine) (inputs left : List Input) (k : ℕ) (commands rest : List Command) (place : ℕ) (found : List Barrier) → BarriersSo log inputs left k commands rest place found → left ≡ []
    → AreBarriers log inputs k found
barriers_last log inputs left k commands rest place found s is =
    record {
      each = s.each;
      all = λ c at ex barrier. s.all c at ex barrier (omega (arith, ex.place, ap length ex.split, length-append ex.before (Executed k (read c).reading c.service c.name ∷ ex.after), ap length (s.whole ∙ (ap (λ l. s.before ++ l) is ∙ append-nil s.before))));
      rise = s.rise;
    }
