-- What every legal list of inputs keeps.
use Rattle.std.proofs.Common.{◌≡◌, ◌≢◌, ℕ, ◌&&◌, ◌||◌, Bool, true, false, not, List, [], ◌∷◌, ◌++◌, map, Option, Some, None, option_map, refl, sym, ◌∙◌, ap, subst, arith, inl, inr, ◌⊎◌}
use Rattle.std.specs.List.{AllByRecursion}
use Rattle.std.specs.Prelude.{unwrap_or}
use Rattle.std.proofs.lemmas.List.{append-nil, append_assoc}
use Rattle.std.proofs.lemmas.List.Folds.{list_any-append}
use Rattle.command_tables.specs.Canonical.{IsReadable}
use Rattle.command_tables.specs.declared.reading.Reading.{Reading}
use Rattle.command_tables.specs.declared.reading.Reading.TheVariants.{Known, Unknown, Bad}
use Rattle.service_names.specs.Commands.{named_as}
use Rattle.service_names.specs.declared.commands.CommandName.{CommandName}
use Rattle.service_names.specs.declared.commands.CommandName.TheVariants as service
use Rattle.tcf_values.specs.declared.command.Command.{Command}
use Rattle.breakpoints.specs.declared.rows.Placed.{Placed}
use Rattle.breakpoints.specs.Changes.{after}
use Rattle.breakpoints.specs.Laws.{command, going}
use Rattle.breakpoints.specs.Rows.{IsOrderly as AreListed, others, owned_by}
use Rattle.data_services.specs.Commands.{data_after}
use Rattle.data_services.specs.Laws.{thread_part}
use Rattle.run_control.specs.Commands.{run_after}
use Rattle.run_control.specs.Laws.{AreSound, IsSound, IsSoundThread, needs_debugger, uncounted}
use Rattle.run_control.specs.Ticking.{tick_after}
use Rattle.target_contexts.specs.Live.{IsOrderly, process_of}
use Rattle.target_contexts.specs.TargetsValue.{TargetsValue}
use Rattle.target_contexts.specs.declared.process.Image.{Image}
use Rattle.target_contexts.specs.ProcessValue.{ProcessValue}
use Rattle.target_contexts.specs.declared.process.ThreadState.{ThreadState}
use Rattle.target_contexts.specs.declared.threads.Thread.{Thread}
use Rattle.list_laws.proofs.Lists.{cons_parts}
use Rattle.target_hub.specs.Execution.{after_in, exec_after}
use Rattle.target_hub.specs.History.{IsAllowed, IsLegal, closes, input_after, inputs_after, was_closed, was_opened}
use Rattle.target_hub.specs.HistoryLaws.{ClosedOwnsNothing, StaysConsistent}
use Rattle.target_hub.specs.HubValue.{new_target}
use Rattle.target_hub.specs.Limits.{AreReadable}
use Rattle.target_hub.specs.declared.input.Input.{Input}
use Rattle.target_hub.specs.declared.input.Input.TheVariants.{Opened, Executed, Ticked, Closed}
use Rattle.run_control.specs.TargetValue.{TargetValue}
use Rattle.breakpoints.proofs.TheLaws.{list_stays_orderly, steps_keep_order}
use Rattle.command_tables.proofs.TheLaws.{known_are_readable}
use Rattle.data_services.proofs.TheLaws.{order_stays, threads_stay}
use Rattle.run_control.proofs.TheLaws.{commands_change_counts, commands_keep_order, commands_keep_sound, commands_list, ticks_change_counts, ticks_keep_order, ticks_keep_sound, ticks_list}
use Rattle.target_hub.proofs.Kept.{after_readable, others_readable}
use Rattle.target_hub.proofs.Owned.{going_owns, gone_owns, silent_owns}
use Rattle.target_hub.proofs.Points.{owned_like, readable_like}

pub inputs_append : (xs ys : List Input) (target : TargetValue) → inputs_after (xs ++ ys) target ≡ inputs_after ys (inputs_after xs target)
inputs_append [] ys target = refl
inputs_append (x ∷ xs) ys target = inputs_append xs ys (input_after x target)

-- of the processes
pub record AreFine (contexts : TargetsValue) : Type 0 where
  pub processes : IsOrderly contexts.processes contexts.next
  pub threads : AreSound contexts.processes

-- of the breakpoints: they are orderly, and no closed channel owns one
pub record AreKept (before : List Input) (rows : List Placed) : Type 0 where
  pub orderly : AreListed rows
  pub properties : AreReadable rows
  pub closed : (channel : ℕ) → was_closed channel before ≡ true → owned_by channel rows ≡ []

-- ---- the processes through a command

-- threads with the same states are as sound
states_sound : (threads was : List Thread) (attached before : Bool) → map (λ (t : Thread). t.state) threads ≡ map (λ (t : Thread). t.state) was → attached ≡ before
    → AllByRecursion (IsSoundThread before) was → AllByRecursion (IsSoundThread attached) threads
states_sound [] was attached before states same sound = tt
states_sound (t ∷ threads) [] attached before states same sound = absurd cc
states_sound (t ∷ threads) (u ∷ was) attached before states same sound =
    let parts = cons_parts t.state u.state (map (λ (t : Thread). t.state) threads) (map (λ (t : Thread). t.state) was) states in
    ((λ needs. same ∙ sound.0 (ap needs_debugger (sym parts.0) ∙ needs)), states_sound threads was attached before parts.1 same sound.1)

sound_at : (found : Option ProcessValue) (process : ProcessValue) → option_map thread_part (Some process) ≡ option_map thread_part found → ((p : ProcessValue) → found ≡ Some p → IsSound p) → IsSound process
sound_at None process same sound = absurd cc
sound_at (Some p) process same sound =
    let parts : thread_part process ≡ thread_part p = ap (λ (o : Option (List ThreadState × Bool)). unwrap_or o (thread_part p)) same in
    states_sound process.threads p.threads process.attached p.attached
    (ap (λ (q : List ThreadState × Bool). q.0) parts) (ap (λ (q : List ThreadState × Bool). q.1) parts) (sound p refl)

data_sound : (c : Command) (contexts : TargetsValue) → AreSound contexts.processes → AreSound (data_after c contexts).processes
data_sound c contexts sound number process there =
    sound_at (process_of number contexts.processes) process (ap (option_map thread_part) (sym there) ∙ threads_stay c contexts number) (sound number)

run_fine : (c : Command) (target : TargetValue) → AreFine target.contexts → AreFine (run_after c target).contexts
run_fine c target fine = record {
  processes = commands_keep_order c target fine.processes;
  threads = commands_keep_sound c target fine.processes fine.threads;
}

data_fine : (c : Command) (contexts : TargetsValue) → AreFine contexts → AreFine (data_after c contexts)
data_fine c contexts fine = record {
  processes = order_stays c contexts fine.processes;
  threads = data_sound c contexts fine.threads;
}

fine_in : (name : CommandName) (channel : ℕ) (c : Command) (target : TargetValue) → AreFine target.contexts → AreFine (after_in name channel c target).contexts
fine_in (service.Locator name) channel c target fine = fine
fine_in (service.RunControl name) channel c target fine = run_fine c target fine
fine_in (service.Breakpoints name) channel c target fine = fine
fine_in (service.Memory name) channel c target fine = data_fine c target.contexts fine
fine_in (service.Registers name) channel c target fine = data_fine c target.contexts fine
fine_in (service.Processes name) channel c target fine = run_fine c target fine
fine_in (service.Trace name) channel c target fine = run_fine c target fine

exec_fine : (channel : ℕ) (c : Command) (target : TargetValue) → AreFine target.contexts → AreFine (exec_after channel c target).contexts
unfolding exec_after
exec_fine channel c target fine = fine_in (named_as c) channel c target fine

reading_fine : (channel : ℕ) (reading : Reading) (name service : List ℕ) (target : TargetValue) → AreFine target.contexts → AreFine (input_after (Executed channel reading service name) target).contexts
reading_fine channel (Known c) name service target fine = exec_fine channel c target fine
reading_fine channel Unknown name service target fine = fine
reading_fine channel (Bad index code) name service target fine = fine

fine_after : (input : Input) (target : TargetValue) → AreFine target.contexts → AreFine (input_after input target).contexts
fine_after (Opened channel) target fine = fine
fine_after (Executed channel reading service name) target fine = reading_fine channel reading name service target fine
fine_after (Ticked thread) target fine = record {
  processes = ticks_keep_order thread target fine.processes;
  threads = ticks_keep_sound thread target fine.processes fine.threads;
}
fine_after (Closed channel) target fine = fine

-- ---- which channels were closed

either : (a b : Bool) → (a || (b || false)) ≡ true → (a ≡ true) ⊎ (b ≡ true)
either true b is = inl refl
either false true is = inr refl
either false false is = absurd cc

closed_before : (channel : ℕ) (before : List Input) (input : Input) → was_closed channel (before ++ input ∷ []) ≡ true → (was_closed channel before ≡ true) ⊎ (closes channel input ≡ true)
closed_before channel before input is =
    either (was_closed channel before) (closes channel input) (sym (list_any-append (closes channel) before (input ∷ [])) ∙ is)

-- an input that closes nothing
only_before : (channel : ℕ) (before : List Input) (input : Input) → closes channel input ≡ false → was_closed channel (before ++ input ∷ []) ≡ true → was_closed channel before ≡ true
only_before channel before input shut_none is =
    elim (closed_before channel before input is) [
      | inl was ↦ was
      | inr now ↦ absurd cc
    ]

not_closed : (opened closed : Bool) → (opened && not closed) ≡ true → closed ≡ false
not_closed true true is = absurd cc
not_closed true false is = refl
not_closed false closed is = absurd cc

-- ---- the breakpoints through an input

same_kept : (before : List Input) (input : Input) (rows : List Placed) → ((channel : ℕ) → closes channel input ≡ false) → AreKept before rows → AreKept (before ++ input ∷ []) rows
same_kept before input rows shut_none kept = record {
  orderly = kept.orderly;
  properties = kept.properties;
  closed = λ channel is. kept.closed channel (only_before channel before input (shut_none channel) is);
}

-- an input that changes counts alone
counted_kept : (before : List Input) (input : Input) (rows new : List Placed) → ((channel : ℕ) → closes channel input ≡ false) → uncounted new ≡ uncounted rows → AreListed new → AreKept before rows → AreKept (before ++ input ∷ []) new
counted_kept before input rows new shut_none same orderly kept = record {
  orderly = orderly;
  properties = readable_like new rows same kept.properties;
  closed = λ channel is. owned_like channel new rows same (kept.closed channel (only_before channel before input (shut_none channel) is));
}

run_kept : (before : List Input) (input : Input) (c : Command) (target : TargetValue) → ((channel : ℕ) → closes channel input ≡ false) → AreKept before target.breakpoints → AreKept (before ++ input ∷ []) (run_after c target).breakpoints
run_kept before input c target shut_none kept =
    counted_kept before input target.breakpoints (run_after c target).breakpoints shut_none (commands_change_counts c target) (commands_list c target kept.orderly) kept

true_is_false : true ≡ false → ⊥
true_is_false is = cc

change_kept : (before : List Input) (input : Input) (channel : ℕ) (c : Command) (rows : List Placed) → ((other : ℕ) → closes other input ≡ false) → was_closed channel before ≡ false → IsReadable c
    → AreKept before rows → AreKept (before ++ input ∷ []) (after channel c rows)
change_kept before input channel c rows shut_none live readable kept = record {
  orderly = steps_keep_order (command channel c) rows kept.orderly;
  properties = after_readable channel c rows readable kept.properties;
  closed = λ other is.
      let was = only_before other before input (shut_none other) is in
      let differ : channel ≢ other = λ same. absurd (true_is_false (sym was ∙ subst (λ (n : ℕ). was_closed n before ≡ false) same live)) in
      silent_owns other channel c rows differ (kept.closed other was);
}

going_kept : (before : List Input) (channel : ℕ) (rows : List Placed) → AreKept before rows → AreKept (before ++ Closed channel ∷ []) (others channel rows)
going_kept before channel rows kept = record {
  orderly = steps_keep_order (going channel) rows kept.orderly;
  properties = others_readable channel rows kept.properties;
  closed = λ other is.
      elim (closed_before other before (Closed channel) is) [
        | inl was ↦ going_owns other channel rows (kept.closed other was)
        | inr now ↦ gone_owns other channel rows now
      ];
}

kept_in : (name : CommandName) (before : List Input) (input : Input) (channel : ℕ) (c : Command) (target : TargetValue) → ((other : ℕ) → closes other input ≡ false) → was_closed channel before ≡ false → IsReadable c
    → AreKept before target.breakpoints → AreKept (before ++ input ∷ []) (after_in name channel c target).breakpoints
kept_in (service.Locator name) before input channel c target shut_none live readable kept = same_kept before input target.breakpoints shut_none kept
kept_in (service.RunControl name) before input channel c target shut_none live readable kept = run_kept before input c target shut_none kept
kept_in (service.Breakpoints name) before input channel c target shut_none live readable kept = change_kept before input channel c target.breakpoints shut_none live readable kept
kept_in (service.Memory name) before input channel c target shut_none live readable kept = same_kept before input target.breakpoints shut_none kept
kept_in (service.Registers name) before input channel c target shut_none live readable kept = same_kept before input target.breakpoints shut_none kept
kept_in (service.Processes name) before input channel c target shut_none live readable kept = run_kept before input c target shut_none kept
kept_in (service.Trace name) before input channel c target shut_none live readable kept = run_kept before input c target shut_none kept

exec_kept : (before : List Input) (input : Input) (channel : ℕ) (c : Command) (target : TargetValue) → ((other : ℕ) → closes other input ≡ false) → was_closed channel before ≡ false → IsReadable c
    → AreKept before target.breakpoints → AreKept (before ++ input ∷ []) (exec_after channel c target).breakpoints
unfolding exec_after
exec_kept before input channel c target shut_none live readable kept = kept_in (named_as c) before input channel c target shut_none live readable kept

kept_after : (before : List Input) (input : Input) (target : TargetValue) → IsAllowed before target input → AreKept before target.breakpoints → AreKept (before ++ input ∷ []) (input_after input target).breakpoints
kept_after before (Opened channel) target allowed kept = same_kept before (Opened channel) target.breakpoints (λ _. refl) kept
kept_after before (Executed channel (Known c) service name) target allowed kept =
    exec_kept before (Executed channel (Known c) service name) channel c target (λ _. refl)
    (not_closed (was_opened channel before) (was_closed channel before) allowed.0) (known_are_readable service name c allowed.1).1 kept
kept_after before (Executed channel Unknown service name) target allowed kept = same_kept before (Executed channel Unknown service name) target.breakpoints (λ _. refl) kept
kept_after before (Executed channel (Bad index code) service name) target allowed kept =
    same_kept before (Executed channel (Bad index code) service name) target.breakpoints (λ _. refl) kept
kept_after before (Ticked thread) target allowed kept =
    counted_kept before (Ticked thread) target.breakpoints (tick_after thread target).breakpoints (λ _. refl) (ticks_change_counts thread target) (ticks_list thread target kept.orderly) kept
kept_after before (Closed channel) target allowed kept = going_kept before channel target.breakpoints kept

-- ---- whole lists of inputs

pub record Stands (before : List Input) (target : TargetValue) : Type 0 where
  pub fine : AreFine target.contexts
  pub kept : AreKept before target.breakpoints

stands_all : (images : List Image) (before rest : List Input) (target : TargetValue) → target ≡ inputs_after before (new_target images) → IsLegal images (before ++ rest) → Stands before target
    → Stands (before ++ rest) (inputs_after rest target)
stands_all images before [] target made legal stands = subst (λ bs. Stands bs target) (sym (append-nil before)) stands
stands_all images before (input ∷ rest) target made legal stands =
    let allowed : IsAllowed before target input = subst (λ t. IsAllowed before t input) (sym made) (legal before input rest refl) in
    let together = append_assoc before (input ∷ []) rest in
    subst (λ bs. Stands bs (inputs_after rest (input_after input target))) together
    (stands_all images (before ++ input ∷ []) rest (input_after input target)
    (ap (input_after input) made ∙ sym (inputs_append before (input ∷ []) (new_target images)))
    (subst (IsLegal images) (sym together) legal)
    (record { fine = fine_after input target stands.fine; kept = kept_after before input target allowed stands.kept }))

new_sound : AreSound []
new_sound number process there = absurd cc

new_closed : (channel : ℕ) → was_closed channel [] ≡ true → owned_by channel [] ≡ []
new_closed channel is = refl

new_stands : (images : List Image) → Stands [] (new_target images)
new_stands images = record {
  fine = record { processes = record { few = omega arith; rising = omega arith; bounded = omega arith }; threads = new_sound };
  kept = record { orderly = list_stays_orderly []; properties = tt; closed = new_closed };
}

legal_stands : (images : List Image) (inputs : List Input) → IsLegal images inputs → Stands inputs (inputs_after inputs (new_target images))
legal_stands images inputs legal = stands_all images [] inputs (new_target images) refl legal (new_stands images)

pub stays_consistent : StaysConsistent
stays_consistent images inputs legal =
    let stands = legal_stands images inputs legal in
    record {
      processes = stands.fine.processes;
      threads = stands.fine.threads;
      breakpoints = stands.kept.orderly;
      properties = stands.kept.properties;
    }

pub closed_owns_nothing : ClosedOwnsNothing
closed_owns_nothing images inputs channel legal was = (legal_stands images inputs legal).kept.closed channel was
