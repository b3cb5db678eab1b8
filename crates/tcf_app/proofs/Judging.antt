-- What a played history executes is read.
use Rattle.std.proofs.Common.{◌≡◌, ◌⊎◌, inl, inr, ℕ, List, [], ◌∷◌, ◌++◌, refl, sym, ◌∙◌, ap, subst, append_assoc}
use Rattle.std.specs.Prelude.{Option, Some, None, Result, Ok, Err, IfOk}
use Rattle.std.specs.List.{AllByRecursion}
use Rattle.tcf_outside.specs.Sink.{SinkSeen}
use Rattle.tcf_schedules.specs.Refusal.{BadLine}
use Rattle.journal_text.specs.declared.journal.Journal.{Journal}
use Rattle.log_check.specs.Rules.{IsJudged}
use Rattle.log_check.specs.declared.rule.Rule.{Rule}
use Rattle.tcf_app.specs.declared.exit.Exit.{Exit}
use Rattle.tcf_app.specs.declared.exit.Exit.TheVariants.{NoMemory}
use Rattle.tcf_app.specs.Ending.{Ending, Ends, EndsIn, IsJudgedEnding, bad_ending, verdict_ending, wanting_ending}
use Rattle.tcf_app.proofs.Endings.{ends_early, ends_wanting}
use Rattle.chain_world.specs.World.{IsPlayable, adds_of, images_of}
use Rattle.chain_world.specs.WorldValue.{WorldValue}
use Rattle.journal_text.specs.Inputs.{InputIsRead}
use Rattle.target_contexts.specs.declared.process.Image.{Image}
use Rattle.target_hub.specs.History.{IsAllowed, IsLegal, inputs_after}
use Rattle.target_hub.specs.HubValue.{new_target, TargetValue}
use Rattle.target_hub.specs.declared.input.Input.{Input}
use Rattle.target_hub.specs.declared.input.Input.TheVariants.{Opened, Executed, Ticked, Closed}
use Rattle.tcf_schedules.specs.Schedule.{ScheduleValue}
use Rattle.world_laws.specs.WorldLaws.{FaithfulAfterEverySchedule}
use Rattle.tcf_app.specs.Played.{world_of}

allowed_is_read : (before : List Input) (target : TargetValue) (input : Input) → IsAllowed before target input → InputIsRead input
allowed_is_read before target (Opened channel) allowed = tt
allowed_is_read before target (Executed channel reading service name) allowed = allowed.1
allowed_is_read before target (Ticked thread) allowed = tt
allowed_is_read before target (Closed channel) allowed = tt

legal_is_read : (images : List Image) (history before left : List Input) → IsLegal images history → history ≡ before ++ left → AllByRecursion InputIsRead left
legal_is_read images history before [] legal is = tt
legal_is_read images history before (input ∷ left) legal is = (
  allowed_is_read before (inputs_after before (new_target images)) input (legal before input left is),
  legal_is_read images history (before ++ input ∷ []) left legal (is ∙ sym (append_assoc before (input ∷ []) left)),
)

pub played_is_read : (w : WorldValue) (schedule : ScheduleValue) → FaithfulAfterEverySchedule → AllByRecursion IsPlayable schedule.plans → w ≡ world_of schedule
    → AllByRecursion InputIsRead w.history
played_is_read w schedule faithful playable is =
    subst (λ (v : WorldValue). AllByRecursion InputIsRead v.history) (sym is)
    (legal_is_read (images_of schedule.images) (world_of schedule).history [] (world_of schedule).history
    (faithful (images_of schedule.images) (adds_of schedule.chains) schedule.plans playable).legal refl)

-- ---- how a run of `check` ends

-- with the verdict
pub verdict_ends : (said : Result Journal BadLine) (j : Journal) (verdict : Option Rule) (exit : Exit) (before after : SinkSeen) → said ≡ Ok j
    → IsJudged j.images j.inputs j.lines verdict → Ends (verdict_ending verdict) exit before after → EndsIn (IsJudgedEnding said) exit before after
verdict_ends said j verdict exit before after is judged ends =
    (verdict_ending verdict, subst (λ r. IsJudgedEnding r (verdict_ending verdict)) (sym is) (inl (verdict, judged, refl)), ends)

-- or for want of memory, whatever the file says
pub wants_anyhow : (said : Result Journal BadLine) (sink : SinkSeen) → EndsIn (IsJudgedEnding said) NoMemory sink sink
wants_anyhow (Err bad) sink = (bad_ending bad, refl, ends_early (bad_ending bad) sink (λ e. cc))
wants_anyhow (Ok j) sink = (wanting_ending, inr refl, ends_wanting sink)
