use Rattle.std.proofs.Common.{◌≡◌, ◌∙◌, List, ap, subst, sym}
use Rattle.tcf_schedules.specs.declared.schedule.ChainHead.{ChainHead}
use Rattle.tcf_schedules.specs.declared.schedule.NamedImage.{NamedImage}
use Rattle.tcf_schedules.specs.Plan.{AreSteps, Plan}
use Rattle.tcf_schedules.specs.Schedule.{ScheduleValue}
use Rattle.load_schedules.specs.Generated.{IsSaidByAFile, generated}
use Rattle.load_schedules.proofs.generating.generate.Goals as goal

-- what holds of a schedule holds of one of the same parts
of_parts : (P : ScheduleValue → Type 0) (s : ScheduleValue) (images : List NamedImage) (chains : List ChainHead) (plans : List Plan)
    → images ≡ s.images → chains ≡ s.chains → plans ≡ s.plans → P s → P (record { images = images; chains = chains; plans = plans })
of_parts P s images chains plans images_are chains_are plans_are holds =
    subst P (sym (ap (λ i. record { images = i; chains = chains; plans = plans }) images_are
    ∙ (ap (λ c. record { images = s.images; chains = c; plans = plans }) chains_are ∙ ap (λ p. record { images = s.images; chains = s.chains; plans = p }) plans_are))) holds

pub returns-clause-said : goal.returns-clause-said
returns-clause-said c =
    of_parts IsSaidByAFile (generated c.args.number) c.in_ok-images.field-0 c.in_ok-chains.field-0 _ c.in_ok-images.ensures c.in_ok-chains.ensures c.in_ok-all_steps.ensures
    (c.generates_what_is_said.ensures c.args.number)

pub returns-clause-within : goal.returns-clause-within
returns-clause-within c =
    of_parts (λ s. AreSteps s.chains s.plans) (generated c.args.number) c.in_ok-images.field-0 c.in_ok-chains.field-0 _ c.in_ok-images.ensures c.in_ok-chains.ensures c.in_ok-all_steps.ensures
    (c.what_is_generated_is_within.ensures c.args.number)
