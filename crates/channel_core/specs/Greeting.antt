-- No command goes out before the Hello of the other side was taken.
use Rattle.std.specs.Prelude.{◌≡◌, Bool, true, false, [], filter}
use Rattle.std.specs.List.{list_any}
use Rattle.channel_core.specs.RunLaws.{is_command}
use Rattle.channel_core.specs.Runs.{Run}
use Rattle.channel_core.specs.declared.taking.Taken.{Taken}
use Rattle.channel_core.specs.declared.taking.Taken.TheVariants.{Hello}

abbrev pub is_greeting : {T : Type 0} → Taken T → Bool
is_greeting (Hello incoming) = true
is_greeting _ = false

-- where no Hello was taken no command was queued
abbrev pub WaitsForHello : {T : Type 0} → Run T → Type 0
WaitsForHello r = list_any is_greeting r.past.taken ≡ false → filter is_command r.past.queued ≡ []
