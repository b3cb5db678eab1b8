-- A redirect holds back the commands behind it.
use Rattle.std.specs.Prelude.{ℕ, ◌≡◌, Bool, true, List, ◌∷◌, ◌++◌, decimal}
use Rattle.std.specs.List.{list_any}
use Rattle.channel_core.specs.Greeting.{is_greeting}
use Rattle.channel_core.specs.RunLaws.{sent_of}
use Rattle.channel_core.specs.Runs.{Issued, Run}
use Rattle.channel_core.specs.Wire.{answers, said_in}
use Rattle.channel_core.specs.declared.held.Incoming.{Incoming}
use Rattle.channel_core.specs.declared.taking.Taken.{Taken}
use Rattle.channel_core.specs.declared.taking.Taken.TheVariants.{Final}

-- the command with this token has its final answer among these entries; where that has no error, a Hello was taken behind it
pub record IsReleased {T : Type 0} (token : ℕ) (taken : List (Taken T)) : Type 0 where
  pub earlier : List (Taken T)
  pub tag : T
  pub incoming : Incoming
  pub later : List (Taken T)
  pub split : taken ≡ earlier ++ Final tag incoming ∷ later
  pub done : Bool
  pub answer : said_in incoming.raw ≡ answers (decimal token) done
  pub greeted : done ≡ true → list_any is_greeting later ≡ true

-- where a command was sent behind a redirect, the redirect has been answered so
abbrev pub HoldsBehindRedirects : {T : Type 0} → Run T → Type 0
HoldsBehindRedirects {T} r = (before behind : List (Issued T)) (redirect next : Issued T)
    → sent_of r ≡ before ++ redirect ∷ next ∷ behind → redirect.command.is_redirect ≡ true
    → IsReleased redirect.command.token r.past.taken
