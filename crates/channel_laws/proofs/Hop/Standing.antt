-- The two ends of a live hop stand so, at any moment.
use Rattle.std.proofs.Common.{◌≡◌, Bool, true, false, not, ◌&&◌, ◌||◌, List, ap, ◌∙◌, subst}
use Rattle.std.specs.Prelude.{pos, int_lt}
use Rattle.std.proofs.lemmas.Bool.{or_cases}
use Rattle.channel_core.specs.Arrivals.{Marked}
use Rattle.channel_core.specs.Closing.{is_closed}
use Rattle.channel_core.specs.Holding.{is_live}
use Rattle.channel_core.specs.RunLaws.{sent_of}
use Rattle.channel_core.specs.Runs.{Run}
use Rattle.channel_core.specs.declared.states.EndState.{EndState}
use Rattle.channel_core.specs.declared.states.EndState.TheVariants.{Reopening}
use Rattle.channel_core.proofs.Running.{all_free}
use Rattle.channel_laws.specs.Meeting.{IsLasting, Side, run_of}
use Rattle.channel_laws.specs.Rest.{StandsAs, lacks_answer, lacks_hello}
use Rattle.channel_laws.proofs.Rest.AllCalls.{all_stand}
use Rattle.channel_laws.proofs.Rest.Meeting.{readable, said_as}
use Rattle.channel_laws.specs.Hop.{BothOpen, Carries, LiveHopsStand}
use Rattle.channel_laws.proofs.Hop.Closing.{closes_too}
use Rattle.channel_laws.proofs.Hop.Coming.{Way, way}
use Rattle.channel_laws.proofs.Hop.Opening.{hello_comes}
use Rattle.channel_laws.proofs.Hop.Waiting.{somewhere}

both_open : {T U : Type 0} → (is_marked others_are : Bool) (s : Side T) (other : Side U) (falling rising : List Marked) → IsLasting s → IsLasting other → Carries is_marked s other falling
    → Carries others_are other s rising → is_closed (run_of s).end.state ≡ false → is_closed (run_of other).end.state ≡ false → BothOpen is_marked others_are s other
both_open {T = T} {U = U} is_marked others_are s other falling rising l m carries lifts opened open_too = record {
  down = down.hears;
  up = up.hears;
  commands = λ i sent none. somewhere is_marked others_are s other (said_as is_marked (readable other m).spoken) l down up i sent none;
  opening = λ opening. hello_comes is_marked s other m down opening;
  reopening = λ reopening. or_cases (lacks_answer (sent_of r) r.past.taken) (lacks_hello (sent_of r) r.past.taken) (waits_for reopening);
  held = λ live told. all_free s.hello s.mark s.calls (ap (λ state. is_live state && not (int_lt (pos 0) r.end.told)) live ∙ ap not told);
}
  where
    r : Run T
    r = run_of s

    down : Way is_marked s other (said_as is_marked (readable other m).spoken)
    down = way is_marked s other falling l m carries opened

    up : Way others_are other s (said_as others_are (readable s l).spoken)
    up = way others_are other s rising m l lifts open_too

    waits_for : r.end.state ≡ Reopening → (lacks_answer (sent_of r) r.past.taken || lacks_hello (sent_of r) r.past.taken) ≡ true
    waits_for reopening = let P : EndState → Type 0 = λ state. StandsAs state r in (subst P reopening (all_stand s.hello s.mark s.calls)).1

pub all_hops_stand : {T U : Type 0} → LiveHopsStand T U
all_hops_stand is_marked others_are s other falling rising l m carries lifts = record {
  falls = carries;
  rises = lifts;
  first = λ opened. (way is_marked s other falling l m carries opened).hears;
  second = λ opened. (way others_are other s rising m l lifts opened).hears;
  other_closes = λ closed. closes_too is_marked others_are s other falling rising l m carries lifts closed;
  first_closes = λ closed. closes_too others_are is_marked other s rising falling m l lifts carries closed;
  both_open = λ opened open_too. both_open is_marked others_are s other falling rising l m carries lifts opened open_too;
}
