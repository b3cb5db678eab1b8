-- The steps of a file that is read can be played, and what holds after every schedule holds of it.
use Rattle.std.proofs.Common.{ℕ, suc, true, false, cond, List, [], ◌∷◌, Bool, Result, Ok, Err, ◌≡◌, refl, sym, subst}
use Rattle.std.specs.Prelude.{bytes_eq}
use Rattle.std.specs.List.{AllByRecursion}
use Rattle.chain_world.specs.World.{IsPlayable, IsSingle, adds_of, images_of}
use Rattle.command_tables.specs.Canonical.{AreBytes}
use Rattle.hex.specs.Hex.{IsBytes, decode_of}
use Rattle.hex.specs.declared.error.FromHexError.{FromHexError}
use Rattle.hex.proofs.HexLemmas.{decode_of-ok}
use Rattle.target_truth.specs.Typed.{AreTyped}
use Rattle.tcf_schedules.specs.Line.{LineHead, chain, image}
use Rattle.tcf_schedules.specs.Plan.{IsSingle as IsSingleStep, IsStep, Plan, cached, close, cut, deliver, opens, rounds, send, tick, times, turn}
use Rattle.tcf_schedules.specs.Schedule.{ScheduleValue, images_in, schedule_of}
use Rattle.tcf_schedules.specs.Words.{bytes_of, bytes_or_none, dash_word}
use Rattle.tcf_schedules.specs.declared.schedule.ChainHead.{ChainHead}
use Rattle.tcf_schedules.specs.declared.schedule.NamedImage.{NamedImage}
use Rattle.world_laws.specs.Playing.{CoherentOfEveryFile, EndsOfEveryFile, FreshOfEveryFile, HoldsOfEveryFile, ReadIsPlayable, StepsOfEveryFile, UnstuckOfEveryFile}
use Rattle.tcf_schedules.proofs.TheLaws.{reads_what_is_said, reads_within}
use Rattle.world_laws.proofs.Ends.{ends_rightly}
use Rattle.world_laws.proofs.Faithful.{coherent, faithful, fresh, unstuck}
use Rattle.world_laws.proofs.StepLines.{log_says_steps}

-- ---- The steps

single : (plan : Plan) → IsSingleStep plan → IsSingle plan
single (opens at) ok = tt
single (send at service name body) ok = tt
single (deliver at hop up count) ok = tt
single (turn at node up) ok = tt
single (tick thread) ok = tt
single (close at) ok = tt
single (cut at hop) ok = tt
single (cached at what) ok = tt
single (rounds count) ok = ok
single (times count plan) ok = ok

step : (chains : List ChainHead) (plan : Plan) → IsStep chains plan → IsPlayable plan
step chains (opens at) ok = tt
step chains (send at service name body) ok = (ok.1, ok.2)
step chains (deliver at hop up count) ok = tt
step chains (turn at node up) ok = tt
step chains (tick thread) ok = tt
step chains (close at) ok = tt
step chains (cut at hop) ok = tt
step chains (cached at what) ok = ok.1
step chains (rounds count) ok = tt
step chains (times count plan) ok = (single plan ok.2, step chains plan ok.3)

steps : (chains : List ChainHead) (plans : List Plan) → AllByRecursion (IsStep chains) plans → AllByRecursion IsPlayable plans
steps chains [] ok = tt
steps chains (plan ∷ plans) ok = (step chains plan ok.0, steps chains plans ok.1)

pub read_playable : ReadIsPlayable
read_playable file s said = steps s.chains s.plans (reads_within file s said).0

-- ---- The images: their bytes are below 256

each_below : (bytes : List ℕ) → IsBytes bytes → AreBytes bytes
each_below [] are = tt
each_below (b ∷ bs) are = (are 0, each_below bs (λ i. are (suc i)))

decoded : (digits : List ℕ) (read : Result (List ℕ) FromHexError) → decode_of digits ≡ read → AreBytes (bytes_or_none read)
decoded digits (Ok bytes) is = each_below bytes (decode_of-ok digits bytes is).3
decoded digits (Err fault) is = tt

digits_typed : (digits : List ℕ) → AreBytes (bytes_of digits)
digits_typed digits = by_flag (bytes_eq digits dash_word)
  where
    by_flag : (flag : Bool) → AreBytes (cond flag [] (bytes_or_none (decode_of digits)))
    by_flag true = tt
    by_flag false = decoded digits (decode_of digits) refl

heads_typed : (heads : List LineHead) → AreTyped (images_of (images_in heads))
heads_typed [] = tt
heads_typed (image name digits ∷ heads) = (digits_typed digits, heads_typed heads)
heads_typed (chain name adds ∷ heads) = heads_typed heads

-- ---- A file

pub file_faithful : HoldsOfEveryFile
file_faithful file s read = faithful (images_of s.images) (adds_of s.chains) s.plans (read_playable file s read)

pub file_ends : EndsOfEveryFile
file_ends file s read = ends_rightly (images_of s.images) (adds_of s.chains) s.plans (read_playable file s read)

pub file_steps : StepsOfEveryFile
file_steps file s read = log_says_steps (images_of s.images) (adds_of s.chains) s.plans (read_playable file s read)

file_typed : (file : List ℕ) (s : ScheduleValue) → schedule_of file ≡ Ok s → AreTyped (images_of s.images)
file_typed file s read =
    let accepts = (reads_what_is_said file s).0 read in
    subst (λ (images : List NamedImage). AreTyped (images_of images)) (sym accepts.images) (heads_typed accepts.heads)

pub file_coherent : CoherentOfEveryFile
file_coherent file s read = coherent (images_of s.images) (adds_of s.chains) s.plans (file_typed file s read) (read_playable file s read)

pub file_fresh : FreshOfEveryFile
file_fresh file s read = fresh (images_of s.images) (adds_of s.chains) s.plans (file_typed file s read) (read_playable file s read)

pub file_unstuck : UnstuckOfEveryFile
file_unstuck file s read = unstuck (images_of s.images) (adds_of s.chains) s.plans (read_playable file s read)
