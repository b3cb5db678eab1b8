-- An end has a last entry only for what came to it, or since its bytes have ended.
use Rattle.std.proofs.Common.{◌≡◌, List, [], ◌∷◌, refl, sym, ap, subst}
use Rattle.channel_core.specs.Beginning.{new_end}
use Rattle.channel_core.specs.Closing.{is_closed}
use Rattle.channel_core.specs.RunLaws.{AfterAllCalls}
use Rattle.channel_core.specs.Runs.{Call, Run, after_call, after_calls, begun, closing, commanding, delivering, draining, ending, putting_out, sending, taking}
use Rattle.channel_core.specs.declared.states.Cause.{Cause}
use Rattle.channel_core.specs.declared.states.Cause.TheVariants.{Ended, Eos, Own, Protocol, Stream}
use Rattle.channel_core.specs.declared.states.Reason.TheVariants.{Early, Grammar, Token}
use Rattle.channel_core.specs.declared.taking.Taken.{Taken}
use Rattle.channel_core.proofs.Faces.{Change, breaks, closed_change, closes, ended_change, ends, Face, face, finishes, stays, taken_change, takes}
use Rattle.channel_core.proofs.Keeping.{IsTidy}
use Rattle.channel_core.proofs.Tidy.{tidy_called, tidy_open}
use Rattle.channel_laws.proofs.Faults.Following.{AreFine, StopIs, alike, command_came, either, piece_came}
use Rattle.channel_core.specs.Sending.{refusal_to}

-- the causes of a last entry
abbrev pub IsLast : Cause → Type 0
IsLast Own = ⊥
IsLast Eos = Unit {0}
IsLast Ended = Unit {0}
IsLast (Protocol message (Grammar fault)) = Unit {0}
IsLast (Protocol message Early) = ⊥
IsLast (Protocol message Token) = ⊥
IsLast (Stream fault) = Unit {0}

of_what_comes : AreFine IsLast
of_what_comes = record { grammar = λ number fault. tt; eos = tt; stream = λ fault. tt }

stops_alike : (f g : Face) → g.stop ≡ f.stop → StopIs IsLast f.stop → StopIs IsLast g.stop
stops_alike f g is s = subst (StopIs IsLast) (sym is) s

stop_change : {T : Type 0} → (taken after : List (Taken T)) (f g : Face) → Change taken f after g → StopIs IsLast f.stop → StopIs IsLast g.stop
stop_change taken after f g (stays taken_is face_is) s = stops_alike f g (ap (λ (x : Face). x.stop) face_is) s
stop_change taken after f g (ends none opened taken_is face_is) s = subst (StopIs IsLast) (sym (ap (λ (x : Face). x.stop) face_is)) tt
stop_change taken after f g (takes t incoming waiting is one taken_is face_is) s = stops_alike f g (ap (λ (x : Face). x.stop) face_is) s
stop_change taken after f g (closes cause opened itself taken_is face_is) s = subst (StopIs IsLast) (sym (ap (λ (x : Face). x.stop) face_is)) tt
stop_change taken after f g (breaks cause opened itself taken_is face_is) s = subst (StopIs IsLast) (sym (ap (λ (x : Face). x.stop) face_is)) tt
stop_change taken after f g (finishes cause opened empty is taken_is face_is) s = subst (StopIs IsLast) (sym (ap (λ (x : Face). x.stop) face_is)) tt

abbrev StopsSo : {T : Type 0} → Run T → Type 0
StopsSo r = StopIs IsLast r.end.stop

stop_called : {T : Type 0} → (call : Call T) (r : Run T) → IsTidy r.end → StopsSo r → StopsSo (after_call call r)
stop_called (delivering piece mark) r tidy s = (piece_came IsLast of_what_comes piece mark r.end).stop s
stop_called ending r tidy s = stop_change r.past.taken r.past.taken (face r.end) _ (ended_change r.past.taken r.end) s
stop_called taking r tidy s = stop_change r.past.taken _ (face r.end) _ (taken_change r.past.taken r.end tidy) s
stop_called (commanding service name body tag mark) r tidy s = (command_came IsLast (refusal_to service name body r.end) service name body tag mark r.end).stop s
stop_called (sending message mark) r tidy s = (either IsLast (is_closed r.end.state) r.end r.end _ (alike IsLast r.end r.end refl refl) (alike IsLast r.end _ refl refl)).stop s
stop_called putting_out r tidy s = s
stop_called closing r tidy s = stop_change r.past.taken r.past.taken (face r.end) _ (closed_change r.past.taken r.end) s
stop_called draining r tidy s = (either IsLast (is_closed r.end.state) r.end _ r.end (alike IsLast r.end _ refl refl) (alike IsLast r.end r.end refl refl)).stop s

stop_after : {T : Type 0} → (calls : List (Call T)) (r : Run T) → IsTidy r.end → StopsSo r → StopsSo (after_calls calls r)
stop_after [] r tidy s = s
stop_after (call ∷ calls) r tidy s = stop_after calls (after_call call r) (tidy_called call r.end tidy) (stop_called call r tidy s)

pub all_stop_so : {T : Type 0} → AfterAllCalls {T = T} (λ r. StopIs IsLast r.end.stop)
all_stop_so {T = T} hello mark calls = stop_after calls (begun (new_end {T = T} hello mark)) (tidy_open (new_end hello mark) refl) tt
