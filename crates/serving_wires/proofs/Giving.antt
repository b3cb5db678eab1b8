-- A flush gives no channel a number.
use Rattle.std.proofs.Common.{◌≡◌, ℕ, Bool, true, false, List, [], ◌∷◌, ◌++◌, refl, sym, ap, ◌∙◌}
use Rattle.std.specs.Prelude.{if◌then◌else◌}
use Rattle.tcf_wires.specs.Told.{WiresSeen, unused_through}
use Rattle.tcf_wires.specs.declared.call.WireCall.{WireCall}
use Rattle.tcf_wires.specs.declared.call.WireCall.TheVariants.{Shut}
use Rattle.serving_wires.specs.Calls.{Makes}
use Rattle.serving_wires.specs.Flushing.{FlushesAll, FlushesKept, HasOutbox, no_rows, one_more}
use Rattle.serving_wires.specs.Outbox.{Flushes, Puts, is_due, lost, none, taken}
use Rattle.serving_wires.specs.OutboxValue.{OutboxValue}
use Rattle.serving_wires.specs.Row.{Row}
use Rattle.serving_wires.proofs.Making.{unused_both}

abbrev GivesNone : List WireCall → Type 0
GivesNone calls = (unused : ℕ) → unused_through calls unused ≡ unused

gives_so : (calls now : List WireCall) → now ≡ calls → GivesNone calls → GivesNone now
gives_so calls now is gives = λ unused. ap (λ (cs : List WireCall). unused_through cs unused) is ∙ gives unused

gives_both : (first rest : List WireCall) → GivesNone first → GivesNone rest → GivesNone (first ++ rest)
gives_both first rest one two = λ unused.
    sym (unused_both first rest unused) ∙ (ap (λ (n : ℕ). unused_through rest n) (one unused) ∙ two unused)

put_gives : (old new : OutboxValue) (calls : List WireCall) → Puts old new calls → GivesNone calls
put_gives old new calls (none empty same is) = gives_so [] calls is (λ unused. refl)
put_gives old new calls (taken count some within same is) = gives_so _ calls is (λ unused. refl)
put_gives old new calls (lost some same is) = gives_so _ calls is (λ unused. refl)

shut_gives : (due : Bool) (channel : ℕ) → GivesNone (if due then Shut channel ∷ [] else [])
shut_gives true channel = λ unused. refl
shut_gives false channel = λ unused. refl

flush_gives : (old new : OutboxValue) (calls : List WireCall) → Flushes old new calls → GivesNone calls
flush_gives old new calls f =
    gives_so (f.puts ++ f.shuts) calls f.called
    (gives_both f.puts f.shuts (put_gives old f.mid f.puts f.put) (gives_so _ f.shuts f.shut.called (shut_gives (is_due f.mid) f.mid.channel)))

all_give : {T : Type 0} → (has : HasOutbox T) (olds news : List (Row T)) (calls : List WireCall) → FlushesAll has olds news calls → GivesNone calls
all_give has olds news calls no_rows = λ unused. refl
all_give has olds news calls (one_more row outbox olds2 news2 first rest flush flushes) =
    gives_both first rest (flush_gives (has.outbox row.item) outbox first flush) (all_give has olds2 news2 rest flushes)

pub none_given : {T : Type 0} → (has : HasOutbox T) (olds news : List (Row T)) (before after : WiresSeen) → Makes (FlushesKept has olds news) before after → after.unused ≡ before.unused
none_given has olds news before after m =
    ap (λ (s : WiresSeen). s.unused) m.seen ∙ all_give has olds m.fits.flushed m.calls m.fits.flushes before.unused
