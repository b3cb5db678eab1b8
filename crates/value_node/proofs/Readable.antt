-- What a value-add passes on can be read, and so can what it says above.
use Rattle.std.proofs.Common.{◌≡◌, ℕ, ◌+◌, Bool, true, false, not, List, [], ◌∷◌, ◌++◌, length, lit≤, Option, Some, None, Result, Ok, refl, sym, subst}
use Rattle.std.specs.Prelude.{◌==◌, IfSome, cond, option_map}
use Rattle.std.specs.List.{AllByRecursion, find}
use Rattle.channel_core.specs.Beginning.{tag_of}
use Rattle.channel_core.specs.ReceivingLaws.{SaysReadable, SendsReadable}
use Rattle.channel_core.specs.Runs.{taking}
use Rattle.channel_core.specs.Sending.{refusal_of}
use Rattle.channel_core.specs.Taking.{next_taken}
use Rattle.channel_core.specs.declared.sending.SendRefusal.{SendRefusal}
use Rattle.channel_core.specs.declared.taking.Taken.{Taken}
use Rattle.channel_core.specs.declared.taking.Taken.TheVariants as taken
use Rattle.tcf_message.specs.Message.{IsToken, MessageValue, command, event, final, not_known, progress, reading}
use Rattle.tcf_message.specs.declared.message.MessageFault.{MessageFault}
use Rattle.value_node.specs.ForwardedValue.{ForwardedValue}
use Rattle.value_node.specs.Passing.{Upper}
use Rattle.value_node.specs.Runs.{Call, LowerCall, Past, UpperCall, asked_above, asked_above_in, bound_above, bytes_end, closing_if, closing_in, comes, connects, event_calls, fails, final_calls, gives, only_if, own_by, passing_any, passing_by, passing_from, progress_calls, refusing, stored_for, took_above_above, took_below_above, turns, upper_by, upper_from, upper_on, with_calls}
use Rattle.value_node.specs.Value.{takes_above, takes_below}
use Rattle.value_node.specs.declared.relay.Relay.{Relay}
use Rattle.value_node.specs.declared.states.Bind.{Bind}
use Rattle.value_node.specs.declared.states.Bind.TheVariants.{Unbound, Opening, Bound, Closed}
use Rattle.value_node.specs.declared.states.Side.TheVariants.{Below, Above}
use Rattle.value_node.proofs.Lists.{all_if, all_only, all_stands}
use Rattle.value_node.proofs.OwnReadable.{own_by_reads, well_read}
use Rattle.value_node.proofs.Taken.{GivesAny, next_gives}
use Rattle.list_laws.proofs.AllLists.{all_append, all_left, all_right}

abbrev pub AreTokens : List (ℕ × ForwardedValue) → Type 0
AreTokens rows = AllByRecursion (λ row. IsToken row.1.token) rows

tag_token : (rows : List (ℕ × ForwardedValue)) (number : ℕ) → AreTokens rows → IfSome (tag_of number rows) (λ f. IsToken f.token)
tag_token [] number all = tt
tag_token (row ∷ rows) number all = by_flag (row.0 == number) (tag_token rows number all.1)
  where
    by_flag : (flag : Bool) → IfSome (tag_of number rows) (λ f. IsToken f.token)
        → IfSome (option_map (λ r. r.1) (cond flag (Some row) (find (λ r. r.0 == number) rows))) (λ f. IsToken f.token)
    by_flag true rest = all.0
    by_flag false rest = rest

closing_reads : (T : Type 0) → (bind : Bind) → SendsReadable {T = T} (closing_in bind)
closing_reads T Unbound = tt
closing_reads T Opening = tt
closing_reads T Bound = (tt, tt)
closing_reads T Closed = tt

closing_if_reads : (T : Type 0) → (refusal : Option SendRefusal) → SendsReadable {T = T} (closing_if refusal)
closing_if_reads T None = tt
closing_if_reads T (Some why) = (tt, tt)

event_reads : (raw : List ℕ) (mark : Option ℕ) (m : Result MessageValue MessageFault) → reading raw ≡ m → SendsReadable (event_calls mark m)
event_reads raw mark (Ok (event service name body)) is = (well_read raw (event service name body) is, tt)
event_reads raw mark m is = tt

progress_reads : (raw : List ℕ) (forwarded : Option ForwardedValue) (mark : Option ℕ) (m : Result MessageValue MessageFault) → reading raw ≡ m
    → IfSome forwarded (λ f. IsToken f.token) → SendsReadable (progress_calls forwarded mark m)
progress_reads raw (Some forwarded) mark (Ok (progress token body)) is token_is = ((token_is, (well_read raw (progress token body) is).1), tt)
progress_reads raw forwarded mark m is token_is = tt

final_reads : (raw : List ℕ) (forwarded : ForwardedValue) (mark : Option ℕ) (m : Result MessageValue MessageFault) → reading raw ≡ m
    → IsToken forwarded.token → SendsReadable (final_calls forwarded mark m)
final_reads raw forwarded mark (Ok (final token body)) is token_is = ((token_is, (well_read raw (final token body) is).1), tt)
final_reads raw forwarded mark (Ok (not_known token)) is token_is = ((token_is, lit≤ tt), tt)
final_reads raw forwarded mark m is token_is = tt

any_reads : (rows : List (ℕ × ForwardedValue)) (next : Option (Taken ForwardedValue) × Upper) (bind : Bind) → AreTokens rows → GivesAny rows next
    → SendsReadable (passing_any next bind)
any_reads rows (None, e) bind all given = tt
any_reads rows (Some (taken.Hello incoming), e) bind all given = event_reads incoming.raw incoming.mark (reading incoming.raw) refl
any_reads rows (Some (taken.Command incoming), e) bind all given = tt
any_reads rows (Some (taken.Event incoming), e) bind all given = event_reads incoming.raw incoming.mark (reading incoming.raw) refl
any_reads rows (Some (taken.Progress token incoming), e) bind all given =
    progress_reads incoming.raw (tag_of token e.pending) incoming.mark (reading incoming.raw) refl (tag_token e.pending token (subst AreTokens (sym given.kept) all))
any_reads rows (Some (taken.Final forwarded incoming), e) bind all given =
    final_reads incoming.raw forwarded incoming.mark (reading incoming.raw) refl (all_stands (λ row. IsToken row.1.token) rows (given.number, forwarded) given.there all)
any_reads rows (Some (taken.Closed cause), e) bind all given = closing_reads Unit bind

from_reads : (upper : Option Upper) (bind : Bind) → IfSome upper (λ e. AreTokens e.pending) → SendsReadable (passing_from upper bind)
from_reads None bind all = tt
from_reads (Some e) bind all = any_reads e.pending (next_taken e) bind all (next_gives e)

passing_reads : (call : Call) (v : Relay) → IfSome v.upper (λ e. AreTokens e.pending) → SendsReadable (passing_by call v)
passing_reads (turns Above) v all = all_if SaysReadable (takes_above v.bind) (passing_from v.upper v.bind) (from_reads v.upper v.bind all)
passing_reads call v all = tt

below_reads : (flag : Bool) (until since own pass : List LowerCall) → SendsReadable (until ++ since) → SendsReadable own → SendsReadable pass
    → SendsReadable ((until ++ only_if (not flag) own) ++ (since ++ (only_if flag own ++ pass)))
below_reads flag until since own pass all mine on =
    let first = only_if (not flag) own in
    let second = only_if flag own in
    all_append SaysReadable (until ++ first) (since ++ (second ++ pass))
    (all_append SaysReadable until first (all_left SaysReadable until since all) (all_only SaysReadable (not flag) own mine))
    (all_append SaysReadable since (second ++ pass) (all_right SaysReadable until since all) (all_append SaysReadable second pass (all_only SaysReadable flag own mine) on))

abbrev ReadsBelow : Past → Type 0
ReadsBelow p = SendsReadable (p.until_bound ++ p.since_bound)

pub below_readable_more : (call : Call) (v after : Relay) (p : Past) → IfSome v.redirect IsToken → IfSome v.upper (λ e. AreTokens e.pending)
    → ReadsBelow p → ReadsBelow (with_calls call v after p)
below_readable_more call v after p is tokens all =
    below_reads p.is_bound p.until_bound p.since_bound (own_by call v) (passing_by call v) all
    (own_by_reads call v is) (passing_reads call v tokens)

-- ---- to the upper end it sends only commands, and refusals of those that come from there

refusing_reads : (raw : List ℕ) (m : Result MessageValue MessageFault) → reading raw ≡ m → SendsReadable (refusing m)
refusing_reads raw (Ok (command token service name body)) is = (((well_read raw (command token service name body) is).0.0, lit≤ tt), tt)
refusing_reads raw m is = tt

bound_reads : (reply : Option (List ℕ)) (token service name body : List ℕ) (mark : Option ℕ) (e : Upper) → SendsReadable (bound_above reply token service name body mark e)
bound_reads None token service name body mark e = (tt, closing_if_reads ForwardedValue (refusal_of (length service + length name + length body) e))
bound_reads (Some reply) token service name body mark e = tt

asked_in_reads : (bind : Bind) (token service name body : List ℕ) (mark : Option ℕ) (v : Relay) (e : Upper) → SendsReadable (asked_above_in bind token service name body mark v e)
asked_in_reads Bound token service name body mark v e = bound_reads (stored_for service name body v) token service name body mark e
asked_in_reads bind token service name body mark v e = tt

asked_reads : (m : Result MessageValue MessageFault) (mark : Option ℕ) (v : Relay) (e : Upper) → SendsReadable (asked_above m mark v e)
asked_reads (Ok (command token service name body)) mark v e = asked_in_reads v.bind token service name body mark v e
asked_reads m mark v e = tt

taken_below_reads : (what : Option (Taken Unit)) (v : Relay) (e : Upper) → SendsReadable (took_below_above what v e)
taken_below_reads (Some (taken.Command incoming)) v e = asked_reads (reading incoming.raw) incoming.mark v e
taken_below_reads (Some (taken.Closed cause)) v e = (tt, tt)
taken_below_reads what v e = tt

taken_above_reads : (what : Option (Taken ForwardedValue)) (bind : Bind) → SendsReadable (took_above_above what bind)
taken_above_reads (Some (taken.Command incoming)) bind = refusing_reads incoming.raw (reading incoming.raw) refl
taken_above_reads (Some (taken.Closed cause)) bind = closing_reads ForwardedValue bind
taken_above_reads what bind = tt

upper_on_reads : (call : Call) (v : Relay) (e : Upper) → SendsReadable (upper_on call v e)
upper_on_reads (comes Below piece mark) v e = tt
upper_on_reads (comes Above piece mark) v e = (tt, tt)
upper_on_reads (bytes_end Below) v e = tt
upper_on_reads (bytes_end Above) v e = (tt, tt)
upper_on_reads (turns Below) v e =
    all_if SaysReadable (takes_below v.bind v.upper) (took_below_above (next_taken v.lower).0 v e) (taken_below_reads (next_taken v.lower).0 v e)
upper_on_reads (turns Above) v e =
    all_if SaysReadable (takes_above v.bind) (taking ∷ took_above_above (next_taken e).0 v.bind) (tt, taken_above_reads (next_taken e).0 v.bind)
upper_on_reads connects v e = tt
upper_on_reads fails v e = tt
upper_on_reads (gives Below) v e = tt
upper_on_reads (gives Above) v e = (tt, tt)

upper_reads : (call : Call) (v : Relay) (upper : Option Upper) → SendsReadable (upper_from call v upper)
upper_reads call v None = tt
upper_reads call v (Some e) = upper_on_reads call v e

connection_reads : (call : Call) (v : Relay) (connection : Option (List UpperCall)) → IfSome connection SendsReadable
    → IfSome (option_map (λ calls. calls ++ upper_by call v) connection) SendsReadable
connection_reads call v None all = tt
connection_reads call v (Some calls) all = all_append SaysReadable calls (upper_by call v) all (upper_reads call v v.upper)

abbrev ReadsAbove : Past → Type 0
ReadsAbove p = IfSome p.connection SendsReadable

pub above_readable_more : (call : Call) (v after : Relay) (p : Past) → ReadsAbove p → ReadsAbove (with_calls call v after p)
above_readable_more call v after p all = connection_reads call v p.connection all
