-- The commands that a value-add took from below: they were read, and they are those until it was bound and those since.
use Rattle.std.proofs.Common.{◌≡◌, ℕ, List, [], ◌∷◌, ◌++◌, Option, Result, Ok, refl, sym, ap, ◌∙◌}
use Rattle.std.specs.List.{AllByRecursion, flat_map}
use Rattle.std.proofs.lemmas.List.Concat.{flat_map-append}
use Rattle.tcf_message.specs.Message.{IsWellFormed, MessageValue, command, reading}
use Rattle.tcf_message.specs.declared.message.MessageFault.{MessageFault}
use Rattle.channel_core.specs.Runs.{begun}
use Rattle.channel_core.specs.declared.taking.Taken.{Taken}
use Rattle.channel_core.specs.declared.taking.Taken.TheVariants as taken
use Rattle.value_node.specs.Asked.{Asked}
use Rattle.value_node.specs.OwnLaws.{asked_until}
use Rattle.value_node.specs.RelayLaws.{asked_by, asked_in, asked_since}
use Rattle.value_node.specs.Runs.{Past, below, below_since_bound, below_until_bound, lower_after}
use Rattle.value_node.proofs.OwnReadable.{well_read}
use Rattle.value_node.proofs.Pasts.{after_both, taken_more}
use Rattle.list_laws.proofs.AllLists.{all_append}

-- ---- They were read, so they can be written

abbrev pub IsWritten : Asked → Type 0
IsWritten c = IsWellFormed (command c.token c.service c.name c.body)

asked_in_written : (raw : List ℕ) (mark : Option ℕ) (m : Result MessageValue MessageFault) → reading raw ≡ m → AllByRecursion IsWritten (asked_in mark m)
asked_in_written raw mark (Ok (command token service name body)) is = (well_read raw (command token service name body) is, tt)
asked_in_written raw mark m is = tt

asked_by_written : (what : Taken Unit) → AllByRecursion IsWritten (asked_by what)
asked_by_written (taken.Command incoming) = asked_in_written incoming.raw incoming.mark (reading incoming.raw) refl
asked_by_written what = tt

pub all_written : (entries : List (Taken Unit)) → AllByRecursion IsWritten (flat_map asked_by entries)
all_written [] = tt
all_written (what ∷ entries) = all_append IsWritten (asked_by what) (flat_map asked_by entries) (asked_by_written what) (all_written entries)

-- ---- Those until it was bound, and those since

taken_both : (p : Past) → (below p).past.taken ≡ (below_until_bound p).past.taken ++ (below_since_bound p).past.taken
taken_both p =
    let until = below_until_bound p in
    ap (λ r. r.past.taken) (after_both p.until_bound p.since_bound (lower_after []))
    ∙ taken_more p.since_bound until
    ∙ ap (λ ts. until.past.taken ++ ts) (sym (taken_more p.since_bound (begun until.end)))

pub asked_both : (p : Past) → flat_map asked_by (below p).past.taken ≡ asked_until p ++ asked_since p
asked_both p = ap (flat_map asked_by) (taken_both p) ∙ flat_map-append asked_by (below_until_bound p).past.taken (below_since_bound p).past.taken
