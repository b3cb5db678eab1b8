-- The channel of a number, until all that its end queued is given out.
use Rattle.std.proofs.Common.{◌≡◌, ℕ, ◌==◌, Bool, true, false, cond, List, [], ◌∷◌, drop, Option, Some, None, refl, sym, ap, ◌∙◌}
use Rattle.channel_core.specs.EndValue.{unless_spent}
use Rattle.channel_core.specs.declared.held.Outgoing.{Outgoing}
use Rattle.agent_node.specs.Channels.{End, with_end}
use Rattle.channel_list.specs.declared.channel.Channel.{Channel}
use Rattle.chain_world.specs.Chain.{emptied}
use Rattle.chain_world.proofs.Queued.{first_same, first_twice, found_changed, in_first, mapped}
use Rattle.agent_node.proofs.Places.{found}

unchanged : (k : ℕ) (f : End → End) (cs : List Channel) → ((c : Channel) → found k cs ≡ Some c → f c.end ≡ c.end) → in_first k f cs ≡ cs
unchanged k f [] leaves = refl
unchanged k f (c ∷ cs) leaves = by_flag (c.number == k) leaves (unchanged k f cs)
  where
    by_flag : (flag : Bool) → ((d : Channel) → cond flag (Some c) (found k cs) ≡ Some d → f d.end ≡ d.end) → (((d : Channel) → found k cs ≡ Some d → f d.end ≡ d.end) → in_first k f cs ≡ cs)
        → cond flag (with_end (f c.end) c ∷ cs) (c ∷ in_first k f cs) ≡ c ∷ cs
    by_flag true same rest = ap (λ e. with_end e c ∷ cs) (same c refl)
    by_flag false same rest = ap (λ xs. c ∷ xs) (rest same)

abbrev pub put : End → End
put e = unless_spent e e (record e { queued = drop 1 e.queued })

-- this is what the channel's end queued
abbrev pub IsQueue : ℕ → List Outgoing → List Channel → Type 0
IsQueue k queue cs = (c : Channel) → found k cs ≡ Some c → (c.end.is_spent ≡ false) × (c.end.queued ≡ queue)

abbrev pub puts : ℕ → List Outgoing → List Channel → List Channel
puts k [] cs = cs
puts k (o ∷ queue) cs = puts k queue (in_first k put cs)

queue_next : (k : ℕ) (o : Outgoing) (queue : List Outgoing) (cs : List Channel) → IsQueue k (o ∷ queue) cs → IsQueue k queue (in_first k put cs)
queue_next k o queue cs is c there = by_found (found k cs) refl (sym (found_changed k put cs) ∙ there)
  where
    by_found : (one : Option Channel) → found k cs ≡ one → mapped put one ≡ Some c → (c.end.is_spent ≡ false) × (c.end.queued ≡ queue)
    by_found None here same = absurd cc
    by_found (Some d) here same =
        let now : with_end (put d.end) d ≡ c = cc in
        let facts = is d here in
        let gave : put d.end ≡ record d.end { queued = drop 1 d.end.queued } = ap (λ b. cond b d.end (record d.end { queued = drop 1 d.end.queued })) facts.0 in
        let ends : c.end ≡ record d.end { queued = drop 1 d.end.queued } = ap (λ x. x.end) (sym now) ∙ gave in
        (ap (λ e. e.is_spent) ends ∙ facts.0, ap (λ e. e.queued) ends ∙ ap (drop 1) facts.1)

emptied_put : (e : End) → emptied (put e) ≡ emptied e
emptied_put e = by_flag e.is_spent refl
  where
    by_flag : (flag : Bool) → e.is_spent ≡ flag → emptied (put e) ≡ emptied e
    by_flag true is = rw is refl
    by_flag false is = rw is refl

pub emptied_by : (k : ℕ) (queue : List Outgoing) (cs : List Channel) → IsQueue k queue cs → puts k queue cs ≡ in_first k emptied cs
emptied_by k [] cs is =
    sym (unchanged k emptied cs (λ c there. let facts = is c there in
    ap (λ b. cond b c.end (record c.end { queued = [] })) facts.0 ∙ ap (λ os. record c.end { queued = os }) (sym facts.1)))
emptied_by k (o ∷ queue) cs is =
    emptied_by k queue (in_first k put cs) (queue_next k o queue cs is) ∙ first_twice k put emptied cs ∙ first_same k (λ e. emptied (put e)) emptied emptied_put cs
