-- What a value-add does since it was bound is said below, and each progress and each answer that was taken names a command.
use Rattle.std.proofs.Common.{◌≡◌, ◌≤◌, ◌<◌, inl, inr, ℕ, ◌+◌, Bool, true, false, not, List, [], ◌∷◌, ◌++◌, length, length-append, Option, Some, None, refl, ap, sym, ◌∙◌, subst, arith}
use Rattle.std.specs.Prelude.{IfSome, if◌then◌else◌, unwrap_or}
use Rattle.std.specs.List.{AllByRecursion, flat_map}
use Rattle.std.proofs.lemmas.List.{append-nil}
use Rattle.channel_core.specs.Closing.{is_closed}
use Rattle.channel_core.specs.Laws.{listed}
use Rattle.channel_core.specs.QueueLaws.{sent_in}
use Rattle.channel_core.specs.ReceivingLaws.{incoming_of}
use Rattle.channel_core.specs.Runs.{Issued}
use Rattle.channel_core.specs.Taking.{next_taken}
use Rattle.channel_core.specs.declared.taking.Taken.{Taken}
use Rattle.channel_core.specs.declared.taking.Taken.TheVariants as taken
use Rattle.tcf_message.specs.Message.{IsToken}
use Rattle.value_node.specs.Asked.{Asked}
use Rattle.value_node.specs.Deeds.{Deed, asked_in as commands_in, deeds_by, sent_in as forwarded_in}
use Rattle.value_node.specs.ForwardedValue.{ForwardedValue}
use Rattle.value_node.specs.Passing.{Lower, Upper}
use Rattle.value_node.specs.RelayLaws.{StandsWell, told_from}
use Rattle.value_node.specs.Runs.{Call, LowerCall, Past, above, below_since_bound, below_until_bound, bytes_end, comes, connects, fails, gives, lower_after, next_above, only_if, own_by, passing_by, turns, upper_by, with_calls}
use Rattle.value_node.specs.Value.{takes_above, value_services}
use Rattle.value_node.specs.declared.relay.Relay.{Relay}
use Rattle.value_node.specs.declared.states.Bind.{Bind}
use Rattle.value_node.specs.declared.states.Bind.TheVariants.{Unbound, Opening, Bound, Closed}
use Rattle.value_node.specs.declared.states.Side.TheVariants.{Below, Above}
use Rattle.channel_core.proofs.TheLaws.{counts_answers}
use Rattle.value_node.proofs.DeedLists.{all_sent, heard_tells, told_both}
use Rattle.value_node.proofs.Holding.{Holds, IsNamed, above_accepted}
use Rattle.value_node.proofs.HoldsEnds.{lower_facts}
use Rattle.value_node.proofs.HoldsHeard.{hears_is}
use Rattle.value_node.proofs.HoldsHello.{not_binding, others_idle, others_pass, turn_or_not}
use Rattle.value_node.proofs.OwnSilence.{IsPast, below_sends, own_silent, stands_open, stands_past}
use Rattle.value_node.proofs.PassedOn.{pass_sends, passed_on}
use Rattle.value_node.proofs.Pasts.{accepted_in, after_both, sent_both}
use Rattle.value_node.proofs.Readable.{AreTokens}
use Rattle.value_node.proofs.Steps.{end_ran, ran}
use Rattle.value_node.proofs.Taken.{Gives, GivesAny, Stands, next_gives}
use Rattle.value_node.proofs.TakenAbove.{above_taken, entries_from}
use Rattle.value_node.proofs.TokensBelow.{IsIssued, accepted_rows, asked_tokens, pending_rows, upper_rows}
use Rattle.list_laws.proofs.AllLists.{all_append, all_right, all_then}

-- ---- all is passed on

passed_flag : (flag : Bool) (until since own pass : List LowerCall) (lower : Lower) (deeds now : List Deed) → lower ≡ ran since (lower_after until).end
    → (flag ≡ false → since ≡ []) → (flag ≡ false → deeds ≡ []) → sent_in since (lower_after until).end ≡ told_from [] deeds
    → (flag ≡ true → sent_in own lower ++ sent_in pass (ran own lower) ≡ told_from (forwarded_in deeds) now)
    → (flag ≡ false → sent_in pass (ran own lower) ≡ told_from (forwarded_in deeds) now)
    → sent_in (since ++ (only_if flag own ++ pass)) (lower_after (until ++ only_if (not flag) own)).end ≡ told_from [] (deeds ++ now)
passed_flag true until since own pass lower deeds now lower_is unbound idle passed sends first =
    let e : Lower = (lower_after until).end in
    ap (λ calls. sent_in (since ++ (own ++ pass)) (lower_after calls).end) (append-nil until) ∙ sent_both since (own ++ pass) e
    ∙ ap (λ x. sent_in since e ++ sent_in (own ++ pass) x) (sym lower_is)
    ∙ ap (λ os. sent_in since e ++ os) (sent_both own pass lower ∙ sends refl)
    ∙ ap (λ os. os ++ told_from (forwarded_in deeds) now) passed ∙ sym (told_both deeds now)
passed_flag false until since own pass lower deeds now lower_is unbound idle passed sends first =
    let e : Lower = (lower_after until).end in
    let none = unbound refl in
    let same : lower ≡ e = lower_is ∙ ap (λ calls. ran calls e) none in
    let last : (lower_after (until ++ own)).end ≡ ran own lower =
    ap (λ r. r.end) (after_both until own (lower_after [])) ∙ end_ran own (lower_after until) ∙ ap (ran own) (sym same) in
    ap (λ calls. sent_in (calls ++ pass) (lower_after (until ++ own)).end) none ∙ ap (sent_in pass) last ∙ first refl
    ∙ ap (λ ds. told_from (forwarded_in ds) now) (idle refl) ∙ sym (ap (λ ds. told_from [] (ds ++ now)) (idle refl))

module _ (call : Call) (v : Relay) (p : Past) (h : Holds v p) where
  abbrev sent_count : ℕ
  sent_count = length (above p).past.accepted

  -- the rows of the upper end
  pub end_rows : AllByRecursion (IsIssued 1 sent_count (forwarded_in h.deeds)) (above p).end.pending
  end_rows =
      let IsAsked : Asked → Type 0 = λ c. IsToken c.token in
      let asked_all : AllByRecursion IsAsked (commands_in h.deeds) = subst (AllByRecursion IsAsked) h.asked (asked_tokens (below_since_bound p).past.taken) in
      pending_rows (IsIssued 1 sent_count (forwarded_in h.deeds)) (above p) (counts_answers value_services None (unwrap_or p.connection []))
      (accepted_rows (above p).past.accepted (forwarded_in h.deeds) v.bind h.accepted h.few (all_sent IsAsked h.deeds asked_all))

  pub rows_now : IfSome v.upper (λ e. AllByRecursion (IsIssued 1 sent_count (forwarded_in h.deeds)) e.pending)
  rows_now = upper_rows (IsIssued 1 sent_count (forwarded_in h.deeds)) v.upper p.connection h.upper end_rows

  token_rows : (upper : Option Upper) → IfSome upper (λ e. AllByRecursion (IsIssued 1 sent_count (forwarded_in h.deeds)) e.pending) → IfSome upper (λ e. AreTokens e.pending)
  token_rows None all = tt
  token_rows (Some e) all = all_then (IsIssued 1 sent_count (forwarded_in h.deeds)) (λ row. IsToken row.1.token) (λ row i. i.token) e.pending all

  -- what is kept of the commands above are tokens
  pub upper_tokens : IfSome v.upper (λ e. AreTokens e.pending)
  upper_tokens = token_rows v.upper rows_now

  -- what is passed on
  passing_told : sent_in (passing_by call v) (ran (own_by call v) v.lower) ≡ passed_on (forwarded_in h.deeds) (entries_from call v v.upper)
  passing_told = pass_sends call v (forwarded_in h.deeds) sent_count (stands_open v.bind v p h.stands) rows_now

-- with each call what it does is said
abbrev Tells : Call → Relay → List Asked → Type 0
Tells call v commands = sent_in (passing_by call v) (ran (own_by call v) v.lower) ≡ told_from commands (deeds_by call v)

turn_tells : (v : Relay) (p : Past) (h : Holds v p) → Tells (turns Above) v (forwarded_in h.deeds)
turn_tells v p h =
    let commands = forwarded_in h.deeds in
    let messages = flat_map incoming_of (entries_from (turns Above) v v.upper) in
    passing_told (turns Above) v p h ∙ sym (heard_tells commands messages) ∙ ap (told_from commands) (sym (hears_is v p h))

-- of one that isn't bound
first_tells : (call : Call) (v : Relay) (p : Past) (h : Holds v p) → p.is_bound ≡ false → Tells call v (forwarded_in h.deeds)
first_tells call v p h off =
    elim (turn_or_not call) as (λ _. Tells call v (forwarded_in h.deeds)) [
      | inl is ↦ subst (λ c. Tells c v (forwarded_in h.deeds)) (sym is) (turn_tells v p h)
      | inr other ↦ ap (λ calls. sent_in calls (ran (own_by call v) v.lower)) (others_pass call v other)
          ∙ ap (told_from (forwarded_in h.deeds)) (sym (others_idle call v other (not_binding v.bind v p h.stands off)))
    ]

abbrev TellsAll : Call → Relay → List Asked → Type 0
TellsAll call v commands = sent_in (own_by call v) v.lower ++ sent_in (passing_by call v) (ran (own_by call v) v.lower) ≡ told_from commands (deeds_by call v)

below_tells : (v : Relay) (p : Past) (h : Holds v p) → IsPast v.bind → TellsAll (turns Below) v (forwarded_in h.deeds)
below_tells v p h past =
    append-nil (sent_in (own_by (turns Below) v) v.lower)
    ∙ below_sends v.store v.peer v.bind v.lower v.upper v.redirect (forwarded_in h.deeds) past (λ bound. (lower_facts v p h).by_taking (stands_live v.bind v p h.stands bound))
  where
    stands_live : (bind : Bind) (v : Relay) (p : Past) → StandsWell bind v p → bind ≡ Bound → is_closed v.lower.state ≡ false
    stands_live Unbound v p stands is = absurd cc
    stands_live Opening v p stands is = absurd cc
    stands_live Bound v p stands is = stands.0
    stands_live Closed v p stands is = absurd cc

above_tells : (v : Relay) (p : Past) (h : Holds v p) → IsPast v.bind → TellsAll (turns Above) v (forwarded_in h.deeds)
above_tells v p h past =
    ap (λ os. os ++ sent_in (passing_by (turns Above) v) (ran (own_by (turns Above) v) v.lower)) (own_silent (turns Above) v (λ is. absurd cc) past) ∙ turn_tells v p h

-- of one that is bound
bound_tells : (call : Call) (v : Relay) (p : Past) (h : Holds v p) → IsPast v.bind → TellsAll call v (forwarded_in h.deeds)
bound_tells (comes Below piece mark) v p h past = refl
bound_tells (comes Above piece mark) v p h past = refl
bound_tells (bytes_end Below) v p h past = refl
bound_tells (bytes_end Above) v p h past = refl
bound_tells (turns Below) v p h past = below_tells v p h past
bound_tells (turns Above) v p h past = above_tells v p h past
bound_tells connects v p h past = refl
bound_tells fails v p h past = ap (λ os. os ++ []) (own_silent fails v (λ is. absurd cc) past)
bound_tells (gives Below) v p h past = refl
bound_tells (gives Above) v p h past = refl

pub passed_more : (call : Call) (v after : Relay) (p : Past) (h : Holds v p)
    → sent_in (with_calls call v after p).since_bound (below_until_bound (with_calls call v after p)).end ≡ told_from [] (h.deeds ++ deeds_by call v)
passed_more call v after p h =
    let lower_is : v.lower ≡ ran p.since_bound (lower_after p.until_bound).end =
    h.lower ∙ ap (λ r. r.end) (after_both p.until_bound p.since_bound (lower_after [])) ∙ end_ran p.since_bound (lower_after p.until_bound) in
    passed_flag p.is_bound p.until_bound p.since_bound (own_by call v) (passing_by call v) v.lower h.deeds (deeds_by call v) lower_is h.unbound h.idle h.passed
    (λ on. bound_tells call v p h (stands_past v.bind v p h.stands on)) (first_tells call v p h)

-- ---- each progress and each answer that was taken names a command

named_more : (m n : ℕ) → m ≤ n → (what : Taken ForwardedValue) → IsNamed m what → IsNamed n what
named_more m n less (taken.Hello incoming) named = named
named_more m n less (taken.Command incoming) named = named
named_more m n less (taken.Event incoming) named = named
named_more m n less (taken.Progress token incoming) named = let high : token ≤ m = named.1 in
    let most : token ≤ n = omega arith in (named.0, most, named.2)
named_more m n less (taken.Final tag incoming) named =
    let token = named.0 in
    let high : token ≤ m = named.2 in
    let most : token ≤ n = omega arith in (token, named.1, most, named.3)
named_more m n less (taken.Closed cause) named = named

-- a row that was issued is one of so many
issued_high : (count : ℕ) (commands : List Asked) (row : ℕ × ForwardedValue) → IsIssued 1 count commands row → row.0 ≤ count
issued_high count commands row i = let high : row.0 < 1 + count = i.high in omega arith

taken_named : (count : ℕ) (commands : List Asked) (rows : List (ℕ × ForwardedValue)) (what : Taken ForwardedValue) (e : Upper) → AllByRecursion (IsIssued 1 count commands) rows
    → Gives rows what e → IsNamed count what
taken_named count commands rows (taken.Hello incoming) e all given = given
taken_named count commands rows (taken.Command incoming) e all given = given
taken_named count commands rows (taken.Event incoming) e all given = given
taken_named count commands rows (taken.Progress token incoming) e all given =
    let mine = row_issued count commands rows (token, given.tag) given.there all in (mine.low, issued_high count commands (token, given.tag) mine, given.message)
  where
    row_issued : (count : ℕ) (commands : List Asked) (rows : List (ℕ × ForwardedValue)) (row : ℕ × ForwardedValue) → Stands rows row → AllByRecursion (IsIssued 1 count commands) rows
        → IsIssued 1 count commands row
    row_issued count commands rows row there all = (all_right (IsIssued 1 count commands) there.front (row ∷ there.back) (subst (AllByRecursion (IsIssued 1 count commands)) there.whole all)).0
taken_named count commands rows (taken.Final tag incoming) e all given =
    let there = given.there in
    let mine = (all_right (IsIssued 1 count commands) there.front ((given.number, tag) ∷ there.back) (subst (AllByRecursion (IsIssued 1 count commands)) there.whole all)).0 in
    (given.number, mine.low, issued_high count commands (given.number, tag) mine, given.message)
taken_named count commands rows (taken.Closed cause) e all given = tt

any_named : (count : ℕ) (commands : List Asked) (rows : List (ℕ × ForwardedValue)) (next : Option (Taken ForwardedValue) × Upper) → AllByRecursion (IsIssued 1 count commands) rows
    → GivesAny rows next → AllByRecursion (IsNamed count) (listed next.0)
any_named count commands rows (None, e) all given = tt
any_named count commands rows (Some what, e) all given = (taken_named count commands rows what e all given, tt)

turn_named : (flag : Bool) (upper : Option Upper) (count : ℕ) (commands : List Asked) → IfSome upper (λ e. AllByRecursion (IsIssued 1 count commands) e.pending)
    → AllByRecursion (IsNamed count) (if flag then listed (next_above upper) else [])
turn_named true None count commands rows = tt
turn_named true (Some e) count commands rows = any_named count commands e.pending (next_taken e) rows (next_gives e)
turn_named false upper count commands rows = tt

entries_named : (call : Call) (v : Relay) (count : ℕ) (commands : List Asked) → IfSome v.upper (λ e. AllByRecursion (IsIssued 1 count commands) e.pending)
    → AllByRecursion (IsNamed count) (entries_from call v v.upper)
entries_named (turns Above) v count commands rows = turn_named (takes_above v.bind) v.upper count commands rows
entries_named call v count commands rows = tt

module _ (call : Call) (v : Relay) (p : Past) (h : Holds v p) where
  abbrev Names : Past → Type 0
  Names q = AllByRecursion (IsNamed (length (above q).past.accepted)) (above q).past.taken

  pub names_more : (after : Relay) → Names (with_calls call v after p)
  names_more after =
      let q = with_calls call v after p in
      let m : ℕ = length (above p).past.accepted in
      let n : ℕ = length (above q).past.accepted in
      let new : List (Issued ForwardedValue) = accepted_in (upper_by call v) (above p).end in
      let size : n ≡ m + length new = ap length (above_accepted call v after p h.upper) ∙ length-append (above p).past.accepted new in
      let less : m ≤ n = omega arith in
      let entries = entries_from call v v.upper in
      subst (AllByRecursion (IsNamed n)) (sym (above_taken call v after p h.upper))
      (all_append (IsNamed n) (above p).past.taken entries (all_then (IsNamed m) (IsNamed n) (named_more m n less) (above p).past.taken h.named)
      (all_then (IsNamed m) (IsNamed n) (named_more m n less) entries (entries_named call v m (forwarded_in h.deeds) (rows_now call v p h))))
