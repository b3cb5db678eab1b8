-- What a value-add answered itself until it was bound: all that it took, each redirect with an error, but for the one that
-- bound it, whose answer is its last one.
use Rattle.std.proofs.Common.{◌≡◌, ◌⊎◌, inl, inr, ℕ, Bool, true, false, not, ◌||◌, ◌&&◌, List, [], ◌∷◌, ◌++◌, Option, None, refl, ap, sym, ◌∙◌, subst, arith}
use Rattle.std.specs.Prelude.{Contains, bytes_eq, filter, if◌then◌else◌, map}
use Rattle.std.specs.List.{AllByRecursion, flat_map, list_any}
use Rattle.std.proofs.lemmas.List.{append-nil, append_assoc}
use Rattle.std.proofs.lemmas.List.Concat.{flat_map-append}
use Rattle.channel_core.specs.Arrivals.{AreSpoken, Spoken}
use Rattle.channel_core.specs.Beginning.{new_end}
use Rattle.channel_core.specs.Closing.{is_closed}
use Rattle.channel_core.specs.QueueLaws.{is_commanding, is_message}
use Rattle.channel_core.specs.ReceivingLaws.{SaysReadable, incoming_of}
use Rattle.channel_core.specs.Runs.{Run}
use Rattle.channel_core.specs.Taking.{closes, next_taken}
use Rattle.channel_core.specs.Wire.{answers, event_said, hello, is_redirect, locator, said, said_by}
use Rattle.channel_core.proofs.Sent.{all_its_messages}
use Rattle.channel_laws.specs.Meeting.{answers_among}
use Rattle.channel_laws.specs.Numbering.{TakesNumbered, tokens_among}
use Rattle.channel_laws.proofs.Rest.AsSaid.{all_as_said}
use Rattle.tcf_message.specs.Message.{IsWellFormed, event}
use Rattle.value_node.specs.Asked.{Asked}
use Rattle.value_node.specs.OwnLaws.{AsksNothingBelow, asked_until}
use Rattle.value_node.specs.Passing.{Lower}
use Rattle.value_node.specs.RelayLaws.{EndsAreRuns, asked_by}
use Rattle.value_node.specs.Runs.{Call, LowerCall, Past, ValueRun, after_all, below, below_until_bound, bytes_end, comes, connects, fails, gives, is_binding, lower_after, no_calls, no_past, only_if, own_by, reconnected, remembered, turns, with_calls}
use Rattle.value_node.specs.Value.{awaits, connected_to, new_relay, value_services}
use Rattle.value_node.specs.ValueValue.{ValueValue}
use Rattle.value_node.specs.declared.relay.Relay.{Relay}
use Rattle.value_node.specs.declared.states.Bind.{Bind}
use Rattle.value_node.specs.declared.states.Bind.TheVariants.{Unbound, Opening, Bound, Closed}
use Rattle.value_node.proofs.OwnAnswers.{IsLeft, plain, spelled}
use Rattle.value_node.proofs.Pasts.{after_both, taken_in, taken_more}
use Rattle.value_node.proofs.Steps.{called_whole, end_ran, relay_called, whole}
use Rattle.channel_core.proofs.TheLaws.{closes_only_so}
use Rattle.value_node.proofs.TheLaws.{asks_nothing_below, ends_are_runs}
use Rattle.node_answers.proofs.Adds.Apart.{AreApart, apart_left, numbered_apart, same_asked, tokens_of}
use Rattle.node_answers.proofs.Adds.Pairing.{AnswerEach, among_behind, each_among, each_at, each_then}
use Rattle.node_answers.proofs.Adds.Replying.{Replies, call_replies}
use Rattle.node_answers.proofs.Adds.Speaking.{sent_spelled, spoken_both, spoken_formed, spoken_in}
use Rattle.node_answers.proofs.Adds.Taken.{tokens_taken}
use Rattle.value_node.proofs.Answering.{first_end, asked_of, asked_more}
use Rattle.list_laws.proofs.AllLists.{all_left}

-- what it said itself
pub record OwnPart (r : ValueRun) : Type 0 where
  pub own : List Spoken
  pub formed : AreSpoken own
  pub queue : filter is_message (below_until_bound r.past).past.queued ≡ map (λ s. said s.message s.mark) own
  pub answered : AllByRecursion (λ c. answers_among c.token own ≡ true) (asked_until r.past)
  -- a redirect that was answered without an error is the one that bound it
  pub done_last : (before rest : List Spoken) (s : Spoken) (c : Asked) → own ≡ before ++ s ∷ rest → Contains (asked_until r.past) c
      → is_redirect c.service c.name ≡ true → said_by s.message ≡ answers c.token true → (r.past.is_bound ≡ true) × (rest ≡ [])

-- ---- what is asked, and what is said

said_more : (calls more : List LowerCall) (lower : Lower) → lower ≡ (lower_after calls).end → spoken_in (calls ++ more) first_end ≡ spoken_in calls first_end ++ spoken_in more lower
said_more calls more lower same =
    spoken_both calls more first_end ∙ ap (λ (e : Lower). spoken_in calls first_end ++ spoken_in more e) (sym (end_ran calls (lower_after [])) ∙ sym same)

-- ---- by the calls of its lower end until it is bound

-- what is left where it isn't bound, and none where it is
abbrev pub LeftIn : Bool → Bind → Option (List ℕ) → List Asked → Type 0
LeftIn true bind redirect left = left ≡ []
LeftIn false bind redirect left = IsLeft bind redirect left

left_in : (bind : Bind) (redirect : Option (List ℕ)) (left : List Asked) → IsLeft bind redirect left → LeftIn (is_binding bind) bind redirect left
left_in Unbound redirect left is = is
left_in Opening redirect left is = is
left_in Bound redirect left is = is.0
left_in Closed redirect left is = is

pub record Says (until : List LowerCall) (bind : Bind) (redirect : Option (List ℕ)) (is_bound : Bool) : Type 0 where
  pub answered : List Asked
  pub left : List Asked
  pub commands : asked_of until ≡ answered ++ left
  pub each : AnswerEach is_bound answered (spoken_in until (new_end value_services None))
  pub left_is : LeftIn is_bound bind redirect left

says_more : (until more : List LowerCall) (lower : Lower) (same : lower ≡ (lower_after until).end) (bind next : Bind) (redirect later : Option (List ℕ)) (s : Says until bind redirect false)
    → Replies s.left (flat_map asked_by (taken_in more lower)) (spoken_in more lower) next later → Says (until ++ more) next later (is_binding next)
says_more until more lower same bind next redirect later s a =
    let commands = flat_map asked_by (taken_in more lower) in
    record {
      answered = s.answered ++ a.now;
      left = a.later;
      commands = asked_more until more lower same ∙ ap (λ cs. cs ++ commands) s.commands ∙ append_assoc s.answered s.left commands ∙ ap (λ cs. s.answered ++ cs) a.parts ∙ sym (append_assoc s.answered a.now a.later);
      each = subst (λ ss. AnswerEach (is_binding next) (s.answered ++ a.now) ss) (sym (said_more until more lower same))
          (each_then (is_binding next) s.answered a.now (spoken_in until first_end) (spoken_in more lower) s.each a.each);
      left_is = left_in next later a.later a.is_left;
    }

says_still : (until : List LowerCall) (bind next : Bind) (redirect later : Option (List ℕ)) → Says until bind redirect true → Says until next later true
says_still until bind next redirect later s = record { answered = s.answered; left = s.left; commands = s.commands; each = s.each; left_is = s.left_is }

-- ---- each call keeps it

abbrev pub IsSaying : Relay → Past → Type 0
IsSaying v p = Says p.until_bound v.bind v.redirect p.is_bound

abbrev TakesClosing : Lower → Type 0
TakesClosing e = is_closed e.state ≡ false → is_closed (next_taken e).1.state ≡ closes (next_taken e).0

module _ (call : Call) (v : Relay) (p : Past) (ends : EndsAreRuns (record { value = whole v; past = p })) (closes_so : TakesClosing v.lower) where
  abbrev next : Relay
  next = relay_called call v

  says_by : (flag : Bool) → p.is_bound ≡ flag → Says p.until_bound v.bind v.redirect flag
      → Says (p.until_bound ++ only_if (not flag) (own_by call v)) next.bind next.redirect (flag || is_binding next.bind)
  says_by true on s = subst (λ calls. Says calls next.bind next.redirect true) (sym (append-nil p.until_bound)) (says_still p.until_bound v.bind next.bind v.redirect next.redirect s)
  says_by false off s =
      let lower : v.lower ≡ (lower_after p.until_bound).end =
      ends.lower ∙ ap (λ calls. (lower_after (p.until_bound ++ calls)).end) (ends.unbound off) ∙ ap (λ calls. (lower_after calls).end) (append-nil p.until_bound) in
      says_more p.until_bound (own_by call v) v.lower lower v.bind next.bind v.redirect next.redirect s (call_replies call v p s.left closes_so ends.stands off s.left_is)

  says_called : IsSaying v p → IsSaying next (with_calls call v next p)
  says_called s = says_by p.is_bound refl s

says_connected : (flag : Bool) (v : Relay) (p : Past) → IsSaying v p → IsSaying (if flag then connected_to v else v) (if flag then reconnected p else p)
says_connected false v p s = s
says_connected true v p s = s

says_remembered : (call : Call) (v : Relay) (p : Past) → EndsAreRuns (record { value = whole v; past = p }) → TakesClosing v.lower → IsSaying v p
    → IsSaying (relay_called call v) (remembered call v (relay_called call v) p)
says_remembered (comes side piece mark) v p ends closes_so s = says_called (comes side piece mark) v p ends closes_so s
says_remembered (bytes_end side) v p ends closes_so s = says_called (bytes_end side) v p ends closes_so s
says_remembered (turns side) v p ends closes_so s = says_called (turns side) v p ends closes_so s
says_remembered connects v p ends closes_so s = says_connected (awaits v) v p s
says_remembered fails v p ends closes_so s = says_called fails v p ends closes_so s
says_remembered (gives side) v p ends closes_so s = says_called (gives side) v p ends closes_so s

-- ---- after any calls

takes_closing : (v : Relay) (p : Past) → EndsAreRuns (record { value = whole v; past = p }) → TakesClosing v.lower
takes_closing v p ends = subst TakesClosing (sym ends.lower) (closes_only_so value_services None (p.until_bound ++ p.since_bound)).by_taking

abbrev pub HasSaid : ValueRun → Type 0
HasSaid r = IsSaying r.value.relay r.past

said_from : (calls : List Call) (v : Relay) (p : Past) → ((more : List Call) → EndsAreRuns (after_all more (record { value = whole v; past = p })))
    → IsSaying v p → HasSaid (after_all calls (record { value = whole v; past = p }))
said_from [] v p ends s = s
said_from (call ∷ calls) v p ends s =
    let next = relay_called call v in
    let later : (more : List Call) → EndsAreRuns (after_all more (record { value = whole next; past = remembered call v next p })) = λ more.
    subst (λ (value : ValueValue). EndsAreRuns (after_all more (record { value = value; past = remembered call v value.relay p }))) (called_whole call v) (ends (call ∷ more)) in
    subst (λ (value : ValueValue). HasSaid (after_all calls (record { value = value; past = remembered call v value.relay p }))) (sym (called_whole call v))
    (said_from calls next (remembered call v next p) later (says_remembered call v p (ends []) (takes_closing v p (ends [])) s))

pub always_said : (peer : List ℕ) (calls : List Call) → HasSaid (after_all calls (no_calls peer))
always_said peer calls =
    said_from calls (new_relay peer) no_past (ends_are_runs peer)
    (record { answered = []; left = []; commands = refl; each = tt; left_is = (refl, refl) })

-- ---- what holds of the whole

pub value_hello : IsWellFormed (event locator hello value_services)
unfolding locator hello value_services
value_hello = ((refl, refl), omega arith)

any_left : {A : Type 0} → (test : A → Bool) (xs ys : List A) → list_any test (xs ++ ys) ≡ false → list_any test xs ≡ false
any_left test [] ys none = refl
any_left test (x ∷ xs) ys none = by_flag (test x) (any_left test xs ys) none
  where
    by_flag : (flag : Bool) → (list_any test (xs ++ ys) ≡ false → list_any test xs ≡ false) → (flag || list_any test (xs ++ ys)) ≡ false → (flag || list_any test xs) ≡ false
    by_flag true rest none = absurd cc
    by_flag false rest none = rest none

pub none_left : (flag : Bool) (bind : Bind) (redirect : Option (List ℕ)) (left : List Asked) → (bind ≡ Unbound) ⊎ (bind ≡ Bound) → LeftIn flag bind redirect left → left ≡ []
none_left true bind redirect left stands is = is
none_left false Unbound redirect left stands is = is.0
none_left false Opening redirect left (inl same) is = absurd cc
none_left false Opening redirect left (inr same) is = absurd cc
none_left false Bound redirect left stands is = is.0
none_left false Closed redirect left stands is = is.0

-- the tokens of the commands that were taken until then differ
until_apart : (p : Past) → TakesNumbered (below p) → AreApart (tokens_of (asked_until p))
until_apart p numbered =
    let first = lower_after p.until_bound in
    let later = taken_in p.since_bound first.end in
    let all : (below p).past.taken ≡ first.past.taken ++ later = ap (λ (r : Run Unit). r.past.taken) (after_both p.until_bound p.since_bound (lower_after [])) ∙ taken_more p.since_bound first in
    let tokens : tokens_among (flat_map incoming_of (below p).past.taken) ≡ tokens_of (asked_until p) ++ tokens_of (flat_map asked_by later) =
    tokens_taken (below p).past.taken (all_as_said value_services None (p.until_bound ++ p.since_bound)) ∙ ap (λ ts. tokens_of (flat_map asked_by ts)) all
    ∙ ap tokens_of (flat_map-append asked_by first.past.taken later) ∙ flat_map-append (λ (c : Asked). c.token ∷ []) (asked_until p) (flat_map asked_by later) in
    apart_left (tokens_of (asked_until p)) (tokens_of (flat_map asked_by later)) (subst AreApart tokens (numbered_apart (tokens_among (flat_map incoming_of (below p).past.taken)) numbered))

event_answers : (flag : Bool) (token : List ℕ) (done : Bool) → event_said flag ≡ answers token done → ⊥
event_answers true token done is = absurd cc
event_answers false token done is = absurd cc

abbrev pub greeting : Spoken
greeting = plain (event locator hello value_services)

-- an answer without an error to a redirect binds it, and is the last
done_at : (is_bound : Bool) (commands : List Asked) (spoken : List Spoken) → AreApart (tokens_of commands) → AnswerEach is_bound commands spoken
    → (before rest : List Spoken) (s : Spoken) (c : Asked) → greeting ∷ spoken ≡ before ++ s ∷ rest → Contains commands c
    → is_redirect c.service c.name ≡ true → said_by s.message ≡ answers c.token true → (is_bound ≡ true) × (rest ≡ [])
done_at is_bound commands spoken apart each [] rest s c are has asks says =
    let one : greeting ≡ s = cc in
    absurd (event_answers (bytes_eq locator locator && bytes_eq hello hello) c.token true (ap (λ (x : Spoken). said_by x.message) one ∙ says))
done_at is_bound commands spoken apart each (b ∷ before) rest s c are has asks says =
    let others : spoken ≡ before ++ s ∷ rest = cc in
    let at = each_at is_bound commands spoken before s rest each others in
    let both : answers at.command.token at.is.done ≡ answers c.token true = sym at.is.says ∙ says in
    let same : at.command ≡ c = same_asked commands at.front at.command at.back c apart at.whole has cc in
    at.is.fair (ap (λ (x : Asked). is_redirect x.service x.name) same ∙ asks) cc

-- what it says itself can be read, and it is what is queued until it is bound
pub own_formed : (r : ValueRun) → EndsAreRuns r → AreSpoken (greeting ∷ spoken_in r.past.until_bound first_end)
own_formed r ends = (value_hello, spoken_formed r.past.until_bound first_end (all_left SaysReadable r.past.until_bound r.past.since_bound ends.below_readable))

pub own_queue : (r : ValueRun) → AsksNothingBelow r
    → filter is_message (below_until_bound r.past).past.queued ≡ map (λ s. said s.message s.mark) (greeting ∷ spoken_in r.past.until_bound first_end)
own_queue r asks_nothing =
    all_its_messages value_services None r.past.until_bound (any_left is_commanding r.past.until_bound r.past.since_bound asks_nothing) ∙ ap (λ os. spelled greeting ∷ os) (sent_spelled r.past.until_bound first_end)

part_of : (r : ValueRun) → HasSaid r → EndsAreRuns r → AsksNothingBelow r → TakesNumbered (below r.past) → (r.value.relay.bind ≡ Unbound) ⊎ (r.value.relay.bind ≡ Bound) → OwnPart r
part_of r s ends asks_nothing numbered stands =
    let p = r.past in
    let spoken = spoken_in p.until_bound first_end in
    let none = none_left p.is_bound r.value.relay.bind r.value.relay.redirect s.left stands s.left_is in
    let whole_is : asked_until p ≡ s.answered = s.commands ∙ ap (λ cs. s.answered ++ cs) none ∙ append-nil s.answered in
    let apart = subst (λ cs. AreApart (tokens_of cs)) whole_is (until_apart p numbered) in
    record {
      own = greeting ∷ spoken;
      formed = own_formed r ends;
      queue = own_queue r asks_nothing;
      answered = subst (λ cs. AllByRecursion (λ (c : Asked). answers_among c.token (greeting ∷ spoken) ≡ true) cs) (sym whole_is)
          (among_behind greeting spoken s.answered (each_among p.is_bound s.answered spoken s.each));
      done_last = λ before rest one c are has asks says.
          done_at p.is_bound s.answered spoken apart s.each before rest one c are (subst (λ cs. Contains cs c) whole_is has) asks says;
    }

pub own_part : (peer : List ℕ) (calls : List Call) → TakesNumbered (below (after_all calls (no_calls peer)).past)
    → ((after_all calls (no_calls peer)).value.relay.bind ≡ Unbound) ⊎ ((after_all calls (no_calls peer)).value.relay.bind ≡ Bound)
    → OwnPart (after_all calls (no_calls peer))
own_part peer calls numbered stands = part_of (after_all calls (no_calls peer)) (always_said peer calls) (ends_are_runs peer calls) (asks_nothing_below peer calls) numbered stands
