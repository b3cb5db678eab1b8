-- The commands that an end took, by the messages that it took.
use Rattle.std.proofs.Common.{◌≡◌, ℕ, Bool, List, [], ◌∷◌, ◌++◌, Result, Ok, Err, refl, sym, ap, ◌∙◌}
use Rattle.std.specs.List.{AllByRecursion, flat_map}
use Rattle.std.proofs.lemmas.List.{append-nil}
use Rattle.std.proofs.lemmas.List.Concat.{flat_map-append}
use Rattle.agent_node.specs.AgentLaws.{Asked, asked_by, asked_in, tokens}
use Rattle.channel_core.specs.ReceivingLaws.{incoming_of}
use Rattle.channel_core.specs.Wire.{Said, answers, asks, goes_on, greets, said_of, tells}
use Rattle.channel_core.specs.declared.held.Incoming.{Incoming}
use Rattle.channel_core.specs.declared.taking.Taken.{Taken}
use Rattle.channel_core.specs.declared.taking.Taken.TheVariants as taken
use Rattle.channel_laws.specs.Meeting.{IsAnsweredBy, redirect_in, redirects_among}
use Rattle.channel_laws.specs.Numbering.{token_asked, tokens_among}
use Rattle.channel_laws.specs.Rest.{IsAsSaid}
use Rattle.channel_core.specs.Arrivals.{Spoken}
use Rattle.tcf_message.specs.Message.{IsToken, MessageValue, command, event, final, flow, not_known, progress, reading}
use Rattle.tcf_message.specs.declared.message.MessageFault.{MessageFault}
use Rattle.tcf_message.proofs.TheLaws.{read_back}
use Rattle.node_answers.proofs.Agents.Numbered.{redirect_of}
use Rattle.node_answers.proofs.Agents.Spoken.{AreAnswered}
use Rattle.list_laws.proofs.AllLists.{all_append}

-- the commands among these messages
abbrev pub asked_among : List Incoming → List Asked
asked_among messages = flat_map (λ m. asked_in (reading m.raw)) messages

-- ---- Only an entry that is a command is read as one

none_asked : (m : Result MessageValue MessageFault) → (said_of m ≡ asks → ⊥) → asked_in m ≡ []
none_asked (Ok (command token service name body)) other = absurd (other refl)
none_asked (Ok (final token body)) other = refl
none_asked (Ok (progress token body)) other = refl
none_asked (Ok (not_known token)) other = refl
none_asked (Ok (event service name body)) other = refl
none_asked (Ok (flow level)) other = refl
none_asked (Err fault) other = refl

no_greeting : (s : Said) → s ≡ greets → s ≡ asks → ⊥
no_greeting s is so = let both : greets ≡ asks = sym is ∙ so in cc

no_telling : (s : Said) → s ≡ tells → s ≡ asks → ⊥
no_telling s is so = let both : tells ≡ asks = sym is ∙ so in cc

no_progress : (s : Said) (token : List ℕ) → s ≡ goes_on token → s ≡ asks → ⊥
no_progress s token is so = let both : goes_on token ≡ asks = sym is ∙ so in cc

no_answer : (s : Said) (token : List ℕ) (done : Bool) → s ≡ answers token done → s ≡ asks → ⊥
no_answer s token done is so = let both : answers token done ≡ asks = sym is ∙ so in cc

one_asked : (t : Taken Unit) → IsAsSaid t → asked_among (incoming_of t) ≡ asked_by t
one_asked (taken.Hello i) is = append-nil (asked_in (reading i.raw)) ∙ none_asked (reading i.raw) (no_greeting (said_of (reading i.raw)) is)
one_asked (taken.Command i) is = append-nil (asked_in (reading i.raw))
one_asked (taken.Event i) is = append-nil (asked_in (reading i.raw)) ∙ none_asked (reading i.raw) (no_telling (said_of (reading i.raw)) is)
one_asked (taken.Progress token i) is = append-nil (asked_in (reading i.raw)) ∙ none_asked (reading i.raw) (no_progress (said_of (reading i.raw)) is.0 is.1)
one_asked (taken.Final tag i) is = append-nil (asked_in (reading i.raw)) ∙ none_asked (reading i.raw) (no_answer (said_of (reading i.raw)) _ is.1 is.2)
one_asked (taken.Closed cause) is = refl

pub asked_same : (entries : List (Taken Unit)) → AllByRecursion IsAsSaid entries → asked_among (flat_map incoming_of entries) ≡ flat_map asked_by entries
asked_same [] said = refl
asked_same (t ∷ entries) said =
    flat_map-append (λ m. asked_in (reading m.raw)) (incoming_of t) (flat_map incoming_of entries)
    ∙ ap (λ cs. cs ++ asked_among (flat_map incoming_of entries)) (one_asked t said.0) ∙ ap (λ cs. asked_by t ++ cs) (asked_same entries said.1)

-- ---- What is said of the messages is said of the commands among them

pub tokens_same : (messages : List Incoming) → tokens_among messages ≡ tokens (asked_among messages)
tokens_same [] = refl
tokens_same (i ∷ messages) = by_reading (reading i.raw) (tokens_among messages) (asked_among messages) (tokens_same messages)
  where
    by_reading : (m : Result MessageValue MessageFault) (xs : List (List ℕ)) (ys : List Asked) → xs ≡ tokens ys → token_asked m ++ xs ≡ tokens (asked_in m ++ ys)
    by_reading (Ok (command token service name body)) xs ys is = ap (λ l. token ∷ l) is
    by_reading (Ok (final token body)) xs ys is = is
    by_reading (Ok (progress token body)) xs ys is = is
    by_reading (Ok (not_known token)) xs ys is = is
    by_reading (Ok (event service name body)) xs ys is = is
    by_reading (Ok (flow level)) xs ys is = is
    by_reading (Err fault) xs ys is = is

pub redirects_same : (messages : List Incoming) → redirects_among messages ≡ flat_map redirect_of (asked_among messages)
redirects_same [] = refl
redirects_same (i ∷ messages) = by_reading (reading i.raw) (redirects_among messages) (asked_among messages) (redirects_same messages)
  where
    by_reading : (m : Result MessageValue MessageFault) (xs : List (List ℕ)) (ys : List Asked) → xs ≡ flat_map redirect_of ys → redirect_in m ++ xs ≡ flat_map redirect_of (asked_in m ++ ys)
    by_reading (Ok (command token service name body)) xs ys is = ap (λ l. redirect_of (record { token = token; service = service; name = name; body = body }) ++ l) is
    by_reading (Ok (final token body)) xs ys is = is
    by_reading (Ok (progress token body)) xs ys is = is
    by_reading (Ok (not_known token)) xs ys is = is
    by_reading (Ok (event service name body)) xs ys is = is
    by_reading (Ok (flow level)) xs ys is = is
    by_reading (Err fault) xs ys is = is

answered_first : (spoken : List Spoken) (m : Result MessageValue MessageFault) (commands : List Asked) → AreAnswered spoken (asked_in m ++ commands) → IsAnsweredBy spoken m × AreAnswered spoken commands
answered_first spoken (Ok (command token service name body)) commands each = (each.0, each.1)
answered_first spoken (Ok (final token body)) commands each = (tt, each)
answered_first spoken (Ok (progress token body)) commands each = (tt, each)
answered_first spoken (Ok (not_known token)) commands each = (tt, each)
answered_first spoken (Ok (event service name body)) commands each = (tt, each)
answered_first spoken (Ok (flow level)) commands each = (tt, each)
answered_first spoken (Err fault) commands each = (tt, each)

pub all_answered : (spoken : List Spoken) (messages : List Incoming) → AreAnswered spoken (asked_among messages) → AllByRecursion (λ m. IsAnsweredBy spoken (reading m.raw)) messages
all_answered spoken [] each = tt
all_answered spoken (i ∷ messages) each = let parts = answered_first spoken (reading i.raw) (asked_among messages) each in (parts.0, all_answered spoken messages parts.1)

-- what is read as a command has a token
pub all_named : (messages : List Incoming) → AllByRecursion (λ c. IsToken c.token) (asked_among messages)
all_named [] = tt
all_named (i ∷ messages) = all_append (λ c. IsToken c.token) (asked_in (reading i.raw)) (asked_among messages) (by_reading (reading i.raw) refl) (all_named messages)
  where
    by_reading : (m : Result MessageValue MessageFault) → reading i.raw ≡ m → AllByRecursion (λ c. IsToken c.token) (asked_in m)
    by_reading (Ok (command token service name body)) is = (((read_back.0 i.raw (command token service name body)).0 is).0.0.0, tt)
    by_reading (Ok (final token body)) is = tt
    by_reading (Ok (progress token body)) is = tt
    by_reading (Ok (not_known token)) is = tt
    by_reading (Ok (event service name body)) is = tt
    by_reading (Ok (flow level)) is = tt
    by_reading (Err fault) is = tt
