-- The lines of what a client took: one for each message, with its mark, and under the number that its token is.
use Rattle.std.proofs.Common.{◌≡◌, ℕ, ◌<◌, ◌^◌, true, false, List, [], ◌∷◌, ◌++◌, map, filter, Option, Some, None, Ok, filter_map, refl, ap, ap₂, sym, ◌∙◌, subst}
use Rattle.std.specs.Prelude.{IfSome, bytes_eq, cond, decimal}
use Rattle.std.specs.List.{AllByRecursion, cons_option, flat_map}
use Rattle.std.proofs.lemmas.List.Elements.{filter-append}
use Rattle.std.proofs.lemmas.Slice.Eq.{bytes_eq-Decides}
use Rattle.std.proofs.lemmas.Bool.{and_parts}
use Rattle.channel_core.specs.Arrivals.{Spoken, comes_as}
use Rattle.channel_core.specs.ReceivingLaws.{incoming_of}
use Rattle.channel_core.specs.Wire.{hello, locator}
use Rattle.channel_core.specs.declared.held.Incoming.{Incoming}
use Rattle.channel_core.specs.declared.taking.Taken.{Taken}
use Rattle.channel_core.specs.declared.taking.Taken.TheVariants as taken
use Rattle.client_node.specs.Lines.{event_line, final_line, hello_line, progress_line}
use Rattle.client_node.specs.Runs.{FitsMessage, IsAnswerTo, IsCommand, IsHello, IsOtherEvent, IsProgressOf, is_hello, line_of, tells}
use Rattle.tcf_message.specs.Message.{MessageValue, command, event, final, flow, not_known, progress, reading}
use Rattle.tcf_text.specs.Lines.{Accepted, mark_of}
use Rattle.tcf_text.specs.declared.log.LogLine.{LogLine}
use Rattle.tcf_text.specs.declared.log.LogLine.TheVariants as lines
use Rattle.chain_told.proofs.Doing.{IsReadable}

-- ---- numbers

-- a number that one token has alone
abbrev pub IsFew : LogLine → Type 0
IsFew (lines.Progress number mark body) = number < 2 ^ 64
IsFew (lines.Final number mark body) = number < 2 ^ 64
IsFew (lines.Unknown number mark) = number < 2 ^ 64
IsFew line = Unit {0}

abbrev pub IsOfFew : Accepted → Type 0
IsOfFew c = c.number < 2 ^ 64

abbrev pub AreFew : List Accepted → Type 0
AreFew commands = AllByRecursion IsOfFew commands

-- ---- the line of a message

-- the line says the message
pub data IsLineOf (m : MessageValue) (mark : Option ℕ) (line : LogLine) : Type 0 where
  says_hello : (body : List ℕ) → m ≡ event locator hello body → line ≡ lines.Hello mark body → IsLineOf m mark line
  says_event : (service name body : List ℕ) → m ≡ event service name body → is_hello service name ≡ false → line ≡ lines.Event mark service name body → IsLineOf m mark line
  says_progress : (number : ℕ) (body : List ℕ) → number < 2 ^ 64 → m ≡ progress (decimal number) body → line ≡ lines.Progress number mark body → IsLineOf m mark line
  says_final : (number : ℕ) (body : List ℕ) → number < 2 ^ 64 → m ≡ final (decimal number) body → line ≡ lines.Final number mark body → IsLineOf m mark line
  says_unknown : (number : ℕ) → number < 2 ^ 64 → m ≡ not_known (decimal number) → line ≡ lines.Unknown number mark → IsLineOf m mark line

abbrev pub AreLinesOf : List Spoken → List LogLine → Type 0
AreLinesOf [] [] = Unit {0}
AreLinesOf [] (x ∷ xs) = ⊥
AreLinesOf (s ∷ heard) [] = ⊥
AreLinesOf (s ∷ heard) (x ∷ xs) = IsLineOf s.message s.mark x × AreLinesOf heard xs

pub line_mark : (m : MessageValue) (mark : Option ℕ) (line : LogLine) → IsLineOf m mark line → mark_of line ≡ Some mark
line_mark m mark line (says_hello body is says) = ap mark_of says
line_mark m mark line (says_event service name body is other says) = ap mark_of says
line_mark m mark line (says_progress number body few is says) = ap mark_of says
line_mark m mark line (says_final number body few is says) = ap mark_of says
line_mark m mark line (says_unknown number few is says) = ap mark_of says

-- a message that a client hears
abbrev pub IsNoCommand : MessageValue → Type 0
IsNoCommand (command token service name body) = ⊥
IsNoCommand (flow level) = ⊥
IsNoCommand m = Unit {0}

-- ---- of what was taken

-- the message has a line
record Has (m : MessageValue) (mark : Option ℕ) (said : Option LogLine) : Type 0 where
  pub line : LogLine
  pub is : said ≡ Some line
  pub of : IsLineOf m mark line

pub hello_is : (service name : List ℕ) → is_hello service name ≡ true → (service ≡ locator) × (name ≡ hello)
hello_is service name is =
    let two = and_parts (bytes_eq service locator) (bytes_eq name hello) is in
    ((bytes_eq-Decides service locator).0 two.0, (bytes_eq-Decides name hello).0 two.1)

hello_has : (m : MessageValue) (mark : Option ℕ) → IsHello (Ok m) → Has m mark (hello_line mark (Ok m))
hello_has (event service name body) mark fits =
    let named = hello_is service name fits in
    record { line = lines.Hello mark body; is = refl; of = says_hello body (ap₂ (λ s n. event s n body) named.0 named.1) refl }
hello_has m mark fits = absurd fits

event_has : (m : MessageValue) (mark : Option ℕ) → IsOtherEvent (Ok m) → Has m mark (event_line mark (Ok m))
event_has (event service name body) mark fits = record { line = lines.Event mark service name body; is = refl; of = says_event service name body refl fits refl }
event_has m mark fits = absurd fits

progress_has : (number : ℕ) (m : MessageValue) (mark : Option ℕ) → IsProgressOf number (Ok m) → IfSome (progress_line number mark (Ok m)) IsFew → Has m mark (progress_line number mark (Ok m))
progress_has number (progress token body) mark fits few =
    record { line = lines.Progress number mark body; is = refl; of = says_progress number body few (ap (λ t. progress t body) fits) refl }
progress_has number m mark fits few = absurd fits

final_has : (number : ℕ) (m : MessageValue) (mark : Option ℕ) → IsAnswerTo number (Ok m) → IfSome (final_line number mark (Ok m)) IsFew → Has m mark (final_line number mark (Ok m))
final_has number (final token body) mark fits few =
    record { line = lines.Final number mark body; is = refl; of = says_final number body few (ap (λ t. final t body) fits) refl }
final_has number (not_known token) mark fits few =
    record { line = lines.Unknown number mark; is = refl; of = says_unknown number few (ap not_known fits) refl }
final_has number m mark fits few = absurd fits

no_command : (m : MessageValue) → IsNoCommand m → IsCommand (Ok m) → ⊥
no_command (command token service name body) none is = none
no_command m none is = is

-- what came says the message, with its mark
record Conveys (came : Incoming) (s : Spoken) : Type 0 where
  pub says : reading came.raw ≡ Ok s.message
  pub mark : came.mark ≡ s.mark

conveys : (came : Incoming) (s : Spoken) → came ≡ comes_as s → IsReadable s → Conveys came s
conveys came s same again = record {
  says = ap (λ (i : Incoming). reading i.raw) same ∙ again;
  mark = ap (λ (i : Incoming). i.mark) same;
}

taken_has : (what : Taken ℕ) (came : Incoming) (s : Spoken) → incoming_of what ≡ came ∷ [] → came ≡ comes_as s → IsReadable s → IsNoCommand s.message → FitsMessage what
    → IfSome (line_of what) IsFew → Has s.message s.mark (line_of what)
taken_has (taken.Hello here) came s one same again none fits few =
    let it = conveys here s (first_one one ∙ same) again in
    let line = ap₂ hello_line it.mark it.says in
    subst (Has s.message s.mark) (sym line) (hello_has s.message s.mark (subst IsHello it.says fits))
  where
    first_one : here ∷ [] ≡ came ∷ [] → here ≡ came
    first_one e = cc
taken_has (taken.Event here) came s one same again none fits few =
    let first : here ≡ came = cc in
    let it = conveys here s (first ∙ same) again in
    let line = ap₂ event_line it.mark it.says in
    subst (Has s.message s.mark) (sym line) (event_has s.message s.mark (subst IsOtherEvent it.says fits))
taken_has (taken.Command here) came s one same again none fits few =
    let first : here ≡ came = cc in
    let it = conveys here s (first ∙ same) again in
    absurd (no_command s.message none (subst IsCommand it.says fits))
taken_has (taken.Progress number here) came s one same again none fits few =
    let first : here ≡ came = cc in
    let it = conveys here s (first ∙ same) again in
    let line = ap₂ (progress_line number) it.mark it.says in
    subst (Has s.message s.mark) (sym line)
    (progress_has number s.message s.mark (subst (IsProgressOf number) it.says fits) (subst (λ l. IfSome l IsFew) line few))
taken_has (taken.Final number here) came s one same again none fits few =
    let first : here ≡ came = cc in
    let it = conveys here s (first ∙ same) again in
    let line = ap₂ (final_line number) it.mark it.says in
    subst (Has s.message s.mark) (sym line)
    (final_has number s.message s.mark (subst (IsAnswerTo number) it.says fits) (subst (λ l. IfSome l IsFew) line few))
taken_has (taken.Closed cause) came s one same again none fits few = absurd cc

few_first : (line : Option LogLine) (further : List LogLine) → AllByRecursion IsFew (cons_option line further) → IfSome line IsFew × AllByRecursion IsFew further
few_first None further all = (tt, all)
few_first (Some line) further all = all

abbrev AreHeard : List (Taken ℕ) → List Spoken → Type 0
AreHeard what heard = AllByRecursion IsReadable heard → AllByRecursion (λ s. IsNoCommand s.message) heard → AllByRecursion FitsMessage what
    → AllByRecursion IsFew (filter_map line_of what) → AreLinesOf heard (filter_map line_of what)

grown : (here : Taken ℕ) (came : Incoming) (what : List (Taken ℕ)) (heard : List Spoken) → incoming_of here ≡ came ∷ [] → came ∷ flat_map incoming_of what ≡ map comes_as heard
    → ((further : List Spoken) → flat_map incoming_of what ≡ map comes_as further → AreHeard what further) → AreHeard (here ∷ what) heard
grown here came what [] one are further again none fits few = absurd cc
grown here came what (s ∷ heard) one are further again none fits few =
    let head : came ≡ comes_as s = cc in
    let tail : flat_map incoming_of what ≡ map comes_as heard = cc in
    let parts = few_first (line_of here) (filter_map line_of what) few in
    let has = taken_has here came s one head again.0 none.0 fits.0 parts.0 in
    subst (λ l. AreLinesOf (s ∷ heard) (cons_option l (filter_map line_of what))) (sym has.is)
    (has.of, further heard tail again.1 none.1 fits.1 parts.1)

-- the lines of what was taken are those of the messages
pub lines_heard : (what : List (Taken ℕ)) (heard : List Spoken) → flat_map incoming_of what ≡ map comes_as heard → AreHeard what heard
lines_heard [] [] are again none fits few = tt
lines_heard [] (s ∷ heard) are again none fits few = absurd cc
lines_heard (taken.Hello came ∷ what) heard are again none fits few = grown (taken.Hello came) came what heard refl are (lines_heard what) again none fits few
lines_heard (taken.Event came ∷ what) heard are again none fits few = grown (taken.Event came) came what heard refl are (lines_heard what) again none fits few
lines_heard (taken.Command came ∷ what) heard are again none fits few = grown (taken.Command came) came what heard refl are (lines_heard what) again none fits few
lines_heard (taken.Progress number came ∷ what) heard are again none fits few =
    grown (taken.Progress number came) came what heard refl are (lines_heard what) again none fits few
lines_heard (taken.Final number came ∷ what) heard are again none fits few = grown (taken.Final number came) came what heard refl are (lines_heard what) again none fits few
lines_heard (taken.Closed cause ∷ what) heard are again none fits few = lines_heard what heard are again none fits.1 few

-- ---- parts of them

-- the messages of the first lines, and those of the others
pub record LinesCut (heard : List Spoken) (xs ys : List LogLine) : Type 0 where
  pub front : List Spoken
  pub rest : List Spoken
  pub split : heard ≡ front ++ rest
  pub first : AreLinesOf front xs
  pub second : AreLinesOf rest ys

pub lines_cut : (heard : List Spoken) (xs ys : List LogLine) → AreLinesOf heard (xs ++ ys) → LinesCut heard xs ys
lines_cut heard [] ys are = record { front = []; rest = heard; split = refl; first = tt; second = are }
lines_cut [] (x ∷ xs) ys are = absurd are
lines_cut (s ∷ heard) (x ∷ xs) ys are =
    let more : LinesCut heard xs ys = lines_cut heard xs ys are.1 in
    record { front = s ∷ more.front; rest = more.rest; split = ap (λ l. s ∷ l) more.split; first = (are.0, more.first); second = more.second }

-- the lines of the first messages, and those of the others
pub record MessagesCut (us vs : List Spoken) (xs : List LogLine) : Type 0 where
  pub front : List LogLine
  pub rest : List LogLine
  pub split : xs ≡ front ++ rest
  pub first : AreLinesOf us front
  pub second : AreLinesOf vs rest

pub messages_cut : (us vs : List Spoken) (xs : List LogLine) → AreLinesOf (us ++ vs) xs → MessagesCut us vs xs
messages_cut [] vs xs are = record { front = []; rest = xs; split = refl; first = tt; second = are }
messages_cut (s ∷ us) vs [] are = absurd are
messages_cut (s ∷ us) vs (x ∷ xs) are =
    let more : MessagesCut us vs xs = messages_cut us vs xs are.1 in
    record { front = x ∷ more.front; rest = more.rest; split = ap (λ l. x ∷ l) more.split; first = (are.0, more.first); second = more.second }

-- the message of a line
pub record AtLine (heard : List Spoken) (prior : List LogLine) (x : LogLine) : Type 0 where
  pub before : List Spoken
  pub s : Spoken
  pub rest : List Spoken
  pub split : heard ≡ before ++ s ∷ rest
  pub lines_before : AreLinesOf before prior
  pub is : IsLineOf s.message s.mark x

at_first : (heard front rest : List Spoken) (prior : List LogLine) (x : LogLine) (xs : List LogLine) → heard ≡ front ++ rest → AreLinesOf front prior → AreLinesOf rest (x ∷ xs)
    → AtLine heard prior x
at_first heard front [] prior x xs split first second = absurd second
at_first heard front (s ∷ rest) prior x xs split first second =
    record { before = front; s = s; rest = rest; split = split; lines_before = first; is = second.0 }

pub at_line : (log before after : List LogLine) (x : LogLine) (heard : List Spoken) → AreLinesOf heard (filter tells log) → log ≡ before ++ x ∷ after → tells x ≡ true
    → AtLine heard (filter tells before) x
at_line log before after x heard are split telling =
    let here : filter tells (x ∷ after) ≡ x ∷ filter tells after = ap (λ t. cond t (x ∷ filter tells after) (filter tells after)) telling in
    let parts : filter tells log ≡ filter tells before ++ x ∷ filter tells after =
    ap (filter tells) split ∙ filter-append tells before (x ∷ after) ∙ ap (λ l. filter tells before ++ l) here in
    let cut = lines_cut heard (filter tells before) (x ∷ filter tells after) (subst (AreLinesOf heard) parts are) in
    at_first heard cut.front cut.rest (filter tells before) x (filter tells after) cut.split cut.first cut.second
