-- The positions of what a client heard: none until the target's Hello, and behind it they don't go back.
use Rattle.std.proofs.Common.{◌≡◌, ℕ, ◌≤◌, Bool, true, false, true≢false, ◌&&◌, List, [], ◌∷◌, ◌++◌, map, filter, Option, Some, None, refl, ap, ap₂, sym, ◌∙◌, subst}
use Rattle.std.specs.Prelude.{IsSome, bytes_eq}
use Rattle.std.specs.Option.{IsSomeAnd}
use Rattle.std.specs.List.{AllByRecursion}
use Rattle.std.proofs.lemmas.List.{append_assoc, append-nil}
use Rattle.channel_core.specs.Arrivals.{Spoken}
use Rattle.channel_core.specs.Wire.{Said, answers, asks, event_said, goes_on, greets, hello, locator, said_by, tells}
use Rattle.client_node.specs.Runs.{is_hello}
use Rattle.target_contexts.specs.declared.process.Image.{Image}
use Rattle.target_hub.specs.History.{IsLegal}
use Rattle.target_hub.specs.Ordered.{OpensAt}
use Rattle.target_hub.specs.Received.{is_owed}
use Rattle.target_hub.specs.Sent.{agent_services, hello_at}
use Rattle.target_hub.specs.declared.input.Input.{Input}
use Rattle.tcf_message.specs.Message.{MessageValue, command, event, final, flow, not_known, progress}
use Rattle.value_node.specs.Asked.{Asked}
use Rattle.value_node.specs.OwnMessages.{IsOwn}
use Rattle.value_node.specs.Deeds.{mark_after}
use Rattle.value_node.specs.Store.{later_mark}
use Rattle.chain_told.specs.Told.{AreToldRightly, ComesAt, ComesBehind, IsOwed, IsToldRightly, mark_from, mark_of, owed_at, owed_in}
use Rattle.chain_told.specs.Sent.{bare, owed_by}
use Rattle.chain_through.specs.Through.{IsMarked}
use Rattle.chain_heard.proofs.Lines.{IsNoCommand, hello_is}
use Rattle.list_laws.specs.Fronts.{IsFront}
use Rattle.list_laws.proofs.Splits.{cut_at, cut_past, cut_within, CutAt}
use Rattle.chain_told.proofs.Agents.Sending.{Begins, begins}
use Rattle.chain_told.proofs.Agents.Placed.{mark_pushed}
use Rattle.chain_through.proofs.OwnTold.{IsUnmarked}

-- ---- the mark of the last message

abbrev IsNoAsking : Said → Type 0
IsNoAsking asks = ⊥
IsNoAsking said = Unit {0}

no_asking_event : (flag : Bool) → IsNoAsking (event_said flag)
no_asking_event true = tt
no_asking_event false = tt

no_asking : (m : MessageValue) → IsNoCommand m → IsNoAsking (said_by m)
no_asking (command token service name body) none = none
no_asking (flow level) none = absurd none
no_asking (event service name body) none = no_asking_event (bytes_eq service locator && bytes_eq name hello)
no_asking (final token body) none = tt
no_asking (progress token body) none = tt
no_asking (not_known token) none = tt

pub no_command_heard : (commands : List Asked) (before : List Spoken) (m : MessageValue) → IsOwed commands before m → IsNoCommand m
no_command_heard commands before (command token service name body) owed = owed
no_command_heard commands before (flow level) owed = owed
no_command_heard commands before (event service name body) owed = tt
no_command_heard commands before (final token body) owed = tt
no_command_heard commands before (progress token body) owed = tt
no_command_heard commands before (not_known token) owed = tt

later_is : (mark before : Option ℕ) → ComesBehind before mark → later_mark mark before ≡ mark
later_is (Some place) before behind = refl
later_is None None behind = refl
later_is None (Some place) behind = absurd behind

after_is : (said : Said) (mark before : Option ℕ) → IsNoAsking said → ComesAt said before mark → mark_after said mark before ≡ mark
after_is greets mark before none placed = refl
after_is tells mark before none placed = later_is mark before placed
after_is asks mark before none placed = absurd none
after_is (goes_on token) mark before none placed = later_is mark before placed
after_is (answers token done) mark before none placed = later_is mark before placed

-- it is the position behind it
pub mark_now : (images : List Image) (history : List Input) (commands : List Asked) (before : List Spoken) (s : Spoken) → IsToldRightly images history commands before s
    → mark_of (before ++ s ∷ []) ≡ s.mark
mark_now images history commands before s right =
    mark_pushed before s None
    ∙ after_is (said_by s.message) s.mark (mark_of before) (no_asking s.message (no_command_heard commands before s.message right.owed)) right.placed

-- ---- behind a position

-- a message at this position or a later one, which is no Hello
pub record RisesAt (position : ℕ) (s : Spoken) : Type 0 where
  pub place : ℕ
  pub mark : s.mark ≡ Some place
  pub above : position ≤ place
  pub other : said_by s.message ≡ greets → ⊥

abbrev pub Rising : ℕ → List Spoken → Type 0
Rising position [] = Unit {0}
Rising position (s ∷ told) = (step : RisesAt position s) × Rising step.place told

some_rises : (position : ℕ) (m : MessageValue) (mark : Option ℕ) → (said_by m ≡ greets → ⊥) → IsSomeAnd mark (λ p. position ≤ p) → RisesAt position (record { message = m; mark = mark })
some_rises position m None other above = absurd above
some_rises position m (Some place) other above = record { place = place; mark = refl; above = above; other = other }

said_rises : (said : Said) (position : ℕ) (m : MessageValue) (mark : Option ℕ) → said_by m ≡ said → ComesAt said (Some position) mark → RisesAt position (record { message = m; mark = mark })
said_rises greets position m mark is placed = absurd cc
said_rises tells position m mark is placed = some_rises position m mark (λ also. let clash : tells ≡ greets = sym is ∙ also in absurd cc) placed
said_rises asks position m mark is placed = some_rises position m mark (λ also. let clash : asks ≡ greets = sym is ∙ also in absurd cc) placed
said_rises (goes_on token) position m mark is placed = some_rises position m mark (λ also. let clash : goes_on token ≡ greets = sym is ∙ also in absurd cc) placed
said_rises (answers token done) position m mark is placed = some_rises position m mark (λ also. let clash : answers token done ≡ greets = sym is ∙ also in absurd cc) placed

pub rising : (images : List Image) (history : List Input) (commands : List Asked) (heard : List Spoken) → AreToldRightly images history commands heard
    → (told before : List Spoken) (position : ℕ) → heard ≡ before ++ told → mark_of before ≡ Some position → Rising position told
rising images history commands heard right [] before position split mark = tt
rising images history commands heard right (s ∷ told) before position split mark =
    let here = right before told s split in
    let step : RisesAt position s = said_rises (said_by s.message) position s.message s.mark refl (subst (λ b. ComesAt (said_by s.message) b s.mark) mark here.placed) in (
      step,
      rising images history commands heard right told (before ++ s ∷ []) step.place (split ∙ sym (append_assoc before (s ∷ []) told))
          (mark_now images history commands before s here ∙ step.mark),
    )

-- ---- without a position

pub own_unmarked : (own : List Spoken) (commands left : List Asked) → IsOwn commands own left → AllByRecursion IsUnmarked own
own_unmarked [] commands left own = tt
own_unmarked (s ∷ spoken) commands left own = (own.0, own_unmarked spoken own.1.0 left own.1.2)

still_none : (said : Said) (mark : Option ℕ) → mark ≡ None → mark_after said mark None ≡ None
still_none greets mark none = none
still_none tells mark none = ap (λ m. later_mark m None) none
still_none asks mark none = refl
still_none (goes_on token) mark none = ap (λ m. later_mark m None) none
still_none (answers token done) mark none = ap (λ m. later_mark m None) none

pub unmarked_none : (told : List Spoken) → AllByRecursion IsUnmarked told → mark_of told ≡ None
unmarked_none [] none = refl
unmarked_none (s ∷ told) none = ap (λ before. mark_from before told) (still_none (said_by s.message) s.mark none.0) ∙ unmarked_none told none.1

-- the first message with one is a Hello
greeting_event : (service name body : List ℕ) (mark : Option ℕ) (flag : Bool) → is_hello service name ≡ flag → ComesAt (event_said flag) None mark → IsSome mark
    → (text : List ℕ) × (event service name body ≡ event locator hello text)
greeting_event service name body mark true is placed some = let named = hello_is service name is in (body, ap₂ (λ s n. event s n body) named.0 named.1)
greeting_event service name body None false is placed some = absurd (true≢false (sym some))
greeting_event service name body (Some place) false is placed some = absurd cc

unplaced : {A : Type 0} → (mark : Option ℕ) → mark ≡ None → IsSome mark → A
unplaced None none some = absurd (true≢false (sym some))
unplaced (Some place) none some = absurd cc

greeting_by : (m : MessageValue) (mark : Option ℕ) → ComesAt (said_by m) None mark → IsSome mark → (body : List ℕ) × (m ≡ event locator hello body)
greeting_by (event service name body) mark placed some = greeting_event service name body mark (is_hello service name) refl placed some
greeting_by (command token service name body) mark placed some = unplaced mark placed some
greeting_by (final token body) mark placed some = unplaced mark placed some
greeting_by (progress token body) mark placed some = unplaced mark placed some
greeting_by (not_known token) mark placed some = unplaced mark placed some
greeting_by (flow level) mark placed some = unplaced mark placed some

-- ---- what is owed begins with the target's Hello

pub none_owed : (commands : List Asked) (told : List Spoken) → AllByRecursion IsUnmarked told → owed_in commands told ≡ []
none_owed commands [] none = refl
none_owed commands (s ∷ told) none = ap₂ (λ here behind. here ++ behind) (ap (owed_at commands s.message) none.0) (none_owed commands told none.1)

abbrev pub greeting : ℕ → Spoken
greeting position = bare (hello_at position agent_services)

-- what was heard is what value-adds said, the target's Hello, and messages with positions
pub record Greeted (own heard : List Spoken) (position : ℕ) : Type 0 where
  pub rest : List Spoken
  pub split : heard ≡ own ++ greeting position ∷ rest
  pub rises : Rising position rest

place_in : (mark : Option ℕ) → IsSome mark → (place : ℕ) × (mark ≡ Some place)
place_in None some = absurd (true≢false (sym some))
place_in (Some place) some = (place, refl)

same_first : {A : Type 0} → (all here further rest tail : List A) (x y : A) → all ≡ y ∷ tail → all ≡ here ++ further → here ≡ x ∷ rest → x ≡ y
same_first all here further rest tail x y whole parts first =
    let both : y ∷ tail ≡ x ∷ (rest ++ further) = sym whole ∙ parts ∙ ap (λ l. l ++ further) first in cc

owed_first : (commands : List Asked) (own rest : List Spoken) (h : Spoken) (body : List ℕ) (place : ℕ) → AllByRecursion IsUnmarked own → h.message ≡ event locator hello body
    → h.mark ≡ Some place → owed_in commands (own ++ h ∷ rest) ≡ record { message = event locator hello body; mark = Some place } ∷ owed_in commands rest
owed_first commands [] rest h body place none says mark = ap₂ (λ m at. owed_at commands m at ++ owed_in commands rest) says mark
owed_first commands (s ∷ own) rest h body place none says mark =
    ap (λ here. owed_at commands s.message here ++ owed_in commands (own ++ h ∷ rest)) none.0 ∙ owed_first commands own rest h body place none.1 says mark

pub greeted : (images : List Image) (history : List Input) (k position : ℕ) (commands : List Asked) (heard own : List Spoken) (h : Spoken) (rest : List Spoken)
    → IsLegal images history → OpensAt history position k → AreToldRightly images history commands heard → IsFront (owed_in commands heard) (owed_by images k history)
    → AllByRecursion IsUnmarked own → heard ≡ own ++ h ∷ rest → IsMarked h → Greeted own heard position
greeted images history k position commands heard own h rest legal opened right front none split marked =
    let starts : Begins images history k position = begins images history k position legal opened in
    let here = right own rest h split in
    let before : mark_of own ≡ None = unmarked_none own none in
    let is = greeting_by h.message h.mark (subst (λ b. ComesAt (said_by h.message) b h.mark) before here.placed) marked in
    let at = place_in h.mark marked in
    let first : Spoken = record { message = event locator hello is.0; mark = Some at.0 } in
    let owed : owed_in commands heard ≡ first ∷ owed_in commands rest =
    ap (owed_in commands) split ∙ owed_first commands own rest h is.0 at.0 none is.1 at.1 in
    let told : owed_by images k history ≡ greeting position ∷ map bare (filter is_owed starts.rest) = ap (λ told. map bare (filter is_owed told)) starts.first in
    let head : first ≡ greeting position =
    same_first (owed_by images k history) (owed_in commands heard) front.0 (owed_in commands rest) (map bare (filter is_owed starts.rest)) first (greeting position) told front.1 owed in
    let same : h ≡ greeting position = ap₂ (λ m mark. record { message = m; mark = mark }) is.1 at.1 ∙ head in
    let cut : heard ≡ own ++ greeting position ∷ rest = split ∙ ap (λ s. own ++ s ∷ rest) same in
    record {
      rest = rest;
      split = cut;
      rises =
          rising images history commands heard right rest (own ++ greeting position ∷ []) position
          (cut ∙ sym (append_assoc own (greeting position ∷ []) rest))
          (ap (λ s. mark_of (own ++ s ∷ [])) (sym same) ∙ mark_now images history commands own h here ∙ ap (λ (s : Spoken). s.mark) same);
    }

-- ---- one of both

-- what was heard is a front of what value-adds said, or the target was heard
pub data HeardSo (own heard : List Spoken) (position : ℕ) : Type 0 where
  nothing_heard : (rest : List Spoken) → own ≡ heard ++ rest → HeardSo own heard position
  target_heard : Greeted own heard position → HeardSo own heard position

heard_by : (images : List Image) (history : List Input) (k position : ℕ) (commands : List Asked) (heard own target rest : List Spoken)
    → IsLegal images history → OpensAt history position k → AreToldRightly images history commands heard → IsFront (owed_in commands heard) (owed_by images k history)
    → AllByRecursion IsUnmarked own → AllByRecursion IsMarked target → CutAt heard rest own target → HeardSo own heard position
heard_by images history k position commands heard own target rest legal opened right front none marked (cut_within ws is) = nothing_heard ws (sym is)
heard_by images history k position commands heard own target rest legal opened right front none marked (cut_past [] is further) =
    nothing_heard [] (sym (append-nil own) ∙ sym is ∙ sym (append-nil heard))
heard_by images history k position commands heard own target rest legal opened right front none marked (cut_past (h ∷ ws) is further) =
    let parts : AllByRecursion IsMarked ((h ∷ ws) ++ rest) = subst (AllByRecursion IsMarked) (sym further) marked in
    target_heard (greeted images history k position commands heard own h ws legal opened right front none is parts.0)

pub heard_so : (images : List Image) (history : List Input) (k position : ℕ) (commands : List Asked) (heard own target : List Spoken)
    → IsLegal images history → OpensAt history position k → AreToldRightly images history commands heard → IsFront (owed_in commands heard) (owed_by images k history)
    → AllByRecursion IsUnmarked own → AllByRecursion IsMarked target → IsFront heard (own ++ target) → HeardSo own heard position
heard_so images history k position commands heard own target legal opened right front none marked come =
    heard_by images history k position commands heard own target come.0 legal opened right front none marked (cut_at heard come.0 own target (sym come.1))
