-- The positions of the lines of what a client heard.
use Rattle.std.proofs.Common.{◌≡◌, ℕ, ◌≤◌, true, false, true≢false, ◌&&◌, ◌||◌, List, [], ◌∷◌, ◌++◌, Option, Some, None, refl, ap, ap₂, sym, ◌∙◌, subst}
use Rattle.std.specs.List.{AllByRecursion, list_any}
use Rattle.std.proofs.lemmas.List.{append_assoc, append-nil}
use Rattle.std.proofs.lemmas.List.Folds.{list_any-append}
use Rattle.channel_core.specs.Arrivals.{Spoken}
use Rattle.channel_core.specs.Wire.{event_said, greets, hello, locator, said_by}
use Rattle.client_node.specs.Runs.{is_hello}
use Rattle.tcf_message.specs.Message.{MessageValue, event}
use Rattle.tcf_text.specs.Each.{Each}
use Rattle.tcf_text.specs.Lines.{is_placed_hello, last_mark, later_or, mark_of}
use Rattle.tcf_text.specs.declared.log.LogLine.{LogLine}
use Rattle.tcf_text.specs.declared.log.LogLine.TheVariants as lines
use Rattle.target_hub.specs.Ordered.{ComesAfter, IsPlaced, OpensAt, OpensOnce}
use Rattle.target_hub.specs.declared.input.Input.{Input}
use Rattle.value_node.specs.OwnMessages.{BeginsWithHello}
use Rattle.chain_heard.proofs.Lines.{AreLinesOf, IsLineOf, line_mark, says_event, says_final, says_hello, says_progress, says_unknown}
use Rattle.chain_heard.proofs.Marks.{Rising}
use Rattle.list_laws.proofs.Lists.{nothing_there, equal_itself as same_token}
use Rattle.chain_through.proofs.OwnTold.{IsUnmarked}

-- ---- one line

pub is_greeting : is_hello locator hello ≡ true
is_greeting = ap₂ (λ a b. a && b) (same_token locator) (same_token hello)

greets_hello : (m : MessageValue) (body : List ℕ) → m ≡ event locator hello body → said_by m ≡ greets
greets_hello m body is = ap said_by is ∙ ap event_said is_greeting

pub no_hello_line : (m : MessageValue) (mark : Option ℕ) (line : LogLine) → IsLineOf m mark line → (said_by m ≡ greets → ⊥) → is_placed_hello line ≡ false
no_hello_line m mark line (says_hello body is says) other = absurd (other (greets_hello m body is))
no_hello_line m mark line (says_event service name body is plain says) other = ap is_placed_hello says
no_hello_line m mark line (says_progress number body few is says) other = ap is_placed_hello says
no_hello_line m mark line (says_final number body few is says) other = ap is_placed_hello says
no_hello_line m mark line (says_unknown number few is says) other = ap is_placed_hello says

pub hello_line_is : (m : MessageValue) (mark : Option ℕ) (line : LogLine) (body : List ℕ) → IsLineOf m mark line → m ≡ event locator hello body → line ≡ lines.Hello mark body
hello_line_is m mark line body (says_hello text is says) also =
    let both : event locator hello text ≡ event locator hello body = sym is ∙ also in
    let same : text ≡ body = cc in says ∙ ap (λ b. lines.Hello mark b) same
hello_line_is m mark line body (says_event service name text is plain says) also =
    let both : event service name text ≡ event locator hello body = sym is ∙ also in
    let first : service ≡ locator = cc in
    let second : name ≡ hello = cc in
    absurd (true≢false (sym is_greeting ∙ sym (ap₂ is_hello first second) ∙ plain))
hello_line_is m mark line body (says_progress number text few is says) also = absurd cc
hello_line_is m mark line body (says_final number text few is says) also = absurd cc
hello_line_is m mark line body (says_unknown number few is says) also = absurd cc

-- ---- lines without a position

-- it tells of a message without a position
abbrev pub IsBare : LogLine → Type 0
IsBare line = mark_of line ≡ Some None

pub bare_lines : (us : List Spoken) (xs : List LogLine) → AllByRecursion IsUnmarked us → AreLinesOf us xs → AllByRecursion IsBare xs
bare_lines [] [] none are = tt
bare_lines [] (x ∷ xs) none are = absurd are
bare_lines (s ∷ us) [] none are = absurd are
bare_lines (s ∷ us) (x ∷ xs) none are = (line_mark s.message s.mark x are.0 ∙ ap (λ mark. Some mark) none.0, bare_lines us xs none.1 are.1)

pub bare_unplaced : (line : LogLine) → IsBare line → is_placed_hello line ≡ false
bare_unplaced (lines.Hello None body) bare = refl
bare_unplaced (lines.Hello (Some position) body) bare = absurd cc
bare_unplaced line bare = refl

pub no_placed : (xs : List LogLine) → AllByRecursion IsBare xs → list_any is_placed_hello xs ≡ false
no_placed [] bare = refl
no_placed (x ∷ xs) bare = ap (λ b. b || list_any is_placed_hello xs) (bare_unplaced x bare.0) ∙ no_placed xs bare.1

abbrev pub GreetsFirst : List LogLine → Type 0
GreetsFirst [] = Unit {0}
GreetsFirst (x ∷ xs) = (body : List ℕ) × (x ≡ lines.Hello None body)

pub greets_first : (us : List Spoken) (xs : List LogLine) → AllByRecursion IsUnmarked us → BeginsWithHello us → AreLinesOf us xs → GreetsFirst xs
greets_first [] [] none begins are = tt
greets_first [] (x ∷ xs) none begins are = absurd are
greets_first (s ∷ us) [] none begins are = tt
greets_first (s ∷ us) (x ∷ xs) none begins are =
    (begins.0, hello_line_is s.message s.mark x begins.0 are.0 begins.1 ∙ ap (λ mark. lines.Hello mark begins.0) none.0)

pub begins_front : (us vs own : List Spoken) → own ≡ us ++ vs → BeginsWithHello own → BeginsWithHello us
begins_front [] vs own split begins = tt
begins_front (s ∷ us) vs [] split begins = absurd cc
begins_front (s ∷ us) vs (t ∷ own) split begins =
    let head : t ≡ s = cc in (begins.0, ap (λ (a : Spoken). a.message) (sym head) ∙ begins.1)

-- ---- lines behind the target's Hello

pub record RisesLine (position : ℕ) (line : LogLine) : Type 0 where
  pub place : ℕ
  pub mark : mark_of line ≡ Some (Some place)
  pub above : position ≤ place
  pub other : is_placed_hello line ≡ false

abbrev pub RisingLines : ℕ → List LogLine → Type 0
RisingLines position [] = Unit {0}
RisingLines position (y ∷ ys) = (step : RisesLine position y) × RisingLines step.place ys

pub rising_lines : (told : List Spoken) (ys : List LogLine) (position : ℕ) → Rising position told → AreLinesOf told ys → RisingLines position ys
rising_lines [] [] position rises are = tt
rising_lines [] (y ∷ ys) position rises are = absurd are
rising_lines (s ∷ told) [] position rises are = absurd are
rising_lines (s ∷ told) (y ∷ ys) position rises are =
    let step = rises.0 in (
      record {
        place = step.place;
        mark = line_mark s.message s.mark y are.0 ∙ ap (λ mark. Some mark) step.mark;
        above = step.above;
        other = no_hello_line s.message s.mark y are.0 step.other;
      },
      rising_lines told ys step.place rises.1 are.1,
    )

-- there is no other Hello
pub no_more_hello : (position : ℕ) (ys : List LogLine) → RisingLines position ys → list_any is_placed_hello ys ≡ false
no_more_hello position [] rises = refl
no_more_hello position (y ∷ ys) rises = ap (λ b. b || list_any is_placed_hello ys) rises.0.other ∙ no_more_hello rises.0.place ys rises.1

-- ---- their places

pub mark_pushed : (xs : List LogLine) (x : LogLine) (mark : Option ℕ) → mark_of x ≡ Some mark → last_mark (xs ++ x ∷ []) ≡ Some mark
mark_pushed [] x mark is = is
mark_pushed (y ∷ xs) x mark is = ap (λ m. later_or m (mark_of y)) (mark_pushed xs x mark is)

some_mark : (position place : ℕ) (last : Option (Option ℕ)) (mark : Option ℕ) → last ≡ Some (Some position) → mark ≡ Some place → position ≤ place → ComesAfter last mark
some_mark position place last mark here is above =
    subst (λ l. ComesAfter l mark) (sym here) (subst (ComesAfter (Some (Some position))) (sym is) above)

line_placed : (history : List Input) (prior : List LogLine) (position : ℕ) (line : LogLine) → last_mark prior ≡ Some (Some position) → (step : RisesLine position line)
    → IsPlaced history prior line
line_placed history prior position (lines.Hello None body) last step = let none : Some None ≡ Some (Some step.place) = step.mark in absurd cc
line_placed history prior position (lines.Hello (Some place) body) last step = absurd (true≢false step.other)
line_placed history prior position (lines.Event mark service name body) last step =
    let all = step.mark in let is : mark ≡ Some step.place = cc in some_mark position step.place (last_mark prior) mark last is step.above
line_placed history prior position (lines.Progress number mark body) last step =
    let all = step.mark in let is : mark ≡ Some step.place = cc in some_mark position step.place (last_mark prior) mark last is step.above
line_placed history prior position (lines.Final number mark body) last step =
    let all = step.mark in let is : mark ≡ Some step.place = cc in some_mark position step.place (last_mark prior) mark last is step.above
line_placed history prior position (lines.Unknown number mark) last step =
    let all = step.mark in let is : mark ≡ Some step.place = cc in some_mark position step.place (last_mark prior) mark last is step.above
line_placed history prior position line last step = tt

-- each of these lines has its place behind those before
abbrev pub PlacedAfter : List Input → List LogLine → List LogLine → Type 0
PlacedAfter history prior xs = (before after : List LogLine) (x : LogLine) → xs ≡ before ++ x ∷ after → IsPlaced history (prior ++ before) x

placed_nothing : (history : List Input) (prior : List LogLine) → PlacedAfter history prior []
placed_nothing history prior before after x e = absurd (nothing_there before after x e)

placed_first : (history : List Input) (prior : List LogLine) (y : LogLine) (ys : List LogLine) → IsPlaced history prior y → PlacedAfter history (prior ++ y ∷ []) ys
    → PlacedAfter history prior (y ∷ ys)
placed_first history prior y ys here further [] after x e =
    let head : y ≡ x = cc in
    subst (IsPlaced history (prior ++ [])) head (subst (λ ls. IsPlaced history ls y) (sym (append-nil prior)) here)
placed_first history prior y ys here further (b ∷ before) after x e =
    let head : y ≡ b = cc in
    let tail : ys ≡ before ++ x ∷ after = cc in
    let there : IsPlaced history (prior ++ y ∷ before) x =
    subst (λ ls. IsPlaced history ls x) (append_assoc prior (y ∷ []) before) (further before after x tail) in
    subst (λ l. IsPlaced history (prior ++ l ∷ before) x) head there

rising_placed : (history : List Input) (ys : List LogLine) (position : ℕ) → RisingLines position ys → (prior : List LogLine) → last_mark prior ≡ Some (Some position)
    → PlacedAfter history prior ys
rising_placed history [] position rises prior mark = placed_nothing history prior
rising_placed history (y ∷ ys) position rises prior mark =
    let step = rises.0 in
    placed_first history prior y ys (line_placed history prior position y mark step)
    (rising_placed history ys step.place rises.1 (prior ++ y ∷ []) (mark_pushed prior y (Some step.place) step.mark))

-- from the Hello on
told_placed : (history : List Input) (k position : ℕ) (services : List ℕ) (ys : List LogLine) → OpensAt history position k → RisingLines position ys
    → (prior : List LogLine) → list_any is_placed_hello prior ≡ false → PlacedAfter history prior (lines.Hello (Some position) services ∷ ys)
told_placed history k position services ys opened rises prior none =
    let line : LogLine = lines.Hello (Some position) services in
    placed_first history prior line ys (none, (k, opened))
    (rising_placed history ys position rises (prior ++ line ∷ []) (mark_pushed prior line (Some position) refl))

-- lines without a position, behind others without one
bare_placed : (history : List Input) (prior : List LogLine) (line : LogLine) → last_mark prior ≡ Some None → list_any is_placed_hello prior ≡ false → IsBare line
    → IsPlaced history prior line
bare_placed history prior (lines.Hello mark body) last before bare = let none : mark ≡ None = cc in subst (OpensOnce history prior) (sym none) before
bare_placed history prior (lines.Event mark service name body) last before bare = let none : mark ≡ None = cc in subst (λ l. ComesAfter l mark) (sym last) none
bare_placed history prior (lines.Progress number mark body) last before bare = let none : mark ≡ None = cc in subst (λ l. ComesAfter l mark) (sym last) none
bare_placed history prior (lines.Final number mark body) last before bare = let none : mark ≡ None = cc in subst (λ l. ComesAfter l mark) (sym last) none
bare_placed history prior (lines.Unknown number mark) last before bare = let none : mark ≡ None = cc in subst (λ l. ComesAfter l mark) (sym last) none
bare_placed history prior line last before bare = tt

bare_pushed : (prior : List LogLine) (line : LogLine) → list_any is_placed_hello prior ≡ false → IsBare line → list_any is_placed_hello (prior ++ line ∷ []) ≡ false
bare_pushed prior line none bare =
    list_any-append is_placed_hello prior (line ∷ [])
    ∙ ap (λ b. b || (is_placed_hello line || false)) none
    ∙ ap (λ b. b || false) (bare_unplaced line bare)

-- what has its place behind lines without a position
abbrev HasPlace : List Input → List LogLine → Type 0
HasPlace history ys = (prior : List LogLine) → list_any is_placed_hello prior ≡ false → PlacedAfter history prior ys

bares_placed : (history : List Input) (xs ys prior : List LogLine) → AllByRecursion IsBare xs → last_mark prior ≡ Some None → list_any is_placed_hello prior ≡ false
    → HasPlace history ys → PlacedAfter history prior (xs ++ ys)
bares_placed history [] ys prior bare last none behind = behind prior none
bares_placed history (x ∷ xs) ys prior bare last none behind =
    placed_first history prior x (xs ++ ys) (bare_placed history prior x last none bare.0)
    (bares_placed history xs ys (prior ++ x ∷ []) bare.1 (mark_pushed prior x None bare.0) (bare_pushed prior x none bare.0) behind)

-- where the first of them is a Hello, they can stand at the beginning
greeted_placed : (history : List Input) (xs ys : List LogLine) → AllByRecursion IsBare xs → GreetsFirst xs → HasPlace history ys → Each (IsPlaced history) (xs ++ ys)
greeted_placed history [] ys bare begins behind = behind [] refl
greeted_placed history (x ∷ xs) ys bare begins behind =
    placed_first history [] x (xs ++ ys) (subst (IsPlaced history []) (sym begins.1) refl)
    (bares_placed history xs ys (x ∷ []) bare.1 bare.0 (bare_pushed [] x refl bare.0) behind)

pub bare_first_placed : (history : List Input) (xs : List LogLine) → AllByRecursion IsBare xs → GreetsFirst xs → Each (IsPlaced history) xs
bare_first_placed history xs bare begins =
    subst (Each (IsPlaced history)) (append-nil xs) (greeted_placed history xs [] bare begins (λ prior none. placed_nothing history prior))

pub told_behind_placed : (history : List Input) (k position : ℕ) (services : List ℕ) (xs ys : List LogLine) → OpensAt history position k → RisingLines position ys
    → AllByRecursion IsBare xs → GreetsFirst xs → Each (IsPlaced history) (xs ++ lines.Hello (Some position) services ∷ ys)
told_behind_placed history k position services xs ys opened rises bare begins =
    greeted_placed history xs (lines.Hello (Some position) services ∷ ys) bare begins (told_placed history k position services ys opened rises)

-- ---- the last position

no_mark : (position : ℕ) → None ≡ Some (Some position) → ⊥
no_mark position e = cc

other_mark : (mark : Option (Option ℕ)) (here : Option (Option ℕ)) (position : ℕ) → here ≡ Some None → (mark ≡ Some (Some position) → ⊥) → later_or mark here ≡ Some (Some position) → ⊥
other_mark None here position bare other is = absurd cc
other_mark (Some mark) here position bare other is = other is

-- where no line has one, the last one has none
pub last_bare : (xs : List LogLine) (position : ℕ) → AllByRecursion IsBare xs → last_mark xs ≡ Some (Some position) → ⊥
last_bare [] position bare is = no_mark position is
last_bare (x ∷ xs) position bare is = other_mark (last_mark xs) (mark_of x) position bare.0 (last_bare xs position bare.1) is
