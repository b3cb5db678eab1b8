-- Where a history opens a channel, and the lines from its Hello on.
use Rattle.std.proofs.Common.{◌≡◌, ℕ, zero, suc, ◌-◌, ◌||◌, Bool, true, false, cond, List, [], ◌∷◌, ◌++◌, length, refl, sym, ◌∙◌, ap, subst, arith}
use Rattle.std.specs.Prelude.{◌↔◌, IfNone, IfSome, Option, Some, None, is_some, slice_get}
use Rattle.std.proofs.lemmas.Bool.{false≢true}
use Rattle.std.proofs.lemmas.Option.{none-some}
use Rattle.std.specs.List.{list_any}
use Rattle.target_hub.specs.Ordered.{IsChannelOf, OpensAt, hello_position}
use Rattle.target_hub.specs.declared.input.Input.{Input}
use Rattle.target_hub.specs.declared.input.Input.TheVariants.{Opened, Closed}
use Rattle.tcf_text.specs.Lines.{from_hello, is_placed_hello}
use Rattle.tcf_text.specs.declared.log.LogLine.{LogLine}
use Rattle.tcf_text.specs.declared.log.LogLine.TheVariants.{Sent, Refused, Hello, Event, Progress, Final, Unknown, Closed, Ended, Cached}
use Rattle.log_check.specs.Placed.{OpensThere, placed_position}

-- ---- an element and its place

record IsThere {A : Type 0} (xs : List A) (i : ℕ) (x : A) : Type 0 where
  pub before : List A
  pub after : List A
  pub split : xs ≡ before ++ x ∷ after
  pub place : length before ≡ i

is_there : {A : Type 0} → (i : ℕ) (xs : List A) (x : A) → slice_get xs i ≡ Some x → IsThere xs i x
is_there i [] x is = absurd cc
is_there zero (y ∷ xs) x is = let same : y ≡ x = cc in record { before = []; after = xs; split = ap (λ z. z ∷ xs) same; place = refl }
is_there (suc i) (y ∷ xs) x is =
    let rest = is_there i xs x is in
    record { before = y ∷ rest.before; after = rest.after; split = ap (λ l. y ∷ l) rest.split; place = ap suc rest.place }

there_is : {A : Type 0} → (before after : List A) (x : A) → slice_get (before ++ x ∷ after) (length before) ≡ Some x
there_is [] after x = refl
there_is (b ∷ before) after x = there_is before after x

pub opens_at_get : (inputs : List Input) (position k : ℕ) (input : Input) → (position ≡ 0 → ⊥) → slice_get inputs (position - 1) ≡ Some input → input ≡ Opened k → OpensAt inputs position k
opens_at_get inputs position k input some is opens =
    let there = is_there (position - 1) inputs (Opened k) (is ∙ ap (λ i. Some i) opens) in
    record { before = there.before; after = there.after; split = there.split; place = omega (arith, some, there.place) }

get_opens : (inputs : List Input) (position k : ℕ) → OpensAt inputs position k → slice_get inputs (position - 1) ≡ Some (Opened k)
get_opens inputs position k opens =
    ap (λ l. slice_get l (position - 1)) opens.split
    ∙ (ap (slice_get (opens.before ++ Opened k ∷ opens.after)) {x = position - 1} {y = length opens.before} (omega (arith, opens.place)) ∙ there_is opens.before opens.after (Opened k))

-- another input stands there, or none
pub never_opens : (inputs : List Input) (position : ℕ) (input : Input) → slice_get inputs (position - 1) ≡ Some input → ((k : ℕ) → input ≡ Opened k → ⊥) → (k : ℕ) → OpensAt inputs position k → ⊥
never_opens inputs position input is other k opens = other k (same_input (sym is ∙ get_opens inputs position k opens))
  where
    same_input : Some input ≡ Some (Opened k) → input ≡ Opened k
    same_input e = cc

pub never_within : (inputs : List Input) (position : ℕ) → slice_get inputs (position - 1) ≡ None → (k : ℕ) → OpensAt inputs position k → ⊥
never_within inputs position none k opens = no_input (sym none ∙ get_opens inputs position k opens)
  where
    no_input : None ≡ Some (Opened k) → ⊥
    no_input e = cc

pub never_at_zero : (inputs : List Input) (position : ℕ) → position ≡ 0 → (k : ℕ) → OpensAt inputs position k → ⊥
never_at_zero inputs position is k opens = omega (arith, is, opens.place)

-- ---- from the Hello on

none_from : (lines : List LogLine) → list_any is_placed_hello lines ≡ false → from_hello lines ≡ []
none_from [] none = refl
none_from (line ∷ lines) none = by_flags (is_placed_hello line) (list_any is_placed_hello lines) none
  where
    by_flags : (here later : Bool) → (here || later) ≡ false → cond later (from_hello lines) (cond here (line ∷ lines) []) ≡ []
    by_flags true later off = absurd cc
    by_flags false true off = absurd cc
    by_flags false false off = refl

-- the lines from the last Hello with a position on are those of the rest, where it has one, and else these
pub record From (lines rest from : List LogLine) : Type 0 where
  pub is : from_hello lines ≡ cond (list_any is_placed_hello rest) (from_hello rest) from

pub from_first : (lines from : List LogLine) → from ≡ [] → From lines lines from
from_first lines from none = record { is = by_flag (list_any is_placed_hello lines) refl }
  where
    by_flag : (flag : Bool) → list_any is_placed_hello lines ≡ flag → from_hello lines ≡ cond flag (from_hello lines) from
    by_flag true e = refl
    by_flag false e = none_from lines e ∙ sym none

pub from_next : (lines rest after from from' : List LogLine) (line : LogLine) → From lines rest from → rest ≡ line ∷ after → from' ≡ cond (is_placed_hello line) rest from
    → From lines after from'
from_next lines rest after from from' line so_far is chosen =
    record { is = so_far.is ∙ (ap (λ r. cond (list_any is_placed_hello r) (from_hello r) from) is ∙ (by_flags (is_placed_hello line) (list_any is_placed_hello after) ∙ ap (cond (list_any is_placed_hello after) (from_hello after)) (sym now))) }
  where
    now : from' ≡ cond (is_placed_hello line) (line ∷ after) from
    now = chosen ∙ ap (λ r. cond (is_placed_hello line) r from) is

    by_flags : (here later : Bool) → cond (here || later) (cond later (from_hello after) (cond here (line ∷ after) [])) from ≡ cond later (from_hello after) (cond here (line ∷ after) from)
    by_flags true true = refl
    by_flags true false = refl
    by_flags false true = refl
    by_flags false false = refl

pub from_last : (lines rest from : List LogLine) → From lines rest from → rest ≡ [] → from ≡ from_hello lines
from_last lines rest from so_far none = sym (so_far.is ∙ ap (λ r. cond (list_any is_placed_hello r) (from_hello r) from) none)

-- ---- the position of the Hello, and the channel

first_placed : (lines rest : List LogLine) (line : LogLine) → from_hello lines ≡ line ∷ rest → is_placed_hello line ≡ true
first_placed [] rest line is = absurd cc
first_placed (l ∷ lines) rest line is = by_flags (is_placed_hello l) (list_any is_placed_hello lines) refl (λ e. first_placed lines rest line e) is
  where
    by_flags : (here later : Bool) → is_placed_hello l ≡ here → (from_hello lines ≡ line ∷ rest → is_placed_hello line ≡ true)
        → cond later (from_hello lines) (cond here (l ∷ lines) []) ≡ line ∷ rest → is_placed_hello line ≡ true
    by_flags here true here_is deeper e = deeper e
    by_flags true false here_is deeper e = let same : l ≡ line = cc in subst (λ x. is_placed_hello x ≡ true) same here_is
    by_flags false false here_is deeper e = absurd cc

position_of : (line : LogLine) (rest : List LogLine) → is_placed_hello line ≡ true → placed_position line ≡ hello_position (line ∷ rest)
position_of (Sent number service name body) rest is = absurd (false≢true is)
position_of (Refused why) rest is = absurd (false≢true is)
position_of (Hello None body) rest is = absurd (false≢true is)
position_of (Hello (Some position) body) rest is = refl
position_of (Event mark service name body) rest is = absurd (false≢true is)
position_of (Progress number mark body) rest is = absurd (false≢true is)
position_of (Final number mark body) rest is = absurd (false≢true is)
position_of (Unknown number mark) rest is = absurd (false≢true is)
position_of (Closed number) rest is = absurd (false≢true is)
position_of (Ended why) rest is = absurd (false≢true is)
position_of (Cached what value) rest is = absurd (false≢true is)

pub position_first : (lines from rest : List LogLine) (line : LogLine) → from ≡ from_hello lines → from ≡ line ∷ rest → placed_position line ≡ hello_position (from_hello lines)
position_first lines from rest line is first =
    let begins : from_hello lines ≡ line ∷ rest = sym is ∙ first in position_of line rest (first_placed lines rest line begins) ∙ ap hello_position (sym begins)

pub position_nowhere : (lines from : List LogLine) → from ≡ from_hello lines → from ≡ [] → None ≡ hello_position (from_hello lines)
position_nowhere lines from is none = ap hello_position {x = []} {y = from_hello lines} (sym none ∙ is)

pub channel_is : (inputs : List Input) (lines : List LogLine) (position k : ℕ) → Some position ≡ hello_position (from_hello lines) → OpensAt inputs position k → IsChannelOf lines inputs k
channel_is inputs lines position k is opens = record { position = position; hello = sym is; opened = opens }

same_position : (p q : ℕ) → ◌≡◌ {A = Option ℕ} (Some p) (Some q) → p ≡ q
same_position p q e = cc

pub channel_isnt : (inputs : List Input) (lines : List LogLine) (position : ℕ) → Some position ≡ hello_position (from_hello lines) → ((k : ℕ) → OpensAt inputs position k → ⊥)
    → (k : ℕ) → IsChannelOf lines inputs k → ⊥
channel_isnt inputs lines position is never k on = never k (subst (λ p. OpensAt inputs p k) (same_position on.position position (sym on.hello ∙ sym is)) on.opened)

pub no_hello : (inputs : List Input) (lines : List LogLine) → None ≡ hello_position (from_hello lines) → (k : ℕ) → IsChannelOf lines inputs k → ⊥
no_hello inputs lines is k on = none-some on.position (is ∙ on.hello)

-- a log is made on one channel
pub one_channel : (lines : List LogLine) (inputs : List Input) (k j : ℕ) → IsChannelOf lines inputs k → IsChannelOf lines inputs j → k ≡ j
one_channel lines inputs k j one other =
    let place : one.position ≡ other.position = same_position one.position other.position (sym one.hello ∙ other.hello) in
    same_opened (sym (get_opens inputs one.position k one.opened) ∙ get_opens inputs one.position j (subst (λ p. OpensAt inputs p j) (sym place) other.opened))
  where
    same_opened : Some (Opened k) ≡ Some (Opened j) → k ≡ j
    same_opened e = cc

-- whether a channel was found
pub opens_by : (inputs : List Input) (position : ℕ) (found : Option ℕ) (flag : Bool) → IfSome found (OpensAt inputs position) → IfNone found ((k : ℕ) → OpensAt inputs position k → ⊥)
    → flag ≡ is_some found → (flag ≡ true) ↔ OpensThere inputs (Some position)
opens_by inputs position None flag some none is = ((λ e. absurd (false≢true (sym is ∙ e))), (λ opens. absurd (none opens.0 opens.1)))
opens_by inputs position (Some k) flag some none is = ((λ e. (k, some)), (λ opens. is))
