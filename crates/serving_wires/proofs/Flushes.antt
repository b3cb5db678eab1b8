-- Wire by wire, what is queued is put.
use Rattle.std.proofs.Common.{◌≡◌, ℕ, zero, suc, ◌+◌, ◌<◌, ◌≤◌, List, [], ◌∷◌, ◌++◌, length, None, Some, refl, sym, ap, ◌∙◌, subst, arith, add-one, append-nil, append_assoc}
use Rattle.std.specs.Prelude.{Err, Ok, OnErr, Result}
use Rattle.std.proofs.lemmas.Option.{none-some, same_Some}
use Rattle.tcf_wires.specs.Told.{WiresSeen}
use Rattle.tcf_wires.specs.declared.call.WireCall.{WireCall}
use Rattle.serving_wires.proofs.Making.{makes_both, makes_none, makes_so}
use Rattle.serving_wires.specs.Calls.{Makes}
use Rattle.serving_wires.specs.Flushing.{FlushesAll, GivesUpAll, HasOutbox, no_rows, one_more}
use Rattle.serving_wires.specs.Outbox.{Flushes, IsGivenUp}
use Rattle.serving_wires.specs.OutboxValue.{OutboxValue}
use Rattle.serving_wires.specs.Row.{Row}
use Rattle.serving_wires.specs.Rows.{item_at, with_item, with_item_at}
use Rattle.serving_wires.proofs.Rows.{with_behind}

-- the wires before a place are flushed
pub data FlushedTo {T : Type 0} (has : HasOutbox T) : ℕ → List (Row T) → List (Row T) → List WireCall → Type 0 where
  begin : (rows : List (Row T)) → FlushedTo has zero rows rows []
  past : (place : ℕ) (row : Row T) (outbox : OutboxValue) (olds nows : List (Row T)) (first rest : List WireCall)
      → Flushes (has.outbox row.item) outbox first → FlushedTo has place olds nows rest
      → FlushedTo has (suc place) (row ∷ olds) (with_item (has.with_outbox outbox row.item) row ∷ nows) (first ++ rest)

one_flushed : {T : Type 0} → (has : HasOutbox T) (place : ℕ) (olds nows : List (Row T)) (calls more : List WireCall) (item : T) (outbox : OutboxValue) → FlushedTo has place olds nows calls
    → item_at place nows ≡ Some item → Flushes (has.outbox item) outbox more → FlushedTo has (suc place) olds (with_item_at place (has.with_outbox outbox item) nows) (calls ++ more)
one_flushed {T = T} has place olds nows calls more item outbox (begin []) is flush = absurd (none-some item is)
one_flushed {T = T} has place olds nows calls more item outbox (begin (row ∷ rows)) is flush =
    let same : row.item ≡ item = same_Some row.item item is in
    let so : Flushes (has.outbox row.item) outbox more = subst (λ (i : T). Flushes (has.outbox i) outbox more) (sym same) flush in
    subst (λ (i : T). FlushedTo has 1 (row ∷ rows) (with_item_at 0 (has.with_outbox outbox i) (row ∷ rows)) more) same
    (subst (λ (cs : List WireCall). FlushedTo has 1 (row ∷ rows) (with_item (has.with_outbox outbox row.item) row ∷ rows) cs) (append-nil more) (past zero row outbox rows rows more [] so (begin rows)))
one_flushed {T = T} has place olds nows calls more item outbox (past before row first_outbox olds2 nows2 first rest one flushed) is flush =
    let done : Row T = with_item (has.with_outbox first_outbox row.item) row in
    let new : T = has.with_outbox outbox item in
    subst (λ (rs : List (Row T)). FlushedTo has (suc (suc before)) (row ∷ olds2) rs ((first ++ rest) ++ more)) (sym (with_behind before new done nows2))
    (subst (λ (cs : List WireCall). FlushedTo has (suc (suc before)) (row ∷ olds2) (done ∷ with_item_at before new nows2) cs) (sym (append_assoc first rest more))
    (past (suc before) row first_outbox olds2 (with_item_at before new nows2) first (rest ++ more) one (one_flushed has before olds2 nows2 rest more item outbox flushed is flush)))

pub next_flushed : {T : Type 0} → (has : HasOutbox T) (place : ℕ) (olds nows : List (Row T)) (calls more : List WireCall) (item : T) (outbox : OutboxValue) → FlushedTo has place olds nows calls
    → item_at place nows ≡ Some item → Flushes (has.outbox item) outbox more → FlushedTo has (place + 1) olds (with_item_at place (has.with_outbox outbox item) nows) (calls ++ more)
next_flushed has place olds nows calls more item outbox flushed is flush = rw add-one (one_flushed has place olds nows calls more item outbox flushed is flush)

pub given_up : {T : Type 0} → (has : HasOutbox T) (place : ℕ) (olds nows : List (Row T)) (calls more : List WireCall) (item : T) → FlushedTo has place olds nows calls
    → item_at place nows ≡ Some item → IsGivenUp (has.outbox item) more → GivesUpAll has olds (calls ++ more)
given_up {T = T} has place olds nows calls more item (begin []) is up = absurd (none-some item is)
given_up {T = T} has place olds nows calls more item (begin (row ∷ rows)) is up =
    record {
      before = [];
      row = row;
      behind = rows;
      split = refl;
      news = [];
      first = [];
      flushes = no_rows;
      rest = more;
      given_up = subst (λ (i : T). IsGivenUp (has.outbox i) more) (sym (same_Some row.item item is)) up;
      called = refl;
    }
given_up {T = T} has place olds nows calls more item (past before row outbox olds2 nows2 first rest one flushed) is up =
    let u = given_up has before olds2 nows2 rest more item flushed is up in
    record {
      before = row ∷ u.before;
      row = u.row;
      behind = u.behind;
      split = ap (λ (rs : List (Row T)). row ∷ rs) u.split;
      news = with_item (has.with_outbox outbox row.item) row ∷ u.news;
      first = first ++ u.first;
      flushes = one_more row outbox u.before u.news first u.first one u.flushes;
      rest = u.rest;
      given_up = u.given_up;
      called = append_assoc first rest more ∙ ap (λ (cs : List WireCall). first ++ cs) u.called ∙ sym (append_assoc first u.first u.rest);
    }

pub all_flushed : {T : Type 0} → (has : HasOutbox T) (place : ℕ) (olds nows : List (Row T)) (calls : List WireCall) → FlushedTo has place olds nows calls → length nows ≤ place → FlushesAll has olds nows calls
all_flushed has place olds nows calls (begin []) past_all = no_rows
all_flushed has place olds nows calls (begin (row ∷ rows)) past_all = absurd (omega (arith, past_all))
all_flushed has place olds nows calls (past before row outbox olds2 nows2 first rest one flushed) past_all =
    one_more row outbox olds2 nows2 first rest one (all_flushed has before olds2 nows2 rest flushed (omega (arith, past_all)))

-- ---- as the code goes on

-- an item put in its place leaves as many
pub as_many : {T : Type 0} → (place : ℕ) (item : T) (rows : List (Row T)) → length (with_item_at place item rows) ≡ length rows
as_many {T = T} place item [] = refl
as_many {T = T} zero item (row ∷ rows) = refl
as_many {T = T} (suc place) item (row ∷ rows) = ap (λ (rs : List (Row T)). length rs) (with_behind place item row rows) ∙ ap suc (as_many place item rows)

pub record PutTo {T : Type 0} (has : HasOutbox T) (place : ℕ) (olds nows : List (Row T)) (seen seen_then : WiresSeen) : Type 0 where
  pub flushed : Makes (FlushedTo has place olds nows) seen seen_then
  pub count : length nows ≡ length olds

pub put_begins : {T : Type 0} → (has : HasOutbox T) (rows : List (Row T)) (seen : WiresSeen) → PutTo has 0 rows rows seen seen
put_begins has rows seen = record { flushed = makes_none (FlushedTo has 0 rows rows) seen (begin rows); count = refl }

pub put_step : {T : Type 0} → (has : HasOutbox T) (place : ℕ) (olds nows : List (Row T)) (item after : T) (seen seen_mid seen_then : WiresSeen)
    → PutTo has place olds nows seen seen_mid → item_at place nows ≡ Some item → after ≡ has.with_outbox (has.outbox after) item
    → Makes (Flushes (has.outbox item) (has.outbox after)) seen_mid seen_then
    → PutTo has (place + 1) olds (with_item_at place after nows) seen seen_then
put_step {T = T} has place olds nows item after seen seen_mid seen_then so is kept flush =
    record {
      flushed = makes_both (FlushedTo has place olds nows) (Flushes (has.outbox item) (has.outbox after)) (FlushedTo has (place + 1) olds (with_item_at place after nows))
          seen seen_mid seen_then
          (λ calls more flushed one. subst (λ (i : T). FlushedTo has (place + 1) olds (with_item_at place i nows) (calls ++ more)) (sym kept)
          (next_flushed has place olds nows calls more item (has.outbox after) flushed is one)) so.flushed flush;
      count = as_many place after nows ∙ so.count;
    }

pub put_cut : {T : Type 0} → (has : HasOutbox T) (place : ℕ) (olds nows : List (Row T)) (item : T) (seen seen_mid seen_then : WiresSeen)
    → PutTo has place olds nows seen seen_mid → item_at place nows ≡ Some item → Makes (IsGivenUp (has.outbox item)) seen_mid seen_then
    → Makes (GivesUpAll has olds) seen seen_then
put_cut has place olds nows item seen seen_mid seen_then so is up =
    makes_both (FlushedTo has place olds nows) (IsGivenUp (has.outbox item)) (GivesUpAll has olds) seen seen_mid seen_then
    (λ calls more flushed one. given_up has place olds nows calls more item flushed is one) so.flushed up

pub put_done : {T : Type 0} → (has : HasOutbox T) (place end : ℕ) (olds nows : List (Row T)) (seen seen_then : WiresSeen)
    → PutTo has place olds nows seen seen_then → end ≡ length olds → end ≤ place → Makes (FlushesAll has olds nows) seen seen_then
put_done has place end olds nows seen seen_then so all past_all =
    makes_so (FlushedTo has place olds nows) (FlushesAll has olds nows) seen seen_then
    (λ calls flushed. all_flushed has place olds nows calls flushed (omega (arith, so.count, all, past_all))) so.flushed

pub never_missing : {T : Type 0} → (place : ℕ) (rows : List (Row T)) → item_at place rows ≡ None → place < length rows → ⊥
never_missing place [] is within = absurd (omega (arith, within))
never_missing zero (row ∷ rows) is within = none-some row.item (sym is)
never_missing (suc place) (row ∷ rows) is within = never_missing place rows is (omega (arith, within))

pub within_olds : {T : Type 0} → (place end : ℕ) (olds nows : List (Row T)) → place < end → end ≡ length olds → length nows ≡ length olds → place < length nows
within_olds place end olds nows less all count = omega (arith, less, all, count)

pub on_any : {A E : Type 0} (result : Result A E) (P : Type 0) → P → OnErr result P
on_any (Ok value) P p = tt
on_any (Err error) P p = p
