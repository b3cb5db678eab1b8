-- What the sides have to send is queued, line by line.
use Rattle.std.proofs.Common.{◌≡◌, ℕ, zero, suc, ◌+◌, ◌-◌, ◌<◌, ◌≤◌, Bool, true, false, cond, not, List, [], ◌∷◌, drop, length, Option, Some, None, refl, sym, ap, ◌∙◌, subst, arith}
use Rattle.std.specs.Prelude.{filter, remove}
use Rattle.hub_node.specs.HubValue.{HubValue}
use Rattle.hub_node.specs.declared.side.HubSide.{HubSide}
use Rattle.serving_wires.proofs.Leading.{Rows, goes_then}
use Rattle.serving_wires.specs.Going.{Goes, here, told}
use Rattle.serving_wires.specs.Order.{closes, queues}
use Rattle.serving_wires.specs.Process.{Process, done, tells}
use Rattle.serving_wires.specs.Row.{Row}
use Rattle.serving_wires.specs.Rows.{item_at}
use Rattle.serving_wires.specs.Sending.{closed_if, ordered}
use Rattle.hub_serving.specs.Gathering.{bytes_for, closing, emptied, emptied_of, gathered_rows, is_live_line, is_over_at, sent_of, sent_then, with_sent}
use Rattle.hub_serving.specs.Lines.{is_live_on}
use Rattle.hub_serving.specs.Passing.{Lines}
use Rattle.hub_serving.specs.declared.line.Line.{Line}
use Rattle.hub_serving.proofs.Taking.{at_place, past_place}

-- ---- one line

closing_goes : (flag : Bool) (peer : List ℕ) (n channel : ℕ) (p : Process HubValue) (rows : Rows) → Goes peer n n (closing flag channel p) p rows (closed_if flag channel rows) []
closing_goes true peer n channel p rows = told n n (closes channel) p p rows (ordered (closes channel) rows) [] (here n p (ordered (closes channel) rows))
closing_goes false peer n channel p rows = here n p rows

sent_goes : (peer : List ℕ) (n : ℕ) (line : Line) (h : HubValue) (p : Process HubValue) (rows : Rows) → Goes peer n n (sent_then line h p) p rows (with_sent line.side line.channel h rows) []
sent_goes peer n line h p rows =
    let flag = not (is_live_on line.side h) in
    let mid : Rows = ordered (queues line.channel (bytes_for line.side h)) rows in
    told n n (queues line.channel (bytes_for line.side h)) (closing flag line.channel p) p rows (closed_if flag line.channel mid) [] (closing_goes flag peer n line.channel p mid)

-- ---- from a place on

abbrev pub rest_from : ℕ → Lines → HubValue → Process HubValue
rest_from place lines h = gathered_rows (drop place lines) h

one_goes : (peer : List ℕ) (n place : ℕ) (lines : Lines) (line : Line) (h : HubValue) (rows : Rows) → item_at place lines ≡ Some line
    → Goes peer n n (rest_from place lines h) (rest_from (place + 1) lines (emptied line.side h)) rows (with_sent line.side line.channel h rows) []
one_goes peer n place lines line h rows is =
    let a = at_place place lines line is in
    let so : rest_from place lines h ≡ sent_then line h (rest_from (place + 1) lines (emptied line.side h)) =
    ap (λ (ls : Lines). gathered_rows ls h) a.1 ∙ ap (λ (l : Line). sent_then l h (rest_from (place + 1) lines (emptied l.side h))) a.2 in
    subst (λ (p : Process HubValue). Goes peer n n p (rest_from (place + 1) lines (emptied line.side h)) rows (with_sent line.side line.channel h rows) []) (sym so)
    (sent_goes peer n line h (rest_from (place + 1) lines (emptied line.side h)) rows)

past_all : (place : ℕ) (lines : Lines) → item_at place lines ≡ None → length lines ≤ place
past_all place [] none = omega arith
past_all zero (row ∷ rows) none = absurd cc
past_all (suc place) (row ∷ rows) none = let past = past_all place rows none in omega (arith, past)

none_at : (place : ℕ) (lines : Lines) → item_at place lines ≡ None → drop place lines ≡ drop (place + 1) lines
none_at place lines none = past_place place lines (past_all place lines none) ∙ sym (past_place (place + 1) lines (let past = past_all place lines none in omega (arith, past)))

any_goes : (peer : List ℕ) (n place : ℕ) (lines : Lines) (found : Option Line) (h : HubValue) (rows : Rows) → item_at place lines ≡ found
    → Goes peer n n (rest_from place lines h) (rest_from (place + 1) lines (emptied_of found h)) rows (sent_of found h rows) []
any_goes peer n place lines None h rows is =
    subst (λ (ls : Lines). Goes peer n n (rest_from place lines h) (gathered_rows ls h) rows rows []) (none_at place lines is) (here n (rest_from place lines h) rows)
any_goes peer n place lines (Some line) h rows is = one_goes peer n place lines line h rows is

-- ---- as the code goes on

abbrev pub GathersTo : Lines → HubValue → Rows → ℕ → HubValue → Rows → Type 0
GathersTo lines first olds place h rows = (peer : List ℕ) (n : ℕ) → Goes peer n n (gathered_rows lines first) (rest_from place lines h) olds rows []

pub gather_first : (lines : Lines) (h : HubValue) (rows : Rows) → GathersTo lines h rows 0 h rows
gather_first lines h rows = λ peer n. here n (gathered_rows lines h) rows

pub gather_next : (place : ℕ) (lines : Lines) (first h next : HubValue) (olds rows news : Rows) → next ≡ emptied_of (item_at place lines) h → news ≡ sent_of (item_at place lines) h rows
    → GathersTo lines first olds place h rows → GathersTo lines first olds (place + 1) next news
gather_next place lines first h next olds rows news hub sending so = λ peer n.
    rw (hub, sending)
    (goes_then peer n n n (gathered_rows lines first) (rest_from place lines h) (rest_from (place + 1) lines (emptied_of (item_at place lines) h)) olds rows (sent_of (item_at place lines) h rows) [] []
    (so peer n) (any_goes peer n place lines (item_at place lines) h rows refl))

pub gather_last : (place end : ℕ) (lines : Lines) (first h : HubValue) (olds rows : Rows) → end ≡ length lines → end ≤ place → GathersTo lines first olds place h rows
    → (peer : List ℕ) (n : ℕ) → Goes peer n n (gathered_rows lines first) (done h) olds rows []
gather_last place end lines first h olds rows all past so = λ peer n.
    subst (λ (ls : Lines). Goes peer n n (gathered_rows lines first) (gathered_rows ls h) olds rows []) (past_place place lines (omega (arith, all, past))) (so peer n)

-- ---- lines of sides that are closed are forgotten, from the last one on

abbrev pub kept_from : HubValue → ℕ → Lines → Lines
kept_from h zero rows = filter (is_live_line h) rows
kept_from h (suc place) [] = []
kept_from h (suc place) (row ∷ rows) = row ∷ kept_from h place rows

none_forgotten : (h : HubValue) (place : ℕ) (rows : Lines) → length rows ≤ place → kept_from h place rows ≡ rows
none_forgotten h zero [] past = refl
none_forgotten h zero (row ∷ rows) past = absurd (omega (arith, past))
none_forgotten h (suc place) [] past = refl
none_forgotten h (suc place) (row ∷ rows) past = ap (λ (rs : Lines). row ∷ rs) (none_forgotten h place rows (omega (arith, past)))

-- the line before a place is forgotten, or kept
first_by : (live : Bool) (row : Row Line) (rows : Lines) (flag : Bool) → not live ≡ flag → cond flag rows (row ∷ rows) ≡ cond live (row ∷ rows) rows
first_by true row rows flag is = ap (λ (b : Bool). cond b rows (row ∷ rows)) (sym is)
first_by false row rows flag is = ap (λ (b : Bool). cond b rows (row ∷ rows)) (sym is)

forgets_one : (h : HubValue) (place : ℕ) (rows : Lines) → place < length rows → is_over_at place h (kept_from h (suc place) rows) ≡ true
    → remove (kept_from h (suc place) rows) place ≡ kept_from h place rows
forgets_one h place [] within is = absurd (omega (arith, within))
forgets_one h zero (row ∷ rows) within is = first_by (is_live_line h row) row (filter (is_live_line h) rows) true is
forgets_one h (suc place) (row ∷ rows) within is = ap (λ (rs : Lines). row ∷ rs) (forgets_one h place rows (omega (arith, within)) is)

keeps_one : (h : HubValue) (place : ℕ) (rows : Lines) → place < length rows → is_over_at place h (kept_from h (suc place) rows) ≡ false → kept_from h (suc place) rows ≡ kept_from h place rows
keeps_one h place [] within is = absurd (omega (arith, within))
keeps_one h zero (row ∷ rows) within is = first_by (is_live_line h row) row (filter (is_live_line h) rows) false is
keeps_one h (suc place) (row ∷ rows) within is = ap (λ (rs : Lines). row ∷ rs) (keeps_one h place rows (omega (arith, within)) is)

last_place : (count gone_by place : ℕ) → gone_by < count → place ≡ count - 1 - gone_by → count - gone_by ≡ suc place
last_place count gone_by place fewer is = omega (arith, is, fewer)

next_place : (count gone_by place : ℕ) → gone_by < count → place ≡ count - 1 - gone_by → count - (gone_by + 1) ≡ place
next_place count gone_by place fewer is = omega (arith, is, fewer)

pub forgets_next : (h : HubValue) (count gone_by place : ℕ) (rows now : Lines) → count ≡ length rows → gone_by < count → place ≡ count - 1 - gone_by
    → now ≡ kept_from h (count - gone_by) rows → is_over_at place h now ≡ true → remove now place ≡ kept_from h (count - (gone_by + 1)) rows
forgets_next h count gone_by place rows now all fewer is so over =
    let at : now ≡ kept_from h (suc place) rows = so ∙ ap (λ (n : ℕ). kept_from h n rows) (last_place count gone_by place fewer is) in
    ap (λ (rs : Lines). remove rs place) at
    ∙ forgets_one h place rows (omega (arith, all, fewer, is)) (ap (λ (rs : Lines). is_over_at place h rs) (sym at) ∙ over)
    ∙ sym (ap (λ (n : ℕ). kept_from h n rows) (next_place count gone_by place fewer is))

pub keeps_next : (h : HubValue) (count gone_by place : ℕ) (rows now : Lines) → count ≡ length rows → gone_by < count → place ≡ count - 1 - gone_by
    → now ≡ kept_from h (count - gone_by) rows → is_over_at place h now ≡ false → now ≡ kept_from h (count - (gone_by + 1)) rows
keeps_next h count gone_by place rows now all fewer is so live =
    let at : now ≡ kept_from h (suc place) rows = so ∙ ap (λ (n : ℕ). kept_from h n rows) (last_place count gone_by place fewer is) in
    at ∙ keeps_one h place rows (omega (arith, all, fewer, is)) (ap (λ (rs : Lines). is_over_at place h rs) (sym at) ∙ live)
    ∙ sym (ap (λ (n : ℕ). kept_from h n rows) (next_place count gone_by place fewer is))

pub begins_whole : (h : HubValue) (count : ℕ) (rows : Lines) → count ≡ length rows → rows ≡ kept_from h (count - 0) rows
begins_whole h count rows all = sym (none_forgotten h (count - 0) rows (omega (arith, all)))
