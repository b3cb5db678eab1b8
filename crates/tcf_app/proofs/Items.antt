-- What is shown of items.
use Rattle.std.proofs.Common.{◌≡◌, ℕ, suc, ◌+◌, ◌<◌, ◌≤◌, List, [], ◌∷◌, ◌++◌, length, refl, sym, ap, ◌∙◌, subst, arith, append_assoc, append-nil, add_assoc, add-zero, zero-add, add-one, drop, drop-cons, get_or}
use Rattle.std.specs.Prelude.{Option, Some, None, Result, Ok, Err}
use Rattle.std.proofs.lemmas.List.{drop_all}
use Rattle.stream_escape.specs.declared.stream.Item.{Item}
use Rattle.stream_escape.specs.declared.stream.Item.TheVariants.{Message, End}
use Rattle.stream_escape.specs.Stream.{framed}
use Rattle.stream_escape.specs.Value.{capped}
use Rattle.tcf_message.specs.declared.message.MessageFault.{MessageFault}
use Rattle.tcf_message.specs.Message.{MessageValue, reading}
use Rattle.tcf_text.specs.Shown.{message_line}
use Rattle.tcf_app.specs.declared.exit.BadPlace.{BadPlace}
use Rattle.tcf_app.specs.declared.exit.StreamWhat.{StreamWhat}
use Rattle.tcf_app.specs.Show.{Shown, bad_at, what_of, eos_line, onto, shown_message, shown_items}
use Rattle.tcf_app.specs.Pieces.{frame_length, frames_length}
use Rattle.stream_escape.proofs.Cuts.{capped_twice}

-- these lines, and this bad place
abbrev pub shown_as : List ℕ → Option BadPlace → Shown
shown_as text bad = record { text = text; bad = bad }

-- these lines, and where nothing is bad, what is shown behind them
abbrev pub joined : List ℕ → Option BadPlace → Shown → Shown
joined text None later = onto text later
joined text (Some bad) later = shown_as text (Some bad)

onto_onto : (a b : List ℕ) (s : Shown) → onto a (onto b s) ≡ onto (a ++ b) s
onto_onto a b s = ap (λ t. shown_as t s.bad) (sym (append_assoc a b s.text))

onto_joined : (line text : List ℕ) (bad : Option BadPlace) (later : Shown) → onto line (joined text bad later) ≡ joined (line ++ text) bad later
onto_joined line text None later = onto_onto line text later
onto_joined line text (Some bad) later = refl

-- ---- Places count as far as they can

pub bad_at_capped : (place : ℕ) (what : StreamWhat) → bad_at (capped place) what ≡ bad_at place what
bad_at_capped place what =
    let same : capped (capped place) ≡ capped place = omega arith in
    let at : ℕ → BadPlace = λ n. record { offset = n; what = what } in
    ap at same

message_capped : (place : ℕ) (r : Result MessageValue MessageFault) (a b : Shown) → a ≡ b → shown_message (capped place) r a ≡ shown_message place r b
message_capped place (Ok message) a b e = ap (λ s. onto (message_line message) s) e
message_capped place (Err fault) a b e = ap (λ x. shown_as [] (Some x)) (bad_at_capped place (what_of fault))

pub shown_capped : (place : ℕ) (items : List Item) (behind : Option BadPlace) → shown_items (capped place) items behind ≡ shown_items place items behind
shown_capped place [] behind = refl
shown_capped place (End ∷ items) behind = ap (λ s. onto eos_line s) (shown_capped place items behind)
shown_capped place (Message bytes ∷ items) behind =
    let n = length (framed bytes) in
    message_capped place (reading bytes) (shown_items (capped place + n) items behind) (shown_items (place + n) items behind)
    (sym (shown_capped (capped place + n) items behind) ∙ ap (λ m. shown_items m items behind) (capped_twice place n) ∙ shown_capped (place + n) items behind)

-- ---- Items behind items

message_joined : (place : ℕ) (r : Result MessageValue MessageFault) (all first later : Shown) → all ≡ joined first.text first.bad later
    → shown_message place r all ≡ joined (shown_message place r first).text (shown_message place r first).bad later
message_joined place (Ok message) all first later e = ap (λ s. onto (message_line message) s) e ∙ onto_joined (message_line message) first.text first.bad later
message_joined place (Err fault) all first later e = refl

pub shown_append : (place : ℕ) (items more : List Item) (behind : Option BadPlace)
    → shown_items place (items ++ more) behind
    ≡ joined (shown_items place items None).text (shown_items place items None).bad (shown_items (place + frames_length items) more behind)
shown_append place [] more behind = rw add-zero refl
shown_append place (End ∷ items) more behind =
    let first = shown_items place items None in
    let later = shown_items (place + frames_length items) more behind in
    rw zero-add (ap (λ s. onto eos_line s) (shown_append place items more behind) ∙ onto_joined eos_line first.text first.bad later)
shown_append place (Message bytes ∷ items) more behind =
    let n = length (framed bytes) in
    let P : ℕ → Type 0 = λ m. shown_items (place + n) (items ++ more) behind
    ≡ joined (shown_items (place + n) items None).text (shown_items (place + n) items None).bad (shown_items m more behind) in
    message_joined place (reading bytes) (shown_items (place + n) (items ++ more) behind) (shown_items (place + n) items None) (shown_items (place + (n + frames_length items)) more behind)
    (subst P (add_assoc place n (frames_length items)) (shown_append (place + n) items more behind))

-- what is shown of items behind which something is bad
pub shown_behind : (place : ℕ) (items : List Item) (behind : Option BadPlace)
    → shown_items place items behind ≡ joined (shown_items place items None).text (shown_items place items None).bad (shown_as [] behind)
shown_behind place items behind =
    let P : List Item → Type 0 = λ its. shown_items place its behind
    ≡ joined (shown_items place items None).text (shown_items place items None).bad (shown_as [] behind) in
    subst P (append-nil items) (shown_append place items [] behind)

-- ---- One item after another

-- a good item, and then the others
pub item_good : (place next : ℕ) (item : Item) (rest : List Item) → (shown_items place (item ∷ []) None).bad ≡ None → next ≡ capped (place + frame_length item)
    → shown_items place (item ∷ rest) None ≡ onto (shown_items place (item ∷ []) None).text (shown_items next rest None)
item_good place next item rest good behind =
    let line = (shown_items place (item ∷ []) None).text in
    let later = shown_items (place + frames_length (item ∷ [])) rest None in
    let here : place + frames_length (item ∷ []) ≡ place + frame_length item = ap (λ n. place + n) (add-zero (frame_length item)) in
    shown_append place (item ∷ []) rest None
    ∙ ap (λ b. joined line b later) good
    ∙ ap (λ n. onto line (shown_items n rest None)) here
    ∙ ap (λ s. onto line s) (sym (shown_capped (place + frame_length item) rest None))
    ∙ ap (λ n. onto line (shown_items n rest None)) (sym behind)

-- a bad item, whatever the others are
pub item_bad : (place : ℕ) (item : Item) (rest : List Item) (bad : BadPlace) → (shown_items place (item ∷ []) None).bad ≡ Some bad
    → shown_items place (item ∷ rest) None ≡ shown_items place (item ∷ []) None
item_bad place item rest bad is =
    let line = (shown_items place (item ∷ []) None).text in
    let later = shown_items (place + frames_length (item ∷ [])) rest None in
    shown_append place (item ∷ []) rest None ∙ ap (λ b. joined line b later) is ∙ ap (λ b. shown_as line b) (sym is)

-- the items from an index on
pub items_from : (items : List Item) (i : ℕ) (item : Item) → i < length items → item ≡ get_or items i item → drop i items ≡ item ∷ drop (i + 1) items
items_from items i item some is = rw add-one (drop-cons items i item some ∙ ap (λ x. x ∷ drop (suc i) items) (sym is))

-- What was said of all items, after a good one: their lines,
pub kept_text : (place next : ℕ) (rest more : List Item) (item : Item) (all text new : List ℕ) → rest ≡ item ∷ more
    → (shown_items place (item ∷ []) None).bad ≡ None → next ≡ capped (place + frame_length item) → new ≡ text ++ (shown_items place (item ∷ []) None).text
    → all ≡ text ++ (shown_items place rest None).text → all ≡ new ++ (shown_items next more None).text
kept_text place next rest more item all text new is good behind line so_far =
    let first = (shown_items place (item ∷ []) None).text in
    let later = (shown_items next more None).text in
    so_far
    ∙ ap (λ r. text ++ (shown_items place r None).text) is
    ∙ ap (λ s. text ++ s.text) (item_good place next item more good behind)
    ∙ sym (append_assoc text first later)
    ∙ ap (λ t. t ++ later) (sym line)

-- the bad place,
pub kept_bad : (place next : ℕ) (rest more : List Item) (item : Item) (bad : Option BadPlace) → rest ≡ item ∷ more
    → (shown_items place (item ∷ []) None).bad ≡ None → next ≡ capped (place + frame_length item)
    → bad ≡ (shown_items place rest None).bad → bad ≡ (shown_items next more None).bad
kept_bad place next rest more item bad is good behind so_far =
    so_far ∙ ap (λ r. (shown_items place r None).bad) is ∙ ap (λ (s : Shown). s.bad) (item_good place next item more good behind)

-- and the place behind them
pub kept_place : (place next end : ℕ) (rest more : List Item) (item : Item) → rest ≡ item ∷ more → next ≡ capped (place + frame_length item)
    → end ≡ capped (place + frames_length rest) → end ≡ capped (next + frames_length more)
kept_place place next end rest more item is behind so_far =
    so_far
    ∙ ap (λ r. capped (place + frames_length r)) is
    ∙ ap capped (sym (add_assoc place (frame_length item) (frames_length more)))
    ∙ sym (capped_twice (place + frame_length item) (frames_length more))
    ∙ ap (λ n. capped (n + frames_length more)) (sym behind)

-- no item is left
pub kept_end : (place : ℕ) (rest : List Item) (end : ℕ) → rest ≡ [] → place ≡ capped place → end ≡ capped (place + frames_length rest) → place ≡ end
kept_end place rest end none fits so_far =
    fits ∙ ap capped (sym (add-zero place)) ∙ ap (λ r. capped (place + frames_length r)) (sym none) ∙ sym so_far

-- no item is left behind the last one
pub no_items : (items : List Item) (i : ℕ) → length items ≤ i → drop i items ≡ []
no_items items i all = drop_all i items all
