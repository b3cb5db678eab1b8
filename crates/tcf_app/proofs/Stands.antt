-- How far a stream is shown that is read in pieces, and what is known of the whole file then.
use Rattle.std.proofs.Common.{◌≡◌, ◌≢◌, ℕ, ◌+◌, List, [], ◌∷◌, ◌++◌, length, take, drop, Bool, true, false, refl, sym, ap, ◌∙◌, subst, append_assoc, append-nil, zero-add, length-append, zero-le, inl, inr, take-append-drop}
use Rattle.std.proofs.Math.Seq.{take-append_seam}
use Rattle.std.specs.Prelude.{Option, None, Some, Result, Ok, Err, if◌then◌else◌, IfNone}
use Rattle.std.specs.Option.{option_or}
use Rattle.std.specs.Result.{result_err}
use Rattle.tcf_outside.specs.Sink.{SinkSeen, Took, added}
use Rattle.stream_escape.specs.declared.stream.Item.{Item}
use Rattle.stream_escape.specs.declared.stream.StreamFault.{StreamFault}
use Rattle.stream_escape.specs.declared.stream.StreamFault.TheVariants as faults
use Rattle.stream_escape.specs.Stream.{Ending, Reads, begun, Cause, bad_escape, too_long, after_end, Refuses, fault_at}
use Rattle.stream_escape.specs.Value.{UnescapeValue, capped, IsBetween, is_inside}
use Rattle.stream_escape.specs.Feeding.{Stops, Tells, Takes, Feeds}
use Rattle.stream_escape.proofs.TheLaws.{each_goes_on}
use Rattle.tcf_app.specs.declared.exit.BadPlace.{BadPlace}
use Rattle.tcf_app.specs.declared.exit.StreamWhat.TheVariants.{Unended}
use Rattle.tcf_app.specs.Show.{Shown, bad_at, what_for, onto, shown_items, unended, IsShown, PutsLines, PutsPart, whole, broken}
use Rattle.tcf_app.specs.Pieces.{frames_length, bad_behind, ShowsPiece}
use Rattle.tcf_app.proofs.Items.{shown_as, joined, bad_at_capped, shown_capped, shown_append, shown_behind}
use Rattle.tcf_app.proofs.Frames.{frames_append}
use Rattle.tcf_app.proofs.Endings.{added_nothing, added_twice}
use Rattle.stream_escape.proofs.Cuts.{capped_twice as capped_more}

-- what the items before have on the stream was read, all of them are good, and exactly their lines were told
pub record Standing (file rest : List ℕ) (unescape : UnescapeValue) (place : ℕ) (before now : SinkSeen) : Type 0 where
  pub front : List ℕ
  pub split : file ≡ front ++ rest
  pub its : List Item
  pub reads : Reads front its unescape.ending
  pub sound : unescape.fault ≡ None
  pub counted : unescape.offset ≡ capped (length front)
  pub good : (shown_items 0 its None).bad ≡ None
  pub place_is : place ≡ capped (frames_length its)
  pub told_is : Took (shown_items 0 its None).text before now

pub stands_first : (file : List ℕ) (unescape : UnescapeValue) (place : ℕ) (sink : SinkSeen) → IsBetween unescape → unescape.offset ≡ 0 → place ≡ 0
    → Standing file file unescape place sink sink
stands_first file unescape place sink between none first = record {
  front = [];
  split = refl;
  its = [];
  reads = let P : Ending → Type 0 = λ e. Reads [] [] e in subst P (sym between.ending) (begun zero-le refl);
  sound = between.fault;
  counted = none;
  good = refl;
  place_is = first;
  told_is = sym (added_nothing sink.told);
}

-- ---- The whole file, from a front of it on

-- the file is shown as these items, others behind them, and what is bad behind those
pub record Completes (file : List ℕ) (its : List Item) : Type 0 where
  pub more : List Item
  pub behind : Option BadPlace
  pub shown : IsShown file (shown_items 0 (its ++ more) behind)

pub completes : (file front rest : List ℕ) (its : List Item) (ending : Ending) → file ≡ front ++ rest → Reads front its ending → Completes file its
completes file front rest its ending split h =
    elim (each_goes_on ending rest) as (λ _. Completes file its) [
      | inl a ↦ record {
        more = a.items;
        behind = unended (length file) a.new;
        shown = let P : List ℕ → Type 0 = λ bs. Reads bs (its ++ a.items) a.new in
            whole (its ++ a.items) a.new (subst P (sym split) (a.continues.reads front its h)) refl;
      }
      | inr r ↦ record {
        more = r.items;
        behind = Some (bad_at (length front + r.index) (what_for r.cause));
        shown = let P : List ℕ → Type 0 = λ bs. Refuses bs (its ++ r.items) r.new (length front + r.index) r.cause in
            broken (its ++ r.items) r.new (length front + r.index) r.cause (subst P (sym split) (r.refuses front its h)) refl;
      }
    ]

-- what is shown of good items and others behind them
behind_good : (its more : List Item) (place : ℕ) (behind : Option BadPlace) → (shown_items 0 its None).bad ≡ None → place ≡ capped (frames_length its)
    → shown_items 0 (its ++ more) behind ≡ onto (shown_items 0 its None).text (shown_items place more behind)
behind_good its more place behind good is =
    let text = (shown_items 0 its None).text in
    shown_append 0 its more behind
    ∙ ap (λ b. joined text b (shown_items (0 + frames_length its) more behind)) good
    ∙ ap (λ n. onto text (shown_items n more behind)) (zero-add (frames_length its))
    ∙ ap (λ s. onto text s) (sym (shown_capped (frames_length its) more behind))
    ∙ ap (λ n. onto text (shown_items n more behind)) (sym is)

-- ---- One piece more

-- the file is shown as these lines, those of the piece and later ones; where the piece is bad, nothing comes later
pub record Next (file start text : List ℕ) (bad : Option BadPlace) : Type 0 where
  pub shown : Shown
  pub its : IsShown file shown
  pub later : List ℕ
  pub text_is : shown.text ≡ (start ++ text) ++ later
  pub bad_is : (b : BadPlace) → bad ≡ Some b → shown ≡ shown_as (start ++ text) (Some b)

-- a bad place that the lines of a piece end at
next_joined : (file start text : List ℕ) (bad : Option BadPlace) (later : Shown) → IsShown file (onto start (joined text bad later)) → Next file start text bad
next_joined file start text None later is = record {
  shown = onto start (onto text later);
  its = is;
  later = later.text;
  text_is = sym (append_assoc start text later.text);
  bad_is = λ b e. cc;
}
next_joined file start text (Some bad) later is = record {
  shown = shown_as (start ++ text) (Some bad);
  its = is;
  later = [];
  text_is = sym (append-nil (start ++ text));
  bad_is = λ b e. ap (λ x. shown_as (start ++ text) x) e;
}

-- what is refused stays refused with more bytes behind it
refused_more : (bytes more : List ℕ) (items : List Item) (ending : Ending) (place : ℕ) (cause : Cause) → Refuses bytes items ending place cause → Refuses (bytes ++ more) items ending place cause
refused_more bytes more items ending place cause r = record {
  front = r.front;
  byte = r.byte;
  more = r.more ++ more;
  split = ap (λ bs. bs ++ more) r.split ∙ append_assoc r.front (r.byte ∷ r.more) more;
  at_place = r.at_place;
  reads = r.reads;
  refused = r.refused;
  for_cause = r.for_cause;
}

bad_told : (n : ℕ) (cause : Cause) → bad_behind (Err (fault_at (capped n) cause)) ≡ Some (bad_at n (what_for cause))
bad_told n (bad_escape byte) = refl
bad_told n too_long = refl
bad_told n after_end = refl

-- the piece is read, and then whatever comes behind it
next_read : (file front piece after : List ℕ) (its items : List Item) (new : Ending) (place : ℕ) (text : List ℕ) (bad : Option BadPlace)
    → file ≡ (front ++ piece) ++ after → Reads (front ++ piece) (its ++ items) new → (shown_items 0 its None).bad ≡ None → place ≡ capped (frames_length its)
    → text ≡ (shown_items place items None).text → bad ≡ (shown_items place items None).bad → Next file (shown_items 0 its None).text text bad
next_read file front piece after its items new place text bad split h good is lines bads =
    let start = (shown_items 0 its None).text in
    let c = completes file (front ++ piece) after (its ++ items) new split h in
    let later = shown_items (place + frames_length items) c.more c.behind in
    let e : shown_items 0 ((its ++ items) ++ c.more) c.behind ≡ onto start (joined text bad later) =
    ap (λ xs. shown_items 0 xs c.behind) (append_assoc its items c.more)
    ∙ behind_good its (items ++ c.more) place c.behind good is
    ∙ ap (λ s. onto start s) (shown_append place items c.more c.behind)
    ∙ ap (λ t. onto start (joined t (shown_items place items None).bad later)) (sym lines)
    ∙ ap (λ b. onto start (joined text b later)) (sym bads) in
    let P : Shown → Type 0 = λ s. IsShown file s in
    next_joined file start text bad later (subst P e c.shown)

-- the piece is refused at one of its bytes
next_refused : (file front piece after : List ℕ) (its items : List Item) (old new : Ending) (offset place : ℕ) (text : List ℕ) (bad : Option BadPlace) (fault : StreamFault)
    → file ≡ (front ++ piece) ++ after → Reads front its old → offset ≡ capped (length front) → Stops offset old piece items new fault
    → (shown_items 0 its None).bad ≡ None → place ≡ capped (frames_length its)
    → text ≡ (shown_items place items (bad_behind (Err fault))).text → bad ≡ (shown_items place items (bad_behind (Err fault))).bad
    → Next file (shown_items 0 its None).text text bad
next_refused file front piece after its items old new offset place text bad fault split h counted s good is lines bads =
    let start = (shown_items 0 its None).text in
    let at : ℕ = length front + s.index in
    let behind : bad_behind (Err fault) ≡ Some (bad_at at (what_for s.cause)) =
    ap (λ f. bad_behind (Err f)) (s.told ∙ ap (λ n. fault_at (capped (n + s.index)) s.cause) counted ∙ ap (λ n. fault_at n s.cause) (capped_more (length front) s.index))
    ∙ bad_told at s.cause in
    let r : Refuses file (its ++ items) new at s.cause =
    let P : List ℕ → Type 0 = λ bs. Refuses bs (its ++ items) new at s.cause in
    subst P (sym split) (refused_more (front ++ piece) after (its ++ items) new at s.cause (s.refuses front its h)) in
    let shown = shown_items place items (bad_behind (Err fault)) in
    let e : shown_as (start ++ text) bad ≡ shown_items 0 (its ++ items) (Some (bad_at at (what_for s.cause))) =
    ap (λ t. shown_as (start ++ t) bad) lines ∙ ap (λ b. shown_as (start ++ shown.text) b) bads
    ∙ sym (behind_good its items place (bad_behind (Err fault)) good is) ∙ ap (λ b. shown_items 0 (its ++ items) b) behind in
    record {
      shown = shown_as (start ++ text) bad;
      its = broken (its ++ items) new at s.cause r e;
      later = [];
      text_is = sym (append-nil (start ++ text));
      bad_is = λ b e. ap (λ x. shown_as (start ++ text) x) e;
    }

next_for : (file rest piece after : List ℕ) (old new : UnescapeValue) (place next : ℕ) (text : List ℕ) (bad : Option BadPlace) (before now : SinkSeen)
    → (s : Standing file rest old place before now) (items : List Item) (answer : Result Unit StreamFault) → rest ≡ piece ++ after
    → Tells old.offset old.ending piece items answer new.ending → answer ≢ Err faults.NoMemory
    → text ≡ (shown_items place items (bad_behind answer)).text → bad ≡ (shown_items place items (bad_behind answer)).bad
    → Next file (shown_items 0 s.its None).text text bad
next_for file rest piece after old new place next text bad before now s items (Ok done) cut t known lines bads =
    next_read file s.front piece after s.its items new.ending place text bad
    (s.split ∙ ap (λ bs. s.front ++ bs) cut ∙ sym (append_assoc s.front piece after)) (t.reads s.front s.its s.reads) s.good s.place_is lines bads
next_for file rest piece after old new place next text bad before now s items (Err faults.NoMemory) cut t known lines bads = absurd (known refl)
next_for file rest piece after old new place next text bad before now s items (Err (faults.BadEscape offset byte)) cut t known lines bads =
    next_refused file s.front piece after s.its items old.ending new.ending old.offset place text bad (faults.BadEscape offset byte)
    (s.split ∙ ap (λ bs. s.front ++ bs) cut ∙ sym (append_assoc s.front piece after)) s.reads s.counted t s.good s.place_is lines bads
next_for file rest piece after old new place next text bad before now s items (Err (faults.TooLong offset)) cut t known lines bads =
    next_refused file s.front piece after s.its items old.ending new.ending old.offset place text bad (faults.TooLong offset)
    (s.split ∙ ap (λ bs. s.front ++ bs) cut ∙ sym (append_assoc s.front piece after)) s.reads s.counted t s.good s.place_is lines bads
next_for file rest piece after old new place next text bad before now s items (Err (faults.AfterEnd offset)) cut t known lines bads =
    next_refused file s.front piece after s.its items old.ending new.ending old.offset place text bad (faults.AfterEnd offset)
    (s.split ∙ ap (λ bs. s.front ++ bs) cut ∙ sym (append_assoc s.front piece after)) s.reads s.counted t s.good s.place_is lines bads

pub next_piece : (file rest piece after : List ℕ) (old new : UnescapeValue) (place next : ℕ) (text : List ℕ) (bad : Option BadPlace) (before now : SinkSeen)
    → (s : Standing file rest old place before now) → ShowsPiece old place piece bad text new next → rest ≡ piece ++ after
    → Next file (shown_items 0 s.its None).text text bad
next_piece file rest piece after old new place next text bad before now s p cut =
    next_for file rest piece after old new place next text bad before now s p.items p.answer cut p.tells p.remembered p.text_is p.bad_is

-- ---- A good piece

bad_stays : (place : ℕ) (items : List Item) (bad : BadPlace) → None ≡ (shown_items place items (Some bad)).bad → ⊥
bad_stays place items bad e =
    let t = shown_items place items None in
    by_bad t.text t.bad (e ∙ ap (λ (s : Shown). s.bad) (shown_behind place items (Some bad)))
  where
    by_bad : (text : List ℕ) (b : Option BadPlace) → None ≡ (joined text b (shown_as [] (Some bad))).bad → ⊥
    by_bad text None e = cc
    by_bad text (Some x) e = cc

-- what stands after a piece that is read
stands_read : (file rest piece after : List ℕ) (old new : UnescapeValue) (place next : ℕ) (text : List ℕ) (bad : Option BadPlace) (before now later : SinkSeen)
    → (s : Standing file rest old place before now) (items : List Item) → rest ≡ piece ++ after → Reads (s.front ++ piece) (s.its ++ items) new.ending
    → new.fault ≡ None → new.offset ≡ capped (old.offset + length piece) → bad ≡ None
    → text ≡ (shown_items place items None).text → bad ≡ (shown_items place items None).bad → next ≡ capped (place + frames_length items) → Took text now later
    → Standing file after new next before later
stands_read file rest piece after old new place next text bad before now later s items cut h sound counted none lines bads goes put =
    let start = (shown_items 0 s.its None).text in
    let e : shown_items 0 (s.its ++ items) None ≡ onto start (shown_items place items None) = behind_good s.its items place None s.good s.place_is in
    record {
      front = s.front ++ piece;
      split = s.split ∙ ap (λ bs. s.front ++ bs) cut ∙ sym (append_assoc s.front piece after);
      its = s.its ++ items;
      reads = h;
      sound = sound;
      counted = counted ∙ ap (λ n. capped (n + length piece)) s.counted ∙ capped_more (length s.front) (length piece) ∙ ap capped (sym (length-append s.front piece));
      good = ap (λ (x : Shown). x.bad) e ∙ sym bads ∙ none;
      place_is = goes ∙ ap (λ n. capped (n + frames_length items)) s.place_is ∙ capped_more (frames_length s.its) (frames_length items) ∙ ap capped (sym (frames_append s.its items));
      told_is = put ∙ ap (λ (t : Option (List ℕ)). added text t) s.told_is ∙ added_twice start text before.told
          ∙ ap (λ (t : List ℕ). added (start ++ t) before.told) lines ∙ ap (λ (x : Shown). added x.text before.told) (sym e);
    }

stands_for : (file rest piece after : List ℕ) (old new : UnescapeValue) (place next : ℕ) (text : List ℕ) (bad : Option BadPlace) (before now later : SinkSeen)
    → (s : Standing file rest old place before now) (items : List Item) (answer : Result Unit StreamFault) → rest ≡ piece ++ after
    → Tells old.offset old.ending piece items answer new.ending → answer ≢ Err faults.NoMemory
    → new.fault ≡ result_err answer → new.offset ≡ capped (old.offset + length piece) → bad ≡ None
    → text ≡ (shown_items place items (bad_behind answer)).text → bad ≡ (shown_items place items (bad_behind answer)).bad
    → next ≡ capped (place + frames_length items) → Took text now later
    → Standing file after new next before later
stands_for file rest piece after old new place next text bad before now later s items (Ok done) cut t known sound counted none lines bads goes put =
    stands_read file rest piece after old new place next text bad before now later s items cut (t.reads s.front s.its s.reads) sound counted none lines bads goes put
stands_for file rest piece after old new place next text bad before now later s items (Err faults.NoMemory) cut t known sound counted none lines bads goes put = absurd (known refl)
stands_for file rest piece after old new place next text bad before now later s items (Err (faults.BadEscape offset byte)) cut t known sound counted none lines bads goes put =
    absurd (bad_stays place items _ (sym none ∙ bads))
stands_for file rest piece after old new place next text bad before now later s items (Err (faults.TooLong offset)) cut t known sound counted none lines bads goes put =
    absurd (bad_stays place items _ (sym none ∙ bads))
stands_for file rest piece after old new place next text bad before now later s items (Err (faults.AfterEnd offset)) cut t known sound counted none lines bads goes put =
    absurd (bad_stays place items _ (sym none ∙ bads))

pub stands_next : (file rest piece after : List ℕ) (old new : UnescapeValue) (place next : ℕ) (text : List ℕ) (bad : Option BadPlace) (before now later : SinkSeen)
    → Standing file rest old place before now → ShowsPiece old place piece bad text new next → rest ≡ piece ++ after → bad ≡ None → Took text now later
    → Standing file after new next before later
stands_next file rest piece after old new place next text bad before now later s p cut none put =
    stands_for file rest piece after old new place next text bad before now later s p.items p.answer cut p.tells p.remembered p.fault p.offset none p.text_is p.bad_is (p.next_is none) put

-- ---- Where the run stops

-- these were told, and the lines go on behind them
part_told : (file told later : List ℕ) (shown : Shown) (before now : SinkSeen) → IsShown file shown → shown.text ≡ told ++ later → Took told before now → PutsPart file before now
part_told file told later shown before now is e put =
    (shown, is, (length told, put ∙ ap (λ (t : List ℕ). added t before.told) (sym (ap (λ t. take (length told) t) e ∙ take-append_seam told later))))

-- before a piece
pub part_here : (file rest : List ℕ) (unescape : UnescapeValue) (place : ℕ) (before now : SinkSeen) → Standing file rest unescape place before now → PutsPart file before now
part_here file rest unescape place before now s =
    let c = completes file s.front rest s.its unescape.ending s.split s.reads in
    let later = shown_items place c.more c.behind in
    part_told file (shown_items 0 s.its None).text later.text (shown_items 0 (s.its ++ c.more) c.behind) before now c.shown
    (ap (λ (x : Shown). x.text) (behind_good s.its c.more place c.behind s.good s.place_is)) s.told_is

-- within the lines of a piece
pub part_within : (file start text : List ℕ) (bad : Option BadPlace) (before mid now : SinkSeen) (count : ℕ) → Next file start text bad
    → Took start before mid → Took (take count text) mid now → PutsPart file before now
part_within file start text bad before mid now count n so_far put =
    part_told file (start ++ take count text) (drop count text ++ n.later) n.shown before now n.its
    (n.text_is
    ∙ ap (λ t. (start ++ t) ++ n.later) (sym (take-append-drop count text))
    ∙ ap (λ t. t ++ n.later) (sym (append_assoc start (take count text) (drop count text)))
    ∙ append_assoc (start ++ take count text) (drop count text) n.later)
    (put ∙ ap (λ (t : Option (List ℕ)). added (take count text) t) so_far ∙ added_twice start (take count text) before.told)

-- at a bad place
pub lines_bad : (file start text : List ℕ) (bad : Option BadPlace) (b : BadPlace) (before mid now : SinkSeen) → Next file start text bad → bad ≡ Some b
    → Took start before mid → Took text mid now → PutsLines file bad before now
lines_bad file start text bad b before mid now n is so_far put =
    let P : Shown → Type 0 = λ s. IsShown file s in (
      start ++ text,
      subst P (n.bad_is b is ∙ ap (λ x. shown_as (start ++ text) x) (sym is)) n.its,
      put ∙ ap (λ (t : Option (List ℕ)). added text t) so_far ∙ added_twice start text before.told,
    )

-- at the end of the file
unended_capped : (size : ℕ) (ending : Ending) → unended (capped size) ending ≡ unended size ending
unended_capped size ending = by_test (is_inside ending)
  where
    by_test : (b : Bool) → (if b then Some (bad_at (capped size) Unended) else None) ≡ (if b then Some (bad_at size Unended) else None)
    by_test true = ap Some (bad_at_capped size Unended)
    by_test false = refl

pub lines_end : (file rest : List ℕ) (unescape : UnescapeValue) (place : ℕ) (bad : Option BadPlace) (before now : SinkSeen) → Standing file rest unescape place before now → rest ≡ []
    → bad ≡ unended unescape.offset unescape.ending → PutsLines file bad before now
lines_end file rest unescape place bad before now s none is =
    let text = (shown_items 0 s.its None).text in
    let all : file ≡ s.front = s.split ∙ ap (λ bs. s.front ++ bs) none ∙ append-nil s.front in
    let same : bad ≡ unended (length file) unescape.ending =
    is ∙ ap (λ n. unended n unescape.ending) s.counted ∙ unended_capped (length s.front) unescape.ending ∙ ap (λ bs. unended (length bs) unescape.ending) (sym all) in
    let e : shown_as text bad ≡ shown_items 0 s.its (unended (length file) unescape.ending) =
    ap (λ b. shown_as text b) same
    ∙ ap (λ t. shown_as t (unended (length file) unescape.ending)) (sym (append-nil text))
    ∙ ap (λ b. joined text b (shown_as [] (unended (length file) unescape.ending))) (sym s.good)
    ∙ sym (shown_behind 0 s.its (unended (length file) unescape.ending)) in
    let P : List ℕ → Type 0 = λ bs. Reads bs s.its unescape.ending in
    (text, whole s.its unescape.ending (subst P (sym all) s.reads) e, s.told_is)

-- ---- What the code of a piece does

pub piece_shown : (old new : UnescapeValue) (piece : List ℕ) (first after : List Item) (answer : Result Unit StreamFault) (place next : ℕ) (text : List ℕ) (found behind bad : Option BadPlace)
    → old.fault ≡ None → Feeds old piece first after answer new → first ≡ [] → answer ≢ Err faults.NoMemory → behind ≡ bad_behind answer
    → text ≡ (shown_items place after None).text → found ≡ (shown_items place after None).bad → (found ≡ None → next ≡ capped (place + frames_length after))
    → bad ≡ option_or found behind → ShowsPiece old place piece bad text new next
piece_shown old new piece first after answer place next text found behind bad sound f empty known is lines bads goes either =
    let P : Option StreamFault → Type 0 = λ o. IfNone o (Takes old.offset old.ending piece first after answer new.ending) in
    let t : Takes old.offset old.ending piece first after answer new.ending = subst P sound f.first in
    let same : after ≡ t.items = t.appended ∙ ap (λ xs. xs ++ t.items) empty in
    let e : shown_items place t.items (bad_behind answer) ≡ joined text found (shown_as [] behind) =
    ap (λ xs. shown_items place xs (bad_behind answer)) (sym same)
    ∙ shown_behind place after (bad_behind answer)
    ∙ ap (λ x. joined x (shown_items place after None).bad (shown_as [] (bad_behind answer))) (sym lines)
    ∙ ap (λ x. joined text x (shown_as [] (bad_behind answer))) (sym bads)
    ∙ ap (λ x. joined text found (shown_as [] x)) (sym is) in
    record {
      items = t.items;
      answer = answer;
      tells = t.tells;
      remembered = known;
      fault = f.fault;
      offset = f.offset;
      text_is = sym (joined_text text found behind) ∙ ap (λ (s : Shown). s.text) (sym e);
      bad_is = either ∙ sym (joined_bad text found behind) ∙ ap (λ (s : Shown). s.bad) (sym e);
      next_is = λ none. goes (found_none found behind (sym either ∙ none)) ∙ ap (λ xs. capped (place + frames_length xs)) same;
    }
  where
    joined_text : (t : List ℕ) (b c : Option BadPlace) → (joined t b (shown_as [] c)).text ≡ t
    joined_text t None c = append-nil t
    joined_text t (Some x) c = refl

    joined_bad : (t : List ℕ) (b c : Option BadPlace) → (joined t b (shown_as [] c)).bad ≡ option_or b c
    joined_bad t None c = refl
    joined_bad t (Some x) c = refl

    found_none : (b c : Option BadPlace) → option_or b c ≡ None → b ≡ None
    found_none None c e = refl
    found_none (Some x) c e = cc
