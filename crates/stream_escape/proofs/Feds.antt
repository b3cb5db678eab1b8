-- One call of `feed` is what its piece is read as, and what follows from that of pieces and of frames.
use Rattle.std.proofs.Common.{◌≡◌, ◌≢◌, ℕ, ◌+◌, List, [], ◌∷◌, ◌++◌, length, Option, None, Some, Result, Ok, Err, refl, sym, ap, ◌∙◌, arith, append-nil, zero-le}
use Rattle.std.specs.Result.{result_err}
use Rattle.std.proofs.lemmas.List.{append_cancel_left}
use Rattle.stream_escape.specs.declared.stream.Item.{Item}
use Rattle.stream_escape.specs.declared.stream.Item.TheVariants.{End}
use Rattle.stream_escape.specs.declared.stream.StreamFault.{StreamFault}
use Rattle.stream_escape.specs.declared.stream.StreamFault.TheVariants.{BadEscape, TooLong, AfterEnd, NoMemory}
use Rattle.stream_escape.specs.Stream.{escaped, further, Ending, partly, ended, Reads, begun, message, end, fault_at}
use Rattle.stream_escape.specs.Value.{UnescapeValue, IsWithin, capped}
use Rattle.stream_escape.specs.Feeding.{Continues, Stops, Tells, Takes, Repeats, Feeds}
use Rattle.stream_escape.specs.Fed.{course, Given, answer_of, course_of, given, fed}
use Rattle.stream_escape.specs.Laws.{IsFeeding, NeverWants, IsReadAs, ReadsAreFed}
use Rattle.stream_escape.proofs.Readings.{one, one_refusal, not_both}
use Rattle.stream_escape.proofs.Wholes.{only_memory}
use Rattle.stream_escape.proofs.Cuts.{same_state}
use Rattle.stream_escape.proofs.Courses.{CourseHolds, course_holds, fault_not_memory, stops_tells, tells_stops}

-- ---- `fed` is a call of `feed`

tells_by : (start : ℕ) (old new : Ending) (piece : List ℕ) (items : List Item) (fault : Option StreamFault)
    → CourseHolds start old piece items new fault → Tells start old piece items (answer_of fault) new
tells_by start old new piece items None c = c
tells_by start old new piece items (Some fault) s = stops_tells start old new piece items fault s

fault_back : (fault : Option StreamFault) → fault ≡ result_err (answer_of fault)
fault_back None = refl
fault_back (Some fault) = refl

abbrev FeedsAs : UnescapeValue → List ℕ → List Item → Given → Type 0
FeedsAs reader piece before g = Feeds reader piece before (before ++ g.items) g.answer g.reader

feeds_by : (fault : Option StreamFault) (reader : UnescapeValue) (piece : List ℕ) (before : List Item) → reader.fault ≡ fault
    → FeedsAs reader piece before (given (capped (reader.offset + length piece)) (course_of fault piece reader))
feeds_by None reader piece before is =
    let c = course reader.offset piece reader.ending in
    record {
      offset = refl;
      fault = fault_back c.fault;
      first = rw is (record {
        items = c.items;
        appended = refl;
        tells = tells_by reader.offset reader.ending c.ending piece c.items c.fault (course_holds reader.offset piece reader.ending);
      });
      again = rw is tt;
    }
feeds_by (Some fault) reader piece before is = record {
  offset = refl;
  fault = refl;
  first = rw is tt;
  again = rw is (record { again = refl; nothing = append-nil before; ending = refl });
}

pub is_feeding : IsFeeding
unfolding fed
is_feeding reader piece before = feeds_by reader.fault reader piece before refl

course_wants : (start : ℕ) (old new : Ending) (piece : List ℕ) (items : List Item) (fault : Option StreamFault)
    → CourseHolds start old piece items new fault → answer_of fault ≢ Err NoMemory
course_wants start old new piece items None c e = cc
course_wants start old new piece items (Some fault) s e =
    let is : fault ≡ NoMemory = cc in fault_not_memory (capped (start + s.index)) s.cause (sym s.told ∙ is)

wants_by : (fault : Option StreamFault) (reader : UnescapeValue) (piece : List ℕ) → fault ≢ Some NoMemory → answer_of (course_of fault piece reader).fault ≢ Err NoMemory
wants_by None reader piece isnt =
    let c = course reader.offset piece reader.ending in
    course_wants reader.offset reader.ending c.ending piece c.items c.fault (course_holds reader.offset piece reader.ending)
wants_by (Some fault) reader piece isnt = λ e. isnt (let is : fault ≡ NoMemory = cc in ap Some is)

pub never_wants : NeverWants
unfolding fed
never_wants reader piece isnt = wants_by reader.fault reader piece isnt

-- ---- and no call is another, unless memory is wanting

-- some list ends like this
record Begins (old : Ending) : Type 0 where
  before : List ℕ
  its : List Item
  reads : Reads before its old

begins : (old : Ending) → IsWithin old → Begins old
begins (partly part escape) within = record { before = escaped part ++ further escape; its = []; reads = begun within refl }
begins ended within = record { before = 3 ∷ 2 ∷ []; its = End ∷ []; reads = end [] zero-le refl }

within_of : (bytes : List ℕ) (items : List Item) (ending : Ending) → Reads bytes items ending → IsWithin ending
within_of bytes items ending (begun within is) = within
within_of bytes items ending (message {items = others} first rest within is reads) = within_of rest others ending reads
within_of bytes items ending (end dropped within is) = tt

within_stops : (start : ℕ) (old new : Ending) (piece : List ℕ) (items : List Item) (fault : StreamFault) → Begins old → Stops start old piece items new fault → IsWithin new
within_stops start old new piece items fault b s = let r = s.refuses b.before b.its b.reads in within_of r.front (b.its ++ items) new r.reads

-- a reader stays within the limit
pub within_later : (start : ℕ) (old new : Ending) (piece : List ℕ) (before after : List Item) (answer : Result Unit StreamFault)
    → IsWithin old → Takes start old piece before after answer new → IsWithin new
within_later start old new piece before after answer within t = by_answer answer t.items t.tells
  where
    by_answer : (answer : Result Unit StreamFault) (items : List Item) → Tells start old piece items answer new → IsWithin new
    by_answer (Ok done) items c = let b = begins old within in within_of (b.before ++ piece) (b.its ++ items) new (c.reads b.before b.its b.reads)
    by_answer (Err NoMemory) items c = let b = begins old within in within_of (b.before ++ c.front) (b.its ++ items) new (c.continues.reads b.before b.its b.reads)
    by_answer (Err (BadEscape offset byte)) items s = within_stops start old new piece items (BadEscape offset byte) (begins old within) s
    by_answer (Err (TooLong offset)) items s = within_stops start old new piece items (TooLong offset) (begins old within) s
    by_answer (Err (AfterEnd offset)) items s = within_stops start old new piece items (AfterEnd offset) (begins old within) s

-- two ways to read one piece are one
record IsOneWay (items its : List Item) (answer reply : Result Unit StreamFault) (new later : Ending) : Type 0 where
  items_same : items ≡ its
  answer_same : answer ≡ reply
  ending_same : new ≡ later

one_reading : (old new later : Ending) (piece : List ℕ) (items its : List Item) → Begins old → Continues old piece items new → Continues old piece its later
    → IsOneWay items its (Ok tt) (Ok tt) new later
one_reading old new later piece items its b c d =
    let same = one (b.before ++ piece) (b.its ++ items) (b.its ++ its) new later (c.reads b.before b.its b.reads) (d.reads b.before b.its b.reads) in
    record { items_same = append_cancel_left b.its items its same.items_same; answer_same = refl; ending_same = same.ending_same }

no_refusal : (start : ℕ) (old new later : Ending) (piece : List ℕ) (items its : List Item) (fault : StreamFault) → Begins old → Continues old piece items new → Stops start old piece its later fault → ⊥
no_refusal start old new later piece items its fault b c s =
    not_both (b.before ++ piece) (b.its ++ items) (b.its ++ its) new later (length b.before + s.index) s.cause (c.reads b.before b.its b.reads) (s.refuses b.before b.its b.reads)

one_refused : (start : ℕ) (old new later : Ending) (piece : List ℕ) (items its : List Item) (fault reason : StreamFault) → Begins old
    → Stops start old piece items new fault → Stops start old piece its later reason → IsOneWay items its (Err fault) (Err reason) new later
one_refused start old new later piece items its fault reason b s t =
    let same = one_refusal (b.before ++ piece) (b.its ++ items) (b.its ++ its) new later (length b.before + s.index) (length b.before + t.index) s.cause t.cause
    (s.refuses b.before b.its b.reads) (t.refuses b.before b.its b.reads) in
    let place : s.index ≡ t.index = omega (arith, same.place_same) in
    record {
      items_same = append_cancel_left b.its items its same.items_same;
      answer_same = ap Err (s.told ∙ ap (λ n. fault_at (capped (start + n)) s.cause) place ∙ ap (λ c. fault_at (capped (start + t.index)) c) same.cause_same ∙ sym t.told);
      ending_same = same.ending_same;
    }

one_way : (start : ℕ) (old new later : Ending) (piece : List ℕ) (items its : List Item) (answer : Result Unit StreamFault) (fault : Option StreamFault) → Begins old
    → answer ≢ Err NoMemory → Tells start old piece items answer new → CourseHolds start old piece its later fault → IsOneWay items its answer (answer_of fault) new later
one_way start old new later piece items its (Ok done) None b isnt t c = one_reading old new later piece items its b t c
one_way start old new later piece items its (Ok done) (Some fault) b isnt t c = absurd (no_refusal start old new later piece items its fault b t c)
one_way start old new later piece items its (Err fault) None b isnt t c =
    absurd (no_refusal start old later new piece its items fault b c (tells_stops start old new piece items fault (λ is. isnt (ap Err is)) t))
one_way start old new later piece items its (Err fault) (Some reason) b isnt t c =
    one_refused start old new later piece items its fault reason b (tells_stops start old new piece items fault (λ is. isnt (ap Err is)) t) c

-- a call gives what `fed` gives
pub record IsGiven (g : Given) (before after : List Item) (answer : Result Unit StreamFault) (new : UnescapeValue) : Type 0 where
  pub appended : after ≡ before ++ g.items
  pub answer_is : answer ≡ g.answer
  pub reader_is : new ≡ g.reader

is_given_by : (fault : Option StreamFault) (reader : UnescapeValue) (piece : List ℕ) (before after : List Item) (answer : Result Unit StreamFault) (new : UnescapeValue)
    → reader.fault ≡ fault → IsWithin reader.ending → answer ≢ Err NoMemory → Feeds reader piece before after answer new
    → IsGiven (given (capped (reader.offset + length piece)) (course_of fault piece reader)) before after answer new
is_given_by None reader piece before after answer new is within isnt f =
    let c = course reader.offset piece reader.ending in
    let first : Takes reader.offset reader.ending piece before after answer new.ending = rw is at f.first in
    let way = one_way reader.offset reader.ending new.ending c.ending piece first.items c.items answer c.fault (begins reader.ending within) isnt first.tells
    (course_holds reader.offset piece reader.ending) in
    record {
      appended = first.appended ∙ ap (λ its. before ++ its) way.items_same;
      answer_is = way.answer_same;
      reader_is = same_state new (record { ending = c.ending; fault = c.fault; offset = capped (reader.offset + length piece) })
          way.ending_same (f.fault ∙ ap result_err way.answer_same ∙ sym (fault_back c.fault)) f.offset;
    }
is_given_by (Some fault) reader piece before after answer new is within isnt f =
    let again : Repeats fault reader.ending before after answer new.ending = rw is at f.again in
    record {
      appended = again.nothing ∙ sym (append-nil before);
      answer_is = again.again;
      reader_is = same_state new (record { ending = reader.ending; fault = Some fault; offset = capped (reader.offset + length piece) })
          again.ending (f.fault ∙ ap result_err again.again) f.offset;
    }

pub is_given : (reader : UnescapeValue) (piece : List ℕ) (before after : List Item) (answer : Result Unit StreamFault) (new : UnescapeValue)
    → IsWithin reader.ending → answer ≢ Err NoMemory → Feeds reader piece before after answer new → IsGiven (fed piece reader) before after answer new
unfolding fed
is_given reader piece before after answer new within isnt f = is_given_by reader.fault reader piece before after answer new refl within isnt f

-- ---- What is read is fed

read_as : (start : ℕ) (old ending : Ending) (before piece : List ℕ) (its items others : List Item) (answer : Result Unit StreamFault) (g : Given)
    → Reads before its old → Reads (before ++ piece) (its ++ items) ending → g.items ≡ others → g.answer ≡ answer → g.reader.fault ≡ result_err answer
    → answer ≢ Err NoMemory → Tells start old piece others answer g.reader.ending → IsReadAs items ending g
read_as start old ending before piece its items others (Ok done) g was reads is answered fault isnt t =
    let same = one (before ++ piece) (its ++ others) (its ++ items) g.reader.ending ending (t.reads before its was) reads in
    record { items_are = is ∙ append_cancel_left its others items same.items_same; answer_is = answered; ending_is = same.ending_same; fault_is = fault }
read_as start old ending before piece its items others (Err wrong) g was reads is answered fault isnt t =
    let only : wrong ≡ NoMemory = only_memory start old g.reader.ending ending piece before others its (its ++ items) (Err wrong) t was reads in
    absurd (isnt (ap Err only))

takes_first : (reader : UnescapeValue) (piece : List ℕ) (before after : List Item) (answer : Result Unit StreamFault) (new : UnescapeValue)
    → reader.fault ≡ None → Feeds reader piece before after answer new → Takes reader.offset reader.ending piece before after answer new.ending
takes_first reader piece before after answer new none f = rw none at f.first

pub reads_are_fed : ReadsAreFed
reads_are_fed reader before piece its items ending none was reads =
    let g = fed piece reader in
    let f = is_feeding reader piece [] in
    let first = takes_first reader piece [] g.items g.answer g.reader none f in
    read_as reader.offset reader.ending ending before piece its items first.items g.answer g was reads first.appended refl f.fault
    (never_wants reader piece (λ e. cc)) first.tells
