-- Many pieces, fed one after another.
use Rattle.std.proofs.Common.{◌≡◌, ◌≢◌, ℕ, ◌+◌, List, [], ◌∷◌, ◌++◌, length, Option, None, Some, Result, Ok, Err, IfSome, IfNone, refl, sym, ap, ◌∙◌, subst, arith, append_assoc, append-nil, length-append, zero-le}
use Rattle.std.specs.List.{concat}
use Rattle.std.specs.Result.{result_err}
use Rattle.stream_escape.specs.declared.stream.Item.{Item}
use Rattle.stream_escape.specs.declared.stream.StreamFault.{StreamFault}
use Rattle.stream_escape.specs.declared.stream.StreamFault.TheVariants.{BadEscape, TooLong, AfterEnd, NoMemory}
use Rattle.stream_escape.specs.Stream.{Ending, Reads, begun, fault_at}
use Rattle.stream_escape.specs.Value.{UnescapeValue, capped}
use Rattle.stream_escape.specs.Feeding.{Stops, Tells, Takes, Repeats, Feeds, Fed}
use Rattle.stream_escape.specs.Laws.{IsReadingOf, IsFaultOf, fresh, AnyPieces, AnyCuts}
use Rattle.stream_escape.proofs.Readings.{one, one_refusal, not_both}

pub capped_twice : (m n : ℕ) → capped (capped m + n) ≡ capped (m + n)
capped_twice m n = omega arith

-- the fault that a piece has is that of the whole
fault_of_whole : (bytes piece : List ℕ) (before items : List Item) (old new : Ending) (start : ℕ) (fault : StreamFault) → start ≡ capped (length bytes)
    → Reads bytes before old → Stops start old piece items new fault → IsFaultOf (bytes ++ piece) (before ++ items) new fault
fault_of_whole bytes piece before items old new start fault is h s = record {
  place = length bytes + s.index;
  cause = s.cause;
  told = s.told ∙ ap (λ n. fault_at (capped (n + s.index)) s.cause) is ∙ ap (λ n. fault_at n s.cause) (capped_twice (length bytes) s.index);
  refuses = s.refuses bytes before h;
}

reading_first : (bytes piece : List ℕ) (before items : List Item) (old new : Ending) (start : ℕ) (answer : Result Unit StreamFault) → start ≡ capped (length bytes)
    → Reads bytes before old → Tells start old piece items answer new → IsReadingOf (bytes ++ piece) (before ++ items) new (result_err answer)
reading_first bytes piece before items old new start (Ok done) is h t = t.reads bytes before h
reading_first bytes piece before items old new start (Err NoMemory) is h t =
    record { front = bytes ++ t.front; more = t.more; split = ap (λ bs. bytes ++ bs) t.split ∙ sym (append_assoc bytes t.front t.more); reads = t.continues.reads bytes before h }
reading_first bytes piece before items old new start (Err (BadEscape offset byte)) is h t = fault_of_whole bytes piece before items old new start (BadEscape offset byte) is h t
reading_first bytes piece before items old new start (Err (TooLong offset)) is h t = fault_of_whole bytes piece before items old new start (TooLong offset) is h t
reading_first bytes piece before items old new start (Err (AfterEnd offset)) is h t = fault_of_whole bytes piece before items old new start (AfterEnd offset) is h t

-- a fault stays the fault, whatever comes behind it
fault_later : (bytes piece : List ℕ) (items : List Item) (ending : Ending) (fault : StreamFault) → IsFaultOf bytes items ending fault → IsFaultOf (bytes ++ piece) items ending fault
fault_later bytes piece items ending fault f = record {
  place = f.place;
  cause = f.cause;
  told = f.told;
  refuses = record {
    front = f.refuses.front;
    byte = f.refuses.byte;
    more = f.refuses.more ++ piece;
    split = ap (λ bs. bs ++ piece) f.refuses.split ∙ append_assoc f.refuses.front (f.refuses.byte ∷ f.refuses.more) piece;
    at_place = f.refuses.at_place;
    reads = f.refuses.reads;
    refused = f.refuses.refused;
    for_cause = f.refuses.for_cause;
  };
}

reading_again : (bytes piece : List ℕ) (items : List Item) (ending : Ending) (fault : StreamFault) → IsReadingOf bytes items ending (Some fault) → IsReadingOf (bytes ++ piece) items ending (Some fault)
reading_again bytes piece items ending NoMemory f =
    record { front = f.front; more = f.more ++ piece; split = ap (λ bs. bs ++ piece) f.split ∙ append_assoc f.front f.more piece; reads = f.reads }
reading_again bytes piece items ending (BadEscape offset byte) f = fault_later bytes piece items ending (BadEscape offset byte) f
reading_again bytes piece items ending (TooLong offset) f = fault_later bytes piece items ending (TooLong offset) f
reading_again bytes piece items ending (AfterEnd offset) f = fault_later bytes piece items ending (AfterEnd offset) f

reading_more : (bytes piece : List ℕ) (before after : List Item) (old new : Ending) (start : ℕ) (fault : Option StreamFault) (answer : Result Unit StreamFault) → start ≡ capped (length bytes)
    → IsReadingOf bytes before old fault → IfNone fault (Takes start old piece before after answer new) → IfSome fault (λ f. Repeats f old before after answer new)
    → IsReadingOf (bytes ++ piece) after new (result_err answer)
reading_more bytes piece before after old new start None answer is h t again =
    let P : List Item → Type 0 = λ its. IsReadingOf (bytes ++ piece) its new (result_err answer) in
    subst P (sym t.appended) (reading_first bytes piece before t.items old new start answer is h t.tells)
reading_more bytes piece before after old new start (Some fault) answer is h t again =
    let P : Result Unit StreamFault → Type 0 = λ a. IsReadingOf (bytes ++ piece) after new (result_err a) in
    let Q : List Item → Type 0 = λ its. IsReadingOf (bytes ++ piece) its new (Some fault) in
    let R : Ending → Type 0 = λ e. IsReadingOf (bytes ++ piece) before e (Some fault) in
    subst P (sym again.again) (subst Q (sym again.nothing) (subst R (sym again.ending) (reading_again bytes piece before old fault h)))

-- what was fed and what came of it
record Stands (bytes : List ℕ) (items : List Item) (state : UnescapeValue) : Type 0 where
  counted : state.offset ≡ capped (length bytes)
  reading : IsReadingOf bytes items state.ending state.fault

stands_more : (bytes piece : List ℕ) (before after : List Item) (old new : UnescapeValue) (answer : Result Unit StreamFault)
    → Stands bytes before old → Feeds old piece before after answer new → Stands (bytes ++ piece) after new
stands_more bytes piece before after old new answer s f = record {
  counted = f.offset ∙ ap (λ n. capped (n + length piece)) s.counted ∙ capped_twice (length bytes) (length piece) ∙ ap capped (sym (length-append bytes piece));
  reading = let P : Option StreamFault → Type 0 = λ o. IsReadingOf (bytes ++ piece) after new.ending o in
      subst P (sym f.fault) (reading_more bytes piece before after old.ending new.ending old.offset old.fault answer s.counted s.reading f.first f.again);
}

stands_all : (pieces : List (List ℕ)) (bytes : List ℕ) (before after : List Item) (old new : UnescapeValue)
    → Stands bytes before old → Fed old pieces before after new → Stands (bytes ++ concat pieces) after new
stands_all [] bytes before after old new s f = rw (append-nil, f.0, f.1) s
stands_all (piece ∷ pieces) bytes before after old new s f =
    let P : List ℕ → Type 0 = λ bs. Stands bs after new in
    subst P (append_assoc bytes piece (concat pieces)) (stands_all pieces (bytes ++ piece) f.0 after f.1 new (stands_more bytes piece before f.0 old f.1 f.2 s f.3) f.4)

from_start : (pieces : List (List ℕ)) (items : List Item) (new : UnescapeValue) → Fed fresh pieces [] items new → Stands (concat pieces) items new
from_start pieces items new fed = stands_all pieces [] [] items fresh new (record { counted = refl; reading = begun zero-le refl }) fed

pub any_pieces : AnyPieces
any_pieces pieces items new fed = (from_start pieces items new fed).reading

-- two readings of one stream, where memory was not wanting
record Same (items its : List Item) (ending other : Ending) (fault reason : Option StreamFault) : Type 0 where
  items_same : items ≡ its
  ending_same : ending ≡ other
  fault_same : fault ≡ reason

is_fault : (bytes : List ℕ) (items : List Item) (ending : Ending) (fault : StreamFault) → Some fault ≢ Some NoMemory → IsReadingOf bytes items ending (Some fault) → IsFaultOf bytes items ending fault
is_fault bytes items ending NoMemory isnt f = absurd (isnt refl)
is_fault bytes items ending (BadEscape offset byte) isnt f = f
is_fault bytes items ending (TooLong offset) isnt f = f
is_fault bytes items ending (AfterEnd offset) isnt f = f

same_reading : (bytes : List ℕ) (items its : List Item) (ending other : Ending) (fault reason : Option StreamFault)
    → fault ≢ Some NoMemory → reason ≢ Some NoMemory → IsReadingOf bytes items ending fault → IsReadingOf bytes its other reason
    → Same items its ending other fault reason
same_reading bytes items its ending other None None m n a b =
    let same = one bytes items its ending other a b in record { items_same = same.items_same; ending_same = same.ending_same; fault_same = refl }
same_reading bytes items its ending other None (Some reason) m n a b =
    let f = is_fault bytes its other reason n b in absurd (not_both bytes items its ending other f.place f.cause a f.refuses)
same_reading bytes items its ending other (Some fault) None m n a b =
    let f = is_fault bytes items ending fault m a in absurd (not_both bytes its items other ending f.place f.cause b f.refuses)
same_reading bytes items its ending other (Some fault) (Some reason) m n a b =
    let f = is_fault bytes items ending fault m a in
    let g = is_fault bytes its other reason n b in
    let same = one_refusal bytes items its ending other f.place g.place f.cause g.cause f.refuses g.refuses in
    record {
      items_same = same.items_same;
      ending_same = same.ending_same;
      fault_same = ap Some (f.told ∙ ap (λ p. fault_at (capped p) f.cause) same.place_same ∙ ap (λ c. fault_at (capped g.place) c) same.cause_same ∙ sym g.told);
    }

state_of : Ending → Option StreamFault → ℕ → UnescapeValue
state_of ending fault offset = record { ending = ending; fault = fault; offset = offset }

pub same_state : (new later : UnescapeValue) → new.ending ≡ later.ending → new.fault ≡ later.fault → new.offset ≡ later.offset → new ≡ later
unfolding state_of
same_state new later e f o =
    ap (λ x. state_of x new.fault new.offset) e ∙ ap (λ x. state_of later.ending x new.offset) f ∙ ap (λ x. state_of later.ending later.fault x) o

pub any_cuts : AnyCuts
any_cuts pieces others items its new later same a b m n =
    let s = from_start pieces items new a in
    let t : Stands (concat pieces) its later = let P : List ℕ → Type 0 = λ bs. Stands bs its later in subst P (sym same) (from_start others its later b) in
    let q = same_reading (concat pieces) items its new.ending later.ending new.fault later.fault m n s.reading t.reading in
    (q.items_same, same_state new later q.ending_same q.fault_same (s.counted ∙ sym t.counted))
