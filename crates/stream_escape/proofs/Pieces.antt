-- How a piece is read bit by bit.
use Rattle.std.proofs.Common.{◌≡◌, ℕ, ◌+◌, ◌-◌, ◌≤◌, List, ◌++◌, length, take, drop, Ok, Err, sym, ap, ◌∙◌, subst, append_assoc, length-append, take-add, take-append-drop}
use Rattle.std.proofs.lemmas.List.{take_rest, length-take-le}
use Rattle.stream_escape.specs.declared.stream.Item.{Item}
use Rattle.stream_escape.specs.declared.stream.StreamFault.{StreamFault}
use Rattle.stream_escape.specs.declared.stream.StreamFault.TheVariants.{BadEscape, TooLong, AfterEnd, NoMemory}
use Rattle.stream_escape.specs.Stream.{Ending, Refuses}
use Rattle.stream_escape.specs.Value.{capped}
use Rattle.stream_escape.specs.Feeding.{Continues, Stops, Tells, Takes}
use Rattle.stream_escape.specs.Progress.{Advances, IsRefused, IsBlocked}

-- one reading after the other
pub continue_more : (old middle new : Ending) (first then_bytes : List ℕ) (xs ys : List Item)
    → Continues old first xs middle → Continues middle then_bytes ys new → Continues old (first ++ then_bytes) (xs ++ ys) new
continue_more old middle new first then_bytes xs ys a b = record {
  reads = λ before its h. rw (← append_assoc before first then_bytes, ← append_assoc its xs ys) (b.reads (before ++ first) (its ++ xs) (a.reads before its h));
}

-- some more of it is read
pub takes_more : (start : ℕ) (old middle new : Ending) (piece : List ℕ) (before between after : List Item) (i n : ℕ)
    → Takes start old (take i piece) before between (Ok tt) middle
    → Advances middle (take n (take (length piece - i) (drop i piece))) between after new
    → Takes start old (take (i + n) piece) before after (Ok tt) new
takes_more start old middle new piece before between after i n a b =
    let parts : take (i + n) piece ≡ take i piece ++ take n (drop i piece) = take-add i n piece in
    let P : List ℕ → Type 0 = λ bytes. Continues middle (take n bytes) b.items new in
    let Q : List ℕ → Type 0 = λ bytes. Continues old bytes (a.items ++ b.items) new in
    record {
      items = a.items ++ b.items;
      appended = b.appended ∙ ap (λ its. its ++ b.items) a.appended ∙ append_assoc before a.items b.items;
      tells = subst Q (sym parts) (continue_more old middle new (take i piece) (take n (drop i piece)) a.items b.items a.tells (subst P (take_rest piece i) b.continues));
    }

-- a byte of it is refused
stops_at : (start : ℕ) (old new : Ending) (piece : List ℕ) (items : List Item) (i : ℕ) (fault : StreamFault) → i ≤ length piece
    → Continues old (take i piece) items new → IsRefused (capped (start + i)) new (take (length piece - i) (drop i piece)) fault
    → Stops start old piece items new fault
stops_at start old new piece items i fault within a r = record {
  index = i;
  cause = r.cause;
  told = r.told;
  refuses = λ before its h.
      let bytes : (before ++ take i piece) ++ take (length piece - i) (drop i piece) ≡ before ++ piece =
      append_assoc before (take i piece) (take (length piece - i) (drop i piece)) ∙ ap (λ bs. before ++ (take i piece ++ bs)) (take_rest piece i) ∙ ap (λ bs. before ++ bs) (take-append-drop i piece) in
      let place : length (before ++ take i piece) ≡ length before + i =
      length-append before (take i piece) ∙ ap (λ n. length before + n) (length-take-le i piece within) in
      let P : List ℕ → Type 0 = λ bs. Refuses bs (its ++ items) new (length before + i) r.cause in
      let Q : ℕ → Type 0 = λ n. Refuses ((before ++ take i piece) ++ take (length piece - i) (drop i piece)) (its ++ items) new n r.cause in
      subst P bytes (subst Q place (r.refuses (before ++ take i piece) (its ++ items) (a.reads before its h)));
}

tells_at : (start : ℕ) (old new : Ending) (piece : List ℕ) (items : List Item) (i : ℕ) (fault : StreamFault) → i ≤ length piece
    → Continues old (take i piece) items new → IsBlocked (capped (start + i)) new (take (length piece - i) (drop i piece)) fault
    → Tells start old piece items (Err fault) new
tells_at start old new piece items i NoMemory within a r = record { front = take i piece; more = drop i piece; split = sym (take-append-drop i piece); continues = a }
tells_at start old new piece items i (BadEscape offset byte) within a r = stops_at start old new piece items i (BadEscape offset byte) within a r
tells_at start old new piece items i (TooLong offset) within a r = stops_at start old new piece items i (TooLong offset) within a r
tells_at start old new piece items i (AfterEnd offset) within a r = stops_at start old new piece items i (AfterEnd offset) within a r

pub takes_fault : (start offset : ℕ) (old middle new : Ending) (piece : List ℕ) (before between after : List Item) (i : ℕ) (fault : StreamFault) → i ≤ length piece
    → Takes start old (take i piece) before between (Ok tt) middle → offset ≡ capped (start + i)
    → IsBlocked offset middle (take (length piece - i) (drop i piece)) fault → new ≡ middle → after ≡ between
    → Takes start old piece before after (Err fault) new
takes_fault start offset old middle new piece before between after i fault within a at r same nothing =
    let P : ℕ → Type 0 = λ n. IsBlocked n middle (take (length piece - i) (drop i piece)) fault in
    rw same (record {
      items = a.items;
      appended = nothing ∙ a.appended;
      tells = tells_at start old middle piece a.items i fault within a.tells (subst P at r);
    })
