-- What each step of the code does to every list that has been read so far.
use Rattle.std.proofs.Common.{◌≡◌, ℕ, zero, suc, ◌+◌, ◌<◌, ◌≤◌, List, [], ◌∷◌, ◌++◌, length, take, true, false, ◌==◌, refl, sym, ap, arith, append-nil, length-append, ◌≢◌, ne_eqb, get_or, Result, Ok, Err, IfOk, IfErr, OnOk}
use Rattle.stream_escape.specs.declared.stream.Item.{Item}
use Rattle.stream_escape.specs.declared.stream.Item.TheVariants.{Message, End}
use Rattle.stream_escape.specs.declared.stream.StreamFault.{StreamFault}
use Rattle.stream_escape.specs.declared.stream.StreamFault.TheVariants.{BadEscape, TooLong, AfterEnd, NoMemory}
use Rattle.stream_escape.specs.Stream.{most_message, Ending, partly, ended, Reads, Cause, bad_escape, too_long, after_end, IsCause, fault_at}
use Rattle.stream_escape.specs.Progress.{Advances, IsRun, IsRefused, IsBlocked}
use Rattle.stream_escape.proofs.Machine.{going, stuck, step, put_full, escaped_plain}
use Rattle.stream_escape.proofs.Rules.{longer_limit, reads_run, reads_escape, reads_three, reads_message, reads_end}
use Rattle.stream_escape.proofs.Readings.{unreadable}

-- Where the reader doesn't move, the byte is refused.
refused_here : (offset : ℕ) (old : Ending) (byte : ℕ) (more : List ℕ) (cause : Cause)
    → ((limit : ℕ) → limit ≡ most_message → (front : List ℕ) (items : List Item) → step limit (going items old front) byte ≡ stuck items old front byte)
    → ((before : List ℕ) (its : List Item) → Reads before its old → IsCause (before ++ byte ∷ []) byte old cause)
    → IsRefused offset old (byte ∷ more) (fault_at offset cause)
refused_here offset old byte more cause stopped why =
    record {
      cause = cause;
      told = refl;
      refuses = λ before its reads. record {
        front = before;
        byte = byte;
        more = more;
        split = refl;
        at_place = refl;
        reads = reads;
        refused = unreadable most_message before its old byte (stopped most_message refl before its) reads;
        for_cause = why before its reads;
      };
    }

-- a byte behind the end of the stream
pub refused_end : (offset byte : ℕ) (more : List ℕ) → IsRefused offset ended (byte ∷ more) (AfterEnd offset)
refused_end offset byte more = refused_here offset ended byte more after_end (λ _ _ _ _. refl) (λ _ _ _. refl)

-- the reader doesn't move at a byte of 3 or more behind an escape
stopped_escape : (limit : ℕ) (items : List Item) (part front : List ℕ) (byte : ℕ) → byte ≢ 0 → byte ≢ 1 → byte ≢ 2
    → step limit (going items (partly part true) front) byte ≡ stuck items (partly part true) front byte
stopped_escape limit items part front zero a b c = absurd (a refl)
stopped_escape limit items part front (suc zero) a b c = absurd (b refl)
stopped_escape limit items part front (suc (suc zero)) a b c = absurd (c refl)
stopped_escape limit items part front (suc (suc (suc byte))) a b c = refl

-- such a byte
pub refused_escape : (offset byte : ℕ) (part more : List ℕ) → byte ≢ 0 → byte ≢ 1 → byte ≢ 2
    → IsRefused offset (partly part true) (byte ∷ more) (BadEscape offset byte)
refused_escape offset byte part more a b c =
    refused_here offset (partly part true) byte more (bad_escape byte)
    (λ limit _ front items. stopped_escape limit items part front byte a b c)
    (λ before its reads. (
      refl,
      (λ e. cc),
      (λ limit r.
          unreadable (most_message + limit) before its (partly part true) byte (stopped_escape (most_message + limit) its part before byte a b c)
          (longer_limit most_message (most_message + limit) (omega arith) reads)
          (record { items = r.items; ending = r.ending; reads = longer_limit limit (most_message + limit) (omega arith) r.reads })),
    ))

-- a byte 3 behind an escape for which there is no room
pub refused_three : (offset : ℕ) (part more : List ℕ) → most_message ≤ length part
    → IsRefused offset (partly part true) (0 ∷ more) (TooLong offset)
refused_three offset part more full =
    refused_here offset (partly part true) 0 more too_long
    (λ limit is front items. put_full limit items part true front 3 0 (omega (arith, is)))
    (λ before its reads. let wider = most_message + suc (length part) in (
      wider,
      record {
        items = its ++ [];
        ending = partly (part ++ 3 ∷ []) false;
        reads = reads_three wider part before its (omega arith) (longer_limit most_message wider (omega arith) reads);
      },
    ))

-- a plain byte for which there is no room
pub refused_plain : (offset byte : ℕ) (part more : List ℕ) → byte ≢ 3 → most_message ≤ length part
    → IsRefused offset (partly part false) (byte ∷ more) (TooLong offset)
refused_plain offset byte part more isnt full =
    refused_here offset (partly part false) byte more too_long
    (λ limit is front items. let e : (byte == 3) ≡ false = ne_eqb byte 3 isnt in rw e (put_full limit items part false front byte byte (omega (arith, is))))
    (λ before its reads. let wider = most_message + suc (length part) in (
      wider,
      record {
        items = its ++ [];
        ending = partly (part ++ byte ∷ []) false;
        reads = reads_run wider part (byte ∷ []) before its (escaped_plain byte [] isnt) (omega (arith, length-append part (byte ∷ []))) (longer_limit most_message wider (omega arith) reads);
      },
    ))

-- a byte 3 behind an escape
pub advance_three : (byte : ℕ) (part new : List ℕ) (items : List Item) → byte ≡ 0 → length part < most_message → new ≡ part ++ 3 ∷ []
    → Advances (partly part true) (byte ∷ []) items items (partly new false)
advance_three byte part new items is room put_last =
    rw (is, put_last) (record { items = []; appended = sym (append-nil items); continues = record { reads = λ before its. reads_three most_message part before its room } })

-- the end of a message
pub advance_message : (byte : ℕ) (part taken new : List ℕ) (items same after : List Item) → byte ≡ 1 → same ≡ items → taken ≡ part → new ≡ []
    → after ≡ same ++ Message taken ∷ [] → Advances (partly part true) (byte ∷ []) items after (partly new false)
advance_message byte part taken new items same after is kept whole empty put_last =
    rw (is, empty, put_last, kept, whole) (record { items = Message part ∷ []; appended = refl; continues = record { reads = λ before its. reads_message most_message part before its } })

-- the end of the stream
pub advance_end : (byte : ℕ) (part : List ℕ) (items after : List Item) → byte ≡ 2 → after ≡ items ++ End ∷ []
    → Advances (partly part true) (byte ∷ []) items after ended
advance_end byte part items after is put_last =
    rw is (record { items = End ∷ []; appended = put_last; continues = record { reads = λ before its. reads_end most_message part before its } })

-- bytes behind the end of the stream
pub blocked_end : (offset : ℕ) (old : Ending) (bytes : List ℕ) → 0 < length bytes → old ≡ ended → IsRefused offset old bytes (AfterEnd offset)
blocked_end offset old [] some is = absurd (omega arith)
blocked_end offset old (byte ∷ more) some is = rw is (refused_end offset byte more)

-- bytes behind an escape
pub blocked_escape : (offset : ℕ) (old : Ending) (part bytes : List ℕ) (fault : StreamFault) → 0 < length bytes → old ≡ partly part true
    → ((more : List ℕ) → IsBlocked offset (partly part true) (get_or bytes 0 0 ∷ more) fault) → IsBlocked offset old bytes fault
blocked_escape offset old part [] fault some is blocked = absurd (omega arith)
blocked_escape offset old part (byte ∷ more) fault some is blocked = rw is (blocked more)

-- an escape
pub advance_escape : (old : Ending) (part bytes : List ℕ) (items : List Item) → 0 < length bytes → get_or bytes 0 0 ≡ 3 → old ≡ partly part false
    → Advances old (take 1 bytes) items items (partly part true)
advance_escape old part [] items some three is = absurd (omega arith)
advance_escape old part (byte ∷ more) items some three is =
    rw (is, three) (record { items = []; appended = sym (append-nil items); continues = record { reads = λ before its. reads_escape most_message part before its } })

-- a run of plain bytes
pub advance_run : (answer : Result ℕ StreamFault) (old later : Ending) (part new bytes : List ℕ) (items : List Item) → old ≡ partly part false → later ≡ partly new false
    → IfOk answer (λ count. IsRun count bytes) → IfOk answer (λ count. new ≡ part ++ take count bytes) → OnOk answer (length new ≤ most_message)
    → IfOk answer (λ count. Advances old (take count bytes) items items later)
advance_run (Ok count) old later part new bytes items was is run longer room =
    rw (was, is, longer) (record {
      items = [];
      appended = sym (append-nil items);
      continues = record {
        reads = λ before its. reads_run most_message part (take count bytes) before its run.plain (rw (sym longer) room);
      };
    })
advance_run (Err fault) old later part new bytes items was is run longer room = tt

-- a plain byte for which there is no room
pub blocked_run : (answer : Result ℕ StreamFault) (offset : ℕ) (old : Ending) (part bytes : List ℕ) → 0 < length bytes → get_or bytes 0 0 ≢ 3 → old ≡ partly part false
    → IfErr answer (λ fault. fault ≢ NoMemory → fault ≡ TooLong offset) → (answer ≡ Err (TooLong offset) → most_message ≤ length part)
    → IfErr answer (IsBlocked offset old bytes)
blocked_run (Ok count) offset old part bytes some isnt is only full = tt
blocked_run (Err NoMemory) offset old part bytes some isnt is only full = tt
blocked_run (Err (BadEscape at byte)) offset old part bytes some isnt is only full = let e = only (λ q. cc) in cc
blocked_run (Err (AfterEnd at)) offset old part bytes some isnt is only full = let e = only (λ q. cc) in cc
blocked_run (Err (TooLong at)) offset old part [] some isnt is only full = absurd (omega arith)
blocked_run (Err (TooLong at)) offset old part (byte ∷ more) some isnt is only full =
    let e : TooLong at ≡ TooLong offset = only (λ q. cc) in
    rw (is, e) (refused_plain offset byte part more isnt (full (ap Err e)))
