-- The rules byte by byte say of each list of bytes what Stream says of it.
use Rattle.std.proofs.Common.{◌≡◌, ◌≢◌, ℕ, zero, suc, ◌+◌, ◌<◌, List, [], ◌∷◌, ◌++◌, length, Bool, true, false, cond, ◌==◌, nat_lt, Option, None, Some, Err, refl, sym, ap, ◌∙◌, subst, arith, append_assoc, append-nil, add-zero, length-append, eqb-true, ltb-true, ltb-false}
use Rattle.std.proofs.lemmas.Bool.{eqb-false}
use Rattle.stream_escape.specs.declared.stream.Item.{Item}
use Rattle.stream_escape.specs.declared.stream.StreamFault.{StreamFault}
use Rattle.stream_escape.specs.declared.stream.StreamFault.TheVariants.{BadEscape, TooLong, AfterEnd, NoMemory}
use Rattle.stream_escape.specs.Stream.{most_message, Ending, partly, ended, Cause, bad_escape, too_long, after_end, Refuses, fault_at}
use Rattle.stream_escape.specs.Value.{capped}
use Rattle.stream_escape.specs.Feeding.{Continues, Stops, Tells}
use Rattle.stream_escape.specs.Progress.{IsRefused}
use Rattle.stream_escape.specs.Fed.{ByteRead, taken, refused, put, escape_read, byte_read, Course, followed, course}
use Rattle.stream_escape.proofs.Machine.{escaped_plain}
use Rattle.stream_escape.proofs.Rules.{reads_run, reads_escape, reads_three, reads_message, reads_end}
use Rattle.stream_escape.proofs.Pieces.{continue_more}
use Rattle.stream_escape.proofs.Steps.{refused_end, refused_escape, refused_three, refused_plain}

-- ---- One byte

-- what is said of one more byte holds of every list that ends like this
abbrev Holds : ℕ → Ending → ℕ → ByteRead → Type 0
Holds offset old byte (taken items next) = Continues old (byte ∷ []) items next
Holds offset old byte (refused fault) = (more : List ℕ) → IsRefused offset old (byte ∷ more) fault

three_holds : (offset : ℕ) (part : List ℕ) → Holds offset (partly part true) 0 (put offset 3 part)
three_holds offset part = by_room (nat_lt (length part) most_message) refl
  where
    by_room : (b : Bool) → nat_lt (length part) most_message ≡ b
        → Holds offset (partly part true) 0 (cond b (taken [] (partly (part ++ 3 ∷ []) false)) (refused (TooLong offset)))
    by_room true e = record { reads = λ before its. reads_three most_message part before its (ltb-true (length part) most_message e) }
    by_room false e = λ more. refused_three offset part more (ltb-false (length part) most_message e)

plain_holds : (offset byte : ℕ) (part : List ℕ) → byte ≢ 3 → Holds offset (partly part false) byte (put offset byte part)
plain_holds offset byte part isnt = by_room (nat_lt (length part) most_message) refl
  where
    by_room : (b : Bool) → nat_lt (length part) most_message ≡ b
        → Holds offset (partly part false) byte (cond b (taken [] (partly (part ++ byte ∷ []) false)) (refused (TooLong offset)))
    by_room true e =
        let room : length part < most_message = ltb-true (length part) most_message e in
        record { reads = λ before its. reads_run most_message part (byte ∷ []) before its (escaped_plain byte [] isnt) (omega (arith, length-append part (byte ∷ []))) }
    by_room false e = λ more. refused_plain offset byte part more isnt (ltb-false (length part) most_message e)

escape_holds : (offset byte : ℕ) (part : List ℕ) → Holds offset (partly part true) byte (escape_read offset byte part)
escape_holds offset zero part = three_holds offset part
escape_holds offset (suc zero) part = record { reads = λ before its. reads_message most_message part before its }
escape_holds offset (suc (suc zero)) part = record { reads = λ before its. reads_end most_message part before its }
escape_holds offset (suc (suc (suc more))) part = λ bytes. refused_escape offset (suc (suc (suc more))) part bytes (omega arith) (omega arith) (omega arith)

begun_holds : (offset byte : ℕ) (part : List ℕ) → Holds offset (partly part false) byte (byte_read offset byte (partly part false))
begun_holds offset byte part = by_test (byte == 3) refl
  where
    by_test : (b : Bool) → (byte == 3) ≡ b → Holds offset (partly part false) byte (cond b (taken [] (partly part true)) (put offset byte part))
    by_test true e =
        let P : ℕ → Type 0 = λ x. Continues (partly part false) (x ∷ []) [] (partly part true) in
        subst P (sym (eqb-true byte 3 e)) (record { reads = λ before its. reads_escape most_message part before its })
    by_test false e = plain_holds offset byte part (eqb-false byte 3 e)

byte_holds : (offset byte : ℕ) (old : Ending) → Holds offset old byte (byte_read offset byte old)
byte_holds offset byte ended = λ more. refused_end offset byte more
byte_holds offset byte (partly part true) = escape_holds offset byte part
byte_holds offset byte (partly part false) = begun_holds offset byte part

-- ---- Many bytes

-- what is said of the bytes holds of every list that ends like this
abbrev pub CourseHolds : ℕ → Ending → List ℕ → List Item → Ending → Option StreamFault → Type 0
CourseHolds offset old bytes items new None = Continues old bytes items new
CourseHolds offset old bytes items new (Some fault) = Stops offset old bytes items new fault

refused_first : (offset byte : ℕ) (old : Ending) (bytes : List ℕ) (fault : StreamFault) → IsRefused (capped offset) old (byte ∷ bytes) fault
    → Stops offset old (byte ∷ bytes) [] old fault
refused_first offset byte old bytes fault r = record {
  index = 0;
  cause = r.cause;
  told = r.told ∙ ap (λ n. fault_at (capped n) r.cause) (sym (add-zero offset));
  refuses = λ before its h. rw (append-nil, add-zero) (r.refuses before its h);
}

-- a byte is read, and those behind it are refused
refused_later : (offset byte : ℕ) (old next new : Ending) (bytes : List ℕ) (items its : List Item) (fault : StreamFault)
    → Continues old (byte ∷ []) items next → Stops (offset + 1) next bytes its new fault → Stops offset old (byte ∷ bytes) (items ++ its) new fault
refused_later offset byte old next new bytes items its fault a s = record {
  index = s.index + 1;
  cause = s.cause;
  told = let place : (offset + 1) + s.index ≡ offset + (s.index + 1) = omega arith in s.told ∙ ap (λ n. fault_at (capped n) s.cause) place;
  refuses = λ before others h.
      let place : length (before ++ byte ∷ []) + s.index ≡ length before + (s.index + 1) = omega (arith, length-append before (byte ∷ [])) in
      let P : ℕ → Type 0 = λ n. Refuses (before ++ byte ∷ bytes) (others ++ (items ++ its)) new n s.cause in
      let Q : List Item → Type 0 = λ xs. Refuses (before ++ byte ∷ bytes) xs new (length (before ++ byte ∷ []) + s.index) s.cause in
      let R : List ℕ → Type 0 = λ bs. Refuses bs ((others ++ items) ++ its) new (length (before ++ byte ∷ []) + s.index) s.cause in
      subst P place
      (subst Q (append_assoc others items its)
      (subst R (append_assoc before (byte ∷ []) bytes) (s.refuses (before ++ byte ∷ []) (others ++ items) (a.reads before others h))));
}

later_holds : (offset byte : ℕ) (old next new : Ending) (bytes : List ℕ) (items its : List Item) (fault : Option StreamFault)
    → Continues old (byte ∷ []) items next → CourseHolds (offset + 1) next bytes its new fault → CourseHolds offset old (byte ∷ bytes) (items ++ its) new fault
later_holds offset byte old next new bytes items its None a c = continue_more old next new (byte ∷ []) bytes items its a c
later_holds offset byte old next new bytes items its (Some fault) a c = refused_later offset byte old next new bytes items its fault a c

followed_holds : (offset byte : ℕ) (old : Ending) (bytes : List ℕ) (first : ByteRead) (rest : Ending → Course)
    → Holds (capped offset) old byte first → ((next : Ending) → CourseHolds (offset + 1) next bytes (rest next).items (rest next).ending (rest next).fault)
    → CourseHolds offset old (byte ∷ bytes) (followed old first rest).items (followed old first rest).ending (followed old first rest).fault
followed_holds offset byte old bytes (refused fault) rest h more = refused_first offset byte old bytes fault (h bytes)
followed_holds offset byte old bytes (taken items next) rest h more =
    later_holds offset byte old next (rest next).ending bytes items (rest next).items (rest next).fault h (more next)

pub course_holds : (offset : ℕ) (bytes : List ℕ) (old : Ending)
    → CourseHolds offset old bytes (course offset bytes old).items (course offset bytes old).ending (course offset bytes old).fault
course_holds offset [] old = record { reads = λ before its h. rw (append-nil before, append-nil its) h }
course_holds offset (byte ∷ bytes) old =
    followed_holds offset byte old bytes (byte_read (capped offset) byte old) (course (offset + 1) bytes) (byte_holds (capped offset) byte old) (course_holds (offset + 1) bytes)

-- ---- Want of memory isn't told

pub fault_not_memory : (offset : ℕ) (cause : Cause) → fault_at offset cause ≢ NoMemory
fault_not_memory offset (bad_escape byte) e = cc
fault_not_memory offset too_long e = cc
fault_not_memory offset after_end e = cc

pub stops_tells : (start : ℕ) (old new : Ending) (piece : List ℕ) (items : List Item) (fault : StreamFault) → Stops start old piece items new fault → Tells start old piece items (Err fault) new
stops_tells start old new piece items (BadEscape offset byte) s = s
stops_tells start old new piece items (TooLong offset) s = s
stops_tells start old new piece items (AfterEnd offset) s = s
stops_tells start old new piece items NoMemory s = absurd (fault_not_memory (capped (start + s.index)) s.cause (sym s.told))

pub tells_stops : (start : ℕ) (old new : Ending) (piece : List ℕ) (items : List Item) (fault : StreamFault) → fault ≢ NoMemory → Tells start old piece items (Err fault) new → Stops start old piece items new fault
tells_stops start old new piece items (BadEscape offset byte) isnt t = t
tells_stops start old new piece items (TooLong offset) isnt t = t
tells_stops start old new piece items (AfterEnd offset) isnt t = t
tells_stops start old new piece items NoMemory isnt t = absurd (isnt refl)
