-- The reader that goes over the bytes one by one reads what can be read and no more: so there is one reading, and
-- one refusal.
use Rattle.std.proofs.Common.{◌≡◌, ℕ, zero, suc, ◌+◌, ◌<◌, ◌≤◌, List, [], ◌∷◌, ◌++◌, length, Bool, true, false, ◌==◌, refl, sym, ap, ◌∙◌, subst, arith, append-nil, length-append, ⊎_elim, ◌≢◌, ne_eqb}
use Rattle.std.proofs.lemmas.Bool.{cases_eq, cases_lt}
use Rattle.stream_escape.specs.declared.stream.Item.{Item}
use Rattle.stream_escape.specs.Stream.{most_message, Ending, partly, ended, ReadsWithin, Reads, IsReadable, Cause, bad_escape, too_long, after_end, IsCause, Refuses}
use Rattle.stream_escape.specs.Laws.{OneReading, OneFault, NotBoth}
use Rattle.stream_escape.proofs.Machine.{Run, going, stuck, put, step_escape, step, run, run-append, run_stuck, run_reads, put_room, put_full, escaped_plain}
use Rattle.stream_escape.proofs.Rules.{longer_limit, reads_run, reads_escape, reads_three, reads_message, reads_end}

-- what a step finds: it goes on with a reading, or it doesn't move
abbrev Finds : ℕ → List ℕ → List Item → Ending → List ℕ → ℕ → Run → Type 0
Finds limit bytes items ending front byte (going others other on) = ReadsWithin limit (bytes ++ byte ∷ []) others other
Finds limit bytes items ending front byte (stuck others other at it) = stuck others other at it ≡ stuck items ending front byte

-- a reading of some more items or none, with none written as such
none : (limit : ℕ) (bytes : List ℕ) (items : List Item) (ending : Ending) → ReadsWithin limit bytes (items ++ []) ending → ReadsWithin limit bytes items ending
none limit bytes items ending reads = let P : List Item → Type 0 = λ its. ReadsWithin limit bytes its ending in subst P (append-nil items) reads

put_finds : (limit : ℕ) (bytes : List ℕ) (items : List Item) (part : List ℕ) (escape : Bool) (front : List ℕ) (taken byte : ℕ)
    → (length part < limit → ReadsWithin limit (bytes ++ byte ∷ []) items (partly (part ++ taken ∷ []) false))
    → Finds limit bytes items (partly part escape) front byte (put limit items part escape front taken byte)
put_finds limit bytes items part escape front taken byte reads =
    let P : Run → Type 0 = λ s. Finds limit bytes items (partly part escape) front byte s in
    ⊎_elim
    (λ (room : length part < limit). subst P (sym (put_room limit items part escape front taken byte room)) (reads room))
    (λ (full : limit ≤ length part). subst P (sym (put_full limit items part escape front taken byte full)) refl)
    (cases_lt (length part) limit)

plain_finds : (limit : ℕ) (bytes : List ℕ) (items : List Item) (part front : List ℕ) (byte : ℕ)
    → ReadsWithin limit bytes items (partly part false)
    → Finds limit bytes items (partly part false) front byte (step limit (going items (partly part false) front) byte)
plain_finds limit bytes items part front byte reads =
    let P : ℕ → Type 0 = λ b. Finds limit bytes items (partly part false) front b (step limit (going items (partly part false) front) b) in
    ⊎_elim
    (λ (is : byte ≡ 3). subst P (sym is) (none limit _ items _ (reads_escape limit part bytes items reads)))
    (λ (isnt : byte ≢ 3). let e : (byte == 3) ≡ false = ne_eqb byte 3 isnt in
    rw e (put_finds limit bytes items part false front byte byte
    (λ room. none limit _ items _ (reads_run limit part (byte ∷ []) bytes items (escaped_plain byte [] isnt) (omega (arith, length-append part (byte ∷ []))) reads))))
    (cases_eq byte 3)

escape_finds : (limit : ℕ) (bytes : List ℕ) (items : List Item) (part front : List ℕ) (byte : ℕ)
    → ReadsWithin limit bytes items (partly part true)
    → Finds limit bytes items (partly part true) front byte (step_escape limit items part front byte)
escape_finds limit bytes items part front zero reads =
    put_finds limit bytes items part true front 3 0 (λ room. none limit _ items _ (reads_three limit part bytes items room reads))
escape_finds limit bytes items part front (suc zero) reads = reads_message limit part bytes items reads
escape_finds limit bytes items part front (suc (suc zero)) reads = reads_end limit part bytes items reads
escape_finds limit bytes items part front (suc (suc (suc byte))) reads = refl

step_finds : (limit : ℕ) (bytes : List ℕ) (items : List Item) (ending : Ending) (front : List ℕ) (byte : ℕ)
    → ReadsWithin limit bytes items ending
    → Finds limit bytes items ending front byte (step limit (going items ending front) byte)
step_finds limit bytes items ended front byte reads = refl
step_finds limit bytes items (partly part true) front byte reads = escape_finds limit bytes items part front byte reads
step_finds limit bytes items (partly part false) front byte reads = plain_finds limit bytes items part front byte reads

-- a byte with which nothing is read stops the reader
stops : (limit : ℕ) (bytes : List ℕ) (items : List Item) (ending : Ending) (front : List ℕ) (byte : ℕ) (state : Run)
    → Finds limit bytes items ending front byte state → ¬ IsReadable limit (bytes ++ byte ∷ []) → state ≡ stuck items ending front byte
stops limit bytes items ending front byte (going others other on) finds unread = absurd (unread (record { items = others; ending = other; reads = finds }))
stops limit bytes items ending front byte (stuck others other at it) finds unread = finds

-- where the reader begins
abbrev start : Run
start = going [] (partly [] false) []

-- a list that is read stops the reader at a byte only if it isn't read with it
pub unreadable : (limit : ℕ) (bytes : List ℕ) (items : List Item) (ending : Ending) (byte : ℕ)
    → step limit (going items ending bytes) byte ≡ stuck items ending bytes byte
    → ReadsWithin limit bytes items ending → ¬ IsReadable limit (bytes ++ byte ∷ [])
unreadable limit bytes items ending byte stopped reads r =
    let all : run limit start (bytes ++ byte ∷ []) ≡ going r.items r.ending (bytes ++ byte ∷ []) = run_reads limit (bytes ++ byte ∷ []) r.items r.ending [] [] r.reads in
    let parts : run limit start (bytes ++ byte ∷ []) ≡ step limit (run limit start bytes) byte = run-append limit start bytes (byte ∷ []) in
    let first : run limit start bytes ≡ going items ending bytes = run_reads limit bytes items ending [] [] reads in
    let last : step limit (run limit start bytes) byte ≡ step limit (going items ending bytes) byte = ap (λ s. step limit s byte) first in
    cc

pub one : OneReading
one bytes items others ending other first second =
    let a : run most_message start bytes ≡ going items ending bytes = run_reads most_message bytes items ending [] [] first in
    let b : run most_message start bytes ≡ going others other bytes = run_reads most_message bytes others other [] [] second in
    record { items_same = cc; ending_same = cc }

-- where a refusal stops the reader
refused_run : (bytes : List ℕ) (items : List Item) (ending : Ending) (place : ℕ) (cause : Cause) → (r : Refuses bytes items ending place cause)
    → run most_message start bytes ≡ stuck items ending r.front r.byte
refused_run bytes items ending place cause r =
    let first : run most_message start r.front ≡ going items ending r.front = run_reads most_message r.front items ending [] [] r.reads in
    let stopped : step most_message (going items ending r.front) r.byte ≡ stuck items ending r.front r.byte =
    stops most_message r.front items ending r.front r.byte (step most_message (going items ending r.front) r.byte) (step_finds most_message r.front items ending r.front r.byte r.reads) r.refused in
    ap (λ bs. run most_message start bs) r.split
    ∙ run-append most_message start r.front (r.byte ∷ r.more)
    ∙ ap (λ s. run most_message (step most_message s r.byte) r.more) first
    ∙ ap (λ s. run most_message s r.more) stopped
    ∙ run_stuck most_message items ending r.front r.byte r.more

pub not_both : NotBoth
not_both bytes items others ending other place cause reads r =
    let a : run most_message start bytes ≡ going items ending bytes = run_reads most_message bytes items ending [] [] reads in
    let b : run most_message start bytes ≡ stuck others other r.front r.byte = refused_run bytes others other place cause r in
    cc

-- behind the end of a stream nothing is read, whatever the limit
pub nothing_more : (limit other : ℕ) (bytes : List ℕ) (items : List Item) (byte : ℕ)
    → ReadsWithin limit bytes items ended → ¬ IsReadable other (bytes ++ byte ∷ [])
nothing_more limit other bytes items byte reads r =
    unreadable (limit + other) bytes items ended byte refl (longer_limit limit (limit + other) (omega arith) reads)
    (record { items = r.items; ending = r.ending; reads = longer_limit other (limit + other) (omega arith) r.reads })

same_cause : (bytes : List ℕ) (items : List Item) (ending : Ending) (byte : ℕ) (cause reason : Cause) → Reads bytes items ending
    → IsCause (bytes ++ byte ∷ []) byte ending cause → IsCause (bytes ++ byte ∷ []) byte ending reason → cause ≡ reason
same_cause bytes items ending byte after_end after_end reads a b = refl
same_cause bytes items ending byte too_long too_long reads a b = refl
same_cause bytes items ending byte (bad_escape x) (bad_escape y) reads a b = ap bad_escape (a.0 ∙ sym b.0)
same_cause bytes items ending byte after_end (bad_escape y) reads a b = absurd (b.1 a)
same_cause bytes items ending byte (bad_escape x) after_end reads a b = absurd (a.1 b)
same_cause bytes items ending byte too_long (bad_escape y) reads a b = absurd (b.2 a.0 a.1)
same_cause bytes items ending byte (bad_escape x) too_long reads a b = absurd (a.2 b.0 b.1)
same_cause bytes items ending byte after_end too_long reads a b =
    let P : Ending → Type 0 = λ e. Reads bytes items e in absurd (nothing_more most_message b.0 bytes items byte (subst P a reads) b.1)
same_cause bytes items ending byte too_long after_end reads a b =
    let P : Ending → Type 0 = λ e. Reads bytes items e in absurd (nothing_more most_message a.0 bytes items byte (subst P b reads) a.1)

pub one_refusal : OneFault
one_refusal bytes items others ending other place elsewhere cause reason r q =
    let a : run most_message start bytes ≡ stuck items ending r.front r.byte = refused_run bytes items ending place cause r in
    let b : run most_message start bytes ≡ stuck others other q.front q.byte = refused_run bytes others other elsewhere reason q in
    let fronts : r.front ≡ q.front = cc in
    let bytes_same : r.byte ≡ q.byte = cc in
    let endings : ending ≡ other = cc in
    let lengths : length r.front ≡ length q.front = ap length fronts in
    let here : length r.front ≡ place = r.at_place in
    let there : length q.front ≡ elsewhere = q.at_place in
    let P : Ending → Type 0 = λ e. IsCause (q.front ++ q.byte ∷ []) q.byte e reason in
    let Q : List ℕ → ℕ → Type 0 = λ front byte. IsCause (front ++ byte ∷ []) byte ending reason in
    record {
      items_same = cc;
      ending_same = cc;
      place_same = omega arith;
      cause_same = same_cause r.front items ending r.byte cause reason r.reads r.for_cause
          (subst (λ (byte : ℕ). Q r.front byte) (sym bytes_same) (subst (λ (front : List ℕ). Q front q.byte) (sym fronts) (subst P (sym endings) q.for_cause)));
    }
