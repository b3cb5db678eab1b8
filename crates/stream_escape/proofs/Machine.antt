-- A reader that goes over the bytes one by one finds the reading that a list has.
use Rattle.std.proofs.Common.{◌≡◌, ℕ, zero, suc, ◌+◌, ◌<◌, ◌≤◌, List, [], ◌∷◌, ◌++◌, length, Bool, true, false, ◌==◌, nat_lt, if◌then◌else◌, refl, sym, ap, ◌∙◌, subst, arith, append_assoc, append-nil, length-append, lt-ltb, le-ltb, ne_eqb, ⊎_elim, ◌≢◌}
use Rattle.std.proofs.lemmas.Bool.{cases_eq}
use Rattle.stream_escape.specs.declared.stream.Item.{Item}
use Rattle.stream_escape.specs.declared.stream.Item.TheVariants.{Message, End}
use Rattle.stream_escape.specs.Stream.{escaped, Ending, partly, ended, further, ReadsWithin, begun, message, end}

-- where the reader stands: the items so far, how the bytes that were read end, and these bytes; or before a byte that
-- isn't read
pub data Run : Type 0 where
  going : (items : List Item) (ending : Ending) (front : List ℕ) → Run
  stuck : (items : List Item) (ending : Ending) (front : List ℕ) (byte : ℕ) → Run

-- a byte of a message, if there is room for it
abbrev pub put : ℕ → List Item → List ℕ → Bool → List ℕ → ℕ → ℕ → Run
put limit items part escape front taken byte =
    if nat_lt (length part) limit then going items (partly (part ++ taken ∷ []) false) (front ++ byte ∷ [])
    else stuck items (partly part escape) front byte

-- the byte behind an escape
abbrev pub step_escape : ℕ → List Item → List ℕ → List ℕ → ℕ → Run
step_escape limit items part front zero = put limit items part true front 3 0
step_escape limit items part front (suc zero) = going (items ++ Message part ∷ []) (partly [] false) (front ++ 1 ∷ [])
step_escape limit items part front (suc (suc zero)) = going (items ++ End ∷ []) ended (front ++ 2 ∷ [])
step_escape limit items part front (suc (suc (suc byte))) = stuck items (partly part true) front (suc (suc (suc byte)))

-- one more byte
abbrev pub step : ℕ → Run → ℕ → Run
step limit (stuck items ending front byte) next = stuck items ending front byte
step limit (going items ended front) next = stuck items ended front next
step limit (going items (partly part true) front) next = step_escape limit items part front next
step limit (going items (partly part false) front) next =
    if next == 3 then going items (partly part true) (front ++ next ∷ [])
    else put limit items part false front next next

-- many more bytes
abbrev pub run : ℕ → Run → List ℕ → Run
run limit state [] = state
run limit state (byte ∷ bytes) = run limit (step limit state byte) bytes

pub run-append : (limit : ℕ) (state : Run) (xs ys : List ℕ) → run limit state (xs ++ ys) ≡ run limit (run limit state xs) ys
run-append limit state [] ys = refl
run-append limit state (x ∷ xs) ys = run-append limit (step limit state x) xs ys

pub run_stuck : (limit : ℕ) (items : List Item) (ending : Ending) (front : List ℕ) (byte : ℕ) (bytes : List ℕ)
    → run limit (stuck items ending front byte) bytes ≡ stuck items ending front byte
run_stuck limit items ending front byte [] = refl
run_stuck limit items ending front byte (b ∷ bytes) = run_stuck limit items ending front byte bytes

-- there is room for the byte
pub put_room : (limit : ℕ) (items : List Item) (part : List ℕ) (escape : Bool) (front : List ℕ) (taken byte : ℕ) → length part < limit
    → put limit items part escape front taken byte ≡ going items (partly (part ++ taken ∷ []) false) (front ++ byte ∷ [])
put_room limit items part escape front taken byte h =
    let e : nat_lt (length part) limit ≡ true = lt-ltb (length part) limit h in rw e refl

-- there is no room for it
pub put_full : (limit : ℕ) (items : List Item) (part : List ℕ) (escape : Bool) (front : List ℕ) (taken byte : ℕ) → limit ≤ length part
    → put limit items part escape front taken byte ≡ stuck items (partly part escape) front byte
put_full limit items part escape front taken byte h =
    let e : nat_lt (length part) limit ≡ false = le-ltb (length part) limit h in rw e refl

-- a byte that isn't 3, where there is room for it
pub step_plain : (limit : ℕ) (items : List Item) (part front : List ℕ) (x : ℕ) → x ≢ 3 → length part < limit
    → step limit (going items (partly part false) front) x ≡ going items (partly (part ++ x ∷ []) false) (front ++ x ∷ [])
step_plain limit items part front x isnt room =
    let e : (x == 3) ≡ false = ne_eqb x 3 isnt in
    rw e (put_room limit items part false front x x room)

-- such a byte stands for itself
pub escaped_plain : (x : ℕ) (m : List ℕ) → x ≢ 3 → escaped (x ∷ m) ≡ x ∷ escaped m
escaped_plain x m isnt = let e : (x == 3) ≡ false = ne_eqb x 3 isnt in rw e refl

-- an escaped message is read
pub run_escaped : (limit : ℕ) (m : List ℕ) (items : List Item) (part front : List ℕ) → length part + length m ≤ limit
    → run limit (going items (partly part false) front) (escaped m) ≡ going items (partly (part ++ m) false) (front ++ escaped m)
run_escaped limit [] items part front h = simp append-nil
run_escaped limit (x ∷ m) items part front h =
    let room : length part < limit = omega arith in
    let rest : length (part ++ x ∷ []) + length m ≤ limit = omega (arith, length-append part (x ∷ [])) in
    let rest' : length (part ++ 3 ∷ []) + length m ≤ limit = omega (arith, length-append part (3 ∷ [])) in
    ⊎_elim
    (λ (is : x ≡ 3). let P : ℕ → Type 0 = λ y. run limit (going items (partly part false) front) (escaped (y ∷ m)) ≡ going items (partly (part ++ y ∷ m) false) (front ++ escaped (y ∷ m)) in
    subst P (sym is)
    (ap (λ s. run limit s (escaped m)) (put_room limit items part true (front ++ 3 ∷ []) 3 0 room)
    ∙ run_escaped limit m items (part ++ 3 ∷ []) ((front ++ 3 ∷ []) ++ 0 ∷ []) rest'
    ∙ simp append_assoc))
    (λ (isnt : x ≢ 3). rw (escaped_plain x m isnt)
    (ap (λ s. run limit s (escaped m)) (step_plain limit items part front x isnt room)
    ∙ run_escaped limit m items (part ++ x ∷ []) (front ++ x ∷ []) rest
    ∙ simp append_assoc))
    (cases_eq x 3)

-- the same from a list's start on, with more behind it
run_start : (limit : ℕ) (m more : List ℕ) (items : List Item) (front : List ℕ) → length m ≤ limit
    → run limit (going items (partly [] false) front) (escaped m ++ more) ≡ run limit (going items (partly m false) (front ++ escaped m)) more
run_start limit m more items front h =
    run-append limit (going items (partly [] false) front) (escaped m) more
    ∙ ap (λ s. run limit s more) (run_escaped limit m items [] front (omega arith))

-- a further byte 3
run_further : (limit : ℕ) (items : List Item) (part front : List ℕ) (escape : Bool)
    → run limit (going items (partly part false) front) (further escape) ≡ going items (partly part escape) (front ++ further escape)
run_further limit items part front true = refl
run_further limit items part front false = simp append-nil

-- from a list's start on its reading is found
pub run_reads : (limit : ℕ) (bytes : List ℕ) (items : List Item) (ending : Ending) (before : List Item) (front : List ℕ)
    → ReadsWithin limit bytes items ending
    → run limit (going before (partly [] false) front) bytes ≡ going (before ++ items) ending (front ++ bytes)
run_reads limit bytes items ending before front (begun {part = part} {escape = escape} h e) =
    rw e (run_start limit part (further escape) before front h ∙ run_further limit before part (front ++ escaped part) escape ∙ simp (append_assoc, append-nil))
run_reads limit bytes items ending before front (message {items = others} first rest h e reads) =
    rw (e, append_assoc)
    (run_start limit first (3 ∷ 1 ∷ rest) before front h
    ∙ run_reads limit rest others ending (before ++ Message first ∷ []) (((front ++ escaped first) ++ 3 ∷ []) ++ 1 ∷ []) reads
    ∙ simp append_assoc)
run_reads limit bytes items ending before front (end dropped h e) =
    rw e (run_start limit dropped (3 ∷ 2 ∷ []) before front h ∙ simp append_assoc)
