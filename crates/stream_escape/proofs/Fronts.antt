-- A front of a whole message's bytes.
use Rattle.std.proofs.Common.{◌≡◌, ◌≢◌, ℕ, ◌≤◌, List, [], ◌∷◌, ◌++◌, length, Bool, true, false, ◌==◌, cond, refl, sym, subst, arith}
use Rattle.stream_escape.specs.Stream.{escaped, framed, further, begun}
use Rattle.stream_escape.specs.Laws.{FrontOfFrame}

-- the bytes are those of a part of a message, with or without one further byte 3
record IsPart (message front : List ℕ) : Type 0 where
  part : List ℕ
  escape : Bool
  short : length part ≤ length message
  bytes : front ≡ escaped part ++ further escape

nothing_yet : (message : List ℕ) → IsPart message []
nothing_yet message = record { part = []; escape = false; short = omega arith; bytes = refl }

one_escape : (message : List ℕ) → IsPart message (3 ∷ [])
one_escape message = record { part = []; escape = true; short = omega arith; bytes = refl }

-- the same behind one more byte of the message
longer : (byte : ℕ) (message front : List ℕ) → IsPart message front → IsPart (byte ∷ message) (escaped (byte ∷ []) ++ front)
longer byte message front p = by_byte (byte == 3) refl
  where
    by_byte : (b : Bool) → (byte == 3) ≡ b → IsPart (byte ∷ message) (cond b (3 ∷ 0 ∷ []) (byte ∷ []) ++ front)
    by_byte true is =
        let less = p.short in
        record { part = byte ∷ p.part; escape = p.escape; short = omega arith; bytes = rw (is, p.bytes) refl }
    by_byte false is =
        let less = p.short in
        record { part = byte ∷ p.part; escape = p.escape; short = omega arith; bytes = rw (is, p.bytes) refl }

no_more : (front more : List ℕ) → [] ≡ front ++ more → more ≡ []
no_more [] more is = sym is
no_more (x ∷ front) more is = cc

-- a front of a message with one byte more
abbrev Fronts : List ℕ → Type 0
Fronts message = (front more : List ℕ) → framed message ≡ front ++ more → more ≢ [] → IsPart message front

front_of_escape : (byte : ℕ) (message front more : List ℕ) → (byte == 3) ≡ true → Fronts message → 3 ∷ 0 ∷ framed message ≡ front ++ more → more ≢ []
    → IsPart (byte ∷ message) front
front_of_escape byte message [] more test fronts is some = nothing_yet (byte ∷ message)
front_of_escape byte message (x ∷ []) more test fronts is some =
    let first : 3 ∷ [] ≡ x ∷ [] = cc in subst (IsPart (byte ∷ message)) first (one_escape (byte ∷ message))
front_of_escape byte message (x ∷ y ∷ front) more test fronts is some =
    let rest : framed message ≡ front ++ more = cc in
    let first : 3 ∷ 0 ∷ front ≡ x ∷ y ∷ front = cc in
    subst (IsPart (byte ∷ message)) first (rw test at (longer byte message front (fronts front more rest some)))

front_of_plain : (byte : ℕ) (message front more : List ℕ) → (byte == 3) ≡ false → Fronts message → byte ∷ framed message ≡ front ++ more → more ≢ []
    → IsPart (byte ∷ message) front
front_of_plain byte message [] more test fronts is some = nothing_yet (byte ∷ message)
front_of_plain byte message (x ∷ front) more test fronts is some =
    let rest : framed message ≡ front ++ more = cc in
    let first : byte ∷ front ≡ x ∷ front = cc in
    subst (IsPart (byte ∷ message)) first (rw test at (longer byte message front (fronts front more rest some)))

front_of_byte : (b : Bool) (byte : ℕ) (message front more : List ℕ) → (byte == 3) ≡ b → Fronts message
    → (cond b (3 ∷ 0 ∷ escaped message) (byte ∷ escaped message)) ++ 3 ∷ 1 ∷ [] ≡ front ++ more → more ≢ [] → IsPart (byte ∷ message) front
front_of_byte true byte message front more test fronts is some = front_of_escape byte message front more test fronts is some
front_of_byte false byte message front more test fronts is some = front_of_plain byte message front more test fronts is some

front_part : (message : List ℕ) → Fronts message
front_part [] [] more is some = nothing_yet []
front_part [] (x ∷ []) more is some = let first : 3 ∷ [] ≡ x ∷ [] = cc in subst (IsPart []) first (one_escape [])
front_part [] (x ∷ y ∷ front) more is some = absurd (some (no_more front more (cc)))
front_part (byte ∷ message) front more is some = front_of_byte (byte == 3) byte message front more refl (front_part message) is some

pub front_of_frame : FrontOfFrame
front_of_frame message front more within is some =
    let p = front_part message front more is some in
    let less = p.short in
    record { part = p.part; escape = p.escape; reads = begun (omega arith) p.bytes }
