-- Each pending tag is given once.
use Rattle.std.proofs.Common.{◌≡◌, ℕ, zero, suc, ◌+◌, true, List, [], ◌∷◌, length, map, refl, ◌∙◌, ap, arith}
use Rattle.channel_core.specs.Closing.{is_closed}
use Rattle.channel_core.specs.EndValue.{EndValue}
use Rattle.channel_core.specs.Laws.{GivesEach, drained_by}

-- calls that find nothing left
none_left : {T : Type 0} → (calls : ℕ) (e : EndValue T) → is_closed e.state ≡ true → drained_by calls (record e { pending = [] }) ≡ []
none_left zero e closed = refl
none_left (suc calls) e closed = rw closed (none_left calls e closed)

each_of : {T : Type 0} → (rows : List (ℕ × T)) (e : EndValue T) (more : ℕ) → is_closed e.state ≡ true → drained_by (length rows + more) (record e { pending = rows }) ≡ map (λ row. row.1) rows
each_of [] e more closed =
    let none : 0 + more ≡ more = omega arith in
    ap (λ n. drained_by n (record e { pending = [] })) none ∙ none_left more e closed
each_of (row ∷ rows) e more closed =
    let one : length (row ∷ rows) + more ≡ suc (length rows + more) = omega arith in
    ap (λ n. drained_by n (record e { pending = row ∷ rows })) one ∙ rw closed (ap (λ xs. row.1 ∷ xs) (each_of rows e more closed))

pub gives_each : {T : Type 0} → GivesEach T
gives_each e more closed = each_of e.pending e more closed
