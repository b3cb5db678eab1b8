-- A frame is that of one message, and so is a spelling whose fields have no zero.
use Rattle.std.proofs.Common.{◌≡◌, ℕ, ◌==◌, Bool, true, false, cond, List, [], ◌∷◌, ◌++◌, map, sym, ap, ◌∙◌, refl, arith, eqb-true}
use Rattle.std.specs.List.{AllByRecursion, list_any}
use Rattle.std.proofs.lemmas.Bool.{or_parts}
use Rattle.stream_escape.specs.Stream.{escaped, framed}
use Rattle.tcf_message.specs.Message.{HasNoZero, IsWellFormed, MessageValue, command, event, final, flow, is_zero, not_known, progress, spelling, ◌•◌}
use Rattle.channel_core.specs.Arrivals.{AreSpoken, Spoken}
use Rattle.channel_core.specs.RunLaws.{first_byte}
use Rattle.channel_core.specs.Wire.{said}
use Rattle.channel_core.specs.declared.held.Outgoing.{Outgoing}

-- ---- Frames

heads_apart : (x : ℕ) (xs ys : List ℕ) → (x == 3) ≡ false → x ∷ xs ≡ 3 ∷ ys → ⊥
heads_apart x xs ys isnt same = let is : x ≡ 3 = cc in let yes : (x == 3) ≡ true = ap (λ n. n == 3) is in absurd cc

pub framed_one : (a b : List ℕ) → framed a ≡ framed b → a ≡ b
framed_one [] [] same = refl
framed_one [] (y ∷ ys) same = by_flag (y == 3) refl same
  where
    by_flag : (flag : Bool) → (y == 3) ≡ flag → 3 ∷ 1 ∷ [] ≡ cond flag (3 ∷ 0 ∷ escaped ys) (y ∷ escaped ys) ++ 3 ∷ 1 ∷ [] → [] ≡ y ∷ ys
    by_flag true is eq = absurd cc
    by_flag false is eq = absurd (heads_apart y (framed ys) (1 ∷ []) is (sym eq))
framed_one (x ∷ xs) [] same = by_flag (x == 3) refl same
  where
    by_flag : (flag : Bool) → (x == 3) ≡ flag → cond flag (3 ∷ 0 ∷ escaped xs) (x ∷ escaped xs) ++ 3 ∷ 1 ∷ [] ≡ 3 ∷ 1 ∷ [] → x ∷ xs ≡ []
    by_flag true is eq = absurd cc
    by_flag false is eq = absurd (heads_apart x (framed xs) (1 ∷ []) is eq)
framed_one (x ∷ xs) (y ∷ ys) same = by_flags (x == 3) (y == 3) refl refl same (framed_one xs ys)
  where
    by_flags : (a b : Bool) → (x == 3) ≡ a → (y == 3) ≡ b → cond a (3 ∷ 0 ∷ escaped xs) (x ∷ escaped xs) ++ 3 ∷ 1 ∷ [] ≡ cond b (3 ∷ 0 ∷ escaped ys) (y ∷ escaped ys) ++ 3 ∷ 1 ∷ []
        → (framed xs ≡ framed ys → xs ≡ ys) → x ∷ xs ≡ y ∷ ys
    by_flags true true one other eq rest =
        let first : x ≡ 3 = eqb-true x 3 one in
        let second : y ≡ 3 = eqb-true y 3 other in
        let tails : framed xs ≡ framed ys = cc in
        ap (λ z. z ∷ xs) (first ∙ sym second) ∙ ap (λ zs. y ∷ zs) (rest tails)
    by_flags true false one other eq rest = absurd (heads_apart y (framed ys) (0 ∷ framed xs) other (sym eq))
    by_flags false true one other eq rest = absurd (heads_apart x (framed xs) (0 ∷ framed ys) one eq)
    by_flags false false one other eq rest =
        let first : x ≡ y = cc in
        let tails : framed xs ≡ framed ys = cc in
        ap (λ z. z ∷ xs) first ∙ ap (λ zs. y ∷ zs) (rest tails)

-- ---- Fields

-- two fields that end with their first zero
pub field_one : (a b rest more : List ℕ) → HasNoZero a → HasNoZero b → a • rest ≡ b • more → (a ≡ b) × (rest ≡ more)
field_one [] [] rest more first second is = (refl, cc)
field_one [] (y ∷ b) rest more first second is =
    let parts = or_parts (is_zero y) (list_any is_zero b) second in
    let zero_is : y ≡ 0 = cc in
    let zero : is_zero y ≡ true = ap is_zero zero_is in
    let none = parts.0 in
    absurd cc
field_one (x ∷ a) [] rest more first second is =
    let parts = or_parts (is_zero x) (list_any is_zero a) first in
    let zero_is : x ≡ 0 = cc in
    let zero : is_zero x ≡ true = ap is_zero zero_is in
    let none = parts.0 in
    absurd cc
field_one (x ∷ a) (y ∷ b) rest more first second is =
    let same : x ≡ y = cc in
    let tail : a • rest ≡ b • more = cc in
    let next = field_one a b rest more (or_parts (is_zero x) (list_any is_zero a) first).1 (or_parts (is_zero y) (list_any is_zero b) second).1 tail in
    (ap (λ z. z ∷ a) same ∙ ap (λ zs. y ∷ zs) next.0, next.1)

-- ---- Spellings

-- its fields have no zero, and it isn't flow control
abbrev pub IsSpelled : MessageValue → Type 0
IsSpelled (command token service name body) = HasNoZero token × HasNoZero service × HasNoZero name
IsSpelled (final token body) = HasNoZero token
IsSpelled (progress token body) = HasNoZero token
IsSpelled (not_known token) = HasNoZero token
IsSpelled (event service name body) = HasNoZero service × HasNoZero name
IsSpelled (flow level) = ⊥

spelled_one : (m n : MessageValue) → IsWellFormed m → IsSpelled n → spelling m ≡ spelling n → m ≡ n
spelled_one (command token service name body) (command token2 service2 name2 body2) formed is same =
    let whole : token • service • name • body ≡ token2 • service2 • name2 • body2 = cc in
    let one = field_one token token2 (service • name • body) (service2 • name2 • body2) formed.0.0.0 is.0 whole in
    let two = field_one service service2 (name • body) (name2 • body2) formed.0.1 is.1 one.1 in
    let three = field_one name name2 body body2 formed.0.2 is.2 two.1 in
    ap (λ x. command x service name body) one.0 ∙ ap (λ x. command token2 x name body) two.0 ∙ ap (λ x. command token2 service2 x body) three.0
    ∙ ap (λ x. command token2 service2 name2 x) three.1
spelled_one (final token body) (final token2 body2) formed is same =
    let whole : token • body ≡ token2 • body2 = cc in
    let one = field_one token token2 body body2 formed.0.0 is whole in
    ap (λ x. final x body) one.0 ∙ ap (λ x. final token2 x) one.1
spelled_one (progress token body) (progress token2 body2) formed is same =
    let whole : token • body ≡ token2 • body2 = cc in
    let one = field_one token token2 body body2 formed.0.0 is whole in
    ap (λ x. progress x body) one.0 ∙ ap (λ x. progress token2 x) one.1
spelled_one (not_known token) (not_known token2) formed is same =
    let whole : token • [] ≡ token2 • [] = cc in
    ap not_known (field_one token token2 [] [] formed.0.0 is whole).0
spelled_one (event service name body) (event service2 name2 body2) formed is same =
    let whole : service • name • body ≡ service2 • name2 • body2 = cc in
    let one = field_one service service2 (name • body) (name2 • body2) formed.0.0 is.0 whole in
    let two = field_one name name2 body body2 formed.0.1 is.1 one.1 in
    ap (λ x. event x name body) one.0 ∙ ap (λ x. event service2 x body) two.0 ∙ ap (λ x. event service2 name2 x) two.1
spelled_one m (flow level) formed is same = absurd is
spelled_one m n formed is same = let heads : first_byte (spelling m) ≡ first_byte (spelling n) = ap first_byte same in absurd (omega arith)

-- ---- What is said

-- a message, as it is queued
abbrev pub said_so : Spoken → Outgoing
said_so s = said s.message s.mark

abbrev pub AreSpelled : List Spoken → Type 0
AreSpelled spoken = AllByRecursion (λ s. IsSpelled s.message) spoken

pub one_said : (s t : Spoken) → IsWellFormed s.message → IsSpelled t.message → said_so s ≡ said_so t → s ≡ t
one_said s t formed is same =
    let message : s.message ≡ t.message = spelled_one s.message t.message formed is (framed_one (spelling s.message) (spelling t.message) (ap (λ o. o.bytes) same)) in
    ap (λ m. record { message = m; mark = s.mark }) message ∙ ap (λ k. record { message = t.message; mark = k }) (ap (λ o. o.mark) same)

pub same_said : (xs ys : List Spoken) → AreSpoken xs → AreSpelled ys → map said_so xs ≡ map said_so ys → xs ≡ ys
same_said [] [] formed spelled same = refl
same_said [] (y ∷ ys) formed spelled same = absurd cc
same_said (x ∷ xs) [] formed spelled same = absurd cc
same_said (x ∷ xs) (y ∷ ys) formed spelled same =
    let whole : said_so x ∷ map said_so xs ≡ said_so y ∷ map said_so ys = same in
    let first : said_so x ≡ said_so y = cc in
    let tails : map said_so xs ≡ map said_so ys = cc in
    ap (λ z. z ∷ xs) (one_said x y formed.0 spelled.0 first) ∙ ap (λ zs. y ∷ zs) (same_said xs ys formed.1 spelled.1 tails)
