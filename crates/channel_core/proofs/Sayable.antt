-- Each message that an end queues can be read again.
use Rattle.std.proofs.Common.{◌≡◌, ℕ, suc, ◌+◌, ◌-◌, ◌<◌, ◌≤◌, ◌==◌, Bool, true, false, cond, ◌||◌, nat_lt, List, [], ◌∷◌, ◌++◌, length, map, Option, None, refl, sym, ap, ◌∙◌, subst, arith, append_assoc, length-append, ltb-true, ltb-false}
use Rattle.std.specs.Prelude.{pos, negsuc, neg_ℤ, decimal, ◌^◌}
use Rattle.std.specs.List.{AllByRecursion, list_any}
use Rattle.std.proofs.lemmas.Bool.{eqb-true}
use Rattle.std.proofs.lemmas.Int.{ints}
use Rattle.stream_escape.specs.Stream.{framed}
use Rattle.tcf_message.specs.Message.{MessageValue, command, flow, spelling, HasNoZero, IsToken, IsLevel, IsWellFormed, is_zero, most_body, ◌•◌}
use Rattle.channel_core.specs.Arrivals.{Spoken, AreSpoken}
use Rattle.channel_core.specs.Level.{level_of}
use Rattle.channel_core.specs.Wire.{said}
use Rattle.channel_core.specs.declared.held.Outgoing.{Outgoing}
use Rattle.tcf_message.proofs.TheLaws.{decimal_token}

-- it says a message that can be read
pub record IsSaid (o : Outgoing) : Type 0 where
  pub spoken : Spoken
  pub formed : IsWellFormed spoken.message
  pub is : o ≡ said spoken.message spoken.mark

abbrev pub AreSaid : List Outgoing → Type 0
AreSaid queue = AllByRecursion IsSaid queue

pub said_append : (xs ys : List Outgoing) → AreSaid xs → AreSaid ys → AreSaid (xs ++ ys)
said_append [] ys first second = second
said_append (o ∷ xs) ys first second = (first.0, said_append xs ys first.1 second)

pub said_so : (m : MessageValue) (mark : Option ℕ) → IsWellFormed m → IsSaid (said m mark)
said_so m mark formed = record { spoken = record { message = m; mark = mark }; formed = formed; is = refl }

-- the messages that a queue says
pub spoken_of : (queue : List Outgoing) → AreSaid queue → (spoken : List Spoken) × AreSpoken spoken × (queue ≡ map (λ s. said s.message s.mark) spoken)
spoken_of [] each = ([], tt, refl)
spoken_of (o ∷ queue) each =
    let rest = spoken_of queue each.1 in
    let first = each.0 in
    (first.spoken ∷ rest.0, (first.formed, rest.1), ap (λ x. x ∷ queue) first.is ∙ ap (λ xs. said first.spoken.message first.spoken.mark ∷ xs) rest.2)

-- ---- A level

pub level_fits : (n : ℕ) → IsLevel (level_of n)
level_fits n = by_over (nat_lt 200 n) refl
  where
    below : (k m : ℕ) → k + m + 1 ≡ 100 → IsLevel (negsuc k)
    below k m is = grind (arith, ints)

    above : (k : ℕ) → k ≤ 100 → IsLevel (pos k)
    above k few = grind (arith, ints)

    by_low : (flag : Bool) → nat_lt n 100 ≡ flag → n ≤ 200 → IsLevel (cond flag (neg_ℤ (pos (100 - n))) (pos (n - 100)))
    by_low true e few =
        let less : n < 100 = ltb-true n 100 e in
        let is : 100 - n ≡ suc (99 - n) = omega arith in
        let P : ℕ → Type 0 = λ m. IsLevel (neg_ℤ (pos m)) in
        subst P (sym is) (below (99 - n) n (omega arith))
    by_low false e few = above (n - 100) (omega arith)

    by_over : (flag : Bool) → nat_lt 200 n ≡ flag → IsLevel (cond flag (pos 100) (cond (nat_lt n 100) (neg_ℤ (pos (100 - n))) (pos (n - 100))))
    by_over true e = above 100 (omega arith)
    by_over false e = by_low (nat_lt n 100) refl (ltb-false 200 n e)

pub flow_said : (n : ℕ) → IsSaid (said (flow (level_of n)) None)
flow_said n = said_so (flow (level_of n)) None (level_fits n, omega arith)

-- ---- A command, whatever its service, its name and its data are

-- the text up to its first zero, and what stands behind it
data IsParted (text : List ℕ) : Type 0 where
  whole : HasNoZero text → IsParted text
  parted : (front rest : List ℕ) → HasNoZero front → text ≡ front ++ 0 ∷ rest → IsParted text

parted_by : (flag : Bool) (x : ℕ) (text : List ℕ) → (x == 0) ≡ flag → IsParted text → IsParted (x ∷ text)
parted_by true x text is rest = parted [] text refl (ap (λ y. y ∷ text) (eqb-true x 0 is))
parted_by false x text is (whole none) = whole (ap (λ b. b || list_any is_zero text) is ∙ none)
parted_by false x text is (parted front rest none parts) = parted (x ∷ front) rest (ap (λ b. b || list_any is_zero front) is ∙ none) (ap (λ xs. x ∷ xs) parts)

parted_of : (text : List ℕ) → IsParted text
parted_of [] = whole refl
parted_of (x ∷ text) = parted_by (x == 0) x text refl (parted_of text)

-- the bytes say a message
record IsSpelled (bytes : List ℕ) : Type 0 where
  message : MessageValue
  formed : IsWellFormed message
  is : bytes ≡ spelling message

parts_again : (front rest next : List ℕ) → (front ++ 0 ∷ rest) • next ≡ front • (rest • next)
parts_again front rest next = append_assoc front (0 ∷ rest) (0 ∷ next)

by_name : (token service name body : List ℕ) → IsToken token → HasNoZero service → length service + length name + length body ≤ most_body → IsParted name → IsSpelled (spelling (command token service name body))
by_name token service name body is none size (whole still) = record { message = command token service name body; formed = ((is, none, still), size); is = refl }
by_name token service name body is none size (parted front rest still parts) =
    let longer : length name ≡ length front + suc (length rest) = ap length parts ∙ length-append front (0 ∷ rest) in
    let data_size : length (rest • body) ≡ length rest + suc (length body) = length-append rest (0 ∷ body) in
    record {
      message = command token service front (rest • body);
      formed = ((is, none, still), omega arith);
      is = ap (λ n. spelling (command token service n body)) parts ∙ ap (λ bytes. 67 ∷ 0 ∷ (token • (service • bytes))) (parts_again front rest body);
    }

by_service : (token service name body : List ℕ) → IsToken token → length service + length name + length body ≤ most_body → IsParted service → IsSpelled (spelling (command token service name body))
by_service token service name body is size (whole none) = by_name token service name body is none size (parted_of name)
by_service token service name body is size (parted front rest none parts) =
    let longer : length service ≡ length front + suc (length rest) = ap length parts ∙ length-append front (0 ∷ rest) in
    let data_size : length (name • body) ≡ length name + suc (length body) = length-append name (0 ∷ body) in
    let spelled = by_name token front rest (name • body) is none (omega arith) (parted_of rest) in
    record {
      message = spelled.message;
      formed = spelled.formed;
      is = ap (λ s. spelling (command token s name body)) parts ∙ ap (λ bytes. 67 ∷ 0 ∷ (token • bytes)) (parts_again front rest (name • body)) ∙ spelled.is;
    }

pub command_said : (token : ℕ) (service name body : List ℕ) (mark : Option ℕ) → token < 2 ^ 64 → length service + length name + length body ≤ most_body
    → IsSaid (said (command (decimal token) service name body) mark)
command_said token service name body mark within size =
    let spelled = by_service (decimal token) service name body (decimal_token token within) size (parted_of service) in
    record {
      spoken = record { message = spelled.message; mark = mark };
      formed = spelled.formed;
      is = ap (λ bytes. record { bytes = framed bytes; mark = mark }) spelled.is;
    }
