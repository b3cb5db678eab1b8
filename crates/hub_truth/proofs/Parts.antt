-- What was heard, in parts: what is told, and whose turn it is behind it.
use Rattle.std.proofs.Common.{◌≡◌, ℕ, ◌+◌, List, [], ◌∷◌, ◌++◌, map, drop, length, Option, Some, refl, sym, ap, ◌∙◌, arith}
use Rattle.std.proofs.lemmas.List.{append_assoc, length-append}
use Rattle.agent_node.specs.AgentLaws.{first_token, later_tokens, messages_told}
use Rattle.channel_core.specs.Wire.{hello, locator}
use Rattle.list_laws.specs.Fronts.{IsFront}
use Rattle.list_laws.proofs.Fronts.{front_rest, no_front}
use Rattle.target_hub.specs.Sent.{ReadCommand, Told, hello_at, event_at, progress_at, final_at, unknown_at}
use Rattle.tcf_message.specs.Message.{MessageValue, event, final, not_known, progress}
use Rattle.target_truth.specs.Listening.{left_after}
use Rattle.hub_node.specs.Deeds.{Asked}
use Rattle.hub_truth.specs.HubTruth.{read_as, tokens_from}
use Rattle.hub_truth.proofs.Listened.{waiting_after}

abbrev head_told : List (List ℕ) → Told → MessageValue × Option ℕ
head_told names (hello_at position body) = (event locator hello body, Some position)
head_told names (event_at position service name body) = (event service name body, Some position)
head_told names (progress_at position body) = (progress (first_token names) body, Some position)
head_told names (final_at position through body) = (final (first_token names) body, Some position)
head_told names (unknown_at position through) = (not_known (first_token names), Some position)

abbrev names_by : Told → List (List ℕ) → List (List ℕ)
names_by (hello_at position body) names = names
names_by (event_at position service name body) names = names
names_by (progress_at position body) names = names
names_by (final_at position through body) names = later_tokens names
names_by (unknown_at position through) names = later_tokens names

abbrev pub names_after : List Told → List (List ℕ) → List (List ℕ)
names_after [] names = names
names_after (told ∷ rest) names = names_after rest (names_by told names)

one_told : (told : Told) (names : List (List ℕ)) (rest : List Told) → messages_told names (told ∷ rest) ≡ head_told names told ∷ messages_told (names_by told names) rest
one_told (hello_at position body) names rest = refl
one_told (event_at position service name body) names rest = refl
one_told (progress_at position body) names rest = refl
one_told (final_at position through body) names rest = refl
one_told (unknown_at position through) names rest = refl

tail_of : {A : Type 0} (x y : A) (xs ys : List A) → x ∷ xs ≡ y ∷ ys → (x ≡ y) × (xs ≡ ys)
tail_of x y xs ys e = (cc, cc)

pub record IsSplit (names : List (List ℕ)) (told : List Told) (xs ys : List (MessageValue × Option ℕ)) : Type 0 where
  pub front : List Told
  pub back : List Told
  pub parts : told ≡ front ++ back
  pub first : messages_told names front ≡ xs
  pub later : messages_told (names_after front names) back ≡ ys

pub split : (told : List Told) (names : List (List ℕ)) (xs ys : List (MessageValue × Option ℕ)) → messages_told names told ≡ xs ++ ys → IsSplit names told xs ys
split told names [] ys is = record { front = []; back = told; parts = refl; first = refl; later = is }
split [] names (x ∷ xs) ys is = absurd (cc)
split (t ∷ told) names (x ∷ xs) ys is =
    let e = tail_of (head_told names t) x (messages_told (names_by t names) told) (xs ++ ys) (sym (one_told t names told) ∙ is) in
    let s = split told (names_by t names) xs ys e.1 in
    record {
      front = t ∷ s.front;
      back = s.back;
      parts = ap (λ l. t ∷ l) s.parts;
      first = one_told t names s.front ∙ ap (λ l. head_told names t ∷ l) s.first ∙ ap (λ h. h ∷ xs) e.0;
      later = s.later;
    }

-- a front of which the last message is told has a last one
pub record HasLast (front : List Told) : Type 0 where
  pub earlier : List Told
  pub begin : Told
  pub is : front ≡ earlier ++ begin ∷ []

pub last_of : (front : List Told) (names : List (List ℕ)) (xs : List (MessageValue × Option ℕ)) (x : MessageValue × Option ℕ) → messages_told names front ≡ xs ++ x ∷ [] → HasLast front
last_of [] names [] x is = absurd (cc)
last_of [] names (y ∷ xs) x is = absurd (cc)
last_of (t ∷ []) names xs x is = record { earlier = []; begin = t; is = refl }
last_of (t ∷ u ∷ front) names [] x is =
    absurd (let e = tail_of (head_told names t) x (messages_told (names_by t names) (u ∷ front)) [] (sym (one_told t names (u ∷ front)) ∙ is) in let more = one_told u (names_by t names) front in cc)
last_of (t ∷ u ∷ front) names (y ∷ xs) x is =
    let e = tail_of (head_told names t) y (messages_told (names_by t names) (u ∷ front)) (xs ++ x ∷ []) (sym (one_told t names (u ∷ front)) ∙ is) in
    let l = last_of (u ∷ front) (names_by t names) xs x e.1 in
    record { earlier = t ∷ l.earlier; begin = l.begin; is = ap (λ l. t ∷ l) l.is }

-- ---- the commands that have no answer yet

pub record IsBehind (all left : List Asked) (names : List (List ℕ)) : Type 0 where
  pub before : List Asked
  pub number : ℕ
  pub parts : all ≡ before ++ left
  pub counts : number ≡ 1 + length before
  pub tokens : names ≡ tokens_from number left

answered : (all before left : List Asked) (n : ℕ) (names : List (List ℕ)) → all ≡ before ++ left → n ≡ 1 + length before → names ≡ tokens_from n left → IsBehind all (drop 1 left) (later_tokens names)
answered all before [] n names parts counts tokens = record { before = before; number = n; parts = parts; counts = counts; tokens = ap later_tokens tokens }
answered all before (c ∷ left) n names parts counts tokens = record {
  before = before ++ c ∷ [];
  number = n + 1;
  parts = parts ∙ sym (append_assoc before (c ∷ []) left);
  counts = let longer : length (before ++ c ∷ []) ≡ length before + 1 = length-append before (c ∷ []) in omega (arith, counts, longer);
  tokens = ap later_tokens tokens;
}

pub behind : (front : List Told) (all before left : List Asked) (n : ℕ) (names : List (List ℕ)) → all ≡ before ++ left → n ≡ 1 + length before → names ≡ tokens_from n left
    → IsBehind all (waiting_after front left) (names_after front names)
behind [] all before left n names parts counts tokens = record { before = before; number = n; parts = parts; counts = counts; tokens = tokens }
behind (hello_at position body ∷ front) all before left n names parts counts tokens = behind front all before left n names parts counts tokens
behind (event_at position service name body ∷ front) all before left n names parts counts tokens = behind front all before left n names parts counts tokens
behind (progress_at position body ∷ front) all before left n names parts counts tokens = behind front all before left n names parts counts tokens
behind (final_at position through body ∷ front) all before left n names parts counts tokens =
    let b = answered all before left n names parts counts tokens in behind front all b.before (drop 1 left) b.number (later_tokens names) b.parts b.counts b.tokens
behind (unknown_at position through ∷ front) all before left n names parts counts tokens =
    let b = answered all before left n names parts counts tokens in behind front all b.before (drop 1 left) b.number (later_tokens names) b.parts b.counts b.tokens

-- those that are executed are a front of those that were sent, there too
less : (commands : List ReadCommand) (left : List Asked) → IsFront commands (map read_as left) → IsFront (drop 1 commands) (map read_as (drop 1 left))
less [] left front = (map read_as (drop 1 left), refl)
less (c ∷ commands) [] front = absurd (no_front c commands front)
less (c ∷ commands) (d ∷ left) front = front_rest c (read_as d) commands (map read_as left) front

pub front_behind : (told : List Told) (commands : List ReadCommand) (left : List Asked) → IsFront commands (map read_as left) → IsFront (left_after told commands) (map read_as (waiting_after told left))
front_behind [] commands left front = front
front_behind (hello_at position body ∷ told) commands left front = front_behind told commands left front
front_behind (event_at position service name body ∷ told) commands left front = front_behind told commands left front
front_behind (progress_at position body ∷ told) commands left front = front_behind told commands left front
front_behind (final_at position through body ∷ told) commands left front = front_behind told (drop 1 commands) (drop 1 left) (less commands left front)
front_behind (unknown_at position through ∷ told) commands left front = front_behind told (drop 1 commands) (drop 1 left) (less commands left front)
