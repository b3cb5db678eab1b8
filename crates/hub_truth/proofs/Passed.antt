-- What channel j is taught of what the target tells the hub's channel is what one hears whose commands are those of j.
use Rattle.std.proofs.Common.{◌≡◌, ◌≢◌, ℕ, suc, ◌+◌, ◌<◌, ◌≤◌, ◌^◌, Bool, true, false, cond, List, [], ◌∷◌, ◌++◌, map, refl, sym, ap, ◌∙◌, inl, inr, arith, bytes_eq, decimal, length, Some, None}
use Rattle.std.specs.Prelude.{◌==◌}
use Rattle.std.specs.List.{flat_map}
use Rattle.std.proofs.lemmas.Bool.{cases_Bool}
use Rattle.std.proofs.lemmas.List.{append_assoc, length-append}
use Rattle.channel_core.specs.Wire.{hello, locator}
use Rattle.agent_node.specs.AgentLaws.{messages_told}
use Rattle.list_laws.proofs.Lists.{equal_by, equal_itself}
use Rattle.command_tables.specs.Reading.{reading_of}
use Rattle.target_hub.specs.Sent.{Told, hello_at, event_at, progress_at, final_at, unknown_at}
use Rattle.std.specs.Prelude.{codes}
use Rattle.std.specs.Str.Parse.{digits_value}
use Rattle.std.proofs.lemmas.Fmt.{decimal_is_IsNumeral_wide}
use Rattle.std.proofs.Common.{ap₂}
use Rattle.knowledge.specs.Learning.{Message, other_taken}
use Rattle.target_truth.specs.Taught.{event_message, final_message}
use Rattle.hub_truth.proofs.Listened.{At, heard}
use Rattle.hub_node.specs.Deeds.{Asked}
use Rattle.hub_node.specs.HubLaws.{if_of, is_of, under}
use Rattle.hub_truth.specs.HubTruth.{read_as, tokens_from}
use Rattle.hub_truth.proofs.Listened.{at, taught_to}

locator_is : locator ≡ codes "Locator"
unfolding locator
locator_is = refl

hello_is : hello ≡ codes "Hello"
unfolding hello
hello_is = refl

hello_taught : (body : List ℕ) → event_message locator hello body ≡ event_message (codes "Locator") (codes "Hello") body
hello_taught body = ap₂ (λ service name. event_message service name body) locator_is hello_is

-- tokens differ where they are few, and none is empty
skips : (n m : ℕ) → n < 10 ^ 64 → m < 10 ^ 64 → n ≢ m → bytes_eq (decimal n) (decimal m) ≡ false
skips n m small other apart =
    elim (cases_Bool (bytes_eq (decimal n) (decimal m))) [
      | inl same ↦
          let texts : decimal n ≡ decimal m = equal_by (decimal n) (decimal m) same in
          absurd (apart (sym (decimal_is_IsNumeral_wide n small).1 ∙ ap (digits_value 10) texts ∙ (decimal_is_IsNumeral_wide m other).1))
      | inr differ ↦ differ
    ]

nobody : (number : ℕ) (sent : List Asked) → 0 < number → number + length sent ≤ 10 ^ 64 → under number [] sent ≡ None
nobody number [] counts few = refl
nobody number (c ∷ sent) counts few =
    elim (cases_Bool (bytes_eq [] (decimal number))) [
      | inl same ↦
          let text : [] ≡ decimal number = equal_by [] (decimal number) same in
          let zero_is : 0 ≡ number = ap (digits_value 10) text ∙ (decimal_is_IsNumeral_wide number (omega (arith, few))).1 in
          absurd (omega (arith, counts, zero_is))
      | inr differ ↦ rw differ (nobody (number + 1) sent (omega arith) (omega (arith, few)))
    ]

-- behind others
its : (number n : ℕ) (before : List Asked) (c : Asked) (later : List Asked) → n ≡ number + length before → n < 10 ^ 64 → under number (decimal n) (before ++ c ∷ later) ≡ Some c
its number n [] c later is small = let same : n ≡ number = omega (arith, is) in rw (same, equal_itself (decimal number)) refl
its number n (b ∷ before) c later is small =
    let apart : n ≢ number = λ e. absurd (omega (arith, is, e)) in
    rw (skips n number small (omega (arith, is, small)) apart) (its (number + 1) n before c later (omega (arith, is)) small)

module _ (j : ℕ) (sent : List Asked) (few : length sent < 10 ^ 64) where
  -- one message of a command of some channel
  one : (c : Asked) (flag : Bool) (position : ℕ) (m : Message) (more : List At) → (c.channel == j) ≡ flag
      → flat_map (λ m. at (Some position) m) (if_of j (Some c) (λ c. m)) ++ more ≡ cond flag (record { message = m; position = position } ∷ more) more
  one c true position m more is = rw is refl
  one c false position m more is = rw is refl

  number_small : (before : List Asked) (c : Asked) (later : List Asked) (n : ℕ) → sent ≡ before ++ c ∷ later → n ≡ 1 + length before → n < 10 ^ 64
  number_small before c later n parts number =
      let all : length sent ≡ length before + suc (length later) = ap length parts ∙ length-append before (c ∷ later) in omega (arith, few, all, number)

  found : (before : List Asked) (c : Asked) (later : List Asked) (n : ℕ) → sent ≡ before ++ c ∷ later → n ≡ 1 + length before → under 1 (decimal n) sent ≡ Some c
  found before c later n parts number = ap (under 1 (decimal n)) parts ∙ its 1 n before c later number (number_small before c later n parts number)

  -- what is told of a command whose turn it is
  turn : (before : List Asked) (c : Asked) (later : List Asked) (n : ℕ) → sent ≡ before ++ c ∷ later → n ≡ 1 + length before → (f : Asked → Message) (position : ℕ) (more rest : List At) → more ≡ rest
      → flat_map (λ m. at (Some position) m) (if_of j (under 1 (decimal n) sent) f) ++ more ≡ cond (c.channel == j) (record { message = f c; position = position } ∷ rest) rest
  turn before c later n parts number f position more rest same =
      ap (λ o. flat_map (λ m. at (Some position) m) (if_of j o f) ++ more) (found before c later n parts number)
      ∙ one c (c.channel == j) position (f c) more refl
      ∙ ap (λ more. cond (c.channel == j) (record { message = f c; position = position } ∷ more) more) same

  -- and where there is none
  no_turn : (f : Asked → Message) (position : ℕ) (more rest : List At) → more ≡ rest
      → flat_map (λ m. at (Some position) m) (if_of j (under 1 [] sent) f) ++ more ≡ rest
  no_turn f position more rest same = ap (λ o. flat_map (λ m. at (Some position) m) (if_of j o f) ++ more) (nobody 1 sent (omega arith) (omega (arith, few))) ∙ same

  next_parts : (before : List Asked) (c : Asked) (later : List Asked) → sent ≡ before ++ c ∷ later → sent ≡ (before ++ c ∷ []) ++ later
  next_parts before c later parts = parts ∙ sym (append_assoc before (c ∷ []) later)

  next_number : (n : ℕ) (before : List Asked) (c : Asked) → n ≡ 1 + length before → n + 1 ≡ 1 + length (before ++ c ∷ [])
  next_number n before c number = let longer : length (before ++ c ∷ []) ≡ length before + 1 = length-append before (c ∷ []) in omega (arith, number, longer)

  pub bridge : (told : List Told) (before left : List Asked) (n : ℕ) → sent ≡ before ++ left → n ≡ 1 + length before
      → flat_map (taught_to j sent) (messages_told (tokens_from n left) told) ≡ heard (map (is_of j) left) (map read_as left) told
  bridge [] before left n parts number = refl
  bridge (hello_at position body ∷ told) before left n parts number =
      ap (λ m. record { message = m; position = position } ∷ flat_map (taught_to j sent) (messages_told (tokens_from n left) told)) (hello_taught body)
      ∙ ap (λ more. record { message = event_message (codes "Locator") (codes "Hello") body; position = position } ∷ more) (bridge told before left n parts number)
  bridge (event_at position service name body ∷ told) before left n parts number =
      ap (λ more. record { message = event_message service name body; position = position } ∷ more) (bridge told before left n parts number)
  bridge (progress_at position body ∷ told) before [] n parts number =
      no_turn (λ c. other_taken) position _ _ (bridge told before [] n parts number)
  bridge (progress_at position body ∷ told) before (c ∷ left) n parts number =
      turn before c left n parts number (λ c. other_taken) position _ _ (bridge told before (c ∷ left) n parts number)
  bridge (final_at position through body ∷ told) before [] n parts number =
      no_turn (λ c. final_message (Some (reading_of c.service c.name c.body)) body) position _ _ (bridge told before [] n parts number)
  bridge (final_at position through body ∷ told) before (c ∷ left) n parts number =
      turn before c left n parts number (λ c. final_message (Some (reading_of c.service c.name c.body)) body) position _ _
      (bridge told (before ++ c ∷ []) left (n + 1) (next_parts before c left parts) (next_number n before c number))
  bridge (unknown_at position through ∷ told) before [] n parts number =
      no_turn (λ c. other_taken) position _ _ (bridge told before [] n parts number)
  bridge (unknown_at position through ∷ told) before (c ∷ left) n parts number =
      turn before c left n parts number (λ c. other_taken) position _ _
      (bridge told (before ++ c ∷ []) left (n + 1) (next_parts before c left parts) (next_number n before c number))
