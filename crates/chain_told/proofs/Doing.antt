-- What is asked, sent, heard and taught of deeds that are done one behind the other, and what is told of messages so.
use Rattle.std.proofs.Common.{◌≡◌, ℕ, ⊎_elim, Bool, true, false, ◌||◌, List, [], ◌∷◌, ◌++◌, map, Option, None, Ok, refl, sym, ap, ◌∙◌, subst, append_assoc, append-nil}
use Rattle.std.specs.Prelude.{decimal}
use Rattle.std.specs.List.{AllByRecursion, Contains, list_any}
use Rattle.std.proofs.lemmas.Grind.{flat_map-append}
use Rattle.std.proofs.lemmas.List.Elements.{Contains-append_right}
use Rattle.channel_core.specs.Arrivals.{Spoken, comes_as}
use Rattle.channel_core.specs.Wire.{said_of}
use Rattle.channel_core.specs.declared.held.Incoming.{Incoming}
use Rattle.tcf_message.specs.Message.{MessageValue, command, event, final, flow, not_known, progress, reading, spelling}
use Rattle.value_node.specs.Asked.{Asked}
use Rattle.value_node.specs.Deeds.{Deed, answers, asked_by, asked_in, ends_with, forwards, heard_by, heard_in, hears, is_ended_in, lessons_from, lessons_in, mark_after, mark_in, sent_by, sent_in, taught_in}
use Rattle.value_node.specs.Deeds as deeds
use Rattle.chain_told.specs.Told.{ends, is_ended, lesson, lessons, mark_by, mark_from, mark_of}
use Rattle.list_laws.proofs.Contained.{contains_cases, contains_first}

-- ---- One deed more

pub sent_append : (done more : List Deed) → sent_in (done ++ more) ≡ sent_in done ++ sent_in more
sent_append done more = flat_map-append sent_by done more

pub asked_append : (done more : List Deed) → asked_in (done ++ more) ≡ asked_in done ++ asked_in more
asked_append done more = flat_map-append asked_by done more

pub heard_append : (done more : List Deed) → heard_in (done ++ more) ≡ heard_in done ++ heard_in more
heard_append done more = flat_map-append heard_by done more

lessons_append : (commands : List Asked) (done more : List Deed) → lessons_from commands (done ++ more) ≡ lessons_from commands done ++ lessons_from (commands ++ sent_in done) more
lessons_append commands [] more = ap (λ cs. lessons_from cs more) (sym (append-nil commands))
lessons_append commands (forwards c ∷ done) more =
    lessons_append (commands ++ c ∷ []) done more ∙ ap (λ cs. lessons_from (commands ++ c ∷ []) done ++ lessons_from cs more) (append_assoc commands (c ∷ []) (sent_in done))
lessons_append commands (answers c reply mark ∷ done) more = lessons_append commands done more
lessons_append commands (hears incoming ∷ done) more =
    ap (λ ms. taught_in commands (reading incoming.raw) ++ ms) (lessons_append commands done more)
    ∙ sym (append_assoc (taught_in commands (reading incoming.raw)) (lessons_from commands done) (lessons_from (commands ++ sent_in done) more))

pub lessons_more : (done more : List Deed) → lessons_in (done ++ more) ≡ lessons_in done ++ lessons_from (sent_in done) more
lessons_more done more = lessons_append [] done more

-- ---- The deed by which a command was sent

pub record SentBy (done : List Deed) (front : List Asked) (c : Asked) (back : List Asked) : Type 0 where
  pub earlier : List Deed
  pub later : List Deed
  pub are : done ≡ earlier ++ forwards c ∷ later
  pub before : sent_in earlier ≡ front
  pub behind : sent_in later ≡ back

pub sent_split : (done : List Deed) (front : List Asked) (c : Asked) (back : List Asked) → sent_in done ≡ front ++ c ∷ back → SentBy done front c back
sent_split [] [] c back same = absurd cc
sent_split [] (d ∷ front) c back same = absurd cc
sent_split (forwards e ∷ done) [] c back same =
    let whole : e ∷ sent_in done ≡ c ∷ back = same in
    let first : e ≡ c = cc in
    let tails : sent_in done ≡ back = cc in
    record { earlier = []; later = done; are = ap (λ x. forwards x ∷ done) first; before = refl; behind = tails }
sent_split (forwards e ∷ done) (d ∷ front) c back same =
    let whole : e ∷ sent_in done ≡ d ∷ (front ++ c ∷ back) = same in
    let first : e ≡ d = cc in
    let tails : sent_in done ≡ front ++ c ∷ back = cc in
    let s = sent_split done front c back tails in
    record {
      earlier = forwards e ∷ s.earlier;
      later = s.later;
      are = ap (λ ds. forwards e ∷ ds) s.are;
      before = ap (λ x. x ∷ sent_in s.earlier) first ∙ ap (λ xs. d ∷ xs) s.before;
      behind = s.behind;
    }
sent_split (answers e reply mark ∷ done) front c back same =
    let s = sent_split done front c back same in
    record { earlier = answers e reply mark ∷ s.earlier; later = s.later; are = ap (λ ds. answers e reply mark ∷ ds) s.are; before = s.before; behind = s.behind }
sent_split (hears incoming ∷ done) front c back same =
    let s = sent_split done front c back same in
    record { earlier = hears incoming ∷ s.earlier; later = s.later; are = ap (λ ds. hears incoming ∷ ds) s.are; before = s.before; behind = s.behind }

-- what was sent was asked
pub sent_was_asked : (done : List Deed) (c : Asked) → Contains (sent_in done) c → Contains (asked_in done) c
sent_was_asked [] c there = there
sent_was_asked (forwards d ∷ done) c there = ⊎_elim
    (λ one. subst (λ x. Contains (d ∷ asked_in done) x) one (contains_first d (asked_in done)))
    (λ rest. Contains-append_right (d ∷ []) (asked_in done) c (sent_was_asked done c rest))
    (contains_cases d (sent_in done) c there)
sent_was_asked (answers d reply mark ∷ done) c there = Contains-append_right (d ∷ []) (asked_in done) c (sent_was_asked done c there)
sent_was_asked (hears incoming ∷ done) c there = sent_was_asked done c there

-- ---- What was heard, as messages

abbrev pub IsReadable : Spoken → Type 0
IsReadable s = reading (spelling s.message) ≡ Ok s.message

ends_read : (token : List ℕ) (message : MessageValue) → ends_with token (Ok message) ≡ ends token message
ends_read token (command other service name body) = refl
ends_read token (final other body) = refl
ends_read token (progress other body) = refl
ends_read token (not_known other) = refl
ends_read token (event service name body) = refl
ends_read token (flow level) = refl

ended_read : (token : List ℕ) (told : List Spoken) → AllByRecursion IsReadable told → list_any (λ (incoming : Incoming). ends_with token (reading incoming.raw)) (map comes_as told) ≡ is_ended token told
ended_read token [] readable = refl
ended_read token (s ∷ told) readable =
    ap (λ r. ends_with token r || list_any (λ (incoming : Incoming). ends_with token (reading incoming.raw)) (map comes_as told)) readable.0
    ∙ ap (λ b. b || list_any (λ (incoming : Incoming). ends_with token (reading incoming.raw)) (map comes_as told)) (ends_read token s.message)
    ∙ ap (λ b. ends token s.message || b) (ended_read token told readable.1)

pub ended_in_heard : (number : ℕ) (done : List Deed) (told : List Spoken) → heard_in done ≡ map comes_as told → AllByRecursion IsReadable told → is_ended_in number done ≡ is_ended (decimal number) told
ended_in_heard number done told came readable =
    ap (λ xs. list_any (λ (incoming : Incoming). ends_with (decimal number) (reading incoming.raw)) xs) came ∙ ended_read (decimal number) told readable

mark_read : (told : List Spoken) (before : Option ℕ) → AllByRecursion IsReadable told → deeds.mark_of (map comes_as told) before ≡ mark_from before told
mark_read [] before readable = refl
mark_read (s ∷ told) before readable =
    let here : deeds.mark_by (comes_as s) before ≡ mark_by s before = ap (λ r. mark_after (said_of r) s.mark before) readable.0 in
    ap (λ m. deeds.mark_of (map comes_as told) m) here ∙ mark_read told (mark_by s before) readable.1

pub mark_in_heard : (done : List Deed) (told : List Spoken) → heard_in done ≡ map comes_as told → AllByRecursion IsReadable told → mark_in done ≡ mark_of told
mark_in_heard done told came readable = ap (λ xs. deeds.mark_of xs None) came ∙ mark_read told None readable

-- ---- One message more

pub mark_more : (before : Option ℕ) (told : List Spoken) (s : Spoken) → mark_from before (told ++ s ∷ []) ≡ mark_by s (mark_from before told)
mark_more before [] s = refl
mark_more before (t ∷ told) s = mark_more (mark_by t before) told s

pub lessons_told : (commands : List Asked) (told : List Spoken) (s : Spoken) → lessons commands (told ++ s ∷ []) ≡ lessons commands told ++ (lesson commands s.message ++ [])
lessons_told commands told s = flat_map-append (λ t. lesson commands t.message) told (s ∷ [])

pub ended_more : (token : List ℕ) (told : List Spoken) (s : Spoken) → is_ended token (told ++ s ∷ []) ≡ (is_ended token told || ends token s.message)
ended_more token [] s = by_flag (ends token s.message)
  where
    by_flag : (flag : Bool) → (flag || false) ≡ flag
    by_flag true = refl
    by_flag false = refl
ended_more token (t ∷ told) s = ap (λ b. ends token t.message || b) (ended_more token told s) ∙ by_flag (ends token t.message)
  where
    by_flag : (flag : Bool) → (flag || (is_ended token told || ends token s.message)) ≡ ((flag || is_ended token told) || ends token s.message)
    by_flag true = refl
    by_flag false = refl

pub still_ended : (token : List ℕ) (told : List Spoken) (s : Spoken) → is_ended token told ≡ true → is_ended token (told ++ s ∷ []) ≡ true
still_ended token told s is = ended_more token told s ∙ ap (λ b. b || ends token s.message) is
