-- How the inbox of an end fills, a piece at a time.
use Rattle.std.proofs.Common.{◌≡◌, ℕ, suc, ◌+◌, ◌-◌, ◌^◌, ◌≤◌, Bool, true, false, cond, List, [], ◌∷◌, ◌++◌, length, map, refl, sym, ap, ◌∙◌, subst, inl, inr, arith, append_assoc, append-nil, length-append}
use Rattle.std.specs.Prelude.{min, Option, Result, Ok, Err, is_some}
use Rattle.std.specs.List.{AllByRecursion}
use Rattle.stream_escape.specs.Fed.{fed}
use Rattle.stream_escape.specs.declared.stream.Item.{Item}
use Rattle.stream_escape.specs.declared.stream.Item.TheVariants.{Message, End}
use Rattle.stream_escape.specs.declared.stream.StreamFault.{StreamFault}
use Rattle.tcf_message.specs.Message.{MessageValue, command, final, progress, not_known, event, flow, reading}
use Rattle.tcf_message.specs.declared.message.MessageFault.{MessageFault}
use Rattle.channel_core.specs.EndValue.{EndValue}
use Rattle.channel_core.specs.Holding.{is_free, let_out, released, sent_out}
use Rattle.channel_core.specs.Level.{is_due, leveled, level_of}
use Rattle.channel_core.specs.Receiving.{came_by, counted, delivered, entered, heard, is_over, item_came, stopped_by, waiting_in, with_last}
use Rattle.channel_core.specs.declared.held.Arrived.{Arrived}
use Rattle.channel_core.specs.declared.held.Held.{Held}
use Rattle.channel_core.specs.declared.states.Cause.TheVariants.{Stream}
use Rattle.list_laws.specs.Fronts.{IsSubsequenceOf}
use Rattle.list_laws.proofs.Flags.{not_both}
use Rattle.list_laws.proofs.Fronts.{behind_subsequence}
use Rattle.channel_laws.specs.Filling.{EachPieceFillsSo, FillsBy, ending_in, messages_of}

abbrev raw_of : Arrived → List ℕ
raw_of a = a.incoming.raw

-- ---- what goes out, and the level that is told, leave the inbox as it is

either_inbox : {T : Type 0} → (flag : Bool) (one other : EndValue T) (inbox : List Arrived)
    → one.inbox ≡ inbox → other.inbox ≡ inbox → (cond flag one other).inbox ≡ inbox
either_inbox true one other inbox first second = first
either_inbox false one other inbox first second = second

out_inbox : {T : Type 0} → (h : Held) (e : EndValue T) → (sent_out h e).inbox ≡ e.inbox
out_inbox h e = either_inbox h.is_redirect _ _ e.inbox refl refl

let_out_inbox : {T : Type 0} → (held : List Held) (e : EndValue T) → (let_out held e).inbox ≡ e.inbox
let_out_inbox [] e = refl
let_out_inbox (h ∷ held) e =
    let next = sent_out h (record e { held = held }) in
    let first : next.inbox ≡ e.inbox = out_inbox h (record e { held = held }) in
    either_inbox h.is_redirect next (let_out held next) e.inbox first (let_out_inbox held next ∙ first)

released_inbox : {T : Type 0} → (e : EndValue T) → (released e).inbox ≡ e.inbox
released_inbox e = either_inbox (is_free e) _ e e.inbox (let_out_inbox e.held e) refl

leveled_inbox : {T : Type 0} → (e : EndValue T) → (leveled e).inbox ≡ e.inbox
leveled_inbox e = either_inbox (is_due e.is_loud (level_of (length e.inbox))) _ e e.inbox refl refl

-- ---- some of the messages, in order

none_of : (messages : List (List ℕ)) → IsSubsequenceOf [] messages
none_of messages = tt

one_more : (raw : List ℕ) (some messages : List (List ℕ)) → IsSubsequenceOf some messages
    → IsSubsequenceOf some (raw ∷ messages)
one_more raw some messages is = behind_subsequence some messages (raw ∷ []) is

some_length : (some messages : List (List ℕ)) → IsSubsequenceOf some messages → length some ≤ length messages
some_length [] messages is = omega arith
some_length (x ∷ some) [] is = absurd is
some_length (x ∷ some) (y ∷ messages) (inl is) =
    let rest : length some ≤ length messages = some_length some messages is.1 in omega arith
some_length (x ∷ some) (y ∷ messages) (inr is) =
    let rest : length (x ∷ some) ≤ length messages = some_length (x ∷ some) messages is in omega arith

-- ---- what an inbox gets

record Filled {T : Type 0} (messages : List (List ℕ)) (mark : Option ℕ) (before after : EndValue T)
    : Type 0 where
  more : List Arrived
  inbox : after.inbox ≡ before.inbox ++ more
  are : IsSubsequenceOf (map raw_of more) messages
  marks : AllByRecursion (λ a. a.incoming.mark ≡ mark) more

filled_none : {T : Type 0} → (messages : List (List ℕ)) (mark : Option ℕ) (before after : EndValue T)
    → after.inbox ≡ before.inbox → Filled messages mark before after
filled_none messages mark before after same = record {
  more = [];
  inbox = same ∙ sym (append-nil before.inbox);
  are = none_of messages;
  marks = tt;
}

filled_one : {T : Type 0} → (raw : List ℕ) (mark : Option ℕ) (number : ℕ) (before after : EndValue T)
    → after.inbox ≡ before.inbox ++ record { number = number; incoming = record { raw = raw; mark = mark } } ∷ []
    → Filled (raw ∷ []) mark before after
filled_one raw mark number before after is = record {
  more = record { number = number; incoming = record { raw = raw; mark = mark } } ∷ [];
  inbox = is;
  are = inl (refl, tt);
  marks = (refl, tt);
}

-- by a message
entered_fills : {T : Type 0} → (raw : List ℕ) (mark : Option ℕ) (e : EndValue T)
    → Filled (raw ∷ []) mark e (entered raw mark e)
entered_fills raw mark e =
    let one : Arrived = record { number = e.came; incoming = record { raw = raw; mark = mark } } in
    filled_one raw mark e.came e (entered raw mark e)
    (leveled_inbox (record e { inbox = e.inbox ++ one ∷ [] }))

heard_fills : {T : Type 0}
    → (raw : List ℕ) (mark : Option ℕ) (said : Result MessageValue MessageFault) (e : EndValue T)
    → Filled (raw ∷ []) mark e (heard raw mark said e)
heard_fills raw mark (Err fault) e = filled_none (raw ∷ []) mark e _ refl
heard_fills raw mark (Ok (flow level)) e =
    filled_none (raw ∷ []) mark e _ (released_inbox (record e { told = level }))
heard_fills raw mark (Ok (command token service name body)) e = entered_fills raw mark e
heard_fills raw mark (Ok (final token body)) e = entered_fills raw mark e
heard_fills raw mark (Ok (progress token body)) e = entered_fills raw mark e
heard_fills raw mark (Ok (not_known token)) e = entered_fills raw mark e
heard_fills raw mark (Ok (event service name body)) e = entered_fills raw mark e

-- the same end, with another count of messages
counted_fills : {T : Type 0} → (raw : List ℕ) (mark : Option ℕ) (e : EndValue T)
    → Filled (raw ∷ []) mark e (item_came mark (Message raw) e)
counted_fills raw mark e =
    let f = heard_fills raw mark (reading raw) (record e { came = counted e.came }) in
    record { more = f.more; inbox = f.inbox; are = f.are; marks = f.marks }

-- one entry, and those behind it
all_both : {A : Type 0} → (P : A → Type 0) (xs ys : List A) → AllByRecursion P xs → AllByRecursion P ys
    → AllByRecursion P (xs ++ ys)
all_both P [] ys first second = second
all_both P (x ∷ xs) ys first second = (first.0, all_both P xs ys first.1 second)

some_both : (some : List (List ℕ)) (raw : List ℕ) (others messages : List (List ℕ))
    → IsSubsequenceOf some (raw ∷ []) → IsSubsequenceOf others messages
    → IsSubsequenceOf (some ++ others) (raw ∷ messages)
some_both [] raw others messages first second = one_more raw others messages second
some_both (x ∷ []) raw others messages (inl is) second = inl (is.0, second)
some_both (x ∷ y ∷ some) raw others messages (inl is) second = absurd is.1
some_both (x ∷ some) raw others messages (inr is) second = absurd is

map_both : (xs ys : List Arrived) → map raw_of (xs ++ ys) ≡ map raw_of xs ++ map raw_of ys
map_both [] ys = refl
map_both (x ∷ xs) ys = ap (λ zs. raw_of x ∷ zs) (map_both xs ys)

filled_then : {T : Type 0}
    → (raw : List ℕ) (messages : List (List ℕ)) (mark : Option ℕ) (before now after : EndValue T)
    → Filled (raw ∷ []) mark before now → Filled messages mark now after
    → Filled (raw ∷ messages) mark before after
filled_then raw messages mark before now after first second = record {
  more = first.more ++ second.more;
  inbox =
      second.inbox
      ∙ ap (λ xs. xs ++ second.more) first.inbox
      ∙ append_assoc before.inbox first.more second.more;
  are =
      subst (λ raws. IsSubsequenceOf raws (raw ∷ messages)) (sym (map_both first.more second.more))
      (some_both (map raw_of first.more) raw (map raw_of second.more) messages first.are second.are);
  marks = all_both (λ a. a.incoming.mark ≡ mark) first.more second.more first.marks second.marks;
}

-- by the items of a piece, of which those behind a last entry are ignored
came_fills : {T : Type 0} → (mark : Option ℕ) (items : List Item) (e : EndValue T)
    → Filled (messages_of items) mark e (came_by mark items e)
came_fills mark [] e = filled_none [] mark e e refl
came_fills mark (Message raw ∷ items) e =
    by_flag (is_over e) (came_fills mark items e) (came_fills mark items (item_came mark (Message raw) e))
  where
    by_flag : (flag : Bool) → Filled (messages_of items) mark e (came_by mark items e)
        → Filled (messages_of items) mark (item_came mark (Message raw) e)
        (came_by mark items (item_came mark (Message raw) e))
        → Filled (raw ∷ messages_of items) mark e
        (came_by mark items (cond flag e (item_came mark (Message raw) e)))
    by_flag true f next = record {
      more = f.more;
      inbox = f.inbox;
      are = one_more raw (map raw_of f.more) (messages_of items) f.are;
      marks = f.marks;
    }
    by_flag false f next =
        filled_then raw (messages_of items) mark e (item_came mark (Message raw) e) _
        (counted_fills raw mark e) next
came_fills mark (End ∷ items) e =
    by_flag (is_over e) (came_fills mark items e) (came_fills mark items (item_came mark End e))
  where
    by_flag : (flag : Bool) → Filled (messages_of items) mark e (came_by mark items e)
        → Filled (messages_of items) mark (item_came mark End e) (came_by mark items (item_came mark End e))
        → Filled (messages_of items) mark e (came_by mark items (cond flag e (item_came mark End e)))
    by_flag true f next = f
    by_flag false f next = record { more = next.more; inbox = next.inbox; are = next.are; marks = next.marks }

came_over : {T : Type 0} → (mark : Option ℕ) (items : List Item) (e : EndValue T) → is_over e ≡ true
    → came_by mark items e ≡ e
came_over mark [] e over = refl
came_over mark (item ∷ items) e over =
    ap (λ b. came_by mark items (cond b e (item_came mark item e))) over ∙ came_over mark items e over

stopped_inbox : {T : Type 0} → (answer : Result Unit StreamFault) (e : EndValue T)
    → (stopped_by answer e).inbox ≡ e.inbox
stopped_inbox (Ok done) e = refl
stopped_inbox (Err fault) e = either_inbox (is_over e) e (with_last (Stream fault) e) e.inbox refl refl

stopped_over : {T : Type 0} → (answer : Result Unit StreamFault) (e : EndValue T) → is_over e ≡ true
    → stopped_by answer e ≡ e
stopped_over (Ok done) e over = refl
stopped_over (Err fault) e over = ap (λ b. cond b e (with_last (Stream fault) e)) over

-- ---- the entries that wait

map_length : (more : List Arrived) → length (map raw_of more) ≡ length more
map_length [] = refl
map_length (a ∷ more) = ap suc (map_length more)

waits_few : (before more messages : ℕ) (had has : Bool) → more ≤ messages
    → min (before + more + cond has 1 0) (2 ^ 64 - 1) ≤ min (before + cond had 1 0) (2 ^ 64 - 1) + (messages + 1)
waits_few before more messages true true few = omega (arith, few)
waits_few before more messages true false few = omega (arith, few)
waits_few before more messages false true few = omega (arith, few)
waits_few before more messages false false few = omega (arith, few)

waits_so : {T : Type 0} → (before after : EndValue T) (more : List Arrived) (messages : List (List ℕ))
    → after.inbox ≡ before.inbox ++ more → IsSubsequenceOf (map raw_of more) messages
    → waiting_in after ≤ waiting_in before + (length messages + 1)
waits_so before after more messages is are =
    let few : length more ≤ length messages =
    subst (λ n. n ≤ length messages) (map_length more) (some_length (map raw_of more) messages are) in
    subst (λ n. min (n + cond (is_some after.stop) 1 0) (2 ^ 64 - 1) ≤ waiting_in before + (length messages + 1))
    (sym (ap length is ∙ length-append before.inbox more))
    (waits_few (length before.inbox) (length more) (length messages) (is_some before.stop) (is_some after.stop) few)

pub fills_so : {T : Type 0} → EachPieceFillsSo T
fills_so {T} piece mark e = by_flag (is_over e) refl
  where
    answer : Result Unit StreamFault
    answer = (fed piece e.stream).answer

    start : EndValue T
    start = record e { stream = (fed piece e.stream).reader }

    came : EndValue T
    came = came_by mark (fed piece e.stream).items start

    by_flag : (flag : Bool) → is_over e ≡ flag → FillsBy piece mark e (delivered piece mark e)
    by_flag true over =
        let still : delivered piece mark e ≡ start =
        ap (stopped_by answer) (came_over mark (fed piece e.stream).items start over)
        ∙ stopped_over answer start over in
        let inbox : (delivered piece mark e).inbox ≡ e.inbox ++ [] =
        ap (λ (x : EndValue T). x.inbox) still ∙ sym (append-nil e.inbox) in
        record {
          more = [];
          inbox = inbox;
          messages = tt;
          marks = tt;
          waiting = waits_so e (delivered piece mark e) [] (ending_in piece e.stream) inbox tt;
          over = λ is. (refl, ap (λ (x : EndValue T). x.stop) still);
        }
    by_flag false isnt =
        let f = came_fills mark (fed piece e.stream).items start in
        let inbox : (delivered piece mark e).inbox ≡ e.inbox ++ f.more =
        stopped_inbox answer came ∙ f.inbox in
        record {
          more = f.more;
          inbox = inbox;
          messages = f.are;
          marks = f.marks;
          waiting = waits_so e (delivered piece mark e) f.more (ending_in piece e.stream) inbox f.are;
          over = λ is. absurd (not_both is isnt);
        }
