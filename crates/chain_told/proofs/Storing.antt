-- An answer from the store is told rightly.
use Rattle.std.proofs.Common.{◌≡◌, ℕ, ◌+◌, ◌≤◌, inl, inr, ⊎_elim, Bool, true, false, not, ◌||◌, List, [], ◌∷◌, ◌++◌, length, map, Option, Some, None, refl, sym, ap, ◌∙◌, subst, arith, append_assoc, append-nil, le_refl}
use Rattle.std.specs.Prelude.{bytes_eq, decimal, slice_get, cond, nat_le, option_and_then}
use Rattle.std.specs.Option.{IsSomeAnd}
use Rattle.std.specs.List.{Contains}
use Rattle.std.proofs.Math.Bool.{or-false, or-true}
use Rattle.std.proofs.lemmas.List.Elements.{Contains-append_right, Contains-append_cases}
use Rattle.value_store.specs.Lessons.{answer_message}
use Rattle.channel_core.specs.Arrivals.{Spoken}
use Rattle.knowledge.specs.Facts.{nothing}
use Rattle.knowledge.specs.Learning.{Message, learn, learned}
use Rattle.knowledge.specs.Reply.{answer_known}
use Rattle.reply_tables.specs.Written.{answer_data}
use Rattle.value_store.specs.Taken.{AreTaken, IsTaken}
use Rattle.target_contexts.specs.declared.process.Image.{Image}
use Rattle.target_hub.specs.Fresh.{answer_at, target_at}
use Rattle.target_hub.specs.History.{IsLegal}
use Rattle.target_hub.specs.declared.input.Input.{Input}
use Rattle.target_truth.specs.Holds.{Holds}
use Rattle.tcf_message.specs.Message.{MessageValue, command, event, final, flow, not_known, progress}
use Rattle.tcf_values.specs.declared.answer.Answer.{Answer}
use Rattle.tcf_values.specs.declared.command.Command.{Command}
use Rattle.value_node.specs.Asked.{Asked}
use Rattle.value_node.specs.Deeds.{Deed, answers, asked_in, command_asked, heard_in, lessons_in, sent_in}
use Rattle.value_node.specs.RelayLaws.{IsAnsweredRightly}
use Rattle.value_node.specs.Store.{later_mark, lesson_of}
use Rattle.value_store.specs.Learning.{IsStoreOf, data_of, most_data, stored_answer}
use Rattle.value_store.specs.Rows.{facts_in}
use Rattle.value_store.specs.StoreValue.{StoreValue}
use Rattle.chain_told.specs.Told.{AnswersRightly, AreEndedBefore, AreTrueAt, ComesBehind, ComesInTurn, IsAnswered, IsToldRightly, bars, command_under, goes_through, is_any_storable, is_ended, is_storable, is_stored, lesson, lessons, mark_of, numbered, owed_at, without_token}
use Rattle.chain_told.specs.TellsOn.{Begins}
use Rattle.knowledge.proofs.TheLaws.{replies_stay_same}
use Rattle.target_truth.proofs.TheLaws.{written_at}
use Rattle.value_store.proofs.TheLaws.{stored_answers_teach_nothing_new}
use Rattle.chain_told.proofs.Agreeing.{Agree, IsSure, agree_answered, agree_true, learn_append}
use Rattle.chain_told.proofs.Doing.{asked_append, ended_in_heard, ended_more, heard_append, lessons_more, lessons_told, mark_in_heard, mark_more, sent_append, sent_was_asked, still_ended}
use Rattle.chain_told.proofs.Splits.{found, get_split}
use Rattle.chain_told.proofs.Standing.{HasEnded, Stands, asked_apart, asked_parts, asked_placed, ended_or_sent, have_ended_still}
use Rattle.chain_told.proofs.Tokens.{same_place, unlike}
use Rattle.list_laws.proofs.Contained.{contains_first}
use Rattle.list_laws.proofs.AllLists.{all_append}
use Rattle.list_laws.proofs.Lists.{equal_bytes as alike}

-- ---- What is learned is taken of messages

taken_lesson : (what : Option Command) (body : List ℕ) → IsTaken (lesson_of what body)
taken_lesson None body = inr (inr refl)
taken_lesson (Some asked) body = inr (inl (asked, body, refl))

taken_of : (commands : List Asked) (message : MessageValue) → AreTaken (lesson commands message)
taken_of commands (command token service name body) = tt
taken_of commands (final token body) = (taken_lesson (option_and_then command_asked (command_under token commands)) body, tt)
taken_of commands (progress token body) = tt
taken_of commands (not_known token) = tt
taken_of commands (event service name body) = (inl (service, name, body, refl), tt)
taken_of commands (flow level) = tt

are_taken : (commands : List Asked) (told : List Spoken) → AreTaken (lessons commands told)
are_taken commands [] = tt
are_taken commands (s ∷ told) = all_append IsTaken (lesson commands s.message) (lessons commands told) (taken_of commands s.message) (are_taken commands told)

-- ---- The mark of the last message

later_same : (mark before : Option ℕ) → mark ≡ before → later_mark mark before ≡ before
later_same None before is = refl
later_same (Some position) before is = is

behind_same : (before mark : Option ℕ) → mark ≡ before → ComesBehind before mark
behind_same None mark is = is
behind_same (Some position) mark is = subst (λ m. IsSomeAnd m (λ p. position ≤ p)) (sym is) (le_refl position)

-- ---- What a store answers

fitted : (flag : Bool) (body reply : List ℕ) → cond flag (Some body) None ≡ Some reply → reply ≡ body
fitted true body reply is = cc
fitted false body reply is = absurd cc

truly_answered : (images : List Image) (history : List Input) (position : ℕ) (messages : List Message) (store : StoreValue) (what : Command) (reply : List ℕ)
    → IsStoreOf messages store → stored_answer what store ≡ Some reply → Holds (learned messages) (target_at images history position) → reply ≡ answer_at images history position what
truly_answered images history position messages store what reply of answer holds =
    by_answer (answer_known what (facts_in store.known) store.blocks) refl answer
  where
    by_answer : (o : Option Answer) → answer_known what (facts_in store.known) store.blocks ≡ o → data_of what o ≡ Some reply → reply ≡ answer_at images history position what
    by_answer None is given = absurd cc
    by_answer (Some it) is given =
        fitted (nat_le (length (answer_data what it)) most_data) (answer_data what it) reply given
        ∙ written_at images history position what it (learned messages) store.blocks holds of.bytes
        (sym (replies_stay_same what (facts_in store.known) (learned messages) store.blocks of.facts) ∙ is)

module _ (images : List Image) (history : List Input) (legal : IsLegal images history) (commands : List Asked) (own : List Spoken) (deeds : List Deed) (begins : Begins commands own deeds) where
  abbrev StandsHere : List Deed → List Deed → List Asked → List Spoken → List Spoken → Type 0
  StandsHere done left sent heard told = Stands images history commands own deeds begins done left sent heard told

  abbrev everything : List Asked
  everything = numbered 1 commands

  abbrev above : List Asked
  above = numbered 1 (sent_in deeds)

  abbrev pub spoken_of : Asked → List ℕ → Option ℕ → Spoken
  spoken_of c reply mark = record { message = final c.token reply; mark = mark }

  pub record Answered (done left : List Deed) (sent : List Asked) (heard told : List Spoken) (c : Asked) (reply : List ℕ) (mark : Option ℕ) : Type 0 where
    pub rightly : IsToldRightly images history everything told (spoken_of c reply mark)
    pub owed : owed_at everything (final c.token reply) mark ≡ []
    pub stands : StandsHere (done ++ answers c reply mark ∷ []) left sent heard (told ++ spoken_of c reply mark ∷ [])

  module _ (done left : List Deed) (sent : List Asked) (heard told : List Spoken) (c : Asked) (reply : List ℕ) (mark : Option ℕ) (whole : deeds ≡ done ++ answers c reply mark ∷ left)
      (st : StandsHere done (answers c reply mark ∷ left) sent heard told) (r : IsAnsweredRightly done c reply mark) where
    abbrev s : Spoken
    s = spoken_of c reply mark

    known : command_under c.token everything ≡ Some c
    known = (asked_placed images history commands own deeds begins done (answers c reply mark ∷ left) c (asked_in left) whole refl).found

    is_so : is_storable c ≡ true
    is_so = ap is_stored r.read ∙ r.storable

    marked_heard : mark ≡ mark_of heard
    marked_heard = r.marked ∙ mark_in_heard done heard st.came st.readable

    marked_still : mark_of (told ++ s ∷ []) ≡ mark_of heard
    marked_still = mark_more None told s ∙ later_same mark (mark_of told) (marked_heard ∙ sym st.marked) ∙ st.marked

    store_of : IsStoreOf (lessons above heard) r.store
    store_of = subst (λ ms. IsStoreOf ms r.store) st.taught r.store_of

    learns : learned (lessons everything (told ++ s ∷ [])) ≡ learn (answer_message r.command reply) (learned (lessons everything told))
    learns =
        ap learned (lessons_told everything told s)
        ∙ ap (λ o. learned (lessons everything told ++ (lesson_of (option_and_then command_asked o) reply ∷ []))) known
        ∙ ap (λ o. learned (lessons everything told ++ (lesson_of o reply ∷ []))) r.read
        ∙ learn_append (lessons everything told) (answer_message r.command reply ∷ []) nothing

    knows : IsSure images (mark_of heard) → Agree (learned (lessons everything (told ++ s ∷ []))) (learned (lessons above heard))
    knows sure =
        let X = learned (lessons everything told) in
        let agree = st.knows sure in
        let part = stored_answers_teach_nothing_new (lessons above heard) r.store r.command reply X (are_taken above heard) store_of r.answer agree.part in
        subst (λ x. Agree x (learned (lessons above heard))) (sym learns) (agree_answered r.command reply X (learned (lessons above heard)) agree part)

    -- each barrier that was asked before it has been answered
    settled : AreEndedBefore bars everything told c.token
    settled earlier later d other are token_is there barred =
        let mine = asked_parts images history commands own deeds begins done (answers c reply mark ∷ left) whole in
        let front : earlier ≡ begins.first ++ asked_in done =
        same_place commands earlier d later (begins.first ++ asked_in done) c (asked_in left ++ begins.later) begins.few are mine token_is in
        ⊎_elim (λ first. st.first_ended other first)
        (λ asked. ⊎_elim (λ ended. ended) by_sending (ended_or_sent told done other st.stored_ended asked))
        (Contains-append_cases begins.first (asked_in done) other (subst (λ xs. Contains xs other) front there))
      where
        by_sending : Contains (sent_in done) other → is_ended other.token told ≡ true
        by_sending there =
            let f = found (sent_in done) other there in
            let got : slice_get (sent_in done) (length f.front) ≡ Some other = ap (λ xs. slice_get xs (length f.front)) f.are ∙ get_split f.front other f.back in
            let number : length f.front + 1 ≡ 1 + length f.front = omega arith in
            st.ended f.front other f.back (sym st.sent_is ∙ f.are) ∙ ap (λ n. is_ended (decimal n) heard) (sym number)
            ∙ sym (ended_in_heard (length f.front + 1) done heard st.came st.readable) ∙ r.settled (length f.front) other got barred

    one_command : (d : Asked) → command_under c.token everything ≡ Some d → c ≡ d
    one_command d is = let two = known in cc

    turn : ComesInTurn everything told c
    turn through = let none : goes_through c ≡ false = ap not is_so in absurd cc

    same_command : (what : Command) → command_asked c ≡ Some what → r.command ≡ what
    same_command what is = let two = r.read in cc

    fresh : (position : ℕ) → mark_of heard ≡ Some position → AnswersRightly images history everything told c position reply
    fresh position at what is stored = record {
      same = λ typed.
          truly_answered images history position (lessons above heard) r.store r.command reply store_of r.answer
          ((subst (λ m. AreTrueAt images history m (learned (lessons above heard))) at st.truly).1 typed)
          ∙ ap (λ it. answer_at images history position it) (same_command what is);
      settled = settled;
    }

    answered : (m : Option ℕ) → mark_of heard ≡ m → IsAnswered images history everything told (final c.token reply) m
    answered None at = tt
    answered (Some position) at = λ d is.
        subst (λ x. ComesInTurn everything told x × AnswersRightly images history everything told x position reply) (one_command d is) (turn, fresh position at)

    unowed : (m : Option ℕ) → owed_at everything (final c.token reply) m ≡ []
    unowed None = refl
    unowed (Some position) =
        ap (λ o. map (λ (x : MessageValue). record { message = x; mark = Some position }) (without_token (is_any_storable o) (final c.token reply))) known
        ∙ ap (λ flag. map (λ (x : MessageValue). record { message = x; mark = Some position }) (without_token flag (final c.token reply))) is_so

    asked_here : (d : Asked) → Contains (asked_in done) d → bytes_eq c.token d.token ≡ false
    asked_here d there =
        unlike c.token d.token (λ same. asked_apart images history commands own deeds begins done (answers c reply mark ∷ left) d c whole there (contains_first c (asked_in left)) (sym same))

    asked_later : (d : Asked) → Contains (asked_in left) d → bytes_eq c.token d.token ≡ false
    asked_later d there =
        let parts : deeds ≡ (done ++ answers c reply mark ∷ []) ++ left = whole ∙ sym (append_assoc done (answers c reply mark ∷ []) left) in
        let its : Contains (asked_in (done ++ answers c reply mark ∷ [])) c =
        subst (λ xs. Contains xs c) (sym (asked_append done (answers c reply mark ∷ []))) (Contains-append_right (asked_in done) (c ∷ []) c (contains_first c [])) in
        unlike c.token d.token (asked_apart images history commands own deeds begins (done ++ answers c reply mark ∷ []) left c d parts its there)

    not_ended_by : (d : Asked) → bytes_eq c.token d.token ≡ false → is_ended d.token (told ++ s ∷ []) ≡ is_ended d.token told
    not_ended_by d other = ended_more d.token told s ∙ ap (λ b. is_ended d.token told || b) other ∙ or-false (is_ended d.token told)

    stands : StandsHere (done ++ answers c reply mark ∷ []) left sent heard (told ++ s ∷ [])
    stands = record {
      sent_is = sent_append done (answers c reply mark ∷ []) ∙ append-nil (sent_in done) ∙ st.sent_is;
      came = heard_append done (answers c reply mark ∷ []) ∙ append-nil (heard_in done) ∙ st.came;
      readable = st.readable;
      marked = marked_still;
      knows = knows;
      taught = lessons_more done (answers c reply mark ∷ []) ∙ append-nil (lessons_in done) ∙ st.taught;
      truly = st.truly;
      ended = λ xs d ys are.
          let there : Contains (sent_in done) d = subst (λ zs. Contains zs d) (sym (st.sent_is ∙ are)) (Contains-append_right xs (d ∷ ys) d (contains_first d ys)) in
          not_ended_by d (asked_here d (sent_was_asked done d there)) ∙ st.ended xs d ys are;
      first_ended = λ d there. still_ended d.token told s (st.first_ended d there);
      stored_ended = all_append (HasEnded (told ++ s ∷ [])) done (answers c reply mark ∷ []) (have_ended_still told s done st.stored_ended)
          (ended_more c.token told s ∙ ap (λ b. is_ended c.token told || b) (alike c.token c.token refl) ∙ or-true (is_ended c.token told), tt);
      unasked = λ d there. not_ended_by d (asked_later d there) ∙ st.unasked d (Contains-append_right (c ∷ []) (asked_in left) d there);
      unsent = st.unsent;
    }

    pub answer : Answered done left sent heard told c reply mark
    answer = record {
      rightly = record {
        owed = record { command = c; sent = known; unanswered = st.unasked c (contains_first c (asked_in left)) };
        placed = behind_same (mark_of told) mark (marked_heard ∙ sym st.marked);
        true = subst (λ m. AreTrueAt images history m (learned (lessons everything (told ++ s ∷ [])))) (sym marked_still)
            (agree_true images history (mark_of heard) (learned (lessons everything (told ++ s ∷ []))) (learned (lessons above heard)) knows st.truly);
        answered = answered mark (sym marked_heard);
      };
      owed = unowed mark;
      stands = stands;
    }
