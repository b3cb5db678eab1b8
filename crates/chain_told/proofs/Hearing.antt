-- A message that is heard and passed on is told as rightly as it was heard.
use Rattle.std.proofs.Common.{◌≡◌, ℕ, ◌+◌, ◌^◌, ◌<◌, inl, inr, ⊎_elim, false, ◌||◌, List, [], ◌∷◌, ◌++◌, length, map, Option, Some, None, Ok, refl, sym, ap, ap₂, ◌∙◌, subst, append-nil}
use Rattle.std.specs.Prelude.{decimal, option_and_then}
use Rattle.std.specs.List.{Contains}
use Rattle.std.proofs.lemmas.List.{map-append}
use Rattle.channel_core.specs.Arrivals.{Spoken, comes_as}
use Rattle.channel_core.specs.Wire.{Said, answers as answers_said, asks, goes_on, greets, said_by, tells as tells_said}
use Rattle.channel_core.specs.declared.held.Incoming.{Incoming}
use Rattle.knowledge.specs.Facts.{nothing}
use Rattle.knowledge.specs.Learning.{learn_all, learned}
use Rattle.target_contexts.specs.declared.process.Image.{Image}
use Rattle.target_hub.specs.declared.input.Input.{Input}
use Rattle.tcf_message.specs.Message.{MessageValue, command, event, final, flow, not_known, progress, reading}
use Rattle.value_node.specs.Asked.{Asked}
use Rattle.value_node.specs.Deeds.{Deed, asked_in, command_asked, hears, lessons_in, mark_after, sent_in, taught_in}
use Rattle.value_node.specs.RelayLaws.{IsOfItsCommand, passed_in}
use Rattle.value_node.specs.Store.{later_mark, lesson_of}
use Rattle.chain_told.specs.Told.{AnswersRightly, AreTrueAt, ComesAt, ComesInTurn, IsAnswered, IsOwed, IsToldRightly, bars, command_under, ends, goes_through, is_any_storable, is_storable, lesson, lessons, mark_of, numbered, owed_at, token_of, without_token}
use Rattle.chain_told.specs.TellsOn.{Begins}
use Rattle.chain_told.proofs.Addressing.{Addressed, addressed, ended_before, ends_alike, ends_no_other, ends_none_later}
use Rattle.chain_told.proofs.Agreeing.{Agree, AreFew, IsSure, agree_few, agree_true, learn_append, true_grounded}
use Rattle.chain_told.proofs.Doing.{IsReadable, ended_more, heard_append, lessons_more, lessons_told, mark_more, sent_append, still_ended}
use Rattle.chain_told.proofs.Numbered.{under}
use Rattle.chain_told.proofs.Standing.{HasEnded, Stands, have_ended_still}
use Rattle.list_laws.proofs.AllLists.{all_append}

few_lessons : (commands : List Asked) (message : MessageValue) → AreFew (lesson commands message ++ [])
few_lessons commands (command token service name body) = tt
few_lessons commands (final token body) = tt
few_lessons commands (progress token body) = tt
few_lessons commands (not_known token) = tt
few_lessons commands (event service name body) = tt
few_lessons commands (flow level) = tt

-- ---- Where nothing has a position behind a message, nothing had before it

later_none : (mark before : Option ℕ) → later_mark mark before ≡ None → before ≡ None
later_none None before is = is
later_none (Some position) before is = absurd cc

unmarked_before : (said : Said) (mark before : Option ℕ) → ComesAt said before mark → mark_after said mark before ≡ None → before ≡ None
unmarked_before greets mark before comes is = comes
unmarked_before tells_said mark before comes is = later_none mark before is
unmarked_before asks mark before comes is = is
unmarked_before (goes_on token) mark before comes is = later_none mark before is
unmarked_before (answers_said token done) mark before comes is = later_none mark before is

module _ (images : List Image) (history : List Input) (commands : List Asked) (own : List Spoken) (deeds : List Deed) (begins : Begins commands own deeds) (few : length (sent_in deeds) < 10 ^ 64) where
  abbrev StandsHere : List Deed → List Deed → List Asked → List Spoken → List Spoken → Type 0
  StandsHere done left sent heard told = Stands images history commands own deeds begins done left sent heard told

  abbrev everything : List Asked
  everything = numbered 1 commands

  abbrev above : List Asked
  above = numbered 1 (sent_in deeds)

  -- the second message is the first one as it is passed on
  pub record Passes (left : List Deed) (sent : List Asked) (told : List Spoken) (h s : Spoken) : Type 0 where
    pub mark : s.mark ≡ h.mark
    pub after : (mark before : Option ℕ) → mark_after (said_by s.message) mark before ≡ mark_after (said_by h.message) mark before
    pub comes : (before mark : Option ℕ) → ComesAt (said_by h.message) before mark → ComesAt (said_by s.message) before mark
    pub teaches : lesson everything s.message ≡ lesson above h.message
    pub taught : taught_in sent (Ok h.message) ≡ lesson above h.message
    pub owed_too : owed_at everything s.message s.mark ≡ owed_at above h.message h.mark
    pub owed : IsOwed everything told s.message
    pub answered : IsAnswered images history everything told s.message s.mark
    pub ends_it : (xs : List Asked) (c : Asked) (ys : List Asked) → sent ≡ xs ++ c ∷ ys → ends c.token s.message ≡ ends (decimal (1 + length xs)) h.message
    pub no_other : (c : Asked) → Contains (asked_in left) c → ends c.token s.message ≡ false
    pub none_later : (n : ℕ) → length sent < n → n < 10 ^ 64 → ends (decimal n) h.message ≡ false

  pub record Passed (done left : List Deed) (sent : List Asked) (heard told : List Spoken) (incoming : Incoming) (h s : Spoken) : Type 0 where
    pub rightly : IsToldRightly images history everything told s
    pub stands : StandsHere (done ++ hears incoming ∷ []) left sent (heard ++ h ∷ []) (told ++ s ∷ [])

  module _ (done left : List Deed) (sent : List Asked) (heard told : List Spoken) (incoming : Incoming) (h s : Spoken)
      (st : StandsHere done (hears incoming ∷ left) sent heard told) (p : Passes left sent told h s) (r : IsToldRightly images history above heard h)
      (is : incoming ≡ comes_as h) (readable : IsReadable h) where
    read : reading incoming.raw ≡ Ok h.message
    read = ap (λ (i : Incoming). reading i.raw) is ∙ readable

    marked_so : mark_of (heard ++ h ∷ []) ≡ mark_after (said_by h.message) h.mark (mark_of heard)
    marked_so = mark_more None heard h

    marked : mark_of (told ++ s ∷ []) ≡ mark_of (heard ++ h ∷ [])
    marked =
        mark_more None told s
        ∙ ap (λ m. mark_after (said_by s.message) m (mark_of told)) p.mark
        ∙ ap (λ b. mark_after (said_by s.message) h.mark b) st.marked
        ∙ p.after h.mark (mark_of heard) ∙ sym marked_so

    sure_before : IsSure images (mark_of (heard ++ h ∷ [])) → IsSure images (mark_of heard)
    sure_before sure = ⊎_elim (λ typed. inl typed) (λ none. inr (unmarked_before (said_by h.message) h.mark (mark_of heard) r.placed (sym marked_so ∙ none))) sure

    knows : IsSure images (mark_of (heard ++ h ∷ [])) → Agree (learned (lessons everything (told ++ s ∷ []))) (learned (lessons above (heard ++ h ∷ [])))
    knows sure =
        let before = sure_before sure in
        let X = learned (lessons everything told) in
        let Y = learned (lessons above heard) in
        let ms = lesson above h.message ++ [] in
        let both : Agree (learn_all ms X) (learn_all ms Y) =
        agree_few ms X Y (few_lessons above h.message) (st.knows before) (true_grounded images history (mark_of heard) Y before st.truly) in
        let one : learned (lessons everything (told ++ s ∷ [])) ≡ learn_all ms X =
        ap learned (lessons_told everything told s) ∙ ap (λ l. learned (lessons everything told ++ (l ++ []))) p.teaches ∙ learn_append (lessons everything told) ms nothing in
        let other : learned (lessons above (heard ++ h ∷ [])) ≡ learn_all ms Y = ap learned (lessons_told above heard h) ∙ learn_append (lessons above heard) ms nothing in
        subst (λ x. Agree x (learned (lessons above (heard ++ h ∷ [])))) (sym one) (subst (λ y. Agree (learn_all ms X) y) (sym other) both)

    rightly : IsToldRightly images history everything told s
    rightly = record {
      owed = p.owed;
      placed = subst (λ b. ComesAt (said_by s.message) b s.mark) (sym st.marked) (subst (λ m. ComesAt (said_by s.message) (mark_of heard) m) (sym p.mark) (p.comes (mark_of heard) h.mark r.placed));
      true = subst (λ m. AreTrueAt images history m (learned (lessons everything (told ++ s ∷ [])))) (sym marked)
          (agree_true images history (mark_of (heard ++ h ∷ [])) (learned (lessons everything (told ++ s ∷ []))) (learned (lessons above (heard ++ h ∷ []))) knows r.true);
      answered = p.answered;
    }

    stands : StandsHere (done ++ hears incoming ∷ []) left sent (heard ++ h ∷ []) (told ++ s ∷ [])
    stands = record {
      sent_is = sent_append done (hears incoming ∷ []) ∙ append-nil (sent_in done) ∙ st.sent_is;
      came = heard_append done (hears incoming ∷ []) ∙ ap₂ (λ xs i. xs ++ i ∷ []) st.came is ∙ sym (map-append comes_as heard (h ∷ []));
      readable = all_append IsReadable heard (h ∷ []) st.readable (readable, tt);
      marked = marked;
      knows = knows;
      taught =
          lessons_more done (hears incoming ∷ [])
          ∙ ap (λ xs. lessons_in done ++ (taught_in xs (reading incoming.raw) ++ [])) st.sent_is
          ∙ ap (λ m. lessons_in done ++ (taught_in sent m ++ [])) read
          ∙ ap₂ (λ xs ys. xs ++ (ys ++ [])) st.taught p.taught ∙ sym (lessons_told above heard h);
      truly = r.true;
      ended = λ xs c ys are.
          ended_more c.token told s ∙ ap₂ (λ a b. a || b) (st.ended xs c ys are) (p.ends_it xs c ys are) ∙ sym (ended_more (decimal (1 + length xs)) heard h);
      first_ended = λ c there. still_ended c.token told s (st.first_ended c there);
      stored_ended = all_append (HasEnded (told ++ s ∷ [])) done (hears incoming ∷ []) (have_ended_still told s done st.stored_ended) (tt, tt);
      unasked = λ c there. ended_more c.token told s ∙ ap₂ (λ a b. a || b) (st.unasked c there) (p.no_other c there);
      unsent = λ n far small. ended_more (decimal n) heard h ∙ ap₂ (λ a b. a || b) (st.unsent n far small) (p.none_later n far small);
    }

    pub pass : Passed done left sent heard told incoming h s
    pass = record { rightly = rightly; stands = stands }

  -- ---- Each message that is heard is passed on as one

  pub record PassesOn (left : List Deed) (sent : List Asked) (told : List Spoken) (message : MessageValue) (mark : Option ℕ) : Type 0 where
    pub spoken : Spoken
    pub are : map (λ m. record { message = m; mark = mark }) (passed_in sent (Ok message)) ≡ spoken ∷ []
    pub passes : Passes left sent told (record { message = message; mark = mark }) spoken

  owed_alike : (one other : MessageValue) (mark : Option ℕ)
      → without_token (is_any_storable (command_under (token_of one) everything)) one ≡ without_token (is_any_storable (command_under (token_of other) above)) other
      → owed_at everything one mark ≡ owed_at above other mark
  owed_alike one other None same = refl
  owed_alike one other (Some position) same = ap (λ (ms : List MessageValue). map (λ m. record { message = m; mark = Some position }) ms) same

  module _ (done left : List Deed) (sent : List Asked) (heard told : List Spoken) (incoming : Incoming) (mark : Option ℕ) (whole : deeds ≡ done ++ hears incoming ∷ left)
      (st : StandsHere done (hears incoming ∷ left) sent heard told) where
    abbrev AddressedHere : List ℕ → Type 0
    AddressedHere token = Addressed images history commands own deeds begins few done (hears incoming ∷ left) sent heard told token

    -- the facts that progress and each answer share
    module _ (token : List ℕ) (a : AddressedHere token) where
      one_command : (c : Asked) → command_under a.asked.token everything ≡ Some c → a.asked ≡ c
      one_command c is = let two = a.known in cc

      turn : ComesInTurn above heard (under (1 + length a.front) a.asked) → ComesInTurn everything told a.asked
      turn it through = ended_before images history commands own deeds begins few done (hears incoming ∷ left) sent heard told token whole st a goes_through (λ n c. refl) (it through)

      fresh : (position : ℕ) (body : List ℕ) → AnswersRightly images history above heard (under (1 + length a.front) a.asked) position body
          → AnswersRightly images history everything told a.asked position body
      fresh position body it what is stored =
          let f = it what is stored in
          record { same = f.same; settled = ended_before images history commands own deeds begins few done (hears incoming ∷ left) sent heard told token whole st a bars (λ n c. refl) f.settled }

      answered_final : (body : List ℕ) (at : Option ℕ) → IsAnswered images history above heard (final token body) at → IsAnswered images history everything told (final a.asked.token body) at
      answered_final body None it = tt
      answered_final body (Some position) it = λ c is.
          let its = it (under (1 + length a.front) a.asked) a.known_above in
          subst (λ x. ComesInTurn everything told x × AnswersRightly images history everything told x position body) (one_command c is) (turn its.0, fresh position body its.1)

      answered_unknown : (at : Option ℕ) → IsAnswered images history above heard (not_known token) at → IsAnswered images history everything told (not_known a.asked.token) at
      answered_unknown None it = tt
      answered_unknown (Some position) it = λ c is.
          let its = it (under (1 + length a.front) a.asked) a.known_above in
          subst (λ x. ComesInTurn everything told x × (is_storable x ≡ false)) (one_command c is) (turn its.0, its.1)

      storable_alike : is_any_storable (command_under a.asked.token everything) ≡ is_any_storable (command_under token above)
      storable_alike = ap is_any_storable a.known ∙ sym (ap is_any_storable a.known_above)

      final_passes : (body : List ℕ) → IsToldRightly images history above heard (record { message = final token body; mark = mark })
          → Passes left sent told (record { message = final token body; mark = mark }) (record { message = final a.asked.token body; mark = mark })
      final_passes body r = record {
        mark = refl;
        after = λ m before. refl;
        comes = λ before m it. it;
        teaches =
            ap (λ o. lesson_of (option_and_then command_asked o) body ∷ []) a.known
            ∙ sym (ap (λ o. lesson_of (option_and_then command_asked o) body ∷ []) a.known_above);
        taught =
            ap (λ o. lesson_of (option_and_then command_asked o) body ∷ []) a.sent_so
            ∙ sym (ap (λ o. lesson_of (option_and_then command_asked o) body ∷ []) a.known_above);
        owed_too = owed_alike (final a.asked.token body) (final token body) mark (ap (λ flag. without_token flag (final [] body)) storable_alike);
        owed = record { command = a.asked; sent = a.known; unanswered = a.unanswered };
        answered = answered_final body mark r.answered;
        ends_it = ends_alike images history commands own deeds begins few done (hears incoming ∷ left) sent heard told token whole st a;
        no_other = ends_no_other images history commands own deeds begins few done (hears incoming ∷ left) sent heard told token whole st a;
        none_later = ends_none_later images history commands own deeds begins few done (hears incoming ∷ left) sent heard told token whole st a;
      }

      unknown_passes : IsToldRightly images history above heard (record { message = not_known token; mark = mark })
          → Passes left sent told (record { message = not_known token; mark = mark }) (record { message = not_known a.asked.token; mark = mark })
      unknown_passes r = record {
        mark = refl;
        after = λ m before. refl;
        comes = λ before m it. it;
        teaches = refl;
        taught = refl;
        owed_too = owed_alike (not_known a.asked.token) (not_known token) mark (ap (λ flag. without_token flag (not_known [])) storable_alike);
        owed = record { command = a.asked; sent = a.known; unanswered = a.unanswered };
        answered = answered_unknown mark r.answered;
        ends_it = ends_alike images history commands own deeds begins few done (hears incoming ∷ left) sent heard told token whole st a;
        no_other = ends_no_other images history commands own deeds begins few done (hears incoming ∷ left) sent heard told token whole st a;
        none_later = ends_none_later images history commands own deeds begins few done (hears incoming ∷ left) sent heard told token whole st a;
      }

      progress_passes : (body : List ℕ) → Passes left sent told (record { message = progress token body; mark = mark }) (record { message = progress a.asked.token body; mark = mark })
      progress_passes body = record {
        mark = refl;
        after = λ m before. refl;
        comes = λ before m it. it;
        teaches = refl;
        taught = refl;
        owed_too = owed_alike (progress a.asked.token body) (progress token body) mark refl;
        owed = record { command = a.asked; sent = a.known; unanswered = a.unanswered };
        answered = tt;
        ends_it = λ xs c ys are. refl;
        no_other = λ c there. refl;
        none_later = λ n far small. refl;
      }

    event_passes : (service name body : List ℕ) → Passes left sent told (record { message = event service name body; mark = mark }) (record { message = event service name body; mark = mark })
    event_passes service name body = record {
      mark = refl;
      after = λ m before. refl;
      comes = λ before m it. it;
      teaches = refl;
      taught = refl;
      owed_too = owed_alike (event service name body) (event service name body) mark refl;
      owed = tt;
      answered = tt;
      ends_it = λ xs c ys are. refl;
      no_other = λ c there. refl;
      none_later = λ n far small. refl;
    }

    pub passes_on : (message : MessageValue) → IsToldRightly images history above heard (record { message = message; mark = mark }) → IsOfItsCommand done (Ok message) → PassesOn left sent told message mark
    passes_on (command token service name body) r its = absurd r.owed
    passes_on (flow level) r its = absurd r.owed
    passes_on (event service name body) r its = record { spoken = record { message = event service name body; mark = mark }; are = refl; passes = event_passes service name body }
    passes_on (progress token body) r its =
        let a = addressed images history commands own deeds begins few done (hears incoming ∷ left) sent heard told token whole st its in
        record {
          spoken = record { message = progress a.asked.token body; mark = mark };
          are = ap (λ t. record { message = progress t body; mark = mark } ∷ []) a.below;
          passes = progress_passes token a body;
        }
    passes_on (final token body) r its =
        let a = addressed images history commands own deeds begins few done (hears incoming ∷ left) sent heard told token whole st its in
        record {
          spoken = record { message = final a.asked.token body; mark = mark };
          are = ap (λ t. record { message = final t body; mark = mark } ∷ []) a.below;
          passes = final_passes token a body r;
        }
    passes_on (not_known token) r its =
        let a = addressed images history commands own deeds begins few done (hears incoming ∷ left) sent heard told token whole st its in
        record {
          spoken = record { message = not_known a.asked.token; mark = mark };
          are = ap (λ t. record { message = not_known t; mark = mark } ∷ []) a.below;
          passes = unknown_passes token a r;
        }
