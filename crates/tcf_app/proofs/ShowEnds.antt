-- How a run of `show` ends.
use Rattle.std.proofs.Common.{◌≡◌, ℕ, ◌+◌, List, ◌++◌, length, take, drop, refl, sym, ap, ◌∙◌, subst, append_assoc, inl, inr, take-append-drop}
use Rattle.std.proofs.Math.Seq.{take-append_seam, take-append-add}
use Rattle.std.specs.Prelude.{Option, None, Some, Result, Ok, Err, IfOk, OnErr}
use Rattle.tcf_outside.specs.Sink.{SinkSeen, Took, added}
use Rattle.tcf_app.specs.declared.exit.BadPlace.{BadPlace}
use Rattle.tcf_app.specs.declared.exit.Exit.{Exit}
use Rattle.tcf_app.specs.declared.exit.Exit.TheVariants.{Done, BadStream, NoMemory}
use Rattle.tcf_app.specs.Exit.{IsGivenUp}
use Rattle.tcf_app.specs.Texts.{bad_stream_text}
use Rattle.tcf_app.specs.Show.{IsShown, PutsLines, PutsPart}
use Rattle.tcf_app.specs.Ending.{Ending, Ends, EndsIn, IsShownEnding, lines_ending}
use Rattle.tcf_app.proofs.Items.{shown_as}
use Rattle.tcf_app.proofs.Endings.{added_twice, ends_whole}

-- nothing is bad
pub ends_good : (file : List ℕ) (bad : Option BadPlace) (before after : SinkSeen) → bad ≡ None → PutsLines file bad before after → EndsIn (IsShownEnding file) Done before after
ends_good file bad before after is l =
    let P : Option BadPlace → Type 0 = λ b. IsShown file (shown_as l.0 b) in
    let ending : Ending = lines_ending l.0 None in
    (ending, (shown_as l.0 None, subst P is l.1, refl), ends_whole ending before after l.2)

-- the last line names the bad place; what stands before it was put
ends_behind : (text last : List ℕ) (exit result : Exit) (before mid after : SinkSeen) → Took text before mid
    → Ends (record { exit = exit; text = last }) result mid after → Ends (record { exit = exit; text = text ++ last }) result before after
ends_behind text last exit result before mid after put e =
    record {
      which = e.which;
      whole = λ is. e.whole is ∙ ap (λ (t : Option (List ℕ)). added last t) put ∙ added_twice text last before.told;
      front = (
        length text + e.front.0,
        e.front.1 ∙ ap (λ (t : Option (List ℕ)). added (take e.front.0 last) t) put ∙ added_twice text (take e.front.0 last) before.told
            ∙ ap (λ (t : List ℕ). added t before.told) (sym (take-append-add text last e.front.0)),
      );
    }

-- memory was wanting for the last line
ends_before : (text last : List ℕ) (exit : Exit) (before after : SinkSeen) → (NoMemory ≡ exit → ⊥) → Took text before after
    → Ends (record { exit = exit; text = text ++ last }) NoMemory before after
ends_before text last exit before after other put =
    record {
      which = inr (inr refl);
      whole = λ is. absurd (other is);
      front = (length text, put ∙ ap (λ (t : List ℕ). added t before.told) (sym (take-append_seam text last)));
    }

pub ends_bad : {E : Type 0} (file : List ℕ) (bad : Option BadPlace) (b : BadPlace) (before mid after : SinkSeen) (made : Result (List ℕ) E) (result : Exit)
    → bad ≡ Some b → PutsLines file bad before mid → IfOk made (λ text. text ≡ bad_stream_text b)
    → IfOk made (λ text. Ends (record { exit = BadStream b.offset b.what; text = text }) result mid after)
    → OnErr made ((result ≡ NoMemory) × (after ≡ mid))
    → EndsIn (IsShownEnding file) result before after
ends_bad file bad b before mid after made result is l text ends wanting =
    let P : Option BadPlace → Type 0 = λ x. IsShown file (shown_as l.0 x) in
    let ending : Ending = lines_ending l.0 (Some b) in
    (ending, (shown_as l.0 (Some b), subst P is l.1, refl), by_made made text ends wanting)
  where
    by_made : {E : Type 0} (m : Result (List ℕ) E) → IfOk m (λ text. text ≡ bad_stream_text b)
        → IfOk m (λ text. Ends (record { exit = BadStream b.offset b.what; text = text }) result mid after)
        → OnErr m ((result ≡ NoMemory) × (after ≡ mid))
        → Ends (lines_ending l.0 (Some b)) result before after
    by_made (Ok t) text ends wanting =
        let Q : List ℕ → Type 0 = λ x. Ends (record { exit = BadStream b.offset b.what; text = x }) result mid after in
        ends_behind l.0 (bad_stream_text b) (BadStream b.offset b.what) result before mid after l.2 (subst Q text ends)
    by_made (Err e) text ends wanting =
        let R : Exit → Type 0 = λ x. Ends (lines_ending l.0 (Some b)) x before after in
        subst R (sym wanting.0) (ends_before l.0 (bad_stream_text b) (BadStream b.offset b.what) before after (λ e. cc) (ap (λ (seen : SinkSeen). seen.told) wanting.1 ∙ l.2))

-- the lines are no text of a run that is given up
own_exit : (text : List ℕ) (bad : Option BadPlace) → IsGivenUp (lines_ending text bad).exit → ⊥
own_exit text None g = elim g as (λ _. ⊥) [ inl e ↦ cc | inr e ↦ cc ]
own_exit text (Some bad) g = elim g as (λ _. ⊥) [ inl e ↦ cc | inr e ↦ cc ]

-- a front of the lines is one of the whole text
front_of : (text : List ℕ) (bad : Option BadPlace) (count : ℕ) → (n : ℕ) × (take count text ≡ take n (lines_ending text bad).text)
front_of text None count = (count, refl)
front_of text (Some bad) count =
    let part = take count text in
    let last = bad_stream_text bad in (
      length part,
      sym (ap (λ t. take (length part) (t ++ last)) (sym (take-append-drop count text)) ∙ ap (λ t. take (length part) t) (append_assoc part (drop count text) last) ∙ take-append_seam part (drop count text ++ last)),
    )

pub ends_given_up : (file : List ℕ) (exit : Exit) (before after : SinkSeen) → IsGivenUp exit → PutsPart file before after → EndsIn (IsShownEnding file) exit before after
ends_given_up file exit before after up p =
    let ending : Ending = lines_ending p.0.text p.0.bad in
    let front = front_of p.0.text p.0.bad p.2.0 in
    let P : Exit → Type 0 = λ e. IsGivenUp e in (
      ending,
      (p.0, p.1, refl),
      record {
        which = inr up;
        whole = λ is. absurd (own_exit p.0.text p.0.bad (subst P is up));
        front = (front.0, p.2.1 ∙ ap (λ (t : List ℕ). added t before.told) front.1);
      },
    )
