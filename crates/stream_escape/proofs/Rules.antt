-- How a reading grows by one byte or by a run of plain ones.
use Rattle.std.proofs.Common.{◌≡◌, ℕ, ◌<◌, ◌≤◌, List, [], ◌∷◌, ◌++◌, length, Bool, true, false, refl, sym, ap, ◌∙◌, subst, arith, append_assoc, append-nil, length-append, zero-le, le_trans, ⊎_elim, ◌≢◌}
use Rattle.std.proofs.lemmas.Bool.{cases_eq}
use Rattle.stream_escape.specs.declared.stream.Item.{Item}
use Rattle.stream_escape.specs.declared.stream.Item.TheVariants.{Message, End}
use Rattle.stream_escape.specs.Stream.{escaped, framed, Ending, partly, ended, further, ReadsWithin, begun, message, end}
use Rattle.stream_escape.proofs.Machine.{escaped_plain}

-- two texts, escaped one after the other
pub escaped-append : (xs ys : List ℕ) → escaped (xs ++ ys) ≡ escaped xs ++ escaped ys
escaped-append [] ys = refl
escaped-append (x ∷ xs) ys =
    ⊎_elim
    (λ (is : x ≡ 3). let P : ℕ → Type 0 = λ y. escaped (y ∷ (xs ++ ys)) ≡ escaped (y ∷ xs) ++ escaped ys in
    subst P (sym is) (ap (λ zs. 3 ∷ 0 ∷ zs) (escaped-append xs ys)))
    (λ (isnt : x ≢ 3). escaped_plain x (xs ++ ys) isnt ∙ ap (λ zs. x ∷ zs) (escaped-append xs ys) ∙ ap (λ zs. zs ++ escaped ys) (sym (escaped_plain x xs isnt)))
    (cases_eq x 3)

-- what a longer limit reads
pub longer_limit : (limit more : ℕ) {bytes : List ℕ} {items : List Item} {ending : Ending}
    → limit ≤ more → ReadsWithin limit bytes items ending → ReadsWithin more bytes items ending
longer_limit limit more le (begun h e) = begun (le_trans h le) e
longer_limit limit more le (message first rest h e reads) = message first rest (le_trans h le) e (longer_limit limit more le reads)
longer_limit limit more le (end dropped h e) = end dropped (le_trans h le) e

-- what follows a message that has begun decides what the list is read as
extends : (limit : ℕ) (part more : List ℕ) (escape : Bool) (items : List Item) (new : Ending)
    → (length part ≤ limit → ReadsWithin limit ((escaped part ++ further escape) ++ more) items new)
    → (before : List ℕ) (its : List Item) → ReadsWithin limit before its (partly part escape) → ReadsWithin limit (before ++ more) (its ++ items) new
extends limit part more escape items new last before its (begun h e) = let P : List ℕ → Type 0 = λ bs. ReadsWithin limit (bs ++ more) items new in subst P (sym e) (last h)
extends limit part more escape items new last before its (message {items = others} first rest h e reads) =
    message first (rest ++ more) h (ap (λ bs. bs ++ more) e ∙ append_assoc (framed first) rest more) (extends limit part more escape items new last rest others reads)

-- plain bytes
pub reads_run : (limit : ℕ) (part more before : List ℕ) (its : List Item) → escaped more ≡ more → length (part ++ more) ≤ limit
    → ReadsWithin limit before its (partly part false) → ReadsWithin limit (before ++ more) (its ++ []) (partly (part ++ more) false)
reads_run limit part more before its plain room =
    extends limit part more false [] (partly (part ++ more) false)
    (λ _. begun room (simp append-nil (ap (λ bs. escaped part ++ bs) (sym plain) ∙ sym (escaped-append part more)))) before its

-- an escape
pub reads_escape : (limit : ℕ) (part before : List ℕ) (its : List Item)
    → ReadsWithin limit before its (partly part false) → ReadsWithin limit (before ++ 3 ∷ []) (its ++ []) (partly part true)
reads_escape limit part before its =
    extends limit part (3 ∷ []) false [] (partly part true) (λ h. begun h (simp append-nil)) before its

-- a byte 3 behind an escape
pub reads_three : (limit : ℕ) (part before : List ℕ) (its : List Item) → length part < limit
    → ReadsWithin limit before its (partly part true) → ReadsWithin limit (before ++ 0 ∷ []) (its ++ []) (partly (part ++ 3 ∷ []) false)
reads_three limit part before its room =
    let fits : length (part ++ 3 ∷ []) ≤ limit = omega (arith, length-append part (3 ∷ [])) in
    extends limit part (0 ∷ []) true [] (partly (part ++ 3 ∷ []) false)
    (λ _. begun fits (simp (append-nil, append_assoc) (sym (escaped-append part (3 ∷ []))))) before its

-- the end of a message
pub reads_message : (limit : ℕ) (part before : List ℕ) (its : List Item)
    → ReadsWithin limit before its (partly part true) → ReadsWithin limit (before ++ 1 ∷ []) (its ++ Message part ∷ []) (partly [] false)
reads_message limit part before its =
    extends limit part (1 ∷ []) true (Message part ∷ []) (partly [] false)
    (λ h. message part [] h (simp (append-nil, append_assoc)) (begun zero-le refl)) before its

-- the end of the stream
pub reads_end : (limit : ℕ) (part before : List ℕ) (its : List Item)
    → ReadsWithin limit before its (partly part true) → ReadsWithin limit (before ++ 2 ∷ []) (its ++ End ∷ []) ended
reads_end limit part before its =
    extends limit part (2 ∷ []) true (End ∷ []) ended (λ h. end part h (simp append_assoc)) before its
