-- What each message's fields are read as, and with which fault.
use Rattle.std.proofs.Common.{◌≡◌, ℕ, ◌+◌, ◌<◌, ◌≤◌, inl, inr, Bool, true, false, cond, ltb, List, [], ◌∷◌, ◌++◌, length, Option, Some, None, Result, Ok, Err, refl, sym, ap, subst, ◌∙◌, arith, length-append, append_assoc}
use Rattle.std.specs.Prelude.{ℤ, codes}
use Rattle.std.specs.Fmt.{signed_decimal}
use Rattle.std.proofs.lemmas.Bool.{ltb-true, ltb-false, lt-ltb, le-ltb}
use Rattle.tcf_message.specs.declared.message.MessageFault.{MessageFault}
use Rattle.tcf_message.specs.declared.message.MessageFault.TheVariants.{Unended, Level, Trailing, Body}
use Rattle.tcf_message.specs.Message.{most_body, MessageValue, command, final, progress, not_known, event, flow, ◌•◌, ◌>>=◌, spelling, HasNoZero, IsToken, IsLevel, HasFields, IsWellFormed, body_length, field_at, token_at, level_of, with_level, ended, limited, command_of, final_of, progress_of, not_known_of, event_of, flow_of}
use Rattle.tcf_message.specs.Fault.{IsAmong, kind, command_token, command_service, event_service, followed, IsFault}
use Rattle.tcf_message.proofs.FieldLaws.{bind_ok, bind_err, ok_is, err_is, field_takes, field_again, field_faults, token_takes, token_again, token_faults, IsTokenFault}
use Rattle.tcf_message.proofs.LevelLaws.{level_takes, level_again, level_none, level_no_zero}

-- ---- The limit of the body, and the end

limited_takes : (m n : MessageValue) → limited m ≡ Ok n → (m ≡ n) × (body_length m ≤ most_body)
limited_takes m n e = go (ltb most_body (body_length m)) refl e
  where
    go : (b : Bool) → ltb most_body (body_length m) ≡ b → cond b (Err (Body (body_length m))) (Ok m) ≡ Ok n → (m ≡ n) × (body_length m ≤ most_body)
    go true t h = absurd cc
    go false t h = (ok_is m n h, ltb-false most_body (body_length m) t)

pub limited_again : (m : MessageValue) → body_length m ≤ most_body → limited m ≡ Ok m
limited_again m h = let t : ltb most_body (body_length m) ≡ false = le-ltb _ _ h in rw t refl

limited_faults : (m : MessageValue) (d : MessageFault) → limited m ≡ Err d → (Body (body_length m) ≡ d) × (most_body < body_length m)
limited_faults m d e = go (ltb most_body (body_length m)) refl e
  where
    go : (b : Bool) → ltb most_body (body_length m) ≡ b → cond b (Err (Body (body_length m))) (Ok m) ≡ Err d → (Body (body_length m) ≡ d) × (most_body < body_length m)
    go true t h = (err_is {A = MessageValue} (Body (body_length m)) d h, ltb-true most_body (body_length m) t)
    go false t h = absurd cc

pub limited_bad : (m : MessageValue) → most_body < body_length m → limited m ≡ Err (Body (body_length m))
limited_bad m h = let t : ltb most_body (body_length m) ≡ true = lt-ltb _ _ h in rw t refl

ended_takes : (place : ℕ) (rest : List ℕ) (m n : MessageValue) → ended place rest m ≡ Ok n → (m ≡ n) × (rest ≡ [])
ended_takes place [] m n e = (ok_is m n e, refl)
ended_takes place (b ∷ rest) m n e = absurd cc

ended_faults : (place : ℕ) (rest : List ℕ) (m : MessageValue) (d : MessageFault) → ended place rest m ≡ Err d → (Trailing place ≡ d) × (0 < length rest)
ended_faults place [] m d e = absurd cc
ended_faults place (b ∷ rest) m d e = (err_is {A = MessageValue} (Trailing place) d e, omega arith)

pub ended_bad : (place : ℕ) (rest : List ℕ) (m : MessageValue) → 0 < length rest → ended place rest m ≡ Err (Trailing place)
ended_bad place [] m h = absurd (omega arith)
ended_bad place (b ∷ rest) m h = refl

leveled_takes : (o : Option ℤ) (z : ℤ) → with_level o ≡ Ok z → o ≡ Some z
leveled_takes None z e = absurd cc
leveled_takes (Some y) z e = cc

leveled_faults : (o : Option ℤ) (d : MessageFault) → with_level o ≡ Err d → (Level ≡ d) × (o ≡ None)
leveled_faults None d e = (err_is {A = ℤ} Level d e, refl)
leveled_faults (Some z) d e = absurd cc

-- ---- Faults of fields

token_fault : (letter : ℕ) (bytes : List ℕ) (d : MessageFault) → IsAmong letter (codes "CRPNEF") → IsAmong letter (codes "CRPN") → IsTokenFault 2 bytes d → IsFault d ((letter ∷ []) • bytes)
token_fault letter bytes d six four (inl h) =
    let is : IsFault (Unended 2) ((letter ∷ []) • bytes) = (kind letter, bytes, six, h.1, refl, refl, omega arith) in
    subst (λ (x : MessageFault). IsFault x ((letter ∷ []) • bytes)) (sym h.0) is
token_fault letter bytes d six four (inr h) =
    let is : IsFault (MessageFault.Token (length h.0)) ((letter ∷ []) • bytes) = (letter, h.0, h.1, four, h.2.no_zero, ap (λ (x : List ℕ). letter ∷ 0 ∷ x) h.2.parts, refl, h.4) in
    subst (λ (x : MessageFault). IsFault x ((letter ∷ []) • bytes)) (sym h.3) is

-- ---- Commands

abbrev named : (List ℕ → List ℕ → List ℕ → MessageValue) → List ℕ × List ℕ → List ℕ × List ℕ → Result MessageValue MessageFault
named make service name = limited (make service.0 name.0 name.1)

abbrev command_name : List ℕ × List ℕ → List ℕ × List ℕ → Result MessageValue MessageFault
command_name token service = field_at (4 + length token.0 + length service.0) service.1 >>= λ name. named (command token.0) service name

abbrev command_service_of : List ℕ × List ℕ → Result MessageValue MessageFault
command_service_of token = field_at (3 + length token.0) token.1 >>= λ service. command_name token service

pub command_takes : (bytes : List ℕ) (m : MessageValue) → command_of bytes ≡ Ok m → IsWellFormed m × (codes "C" • bytes ≡ spelling m)
unfolding command_of
command_takes bytes m e =
    let a = bind_ok (token_at 2 bytes) (λ t. command_service_of t) m e in
    let b = bind_ok (field_at (3 + length a.0.0) a.0.1) (λ s. command_name a.0 s) m a.2 in
    let c = bind_ok (field_at (4 + length a.0.0 + length b.0.0) b.0.1) (λ n. named (command a.0.0) b.0 n) m b.2 in
    let g = limited_takes (command a.0.0 b.0.0 c.0.0 c.0.1) m c.2 in
    let t = token_takes 2 bytes a.0 a.1 in
    let s = field_takes (3 + length a.0.0) a.0.1 b.0 b.1 in
    let n = field_takes (4 + length a.0.0 + length b.0.0) b.0.1 c.0 c.1 in
    let whole : bytes ≡ a.0.0 • b.0.0 • c.0.0 • c.0.1 = t.1.parts ∙ ap (λ (x : List ℕ). a.0.0 • x) (s.parts ∙ ap (λ (x : List ℕ). b.0.0 • x) n.parts) in
    subst (λ (v : MessageValue). IsWellFormed v × (codes "C" • bytes ≡ spelling v)) g.0 (((t.0, s.no_zero, n.no_zero), g.1), ap (λ (x : List ℕ). codes "C" • x) whole)

pub command_again : (token service name body : List ℕ) → HasFields (command token service name body)
    → command_of (token • service • name • body) ≡ limited (command token service name body)
unfolding command_of
command_again token service name body h =
    rw (token_again 2 token (service • name • body) h.0, field_again (3 + length token) service (name • body) h.1, field_again (4 + length token + length service) name body h.2) refl

pub command_faults : (bytes : List ℕ) (d : MessageFault) → command_of bytes ≡ Err d → IsFault d (codes "C" • bytes)
unfolding command_of
command_faults bytes d e =
    elim (bind_err (token_at 2 bytes) (λ t. command_service_of t) d e) [
      | inl h ↦ token_fault 67 bytes d refl refl (token_faults 2 bytes d h)
      | inr a ↦
          let t = token_takes 2 bytes a.0 a.1 in
          elim (bind_err (field_at (3 + length a.0.0) a.0.1) (λ s. command_name a.0 s) d a.2) [
            | inl h ↦
                let f = field_faults (3 + length a.0.0) a.0.1 d h in
                let at : 3 + length a.0.0 ≡ length (followed (command_token a.0.0) []) = omega (arith, length-append a.0.0 (0 ∷ [])) in
                let is : IsFault (Unended (3 + length a.0.0)) (codes "C" • bytes) = (command_token a.0.0, a.0.1, t.0, f.1, ap (λ (x : List ℕ). codes "C" • x) t.1.parts, at, omega arith) in
                subst (λ (x : MessageFault). IsFault x (codes "C" • bytes)) (sym f.0) is
            | inr b ↦
                let s = field_takes (3 + length a.0.0) a.0.1 b.0 b.1 in
                let two : bytes ≡ a.0.0 • b.0.0 • b.0.1 = t.1.parts ∙ ap (λ (x : List ℕ). a.0.0 • x) s.parts in
                elim (bind_err (field_at (4 + length a.0.0 + length b.0.0) b.0.1) (λ n. named (command a.0.0) b.0 n) d b.2) [
                  | inl h ↦
                      let f = field_faults (4 + length a.0.0 + length b.0.0) b.0.1 d h in
                      let at : 4 + length a.0.0 + length b.0.0 ≡ length (followed (command_service a.0.0 b.0.0) []) = omega (arith, length-append a.0.0 (0 ∷ (b.0.0 ++ 0 ∷ [])), length-append b.0.0 (0 ∷ [])) in
                      let is : IsFault (Unended (4 + length a.0.0 + length b.0.0)) (codes "C" • bytes) = (command_service a.0.0 b.0.0, b.0.1, (t.0, s.no_zero), f.1, ap (λ (x : List ℕ). codes "C" • x) two, at, omega arith) in
                      subst (λ (x : MessageFault). IsFault x (codes "C" • bytes)) (sym f.0) is
                  | inr c ↦
                      let n = field_takes (4 + length a.0.0 + length b.0.0) b.0.1 c.0 c.1 in
                      let made : MessageValue = command a.0.0 b.0.0 c.0.0 c.0.1 in
                      let g = limited_faults made d c.2 in
                      let whole : codes "C" • bytes ≡ spelling made = ap (λ (x : List ℕ). codes "C" • x) (two ∙ ap (λ (x : List ℕ). a.0.0 • b.0.0 • x) n.parts) in
                      let is : IsFault (Body (body_length made)) (codes "C" • bytes) = (made, (t.0, s.no_zero, n.no_zero), whole, refl, g.1) in
                      subst (λ (x : MessageFault). IsFault x (codes "C" • bytes)) g.0 is
                ]
          ]
    ]

-- ---- Results and progress

pub final_takes : (bytes : List ℕ) (m : MessageValue) → final_of bytes ≡ Ok m → IsWellFormed m × (codes "R" • bytes ≡ spelling m)
unfolding final_of
final_takes bytes m e =
    let a = bind_ok (token_at 2 bytes) (λ t. limited (final t.0 t.1)) m e in
    let g = limited_takes (final a.0.0 a.0.1) m a.2 in
    let t = token_takes 2 bytes a.0 a.1 in
    subst (λ (v : MessageValue). IsWellFormed v × (codes "R" • bytes ≡ spelling v)) g.0 ((t.0, g.1), ap (λ (x : List ℕ). codes "R" • x) t.1.parts)

pub final_again : (token body : List ℕ) → IsToken token → final_of (token • body) ≡ limited (final token body)
unfolding final_of
final_again token body h = rw (token_again 2 token body h) refl

pub final_faults : (bytes : List ℕ) (d : MessageFault) → final_of bytes ≡ Err d → IsFault d (codes "R" • bytes)
unfolding final_of
final_faults bytes d e =
    elim (bind_err (token_at 2 bytes) (λ t. limited (final t.0 t.1)) d e) [
      | inl h ↦ token_fault 82 bytes d refl refl (token_faults 2 bytes d h)
      | inr a ↦
          let t = token_takes 2 bytes a.0 a.1 in
          let made : MessageValue = final a.0.0 a.0.1 in
          let g = limited_faults made d a.2 in
          let is : IsFault (Body (body_length made)) (codes "R" • bytes) = (made, t.0, ap (λ (x : List ℕ). codes "R" • x) t.1.parts, refl, g.1) in
          subst (λ (x : MessageFault). IsFault x (codes "R" • bytes)) g.0 is
    ]

pub progress_takes : (bytes : List ℕ) (m : MessageValue) → progress_of bytes ≡ Ok m → IsWellFormed m × (codes "P" • bytes ≡ spelling m)
unfolding progress_of
progress_takes bytes m e =
    let a = bind_ok (token_at 2 bytes) (λ t. limited (progress t.0 t.1)) m e in
    let g = limited_takes (progress a.0.0 a.0.1) m a.2 in
    let t = token_takes 2 bytes a.0 a.1 in
    subst (λ (v : MessageValue). IsWellFormed v × (codes "P" • bytes ≡ spelling v)) g.0 ((t.0, g.1), ap (λ (x : List ℕ). codes "P" • x) t.1.parts)

pub progress_again : (token body : List ℕ) → IsToken token → progress_of (token • body) ≡ limited (progress token body)
unfolding progress_of
progress_again token body h = rw (token_again 2 token body h) refl

pub progress_faults : (bytes : List ℕ) (d : MessageFault) → progress_of bytes ≡ Err d → IsFault d (codes "P" • bytes)
unfolding progress_of
progress_faults bytes d e =
    elim (bind_err (token_at 2 bytes) (λ t. limited (progress t.0 t.1)) d e) [
      | inl h ↦ token_fault 80 bytes d refl refl (token_faults 2 bytes d h)
      | inr a ↦
          let t = token_takes 2 bytes a.0 a.1 in
          let made : MessageValue = progress a.0.0 a.0.1 in
          let g = limited_faults made d a.2 in
          let is : IsFault (Body (body_length made)) (codes "P" • bytes) = (made, t.0, ap (λ (x : List ℕ). codes "P" • x) t.1.parts, refl, g.1) in
          subst (λ (x : MessageFault). IsFault x (codes "P" • bytes)) g.0 is
    ]

-- ---- Not recognised

pub not_known_takes : (bytes : List ℕ) (m : MessageValue) → not_known_of bytes ≡ Ok m → IsWellFormed m × (codes "N" • bytes ≡ spelling m)
unfolding not_known_of
not_known_takes bytes m e =
    let a = bind_ok (token_at 2 bytes) (λ t. ended (3 + length t.0) t.1 (not_known t.0)) m e in
    let g = ended_takes (3 + length a.0.0) a.0.1 (not_known a.0.0) m a.2 in
    let t = token_takes 2 bytes a.0 a.1 in
    let whole : bytes ≡ a.0.0 • [] = t.1.parts ∙ ap (λ (x : List ℕ). a.0.0 • x) g.1 in
    subst (λ (v : MessageValue). IsWellFormed v × (codes "N" • bytes ≡ spelling v)) g.0 ((t.0, omega arith), ap (λ (x : List ℕ). codes "N" • x) whole)

pub not_known_again : (token rest : List ℕ) → IsToken token → not_known_of (token • rest) ≡ ended (3 + length token) rest (not_known token)
unfolding not_known_of
not_known_again token rest h = rw (token_again 2 token rest h) refl

pub not_known_faults : (bytes : List ℕ) (d : MessageFault) → not_known_of bytes ≡ Err d → IsFault d (codes "N" • bytes)
unfolding not_known_of
not_known_faults bytes d e =
    elim (bind_err (token_at 2 bytes) (λ t. ended (3 + length t.0) t.1 (not_known t.0)) d e) [
      | inl h ↦ token_fault 78 bytes d refl refl (token_faults 2 bytes d h)
      | inr a ↦
          let t = token_takes 2 bytes a.0 a.1 in
          let g = ended_faults (3 + length a.0.0) a.0.1 (not_known a.0.0) d a.2 in
          let at : 3 + length a.0.0 ≡ length (spelling (not_known a.0.0)) = omega (arith, length-append a.0.0 (0 ∷ [])) in
          let whole : codes "N" • bytes ≡ spelling (not_known a.0.0) ++ a.0.1 = ap (λ (x : List ℕ). codes "N" • x) (t.1.parts ∙ sym (append_assoc a.0.0 (0 ∷ []) a.0.1)) in
          let is : IsFault (Trailing (3 + length a.0.0)) (codes "N" • bytes) = (not_known a.0.0, a.0.1, t.0, tt, whole, at, g.1) in
          subst (λ (x : MessageFault). IsFault x (codes "N" • bytes)) g.0 is
    ]

-- ---- Events

abbrev event_name : List ℕ × List ℕ → Result MessageValue MessageFault
event_name service = field_at (3 + length service.0) service.1 >>= λ name. named event service name

pub event_takes : (bytes : List ℕ) (m : MessageValue) → event_of bytes ≡ Ok m → IsWellFormed m × (codes "E" • bytes ≡ spelling m)
unfolding event_of
event_takes bytes m e =
    let a = bind_ok (field_at 2 bytes) (λ s. event_name s) m e in
    let b = bind_ok (field_at (3 + length a.0.0) a.0.1) (λ n. named event a.0 n) m a.2 in
    let g = limited_takes (event a.0.0 b.0.0 b.0.1) m b.2 in
    let s = field_takes 2 bytes a.0 a.1 in
    let n = field_takes (3 + length a.0.0) a.0.1 b.0 b.1 in
    let whole : bytes ≡ a.0.0 • b.0.0 • b.0.1 = s.parts ∙ ap (λ (x : List ℕ). a.0.0 • x) n.parts in
    subst (λ (v : MessageValue). IsWellFormed v × (codes "E" • bytes ≡ spelling v)) g.0 (((s.no_zero, n.no_zero), g.1), ap (λ (x : List ℕ). codes "E" • x) whole)

pub event_again : (service name body : List ℕ) → HasNoZero service → HasNoZero name → event_of (service • name • body) ≡ limited (event service name body)
unfolding event_of
event_again service name body hs hn = rw (field_again 2 service (name • body) hs, field_again (3 + length service) name body hn) refl

pub event_faults : (bytes : List ℕ) (d : MessageFault) → event_of bytes ≡ Err d → IsFault d (codes "E" • bytes)
unfolding event_of
event_faults bytes d e =
    elim (bind_err (field_at 2 bytes) (λ s. event_name s) d e) [
      | inl h ↦
          let f = field_faults 2 bytes d h in
          let is : IsFault (Unended 2) (codes "E" • bytes) = (kind 69, bytes, refl, f.1, refl, refl, omega arith) in
          subst (λ (x : MessageFault). IsFault x (codes "E" • bytes)) (sym f.0) is
      | inr a ↦
          let s = field_takes 2 bytes a.0 a.1 in
          elim (bind_err (field_at (3 + length a.0.0) a.0.1) (λ n. named event a.0 n) d a.2) [
            | inl h ↦
                let f = field_faults (3 + length a.0.0) a.0.1 d h in
                let at : 3 + length a.0.0 ≡ length (followed (event_service a.0.0) []) = omega (arith, length-append a.0.0 (0 ∷ [])) in
                let is : IsFault (Unended (3 + length a.0.0)) (codes "E" • bytes) = (event_service a.0.0, a.0.1, s.no_zero, f.1, ap (λ (x : List ℕ). codes "E" • x) s.parts, at, omega arith) in
                subst (λ (x : MessageFault). IsFault x (codes "E" • bytes)) (sym f.0) is
            | inr b ↦
                let n = field_takes (3 + length a.0.0) a.0.1 b.0 b.1 in
                let made : MessageValue = event a.0.0 b.0.0 b.0.1 in
                let g = limited_faults made d b.2 in
                let whole : codes "E" • bytes ≡ spelling made = ap (λ (x : List ℕ). codes "E" • x) (s.parts ∙ ap (λ (x : List ℕ). a.0.0 • x) n.parts) in
                let is : IsFault (Body (body_length made)) (codes "E" • bytes) = (made, (s.no_zero, n.no_zero), whole, refl, g.1) in
                subst (λ (x : MessageFault). IsFault x (codes "E" • bytes)) g.0 is
          ]
    ]

-- ---- Flow control

abbrev flow_end : List ℕ × List ℕ → ℤ → Result MessageValue MessageFault
flow_end field level = ended (3 + length field.0) field.1 (flow level)

pub flow_takes : (bytes : List ℕ) (m : MessageValue) → flow_of bytes ≡ Ok m → IsWellFormed m × (codes "F" • bytes ≡ spelling m)
unfolding flow_of
flow_takes bytes m e =
    let a = bind_ok (field_at 2 bytes) (λ f. with_level (level_of f.0) >>= λ z. flow_end f z) m e in
    let b = bind_ok (with_level (level_of a.0.0)) (λ z. flow_end a.0 z) m a.2 in
    let g = ended_takes (3 + length a.0.0) a.0.1 (flow b.0) m b.2 in
    let f = field_takes 2 bytes a.0 a.1 in
    let l = level_takes a.0.0 b.0 (leveled_takes (level_of a.0.0) b.0 b.1) in
    let whole : bytes ≡ signed_decimal b.0 • [] = f.parts ∙ ap (λ (x : List ℕ). a.0.0 • x) g.1 ∙ ap (λ (x : List ℕ). x • []) l.1 in
    subst (λ (v : MessageValue). IsWellFormed v × (codes "F" • bytes ≡ spelling v)) g.0 ((l.0, omega arith), ap (λ (x : List ℕ). codes "F" • x) whole)

pub flow_again : (level : ℤ) (rest : List ℕ) → IsLevel level → flow_of (signed_decimal level • rest) ≡ ended (3 + length (signed_decimal level)) rest (flow level)
unfolding flow_of
flow_again level rest h = rw (field_again 2 (signed_decimal level) rest (level_no_zero level h), level_again level h) refl

pub flow_faults : (bytes : List ℕ) (d : MessageFault) → flow_of bytes ≡ Err d → IsFault d (codes "F" • bytes)
unfolding flow_of
flow_faults bytes d e =
    elim (bind_err (field_at 2 bytes) (λ f. with_level (level_of f.0) >>= λ z. flow_end f z) d e) [
      | inl h ↦
          let f = field_faults 2 bytes d h in
          let is : IsFault (Unended 2) (codes "F" • bytes) = (kind 70, bytes, refl, f.1, refl, refl, omega arith) in
          subst (λ (x : MessageFault). IsFault x (codes "F" • bytes)) (sym f.0) is
      | inr a ↦
          let f = field_takes 2 bytes a.0 a.1 in
          elim (bind_err (with_level (level_of a.0.0)) (λ z. flow_end a.0 z) d a.2) [
            | inl h ↦
                let g = leveled_faults (level_of a.0.0) d h in
                let is : IsFault Level (codes "F" • bytes) = (a.0.0, a.0.1, f.no_zero, ap (λ (x : List ℕ). codes "F" • x) f.parts, level_none a.0.0 g.1) in
                subst (λ (x : MessageFault). IsFault x (codes "F" • bytes)) g.0 is
            | inr b ↦
                let l = level_takes a.0.0 b.0 (leveled_takes (level_of a.0.0) b.0 b.1) in
                let g = ended_faults (3 + length a.0.0) a.0.1 (flow b.0) d b.2 in
                let text = signed_decimal b.0 in
                let size : length a.0.0 ≡ length text = ap length l.1 in
                let at : 3 + length a.0.0 ≡ length (spelling (flow b.0)) = omega (arith, length-append text (0 ∷ [])) in
                let whole : codes "F" • bytes ≡ spelling (flow b.0) ++ a.0.1 = ap (λ (x : List ℕ). codes "F" • x) (f.parts ∙ ap (λ (x : List ℕ). x • a.0.1) l.1 ∙ sym (append_assoc text (0 ∷ []) a.0.1)) in
                let is : IsFault (Trailing (3 + length a.0.0)) (codes "F" • bytes) = (flow b.0, a.0.1, l.0, tt, whole, at, g.1) in
                subst (λ (x : MessageFault). IsFault x (codes "F" • bytes)) g.0 is
          ]
    ]
