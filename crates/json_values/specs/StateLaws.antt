-- What is written of the breakpoints that were hit, and of peers, is read as them.
use Rattle.std.proofs.Common.{◌≡◌, ℕ, ◌≤◌, List, [], ◌∷◌, rules, refl, arith}
use Rattle.std.specs.Prelude.{false, Some}
use Rattle.std.specs.List.{AllByRecursion}
use Rattle.serde_json.specs.Data.{depth}
use Rattle.serde_json.specs.Find.{as_str}
use Rattle.serde_json.specs.Written.{has_float}
use Rattle.json_values.specs.ListLaws.{list_back, list_plain, list_shallow}
use Rattle.json_values.specs.Lists.{list_in}
use Rattle.json_values.specs.Plain.{text_json, texts_json}
use Rattle.json_values.specs.Peers.{peer_json, peer_in, peers_json, peers_in}
use Rattle.json_values.specs.States.{hits_json, hits_in}

all_texts : (texts : List (List ℕ)) → AllByRecursion (λ _. Unit {0}) texts
all_texts [] = tt
all_texts (text ∷ texts) = (tt, all_texts texts)

texts_back : (texts : List (List ℕ)) → list_in as_str (texts_json texts) ≡ Some texts
texts_back texts = list_back text_json as_str (λ _. Unit {0}) (λ _ _. refl) texts (all_texts texts)

pub hits_back : (hits : List (List ℕ)) → hits_in (hits_json hits) ≡ Some hits
hits_back [] = refl
hits_back (hit ∷ hits) = rw (texts_back (hit ∷ hits))

pub hits_plain : (hits : List (List ℕ)) → has_float (hits_json hits) ≡ false
hits_plain [] = refl
hits_plain (hit ∷ hits) = rw (list_plain text_json (λ _. refl) (hit ∷ hits))

pub hits_shallow : (hits : List (List ℕ)) → depth (hits_json hits) ≤ 2
hits_shallow [] = search rules
hits_shallow (hit ∷ hits) =
    let flat : (text : List ℕ) → depth (text_json text) ≤ 0 = λ text. search rules in
    let all = list_shallow text_json 0 flat (hit ∷ hits) in omega arith

pub peers_back : (ids : List (List ℕ)) → peers_in (peers_json ids) ≡ Some ids
peers_back ids = list_back peer_json peer_in (λ _. Unit {0}) (λ _ _. refl) ids (all_texts ids)

pub peers_plain : (ids : List (List ℕ)) → has_float (peers_json ids) ≡ false
peers_plain ids = list_plain peer_json (λ _. refl) ids

pub peers_shallow : (ids : List (List ℕ)) → depth (peers_json ids) ≤ 2
peers_shallow ids =
    let flat : (id : List ℕ) → depth (peer_json id) ≤ 1 = λ id. search rules in
    list_shallow peer_json 1 flat ids
