-- What stands under a key, where one key is written.
use Rattle.std.proofs.Common.{◌≡◌, ℕ, zero, suc, Bool, true, false, cond, nat_eq, ◌&&◌, List, [], ◌∷◌, Option, Some, None, option_map, is_none, refl, sym, ap, ◌∙◌, subst}
use Rattle.std.specs.Prelude.{bytes_eq, option_and_then}
use Rattle.std.specs.Cmp.Lexicographic.{bytes_decides, nat_list_eq_equiv}
use Rattle.std.specs.Global.{Vec}
use Rattle.std.specs.HashMap.{HashMap, UpdatesBy}
use Rattle.std.specs.List.{list_all}
use Rattle.std.specs.Map.{lookup, AreApart, IsKeyTest, KeepsOthers}
use Rattle.std.proofs.lemmas.Bool.{and_parts, cond-true, cond-false, eqb-true}
use Rattle.knowledge.specs.Changes.{at_number, at_text, at_thread, with_id}
use Rattle.knowledge.specs.Keyed.{at_index, of_number, of_thread, text_rows, under}

-- a look-up in the rows is one in the map
pub lookup_rows : {A : Type 0} (id : List ℕ) (entries : List (Vec ℕ × A)) → under id (text_rows entries) ≡ lookup (λ key. bytes_eq id key.items) entries
lookup_rows id [] = refl
lookup_rows id (entry ∷ entries) = ap (cond (bytes_eq id entry.0.items) (Some entry.1)) (lookup_rows id entries)

others_kept : {K X : Type 0} (eq : K → K → Bool) (test : K → Bool) (old new : List (K × X)) → KeepsOthers eq test old new
    → (other : K → Bool) → IsKeyTest eq other → AreApart test other → lookup other new ≡ lookup other old
unfolding KeepsOthers
others_kept eq test old new kept = kept

apart : (id other key : List ℕ) → bytes_eq id other ≡ false → bytes_eq id key ≡ true → bytes_eq other key ≡ false
apart id other key differ same = nat_list_eq_equiv.symm other key ∙ sym (nat_list_eq_equiv.congr id key other same) ∙ differ

-- what stands under each text when one key of the map is written
pub text_written : {X S : Type 0} (id : List ℕ) (value : Option X) (old new : HashMap (Vec ℕ) X S)
    → UpdatesBy (λ x y. bytes_eq x.items y.items) (λ key. bytes_eq id key.items) old new value
    → (other : List ℕ) → under other (text_rows new.entries) ≡ at_text id value (λ key. under key (text_rows old.entries)) other
text_written {X} {S} id value old new written other = by (bytes_eq id other) refl
  where
    by : (b : Bool) → bytes_eq id other ≡ b → under other (text_rows new.entries) ≡ cond (bytes_eq id other) value (under other (text_rows old.entries))
    by true same =
        subst (λ (key : List ℕ). under key (text_rows new.entries) ≡ value) ((bytes_decides id other).0 same) (lookup_rows id new.entries ∙ written.1)
        ∙ sym (cond-true (bytes_eq id other) value (under other (text_rows old.entries)) same)
    by false differ =
        lookup_rows other new.entries
        ∙ others_kept _ _ old.entries new.entries written.3 (λ key. bytes_eq other key.items) (λ x y. nat_list_eq_equiv.congr other x.items y.items) (λ key. apart id other key.items differ)
        ∙ sym (lookup_rows other old.entries)
        ∙ sym (cond-false (bytes_eq id other) value (under other (text_rows old.entries)) differ)

-- a list of nothing has nothing at each index
pub none_at : (values : List (Option ℕ)) → list_all is_none values ≡ true → (index : ℕ) → at_index index values ≡ None
none_at [] all index = refl
none_at (value ∷ values) all zero = none_by value (and_parts _ _ all).0
  where
    none_by : (value : Option ℕ) → is_none value ≡ true → value ≡ None
    none_by None is = refl
    none_by (Some x) is = cc
none_at (value ∷ values) all (suc index) = none_at values (and_parts _ _ all).1 index

-- ---- the rows of a process among those of all

-- what stands under each thread where the rows of one process are written, and one thread among them
pub within_process : {X : Type 0} (process thread : ℕ) (value : Option X) (old new : List (ℕ × List (ℕ × X))) (before now : List (ℕ × X))
    → ((p : ℕ) → of_number p new ≡ at_number process (Some now) (λ q. of_number q old) p)
    → ((t : ℕ) → of_thread process t old ≡ of_number t before)
    → ((t : ℕ) → of_number t now ≡ at_number thread value (λ u. of_number u before) t)
    → (p t : ℕ) → of_thread p t new ≡ at_thread process thread value (λ q u. of_thread q u old) p t
within_process {X} process thread value old new before now outer there inner p t = by (nat_eq process p) refl
  where
    by : (b : Bool) → nat_eq process p ≡ b → of_thread p t new ≡ cond (nat_eq process p && nat_eq thread t) value (of_thread p t old)
    by true same =
        ap (option_and_then (of_number t)) (outer p ∙ cond-true (nat_eq process p) (Some now) (of_number p old) same)
        ∙ inner t
        ∙ ap (cond (nat_eq thread t) value) (sym (there t) ∙ ap (λ k. of_thread k t old) (eqb-true process p same))
        ∙ sym (ap (λ b. cond (b && nat_eq thread t) value (of_thread p t old)) same)
    by false differ =
        ap (option_and_then (of_number t)) (outer p ∙ cond-false (nat_eq process p) (Some now) (of_number p old) differ)
        ∙ sym (ap (λ b. cond (b && nat_eq thread t) value (of_thread p t old)) differ)

-- no thread of a process without rows has anything
pub no_process : {X : Type 0} (process : ℕ) (rows : List (ℕ × List (ℕ × X))) → of_number process rows ≡ None → (t : ℕ) → of_thread process t rows ≡ None
no_process process rows none t = ap (option_and_then (of_number t)) none

-- so taking one out changes nothing
pub none_within : {X : Type 0} (process thread : ℕ) (rows : List (ℕ × List (ℕ × X))) → of_number process rows ≡ None
    → (p t : ℕ) → of_thread p t rows ≡ at_thread process thread None (λ q u. of_thread q u rows) p t
none_within {X} process thread rows none p t = by (nat_eq process p && nat_eq thread t) refl
  where
    by : (b : Bool) → (nat_eq process p && nat_eq thread t) ≡ b → of_thread p t rows ≡ cond (nat_eq process p && nat_eq thread t) None (of_thread p t rows)
    by true same =
        sym (ap (λ k. of_thread k t rows) (eqb-true process p (and_parts (nat_eq process p) (nat_eq thread t) same).0))
        ∙ no_process process rows none t ∙ sym (cond-true _ None (of_thread p t rows) same)
    by false differ = sym (cond-false _ None (of_thread p t rows) differ)

-- all rows of a process are gone
pub process_gone : {X : Type 0} (process : ℕ) (old new : List (ℕ × List (ℕ × X)))
    → ((p : ℕ) → of_number p new ≡ at_number process None (λ q. of_number q old) p)
    → (p t : ℕ) → of_thread p t new ≡ cond (nat_eq process p) None (of_thread p t old)
process_gone {X} process old new outer p t = by (nat_eq process p) refl
  where
    by : (b : Bool) → nat_eq process p ≡ b → of_thread p t new ≡ cond (nat_eq process p) None (of_thread p t old)
    by true same =
        ap (option_and_then (of_number t)) (outer p ∙ cond-true (nat_eq process p) None (of_number p old) same)
        ∙ sym (cond-true (nat_eq process p) None (of_thread p t old) same)
    by false differ =
        ap (option_and_then (of_number t)) (outer p ∙ cond-false (nat_eq process p) None (of_number p old) differ)
        ∙ sym (cond-false (nat_eq process p) None (of_thread p t old) differ)

-- rows in which nothing is may go
pub empty_gone : {X : Type 0} (process : ℕ) (rows : List (ℕ × List (ℕ × X))) → of_number process rows ≡ Some []
    → (p t : ℕ) → cond (nat_eq process p) None (of_thread p t rows) ≡ of_thread p t rows
empty_gone {X} process rows empty p t = by (nat_eq process p) refl
  where
    by : (b : Bool) → nat_eq process p ≡ b → cond (nat_eq process p) None (of_thread p t rows) ≡ of_thread p t rows
    by true same =
        cond-true (nat_eq process p) None (of_thread p t rows) same
        ∙ sym (sym (ap (λ k. of_thread k t rows) (eqb-true process p same)) ∙ ap (option_and_then (of_number t)) empty)
    by false differ = cond-false (nat_eq process p) None (of_thread p t rows) differ

-- ---- one thread more in the list of a process

-- the list was taken out, and is put back with it
pub joined_there : (process : ℕ) (id : List ℕ) (old mid new : List (ℕ × List (List ℕ))) (ids now : List (List ℕ))
    → Some ids ≡ of_number process old
    → ((n : ℕ) → of_number n mid ≡ at_number process None (λ m. of_number m old) n)
    → now ≡ with_id id ids
    → ((n : ℕ) → of_number n new ≡ at_number process (Some now) (λ m. of_number m mid) n)
    → (n : ℕ) → of_number n new ≡ at_number process (option_map (with_id id) (of_number process old)) (λ m. of_number m old) n
joined_there process id old mid new ids now there left is put n = by (nat_eq process n) refl
  where
    by : (b : Bool) → nat_eq process n ≡ b → of_number n new ≡ cond (nat_eq process n) (option_map (with_id id) (of_number process old)) (of_number n old)
    by true same =
        put n ∙ cond-true (nat_eq process n) (Some now) (of_number n mid) same
        ∙ ap (λ l. Some l) is ∙ ap (option_map (with_id id)) there
        ∙ sym (cond-true (nat_eq process n) (option_map (with_id id) (of_number process old)) (of_number n old) same)
    by false differ =
        put n ∙ cond-false (nat_eq process n) (Some now) (of_number n mid) differ
        ∙ left n ∙ cond-false (nat_eq process n) None (of_number n old) differ
        ∙ sym (cond-false (nat_eq process n) (option_map (with_id id) (of_number process old)) (of_number n old) differ)

-- there was none to take out
pub joined_nowhere : (process : ℕ) (id : List ℕ) (old mid : List (ℕ × List (List ℕ))) → None ≡ of_number process old
    → ((n : ℕ) → of_number n mid ≡ at_number process None (λ m. of_number m old) n)
    → (n : ℕ) → of_number n mid ≡ at_number process (option_map (with_id id) (of_number process old)) (λ m. of_number m old) n
joined_nowhere process id old mid none left n =
    left n ∙ ap (λ found. cond (nat_eq process n) (option_map (with_id id) found) (of_number n old)) none
