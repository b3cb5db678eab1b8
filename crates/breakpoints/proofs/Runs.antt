-- The list stays orderly, and a channel that has gone owns nothing.
use Rattle.std.proofs.Common.{◌≡◌, ◌≢◌, ℕ, ◌+◌, ◌≤◌, nat_eq, Bool, true, false, cond, not, List, [], ◌∷◌, ◌++◌, length, map, filter, refl, sym, ap, subst, ◌∙◌, arith, length-append}
use Rattle.std.specs.Prelude.{bytes_eq}
use Rattle.std.specs.List.{AllByRecursion, IsDistinct}
use Rattle.std.proofs.lemmas.Bool.{ltb-false, ne_eqb, or_parts}
use Rattle.std.proofs.lemmas.List.{length-map, map-append}
use Rattle.tcf_values.specs.declared.command.Command.{Command}
use Rattle.tcf_values.specs.declared.command.Command.TheVariants.{BpSet, BpAdd, BpChange, BpEnable, BpDisable, BpRemove}
use Rattle.tcf_values.specs.declared.values.BpProps.{BpProps}
use Rattle.breakpoints.specs.Changes.{after, clashes, has_no_place, has_twice, is_switched, lacks, row_with_flag, row_with_props, with_flag}
use Rattle.breakpoints.specs.Counting.{counted, forgotten, row_tested, row_without}
use Rattle.breakpoints.specs.Counts.{AreCounts, raised}
use Rattle.breakpoints.specs.Laws.{GoneOwnsNothing, IsSilent, StaysOrderly, Step, command, forgetting, going, list_after, list_after_all, testing}
use Rattle.breakpoints.specs.Rows.{IsOrderly, ids_of, is_among, others, owned_by, rows_for, unnamed}
use Rattle.breakpoints.specs.Status.{is_hit}
use Rattle.breakpoints.proofs.Counting.{orderly_counted, without_keeps}
use Rattle.breakpoints.proofs.Filtered.{orderly_filter}
use Rattle.breakpoints.proofs.Fresh.{eq_sym, fresh_counts, ids-rows_for, there_among}
use Rattle.breakpoints.proofs.Written.{flag_keeps, orderly_map, props_keeps}
use Rattle.list_laws.proofs.AllLists.{all_append}
use Rattle.list_laws.proofs.Flags.{not_true}
use Rattle.breakpoints.specs.Placed.{Placed, row_for}

-- ---- new breakpoints that have a place

-- what isn't among the IDs is apart from each
apart_of : (id : List ℕ) (ids : List (List ℕ)) → is_among ids id ≡ false → AllByRecursion (λ other. bytes_eq id other ≡ false) ids
apart_of id [] none = tt
apart_of id (other ∷ ids) none = let parts = or_parts _ _ none in (parts.0, apart_of id ids parts.1)

once_differ : (ids : List (List ℕ)) → has_twice ids ≡ false → IsDistinct bytes_eq ids
unfolding IsDistinct
once_differ [] once = tt
once_differ (id ∷ ids) once = let parts = or_parts _ _ once in (apart_of id ids parts.0, once_differ ids parts.1)

-- none of these IDs is among those
abbrev NoneAmong : List (List ℕ) → List (List ℕ) → Type 0
NoneAmong new ids = AllByRecursion (λ id. is_among ids id ≡ false) new

heads_apart : (id : List ℕ) (ids new : List (List ℕ)) → NoneAmong new (id ∷ ids) → AllByRecursion (λ other. bytes_eq id other ≡ false) new
heads_apart id ids [] none = tt
heads_apart id ids (n ∷ new) none = (eq_sym id n ∙ (or_parts _ _ none.0).0, heads_apart id ids new none.1)

tails_apart : (id : List ℕ) (ids new : List (List ℕ)) → NoneAmong new (id ∷ ids) → NoneAmong new ids
tails_apart id ids [] none = tt
tails_apart id ids (n ∷ new) none = ((or_parts _ _ none.0).1, tails_apart id ids new none.1)

differ_append : (ids new : List (List ℕ)) → IsDistinct bytes_eq ids → IsDistinct bytes_eq new → NoneAmong new ids → IsDistinct bytes_eq (ids ++ new)
unfolding IsDistinct
differ_append [] new differ fresh none = fresh
differ_append (id ∷ ids) new differ fresh none = (
  all_append (λ other. bytes_eq id other ≡ false) ids new differ.0 (heads_apart id ids new none),
  differ_append ids new differ.1 fresh (tails_apart id ids new none),
)

none_clashes : (list : List BpProps) (rows : List Placed) → clashes list rows ≡ false → NoneAmong (map (λ (p : BpProps). p.id) list) (ids_of rows)
none_clashes [] rows none = tt
none_clashes (props ∷ list) rows none =
    let parts = or_parts _ _ none in (sym (there_among props.id rows) ∙ parts.0, none_clashes list rows parts.1)

orderly_append : (channel : ℕ) (list : List BpProps) (rows : List Placed) → IsOrderly rows → has_no_place list rows ≡ false → IsOrderly (rows ++ rows_for channel list)
orderly_append channel list rows orderly place =
    let most = or_parts _ _ place in
    let parts = or_parts _ _ most.0 in
    let few : length rows + length list ≤ 256 = ltb-false 256 (length rows + length list) most.1 in
    let count : length (rows_for channel list) ≡ length list = length-map list (row_for channel) in
    let ids : ids_of (rows ++ rows_for channel list) ≡ ids_of rows ++ map (λ (p : BpProps). p.id) list =
    map-append (λ (row : Placed). row.props.id) rows (rows_for channel list) ∙ ap (λ new. ids_of rows ++ new) (ids-rows_for channel list) in
    record {
      differ = subst (IsDistinct bytes_eq) (sym ids) (differ_append (ids_of rows) (map (λ (p : BpProps). p.id) list) orderly.differ (once_differ _ parts.1) (none_clashes list rows parts.0));
      few = omega (arith, length-append rows (rows_for channel list));
      counted = all_append (λ row. AreCounts row.counts) rows (rows_for channel list) orderly.counted (fresh_counts channel list);
    }

-- ---- a command, and a run

by_test : (P : List Placed → Type 0) (b : Bool) (rows new : List Placed) → P rows → (b ≡ false → P new) → P (cond b rows new)
by_test P true rows new old next = old
by_test P false rows new old next = next refl

orderly_after : (channel : ℕ) (c : Command) (rows : List Placed) → IsOrderly rows → IsOrderly (after channel c rows)
orderly_after channel (BpSet list) rows orderly =
    by_test IsOrderly (has_no_place list (others channel rows)) rows _ orderly (λ place. orderly_append channel list (others channel rows) (orderly_filter _ rows orderly) place)
orderly_after channel (BpAdd props) rows orderly =
    by_test IsOrderly (has_no_place (props ∷ []) rows) rows _ orderly (λ place. orderly_append channel (props ∷ []) rows orderly place)
orderly_after channel (BpChange props) rows orderly =
    by_test IsOrderly _ rows _ orderly (λ _. orderly_map (row_with_props props) (props_keeps props) rows orderly)
orderly_after channel (BpEnable ids) rows orderly =
    by_test IsOrderly _ rows _ orderly (λ _. orderly_map (row_with_flag true ids) (flag_keeps true ids) rows orderly)
orderly_after channel (BpDisable ids) rows orderly =
    by_test IsOrderly _ rows _ orderly (λ _. orderly_map (row_with_flag false ids) (flag_keeps false ids) rows orderly)
orderly_after channel (BpRemove ids) rows orderly =
    by_test IsOrderly (lacks ids rows) rows (unnamed ids rows) orderly (λ _. orderly_filter (λ row. not (is_among ids row.props.id)) rows orderly)
orderly_after channel _ rows orderly = orderly

pub orderly_step : (step : Step) (rows : List Placed) → IsOrderly rows → IsOrderly (list_after step rows)
orderly_step (command channel c) rows orderly = orderly_after channel c rows orderly
orderly_step (going channel) rows orderly = orderly_filter _ rows orderly
orderly_step (testing process attached pc) rows orderly = orderly_counted process attached pc rows orderly
orderly_step (forgetting process) rows orderly = orderly_map (row_without process) (without_keeps process) rows orderly

orderly_run : (steps : List Step) (rows : List Placed) → IsOrderly rows → IsOrderly (list_after_all steps rows)
orderly_run [] rows orderly = orderly
orderly_run (step ∷ steps) rows orderly = orderly_run steps (list_after step rows) (orderly_step step rows orderly)

orderly_none : IsOrderly []
unfolding IsDistinct
orderly_none = record { differ = tt; few = omega arith; counted = tt }

pub stays_orderly : StaysOrderly
stays_orderly steps = orderly_run steps [] orderly_none

-- ---- a channel that owns nothing

abbrev OwnsNone : ℕ → List Placed → Type 0
OwnsNone channel rows = AllByRecursion (λ row. nat_eq row.channel channel ≡ false) rows

none_owned : (channel : ℕ) (rows : List Placed) → OwnsNone channel rows → owned_by channel rows ≡ []
none_owned channel [] none = refl
none_owned channel (row ∷ rows) none = ap (λ b. cond b (row ∷ owned_by channel rows) (owned_by channel rows)) none.0 ∙ none_owned channel rows none.1

none_by : (channel : ℕ) (row : Placed) (rows : List Placed) (b : Bool) → (b ≡ true → nat_eq row.channel channel ≡ false) → OwnsNone channel rows → OwnsNone channel (cond b (row ∷ rows) rows)
none_by channel row rows true here none = (here refl, none)
none_by channel row rows false here none = none

none_of_others : (channel : ℕ) (rows : List Placed) → OwnsNone channel (others channel rows)
none_of_others channel [] = tt
none_of_others channel (row ∷ rows) =
    none_by channel row (others channel rows) (not (nat_eq row.channel channel)) (not_true (nat_eq row.channel channel)) (none_of_others channel rows)

none_filter : (channel : ℕ) (p : Placed → Bool) (rows : List Placed) → OwnsNone channel rows → OwnsNone channel (filter p rows)
none_filter channel p [] none = tt
none_filter channel p (row ∷ rows) none = none_by channel row (filter p rows) (p row) (λ _. none.0) (none_filter channel p rows none.1)

none_append : (channel : ℕ) (rows new : List Placed) → OwnsNone channel rows → OwnsNone channel new → OwnsNone channel (rows ++ new)
none_append channel [] new none fresh = fresh
none_append channel (row ∷ rows) new none fresh = (none.0, none_append channel rows new none.1 fresh)

none_for : (channel other : ℕ) (list : List BpProps) → other ≢ channel → OwnsNone channel (rows_for other list)
none_for channel other [] differ = tt
none_for channel other (props ∷ list) differ = (ne_eqb other channel differ, none_for channel other list differ)

-- the change leaves owners as they are
abbrev KeepsOwners : (Placed → Placed) → Type 0
KeepsOwners change = (row : Placed) → (change row).channel ≡ row.channel

none_map : (channel : ℕ) (change : Placed → Placed) → KeepsOwners change → (rows : List Placed) → OwnsNone channel rows → OwnsNone channel (map change rows)
none_map channel change keeps [] none = tt
none_map channel change keeps (row ∷ rows) none = (ap (λ owner. nat_eq owner channel) (keeps row) ∙ none.0, none_map channel change keeps rows none.1)

owner_by : (b : Bool) (row : Placed) (props : BpProps) (counts : List (ℕ × ℕ)) → (cond b (record row { props = props; counts = counts }) row).channel ≡ row.channel
owner_by true row props counts = refl
owner_by false row props counts = refl

none_after : (channel other : ℕ) (c : Command) (rows : List Placed) → other ≢ channel → OwnsNone channel rows → OwnsNone channel (after other c rows)
none_after channel other (BpSet list) rows differ none =
    by_test (OwnsNone channel) _ rows _ none (λ _. none_append channel (others other rows) (rows_for other list) (none_filter channel _ rows none) (none_for channel other list differ))
none_after channel other (BpAdd props) rows differ none =
    by_test (OwnsNone channel) _ rows _ none (λ _. none_append channel rows (row_for other props ∷ []) none (none_for channel other (props ∷ []) differ))
none_after channel other (BpChange props) rows differ none =
    by_test (OwnsNone channel) _ rows _ none (λ _. none_map channel (row_with_props props) (λ row. owner_by (bytes_eq props.id row.props.id) row props []) rows none)
none_after channel other (BpEnable ids) rows differ none =
    by_test (OwnsNone channel) _ rows _ none (λ _. none_map channel (row_with_flag true ids) (λ row. owner_by (is_switched true ids row) row (with_flag true row.props) []) rows none)
none_after channel other (BpDisable ids) rows differ none =
    by_test (OwnsNone channel) _ rows _ none (λ _. none_map channel (row_with_flag false ids) (λ row. owner_by (is_switched false ids row) row (with_flag false row.props) []) rows none)
none_after channel other (BpRemove ids) rows differ none =
    by_test (OwnsNone channel) (lacks ids rows) rows (unnamed ids rows) none (λ _. none_filter channel (λ row. not (is_among ids row.props.id)) rows none)
none_after channel other _ rows differ none = none

none_counted : (channel process : ℕ) (attached : Bool) (pc : ℕ) (rows : List Placed) → OwnsNone channel rows → OwnsNone channel (counted process attached pc rows)
none_counted channel process true pc rows none =
    none_map channel (row_tested process pc) (λ row. owner_by (is_hit process pc row.props) row row.props (raised process row.counts)) rows none
none_counted channel process false pc rows none = none

none_run : (channel : ℕ) (steps : List Step) (rows : List Placed) → IsSilent channel steps → OwnsNone channel rows → OwnsNone channel (list_after_all steps rows)
none_run channel [] rows silent none = none
none_run channel (command other c ∷ steps) rows silent none = none_run channel steps (after other c rows) silent.1 (none_after channel other c rows silent.0 none)
none_run channel (going other ∷ steps) rows silent none = none_run channel steps (others other rows) silent (none_filter channel _ rows none)
none_run channel (testing process attached pc ∷ steps) rows silent none =
    none_run channel steps (counted process attached pc rows) silent (none_counted channel process attached pc rows none)
none_run channel (forgetting process ∷ steps) rows silent none =
    none_run channel steps (forgotten process rows) silent (none_map channel (row_without process) (λ row. refl) rows none)

pub gone_owns_nothing : GoneOwnsNothing
gone_owns_nothing channel rows steps silent =
    none_owned channel (list_after_all steps (others channel rows)) (none_run channel steps (others channel rows) silent (none_of_others channel rows))
