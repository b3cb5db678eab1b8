-- A status is within the limits of what is read: the address of a breakpoint's instance lies below 65,536.
use Rattle.std.proofs.Common.{◌≡◌, ℕ, ◌<◌, ◌^◌, Bool, true, ◌&&◌, List, Option, Some, None, drop, refl, arith}
use Rattle.std.proofs.lemmas.Bool.{and_parts, cond_both, ltb-true}
use Rattle.std.specs.List.{AllByRecursion}
use Rattle.std.specs.Str.Parse.{digits_value}
use Rattle.breakpoints.specs.Address.{address_in, is_address, is_numeral, is_prefixed}
use Rattle.breakpoints.specs.Counts.{AreCounts, count_of}
use Rattle.breakpoints.specs.Status.{count_at, instance_of, instances_of, place_at, place_of}
use Rattle.json_values.specs.Statuses.{IsCount, IsInstance, IsPlace}
use Rattle.tcf_values.specs.declared.values.BpProps.{BpProps}
use Rattle.tcf_values.specs.declared.values.Place.{Place}
use Rattle.tcf_values.specs.declared.values.Place.TheVariants.{Address, Error}
use Rattle.breakpoints.proofs.Raising.{count_small}
use Rattle.list_laws.proofs.AllLists.{all_map}

below : (numeral : Bool) (n : ℕ) → (numeral && is_address n) ≡ true → n < 2 ^ 32
below numeral n both =
    let small : n < 65536 = ltb-true n 65536 (and_parts _ _ (and_parts numeral _ both).1).0 in
    omega arith

in_small : (radix : ℕ) (digits : List ℕ) → IsPlace (place_at (address_in radix digits))
in_small radix digits =
    let n = digits_value radix digits in
    let numeral = is_numeral radix digits in
    cond_both (numeral && is_address n) (Some n) None (λ (address : Option ℕ). IsPlace (place_at address)) (λ is. below numeral n is) (λ isnt. tt)

place_fits : (location : Option (List ℕ)) → IsPlace (place_of location)
place_fits None = tt
place_fits (Some text) =
    cond_both (is_prefixed text) (address_in 16 (drop 2 text)) (address_in 10 text) (λ (address : Option ℕ). IsPlace (place_at address))
    (λ is. in_small 16 (drop 2 text)) (λ isnt. in_small 10 text)

count_fits : (place : Place) (count : ℕ) → count < 2 ^ 32 → IsCount place (count_at place count)
count_fits (Address address) count small = small
count_fits (Error error) count small = refl

instance_fits : (props : BpProps) (counts : List (ℕ × ℕ)) (number : ℕ) → AreCounts counts → IsInstance (instance_of props counts number)
instance_fits props counts number are =
    (place_fits props.location, count_fits (place_of props.location) (count_of number counts) (count_small number counts are))

pub instances_fit : (props : BpProps) (counts : List (ℕ × ℕ)) (attached : List ℕ) → AreCounts counts → AllByRecursion IsInstance (instances_of props counts attached)
instances_fit props counts attached are =
    cond_both props.enabled _ _ (AllByRecursion IsInstance) (λ is. all_map IsInstance (instance_of props counts) _ (λ number. instance_fits props counts number are)) (λ isnt. tt)
