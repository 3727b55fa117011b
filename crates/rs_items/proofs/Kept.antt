-- What is known of a thing after an entry is kept.
use Rattle.std.proofs.Common.{◌≡◌, ℕ, Bool, true, false, cond, if◌then◌else◌, List, [], ◌∷◌, map, Option, Some, None, option_map, nat_eq, ◌==◌, Bor, Result as Answer, Ok, Err, OnOk, OnErr, refl, sym, ap, ◌∙◌}
use Rattle.std.proofs.lemmas.Cmp.{nat_eq_equiv}
use Rattle.std.specs.Option.{option_copied}
use Rattle.std.specs.HashMap.{HashMap, get, get_by}
use Rattle.std.specs.Map.{lookup}
use Rattle.rs_items.specs.Known.{KnownThing, fields_of, known_in, same_named, view_field, view_known}
use Rattle.rs_items.specs.contracts.known.NamedPartialEq.TheImpl.{ghosts}
use Rattle.rs_items.specs.declared.known.Known.{Known}
use Rattle.rs_items.specs.declared.known.MemberField.{MemberField as FieldOfMember}
use Rattle.rs_items.specs.declared.map.NameMap.{NameMap}
use Rattle.rs_items.specs.declared.known.Named.{Named}
use Rattle.rs_items.specs.declared.known.Named.TheVariants.{Object, Function, BareFunction, Record, Enum, Temporary, Result}

module _ {K X : Type 0} (test other : K → Bool) (alike : (key : K) → test key ≡ other key) where
  same_found : (entries : List (K × X)) → lookup test entries ≡ lookup other entries
  same_found [] = refl
  same_found (first ∷ entries) =
      ap (λ t. cond t (Some first.1) (lookup test entries)) (alike first.0) ∙ ap (λ found. cond (other first.0) (Some first.1) found) (same_found entries)

-- the derived test is whether two things are the same
derived : (one other : Named) → ghosts.eq one other ≡ same_named one other
derived (Object one) (Object other) = refl
derived (Object one) (Function other) = refl
derived (Object one) (BareFunction other) = refl
derived (Object one) (Record other) = refl
derived (Object one) (Enum other) = refl
derived (Object one) (Temporary other) = refl
derived (Object one) Result = refl
derived (Function one) (Object other) = refl
derived (Function one) (Function other) = refl
derived (Function one) (BareFunction other) = refl
derived (Function one) (Record other) = refl
derived (Function one) (Enum other) = refl
derived (Function one) (Temporary other) = refl
derived (Function one) Result = refl
derived (BareFunction one) (Object other) = refl
derived (BareFunction one) (Function other) = refl
derived (BareFunction one) (BareFunction other) = refl
derived (BareFunction one) (Record other) = refl
derived (BareFunction one) (Enum other) = refl
derived (BareFunction one) (Temporary other) = refl
derived (BareFunction one) Result = refl
derived (Record one) (Object other) = refl
derived (Record one) (Function other) = refl
derived (Record one) (BareFunction other) = refl
derived (Record one) (Record other) = refl
derived (Record one) (Enum other) = refl
derived (Record one) (Temporary other) = refl
derived (Record one) Result = refl
derived (Enum one) (Object other) = refl
derived (Enum one) (Function other) = refl
derived (Enum one) (BareFunction other) = refl
derived (Enum one) (Record other) = refl
derived (Enum one) (Enum other) = refl
derived (Enum one) (Temporary other) = refl
derived (Enum one) Result = refl
derived (Temporary one) (Object other) = refl
derived (Temporary one) (Function other) = refl
derived (Temporary one) (BareFunction other) = refl
derived (Temporary one) (Record other) = refl
derived (Temporary one) (Enum other) = refl
derived (Temporary one) (Temporary other) = refl
derived (Temporary one) Result = refl
derived Result (Object other) = refl
derived Result (Function other) = refl
derived Result (BareFunction other) = refl
derived Result (Record other) = refl
derived Result (Enum other) = refl
derived Result (Temporary other) = refl
derived Result Result = refl

-- and so it is with the two turned round
turned : (one other : Named) → same_named other one ≡ ghosts.eq one other
turned (Object one) (Object other) = nat_eq_equiv.symm other one
turned (Object one) (Function other) = refl
turned (Object one) (BareFunction other) = refl
turned (Object one) (Record other) = refl
turned (Object one) (Enum other) = refl
turned (Object one) (Temporary other) = refl
turned (Object one) Result = refl
turned (Function one) (Object other) = refl
turned (Function one) (Function other) = nat_eq_equiv.symm other one
turned (Function one) (BareFunction other) = refl
turned (Function one) (Record other) = refl
turned (Function one) (Enum other) = refl
turned (Function one) (Temporary other) = refl
turned (Function one) Result = refl
turned (BareFunction one) (Object other) = refl
turned (BareFunction one) (Function other) = refl
turned (BareFunction one) (BareFunction other) = nat_eq_equiv.symm other one
turned (BareFunction one) (Record other) = refl
turned (BareFunction one) (Enum other) = refl
turned (BareFunction one) (Temporary other) = refl
turned (BareFunction one) Result = refl
turned (Record one) (Object other) = refl
turned (Record one) (Function other) = refl
turned (Record one) (BareFunction other) = refl
turned (Record one) (Record other) = nat_eq_equiv.symm other one
turned (Record one) (Enum other) = refl
turned (Record one) (Temporary other) = refl
turned (Record one) Result = refl
turned (Enum one) (Object other) = refl
turned (Enum one) (Function other) = refl
turned (Enum one) (BareFunction other) = refl
turned (Enum one) (Record other) = refl
turned (Enum one) (Enum other) = nat_eq_equiv.symm other one
turned (Enum one) (Temporary other) = refl
turned (Enum one) Result = refl
turned (Temporary one) (Object other) = refl
turned (Temporary one) (Function other) = refl
turned (Temporary one) (BareFunction other) = refl
turned (Temporary one) (Record other) = refl
turned (Temporary one) (Enum other) = refl
turned (Temporary one) (Temporary other) = nat_eq_equiv.symm other one
turned (Temporary one) Result = refl
turned Result (Object other) = refl
turned Result (Function other) = refl
turned Result (BareFunction other) = refl
turned Result (Record other) = refl
turned Result (Enum other) = refl
turned Result (Temporary other) = refl
turned Result Result = refl

newest_of : {X Y : Type 0} (view : X → Y) (new_test : Bool) (test : Bool) (one : X) (old new : Option X) → test ≡ new_test → new ≡ cond new_test (Some one) old
    → option_map view new ≡ if test then Some (view one) else option_map view old
newest_of view true true one old new same is = ap (option_map view) is
newest_of view false false one old new same is = ap (option_map view) is
newest_of view true false one old new same is = cc
newest_of view false true one old new same is = cc

-- an entry of another thing is as it was, and the new one is the newest of its thing
pub newest : (new_test : Bool) (test : Bool) (one : Known) (old new : Option Known) → test ≡ new_test → new ≡ cond new_test (Some one) old
    → option_map view_known new ≡ if test then Some (view_known one) else option_map view_known old
newest new_test test one old new same is = newest_of view_known new_test test one old new same is

pub named_alike : {S : Type 0} (names : HashMap Named Known S) (one : Named) → get ghosts.eq names one ≡ get_by (same_named one) names
named_alike names one = same_found (ghosts.eq one) (same_named one) (derived one) names.entries

-- what is known of each thing once an entry is put at one
pub kept_one : {S : Type 0} (old new : HashMap Named Known S) (named : Named) (one : Known) (other : Named)
    → get ghosts.eq new other ≡ cond (ghosts.eq named other) (Some one) (get ghosts.eq old other)
    → option_map view_known (get_by (same_named other) new) ≡ if same_named other named then Some (view_known one) else option_map view_known (get_by (same_named other) old)
kept_one old new named one other is =
    newest (ghosts.eq named other) (same_named other named) one (get_by (same_named other) old) (get_by (same_named other) new) (turned named other)
    (sym (named_alike new other) ∙ is ∙ ap (λ found. cond (ghosts.eq named other) (Some one) found) (named_alike old other))

pub kept_temporary : {S : Type 0} (old new : HashMap ℕ Known S) (number : ℕ) (one : Known) (other : ℕ)
    → get nat_eq new other ≡ cond (nat_eq number other) (Some one) (get nat_eq old other)
    → option_map view_known (get_by (λ key. other == key) new) ≡ if other == number then Some (view_known one) else option_map view_known (get_by (λ key. other == key) old)
kept_temporary old new number one other is =
    newest (nat_eq number other) (other == number) one (get_by (λ key. other == key) old) (get_by (λ key. other == key) new) (nat_eq_equiv.symm other number) is

pub kept_fields : {S : Type 0} (old new : HashMap ℕ (List FieldOfMember) S) (number : ℕ) (one : List FieldOfMember) (other : ℕ)
    → get nat_eq new other ≡ cond (nat_eq number other) (Some one) (get nat_eq old other)
    → fields_of new other ≡ if other == number then Some (map view_field one) else fields_of old other
kept_fields old new number one other is =
    newest_of (map view_field) (nat_eq number other) (other == number) one (get_by (λ key. other == key) old) (get_by (λ key. other == key) new)
    (nat_eq_equiv.symm other number) is

-- what a look-up gives is seen through a reference
pub seen : (found : Option (Bor Known)) (of : Option Known) → option_copied found ≡ of → option_map (λ one. view_known one.now) found ≡ option_map view_known of
seen None of is = ap (option_map view_known) is
seen (Some one) of is = ap (option_map view_known) is

-- ---- things that are no temporaries

abbrev pub IsOther : Named → Type 0
IsOther one = (number : ℕ) → one ≡ Temporary number → ⊥

pub known_other : (names : NameMap) (one : Named) → IsOther one → known_in names one ≡ option_map view_known (get_by (same_named one) names.kept)
known_other names (Object number) other = refl
known_other names (Function number) other = refl
known_other names (BareFunction number) other = refl
known_other names (Record number) other = refl
known_other names (Enum number) other = refl
known_other names (Temporary number) other = absurd (other number refl)
known_other names Result other = refl

temporary_apart : (number : ℕ) (named : Named) → IsOther named → same_named (Temporary number) named ≡ false
temporary_apart number (Object one) other = refl
temporary_apart number (Function one) other = refl
temporary_apart number (BareFunction one) other = refl
temporary_apart number (Record one) other = refl
temporary_apart number (Enum one) other = refl
temporary_apart number (Temporary one) other = absurd (other one refl)
temporary_apart number Result other = refl

-- what an entry of such a thing leaves
abbrev pub Puts : NameMap → NameMap → Named → KnownThing → Type 0
Puts old new named entry =
    (other : Named) → option_map view_known (get_by (same_named other) new.kept) ≡ if same_named other named then Some entry else option_map view_known (get_by (same_named other) old.kept)

abbrev pub Leaves : NameMap → NameMap → Type 0
Leaves old new = (other : Named) → option_map view_known (get_by (same_named other) new.kept) ≡ option_map view_known (get_by (same_named other) old.kept)

abbrev told_of : {S : Type 0} → ℕ → HashMap ℕ Known S → Option KnownThing
told_of number held = option_map view_known (get_by (λ key. number == key) held)

pub puts_other : (old new : NameMap) (named : Named) (entry : KnownThing) → IsOther named → new.temporaries ≡ old.temporaries → Puts old new named entry
    → (one : Named) → known_in new one ≡ if same_named one named then Some entry else known_in old one
puts_other old new named entry other same puts (Object number) = puts (Object number)
puts_other old new named entry other same puts (Function number) = puts (Function number)
puts_other old new named entry other same puts (BareFunction number) = puts (BareFunction number)
puts_other old new named entry other same puts (Record number) = puts (Record number)
puts_other old new named entry other same puts (Enum number) = puts (Enum number)
puts_other old new named entry other same puts (Temporary number) =
    ap (told_of number) same
    ∙ sym (ap (λ t. if t then Some entry else known_in old (Temporary number)) (temporary_apart number named other))
puts_other old new named entry other same puts Result = puts Result

pub leaves_other : (old new : NameMap) → new.temporaries ≡ old.temporaries → Leaves old new → (one : Named) → known_in new one ≡ known_in old one
leaves_other old new same leaves (Object number) = leaves (Object number)
leaves_other old new same leaves (Function number) = leaves (Function number)
leaves_other old new same leaves (BareFunction number) = leaves (BareFunction number)
leaves_other old new same leaves (Record number) = leaves (Record number)
leaves_other old new same leaves (Enum number) = leaves (Enum number)
leaves_other old new same leaves (Temporary number) = ap (told_of number) same
leaves_other old new same leaves Result = leaves Result

pub puts_ok : {E : Type 0} (old new : NameMap) (named : Named) (entry : KnownThing) (result : Answer (Unit {0}) E) → IsOther named → new.temporaries ≡ old.temporaries
    → OnOk result (Puts old new named entry) → OnOk result ((one : Named) → known_in new one ≡ if same_named one named then Some entry else known_in old one)
puts_ok old new named entry (Ok done) other same puts = puts_other old new named entry other same puts
puts_ok old new named entry (Err why) other same puts = tt

pub leaves_err : {E : Type 0} (old new : NameMap) (result : Answer (Unit {0}) E) → new.temporaries ≡ old.temporaries
    → OnErr result (Leaves old new) → OnErr result ((one : Named) → known_in new one ≡ known_in old one)
leaves_err old new (Ok done) same leaves = tt
leaves_err old new (Err why) same leaves = leaves_other old new same leaves
