-- The walk over structures and unions without members (ISO C99, 6.7.2.3).
use Rattle.std.proofs.Common.{◌≡◌, ℕ, zero, suc, Bool, true, false, not, ◌&&◌, if◌then◌else◌, List, [], ◌∷◌, ◌++◌, length, take, Option, None, Some, bytes_eq, slice_get, refl, subst, arith}
use Rattle.std.proofs.lemmas.Slice.Eq.{bytes_eq-Decides}
use Rattle.cx_core.specs.Trees.{CTypes}
use Rattle.cx_rules.specs.Pieces.{seen_tag, with_used}
use Rattle.cx_rules.specs.Scope.{CMeant, an_object, a_function, a_type_name, an_enumerator, a_tag, CDeclared, CTag, CScope, is_ordinary, tag, tag_of, with_record}
use Rattle.cx_typed.proofs.Records.{more_grows, more_sound}
use Rattle.cx_typed.proofs.Numbered.{numbers_by}
use Rattle.cx_typed.proofs.Scopes.{pushed_at, stays_itself}
use Rattle.cx_typed.proofs.Walked.{known_stays}
use Rattle.cx_typed.specs.Growth.{Grows}
use Rattle.cx_typed.specs.Names.{IsKnownMeant, IsTagged, IsKnownTag}
use Rattle.cx_typed.specs.Scopes.{Passes}
use Rattle.cx_typed.specs.Walked.{IsGood}

-- ---- what is declared stays known

module _ (opens : List ℕ) (before after : CTypes) (grows : Grows opens before after) (unit : ℕ) where
  pub meant_stays : (meant : CMeant) → IsKnownMeant opens before unit meant → IsKnownMeant opens after unit meant
  meant_stays (an_object number type is_register linkage) held = (known_stays opens before after grows unit type held.0, held.1)
  meant_stays (a_function number type linkage) held = (known_stays opens before after grows unit type held.0, held.1)
  meant_stays (a_type_name type) held = known_stays opens before after grows unit type held
  meant_stays (an_enumerator value) held = held
  meant_stays (a_tag is_record goes_on number) held = tt

  pub tagged_stays : (name : List ℕ) (number : ℕ) → IsTagged before name number → IsTagged after name number
  tagged_stays name number held = record { is_union = held.is_union; tag_is = grows.tags number _ held.tag_is }

  tag_by : (name : List ℕ) (is_record goes_on : Bool) (number : ℕ) → IsKnownTag opens before unit name (record { is_record = is_record; is_open = goes_on; number = number })
      → IsKnownTag opens after unit name (record { is_record = is_record; is_open = goes_on; number = number })
  tag_by name true goes_on number held = (grows.record_units number unit held.0, tagged_stays name number held.1)
  tag_by name false goes_on number held = (grows.enum_units number unit held.0, held.1)

  pub tag_stays : (name : List ℕ) (one : CTag) → IsKnownTag opens before unit name one → IsKnownTag opens after unit name one
  tag_stays name one held = tag_by name one.is_record one.is_open one.number held

-- ---- tags

tag_front : (name : List ℕ) (one : CTag) (found : Option CTag) (few many : Option CTag) → (few ≡ Some one → many ≡ Some one) → (test : Bool) → (if test then found else few) ≡ Some one
    → (if test then found else many) ≡ Some one
tag_front name one found few many later true is = is
tag_front name one found few many later false is = later is

-- the tag of a scope is that of the scopes around it, too
pub tag_inner : (name : List ℕ) (one : CTag) (count : ℕ) (declared : List CDeclared) → tag name (take count declared) ≡ Some one → tag name declared ≡ Some one
tag_inner name one zero declared is = absurd cc
tag_inner name one (suc n) [] is = absurd cc
tag_inner name one (suc n) (first ∷ declared) is =
    tag_front name one (tag_of first.meant) (tag name (take n declared)) (tag name declared) (tag_inner name one n declared) (not (is_ordinary first.meant) && bytes_eq first.name name) is

-- what is found under a name
abbrev pub IsTagOf : List ℕ → CTypes → ℕ → Option (List ℕ) → CTag → Type 0
IsTagOf opens types unit None one = ⊥
IsTagOf opens types unit (Some name) one = IsKnownTag opens types unit name one

pub seen_known : (opens : List ℕ) (scope : CScope) → IsGood opens scope → (alone : Bool) (name : Option (List ℕ)) (one : CTag) → seen_tag alone name scope ≡ Some one
    → IsTagOf opens scope.types scope.unit name one
seen_known opens scope good true None one is = absurd cc
seen_known opens scope good false None one is = absurd cc
seen_known opens scope good true (Some name) one is = good.tags name one (tag_inner name one _ scope.declared is)
seen_known opens scope good false (Some name) one is = good.tags name one is

-- ---- a structure or union that comes into being

module _ (opens : List ℕ) (scope : CScope) (good : IsGood opens scope) (is_union : Bool) where
  pub there : (name : Option (List ℕ)) → slice_get (with_record name is_union scope).types.record_units (length scope.types.records) ≡ Some scope.unit
  there name =
      subst (λ n. slice_get (scope.types.record_units ++ scope.unit ∷ []) n ≡ Some scope.unit) good.sound.types_are.record_units (pushed_at scope.types.record_units scope.unit)

  without_tag : (name : Option (List ℕ)) → IsGood opens (with_record name is_union scope)
  without_tag name =
      let grows = more_grows opens scope name is_union good.sound in
      record {
        sound = more_sound opens scope name is_union good.sound;
        known = λ other meant is. meant_stays opens scope.types _ grows scope.unit meant (good.known other meant is);
        tags = λ other one is. tag_stays opens scope.types _ grows scope.unit other one (good.tags other one is);
      }

  tagged_there : (name : List ℕ) → IsTagged (with_record (Some name) is_union scope).types name (length scope.types.records)
  tagged_there name = record {
    is_union = is_union;
    tag_is = subst (λ n. slice_get (with_record (Some name) is_union scope).types.record_tags n ≡ Some (record { tag = Some name; is_union = is_union })) good.sound.types_are.tags
        (pushed_at scope.types.record_tags (record { tag = Some name; is_union = is_union }));
  }

  new_tag : (name other : List ℕ) (one : CTag) (test : Bool) → (test ≡ true → name ≡ other)
      → (if test then Some (record { is_record = true; is_open = false; number = length scope.types.records }) else tag other scope.declared) ≡ Some one
      → IsKnownTag opens (with_record (Some name) is_union scope).types scope.unit other one
  new_tag name other one true same is =
      let e : record { is_record = true; is_open = false; number = length scope.types.records } ≡ one = cc in
      subst (IsKnownTag opens (with_record (Some name) is_union scope).types scope.unit other) e
      (there (Some name), subst (λ n. IsTagged (with_record (Some name) is_union scope).types n (length scope.types.records)) (same refl) (tagged_there name))
  new_tag name other one false same is = (without_tag (Some name)).tags other one is

  pub used_good : (name : Option (List ℕ)) (found : Option CTag) → IsGood opens (with_used found name is_union scope)
  used_good name (Some one) = good
  used_good None None = without_tag None
  used_good (Some name) None = record {
    sound = (without_tag (Some name)).sound;
    known = (without_tag (Some name)).known;
    tags = λ other one is. new_tag name other one (bytes_eq name other) (λ is. (bytes_eq-Decides name other).0 is) is;
  }

  pub used_passes : (name : Option (List ℕ)) (found : Option CTag) → Passes opens scope (with_used found name is_union scope)
  used_passes name (Some one) = stays_itself opens scope
  used_passes None None = record {
    unit_is = refl;
    grows = more_grows opens scope None is_union good.sound;
    declared = λ other meant thing is. is;
    mentions = λ number x is. is;
    literals = λ number x is. is;
    begins_is = refl;
    rest_is = refl;
    numbers = numbers_by scope (with_used None None is_union scope) (omega arith) refl;
    front = [];
    declared_is = refl;
  }
  used_passes (Some name) None = record {
    unit_is = refl;
    grows = more_grows opens scope (Some name) is_union good.sound;
    declared = λ other meant thing is. is;
    mentions = λ number x is. is;
    literals = λ number x is. is;
    begins_is = refl;
    rest_is = refl;
    numbers = numbers_by scope (with_used None (Some name) is_union scope) (omega arith) refl;
    front = record { name = name; meant = a_tag true false (length scope.types.records) } ∷ [];
    declared_is = refl;
  }

  pub used_makes_none : (name : Option (List ℕ)) (found : Option CTag) → (with_used found name is_union scope).literals ≡ scope.literals
  used_makes_none name (Some one) = refl
  used_makes_none None None = refl
  used_makes_none (Some name) None = refl
