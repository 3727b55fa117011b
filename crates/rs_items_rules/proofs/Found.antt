-- Fields that are found by their names behind others.
use Rattle.std.proofs.Common.{◌≡◌, ℕ, ◌+◌, ◌<◌, ◌≤◌, ◌^◌, Bool, true, false, ◌||◌, if◌then◌else◌, List, [], ◌∷◌, ◌++◌, map, length, bytes_eq, Option, None, Some, arith, refl, sym, ap, ◌∙◌}
use Rattle.std.specs.List.{All}
use Rattle.std.specs.Option.{option_and_then}
use Rattle.std.proofs.lemmas.List.{length-append}
use Rattle.std.proofs.lemmas.List.Elements.{All-weaker}
use Rattle.std.proofs.lemmas.Slice.Eq.{bytes_eq-Decides}
use Rattle.cr_base.specs.Layout.{no_front, spot}
use Rattle.cr_base.specs.declared.layout.Front.{Front}
use Rattle.cr_base.specs.declared.layout.Laid.{Laid}
use Rattle.rs_items.specs.Known.{MemberField}
use Rattle.rs_items_sets.specs.Names.{rust_name}
use Rattle.rs_items.specs.Records.{FieldsWalk, put_field}
use Rattle.rs_items_sets.specs.declared.scope.NameScope.TheVariants.{Fields}
use Rattle.rs_items_sets.proofs.FirstFree.{names_first}
use Rattle.rs_items_sets.proofs.Several.{differ_last}
use Rattle.rs_items_rules.specs.LawsRecords.{StandsIn}
use Rattle.rs_mean.specs.Layout.{FieldPlace, behind, field_behind, front_after, piece_of, placed}
use Rattle.rs_text.specs.Names.{is_among}
use Rattle.rs_text.specs.Tree.{FieldTree, Ty}
use Rattle.rs_text.specs.Valid.{all_differ}

abbrev pub names_in : List FieldTree → List (List ℕ)
names_in fields = map (λ (field : FieldTree). field.name) fields

same_name : (name : List ℕ) → bytes_eq name name ≡ true
same_name name = (bytes_eq-Decides name name).1 refl

module _ (layout : Ty → Option Laid) where
  stays_by : (name : List ℕ) (begun : Option Front) (first : FieldTree) (fields more : List FieldTree) (place : FieldPlace)
      → (field_behind layout name (behind (layout first.ty) begun) fields ≡ Some place → field_behind layout name (behind (layout first.ty) begun) more ≡ Some place)
      → (r : Bool) → bytes_eq first.name name ≡ r → field_behind layout name begun (first ∷ fields) ≡ Some place → field_behind layout name begun (first ∷ more) ≡ Some place
  stays_by name begun first fields more place others true test is =
      ap (λ t. if t then option_and_then (λ taken. placed (layout first.ty) taken first) begun else field_behind layout name (behind (layout first.ty) begun) more) test
      ∙ (sym (ap (λ t. if t then option_and_then (λ taken. placed (layout first.ty) taken first) begun else field_behind layout name (behind (layout first.ty) begun) fields) test) ∙ is)
  stays_by name begun first fields more place others false test is =
      ap (λ t. if t then option_and_then (λ taken. placed (layout first.ty) taken first) begun else field_behind layout name (behind (layout first.ty) begun) more) test
      ∙ others (sym (ap (λ t. if t then option_and_then (λ taken. placed (layout first.ty) taken first) begun else field_behind layout name (behind (layout first.ty) begun) fields) test) ∙ is)

  -- what was found is found with more fields behind it
  pub found_stays : (name : List ℕ) (begun : Option Front) (fields : List FieldTree) (last : FieldTree) (place : FieldPlace) → field_behind layout name begun fields ≡ Some place
      → field_behind layout name begun (fields ++ last ∷ []) ≡ Some place
  found_stays name begun [] last place is = cc
  found_stays name begun (first ∷ fields) last place is =
      stays_by name begun first fields (fields ++ last ∷ []) place (found_stays name (behind (layout first.ty) begun) fields last place) (bytes_eq first.name name) refl is

  not_first : (a b : Bool) → (a || b) ≡ false → a ≡ false
  not_first true b e = e
  not_first false b e = refl

  none_of : (a b : Bool) → (a || b) ≡ false → b ≡ false
  none_of true true e = e
  none_of true false e = refl
  none_of false b e = e

  -- a field whose name is none of those in front is found where it stands
  pub found_last : (begun : Option Front) (fields : List FieldTree) (last : FieldTree) (taken : Front) (laid : Laid) → is_among (names_in fields) last.name ≡ false
      → front_after layout begun fields ≡ Some taken → layout last.ty ≡ Some laid
      → field_behind layout last.name begun (fields ++ last ∷ []) ≡ Some (record { ty = last.ty; byte = (spot taken (piece_of laid)).byte })
  found_last begun [] last taken laid free front is =
      ap (λ t. if t then option_and_then (λ before. placed (layout last.ty) before last) begun else None) (same_name last.name)
      ∙ ap (option_and_then (λ before. placed (layout last.ty) before last)) front ∙ ap (λ one. placed one taken last) is
  found_last begun (first ∷ fields) last taken laid free front is =
      ap (λ t. if t then option_and_then (λ before. placed (layout first.ty) before first) begun else field_behind layout last.name (behind (layout first.ty) begun) (fields ++ last ∷ []))
      (not_first (bytes_eq first.name last.name) (is_among (names_in fields) last.name) free)
      ∙ found_last (behind (layout first.ty) begun) fields last taken laid (none_of (bytes_eq first.name last.name) (is_among (names_in fields) last.name) free) front is

names_last : (fields : List FieldTree) (last : FieldTree) → names_in (fields ++ last ∷ []) ≡ names_in fields ++ last.name ∷ []
names_last [] last = refl
names_last (first ∷ fields) last = ap (λ names. first.name ∷ names) (names_last fields last)

-- ---- the walk

-- the names of a walk are those of its fields, and differ
pub record AreNamed (walk : FieldsWalk) (left : ℕ) : Type 0 where
  pub names : names_in walk.fields ≡ walk.names
  pub differ : all_differ walk.names ≡ true
  pub few : length walk.names + left + 3 < 2 ^ 64

pub named_more : (walk : FieldsWalk) (wanted : List ℕ) (given : Ty) (left : ℕ) → AreNamed walk (1 + left) → AreNamed (put_field walk wanted given) left
named_more walk wanted given left named =
    let few = named.few in
    record {
      names = names_last walk.fields (record { name = rust_name walk.names Fields wanted; ty = given }) ∙ ap (λ names. names ++ rust_name walk.names Fields wanted ∷ []) named.names;
      differ = differ_last walk.names (rust_name walk.names Fields wanted) named.differ (names_first.differs walk.names Fields wanted (omega (arith, few)));
      few = omega (arith, few, length-append walk.names (rust_name walk.names Fields wanted ∷ []));
    }

pub named_fewer : (walk : FieldsWalk) (left less : ℕ) → less ≤ left → AreNamed walk left → AreNamed walk less
named_fewer walk left less low named = let few = named.few in record { names = named.names; differ = named.differ; few = omega (arith, few, low) }

pub name_free : (walk : FieldsWalk) (wanted : List ℕ) (left : ℕ) → AreNamed walk left → is_among (names_in walk.fields) (rust_name walk.names Fields wanted) ≡ false
name_free walk wanted left named =
    let few = named.few in
    ap (λ names. is_among names (rust_name walk.names Fields wanted)) named.names ∙ names_first.differs walk.names Fields wanted (omega (arith, few))

module _ (layout : Ty → Option Laid) (is_union : Bool) where
  abbrev pub AllStand : FieldsWalk → Type 0
  AllStand walk = All (StandsIn layout is_union walk.fields) walk.members

  pub still_stand : (fields : List FieldTree) (last : FieldTree) (members : List MemberField) → All (StandsIn layout is_union fields) members
      → All (StandsIn layout is_union (fields ++ last ∷ [])) members
  still_stand fields last members all =
      All-weaker (StandsIn layout is_union fields) (StandsIn layout is_union (fields ++ last ∷ []))
      (λ one. found_stays layout one.name (Some (no_front is_union)) fields last (record { ty = one.ty; byte = one.byte })) members all
