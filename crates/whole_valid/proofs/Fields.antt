-- The fields of a written record are valid (ISO C99, 6.7.2.1; the Rust Reference, "Structs" and "Identifiers").
use Rattle.std.proofs.Common.{arith, ◌≡◌, ◌<◌, ◌≤◌, ℕ, ◌+◌, ◌-◌, ◌*◌, ◌^◌, nat_le, nat_lt, Bool, true, false, if◌then◌else◌, List, [], ◌∷◌, codes, length, length-append, Option, Some, None, IsSome, is_some, refl, sym, ap, subst, ◌∙◌, ◌⊎◌, inl, inr}
use Rattle.std.proofs.lemmas.Bool.{and_from}
use Rattle.std.proofs.lemmas.Bool.Decides.{nat_tests}
use Rattle.cr_base.specs.Layout.{most_bytes}
use Rattle.cr_base.specs.declared.layout.Front.{Front}
use Rattle.cr_base.specs.declared.layout.Laid.{Laid}
use Rattle.cr_base.specs.declared.layout.Spot.{Spot}
use Rattle.cx_core.specs.Trees.{CMember, CRecord}
use Rattle.rs_items.specs.Known.{Knows}
use Rattle.rs_items.specs.Records.{FieldsWalk, PlacedMember, member_name, no_fields, placed_members, put_bytes, put_field, put_member, record_walk, struct_end, struct_step, struct_walk, union_step, union_walk, whole_bytes}
use Rattle.rs_items.specs.Types.{rust_type, type_names}
use Rattle.rs_items_rules.proofs.Places.{placed_fewer}
use Rattle.rs_items_sets.proofs.FirstFree.{names_first}
use Rattle.rs_items_sets.specs.Names.{rust_name}
use Rattle.rs_items_sets.specs.declared.scope.NameScope.TheVariants.{Fields}
use Rattle.rs_mean.specs.Layout.{behind, front_after, laid_with}
use Rattle.rs_text.specs.Names.{is_identifier, is_word}
use Rattle.rs_text.specs.Tree.{Array, FieldTree, Integer, Ty}
use Rattle.rs_text.specs.declared.integer.IntegerTy.TheVariants.{U8}
use Rattle.rs_text.specs.Valid.{is_length, valid_field, valid_ty}
use Rattle.whole_means.proofs.Lists.{Among, among_cases}

-- ---- what is known of each field

-- so many bytes
pub record IsBytes (t : Ty) : Type 0 where
  pub count : ℕ
  pub is : t ≡ Array (Integer U8) count

-- a field has an identifier, and a valid type or so many bytes
pub record FieldIs (field : FieldTree) : Type 0 where
  pub named : is_identifier field.name ≡ true
  pub typed : (valid_ty field.ty ≡ true) ⊎ IsBytes field.ty

-- the fields of a walk, behind which so many more get names
record AreFields (walk : FieldsWalk) (left : ℕ) : Type 0 where
  few : length walk.names + left + 3 < 2 ^ 64
  each : (field : FieldTree) → Among walk.fields field → FieldIs field

fewer : (walk : FieldsWalk) (left less : ℕ) → less ≤ left → AreFields walk left → AreFields walk less
fewer walk left less low are = let few = are.few in record { few = omega (arith, few, low); each = are.each }

one_more : (walk : FieldsWalk) (wanted : List ℕ) (given : Ty) (left : ℕ) → is_word wanted ≡ true → (valid_ty given ≡ true) ⊎ IsBytes given → AreFields walk (1 + left) →
    AreFields (put_field walk wanted given) left
one_more walk wanted given left word typed are =
    let few = are.few in
    record {
      few = omega (arith, few, length-append walk.names (rust_name walk.names Fields wanted ∷ []));
      each = λ field there. by_place field are (among_cases walk.fields (record { name = rust_name walk.names Fields wanted; ty = given } ∷ []) field there);
    }
  where
    by_place : (field : FieldTree) → AreFields walk (1 + left) → Among walk.fields field ⊎ Among (record { name = rust_name walk.names Fields wanted; ty = given } ∷ []) field → FieldIs field
    by_place field are (inl there) = are.each field there
    by_place field are (inr (inl same)) =
        let few = are.few in
        subst (λ (f : FieldTree). FieldIs f) same (record { named = names_first.identifier walk.names Fields wanted (omega (arith, few)) word; typed = typed })
    by_place field are (inr (inr none)) = absurd none

bytes_more : (walk : FieldsWalk) (count left : ℕ) → AreFields walk (1 + left) → AreFields (put_bytes walk count) left
bytes_more walk count left are = by_test (nat_lt 0 count)
  where
    by_test : (t : Bool) → AreFields (if t then put_field walk (codes "bits") (Array (Integer U8) count) else walk) left
    by_test true = one_more walk (codes "bits") (Array (Integer U8) count) left refl (inr (record { count = count; is = refl })) are
    by_test false = fewer walk (1 + left) left (omega arith) are

-- a member that is no bit-field has a name and a valid type
pub record MemberIs (one : PlacedMember) : Type 0 where
  pub named : one.bits ≡ None → is_word (member_name one.name) ≡ true
  pub typed : one.bits ≡ None → valid_ty one.ty ≡ true

member_more : (walk : FieldsWalk) (one : PlacedMember) (left : ℕ) → is_word (member_name one.name) ≡ true → valid_ty one.ty ≡ true → AreFields walk (1 + left) → AreFields (put_member walk one) left
member_more walk one left word typed are =
    let more = one_more walk (member_name one.name) one.ty left word (inl typed) are in record { few = more.few; each = more.each }

end_more : (walk : FieldsWalk) (left : ℕ) → AreFields walk (1 + left) → AreFields (struct_end walk) left
unfolding struct_end
end_more walk left are = bytes_more walk (walk.due - walk.taken) left are

step_more : (walk : FieldsWalk) (one : PlacedMember) (left : ℕ) → MemberIs one → AreFields walk (1 + (1 + left)) → AreFields (struct_step walk one) left
unfolding struct_step
step_more walk one left is are = by_bits one.bits (λ none. is.named none) (λ none. is.typed none)
  where
    by_bits : (width : Option ℕ) → (width ≡ None → is_word (member_name one.name) ≡ true) → (width ≡ None → valid_ty one.ty ≡ true) → AreFields (struct_step walk (record one { bits = width })) left
    by_bits None word typed =
        let last = member_more (struct_end walk) one left (word refl) (typed refl) (end_more walk (1 + left) are) in
        record { few = last.few; each = last.each }
    by_bits (Some width) word typed =
        let less = fewer walk (1 + (1 + left)) left (omega arith) are in
        record { few = less.few; each = less.each }

union_more : (walk : FieldsWalk) (one : PlacedMember) (left : ℕ) → MemberIs one → AreFields walk (1 + left) → AreFields (union_step walk one) left
union_more walk one left is are = by_bits one.bits (λ none. is.named none) (λ none. is.typed none)
  where
    by_bits : (width : Option ℕ) → (width ≡ None → is_word (member_name one.name) ≡ true) → (width ≡ None → valid_ty one.ty ≡ true) → AreFields (union_step walk (record one { bits = width })) left
    by_bits None word typed = member_more walk one left (word refl) (typed refl) are
    by_bits (Some width) word typed = bytes_more walk (whole_bytes width) left are

structs_more : (list : List PlacedMember) (walk : FieldsWalk) → ((one : PlacedMember) → Among list one → MemberIs one) → AreFields walk (2 * length list + 1) → AreFields (struct_walk walk list) 1
structs_more [] walk each are = fewer walk (2 * 0 + 1) 1 (omega arith) are
structs_more (one ∷ list) walk each are =
    structs_more list (struct_step walk one) (λ other there. each other (inr there))
    (step_more walk one (2 * length list + 1) (each one (inl refl)) (fewer walk (2 * length (one ∷ list) + 1) (1 + (1 + (2 * length list + 1))) (omega arith) are))

unions_more : (list : List PlacedMember) (walk : FieldsWalk) → ((one : PlacedMember) → Among list one → MemberIs one) → AreFields walk (2 * length list + 1) → AreFields (union_walk walk list) 1
unions_more [] walk each are = fewer walk (2 * 0 + 1) 1 (omega arith) are
unions_more (one ∷ list) walk each are =
    unions_more list (union_step walk one) (λ other there. each other (inr there))
    (union_more walk one (2 * length list + 1) (each one (inl refl)) (fewer walk (2 * length (one ∷ list) + 1) (1 + (2 * length list + 1)) (omega arith) are))

none_yet : (left : ℕ) → left + 3 < 2 ^ 64 → AreFields no_fields left
none_yet left few = record { few = omega (arith, few); each = λ field there. absurd there }

walk_fields : (is_union : Bool) (list : List PlacedMember) (count : ℕ) → length list ≤ count → 2 * count + 4 < 2 ^ 64 → ((one : PlacedMember) → Among list one → MemberIs one) →
    AreFields (record_walk is_union list) 0
walk_fields true list count low few each =
    fewer (union_walk no_fields list) 1 0 (omega arith) (unions_more list no_fields each (none_yet (2 * length list + 1) (omega (arith, low, few))))
walk_fields false list count low few each =
    end_more (struct_walk no_fields list) 0 (structs_more list no_fields each (none_yet (2 * length list + 1) (omega (arith, low, few))))

-- ---- members

-- a member of C
pub record MemberFits (known : Knows) (one : CMember) : Type 0 where
  pub named : one.bits ≡ None → is_word (member_name one.name) ≡ true
  pub typed : valid_ty (rust_type (type_names known) one.type) ≡ true

placed_are : (known : Knows) (members : List CMember) (spots : List Spot) → ((one : CMember) → Among members one → MemberFits known one) → (one : PlacedMember) →
    Among (placed_members known members spots) one → MemberIs one
placed_are known [] spots each one there = absurd there
placed_are known (first ∷ members) [] each one there = absurd there
placed_are known (first ∷ members) (spot ∷ spots) each one (inl same) =
    let fits = each first (inl refl) in
    subst (λ (p : PlacedMember). MemberIs p) same (record { named = fits.named; typed = λ none. fits.typed })
placed_are known (first ∷ members) (spot ∷ spots) each one (inr there) = placed_are known members spots (λ other among. each other (inr among)) one there

pub fields_are : (known : Knows) (one : CRecord) (spots : List Spot) → 2 * length one.members + 4 < 2 ^ 64 → ((member : CMember) → Among one.members member → MemberFits known member) →
    (field : FieldTree) → Among (record_walk one.is_union (placed_members known one.members spots)).fields field → FieldIs field
fields_are known one spots few each field there =
    let are = walk_fields one.is_union (placed_members known one.members spots) (length one.members) (placed_fewer known one.members spots) few (placed_are known one.members spots each) in
    are.each field there

-- ---- fields of a record that is laid out

module _ (records : List ℕ → List ℕ → Option Laid) where
  stays_none : (fields : List FieldTree) → front_after (laid_with records) None fields ≡ None
  stays_none [] = refl
  stays_none (first ∷ fields) = ap (λ (front : Option Front). front_after (laid_with records) front fields) (behind_none (laid_with records first.ty)) ∙ stays_none fields
    where
      behind_none : (laid : Option Laid) → behind laid None ≡ None
      behind_none None = refl
      behind_none (Some one) = refl

  -- each field of a record that is laid out is laid out
  pub field_laid : (fields : List FieldTree) (front : Option Front) (field : FieldTree) → IsSome (front_after (laid_with records) front fields) → Among fields field →
      IsSome (laid_with records field.ty)
  field_laid [] front field some there = absurd there
  field_laid (first ∷ fields) front field some (inl same) = subst (λ (f : FieldTree). IsSome (laid_with records f.ty)) same (by_laid (laid_with records first.ty) some)
    where
      by_laid : (laid : Option Laid) → IsSome (front_after (laid_with records) (behind laid front) fields) → IsSome laid
      by_laid None is = absurd (let h : false ≡ true = sym (ap is_some (stays_none fields)) ∙ is in cc)
      by_laid (Some one) is = refl
  field_laid (first ∷ fields) front field some (inr there) = field_laid fields (behind (laid_with records first.ty) front) field some there

  bytes_short : (count : ℕ) → IsSome (laid_with records (Array (Integer U8) count)) → count ≤ most_bytes
  bytes_short count some = by_tests (nat_le 1 count) (nat_le (count * 1) most_bytes) refl some
    where
      by_tests : (one other : Bool) → nat_le (count * 1) most_bytes ≡ other →
          IsSome {T = Laid} (if one then (if other then Some (record { size = count * 1; align = 1 }) else None) else None) → count ≤ most_bytes
      by_tests true true e is = grind (arith, nat_tests, e)
      by_tests true false e is = absurd cc
      by_tests false other e is = absurd cc

  length_short : (count : ℕ) → count ≤ most_bytes → nat_lt count (2 ^ 64) ≡ true
  length_short count low = grind (arith, nat_tests, low)

  type_valid : (t : Ty) → (valid_ty t ≡ true) ⊎ IsBytes t → IsSome (laid_with records t) → valid_ty t ≡ true
  type_valid t (inl valid) some = valid
  type_valid t (inr bytes) some =
      ap valid_ty bytes.is
      ∙ and_from true (is_length bytes.count) refl (length_short bytes.count (bytes_short bytes.count (subst (λ (u : Ty). IsSome (laid_with records u)) bytes.is some)))

  pub field_valid : (field : FieldTree) → FieldIs field → IsSome (laid_with records field.ty) → valid_field field ≡ true
  field_valid field is some = and_from (is_identifier field.name) (valid_ty field.ty) is.named (type_valid field.ty is.typed some)
