-- The fields of members stand where the members stand.
use Rattle.std.proofs.Common.{◌≡◌, ℕ, ◌+◌, ◌-◌, ◌*◌, ◌/◌, ◌≤◌, ◌<◌, ◌^◌, Bool, true, false, nat_lt, if◌then◌else◌, codes, List, [], ◌∷◌, ◌++◌, map, length, Option, None, Some, is_some, max, arith, refl, ap, ◌∙◌}
use Rattle.std.proofs.lemmas.List.Elements.{All-nil, All-push}
use Rattle.cr_base.specs.declared.layout.Front.{Front}
use Rattle.cr_base.specs.declared.layout.Laid.{Laid}
use Rattle.cr_base.specs.declared.layout.Piece.{Piece}
use Rattle.cr_base.specs.declared.layout.Piece.TheVariants.{Plain, Bits}
use Rattle.cr_base.specs.declared.layout.Spot.{Spot}
use Rattle.cr_base.specs.Layout.{after, after_all, most_bytes, no_front, spot, spots_behind, spots_of}
use Rattle.cx_core.specs.Trees.{CMember, CTy}
use Rattle.rs_items.specs.Known.{Knows, MemberField}
use Rattle.rs_items_sets.specs.Names.{rust_name}
use Rattle.rs_items.specs.Records.{FieldsWalk, PlacedMember, member_name, no_fields, placed_member, placed_members, put_bytes, put_field, put_member, record_walk, struct_end, struct_step, struct_walk, union_step, union_walk, whole_bytes}
use Rattle.rs_items_sets.specs.declared.scope.NameScope.TheVariants.{Fields}
use Rattle.rs_items_rules.proofs.Found.{AllStand, AreNamed, found_last, name_free, named_fewer, named_more, still_stand}
use Rattle.rs_items_rules.proofs.Parts.{Parts, front, member}
use Rattle.rs_items_rules.proofs.Parts.Parts.{no_part, plain_part, bits_part}
use Rattle.rs_items_rules.proofs.Rounds.{same_up, whole_high, whole_low}
use Rattle.rs_items_rules.proofs.Structs.{StandsAt, begun, bits_step, end_takes, later, plain_step, plain_within}
use Rattle.rs_items_rules.proofs.Unions as unions
use Rattle.rs_items_rules.proofs.Unions.{UnionTakes}
use Rattle.rs_items_rules.specs.Agree.{Agrees, Records}
use Rattle.rs_items_rules.specs.LawsRecords.{StandsIn, place_of, plain_places}
use Rattle.rs_mean.specs.Layout.{FieldPlace, front_after, laid_with, piece_of}
use Rattle.rs_text.specs.Tree.{Array, FieldTree, Integer}
use Rattle.rs_text.specs.declared.integer.IntegerTy.TheVariants.{U8}

-- ---- names

pub bytes_named : (walk : FieldsWalk) (count left : ℕ) → AreNamed walk (1 + left) → AreNamed (put_bytes walk count) left
bytes_named walk count left named = by_test (nat_lt 0 count)
  where
    by_test : (r : Bool) → AreNamed (if r then put_field walk (codes "bits") (Array (Integer U8) count) else walk) left
    by_test true = named_more walk (codes "bits") (Array (Integer U8) count) left named
    by_test false = named_fewer walk (1 + left) left (omega arith) named

member_named : (walk : FieldsWalk) (one : PlacedMember) (left : ℕ) → AreNamed walk (1 + left) → AreNamed (put_member walk one) left
member_named walk one left named =
    let more = named_more walk (member_name one.name) one.ty left named in
    record { names = more.names; differ = more.differ; few = more.few }

pub end_named : (walk : FieldsWalk) (left : ℕ) → AreNamed walk (1 + left) → AreNamed (struct_end walk) left
unfolding struct_end
end_named walk left named = bytes_named walk (walk.due - walk.taken) left named

pub step_named : (walk : FieldsWalk) (one : PlacedMember) (left : ℕ) → AreNamed walk (1 + (1 + left)) → AreNamed (struct_step walk one) left
unfolding struct_step
step_named walk one left named = by_bits one.bits
  where
    by_bits : (width : Option ℕ) → AreNamed (struct_step walk (record one { bits = width })) left
    by_bits None =
        let last = member_named (struct_end walk) one left (end_named walk (1 + left) named) in
        record { names = last.names; differ = last.differ; few = last.few }
    by_bits (Some width) =
        let fewer = named_fewer walk (1 + (1 + left)) left (omega arith) named in
        record { names = fewer.names; differ = fewer.differ; few = fewer.few }

pub union_named : (walk : FieldsWalk) (one : PlacedMember) (left : ℕ) → AreNamed walk (1 + left) → AreNamed (union_step walk one) left
union_named walk one left named = by_bits one.bits
  where
    by_bits : (width : Option ℕ) → AreNamed (union_step walk (record one { bits = width })) left
    by_bits None = member_named walk one left named
    by_bits (Some width) = bytes_named walk (whole_bytes width) left named

pub struct_named : (list : List PlacedMember) (walk : FieldsWalk) → AreNamed walk (2 * length list + 1) → AreNamed (struct_walk walk list) 1
struct_named [] walk named = named_fewer walk (2 * 0 + 1) 1 (omega arith) named
struct_named (one ∷ list) walk named =
    struct_named list (struct_step walk one) (step_named walk one (2 * length list + 1) (named_fewer walk (2 * length (one ∷ list) + 1) (1 + (1 + (2 * length list + 1))) (omega arith) named))

unions_named : (list : List PlacedMember) (walk : FieldsWalk) → AreNamed walk (2 * length list + 1) → AreNamed (union_walk walk list) 1
unions_named [] walk named = named_fewer walk (2 * 0 + 1) 1 (omega arith) named
unions_named (one ∷ list) walk named =
    unions_named list (union_step walk one) (union_named walk one (2 * length list + 1) (named_fewer walk (2 * length (one ∷ list) + 1) (1 + (2 * length list + 1)) (omega arith) named))

pub none_named : (left : ℕ) → left + 3 < 2 ^ 64 → AreNamed no_fields left
none_named left few = record { names = refl; differ = refl; few = omega (arith, few) }

pub walk_named : (is_union : Bool) (list : List PlacedMember) (count : ℕ) → length list ≤ count → 2 * count + 4 < 2 ^ 64 → AreNamed (record_walk is_union list) 0
walk_named true list count low few =
    named_fewer (union_walk no_fields list) 1 0 (omega arith) (unions_named list no_fields (none_named (2 * length list + 1) (omega (arith, low, few))))
walk_named false list count low few =
    end_named (struct_walk no_fields list) 0 (struct_named list no_fields (none_named (2 * length list + 1) (omega (arith, low, few))))

pub placed_fewer : (known : Knows) (members : List CMember) (spots : List Spot) → length (placed_members known members spots) ≤ length members
placed_fewer known [] spots = omega arith
placed_fewer known (one ∷ members) [] = omega arith
placed_fewer known (one ∷ members) (first ∷ spots) = let fewer = placed_fewer known members spots in omega (arith, fewer)

-- ---- all members

bytes_members : (walk : FieldsWalk) (count : ℕ) → (put_bytes walk count).members ≡ walk.members
bytes_members walk count = by_test (nat_lt 0 count)
  where
    by_test : (r : Bool) → (if r then put_field walk (codes "bits") (Array (Integer U8) count) else walk).members ≡ walk.members
    by_test true = refl
    by_test false = refl

end_members : (walk : FieldsWalk) → (struct_end walk).members ≡ walk.members
unfolding struct_end
end_members walk = bytes_members walk (walk.due - walk.taken)

places_last : (members : List MemberField) (one : MemberField) (others : List FieldPlace) → map place_of (members ++ one ∷ []) ++ others ≡ map place_of members ++ place_of one ∷ others
places_last [] one others = refl
places_last (first ∷ members) one others = ap (λ list. place_of first ∷ list) (places_last members one others)

no_more : (places : List FieldPlace) → places ≡ places ++ []
no_more [] = refl
no_more (one ∷ places) = ap (λ list. one ∷ list) (no_more places)

struct_places : (list : List PlacedMember) (walk : FieldsWalk) → map place_of (struct_walk walk list).members ≡ map place_of walk.members ++ plain_places list
unfolding struct_step
struct_places [] walk = no_more (map place_of walk.members)
struct_places (one ∷ list) walk = struct_places list (struct_step walk one) ∙ by_bits one.bits
  where
    by_bits : (width : Option ℕ) → map place_of (struct_step walk (record one { bits = width })).members ++ plain_places list ≡ map place_of walk.members ++ plain_places (record one { bits = width } ∷ list)
    by_bits None =
        places_last (struct_end walk).members (record { byte = one.spot.byte; ty = one.ty; name = rust_name (struct_end walk).names Fields (member_name one.name) }) (plain_places list)
        ∙ ap (λ members. map place_of members ++ record { ty = one.ty; byte = one.spot.byte } ∷ plain_places list) (end_members walk)
    by_bits (Some width) = refl

union_places : (list : List PlacedMember) (walk : FieldsWalk) → map place_of (union_walk walk list).members ≡ map place_of walk.members ++ plain_places list
union_places [] walk = no_more (map place_of walk.members)
union_places (one ∷ list) walk = union_places list (union_step walk one) ∙ by_bits one.bits
  where
    by_bits : (width : Option ℕ) → map place_of (union_step walk (record one { bits = width })).members ++ plain_places list ≡ map place_of walk.members ++ plain_places (record one { bits = width } ∷ list)
    by_bits None = places_last walk.members (record { byte = one.spot.byte; ty = one.ty; name = rust_name walk.names Fields (member_name one.name) }) (plain_places list)
    by_bits (Some width) = ap (λ members. map place_of members ++ plain_places list) (bytes_members walk (whole_bytes width))

pub all_places : (is_union : Bool) (list : List PlacedMember) → map place_of (record_walk is_union list).members ≡ plain_places list
all_places true list = union_places list no_fields
all_places false list = ap (map place_of) (end_members (struct_walk no_fields list)) ∙ struct_places list no_fields

-- ---- where they stand

module _ (known : Knows) (records : Records) where
  bytes_stand : (is_union : Bool) (walk : FieldsWalk) (count : ℕ) → AllStand (laid_with records) is_union walk → AllStand (laid_with records) is_union (put_bytes walk count)
  bytes_stand is_union walk count all = by_test (nat_lt 0 count)
    where
      by_test : (r : Bool) → AllStand (laid_with records) is_union (if r then put_field walk (codes "bits") (Array (Integer U8) count) else walk)
      by_test true =
          still_stand (laid_with records) is_union walk.fields (record { name = rust_name walk.names Fields (codes "bits"); ty = Array (Integer U8) count }) walk.members all
      by_test false = all

  end_stand : (walk : FieldsWalk) → AllStand (laid_with records) false walk → AllStand (laid_with records) false (struct_end walk)
  unfolding struct_end
  end_stand walk all = bytes_stand false walk (walk.due - walk.taken) all

  member_stands : (is_union : Bool) (walk : FieldsWalk) (one : PlacedMember) (taken : Front) (laid : Laid) (left : ℕ) → AreNamed walk left
      → front_after (laid_with records) (Some (no_front is_union)) walk.fields ≡ Some taken → laid_with records one.ty ≡ Some laid → (spot taken (piece_of laid)).byte ≡ one.spot.byte
      → AllStand (laid_with records) is_union walk → AllStand (laid_with records) is_union (put_member walk one)
  member_stands is_union walk one taken laid left named fields is same all =
      let last : FieldTree = record { name = rust_name walk.names Fields (member_name one.name); ty = one.ty } in
      All-push (StandsIn (laid_with records) is_union (walk.fields ++ record { name = rust_name walk.names Fields (member_name one.name); ty = one.ty } ∷ [])) walk.members
      (record { byte = one.spot.byte; ty = one.ty; name = rust_name walk.names Fields (member_name one.name) })
      (still_stand (laid_with records) is_union walk.fields (record { name = rust_name walk.names Fields (member_name one.name); ty = one.ty }) walk.members all)
      (found_last (laid_with records) (Some (no_front is_union)) walk.fields (record { name = rust_name walk.names Fields (member_name one.name); ty = one.ty }) taken laid
      (name_free walk (member_name one.name) left named) fields is
      ∙ ap (λ n. Some (record { ty = one.ty; byte = n })) same)

  plain_stands : (walk : FieldsWalk) (bits all align : ℕ) (name : Option (List ℕ)) (type : CTy) (own : Laid) (left : ℕ) → Agrees known (laid_with records) type own → 1 ≤ align
      → StandsAt known records walk bits align → (after (front false bits all) (Plain own.size own.align)).bits ≤ 8 * most_bytes → AreNamed walk (1 + left) → AllStand (laid_with records) false walk
      → AllStand (laid_with records) false (struct_step walk (placed_member known (member name type None) (spot (front false bits all) (Plain own.size own.align))))
  unfolding struct_step
  plain_stands walk bits all align name type own left agrees low at few named stand =
      let grows = plain_within known records bits own.size own.align in
      member_stands false (struct_end walk) (placed_member known (member name type None) (spot (front false bits all) (Plain own.size own.align))) (front false (8 * whole_bytes bits) align) own
      left (end_named walk left named) (end_takes known records walk bits align at low (omega (arith, few, grows))) agrees.rust
      (ap (λ n. n / 8) (same_up bits (whole_bytes bits) own.align agrees.aligned (whole_low bits) (whole_high bits))) (end_stand walk stand)

  bits_stand : (walk : FieldsWalk) (name : Option (List ℕ)) (type : CTy) (width : ℕ) (place : Spot) → AllStand (laid_with records) false walk
      → AllStand (laid_with records) false (struct_step walk (placed_member known (member name type (Some width)) place))
  unfolding struct_step
  bits_stand walk name type width place stand = stand

  struct_stand : {members : List CMember} {pieces : List Piece} → Parts known (laid_with records) members pieces → (walk : FieldsWalk) (bits all align : ℕ) → 1 ≤ align
      → StandsAt known records walk bits align → (after_all (front false bits all) pieces).bits ≤ 8 * most_bytes → AreNamed walk (2 * length members + 1) → AllStand (laid_with records) false walk
      → AllStand (laid_with records) false (struct_walk walk (placed_members known members (spots_behind (front false bits all) pieces)))
  struct_stand no_part walk bits all align low at few named stand = stand
  struct_stand (plain_part {members} {pieces} name type own agrees others) walk bits all align low at few named stand =
      let fewer = named_fewer walk (2 * length (member name type None ∷ members) + 1) (1 + (1 + (2 * length members + 1))) (omega arith) named in
      let within = later known records (Plain own.size own.align) pieces (front false bits all) few in
      struct_stand others (struct_step walk (placed_member known (member name type None) (spot (front false bits all) (Plain own.size own.align))))
      (after (front false bits all) (Plain own.size own.align)).bits (max all own.align) (max align own.align) (omega (arith, low))
      (plain_step known records walk bits all align name type own agrees low at within) few
      (step_named walk (placed_member known (member name type None) (spot (front false bits all) (Plain own.size own.align))) (2 * length members + 1) fewer)
      (plain_stands walk bits all align name type own (1 + (2 * length members + 1)) agrees low at within fewer stand)
  struct_stand (bits_part {members} {pieces} name type width size some others) walk bits all align low at few named stand =
      let fewer = named_fewer walk (2 * length (member name type (Some width) ∷ members) + 1) (1 + (1 + (2 * length members + 1))) (omega arith) named in
      struct_stand others (struct_step walk (placed_member known (member name type (Some width)) (spot (front false bits all) (Bits size width (is_some name)))))
      (after (front false bits all) (Bits size width (is_some name))).bits (after (front false bits all) (Bits size width (is_some name))).align align low
      (bits_step known records walk bits all align name type width size at) few
      (step_named walk (placed_member known (member name type (Some width)) (spot (front false bits all) (Bits size width (is_some name)))) (2 * length members + 1) fewer)
      (bits_stand walk name type width (spot (front false bits all) (Bits size width (is_some name))) stand)

  union_stand : {members : List CMember} {pieces : List Piece} → Parts known (laid_with records) members pieces → (walk : FieldsWalk) (bits all align : ℕ) → 1 ≤ align
      → UnionTakes known records walk bits align → (after_all (front true bits all) pieces).bits ≤ 8 * most_bytes → AreNamed walk (2 * length members + 1) → AllStand (laid_with records) true walk
      → AllStand (laid_with records) true (union_walk walk (placed_members known members (spots_behind (front true bits all) pieces)))
  union_stand no_part walk bits all align low at few named stand = stand
  union_stand (plain_part {members} {pieces} name type own agrees others) walk bits all align low at few named stand =
      let fewer = named_fewer walk (2 * length (member name type None ∷ members) + 1) (1 + (2 * length members + 1)) (omega arith) named in
      let one = placed_member known (member name type None) (spot (front true bits all) (Plain own.size own.align)) in
      union_stand others (union_step walk (placed_member known (member name type None) (spot (front true bits all) (Plain own.size own.align))))
      (max bits (0 + 8 * own.size)) (max all own.align) (max align own.align) (omega (arith, low)) (unions.plain_step known records walk bits align name type own agrees at) few
      (union_named walk (placed_member known (member name type None) (spot (front true bits all) (Plain own.size own.align))) (2 * length members + 1) fewer)
      (member_stands true walk (placed_member known (member name type None) (spot (front true bits all) (Plain own.size own.align))) (front true (8 * whole_bytes bits) align) own
      (1 + (2 * length members + 1)) fewer at agrees.rust refl stand)
  union_stand (bits_part {members} {pieces} name type width size some others) walk bits all align low at few named stand =
      let fewer = named_fewer walk (2 * length (member name type (Some width) ∷ members) + 1) (1 + (2 * length members + 1)) (omega arith) named in
      union_stand others (put_bytes walk (whole_bytes width)) (max bits (0 + width)) (after (front true bits all) (Bits size width (is_some name))).align align low
      (unions.bits_step known records walk bits all align width size (is_some name) at low (unions.later known records (Bits size width (is_some name)) pieces (front true bits all) few)) few
      (bytes_named walk (whole_bytes width) (2 * length members + 1) fewer) (bytes_stand true walk (whole_bytes width) stand)

  pub walk_stands : (is_union : Bool) {members : List CMember} {pieces : List Piece} → Parts known (laid_with records) members pieces → (after_all (no_front is_union) pieces).bits ≤ 8 * most_bytes
      → 2 * length members + 4 < 2 ^ 64 → AllStand (laid_with records) is_union (record_walk is_union (placed_members known members (spots_of is_union pieces)))
  walk_stands true {members} parts few short =
      union_stand parts no_fields 0 1 1 (omega arith) refl few (none_named (2 * length members + 1) (omega (arith, short))) (All-nil (StandsIn (laid_with records) true []))
  walk_stands false {members} {pieces} parts few short =
      end_stand (struct_walk no_fields (placed_members known members (spots_of false pieces)))
      (struct_stand parts no_fields 0 1 1 (omega arith) (begun known records) few (none_named (2 * length members + 1) (omega (arith, short))) (All-nil (StandsIn (laid_with records) false [])))
