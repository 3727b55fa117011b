-- Bit-fields stand in fields of bytes.
use Rattle.std.proofs.Common.{◌≡◌, ℕ, ◌+◌, ◌-◌, ◌*◌, ◌/◌, ◌%◌, ◌≤◌, ◌<◌, ◌^◌, Bool, true, false, nat_lt, if◌then◌else◌, codes, List, [], ◌∷◌, ◌++◌, length, Option, None, Some, is_some, max, arith, refl, sym, subst}
use Rattle.std.specs.List.{All}
use Rattle.std.proofs.lemmas.Bool.Decides.{nat_tests}
use Rattle.std.proofs.lemmas.List.Elements.{All-cons, All-nil, All-weaker}
use Rattle.cr_base.specs.declared.layout.Front.{Front}
use Rattle.cr_base.specs.declared.layout.Laid.{Laid}
use Rattle.cr_base.specs.declared.layout.Piece.{Piece}
use Rattle.cr_base.specs.declared.layout.Piece.TheVariants.{Plain, Bits}
use Rattle.cr_base.specs.declared.layout.Spot.{Spot}
use Rattle.cr_base.specs.Layout.{after, after_all, bits_start, most_bytes, no_front, spot, spots_behind, spots_of}
use Rattle.cx_core.specs.Trees.{CMember, CTy}
use Rattle.rs_items.specs.Known.{Knows}
use Rattle.rs_items_sets.specs.Names.{rust_name}
use Rattle.rs_items.specs.Records.{FieldsWalk, PlacedMember, member_name, no_fields, placed_member, placed_members, put_bytes, put_field, put_member, reached, record_walk, struct_end, struct_step, struct_walk, union_step, union_walk, whole_bytes}
use Rattle.rs_items_sets.specs.declared.scope.NameScope.TheVariants.{Fields}
use Rattle.rs_items_rules.proofs.Found.{AreNamed, found_last, found_stays, name_free, named_fewer}
use Rattle.rs_items_rules.proofs.Parts.{Parts, bytes_laid, front, member, plain_align}
use Rattle.rs_items_rules.proofs.Parts.Parts.{no_part, plain_part, bits_part}
use Rattle.rs_items_rules.proofs.Places.{bytes_named, none_named, placed_fewer, step_named, struct_named, union_named}
use Rattle.rs_items_rules.proofs.Rounds.{bits_above}
use Rattle.rs_items_rules.proofs.Structs.{StandsAt, begun, bits_step, later, plain_step, plain_within}
use Rattle.rs_items_rules.proofs.Structs as structs
use Rattle.rs_items_rules.proofs.Unions as unions
use Rattle.rs_items_rules.proofs.Unions.{UnionTakes}
use Rattle.rs_items_rules.specs.Agree.{Agrees, Records}
use Rattle.rs_items_rules.specs.LawsRecords.{IsCovered, bits_spots}
use Rattle.rs_mean.specs.Layout.{front_after, laid_with}
use Rattle.rs_text.specs.Tree.{Array, FieldTree, Integer}
use Rattle.rs_text.specs.declared.integer.IntegerTy.TheVariants.{U8}

module _ (known : Knows) (records : Records) where
  abbrev Covers : Bool → List FieldTree → Spot → Type 0
  Covers is_union fields place = IsCovered (laid_with records) is_union fields place

  stays : (is_union : Bool) (fields : List FieldTree) (last : FieldTree) (place : Spot) → Covers is_union fields place → Covers is_union (fields ++ last ∷ []) place
  stays is_union fields last place covered = record {
    name = covered.name;
    byte = covered.byte;
    count = covered.count;
    found = found_stays (laid_with records) covered.name (Some (no_front is_union)) fields last (record { ty = Array (Integer U8) covered.count; byte = covered.byte }) covered.found;
    low = covered.low;
    high = covered.high;
  }

  bytes_stay : (is_union : Bool) (walk : FieldsWalk) (count : ℕ) (place : Spot) → Covers is_union walk.fields place → Covers is_union (put_bytes walk count).fields place
  bytes_stay is_union walk count place covered = by_test (nat_lt 0 count)
    where
      by_test : (r : Bool) → Covers is_union (if r then put_field walk (codes "bits") (Array (Integer U8) count) else walk).fields place
      by_test true = stays is_union walk.fields (record { name = rust_name walk.names Fields (codes "bits"); ty = Array (Integer U8) count }) place covered
      by_test false = covered

  member_stays : (is_union : Bool) (walk : FieldsWalk) (one : PlacedMember) (place : Spot) → Covers is_union walk.fields place → Covers is_union (put_member walk one).fields place
  member_stays is_union walk one place covered = stays is_union walk.fields (record { name = rust_name walk.names Fields (member_name one.name); ty = one.ty }) place covered

  -- bytes that are put cover what stands in them
  bytes_cover : (is_union : Bool) (walk : FieldsWalk) (count left : ℕ) (taken : Front) (place : Spot) → AreNamed walk left
      → front_after (laid_with records) (Some (no_front is_union)) walk.fields ≡ Some taken → 0 < count → count ≤ most_bytes
      → (spot taken (Plain count 1)).byte ≤ place.byte → reached place ≤ (spot taken (Plain count 1)).byte + count → Covers is_union (put_bytes walk count).fields place
  bytes_cover is_union walk count left taken place named fields some few low high =
      subst (λ t. Covers is_union (if t then put_field walk (codes "bits") (Array (Integer U8) count) else walk).fields place) (sym test) (record {
        name = rust_name walk.names Fields (codes "bits");
        byte = (spot taken (Plain count 1)).byte;
        count = count;
        found = found_last (laid_with records) (Some (no_front is_union)) walk.fields (record { name = rust_name walk.names Fields (codes "bits"); ty = Array (Integer U8) count }) taken
            (record { size = count; align = 1 }) (name_free walk (codes "bits") left named) fields (bytes_laid count some few);
        low = low;
        high = high;
      })
    where
      test : nat_lt 0 count ≡ true
      test = grind (arith, nat_tests, some)

  -- ---- structures

  -- a bit-field stands in a field of bytes, or in bytes that are due
  data Meets (walk : FieldsWalk) (place : Spot) : Type 0 where
    in_field : Covers false walk.fields place → Meets walk place
    in_due : walk.taken ≤ place.byte → reached place ≤ walk.due → 0 < place.width → Meets walk place

  count_some : (taken due : ℕ) (place : Spot) → taken ≤ place.byte → reached place ≤ due → 0 < place.width → 0 < due - taken
  count_some taken due place low high some = omega (arith, low, high, some)

  due_count : (taken all : ℕ) → taken ≤ all → all ≤ taken + (all - taken)
  due_count taken all low = omega (arith, low)

  spot_byte : (taken count align : ℕ) → (spot (front false (8 * taken) align) (Plain count 1)).byte ≡ taken
  spot_byte taken count align = omega arith

  end_covers : (walk : FieldsWalk) (bits align left : ℕ) (place : Spot) → StandsAt known records walk bits align → bits ≤ 8 * most_bytes → AreNamed walk left → Meets walk place
      → Covers false (struct_end walk).fields place
  unfolding struct_end
  end_covers walk bits align left place at few named (in_field is) = bytes_stay false walk (walk.due - walk.taken) place is
  end_covers walk bits align left place at few named (in_due low high some) =
      let is = at.due in
      let before = at.order in
      let byte = spot_byte walk.taken (walk.due - walk.taken) align in
      let count = due_count walk.taken walk.due before in
      bytes_cover false walk (walk.due - walk.taken) left (front false (8 * walk.taken) align) place named at.fields (count_some walk.taken walk.due place low high some)
      (omega (arith, is, few)) (omega (arith, byte, low)) (omega (arith, byte, high, count))

  plain_meets : (walk : FieldsWalk) (bits align left : ℕ) (name : Option (List ℕ)) (type : CTy) (at_spot place : Spot) → StandsAt known records walk bits align → bits ≤ 8 * most_bytes
      → AreNamed walk left → Meets walk place → Meets (struct_step walk (placed_member known (member name type None) at_spot)) place
  unfolding struct_step
  plain_meets walk bits align left name type at_spot place at few named meets =
      in_field (member_stays false (struct_end walk) (placed_member known (member name type None) at_spot) place (end_covers walk bits align left place at few named meets))

  bits_meets : (walk : FieldsWalk) (name : Option (List ℕ)) (type : CTy) (width : ℕ) (at_spot place : Spot) → walk.due ≤ reached at_spot → Meets walk place
      → Meets (struct_step walk (placed_member known (member name type (Some width)) at_spot)) place
  unfolding struct_step
  bits_meets walk name type width at_spot place grows (in_field is) = in_field is
  bits_meets walk name type width at_spot place grows (in_due low high some) = in_due low (omega (arith, high, grows)) some

  new_meets : (walk : FieldsWalk) (name : Option (List ℕ)) (type : CTy) (width : ℕ) (place : Spot) → walk.taken ≤ place.byte → 0 < place.width
      → Meets (struct_step walk (placed_member known (member name type (Some width)) place)) place
  unfolding struct_step
  new_meets walk name type width place low some = in_due low (omega arith) some

  due_grows : (due bits begins width : ℕ) → due ≡ whole_bytes bits → bits ≤ begins → due ≤ begins / 8 + whole_bytes (begins % 8 + width)
  due_grows due bits begins width is low = omega (arith, is, low)

  meets_all : {members : List CMember} {pieces : List Piece} → Parts known (laid_with records) members pieces → (walk : FieldsWalk) (bits all align : ℕ) → 1 ≤ align
      → StandsAt known records walk bits align → (after_all (front false bits all) pieces).bits ≤ 8 * most_bytes → AreNamed walk (2 * length members + 1) → (place : Spot) → Meets walk place
      → Meets (struct_walk walk (placed_members known members (spots_behind (front false bits all) pieces))) place
  meets_all no_part walk bits all align low at few named place meets = meets
  meets_all (plain_part {members} {pieces} name type own agrees others) walk bits all align low at few named place meets =
      let fewer = named_fewer walk (2 * length (member name type None ∷ members) + 1) (1 + (1 + (2 * length members + 1))) (omega arith) named in
      let within = later known records (Plain own.size own.align) pieces (front false bits all) few in
      let grows = plain_within known records bits own.size own.align in
      meets_all others (struct_step walk (placed_member known (member name type None) (spot (front false bits all) (Plain own.size own.align))))
      (after (front false bits all) (Plain own.size own.align)).bits (max all own.align) (max align own.align) (omega (arith, low))
      (plain_step known records walk bits all align name type own agrees low at within) few
      (step_named walk (placed_member known (member name type None) (spot (front false bits all) (Plain own.size own.align))) (2 * length members + 1) fewer) place
      (plain_meets walk bits align (1 + (1 + (2 * length members + 1))) name type (spot (front false bits all) (Plain own.size own.align)) place at (omega (arith, within, grows)) fewer meets)
  meets_all (bits_part {members} {pieces} name type width size some others) walk bits all align low at few named place meets =
      let fewer = named_fewer walk (2 * length (member name type (Some width) ∷ members) + 1) (1 + (1 + (2 * length members + 1))) (omega arith) named in
      meets_all others (struct_step walk (placed_member known (member name type (Some width)) (spot (front false bits all) (Bits size width (is_some name)))))
      (after (front false bits all) (Bits size width (is_some name))).bits (after (front false bits all) (Bits size width (is_some name))).align align low
      (bits_step known records walk bits all align name type width size at) few
      (step_named walk (placed_member known (member name type (Some width)) (spot (front false bits all) (Bits size width (is_some name)))) (2 * length members + 1) fewer) place
      (bits_meets walk name type width (spot (front false bits all) (Bits size width (is_some name))) place
      (due_grows walk.due bits (bits_start bits (8 * size) width) width at.due (bits_above bits (8 * size) width)) meets)

  front_bits : (walk : FieldsWalk) (bits all align : ℕ) (name : Option (List ℕ)) (type : CTy) (own : Laid) → Agrees known (laid_with records) type own
      → 8 * (struct_step walk (placed_member known (member name type None) (spot (front false bits all) (Plain own.size own.align)))).taken ≤ (after (front false bits all) (Plain own.size own.align)).bits
  unfolding struct_step
  front_bits walk bits all align name type own agrees =
      let size = agrees.size in
      omega (arith, size)

  bits_taken : (walk : FieldsWalk) (bits more : ℕ) (name : Option (List ℕ)) (type : CTy) (width : ℕ) (place : Spot) → 8 * walk.taken ≤ bits → bits ≤ more
      → 8 * (struct_step walk (placed_member known (member name type (Some width)) place)).taken ≤ more
  unfolding struct_step
  bits_taken walk bits more name type width place before grows = omega (arith, before, grows)

  cons_bits : (P : Spot → Type 0) (width : ℕ) (place : Spot) (others : List Spot) → (0 < width → P place) → All P others → All P (if nat_lt 0 width then place ∷ others else others)
  cons_bits P width place others first rest = by_test (nat_lt 0 width) refl
    where
      by_test : (r : Bool) → nat_lt 0 width ≡ r → All P (if r then place ∷ others else others)
      by_test true test = All-cons P place others (first (grind (arith, nat_tests, test))) rest
      by_test false test = rest

  struct_bits : {members : List CMember} {pieces : List Piece} → Parts known (laid_with records) members pieces → (walk : FieldsWalk) (bits all align : ℕ) → 1 ≤ align
      → StandsAt known records walk bits align → (after_all (front false bits all) pieces).bits ≤ 8 * most_bytes → AreNamed walk (2 * length members + 1) → 8 * walk.taken ≤ bits
      → All (Meets (struct_walk walk (placed_members known members (spots_behind (front false bits all) pieces)))) (bits_spots (placed_members known members (spots_behind (front false bits all) pieces)))
  struct_bits no_part walk bits all align low at few named before = All-nil (Meets walk)
  struct_bits (plain_part {members} {pieces} name type own agrees others) walk bits all align low at few named before =
      let fewer = named_fewer walk (2 * length (member name type None ∷ members) + 1) (1 + (1 + (2 * length members + 1))) (omega arith) named in
      let within = later known records (Plain own.size own.align) pieces (front false bits all) few in
      struct_bits others (struct_step walk (placed_member known (member name type None) (spot (front false bits all) (Plain own.size own.align))))
      (after (front false bits all) (Plain own.size own.align)).bits (max all own.align) (max align own.align) (omega (arith, low))
      (plain_step known records walk bits all align name type own agrees low at within) few
      (step_named walk (placed_member known (member name type None) (spot (front false bits all) (Plain own.size own.align))) (2 * length members + 1) fewer)
      (front_bits walk bits all align name type own agrees)
  struct_bits (bits_part {members} {pieces} name type width size some others) walk bits all align low at few named before =
      let place = spot (front false bits all) (Bits size width (is_some name)) in
      let fewer = named_fewer walk (2 * length (member name type (Some width) ∷ members) + 1) (1 + (1 + (2 * length members + 1))) (omega arith) named in
      let above = bits_above bits (8 * size) width in
      let next = step_named walk (placed_member known (member name type (Some width)) (spot (front false bits all) (Bits size width (is_some name)))) (2 * length members + 1) fewer in
      let stands = bits_step known records walk bits all align name type width size at in
      cons_bits
      (Meets (struct_walk (struct_step walk (placed_member known (member name type (Some width)) (spot (front false bits all) (Bits size width (is_some name)))))
      (placed_members known members (spots_behind (after (front false bits all) (Bits size width (is_some name))) pieces))))
      width (spot (front false bits all) (Bits size width (is_some name)))
      (bits_spots (placed_members known members (spots_behind (after (front false bits all) (Bits size width (is_some name))) pieces)))
      (λ wide. meets_all others (struct_step walk (placed_member known (member name type (Some width)) (spot (front false bits all) (Bits size width (is_some name)))))
      (after (front false bits all) (Bits size width (is_some name))).bits (after (front false bits all) (Bits size width (is_some name))).align align low stands few next
      (spot (front false bits all) (Bits size width (is_some name)))
      (new_meets walk name type width (spot (front false bits all) (Bits size width (is_some name))) (omega (arith, before, above)) wide))
      (struct_bits others (struct_step walk (placed_member known (member name type (Some width)) (spot (front false bits all) (Bits size width (is_some name)))))
      (after (front false bits all) (Bits size width (is_some name))).bits (after (front false bits all) (Bits size width (is_some name))).align align low stands few next
      (bits_taken walk bits (after (front false bits all) (Bits size width (is_some name))).bits name type width (spot (front false bits all) (Bits size width (is_some name))) before (omega arith)))

  -- ---- unions

  union_stays : (list : List PlacedMember) (walk : FieldsWalk) (place : Spot) → Covers true walk.fields place → Covers true (union_walk walk list).fields place
  union_stays [] walk place covered = covered
  union_stays (one ∷ list) walk place covered = union_stays list (union_step walk one) place (by_bits one.bits)
    where
      by_bits : (width : Option ℕ) → Covers true (union_step walk (record one { bits = width })).fields place
      by_bits None = member_stays true walk one place covered
      by_bits (Some width) = bytes_stay true walk (whole_bytes width) place covered

  union_bits : {members : List CMember} {pieces : List Piece} → Parts known (laid_with records) members pieces → (walk : FieldsWalk) (bits all align : ℕ) → 1 ≤ align
      → UnionTakes known records walk bits align → (after_all (front true bits all) pieces).bits ≤ 8 * most_bytes → AreNamed walk (2 * length members + 1)
      → All (Covers true (union_walk walk (placed_members known members (spots_behind (front true bits all) pieces))).fields) (bits_spots (placed_members known members (spots_behind (front true bits all) pieces)))
  union_bits no_part walk bits all align low at few named = All-nil (Covers true walk.fields)
  union_bits (plain_part {members} {pieces} name type own agrees others) walk bits all align low at few named =
      let fewer = named_fewer walk (2 * length (member name type None ∷ members) + 1) (1 + (2 * length members + 1)) (omega arith) named in
      union_bits others (union_step walk (placed_member known (member name type None) (spot (front true bits all) (Plain own.size own.align))))
      (max bits (0 + 8 * own.size)) (max all own.align) (max align own.align) (omega (arith, low)) (unions.plain_step known records walk bits align name type own agrees at) few
      (union_named walk (placed_member known (member name type None) (spot (front true bits all) (Plain own.size own.align))) (2 * length members + 1) fewer)
  union_bits (bits_part {members} {pieces} name type width size some others) walk bits all align low at few named =
      let fewer = named_fewer walk (2 * length (member name type (Some width) ∷ members) + 1) (1 + (2 * length members + 1)) (omega arith) named in
      let within = unions.later known records (Bits size width (is_some name)) pieces (front true bits all) few in
      cons_bits
      (Covers true (union_walk (put_bytes walk (whole_bytes width)) (placed_members known members (spots_behind (after (front true bits all) (Bits size width (is_some name))) pieces))).fields)
      width (spot (front true bits all) (Bits size width (is_some name)))
      (bits_spots (placed_members known members (spots_behind (after (front true bits all) (Bits size width (is_some name))) pieces)))
      (λ wide. union_stays (placed_members known members (spots_behind (after (front true bits all) (Bits size width (is_some name))) pieces)) (put_bytes walk (whole_bytes width))
      (spot (front true bits all) (Bits size width (is_some name)))
      (bytes_cover true walk (whole_bytes width) (1 + (2 * length members + 1)) (front true (8 * whole_bytes bits) align) (spot (front true bits all) (Bits size width (is_some name))) fewer at
      (omega (arith, wide)) (omega (arith, within)) (omega arith) (omega arith)))
      (union_bits others (put_bytes walk (whole_bytes width)) (max bits (0 + width)) (after (front true bits all) (Bits size width (is_some name))).align align low
      (unions.bits_step known records walk bits all align width size (is_some name) at low within) few (bytes_named walk (whole_bytes width) (2 * length members + 1) fewer))

  pub bits_covered : (is_union : Bool) {members : List CMember} {pieces : List Piece} → Parts known (laid_with records) members pieces → (after_all (no_front is_union) pieces).bits ≤ 8 * most_bytes
      → 2 * length members + 4 < 2 ^ 64
      → All (Covers is_union (record_walk is_union (placed_members known members (spots_of is_union pieces))).fields) (bits_spots (placed_members known members (spots_of is_union pieces)))
  bits_covered true {members} parts few short = union_bits parts no_fields 0 1 1 (omega arith) refl few (none_named (2 * length members + 1) (omega (arith, short)))
  bits_covered false {members} {pieces} parts few short =
      let named = none_named (2 * length members + 1) (omega (arith, short)) in
      let at = structs.struct_parts known records parts no_fields 0 1 1 (omega arith) (begun known records) few in
      let last = struct_last members pieces short in
      All-weaker (Meets (struct_walk no_fields (placed_members known members (spots_of false pieces))))
      (Covers false (struct_end (struct_walk no_fields (placed_members known members (spots_of false pieces)))).fields)
      (λ place meets. end_covers (struct_walk no_fields (placed_members known members (spots_of false pieces))) (after_all (no_front false) pieces).bits (plain_align 1 pieces) 1 place at few last meets)
      (bits_spots (placed_members known members (spots_of false pieces)))
      (struct_bits parts no_fields 0 1 1 (omega arith) (begun known records) few named (omega arith))
    where
      struct_last : (members : List CMember) (pieces : List Piece) → 2 * length members + 4 < 2 ^ 64 → AreNamed (struct_walk no_fields (placed_members known members (spots_of false pieces))) 1
      struct_last members pieces short =
          let fewer = placed_fewer known members (spots_of false pieces) in
          struct_named (placed_members known members (spots_of false pieces)) no_fields (none_named (2 * length (placed_members known members (spots_of false pieces)) + 1) (omega (arith, short, fewer)))
