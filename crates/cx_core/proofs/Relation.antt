-- Compatibility is reflexive and symmetric.
use Rattle.std.proofs.Common.{◌≡◌, ℕ, ◌==◌, ◌&&◌, ◌||◌, Bool, true, false, not, List, [], ◌∷◌, map, Option, None, Some, refl, sym, ap, ◌∙◌, slice_get, arith, if◌then◌else◌}
use Rattle.std.proofs.lemmas.Bool.{and_from, and_parts, or_left}
use Rattle.std.proofs.lemmas.Bool.Decides.{nat_tests}
use Rattle.std.specs.Bool.{beq}
use Rattle.std.specs.List.{list_all}
use Rattle.cx_core.specs.declared.compatibility.RecordPair.{RecordPair}
use Rattle.cx_core.specs.declared.ty.Basic.{Basic}
use Rattle.cx_core.specs.declared.ty.Basic.TheVariants.{Truth, Char, SignedChar, UnsignedChar, Short, UnsignedShort, Int, Unsigned, Long, UnsignedLong, LongLong, UnsignedLongLong}
use Rattle.std.proofs.Math.Bool.{and_comm}
use Rattle.std.proofs.lemmas.Cmp.{nat_eq_equiv, nat_list_eq_equiv}
use Rattle.std.specs.Cmp.{bool_eq_equiv}
use Rattle.std.specs.Cmp.Lexicographic.{options_equiv}
use Rattle.std.specs.Option.{option_flatten, is_none}
use Rattle.cx_core.specs.Compatible.{agree, correspond, corresponds_to, in_order, has_partner, named_as, contents_agree, tags_agree, records_agree, pair_agrees, names_agree, widths_agree, are_of_two, forms_agree, params_agree, lists_agree, in_pairs, AreCompatible, lengths_agree, enums_agree, same_basics}
use Rattle.cx_core.specs.Conversions.{same_basic, basic_of}
use Rattle.cx_core.specs.Trees.{CTy, ty, CTyForm, void, basic, enum_type, pointer, array, record_type, function, CParams, unlisted, listed, CTys, no_types, more_types, CMember, CRecord, CRecordTag, CTypes}

same_number : (n : ℕ) → (n == n) ≡ true
same_number n = grind (arith, nat_tests)

same_flag : (b : Bool) → beq b b ≡ true
same_flag true = refl
same_flag false = refl

basic_reflexive : (which : Basic) → same_basic which which ≡ true
unfolding same_basic
basic_reflexive Truth = refl
basic_reflexive _ = refl

length_reflexive : (length_is : Option ℕ) → lengths_agree length_is length_is ≡ true
length_reflexive None = refl
length_reflexive (Some n) = same_number n

module _ (types : CTypes) (counts : ℕ → ℕ → Bool) where
  mutual
    agree_reflexive : (type : CTy) → agree types counts type type ≡ true
    agree_reflexive (ty form is_const) = and_from _ _ (same_flag is_const) (forms_reflexive form)

    forms_reflexive : (form : CTyForm) → forms_agree types counts form form ≡ true
    forms_reflexive void = refl
    forms_reflexive (basic which) = basic_reflexive which
    forms_reflexive (enum_type number) = or_left _ _ (same_number number)
    forms_reflexive (pointer to) = agree_reflexive to
    forms_reflexive (array element length_is) = and_from _ _ (length_reflexive length_is) (agree_reflexive element)
    forms_reflexive (record_type number) = or_left _ _ (same_number number)
    forms_reflexive (function result params variadic) = and_from _ _ (agree_reflexive result) (params_reflexive params variadic)

    params_reflexive : (params : CParams) (variadic : Bool) → params_agree types counts params variadic params variadic ≡ true
    params_reflexive unlisted variadic = refl
    params_reflexive (listed params) variadic = and_from _ _ (same_flag variadic) (lists_reflexive params)

    lists_reflexive : (params : CTys) → lists_agree types counts params params ≡ true
    lists_reflexive no_types = refl
    lists_reflexive (more_types (ty form is_const) others) = and_from _ _ (forms_reflexive form) (lists_reflexive others)

-- a type is compatible with itself
pub compatible_reflexive : (types : CTypes) (type : CTy) → AreCompatible types type type
compatible_reflexive types type = record { pairs = []; good = refl; meet = agree_reflexive types (in_pairs []) type }

-- ---- symmetry

abbrev turned_pair : RecordPair → RecordPair
turned_pair pair = record { first = pair.second; second = pair.first }

number_symmetric : (m n : ℕ) → (m == n) ≡ (n == m)
number_symmetric m n = nat_eq_equiv.symm m n

flag_symmetric : (a b : Bool) → beq a b ≡ beq b a
flag_symmetric a b = bool_eq_equiv.symm a b

name_symmetric : (a b : Option (List ℕ)) → names_agree a b ≡ names_agree b a
name_symmetric a b = (options_equiv nat_list_eq_equiv).symm a b

width_symmetric : (a b : Option ℕ) → widths_agree a b ≡ widths_agree b a
width_symmetric a b = (options_equiv nat_eq_equiv).symm a b

and_same : (a b c d : Bool) → a ≡ c → b ≡ d → a && b ≡ c && d
and_same a b c d first second = ap (λ x. x && b) first ∙ ap (λ x. c && x) second

or_same : (a b c d : Bool) → a ≡ c → b ≡ d → a || b ≡ c || d
or_same a b c d first second = ap (λ x. x || b) first ∙ ap (λ x. c || x) second

-- two tests are the same where the second counts only under the first
and_under : (a b x y : Bool) → a ≡ b → (a ≡ true → x ≡ y) → a && x ≡ b && y
and_under true b x y same under = under refl ∙ ap (λ c. c && y) same
and_under false b x y same under = ap (λ c. c && y) same

basic_symmetric : (a b : Basic) → same_basic a b ≡ same_basic b a
unfolding same_basic
basic_symmetric Truth Truth = refl
basic_symmetric Truth _ = refl
basic_symmetric Char Truth = refl
basic_symmetric Char _ = refl
basic_symmetric SignedChar Truth = refl
basic_symmetric SignedChar _ = refl
basic_symmetric UnsignedChar Truth = refl
basic_symmetric UnsignedChar _ = refl
basic_symmetric Short Truth = refl
basic_symmetric Short _ = refl
basic_symmetric UnsignedShort Truth = refl
basic_symmetric UnsignedShort _ = refl
basic_symmetric Int Truth = refl
basic_symmetric Int _ = refl
basic_symmetric Unsigned Truth = refl
basic_symmetric Unsigned _ = refl
basic_symmetric Long Truth = refl
basic_symmetric Long _ = refl
basic_symmetric UnsignedLong Truth = refl
basic_symmetric UnsignedLong _ = refl
basic_symmetric LongLong Truth = refl
basic_symmetric LongLong _ = refl
basic_symmetric UnsignedLongLong Truth = refl
basic_symmetric UnsignedLongLong _ = refl

basics_symmetric : (a b : Option Basic) → same_basics a b ≡ same_basics b a
basics_symmetric (Some a) (Some b) = basic_symmetric a b
basics_symmetric (Some a) None = refl
basics_symmetric None (Some b) = refl
basics_symmetric None None = refl

two_symmetric : (a b : Option ℕ) → are_of_two a b ≡ are_of_two b a
two_symmetric (Some a) (Some b) = ap not (number_symmetric a b)
two_symmetric (Some a) None = refl
two_symmetric None (Some b) = refl
two_symmetric None None = refl

length_symmetric : (a b : Option ℕ) → lengths_agree a b ≡ lengths_agree b a
length_symmetric (Some a) (Some b) = number_symmetric a b
length_symmetric (Some a) None = refl
length_symmetric None (Some b) = refl
length_symmetric None None = refl

enums_symmetric : (types : CTypes) (a b : ℕ) → enums_agree types a b ≡ enums_agree types b a
enums_symmetric types a b =
    or_same _ _ _ _ (number_symmetric a b)
    (and_same _ _ _ _ (two_symmetric (slice_get types.enum_units a) (slice_get types.enum_units b))
    (basics_symmetric (basic_of types (enum_type a)) (basic_of types (enum_type b))))

module _ (types : CTypes) (counts back_counts : ℕ → ℕ → Bool) (turned : (m n : ℕ) → counts m n ≡ back_counts n m) where
  mutual
    pub agree_symmetric : (a b : CTy) → agree types counts a b ≡ agree types back_counts b a
    agree_symmetric (ty a a_const) (ty b b_const) = and_same _ _ _ _ (flag_symmetric a_const b_const) (forms_symmetric a b)

    forms_symmetric : (a b : CTyForm) → forms_agree types counts a b ≡ forms_agree types back_counts b a
    forms_symmetric (basic a) (basic b) = basic_symmetric a b
    forms_symmetric (basic a) (enum_type b) = basics_symmetric (basic_of types (basic a)) (basic_of types (enum_type b))
    forms_symmetric (enum_type a) (basic b) = basics_symmetric (basic_of types (enum_type a)) (basic_of types (basic b))
    forms_symmetric (enum_type a) (enum_type b) = enums_symmetric types a b
    forms_symmetric (pointer a) (pointer b) = agree_symmetric a b
    forms_symmetric (array a a_length) (array b b_length) =
        and_same _ _ _ _ (length_symmetric a_length b_length) (agree_symmetric a b)
    forms_symmetric (record_type a) (record_type b) = or_same _ _ _ _ (number_symmetric a b) (turned a b)
    forms_symmetric (function a a_params a_more) (function b b_params b_more) =
        and_same _ _ _ _ (agree_symmetric a b) (params_symmetric a_params a_more b_params b_more)
    forms_symmetric void void = refl
    forms_symmetric _ _ = refl

    params_symmetric : (a : CParams) (a_more : Bool) (b : CParams) (b_more : Bool) → params_agree types counts a a_more b b_more ≡ params_agree types back_counts b b_more a a_more
    params_symmetric unlisted a_more unlisted b_more = refl
    params_symmetric unlisted a_more (listed params) b_more = refl
    params_symmetric (listed params) a_more unlisted b_more = refl
    params_symmetric (listed a) a_more (listed b) b_more = and_same _ _ _ _ (flag_symmetric a_more b_more) (lists_symmetric a b)

    lists_symmetric : (a b : CTys) → lists_agree types counts a b ≡ lists_agree types back_counts b a
    lists_symmetric no_types no_types = refl
    lists_symmetric no_types (more_types (ty b b_const) bs) = refl
    lists_symmetric (more_types (ty a a_const) as_) no_types = refl
    lists_symmetric (more_types (ty a a_const) as_) (more_types (ty b b_const) bs) =
        and_same _ _ _ _ (forms_symmetric a b) (lists_symmetric as_ bs)

  members_symmetric : (a b : CMember) → correspond types counts a b ≡ correspond types back_counts b a
  members_symmetric a b =
      and_same _ _ _ _ (and_same _ _ _ _ (name_symmetric a.name b.name) (width_symmetric a.bits b.bits)) (agree_symmetric a.type b.type)

  order_symmetric : (a b : List CMember) → in_order types counts a b ≡ in_order types back_counts b a
  order_symmetric [] [] = refl
  order_symmetric [] (b ∷ bs) = refl
  order_symmetric (a ∷ as_) [] = refl
  order_symmetric (a ∷ as_) (b ∷ bs) = and_same _ _ _ _ (members_symmetric a b) (order_symmetric as_ bs)

  corresponds_turned : (back : Bool) (one : CMember) (other : Option CMember) → corresponds_to types counts back one other ≡ corresponds_to types back_counts (not back) one other
  corresponds_turned back one None = refl
  corresponds_turned false one (Some other) = members_symmetric one other
  corresponds_turned true one (Some other) = members_symmetric other one

  partner_by : (unnamed alike back : Bool) (one : CMember) (other : Option CMember) → (if unnamed then alike else corresponds_to types counts back one other) ≡ (if unnamed then alike else corresponds_to types back_counts (not back) one other)
  partner_by true alike back one other = refl
  partner_by false alike back one other = corresponds_turned back one other

  partners_turned : (back : Bool) (own others members : List CMember) → list_all (has_partner types counts back own others) members ≡ list_all (has_partner types back_counts (not back) own others) members
  partners_turned back own others [] = refl
  partners_turned back own others (one ∷ more) =
      and_same _ _ _ _ (partner_by (is_none one.name) _ back one (named_as one.name others)) (partners_turned back own others more)

  contents_symmetric : (is_union : Bool) (a b : Option CRecord) → contents_agree types counts is_union a b ≡ contents_agree types back_counts is_union b a
  contents_symmetric true (Some a) (Some b) =
      and_same _ _ _ _ (partners_turned false a.members b.members a.members) (partners_turned true b.members a.members b.members)
      ∙ and_comm (list_all (has_partner types back_counts true a.members b.members) a.members) (list_all (has_partner types back_counts false b.members a.members) b.members)
  contents_symmetric false (Some a) (Some b) = order_symmetric a.members b.members
  contents_symmetric is_union (Some a) None = refl
  contents_symmetric is_union None (Some b) = refl
  contents_symmetric is_union None None = refl

  tags_symmetric : (a b : CRecordTag) → tags_agree a b ≡ tags_agree b a
  tags_symmetric a b = and_same _ _ _ _ (flag_symmetric a.is_union b.is_union) (name_symmetric a.tag b.tag)

  same_kind : (a b : Bool) → beq a b ≡ true → a ≡ b
  same_kind true true same = refl
  same_kind true false same = sym same
  same_kind false true same = same
  same_kind false false same = refl

  records_symmetric : (a b : ℕ) (a_tag b_tag : Option CRecordTag) → records_agree types counts a b a_tag b_tag ≡ records_agree types back_counts b a b_tag a_tag
  records_symmetric a b (Some a_tag) (Some b_tag) =
      and_under (tags_agree a_tag b_tag) (tags_agree b_tag a_tag) _ _ (tags_symmetric a_tag b_tag)
      (λ same. contents_symmetric a_tag.is_union (option_flatten (slice_get types.records a)) (option_flatten (slice_get types.records b))
      ∙ ap (λ kind. contents_agree types back_counts kind (option_flatten (slice_get types.records b)) (option_flatten (slice_get types.records a)))
      (same_kind a_tag.is_union b_tag.is_union (and_parts (beq a_tag.is_union b_tag.is_union) (names_agree a_tag.tag b_tag.tag) same).0))
  records_symmetric a b (Some a_tag) None = refl
  records_symmetric a b None (Some b_tag) = refl
  records_symmetric a b None None = refl

  pair_symmetric : (pair : RecordPair) → pair_agrees types counts pair ≡ pair_agrees types back_counts (turned_pair pair)
  pair_symmetric pair =
      and_same _ _ _ _ (two_symmetric (slice_get types.record_units pair.first) (slice_get types.record_units pair.second))
      (records_symmetric pair.first pair.second (slice_get types.record_tags pair.first) (slice_get types.record_tags pair.second))

  pairs_symmetric : (pairs : List RecordPair) → list_all (pair_agrees types counts) pairs ≡ list_all (pair_agrees types back_counts) (map turned_pair pairs)
  pairs_symmetric [] = refl
  pairs_symmetric (pair ∷ pairs) = and_same _ _ _ _ (pair_symmetric pair) (pairs_symmetric pairs)

in_turned : (pairs : List RecordPair) (m n : ℕ) → in_pairs pairs m n ≡ in_pairs (map turned_pair pairs) n m
in_turned [] m n = refl
in_turned (pair ∷ pairs) m n = or_same _ _ _ _ (and_comm (pair.first == m) (pair.second == n)) (in_turned pairs m n)

-- where one type is compatible with another, that one is with it
pub compatible_symmetric : (types : CTypes) (a b : CTy) → AreCompatible types a b → AreCompatible types b a
compatible_symmetric types a b both = record {
  pairs = map turned_pair both.pairs;
  good = sym (pairs_symmetric types (in_pairs both.pairs) (in_pairs (map turned_pair both.pairs)) (in_turned both.pairs) both.pairs) ∙ both.good;
  meet = sym (agree_symmetric types (in_pairs both.pairs) (in_pairs (map turned_pair both.pairs)) (in_turned both.pairs) a b) ∙ both.meet;
}
