-- Compatible types (ISO C99, 6.2.7, 6.7.2.2p4, 6.7.3p9, 6.7.5.1p2, 6.7.5.2p6 and 6.7.5.3p15).
use Rattle.std.specs.Prelude.{ℕ, ◌==◌, ◌&&◌, ◌||◌, not, Bool, true, false, if◌then◌else◌, List, [], ◌∷◌, Option, None, Some, IsTrue, slice_get, is_none}
use Rattle.std.specs.Bool.{beq}
use Rattle.std.specs.List.{list_all, list_any, count_by}
use Rattle.std.specs.Option.{option_eq, option_flatten}
use Rattle.std.specs.Str.{bytes_eq}
use Rattle.cx_core.specs.declared.compatibility.RecordPair.{RecordPair}
use Rattle.cx_core.specs.declared.ty.Basic.{Basic}
use Rattle.cx_core.specs.Conversions.{same_basic, basic_of, promoted_basic}
use Rattle.cx_core.specs.Trees.{CTy, ty, CTyForm, void, basic, enum_type, pointer, array, record_type, function, CParams, unlisted, listed, CTys, no_types, more_types, form_of_type, is_const_type, CMember, CRecord, CRecordTag, CTypes}

-- ---- enumerated types

abbrev pub are_of_two : Option ℕ → Option ℕ → Bool
are_of_two (Some first) (Some second) = not (first == second)
are_of_two (Some first) None = false
are_of_two None second = false

-- two enumerated types, or two records, of different units
abbrev pub of_two_units : List ℕ → ℕ → ℕ → Bool
of_two_units units first second = are_of_two (slice_get units first) (slice_get units second)

abbrev pub same_basics : Option Basic → Option Basic → Bool
same_basics (Some first) (Some second) = same_basic first second
same_basics (Some first) None = false
same_basics None second = false

-- two integer types are, or are compatible with, one basic type
abbrev pub meet_in_basic : CTypes → CTyForm → CTyForm → Bool
meet_in_basic types first second = same_basics (basic_of types first) (basic_of types second)

-- enumerated types of one unit are compatible with themselves alone; of two units, where both are `int` or both are
-- `unsigned int`
abbrev pub enums_agree : CTypes → ℕ → ℕ → Bool
enums_agree types first second =
    (first == second)
    || (of_two_units types.enum_units first second && meet_in_basic types (enum_type first) (enum_type second))

-- ---- types, where it is said which records count as compatible

-- one array type has no or both have the same (6.7.5.2p6)
abbrev pub lengths_agree : Option ℕ → Option ℕ → Bool
lengths_agree (Some first) (Some second) = first == second
lengths_agree (Some first) None = true
lengths_agree None second = true

-- an argument that has no parameter type arrives as a value of this type (6.5.2.2p6, 6.7.5.3p15)
abbrev pub is_kept_by_promotions : CTyForm → Bool
is_kept_by_promotions (basic which) = same_basic (promoted_basic which None) which
is_kept_by_promotions _ = true

abbrev pub are_kept_by_promotions : CTys → Bool
are_kept_by_promotions no_types = true
are_kept_by_promotions (more_types (ty form is_const) others) = is_kept_by_promotions form && are_kept_by_promotions others

module _ (types : CTypes) (counts : ℕ → ℕ → Bool) where
  abbrev mutual
    -- two types are compatible: their qualifiers are the same (6.7.3p9)
    pub agree : CTy → CTy → Bool
    agree (ty first first_const) (ty second second_const) = beq first_const second_const && forms_agree first second

    pub forms_agree : CTyForm → CTyForm → Bool
    forms_agree void void = true
    forms_agree (basic first) (basic second) = same_basic first second
    forms_agree (basic first) (enum_type second) = meet_in_basic types (basic first) (enum_type second)
    forms_agree (enum_type first) (basic second) = meet_in_basic types (enum_type first) (basic second)
    forms_agree (enum_type first) (enum_type second) = enums_agree types first second
    forms_agree (pointer first) (pointer second) = agree first second
    forms_agree (array first first_length) (array second second_length) =
        lengths_agree first_length second_length && agree first second
    forms_agree (record_type first) (record_type second) = (first == second) || counts first second
    forms_agree (function first first_params first_more) (function second second_params second_more) =
        agree first second && params_agree first_params first_more second_params second_more
    forms_agree _ _ = false

    -- parameter lists agree in their number and in whether further arguments may follow; a type without list goes with a
    -- list whose parameters take arguments as they are promoted
    pub params_agree : CParams → Bool → CParams → Bool → Bool
    params_agree unlisted first_more unlisted second_more = true
    params_agree unlisted first_more (listed types) second_more = not second_more && are_kept_by_promotions types
    params_agree (listed types) first_more unlisted second_more = not first_more && are_kept_by_promotions types
    params_agree (listed first) first_more (listed second) second_more =
        beq first_more second_more && lists_agree first second

    -- the unqualified versions of parameters' types are compatible
    pub lists_agree : CTys → CTys → Bool
    lists_agree no_types no_types = true
    lists_agree (more_types (ty first first_const) firsts) (more_types (ty second second_const) seconds) =
        forms_agree first second && lists_agree firsts seconds
    lists_agree _ _ = false

-- ---- records of two units (6.2.7p1)

abbrev pub names_agree : Option (List ℕ) → Option (List ℕ) → Bool
names_agree = option_eq bytes_eq

abbrev pub widths_agree : Option ℕ → Option ℕ → Bool
widths_agree = option_eq (λ first second. first == second)

-- two members correspond: the same name, the same width of a bit-field, and compatible types
abbrev pub correspond : CTypes → (ℕ → ℕ → Bool) → CMember → CMember → Bool
correspond types counts first second =
    names_agree first.name second.name
    && widths_agree first.bits second.bits
    && agree types counts first.type second.type

-- the members of two structures correspond in their order
abbrev pub in_order : CTypes → (ℕ → ℕ → Bool) → List CMember → List CMember → Bool
in_order types counts [] [] = true
in_order types counts (first ∷ firsts) (second ∷ seconds) =
    correspond types counts first second && in_order types counts firsts seconds
in_order types counts _ _ = false

-- the first member of a list with a name
abbrev pub named_as : Option (List ℕ) → List CMember → Option CMember
named_as name [] = None
named_as name (one ∷ others) = if names_agree name one.name then Some one else named_as name others

-- a member corresponds to another, the first being of the first record, or `back` of the second
abbrev pub corresponds_to : CTypes → (ℕ → ℕ → Bool) → Bool → CMember → Option CMember → Bool
corresponds_to types counts back one None = false
corresponds_to types counts false one (Some other) = correspond types counts one other
corresponds_to types counts true one (Some other) = correspond types counts other one

-- two unnamed bit-fields of two units that correspond: the same width, and integer types that meet in one basic type
abbrev pub are_alike : CTypes → CMember → CMember → Bool
are_alike types first second =
    is_none first.name && is_none second.name
    && widths_agree first.bits second.bits
    && beq (is_const_type first.type) (is_const_type second.type)
    && meet_in_basic types (form_of_type first.type) (form_of_type second.type)

-- a member of a union has its own in another: a named one the member of its name, and an unnamed bit-field as many that are
-- like it as there are in its own union
abbrev pub has_partner : CTypes → (ℕ → ℕ → Bool) → Bool → List CMember → List CMember → CMember → Bool
has_partner types counts back own others one =
    if is_none one.name
    then count_by (are_alike types one) own == count_by (are_alike types one) others
    else corresponds_to types counts back one (named_as one.name others)

-- the members of two unions correspond one to one, in some order: each of either has its own in the other
abbrev pub in_some_order : CTypes → (ℕ → ℕ → Bool) → List CMember → List CMember → Bool
in_some_order types counts firsts seconds =
    list_all (has_partner types counts false firsts seconds) firsts && list_all (has_partner types counts true seconds firsts) seconds

abbrev pub members_agree : CTypes → (ℕ → ℕ → Bool) → Bool → List CMember → List CMember → Bool
members_agree types counts true = in_some_order types counts
members_agree types counts false = in_order types counts

-- where both are completed, their members correspond
abbrev pub contents_agree : CTypes → (ℕ → ℕ → Bool) → Bool → Option CRecord → Option CRecord → Bool
contents_agree types counts is_union (Some first) (Some second) = members_agree types counts is_union first.members second.members
contents_agree types counts is_union (Some first) None = true
contents_agree types counts is_union None second = true

-- both are structures or both unions, with the same tag or both without
abbrev pub tags_agree : CRecordTag → CRecordTag → Bool
tags_agree first second = beq first.is_union second.is_union && names_agree first.tag second.tag

abbrev pub records_agree : CTypes → (ℕ → ℕ → Bool) → ℕ → ℕ → Option CRecordTag → Option CRecordTag → Bool
records_agree types counts first second (Some first_tag) (Some second_tag) =
    tags_agree first_tag second_tag
    && contents_agree types counts first_tag.is_union
    (option_flatten (slice_get types.records first)) (option_flatten (slice_get types.records second))
records_agree types counts first second (Some first_tag) None = false
records_agree types counts first second None second_tag = false

-- two records are of two units and meet 6.2.7p1
abbrev pub pair_agrees : CTypes → (ℕ → ℕ → Bool) → RecordPair → Bool
pair_agrees types counts pair =
    of_two_units types.record_units pair.first pair.second
    && records_agree types counts pair.first pair.second
    (slice_get types.record_tags pair.first) (slice_get types.record_tags pair.second)

-- ---- compatible types

-- a pair of records is in a set
abbrev pub in_pairs : List RecordPair → ℕ → ℕ → Bool
in_pairs pairs first second = list_any (λ pair. (pair.first == first) && (pair.second == second)) pairs

-- a set of pairs of records is good: each of its pairs meets 6.2.7p1 when every pair of the set counts as compatible
abbrev pub is_good : CTypes → List RecordPair → Bool
is_good types pairs = list_all (pair_agrees types (in_pairs pairs)) pairs

-- two types are compatible: so they are when the pairs of some good set count as compatible
pub record AreCompatible (types : CTypes) (first second : CTy) : Type 0 where
  pub pairs : List RecordPair
  pub good : IsTrue (is_good types pairs)
  pub meet : IsTrue (agree types (in_pairs pairs) first second)
