-- The pairs of different records that have to be compatible so that two types, or two records, are; and how they are gathered.
-- Named by the contracts of `compatible`'s parts alone.
use Rattle.std.specs.Prelude.{ℕ, ◌==◌, ◌&&◌, not, Bool, true, false, if◌then◌else◌, List, [], ◌∷◌, ◌++◌, Option, None, Some, slice_get, is_none, option_map}
use Rattle.std.specs.Bool.{beq}
use Rattle.std.specs.List.{count_by}
use Rattle.std.specs.Option.{option_and_then, option_flatten}
use Rattle.cx_core.specs.declared.compatibility.RecordPair.{RecordPair}
use Rattle.cx_core.specs.Compatible.{of_two_units, meet_in_basic, enums_agree, lengths_agree, are_kept_by_promotions, names_agree, widths_agree, named_as, are_alike, tags_agree, in_pairs}
use Rattle.cx_core.specs.Conversions.{same_basic}
use Rattle.cx_core.specs.Trees.{CTy, ty, CTyForm, void, basic, enum_type, pointer, array, record_type, function, CParams, unlisted, listed, CTys, no_types, more_types, CMember, CRecord, CRecordTag, CTypes}

-- what is needed: none where nothing is enough
abbrev pub Need : Type 0
Need = Option (List RecordPair)

-- nothing where it holds
abbrev pub when : Bool → Need
when holds = if holds then Some [] else None

-- this where it holds
abbrev pub only_if : Bool → Need → Need
only_if holds need = if holds then need else None

-- both
abbrev pub with_both : List RecordPair → Need → Need
with_both first need = option_map (λ second. first ++ second) need

abbrev pub both : Need → Need → Need
both first second = option_and_then (λ pairs. with_both pairs second) first

abbrev pub pair_of : ℕ → ℕ → RecordPair
pair_of first second = record { first = first; second = second }

-- the pair of two records, where they are different
abbrev pub pair_needed : ℕ → ℕ → Need
pair_needed first second = if first == second then Some [] else Some (pair_of first second ∷ [])

-- what the elements of a list need, one behind the other
abbrev pub each : {X : Type 0} → (X → Need) → List X → Need
each f [] = Some []
each f (one ∷ others) = both (f one) (each f others)

-- what the elements of two lists need of each other, in their order
abbrev pub pairwise : {X : Type 0} → (X → X → Need) → List X → List X → Need
pairwise f [] [] = Some []
pairwise f (first ∷ firsts) (second ∷ seconds) = both (f first second) (pairwise f firsts seconds)
pairwise f _ _ = None

module _ (types : CTypes) where
  abbrev mutual
    pub needed : CTy → CTy → Need
    needed (ty first first_const) (ty second second_const) = only_if (beq first_const second_const) (needed_forms first second)

    pub needed_forms : CTyForm → CTyForm → Need
    needed_forms void void = Some []
    needed_forms (basic first) (basic second) = when (same_basic first second)
    needed_forms (basic first) (enum_type second) = when (meet_in_basic types (basic first) (enum_type second))
    needed_forms (enum_type first) (basic second) = when (meet_in_basic types (enum_type first) (basic second))
    needed_forms (enum_type first) (enum_type second) = when (enums_agree types first second)
    needed_forms (pointer first) (pointer second) = needed first second
    needed_forms (array first first_length) (array second second_length) =
        only_if (lengths_agree first_length second_length) (needed first second)
    needed_forms (record_type first) (record_type second) = pair_needed first second
    needed_forms (function first first_params first_more) (function second second_params second_more) =
        both (needed first second) (needed_params first_params first_more second_params second_more)
    needed_forms _ _ = None

    pub needed_params : CParams → Bool → CParams → Bool → Need
    needed_params unlisted first_more unlisted second_more = Some []
    needed_params unlisted first_more (listed params) second_more = when (not second_more && are_kept_by_promotions params)
    needed_params (listed params) first_more unlisted second_more = when (not first_more && are_kept_by_promotions params)
    needed_params (listed first) first_more (listed second) second_more =
        only_if (beq first_more second_more) (needed_lists first second)

    pub needed_lists : CTys → CTys → Need
    needed_lists no_types no_types = Some []
    needed_lists (more_types (ty first first_const) firsts) (more_types (ty second second_const) seconds) =
        both (needed_forms first second) (needed_lists firsts seconds)
    needed_lists _ _ = None

-- the same of the unqualified versions of two types
abbrev pub needed_unqualified : CTypes → CTy → CTy → Need
needed_unqualified types (ty first first_const) (ty second second_const) = needed_forms types first second

-- ---- records

abbrev pub needed_members : CTypes → CMember → CMember → Need
needed_members types first second =
    only_if (names_agree first.name second.name && widths_agree first.bits second.bits) (needed types first.type second.type)

abbrev pub needed_in_order : CTypes → List CMember → List CMember → Need
needed_in_order types firsts seconds = pairwise (needed_members types) firsts seconds

abbrev pub needed_partner : CTypes → Bool → CMember → Option CMember → Need
needed_partner types back one None = None
needed_partner types false one (Some other) = needed_members types one other
needed_partner types true one (Some other) = needed_members types other one

abbrev pub needed_by_one : CTypes → Bool → List CMember → List CMember → CMember → Need
needed_by_one types back own others one =
    if is_none one.name
    then when (count_by (are_alike types one) own == count_by (are_alike types one) others)
    else needed_partner types back one (named_as one.name others)

abbrev pub needed_in_some_order : CTypes → List CMember → List CMember → Need
needed_in_some_order types firsts seconds =
    both (each (needed_by_one types false firsts seconds) firsts) (each (needed_by_one types true seconds firsts) seconds)

abbrev pub needed_by_members : CTypes → Bool → List CMember → List CMember → Need
needed_by_members types true firsts seconds = needed_in_some_order types firsts seconds
needed_by_members types false firsts seconds = needed_in_order types firsts seconds

abbrev pub needed_contents : CTypes → Bool → Option CRecord → Option CRecord → Need
needed_contents types is_union (Some first) (Some second) = needed_by_members types is_union first.members second.members
needed_contents types is_union (Some first) None = Some []
needed_contents types is_union None second = Some []

abbrev pub needed_records : CTypes → ℕ → ℕ → Option CRecordTag → Option CRecordTag → Need
needed_records types first second (Some first_tag) (Some second_tag) =
    only_if (tags_agree first_tag second_tag) (needed_contents types first_tag.is_union
    (option_flatten (slice_get types.records first)) (option_flatten (slice_get types.records second)))
needed_records types first second (Some first_tag) None = None
needed_records types first second None second_tag = None

-- what two different records need of others
abbrev pub needed_by_pair : CTypes → RecordPair → Need
needed_by_pair types pair =
    only_if (of_two_units types.record_units pair.first pair.second)
    (needed_records types pair.first pair.second (slice_get types.record_tags pair.first) (slice_get types.record_tags pair.second))

-- ---- gathering

-- a pair is put behind others where it isn't among them
abbrev pub with_pair : List RecordPair → RecordPair → List RecordPair
with_pair pairs one = if in_pairs pairs one.first one.second then pairs else pairs ++ one ∷ []

abbrev pub with_pairs : List RecordPair → List RecordPair → List RecordPair
with_pairs pairs [] = pairs
with_pairs pairs (one ∷ others) = with_pairs (with_pair pairs one) others

-- the pairs with those that are needed
abbrev pub gathered : List RecordPair → Need → Need
gathered pairs need = option_map (with_pairs pairs) need

-- what an answer says of the pairs that stand then
abbrev pub answer : Bool → List RecordPair → Need
answer found pairs = if found then Some pairs else None
