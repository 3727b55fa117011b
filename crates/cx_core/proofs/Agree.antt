-- What types and records need of each other is just what makes them agree.
use Rattle.std.proofs.Common.{◌≡◌, ℕ, ◌==◌, ◌&&◌, ◌||◌, Bool, true, false, List, [], ◌∷◌, Option, None, Some, refl, sym, ap, ◌∙◌, if◌then◌else◌, slice_get}
use Rattle.std.proofs.Math.Bool.{and-true}
use Rattle.std.proofs.lemmas.List.Folds.{list_all-append}
use Rattle.std.specs.Bool.{beq}
use Rattle.std.specs.List.{list_all}
use Rattle.std.specs.Option.{is_none}
use Rattle.cx_core.specs.declared.compatibility.RecordPair.{RecordPair}
use Rattle.cx_core.specs.Compatible.{agree, forms_agree, params_agree, lists_agree, correspond, in_order, has_partner, corresponds_to, named_as, members_agree, contents_agree, records_agree, pair_agrees, lengths_agree, tags_agree, of_two_units}
use Rattle.cx_core.specs.Needed.{Need, when, only_if, with_both, both, each, needed, needed_forms, needed_params, needed_lists, needed_members, needed_in_order, needed_partner, needed_by_one, needed_by_members, needed_contents, needed_records, needed_by_pair}
use Rattle.cx_core.specs.Trees.{CTy, ty, CTyForm, void, basic, enum_type, pointer, array, record_type, function, CParams, unlisted, listed, CTys, no_types, more_types, CMember, CRecord, CRecordTag, CTypes}

-- a pair counts
abbrev pub counts_pair : (ℕ → ℕ → Bool) → RecordPair → Bool
counts_pair counts pair = counts pair.first pair.second

-- what is needed counts
abbrev pub covers : (ℕ → ℕ → Bool) → Need → Bool
covers counts None = false
covers counts (Some pairs) = list_all (counts_pair counts) pairs

and_false : (b : Bool) → b && false ≡ false
and_false true = refl
and_false false = refl

covers_with : (counts : ℕ → ℕ → Bool) (first : List RecordPair) (second : Need) → covers counts (with_both first second) ≡ list_all (counts_pair counts) first && covers counts second
covers_with counts first None = sym (and_false _)
covers_with counts first (Some pairs) = list_all-append (counts_pair counts) first pairs

pub covers_both : (counts : ℕ → ℕ → Bool) (first second : Need) → covers counts (both first second) ≡ covers counts first && covers counts second
covers_both counts None second = refl
covers_both counts (Some pairs) second = covers_with counts pairs second

pub covers_only_if : (counts : ℕ → ℕ → Bool) (holds : Bool) (need : Need) → covers counts (only_if holds need) ≡ holds && covers counts need
covers_only_if counts true need = refl
covers_only_if counts false need = refl

pub covers_when : (counts : ℕ → ℕ → Bool) (holds : Bool) → covers counts (when holds) ≡ holds
covers_when counts true = refl
covers_when counts false = refl

only_if_agrees : (counts : ℕ → ℕ → Bool) (holds agrees : Bool) (need : Need) → agrees ≡ covers counts need → holds && agrees ≡ covers counts (only_if holds need)
only_if_agrees counts holds agrees need same = ap (λ b. holds && b) same ∙ sym (covers_only_if counts holds need)

both_agree : (counts : ℕ → ℕ → Bool) (first second : Bool) (first_need second_need : Need) → first ≡ covers counts first_need → second ≡ covers counts second_need → first && second ≡ covers counts (both first_need second_need)
both_agree counts first second first_need second_need same then_same =
    ap (λ b. b && second) same ∙ ap (λ b. covers counts first_need && b) then_same ∙ sym (covers_both counts first_need second_need)

pair_by : (counts : ℕ → ℕ → Bool) (same : Bool) (pair : RecordPair) → same || counts_pair counts pair ≡ covers counts (if same then Some [] else Some (pair ∷ []))
pair_by counts true pair = refl
pair_by counts false pair = sym (and-true (counts_pair counts pair))

module _ (types : CTypes) (counts : ℕ → ℕ → Bool) where
  mutual
    pub agree_needed : (first second : CTy) → agree types counts first second ≡ covers counts (needed types first second)
    agree_needed (ty first first_const) (ty second second_const) =
        only_if_agrees counts (beq first_const second_const) _ _ (forms_needed first second)

    pub forms_needed : (first second : CTyForm) → forms_agree types counts first second ≡ covers counts (needed_forms types first second)
    forms_needed void void = refl
    forms_needed (basic first) (basic second) = sym (covers_when counts _)
    forms_needed (basic first) (enum_type second) = sym (covers_when counts _)
    forms_needed (enum_type first) (basic second) = sym (covers_when counts _)
    forms_needed (enum_type first) (enum_type second) = sym (covers_when counts _)
    forms_needed (pointer first) (pointer second) = agree_needed first second
    forms_needed (array first first_length) (array second second_length) =
        only_if_agrees counts (lengths_agree first_length second_length) _ _ (agree_needed first second)
    forms_needed (record_type first) (record_type second) = pair_by counts (first == second) (record { first = first; second = second })
    forms_needed (function first first_params first_more) (function second second_params second_more) =
        both_agree counts _ _ _ _ (agree_needed first second) (params_needed first_params first_more second_params second_more)
    forms_needed _ _ = refl

    pub params_needed : (first : CParams) (first_more : Bool) (second : CParams) (second_more : Bool) → params_agree types counts first first_more second second_more ≡ covers counts (needed_params types first first_more second second_more)
    params_needed unlisted first_more unlisted second_more = refl
    params_needed unlisted first_more (listed params) second_more = sym (covers_when counts _)
    params_needed (listed params) first_more unlisted second_more = sym (covers_when counts _)
    params_needed (listed first) first_more (listed second) second_more =
        only_if_agrees counts (beq first_more second_more) _ _ (lists_needed first second)

    pub lists_needed : (first second : CTys) → lists_agree types counts first second ≡ covers counts (needed_lists types first second)
    lists_needed no_types no_types = refl
    lists_needed no_types (more_types second seconds) = refl
    lists_needed (more_types (ty first first_const) firsts) no_types = refl
    lists_needed (more_types (ty first first_const) firsts) (more_types (ty second second_const) seconds) =
        both_agree counts _ _ _ _ (forms_needed first second) (lists_needed firsts seconds)

-- ---- records

module _ (types : CTypes) (counts : ℕ → ℕ → Bool) where
  members_needed : (first second : CMember) → correspond types counts first second ≡ covers counts (needed_members types first second)
  members_needed first second = only_if_agrees counts _ _ _ (agree_needed types counts first.type second.type)

  in_order_needed : (firsts seconds : List CMember) → in_order types counts firsts seconds ≡ covers counts (needed_in_order types firsts seconds)
  in_order_needed [] [] = refl
  in_order_needed [] (second ∷ seconds) = refl
  in_order_needed (first ∷ firsts) [] = refl
  in_order_needed (first ∷ firsts) (second ∷ seconds) =
      both_agree counts _ _ _ _ (members_needed first second) (in_order_needed firsts seconds)

  partner_needed : (back : Bool) (one : CMember) (other : Option CMember) → corresponds_to types counts back one other ≡ covers counts (needed_partner types back one other)
  partner_needed back one None = refl
  partner_needed false one (Some other) = members_needed one other
  partner_needed true one (Some other) = members_needed other one

  one_by : (unnamed alike back : Bool) (one : CMember) (other : Option CMember) → (if unnamed then alike else corresponds_to types counts back one other) ≡ covers counts (if unnamed then when alike else needed_partner types back one other)
  one_by true alike back one other = sym (covers_when counts alike)
  one_by false alike back one other = partner_needed back one other

  one_needed : (back : Bool) (own others : List CMember) (one : CMember) → has_partner types counts back own others one ≡ covers counts (needed_by_one types back own others one)
  one_needed back own others one = one_by (is_none one.name) _ back one (named_as one.name others)

  each_needed : (back : Bool) (own others members : List CMember) → list_all (has_partner types counts back own others) members ≡ covers counts (each (needed_by_one types back own others) members)
  each_needed back own others [] = refl
  each_needed back own others (one ∷ more) =
      both_agree counts _ _ _ _ (one_needed back own others one) (each_needed back own others more)

  by_members_needed : (is_union : Bool) (firsts seconds : List CMember) → members_agree types counts is_union firsts seconds ≡ covers counts (needed_by_members types is_union firsts seconds)
  by_members_needed true firsts seconds =
      both_agree counts _ _ _ _ (each_needed false firsts seconds firsts) (each_needed true seconds firsts seconds)
  by_members_needed false firsts seconds = in_order_needed firsts seconds

  contents_needed : (is_union : Bool) (first second : Option CRecord) → contents_agree types counts is_union first second ≡ covers counts (needed_contents types is_union first second)
  contents_needed is_union (Some first) (Some second) = by_members_needed is_union first.members second.members
  contents_needed is_union (Some first) None = refl
  contents_needed is_union None second = refl

  records_needed : (first second : ℕ) (first_tag second_tag : Option CRecordTag) → records_agree types counts first second first_tag second_tag ≡ covers counts (needed_records types first second first_tag second_tag)
  records_needed first second (Some first_tag) (Some second_tag) =
      only_if_agrees counts (tags_agree first_tag second_tag) _ _ (contents_needed first_tag.is_union _ _)
  records_needed first second (Some first_tag) None = refl
  records_needed first second None second_tag = refl

  pub pair_needed_is : (pair : RecordPair) → pair_agrees types counts pair ≡ covers counts (needed_by_pair types pair)
  pair_needed_is pair =
      only_if_agrees counts (of_two_units types.record_units pair.first pair.second) _ _
      (records_needed pair.first pair.second (slice_get types.record_tags pair.first) (slice_get types.record_tags pair.second))
