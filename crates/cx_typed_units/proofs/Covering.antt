-- What goes with a type that says all that another one says goes with the other one (ISO C99, 6.2.7p3).
use Rattle.std.proofs.Common.{◌≡◌, ℕ, ◌==◌, Bool, true, false, not, ◌&&◌, ◌||◌, Option, None, Some, option_map, refl, sym, ap, ◌∙◌, subst}
use Rattle.std.specs.Bool.{beq}
use Rattle.cx_core.proofs.Relation.{compatible_reflexive, compatible_symmetric}
use Rattle.cx_core.specs.declared.ty.Basic.{Basic}
use Rattle.cx_core.specs.declared.ty.Basic.TheVariants.{Int, Unsigned}
use Rattle.cx_core.specs.Compatible.{agree, forms_agree, params_agree, lists_agree, lengths_agree, of_two_units, meet_in_basic, same_basics, is_kept_by_promotions, are_kept_by_promotions, in_pairs, AreCompatible}
use Rattle.cx_core.specs.Conversions.{basic_of, basic_of_enum, same_basic}
use Rattle.cx_core.specs.Trees.{CTy, ty, CTyForm, void, basic, enum_type, pointer, array, record_type, function, CParams, unlisted, listed, CTys, no_types, more_types, CTypes}
use Rattle.cx_typed.proofs.Same.{both, basic_is, bool_is, number_is}
use Rattle.cx_typed_units.specs.Covers.{Covers, CoversForm, CoversParams, CoversTypes, CoversLength}

pub and_both : (a b : Bool) → a ≡ true → b ≡ true → (a && b) ≡ true
and_both true b first second = second
and_both false b first second = absurd cc

-- ---- integer types

pub basic_itself : (which : Basic) → same_basic which which ≡ true
unfolding same_basic
basic_itself Int = refl
basic_itself _ = refl

meet_both : (found : Option Basic) (one other : Basic) → same_basics (Some one) found ≡ true → same_basics (Some other) found ≡ true → same_basic one other ≡ true
meet_both None one other first second = absurd cc
meet_both (Some which) one other first second =
    subst (λ x. same_basic one x ≡ true) (sym (basic_is other which second)) first

pub meet_turned : (found : Option Basic) (one : Basic) → same_basics (Some one) found ≡ true → same_basics found (Some one) ≡ true
meet_turned None one held = absurd cc
meet_turned (Some which) one held = subst (λ x. same_basic x one ≡ true) (basic_is one which held) (basic_itself one)

meet_through : (few many : Option Basic) (one : Basic) → same_basics few many ≡ true → same_basics (Some one) many ≡ true → same_basics few (Some one) ≡ true
meet_through None many one first second = absurd cc
meet_through (Some which) None one first second = absurd cc
meet_through (Some which) (Some other) one first second = subst (λ x. same_basic which x ≡ true) (sym (basic_is one other second)) first

-- an enumerated type is compatible with `int` or `unsigned int`, which the promotions keep
pub kept_enum : (found : Option Bool) (one : Basic) → same_basics (Some one) (option_map basic_of_enum found) ≡ true → is_kept_by_promotions (basic one) ≡ true
unfolding same_basic
kept_enum None one held = absurd cc
kept_enum (Some true) one held = subst (λ x. is_kept_by_promotions (basic x) ≡ true) (sym (basic_is one Int held)) refl
kept_enum (Some false) one held = subst (λ x. is_kept_by_promotions (basic x) ≡ true) (sym (basic_is one Unsigned held)) refl

-- ---- lengths

length_back : (length one part : Option ℕ) → CoversLength one part → lengths_agree length one ≡ true → lengths_agree length part ≡ true
length_back (Some count) one None covers held = refl
length_back None one None covers held = refl
length_back length (Some one) (Some part) covers held = subst (λ n. lengths_agree length (Some n) ≡ true) covers held
length_back length None (Some part) covers held = absurd covers

length_itself : (length : Option ℕ) → CoversLength length length
length_itself None = tt
length_itself (Some count) = refl

length_through : (one two three : Option ℕ) → CoversLength one two → CoversLength two three → CoversLength one three
length_through one two None first second = tt
length_through (Some one) (Some two) (Some three) first second = first ∙ second
length_through None (Some two) (Some three) first second = absurd first
length_through one None (Some three) first second = absurd second

module _ (types : CTypes) where
  -- ---- what the promotions keep

  kept_covered : (one part : CTyForm) → CoversForm types one part → is_kept_by_promotions one ≡ true → is_kept_by_promotions part ≡ true
  kept_covered (basic one) (basic part) covers kept = subst (λ x. is_kept_by_promotions (basic x) ≡ true) covers kept
  kept_covered (enum_type one) (basic part) covers kept = kept_enum _ part covers
  kept_covered void (basic part) covers kept = absurd covers
  kept_covered (pointer one) (basic part) covers kept = absurd covers
  kept_covered (array one length) (basic part) covers kept = absurd covers
  kept_covered (record_type one) (basic part) covers kept = absurd covers
  kept_covered (function one ones more) (basic part) covers kept = absurd covers
  kept_covered one part covers kept = refl

  all_kept_covered : (ones parts : CTys) → CoversTypes types ones parts → are_kept_by_promotions ones ≡ true → are_kept_by_promotions parts ≡ true
  all_kept_covered no_types no_types covers kept = refl
  all_kept_covered no_types (more_types part parts) covers kept = absurd covers
  all_kept_covered (more_types (ty one one_const) ones) no_types covers kept = absurd covers
  all_kept_covered (more_types (ty one one_const) ones) (more_types (ty part part_const) parts) covers kept =
      and_both _ _ (kept_covered one part covers.0 (both kept).0) (all_kept_covered ones parts covers.1 (both kept).1)

  kept_covers : (one part : CTyForm) → CoversForm types one part → is_kept_by_promotions part ≡ true → is_kept_by_promotions one ≡ true
  kept_covers (basic one) (basic part) covers kept = subst (λ x. is_kept_by_promotions (basic x) ≡ true) (sym covers) kept
  kept_covers (basic one) void covers kept = absurd covers
  kept_covers (basic one) (enum_type part) covers kept = absurd covers
  kept_covers (basic one) (pointer part) covers kept = absurd covers
  kept_covers (basic one) (array part length) covers kept = absurd covers
  kept_covers (basic one) (record_type part) covers kept = absurd covers
  kept_covers (basic one) (function part parts more) covers kept = absurd covers
  kept_covers one part covers kept = refl

  all_kept_covers : (ones parts : CTys) → CoversTypes types ones parts → are_kept_by_promotions parts ≡ true → are_kept_by_promotions ones ≡ true
  all_kept_covers no_types no_types covers kept = refl
  all_kept_covers no_types (more_types part parts) covers kept = refl
  all_kept_covers (more_types (ty one one_const) ones) no_types covers kept = absurd covers
  all_kept_covers (more_types (ty one one_const) ones) (more_types (ty part part_const) parts) covers kept =
      and_both _ _ (kept_covers one part covers.0 (both kept).0) (all_kept_covers ones parts covers.1 (both kept).1)

  -- ---- a type says all that it says itself

  mutual
    pub covers_itself : (type : CTy) → Covers types type type
    covers_itself (ty form is_const) = (refl, form_itself form)

    pub form_itself : (form : CTyForm) → CoversForm types form form
    form_itself void = tt
    form_itself (basic which) = refl
    form_itself (enum_type number) = refl
    form_itself (pointer to) = covers_itself to
    form_itself (array element length) = (length_itself length, covers_itself element)
    form_itself (record_type number) = refl
    form_itself (function result params more) = (covers_itself result, params_itself params more)

    params_itself : (params : CParams) (more : Bool) → CoversParams types params more params more
    params_itself unlisted more = refl
    params_itself (listed list) more = (refl, types_itself list)

    pub types_itself : (list : CTys) → CoversTypes types list list
    types_itself no_types = tt
    types_itself (more_types (ty form is_const) others) = (form_itself form, types_itself others)

  -- ---- and what its parts' parts say

  mutual
    pub covers_through : (one two three : CTy) → Covers types one two → Covers types two three → Covers types one three
    covers_through (ty one one_const) (ty two two_const) (ty three three_const) first second = (first.0 ∙ second.0, form_through one two three first.1 second.1)

    form_through : (one two three : CTyForm) → CoversForm types one two → CoversForm types two three → CoversForm types one three
    form_through void void three first second = second
    form_through (basic one) (basic two) three first second = subst (λ x. CoversForm types (basic x) three) (sym first) second
    form_through (enum_type one) (basic two) (basic three) first second = subst (λ x. same_basics (Some x) (basic_of types (enum_type one)) ≡ true) second first
    form_through (enum_type one) (enum_type two) three first second = subst (λ x. CoversForm types (enum_type x) three) (sym first) second
    form_through (record_type one) (record_type two) three first second = subst (λ x. CoversForm types (record_type x) three) (sym first) second
    form_through (pointer one) (pointer two) (pointer three) first second = covers_through one two three first second
    form_through (array one one_length) (array two two_length) (array three three_length) first second =
        (length_through one_length two_length three_length first.0 second.0, covers_through one two three first.1 second.1)
    form_through (function one ones one_more) (function two twos two_more) (function three threes three_more) first second =
        (covers_through one two three first.0 second.0, params_through ones twos threes one_more two_more three_more first.1 second.1)
    form_through (enum_type one) (basic two) three first second = absurd second
    form_through (pointer one) (pointer two) three first second = absurd second
    form_through (array one one_length) (array two two_length) three first second = absurd second
    form_through (function one ones one_more) (function two twos two_more) three first second = absurd second
    form_through one two three first second = absurd first

    params_through : (ones twos threes : CParams) (one_more two_more three_more : Bool) → CoversParams types ones one_more twos two_more → CoversParams types twos two_more threes three_more
        → CoversParams types ones one_more threes three_more
    params_through unlisted unlisted unlisted one_more two_more three_more first second = first ∙ second
    params_through unlisted unlisted (listed threes) one_more two_more three_more first second = second
    params_through unlisted (listed twos) threes one_more two_more three_more first second = absurd first
    params_through (listed ones) unlisted unlisted one_more two_more three_more first second = first
    params_through (listed ones) unlisted (listed threes) one_more two_more three_more first second = absurd second
    params_through (listed ones) (listed twos) unlisted one_more two_more three_more first second = (first.0 ∙ second.0, all_kept_covers ones twos first.1 second.1)
    params_through (listed ones) (listed twos) (listed threes) one_more two_more three_more first second = (first.0 ∙ second.0, types_through ones twos threes first.1 second.1)

    types_through : (ones twos threes : CTys) → CoversTypes types ones twos → CoversTypes types twos threes → CoversTypes types ones threes
    types_through no_types no_types threes first second = second
    types_through (more_types (ty one one_const) ones) (more_types (ty two two_const) twos) (more_types (ty three three_const) threes) first second =
        (form_through one two three first.0 second.0, types_through ones twos threes first.1 second.1)
    types_through (more_types (ty one one_const) ones) (more_types (ty two two_const) twos) no_types first second = absurd second
    types_through (more_types (ty one one_const) ones) no_types threes first second = absurd first
    types_through no_types (more_types two twos) threes first second = absurd first

  -- ---- what goes with it

  module _ (counts : ℕ → ℕ → Bool) where
    enum_by : (one : ℕ) (which : Basic) (number : ℕ) (same : Bool) → (one == number) ≡ same → same_basics (Some which) (basic_of types (enum_type number)) ≡ true
        → (same || (of_two_units types.enum_units one number && meet_in_basic types (enum_type one) (enum_type number))) ≡ true → same_basics (basic_of types (enum_type one)) (Some which) ≡ true
    enum_by one which number true is meets held =
        subst (λ n. same_basics (basic_of types (enum_type n)) (Some which) ≡ true) (sym (number_is one number is)) (meet_turned (basic_of types (enum_type number)) which meets)
    enum_by one which number false is meets held = meet_through (basic_of types (enum_type one)) (basic_of types (enum_type number)) which (both held).1 meets

    basic_enum : (x : CTyForm) (which : Basic) (number : ℕ) → same_basics (Some which) (basic_of types (enum_type number)) ≡ true → forms_agree types counts x (enum_type number) ≡ true
        → forms_agree types counts x (basic which) ≡ true
    basic_enum (basic one) which number meets held = meet_both (basic_of types (enum_type number)) one which held meets
    basic_enum (enum_type one) which number meets held = enum_by one which number (one == number) refl meets held
    basic_enum x which number meets held = held

    pointer_back : (x : CTyForm) (from to : CTy) → ((inner : CTy) → agree types counts inner from ≡ true → agree types counts inner to ≡ true)
        → forms_agree types counts x (pointer from) ≡ true → forms_agree types counts x (pointer to) ≡ true
    pointer_back (pointer inner) from to each held = each inner held
    pointer_back x from to each held = held

    array_back : (x : CTyForm) (from to : CTy) (from_length to_length : Option ℕ) → ((inner : CTy) → agree types counts inner from ≡ true → agree types counts inner to ≡ true)
        → ((length : Option ℕ) → lengths_agree length from_length ≡ true → lengths_agree length to_length ≡ true)
        → forms_agree types counts x (array from from_length) ≡ true → forms_agree types counts x (array to to_length) ≡ true
    array_back (array inner length) from to from_length to_length each lengths held = and_both _ _ (lengths length (both held).0) (each inner (both held).1)
    array_back x from to from_length to_length each lengths held = held

    function_back : (x : CTyForm) (from to : CTy) (from_params to_params : CParams) (from_more to_more : Bool)
        → ((inner : CTy) → agree types counts inner from ≡ true → agree types counts inner to ≡ true)
        → ((params : CParams) (more : Bool) → params_agree types counts params more from_params from_more ≡ true → params_agree types counts params more to_params to_more ≡ true)
        → forms_agree types counts x (function from from_params from_more) ≡ true → forms_agree types counts x (function to to_params to_more) ≡ true
    function_back (function inner params more) from to from_params to_params from_more to_more each lists held = and_both _ _ (each inner (both held).0) (lists params more (both held).1)
    function_back x from to from_params to_params from_more to_more each lists held = held

    kept_form : (one other : CTyForm) → forms_agree types counts one other ≡ true → is_kept_by_promotions other ≡ true → is_kept_by_promotions one ≡ true
    kept_form (basic one) (basic other) is kept = subst (λ x. is_kept_by_promotions (basic x) ≡ true) (sym (basic_is one other is)) kept
    kept_form (basic one) (enum_type number) is kept = kept_enum _ one is
    kept_form (basic one) void is kept = absurd cc
    kept_form (basic one) (pointer to) is kept = absurd cc
    kept_form (basic one) (array element length) is kept = absurd cc
    kept_form (basic one) (record_type number) is kept = absurd cc
    kept_form (basic one) (function result params more) is kept = absurd cc
    kept_form one other is kept = refl

    kept_back : (ones others : CTys) → lists_agree types counts ones others ≡ true → are_kept_by_promotions others ≡ true → are_kept_by_promotions ones ≡ true
    kept_back no_types no_types is kept = refl
    kept_back no_types (more_types other others) is kept = refl
    kept_back (more_types (ty one one_const) ones) (more_types (ty other other_const) others) is kept = and_both _ _ (kept_form one other (both is).0 (both kept).0) (kept_back ones others (both is).1 (both kept).1)
    kept_back (more_types (ty one one_const) ones) no_types is kept = absurd cc

    mutual
      pub covered_agrees : (x one part : CTy) → Covers types one part → agree types counts x one ≡ true → agree types counts x part ≡ true
      covered_agrees (ty x x_const) (ty one one_const) (ty part part_const) covers held =
          and_both _ _ (subst (λ b. beq x_const b ≡ true) covers.0 (both held).0) (covered_form x one part covers.1 (both held).1)

      covered_form : (x one part : CTyForm) → CoversForm types one part → forms_agree types counts x one ≡ true → forms_agree types counts x part ≡ true
      covered_form x void void covers held = held
      covered_form x (basic one) (basic part) covers held = subst (λ n. forms_agree types counts x (basic n) ≡ true) covers held
      covered_form x (enum_type one) (basic part) covers held = basic_enum x part one covers held
      covered_form x (enum_type one) (enum_type part) covers held = subst (λ n. forms_agree types counts x (enum_type n) ≡ true) covers held
      covered_form x (record_type one) (record_type part) covers held = subst (λ n. forms_agree types counts x (record_type n) ≡ true) covers held
      covered_form x (pointer one) (pointer part) covers held = pointer_back x one part (λ inner h. covered_agrees inner one part covers h) held
      covered_form x (array one one_length) (array part part_length) covers held =
          array_back x one part one_length part_length (λ inner h. covered_agrees inner one part covers.1 h) (λ length h. length_back length one_length part_length covers.0 h) held
      covered_form x (function one ones one_more) (function part parts part_more) covers held =
          function_back x one part ones parts one_more part_more (λ inner h. covered_agrees inner one part covers.0 h)
          (λ list more h. covered_params list more ones parts one_more part_more covers.1 h) held
      covered_form x one part covers held = absurd covers

      covered_params : (list : CParams) (more : Bool) (ones parts : CParams) (one_more part_more : Bool) → CoversParams types ones one_more parts part_more
          → params_agree types counts list more ones one_more ≡ true → params_agree types counts list more parts part_more ≡ true
      covered_params unlisted more unlisted unlisted one_more part_more covers held = refl
      covered_params (listed list) more unlisted unlisted one_more part_more covers held = held
      covered_params list more unlisted (listed parts) one_more part_more covers held = absurd covers
      covered_params unlisted more (listed ones) unlisted one_more part_more covers held = refl
      covered_params (listed list) more (listed ones) unlisted one_more part_more covers held =
          let more_is : more ≡ false = bool_is more one_more (both held).0 ∙ covers.0 in
          and_both _ _ (ap not more_is) (kept_back list ones (both held).1 covers.1)
      covered_params unlisted more (listed ones) (listed parts) one_more part_more covers held =
          and_both _ _ (subst (λ m. not m ≡ true) covers.0 (both held).0) (all_kept_covered ones parts covers.1 (both held).1)
      covered_params (listed list) more (listed ones) (listed parts) one_more part_more covers held =
          and_both _ _ (subst (λ m. beq more m ≡ true) covers.0 (both held).0) (covered_lists list ones parts covers.1 (both held).1)

      covered_lists : (list ones parts : CTys) → CoversTypes types ones parts → lists_agree types counts list ones ≡ true → lists_agree types counts list parts ≡ true
      covered_lists list no_types no_types covers held = held
      covered_lists list no_types (more_types part parts) covers held = absurd covers
      covered_lists list (more_types (ty one one_const) ones) no_types covers held = absurd covers
      covered_lists (more_types (ty x x_const) list) (more_types (ty one one_const) ones) (more_types (ty part part_const) parts) covers held =
          and_both _ _ (covered_form x one part covers.0 (both held).0) (covered_lists list ones parts covers.1 (both held).1)
      covered_lists no_types (more_types (ty one one_const) ones) (more_types (ty part part_const) parts) covers held = held

  -- ---- compatible types

  -- what is compatible with a type is compatible with whatever says no more
  pub covered_compatible : (one part other : CTy) → Covers types one part → AreCompatible types one other → AreCompatible types part other
  covered_compatible one part other covers same =
      let turned = compatible_symmetric types one other same in
      compatible_symmetric types other part (record { pairs = turned.pairs; good = turned.good; meet = covered_agrees (in_pairs turned.pairs) other one part covers turned.meet })

  -- so is whatever says no more than that
  pub both_covered : (one part other piece : CTy) → Covers types one part → Covers types other piece → AreCompatible types one other → AreCompatible types part piece
  both_covered one part other piece first second same =
      let beside = covered_compatible one part other first same in
      record { pairs = beside.pairs; good = beside.good; meet = covered_agrees (in_pairs beside.pairs) part other piece second beside.meet }

  -- a type is compatible with what it says
  pub covers_compatible : (one part : CTy) → Covers types one part → AreCompatible types one part
  covers_compatible one part covers = compatible_symmetric types part one (covered_compatible one part one covers (compatible_reflexive types one))
