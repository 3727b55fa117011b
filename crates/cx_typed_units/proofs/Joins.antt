-- Types of several declarations of one thing (ISO C99, 6.2.7p2 to p4).
use Rattle.std.proofs.Common.{◌≡◌, ℕ, ◌==◌, Bool, true, false, not, ◌&&◌, ◌||◌, List, [], Option, None, Some, refl, sym, ◌∙◌, subst, arith}
use Rattle.std.proofs.lemmas.Bool.Decides.{nat_tests}
use Rattle.std.specs.Bool.{beq}
use Rattle.cx_core.proofs.Relation.{agree_symmetric}
use Rattle.cx_core.specs.Compatible.{agree, forms_agree, params_agree, lists_agree, lengths_agree, in_pairs, is_kept_by_promotions, are_kept_by_promotions}
use Rattle.cx_core.specs.Trees.{CTy, ty, CTyForm, void, basic, enum_type, pointer, array, record_type, function, CParams, unlisted, listed, CTys, no_types, more_types, CTypes}
use Rattle.cx_core.specs.ValidTypes.{IsTypeIn, IsFormIn, AreParamsIn, AreTypesIn}
use Rattle.cx_rules.specs.Types.{compatible, composite, composite_form, composite_params, composite_types, known_length}
use Rattle.cx_typed.proofs.Composites.{composite_in, composite_settled}
use Rattle.cx_typed.proofs.Same.{both, bool_is}
use Rattle.cx_typed.proofs.Scopes.{grows_not}
use Rattle.cx_typed.specs.Operands.{IsKnownType}
use Rattle.cx_typed_units.proofs.Covering.{basic_itself, covers_itself, covers_through, covered_agrees}
use Rattle.cx_typed_units.proofs.Filled.{first_type, second_type}
use Rattle.cx_typed_units.specs.Fills.{Fills}

and_both : (a b : Bool) → a ≡ true → b ≡ true → (a && b) ≡ true
and_both true b first second = second
and_both false b first second = absurd cc

or_left : (a b : Bool) → a ≡ true → (a || b) ≡ true
or_left true b is = refl
or_left false b is = absurd cc

same_number : (n : ℕ) → (n == n) ≡ true
same_number n = grind (arith, nat_tests)

same_flag : (b : Bool) → beq b b ≡ true
same_flag true = refl
same_flag false = refl

same_length : (length : Option ℕ) → lengths_agree length length ≡ true
same_length None = refl
same_length (Some n) = same_number n

-- ---- a type goes with itself

module _ (types : CTypes) (counts : ℕ → ℕ → Bool) where
  mutual
    pub agree_itself : (type : CTy) → agree types counts type type ≡ true
    agree_itself (ty form is_const) = and_both _ _ (same_flag is_const) (forms_itself form)

    forms_itself : (form : CTyForm) → forms_agree types counts form form ≡ true
    forms_itself void = refl
    forms_itself (basic which) = basic_itself which
    forms_itself (enum_type number) = or_left _ _ (same_number number)
    forms_itself (pointer to) = agree_itself to
    forms_itself (array element length) = and_both _ _ (same_length length) (agree_itself element)
    forms_itself (record_type number) = or_left _ _ (same_number number)
    forms_itself (function result params variadic) = and_both _ _ (agree_itself result) (params_itself params variadic)

    params_itself : (params : CParams) (variadic : Bool) → params_agree types counts params variadic params variadic ≡ true
    params_itself unlisted variadic = refl
    params_itself (listed params) variadic = and_both _ _ (same_flag variadic) (lists_itself params)

    lists_itself : (params : CTys) → lists_agree types counts params params ≡ true
    lists_itself no_types = refl
    lists_itself (more_types (ty form is_const) others) = and_both _ _ (forms_itself form) (lists_itself others)

pub compatible_back : (types : CTypes) (one other : CTy) → compatible types one other ≡ true → compatible types other one ≡ true
compatible_back types one other is = sym (agree_symmetric types (in_pairs []) (in_pairs []) (λ m n. refl) one other) ∙ is

-- ---- a type that goes with two goes with their composite

length_joined : (one other third : Option ℕ) → lengths_agree one third ≡ true → lengths_agree other third ≡ true → lengths_agree (known_length one other) third ≡ true
length_joined None other third first second = second
length_joined (Some count) other third first second = first

kept_joined_form : (one other : CTyForm) → is_kept_by_promotions one ≡ true → is_kept_by_promotions (composite_form one other) ≡ true
kept_joined_form (basic one) (enum_type other) first = refl
kept_joined_form (basic one) other first = first
kept_joined_form void other first = refl
kept_joined_form (enum_type one) other first = refl
kept_joined_form (pointer one) (pointer other) first = refl
kept_joined_form (pointer one) other first = refl
kept_joined_form (array one length) (array other other_length) first = refl
kept_joined_form (array one length) other first = refl
kept_joined_form (record_type one) other first = refl
kept_joined_form (function one ones more) (function other others other_more) first = refl
kept_joined_form (function one ones more) other first = refl

kept_joined : (ones others : CTys) → are_kept_by_promotions ones ≡ true → are_kept_by_promotions (composite_types ones others) ≡ true
kept_joined no_types others first = refl
kept_joined (more_types (ty one one_const) ones) (more_types (ty other other_const) others) first = and_both _ _ (kept_joined_form one other (both first).0) (kept_joined ones others (both first).1)
kept_joined (more_types one ones) no_types first = first

or_first : (a b : Bool) → b ≡ false → (a || b) ≡ a
or_first true b held = refl
or_first false b held = held

or_second : (a b : Bool) → a ≡ false → (a || b) ≡ b
or_second true b held = absurd cc
or_second false b held = refl

or_same : (a b : Bool) → a ≡ b → (a || b) ≡ a
or_same true b held = refl
or_same false b held = sym held

module _ (types : CTypes) (unit : ℕ) where
  mutual
    pub joined_type : (one other third : CTy) → IsTypeIn types unit one → IsTypeIn types unit other → compatible types one other ≡ true → compatible types one third ≡ true → compatible types other third ≡ true
        → compatible types (composite one other) third ≡ true
    joined_type (ty one one_const) (ty other other_const) (ty third third_const) i1 i2 is first second =
        and_both _ _ (both first).0 (joined_form one other third one_const other_const i1 i2 (both is).1 (both first).1 (both second).1)

    joined_form : (one other third : CTyForm) (one_const other_const : Bool) → IsFormIn types unit one_const one → IsFormIn types unit other_const other → forms_agree types (in_pairs []) one other ≡ true
        → forms_agree types (in_pairs []) one third ≡ true → forms_agree types (in_pairs []) other third ≡ true → forms_agree types (in_pairs []) (composite_form one other) third ≡ true
    joined_form (basic one) (enum_type other) third one_const other_const i1 i2 is first second = second
    joined_form (pointer one) (pointer other) (pointer third) one_const other_const i1 i2 is first second = joined_type one other third i1 i2 is first second
    joined_form (array one one_length) (array other other_length) (array third third_length) one_const other_const i1 i2 is first second =
        and_both _ _ (length_joined one_length other_length third_length (both first).0 (both second).0) (joined_type one other third i1.0 i2.0 (both is).1 (both first).1 (both second).1)
    joined_form (function one ones one_more) (function other others other_more) (function third thirds third_more) one_const other_const i1 i2 is first second =
        and_both _ _ (joined_type one other third i1.0 i2.0 (both is).0 (both first).0 (both second).0)
        (joined_params ones others thirds one_more other_more third_more i1.2 i2.2 (both is).1 (both first).1 (both second).1)
    joined_form void other third one_const other_const i1 i2 is first second = first
    joined_form (basic one) other third one_const other_const i1 i2 is first second = first
    joined_form (enum_type one) other third one_const other_const i1 i2 is first second = first
    joined_form (pointer one) other third one_const other_const i1 i2 is first second = first
    joined_form (array one one_length) other third one_const other_const i1 i2 is first second = first
    joined_form (record_type one) other third one_const other_const i1 i2 is first second = first
    joined_form (function one ones one_more) other third one_const other_const i1 i2 is first second = first

    joined_params : (ones others thirds : CParams) (one_more other_more third_more : Bool) → AreParamsIn types unit one_more ones → AreParamsIn types unit other_more others
        → params_agree types (in_pairs []) ones one_more others other_more ≡ true → params_agree types (in_pairs []) ones one_more thirds third_more ≡ true
        → params_agree types (in_pairs []) others other_more thirds third_more ≡ true → params_agree types (in_pairs []) (composite_params ones others) (one_more || other_more) thirds third_more ≡ true
    joined_params unlisted unlisted unlisted one_more other_more third_more i1 i2 is first second = refl
    joined_params unlisted unlisted (listed thirds) one_more other_more third_more i1 i2 is first second = first
    joined_params unlisted (listed others) thirds one_more other_more third_more i1 i2 is first second =
        subst (λ m. params_agree types (in_pairs []) (listed others) m thirds third_more ≡ true) (sym (or_second one_more other_more i1)) second
    joined_params (listed ones) unlisted thirds one_more other_more third_more i1 i2 is first second =
        subst (λ m. params_agree types (in_pairs []) (listed ones) m thirds third_more ≡ true) (sym (or_first one_more other_more i2)) first
    joined_params (listed ones) (listed others) unlisted one_more other_more third_more i1 i2 is first second =
        and_both _ _ (subst (λ m. not m ≡ true) (sym (or_same one_more other_more (bool_is one_more other_more (both is).0))) (both first).0) (kept_joined ones others (both first).1)
    joined_params (listed ones) (listed others) (listed thirds) one_more other_more third_more i1 i2 is first second =
        and_both _ _ (subst (λ m. beq m third_more ≡ true) (sym (or_same one_more other_more (bool_is one_more other_more (both is).0))) (both first).0)
        (joined_lists ones others thirds i1.1 i2.1 (both is).1 (both first).1 (both second).1)

    joined_lists : (ones others thirds : CTys) → AreTypesIn types unit ones → AreTypesIn types unit others → lists_agree types (in_pairs []) ones others ≡ true
        → lists_agree types (in_pairs []) ones thirds ≡ true → lists_agree types (in_pairs []) others thirds ≡ true → lists_agree types (in_pairs []) (composite_types ones others) thirds ≡ true
    joined_lists no_types others thirds i1 i2 is first second = first
    joined_lists (more_types (ty one one_const) ones) (more_types (ty other other_const) others) (more_types (ty third third_const) thirds) i1 i2 is first second =
        and_both _ _ (joined_form one other third one_const other_const i1.0 i2.0 (both is).0 (both first).0 (both second).0) (joined_lists ones others thirds i1.2 i2.2 (both is).1 (both first).1 (both second).1)
    joined_lists (more_types (ty one one_const) ones) (more_types (ty other other_const) others) no_types i1 i2 is first second = absurd cc
    joined_lists (more_types one ones) no_types thirds i1 i2 is first second = first

-- ---- what later declarations say

module _ (opens : List ℕ) (types : CTypes) (unit : ℕ) where
  pub fills_itself : (type : CTy) → Fills opens types type type
  fills_itself type now grows = covers_itself now type

  pub fills_through : (one two three : CTy) → Fills opens types one two → Fills opens types two three → Fills opens types one three
  fills_through one two three first second now grows = covers_through now three two one (second now grows) (first now grows)

  module _ (one other : CTy) (first : IsKnownType opens types unit one) (second : IsKnownType opens types unit other) (is : compatible types one other ≡ true) where
    pub fills_first : Fills opens types one (composite one other)
    fills_first now grows = first_type opens types now grows unit one other first.type_in second.type_in first.settled second.settled is

    pub fills_second : Fills opens types other (composite one other)
    fills_second now grows = second_type opens types now grows unit one other first.type_in second.type_in first.settled second.settled is

    pub composite_known : IsKnownType opens types unit (composite one other)
    composite_known = record { type_in = composite_in types unit one other is first.type_in second.type_in; settled = composite_settled opens one other first.settled second.settled }

  -- what goes with the later type goes with the earlier one
  pub earlier_goes : (earlier later other : CTy) → Fills opens types earlier later → compatible types other later ≡ true → compatible types other earlier ≡ true
  earlier_goes earlier later other fills is = covered_agrees types (in_pairs []) other later earlier (fills types (grows_not opens types)) is

  pub fills_agree : (earlier later : CTy) → Fills opens types earlier later → compatible types earlier later ≡ true
  fills_agree earlier later fills = compatible_back types later earlier (earlier_goes earlier later later fills (agree_itself types (in_pairs []) later))
