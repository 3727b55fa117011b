-- Two structures or unions of one unit are compatible where they are the same.
use Rattle.std.proofs.Common.{◌≡◌, refl, ap, ◌∙◌, ℕ, Bool, true, false, []}
use Rattle.std.specs.Prelude.{◌==◌, ◌&&◌, ◌||◌, Some, is_some}
use Rattle.std.specs.Bool.{beq}
use Rattle.cx_core.specs.Compatible.{in_pairs, forms_agree}
use Rattle.cx_core.specs.Trees.{CTy, ty, CTyForm, void, basic, enum_type, pointer, array, record_type, function, is_const_type, CTypes}
use Rattle.cx_pairs.specs.Records.{is_numbered}
use Rattle.cx_rules.specs.Pairs.{records_match}
use Rattle.cx_rules.specs.Types.{compatible, record_of, record_of_form}

or_false : (a : Bool) → (a || false) ≡ a
or_false true = refl
or_false false = refl

numbered_form : (types : CTypes) (number : ℕ) (form : CTyForm) → forms_agree types (in_pairs []) (record_type number) form ≡ is_numbered number (record_of_form form)
numbered_form types number void = refl
numbered_form types number (basic which) = refl
numbered_form types number (enum_type other) = refl
numbered_form types number (pointer to) = refl
numbered_form types number (array element length) = refl
numbered_form types number (record_type other) = or_false (number == other)
numbered_form types number (function result params variadic) = refl

compatible_by : (types : CTypes) (number : ℕ) (is_const : Bool) (second : CTy)
    → compatible types (ty (record_type number) is_const) second ≡ beq is_const (is_const_type second) && is_numbered number (record_of second)
compatible_by types number is_const (ty form second_const) = ap (λ b. beq is_const second_const && b) (numbered_form types number form)

pub compatible_records : (types : CTypes) (first second : CTy) (number : ℕ) → record_of first ≡ Some number
    → (is_some (record_of first) && compatible types first second) ≡ (beq (is_const_type first) (is_const_type second) && is_numbered number (record_of second))
compatible_records types (ty (record_type other) is_const) second number is =
    compatible_by types other is_const second ∙ ap (λ n. beq is_const (is_const_type second) && is_numbered n (record_of second)) (let e : other ≡ number = cc in e)
compatible_records types (ty void is_const) second number is = cc
compatible_records types (ty (basic which) is_const) second number is = cc
compatible_records types (ty (enum_type other) is_const) second number is = cc
compatible_records types (ty (pointer to) is_const) second number is = cc
compatible_records types (ty (array element length) is_const) second number is = cc
compatible_records types (ty (function result params variadic) is_const) second number is = cc

pub unqualified_records : (types : CTypes) (first second : CTy) (number : ℕ) → record_of first ≡ Some number
    → records_match types first second ≡ is_numbered number (record_of second)
unqualified_records types (ty (record_type other) is_const) (ty form second_const) number is =
    numbered_form types other form ∙ ap (λ n. is_numbered n (record_of_form form)) (let e : other ≡ number = cc in e)
unqualified_records types (ty void is_const) second number is = cc
unqualified_records types (ty (basic which) is_const) second number is = cc
unqualified_records types (ty (enum_type other) is_const) second number is = cc
unqualified_records types (ty (pointer to) is_const) second number is = cc
unqualified_records types (ty (array element length) is_const) second number is = cc
unqualified_records types (ty (function result params variadic) is_const) second number is = cc
