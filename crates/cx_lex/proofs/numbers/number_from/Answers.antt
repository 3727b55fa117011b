use Rattle.std.proofs.Common.{◌≡◌, ℕ, ◌^◌, ◌≤◌, ◌<◌, Err, Some, length, sym, ap, ◌∙◌, subst, arith}
use Rattle.std.proofs.lemmas.Bool.{eqb-true, eqb-false}
use Rattle.cx_lex.specs.Bytes.{number_of}
use Rattle.cx_lex.specs.Numbers.{typed, suffix_of, suffix_text, digits_of, value_of, Suffix}
use Rattle.cx_lex.proofs.NumberLemmas.{number_from-no_digits, number_from-no_suffix, number_from-found, number_from-large}
use Rattle.cx_lex.proofs.numbers.number_from.Goals as goal
use Rattle.cx_lex.proofs.numbers.number_from.Goals.{In-Some}

-- there are digits, and a suffix of the grammar, as the definitions see it
some_digits : (c : In-Some) → 0 < length (digits_of c.args.text.now)
some_digits c =
    let some = eqb-false (length c.digits_of-digits.result.now) 0 (sym c.if-is_empty.ensures) in
    omega (arith, some, ap length c.digits_of-digits.ensures)

abbrev suffix : In-Some → Suffix
suffix c = record { unsigned = c.in-Some.suffix.unsigned; longs = c.in-Some.suffix.longs }

has_suffix : (c : In-Some) → suffix_of (suffix_text c.args.text.now) ≡ Some (suffix c)
has_suffix c = ap suffix_of (sym c.suffix_text.ensures) ∙ sym c.in-Some.ensures

pub returns-then-is_empty : goal.returns-then-is_empty
returns-then-is_empty c =
    let none : length (digits_of c.args.text.now) ≡ 0 = ap length (sym c.digits_of-digits.ensures) ∙ eqb-true (length c.digits_of-digits.result.now) 0 (sym c.if-is_empty.ensures) in
    ap Err c.other_rule.ensures ∙ sym (number_from-no_digits c.args.text.now none)

pub returns-in_default : goal.returns-in_default
returns-in_default c =
    ap Err c.other_rule-in_default.ensures ∙ sym (number_from-no_suffix c.args.text.now (ap suffix_of (sym c.suffix_text.ensures) ∙ sym c.in_default.ensures))

pub returns-in_default-value_of : goal.returns-in_default-value_of
returns-in_default-value_of c =
    let d = (goal.at.returns-in_default-value_of c).In-Some in
    let value : number_of c.base_of-base.result c.digits_of-digits.result.now ≡ value_of c.args.text.now =
    λ i. number_of (c.base_of-base.ensures.value i) (c.digits_of-digits.ensures i) in
    sym (number_from-large c.args.text.now (suffix d) (some_digits d) (has_suffix d) (subst (λ (n : ℕ). 2 ^ 64 ≤ n) value c.in_default-value_of.ensures))

pub returns-in-Some-first_holding : goal.returns-in-Some-first_holding
returns-in-Some-first_holding c =
    let d = (goal.at.returns-in-Some-first_holding c).In-Some in
    let value : c.in-Some-value_of.value ≡ value_of c.args.text.now =
    c.in-Some-value_of.ensures ∙ (λ i. number_of (c.base_of-base.ensures.value i) (c.digits_of-digits.ensures i)) in
    ap (typed c.in-Some-value_of.value) (sym c.in-Some-first_holding.is ∙ c.first_holding.ensures)
    ∙ number_from-found c.args.text.now (suffix d) (some_digits d) (has_suffix d) c.in-Some-value_of.value c.base_of-base.result c.types_of-types.result.now value c.base_of-base.ensures.value c.types_of-types.ensures

pub returns-in-None : goal.returns-in-None
returns-in-None c =
    let d = (goal.at.returns-in-None c).In-Some in
    let value : c.in-Some-value_of.value ≡ value_of c.args.text.now =
    c.in-Some-value_of.ensures ∙ (λ i. number_of (c.base_of-base.ensures.value i) (c.digits_of-digits.ensures i)) in
    ap (typed c.in-Some-value_of.value) (sym c.in-None.is ∙ c.first_holding.ensures)
    ∙ number_from-found c.args.text.now (suffix d) (some_digits d) (has_suffix d) c.in-Some-value_of.value c.base_of-base.result c.types_of-types.result.now value c.base_of-base.ensures.value c.types_of-types.ensures
