-- Labels of different numbers differ.
use Rattle.std.proofs.Common.{◌≡◌, ◌≢◌, ◌∙◌, ℕ, ◌^◌, ◌<◌, ◌≤◌, nat_lt, Bool, true, false, bytes_eq, length, replicate, if◌then◌else◌, arith, tests, refl, sym, ap}
use Rattle.std.proofs.lemmas.Fmt.{decimal_injective, length-decimal-le}
use Rattle.std.proofs.lemmas.List.{length-replicate}
use Rattle.std.specs.Cmp.Lexicographic.{same_text}
use Rattle.std.specs.Fmt.{decimal}
use Rattle.emit_rules.specs.Jumps.{numeral, label_of}

-- a number of a machine
is_small : (a : ℕ) → nat_lt a (2 ^ 64) ≡ true → a < 2 ^ 64
is_small a is = omega (arith, tests, is)

is_large : (a : ℕ) → nat_lt a (2 ^ 64) ≡ false → 2 ^ 64 ≤ a
is_large a is = grind (arith, tests)

-- its decimal is shorter than what another number is written as
never_both : (a b : ℕ) → a < 2 ^ 64 → 2 ^ 64 ≤ b → decimal a ≡ replicate b 95 → ⊥
never_both a b small large same =
    let few : length (decimal a) ≤ 20 = length-decimal-le 20 a (omega arith) (omega (arith, small)) small in
    let many : length (decimal a) ≡ b = ap length same ∙ length-replicate b 95 in
    omega (arith, few, many)

numerals_differ : (a b : ℕ) (one other : Bool) → nat_lt a (2 ^ 64) ≡ one → nat_lt b (2 ^ 64) ≡ other →
    (if one then decimal a else replicate a 95) ≡ (if other then decimal b else replicate b 95) → a ≡ b
numerals_differ a b true true is so same = decimal_injective a b (is_small a is) (is_small b so) same
numerals_differ a b true false is so same = absurd (never_both a b (is_small a is) (is_large b so) same)
numerals_differ a b false true is so same = absurd (never_both b a (is_small b so) (is_large a is) (sym same))
numerals_differ a b false false is so same = sym (length-replicate a 95) ∙ ap length same ∙ length-replicate b 95

pub labels_differ : (a b : ℕ) → label_of a ≡ label_of b → a ≡ b
labels_differ a b same = numerals_differ a b (nat_lt a (2 ^ 64)) (nat_lt b (2 ^ 64)) refl refl (let rest : numeral a ≡ numeral b = cc in rest)

-- and so they are told apart
other_label : (a b : ℕ) (test : Bool) → bytes_eq (label_of a) (label_of b) ≡ test → a ≢ b → test ≡ false
other_label a b true is differ = absurd (differ (labels_differ a b (same_text (label_of a) (label_of b) (sym is))))
other_label a b false is differ = refl

pub told_apart : (a b : ℕ) → a ≢ b → bytes_eq (label_of a) (label_of b) ≡ false
told_apart a b differ = other_label a b (bytes_eq (label_of a) (label_of b)) refl differ
