-- The code's test of compatible types is that of the meaning.
use Rattle.std.proofs.Common.{◌≡◌, Bool, true, false, if◌then◌else◌, refl, sym, ap, ◌∙◌, subst, IsTrue, ◌↔◌, Result, Ok, Err}
use Rattle.cr_base.specs.declared.rule.URule.TheVariants.{U13}
use Rattle.cx_access.specs.Views.{compatible_pairs}
use Rattle.cx_core.specs.Compatible.{agree, AreCompatible}
use Rattle.cx_core.specs.Trees.{CTy, CTypes}
use Rattle.cx_mean.proofs.GoodPairs.{by_good_set, has_good_set}
use Rattle.cx_mean.specs.Calls.{CCallee}
use Rattle.cx_mean.specs.Operands.{CWhy, breaks}
use Rattle.cx_mean.specs.Settings.{is_pair_in}

by_both : (found is : Bool) → (found ≡ true → is ≡ true) → (is ≡ true → found ≡ true) → found ≡ is
by_both true is there back = sym (there refl)
by_both false true there back = back refl
by_both false false there back = refl

-- an answer that is right is that of the meaning
pub compatible_is : (types : CTypes) (a b : CTy) (found : Bool) → IsTrue found ↔ AreCompatible types a b → agree types (is_pair_in (compatible_pairs types)) a b ≡ found
unfolding compatible_pairs
compatible_is types a b found told =
    sym (by_both found _ (λ is. by_good_set types a b (told.0 is)) (λ is. told.1 (has_good_set types a b is)))

abbrev if_compatible : CCallee → Bool → Result CCallee CWhy
if_compatible callee holds = if holds then Ok callee else Err (breaks U13)

pub typed_so : (types : CTypes) (a b held : CTy) (found : Bool) (callee : CCallee) → held ≡ b → IsTrue found ↔ AreCompatible types a held → found ≡ true
    → if_compatible callee (agree types (is_pair_in (compatible_pairs types)) a b) ≡ Ok callee
typed_so types a b held found callee same told is =
    ap (if_compatible callee) (compatible_is types a b found (subst (λ (type : CTy). IsTrue found ↔ AreCompatible types a type) same told) ∙ is)

pub typed_otherwise : (types : CTypes) (a b held : CTy) (found : Bool) (callee : CCallee) → held ≡ b → IsTrue found ↔ AreCompatible types a held → found ≡ false
    → if_compatible callee (agree types (is_pair_in (compatible_pairs types)) a b) ≡ Err (breaks U13)
typed_otherwise types a b held found callee same told is =
    ap (if_compatible callee) (compatible_is types a b found (subst (λ (type : CTy). IsTrue found ↔ AreCompatible types a type) same told) ∙ is)
