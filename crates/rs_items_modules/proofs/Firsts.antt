-- The name of a module is the first of its candidates that isn't taken.
use Rattle.std.proofs.Common.{◌≡◌, ℕ, suc, ◌+◌, ◌<◌, ◌^◌, Bool, true, false, not, ◌||◌, List, length, Some, refl, sym, ap, arith, subst}
use Rattle.rs_items_modules.specs.LawsModules.{AreFew}
use Rattle.rs_items_modules.specs.Modules.{is_kept_back, module_candidate, module_name, stem_of, word_of}
use Rattle.rs_items_sets.specs.Names.{AreGone, IsFirstFree, IsGone, first_free, suffixed, unless}
use Rattle.rs_items_sets.proofs.Pigeons.{pigeon}
use Rattle.rs_items_sets.proofs.Search.{IsThere, found_first, low_first, only_first}
use Rattle.rs_items_sets.proofs.Suffixes.{suffixes_differ}
use Rattle.rs_text.specs.Names.{is_among}

-- ---- what the code looks at

-- a word that is kept back is no candidate, and one that is taken is gone
pub gone_of : (taken : List (List ℕ)) (word : List ℕ) (kept : Bool) → is_kept_back word ≡ kept → (kept || is_among taken word) ≡ true → IsGone taken (module_candidate word 0)
gone_of taken word true is gone = subst (λ t. IsGone taken (unless t word)) (sym is) tt
gone_of taken word false is gone = subst (λ t. IsGone taken (unless t word)) (sym is) gone

-- one that is neither is the first
pub itself_first : (taken : List (List ℕ)) (word : List ℕ) (kept : Bool) → is_kept_back word ≡ kept → (kept || is_among taken word) ≡ false → IsFirstFree taken (module_candidate word) word
itself_first taken word true is free = cc
itself_first taken word false is free =
    record { number = 0; is = ap (λ t. unless t word) is; free = ap not free; first = λ k low. absurd (omega (arith, low)) }

-- one with a suffix that is free is the first, where those in front of it are gone
pub suffixed_first : (taken : List (List ℕ)) (word one : List ℕ) (number : ℕ) → AreGone taken (module_candidate word) (suc number) → one ≡ suffixed word number → is_among taken one ≡ false
    → IsFirstFree taken (module_candidate word) one
suffixed_first taken word one number gone is free = record { number = suc number; is = ap Some (sym is); free = ap not free; first = gone }

-- ---- one is free

one_there : (taken : List (List ℕ)) (word : List ℕ) → AreFew taken → IsThere taken (module_candidate word) 0 (0 + (length taken + 2))
one_there taken word few =
    let found = pigeon taken (suffixed word) (λ j k low small same. suffixes_differ word j k (omega (arith, low, few)) (omega (arith, small, few)) same) in
    record { number = suc found.number; reached = omega arith; below = omega (arith, found.below); one = suffixed word found.number; is = refl; free = found.free }

pub name_first : (taken : List (List ℕ)) (word : List ℕ) → AreFew taken → IsFirstFree taken (module_candidate word) (first_free taken (module_candidate word) 0 (length taken + 2))
name_first taken word few = found_first taken (module_candidate word) 0 (length taken + 2) (λ k low. absurd (omega (arith, low))) (one_there taken word few)

pub module_first : (taken : List (List ℕ)) (file : List ℕ) → AreFew taken → IsFirstFree taken (module_candidate (word_of (stem_of file))) (module_name taken file)
module_first taken file few = name_first taken (word_of (stem_of file)) few

pub module_only : (taken : List (List ℕ)) (file one : List ℕ) → AreFew taken → IsFirstFree taken (module_candidate (word_of (stem_of file))) one → one ≡ module_name taken file
module_only taken file one few is = only_first taken (module_candidate (word_of (stem_of file))) one (module_name taken file) is (module_first taken file few)

-- its number is low
pub low_number : (taken : List (List ℕ)) (word one : List ℕ) → AreFew taken → (a : IsFirstFree taken (module_candidate word) one) → a.number < 2 ^ 64
low_number taken word one few a =
    let low = low_first taken (module_candidate word) (0 + (length taken + 2)) one (one_there taken word few) a in
    omega (arith, low, few)
