-- What the units in front of one take together, and what they give.
use Rattle.std.proofs.Common.{rules, arith, ◌≡◌, ℕ, zero, suc, ◌+◌, ◌||◌, not, Bool, true, false, if◌then◌else◌, List, [], ◌∷◌, ◌++◌, map, drop, take, length, Option, Some, None, option_map, refl, sym, ap, ◌∙◌, subst, slice_get, append_assoc, append-nil, ◌<◌, ◌≤◌, ◌&&◌, nat_lt, unwrap_or}
use Rattle.std.proofs.lemmas.Bool.{and_from, and_parts}
use Rattle.std.proofs.lemmas.Bool.Decides.{nat_tests}
use Rattle.std.proofs.lemmas.List.Folds.{list_all-append, list_any-append}
use Rattle.std.specs.List.{list_all, list_any, find}
use Rattle.std.specs.Prelude.{is_none, is_some}
use Rattle.cr_base.specs.declared.refusal.Refusal.{Refusal}
use Rattle.cr_base.specs.declared.rule.Rule.{Rule}
use Rattle.cr_base.specs.declared.rule.Rule.TheVariants.{L3, M2}
use Rattle.cx_core.specs.Linked.{is_main, main_of}
use Rattle.cx_core.specs.Trees.{CTypes, no_types_yet, CFun, CMention, CProgram, CUnit}
use Rattle.cx_link.specs.Mains.{has_main}
use Rattle.cx_links.specs.Rules.{broken_links, by_mentions, first_in, most_units, nowhere, or_later, refusal_of, rule_of}
use Rattle.cx_links.specs.Program.{linked, all_mentions, types_of_all, counts_before, from_each, mentions_from, numbers_of, own_types, types_from, types_with}
use Rattle.cx_renumber.specs.Numbers.{CCounts, CNumbers, counts_of, no_counts, together, function_there, mention_there}
use Rattle.cx_link.proofs.Chains.{split_at}

-- ---- counts

same_counts : (a b : CCounts) → a.records ≡ b.records → a.enums ≡ b.enums → a.objects ≡ b.objects → a.functions ≡ b.functions → a ≡ b
same_counts a b records enums objects functions =
    ap (λ n. record { records = n; enums = a.enums; objects = a.objects; functions = a.functions }) records
    ∙ ap (λ n. record { records = b.records; enums = n; objects = a.objects; functions = a.functions }) enums
    ∙ ap (λ n. record { records = b.records; enums = b.enums; objects = n; functions = a.functions }) objects
    ∙ ap (λ n. record { records = b.records; enums = b.enums; objects = b.objects; functions = n }) functions

together_assoc : (a b c : CCounts) → together a (together b c) ≡ together (together a b) c
together_assoc a b c = same_counts _ _ (omega arith) (omega arith) (omega arith) (omega arith)

together_none : (a : CCounts) → together a no_counts ≡ together no_counts a
together_none a = same_counts _ _ (omega arith) (omega arith) (omega arith) (omega arith)

pub counts_next : (units : List CUnit) (n : ℕ) (one : CUnit) → slice_get units n ≡ Some one
    → counts_before (suc n) units ≡ together (counts_before n units) (counts_of one)
counts_next [] n one is = cc
counts_next (x ∷ xs) zero one is = together_none (counts_of x) ∙ ap (λ o. together no_counts (counts_of (first_of o))) is where
  first_of : Option CUnit → CUnit
  first_of (Some u) = u
  first_of None = one
counts_next (x ∷ xs) (suc n) one is =
    ap (λ counts. together (counts_of x) counts) (counts_next xs n one is) ∙ together_assoc (counts_of x) (counts_before n xs) (counts_of one)

-- ---- one unit more

pub mentions_next : (front all : List CMention) (units : List CUnit) (n : ℕ) (one : CUnit) → slice_get units n ≡ Some one
    → front ++ mentions_from n units (drop n units) ≡ all
    → (front ++ map (mention_there (counts_before n units) n) one.mentions) ++ mentions_from (suc n) units (drop (suc n) units) ≡ all
mentions_next front all units n one is before =
    append_assoc front (map (mention_there (counts_before n units) n) one.mentions) (mentions_from (suc n) units (drop (suc n) units))
    ∙ ap (λ others. front ++ mentions_from n units others) (sym (split_at units n one is).1) ∙ before

types_assoc : (a b c : CTypes) → types_with (types_with a b) c ≡ types_with a (types_with b c)
types_assoc a b c =
    ap (λ xs. record { records = xs; record_tags = (a.record_tags ++ b.record_tags) ++ c.record_tags; record_units = (a.record_units ++ b.record_units) ++ c.record_units; enums = (a.enums ++ b.enums) ++ c.enums; enum_units = (a.enum_units ++ b.enum_units) ++ c.enum_units }) (append_assoc a.records b.records c.records)
    ∙ ap (λ xs. record { records = a.records ++ (b.records ++ c.records); record_tags = xs; record_units = (a.record_units ++ b.record_units) ++ c.record_units; enums = (a.enums ++ b.enums) ++ c.enums; enum_units = (a.enum_units ++ b.enum_units) ++ c.enum_units }) (append_assoc a.record_tags b.record_tags c.record_tags)
    ∙ ap (λ xs. record { records = a.records ++ (b.records ++ c.records); record_tags = a.record_tags ++ (b.record_tags ++ c.record_tags); record_units = xs; enums = (a.enums ++ b.enums) ++ c.enums; enum_units = (a.enum_units ++ b.enum_units) ++ c.enum_units }) (append_assoc a.record_units b.record_units c.record_units)
    ∙ ap (λ xs. record { records = a.records ++ (b.records ++ c.records); record_tags = a.record_tags ++ (b.record_tags ++ c.record_tags); record_units = a.record_units ++ (b.record_units ++ c.record_units); enums = xs; enum_units = (a.enum_units ++ b.enum_units) ++ c.enum_units }) (append_assoc a.enums b.enums c.enums)
    ∙ ap (λ xs. record { records = a.records ++ (b.records ++ c.records); record_tags = a.record_tags ++ (b.record_tags ++ c.record_tags); record_units = a.record_units ++ (b.record_units ++ c.record_units); enums = a.enums ++ (b.enums ++ c.enums); enum_units = xs }) (append_assoc a.enum_units b.enum_units c.enum_units)

pub types_next : (front all : CTypes) (units : List CUnit) (n : ℕ) (one : CUnit) → slice_get units n ≡ Some one
    → types_with front (types_from units n (drop n units)) ≡ all
    → types_with (types_with front (own_types (counts_before n units) one.types)) (types_from units (suc n) (drop (suc n) units)) ≡ all
types_next front all units n one is before =
    types_assoc front (own_types (counts_before n units) one.types) (types_from units (suc n) (drop (suc n) units))
    ∙ ap (λ others. types_with front (types_from units n others)) (sym (split_at units n one is).1) ∙ before

-- ---- `main`

found_any : (xs : List CFun) → is_none (find is_main xs) ≡ not (list_any is_main xs)
found_any [] = refl
found_any (x ∷ xs) = by (is_main x) (found_any xs) where
  by : (here : Bool) → is_none (find is_main xs) ≡ not (list_any is_main xs) → is_none (if here then Some x else find is_main xs) ≡ not (here || list_any is_main xs)
  by true others = refl
  by false others = others

any_there : (numbers : CNumbers) (xs : List CFun) → list_any is_main (map (function_there numbers) xs) ≡ list_any is_main xs
any_there numbers [] = refl
any_there numbers (x ∷ xs) = ap (λ b. is_main x || b) (any_there numbers xs)

any_in_each : (units : List CUnit) (n : ℕ) (others : List CUnit)
    → list_any is_main (from_each (λ one unit. map (function_there (numbers_of units one unit)) one.functions) n others) ≡ has_main others
any_in_each units n [] = refl
any_in_each units n (one ∷ others) =
    list_any-append is_main (map (function_there (numbers_of units one n)) one.functions) (from_each (λ one unit. map (function_there (numbers_of units one unit)) one.functions) (suc n) others)
    ∙ ap (λ b. b || list_any is_main (from_each (λ one unit. map (function_there (numbers_of units one unit)) one.functions) (suc n) others)) (any_there (numbers_of units one n) one.functions)
    ∙ ap (λ b. list_any is_main one.functions || b) (any_in_each units (suc n) others)

pub main_is : (units : List CUnit) → is_none (main_of (linked units)) ≡ not (has_main units)
unfolding linked
main_is units = found_any (linked units).functions ∙ ap not (any_in_each units 0 units)

-- ---- where a refusal stands

abbrev stands_below : ℕ → CMention → Bool
stands_below count one = nat_lt one.place.unit count

all_there : (before : CCounts) (unit count : ℕ) (xs : List CMention) → unit < count → list_all (stands_below count) (map (mention_there before unit) xs) ≡ true
all_there before unit count [] less = refl
all_there before unit count (x ∷ xs) less = and_from _ _ (below unit count less) (all_there before unit count xs less) where
  below : (m n : ℕ) → m < n → nat_lt m n ≡ true
  below m n h = grind (arith, nat_tests, h)

all_below : (units : List CUnit) (n count : ℕ) (others : List CUnit) → n + length others ≤ count → list_all (stands_below count) (mentions_from n units others) ≡ true
all_below units n count [] within = refl
all_below units n count (one ∷ others) within =
    list_all-append (stands_below count) (map (mention_there (counts_before n units) n) one.mentions) (mentions_from (suc n) units others)
    ∙ and_from _ _ (all_there (counts_before n units) n count one.mentions (omega (arith, within))) (all_below units (suc n) count others (omega (arith, within)))

first_below : (types : CTypes) (all : List CMention) (count : ℕ) (xs : List CMention) (refusal : Refusal) → list_all (stands_below count) xs ≡ true
    → first_in types all xs ≡ Some refusal → refusal.unit < count
unfolding first_in
first_below types all count [] refusal below found = cc
first_below types all count (x ∷ xs) refusal below found =
    by (rule_of types all x) found (first_below types all count xs refusal (and_parts _ _ below).1) where
      less : (m n : ℕ) → nat_lt m n ≡ true → m < n
      less m n h = grind (arith, nat_tests, h)

      by : (rule : Option Rule) → or_later types all (refusal_of types all x rule) (first_in types all xs) ≡ Some refusal
          → (first_in types all xs ≡ Some refusal → refusal.unit < count) → refusal.unit < count
      by None found behind = behind found
      by (Some rule) found behind =
          subst (λ (r : Refusal). r.unit < count) (ap (λ o. unwrap_or o refusal) found) (less x.place.unit count (and_parts _ _ below).0)

by_mentions_below : (program : CProgram) (count : ℕ) (first : Option Refusal) (refusal : Refusal) → 0 < count
    → (first ≡ Some refusal → refusal.unit < count) → by_mentions program first ≡ Some refusal → refusal.unit < count
by_mentions_below program count (Some one) refusal some within found = within found
by_mentions_below program count None refusal some within found = by (is_none (main_of program)) found where
  by : (missing : Bool) → (if missing then Some (nowhere L3) else None) ≡ Some refusal → refusal.unit < count
  by true is = subst (λ (r : Refusal). r.unit < count) (ap (λ o. unwrap_or o refusal) is) some
  by false is = cc

-- a refusal of units that are put together stands in one of them
pub stands_within : (units : List CUnit) (refusal : Refusal) → 0 < length units → broken_links units ≡ Some refusal → refusal.unit < length units
unfolding broken_links
stands_within units refusal some found = by (nat_lt most_units (length units)) found where
  by : (many : Bool) → (if many then Some (nowhere M2) else by_mentions (linked units) (first_in (types_of_all units) (all_mentions units) (all_mentions units))) ≡ Some refusal
      → refusal.unit < length units
  by true is = subst (λ (r : Refusal). r.unit < length units) (ap (λ o. unwrap_or o refusal) is) some
  by false is =
      by_mentions_below (linked units) (length units) (first_in (types_of_all units) (all_mentions units) (all_mentions units)) refusal some
      (λ first. first_below (types_of_all units) (all_mentions units) (length units) (all_mentions units) refusal (all_below units 0 (length units) units (omega arith)) first) is
