-- The names of all modules.
use Rattle.std.proofs.Common.{◌≡◌, ℕ, ◌+◌, ◌<◌, ◌^◌, Bool, true, not, ◌&&◌, ◌||◌, List, [], ◌∷◌, ◌++◌, bytes_eq, codes, drop, length, get_or, Some, refl, sym, ap, ◌∙◌, arith}
use Rattle.std.specs.List.{list_all}
use Rattle.std.proofs.lemmas.List.{at_drop_more, length-append}
use Rattle.std.proofs.lemmas.List.Folds.{list_all-append}
use Rattle.rs_items_modules.specs.LawsModules.{AreFew, ModuleNames}
use Rattle.rs_items_modules.specs.Modules.{module_candidate, module_name, module_names_from, stem_of, word_of}
use Rattle.rs_items_modules.proofs.Firsts.{low_number, module_first, module_only}
use Rattle.rs_items_modules.proofs.Valid.{candidate_module, candidate_unreserved, file_word}
use Rattle.rs_items_sets.specs.Names.{reserved}
use Rattle.rs_items_sets.proofs.Search.{not_not}
use Rattle.rs_items_sets.proofs.Several.{differ_last}
use Rattle.rs_items_sets.proofs.Suffixes.{both}
use Rattle.rs_text.specs.Names.{is_among, is_module_name}
use Rattle.rs_text.specs.Valid.{all_differ}

-- one more name, and one file less
pub next : (taken new files : List (List ℕ)) (index : ℕ) (file name : List ℕ) → index < length files → file ≡ get_or files index file → name ≡ module_name taken file → new ≡ taken ++ name ∷ []
    → module_names_from new (drop (index + 1) files) ≡ module_names_from taken (drop index files)
next taken new files index file name low at named is =
    ap (λ names. module_names_from names (drop (index + 1) files)) (is ∙ ap (λ n. taken ++ n ∷ []) (named ∙ ap (module_name taken) at))
    ∙ sym (at_drop_more (λ left. module_names_from taken left) files index file low)

-- few files, beside those that have names
abbrev AreFewWith : (taken files : List (List ℕ)) → Type 0
AreFewWith taken files = length taken + length files + 2 < 2 ^ 64

few_now : (taken : List (List ℕ)) (file : List ℕ) (files : List (List ℕ)) → AreFewWith taken (file ∷ files) → AreFew taken
few_now taken file files few = omega (arith, few)

few_later : (taken : List (List ℕ)) (one file : List ℕ) (files : List (List ℕ)) → AreFewWith taken (file ∷ files) → AreFewWith (taken ++ one ∷ []) files
few_later taken one file files few = omega (arith, few, length-append taken (one ∷ []))

count_all : (taken files : List (List ℕ)) → length (module_names_from taken files) ≡ length taken + length files
count_all taken [] = omega arith
count_all taken (file ∷ files) =
    let more = count_all (taken ++ module_name taken file ∷ []) files in
    omega (arith, more, length-append taken (module_name taken file ∷ []))

differ_all : (taken files : List (List ℕ)) → AreFewWith taken files → all_differ taken ≡ true → all_differ (module_names_from taken files) ≡ true
differ_all taken [] few differ = differ
differ_all taken (file ∷ files) few differ =
    let first = module_first taken file (few_now taken file files few) in
    differ_all (taken ++ module_name taken file ∷ []) files (few_later taken (module_name taken file) file files few)
    (differ_last taken (module_name taken file) differ (not_not (is_among taken (module_name taken file)) first.free))

-- each name is as a test wants it, where each candidate of a word is
all_by : (test : List ℕ → Bool) → ((word one : List ℕ) (k : ℕ) → k < 2 ^ 64 → module_candidate (word_of word) k ≡ Some one → test one ≡ true)
    → (taken files : List (List ℕ)) → AreFewWith taken files → list_all test taken ≡ true → list_all test (module_names_from taken files) ≡ true
all_by test holds taken [] few all = all
all_by test holds taken (file ∷ files) few all =
    let now = few_now taken file files few in
    let first = module_first taken file now in
    let is : test (module_name taken file) ≡ true = holds (stem_of file) (module_name taken file) first.number (low_number taken (word_of (stem_of file)) (module_name taken file) now first) first.is in
    all_by test holds (taken ++ module_name taken file ∷ []) files (few_later taken (module_name taken file) file files few)
    (list_all-append test taken (module_name taken file ∷ []) ∙ both (list_all test taken) (test (module_name taken file) && true) all (both (test (module_name taken file)) true is refl))

few_all : (files : List (List ℕ)) → AreFew files → AreFewWith [] files
few_all files few = omega (arith, few)

pub names_stand : ModuleNames
names_stand = record {
  first = module_first;
  only = module_only;
  count = λ files. let all = count_all [] files in omega (arith, all);
  differ = λ files few. differ_all [] files (few_all files few) refl;
  valid = λ files few. all_by is_module_name (λ stem one k small there. candidate_module (word_of stem) one k small (file_word stem) there) [] files (few_all files few) refl;
  unreserved = λ files few. all_by (λ name. not (is_among reserved name) || bytes_eq name (codes "main_0"))
      (λ stem one k small there. candidate_unreserved (word_of stem) one k small there) [] files (few_all files few) refl;
}
