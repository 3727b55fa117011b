-- What a name is that is kept.
use Rattle.std.proofs.Common.{◌≡◌, ℕ, true, false, not, cond, ◌&&◌, ◌||◌, List, [], ◌∷◌, ◌++◌, codes, bytes_eq, Some, refl, ap, ◌∙◌, arith}
use Rattle.std.specs.List.{list_all}
use Rattle.straight_items.specs.declared.scope.NameScope.{NameScope}
use Rattle.straight_items.specs.declared.scope.NameScope.TheVariants.{Module}
use Rattle.straight_items.specs.Laws.{KeptNames, PlainStemsNameModules}
use Rattle.straight_items.specs.Modules.{is_name, lacks_start}
use Rattle.straight_items.specs.Names.{reserved, is_main_in, is_excluded, raw_or_same, unless, candidate, IsRustName, keeps_name}
use Rattle.straight_rust_tree.specs.Names.{is_digit, is_word_byte, is_word, is_among, path_words, keywords, is_plain_identifier, is_raw_identifier, is_identifier}
use Rattle.straight_items.proofs.Fresh.{both, parts, neither, not_true}
use Rattle.straight_items.proofs.ModuleLaws.{named_only}

not_excluded : (scope : NameScope) (name : List ℕ) → keeps_name scope name ≡ true → is_excluded scope name ≡ false
not_excluded scope name h = not_true (is_excluded scope name) (parts (not (is_excluded scope name)) (not (is_among keywords name)) h).0

not_keyword : (scope : NameScope) (name : List ℕ) → keeps_name scope name ≡ true → is_among keywords name ≡ false
not_keyword scope name h = not_true (is_among keywords name) (parts (not (is_excluded scope name)) (not (is_among keywords name)) h).1

-- what a name that is kept isn't
not_path_word : (scope : NameScope) (name : List ℕ) → keeps_name scope name ≡ true → is_among path_words name ≡ false
not_path_word scope name h =
    (neither (is_among path_words name) (is_among reserved name)
    (neither (is_among path_words name || is_among reserved name) (is_main_in scope name) (not_excluded scope name h)).0).0

not_main : (scope : NameScope) (name : List ℕ) → keeps_name scope name ≡ true → is_main_in scope name ≡ false
not_main scope name h =
    (neither (is_among path_words name || is_among reserved name) (is_main_in scope name) (not_excluded scope name h)).1

plain_of_kept : (scope : NameScope) (name : List ℕ) → is_word name ≡ true → keeps_name scope name ≡ true → is_plain_identifier name ≡ true
plain_of_kept scope name word h =
    both (is_word name && not (is_among path_words name)) (not (is_among keywords name))
    (both (is_word name) (not (is_among path_words name)) word (ap not (not_path_word scope name h)))
    (ap not (not_keyword scope name h))

identifier_of_kept : (scope : NameScope) (name : List ℕ) → is_word name ≡ true → keeps_name scope name ≡ true → is_identifier name ≡ true
identifier_of_kept scope name word h = ap (λ t. t || is_raw_identifier name) (plain_of_kept scope name word h)

itself_of_kept : (scope : NameScope) (name : List ℕ) → keeps_name scope name ≡ true → candidate scope name 0 ≡ Some name
itself_of_kept scope name h =
    ap (λ t. unless t (raw_or_same name)) (not_excluded scope name h)
    ∙ ap (λ t. Some (cond t (codes "r#" ++ name) name)) (not_keyword scope name h)

name_of_kept : (scope : NameScope) (name : List ℕ) → keeps_name scope name ≡ true → IsRustName [] scope name name
name_of_kept scope name h = record {
  number = 0;
  is = itself_of_kept scope name h;
  free = refl;
  first = λ k low. absurd (omega arith);
}

pub kept : KeptNames
kept = record { identifier = identifier_of_kept; itself = name_of_kept }

word_of_name : (name : List ℕ) → is_name name ≡ true → is_word name ≡ true
word_of_name [] h = cc
word_of_name (b ∷ bs) h =
    let known = parts (not (lacks_start (b ∷ bs))) (list_all is_word_byte (b ∷ bs)) h in
    let start = neither (is_digit b) (bytes_eq (b ∷ bs) (codes "_")) (not_true (lacks_start (b ∷ bs)) known.0) in
    both (not (is_digit b)) (list_all is_word_byte (b ∷ bs)) (ap not start.0) known.1

pub plain_stems : PlainStemsNameModules
plain_stems stem h =
    let known = parts (is_name stem) (keeps_name Module stem) (named_only stem h) in
    both (is_plain_identifier stem) (not (bytes_eq stem (codes "main")))
    (plain_of_kept Module stem (word_of_name stem known.0) known.1) (ap not (not_main Module stem known.1))
