-- What becomes of the bytes under each name as a list of files changes.
use Rattle.std.proofs.Common.{◌≡◌, ℕ, ◌≤◌, Bool, true, false, cond, List, [], ◌∷◌, ◌++◌, length, set, get_or, Option, Some, None, option_map, unwrap_or, find, position, bytes_eq, refl, sym, ap, ◌∙◌, subst, arith}
use Rattle.std.proofs.Math.Path.{fun_ext}
use Rattle.std.specs.List.{position_or_len}
use Rattle.std.specs.Option.{option_or}
use Rattle.std.proofs.lemmas.Bool.Decides.{nat_tests}
use Rattle.std.proofs.lemmas.List.Folds.{find-set, find_past, find_at, find-append}
use Rattle.std.proofs.lemmas.List.Quantifiers.{position-Some}
use Rattle.std.proofs.lemmas.List.Sums.{position_or_len_is}
use Rattle.std.proofs.lemmas.Option.{slice_get_past}
use Rattle.std.proofs.lemmas.Slice.Eq.{bytes_eq-Decides}
use Rattle.shelf.specs.declared.file.File.{File}
use Rattle.shelf.specs.Files.{bytes_of, bytes_or_empty}
use Rattle.shelf.specs.Shelf.{with_file}

-- the test of a file's name
abbrev is_named : List ℕ → File → Bool
is_named name file = bytes_eq file.name name

is_own_name : (file : File) → is_named file.name file ≡ true
is_own_name file = (bytes_eq-Decides file.name file.name).1 refl

-- the bytes under a name, once a file stands in the place of the first of its name
bytes_of-set_at : (files : List File) (file : File) (i : ℕ) (asked : List ℕ) (b : Bool) → bytes_eq file.name asked ≡ b → position (is_named file.name) files ≡ Some i → bytes_of (set files i file) asked ≡ cond b (Some file.bytes) (bytes_of files asked)
bytes_of-set_at files file i asked true same place =
    let p = position-Some (is_named file.name) files i file place in
    let first : i ≡ position_or_len (is_named file.name) files =
    sym (position_or_len_is (is_named file.name) files i file (omega arith) p.2 (λ _. p.1)) in
    let found : bytes_of (set files i file) file.name ≡ Some file.bytes =
    ap (option_map (λ (f : File). f.bytes)) (find-set (is_named file.name) files i file first p.0 (is_own_name file)) in
    subst (λ (n : List ℕ). bytes_of (set files i file) n ≡ Some file.bytes) ((bytes_eq-Decides file.name asked).0 same) found
bytes_of-set_at files file i asked false differ place =
    let p = position-Some (is_named file.name) files i file place in
    let names : (get_or files i file).name ≡ file.name = (bytes_eq-Decides (get_or files i file).name file.name).0 p.1 in
    ap (option_map (λ (f : File). f.bytes)) (find_past (is_named asked) files i file file (ap (λ (n : List ℕ). bytes_eq n asked) names ∙ differ) differ)

position-None : (files : List File) (name : List ℕ) → position (is_named name) files ≡ None → find (is_named name) files ≡ None
position-None files name none =
    let past : length files ≤ position_or_len (is_named name) files = grind (arith, nat_tests) in
    find_at (is_named name) files ∙ slice_get_past files (position_or_len (is_named name) files) past

option_or-None : (o : Option File) → option_or o None ≡ o
option_or-None None = refl
option_or-None (Some file) = refl

-- the bytes under a name, once a file stands behind files of other names
bytes_of-push_at : (files : List File) (file : File) (asked : List ℕ) (b : Bool) → bytes_eq file.name asked ≡ b → position (is_named file.name) files ≡ None → bytes_of (files ++ file ∷ []) asked ≡ cond b (Some file.bytes) (bytes_of files asked)
bytes_of-push_at files file asked true same none =
    let found : find (is_named file.name) (files ++ file ∷ []) ≡ Some file =
    find-append (is_named file.name) files (file ∷ [])
    ∙ ap (λ (o : Option File). option_or o (find (is_named file.name) (file ∷ []))) (position-None files file.name none)
    ∙ ap (λ (b : Bool). cond b (Some file) None) (is_own_name file) in
    subst (λ (n : List ℕ). bytes_of (files ++ file ∷ []) n ≡ Some file.bytes) ((bytes_eq-Decides file.name asked).0 same) (ap (option_map (λ (f : File). f.bytes)) found)
bytes_of-push_at files file asked false differ none =
    ap (option_map (λ (f : File). f.bytes))
    (find-append (is_named asked) files (file ∷ [])
    ∙ ap (λ (b : Bool). option_or (find (is_named asked) files) (cond b (Some file) None)) differ
    ∙ option_or-None (find (is_named asked) files))

pub bytes_of-set : (files : List File) (file : File) (i : ℕ) → position (is_named file.name) files ≡ Some i → Some (bytes_of (set files i file)) ≡ with_file file.name file.bytes (Some (bytes_of files))
bytes_of-set files file i place =
    ap (λ (f : List ℕ → Option (List ℕ)). Some f)
    (fun_ext (λ asked. bytes_of-set_at files file i asked (bytes_eq file.name asked) refl place))

pub bytes_of-push : (files : List File) (file : File) → position (is_named file.name) files ≡ None → Some (bytes_of (files ++ file ∷ [])) ≡ with_file file.name file.bytes (Some (bytes_of files))
bytes_of-push files file none =
    ap (λ (f : List ℕ → Option (List ℕ)). Some f)
    (fun_ext (λ asked. bytes_of-push_at files file asked (bytes_eq file.name asked) refl none))

or_empty : (b : Bool) (bytes : List ℕ) (o : Option (List ℕ)) → Some (unwrap_or (cond b (Some bytes) o) []) ≡ cond b (Some bytes) (Some (unwrap_or o []))
or_empty true bytes o = refl
or_empty false bytes o = refl

-- where every other name has an empty file, a file that is stored changes that name alone
pub or_empty_of_stored : (name bytes : List ℕ) (before after : List File) → Some (bytes_of after) ≡ with_file name bytes (Some (bytes_of before)) → Some (bytes_or_empty after) ≡ with_file name bytes (Some (bytes_or_empty before))
or_empty_of_stored name bytes before after stored =
    let told : (List ℕ → Option (List ℕ)) → List ℕ → Option (List ℕ) = λ f asked. Some (unwrap_or (f asked) []) in
    ap (option_map told) stored
    ∙ ap (λ (f : List ℕ → Option (List ℕ)). Some f) (fun_ext (λ asked. or_empty (bytes_eq name asked) bytes (bytes_of before asked)))
