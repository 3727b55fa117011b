-- Files by their names.
use Rattle.std.proofs.Common.{◌≡◌, ℕ, ◌+◌, ◌<◌, ◌≤◌, true, false, List, [], ◌∷◌, length, drop, get_or, Option, Some, None, sym, ap, subst, ◌∙◌, bytes_eq}
use Rattle.std.specs.Cmp.Lexicographic.{same_text}
use Rattle.std.specs.Option.{is_some}
use Rattle.std.proofs.lemmas.Bool.{cond-true, cond-false}
use Rattle.std.proofs.lemmas.List.{at_drop_more, at_drop_all}
use Rattle.std.proofs.lemmas.Option.{slice_get-get_or}
use Rattle.shelf.specs.declared.file.File.{File}
use Rattle.rs_parse.proofs.Lexing.{Text}
use Rattle.rs_parse.specs.Crates.{stands_once}
use Rattle.rs_parse.specs.Reading.{IsOnly, IsFirst, IsFoundIn}
use Rattle.rs_text.specs.Reads.{texts_named, holds_once}

-- what is left behind a file of another name, and behind one of the name
pub other_left : (files : List File) (name : Text) (at : ℕ) (file : File) → at < length files → get_or files at file ≡ file → bytes_eq file.name name ≡ false →
    texts_named name (drop at files) ≡ texts_named name (drop (at + 1) files)
other_left files name at file h e n =
    at_drop_more (texts_named name) files at file h ∙ ap (λ (f : File). texts_named name (f ∷ drop (at + 1) files)) e ∙ cond-false (bytes_eq file.name name) _ _ n

pub this_left : (files : List File) (name : Text) (at : ℕ) (file : File) → at < length files → get_or files at file ≡ file → bytes_eq file.name name ≡ true →
    texts_named name (drop at files) ≡ file.bytes ∷ texts_named name (drop (at + 1) files)
this_left files name at file h e n =
    at_drop_more (texts_named name) files at file h ∙ ap (λ (f : File). texts_named name (f ∷ drop (at + 1) files)) e ∙ cond-true (bytes_eq file.name name) _ _ n

pub first_found : (files : List File) (name : Text) (at : ℕ) (file : File) → at < length files → get_or files at file ≡ file → bytes_eq file.name name ≡ true →
    texts_named name files ≡ texts_named name (drop at files) → IsFirst files (drop (at + 1) files) name at
first_found files name at file h e n before = record {
  file = file;
  here = slice_get-get_or files at file h ∙ ap Some e;
  named = same_text file.name name (sym n);
  first = before ∙ this_left files name at file h e n;
}

pub found_on : (files left more : List File) (name : Text) (found : Option ℕ) → texts_named name left ≡ texts_named name more → IsFoundIn files left name found → IsFoundIn files more name found
found_on files left more name None e h = h ∙ e
found_on files left more name (Some number) e h = record { file = h.file; here = h.here; named = h.named; first = h.first ∙ ap (λ l. h.file.bytes ∷ l) e }

pub twice : (files : List File) (name : Text) (at number : ℕ) (file : File) → at < length files → get_or files at file ≡ file → bytes_eq file.name name ≡ true →
    IsFoundIn files (drop at files) name (Some number) → false ≡ stands_once files name
twice files name at number file h e n found =
    sym (ap (λ l. holds_once l (λ text. true)) (found.first ∙ ap (λ l. found.file.bytes ∷ l) (this_left files name at file h e n)))

pub at_end : (files : List File) (name : Text) (at : ℕ) → length files ≤ at → texts_named name (drop at files) ≡ []
at_end files name at h = at_drop_all (texts_named name) files at h

pub none_once : (files : List File) (name : Text) (at : ℕ) → length files ≤ at → IsFoundIn files (drop at files) name None → false ≡ stands_once files name
none_once files name at h found = sym (ap (λ l. holds_once l (λ text. true)) (found ∙ at_end files name at h))

pub one_once : (files : List File) (name : Text) (at number : ℕ) → length files ≤ at → IsFoundIn files (drop at files) name (Some number) → IsOnly files name number
one_once files name at number h found = record {
  file = found.file;
  here = found.here;
  named = found.named;
  only = found.first ∙ ap (λ l. found.file.bytes ∷ l) (at_end files name at h);
}

pub only_once : (files : List File) (name : Text) (number : ℕ) → IsOnly files name number → true ≡ stands_once files name
only_once files name number only = sym (ap (λ l. holds_once l (λ text. true)) only.only)

-- ---- one turn of the search

none_found : (files left : List File) (name : Text) (found : Option ℕ) → false ≡ is_some found → IsFoundIn files left name found → texts_named name files ≡ texts_named name left
none_found files left name None e h = h
none_found files left name (Some number) e h = cc

pub found_here : (files : List File) (name named : Text) (at : ℕ) (file : File) (before after : Option ℕ) → at < length files → file ≡ get_or files at file → named ≡ (get_or files at file).name →
    true ≡ bytes_eq named name → false ≡ is_some before → IsFoundIn files (drop at files) name before → after ≡ Some at → IsFoundIn files (drop (at + 1) files) name after
found_here files name named at file before after h e m n none found is =
    let same : bytes_eq file.name name ≡ true = ap (λ (t : Text). bytes_eq t name) (ap (λ (f : File). f.name) e ∙ sym m) ∙ sym n in
    subst (λ (o : Option ℕ). IsFoundIn files (drop (at + 1) files) name o) (sym is)
    (first_found files name at file h (sym e) same (none_found files (drop at files) name before none found))

pub not_here : (files : List File) (name named : Text) (at : ℕ) (file : File) (before after : Option ℕ) → at < length files → file ≡ get_or files at file → named ≡ (get_or files at file).name →
    false ≡ bytes_eq named name → IsFoundIn files (drop at files) name before → after ≡ before → IsFoundIn files (drop (at + 1) files) name after
not_here files name named at file before after h e m n found is =
    let other : bytes_eq file.name name ≡ false = ap (λ (t : Text). bytes_eq t name) (ap (λ (f : File). f.name) e ∙ sym m) ∙ sym n in
    subst (λ (o : Option ℕ). IsFoundIn files (drop (at + 1) files) name o) (sym is)
    (found_on files (drop at files) (drop (at + 1) files) name before (other_left files name at file h (sym e) other) found)
