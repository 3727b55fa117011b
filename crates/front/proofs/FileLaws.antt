-- Files put one behind another.
use Rattle.std.proofs.Common.{◌≡◌, ℕ, ◌+◌, ◌<◌, List, [], ◌∷◌, ◌++◌, take, length, get_or, refl, sym, ap, ◌∙◌}
use Rattle.std.proofs.lemmas.List.{take_more}
use Rattle.shelf.specs.declared.file.File.{File}
use Rattle.shelf.specs.Shelf.{with_file}
use Rattle.front.specs.Files.{Held, with_files}

-- one more file is put behind the others
pub with_files_more : (files : List File) (file : File) (held : Held) → with_files (files ++ file ∷ []) held ≡ with_file file.name file.bytes (with_files files held)
with_files_more [] file held = refl
with_files_more (first ∷ files) file held = with_files_more files file (with_file first.name first.bytes held)

-- the step of putting the next file
pub put_next : (files : List File) (k : ℕ) (file : File) (start before after : Held) (name bytes : List ℕ) → k < length files → file ≡ get_or files k file → before ≡ with_files (take k files) start → name ≡ file.name → bytes ≡ file.bytes → after ≡ with_file name bytes before → after ≡ with_files (take (k + 1) files) start
put_next files k file start before after name bytes within is so_far n b put =
    let next : take (k + 1) files ≡ take k files ++ file ∷ [] =
    take_more files k file within ∙ ap (λ f. take k files ++ f ∷ []) (sym is) in
    put
    ∙ ap (λ x. with_file x bytes before) n
    ∙ ap (λ x. with_file file.name x before) b
    ∙ ap (λ held. with_file file.name file.bytes held) so_far
    ∙ sym (with_files_more (take k files) file start)
    ∙ ap (λ fs. with_files fs start) (sym next)
