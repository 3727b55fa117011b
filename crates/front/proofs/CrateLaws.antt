-- The files of a crate that are held under a directory are determined, and so is the crate.
use Rattle.std.proofs.Common.{◌≡◌, ◌∙◌, ◌<◌, ◌≤◌, ℕ, zero, suc, List, [], ◌∷◌, map, take, length, Option, Some, None, inl, inr, refl, sym, ap, ap₂, subst, arith, slice_get, ◌⊎◌}
use Rattle.front.specs.Crates.{AreAll, AreHeldIn, IsHeldIn, IsNext, IsNotMain, path_of, paths_of, most_file_bytes}
use Rattle.front.specs.Files.{name_in}
use Rattle.front.specs.Run.{IsTooLarge, LacksNext}
use Rattle.rs_parse.proofs.OneCrate.{one_crate}
use Rattle.rs_parse.proofs.OutlineLaws.{one_main}
use Rattle.rs_parse.specs.Crates.{NamesModules}
use Rattle.rs_text.specs.Reads.{ReadsAs}
use Rattle.rs_text.specs.Text.{cargo_path, main_path, module_path}
use Rattle.rs_text.specs.Tree.{CrateTree}
use Rattle.shelf.specs.declared.file.File.{File}
use Rattle.straight_rust_tree.specs.Text.{file_of}

some_same : (o : Option (List ℕ)) (a b : List ℕ) → o ≡ Some a → o ≡ Some b → a ≡ b
some_same o a b e d = cc

none_some : {P : Type 0} (o : Option (List ℕ)) (a : List ℕ) → o ≡ None → o ≡ Some a → P
none_some o a e d = cc

same_file : (one other : File) → one.name ≡ other.name → one.bytes ≡ other.bytes → one ≡ other
same_file one other name bytes = ap₂ (λ (n b : List ℕ). file_of n b) name bytes

-- two files of one name in a directory have the same bytes
same_bytes : (held : List ℕ → Option (List ℕ)) (directory : List ℕ) (one other : File) → IsHeldIn held directory one → IsHeldIn held directory other
    → one.name ≡ other.name → one.bytes ≡ other.bytes
same_bytes held directory one other h g name =
    some_same (held (name_in directory other.name)) one.bytes other.bytes
    (subst (λ (n : List ℕ). held (name_in directory n) ≡ Some one.bytes) name h.here) g.here

first_name : (one other : List ℕ) (ones others : List (List ℕ)) → one ∷ ones ≡ other ∷ others → one ≡ other
first_name one other ones others e = cc

other_names : (one other : List ℕ) (ones others : List (List ℕ)) → one ∷ ones ≡ other ∷ others → ones ≡ others
other_names one other ones others e = cc

-- files of the same names that are held are the same
same_files : (held : List ℕ → Option (List ℕ)) (directory : List ℕ) (files others : List File) → AreHeldIn held directory files → AreHeldIn held directory others
    → map path_of files ≡ map path_of others → files ≡ others
same_files held directory [] [] h g e = refl
same_files held directory [] (other ∷ others) h g e = cc
same_files held directory (file ∷ files) [] h g e = cc
same_files held directory (file ∷ files) (other ∷ others) h g e =
    let name = first_name file.name other.name (map path_of files) (map path_of others) e in
    let rest = other_names file.name other.name (map path_of files) (map path_of others) e in
    ap₂ (λ (one : File) (list : List File). one ∷ list) (same_file file other name (same_bytes held directory file other h.0 g.0 name))
    (same_files held directory files others h.1 g.1 rest)

-- the names of modules that one `main.rs` has are the same
same_names : (held : List ℕ → Option (List ℕ)) (directory : List ℕ) (main other : File) (names others : List (List ℕ)) → IsHeldIn held directory main → IsHeldIn held directory other
    → main.name ≡ main_path → other.name ≡ main_path → NamesModules main.bytes names → NamesModules other.bytes others → names ≡ others
same_names held directory main other names others h g e d n m =
    let bytes = same_bytes held directory main other h g (e ∙ sym d) in
    one_main other.bytes names others (subst (λ (text : List ℕ). NamesModules text names) bytes n) m

second_name : (a b c d : List ℕ) (ones others : List (List ℕ)) → a ∷ b ∷ ones ≡ c ∷ d ∷ others → b ≡ d
second_name a b c d ones others e = cc

-- all files of the crate under a directory are the same
pub all_same : (held : List ℕ → Option (List ℕ)) (directory : List ℕ) (files others : List File) → AreHeldIn held directory files → AreHeldIn held directory others
    → AreAll files → AreAll others → files ≡ others
all_same held directory [] others h g a b = absurd a
all_same held directory (cargo ∷ []) others h g a b = absurd a
all_same held directory (cargo ∷ main ∷ modules) [] h g a b = absurd b
all_same held directory (cargo ∷ main ∷ modules) (cargo' ∷ []) h g a b = absurd b
all_same held directory (cargo ∷ main ∷ modules) (cargo' ∷ main' ∷ modules') h g a b =
    let e = second_name cargo.name main.name cargo_path main_path (map path_of modules) (map module_path a.0) a.2 in
    let d = second_name cargo'.name main'.name cargo_path main_path (map path_of modules') (map module_path b.0) b.2 in
    let names = same_names held directory main main' a.0 b.0 h.1.0 g.1.0 e d a.1 b.1 in
    same_files held directory (cargo ∷ main ∷ modules) (cargo' ∷ main' ∷ modules') h g (a.2 ∙ ap paths_of names ∙ sym b.2)

-- a file with a path among others is held, within the most bytes
pub record IsThere (held : List ℕ → Option (List ℕ)) (directory path : List ℕ) : Type 0 where
  pub bytes : List ℕ
  pub here : held (name_in directory path) ≡ Some bytes
  pub small : length bytes ≤ most_file_bytes

there_at : (held : List ℕ → Option (List ℕ)) (directory : List ℕ) (file : File) (path : List ℕ) → IsHeldIn held directory file → file.name ≡ path → IsThere held directory path
there_at held directory file path h e = record {
  bytes = file.bytes;
  here = subst (λ (n : List ℕ). held (name_in directory n) ≡ Some file.bytes) e h.here;
  small = h.small;
}

some_name : (a b : List ℕ) → Some a ≡ Some b → a ≡ b
some_name a b e = cc

no_name : {P : Type 0} (b : List ℕ) → None ≡ Some b → P
no_name b e = cc

there : (held : List ℕ → Option (List ℕ)) (directory : List ℕ) (files : List File) (k : ℕ) (path : List ℕ) → AreHeldIn held directory files
    → slice_get (map path_of files) k ≡ Some path → IsThere held directory path
there held directory [] k path h e = no_name path e
there held directory (file ∷ files) zero path h e = there_at held directory file path h.0 (some_name file.name path e)
there held directory (file ∷ files) (suc k) path h e = there held directory files k path h.1 e

-- the file that is read behind some is one of all files
pub next_there : (held : List ℕ → Option (List ℕ)) (directory : List ℕ) (files others : List File) (path : List ℕ) → AreHeldIn held directory files → AreHeldIn held directory others
    → AreAll files → IsNext others path → IsThere held directory path
next_there held directory [] others path h g a n = absurd a
next_there held directory (cargo ∷ []) others path h g a n = absurd a
next_there held directory (cargo ∷ main ∷ modules) [] path h g a n =
    there_at held directory cargo path h.0 (first_name cargo.name cargo_path _ _ a.2 ∙ sym n)
next_there held directory (cargo ∷ main ∷ modules) (one ∷ []) path h g a n =
    there_at held directory main path h.1.0 (second_name cargo.name main.name cargo_path main_path (map path_of modules) (map module_path a.0) a.2 ∙ sym n.1)
next_there held directory (cargo ∷ main ∷ modules) (one ∷ other ∷ others) path h g a n =
    let e = second_name cargo.name main.name cargo_path main_path (map path_of modules) (map module_path a.0) a.2 in
    let d = second_name one.name other.name cargo_path main_path (map path_of others) (take (length others) (map module_path n.0)) n.2.front in
    let names = same_names held directory main other a.0 n.0 h.1.0 g.1.0 e d a.1 n.1 in
    there held directory (cargo ∷ main ∷ modules) (length (one ∷ other ∷ others)) path h
    (ap (λ (list : List (List ℕ)). slice_get list (length (one ∷ other ∷ others))) (a.2 ∙ ap paths_of names) ∙ n.2.next)

-- where all files are held, none lacks
lacks_there : {P : Type 0} (held : List ℕ → Option (List ℕ)) (directory path : List ℕ) → IsThere held directory path
    → ((held (name_in directory path) ≡ None) ⊎ IsTooLarge (held (name_in directory path))) → P
lacks_there held directory path is lacks = elim lacks [
  | inl none ↦ none_some (held (name_in directory path)) is.bytes none is.here
  | inr large ↦
      let more : most_file_bytes < length is.bytes = subst IsTooLarge is.here large in
      let small = is.small in
      absurd (never most_file_bytes (length is.bytes) more small)
]
  where
    never : (a b : ℕ) → a < b → b ≤ a → ⊥
    never a b less more = omega (arith, less, more)

pub all_lacks : {P : Type 0} (held : List ℕ → Option (List ℕ)) (directory : List ℕ) (files : List File) → AreHeldIn held directory files → AreAll files → LacksNext held directory → P
all_lacks held directory files h a lacks = lacks_there held directory lacks.1 (next_there held directory files lacks.0 lacks.1 h lacks.2 a lacks.3) lacks.4

-- `main.rs` isn't of its form where it names no modules
pub not_main_all : {P : Type 0} (held : List ℕ → Option (List ℕ)) (directory : List ℕ) (files others : List File) → AreHeldIn held directory files → AreHeldIn held directory others
    → IsNotMain files → AreAll others → P
not_main_all held directory [] others h g n a = absurd n
not_main_all held directory (cargo ∷ []) others h g n a = absurd n
not_main_all held directory (cargo ∷ main ∷ one ∷ more) others h g n a = absurd n
not_main_all held directory (cargo ∷ main ∷ []) [] h g n a = absurd a
not_main_all held directory (cargo ∷ main ∷ []) (cargo' ∷ []) h g n a = absurd a
not_main_all held directory (cargo ∷ main ∷ []) (cargo' ∷ main' ∷ modules) h g n a =
    let d = second_name cargo'.name main'.name cargo_path main_path (map path_of modules) (map module_path a.0) a.2 in
    let bytes = same_bytes held directory main' main g.1.0 h.1.0 (d ∙ sym n.1) in
    absurd (n.2 a.0 (subst (λ (text : List ℕ). NamesModules text a.0) bytes a.1))

pub not_main_lacks : {P : Type 0} (held : List ℕ → Option (List ℕ)) (directory : List ℕ) (files : List File) → AreHeldIn held directory files → IsNotMain files → LacksNext held directory → P
not_main_lacks held directory [] h n lacks = absurd n
not_main_lacks held directory (cargo ∷ []) h n lacks = absurd n
not_main_lacks held directory (cargo ∷ main ∷ one ∷ more) h n lacks = absurd n
not_main_lacks held directory (cargo ∷ main ∷ []) h n lacks =
    lacks_there held directory lacks.1 (heads_there held directory cargo main lacks.0 lacks.1 h lacks.2 n lacks.3) lacks.4
  where
    heads_there : (held : List ℕ → Option (List ℕ)) (directory : List ℕ) (cargo main : File) (others : List File) (path : List ℕ) → AreHeldIn held directory (cargo ∷ main ∷ [])
        → AreHeldIn held directory others → IsNotMain (cargo ∷ main ∷ []) → IsNext others path → IsThere held directory path
    heads_there held directory cargo main [] path h g n next = there_at held directory cargo path h.0 (n.0 ∙ sym next)
    heads_there held directory cargo main (one ∷ []) path h g n next = there_at held directory main path h.1.0 (n.1 ∙ sym next.1)
    heads_there held directory cargo main (one ∷ other ∷ others) path h g n next =
        let d = second_name one.name other.name cargo_path main_path (map path_of others) (take (length others) (map module_path next.0)) next.2.front in
        let bytes = same_bytes held directory other main g.1.0 h.1.0 (d ∙ sym n.1) in
        absurd (n.2 next.0 (subst (λ (text : List ℕ). NamesModules text next.0) bytes next.1))

-- ---- the crate

-- the crate that files read as, where they are read
pub one_held : (held : List ℕ → Option (List ℕ)) (directory : List ℕ) (files others : List File) (whole other : CrateTree) → AreHeldIn held directory files → AreHeldIn held directory others
    → AreAll files → AreAll others → ReadsAs files whole → ReadsAs others other → whole ≡ other
one_held held directory files others whole other h g a b r s =
    one_crate others whole other (subst (λ (list : List File). ReadsAs list whole) (all_same held directory files others h g a b) r) s
