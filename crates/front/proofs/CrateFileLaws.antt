-- What getting the files of a crate leaves, one behind another.
use Rattle.std.proofs.Common.{◌≡◌, ◌∙◌, ◌<◌, ◌≤◌, ◌+◌, ℕ, List, [], ◌∷◌, ◌++◌, map, take, length, get_or, Option, Some, None, Result, Ok, Err, MatchResult, inl, inr, refl, sym, ap, subst, arith, slice_get, length-take}
use Rattle.std.proofs.lemmas.List.{take_all, take_more, map-append, length-map}
use Rattle.std.proofs.lemmas.Option.{slice_get-get_or}
use Rattle.cr_base.specs.Count.{Rose}
use Rattle.front.specs.CrateFiles.{AreGotAll, AreGotIn, IsGotWhole, IsNamedAs, ModulesAreGot, NamesPaths, StopsAtFile, StopsCrate, StopsFile, StopsGet, StopsMain, StopsModules}
use Rattle.front.specs.Crates.{AreHeldIn, IsNext, most_file_bytes, path_of}
use Rattle.front.specs.Files.{Held, WhereTold, name_in}
use Rattle.front.specs.Runs.{FailedOrLarge}
use Rattle.front.specs.declared.unread.Unread.{Unread}
use Rattle.front.specs.declared.unread.Unread.TheVariants.{NotRead, NotMain, Memory}
use Rattle.front.proofs.SourceLaws.{where_all}
use Rattle.rs_parse.specs.Crates.{IfNotRust, NamesModules}
use Rattle.rs_parse.specs.declared.fault.ReadFault.{ReadFault}
use Rattle.rs_parse.specs.declared.fault.ReadFault.TheVariants.{NotRust}
use Rattle.rs_parse.specs.declared.fault.ReadFault.TheVariants as fault
use Rattle.rs_text.specs.Text.{cargo_path, main_path, module_path}
use Rattle.shelf.specs.declared.called.Kind.TheVariants.{Get}
use Rattle.shelf.specs.declared.file.File.{File}
use Rattle.shelf.specs.declared.file.Got.TheVariants.{Bytes, TooLarge}
use Rattle.shelf.specs.Shelf.{ShelfState, IsGot, IsGotOf, call_of}
use Rattle.shelf.proofs.FaultLemmas.{rose_after}

-- what is known of two things that are told together
pub where_both : (P Q R : (List ℕ → Option (List ℕ)) → Type 0) (h : Held) → ((held : List ℕ → Option (List ℕ)) → P held → Q held → R held) → WhereTold h P → WhereTold h Q → WhereTold h R
where_both P Q R None go p q = tt
where_both P Q R (Some held) go p q = go held p q

-- ---- one file

bytes_of_got : (o : Option (List ℕ)) (bytes : List ℕ) → IsGotOf o most_file_bytes (Bytes bytes) → (o ≡ Some bytes) × (length bytes ≤ most_file_bytes)
bytes_of_got None bytes got = absurd got
bytes_of_got (Some held) bytes got = (ap Some (sym got.0), subst (λ (list : List ℕ). length list ≤ most_file_bytes) (sym got.0) got.1)

large_of_got : (o : Option (List ℕ)) → IsGotOf o most_file_bytes TooLarge → (bytes : List ℕ) × (o ≡ Some bytes) × (most_file_bytes < length bytes)
large_of_got None got = absurd got
large_of_got (Some held) got = (held, refl, got)

told_bytes : (h : Held) (directory path name : List ℕ) (file : File) → name ≡ name_in directory path → file.name ≡ path → IsGot h name most_file_bytes (Bytes file.bytes) → WhereTold h (λ held. AreHeldIn held directory (file ∷ []))
told_bytes None directory path name file n p got = tt
told_bytes (Some held) directory path name file n p got =
    let found = bytes_of_got (held name) file.bytes got in
    let same : name ≡ name_in directory file.name = n ∙ ap (name_in directory) (sym p) in
    (record { here = subst (λ (at : List ℕ). held at ≡ Some file.bytes) same found.0; small = found.1 }, tt)

pub file_got : (directory path name : List ℕ) (file : File) (s t : ShelfState) → name ≡ name_in directory path → file.name ≡ path → IsGot s.held name most_file_bytes (Bytes file.bytes)
    → t.held ≡ s.held → s.faults ≤ t.faults → t.last ≡ s.last → (file.name ≡ path) × AreGotIn directory (file ∷ []) s t
file_got directory path name file s t n p got kept later last =
    (p, record { kept = kept; later = later; unfailed = last; here = told_bytes s.held directory path name file n p got })

told_large : (h : Held) (name : List ℕ) → IsGot h name most_file_bytes TooLarge → WhereTold h (λ held. (bytes : List ℕ) × (held name ≡ Some bytes) × (most_file_bytes < length bytes))
told_large None name got = tt
told_large (Some held) name got = large_of_got (held name) got

pub file_large : (directory path name : List ℕ) (s t : ShelfState) → name ≡ name_in directory path → IsGot s.held name most_file_bytes TooLarge → t.held ≡ s.held → t.last ≡ s.last
    → (name ≡ name_in directory path) × (t.held ≡ s.held) × FailedOrLarge name s t
file_large directory path name s t n got kept last = (n, kept, inr (last, told_large s.held name got))

pub file_failed : (directory path name : List ℕ) (s t : ShelfState) → name ≡ name_in directory path → t.held ≡ s.held → Rose s.faults t.faults → t.last ≡ Some (call_of name Get)
    → (name ≡ name_in directory path) × (t.held ≡ s.held) × FailedOrLarge name s t
file_failed directory path name s t n kept rose last = (n, kept, inl (rose, last))

-- ---- many files

held_both : (held : List ℕ → Option (List ℕ)) (directory : List ℕ) (files others : List File) → AreHeldIn held directory files → AreHeldIn held directory others → AreHeldIn held directory (files ++ others)
held_both held directory [] others h g = g
held_both held directory (file ∷ files) others h g = (h.0, held_both held directory files others h.1 g)

same_held : (P : Held → Type 0) (a b : Held) → a ≡ b → P a → P b
same_held P a b e p = subst P e p

pub got_both : (directory : List ℕ) (files others : List File) (s m t : ShelfState) → AreGotIn directory files s m → AreGotIn directory others m t → AreGotIn directory (files ++ others) s t
got_both directory files others s m t a b = record {
  kept = b.kept ∙ a.kept;
  later = omega (arith, a.later, b.later);
  unfailed = b.unfailed ∙ a.unfailed;
  here = where_both (λ held. AreHeldIn held directory files) (λ held. AreHeldIn held directory others) (λ held. AreHeldIn held directory (files ++ others)) s.held
      (λ held h g. held_both held directory files others h g) a.here (same_held (λ (h : Held). WhereTold h (λ held. AreHeldIn held directory others)) m.held s.held a.kept b.here);
}

pub got_none : (directory : List ℕ) (paths : List (List ℕ)) (s : ShelfState) → AreGotAll directory (take 0 paths) [] s s
got_none directory paths s = record {
  named = refl;
  got = record { kept = refl; later = omega arith; unfailed = refl; here = where_all (λ held. AreHeldIn held directory []) s.held (λ held. tt) };
}

pub got_next : (directory : List ℕ) (paths : List (List ℕ)) (files pushed : List File) (k : ℕ) (path d : List ℕ) (file : File) (s m t : ShelfState) → k < length paths → path ≡ get_or paths k d
    → AreGotAll directory (take k paths) files s m → (file.name ≡ path) × AreGotIn directory (file ∷ []) m t → pushed ≡ files ++ file ∷ [] → AreGotAll directory (take (k + 1) paths) pushed s t
got_next directory paths files pushed k path d file s m t within is so_far one push = subst (λ (list : List File). AreGotAll directory (take (k + 1) paths) list s t) (sym push) (record {
  named =
      map-append path_of files (file ∷ [])
      ∙ ap (λ (list : List (List ℕ)). list ++ file.name ∷ []) so_far.named
      ∙ ap (λ (n : List ℕ). take k paths ++ n ∷ []) (one.0 ∙ is)
      ∙ sym (take_more paths k d within);
  got = got_both directory files (file ∷ []) s m t so_far.got one.1;
})

-- so many files as paths
counted : (paths : List (List ℕ)) (files : List File) (k : ℕ) → k < length paths → map path_of files ≡ take k paths → length files ≡ k
counted paths files k within named = sym (length-map files path_of) ∙ ap length named ∙ taken paths k within
  where
    taken : (list : List (List ℕ)) (n : ℕ) → n < length list → length (take n list) ≡ n
    taken list n below = simp length-take (omega (arith, below))

pub file_stops : (directory : List ℕ) (paths : List (List ℕ)) (files : List File) (k : ℕ) (path d : List ℕ) (why : Unread) (s m t : ShelfState) → k < length paths → path ≡ get_or paths k d
    → AreGotAll directory (take k paths) files s m → StopsFile directory path why m t → StopsGet directory paths why s t
file_stops directory paths files k path d (NotMain name line) s m t within is so_far stops = absurd stops
file_stops directory paths files k path d Memory s m t within is so_far stops = stops ∙ so_far.got.kept
file_stops directory paths files k path d (NotRead name) s m t within is so_far stops =
    let count = counted paths files k within so_far.named in record {
      kept = stops.1 ∙ so_far.got.kept;
      why = why_from name s m t so_far.got stops.2;
      path = path;
      name_is = stops.0;
      files = files;
      front = so_far.named ∙ ap (λ (n : ℕ). take n paths) (sym count);
      next = ap (slice_get paths) count ∙ slice_get-get_or paths k d within ∙ ap Some (sym is);
      here = so_far.got.here;
    }
  where
    why_from : (name : List ℕ) (s m t : ShelfState) → AreGotIn directory files s m → FailedOrLarge name m t → FailedOrLarge name s t
    why_from name s m t got why = elim why [
      | inl faulty ↦ inl (rose_after s.faults m.faults t.faults got.later faulty.0, faulty.1)
      | inr large ↦ inr (large.0 ∙ got.unfailed, subst (λ (h : Held). WhereTold h (λ held. (bytes : List ℕ) × (held name ≡ Some bytes) × (most_file_bytes < length bytes))) got.kept large.1)
    ]

pub all_got : (directory : List ℕ) (paths : List (List ℕ)) (files : List File) (k : ℕ) (s t : ShelfState) → length paths ≤ k → AreGotAll directory (take k paths) files s t → AreGotAll directory paths files s t
all_got directory paths files k s t enough got = subst (λ (list : List (List ℕ)). AreGotAll directory list files s t) (take_all k paths enough) got

-- ---- `main.rs`, and the modules behind it

pub main_stops : (directory text : List ℕ) (why : Unread) → ((names : List (List ℕ)) → NamesModules text names → ⊥) → IsNamedAs directory main_path why → StopsMain directory text why
main_stops directory text (NotRead name) never named = absurd named
main_stops directory text (NotMain name line) never named = (never, named)
main_stops directory text Memory never named = tt

second_is : (one other : File) → Some one ≡ Some other → one ≡ other
second_is one other e = cc

pub modules_got : (directory : List ℕ) (heads : List File) (main : File) (paths : List (List ℕ)) (modules files : List File) (s t : ShelfState) → map path_of heads ≡ cargo_path ∷ main_path ∷ [] → slice_get heads 1 ≡ Some main
    → NamesPaths main.bytes paths → AreGotAll directory paths modules s t → files ≡ heads ++ modules → ModulesAreGot directory heads files s t
modules_got directory [] main paths modules files s t named at names got whole = cc
modules_got directory (cargo ∷ []) main paths modules files s t named at names got whole = cc
modules_got directory (cargo ∷ second ∷ one ∷ more) main paths modules files s t named at names got whole = cc
modules_got directory (cargo ∷ second ∷ []) main paths modules files s t named at names got whole =
    let same = second_is second main at in (
      modules,
      names.0,
      subst (λ (one : File). NamesModules one.bytes names.0) (sym same) names.1,
      whole,
      subst (λ (list : List (List ℕ)). AreGotAll directory list modules s t) names.2 got,
    )

pub modules_stop : (directory : List ℕ) (heads : List File) (main : File) (paths : List (List ℕ)) (why : Unread) (s t : ShelfState) → map path_of heads ≡ cargo_path ∷ main_path ∷ [] → slice_get heads 1 ≡ Some main
    → NamesPaths main.bytes paths → StopsGet directory paths why s t → StopsModules directory heads why s t
modules_stop directory [] main paths why s t named at names stops = cc
modules_stop directory (cargo ∷ []) main paths why s t named at names stops = cc
modules_stop directory (cargo ∷ second ∷ one ∷ more) main paths why s t named at names stops = cc
modules_stop directory (cargo ∷ second ∷ []) main paths (NotMain name line) s t named at names stops = absurd stops
modules_stop directory (cargo ∷ second ∷ []) main paths Memory s t named at names stops = stops
modules_stop directory (cargo ∷ second ∷ []) main paths (NotRead name) s t named at names stops =
    let same = second_is second main at in (
      names.0,
      subst (λ (one : File). NamesModules one.bytes names.0) (sym same) names.1,
      subst (λ (list : List (List ℕ)). StopsAtFile directory list name s t) names.2 stops,
    )

pub main_stops_modules : (directory : List ℕ) (heads : List File) (main : File) (why : Unread) (s : ShelfState) → map path_of heads ≡ cargo_path ∷ main_path ∷ [] → slice_get heads 1 ≡ Some main
    → StopsMain directory main.bytes why → StopsModules directory heads why s s
main_stops_modules directory [] main why s named at stops = cc
main_stops_modules directory (cargo ∷ []) main why s named at stops = cc
main_stops_modules directory (cargo ∷ second ∷ one ∷ more) main why s named at stops = cc
main_stops_modules directory (cargo ∷ second ∷ []) main (NotRead name) s named at stops = absurd stops
main_stops_modules directory (cargo ∷ second ∷ []) main Memory s named at stops = refl
main_stops_modules directory (cargo ∷ second ∷ []) main (NotMain name line) s named at stops =
    (refl, subst (λ (one : File). StopsMain directory one.bytes (NotMain name line)) (sym (second_is second main at)) stops)

pub memory_stops_modules : (directory : List ℕ) (heads : List File) (s t : ShelfState) → map path_of heads ≡ cargo_path ∷ main_path ∷ [] → t.held ≡ s.held → StopsModules directory heads Memory s t
memory_stops_modules directory [] s t named kept = cc
memory_stops_modules directory (cargo ∷ []) s t named kept = cc
memory_stops_modules directory (cargo ∷ second ∷ one ∷ more) s t named kept = cc
memory_stops_modules directory (cargo ∷ second ∷ []) s t named kept = kept

-- ---- the whole crate

first_two : (a b c d : List ℕ) → a ∷ b ∷ [] ≡ c ∷ d ∷ [] → (a ≡ c) × (b ≡ d)
first_two a b c d e = (cc, cc)

pub whole_got : (directory : List ℕ) (heads files : List File) (s m t : ShelfState) → AreGotAll directory (cargo_path ∷ main_path ∷ []) heads s m → ModulesAreGot directory heads files m t → IsGotWhole directory files s t
whole_got directory [] files s m t got modules = absurd modules
whole_got directory (cargo ∷ []) files s m t got modules = absurd modules
whole_got directory (cargo ∷ main ∷ one ∷ more) files s m t got modules = absurd modules
whole_got directory (cargo ∷ main ∷ []) files s m t got modules =
    let two = first_two cargo.name main.name cargo_path main_path got.named in
    subst (λ (list : List File). IsGotWhole directory list s t) (sym modules.3) (record {
      all = (
        modules.1,
        modules.2,
        ap (λ (list : List (List ℕ)). cargo.name ∷ main.name ∷ list) modules.4.named ∙ ap (λ (n : List ℕ). n ∷ main.name ∷ map module_path modules.1) two.0
            ∙ ap (λ (n : List ℕ). cargo_path ∷ n ∷ map module_path modules.1) two.1,
      );
      got = got_both directory (cargo ∷ main ∷ []) modules.0 s m t got.got modules.4.got;
    })

-- the files before one that couldn't be read
heads_next : (files : List File) (path : List ℕ) → map path_of files ≡ take (length files) (cargo_path ∷ main_path ∷ []) → slice_get (cargo_path ∷ main_path ∷ []) (length files) ≡ Some path → IsNext files path
heads_next [] path front next = cc
heads_next (cargo ∷ []) path front next = (cc, cc)
heads_next (cargo ∷ main ∷ more) path front next = cc

pub heads_stop : (directory : List ℕ) (why : Unread) (s t : ShelfState) → StopsGet directory (cargo_path ∷ main_path ∷ []) why s t → StopsCrate directory why s t
heads_stop directory (NotMain name line) s t stops = absurd stops
heads_stop directory Memory s t stops = stops
heads_stop directory (NotRead name) s t stops = record {
  kept = stops.kept;
  why = stops.why;
  path = stops.path;
  name_is = stops.name_is;
  files = stops.files;
  next = heads_next stops.files stops.path stops.front stops.next;
  here = stops.here;
}

why_before : (directory name : List ℕ) (files : List File) (s m t : ShelfState) → AreGotIn directory files s m → FailedOrLarge name m t → FailedOrLarge name s t
why_before directory name files s m t got why = elim why [
  | inl faulty ↦ inl (rose_after s.faults m.faults t.faults got.later faulty.0, faulty.1)
  | inr large ↦ inr (large.0 ∙ got.unfailed, subst (λ (h : Held). WhereTold h (λ held. (bytes : List ℕ) × (held name ≡ Some bytes) × (most_file_bytes < length bytes))) got.kept large.1)
]

pub behind_stops : (directory : List ℕ) (heads : List File) (why : Unread) (s m t : ShelfState) → AreGotAll directory (cargo_path ∷ main_path ∷ []) heads s m → StopsModules directory heads why m t → StopsCrate directory why s t
behind_stops directory [] Memory s m t got stops = stops ∙ got.got.kept
behind_stops directory (cargo ∷ []) Memory s m t got stops = stops ∙ got.got.kept
behind_stops directory (cargo ∷ main ∷ []) Memory s m t got stops = stops ∙ got.got.kept
behind_stops directory (cargo ∷ main ∷ one ∷ more) Memory s m t got stops = stops ∙ got.got.kept
behind_stops directory [] (NotRead name) s m t got stops = absurd stops
behind_stops directory [] (NotMain name line) s m t got stops = absurd stops
behind_stops directory (cargo ∷ []) (NotRead name) s m t got stops = absurd stops
behind_stops directory (cargo ∷ []) (NotMain name line) s m t got stops = absurd stops
behind_stops directory (cargo ∷ main ∷ one ∷ more) (NotRead name) s m t got stops = absurd stops
behind_stops directory (cargo ∷ main ∷ one ∷ more) (NotMain name line) s m t got stops = absurd stops
behind_stops directory (cargo ∷ main ∷ []) (NotMain name line) s m t got stops =
    let two = first_two cargo.name main.name cargo_path main_path got.named in (
      cargo ∷ main ∷ [],
      subst (λ (state : ShelfState). AreGotIn directory (cargo ∷ main ∷ []) s state) (sym stops.0) got.got,
      (two.0, two.1, stops.1.0),
      stops.1.1,
    )
behind_stops directory (cargo ∷ main ∷ []) (NotRead name) s m t got stops =
    let two = first_two cargo.name main.name cargo_path main_path got.named in
    let at = stops.2 in record {
      kept = at.kept ∙ got.got.kept;
      why = why_before directory name (cargo ∷ main ∷ []) s m t got.got at.why;
      path = at.path;
      name_is = at.name_is;
      files = cargo ∷ main ∷ at.files;
      next = (
        stops.0,
        stops.1,
        record {
          front = ap (λ (n : List ℕ). n ∷ main.name ∷ map path_of at.files) two.0 ∙ ap (λ (n : List ℕ). cargo_path ∷ n ∷ map path_of at.files) two.1
              ∙ ap (λ (list : List (List ℕ)). cargo_path ∷ main_path ∷ list) at.front;
          next = at.next;
        },
      );
      here = where_both (λ held. AreHeldIn held directory (cargo ∷ main ∷ [])) (λ held. AreHeldIn held directory at.files) (λ held. AreHeldIn held directory (cargo ∷ main ∷ at.files)) s.held
          (λ held h g. (h.0, (h.1.0, g))) got.got.here (subst (λ (h : Held). WhereTold h (λ held. AreHeldIn held directory at.files)) got.got.kept at.here);
    }

-- the crate, or why it wasn't got
pub crate_of : (directory : List ℕ) (heads : List File) (r : Result (List File) Unread) (s m t : ShelfState) → AreGotAll directory (cargo_path ∷ main_path ∷ []) heads s m
    → MatchResult r (λ files. ModulesAreGot directory heads files m t) (λ why. StopsModules directory heads why m t)
    → MatchResult r (λ files. IsGotWhole directory files s t) (λ why. StopsCrate directory why s t)
crate_of directory heads (Ok files) s m t got modules = whole_got directory heads files s m t got modules
crate_of directory heads (Err why) s m t got stops = behind_stops directory heads why s m t got stops

-- ---- what is said of a text that is none

same_number : (file other line at : ℕ) → NotRust file line ≡ NotRust other at → file ≡ other
same_number file other line at e = cc

pub says_not_rust : (A : Type 0) (fault : ReadFault) (file line : ℕ) (says : ℕ → Type 0) → fault ≡ NotRust file line → IfNotRust {A = A} (Err fault) says → says file
says_not_rust A (NotRust other at) file line says is of = subst (λ (n : ℕ). says n) (same_number other file at line is) of
says_not_rust A fault.Memory file line says is of = cc
