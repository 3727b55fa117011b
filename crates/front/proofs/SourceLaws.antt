-- What is got of the files of a job, one behind another.
use Rattle.std.proofs.Common.{arith, ◌≡◌, ℕ, ◌+◌, ◌<◌, ◌≤◌, List, [], ◌∷◌, ◌++◌, map, take, length, get_or, Option, Some, None, Err, refl, sym, ap, subst, ◌∙◌, slice_get, option_map, length-append}
use Rattle.std.specs.Prelude.{IsSome}
use Rattle.std.specs.Borrow.{Bor}
use Rattle.std.proofs.lemmas.List.{take_more, take-map, map-append}
use Rattle.std.proofs.lemmas.Option.{slice_get-get_or, slice_get-map}
use Rattle.clap.specs.Walk.{texts}
use Rattle.cr_base.specs.Count.{Rose}
use Rattle.cx_units.specs.Sources.{IsOf, AreOf}
use Rattle.cx_units.specs.declared.source.Source.{Source}
use Rattle.shelf.specs.declared.called.Kind.TheVariants.{Get}
use Rattle.shelf.specs.declared.file.File.{File}
use Rattle.shelf.specs.declared.file.Got.{Got}
use Rattle.shelf.specs.declared.file.Got.TheVariants.{Bytes, TooLarge}
use Rattle.shelf.specs.declared.fault.ShelfFault.{ShelfFault}
use Rattle.shelf.specs.declared.fault.ShelfFault.TheVariants.{Failed, Memory}
use Rattle.shelf.specs.Shelf.{ShelfState, IsGot, IsGotOf, OnFailed, call_of}
use Rattle.shelf.proofs.FaultLemmas.{rose_after}
use Rattle.straight_rust_tree.specs.Text.{file_of}
use Rattle.front.specs.Files.{Held, WhereTold, units_of, unit_and}
use Rattle.front.specs.Refusals.{bytes_of}
use Rattle.front.specs.Sources.{AreGot, source_of}
use Rattle.front.specs.Transpile.{IsUnread}

-- what is known where the shelf tells what it holds
pub where_map : (P Q : (List ℕ → Option (List ℕ)) → Type 0) (h : Held) → ((held : List ℕ → Option (List ℕ)) → h ≡ Some held → P held → Q held) → WhereTold h P → WhereTold h Q
where_map P Q None go told = tt
where_map P Q (Some held) go told = go held refl told

pub where_all : (P : (List ℕ → Option (List ℕ)) → Type 0) (h : Held) → ((held : List ℕ → Option (List ℕ)) → P held) → WhereTold h P
where_all P None go = tt
where_all P (Some held) go = go held

-- ---- the units that are held

pub unit_parts : (name : List ℕ) (o : Option (List ℕ)) (r : Option (List File)) (units : List File) → unit_and name o r ≡ Some units
    → (bytes : List ℕ) × (others : List File) × (o ≡ Some bytes) × (r ≡ Some others) × (units ≡ file_of name bytes ∷ others)
unit_parts name None r units e = cc
unit_parts name (Some bytes) None units e = cc
unit_parts name (Some bytes) (Some others) units e = (bytes, others, refl, refl, cc)

-- units have the names under which they are held
pub unit_names : (held : List ℕ → Option (List ℕ)) (names : List (List ℕ)) (units : List File) → units_of held names ≡ Some units → map (λ (unit : File). unit.name) units ≡ names
unit_names held [] units e =
    let empty : units ≡ [] = cc in
    ap (map (λ (unit : File). unit.name)) empty
unit_names held (name ∷ names) units e =
    let parts = unit_parts name (held name) (units_of held names) units e in
    ap (map (λ (unit : File). unit.name)) parts.4 ∙ ap (λ ns. name ∷ ns) (unit_names held names parts.1 parts.3)

both_held : (name bytes : List ℕ) (others : List File) (o : Option (List ℕ)) (r : Option (List File)) → o ≡ Some bytes → r ≡ Some others
    → unit_and name o r ≡ Some (file_of name bytes ∷ others)
both_held name bytes others o r e d = ap (λ (x : Option (List ℕ)). unit_and name x r) e ∙ ap (unit_and name (Some bytes)) d

-- one more is held
units_more : (held : List ℕ → Option (List ℕ)) (names : List (List ℕ)) (units : List File) (name bytes : List ℕ) → units_of held names ≡ Some units
    → held name ≡ Some bytes → units_of held (names ++ name ∷ []) ≡ Some (units ++ file_of name bytes ∷ [])
units_more held [] units name bytes e d =
    let empty : [] ≡ units = cc in
    both_held name bytes [] (held name) (Some []) d refl ∙ ap (λ (list : List File). Some (list ++ file_of name bytes ∷ [])) empty
units_more held (first ∷ names) units name bytes e d =
    let parts = unit_parts first (held first) (units_of held names) units e in
    both_held first parts.0 (parts.1 ++ file_of name bytes ∷ []) (held first) (units_of held (names ++ name ∷ [])) parts.2
    (units_more held names parts.1 name bytes parts.3 d)
    ∙ ap (λ (list : List File). Some (list ++ file_of name bytes ∷ [])) (sym parts.4)

of_more : (sources : List Source) (units : List (List ℕ)) (source : Source) (bytes : List ℕ) → AreOf sources units → IsOf source bytes
    → AreOf (sources ++ source ∷ []) (units ++ bytes ∷ [])
of_more [] [] source bytes are one = (one, tt)
of_more [] (unit ∷ units) source bytes are one = absurd are
of_more (first ∷ sources) [] source bytes are one = absurd are
of_more (first ∷ sources) (unit ∷ units) source bytes are one = (are.0, of_more sources units source bytes are.1 one)

source_is : (o : Option (List ℕ)) (got : Got) → IsGotOf o 1048576 got → (bytes : List ℕ) × (o ≡ Some bytes) × IsOf (source_of got) bytes
source_is None got h = absurd h
source_is (Some bytes) (Bytes given) h = (bytes, refl, h.0)
source_is (Some bytes) TooLarge h = (bytes, refl, h)

-- ---- all files so far

abbrev HeldUnits : List (List ℕ) → List Source → (List ℕ → Option (List ℕ)) → Type 0
HeldUnits names sources held = (units : List File) × (units_of held names ≡ Some units) × AreOf sources (bytes_of units)

held_more : (names : List (List ℕ)) (sources : List Source) (name : List ℕ) (got : Got) (held : List ℕ → Option (List ℕ)) → HeldUnits names sources held
    → IsGotOf (held name) 1048576 got → HeldUnits (names ++ name ∷ []) (sources ++ source_of got ∷ []) held
held_more names sources name got held has gives =
    let found = source_is (held name) got gives in
    let added : bytes_of (has.0 ++ file_of name found.0 ∷ []) ≡ bytes_of has.0 ++ found.0 ∷ [] = map-append (λ (unit : File). unit.bytes) has.0 (file_of name found.0 ∷ []) in (
      has.0 ++ file_of name found.0 ∷ [],
      units_more held names has.0 name found.0 has.1 found.1,
      subst (λ (units : List (List ℕ)). AreOf (sources ++ source_of got ∷ []) units) (sym added) (of_more sources (bytes_of has.0) (source_of got) found.0 has.2 found.2),
    )

gives_of : (h g : Held) (held : List ℕ → Option (List ℕ)) (name : List ℕ) (got : Got) → h ≡ Some held → g ≡ h → IsGot g name 1048576 got → IsGotOf (held name) 1048576 got
gives_of h g held name got told same gives = subst (λ (x : Held). IsGot x name 1048576 got) (same ∙ told) gives

pub got_none : (state : ShelfState) → AreGot [] [] state state
got_none state = record {
  count = refl;
  kept = refl;
  later = omega arith;
  unfailed = refl;
  held = where_all (HeldUnits [] []) state.held (λ held. ([], refl, tt));
}

got_more : (names : List (List ℕ)) (sources : List Source) (name : List ℕ) (got : Got) (start before after : ShelfState) → AreGot names sources start before
    → IsGot before.held name 1048576 got → after.held ≡ before.held → before.faults ≤ after.faults → after.last ≡ before.last
    → AreGot (names ++ name ∷ []) (sources ++ source_of got ∷ []) start after
got_more names sources name got start before after so_far gives kept later last = record {
  count =
      length-append sources (source_of got ∷ []) ∙ ap (λ n. n + 1) so_far.count ∙ sym (length-append names (name ∷ []));
  kept = kept ∙ so_far.kept;
  later = omega (arith, so_far.later, later);
  unfailed = last ∙ so_far.unfailed;
  held = where_map (HeldUnits names sources) (HeldUnits (names ++ name ∷ []) (sources ++ source_of got ∷ [])) start.held
      (λ held told has. held_more names sources name got held has (gives_of start.held before.held held name got told so_far.kept gives)) so_far.held;
}

-- ---- the loop

texts_at : (names : List (Bor (List ℕ))) (k : ℕ) (d : Bor (List ℕ)) → k < length names → slice_get (texts names) k ≡ Some (get_or names k d).now
texts_at names k d within =
    slice_get-map (λ (word : Bor (List ℕ)). word.now) names k
    ∙ ap (option_map (λ (word : Bor (List ℕ)). word.now)) (slice_get-get_or names k d within)

texts_more : (names : List (Bor (List ℕ))) (k : ℕ) (d : Bor (List ℕ)) → k < length names
    → texts (take k names) ++ (get_or names k d).now ∷ [] ≡ texts (take (k + 1) names)
texts_more names k d within = sym (
    ap texts (take_more names k d within)
    ∙ map-append (λ (word : Bor (List ℕ)). word.now) (take k names) (get_or names k d ∷ [])
    )

-- the next file was got
pub got_next : (names : List (Bor (List ℕ))) (sources after_push : List Source) (k : ℕ) (d : Bor (List ℕ)) (source : Source) (got : Got) (start before after : ShelfState)
    → k < length names → AreGot (texts (take k names)) sources start before → IsGot before.held (get_or names k d).now 1048576 got
    → after.held ≡ before.held → before.faults ≤ after.faults → after.last ≡ before.last → source ≡ source_of got → after_push ≡ sources ++ source ∷ []
    → AreGot (texts (take (k + 1) names)) after_push start after
got_next names sources after_push k d source got start before after within so_far gives kept later last made pushed =
    subst (λ (list : List Source). AreGot (texts (take (k + 1) names)) list start after)
    (sym (pushed ∙ ap (λ (one : Source). sources ++ one ∷ []) made))
    (subst (λ (list : List (List ℕ)). AreGot list (sources ++ source_of got ∷ []) start after) (texts_more names k d within)
    (got_more (texts (take k names)) sources (get_or names k d).now got start before after so_far gives kept later last))

-- a call that failed
pub on_failed : (T P : Type 0) (fault : ShelfFault) → fault ≡ Failed → OnFailed {T = T} (Err fault) P → P
on_failed T P Failed is failed = failed
on_failed T P Memory is failed = cc

-- the `get` of the next file failed
pub got_failed : (names : List (Bor (List ℕ))) (sources : List Source) (k : ℕ) (d : Bor (List ℕ)) (start before after : ShelfState)
    → k < length names → AreGot (texts (take k names)) sources start before
    → after.held ≡ before.held → Rose before.faults after.faults → after.last ≡ Some (call_of (get_or names k d).now Get) → IsUnread (texts names) (get_or names k d).now start after
got_failed names sources k d start before after within so_far kept rose last = record {
  kept = kept ∙ so_far.kept;
  rose = rose_after start.faults before.faults after.faults so_far.later rose;
  last = last;
  place = (
    k,
    texts_at names k d within,
    where_map (HeldUnits (texts (take k names)) sources) (λ held. IsSome (units_of held (take k (texts names)))) start.held
        (λ held told has. subst (λ (list : List (List ℕ)). IsSome (units_of held list)) (sym (take-map (λ (word : Bor (List ℕ)). word.now) k names))
        (subst IsSome (sym has.1) refl)) so_far.held,
  );
}
