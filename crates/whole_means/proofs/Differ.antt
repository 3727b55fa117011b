-- The names of a function's parameters and locals differ, that of the local that says where it goes on too.
use Rattle.std.proofs.Common.{arith, ◌≡◌, ◌<◌, ◌^◌, ℕ, zero, suc, ◌+◌, Bool, true, false, cond, ◌||◌, if◌then◌else◌, List, [], ◌∷◌, ◌++◌, map, length, codes, Option, Some, None, slice_get, refl, sym, ap, subst, ◌∙◌, ◌⊎◌, inl, inr, append_assoc, append-nil, length-append}
use Rattle.std.specs.List.{flat_map}
use Rattle.std.specs.Str.{bytes_eq}
use Rattle.cx_core.specs.Trees.{CFun, CTy, form_of_type}
use Rattle.lift_calls_entry.specs.Entry.{NamesDiffer, all_locals}
use Rattle.rs_items_sets.proofs.Suffixes.{neither, no_word, other_way, suffixed_has}
use Rattle.rs_items_sets.specs.Names.{candidate, first_free, free, is_entry_in, is_excluded, is_main_in, raw_or_same, reserved, rust_name, suffixed, unless}
use Rattle.rs_items_sets.specs.Names as sets
use Rattle.rs_items_sets.specs.declared.scope.NameScope.TheVariants.{Function}
use Rattle.rs_text.specs.Names.{is_among, keywords, path_words}
use Rattle.rs_text.specs.Tree.{Ty, Integer, LocalTree, Stmts}
use Rattle.rs_text.specs.declared.integer.IntegerTy.TheVariants.{U32}
use Rattle.rs_text.specs.Valid.{all_differ}
use Rattle.whole_bodies.specs.Names.{own_names, temporaries_of}
use Rattle.whole_items.specs.Items.{WrittenBodies, dispatch_local, is_plain_param, local_of, named, object_local, param_of, result_of_form, result_param, temporary_named}
use Rattle.whole_means.proofs.Entries.{body_with, own_same, tree_with}
use Rattle.whole_means.proofs.Keys.{differ_first, differ_rest}
use Rattle.whole_means.proofs.Lists.{Among, among_cases, among_contains, among_left, among_right, contains_among, texts_equal}
use Rattle.whole_means.proofs.Locals.{own_differ}
use Rattle.whole_means.specs.FunctionNames.{HasFewNames}
use Rattle.whole_means.specs.Written.{IsNamed}
use Rattle.whole_names.specs.FunctionNames.{LocalKey, a_result, a_passed, a_local, a_temporary, LocalName, WantedLocal, locals_from, wanted_in}
use Rattle.whole_names.specs.Kept.{NamedProgram}
use Rattle.whole_names.specs.ModuleNames.{taken_names}

-- ---- no name is `current_block`

first_is : (taken : List (List ℕ)) (candidates : ℕ → Option (List ℕ)) (from count : ℕ) →
    (first_free taken candidates from count ≡ []) ⊎ ((k : ℕ) × (k < from + count) × (candidates k ≡ Some (first_free taken candidates from count)))
first_is taken candidates from zero = inl refl
first_is taken candidates from (suc count) = by_candidate (candidates from) refl (first_is taken candidates (suc from) count)
  where
    later : (first_free taken candidates from (suc count) ≡ first_free taken candidates (suc from) count) →
        (first_free taken candidates (suc from) count ≡ []) ⊎ ((k : ℕ) × (k < suc from + count) × (candidates k ≡ Some (first_free taken candidates (suc from) count))) →
        (first_free taken candidates from (suc count) ≡ []) ⊎ ((k : ℕ) × (k < from + suc count) × (candidates k ≡ Some (first_free taken candidates from (suc count))))
    later same (inl none) = inl (same ∙ none)
    later same (inr (k, low, is)) = inr (k, omega (arith, low), is ∙ ap Some (sym same))

    by_test : (x : List ℕ) (t : Bool) → candidates from ≡ Some x → is_among taken x ≡ t →
        (first_free taken candidates (suc from) count ≡ []) ⊎ ((k : ℕ) × (k < suc from + count) × (candidates k ≡ Some (first_free taken candidates (suc from) count))) →
        (first_free taken candidates from (suc count) ≡ []) ⊎ ((k : ℕ) × (k < from + suc count) × (candidates k ≡ Some (first_free taken candidates from (suc count))))
    by_test x true e f more =
        later (ap (λ c. sets.name_or (free taken c) (first_free taken candidates (suc from) count)) e
        ∙ ap (λ t. sets.name_or (unless t x) (first_free taken candidates (suc from) count)) f) more
    by_test x false e f more =
        let same : first_free taken candidates from (suc count) ≡ x =
        ap (λ c. sets.name_or (free taken c) (first_free taken candidates (suc from) count)) e ∙ ap (λ t. sets.name_or (unless t x) (first_free taken candidates (suc from) count)) f in
        inr (from, omega arith, e ∙ ap Some (sym same))

    by_candidate : (c : Option (List ℕ)) → candidates from ≡ c →
        (first_free taken candidates (suc from) count ≡ []) ⊎ ((k : ℕ) × (k < suc from + count) × (candidates k ≡ Some (first_free taken candidates (suc from) count))) →
        (first_free taken candidates from (suc count) ≡ []) ⊎ ((k : ℕ) × (k < from + suc count) × (candidates k ≡ Some (first_free taken candidates from (suc count))))
    by_candidate None e more = later (ap (λ c. sets.name_or (free taken c) (first_free taken candidates (suc from) count)) e) more
    by_candidate (Some x) e more = by_test x (is_among taken x) e refl more

block_reserved : (name : List ℕ) → is_among reserved name ≡ false → bytes_eq (codes "current_block") name ≡ false
unfolding reserved
block_reserved name h =
    let initialiser = neither (bytes_eq (codes "run_static_initializers") name) _ h in
    (neither (bytes_eq (codes "current_block") name) _ initialiser.1).0

itself_no_block : (name one : List ℕ) → candidate Function name 0 ≡ Some one → bytes_eq (codes "current_block") one ≡ false
itself_no_block name one is = by_excluded (is_excluded Function name) refl
  where
    by_keyword : is_excluded Function name ≡ false → raw_or_same name ≡ one → (r : Bool) → is_among keywords name ≡ r → bytes_eq (codes "current_block") one ≡ false
    by_keyword candid same true e =
        let raw : codes "r#" ++ name ≡ one = sym (ap (λ r. cond r (codes "r#" ++ name) name) e) ∙ same in
        subst (λ n. bytes_eq (codes "current_block") n ≡ false) raw refl
    by_keyword candid same false e =
        let its : name ≡ one = sym (ap (λ r. cond r (codes "r#" ++ name) name) e) ∙ same in
        let known = neither (is_among path_words name || is_among reserved name) (is_main_in Function name) candid in
        let path = neither (is_among path_words name) (is_among reserved name) known.0 in
        subst (λ n. bytes_eq (codes "current_block") n ≡ false) its (block_reserved name path.1)

    by_excluded : (r : Bool) → is_excluded Function name ≡ r → bytes_eq (codes "current_block") one ≡ false
    by_excluded true e = let none : None ≡ Some one = sym (ap (λ r. unless r (raw_or_same name)) e) ∙ is in cc
    by_excluded false e = by_keyword e (let some : Some (raw_or_same name) ≡ Some one = sym (ap (λ r. unless r (raw_or_same name)) e) ∙ is in cc) (is_among keywords name) refl

suffixed_no_block : (name one : List ℕ) (k : ℕ) → k < 2 ^ 64 → candidate Function name (suc k) ≡ Some one → bytes_eq (codes "current_block") one ≡ false
suffixed_no_block name one k small is = by_entry (is_entry_in Function (suffixed name k)) refl
  where
    by_entry : (r : Bool) → is_entry_in Function (suffixed name k) ≡ r → bytes_eq (codes "current_block") one ≡ false
    by_entry true e = let none : None ≡ Some one = sym (ap (λ r. unless r (suffixed name k)) e) ∙ is in cc
    by_entry false e =
        let same : suffixed name k ≡ one = (let some : Some (suffixed name k) ≡ Some one = sym (ap (λ r. unless r (suffixed name k)) e) ∙ is in cc) in
        let none = no_word (codes "current_block" ∷ []) (suffixed name k) refl (suffixed_has name k small) in
        subst (λ n. bytes_eq (codes "current_block") n ≡ false) same (neither (bytes_eq (codes "current_block") (suffixed name k)) false none).0

no_block : (taken : List (List ℕ)) (name : List ℕ) → length taken + 3 < 2 ^ 64 → bytes_eq (codes "current_block") (rust_name taken Function name) ≡ false
no_block taken name few = by_first (first_is taken (candidate Function name) 0 (length taken + 3))
  where
    by_number : (k : ℕ) → k < 0 + (length taken + 3) → candidate Function name k ≡ Some (rust_name taken Function name) → bytes_eq (codes "current_block") (rust_name taken Function name) ≡ false
    by_number zero low is = itself_no_block name (rust_name taken Function name) is
    by_number (suc k) low is = suffixed_no_block name (rust_name taken Function name) k (omega (arith, low, few)) is

    by_first : (rust_name taken Function name ≡ []) ⊎ ((k : ℕ) × (k < 0 + (length taken + 3)) × (candidate Function name k ≡ Some (rust_name taken Function name))) →
        bytes_eq (codes "current_block") (rust_name taken Function name) ≡ false
    by_first (inl none) = ap (bytes_eq (codes "current_block")) none
    by_first (inr (k, low, is)) = by_number k low is

no_blocks : (taken : List (List ℕ)) (wanted : List WantedLocal) (one : LocalName) → length taken + length wanted + 3 < 2 ^ 64 → Among (locals_from taken wanted) one →
    bytes_eq (codes "current_block") one.name ≡ false
no_blocks taken [] one few there = absurd there
no_blocks taken (first ∷ wanted) one few (inl same) =
    subst (λ (n : LocalName). bytes_eq (codes "current_block") n.name ≡ false) same (no_block taken first.wanted (omega (arith, few)))
no_blocks taken (first ∷ wanted) one few (inr there) =
    let count = length-append taken (rust_name taken Function first.wanted ∷ []) in
    no_blocks (taken ++ rust_name taken Function first.wanted ∷ []) wanted one (omega (arith, few, count)) there

-- ---- lists of locals whose names differ

-- one more in the middle
insert_differs : (xs ys : List LocalTree) (x : LocalTree) → NamesDiffer (xs ++ ys) → ((other : LocalTree) → Among (xs ++ ys) other → bytes_eq x.name other.name ≡ false) → NamesDiffer (xs ++ x ∷ ys)
insert_differs [] ys x differ apart = ((λ other there. apart other (contains_among ys other there)), differ)
insert_differs (z ∷ xs) ys x differ apart = (
  (λ other there. by_place other (among_cases xs (x ∷ ys) other (contains_among (xs ++ x ∷ ys) other there))),
  insert_differs xs ys x differ.1 (λ other there. apart other (inr there)),
)
  where
    by_place : (other : LocalTree) → Among xs other ⊎ Among (x ∷ ys) other → bytes_eq z.name other.name ≡ false
    by_place other (inl before) = differ.0 other (among_contains (xs ++ ys) other (among_left xs ys other before))
    by_place other (inr (inl same)) = ap (λ (t : LocalTree). bytes_eq z.name t.name) (sym same) ∙ other_way x.name z.name (apart z (inl refl))
    by_place other (inr (inr behind)) = differ.0 other (among_contains (xs ++ ys) other (among_right xs ys other behind))

module _ (p l : LocalName → List LocalTree) where
  -- what a name becomes
  pub data Piece (n : LocalName) : Type 0 where
    nothing : p n ≡ [] → l n ≡ [] → Piece n
    as_param : (t : LocalTree) → t.name ≡ n.name → p n ≡ t ∷ [] → l n ≡ [] → Piece n
    as_local : (t : LocalTree) → t.name ≡ n.name → p n ≡ [] → l n ≡ t ∷ [] → Piece n

  module _ (each : (n : LocalName) → Piece n) where
    abbrev names_only : List LocalName → List (List ℕ)
    names_only names = map (λ (one : LocalName). one.name) names

    name_in_p : (n : LocalName) (t : LocalTree) → Piece n → Among (p n) t → t.name ≡ n.name
    name_in_p n t (nothing a b) there = absurd (subst (λ (ts : List LocalTree). Among ts t) a there)
    name_in_p n t (as_param u named a b) there = by_place (subst (λ (ts : List LocalTree). Among ts t) a there)
      where
        by_place : Among (u ∷ []) t → t.name ≡ n.name
        by_place (inl same) = ap (λ (v : LocalTree). v.name) (sym same) ∙ named
        by_place (inr none) = absurd none
    name_in_p n t (as_local u named a b) there = absurd (subst (λ (ts : List LocalTree). Among ts t) a there)

    name_in_l : (n : LocalName) (t : LocalTree) → Piece n → Among (l n) t → t.name ≡ n.name
    name_in_l n t (nothing a b) there = absurd (subst (λ (ts : List LocalTree). Among ts t) b there)
    name_in_l n t (as_param u named a b) there = absurd (subst (λ (ts : List LocalTree). Among ts t) b there)
    name_in_l n t (as_local u named a b) there = by_place (subst (λ (ts : List LocalTree). Among ts t) b there)
      where
        by_place : Among (u ∷ []) t → t.name ≡ n.name
        by_place (inl same) = ap (λ (v : LocalTree). v.name) (sym same) ∙ named
        by_place (inr none) = absurd none

    p_named : (names : List LocalName) (t : LocalTree) → Among (flat_map p names) t → Among (names_only names) t.name
    p_named [] t there = absurd there
    p_named (n ∷ names) t there = by_place (among_cases (p n) (flat_map p names) t there) (p_named names t)
      where
        by_place : Among (p n) t ⊎ Among (flat_map p names) t → (Among (flat_map p names) t → Among (names_only names) t.name) → Among (names_only (n ∷ names)) t.name
        by_place (inl here) more = inl (sym (name_in_p n t (each n) here))
        by_place (inr rest) more = inr (more rest)

    l_named : (names : List LocalName) (t : LocalTree) → Among (flat_map l names) t → Among (names_only names) t.name
    l_named [] t there = absurd there
    l_named (n ∷ names) t there = by_place (among_cases (l n) (flat_map l names) t there) (l_named names t)
      where
        by_place : Among (l n) t ⊎ Among (flat_map l names) t → (Among (flat_map l names) t → Among (names_only names) t.name) → Among (names_only (n ∷ names)) t.name
        by_place (inl here) more = inl (sym (name_in_l n t (each n) here))
        by_place (inr rest) more = inr (more rest)

    pub both_named : (names : List LocalName) (t : LocalTree) → Among (flat_map p names ++ flat_map l names) t → Among (names_only names) t.name
    both_named names t there = by_place (among_cases (flat_map p names) (flat_map l names) t there)
      where
        by_place : Among (flat_map p names) t ⊎ Among (flat_map l names) t → Among (names_only names) t.name
        by_place (inl here) = p_named names t here
        by_place (inr here) = l_named names t here

    no_other : (x : List ℕ) (names : List LocalName) (t : LocalTree) → all_differ (x ∷ names_only names) ≡ true → Among (flat_map p names ++ flat_map l names) t → (r : Bool) → bytes_eq x t.name ≡ r →
        bytes_eq x t.name ≡ false
    no_other x names t differ there true e = absurd (differ_first x (names_only names) t.name differ (both_named names t there) (sym (texts_equal x t.name e)))
    no_other x names t differ there false e = e

    pub pieces_differ : (names : List LocalName) → all_differ (names_only names) ≡ true → NamesDiffer (flat_map p names ++ flat_map l names)
    pieces_differ [] differ = tt
    pieces_differ (n ∷ names) differ = by_piece (each n) (pieces_differ names (differ_rest n.name (names_only names) differ))
      where
        apart : (t : LocalTree) → t.name ≡ n.name → (other : LocalTree) → Among (flat_map p names ++ flat_map l names) other → bytes_eq t.name other.name ≡ false
        apart t named other there = ap (λ (x : List ℕ). bytes_eq x other.name) named ∙ no_other n.name names other differ there (bytes_eq n.name other.name) refl

        by_piece : Piece n → NamesDiffer (flat_map p names ++ flat_map l names) → NamesDiffer ((p n ++ flat_map p names) ++ (l n ++ flat_map l names))
        by_piece (nothing a b) rest =
            subst (λ (ts : List LocalTree). NamesDiffer ((ts ++ flat_map p names) ++ (l n ++ flat_map l names))) (sym a)
            (subst (λ (ts : List LocalTree). NamesDiffer (flat_map p names ++ (ts ++ flat_map l names))) (sym b) rest)
        by_piece (as_param t named a b) rest =
            subst (λ (ts : List LocalTree). NamesDiffer ((ts ++ flat_map p names) ++ (l n ++ flat_map l names))) (sym a)
            (subst (λ (ts : List LocalTree). NamesDiffer ((t ∷ flat_map p names) ++ (ts ++ flat_map l names))) (sym b)
            ((λ other there. apart t named other (contains_among (flat_map p names ++ flat_map l names) other there)), rest))
        by_piece (as_local t named a b) rest =
            subst (λ (ts : List LocalTree). NamesDiffer ((ts ++ flat_map p names) ++ (l n ++ flat_map l names))) (sym a)
            (subst (λ (ts : List LocalTree). NamesDiffer (flat_map p names ++ (ts ++ flat_map l names))) (sym b)
            (insert_differs (flat_map p names) (flat_map l names) t rest (apart t named)))

-- ---- those of a function

module _ (whole : NamedProgram) (is : IsNamed whole) (bodies : WrittenBodies) (fun : CFun) (few : HasFewNames whole fun) (has_dispatch : Bool) (statements : Stmts) where
  abbrev own : List LocalName
  own = own_names whole fun

  abbrev params_in : LocalName → List LocalTree
  params_in = param_of whole fun

  abbrev locals_in : LocalName → List LocalTree
  locals_in = local_of whole fun (body_with whole fun has_dispatch statements)

  piece : (key : LocalKey) (x : List ℕ) → Piece params_in locals_in (record { key = key; name = x })
  piece a_result x = by_result (result_of_form (form_of_type fun.type)) refl
    where
      by_result : (result : Option CTy) → result_of_form (form_of_type fun.type) ≡ result → Piece params_in locals_in (record { key = a_result; name = x })
      by_result None e = nothing (ap (result_param whole x) e) refl
      by_result (Some result) e = as_param _ refl (ap (result_param whole x) e) refl
  piece (a_passed number) x = as_param _ refl refl refl
  piece (a_local number) x = by_test (is_plain_param whole fun number) refl
    where
      by_test : (t : Bool) → is_plain_param whole fun number ≡ t → Piece params_in locals_in (record { key = a_local number; name = x })
      by_test true e = as_param _ refl (ap (λ t. if t then object_local whole x number else []) e) (ap (λ t. if t then [] else object_local whole x number) e)
      by_test false e = as_local _ refl (ap (λ t. if t then object_local whole x number else []) e) (ap (λ t. if t then [] else object_local whole x number) e)
  piece (a_temporary number) x = by_type (slice_get (temporaries_of whole fun) number) refl
    where
      by_type : (type : Option Ty) → slice_get (temporaries_of whole fun) number ≡ type → Piece params_in locals_in (record { key = a_temporary number; name = x })
      by_type None e = nothing refl (ap (temporary_named x) e)
      by_type (Some type) e = as_local _ refl refl (ap (temporary_named x) e)

  each : (n : LocalName) → Piece params_in locals_in n
  each n = piece n.key n.name

  abbrev plain : List LocalTree
  plain = flat_map params_in own ++ flat_map locals_in own

  plain_differ : NamesDiffer plain
  plain_differ = pieces_differ params_in locals_in each own (own_differ whole is bodies fun few)

  name_entry : (names : List LocalName) (x : List ℕ) → Among (map (λ (one : LocalName). one.name) names) x → (one : LocalName) × Among names one × (one.name ≡ x)
  name_entry [] x there = absurd there
  name_entry (n ∷ names) x (inl same) = (n, inl refl, same)
  name_entry (n ∷ names) x (inr there) = let rest = name_entry names x there in (rest.0, inr rest.1, rest.2)

  map_count : (wanted : List WantedLocal) → length (map (λ (one : WantedLocal). one.wanted) wanted) ≡ length wanted
  map_count [] = refl
  map_count (one ∷ wanted) = ap suc (map_count wanted)

  block_apart : (other : LocalTree) → Among plain other → bytes_eq (codes "current_block") other.name ≡ false
  block_apart other there =
      let entry = name_entry own other.name (both_named params_in locals_in each own other there) in
      let wanted = wanted_in whole.program fun (length (temporaries_of whole fun)) in
      let count = map_count wanted in
      ap (bytes_eq (codes "current_block")) (sym entry.2) ∙ no_blocks (taken_names whole.program fun.unit) wanted entry.0 (omega (arith, few, count)) entry.1

  with_dispatch : (d : Bool) → NamesDiffer (plain ++ dispatch_local d)
  with_dispatch false = subst NamesDiffer (sym (append-nil plain)) plain_differ
  with_dispatch true =
      insert_differs plain [] (record { name = codes "current_block"; ty = Integer U32 }) (subst NamesDiffer (sym (append-nil plain)) plain_differ)
      (λ other there. block_apart other (subst (λ (ts : List LocalTree). Among ts other) (append-nil plain) there))

  -- no two parameters or locals have one name
  pub locals_differ : NamesDiffer (all_locals (tree_with whole fun has_dispatch statements))
  locals_differ =
      subst (λ (names : List LocalName). NamesDiffer (flat_map params_in names ++ (flat_map locals_in names ++ dispatch_local has_dispatch))) (own_same whole fun has_dispatch statements)
      (subst NamesDiffer (append_assoc (flat_map params_in own) (flat_map locals_in own) (dispatch_local has_dispatch)) (with_dispatch has_dispatch))
