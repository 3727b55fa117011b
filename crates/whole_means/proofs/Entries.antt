-- What a function keeps is among its parameters and locals, or a static object.
use Rattle.std.proofs.Common.{arith, ◌≡◌, ℕ, zero, suc, ◌+◌, ◌==◌, Bool, true, false, ◌||◌, if◌then◌else◌, List, [], ◌∷◌, ◌++◌, map, length, Option, Some, None, slice_get, is_some, refl, sym, ap, subst, ◌∙◌, ◌⊎◌, inl, inr, eqb, append_assoc}
use Rattle.std.proofs.lemmas.Map.Keys.{IsDistinct-tail}
use Rattle.std.specs.List.{Contains, IsDistinct, flat_map, list_any}
use Rattle.cx_core.specs.Linked.{block_objects}
use Rattle.cx_core.specs.Statements.{objects_in}
use Rattle.cx_core.specs.Trees.{CFun, CObject, CPuts, CProgram}
use Rattle.cx_core.specs.Typing.{object_with}
use Rattle.cx_mean.specs.Operands.{Frame as CFrame}
use Rattle.lift_calls.specs.Frames.{KeptTemporary}
use Rattle.lift_calls.specs.Programs.{Setting}
use Rattle.lift_calls_entry.specs.Entry.{AllDiffer, IsLocalKept, IsStaticKept, all_locals}
use Rattle.lift_exprs.specs.Names.{type_in}
use Rattle.lift_forms.specs.Places.{Kept}
use Rattle.rs_items.specs.Types.{rust_type}
use Rattle.rs_text.specs.Tree.{Ty, Local, LocalTree, FunctionTree, ModuleTree, Stmts}
use Rattle.whole_bodies.specs.Names.{held_in_body, index_in, kept_object, module_names_in, object_type, own_names, temporaries_of, zeroed_objects}
use Rattle.whole_items.specs.Items.{WrittenBodies, WrittenBody, count_of, dispatch_local, function_tree, is_plain_param, local_of, module_tree, names_of_body, object_local, param_of, temporary_named, type_of_object}
use Rattle.whole_means.proofs.Keys.{distinct_first, distinct_later, number_same, number_self}
use Rattle.whole_means.proofs.Lists.{Among, among_contains, among_flat_in, among_left, among_right, contains_among, find_there}
use Rattle.whole_means.proofs.Modules.{modules_by}
use Rattle.whole_means.proofs.Numbers.{static_found}
use Rattle.whole_means.proofs.Locals.{local_same}
use Rattle.whole_means.proofs.Things.{object_there}
use Rattle.whole_means.specs.FunctionNames.{kept_by, kept_found, kept_names, kept_temporary, kept_zero, zero_number}
use Rattle.whole_means.specs.Settings.{setting_with}
use Rattle.whole_means.specs.Written.{IsNamed}
use Rattle.whole_names.specs.FunctionNames.{LocalKey, a_local, a_temporary, LocalName, local_names}
use Rattle.whole_names.specs.Keys.{an_object}
use Rattle.whole_names.specs.Kept.{NamedProgram, local_among, module_of, name_in, object_item, same_local, types_of}

-- a key that has a name is among the names
pub record HasEntry (names : List LocalName) (key : LocalKey) (x : List ℕ) : Type 0 where
  pub among : Among names (record { key = key; name = x })

pub entry_of : (names : List LocalName) (key : LocalKey) (x : List ℕ) → local_among key names ≡ Some x → HasEntry names key x
entry_of [] key x found = absurd cc
entry_of (one ∷ names) key x found = by_test (same_local key one.key) refl (entry_of names key x)
  where
    by_test : (t : Bool) → same_local key one.key ≡ t → (local_among key names ≡ Some x → HasEntry names key x) → HasEntry (one ∷ names) key x
    by_test true e more =
        let h : Some one.name ≡ Some x = sym (ap (λ t. if t then Some one.name else local_among key names) e) ∙ found in
        let name : one.name ≡ x = cc (h) in
        record { among = inl (ap (λ (k : LocalKey). record { key = k; name = one.name }) (sym (local_same key one.key e)) ∙ ap (λ (n : List ℕ). record { key = key; name = n }) name) }
    by_test false e more = let rest = more (sym (ap (λ t. if t then Some one.name else local_among key names) e) ∙ found) in record { among = inr rest.among }

count_same : {A : Type 0} (xs : List A) → count_of xs ≡ length xs
count_same [] = refl
count_same (x ∷ xs) = ap suc (count_same xs)

get_front : {A : Type 0} (xs ys : List A) (k : ℕ) (x : A) → slice_get xs k ≡ Some x → slice_get (xs ++ ys) k ≡ Some x
get_front [] ys k x at = absurd cc
get_front (y ∷ xs) ys zero x at = at
get_front (y ∷ xs) ys (suc k) x at = get_front xs ys k x at

get_behind : {A : Type 0} (xs ys : List A) (k : ℕ) → slice_get (xs ++ ys) (length xs + k) ≡ slice_get ys k
get_behind [] ys k = ap (slice_get ys) (let e : 0 + k ≡ k = omega arith in e)
get_behind {A} (x ∷ xs) ys k = ap (λ n. slice_get (x ∷ (xs ++ ys)) n) (let e : suc (length xs) + k ≡ suc (length xs + k) = omega arith in e) ∙ get_behind xs ys k

both_numbers : (n m : ℕ) → (n == m) ≡ (m == n)
both_numbers n m = by_test (n == m) (m == n) refl refl
  where
    by_test : (s t : Bool) → (n == m) ≡ s → (m == n) ≡ t → (n == m) ≡ (m == n)
    by_test true true e f = e ∙ sym f
    by_test false false e f = e ∙ sym f
    by_test true false e f = absurd (let h : true ≡ false = sym (number_self m) ∙ ap (λ k. m == k) (sym (number_same n m e)) ∙ f in cc)
    by_test false true e f = absurd (let h : true ≡ false = sym (number_self n) ∙ ap (λ k. n == k) (sym (number_same m n f)) ∙ e in cc)

-- a number of a list is at its index
pub index_at : (f : ℕ → Ty) (numbers : List ℕ) (number : ℕ) → list_any (λ other. other == number) numbers ≡ true → slice_get (map f numbers) (index_in number numbers) ≡ Some (f number)
index_at f [] number there = absurd cc
index_at f (one ∷ numbers) number there = by_test (one == number) refl (index_at f numbers number)
  where
    by_test : (t : Bool) → (one == number) ≡ t → (list_any (λ other. other == number) numbers ≡ true → slice_get (map f numbers) (index_in number numbers) ≡ Some (f number)) →
        slice_get (map f (one ∷ numbers)) (index_in number (one ∷ numbers)) ≡ Some (f number)
    by_test true e more =
        ap (λ t. slice_get (map f (one ∷ numbers)) (if t then 0 else suc (index_in number numbers))) (both_numbers number one ∙ e) ∙ ap (λ n. Some (f n)) (number_same one number e)
    by_test false e more =
        ap (λ t. slice_get (map f (one ∷ numbers)) (if t then 0 else suc (index_in number numbers))) (both_numbers number one ∙ e)
        ∙ more (sym (ap (λ t. t || list_any (λ other. other == number) numbers) e) ∙ there)

-- ---- parameters differ

distinct_part : (xs ys : List ℕ) → IsDistinct eqb (xs ++ ys) → AllDiffer xs
distinct_part [] ys distinct = tt
distinct_part (x ∷ xs) ys distinct = (
  (λ other there same.
      let apart : eqb x other ≡ false = distinct_first eqb x (xs ++ ys) other distinct (among_left xs ys other (contains_among xs other there)) in
      let h : false ≡ true = sym apart ∙ ap (λ n. eqb n other) same ∙ number_self other in cc),
  distinct_part xs ys (IsDistinct-tail eqb x (xs ++ ys) distinct),
)

-- ---- a function with its temporaries

module _ (whole : NamedProgram) (fun : CFun) (has_dispatch : Bool) (statements : Stmts) where
  abbrev program : CProgram
  program = whole.program

  abbrev own : List LocalName
  own = own_names whole fun

  abbrev pub body_with : WrittenBody
  body_with = record { temporaries = temporaries_of whole fun; has_dispatch = has_dispatch; statements = statements }

  abbrev pub tree_with : FunctionTree
  tree_with = function_tree whole fun body_with

  pub own_same : own ≡ names_of_body whole fun body_with
  own_same = ap (local_names program fun) (sym (count_same (temporaries_of whole fun)))

  pub local_there : (key : LocalKey) (x : List ℕ) (local : LocalTree) → local_among key own ≡ Some x → Among (local_of whole fun body_with (record { key = key; name = x })) local → Among tree_with.locals local
  local_there key x local found made =
      among_left (flat_map (local_of whole fun body_with) (names_of_body whole fun body_with)) (dispatch_local has_dispatch) local
      (subst (λ (names : List LocalName). Among (flat_map (local_of whole fun body_with) names) local) own_same
      (among_flat_in (local_of whole fun body_with) own (record { key = key; name = x }) local (entry_of own key x found).among made))

  param_there : (key : LocalKey) (x : List ℕ) (local : LocalTree) → local_among key own ≡ Some x → Among (param_of whole fun (record { key = key; name = x })) local → Among tree_with.params local
  param_there key x local found made =
      subst (λ (names : List LocalName). Among (flat_map (param_of whole fun) names) local) own_same
      (among_flat_in (param_of whole fun) own (record { key = key; name = x }) local (entry_of own key x found).among made)

  temporary_there : (number : ℕ) (x : List ℕ) (type : Ty) → local_among (a_temporary number) own ≡ Some x → slice_get (temporaries_of whole fun) number ≡ Some type →
      Contains tree_with.locals (record { name = x; ty = type })
  temporary_there number x type found at =
      among_contains tree_with.locals (record { name = x; ty = type })
      (local_there (a_temporary number) x (record { name = x; ty = type }) found
      (subst (λ (locals : List LocalTree). Among locals (record { name = x; ty = type })) (sym (ap (temporary_named x) at)) (inl refl)))

  -- the temporaries of held operands are locals
  pub temporaries_there : (number : ℕ) (it : KeptTemporary) → (kept_names whole fun).temporaries number ≡ Some it → Contains tree_with.locals (record { name = it.name; ty = it.ty })
  temporaries_there number it found = by_both (local_among (a_temporary number) own) (slice_get (held_in_body whole fun) number) refl refl found
    where
      by_both : (name : Option (List ℕ)) (type : Option Ty) → local_among (a_temporary number) own ≡ name → slice_get (held_in_body whole fun) number ≡ type → kept_temporary name type ≡ Some it →
          Contains tree_with.locals (record { name = it.name; ty = it.ty })
      by_both None type e f is = absurd cc
      by_both (Some x) None e f is = absurd cc
      by_both (Some x) (Some type) e f is =
          let some : Some (record { name = x; ty = type }) ≡ Some it = is in
          let same : record { name = x; ty = type } ≡ it = cc (some) in
          subst (λ (t : KeptTemporary). Contains tree_with.locals (record { name = t.name; ty = t.ty })) same
          (temporary_there number x type e (get_front (held_in_body whole fun) (map _ (zeroed_objects whole fun)) number type f))

  -- and so are those of zero bytes
  pub zeros_there : (number : ℕ) (it : KeptTemporary) → (kept_names whole fun).zeros number ≡ Some it → Contains tree_with.locals (record { name = it.name; ty = it.ty })
  zeros_there number it found = by_name (local_among (a_temporary (zero_number whole fun number)) own) refl found
    where
      by_test : (x : List ℕ) → local_among (a_temporary (zero_number whole fun number)) own ≡ Some x → (t : Bool) → list_any (λ other. other == number) (zeroed_objects whole fun) ≡ t →
          (if t then Some (record { name = x; ty = type_in (module_names_in whole fun.unit) (object_type whole number) }) else None) ≡ Some it → Contains tree_with.locals (record { name = it.name; ty = it.ty })
      by_test x e false f is = absurd cc
      by_test x e true f is =
          let type = type_in (module_names_in whole fun.unit) (object_type whole number) in
          let some : Some (record { name = x; ty = type }) ≡ Some it = is in
          let same : record { name = x; ty = type } ≡ it = cc (some) in
          subst (λ (t : KeptTemporary). Contains tree_with.locals (record { name = t.name; ty = t.ty })) same
          (temporary_there (zero_number whole fun number) x type e
          (get_behind (held_in_body whole fun) (map (λ n. type_in (module_names_in whole fun.unit) (object_type whole n)) (zeroed_objects whole fun)) (index_in number (zeroed_objects whole fun))
          ∙ index_at (λ n. type_in (module_names_in whole fun.unit) (object_type whole n)) (zeroed_objects whole fun) number f))

      by_name : (name : Option (List ℕ)) → local_among (a_temporary (zero_number whole fun number)) own ≡ name → kept_zero whole fun number name ≡ Some it →
          Contains tree_with.locals (record { name = it.name; ty = it.ty })
      by_name None e is = absurd cc
      by_name (Some x) e is = by_test x e (list_any (λ other. other == number) (zeroed_objects whole fun)) refl is

  module _ (is : IsNamed whole) (bodies : WrittenBodies) (statics : CFrame) where
    abbrev modules : List ModuleTree
    modules = modules_by (module_tree whole bodies) 0 (length whole.module_names)

    abbrev s : Setting
    s = setting_with whole modules statics

    -- an object with a name here is a parameter or a local of its type
    object_local_there : (o : CObject) (x : List ℕ) → Among program.objects o → local_among (a_local o.object) own ≡ Some x →
        Among (tree_with.params ++ tree_with.locals) (record { name = x; ty = rust_type (types_of whole) o.type })
    object_local_there o x there found = by_test (is_plain_param whole fun o.object) refl
      where
        local : LocalTree
        local = record { name = x; ty = type_of_object whole (object_with o.object program.objects) }

        type_is : type_of_object whole (object_with o.object program.objects) ≡ rust_type (types_of whole) o.type
        type_is = ap (type_of_object whole) (object_there whole is o there)

        by_test : (t : Bool) → is_plain_param whole fun o.object ≡ t → Among (tree_with.params ++ tree_with.locals) (record { name = x; ty = rust_type (types_of whole) o.type })
        by_test true e =
            subst (λ (ty : Ty). Among (tree_with.params ++ tree_with.locals) (record { name = x; ty = ty })) type_is
            (among_left tree_with.params tree_with.locals (record { name = x; ty = type_of_object whole (object_with o.object program.objects) })
            (param_there (a_local o.object) x (record { name = x; ty = type_of_object whole (object_with o.object program.objects) }) found
            (subst (λ (locals : List LocalTree). Among locals (record { name = x; ty = type_of_object whole (object_with o.object program.objects) }))
            (sym (ap (λ t. if t then object_local whole x o.object else []) e)) (inl refl))))
        by_test false e =
            subst (λ (ty : Ty). Among (tree_with.params ++ tree_with.locals) (record { name = x; ty = ty })) type_is
            (among_right tree_with.params tree_with.locals (record { name = x; ty = type_of_object whole (object_with o.object program.objects) })
            (local_there (a_local o.object) x (record { name = x; ty = type_of_object whole (object_with o.object program.objects) }) found
            (subst (λ (locals : List LocalTree). Among locals (record { name = x; ty = type_of_object whole (object_with o.object program.objects) }))
            (sym (ap (λ t. if t then [] else object_local whole x o.object) e)) (inl refl))))

    static_kept : (o : CObject) (puts : CPuts) → Among program.objects o → o.puts ≡ Some puts → IsStaticKept s (kept_object (object_item whole o))
    static_kept o puts there found =
        let block = static_found whole is bodies o puts there found in
        record {
          path = record { home = module_of whole o.unit; name = name_in whole o.unit (an_object o.object) };
          place_is = refl;
          home = record { block = 0 + block.place; ty = rust_type (types_of whole) o.type };
          home_is = block.home_is;
          ty_is = refl;
        }

    -- what is kept of an object is a static object, or a parameter or local
    pub kept_there : (number : ℕ) (it : Kept) → (kept_names whole fun).objects number ≡ Some it → IsStaticKept s it ⊎ IsLocalKept tree_with it
    kept_there number it found = by_object (object_with number program.objects) refl found
      where
        by_puts : (o : CObject) → Among program.objects o → (puts : Option CPuts) → o.puts ≡ puts → (if is_some puts then Some (kept_object (object_item whole o)) else None) ≡ Some it →
            IsStaticKept s it ⊎ IsLocalKept tree_with it
        by_puts o there None e is_it = absurd cc
        by_puts o there (Some puts) e is_it =
            let some : Some (kept_object (object_item whole o)) ≡ Some it = is_it in
            let same : kept_object (object_item whole o) ≡ it = cc (some) in
            inl (subst (λ (k : Kept). IsStaticKept s k) same (static_kept o puts there e))

        by_name : (o : CObject) → Among program.objects o → (name : Option (List ℕ)) → local_among (a_local o.object) own ≡ name → kept_by whole o name ≡ Some it → IsStaticKept s it ⊎ IsLocalKept tree_with it
        by_name o there None e is_it = by_puts o there o.puts refl is_it
        by_name o there (Some x) e is_it =
            let some : Some (record { place = Local x; ty = rust_type (types_of whole) o.type }) ≡ Some it = is_it in
            let same : record { place = Local x; ty = rust_type (types_of whole) o.type } ≡ it = cc (some) in
            inr (record {
              local = record { name = x; ty = rust_type (types_of whole) o.type };
              among = among_contains (all_locals tree_with) (record { name = x; ty = rust_type (types_of whole) o.type }) (object_local_there o x there e);
              kept_is = sym same;
            })

        by_object : (object : Option CObject) → object_with number program.objects ≡ object → kept_found whole fun object ≡ Some it → IsStaticKept s it ⊎ IsLocalKept tree_with it
        by_object None e is_it = absurd cc
        by_object (Some o) e is_it = by_name o (find_there (λ (one : CObject). one.object == number) program.objects o e).0 (local_among (a_local o.object) own) refl is_it

-- ---- parameters differ

pub params_differ : (functions : List CFun) (f : CFun) → IsDistinct eqb (block_objects functions) → Among functions f → AllDiffer f.params
params_differ [] f distinct there = absurd there
params_differ (g ∷ functions) f distinct (inl same) =
    subst (λ (h : CFun). AllDiffer h.params) same
    (distinct_part g.params (objects_in g.body ++ block_objects functions) (subst (λ (numbers : List ℕ). IsDistinct eqb numbers) (append_assoc g.params (objects_in g.body) (block_objects functions)) distinct))
params_differ (g ∷ functions) f distinct (inr there) =
    params_differ functions f (distinct_later eqb (g.params ++ objects_in g.body) (block_objects functions) distinct) there
