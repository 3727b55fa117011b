-- The laws of the names of a written crate.
use Rattle.std.proofs.Common.{arith, ◌≡◌, ◌<◌, ℕ, zero, suc, ◌+◌, Bool, true, false, if◌then◌else◌, List, [], ◌∷◌, ◌++◌, map, length, Option, Some, None, slice_get, is_some, IsSome, option_map, refl, sym, ap, subst, ◌∙◌, inl, inr, append_assoc, length-append}
use Rattle.std.proofs.lemmas.Option.{slice_get_within}
use Rattle.cx_core.specs.Trees.{CFun, CObject}
use Rattle.cx_core.specs.Typing.{CHome, object_with}
use Rattle.cx_mean.specs.Operands.{Frame as CFrame}
use Rattle.lift_calls.specs.Frames.{FunctionNames}
use Rattle.lift_does.specs.Agree.{AreKeptFrom, NamesMean}
use Rattle.lift_forms.specs.Places.{Kept}
use Rattle.rs_items_sets.specs.Names.{rust_name}
use Rattle.rs_items_sets.specs.declared.scope.NameScope.TheVariants.{Function}
use Rattle.rs_text.specs.Tree.{ModuleTree, Ty}
use Rattle.whole_bodies.specs.Bodies.{ShapeOf, written_bodies}
use Rattle.whole_bodies.specs.Crates.{modules_from}
use Rattle.whole_bodies.specs.Names.{held_in_body, kept_object, locals_of, names_in, own_names, temporaries_of}
use Rattle.whole_items.specs.Items.{module_tree}
use Rattle.whole_means.proofs.Lists.{Among, among_right}
use Rattle.whole_means.proofs.Locals.{local_self}
use Rattle.whole_means.proofs.Means.{field_means, functions_mean, laid_same, members_mean, scalar_same, size_same}
use Rattle.whole_means.proofs.Modules.{modules_by}
use Rattle.whole_means.specs.FunctionNames.{kept_by, kept_found, kept_names, kept_temporary}
use Rattle.whole_means.specs.Settings.{modules_of, setting_of, setting_with}
use Rattle.whole_means.specs.Written.{IsNamed}
use Rattle.whole_names.specs.FunctionNames.{LocalKey, a_local, a_temporary, WantedLocal, locals_from, wanted_in, wanted_locals, wanted_temporaries}
use Rattle.whole_names.specs.Kept.{LocalNames, NamedProgram, local_among, local_or_item, object_item, object_thing, same_local, types_of}
use Rattle.whole_names.specs.ModuleNames.{name_or, taken_names}

-- ---- modules

modules_same : (whole : NamedProgram) (shape : ShapeOf) (unit left : ℕ) → modules_from whole shape unit left ≡ modules_by (module_tree whole (written_bodies whole shape)) unit left
modules_same whole shape unit zero = refl
modules_same whole shape unit (suc left) = ap (λ (rest : List ModuleTree). module_tree whole (written_bodies whole shape) unit ∷ rest) (modules_same whole shape (suc unit) left)

pub modules_are : (whole : NamedProgram) (shape : ShapeOf) → modules_of whole shape ≡ modules_by (module_tree whole (written_bodies whole shape)) 0 (length whole.module_names)
modules_are whole shape = modules_same whole shape 0 (length whole.module_names)

-- ---- objects that a function keeps have these names

kept_named : (whole : NamedProgram) (fun : CFun) (o : CObject) (name : Option (List ℕ)) (it : Kept) → kept_by whole o name ≡ Some it → Some (kept_object (local_or_item whole o name)) ≡ Some it
kept_named whole fun o (Some x) it is = is
kept_named whole fun o None it is = by_test (is_some o.puts) is
  where
    by_test : (t : Bool) → (if t then Some (kept_object (object_item whole o)) else None) ≡ Some it → Some (kept_object (object_item whole o)) ≡ Some it
    by_test true is = is
    by_test false is = absurd cc

pub objects_are : (whole : NamedProgram) (fun : CFun) (number : ℕ) (it : Kept) → (kept_names whole fun).objects number ≡ Some it → (names_in whole fun.unit (locals_of whole fun)).objects number ≡ Some it
objects_are whole fun number it found = by_object (object_with number whole.program.objects) found
  where
    by_object : (o : Option CObject) → kept_found whole fun o ≡ Some it → option_map kept_object (object_thing whole (locals_of whole fun) o) ≡ Some it
    by_object None is = absurd cc
    by_object (Some o) is = kept_named whole fun o (local_among (a_local o.object) (own_names whole fun)) it is

-- ---- names

-- those of a module, where what is kept of objects has these names there
pub names_mean_with : (whole : NamedProgram) (shape : ShapeOf) (statics : CFrame) (unit : ℕ) (own : LocalNames) (home : CHome) (kept : FunctionNames) → IsNamed whole → home.program ≡ whole.program →
    kept.types ≡ types_of whole → ((number : ℕ) (it : Kept) → kept.objects number ≡ Some it → (names_in whole unit own).objects number ≡ Some it) →
    NamesMean (setting_of whole shape statics) home (names_in whole unit own) kept
names_mean_with whole shape statics unit own home kept is program types objects =
    subst (λ (modules : List ModuleTree). NamesMean (setting_with whole modules statics) home (names_in whole unit own) kept) (sym (modules_are whole shape)) (record {
      program = program;
      objects = objects;
      types = sym types;
      laid = laid_same whole is (written_bodies whole shape) unit own statics;
      scalars = scalar_same whole;
      sizes = size_same whole is (written_bodies whole shape) unit own statics;
      fields = members_mean whole is (written_bodies whole shape) unit own statics;
      part_fields = field_means whole is (written_bodies whole shape) unit own statics;
      functions = functions_mean whole is (written_bodies whole shape) unit own statics;
      bits = refl;
    })

pub names_mean : (whole : NamedProgram) (shape : ShapeOf) (statics : CFrame) (fun : CFun) (home : CHome) → IsNamed whole → home.program ≡ whole.program →
    NamesMean (setting_of whole shape statics) home (names_in whole fun.unit (locals_of whole fun)) (kept_names whole fun)
names_mean whole shape statics fun home is program =
    names_mean_with whole shape statics fun.unit (locals_of whole fun) home (kept_names whole fun) is program refl (objects_are whole fun)

-- ---- temporaries

pub local_some : (taken : List (List ℕ)) (wanted : List WantedLocal) (key : LocalKey) → Among (map (λ (one : WantedLocal). one.key) wanted) key → IsSome (local_among key (locals_from taken wanted))
local_some taken [] key there = absurd there
local_some taken (first ∷ wanted) key there =
    by_test (same_local key first.key) refl (local_some (taken ++ rust_name taken Function first.wanted ∷ []) wanted key) there
  where
    by_test : (t : Bool) → same_local key first.key ≡ t →
        (Among (map (λ (one : WantedLocal). one.key) wanted) key → IsSome (local_among key (locals_from (taken ++ rust_name taken Function first.wanted ∷ []) wanted))) →
        Among (map (λ (one : WantedLocal). one.key) (first ∷ wanted)) key → IsSome (local_among key (locals_from taken (first ∷ wanted)))
    by_test true e more there =
        ap is_some (ap (λ t. if t then Some (rust_name taken Function first.wanted) else local_among key (locals_from (taken ++ rust_name taken Function first.wanted ∷ []) wanted)) e)
    by_test false e more (inl same) = absurd (let h : false ≡ true = sym e ∙ ap (λ k. same_local key k) same ∙ local_self key in cc)
    by_test false e more (inr rest) =
        ap is_some (ap (λ t. if t then Some (rust_name taken Function first.wanted) else local_among key (locals_from (taken ++ rust_name taken Function first.wanted ∷ []) wanted)) e) ∙ more rest

temporary_wanted : (from count k : ℕ) → k < count → Among (map (λ (one : WantedLocal). one.key) (wanted_temporaries from count)) (a_temporary (from + k))
temporary_wanted from zero k low = absurd (omega (arith, low))
temporary_wanted from (suc count) zero low = inl (ap a_temporary (let e : from ≡ from + 0 = omega arith in e))
temporary_wanted from (suc count) (suc k) low =
    inr (subst (λ n. Among (map (λ (one : WantedLocal). one.key) (wanted_temporaries (suc from) count)) (a_temporary n)) (let e : suc from + k ≡ from + suc k = omega arith in e)
    (temporary_wanted (suc from) count k (omega (arith, low))))

keys_append : (xs ys : List WantedLocal) → map (λ (one : WantedLocal). one.key) (xs ++ ys) ≡ map (λ (one : WantedLocal). one.key) xs ++ map (λ (one : WantedLocal). one.key) ys
keys_append [] ys = refl
keys_append (x ∷ xs) ys = ap (λ (rest : List LocalKey). x.key ∷ rest) (keys_append xs ys)

pub name_there : (found : Option (List ℕ)) → IsSome found → found ≡ Some (name_or [] found)
name_there None is = absurd cc
name_there (Some x) is = refl

module _ (whole : NamedProgram) (fun : CFun) where
  pub temporary_named : (k : ℕ) → k < length (temporaries_of whole fun) →
      local_among (a_temporary k) (own_names whole fun) ≡ Some ((names_in whole fun.unit (locals_of whole fun)).temporary k)
  temporary_named k low =
      let count = length (temporaries_of whole fun) in
      let front = map (λ (one : WantedLocal). one.key) (wanted_locals whole.program fun) in
      name_there (local_among (a_temporary k) (own_names whole fun))
      (local_some (taken_names whole.program fun.unit) (wanted_in whole.program fun count) (a_temporary k)
      (subst (λ (keys : List LocalKey). Among keys (a_temporary k)) (sym (keys_append (wanted_locals whole.program fun) (wanted_temporaries 0 count)))
      (among_right front (map (λ (one : WantedLocal). one.key) (wanted_temporaries 0 count)) (a_temporary k)
      (subst (λ n. Among (map (λ (one : WantedLocal). one.key) (wanted_temporaries 0 count)) (a_temporary n)) (let e : 0 + k ≡ k = omega arith in e) (temporary_wanted 0 count k low)))))

  get_at : (front behind : List Ty) (t : Ty) → slice_get (front ++ t ∷ behind) (length front) ≡ Some t
  get_at [] behind t = refl
  get_at (x ∷ front) behind t = get_at front behind t

  -- a stretch of the temporaries of held operands is kept
  pub stretch_kept : (front part behind : List Ty) → held_in_body whole fun ≡ front ++ (part ++ behind) →
      AreKeptFrom (names_in whole fun.unit (locals_of whole fun)) (kept_names whole fun) (length front) part
  stretch_kept front [] behind same = tt
  stretch_kept front (t ∷ part) behind same =
      let at : slice_get (held_in_body whole fun) (length front) ≡ Some t = ap (λ (ts : List Ty). slice_get ts (length front)) same ∙ get_at front (part ++ behind) t in
      let held_low = slice_get_within (held_in_body whole fun) (length front) t at in
      let count : length (temporaries_of whole fun) ≡ length (held_in_body whole fun) + length (map _ (Rattle.whole_bodies.specs.Names.zeroed_objects whole fun)) =
      length-append (held_in_body whole fun) (map _ (Rattle.whole_bodies.specs.Names.zeroed_objects whole fun)) in
      let named = temporary_named (length front) (omega (arith, held_low, count)) in
      let next : length (front ++ t ∷ []) ≡ suc (length front) = length-append front (t ∷ []) ∙ (let e : length front + 1 ≡ suc (length front) = omega arith in e) in (
        ap (λ found. kept_temporary found (slice_get (held_in_body whole fun) (length front))) named
            ∙ ap (kept_temporary (Some ((names_in whole fun.unit (locals_of whole fun)).temporary (length front)))) at,
        subst (λ n. AreKeptFrom (names_in whole fun.unit (locals_of whole fun)) (kept_names whole fun) n part) next
            (stretch_kept (front ++ t ∷ []) part behind (same ∙ sym (append_assoc front (t ∷ []) (part ++ behind)))),
      )
