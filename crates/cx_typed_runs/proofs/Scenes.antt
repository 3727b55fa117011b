-- Where a run stands in a function, what an expression may name lives (ISO C99, 6.2.1, 6.2.4).
use Rattle.std.proofs.Common.{◌≡◌, ◌⊎◌, inl, inr, refl, sym, ap, ◌∙◌, subst, ℕ, zero, suc, ◌+◌, ◌<◌, ◌==◌, eqb, Bool, true, false, if◌then◌else◌, List, [], ◌∷◌, ◌++◌, map, length, Option, Some, None, IfSome, IsSome, All, arith, rules, append_assoc}
use Rattle.std.proofs.lemmas.Bool.Decides.{nat_tests}
use Rattle.std.proofs.lemmas.List.{map-append}
use Rattle.std.proofs.lemmas.Map.Keys.{IsDistinct-head, IsDistinct-tail}
use Rattle.std.specs.List.{Contains, IsDistinct, AllByRecursion}
use Rattle.cr_world.specs.Held.{Held}
use Rattle.cx_core.specs.Linked.{IsLinked, home_of}
use Rattle.cx_core.specs.Statements.{CBody, with_objects}
use Rattle.cx_core.specs.Trees.{CTy, CPuts, CStmtForm, label, case, default, block, expression, if_then, switch, while, do_while, for_loop, goto, continue, break, returns, begin, CObject, CFun, CProgram}
use Rattle.cx_core.specs.Typing.{CHome, object_with}
use Rattle.cx_mean.specs.Moves.{slots_in}
use Rattle.cx_mean.specs.Operands.{Frame}
use Rattle.cx_mean.specs.Paths.{CRest, nothing_left, statements_left, firsts_left, turn_left, CLevel}
use Rattle.cx_mean.specs.State.{statics_first, statics_in}
use Rattle.cx_typed_work.specs.Scenes.{IsAlive, AreAlive, IsTypedMemory, IsScene}
use Rattle.cx_typed_runs.proofs.Owned.{alive_object}
use Rattle.cx_typed_runs.specs.Sites.{objects_of, inside_form, inside_by, body_at, whole_body, home_at, AreOwned}
use Rattle.cx_typed_runs.specs.States.{IsBegunOr, AreBegun}

-- ---- lists

pub contains_front : {A : Type 0} (xs ys : List A) (x : A) → Contains xs x → Contains (xs ++ ys) x
contains_front [] ys x (k, within, e) = absurd (omega (arith, within))
contains_front (first ∷ others) ys x (zero, within, e) = (zero, omega arith, e)
contains_front (first ∷ others) ys x (suc k, within, e) =
    let rest = contains_front others ys x (k, omega (arith, within), e) in
    let below : rest.0 < length (others ++ ys) = rest.1 in
    (suc rest.0, omega (arith, below), rest.2)

pub contains_back : {A : Type 0} (xs ys : List A) (x : A) → Contains ys x → Contains (xs ++ ys) x
contains_back [] ys x there = there
contains_back (first ∷ others) ys x there =
    let rest = contains_back others ys x there in
    let below : rest.0 < length (others ++ ys) = rest.1 in
    (suc rest.0, omega (arith, below), rest.2)

pub contains_either : {A : Type 0} (xs ys : List A) (x : A) → Contains (xs ++ ys) x → Contains xs x ⊎ Contains ys x
contains_either [] ys x there = inr there
contains_either (first ∷ others) ys x (zero, within, e) = inl (zero, omega arith, e)
contains_either (first ∷ others) ys x (suc k, within, e) = by (contains_either others ys x (k, omega (arith, within), e))
  where
    by : Contains others x ⊎ Contains ys x → Contains (first ∷ others) x ⊎ Contains ys x
    by (inl rest) = let below : rest.0 < length others = rest.1 in inl (suc rest.0, omega (arith, below), rest.2)
    by (inr rest) = inr rest

pub all_of : {A : Type 0} (P : A → Type 0) (xs : List A) (x : A) → All P xs → Contains xs x → P x
all_of P xs x all (k, within, e) = subst P e (all k x within)

pub contains_map : {A B : Type 0} (f : A → B) (xs : List A) (x : A) → Contains xs x → Contains (map f xs) (f x)
contains_map f [] x (k, within, e) = absurd (omega (arith, within))
contains_map f (first ∷ others) x (zero, within, e) = (zero, omega arith, ap f e)
contains_map f (first ∷ others) x (suc k, within, e) =
    let rest = contains_map f others x (k, omega (arith, within), e) in
    let below : rest.0 < length (map f others) = rest.1 in
    (suc rest.0, omega (arith, below), rest.2)

-- ---- objects by their numbers

apart_of : (number : ℕ) (numbers : List ℕ) (other : ℕ) → AllByRecursion (λ one. eqb number one ≡ false) numbers → Contains numbers other → eqb number other ≡ false
apart_of number [] other apart (k, within, e) = absurd (omega (arith, within))
apart_of number (first ∷ others) other apart (zero, within, e) = subst (λ n. eqb number n ≡ false) e apart.0
apart_of number (first ∷ others) other apart (suc k, within, e) = apart_of number others other apart.1 (k, omega (arith, within), e)

-- the object of a number of which there is one
pub found_by_number : (objects : List CObject) (one : CObject) → IsDistinct eqb (map (λ o. o.object) objects) → Contains objects one → object_with one.object objects ≡ Some one
found_by_number [] one apart (k, within, e) = absurd (omega (arith, within))
found_by_number (first ∷ others) one apart (zero, within, e) =
    ap (λ test. if test then Some first else object_with one.object others) (by (ap (λ (o : CObject). o.object) e)) ∙ ap Some e
  where
    by : first.object ≡ one.object → (first.object == one.object) ≡ true
    by same = grind (arith, nat_tests, same)
found_by_number (first ∷ others) one apart (suc k, within, e) =
    let there : Contains others one = (k, omega (arith, within), e) in
    ap (λ test. if test then Some first else object_with one.object others) (apart_of first.object (map (λ o. o.object) others) one.object (IsDistinct-head eqb first.object (map (λ o. o.object) others) apart) (contains_map (λ (o : CObject). o.object) others one there))
    ∙ found_by_number others one (IsDistinct-tail eqb first.object (map (λ o. o.object) others) apart) there

pub statics_have : (objects : List CObject) (one : CObject) → Contains objects one → IsSome one.puts → Contains (statics_in objects) one
statics_have [] one (k, within, e) some = absurd (omega (arith, within))
statics_have (first ∷ others) one there some = by first.puts refl there (λ rest. statics_have others one rest some)
  where
    by : (puts : Option CPuts) → first.puts ≡ puts → Contains (first ∷ others) one → (Contains others one → Contains (statics_in others) one) → Contains (statics_in (first ∷ others)) one
    by None is (zero, within, e) rest = cc (ap (λ (o : CObject). o.puts) e, is, some)
    by None is (suc k, within, e) rest =
        subst (λ found. Contains (statics_first first found (statics_in others)) one) (sym is) (rest (k, omega (arith, within), e))
    by (Some puts) is (zero, within, e) rest =
        subst (λ found. Contains (statics_first first found (statics_in others)) one) (sym is) (zero, omega arith, e)
    by (Some puts) is (suc k, within, e) rest =
        let behind = rest (k, omega (arith, within), e) in
        let below : behind.0 < length (statics_in others) = behind.1 in
        subst (λ found. Contains (statics_first first found (statics_in others)) one) (sym is) (suc behind.0, omega (arith, below), behind.2)

-- ---- what an expression may name

inside_home : (form : CStmtForm) (body : CBody) → (inside_form form body).home ≡ body.home
inside_home (label name inner) body = refl
inside_home (case value inner) body = refl
inside_home (default inner) body = refl
inside_home (block stmts) body = refl
inside_home (expression value) body = refl
inside_home (if_then test inner otherwise) body = refl
inside_home (switch value inner) body = refl
inside_home (while test inner) body = refl
inside_home (do_while inner test) body = refl
inside_home (for_loop first test next inner) body = refl
inside_home (goto name) body = refl
inside_home continue body = refl
inside_home break body = refl
inside_home (returns value) body = refl
inside_home (begin number puts) body = refl

pub objects_append : (front back : Frame) → objects_of (front ++ back) ≡ objects_of front ++ objects_of back
objects_append [] back = refl
objects_append (slot ∷ front) back = ap (λ rest. slot.object ∷ rest) (objects_append front back)

abbrev with_scope : List ℕ → CHome → CHome
with_scope scope home = record home { scope = scope }

pub inside_by_home : (rest : CRest) (form : CStmtForm) (body : CBody) → (inside_by rest form body).home ≡ body.home
inside_by_home nothing_left form body = inside_home form body
inside_by_home (statements_left stmts) form body = inside_home form body
inside_by_home (firsts_left stmts) form body = refl
inside_by_home turn_left form body = inside_home form body

-- inside of open statements: the objects of each, the innermost first, before those of the body
pub home_is : (whole : CBody) (levels : List CLevel) → (body_at whole levels).home ≡ with_scope (objects_of (slots_in levels) ++ whole.home.scope) whole.home
home_is whole [] = refl
home_is whole (level ∷ outer) =
    inside_by_home level.rest level.form (with_objects (objects_of level.slots) (body_at whole outer))
    ∙ ap (λ (home : CHome). with_scope (objects_of level.slots ++ home.scope) home) (home_is whole outer)
    ∙ ap (λ scope. with_scope scope whole.home)
    (sym (append_assoc (objects_of level.slots) (objects_of (slots_in outer)) whole.home.scope) ∙ ap (λ front. front ++ whole.home.scope) (sym (objects_append level.slots (slots_in outer))))

-- in a function of a program
abbrev pub home_with : CProgram → CFun → List ℕ → CHome
home_with program one scope = with_scope scope (home_of program None one.unit)

pub home_at_is : (program : CProgram) (one : CFun) (result : CTy) (levels : List CLevel) (params : Frame) → objects_of params ≡ one.params
    → home_at program one result levels ≡ home_with program one (objects_of (slots_in levels ++ params))
home_at_is program one result levels params e =
    home_is (whole_body program one result) levels
    ∙ ap (λ scope. home_with program one scope) (ap (λ back. objects_of (slots_in levels) ++ back) (sym e) ∙ sym (objects_append (slots_in levels) params))

-- ---- scenes

-- objects whose blocks live, before static ones that are all begun
pub scene_of : (program : CProgram) (held : Held) (home : CHome) (slots statics : Frame) → IsLinked program → home.program ≡ program → home.mentions ≡ None → home.scope ≡ objects_of slots
    → IsTypedMemory program held.blocks → AreOwned program held (slots ++ statics) → AreBegun program [] statics → IsScene home (slots ++ statics) held.blocks
scene_of program held home slots statics linked same whole scope memory owned begun =
    subst (λ p. IsScene (record home { program = p }) (slots ++ statics) held.blocks) (sym same) (record {
      linked = linked;
      whole = whole;
      memory = memory;
      alive = record {
        statics = λ one there some. static_lives one there (all_of (IsBegunOr [] statics) (statics_in program.objects) one begun (statics_have program.objects one there some));
        in_scope = λ number there. alive_object program held (slots ++ statics) number owned (in_frame number (subst (λ list. Contains list number) scope there));
      };
    })
  where
    in_frame : (number : ℕ) → Contains (objects_of slots) number → Contains (objects_of (slots ++ statics)) number
    in_frame number there = subst (λ list. Contains list number) (sym (objects_append slots statics)) (contains_front (objects_of slots) (objects_of statics) number there)

    static_lives : (one : CObject) → Contains program.objects one → Contains (objects_of statics) one.object ⊎ Contains [] one → IsAlive program (slots ++ statics) held.blocks one
    static_lives one there (inl begun_is) =
        subst (λ found. IfSome found (IsAlive program (slots ++ statics) held.blocks)) (found_by_number program.objects one linked.numbers.objects_differ there)
        (alive_object program held (slots ++ statics) one.object owned
        (subst (λ list. Contains list one.object) (sym (objects_append slots statics)) (contains_back (objects_of slots) (objects_of statics) one.object begun_is)))
    static_lives one there (inr (k, within, e)) = absurd (omega (arith, within))

-- in a function
pub scene_at : (program : CProgram) (held : Held) (one : CFun) (result : CTy) (levels : List CLevel) (params statics : Frame) → IsLinked program → objects_of params ≡ one.params → IsTypedMemory program held.blocks
    → AreOwned program held (slots_in levels ++ params ++ statics) → AreBegun program [] statics → IsScene (home_at program one result levels) (slots_in levels ++ params ++ statics) held.blocks
scene_at program held one result levels params statics linked params_are memory owned begun =
    subst (λ home. IsScene home (slots_in levels ++ params ++ statics) held.blocks) (sym (home_at_is program one result levels params params_are))
    (scene_of program held (home_with program one (objects_of (slots_in levels ++ params))) (slots_in levels ++ params) statics linked refl refl refl memory owned begun)

-- before `main`
pub scene_before : (program : CProgram) (held : Held) (unit : ℕ) (statics : Frame) → IsLinked program → IsTypedMemory program held.blocks → AreOwned program held statics → AreBegun program [] statics
    → IsScene (home_of program None unit) statics held.blocks
scene_before program held unit statics linked memory owned begun = scene_of program held (home_of program None unit) [] statics linked refl refl refl memory owned begun
