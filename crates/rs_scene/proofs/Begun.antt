-- Parameters and locals that begin, one behind the other.
use Rattle.std.proofs.Common.{◌≡◌, ◌∙◌, sym, ap, subst, arith, ℕ, List, [], ◌∷◌, ◌++◌, length, map, Option}
use Rattle.std.proofs.lemmas.List.{map-append}
use Rattle.cr_base.specs.declared.layout.Laid.{Laid}
use Rattle.mem_bytes.specs.declared.value.Ptr.{Ptr}
use Rattle.mem_bytes.specs.declared.value.Value.TheVariants.{Object}
use Rattle.rs_mean.specs.Calls.{spot, store, begins_laid, begin_params, begin_locals}
use Rattle.rs_mean.specs.Layout.{laid_of}
use Rattle.rs_mean.specs.Lookups.{LocalBlock}
use Rattle.rs_mean.specs.Values.{Typed}
use Rattle.rs_mean.specs.World.{Run, pure, seq}
use Rattle.rs_text.specs.Tree.{LocalTree, ModuleTree}
use Rattle.rs_tree.specs.declared.item.Local.{Local}
use Rattle.rs_tree.specs.declared.ty.RTy.{RTy}
use Rattle.rs_tree.specs.Views.{local_view, ty_view}
use Rattle.rs_value.specs.declared.typed.TypedValue.{TypedValue}
use Rattle.rs_value.specs.Views.{typed_view}
use Rattle.rs_scene.specs.declared.scene.HeldLocal.{HeldLocal}
use Rattle.rs_scene.specs.Scenes.{held_local}
use Rattle.rs_machine.specs.Blocks.{place_of}
use Rattle.rs_machine.specs.Does.{Stopped, End, gives, stops, Does}
use Rattle.rs_machine.specs.States.{State}
use Rattle.rs_machine.proofs.Pieces.{then_does, stops_first}
use Rattle.rs_scene.proofs.Sequences.{behind_none, joined_does, no_more, one_more}

abbrev pub begun : LocalTree → ℕ → LocalBlock
begun one block = record { name = one.name; ty = one.ty; block = block }

module _ (modules : List ModuleTree) (done : List LocalBlock) where
  abbrev pub Behind : Run (List LocalBlock) → Run (List LocalBlock)
  Behind run = seq run (λ others. pure (done ++ others))

  -- ---- locals

  pub local_stops : (one : LocalTree) (locals : List LocalTree) {stop : Stopped} {first second : State} →
      Does (begins_laid (laid_of modules one.ty)) (stops stop) first second → Does (Behind (begin_locals modules (one ∷ locals))) (stops stop) first second
  local_stops one locals does = stops_first _ (stops_first _ does)

  pub local_goes : (one : LocalTree) (locals : List LocalTree) (block : ℕ) {end : End (List LocalBlock)} {first second third : State} →
      Does (begins_laid (laid_of modules one.ty)) (gives (place_of block)) first second →
      Does (seq (begin_locals modules locals) (λ others. pure (done ++ begun one block ∷ [] ++ others))) end second third →
      Does (Behind (begin_locals modules (one ∷ locals))) end first third
  local_goes one locals block begins rest =
      joined_does _ _ _ (then_does _ begins (one_more done (begun one block) (begin_locals modules locals) rest))

  -- ---- parameters

  pub param_stops : (one : LocalTree) (params : List LocalTree) (arg : Typed) (args : List Typed) {stop : Stopped} {first second : State} →
      Does (begins_laid (laid_of modules one.ty)) (stops stop) first second → Does (Behind (begin_params modules (one ∷ params) (arg ∷ args))) (stops stop) first second
  param_stops one params arg args does = stops_first _ (stops_first _ does)

  pub store_stops : (one : LocalTree) (params : List LocalTree) (arg : Typed) (args : List Typed) (block : ℕ) {stop : Stopped} {first second third : State} →
      Does (begins_laid (laid_of modules one.ty)) (gives (place_of block)) first second →
      Does (store (spot one.ty (Object (place_of block))) arg.value) (stops stop) second third →
      Does (Behind (begin_params modules (one ∷ params) (arg ∷ args))) (stops stop) first third
  store_stops one params arg args block begins stored = stops_first _ (then_does _ begins (stops_first _ stored))

  pub param_goes : (one : LocalTree) (params : List LocalTree) (arg : Typed) (args : List Typed) (block : ℕ) {end : End (List LocalBlock)} {first second third fourth : State} →
      Does (begins_laid (laid_of modules one.ty)) (gives (place_of block)) first second →
      Does (store (spot one.ty (Object (place_of block))) arg.value) (gives tt) second third →
      Does (seq (begin_params modules params args) (λ others. pure (done ++ begun one block ∷ [] ++ others))) end third fourth →
      Does (Behind (begin_params modules (one ∷ params) (arg ∷ args))) end first fourth
  param_goes one params arg args block begins stored rest =
      joined_does _ _ _ (then_does _ begins (joined_does _ _ _ (then_does _ stored (one_more done (begun one block) (begin_params modules params args) rest))))

-- ---- as the code has them

module _ (modules : List ModuleTree) where
  pub no_locals : (done : List LocalBlock) (locals : List Local) (at : State) → length locals ≡ 0 →
      Does (seq (begin_locals modules (map local_view locals)) (λ others. pure (done ++ others))) (gives done) at at
  no_locals done [] at is = no_more done at
  no_locals done (one ∷ locals) at is = absurd (omega (arith, is))

  pub locals_stop : (done : List LocalBlock) (locals others : List Local) (one : Local) (laid : Option Laid) {stop : Stopped} {first second : State} →
      locals ≡ one ∷ others → laid ≡ laid_of modules (ty_view one.ty) → Does (begins_laid laid) (stops stop) first second →
      Does (seq (begin_locals modules (map local_view locals)) (λ others. pure (done ++ others))) (stops stop) first second
  locals_stop done locals others one laid {stop = stop} {first = first} {second = second} is laid_is does =
      subst (λ (list : List Local). Does (seq (begin_locals modules (map local_view list)) (λ others. pure (done ++ others))) (stops stop) first second) (sym is)
      (local_stops modules done (local_view one) (map local_view others) (subst (λ (found : Option Laid). Does (begins_laid found) (stops stop) first second) laid_is does))

  pub locals_go : (before after : List HeldLocal) (held : HeldLocal) (locals others : List Local) (one : Local) (laid : Option Laid) (block : ℕ)
      {end : End (List LocalBlock)} {first second third : State} →
      locals ≡ one ∷ others → laid ≡ laid_of modules (ty_view one.ty) → after ≡ before ++ held ∷ [] → held_local held ≡ begun (local_view one) block →
      Does (begins_laid laid) (gives (place_of block)) first second →
      Does (seq (begin_locals modules (map local_view others)) (λ rest. pure (map held_local after ++ rest))) end second third →
      Does (seq (begin_locals modules (map local_view locals)) (λ rest. pure (map held_local before ++ rest))) end first third
  locals_go before after held locals others one laid block {end = end} {first = first} {second = second} {third = third} is laid_is pushed held_is begins rest =
      subst (λ (list : List Local). Does (seq (begin_locals modules (map local_view list)) (λ rest. pure (map held_local before ++ rest))) end first third) (sym is)
      (local_goes modules (map held_local before) (local_view one) (map local_view others) block
      (subst (λ (found : Option Laid). Does (begins_laid found) (gives (place_of block)) first second) laid_is begins)
      (subst (λ (done : List LocalBlock). Does (seq (begin_locals modules (map local_view others)) (λ rest. pure (done ++ rest))) end second third)
      (ap (map held_local) pushed ∙ map-append held_local before (held ∷ []) ∙ ap (λ (last : LocalBlock). map held_local before ++ last ∷ []) held_is) rest))

  pub no_params_begin : (done : List LocalBlock) (params : List Local) (args : List Typed) (at : State) → length params ≡ 0 →
      Does (seq (begin_params modules (map local_view params) args) (λ others. pure (done ++ others))) (gives done) at at
  no_params_begin done [] args at is = no_more done at
  no_params_begin done (one ∷ params) args at is = absurd (omega (arith, is))

  pub no_args_begin : (done : List LocalBlock) (params others : List Local) (one : Local) (list : List TypedValue) (at : State) → params ≡ one ∷ others → length list ≡ 0 →
      Does (seq (begin_params modules (map local_view params) (map typed_view list)) (λ rest. pure (done ++ rest))) (gives done) at at
  no_args_begin done params others one [] at is none =
      subst (λ (list : List Local). Does (seq (begin_params modules (map local_view list) []) (λ rest. pure (done ++ rest))) (gives done) at at) (sym is) (no_more done at)
  no_args_begin done params others one (arg ∷ list) at is none = absurd (omega (arith, none))

  module _ (before : List HeldLocal) (params others : List Local) (one : Local) (list rest : List TypedValue) (arg : TypedValue) (laid : Option Laid)
      (is : params ≡ one ∷ others) (list_is : list ≡ arg ∷ rest) (laid_is : laid ≡ laid_of modules (ty_view one.ty)) where
    in_both : (end : End (List LocalBlock)) (first last : State) →
        Does (seq (begin_params modules (map local_view (one ∷ others)) (map typed_view (arg ∷ rest))) (λ more. pure (map held_local before ++ more))) end first last →
        Does (seq (begin_params modules (map local_view params) (map typed_view list)) (λ more. pure (map held_local before ++ more))) end first last
    in_both end first last does =
        subst (λ (items : List Local). Does (seq (begin_params modules (map local_view items) (map typed_view list)) (λ more. pure (map held_local before ++ more))) end first last) (sym is)
        (subst (λ (values : List TypedValue). Does (seq (begin_params modules (map local_view (one ∷ others)) (map typed_view values)) (λ more. pure (map held_local before ++ more))) end first last)
        (sym list_is) does)

    laid_does : (end : End Ptr) (first last : State) → Does (begins_laid laid) end first last → Does (begins_laid (laid_of modules (ty_view one.ty))) end first last
    laid_does end first last does = subst (λ (found : Option Laid). Does (begins_laid found) end first last) laid_is does

    pub params_stop : {stop : Stopped} {first second : State} → Does (begins_laid laid) (stops stop) first second →
        Does (seq (begin_params modules (map local_view params) (map typed_view list)) (λ more. pure (map held_local before ++ more))) (stops stop) first second
    params_stop {stop = stop} {first = first} {second = second} does =
        in_both (stops stop) first second
        (param_stops modules (map held_local before) (local_view one) (map local_view others) (typed_view arg) (map typed_view rest) (laid_does (stops stop) first second does))

    pub stores_stop : (block : ℕ) (ty : RTy) → ty ≡ one.ty → {stop : Stopped} {first second third : State} → Does (begins_laid laid) (gives (place_of block)) first second →
        Does (store (spot (ty_view ty) (Object (place_of block))) arg.value) (stops stop) second third →
        Does (seq (begin_params modules (map local_view params) (map typed_view list)) (λ more. pure (map held_local before ++ more))) (stops stop) first third
    stores_stop block ty ty_is {stop = stop} {first = first} {second = second} {third = third} begins stored =
        in_both (stops stop) first third
        (store_stops modules (map held_local before) (local_view one) (map local_view others) (typed_view arg) (map typed_view rest) block
        (laid_does (gives (place_of block)) first second begins)
        (subst (λ (its : RTy). Does (store (spot (ty_view its) (Object (place_of block))) arg.value) (stops stop) second third) ty_is stored))

    pub params_go : (after : List HeldLocal) (held : HeldLocal) (block : ℕ) (ty : RTy) → ty ≡ one.ty → {end : End (List LocalBlock)} {first second third fourth : State} →
        after ≡ before ++ held ∷ [] → held_local held ≡ begun (local_view one) block → Does (begins_laid laid) (gives (place_of block)) first second →
        Does (store (spot (ty_view ty) (Object (place_of block))) arg.value) (gives tt) second third →
        Does (seq (begin_params modules (map local_view others) (map typed_view rest)) (λ more. pure (map held_local after ++ more))) end third fourth →
        Does (seq (begin_params modules (map local_view params) (map typed_view list)) (λ more. pure (map held_local before ++ more))) end first fourth
    params_go after held block ty ty_is {end = end} {first = first} {second = second} {third = third} {fourth = fourth} pushed held_is begins stored does =
        in_both end first fourth
        (param_goes modules (map held_local before) (local_view one) (map local_view others) (typed_view arg) (map typed_view rest) block
        (laid_does (gives (place_of block)) first second begins)
        (subst (λ (its : RTy). Does (store (spot (ty_view its) (Object (place_of block))) arg.value) (gives tt) second third) ty_is stored)
        (subst (λ (done : List LocalBlock). Does (seq (begin_params modules (map local_view others) (map typed_view rest)) (λ more. pure (done ++ more))) end third fourth)
        (ap (map held_local) pushed ∙ map-append held_local before (held ∷ []) ∙ ap (λ (last : LocalBlock). map held_local before ++ last ∷ []) held_is) does))

  -- behind none that have begun
  pub params_begin : (params list : List Local) (args : List Typed) (none : List HeldLocal) {end : End (List LocalBlock)} {first second : State} →
      list ≡ params → none ≡ [] →
      Does (seq (begin_params modules (map local_view list) args) (λ others. pure (map held_local none ++ others))) end first second →
      Does (begin_params modules (map local_view params) args) end first second
  params_begin params list args none {end = end} {first = first} {second = second} list_is none_is does =
      subst (λ (items : List Local). Does (begin_params modules (map local_view items) args) end first second) list_is
      (behind_none (begin_params modules (map local_view list) args)
      (subst (λ (held : List HeldLocal). Does (seq (begin_params modules (map local_view list) args) (λ others. pure (map held_local held ++ others))) end first second) none_is does))

  pub locals_begin : (locals list : List Local) (done : List LocalBlock) {end : End (List LocalBlock)} {first second : State} → list ≡ locals →
      Does (seq (begin_locals modules (map local_view list)) (λ others. pure (done ++ others))) end first second →
      Does (seq (begin_locals modules (map local_view locals)) (λ others. pure (done ++ others))) end first second
  locals_begin locals list done {end = end} {first = first} {second = second} is does =
      subst (λ (items : List Local). Does (seq (begin_locals modules (map local_view items)) (λ others. pure (done ++ others))) end first second) is does
