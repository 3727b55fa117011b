-- Static objects, initialisers and the end of a program, and what an engine does of them.
use Rattle.std.proofs.Common.{◌≡◌, ◌∙◌, refl, sym, ap, subst, arith, ℕ, zero, suc, ◌+◌, ◌<◌, ◌≤◌, ℤ, List, [], ◌∷◌, map, length, drop, Option, None, option_map, codes, rules, Bor, true, Result, Ok, Err, IfOk}
use Rattle.std.proofs.Math.ListN.{get_or}
use Rattle.std.proofs.lemmas.List.{drop_more}
use Rattle.std.specs.Option.{option_copied}
use Rattle.cr_base.specs.Scalar.{converted}
use Rattle.cr_base.specs.declared.layout.Laid.{Laid}
use Rattle.cr_base.specs.declared.memory.Memory.{Memory}
use Rattle.ext_calls.specs.Host.{HostState}
use Rattle.mem_bytes.specs.Counted.{Limit}
use Rattle.mem_bytes.specs.Memory.{Blocks}
use Rattle.mem_bytes.specs.declared.value.Ptr.{Ptr}
use Rattle.mem_bytes.specs.declared.value.Value.{Value}
use Rattle.mem_bytes.specs.declared.value.Value.TheVariants.{Whole, Object}
use Rattle.rs_mean.specs.declared.cause.Cause.TheVariants.{WrongCall}
use Rattle.rs_mean.specs.Calls.{store, spot, store_literals, literals_of, begins_laid, begins_object, begin_statics}
use Rattle.rs_mean.specs.Layout.{laid_of}
use Rattle.rs_mean.specs.Laws.{bodies_of}
use Rattle.rs_mean.specs.Lookups.{Callee, OwnStatic, statics_of, functions_of}
use Rattle.rs_mean.specs.Run.{Bodies, call_found, call_in, run_initialisers, run_entry, exits, exits_with, run_main}
use Rattle.rs_mean.specs.Scalars.{integer_scalar}
use Rattle.rs_mean.specs.Values.{Typed}
use Rattle.rs_mean.specs.World.{Run, seq, ends}
use Rattle.rs_text.specs.declared.integer.IntegerTy.TheVariants.{I8}
use Rattle.rs_text.specs.Tree.{Ty, Integer, ModuleTree, CrateTree}
use Rattle.rs_tree.specs.declared.item.Module.{Module}
use Rattle.rs_tree.specs.declared.ty.RTy.{fold_out-RTy}
use Rattle.rs_tree.specs.declared.ty.RTy.TheBlock as raw
use Rattle.rs_tree.specs.declared.ty.RTy.TheViews.{the_lemmas}
use Rattle.rs_tree.specs.Views.{module_view, ty_view}
use Rattle.rs_value.specs.declared.typed.TypedValue.{TypedValue}
use Rattle.rs_value.specs.Views.{typed_view}
use Rattle.rs_layout.specs.Layouts.{ModulesAreAligned}
use Rattle.rs_layout.proofs.LayoutsAligned.{crate_aligned}
use Rattle.rs_text.specs.Valid.{valid_crate}
use Rattle.rs_scene.specs.Scenes.{IsScene, held_function, held_static}
use Rattle.rs_scene.specs.declared.scene.Scene.{Scene}
use Rattle.rs_scene.specs.declared.scene.HeldStatic.{HeldStatic}
use Rattle.rs_scene.proofs.Sequences.{parted_does}
use Rattle.rs_machine.specs.Called.{EndsBy}
use Rattle.rs_machine.specs.Does.{End, gives, stops, Stopped, ended, went_wrong, no_units, store_full, refused, failed, no_memory, Does, Stays}
use Rattle.rs_machine.specs.States.{Kept, State, state}
use Rattle.rs_machine.proofs.Pieces.{then_does, stops_first}
use Rattle.rs_machine.proofs.Rules.{pure_does, fails_does, ends_does, memory_does}
use Rattle.rs_exec.specs.Ends.{IsOutcome, RunsTo, steps_told}
use Rattle.rs_exec.specs.declared.outcome.RRun.{RRun}
use Rattle.rs_bodies.proofs.Turned.{Follows}

none_left : {X : Type 0} (list : List X) (index : ℕ) → length list ≤ index → drop index list ≡ []
none_left [] zero most = refl
none_left [] (suc index) most = refl
none_left (one ∷ list) zero most = absurd (omega (arith, most))
none_left (one ∷ list) (suc index) most = none_left list index (omega (arith, most))

one_left : {X : Type 0} (list : List X) (index : ℕ) (one : X) → index < length list → one ≡ get_or list index one → drop index list ≡ one ∷ drop (index + 1) list
one_left list index one less is = drop_more list index one less ∙ ap (λ (item : _). item ∷ drop (index + 1) list) (sym is)

-- ---- literals

abbrev pub Byte : ℕ → ℕ → ℤ → Run (Unit {0})
Byte block offset one = store (spot (Integer I8) (Object (record { block = block; offset = offset }))) (Whole (converted (integer_scalar I8) one))

module _ (block : ℕ) (literals : List ℤ) (offset index : ℕ) where
  abbrev Follow : State → State → Type 0
  Follow first now = Follows (store_literals block 0 literals) (store_literals block offset (drop index literals)) first now

  module _ (one : ℤ) (is : drop index literals ≡ one ∷ drop (index + 1) literals) {first now : State} (follows : Follow first now) where
    from_literal : Follows (store_literals block 0 literals) (store_literals block offset (one ∷ drop (index + 1) literals)) first now
    from_literal = subst (λ (items : List ℤ). Follows (store_literals block 0 literals) (store_literals block offset items) first now) is follows

    pub literal_stops : {stop : Stopped} {next : State} → Does (Byte block offset one) (stops stop) now next → Does (store_literals block 0 literals) (stops stop) first next
    literal_stops {stop = stop} {next = next} does = from_literal.by (stops stop) next (stops_first _ does)

    literal_behind : {next : State} → Does (Byte block offset one) (gives tt) now next →
        Follows (store_literals block 0 literals) (store_literals block (offset + 1) (drop (index + 1) literals)) first next
    literal_behind does = record { by = λ end last rest. from_literal.by end last (then_does _ does rest) }

    pub literal_goes : (further : ℕ) {next : State} → further ≡ offset + 1 → Does (Byte block offset one) (gives tt) now next →
        Follows (store_literals block 0 literals) (store_literals block further (drop (index + 1) literals)) first next
    literal_goes further {next = next} same does =
        subst (λ (n : ℕ). Follows (store_literals block 0 literals) (store_literals block n (drop (index + 1) literals)) first next) (sym same) (literal_behind does)

  pub literals_end : {first now : State} → length literals ≤ index → Follow first now → Does (store_literals block 0 literals) (gives tt) first now
  literals_end {now = now} most follows =
      follows.by (gives tt) now
      (subst (λ (items : List ℤ). Does (store_literals block offset items) (gives tt) now now) (sym (none_left literals index most)) (pure_does tt now))

pub literals_are : (block : ℕ) (list others : List ℤ) {end : End (Unit {0})} {before after : State} → list ≡ others →
    Does (store_literals block 0 list) end before after → Does (store_literals block 0 others) end before after
literals_are block list others {end = end} {before = before} {after = after} is does = subst (λ (one : List ℤ). Does (store_literals block 0 one) end before after) is does

byte_view : ty_view (raw.Integer I8) ≡ Integer I8
byte_view = search (rules, the_lemmas, fold_out-RTy)

pub byte_stored : (block offset : ℕ) (number literal : ℤ) {end : End (Unit {0})} {before after : State} → number ≡ converted (integer_scalar I8) literal →
    Does (store (spot (ty_view (raw.Integer I8)) (Object (record { block = block; offset = offset }))) (Whole number)) end before after → Does (Byte block offset literal) end before after
byte_stored block offset number literal {end = end} {before = before} {after = after} is does =
    subst (λ (one : ℤ). Does (store (spot (Integer I8) (Object (record { block = block; offset = offset }))) (Whole one)) end before after) is
    (subst (λ (ty : Ty). Does (store (spot ty (Object (record { block = block; offset = offset }))) (Whole number)) end before after) byte_view does)

-- ---- static objects

pub laid_first : (modules : List ModuleTree) (laid : Option Laid) (ty : Ty) (next : Ptr → Run (Unit {0})) {end : End (Unit {0})} {before after : State} → laid ≡ laid_of modules ty →
    Does (seq (begins_laid laid) next) end before after → Does (seq (begins_object modules ty) next) end before after
laid_first modules laid ty next {end = end} {before = before} {after = after} is does =
    subst (λ (one : Option Laid). Does (seq (begins_laid one) next) end before after) is does

module _ (modules : List ModuleTree) (statics : List HeldStatic) where
  abbrev pub Statics : List HeldStatic → Run (Unit {0})
  Statics list = begin_statics modules (map held_static list)

  abbrev pub OneStatic : HeldStatic → Run (Unit {0})
  OneStatic one = seq (begins_object modules (held_static one).object.ty) (λ at. store_literals at.block 0 (literals_of (held_static one).object.values))

  module _ (index : ℕ) where
    module _ (one : HeldStatic) (less : index < length statics) (is : one ≡ get_or statics index one) {first now : State} (follows : Follows (Statics statics) (Statics (drop index statics)) first now) where
      from_static : Follows (Statics statics) (Statics (one ∷ drop (index + 1) statics)) first now
      from_static = subst (λ (items : List HeldStatic). Follows (Statics statics) (Statics items) first now) (one_left statics index one less is) follows

      pub static_stops : {stop : Stopped} {next : State} → Does (OneStatic one) (stops stop) now next → Does (Statics statics) (stops stop) first next
      static_stops {stop = stop} {next = next} does = from_static.by (stops stop) next (parted_does _ _ _ (stops_first _ does))

      pub static_goes : {next : State} → Does (OneStatic one) (gives tt) now next → Follows (Statics statics) (Statics (drop (index + 1) statics)) first next
      static_goes does = record { by = λ end last rest. from_static.by end last (parted_does _ _ _ (then_does _ does rest)) }

    pub statics_end : {first now : State} → length statics ≤ index → Follows (Statics statics) (Statics (drop index statics)) first now → Does (Statics statics) (gives tt) first now
    statics_end {now = now} most follows =
        follows.by (gives tt) now
        (subst (λ (items : List HeldStatic). Does (Statics items) (gives tt) now now) (sym (none_left statics index most)) (pure_does tt now))

pub statics_as : (modules : List ModuleTree) (list others : List OwnStatic) {end : End (Unit {0})} {before after : State} → list ≡ others →
    Does (begin_statics modules list) end before after → Does (begin_statics modules others) end before after
statics_as modules list others {end = end} {before = before} {after = after} is does =
    subst (λ (one : List OwnStatic). Does (begin_statics modules one) end before after) is does

-- ---- initialisers

module _ (bodies : Bodies) (modules : List Module) where
  abbrev pub Initialisers : List Module → Run (Unit {0})
  Initialisers list = run_initialisers bodies (map module_view list)

  module _ (index : ℕ) where
    module _ (one : Module) (less : index < length modules) (is : one ≡ get_or modules index one) {first now : State} (follows : Follows (Initialisers modules) (Initialisers (drop index modules)) first now) where
      abbrev pub Initialiser : Run (Option Typed)
      Initialiser = call_in bodies (module_view one) (codes "run_static_initializers")

      from_module : Follows (Initialisers modules) (Initialisers (one ∷ drop (index + 1) modules)) first now
      from_module = subst (λ (items : List Module). Follows (Initialisers modules) (Initialisers items) first now) (one_left modules index one less is) follows

      pub initialiser_stops : {stop : Stopped} {next : State} → Does Initialiser (stops stop) now next → Does (Initialisers modules) (stops stop) first next
      initialiser_stops {stop = stop} {next = next} does = from_module.by (stops stop) next (stops_first _ does)

      pub initialiser_goes : {value : Option Typed} {next : State} → Does Initialiser (gives value) now next → Follows (Initialisers modules) (Initialisers (drop (index + 1) modules)) first next
      initialiser_goes does = record { by = λ end last rest. from_module.by end last (then_does _ does rest) }

    pub initialisers_end : {first now : State} → length modules ≤ index → Follows (Initialisers modules) (Initialisers (drop index modules)) first now →
        Does (Initialisers modules) (gives tt) first now
    initialisers_end {now = now} most follows =
        follows.by (gives tt) now
        (subst (λ (items : List Module). Does (Initialisers items) (gives tt) now now) (sym (none_left modules index most)) (pure_does tt now))

-- ---- calls without arguments

pub called_in : (bodies : Bodies) (callee found : Option Callee) {end : End (Option Typed)} {before after : State} → callee ≡ found →
    Does (call_found bodies [] callee) end before after → Does (call_found bodies [] found) end before after
called_in bodies callee found {end = end} {before = before} {after = after} is does =
    subst (λ (one : Option Callee). Does (call_found bodies [] one) end before after) is does

pub entry_as : (bodies : Bodies) (unit other : Option ModuleTree) {end : End (Option Typed)} {before after : State} → unit ≡ other →
    Does (run_entry bodies unit) end before after → Does (run_entry bodies other) end before after
entry_as bodies unit other {end = end} {before = before} {after = after} is does = subst (λ (one : Option ModuleTree). Does (run_entry bodies one) end before after) is does

pub no_entry : (bodies : Bodies) (unit : Option (Bor Module)) (at : State) → unit ≡ None →
    Does (run_entry bodies (option_map module_view (option_copied unit))) (stops (went_wrong WrongCall)) at at
no_entry bodies unit at is =
    subst (λ (one : Option (Bor Module)). Does (run_entry bodies (option_map module_view (option_copied one))) (stops (went_wrong WrongCall)) at at) (sym is) (fails_does WrongCall at)

-- ---- the end of a program

pub nothing_given : (given : Option TypedValue) → given ≡ None → Stays (exits (option_map typed_view given)) (stops (went_wrong WrongCall))
nothing_given given is = λ at. subst (λ (one : Option TypedValue). Does (exits (option_map typed_view one)) (stops (went_wrong WrongCall)) at at) (sym is) (fails_does WrongCall at)

pub exits_as : (value other : Value) {end : End (Unit {0})} → value ≡ other → Stays (exits_with other) end → Stays (exits_with value) end
exits_as value other {end = end} is stays = λ at. subst (λ (one : Value). Does (exits_with one) end at at) (sym is) (stays at)

pub exits_by : (status : ℤ) (stop : Stopped) → EndsBy stop status → Stays {B = Unit {0}} (ends status) (stops stop)
exits_by status (ended one) is = λ at. subst (λ (n : ℤ). Does {B = Unit {0}} (ends n) (stops (ended one)) at at) is (ends_does one at)
exits_by status (went_wrong why) is = absurd is
exits_by status no_units is = absurd is
exits_by status (store_full need left) is = absurd is
exits_by status (refused name) is = absurd is
exits_by status failed is = absurd is
exits_by status no_memory is = λ at. memory_does (ends status) at at refl

-- ---- a whole run

pub whole_scene : (whole : CrateTree) (scene : Scene) → valid_crate whole ≡ true → map module_view scene.modules.now ≡ whole.modules →
    map held_static scene.statics.now ≡ statics_of whole.modules → map held_function scene.functions.now ≡ functions_of whole.modules → IsScene scene
whole_scene whole scene valid modules statics functions = record {
  aligned = subst (λ (list : List ModuleTree). ModulesAreAligned list) (sym modules) (crate_aligned whole valid);
  statics = statics ∙ ap statics_of (sym modules);
  functions = functions ∙ ap functions_of (sym modules);
}

pub if_ok : {P Q : RRun → Type 0} (result : Result RRun Memory) → ((run : RRun) → P run → Q run) → IfOk result P → IfOk result Q
if_ok (Ok run) implies is = implies run is
if_ok (Err memory) implies is = is

pub runs_to : (whole : CrateTree) (steps left taken : ℕ) (limit last : Option Limit) (host later : HostState) (kept after : Kept) (blocks new : Blocks) (stop : Stopped) (run : RRun) →
    kept ≡ record { trail = []; heap = []; units = steps } → blocks ≡ [] → IsOutcome stop run.outcome →
    Does (run_main whole (bodies_of whole.modules)) (stops stop) (state kept blocks limit host) (state after new last later) →
    run.trail ≡ after.trail → left ≡ after.units → run.steps ≡ steps_told run.outcome taken → steps ≡ taken + left → RunsTo whole steps limit host later run
runs_to whole steps left taken limit last host later kept after blocks new stop run kept_is none outcome does trail left_is told sum = record {
  stop = stop;
  outcome = outcome;
  after = state after new last later;
  does =
      subst (λ (list : Blocks). Does (run_main whole (bodies_of whole.modules)) (stops stop) (state (record { trail = []; heap = []; units = steps }) list limit host) (state after new last later)) none
      (subst (λ (one : Kept). Does (run_main whole (bodies_of whole.modules)) (stops stop) (state one blocks limit host) (state after new last later)) kept_is does);
  trail = trail;
  taken = taken;
  units = omega (arith, sum, left_is);
  told = told;
  last = refl;
}
