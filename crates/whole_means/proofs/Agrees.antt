-- As a program begins it agrees with its crate on functions and static objects.
use Rattle.std.proofs.Common.{arith, ◌≡◌, ◌<◌, ℕ, zero, suc, ◌+◌, ◌==◌, List, length, Option, Some, None, slice_get, is_some, option_map, refl, sym, ap, subst, ◌∙◌}
use Rattle.cx_core.specs.Trees.{CFun, CPuts, CProgram}
use Rattle.cx_core.specs.Typing.{function_with, object_with}
use Rattle.cx_mean.specs.Operands.{slot_of}
use Rattle.cx_mean.specs.State.{statics_in}
use Rattle.lift_calls.specs.Programs.{FunctionAgrees, ProgramAgrees, Setting, StaticAgrees}
use Rattle.mem_bytes.specs.declared.value.Ptr.{Ptr}
use Rattle.rs_items.specs.Types.{rust_type}
use Rattle.rs_mean.specs.Lookups.{OwnFunction, OwnStatic, function_number, functions_of, static_from}
use Rattle.rs_text.specs.Tree.{ModuleTree}
use Rattle.whole_bodies.specs.Bodies.{ShapeOf, written_bodies}
use Rattle.whole_items.specs.Items.{WrittenBodies, function_tree, module_tree}
use Rattle.whole_means.proofs.Callees.{function_number_same, one_key, same_function}
use Rattle.whole_means.proofs.Keys.{number_same}
use Rattle.whole_means.proofs.Lists.{Among, find_there}
use Rattle.whole_means.proofs.Modules.{modules_apart, modules_by}
use Rattle.whole_means.proofs.Named.{HasName}
use Rattle.whole_means.proofs.Numbers.{function_found, function_numbered, function_unit, object_unit, own_of}
use Rattle.whole_means.proofs.Statics.{block_is, statics_are}
use Rattle.whole_means.proofs.Things.{function_named, object_there}
use Rattle.whole_means.proofs.Whole.{modules_are}
use Rattle.whole_means.specs.Beginning.{StandUnitByUnit, first_images, first_statics, numbers_from}
use Rattle.whole_means.specs.Settings.{function_image, function_path, modules_of, object_path, setting_of, setting_with}
use Rattle.whole_means.specs.Written.{IsNamed}
use Rattle.whole_names.specs.Keys.{a_function, an_object}
use Rattle.whole_names.specs.Kept.{NamedProgram, module_of, name_in, path_if, types_of}

number_at : (from count k : ℕ) → k < count → slice_get (numbers_from from count) k ≡ Some (from + k)
number_at from zero k low = absurd (omega (arith, low))
number_at from (suc count) zero low = ap Some (let e : from ≡ from + 0 = omega arith in e)
number_at from (suc count) (suc k) low = number_at (suc from) count k (omega (arith, low)) ∙ ap Some (let e : suc from + k ≡ from + suc k = omega arith in e)

module _ (whole : NamedProgram) (is : IsNamed whole) (bodies : WrittenBodies) where
  abbrev program : CProgram
  program = whole.program

  abbrev count : ℕ
  count = length whole.module_names

  abbrev modules : List ModuleTree
  modules = modules_by (module_tree whole bodies) 0 count

  abbrev s : Setting
  s = setting_with whole modules (first_statics program)

  -- ---- functions

  place_of : (f : CFun) (there : Among program.functions f) → function_number modules (module_of whole f.unit) (name_in whole f.unit (a_function f.function)) ≡ Some (function_numbered whole is bodies f there).place
  place_of f there =
      let numbered = function_numbered whole is bodies f there in
      let place = numbered.place in
      numbered.number_is ∙ ap Some (let e : 0 + numbered.place ≡ numbered.place = omega arith in e)

  pub function_agrees : (number : ℕ) (one : CFun) → function_with number program.functions ≡ Some one → FunctionAgrees s (first_images whole modules) number
  function_agrees number one found =
      let there = (find_there (λ (f : CFun). f.function == number) program.functions one found).0 in
      let numbered = function_numbered whole is bodies one there in
      record {
        path = record { home = module_of whole one.unit; name = name_in whole one.unit (a_function one.function) };
        path_is = ap (function_path whole) found;
        tree = function_tree whole one (bodies.of_function one);
        tree_is = function_found whole is bodies one there;
        place = numbered.place;
        place_is = place_of one there;
        at_place = ap (option_map (λ (o : OwnFunction). o.fun)) numbered.at_place;
        image = ap (λ f. function_image modules (function_path whole f)) found ∙ place_of one there;
      }

  -- functions whose items have one path are one
  same_path : (f g : CFun) → Among program.functions f → Among program.functions g → module_of whole g.unit ≡ module_of whole f.unit →
      name_in whole g.unit (a_function g.function) ≡ name_in whole f.unit (a_function f.function) → g ≡ f
  same_path f g there also home name =
      let unit : g.unit ≡ f.unit = modules_apart whole is g.unit f.unit (function_unit whole is bodies g also) (function_unit whole is bodies f there) home in
      let key = one_key whole is bodies f.unit (a_function g.function) (a_function f.function)
      (subst (λ n. HasName whole n (a_function g.function)) unit (function_named whole is g also)) (function_named whole is f there)
      (ap (λ n. name_in whole n (a_function g.function)) (sym unit) ∙ name) in
      same_function whole is bodies f.unit f g there also (function_number_same g.function f.function key)

  images_by : (one other place : ℕ) (first second : Option CFun) → function_with one program.functions ≡ first → function_with other program.functions ≡ second →
      function_image modules (function_path whole first) ≡ Some place → function_image modules (function_path whole second) ≡ Some place → one ≡ other
  images_by one other place None second e f at at_too = absurd cc
  images_by one other place (Some f) None e g at at_too = absurd cc
  images_by one other place (Some f) (Some g) e k at at_too =
      let f_there = find_there (λ (h : CFun). h.function == one) program.functions f e in
      let g_there = find_there (λ (h : CFun). h.function == other) program.functions g k in
      let f_number = function_numbered whole is bodies f f_there.0 in
      let g_number = function_numbered whole is bodies g g_there.0 in
      let f_place : Some f_number.place ≡ Some place = sym (place_of f f_there.0) ∙ at in
      let g_place : Some g_number.place ≡ Some place = sym (place_of g g_there.0) ∙ at_too in
      let f_is : f_number.place ≡ place = cc (f_place) in
      let g_is : g_number.place ≡ place = cc (g_place) in
      let own_some : Some (own_of whole is bodies f) ≡ Some (own_of whole is bodies g) =
      sym f_number.at_place ∙ ap (slice_get (functions_of modules)) (f_is ∙ sym g_is) ∙ g_number.at_place in
      let own : own_of whole is bodies f ≡ own_of whole is bodies g = cc (own_some) in
      let same = same_path g f g_there.0 f_there.0 (ap (λ (o : OwnFunction). o.home) own) (ap (λ (o : OwnFunction). o.fun.name) own) in
      sym (number_same f.function one f_there.1) ∙ ap (λ (h : CFun). h.function) same ∙ number_same g.function other g_there.1

  -- no two functions have one image
  pub images_apart : (one other place : ℕ) → (first_images whole modules).functions one ≡ Some place → (first_images whole modules).functions other ≡ Some place → one ≡ other
  images_apart one other place first second = images_by one other place (function_with one program.functions) (function_with other program.functions) refl refl first second

  -- ---- static objects

  module _ (ordered : StandUnitByUnit program) where
    pub static_agrees : (number : ℕ) (at : Ptr) → slot_of (first_statics program) number ≡ Some at → StaticAgrees s (first_images whole modules) number at
    static_agrees number at found =
        let it = block_is whole bodies is program.objects 0 number at (λ o there. there) found in
        let one = it.one in
        let low = it.high in
        let statics = statics_are whole bodies count ordered (λ o there. object_unit whole is bodies o there) in
        record {
          path = record { home = module_of whole one.unit; name = name_in whole one.unit (an_object one.object) };
          path_is =
              ap (λ n. object_path whole (object_with n program.objects)) (sym it.number_is) ∙ ap (object_path whole) (object_there whole is one it.among)
              ∙ ap (λ (p : Option CPuts). path_if (is_some p) (record { home = module_of whole one.unit; name = name_in whole one.unit (an_object one.object) })) it.puts_are;
          home = record { block = at.block; ty = rust_type (types_of whole) one.type };
          home_is =
              ap (λ (all : List OwnStatic). static_from 0 (module_of whole one.unit) (name_in whole one.unit (an_object one.object)) all) statics ∙ it.home_is;
          image = number_at 0 (length (statics_in program.objects)) at.block (omega (arith, low)) ∙ ap Some (let e : 0 + at.block ≡ at.block = omega arith in e);
        }

    pub program_agrees : ProgramAgrees s (first_images whole modules)
    program_agrees = record {
      functions = function_agrees;
      others = λ number found. ap (λ f. function_image modules (function_path whole f)) found;
      statics = static_agrees;
      bytes = refl;
    }

-- ---- in the crate that is written

pub crate_agrees : (whole : NamedProgram) (shape : ShapeOf) → IsNamed whole → StandUnitByUnit whole.program →
    ProgramAgrees (setting_of whole shape (first_statics whole.program)) (first_images whole (modules_of whole shape))
crate_agrees whole shape is ordered =
    subst (λ (modules : List ModuleTree). ProgramAgrees (setting_with whole modules (first_statics whole.program)) (first_images whole modules)) (sym (modules_are whole shape))
    (program_agrees whole is (written_bodies whole shape) ordered)

pub crate_images_apart : (whole : NamedProgram) (shape : ShapeOf) → IsNamed whole → (one other place : ℕ) → (first_images whole (modules_of whole shape)).functions one ≡ Some place →
    (first_images whole (modules_of whole shape)).functions other ≡ Some place → one ≡ other
crate_images_apart whole shape is =
    subst (λ (modules : List ModuleTree). (one other place : ℕ) → (first_images whole modules).functions one ≡ Some place → (first_images whole modules).functions other ≡ Some place → one ≡ other)
    (sym (modules_are whole shape)) (images_apart whole is (written_bodies whole shape))
