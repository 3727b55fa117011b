use Rattle.std.proofs.Common.{◌≡◌, ◌<◌, ◌≤◌, ◌+◌, List, ℕ, length, get_or, map, drop, ap, arith, subst, sym, ◌∙◌}
use Rattle.std.proofs.lemmas.Bool.Decides.{nat_tests}
use Rattle.std.proofs.lemmas.List.{drop_all}
use Rattle.cx_core.specs.Views.{view_program}
use Rattle.rs_items.specs.Known.{view_names}
use Rattle.rs_items_sets.specs.Sets.{TakenNames}
use Rattle.whole_given.specs.Told.{taken_more}
use Rattle.whole_keys.specs.Views.{view_key}
use Rattle.whole_keys.specs.declared.key.NameKey.{NameKey}
use Rattle.whole_keys.specs.declared.key.NameKey.TheVariants.{Function}
use Rattle.whole_known.proofs.Declared.{step_at, takes_more}
use Rattle.whole_known.specs.Modules.{TakesNames, names_taken}
use Rattle.whole_known.proofs.externals.take_names.Goals as goal

pub loop-one-preserved : goal.loop-one-preserved
loop-one-preserved c =
    let program = view_program c.args.whole.now.0 in
    let start = view_names c.args.names.now in
    let old = view_names c.loop-one.names in
    let new = view_names c.take_name.new.names in
    let keys = c.args.keys.now in
    let index = c.loop-one.one-index in
    let key = get_or keys index (Function 0) in
    let test = c.loop-one-test.true in
    let low : index < length keys = grind (arith, nat_tests, test) in
    let step = c.in_ok-take_name.ensures in
    let taken = ap (λ (t : TakenNames). t.module_names) step.taken_are in
    record {
      taken = subst (λ (names : List (List ℕ)). TakesNames start new names) (sym taken)
          (takes_more start old new old.taken.module_names (taken_more program old.taken.module_names (view_key key)) c.loop-one.invariant.taken step);
      all = ap (λ (names : List (List ℕ)). names_taken program names (map view_key (drop (index + 1) keys))) taken
          ∙ sym (ap (λ (list : List NameKey). names_taken program old.taken.module_names (map view_key list)) (step_at keys index (Function 0) low)) ∙ c.loop-one.invariant.all;
    }

pub returns : goal.returns
returns c =
    let program = view_program c.args.whole.now.0 in
    let names = (view_names c.loop-one.names).taken.module_names in
    let test = c.loop-one-test.false in
    let end : length c.args.keys.now ≤ c.loop-one.one-index = grind (arith, nat_tests, test) in
    let all = sym (ap (λ (list : List NameKey). names_taken program names (map view_key list)) (drop_all c.loop-one.one-index c.args.keys.now end)) ∙ c.loop-one.invariant.all in
    subst (λ (list : List (List ℕ)). TakesNames (view_names c.args.names.now) (view_names c.loop-one.names) list) all c.loop-one.invariant.taken
