-- What two pointers point to, where they go together.
use Rattle.std.proofs.Common.{rules, ◌≡◌, refl, Bool, true, false}
use Rattle.std.specs.Prelude.{Option, None, Some, is_none, ◌&&◌, ◌||◌}
use Rattle.cx_core.specs.Trees.{CTy, CTypes}
use Rattle.cx_rules.specs.Meanings.{pointer_to_both, unqualified_composite}
use Rattle.cx_rules.specs.Pairs.{void_beside}
use Rattle.cx_rules.specs.Types.{point_alike, both_targets, alike, target_of, target_is_void, target_is_object, void_type}

both_there : (join : CTy → CTy → CTy) (test : CTy → CTy → Bool) (first second : Option CTy) → both_targets test first second ≡ true
    → is_none (pointer_to_both join first second) ≡ false
both_there join test (Some first) (Some second) is = refl
both_there join test (Some first) None is = cc
both_there join test None second is = cc

pub targets_are_there : (types : CTypes) (first second : CTy) → point_alike types first second ≡ true
    → is_none (pointer_to_both unqualified_composite (target_of first) (target_of second)) ≡ false
targets_are_there types first second is = both_there unqualified_composite (alike types) (target_of first) (target_of second) is

either_there : (join : CTy → CTy → CTy) (first second : Option CTy)
    → ((target_is_void first && target_is_object second) || (target_is_void second && target_is_object first)) ≡ true
    → is_none (pointer_to_both join first second) ≡ false
either_there join (Some first) (Some second) is = refl
either_there join (Some first) None is = search rules
either_there join None second is = search rules

pub void_targets_are_there : (first second : CTy) → (void_beside first second || void_beside second first) ≡ true
    → is_none (pointer_to_both (λ _ _. void_type) (target_of first) (target_of second)) ≡ false
void_targets_are_there first second is = either_there (λ _ _. void_type) (target_of first) (target_of second) is
