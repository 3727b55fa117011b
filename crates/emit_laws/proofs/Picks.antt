-- What stands at a target is told by the target.
use Rattle.std.proofs.Common.{◌≡◌, ◌∙◌, ℕ, ◌==◌, Bool, true, false, ◌||◌, ℤ, pos, negsuc, List, [], ◌∷◌, map, if◌then◌else◌, refl, sym, ap, subst}
use Rattle.std.specs.Ordering.{int_eq}
use Rattle.std.proofs.lemmas.Bool.Decides.{Decides-int_eq}
use Rattle.cr_runs.specs.Runs.{Ran, bind}
use Rattle.cr_world.specs.World.{World, Stop}
use Rattle.rs_mean.specs.declared.cause.Cause.{Cause}
use Rattle.mem_bytes.specs.declared.value.Value.TheVariants.{Whole}
use Rattle.reloop.specs.Graphs.{is_in, IsIn}
use Rattle.reloop.proofs.Sets.{or_left, or_right, both_false, not_both, same_number, equal_itself}
use Rattle.rs_text.specs.declared.integer.IntegerTy.TheVariants.{U32}
use Rattle.rs_text.specs.Tree.{Integer, Read, Match, Stmts, no_stmts, LiteralArm, Arms, more_arms}
use Rattle.rs_mean.specs.Run.{Frame, Flow, run_arms, run_stmts, run_expr}
use Rattle.rs_mean.specs.Values.{Typed, typed}
use Rattle.rs_mean.specs.World.{Run, seq, either as one_of}
use Rattle.flow.specs.Flows.{FlowTree}
use Rattle.emit_rules.specs.Bodies.{arm_stmts, chain_stmts, arms_stmts}
use Rattle.emit_rules.specs.Jumps.{Jumps, told, goes_to, current_block}
use Rattle.emit_rules.specs.Nests.{Chain, Chains, no_chains, more_chains, chain_entries, chain_is_told}
use Rattle.emit_rules.specs.Texts.{head_arms, choice_stmts}
use Rattle.emit_laws.specs.Covers.{held_targets, AreApart}
use Rattle.emit_laws.specs.Tells.{Reads}
use Rattle.emit_laws.proofs.Branches.{AllAt}
use Rattle.emit_laws.proofs.Ifs.{run_one}

-- what stands at a target stands there by another name
pub all_at_same : (pick other : ℕ → Stmts) (texts : List Stmts) (targets : List ℕ) → ((to : ℕ) → IsIn to targets → pick to ≡ other to) → AllAt pick texts targets → AllAt other texts targets
all_at_same pick other [] [] same all = tt
all_at_same pick other (text ∷ texts) (to ∷ targets) same all =
    (all.0 ∙ same to (or_left (to == to) (is_in to targets) (equal_itself to)), all_at_same pick other texts targets (λ one there. same one (or_right (one == to) (is_in one targets) there)) all.1)
all_at_same pick other [] (to ∷ targets) same all = elim all [ ]
all_at_same pick other (text ∷ texts) [] same all = elim all [ ]

right_false : (a b : Bool) → (a || b) ≡ false → b ≡ false
right_false true b is = absurd cc
right_false false b is = is

left_false : (a b : Bool) → (a || b) ≡ false → a ≡ false
left_false true b is = absurd cc
left_false false b is = refl

right_true : (a b : Bool) → (a || b) ≡ true → a ≡ false → b ≡ true
right_true true b is none = absurd cc
right_true false b is none = is

-- a node that isn't in a list isn't one of it
apart_from : (one to : ℕ) (targets : List ℕ) → IsIn one targets → is_in to targets ≡ false → (test : Bool) → (one == to) ≡ test → test ≡ false
apart_from one to targets there none true same = not_both (is_in to targets) (subst (λ (x : ℕ). is_in x targets ≡ true) (same_number one to same) there) none
apart_from one to targets there none false same = refl

module _ (flow : FlowTree) (label : ℕ) (jumps : Jumps) where
  abbrev arm_text : ℕ → Chain → Stmts
  arm_text target inner = arm_stmts jumps target inner (chain_stmts flow inner label jumps)

  -- what stands at a target: what stands in the first arm that goes there
  abbrev pub pick : Chains → List ℕ → ℕ → Stmts
  pick no_chains targets to = goes_to jumps to
  pick (more_chains inner others) [] to = goes_to jumps to
  pick (more_chains inner others) (target ∷ targets) to = if to == target then arm_text target inner else pick others targets to

  -- where no nests stand, a way to it
  at_unheld : (arms : Chains) (targets : List ℕ) (to : ℕ) → is_in to (held_targets arms targets) ≡ false → pick arms targets to ≡ goes_to jumps to
  at_unheld no_chains targets to none = refl
  at_unheld (more_chains inner others) [] to none = refl
  at_unheld (more_chains inner others) (target ∷ targets) to none = by_arm (is_in target (chain_entries inner)) (to == target) refl refl none (at_unheld others targets to)
    where
      by_arm : (held here : Bool) → is_in target (chain_entries inner) ≡ held → (to == target) ≡ here →
          is_in to (if held then target ∷ held_targets others targets else held_targets others targets) ≡ false →
          (is_in to (held_targets others targets) ≡ false → pick others targets to ≡ goes_to jumps to) →
          (if here then (if held then told (chain_is_told inner) target (chain_stmts flow inner label jumps) else goes_to jumps target) else pick others targets to) ≡ goes_to jumps to
      by_arm true true is same none later = not_both ((to == target) || is_in to (held_targets others targets)) (or_left (to == target) (is_in to (held_targets others targets)) same) none
      by_arm true false is same none later = later (right_false (to == target) (is_in to (held_targets others targets)) none)
      by_arm false true is same none later = ap (goes_to jumps) (sym (same_number to target same))
      by_arm false false is same none later = later none

  -- so it is with each arm
  pub arms_at : (arms : Chains) (targets : List ℕ) → AreApart arms targets → AllAt (pick arms targets) (arms_stmts flow arms label jumps targets) targets
  arms_at no_chains [] apart = tt
  arms_at no_chains (target ∷ targets) apart = (refl, arms_at no_chains targets tt)
  arms_at (more_chains inner others) [] apart = tt
  arms_at (more_chains inner others) (target ∷ targets) apart = (
    sym (ap (λ (here : Bool). if here then arm_text target inner else pick others targets target) (equal_itself target)),
    all_at_same (pick others targets) (pick (more_chains inner others) (target ∷ targets)) (arms_stmts flow others label jumps targets) targets same_at (arms_at others targets apart.2),
  )
    where
      unheld : (held : Bool) → is_in target (chain_entries inner) ≡ held → IsIn target targets →
          (if held then told (chain_is_told inner) target (chain_stmts flow inner label jumps) else goes_to jumps target) ≡ goes_to jumps target
      unheld true is there = not_both (is_in target targets) there (apart.0 is)
      unheld false is there = refl

      by_test : (to : ℕ) (here : Bool) → (to == target) ≡ here → IsIn to targets → pick others targets to ≡ (if here then arm_text target inner else pick others targets to)
      by_test to false same there = refl
      by_test to true same there =
          let there_too : IsIn target targets = subst (λ (x : ℕ). is_in x targets ≡ true) (same_number to target same) there in
          ap (pick others targets) (same_number to target same) ∙ at_unheld others targets target apart.1 ∙ sym (unheld (is_in target (chain_entries inner)) refl there_too)

      same_at : (to : ℕ) → IsIn to targets → pick others targets to ≡ pick (more_chains inner others) (target ∷ targets) to
      same_at to there = by_test to (to == target) refl there

  -- ---- a choice

  module _ (frame : Frame) (to : ℕ) where
    abbrev skip : Run Flow
    skip = run_stmts frame no_stmts

    abbrev told_value : Typed
    told_value = typed (Integer U32) (Whole (pos to))

    arm_tested : (head : ℕ) (here : Bool) → (to == head) ≡ here → int_eq (pos to) (pos head) ≡ here
    arm_tested head true same = (Decides-int_eq (pos to) (pos head)).1 (ap pos (same_number to head same))
    arm_tested head false differ = by_test (int_eq (pos to) (pos head)) refl
      where
        number_of : ℤ → ℕ
        number_of (pos n) = n
        number_of (negsuc n) = n

        by_test : (test : Bool) → int_eq (pos to) (pos head) ≡ test → test ≡ false
        by_test false is = refl
        by_test true is =
            let same : to ≡ head = ap number_of ((Decides-int_eq (pos to) (pos head)).0 is) in
            not_both (to == head) (subst (λ (x : ℕ). (to == x) ≡ true) same (equal_itself to)) differ

    -- one head, and the others
    head_runs : (head : ℕ) (text : Stmts) (earlier heads : List ℕ) (texts : List Stmts) (picked : Stmts) → is_in to earlier ≡ false →
        ((later : List ℕ) → is_in to later ≡ false → (to == head) ≡ false → run_arms frame told_value (head_arms later heads texts) skip ≡ run_stmts frame picked) →
        (gone here : Bool) → is_in head earlier ≡ gone → (to == head) ≡ here →
        run_arms frame told_value (if gone then head_arms earlier heads texts else more_arms (LiteralArm (pos head) U32 text) (head_arms (head ∷ earlier) heads texts)) skip
        ≡ run_stmts frame (if here then text else picked)
    head_runs head text earlier heads texts picked none later true true gone same = not_both (is_in to earlier) (subst (λ (x : ℕ). is_in x earlier ≡ true) (sym (same_number to head same)) gone) none
    head_runs head text earlier heads texts picked none later true false gone same = later earlier none same
    head_runs head text earlier heads texts picked none later false true gone same =
        ap (λ (here : Bool). one_of here (run_stmts frame text) (run_arms frame told_value (head_arms (head ∷ earlier) heads texts) skip)) (arm_tested head true same)
    head_runs head text earlier heads texts picked none later false false gone same =
        ap (λ (here : Bool). one_of here (run_stmts frame text) (run_arms frame told_value (head_arms (head ∷ earlier) heads texts) skip)) (arm_tested head false same)
        ∙ later (head ∷ earlier) (both_false (to == head) (is_in to earlier) same none) same

    -- the arms of heads are gone through for the head that is told
    heads_run : (arms : Chains) (earlier heads : List ℕ) → is_in to earlier ≡ false → IsIn to heads →
        run_arms frame told_value (head_arms earlier heads (arms_stmts flow arms label jumps heads)) skip ≡ run_stmts frame (pick arms heads to)
    heads_run arms earlier [] none there = absurd cc
    heads_run no_chains earlier (head ∷ heads) none there =
        head_runs head (goes_to jumps head) earlier heads (map (goes_to jumps) heads) (goes_to jumps to) none
        (λ later gone differ. heads_run no_chains later heads gone (right_true (to == head) (is_in to heads) there differ)) (is_in head earlier) (to == head) refl refl
        ∙ ap (run_stmts frame) (by_test (to == head) refl)
      where
        by_test : (here : Bool) → (to == head) ≡ here → (if here then goes_to jumps head else goes_to jumps to) ≡ goes_to jumps to
        by_test true same = ap (goes_to jumps) (sym (same_number to head same))
        by_test false same = refl
    heads_run (more_chains inner others) earlier (head ∷ heads) none there =
        head_runs head (arm_text head inner) earlier heads (arms_stmts flow others label jumps heads) (pick others heads to) none
        (λ later gone differ. heads_run others later heads gone (right_true (to == head) (is_in to heads) there differ)) (is_in head earlier) (to == head) refl refl

    abbrev by_arms : Arms → Run Flow
    by_arms cases = seq (run_expr frame (Read current_block)) (λ value. run_arms frame value cases skip)

    told_runs : {B : Type 0} (next : Flow → Run B) (world : World) (cases : Arms) → Reads frame world to → (units : ℕ) →
        seq (by_arms cases) next world units ≡ seq (run_arms frame told_value cases skip) next world units
    unfolding seq
    told_runs next world cases reads units = ap (λ (run : Ran (Stop Cause) World Typed). bind (bind run (λ value. run_arms frame value cases skip)) next) (reads units)

    pub choice_runs : {B : Type 0} (next : Flow → Run B) (arms : Chains) (heads : List ℕ) (world : World) → IsIn to heads → Reads frame world to → (units : ℕ) →
        seq (run_stmts frame (choice_stmts heads (arms_stmts flow arms label jumps heads))) next world units ≡ seq (run_stmts frame (pick arms heads to)) next world units
    choice_runs next arms heads world there reads units =
        let cases = head_arms [] heads (arms_stmts flow arms label jumps heads) in
        ap (λ (run : Run Flow). seq run next world units) (run_one frame (Match (Read current_block) cases no_stmts))
        ∙ told_runs next world cases reads units
        ∙ ap (λ (run : Run Flow). seq run next world units) (heads_run arms [] heads refl there)
