-- Where a choice of a head stands in nests, the text names `current_block`.
use Rattle.std.proofs.Common.{◌≡◌, ◌⊎◌, inl, inr, ℕ, zero, suc, ◌+◌, ◌<◌, Bool, true, false, List, [], ◌∷◌, if◌then◌else◌, arith, refl, ap}
use Rattle.reloop.specs.Graphs.{is_in}
use Rattle.rs_text.specs.Tree.{Stmt, Stmts}
use Rattle.flow.specs.Flows.{FlowTree, node_at, targets_of}
use Rattle.emit_rules.specs.Bodies.{arm_stmts, nest_stmts, chain_stmts, arms_stmts, draft_of}
use Rattle.emit_rules.specs.Jumps.{Jumps, no_jumps, told, goes_to, jumps_before, jumps_within}
use Rattle.emit_rules.specs.Nests.{Nest, single, choice, group, repeated, dispatched, Chain, no_nests, more_nests, Chains, no_chains, more_chains, chain_entries, chain_is_told}
use Rattle.emit_rules.specs.Texts.{one_stmt, choice_stmts, loop_of}
use Rattle.emit_laws.specs.Counts.{one_if, count_of, stmt_uses}
use Rattle.emit_laws.specs.Covers.{Nodes, nowhere, with_nodes, either_of, CoversNest, CoversChain, CoverArms}
use Rattle.emit_laws.specs.LawsShape.{block_name}
use Rattle.emit_laws.proofs.Counting.{texts_count, node_counts, block_counts, arms_long}
use Rattle.emit_laws.proofs.Turns.{same_label}
use Rattle.emit_laws.proofs.Weights.{nest_weight, chain_weight, chains_weight}

abbrev uses : Stmt → Bool
uses = stmt_uses block_name

abbrev weight_of : Nest → ℕ
weight_of = nest_weight (λ node. 0) (λ heads. 1) 0 (λ heads. 0)

abbrev pub choices_in : Chain → ℕ
choices_in = chain_weight (λ node. 0) (λ heads. 1) 0 (λ heads. 0)

abbrev weight_of_arms : Chains → ℕ
weight_of_arms = chains_weight (λ node. 0) (λ heads. 1) 0 (λ heads. 0)

some_of : (a b : ℕ) → 0 < a + b → (0 < a) ⊎ (0 < b)
some_of zero b some = inr (omega (arith, some))
some_of (suc a) b some = inl (omega arith)

either_some : (a b c : ℕ) → 0 < a + b → (0 < a → 0 < c) → (0 < b → 0 < c) → 0 < c
either_some a b c some one other = by_side (some_of a b some)
  where
    by_side : (0 < a) ⊎ (0 < b) → 0 < c
    by_side (inl first) = one first
    by_side (inr second) = other second

told_more : (is_told : Bool) (node : ℕ) (text : Stmts) → 0 < count_of uses text → 0 < count_of uses (told is_told node text)
told_more true node text some = omega (arith, some)
told_more false node text some = some

choice_uses : (heads : List ℕ) (texts : List Stmts) → 0 < count_of uses (choice_stmts heads texts)
choice_uses heads texts = let one = ap one_if (same_label block_name) in omega (arith, one)

loop_uses : (label : ℕ) (body : Stmts) → 0 < count_of uses body → 0 < count_of uses (one_stmt (loop_of label body))
loop_uses label body some = omega (arith, some)

module _ (flow : FlowTree) where
  arm_uses : (inner : Chain) (target label : ℕ) (jumps : Jumps) → (is_in target (chain_entries inner) ≡ true → 0 < choices_in inner → 0 < count_of uses (chain_stmts flow inner label jumps)) →
      (is_in target (chain_entries inner) ≡ false → inner ≡ no_nests) → 0 < choices_in inner → 0 < count_of uses (arm_stmts jumps target inner (chain_stmts flow inner label jumps))
  arm_uses inner target label jumps held empty some = by_test (is_in target (chain_entries inner)) refl
    where
      by_test : (test : Bool) → is_in target (chain_entries inner) ≡ test →
          0 < count_of uses (if test then told (chain_is_told inner) target (chain_stmts flow inner label jumps) else goes_to jumps target)
      by_test true same = told_more (chain_is_told inner) target (chain_stmts flow inner label jumps) (held same some)
      by_test false same = absurd (let none = ap choices_in (empty same) in omega (arith, none, some))

  mutual
    nest_uses : (nest : Nest) (ahead known : Nodes) → CoversNest flow chain_entries ahead known nest → (label : ℕ) (jumps : Jumps) → 0 < weight_of nest → 0 < count_of uses (nest_stmts flow nest label jumps)
    nest_uses (single node arms) ahead known covers label jumps some =
        let texts = arms_use arms (either_of ahead known) ahead known (targets_of flow node) covers.1 label jumps (omega (arith, some)) in
        let long = arms_long uses flow (either_of ahead known) ahead known arms label jumps (targets_of flow node) covers.1 in
        let all = (node_counts uses (λ last. 0) (node_at flow node) (arms_stmts flow arms label jumps (targets_of flow node)) long).is in
        omega (arith, texts, all)
    nest_uses (choice heads arms) ahead known covers label jumps some = choice_uses heads (arms_stmts flow arms label jumps heads)
    nest_uses (group members) ahead known covers label jumps some = chain_uses members ahead known covers label jumps some
    nest_uses (repeated head body) ahead known covers label jumps some =
        loop_uses label (chain_stmts flow body (suc label) (jumps_within label (head ∷ []) (chain_is_told body) jumps))
        (chain_uses body nowhere (with_nodes (head ∷ []) (either_of ahead known)) covers.1 (suc label) (jumps_within label (head ∷ []) (chain_is_told body) jumps) (omega (arith, some)))
    nest_uses (dispatched heads body) ahead known covers label jumps some =
        loop_uses label (chain_stmts flow body (suc label) (jumps_within label heads (chain_is_told body) jumps))
        (chain_uses body nowhere (with_nodes heads (either_of ahead known)) covers.1 (suc label) (jumps_within label heads (chain_is_told body) jumps) (omega (arith, some)))

    chain_uses : (nests : Chain) (ahead known : Nodes) → CoversChain flow chain_entries ahead known nests → (label : ℕ) (jumps : Jumps) → 0 < choices_in nests → 0 < count_of uses (chain_stmts flow nests label jumps)
    chain_uses no_nests ahead known covers label jumps some = absurd (omega (arith, some))
    chain_uses (more_nests first no_nests) ahead known covers label jumps some = nest_uses first (with_nodes [] ahead) known covers.0 label jumps (omega (arith, some))
    chain_uses (more_nests first (more_nests second others)) ahead known covers label jumps some =
        let all = (block_counts uses label (nest_stmts flow first (suc label) (jumps_before label second jumps)) (chain_stmts flow (more_nests second others) label jumps)).is in
        either_some (weight_of first) (choices_in (more_nests second others)) (count_of uses (chain_stmts flow (more_nests first (more_nests second others)) label jumps)) some
        (λ one. let has = nest_uses first (with_nodes (chain_entries (more_nests second others)) ahead) known covers.0 (suc label) (jumps_before label second jumps) one in omega (arith, all, has))
        (λ rest. let has = chain_uses (more_nests second others) ahead known covers.1 label jumps rest in omega (arith, all, has))

    arms_use : (arms : Chains) (ways ahead known : Nodes) (targets : List ℕ) → CoverArms flow chain_entries ways ahead known arms targets → (label : ℕ) (jumps : Jumps) → 0 < weight_of_arms arms →
        0 < texts_count uses (arms_stmts flow arms label jumps targets)
    arms_use no_chains ways ahead known targets cover label jumps some = absurd (omega (arith, some))
    arms_use (more_chains inner others) ways ahead known [] cover label jumps some = elim cover [ ]
    arms_use (more_chains inner others) ways ahead known (target ∷ targets) cover label jumps some =
        either_some (choices_in inner) (weight_of_arms others) (texts_count uses (arms_stmts flow (more_chains inner others) label jumps (target ∷ targets))) some
        (λ one. let has = arm_uses inner target label jumps (λ held. chain_uses inner ahead known (cover.0 held) label jumps) (λ none. (cover.1 none).0) one in omega (arith, has))
        (λ rest. let has = arms_use others ways ahead known targets cover.2 label jumps rest in omega (arith, has))

  pub draft_uses : (nests : Chain) → CoversChain flow chain_entries nowhere nowhere nests → 0 < choices_in nests → 0 < count_of uses (draft_of flow nests)
  draft_uses nests covers some = told_more (chain_is_told nests) flow.entry (chain_stmts flow nests 0 no_jumps) (chain_uses nests nowhere nowhere covers 0 no_jumps some)
