-- How many statements of a kind stand in the text of nests.
use Rattle.std.proofs.Common.{◌≡◌, ◌∙◌, ℕ, suc, ◌+◌, Bool, true, false, List, [], ◌∷◌, ◌++◌, map, length, Option, Some, None, if◌then◌else◌, arith, refl, sym, ap}
use Rattle.std.specs.Prelude.{⊤}
use Rattle.reloop.specs.Graphs.{is_in}
use Rattle.rs_text.specs.declared.integer.IntegerTy.{IntegerTy}
use Rattle.rs_text.specs.Tree.{Expr, Stmt, Assign, Eval, CopyBytes, If, Loop, Block, Break, Continue, Match, Return, Stmts, no_stmts, more_stmts, LiteralArm, Arms, no_arms, more_arms}
use Rattle.rs_mean.specs.Laws.{behind}
use Rattle.rs_mean_ends.specs.Ways.{goes, stmts_end, stmts_name}
use Rattle.flow.specs.Flows.{CaseTree, BranchTree, go, if_test, switch, gives, NodeTree, FlowTree, node_at, case_targets, targets, targets_in, targets_of}
use Rattle.emit_rules.specs.Bodies.{node_stmts, arm_stmts, nest_stmts, chain_stmts, arms_stmts, draft_of, without_return, without_last_return}
use Rattle.emit_rules.specs.Jumps.{Jump, Jumps, no_jumps, label_of, told, leaves, jump_stmts, goes_to, jumps_before, jumps_within}
use Rattle.emit_rules.specs.Labels.{numbered_stmt, numbered, numbered_arms}
use Rattle.emit_rules.specs.Nests.{Nest, single, choice, group, repeated, dispatched, Chain, no_nests, more_nests, Chains, no_chains, more_chains, chain_entries, chain_is_told}
use Rattle.emit_rules.specs.Texts.{one_stmt, negated, if_of, case_arms, other_text, branch_stmts, block_then, loop_of}
use Rattle.emit_laws.specs.Counts.{one_if, stmt_count, count_of, arms_count}
use Rattle.emit_laws.specs.Covers.{Nodes, nowhere, with_nodes, either_of, CoversNest, CoversChain, CoverArms}
use Rattle.emit_laws.proofs.Keeping.{NestAsked, ChainAsked, ChainsAsked, JumpsTell, chain_tells, tell_before, tell_within}
use Rattle.emit_laws.proofs.Weights.{nest_weight, chain_weight, chains_weight}

-- a count of which some is said
pub record IsMore (count least : ℕ) (Exact : ℕ → Type 0) : Type 0 where
  pub own : ℕ
  pub is : count ≡ own + least
  pub exact : Exact own

module _ (is : Stmt → Bool) where
  abbrev count : Stmts → ℕ
  count = count_of is

  pub behind_counts : (first others : Stmts) → count (behind first others) ≡ count first + count others
  behind_counts no_stmts others = omega arith
  behind_counts (more_stmts s ss) others = let rest = behind_counts ss others in omega (arith, rest)

  abbrev pub texts_count : List Stmts → ℕ
  texts_count [] = 0
  texts_count (text ∷ texts) = count text + texts_count texts

  -- ---- branches

  -- an `if` isn't of the kind, with a condition or its opposite
  abbrev pub NoIf : Expr → Type 0
  NoIf condition = ((a b : Stmts) → is (If condition a b) ≡ false) × ((a b : Stmts) → is (If (negated condition) a b) ≡ false)

  none_of : (test : Bool) → test ≡ false → one_if test ≡ 0
  none_of true is = absurd cc
  none_of false is = refl

  if_counts : (condition : Expr) (a b : Stmts) → IsMore (count (if_of condition a b)) (count a + count b) (λ own. NoIf condition → own ≡ 0)
  if_counts condition no_stmts no_stmts = record { own = one_if (is (If condition no_stmts no_stmts)); is = omega arith; exact = λ no. none_of (is (If condition no_stmts no_stmts)) (no.0 no_stmts no_stmts) }
  if_counts condition no_stmts (more_stmts s ss) =
      record { own = one_if (is (If (negated condition) (more_stmts s ss) no_stmts)); is = omega arith; exact = λ no. none_of (is (If (negated condition) (more_stmts s ss) no_stmts)) (no.1 (more_stmts s ss) no_stmts) }
  if_counts condition (more_stmts s ss) no_stmts =
      record { own = one_if (is (If condition (more_stmts s ss) no_stmts)); is = omega arith; exact = λ no. none_of (is (If condition (more_stmts s ss) no_stmts)) (no.0 (more_stmts s ss) no_stmts) }
  if_counts condition (more_stmts s ss) (more_stmts t ts) = by_ends (stmts_end (more_stmts s ss) goes) (stmts_end (more_stmts t ts) goes)
    where
      by_ends : (first second : Bool) →
          IsMore (count (if first then (if second then one_stmt (If condition (more_stmts s ss) (more_stmts t ts)) else more_stmts (If (negated condition) (more_stmts t ts) no_stmts) (more_stmts s ss))
          else more_stmts (If condition (more_stmts s ss) no_stmts) (more_stmts t ts))) (count (more_stmts s ss) + count (more_stmts t ts)) (λ own. NoIf condition → own ≡ 0)
      by_ends true true =
          record { own = one_if (is (If condition (more_stmts s ss) (more_stmts t ts))); is = omega arith; exact = λ no. none_of (is (If condition (more_stmts s ss) (more_stmts t ts))) (no.0 (more_stmts s ss) (more_stmts t ts)) }
      by_ends true false =
          record { own = one_if (is (If (negated condition) (more_stmts t ts) no_stmts)); is = omega arith; exact = λ no. none_of (is (If (negated condition) (more_stmts t ts) no_stmts)) (no.1 (more_stmts t ts) no_stmts) }
      by_ends false second =
          record { own = one_if (is (If condition (more_stmts s ss) no_stmts)); is = omega arith; exact = λ no. none_of (is (If condition (more_stmts s ss) no_stmts)) (no.0 (more_stmts s ss) no_stmts) }

  cases_count : (by : IntegerTy) (cases : List CaseTree) (other : ℕ) (texts : List Stmts) → length texts ≡ length (case_targets cases ++ other ∷ []) →
      arms_count is (case_arms by cases texts) + count (other_text cases texts) ≡ texts_count texts
  cases_count by [] other [] long = absurd (omega (arith, long))
  cases_count by [] other (text ∷ []) long = omega arith
  cases_count by [] other (text ∷ second ∷ texts) long = absurd (omega (arith, long))
  cases_count by (one ∷ others) other [] long = absurd (omega (arith, long))
  cases_count by (one ∷ others) other (text ∷ texts) long = let rest = cases_count by others other texts (omega (arith, long)) in omega (arith, rest)

  module _ (of_branch : BranchTree → ℕ) where
    -- a branch is of the kind itself so often
    abbrev pub BranchIs : BranchTree → Type 0
    BranchIs (go to) = of_branch (go to) ≡ 0
    BranchIs (if_test test if_true if_false) = NoIf test × (of_branch (if_test test if_true if_false) ≡ 0)
    BranchIs (switch choices) = (cases : Arms) (other : Stmts) → one_if (is (Match choices.on cases other)) ≡ of_branch (switch choices)
    BranchIs (gives value) = one_if (is (Return value)) ≡ of_branch (gives value)

    branch_counts : (last : BranchTree) (texts : List Stmts) → length texts ≡ length (targets last) → IsMore (count (branch_stmts last texts)) (texts_count texts) (λ own. BranchIs last → own ≡ of_branch last)
    branch_counts (go to) [] long = absurd (omega (arith, long))
    branch_counts (go to) (text ∷ []) long = record { own = 0; is = omega arith; exact = λ none. sym none }
    branch_counts (go to) (text ∷ second ∷ texts) long = absurd (omega (arith, long))
    branch_counts (if_test test if_true if_false) [] long = absurd (omega (arith, long))
    branch_counts (if_test test if_true if_false) (text ∷ []) long = absurd (omega (arith, long))
    branch_counts (if_test test if_true if_false) (text ∷ second ∷ []) long =
        let both = if_counts test text second in
        record { own = both.own; is = let same = both.is in omega (arith, same); exact = λ facts. both.exact facts.0 ∙ sym facts.1 }
    branch_counts (if_test test if_true if_false) (text ∷ second ∷ third ∷ texts) long = absurd (omega (arith, long))
    branch_counts (switch choices) texts long = record {
      own = one_if (is (Match choices.on (case_arms choices.by choices.cases texts) (other_text choices.cases texts)));
      is = let all = cases_count choices.by choices.cases choices.other texts long in omega (arith, all);
      exact = λ facts. facts (case_arms choices.by choices.cases texts) (other_text choices.cases texts);
    }
    branch_counts (gives value) [] long = record { own = one_if (is (Return value)); is = omega arith; exact = λ facts. facts }
    branch_counts (gives value) (text ∷ texts) long = absurd (omega (arith, long))

    abbrev pub found_count : Option NodeTree → ℕ
    found_count None = 0
    found_count (Some node) = of_branch node.last

    -- what is so of a node: its statements are without the kind
    abbrev pub FoundIs : Option NodeTree → Type 0
    FoundIs None = ⊤
    FoundIs (Some node) = (count node.body ≡ 0) × BranchIs node.last

    pub node_counts : (found : Option NodeTree) (texts : List Stmts) → length texts ≡ length (targets_in found) → IsMore (count (node_stmts found texts)) (texts_count texts) (λ own. FoundIs found → own ≡ found_count found)
    node_counts None [] long = record { own = 0; is = refl; exact = λ facts. refl }
    node_counts None (text ∷ texts) long = absurd (omega (arith, long))
    node_counts (Some node) texts long =
        let branch = branch_counts node.last texts long in
        record {
          own = count node.body + branch.own;
          is = let both = behind_counts node.body (branch_stmts node.last texts) in let same = branch.is in omega (arith, both, same);
          exact = λ facts. let own = branch.exact facts.1 in let none = facts.0 in omega (arith, own, none);
        }

  -- ---- blocks and loops

  pub block_counts : (label : ℕ) (body rest : Stmts) → IsMore (count (block_then label body rest)) (count body + count rest) (λ own. ((name : List ℕ) (ss : Stmts) → is (Block name ss) ≡ false) → own ≡ 0)
  block_counts label body rest = by_name (stmts_name (label_of label) body)
    where
      by_name : (named : Bool) → IsMore (count (if named then more_stmts (Block (label_of label) body) rest else behind body rest)) (count body + count rest)
          (λ own. ((name : List ℕ) (ss : Stmts) → is (Block name ss) ≡ false) → own ≡ 0)
      by_name true = record { own = one_if (is (Block (label_of label) body)); is = omega arith; exact = λ no. none_of (is (Block (label_of label) body)) (no (label_of label) body) }
      by_name false = record { own = 0; is = let both = behind_counts body rest in omega (arith, both); exact = λ no. refl }

  pub arms_long : (flow : FlowTree) (ways ahead known : Nodes) (arms : Chains) (label : ℕ) (jumps : Jumps) (nodes : List ℕ) → CoverArms flow chain_entries ways ahead known arms nodes →
      length (arms_stmts flow arms label jumps nodes) ≡ length nodes
  arms_long flow ways ahead known no_chains label jumps nodes cover = length_map (goes_to jumps) nodes
    where
      length_map : (f : ℕ → Stmts) (list : List ℕ) → length (map f list) ≡ length list
      length_map f [] = refl
      length_map f (node ∷ others) = ap suc (length_map f others)
  arms_long flow ways ahead known (more_chains inner others) label jumps [] cover = elim cover [ ]
  arms_long flow ways ahead known (more_chains inner others) label jumps (target ∷ nodes) cover = ap suc (arms_long flow ways ahead known others label jumps nodes cover.2)

  -- ---- labels by depth, and a last `return;`

  module _ (named : (around : List (List ℕ)) (s : Stmt) → is (numbered_stmt around s) ≡ is s) where
    mutual
      stmt_numbered : (around : List (List ℕ)) (s : Stmt) → stmt_count is (numbered_stmt around s) ≡ stmt_count is s
      stmt_numbered around (Assign p e) = refl
      stmt_numbered around (Eval e) = refl
      stmt_numbered around (CopyBytes source target count) = refl
      stmt_numbered around (If condition if_true if_false) =
          let one = count_numbered around if_true in let other = count_numbered around if_false in let own = ap one_if (named around (If condition if_true if_false)) in omega (arith, one, other, own)
      stmt_numbered around (Loop None body) = let one = count_numbered around body in let own = ap one_if (named around (Loop None body)) in omega (arith, one, own)
      stmt_numbered around (Loop (Some label) body) = let one = count_numbered (label ∷ around) body in let own = ap one_if (named around (Loop (Some label) body)) in omega (arith, one, own)
      stmt_numbered around (Block label body) = let one = count_numbered (label ∷ around) body in let own = ap one_if (named around (Block label body)) in omega (arith, one, own)
      stmt_numbered around (Break label) = ap one_if (named around (Break label))
      stmt_numbered around (Continue label) = ap one_if (named around (Continue label))
      stmt_numbered around (Match e cases other) =
          let one = arms_numbered around cases in let rest = count_numbered around other in let own = ap one_if (named around (Match e cases other)) in omega (arith, one, rest, own)
      stmt_numbered around (Return value) = refl

      pub count_numbered : (around : List (List ℕ)) (ss : Stmts) → count_of is (numbered around ss) ≡ count_of is ss
      count_numbered around no_stmts = refl
      count_numbered around (more_stmts s ss) = let one = stmt_numbered around s in let rest = count_numbered around ss in omega (arith, one, rest)

      arms_numbered : (around : List (List ℕ)) (cases : Arms) → arms_count is (numbered_arms around cases) ≡ arms_count is cases
      arms_numbered around no_arms = refl
      arms_numbered around (more_arms (LiteralArm value ty body) others) = let one = count_numbered around body in let rest = arms_numbered around others in omega (arith, one, rest)

  module _ (bare : is (Return None) ≡ false) where
    last_one : (s : Stmt) → count (without_return s) ≡ count (one_stmt s)
    last_one (Return None) = let none = none_of (is (Return None)) bare in omega (arith, none)
    last_one (Return (Some value)) = refl
    last_one (Assign p e) = refl
    last_one (Eval e) = refl
    last_one (CopyBytes source target count) = refl
    last_one (If condition if_true if_false) = refl
    last_one (Loop label body) = refl
    last_one (Block label body) = refl
    last_one (Break label) = refl
    last_one (Continue label) = refl
    last_one (Match e cases other) = refl

    pub count_last : (ss : Stmts) → count (without_last_return ss) ≡ count ss
    count_last no_stmts = refl
    count_last (more_stmts s no_stmts) = last_one s
    count_last (more_stmts s (more_stmts other others)) = let rest = count_last (more_stmts other others) in omega (arith, rest)

-- ---- nests without a choice of a head

-- what a kind is of the statements that are written between those of nodes: each loop is of it, or none is
pub record KindOf (is : Stmt → Bool) (round : Bool) : Type 0 where
  pub loops : (label : Option (List ℕ)) (body : Stmts) → is (Loop label body) ≡ round
  pub blocks : (label : List ℕ) (body : Stmts) → is (Block label body) ≡ false
  pub breaks : (label : List ℕ) → is (Break label) ≡ false
  pub continues : (label : List ℕ) → is (Continue label) ≡ false

module _ (flow : FlowTree) (is : Stmt → Bool) (round : Bool) (kind : KindOf is round) (of_branch : BranchTree → ℕ) (nodes : (number : ℕ) → FoundIs is of_branch (node_at flow number)) where
  abbrev none_asked : Nest → Type 0
  none_asked = NestAsked flow (λ around ss. ⊤) (λ node. ⊤) ⊥ ⊤

  abbrev none_in : Chain → Type 0
  none_in = ChainAsked flow (λ around ss. ⊤) (λ node. ⊤) ⊥ ⊤

  abbrev none_of_arms : Chains → Type 0
  none_of_arms = ChainsAsked flow (λ around ss. ⊤) (λ node. ⊤) ⊥ ⊤

  abbrev Untold : Jumps → Type 0
  Untold = JumpsTell flow (λ around ss. ⊤) (λ node. ⊤) ⊥ ⊤

  abbrev pub of_number : ℕ → ℕ
  of_number number = found_count is of_branch (node_at flow number)

  abbrev pub of_round : ℕ
  of_round = one_if round

  abbrev weight_of : Nest → ℕ
  weight_of = nest_weight of_number (λ heads. 0) of_round (λ heads. of_round)

  abbrev weight_in : Chain → ℕ
  weight_in = chain_weight of_number (λ heads. 0) of_round (λ heads. of_round)

  abbrev weight_of_arms : Chains → ℕ
  weight_of_arms = chains_weight of_number (λ heads. 0) of_round (λ heads. of_round)

  untold : (is_told : Bool) → (is_told ≡ true → ⊥) → (node : ℕ) (text : Stmts) → count_of is (told is_told node text) ≡ count_of is text
  untold true is_none node text = absurd (is_none refl)
  untold false is_none node text = refl

  leaves_count : (is_next : Bool) (jump : Jump) → count_of is (leaves is_next jump) ≡ 0
  leaves_count true jump = refl
  leaves_count false jump = by_turns jump.turns
    where
      by_turns : (turns : Bool) → count_of is (one_stmt (if turns then Continue (label_of jump.label) else Break (label_of jump.label))) ≡ 0
      by_turns true = let none = none_of is (is (Continue (label_of jump.label))) (kind.continues (label_of jump.label)) in omega (arith, none)
      by_turns false = let none = none_of is (is (Break (label_of jump.label))) (kind.breaks (label_of jump.label)) in omega (arith, none)

  goes_count : (jumps : Jumps) → Untold jumps → (node : ℕ) → count_of is (goes_to jumps node) ≡ 0
  goes_count jumps tell node = by_jump (jumps.jump node) refl
    where
      by_jump : (jump : Option Jump) → jumps.jump node ≡ jump → count_of is (jump_stmts (jumps.next node) node jump) ≡ 0
      by_jump None same = refl
      by_jump (Some jump) same = untold jump.is_told (tell node jump same) node (leaves (jumps.next node) jump) ∙ leaves_count (jumps.next node) jump

  all_go : (jumps : Jumps) → Untold jumps → (targets : List ℕ) → texts_count is (map (goes_to jumps) targets) ≡ 0
  all_go jumps tell [] = refl
  all_go jumps tell (target ∷ targets) = let one = goes_count jumps tell target in let rest = all_go jumps tell targets in omega (arith, one, rest)

  loop_counts : (label : ℕ) (body : Stmts) → count_of is (one_stmt (loop_of label body)) ≡ of_round + count_of is body
  loop_counts label body =
      let own = ap one_if (kind.loops (if stmts_name (label_of label) body then Some (label_of label) else None) body) in omega (arith, own)

  arm_counts : (inner : Chain) → none_in inner → (target : ℕ) (label : ℕ) (jumps : Jumps) → Untold jumps → (is_in target (chain_entries inner) ≡ true → count_of is (chain_stmts flow inner label jumps) ≡ weight_in inner) →
      (is_in target (chain_entries inner) ≡ false → inner ≡ no_nests) → count_of is (arm_stmts jumps target inner (chain_stmts flow inner label jumps)) ≡ weight_in inner
  arm_counts inner asked target label jumps tell held empty = by_test (is_in target (chain_entries inner)) refl
    where
      by_test : (test : Bool) → is_in target (chain_entries inner) ≡ test →
          count_of is (if test then told (chain_is_told inner) target (chain_stmts flow inner label jumps) else goes_to jumps target) ≡ weight_in inner
      by_test true same =
          untold (chain_is_told inner) (chain_tells flow (λ around ss. ⊤) (λ node. ⊤) ⊥ ⊤ inner asked) target (chain_stmts flow inner label jumps) ∙ held same
      by_test false same = goes_count jumps tell target ∙ sym (ap weight_in (empty same))

  mutual
    nest_counts : (nest : Nest) → none_asked nest → (ahead known : Nodes) → CoversNest flow chain_entries ahead known nest → (label : ℕ) (jumps : Jumps) → Untold jumps →
        count_of is (nest_stmts flow nest label jumps) ≡ weight_of nest
    nest_counts (single node arms) asked ahead known covers label jumps tell =
        let texts = arms_count_of arms asked.1 (either_of ahead known) ahead known (targets_of flow node) covers.1 label jumps tell in
        let long = arms_long is flow (either_of ahead known) ahead known arms label jumps (targets_of flow node) covers.1 in
        let all = node_counts is of_branch (node_at flow node) (arms_stmts flow arms label jumps (targets_of flow node)) long in
        let own = all.exact (nodes node) in let same = all.is in omega (arith, texts, own, same)
    nest_counts (choice heads arms) asked ahead known covers label jumps tell = elim ((asked.0).0) [ ]
    nest_counts (group members) asked ahead known covers label jumps tell = chain_counts members asked ahead known covers label jumps tell
    nest_counts (repeated head body) asked ahead known covers label jumps tell =
        let text = chain_stmts flow body (suc label) (jumps_within label (head ∷ []) (chain_is_told body) jumps) in
        let own = loop_counts label text in
        let inner = chain_counts body asked.1 nowhere (with_nodes (head ∷ []) (either_of ahead known)) covers.1 (suc label) (jumps_within label (head ∷ []) (chain_is_told body) jumps)
        (tell_within flow (λ around ss. ⊤) (λ node. ⊤) ⊥ ⊤ label (head ∷ []) (chain_is_told body) jumps tell (chain_tells flow (λ around ss. ⊤) (λ node. ⊤) ⊥ ⊤ body asked.1)) in
        omega (arith, own, inner)
    nest_counts (dispatched heads body) asked ahead known covers label jumps tell = elim ((asked.0).0) [ ]

    chain_counts : (nests : Chain) → none_in nests → (ahead known : Nodes) → CoversChain flow chain_entries ahead known nests → (label : ℕ) (jumps : Jumps) → Untold jumps →
        count_of is (chain_stmts flow nests label jumps) ≡ weight_in nests
    chain_counts no_nests asked ahead known covers label jumps tell = refl
    chain_counts (more_nests first no_nests) asked ahead known covers label jumps tell =
        let one = nest_counts first asked.0 (with_nodes [] ahead) known covers.0 label jumps tell in omega (arith, one)
    chain_counts (more_nests first (more_nests second others)) asked ahead known covers label jumps tell =
        let one = nest_counts first asked.0 (with_nodes (chain_entries (more_nests second others)) ahead) known covers.0 (suc label) (jumps_before label second jumps)
        (tell_before flow (λ around ss. ⊤) (λ node. ⊤) ⊥ ⊤ label second jumps tell (asked.1).0) in
        let rest = chain_counts (more_nests second others) asked.1 ahead known covers.1 label jumps tell in
        let all = block_counts is label (nest_stmts flow first (suc label) (jumps_before label second jumps)) (chain_stmts flow (more_nests second others) label jumps) in
        let own = all.exact kind.blocks in let same = all.is in omega (arith, one, rest, own, same)

    arms_count_of : (arms : Chains) → none_of_arms arms → (ways ahead known : Nodes) (targets : List ℕ) → CoverArms flow chain_entries ways ahead known arms targets → (label : ℕ) (jumps : Jumps) → Untold jumps →
        texts_count is (arms_stmts flow arms label jumps targets) ≡ weight_of_arms arms
    arms_count_of no_chains asked ways ahead known targets cover label jumps tell = all_go jumps tell targets
    arms_count_of (more_chains inner others) asked ways ahead known [] cover label jumps tell = elim cover [ ]
    arms_count_of (more_chains inner others) asked ways ahead known (target ∷ targets) cover label jumps tell =
        let one = arm_counts inner asked.0 target label jumps tell (λ held. chain_counts inner asked.0 ahead known (cover.0 held) label jumps tell) (λ none. (cover.1 none).0) in
        let rest = arms_count_of others asked.1 ways ahead known targets cover.2 label jumps tell in omega (arith, one, rest)

  no_told : Untold no_jumps
  no_told node jump same = absurd cc

  pub draft_counts : (nests : Chain) → none_in nests → CoversChain flow chain_entries nowhere nowhere nests → count_of is (draft_of flow nests) ≡ weight_in nests
  draft_counts nests asked covers =
      untold (chain_is_told nests) (chain_tells flow (λ around ss. ⊤) (λ node. ⊤) ⊥ ⊤ nests asked) flow.entry (chain_stmts flow nests 0 no_jumps) ∙ chain_counts nests asked nowhere nowhere covers 0 no_jumps no_told
