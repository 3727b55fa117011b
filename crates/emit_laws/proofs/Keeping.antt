-- What holds of the statements of every node, by whatever stands at its targets, holds of the text of nests.
use Rattle.std.proofs.Common.{◌≡◌, ◌∙◌, ℕ, suc, ◌<◌, ◌==◌, Bool, true, false, List, [], ◌∷◌, map, Option, Some, None, bytes_eq, if◌then◌else◌, arith, refl, ap, subst}
use Rattle.std.specs.Prelude.{⊤}
use Rattle.reloop.specs.Graphs.{is_in, IsIn}
use Rattle.reloop.proofs.Sets.{or_left, or_right, equal_itself}
use Rattle.rs_text.specs.Tree.{Stmts, no_stmts}
use Rattle.rs_mean.specs.Typing.{LabelScope}
use Rattle.flow.specs.Flows.{FlowTree, node_at, targets_of}
use Rattle.emit_rules.specs.Bodies.{node_stmts, arm_stmts, nest_stmts, chain_stmts, arms_stmts, draft_of}
use Rattle.emit_rules.specs.Jumps.{Jump, Jumps, no_jumps, label_of, told, by_label, leaves, jump_stmts, goes_to, by_own_label, jumps_before, jumps_within}
use Rattle.emit_rules.specs.Nests.{Nest, single, choice, group, repeated, dispatched, Chain, no_nests, more_nests, Chains, no_chains, more_chains, chain_entries, chain_is_told, nest_entries, nest_is_told}
use Rattle.emit_rules.specs.Texts.{one_stmt, choice_stmts, block_then, loop_of}
use Rattle.emit_laws.specs.Closed.{is_bound, is_loop_label, of_loop, of_block}
use Rattle.emit_laws.proofs.Every.{EveryNest, EveryChain, EveryChains, nest_told_gives, chain_told_gives}
use Rattle.emit_laws.proofs.Names.{told_apart}
use Rattle.emit_laws.proofs.Turns.{same_label}

-- a jump's label is around, and that of a jump that turns is a loop's
abbrev pub is_jump : List LabelScope → Jump → Bool
is_jump around jump = if jump.turns then is_loop_label around (label_of jump.label) else is_bound around (label_of jump.label)

-- so it is with all jumps, whose labels have lesser numbers than these
pub record JumpsFit (around : List LabelScope) (label : ℕ) (jumps : Jumps) : Type 0 where
  pub below : (node : ℕ) (jump : Jump) → jumps.jump node ≡ Some jump → jump.label < label
  pub fits : (node : ℕ) (jump : Jump) → jumps.jump node ≡ Some jump → is_jump around jump ≡ true

-- ---- jumps within

-- a label around is around within one more, of another number
bound_within : (around : List LabelScope) (inner : LabelScope) (label : List ℕ) → is_bound around label ≡ true → is_bound (inner ∷ around) label ≡ true
bound_within around inner label is = by_test (bytes_eq inner.name label)
  where
    by_test : (test : Bool) → (if test then true else is_bound around label) ≡ true
    by_test true = refl
    by_test false = is

loop_within : (around : List LabelScope) (inner : LabelScope) (label : List ℕ) → bytes_eq inner.name label ≡ false → is_loop_label around label ≡ true → is_loop_label (inner ∷ around) label ≡ true
loop_within around inner label differ is = ap (λ (test : Bool). if test then inner.is_loop else is_loop_label around label) differ ∙ is

jump_within : (around : List LabelScope) (is_loop : Bool) (label : ℕ) (jump : Jump) → jump.label < label → (turns : Bool) →
    (if turns then is_loop_label around (label_of jump.label) else is_bound around (label_of jump.label)) ≡ true →
    (if turns then is_loop_label (record { name = label_of label; is_loop = is_loop } ∷ around) (label_of jump.label)
    else is_bound (record { name = label_of label; is_loop = is_loop } ∷ around) (label_of jump.label)) ≡ true
jump_within around is_loop label jump less true is = loop_within around (record { name = label_of label; is_loop = is_loop }) (label_of jump.label) (told_apart label jump.label (λ same. absurd (omega (arith, less, same)))) is
jump_within around is_loop label jump less false is = bound_within around (record { name = label_of label; is_loop = is_loop }) (label_of jump.label) is

-- the innermost label is around
innermost_bound : (around : List LabelScope) (inner : LabelScope) → is_bound (inner ∷ around) inner.name ≡ true
innermost_bound around inner = ap (λ (test : Bool). if test then true else is_bound around inner.name) (same_label inner.name)

innermost_loop : (around : List LabelScope) (label : List ℕ) → is_loop_label (of_loop label ∷ around) label ≡ true
innermost_loop around label = ap (λ (test : Bool). if test then true else is_loop_label around label) (same_label label)

some_is : {A : Type 0} (one other : A) → Some one ≡ Some other → one ≡ other
some_is one other same = cc

-- out of a block, round a loop, and out of one
abbrev leaving : Bool → ℕ → Jump
leaving is_told label = record { is_told = is_told; turns = false; label = label }

abbrev turning : Bool → ℕ → Jump
turning is_told label = record { is_told = is_told; turns = true; label = label }

module _ (around : List LabelScope) (label : ℕ) (jumps : Jumps) (fit : JumpsFit around label jumps) where
  -- in the block of this label in front of a nest
  pub fit_before : (second : Nest) → JumpsFit (of_block (label_of label) ∷ around) (suc label) (jumps_before label second jumps)
  fit_before second = record {
    below = λ node jump is. below_by node jump (is_in node (nest_entries second)) is;
    fits = λ node jump is. fits_by node jump (is_in node (nest_entries second)) is;
  }
    where
      below_by : (node : ℕ) (jump : Jump) (here : Bool) → (if here then Some (leaving (nest_is_told second) label) else jumps.jump node) ≡ Some jump → jump.label < suc label
      below_by node jump true is = subst (λ (one : Jump). one.label < suc label) (some_is (leaving (nest_is_told second) label) jump is) (omega arith)
      below_by node jump false is = let below = fit.below node jump is in omega (arith, below)

      fits_by : (node : ℕ) (jump : Jump) (here : Bool) → (if here then Some (leaving (nest_is_told second) label) else jumps.jump node) ≡ Some jump → is_jump (of_block (label_of label) ∷ around) jump ≡ true
      fits_by node jump true is = subst (λ (one : Jump). is_jump (of_block (label_of label) ∷ around) one ≡ true) (some_is (leaving (nest_is_told second) label) jump is) (innermost_bound around (of_block (label_of label)))
      fits_by node jump false is = jump_within around false label jump (fit.below node jump is) jump.turns (fit.fits node jump is)

  -- in a loop of this label
  pub fit_within : (heads : List ℕ) (is_told : Bool) → JumpsFit (of_loop (label_of label) ∷ around) (suc label) (jumps_within label heads is_told jumps)
  fit_within heads is_told = record {
    below = λ node jump is. below_by node jump (is_in node heads) (jumps.next node) (jumps.jump node) refl is;
    fits = λ node jump is. fits_by node jump (is_in node heads) (jumps.next node) (jumps.jump node) refl is;
  }
    where
      below_by : (node : ℕ) (jump : Jump) (here is_next : Bool) (outer : Option Jump) → jumps.jump node ≡ outer → (if here then Some (turning is_told label) else by_own_label label is_next outer) ≡ Some jump → jump.label < suc label
      below_by node jump true is_next outer same is = subst (λ (one : Jump). one.label < suc label) (some_is (turning is_told label) jump is) (omega arith)
      below_by node jump false true (Some outer) same is = subst (λ (one : Jump). one.label < suc label) (some_is (leaving outer.is_told label) jump is) (omega arith)
      below_by node jump false true None same is = absurd cc
      below_by node jump false false outer same is = let below = fit.below node jump (same ∙ is) in omega (arith, below)

      fits_by : (node : ℕ) (jump : Jump) (here is_next : Bool) (outer : Option Jump) → jumps.jump node ≡ outer → (if here then Some (turning is_told label) else by_own_label label is_next outer) ≡ Some jump →
          is_jump (of_loop (label_of label) ∷ around) jump ≡ true
      fits_by node jump true is_next outer same is = subst (λ (one : Jump). is_jump (of_loop (label_of label) ∷ around) one ≡ true) (some_is (turning is_told label) jump is) (innermost_loop around (label_of label))
      fits_by node jump false true (Some outer) same is = subst (λ (one : Jump). is_jump (of_loop (label_of label) ∷ around) one ≡ true) (some_is (leaving outer.is_told label) jump is) (innermost_bound around (of_loop (label_of label)))
      fits_by node jump false true None same is = absurd cc
      fits_by node jump false false outer same is = jump_within around true label jump (fit.below node jump (same ∙ is)) jump.turns (fit.fits node jump (same ∙ is))

-- ---- texts

module _ (flow : FlowTree) (Good : List LabelScope → Stmts → Type 0) (IsTellable : ℕ → Type 0) (Tells Rounds : Type 0) where
  abbrev pub AllGood : List LabelScope → List Stmts → Type 0
  AllGood around [] = ⊤
  AllGood around (text ∷ texts) = Good around text × AllGood around texts

  -- heads that may be told
  abbrev pub AreTellable : List ℕ → Type 0
  AreTellable nodes = (node : ℕ) → IsIn node nodes → IsTellable node

  -- where there is a choice, heads are told, and may be
  abbrev pub OfChoice : List ℕ → Type 0
  OfChoice heads = Tells × AreTellable heads

  -- what holds of the pieces of a text holds of the text: of choices and of what is told where heads are told, and of loops where there are some
  pub record IsKept : Type 0 where
    pub nothing : (around : List LabelScope) → Good around no_stmts
    pub node : (around : List LabelScope) (number : ℕ) (texts : List Stmts) → AllGood around texts → Good around (node_stmts (node_at flow number) texts)
    pub choice : (around : List LabelScope) (heads : List ℕ) (texts : List Stmts) → OfChoice heads → AllGood around texts → Good around (choice_stmts heads texts)
    pub tells : (around : List LabelScope) (node : ℕ) (text : Stmts) → Tells → IsTellable node → Good around text → Good around (told true node text)
    pub jumps : (around : List LabelScope) (jump : Jump) → is_jump around jump ≡ true → Good around (one_stmt (by_label jump))
    pub block : (around : List LabelScope) (label : ℕ) (body rest : Stmts) → Good (of_block (label_of label) ∷ around) body → Good around rest → Good around (block_then label body rest)
    pub loop : (around : List LabelScope) (label : ℕ) (body : Stmts) → Rounds → Good (of_loop (label_of label) ∷ around) body → Good around (one_stmt (loop_of label body))

  abbrev pub NestAsked : Nest → Type 0
  NestAsked = EveryNest (λ node. ⊤) OfChoice Rounds

  abbrev pub ChainAsked : Chain → Type 0
  ChainAsked = EveryChain (λ node. ⊤) OfChoice Rounds

  abbrev pub ChainsAsked : Chains → Type 0
  ChainsAsked = EveryChains (λ node. ⊤) OfChoice Rounds

  pub nest_tells : (nest : Nest) → NestAsked nest → nest_is_told nest ≡ true → Tells
  nest_tells = nest_told_gives (λ node. ⊤) OfChoice Rounds Tells (λ heads asked. asked.0)

  pub chain_tells : (nests : Chain) → ChainAsked nests → chain_is_told nests ≡ true → Tells
  chain_tells = chain_told_gives (λ node. ⊤) OfChoice Rounds Tells (λ heads asked. asked.0)

  -- a node is told by a jump only where heads are told
  abbrev pub JumpsTell : Jumps → Type 0
  JumpsTell jumps = (node : ℕ) (jump : Jump) → jumps.jump node ≡ Some jump → jump.is_told ≡ true → Tells

  pub tell_before : (label : ℕ) (second : Nest) (jumps : Jumps) → JumpsTell jumps → NestAsked second → JumpsTell (jumps_before label second jumps)
  tell_before label second jumps tell asked node jump = by_test (is_in node (nest_entries second))
    where
      by_test : (here : Bool) → (if here then Some (leaving (nest_is_told second) label) else jumps.jump node) ≡ Some jump → jump.is_told ≡ true → Tells
      by_test true same is = nest_tells second asked (ap (λ (one : Jump). one.is_told) (some_is (leaving (nest_is_told second) label) jump same) ∙ is)
      by_test false same is = tell node jump same is

  pub tell_within : (label : ℕ) (heads : List ℕ) (is_told : Bool) (jumps : Jumps) → JumpsTell jumps → (is_told ≡ true → Tells) → JumpsTell (jumps_within label heads is_told jumps)
  tell_within label heads is_told jumps tell tells node jump = by_test (is_in node heads) (jumps.next node) (jumps.jump node) refl
    where
      by_test : (here is_next : Bool) (outer : Option Jump) → jumps.jump node ≡ outer → (if here then Some (turning is_told label) else by_own_label label is_next outer) ≡ Some jump → jump.is_told ≡ true → Tells
      by_test true is_next outer found same is = tells (ap (λ (one : Jump). one.is_told) (some_is (turning is_told label) jump same) ∙ is)
      by_test false true (Some outer) found same is = tell node outer found (ap (λ (one : Jump). one.is_told) (some_is (leaving outer.is_told label) jump same) ∙ is)
      by_test false true None found same is = absurd cc
      by_test false false outer found same is = tell node jump (found ∙ same) is

  module _ (kept : IsKept) (reached : (number : ℕ) → AreTellable (targets_of flow number)) where
    told_good : (around : List LabelScope) (is_told : Bool) → (is_told ≡ true → Tells) → (node : ℕ) (text : Stmts) → IsTellable node → Good around text → Good around (told is_told node text)
    told_good around true tells node text may good = kept.tells around node text (tells refl) may good
    told_good around false tells node text may good = good

    leaves_good : (around : List LabelScope) (is_next : Bool) (jump : Jump) → is_jump around jump ≡ true → Good around (leaves is_next jump)
    leaves_good around true jump is = kept.nothing around
    leaves_good around false jump is = kept.jumps around jump is

    -- jumps within these labels
    record Fit (around : List LabelScope) (label : ℕ) (jumps : Jumps) : Type 0 where
      bound : JumpsFit around label jumps
      tell : JumpsTell jumps

    abbrev GoodWithin : (ℕ → Jumps → Stmts) → Type 0
    GoodWithin text = (around : List LabelScope) (label : ℕ) (jumps : Jumps) → Fit around label jumps → Good around (text label jumps)

    goes_good : (around : List LabelScope) (label : ℕ) (jumps : Jumps) → Fit around label jumps → (node : ℕ) → IsTellable node → Good around (goes_to jumps node)
    goes_good around label jumps fit node may = by_jump (jumps.jump node) refl
      where
        by_jump : (jump : Option Jump) → jumps.jump node ≡ jump → Good around (jump_stmts (jumps.next node) node jump)
        by_jump None is = kept.nothing around
        by_jump (Some jump) is = told_good around jump.is_told (fit.tell node jump is) node (leaves (jumps.next node) jump) may (leaves_good around (jumps.next node) jump (fit.bound.fits node jump is))

    all_go : (around : List LabelScope) (label : ℕ) (jumps : Jumps) → Fit around label jumps → (targets : List ℕ) → AreTellable targets → AllGood around (map (goes_to jumps) targets)
    all_go around label jumps fit [] may = tt
    all_go around label jumps fit (target ∷ targets) may = (
      goes_good around label jumps fit target (may target (or_left (target == target) (is_in target targets) (equal_itself target))),
      all_go around label jumps fit targets (λ one there. may one (or_right (one == target) (is_in one targets) there)),
    )

    followed : (first : Nest) (others : Chain) → ChainAsked others → GoodWithin (nest_stmts flow first) → GoodWithin (chain_stmts flow others) → GoodWithin (chain_stmts flow (more_nests first others))
    followed first no_nests asked one rest around label jumps fit = one around label jumps fit
    followed first (more_nests second others) asked one rest around label jumps fit =
        kept.block around label (nest_stmts flow first (suc label) (jumps_before label second jumps)) (chain_stmts flow (more_nests second others) label jumps)
        (one (of_block (label_of label) ∷ around) (suc label) (jumps_before label second jumps)
        (record { bound = fit_before around label jumps fit.bound second; tell = tell_before label second jumps fit.tell asked.0 }))
        (rest around label jumps fit)

    arm_good : (inner : Chain) → ChainAsked inner → GoodWithin (chain_stmts flow inner) → (around : List LabelScope) (label : ℕ) (jumps : Jumps) → Fit around label jumps → (target : ℕ) → IsTellable target →
        Good around (arm_stmts jumps target inner (chain_stmts flow inner label jumps))
    arm_good inner asked good around label jumps fit target may = by_test (is_in target (chain_entries inner))
      where
        by_test : (held : Bool) → Good around (if held then told (chain_is_told inner) target (chain_stmts flow inner label jumps) else goes_to jumps target)
        by_test true = told_good around (chain_is_told inner) (chain_tells inner asked) target (chain_stmts flow inner label jumps) may (good around label jumps fit)
        by_test false = goes_good around label jumps fit target may

    loop_good : (heads : List ℕ) (body : Chain) → Rounds → ChainAsked body → GoodWithin (chain_stmts flow body) → (around : List LabelScope) (label : ℕ) (jumps : Jumps) → Fit around label jumps →
        Good around (one_stmt (loop_of label (chain_stmts flow body (suc label) (jumps_within label heads (chain_is_told body) jumps))))
    loop_good heads body rounds asked good around label jumps fit =
        kept.loop around label (chain_stmts flow body (suc label) (jumps_within label heads (chain_is_told body) jumps)) rounds
        (good (of_loop (label_of label) ∷ around) (suc label) (jumps_within label heads (chain_is_told body) jumps)
        (record { bound = fit_within around label jumps fit.bound heads (chain_is_told body); tell = tell_within label heads (chain_is_told body) jumps fit.tell (chain_tells body asked) }))

    mutual
      nest_good : (nest : Nest) → NestAsked nest → (around : List LabelScope) (label : ℕ) (jumps : Jumps) → Fit around label jumps → Good around (nest_stmts flow nest label jumps)
      nest_good (single node arms) asked around label jumps fit =
          kept.node around node (arms_stmts flow arms label jumps (targets_of flow node)) (arms_good arms asked.1 around label jumps fit (targets_of flow node) (reached node))
      nest_good (choice heads arms) asked around label jumps fit =
          kept.choice around heads (arms_stmts flow arms label jumps heads) asked.0 (arms_good arms asked.1 around label jumps fit heads (asked.0).1)
      nest_good (group members) asked around label jumps fit = chain_good members asked around label jumps fit
      nest_good (repeated head body) asked around label jumps fit = loop_good (head ∷ []) body asked.0 asked.1 (chain_good body asked.1) around label jumps fit
      nest_good (dispatched heads body) asked around label jumps fit = loop_good heads body asked.1 asked.2 (chain_good body asked.2) around label jumps fit

      chain_good : (nests : Chain) → ChainAsked nests → (around : List LabelScope) (label : ℕ) (jumps : Jumps) → Fit around label jumps → Good around (chain_stmts flow nests label jumps)
      chain_good no_nests asked around label jumps fit = kept.nothing around
      chain_good (more_nests first others) asked around label jumps fit = followed first others asked.1 (nest_good first asked.0) (chain_good others asked.1) around label jumps fit

      arms_good : (arms : Chains) → ChainsAsked arms → (around : List LabelScope) (label : ℕ) (jumps : Jumps) → Fit around label jumps → (targets : List ℕ) → AreTellable targets →
          AllGood around (arms_stmts flow arms label jumps targets)
      arms_good no_chains asked around label jumps fit targets may = all_go around label jumps fit targets may
      arms_good (more_chains inner others) asked around label jumps fit [] may = tt
      arms_good (more_chains inner others) asked around label jumps fit (target ∷ targets) may = (
        arm_good inner asked.0 (chain_good inner asked.0) around label jumps fit target (may target (or_left (target == target) (is_in target targets) (equal_itself target))),
        arms_good others asked.1 around label jumps fit targets (λ one there. may one (or_right (one == target) (is_in one targets) there)),
      )

    no_jump : (A : Type 0) (node : ℕ) (jump : Jump) → no_jumps.jump node ≡ Some jump → A
    no_jump A node jump is = absurd cc

    none_fits : Fit [] 0 no_jumps
    none_fits = record {
      bound = record { below = λ node jump is. no_jump (jump.label < 0) node jump is; fits = λ node jump is. no_jump (is_jump [] jump ≡ true) node jump is };
      tell = λ node jump is. no_jump (jump.is_told ≡ true → Tells) node jump is;
    }

    pub draft_good : (nests : Chain) → ChainAsked nests → IsTellable flow.entry → Good [] (draft_of flow nests)
    draft_good nests asked may = told_good [] (chain_is_told nests) (chain_tells nests asked) flow.entry (chain_stmts flow nests 0 no_jumps) may (chain_good nests asked [] 0 no_jumps none_fits)
