-- The statements of nests that cover a flow are owed to any source that goes along it.
use Rattle.std.proofs.Common.{◌≡◌, ◌∙◌, ◌⊎◌, inl, inr, ℕ, zero, suc, pred, ◌+◌, ◌<◌, ◌≤◌, ◌==◌, Bool, true, false, ◌||◌, List, [], ◌∷◌, Option, Some, None, is_some, if◌then◌else◌, arith, refl, sym, ap, subst}
use Rattle.cr_runs.specs.Owes.{Owes}
use Rattle.cr_runs_rules.proofs.Rules.{tick_waits}
use Rattle.cr_world.specs.World.{World, events_of}
use Rattle.reloop.specs.Graphs.{is_in, IsIn}
use Rattle.reloop.proofs.Sets.{either, or_left, or_right, not_both, same_number}
use Rattle.rs_text.specs.Tree.{Stmts}
use Rattle.rs_mean.specs.Run.{Frame, Flow, normal, breaks, continues, returned, run_stmts}
use Rattle.rs_mean.specs.Values.{Typed}
use Rattle.rs_mean.specs.World.{Run, seq, takes_unit}
use Rattle.rs_mean_frames.specs.Behave.{BodiesBehave}
use Rattle.rs_mean_frames.proofs.Framed.{pieces_behave}
use Rattle.flow.specs.Flows.{NodeTree, FlowTree, node_at, targets_in, targets_of}
use Rattle.flow.specs.Machine.{to_node, gives_back, run_found}
use Rattle.flow.specs.Sources.{Source, IsBehind, IsQuiet, FollowsAfter, StepsAlong}
use Rattle.emit_rules.specs.Bodies.{node_stmts, nest_stmts, chain_stmts, arms_stmts, draft_of}
use Rattle.emit_rules.specs.Jumps.{Jump, Jumps, no_jumps, label_of, goes_to, told, by_own_label, jumps_before, jumps_within}
use Rattle.emit_rules.specs.Nests.{Nest, single, choice, group, repeated, dispatched, Chain, no_nests, more_nests, Chains, no_chains, more_chains, nest_entries, chain_entries, nest_is_told, chain_is_told}
use Rattle.emit_rules.specs.Texts.{one_stmt, loop_of}
use Rattle.emit_laws.specs.Covers.{Nodes, nowhere, with_nodes, either_of, CoversNest, CoversChain, CoverArms, Covers}
use Rattle.emit_laws.specs.Tells.{CanTell, nest_chooses, chain_chooses, chains_choose}
use Rattle.emit_laws.proofs.Blocks.{block_runs, loop_runs}
use Rattle.emit_laws.proofs.Branches.{StaysWithin, AllAt, after, node_runs}
use Rattle.emit_laws.proofs.Measure.{rank, gets_less}
use Rattle.emit_laws.proofs.Names.{told_apart}
use Rattle.emit_laws.proofs.Picks.{pick, arms_at, choice_runs}
use Rattle.emit_laws.proofs.Serving.{flow_of, IsFrom, no_more, from_behind, from_from, behind_from, Owed, owed_by, owed_from, Ready, Served, Serves, Returns, IsSilent, owed_less, served_less, told_owed, goes_owed}
use Rattle.emit_laws.proofs.Turns.{silent_seq, looped, after_body, loop_is, round_normal, round_continues, round_breaks, round_returned, round_breaks_other, round_continues_other, round_silent, after_inside, block_is, inside_normal, inside_breaks, inside_returned, inside_continues, inside_breaks_other, inside_silent}

-- what one or the other needs, the one needs
of_left : {C : Type 0} (a b : Bool) → ((a || b) ≡ true → C) → a ≡ true → C
of_left a b need is = need (or_left a b is)

of_right : {C : Type 0} (a b : Bool) → ((a || b) ≡ true → C) → b ≡ true → C
of_right a b need is = need (or_right a b is)

mutual
  -- in what is entered by a choice, one stands
  nest_told_chooses : (nest : Nest) → nest_is_told nest ≡ true → nest_chooses nest ≡ true
  nest_told_chooses (single node arms) is = absurd cc
  nest_told_chooses (choice heads arms) is = refl
  nest_told_chooses (group members) is = chain_told_chooses members is
  nest_told_chooses (repeated head body) is = chain_told_chooses body is
  nest_told_chooses (dispatched heads body) is = refl

  pub chain_told_chooses : (nests : Chain) → chain_is_told nests ≡ true → chain_chooses nests ≡ true
  chain_told_chooses no_nests is = absurd cc
  chain_told_chooses (more_nests first others) is = or_left (nest_chooses first) (chain_chooses others) (nest_told_chooses first is)

only_one : (one head : ℕ) → is_in one (head ∷ []) ≡ true → (one == head) ≡ true
only_one one head there = by_test (one == head) there
  where
    by_test : (here : Bool) → (here || false) ≡ true → here ≡ true
    by_test true is = refl
    by_test false is = is

right_true : (a b : Bool) → (a || b) ≡ true → a ≡ false → b ≡ true
right_true true b is none = absurd cc
right_true false b is none = is

module _ {F S A B P : Type 0} (source : Source F S A P) (frame : Frame) (behave : BodiesBehave frame.bodies) (flow : FlowTree) (At : P → ℕ → World → Type 0)
    (Back : P → Option Typed → World → Type 0) (Good : A → S → B → World → Type 0) (most_units most_steps : ℕ)
    (within : (number : ℕ) (node : NodeTree) → node_at flow number ≡ Some node → StaysWithin node.body)
    (along : StepsAlong source frame flow At Back Good most_units most_steps) where
  abbrev OwedAt : ℕ → ℕ → P → Run B → World → Type 0
  OwedAt = Owed source frame At Back Good most_units most_steps

  abbrev ServesAll : Nodes → (ℕ → P → Type 0) → ℕ → Jumps → ℕ → (Flow → Run B) → Type 0
  ServesAll = Serves source frame At Back Good most_units most_steps

  abbrev ServedAt : (ℕ → P → Type 0) → ℕ → Jumps → ℕ → (Flow → Run B) → ℕ → Type 0
  ServedAt = Served source frame At Back Good most_units most_steps

  abbrev From : ℕ → P → ℕ → P → Type 0
  From m position less later = IsFrom source.weight less later m position

  abbrev Behind : ℕ → P → ℕ → P → Type 0
  Behind m position less later = IsBehind source.weight less later m position

  abbrev IsReady : P → ℕ → Bool → World → Type 0
  IsReady = Ready source frame At Back Good most_units most_steps

  -- what stands around a text: the nodes that are ahead or known, its labels and jumps, what follows it, and the bounds and the position within which that serves these nodes
  record Around : Type 0 where
    ahead : Nodes
    known : Nodes
    label : ℕ
    jumps : Jumps
    next : Flow → Run B
    silent : IsSilent source frame At Back Good most_units most_steps next
    returns : Returns source frame At Back Good most_units most_steps next
    n : ℕ
    m : ℕ
    position : P
    few : n ≤ most_units
    little : m ≤ most_steps
    forward : ServesAll ahead (From m position) label jumps n next
    back : ServesAll known (Behind m position) label jumps n next

  -- behind a position all is served that was served from it on
  all_behind : (around : Around) (node : ℕ) → either_of around.ahead around.known node ≡ true → ServedAt (Behind around.m around.position) around.label around.jumps around.n around.next node
  all_behind around node is = by_side (either (around.ahead node) (around.known node) is)
    where
      by_side : (around.ahead node ≡ true) ⊎ (around.known node ≡ true) → ServedAt (Behind around.m around.position) around.label around.jumps around.n around.next node
      by_side (inl is) =
          served_less source frame At Back Good most_units most_steps (From around.m around.position) (Behind around.m around.position) around.label around.label around.jumps around.n around.n around.next
          node (λ less later behind. inl behind) (omega arith) (omega arith) (around.forward node is)
      by_side (inr is) = around.back node is

  -- the same text at a later position
  abbrev moved : (around : Around) (less : ℕ) (later : P) → From around.m around.position less later → Around
  moved around less later from = record {
    ahead = around.ahead;
    known = around.known;
    label = around.label;
    jumps = around.jumps;
    next = around.next;
    silent = around.silent;
    returns = around.returns;
    n = around.n;
    m = less;
    position = later;
    few = around.few;
    little = by_reach from;
    forward = λ node is.
        served_less source frame At Back Good most_units most_steps (From around.m around.position) (From less later) around.label around.label around.jumps around.n around.n around.next node
        (λ least last on. from_from source.weight least last less later around.m around.position on from) (omega arith) (omega arith) (around.forward node is);
    back = λ node is.
        served_less source frame At Back Good most_units most_steps (Behind around.m around.position) (Behind less later) around.label around.label around.jumps around.n around.n around.next node
        (λ least last on. behind_from source.weight least last less later around.m around.position on from) (omega arith) (omega arith) (around.back node is);
  }
    where
      by_reach : From around.m around.position less later → less ≤ most_steps
      by_reach (inl behind) = let no = no_more source.weight less later around.m around.position behind in omega (arith, no, around.little)
      by_reach (inr (same, there)) = omega (arith, same, around.little)

  -- within a unit less
  abbrev a_unit_less : Around → Around
  a_unit_less around = record {
    ahead = around.ahead;
    known = around.known;
    label = around.label;
    jumps = around.jumps;
    next = around.next;
    silent = around.silent;
    returns = around.returns;
    n = pred around.n;
    m = around.m;
    position = around.position;
    few = omega (arith, around.few);
    little = around.little;
    forward = λ node is.
        served_less source frame At Back Good most_units most_steps (From around.m around.position) (From around.m around.position) around.label around.label around.jumps around.n (pred around.n) around.next
        node (λ least last on. on) (omega arith) (omega arith) (around.forward node is);
    back = λ node is.
        served_less source frame At Back Good most_units most_steps (Behind around.m around.position) (Behind around.m around.position) around.label around.label around.jumps around.n (pred around.n)
        around.next node (λ least last on. on) (omega arith) (omega arith) (around.back node is);
  }

  -- no node is nowhere
  serves_none : (Reach : ℕ → P → Type 0) (label : ℕ) (jumps : Jumps) (n : ℕ) (next : Flow → Run B) → ServesAll nowhere Reach label jumps n next
  serves_none Reach label jumps n next node is = absurd cc

  -- nothing is owed within no units and no steps
  nothing_owed : (n m : ℕ) (position : P) (run : Run B) (world : World) → n ≡ 0 → m ≡ 0 → OwedAt n m position run world
  nothing_owed n m position run world none nor = record { safe = λ k less. absurd (omega (arith, less, none)); reaches = λ k less. absurd (omega (arith, less, nor)) }

  -- ---- what is to be shown

  abbrev NestOwed : Nest → Type 0
  NestOwed nest =
      (around : Around) → CoversNest flow chain_entries around.ahead around.known nest → (nest_chooses nest ≡ true → CanTell frame At) → (node : ℕ) (world : World) → IsIn node (nest_entries nest) →
      IsReady around.position node (nest_is_told nest) world →
      OwedAt around.n around.m around.position (seq (run_stmts frame (nest_stmts flow nest around.label around.jumps)) around.next) world

  abbrev ChainOwed : Chain → Type 0
  ChainOwed nests =
      (around : Around) → CoversChain flow chain_entries around.ahead around.known nests → (chain_chooses nests ≡ true → CanTell frame At) → (node : ℕ) (world : World) → IsIn node (chain_entries nests) →
      IsReady around.position node (chain_is_told nests) world →
      OwedAt around.n around.m around.position (seq (run_stmts frame (chain_stmts flow nests around.label around.jumps)) around.next) world

  abbrev ArmsOwed : Chains → Type 0
  ArmsOwed arms =
      (around : Around) (ways : Nodes) → ServesAll ways (From around.m around.position) around.label around.jumps around.n around.next → (targets : List ℕ) →
      CoverArms flow chain_entries ways around.ahead around.known arms targets → (chains_choose arms ≡ true → CanTell frame At) → (to : ℕ) (world : World) → IsIn to targets → At around.position to world →
      OwedAt around.n around.m around.position (seq (run_stmts frame (pick flow around.label around.jumps arms targets to)) around.next) world

  -- ---- nodes

  -- a node that is there runs as the flow's node
  found_runs : (around : Around) (arms : Chains) (found : Option NodeTree) → is_some found ≡ true → ((node : NodeTree) → found ≡ Some node → StaysWithin node.body) →
      (texts : List Stmts) → AllAt (pick flow around.label around.jumps arms (targets_in found)) texts (targets_in found) →
      seq (run_stmts frame (node_stmts found texts)) around.next ≡ seq (run_found frame found) (after frame (pick flow around.label around.jumps arms (targets_in found)) around.next)
  found_runs around arms None there stay texts all = absurd cc
  found_runs around arms (Some node) there stay texts all = node_runs frame (pick flow around.label around.jumps arms (targets_in (Some node))) around.next node texts (stay node refl) all

  after_quiet : (around : Around) (picked : ℕ → Stmts) → IsQuiet (after frame picked around.next)
  after_quiet around picked (to_node to) world = silent_seq (run_stmts frame (picked to)) around.next (pieces_behave.stmts frame behave (picked to)) around.silent world
  after_quiet around picked (gives_back value) world = around.silent (returned value) world

  single_owed : (node : ℕ) (arms : Chains) → ArmsOwed arms → NestOwed (single node arms)
  single_owed node arms owed around covers can to world there ready =
      let picked = pick flow around.label around.jumps arms (targets_of flow node) in
      owed_by source frame At Back Good most_units most_steps around.n around.m around.position world _ _
      (found_runs around arms (node_at flow node) covers.0 (within node) (arms_stmts flow arms around.label around.jumps (targets_of flow node))
      (arms_at flow around.label around.jumps arms (targets_of flow node) covers.2))
      (along.steps around.n around.m around.position node world (after frame picked around.next) around.few around.little at_node (after_quiet around picked) follows)
    where
      at_node : At around.position node world
      at_node = subst (λ (x : ℕ). At around.position x world) (same_number to node (alone (to == node) there)) ready.0
        where
          alone : (here : Bool) → (here || false) ≡ true → here ≡ true
          alone true is = refl
          alone false is = is

      follows : FollowsAfter source frame flow At Back Good around.n around.m around.position node (after frame (pick flow around.label around.jumps arms (targets_of flow node)) around.next)
      follows = record {
        nodes = λ less later to world there at behind.
            let there_now = moved around less later (inl behind) in
            owed there_now (either_of around.ahead around.known)
            (λ one is. served_less source frame At Back Good most_units most_steps (Behind around.m around.position) (From less later) around.label around.label around.jumps around.n around.n around.next one
            (λ least last on. from_behind source.weight least last less later around.m around.position on behind) (omega arith) (omega arith) (all_behind around one is))
            (targets_of flow node) covers.1 can to world there at;
        backs = λ less later value world back behind.
            around.returns around.n less later value world around.few (let no = no_more source.weight less later around.m around.position behind in omega (arith, no, around.little)) back;
      }

  -- ---- choices

  choice_owed : (heads : List ℕ) (arms : Chains) → ArmsOwed arms → NestOwed (choice heads arms)
  choice_owed heads arms owed around covers can to world there ready =
      owed_from source frame At Back Good most_units most_steps around.n around.m around.position world world
      (seq (run_stmts frame (nest_stmts flow (choice heads arms) around.label around.jumps)) around.next) (seq (run_stmts frame (pick flow around.label around.jumps arms heads to)) around.next)
      (λ units. choice_runs flow around.label around.jumps frame to around.next arms heads world there (ready.1 refl) units)
      (owed around around.ahead around.forward heads covers (λ is. can refl) to world there ready.0)

  -- ---- arms

  way_owed : (around : Around) (ways : Nodes) → ServesAll ways (From around.m around.position) around.label around.jumps around.n around.next → (to : ℕ) (world : World) → ways to ≡ true →
      At around.position to world → OwedAt around.n around.m around.position (seq (run_stmts frame (goes_to around.jumps to)) around.next) world
  way_owed around ways served to world is at =
      goes_owed source frame At Back Good most_units most_steps around.next (From around.m around.position) around.label around.jumps around.n around.m around.position to world (served to is)
      (inr (refl, refl)) at

  no_arms_owed : ArmsOwed no_chains
  no_arms_owed around ways served targets covers can to world there at = way_owed around ways served to world (covers to there) at

  more_arms_owed : (inner : Chain) (others : Chains) → ChainOwed inner → ArmsOwed others → ArmsOwed (more_chains inner others)
  more_arms_owed inner others first rest around ways served [] covers can to world there at = elim covers [ ]
  more_arms_owed inner others first rest around ways served (target ∷ targets) covers can to world there at = by_target (to == target) refl
    where
      inside : (held : Bool) → is_in target (chain_entries inner) ≡ held → At around.position target world →
          OwedAt around.n around.m around.position
          (seq (run_stmts frame (if held then told (chain_is_told inner) target (chain_stmts flow inner around.label around.jumps) else goes_to around.jumps target)) around.next) world
      inside true is here =
          told_owed source frame At Back Good most_units most_steps around.next around.n around.m around.position target world (chain_is_told inner) (chain_stmts flow inner around.label around.jumps)
          (λ tells. can (or_left (chain_chooses inner) (chains_choose others) (chain_told_chooses inner tells))) here
          (λ start ready. first around (covers.0 is) (of_left (chain_chooses inner) (chains_choose others) can) target start is ready)
      inside false is here = way_owed around ways served target world (covers.1 is).1 here

      by_target : (here : Bool) → (to == target) ≡ here →
          OwedAt around.n around.m around.position
          (seq (run_stmts frame (if here then (if is_in target (chain_entries inner) then told (chain_is_told inner) target (chain_stmts flow inner around.label around.jumps) else goes_to around.jumps target)
          else pick flow around.label around.jumps others targets to)) around.next) world
      by_target true same = inside (is_in target (chain_entries inner)) refl (subst (λ (x : ℕ). At around.position x world) (same_number to target same) at)
      by_target false same = rest around ways served targets covers.2 (of_right (chain_chooses inner) (chains_choose others) can) to world (right_true (to == target) (is_in to targets) there same) at

  -- ---- nests in order

  module _ (around : Around) (second : Nest) (rest : Chain) (owed : ChainOwed (more_nests second rest)) (covers : CoversChain flow chain_entries around.ahead around.known (more_nests second rest))
      (can : chain_chooses (more_nests second rest) ≡ true → CanTell frame At) where
    abbrev others_run : Run Flow
    others_run = run_stmts frame (chain_stmts flow (more_nests second rest) around.label around.jumps)

    abbrev next_inside : Flow → Run B
    next_inside = after_inside frame around.next (label_of around.label) others_run

    -- a jump of a label around goes through the block
    passes : (jump : Jump) → jump.label < around.label → (turns : Bool) →
        next_inside (if turns then continues (label_of jump.label) else breaks (label_of jump.label)) ≡ around.next (if turns then continues (label_of jump.label) else breaks (label_of jump.label))
    passes jump less true = inside_continues frame around.next (label_of around.label) others_run (label_of jump.label)
    passes jump less false =
        inside_breaks_other frame around.next (label_of around.label) others_run (label_of jump.label) (told_apart around.label jump.label (λ same. absurd (omega (arith, less, same))))

    served_inside : (Reach : ℕ → P → Type 0) → ((less : ℕ) (later : P) → Reach less later → From around.m around.position less later) → (node : ℕ) (here : Bool) →
        is_in node (nest_entries second) ≡ here → (here ≡ false → ServedAt Reach around.label around.jumps around.n around.next node) →
        ServedAt Reach (suc around.label) (jumps_before around.label second around.jumps) around.n next_inside node
    served_inside Reach reaches node true is served = record {
      jump = record { is_told = nest_is_told second; turns = false; label = around.label };
      is = ap (λ (here : Bool). if here then Some (record { is_told = nest_is_told second; turns = false; label = around.label }) else around.jumps.jump node) is;
      below = omega arith;
      tells = λ tells. can (chain_told_chooses (more_nests second rest) tells);
      jumped = λ less later world reach ready.
          owed_by source frame At Back Good most_units most_steps around.n less later world _ _ (inside_breaks frame around.next (label_of around.label) others_run)
          (owed (moved around less later (reaches less later reach)) covers can node world is ready);
      fallen = λ falls less later world reach ready.
          owed_by source frame At Back Good most_units most_steps around.n less later world _ _ (inside_normal frame around.next (label_of around.label) others_run)
          (owed (moved around less later (reaches less later reach)) covers can node world is ready);
    }
    served_inside Reach reaches node false is served =
        let outer = served refl in record {
          jump = outer.jump;
          is = ap (λ (here : Bool). if here then Some (record { is_told = nest_is_told second; turns = false; label = around.label }) else around.jumps.jump node) is ∙ outer.is;
          below = let below = outer.below in omega (arith, below);
          tells = outer.tells;
          jumped = λ less later world reach ready.
              owed_by source frame At Back Good most_units most_steps around.n less later world _ _ (passes outer.jump outer.below outer.jump.turns) (outer.jumped less later world reach ready);
          fallen = λ falls. not_both (is_in node (nest_entries second)) falls is;
        }

    abbrev in_front : Around
    in_front = record {
      ahead = with_nodes (nest_entries second) around.ahead;
      known = around.known;
      label = suc around.label;
      jumps = jumps_before around.label second around.jumps;
      next = next_inside;
      silent = inside_silent frame around.next (label_of around.label) others_run (pieces_behave.stmts frame behave _) around.silent;
      returns = λ n m position value world few little back.
          owed_by source frame At Back Good most_units most_steps n m position world _ _ (inside_returned frame around.next (label_of around.label) others_run value)
          (around.returns n m position value world few little back);
      n = around.n;
      m = around.m;
      position = around.position;
      few = around.few;
      little = around.little;
      forward = λ node is.
          served_inside (From around.m around.position) (λ less later reach. reach) node (is_in node (nest_entries second)) refl
          (λ out. around.forward node (right_true (is_in node (nest_entries second)) (around.ahead node) is out));
      back = λ node is. served_inside (Behind around.m around.position) (λ less later reach. inl reach) node (is_in node (nest_entries second)) refl (λ out. around.back node is);
    }

  chain_step : (first : Nest) (others : Chain) → NestOwed first → ChainOwed others → ChainOwed (more_nests first others)
  chain_step first no_nests one rest around covers can node world there ready = one around covers.0 (of_left (nest_chooses first) false can) node world there ready
  chain_step first (more_nests second others) one rest around covers can node world there ready =
      let can_later = of_right (nest_chooses first) (chain_chooses (more_nests second others)) can in
      let inside = in_front around second others rest covers.1 can_later in
      let text = nest_stmts flow first (suc around.label) (jumps_before around.label second around.jumps) in
      let behind = chain_stmts flow (more_nests second others) around.label around.jumps in
      owed_by source frame At Back Good most_units most_steps around.n around.m around.position world _ _
      (ap (λ (run : Run Flow). seq run around.next) (block_runs frame around.label text behind) ∙ block_is frame around.next (label_of around.label) (run_stmts frame behind) text)
      (one inside covers.0 (of_left (nest_chooses first) (chain_chooses (more_nests second others)) can) node world there ready)

  -- ---- loops

  module _ (heads : List ℕ) (body : Chain) (owed : ChainOwed body) (enters : (head : ℕ) → IsIn head heads → IsIn head (chain_entries body)) (can : chain_chooses body ≡ true → CanTell frame At) where
    module _ (around : Around) where
      abbrev jumps_inside : Jumps
      jumps_inside = jumps_within around.label heads (chain_is_told body) around.jumps

      abbrev inner : Stmts
      inner = chain_stmts flow body (suc around.label) jumps_inside

      abbrev next_turned : Flow → Run B
      next_turned = after_body frame around.next (label_of around.label) inner

      abbrev whole : Run B
      whole = seq (looped frame around.next (label_of around.label) inner) around.next

      goes_by : (jump : Jump) → jump.label < around.label → (turns : Bool) →
          next_turned (if turns then continues (label_of jump.label) else breaks (label_of jump.label)) ≡ around.next (if turns then continues (label_of jump.label) else breaks (label_of jump.label))
      goes_by jump less true = round_continues_other frame around.next (label_of around.label) inner (label_of jump.label) (told_apart around.label jump.label (λ same. absurd (omega (arith, less, same))))
      goes_by jump less false = round_breaks_other frame around.next (label_of around.label) inner (label_of jump.label) (told_apart around.label jump.label (λ same. absurd (omega (arith, less, same))))

      -- the heads, where each turn from them on is owed, and what was served behind the loop's beginning
      served_turned : ((less : ℕ) (later : P) (head : ℕ) (world : World) → Behind around.m around.position less later → IsIn head heads → IsReady later head (chain_is_told body) world →
          OwedAt (pred around.n) less later whole world) → (node : ℕ) → (here : Bool) → is_in node heads ≡ here →
          (here ≡ false → ServedAt (Behind around.m around.position) around.label around.jumps around.n around.next node) →
          ServedAt (Behind around.m around.position) (suc around.label) jumps_inside (pred around.n) next_turned node
      served_turned turns node true is served = record {
        jump = record { is_told = chain_is_told body; turns = true; label = around.label };
        is = ap (λ (here : Bool). if here then Some (record { is_told = chain_is_told body; turns = true; label = around.label })
            else by_own_label around.label (around.jumps.next node) (around.jumps.jump node)) is;
        below = omega arith;
        tells = λ tells. can (chain_told_chooses body tells);
        jumped = λ less later world reach ready.
            owed_by source frame At Back Good most_units most_steps (pred around.n) less later world _ _ (round_continues frame around.next (label_of around.label) inner)
            (turns less later node world reach is ready);
        fallen = λ falls less later world reach ready.
            owed_by source frame At Back Good most_units most_steps (pred around.n) less later world _ _ (round_normal frame around.next (label_of around.label) inner)
            (turns less later node world reach is ready);
      }
      served_turned turns node false is served = by_end (around.jumps.next node) refl
        where
          outer : ServedAt (Behind around.m around.position) around.label around.jumps around.n around.next node
          outer = served refl

          jump_is : (falls : Bool) → around.jumps.next node ≡ falls → jumps_inside.jump node ≡ by_own_label around.label falls (Some outer.jump)
          jump_is falls same =
              ap (λ (here : Bool). if here then Some (record { is_told = chain_is_told body; turns = true; label = around.label })
              else by_own_label around.label (around.jumps.next node) (around.jumps.jump node)) is
              ∙ ap (λ (one : Bool). by_own_label around.label one (around.jumps.jump node)) same
              ∙ ap (λ (jump : Option Jump). by_own_label around.label falls jump) outer.is

          by_end : (falls : Bool) → around.jumps.next node ≡ falls → ServedAt (Behind around.m around.position) (suc around.label) jumps_inside (pred around.n) next_turned node
          by_end true falls = record {
            jump = record { is_told = outer.jump.is_told; turns = false; label = around.label };
            is = jump_is true falls;
            below = omega arith;
            tells = outer.tells;
            jumped = λ less later world reach ready.
                owed_by source frame At Back Good most_units most_steps (pred around.n) less later world _ _ (round_breaks frame around.next (label_of around.label) inner)
                (owed_less source frame At Back Good most_units most_steps around.n less (pred around.n) later world (around.next normal) (omega arith) (outer.fallen falls less later world reach ready));
            fallen = λ there. not_both (is_in node heads) there is;
          }
          by_end false falls = record {
            jump = outer.jump;
            is = jump_is false falls;
            below = let below = outer.below in omega (arith, below);
            tells = outer.tells;
            jumped = λ less later world reach ready.
                owed_by source frame At Back Good most_units most_steps (pred around.n) less later world _ _ (goes_by outer.jump outer.below outer.jump.turns)
                (owed_less source frame At Back Good most_units most_steps around.n less (pred around.n) later world (around.next (flow_of outer.jump)) (omega arith)
                (outer.jumped less later world reach ready));
            fallen = λ there. not_both (is_in node heads) there is;
          }

      -- around the body of the loop, in a turn
      abbrev in_turn : ((less : ℕ) (later : P) (head : ℕ) (world : World) → Behind around.m around.position less later → IsIn head heads → IsReady later head (chain_is_told body) world →
          OwedAt (pred around.n) less later whole world) → Around
      in_turn turns = record {
        ahead = nowhere;
        known = with_nodes heads (either_of around.ahead around.known);
        label = suc around.label;
        jumps = jumps_inside;
        next = next_turned;
        silent = round_silent frame around.next (label_of around.label) inner behave around.silent;
        returns = λ n m position value world few little back.
            owed_by source frame At Back Good most_units most_steps n m position world _ _ (round_returned frame around.next (label_of around.label) inner value)
            (around.returns n m position value world few little back);
        n = pred around.n;
        m = around.m;
        position = around.position;
        few = let few = around.few in omega (arith, few);
        little = around.little;
        forward = serves_none _ _ _ _ _;
        back = λ node is.
            served_turned turns node (is_in node heads) refl (λ out. all_behind around node (right_true (is_in node heads) (either_of around.ahead around.known node) is out));
      }

    -- so many turns
    turns_owed : (k : ℕ) (around : Around) → around.n + rank source.limit around.m (source.weight around.position) < k →
        CoversChain flow chain_entries nowhere (with_nodes heads (either_of around.ahead around.known)) body → (node : ℕ) (world : World) → IsIn node heads →
        IsReady around.position node (chain_is_told body) world → OwedAt around.n around.m around.position (whole around) world
    unfolding takes_unit
    turns_owed zero around few covers node world there ready = absurd (omega (arith, few))
    turns_owed (suc k) around few covers node world there ready =
        owed_by source frame At Back Good most_units most_steps around.n around.m around.position world _ _ (loop_is frame around.next (label_of around.label) (inner around) behave)
        (tick_waits source.events events_of Good around.n around.m world (source.runs around.position) (seq (run_stmts frame (inner around)) (next_turned around) world)
        (along.waits around.position node world ready.0)
        (owed (in_turn around (λ less later head start behind is on. one_turn less later head start is on (gets_less source.weight source.limit along.weighs along.limited around.n less around.m later around.position behind) behind
        (λ smaller. turns_owed k (moved (a_unit_less around) less later (inl behind)) (omega (arith, few, smaller)) covers head start is on)))
        covers can node world (enters node there) ready))
      where
        one_turn : (less : ℕ) (later : P) (head : ℕ) (start : World) → IsIn head heads → IsReady later head (chain_is_told body) start →
            (pred around.n + rank source.limit less (source.weight later) < around.n + rank source.limit around.m (source.weight around.position)) ⊎ ((around.n ≡ 0) × (around.m ≡ 0)) →
            Behind around.m around.position less later →
            (pred around.n + rank source.limit less (source.weight later) < around.n + rank source.limit around.m (source.weight around.position) → OwedAt (pred around.n) less later (whole around) start) →
            OwedAt (pred around.n) less later (whole around) start
        one_turn less later head start is on (inl smaller) behind rest = rest smaller
        one_turn less later head start is on (inr (none, nor)) behind rest =
            let no = no_more source.weight less later around.m around.position behind in
            nothing_owed (pred around.n) less later (whole around) start (omega (arith, none)) (omega (arith, no, nor))

    loop_owed : (around : Around) → CoversChain flow chain_entries nowhere (with_nodes heads (either_of around.ahead around.known)) body → (node : ℕ) (world : World) → IsIn node heads →
        IsReady around.position node (chain_is_told body) world →
        OwedAt around.n around.m around.position (seq (run_stmts frame (one_stmt (loop_of around.label (inner around)))) around.next) world
    loop_owed around covers node world there ready =
        owed_by source frame At Back Good most_units most_steps around.n around.m around.position world _ _ (ap (λ (run : Run Flow). seq run around.next) (loop_runs frame around.label (inner around)))
        (turns_owed (suc (around.n + rank source.limit around.m (source.weight around.position))) around (omega arith) covers node world there ready)

  -- ---- all nests

  mutual
    nest_owed : (nest : Nest) → NestOwed nest
    nest_owed (single node arms) = single_owed node arms (arms_owed arms)
    nest_owed (choice heads arms) = choice_owed heads arms (arms_owed arms)
    nest_owed (group members) = chain_owed members
    nest_owed (repeated head body) = λ around covers can.
        loop_owed (head ∷ []) body (chain_owed body) (λ one there. subst (λ (x : ℕ). is_in x (chain_entries body) ≡ true) (sym (same_number one head (only_one one head there))) covers.0) can around covers.1
    nest_owed (dispatched heads body) = λ around covers can node world there ready.
        loop_owed heads body (chain_owed body) covers.0 (λ is. can refl) around covers.1 node world there (ready.0, λ is. ready.1 refl)

    chain_owed : (nests : Chain) → ChainOwed nests
    chain_owed no_nests = λ around covers can node world there ready. absurd cc
    chain_owed (more_nests first others) = chain_step first others (nest_owed first) (chain_owed others)

    arms_owed : (arms : Chains) → ArmsOwed arms
    arms_owed no_chains = no_arms_owed
    arms_owed (more_chains first others) = more_arms_owed first others (chain_owed first) (arms_owed others)

  -- the text of nests that are entered at the flow's entry
  pub draft_owed : (nests : Chain) → Covers flow nests → (chain_chooses nests ≡ true → CanTell frame At) → IsIn flow.entry (chain_entries nests) → (next : Flow → Run B) →
      IsSilent source frame At Back Good most_units most_steps next → Returns source frame At Back Good most_units most_steps next → (position : P) (world : World) → At position flow.entry world →
      Owes source.events events_of Good most_units most_steps (source.runs position) (seq (run_stmts frame (draft_of flow nests)) next world)
  draft_owed nests covers can there next silent returns position world at =
      told_owed source frame At Back Good most_units most_steps next most_units most_steps position flow.entry world (chain_is_told nests) (chain_stmts flow nests 0 no_jumps)
      (λ tells. can (chain_told_chooses nests tells)) at
      (λ start ready. chain_owed nests (record {
        ahead = nowhere;
        known = nowhere;
        label = 0;
        jumps = no_jumps;
        next = next;
        silent = silent;
        returns = returns;
        n = most_units;
        m = most_steps;
        position = position;
        few = omega arith;
        little = omega arith;
        forward = serves_none _ _ _ _ _;
        back = serves_none _ _ _ _ _;
      }) covers can flow.entry start there ready)
