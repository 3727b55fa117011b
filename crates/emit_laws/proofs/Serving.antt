-- What follows a text serves the nodes to which it goes: at each of them it is owed to the source.
use Rattle.std.proofs.Common.{◌≡◌, ◌∙◌, ◌⊎◌, inl, inr, ℕ, ◌<◌, ◌≤◌, Bool, true, false, List, Option, Some, arith, refl, sym, ap, subst, if◌then◌else◌}
use Rattle.std.proofs.Math.Path.{fun_ext}
use Rattle.cr_runs.specs.Runs.{Ran, came, bind}
use Rattle.cr_runs.specs.Owes.{Owes, Rests}
use Rattle.cr_runs.proofs.Rules.{below}
use Rattle.cr_world.specs.World.{World, Stop, events_of}
use Rattle.rs_mean.specs.declared.cause.Cause.{Cause}
use Rattle.rs_text.specs.Tree.{Break, Continue, Stmts}
use Rattle.rs_mean.specs.Run.{Frame, Flow, normal, breaks, continues, returned, run_stmt, run_stmts, then_on}
use Rattle.rs_mean.specs.Values.{Typed}
use Rattle.rs_mean.specs.World.{Run, pure, seq}
use Rattle.flow.specs.Sources.{Source, IsBehind, nothing_left, within_less, weighs_less}
use Rattle.emit_rules.specs.Jumps.{Jump, Jumps, label_of, tells, told, leaves, jump_stmts, goes_to}
use Rattle.emit_rules.specs.Texts.{one_stmt}
use Rattle.emit_laws.specs.Covers.{Nodes}
use Rattle.emit_laws.specs.Tells.{Reads, CanTell}
use Rattle.emit_laws.proofs.Ifs.{run_one}
use Rattle.emit_laws.proofs.Runs.{pure_seq}

-- the flow of a jump by its label
abbrev pub flow_of : Jump → Flow
flow_of jump = if jump.turns then continues (label_of jump.label) else breaks (label_of jump.label)

-- a position is behind another, or is the same within the same bound
abbrev pub IsFrom : {P : Type 0} → (P → ℕ) → ℕ → P → ℕ → P → Type 0
IsFrom weight less later bound earlier = (IsBehind weight less later bound earlier) ⊎ ((less ≡ bound) × (later ≡ earlier))

-- ---- positions behind others

module _ {P : Type 0} (weight : P → ℕ) where
  pub no_more : (less : ℕ) (later : P) (bound : ℕ) (earlier : P) → IsBehind weight less later bound earlier → less ≤ bound
  no_more less later bound earlier (nothing_left is) = omega (arith, is)
  no_more less later bound earlier (within_less is) = omega (arith, is)
  no_more less later bound earlier (weighs_less is weighs) = is

  pub behind_behind : (least : ℕ) (last : P) (less : ℕ) (later : P) (bound : ℕ) (earlier : P) → IsBehind weight least last less later → IsBehind weight less later bound earlier →
      IsBehind weight least last bound earlier
  behind_behind least last less later bound earlier (nothing_left is) second = nothing_left is
  behind_behind least last less later bound earlier (within_less is) second = within_less (let no : less ≤ bound = no_more less later bound earlier second in omega (arith, is, no))
  behind_behind least last less later bound earlier (weighs_less is weighs) (nothing_left none) = nothing_left (omega (arith, is, none))
  behind_behind least last less later bound earlier (weighs_less is weighs) (within_less less_is) = within_less (omega (arith, is, less_is))
  behind_behind least last less later bound earlier (weighs_less is weighs) (weighs_less less_is other) = weighs_less (omega (arith, is, less_is)) (omega (arith, weighs, other))

  pub from_behind : (least : ℕ) (last : P) (less : ℕ) (later : P) (bound : ℕ) (earlier : P) → IsFrom weight least last less later → IsBehind weight less later bound earlier →
      IsBehind weight least last bound earlier
  from_behind least last less later bound earlier (inl first) second = behind_behind least last less later bound earlier first second
  from_behind least last less later bound earlier (inr (same, there)) second =
      subst (λ (k : ℕ). IsBehind weight k last bound earlier) (sym same) (subst (λ (p : P). IsBehind weight less p bound earlier) (sym there) second)

  pub from_from : (least : ℕ) (last : P) (less : ℕ) (later : P) (bound : ℕ) (earlier : P) → IsFrom weight least last less later → IsFrom weight less later bound earlier →
      IsFrom weight least last bound earlier
  from_from least last less later bound earlier first (inl second) = inl (from_behind least last less later bound earlier first second)
  from_from least last less later bound earlier first (inr (same, there)) =
      subst (λ (k : ℕ). IsFrom weight least last k earlier) same (subst (λ (p : P). IsFrom weight least last less p) there first)

  pub behind_from : (least : ℕ) (last : P) (less : ℕ) (later : P) (bound : ℕ) (earlier : P) → IsBehind weight least last less later → IsFrom weight less later bound earlier →
      IsBehind weight least last bound earlier
  behind_from least last less later bound earlier first (inl second) = behind_behind least last less later bound earlier first second
  behind_from least last less later bound earlier first (inr (same, there)) =
      subst (λ (k : ℕ). IsBehind weight least last k earlier) same (subst (λ (p : P). IsBehind weight least last less p) there first)

module _ {F S A B P : Type 0} (source : Source F S A P) (frame : Frame) (At : P → ℕ → World → Type 0) (Back : P → Option Typed → World → Type 0)
    (Good : A → S → B → World → Type 0) (most_units most_steps : ℕ) where
  -- what is owed to the source at a position by a run in a world
  abbrev pub Owed : ℕ → ℕ → P → Run B → World → Type 0
  Owed n m position run world = Owes source.events events_of Good n m (source.runs position) (run world)

  -- by a run that is the same
  pub owed_by : (n m : ℕ) (position : P) (world : World) (run other : Run B) → run ≡ other → Owed n m position other world → Owed n m position run world
  owed_by n m position world run other same owed = subst (λ (one : Run B). Owed n m position one world) (sym same) owed

  -- by a run that is the same from another world on
  pub owed_from : (n m : ℕ) (position : P) (world start : World) (run other : Run B) → ((units : ℕ) → run world units ≡ other start units) → Owed n m position other start → Owed n m position run world
  owed_from n m position world start run other same owed =
      subst (λ (one : ℕ → Ran _ World B). Owes source.events events_of Good n m (source.runs position) one) (sym (fun_ext same)) owed

  pub owed_less : (n m fewer : ℕ) (position : P) (world : World) (run : Run B) → fewer ≤ n → Owed n m position run world → Owed fewer m position run world
  owed_less n m fewer position world run few owed = below source.events events_of Good n m fewer m (source.runs position) (run world) few (omega arith) owed

  -- the source stands at a node, which `current_block` says where it has to
  abbrev pub Ready : P → ℕ → Bool → World → Type 0
  Ready position node is_told world = At position node world × (is_told ≡ true → Reads frame world node)

  -- a node is served where the source is at a reach: the jump to it has a label below this one, and what follows that, and the end of the text where it comes to the node,
  -- is owed
  pub record Served (Reach : ℕ → P → Type 0) (label : ℕ) (jumps : Jumps) (n : ℕ) (next : Flow → Run B) (node : ℕ) : Type 0 where
    pub jump : Jump
    pub is : jumps.jump node ≡ Some jump
    pub below : jump.label < label
    pub tells : jump.is_told ≡ true → CanTell frame At
    pub jumped : (less : ℕ) (later : P) (world : World) → Reach less later → Ready later node jump.is_told world → Owed n less later (next (flow_of jump)) world
    pub fallen : jumps.next node ≡ true → (less : ℕ) (later : P) (world : World) → Reach less later → Ready later node jump.is_told world → Owed n less later (next normal) world

  abbrev pub Serves : Nodes → (ℕ → P → Type 0) → ℕ → Jumps → ℕ → (Flow → Run B) → Type 0
  Serves ways Reach label jumps n next = (node : ℕ) → ways node ≡ true → Served Reach label jumps n next node

  -- what returns is owed at every position
  abbrev pub Returns : (Flow → Run B) → Type 0
  Returns next = (n m : ℕ) (position : P) (value : Option Typed) (world : World) → n ≤ most_units → m ≤ most_steps → Back position value world → Owed n m position (next (returned value)) world

  -- what follows shows nothing before it takes a unit
  abbrev pub IsSilent : (Flow → Run B) → Type 0
  IsSilent next = (flow : Flow) (world : World) → Rests events_of (events_of world) (next flow world 0)

  -- less is served within a smaller reach, below greater labels, and within fewer units
  pub served_less : (Reach Other : ℕ → P → Type 0) (label greater : ℕ) (jumps : Jumps) (n fewer : ℕ) (next : Flow → Run B) (node : ℕ) →
      ((less : ℕ) (later : P) → Other less later → Reach less later) → label ≤ greater → fewer ≤ n → Served Reach label jumps n next node → Served Other greater jumps fewer next node
  served_less Reach Other label greater jumps n fewer next node within more few served = record {
    jump = served.jump;
    is = served.is;
    below = omega (arith, served.below, more);
    tells = served.tells;
    jumped = λ less later world reach ready. owed_less n less fewer later world (next (flow_of served.jump)) few (served.jumped less later world (within less later reach) ready);
    fallen = λ falls less later world reach ready. owed_less n less fewer later world (next normal) few (served.fallen falls less later world (within less later reach) ready);
  }

  -- ---- ways to nodes

  pub by_label_runs : (label : List ℕ) (turns : Bool) →
      run_stmts frame (one_stmt (if turns then Continue label else Break label)) ≡ pure (if turns then continues label else breaks label)
  by_label_runs label true = run_one frame (Continue label)
  by_label_runs label false = run_one frame (Break label)

  module _ (next : Flow → Run B) where
    -- a node is told in front of a text
    told_runs : (node : ℕ) (text : Stmts) (world later : World) → ((units : ℕ) → run_stmt frame (tells node) world units ≡ came normal later units) → (units : ℕ) →
        seq (run_stmts frame (told true node text)) next world units ≡ seq (run_stmts frame text) next later units
    unfolding seq
    told_runs node text world later runs units = ap (λ (run : Ran (Stop Cause) World Flow). bind (bind run (then_on (run_stmts frame text))) next) (runs units)

    pub told_owed : (n m : ℕ) (position : P) (node : ℕ) (world : World) (is_told : Bool) (text : Stmts) → (is_told ≡ true → CanTell frame At) → At position node world →
        ((start : World) → Ready position node is_told start → Owed n m position (seq (run_stmts frame text) next) start) →
        Owed n m position (seq (run_stmts frame (told is_told node text)) next) world
    told_owed n m position node world false text can at owed = owed world (at, λ is. absurd cc)
    told_owed n m position node world true text can at owed =
        let there = can refl position node world at in
        owed_from n m position world there.later (seq (run_stmts frame (told true node text)) next) (seq (run_stmts frame text) next) (told_runs node text world there.later there.runs)
        (owed there.later (there.at, λ is. there.reads))

    leaves_owed : (Reach : ℕ → P → Type 0) (label : ℕ) (jumps : Jumps) (n m : ℕ) (position : P) (node : ℕ) (world : World) (served : Served Reach label jumps n next node) → Reach m position →
        (falls : Bool) → jumps.next node ≡ falls → Ready position node served.jump.is_told world → Owed n m position (seq (run_stmts frame (leaves falls served.jump)) next) world
    leaves_owed Reach label jumps n m position node world served reach true is ready =
        owed_by n m position world _ (next normal) (pure_seq normal next) (served.fallen is m position world reach ready)
    leaves_owed Reach label jumps n m position node world served reach false is ready =
        owed_by n m position world _ (next (flow_of served.jump)) (ap (λ (run : Run Flow). seq run next) (by_label_runs (label_of served.jump.label) served.jump.turns) ∙ pure_seq (flow_of served.jump) next)
        (served.jumped m position world reach ready)

    -- a way to a node that is served
    pub goes_owed : (Reach : ℕ → P → Type 0) (label : ℕ) (jumps : Jumps) (n m : ℕ) (position : P) (node : ℕ) (world : World) → Served Reach label jumps n next node → Reach m position →
        At position node world → Owed n m position (seq (run_stmts frame (goes_to jumps node)) next) world
    goes_owed Reach label jumps n m position node world served reach at =
        subst (λ (jump : Option Jump). Owed n m position (seq (run_stmts frame (jump_stmts (jumps.next node) node jump)) next) world) (sym served.is)
        (told_owed n m position node world served.jump.is_told (leaves (jumps.next node) served.jump) served.tells at
        (λ start ready. leaves_owed Reach label jumps n m position node start served reach (jumps.next node) refl ready))
