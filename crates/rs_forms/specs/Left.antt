-- What is left of a piece behind what was done of it at once.
use Rattle.std.specs.Prelude.{◌≡◌, map, Option}
use Rattle.ext_calls.specs.Host.{HostState}
use Rattle.mem_bytes.specs.Counted.{Limit}
use Rattle.mem_bytes.specs.Memory.{Blocks}
use Rattle.rs_forms.specs.declared.left.Left.{Left}
use Rattle.rs_forms.specs.declared.left.Left.TheVariants as left
use Rattle.rs_machine.specs.Does.{End, gives, stops, stopped_by, Does}
use Rattle.rs_machine.specs.States.{State, Kept, state}
use Rattle.rs_machine.specs.Steps.{StoreDoes}
use Rattle.rs_mean.specs.Run.{Frame, Flow, normal, run_stmts}
use Rattle.rs_mean.specs.World.{Run}
use Rattle.rs_text.specs.Tree.{stmts}
use Rattle.rs_tree.specs.Views.{stmt_view}

-- what a rest does behind a step of a store, the whole does from before it
abbrev pub Remains : (whole rest : Run Flow) → (before after : Blocks) → (limit later : Option Limit) → Type 0
Remains whole rest before after limit later = (kept : Kept) (host : HostState) (end : End Flow) (last : State) →
    Does rest end (state kept after later host) last → Does whole end (state kept before limit host) last

-- so much is left of a piece behind a step of a store
abbrev pub IsLeft : Frame → Run Flow → Left → (before after : Blocks) → (limit later : Option Limit) → Type 0
IsLeft frame piece left.Nothing before after limit later = StoreDoes piece (gives normal) before after limit later
IsLeft frame piece (left.Inner list) before after limit later = Remains piece (run_stmts frame (stmts (map stmt_view list.now))) before after limit later
IsLeft frame piece (left.Halted halt) before after limit later = StoreDoes piece (stops (stopped_by halt)) before after limit later
IsLeft frame piece left.Everything before after limit later = (after ≡ before) × (later ≡ limit)
