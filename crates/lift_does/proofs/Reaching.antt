-- One piece behind another: what both leave, and what the first gave behind the second.
use Rattle.std.proofs.Common.{◌≡◌, ℕ, suc, ◌<◌, ◌≤◌, Bool, true, false, if◌then◌else◌, ◌||◌, List, [], ◌∷◌, length, Some, option_map, refl, sym, ap, subst, ◌∙◌, arith}
use Rattle.std.specs.List.{Contains, find}
use Rattle.std.specs.Prelude.{bytes_eq}
use Rattle.std.proofs.lemmas.Slice.Eq.{bytes_eq-Decides}
use Rattle.cr_runs.specs.Owes.{AtEnd}
use Rattle.cr_runs.specs.Runs.{came, halted, bad, out}
use Rattle.cr_world.specs.World.{World, blocks_of}
use Rattle.cx_core.specs.Trees.{CExpr, CProgram}
use Rattle.cx_mean.proofs.Unwritten.{unwritten_stays}
use Rattle.cx_mean.specs.Leftmost.{CRan, c_value}
use Rattle.cx_mean.specs.Marks.{Range}
use Rattle.cx_mean.specs.Operands.{COperand}
use Rattle.cx_mean.specs.Quiet.{calls_nothing}
use Rattle.cx_mean.specs.Settings.{setting_of}
use Rattle.cx_mean.specs.Unwritten.{Unwritten}
use Rattle.cx_mean_laws.specs.Laws.{calls_of}
use Rattle.cx_typed_leftmost.proofs.Values.{leftmost_stays_typed}
use Rattle.cx_typed_leftmost.specs.Laws.{IsTypedAt, CallsAreTyped, IsTypedEnd}
use Rattle.cx_typed_work.specs.Works.{IsTypedNode}
use Rattle.lift_calls.proofs.Kept.{program_stays, frames_stay}
use Rattle.lift_calls.specs.Frames.{KeptTemporary, IsLocal}
use Rattle.lift_calls.specs.Programs.{setting_in, c_calls}
use Rattle.lift_does.proofs.Around.{Around, scope, At, LaterAt, DidOf, value_in, Reached}
use Rattle.lift_does.proofs.Lasting.{lasts_then, lasts_once, lasts_less}
use Rattle.lift_does.proofs.Steady.{IsScoped, steady_ends}
use Rattle.lift_held.specs.Held.{is_steady}
use Rattle.lift_does.specs.Does.{IsOwn, AreOwn}
use Rattle.lift_does.specs.Later.{IsSameAt, AllOf, Lasts, TemporariesStay}
use Rattle.lift_exprs.specs.Written.{Written}
use Rattle.lift_stands.proofs.Kept.{both_keep, nothing_keeps, fewer_keep}
use Rattle.lift_stands.specs.Keeps.{KeepsOthers}
use Rattle.lift_stands.specs.Stands.{Images, Extends}
use Rattle.lift_stands.specs.Worlds.{WorldsStand}
use Rattle.mem_bytes.proofs.Slots.{live_within}
use Rattle.rs_mean.specs.Lookups.{Home, LocalBlock, home_of, local_home}
use Rattle.rs_mean.specs.Run.{Frame, Flow}

-- ---- locals by their names

record IsFound (locals : List LocalBlock) (name : List ℕ) (home : Home) : Type 0 where
  local : LocalBlock
  among : Contains locals local
  name_is : local.name ≡ name
  home_is : home_of local ≡ home

local_found : (locals : List LocalBlock) (name : List ℕ) (home : Home) → local_home name locals ≡ Some home → IsFound locals name home
local_found [] name home e = cc (e)
local_found (first ∷ others) name home e = by (bytes_eq first.name name) refl e (local_found others name home)
  where
    by : (test : Bool) → bytes_eq first.name name ≡ test → option_map home_of (if test then Some first else find (λ local. bytes_eq local.name name) others) ≡ Some home → (local_home name others ≡ Some home → IsFound others name home) →
        IsFound (first ∷ others) name home
    by true is found rest = record { local = first; among = (0, omega arith, refl); name_is = grind (arith, bytes_eq-Decides first.name name, is); home_is = cc (found) }
    by false is found rest =
        let more = rest found in
        record { local = more.local; among = (suc more.among.0, omega (arith, more.among.1), more.among.2); name_is = more.name_is; home_is = more.home_is }

-- a local has the name by which it is found
pub local_name : (frame : Frame) (name : List ℕ) (local : LocalBlock) → ((one other : LocalBlock) → Contains frame.locals one → Contains frame.locals other → one.block ≡ other.block → one ≡ other) → IsLocal frame name local → local.name ≡ name
local_name frame name local apart is =
    let found = local_found frame.locals name (home_of local) is.found in
    let same : found.local ≡ local = apart found.local local found.among is.among (ap (λ (home : Home). home.block) found.home_is) in
    ap (λ (one : LocalBlock). one.name) (sym same) ∙ found.name_is

-- and it is the only one
pub same_local : (frame : Frame) (name : List ℕ) (one other : LocalBlock) → IsLocal frame name one → IsLocal frame name other → one.block ≡ other.block
same_local frame name one other is too = let same : Some (home_of one) ≡ Some (home_of other) = sym is.found ∙ too.found in let homes : home_of one ≡ home_of other = cc (same) in ap (λ (home : Home). home.block) homes

-- ---- what C leaves

-- what an operand that is the same whatever is stored points to is an object in scope
abbrev pub Knows : Around → CExpr → World → COperand → World → Type 0
Knows x e before operand after =
    IsTypedEnd x.home (scope x) e before operand after × (calls_nothing e ≡ true → Unwritten operand before after) × (is_steady e ≡ true → IsScoped (scope x) operand.value)

module _ (x : Around) where
  leftmost_is : (e : CExpr) (world : World) (steps : ℕ) → IsTypedNode x.home e → IsTypedAt x.home (scope x) world → AtEnd (IsTypedEnd x.home (scope x) e world) (value_in x e world steps)
  leftmost_is e world steps typed at =
      subst (λ (program : CProgram). CallsAreTyped program x.s.statics (calls_of (setting_of program) x.s.statics) →
      AtEnd (IsTypedEnd x.home (scope x) e world) (c_value (setting_of program) (calls_of (setting_of program) x.s.statics) (scope x) e world steps)) x.means.program
      (λ calls. leftmost_stays_typed x.home (calls_of (setting_of x.home.program) x.s.statics) x.c_frame x.s.statics e world steps calls typed at) x.typed_calls

  pub knows : (e : CExpr) (images : Images) (c_world world : World) → IsTypedNode x.home e → At x images c_world world → (steps : ℕ) → AtEnd (Knows x e c_world) (value_in x e c_world steps)
  knows e images c_world world typed at steps = by (value_in x e c_world steps) refl (leftmost_is e c_world steps typed at.typed)
    where
      by : (ran : CRan COperand) → value_in x e c_world steps ≡ ran → AtEnd (IsTypedEnd x.home (scope x) e c_world) ran → AtEnd (Knows x e c_world) ran
      by (came operand after left) is ended = (
        ended,
        λ quiet. unwritten_stays (setting_in x.s) (c_calls x.s) (scope x) e c_world after operand steps left quiet at.worlds.held.memories.held is,
        λ steady. subst (AtEnd (λ (one : COperand) (w : World). IsScoped (scope x) one.value)) is (steady_ends (setting_in x.s) (c_calls x.s) (scope x) e steady c_world steps),
      )
      by (halted status after) is ended = tt
      by (bad stop after) is ended = tt
      by (out after) is ended = tt

  -- ---- both sides

  pub at_after : (images later : Images) (own : ℕ → Bool) (c_before before c_world world : World) → At x images c_before before →
      KeepsOthers (length (blocks_of before)) own images later c_before.held c_world.held before.held world.held → WorldsStand later c_world world → IsTypedAt x.home (scope x) c_world → At x later c_world world
  at_after images later own c_before before c_world world at keeps worlds typed = record {
    program = program_stays x.s images later keeps.extends at.program;
    worlds = worlds;
    frames = frames_stay x.s x.kept images later own x.c_frame x.frame c_before c_world before world at.worlds at.frames keeps;
    typed = typed;
  }

  pub reached_none : (from : ℕ) (images : Images) (c_world world : World) → At x images c_world world → Reached x from from images images c_world world c_world world
  reached_none from images c_world world at = record {
    own = λ _. false;
    are_own = λ block is. cc (is);
    keeps = nothing_keeps (length (blocks_of world)) (λ _. false) images c_world.held world.held at.worlds.held.memories.mapped;
    at = at;
  }

  own_more : (from to more least : ℕ) (block : ℕ) → least ≤ from → to ≤ more → IsOwn x.kept x.frame from to block → IsOwn x.kept x.frame least more block
  own_more from to more least block p q is = record {
    number = is.number;
    from_is = omega (arith, p, is.from_is);
    below = omega (arith, q, is.below);
    one = is.one;
    kept_is = is.kept_is;
    local = is.local;
    is_local = is.is_local;
    block_is = is.block_is;
  }

  either_own : (from middle to : ℕ) (own more : ℕ → Bool) → from ≤ middle → middle ≤ to → AreOwn x.kept x.frame from middle own → AreOwn x.kept x.frame middle to more → AreOwn x.kept x.frame from to (λ k. own k || more k)
  either_own from middle to own more p q one other block is = by (own block) (more block) refl refl is
    where
      by : (a b : Bool) → own block ≡ a → more block ≡ b → (a || b) ≡ true → IsOwn x.kept x.frame from to block
      by true b first second is = own_more from middle to from block (omega arith) q (one block first)
      by false true first second is = own_more middle to to from block p (omega arith) (other block second)
      by false false first second is = cc (is)

  -- less is said of what was written
  pub reached_wider : (from to least more : ℕ) (images later : Images) (c_before before c_world world : World) → least ≤ from → to ≤ more → Reached x from to images later c_before before c_world world →
      Reached x least more images later c_before before c_world world
  reached_wider from to least more images later c_before before c_world world p q reached = record {
    own = reached.own;
    are_own = λ block is. own_more from to more least block p q (reached.are_own block is);
    keeps = reached.keeps;
    at = reached.at;
  }

  or_left : (a b : Bool) → a ≡ true → (a || b) ≡ true
  or_left a b is = rw is refl

  or_right : (a b : Bool) → b ≡ true → (a || b) ≡ true
  or_right true b is = refl
  or_right false b is = is

  pub reached_then : (from middle to : ℕ) (images next later : Images) (c0 w0 c1 w1 c2 w2 : World) → from ≤ middle → middle ≤ to → At x images c0 w0 → Reached x from middle images next c0 w0 c1 w1 → Reached x middle to next later c1 w1 c2 w2 →
      Reached x from to images later c0 w0 c2 w2
  reached_then from middle to images next later c0 w0 c1 w1 c2 w2 p q at one other = record {
    own = λ k. one.own k || other.own k;
    are_own = either_own from middle to one.own other.own p q one.are_own other.are_own;
    keeps = both_keep (length (blocks_of w0)) (λ k. one.own k || other.own k) images next later c0.held c1.held c2.held w0.held w1.held w2.held at.worlds.held.memories.mapped one.at.worlds.held.memories.mapped
        (fewer_keep (length (blocks_of w0)) (length (blocks_of w0)) one.own (λ k. one.own k || other.own k) images next c0.held c1.held w0.held w1.held (omega arith) (λ k is. or_left (one.own k) (other.own k) is) one.keeps)
        (fewer_keep (length (blocks_of w1)) (length (blocks_of w0)) other.own (λ k. one.own k || other.own k) next later c1.held c2.held w1.held w2.held one.keeps.others_grow (λ k is. or_right (one.own k) (other.own k) is) other.keeps);
    at = other.at;
  }

  -- ---- temporaries

  not_own : (from to : ℕ) (own : ℕ → Bool) (number : ℕ) (one : KeptTemporary) (local : LocalBlock) (images : Images) (c_world world : World) → At x images c_world world → AreOwn x.kept x.frame from to own → number < from →
      x.kept.temporaries number ≡ Some one → IsLocal x.frame one.name local → own local.block ≡ false
  not_own from to own number one local images c_world world at are p kept_is is_local = by (own local.block) refl
    where
      by : (test : Bool) → own local.block ≡ test → test ≡ false
      by false e = refl
      by true e =
          let its = are local.block e in
          let same : its.local ≡ local = at.frames.apart its.local local its.is_local.among is_local.among its.block_is in
          let names : its.one.name ≡ one.name =
          sym (local_name x.frame its.one.name its.local at.frames.apart its.is_local) ∙ ap (λ (l : LocalBlock). l.name) same ∙ local_name x.frame one.name local at.frames.apart is_local in
          let number_is : its.number ≡ number = x.apart.temporaries its.number number its.one one its.kept_is kept_is names in
          absurd (omega (arith, its.from_is, p, number_is))

  pub temporaries_stay : (from to : ℕ) (images later : Images) (c_before before c_world world : World) → At x images c_before before → Reached x from to images later c_before before c_world world →
      TemporariesStay x.kept x.frame from before world
  temporaries_stay from to images later c_before before c_world world at reached = λ number one local p kept_is is_local.
      let lives = at.frames.lives local is_local.among in
      let agrees = at.frames.temporaries number one kept_is in
      let same : agrees.local.block ≡ local.block = same_local x.frame one.name agrees.local local agrees.is_local is_local in
      reached.keeps.vacant local.block (live_within (blocks_of before) local.block lives.block lives.live)
      (λ block living e. agrees.no_image block (e ∙ ap Some (sym same))) (not_own from to reached.own number one local images c_before before at reached.are_own p kept_is is_local)

  -- ---- later pairs

  pub later_itself : (images : Images) (below : ℕ) (fixed : Bool) (reads : List Range) (c_world world : World) → At x images c_world world → LaterAt x images images below fixed reads c_world world c_world world
  later_itself images below fixed reads c_world world at = record {
    extends = record { blocks = λ number image e. e; functions = refl; in_bytes = refl };
    here = at;
    temporaries = λ number one local p kept_is is_local. refl;
    lasts = lasts_once fixed reads c_world;
  }

  extends_then : (one two three : Images) → Extends one two → Extends two three → Extends one three
  extends_then one two three first second = record {
    blocks = λ number image e. second.blocks number image (first.blocks number image e);
    functions = second.functions ∙ first.functions;
    in_bytes = second.in_bytes ∙ first.in_bytes;
  }

  -- a pair that is later than what comes behind is later than what was in front
  pub later_then : (from to below : ℕ) (images next last : Images) (fixed more : Bool) (reads others : List Range) (c1 w1 c2 w2 c3 w3 : World) → At x images c1 w1 → Reached x from to images next c1 w1 c2 w2 → Lasts fixed reads c1 c2 →
      from ≤ below → (more ≡ true → fixed ≡ true) → (AllOf (IsSameAt (blocks_of c2) (blocks_of c3)) others → AllOf (IsSameAt (blocks_of c2) (blocks_of c3)) reads) → LaterAt x next last below more others c2 w2 c3 w3 → LaterAt x images last from fixed reads c1 w1 c3 w3
  later_then from to below images next last fixed more reads others c1 w1 c2 w2 c3 w3 at reached lasts p less some later = record {
    extends = extends_then images next last reached.keeps.extends later.extends;
    here = later.here;
    temporaries = λ number one local q kept_is is_local.
        later.temporaries number one local (omega (arith, p, q)) kept_is is_local ∙ temporaries_stay from to images next c1 w1 c2 w2 at reached number one local q kept_is is_local;
    lasts = lasts_then fixed reads c1 c2 c3 lasts (lasts_less more fixed others reads c2 c3 less some later.lasts);
  }

  -- ---- what was done

  pub reached_by : (used fixed : Bool) (e : CExpr) (written : Written) (from : ℕ) (images : Images) (c_before before : World) (operand : COperand) (c_world : World) (flow : Flow) (world : World) → At x images c_before before →
      (did : DidOf x used fixed e written from images c_before before operand c_world flow world) → IsTypedAt x.home (scope x) c_world → Reached x from written.next images did.later c_before before c_world world
  reached_by used fixed e written from images c_before before operand c_world flow world at did typed = record {
    own = did.own;
    are_own = did.are_own;
    keeps = did.keeps;
    at = at_after images did.later did.own c_before before c_world world at did.keeps did.worlds typed;
  }
